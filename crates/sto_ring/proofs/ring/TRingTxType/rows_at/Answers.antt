use Rattle.std.proofs.Common.{◌≡◌, ◌<◌, ◌^◌, ◌∙◌, ◌++◌, ◌∷◌, [], pos, ap, arith, rules, FitsSigned}
use Rattle.std.specs.Int.{w64}
use Rattle.std.proofs.lemmas.Int.{to_z-of_z}
use Rattle.sto_type.specs.Numbered.{numbered}
use Rattle.sto_container.specs.Places.{is_live}
use Rattle.sto_ring.proofs.Among.{in_all, head_wide, tail_number, first_is, last_is, rows_same}
use Rattle.sto_ring.proofs.ring.TRingTxType.rows_at.Goals as goal

pub word-requires : goal.word-requires
word-requires c = head_wide c.args.self.now.places c.args.first c.args.contents.now.items c.requires

pub number_in-tail-requires : goal.number_in-tail-requires
number_in-tail-requires c =
    let f : FitsSigned w64 c.word-2.result = search rules in
    simp to_z-of_z (tail_number c.args.self.now.places c.args.first c.args.contents.now.items c.requires c.word-2.result c.word-2.ensures)

pub overflow_add-first-2 : goal.overflow_add-first-2
overflow_add-first-2 c =
    let f : c.parts-parts.result < 2 ^ 32 = search rules in
    let l = in_all c.args.self.now.places c.args.first c.args.contents.now.items c.requires in
    let b = c.number_in-head.ensures.range in
    omega (arith, f, c.parts-parts.ensures, l, b)

pub get-requires : goal.get-requires
get-requires c =
    let l = in_all c.args.self.now.places c.args.first c.args.contents.now.items c.requires in
    let b = c.number_in-head.ensures.range in
    omega (arith, l, b)

pub values_along-requires-clause-there : goal.values_along-requires-clause-there
values_along-requires-clause-there c = in_all c.args.self.now.places c.args.first c.args.contents.now.items c.requires

pub returns : goal.returns
returns c =
    let n = c.args.self.now.places in
    let first = c.args.first in
    let items = c.args.contents.now.items in
    let f : FitsSigned w64 c.word.result = search rules in
    let g : FitsSigned w64 c.word-2.result = search rules in
    let head : pos c.number_in-head.result ≡ c.word.result = c.number_in-head.ensures.is ∙ to_z-of_z w64 c.word.result f in
    let tail : pos c.number_in-tail.result ≡ c.word-2.result = c.number_in-tail.ensures.is ∙ to_z-of_z w64 c.word-2.result g in
    let values = c.as_slice-2.ensures.items ∙ c.in_ok-values.ensures in
    let same =
    rows_same n first items c.requires c.number_in-head.result c.number_in-tail.result c.size_of-size.result c.is_live-live.result c.get.result.now.items
    (first_is n first items c.requires c.word.result c.word.ensures c.number_in-head.result head) (last_is n first items c.requires c.word-2.result c.word-2.ensures c.number_in-tail.result tail) c.get.ensures
    (c.is_live-live.ensures ∙ ap is_live c.as_slice.ensures.items) c.size_of-size.ensures.is in
    c.in_ok-push.ensures.ok ∙ ap (λ l. l.items ++ c.in_ok-rows.rows.items ∷ []) c.new-state.ensures ∙ ap (λ r. r ∷ []) (c.in_ok-rows.ensures ∙ ap (numbered 0) values ∙ same)
