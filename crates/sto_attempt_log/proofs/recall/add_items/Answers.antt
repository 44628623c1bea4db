use Rattle.std.proofs.Common.{◌≡◌, ◌∙◌, ap, arith, sym, subst, take, length, append-nil, List, ◌++◌, ◌∷◌, [], ◌+◌}
use Rattle.std.proofs.Math.Seq.{take-length}
use Rattle.std.proofs.lemmas.Grind.{flat_map-append}
use Rattle.std.proofs.lemmas.Option.{get_or_from_slice_get}
use Rattle.sto_item.specs.declared.item.Item.{Item}
use Rattle.sto_item.specs.Pending.{Entry}
use Rattle.sto_item.specs.Recorded.{AddsItems}
use Rattle.sto_item.specs.Rebase.{rebased, rebased_one}
use Rattle.sto_item.proofs.Added.{AddsItems-updates, AddsItems-append}
use Rattle.sto_attempt_log.proofs.Listing.{take_next}
use Rattle.sto_attempt_log.proofs.recall.add_items.Goals as goal

pub loop-place-preserved : goal.loop-place-preserved
loop-place-preserved c =
    let xs = c.args.items.now.items in
    let es = c.args.set.now.updates in
    let x = c.get.result.now in
    let i = c.loop-place.place in
    let old = c.args.set.now in
    let mid = c.loop-place.set in
    let new = c.add_left.new.set in
    let same : mid.updates ≡ es = AddsItems-updates old (rebased es (take i xs)) mid c.loop-place.invariant in
    let one : AddsItems mid (rebased_one es x) new = subst (λ (us : List Entry). AddsItems mid (rebased_one us x) new) same c.in_ok-add_left.ensures in
    let more : take (i + 1) xs ≡ take i xs ++ x ∷ [] = take_next xs i x (omega arith) (sym (get_or_from_slice_get xs i x x c.get.ensures)) in
    let all : rebased es (take (i + 1) xs) ≡ rebased es (take i xs) ++ rebased_one es x =
    ap (rebased es) more ∙ flat_map-append (rebased_one es) (take i xs) (x ∷ []) ∙ ap (λ (l : List Item). rebased es (take i xs) ++ l) (append-nil (rebased_one es x)) in
    subst (λ (l : List Item). AddsItems old l new) (sym all) (AddsItems-append old (rebased es (take i xs)) mid (rebased_one es x) new c.loop-place.invariant one)

pub returns : goal.returns
returns c =
    let all : c.loop-place.place ≡ length c.args.items.now.items = omega arith in
    subst (λ (l : List Item). AddsItems c.args.set.now (rebased c.args.set.now.updates l) c.loop-place.set) (ap (λ n. take n c.args.items.now.items) all ∙ take-length c.args.items.now.items) c.loop-place.invariant
