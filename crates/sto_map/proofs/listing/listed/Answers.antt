use Rattle.std.proofs.Common.{◌≡◌, ◌<◌, ◌+◌, ◌^◌, suc, true, false, drop, refl, ap, sym, ◌∙◌, arith, rules, FitsSigned}
use Rattle.std.specs.Int.{w64}
use Rattle.std.proofs.lemmas.Int.{to_z-of_z}
use Rattle.sto_part.specs.Parts.{part_of}
use Rattle.sto_model.specs.Rows.{with_row}
use Rattle.sto_type.specs.Words.{word}
use Rattle.sto_container.specs.Places.{is_live}
use Rattle.sto_map.specs.Mapped.{key_part, value_part, placed}
use Rattle.sto_map.proofs.Removed.{some_sizes}
use Rattle.sto_map.proofs.Listings.{there, placed_live, placed_dead}
use Rattle.sto_map.proofs.listing.listed.Goals.{then-is_live+in_ok-put, else-is_live}
use Rattle.sto_map.proofs.listing.listed.Goals as goal

pub overflow_add-first : goal.overflow_add-first
overflow_add-first c =
    let f : c.parts-parts.result < 2 ^ 32 = search rules in
    omega (arith, f, c.parts-parts.ensures, c.requires, c.loop-place-test.true, c.key_part.ensures (some_sizes c.args.size.now.places c.args.size.now.stripes 0 0) refl refl)

pub get-requires : goal.get-requires
get-requires c = omega (arith, c.requires, c.loop-place-test.true, c.key_part.ensures (some_sizes c.args.size.now.places c.args.size.now.stripes 0 0) refl refl)

pub overflow_add-first-then-is_live : goal.overflow_add-first-then-is_live
overflow_add-first-then-is_live c =
    let f : c.parts-parts.result < 2 ^ 32 = search rules in
    omega (arith, f, c.parts-parts.ensures, c.requires, c.loop-place-test.true, c.value_part.ensures (some_sizes c.args.size.now.places c.args.size.now.stripes 0 0) refl refl)

pub get-requires-then-is_live : goal.get-requires-then-is_live
get-requires-then-is_live c = omega (arith, c.requires, c.loop-place-test.true, c.value_part.ensures (some_sizes c.args.size.now.places c.args.size.now.stripes 0 0) refl refl)

pub loop-place-preserved : goal.loop-place-preserved
loop-place-preserved c z e s =
    let items = c.args.contents.now.items in
    let own = drop c.args.first items in
    let q = c.loop-place.place in
    let next : suc q ≡ q + 1 = omega arith in
    let key : part_of own (key_part z q) ≡ c.get.result.now.items = ap (part_of own) (sym (c.key_part.ensures z e s)) ∙ there c.args.first c.key_part.result items c.get.result.now.items c.get.ensures in
    elim c.if-is_live.branch [
      | then-is_live+in_ok-put w ↦
          let live : is_live c.get.result.now.items ≡ true = ap is_live (sym c.as_slice-words.ensures.items) ∙ sym c.is_live.ensures ∙ w.if-is_live.true in
          let value : part_of own (value_part z q) ≡ w.get-then-is_live.result.now.items =
          ap (part_of own) (sym (w.value_part.ensures z e s)) ∙ there c.args.first w.value_part.result items w.get-then-is_live.result.now.items w.get-then-is_live.ensures in
          let f : FitsSigned w64 w.word_at.result = search rules in
          let g : FitsSigned w64 w.word_at-then-is_live.result = search rules in
          let put : w.put.new.self.items ≡ with_row c.loop-place.rows.items w.word_at.result w.word_at-then-is_live.result = simp to_z-of_z at w.in_ok-put.ensures.ok in
          let k : w.word_at.result ≡ word c.get.result.now.items 1 = w.word_at.ensures ∙ ap (λ ws. word ws 1) c.as_slice-words.ensures.items in
          let v : w.word_at-then-is_live.result ≡ word w.get-then-is_live.result.now.items 0 = w.word_at-then-is_live.ensures ∙ ap (λ ws. word ws 0) w.as_slice-values.ensures.items in
          ap (λ r. r.items) w.rows-is ∙ put ∙ (λ i. with_row (c.loop-place.invariant z e s i) (k i) (v i)) ∙ sym (placed_live z own q c.get.result.now.items key w.get-then-is_live.result.now.items value live)
          ∙ ap (placed z own) next
      | else-is_live w ↦
          let dead : is_live c.get.result.now.items ≡ false = ap is_live (sym c.as_slice-words.ensures.items) ∙ sym c.is_live.ensures ∙ w.if-is_live.false in
          ap (λ r. r.items) w.rows-is ∙ c.loop-place.invariant z e s ∙ sym (placed_dead z own q c.get.result.now.items key dead) ∙ ap (placed z own) next
    ]
