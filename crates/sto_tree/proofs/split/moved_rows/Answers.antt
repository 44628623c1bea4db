use Rattle.std.proofs.Common.{◌≡◌, ◌+◌, ℕ, suc, ℤ, Bool, true, false, Option, Some, None, List, ap, sym, ◌∙◌, subst, arith, rules, w64}
use Rattle.std.specs.Int.RustNames.{FitsSigned}
use Rattle.std.proofs.lemmas.Int.{to_z-of_z}
use Rattle.sto_model.specs.Rows.{Row, with_row}
use Rattle.sto_type.specs.Known.{known}
use Rattle.sto_tree.specs.Slots.{Slots, gathered, with_slot}
use Rattle.sto_tree.specs.Layout.{is_present, key, slot_of, place_slot}
use Rattle.sto_tree.specs.Walked.{moved_value}
use Rattle.sto_tree.proofs.split.moved_rows.Goals.{then-is_present+in_ok-put, else-is_present}
use Rattle.sto_tree.proofs.split.moved_rows.Goals as goal

pub loop-place-preserved : goal.loop-place-preserved
loop-place-preserved c =
    let n : ℕ = c.loop-place.place in
    let ks : List ℤ = c.args.found.keys.now in
    let vs : ℕ → ℤ = moved_value (known c.args.cache.now) c.args.found.number c.args.found.keys.now in
    let s : Slots = place_slot ks vs in
    let e : n + 1 ≡ suc n = omega arith in
    elim c.if-is_present.branch [
      | then-is_present+in_ok-put w ↦
          let t : is_present ks n ≡ true = sym c.is_present.ensures ∙ w.if-is_present.true in
          let f : FitsSigned w64 w.key_at.result = search rules in
          let g : FitsSigned w64 w.value_moved-value.result = search rules in
          let put = simp to_z-of_z at w.in_ok-put.ensures.ok in
          let row : ◌≡◌ {A = Option Row} (Some (w.key_at.result, w.value_moved-value.result)) (Some (key ks n, vs n)) = λ i. Some (w.key_at.ensures i, w.value_moved-value.ensures i) in
          let slot : s n ≡ Some (w.key_at.result, w.value_moved-value.result) = ap (λ (b : Bool). slot_of b (key ks n) (vs n)) t ∙ sym row in
          ap (λ r. r.items) w.rows-is ∙ put ∙ ap (λ (l : List Row). with_row l w.key_at.result w.value_moved-value.result) c.loop-place.invariant
          ∙ ap (λ o. with_slot (gathered s n) o) (sym slot) ∙ ap (λ (x : ℕ). gathered s x) (sym e)
      | else-is_present w ↦
          let t : is_present ks n ≡ false = sym c.is_present.ensures ∙ w.if-is_present.false in
          let slot : s n ≡ None = ap (λ (b : Bool). slot_of b (key ks n) (vs n)) t in
          ap (λ r. r.items) w.rows-is ∙ c.loop-place.invariant ∙ ap (λ o. with_slot (gathered s n) o) (sym slot) ∙ ap (λ (x : ℕ). gathered s x) (sym e)
    ]

pub returns : goal.returns
returns c =
    let end : c.loop-place.place ≡ 8 = omega arith in
    subst (λ (n : ℕ). c.loop-place.rows.items ≡ gathered (place_slot c.args.found.keys.now (moved_value (known c.args.cache.now) c.args.found.number c.args.found.keys.now)) n) end c.loop-place.invariant
