use Rattle.std.proofs.Common.{◌≡◌, ◌+◌, ℕ, suc, ℤ, List, Some, None, ap, sym, ◌∙◌, arith, rules, w64}
use Rattle.std.specs.Int.RustNames.{FitsSigned}
use Rattle.std.proofs.lemmas.Int.{to_z-of_z}
use Rattle.sto_model.specs.Rows.{Row, with_row}
use Rattle.sto_tree.specs.Slots.{Slots, with_slot}
use Rattle.sto_tree.specs.Layout.{place_slot}
use Rattle.sto_type.specs.Known.{known}
use Rattle.sto_tree.specs.KnownRows.{known_values, with_places}
use Rattle.sto_tree.proofs.range.add_places.Goals.{in-Some+in_ok-put_row, in_default}
use Rattle.sto_tree.proofs.range.add_places.Goals as goal

pub loop-place-preserved : goal.loop-place-preserved
loop-place-preserved c =
    let ks : List ℤ = c.args.keys.now in
    let v : ℕ → ℤ = known_values (known c.args.cache.now) c.args.leaf in
    let s : Slots = place_slot ks v in
    let old : List Row = c.args.rows.now.items in
    let n : ℕ = c.loop-place.place in
    let e : n + 1 ≡ suc n = omega arith in
    elim c.match-known_row.branch [
      | in-Some+in_ok-put_row w ↦
          let f : FitsSigned w64 w.in-Some.key = search rules in
          let g : FitsSigned w64 w.in-Some.value = search rules in
          let put = simp to_z-of_z at w.in_ok-put_row.ensures in
          let slot : s n ≡ Some (w.in-Some.key, w.in-Some.value) = sym c.known_row.ensures ∙ w.in-Some.is in
          ap (λ r. r.items) w.rows-is ∙ put ∙ ap (λ l. with_row l w.in-Some.key w.in-Some.value) c.loop-place.invariant
          ∙ ap (λ o. with_slot (with_places old ks v n) o) (sym slot) ∙ ap (λ (x : ℕ). with_places old ks v x) (sym e)
      | in_default w ↦
          let slot : s n ≡ None = sym c.known_row.ensures ∙ w.in_default.is in
          ap (λ r. r.items) w.rows-is ∙ c.loop-place.invariant ∙ ap (λ o. with_slot (with_places old ks v n) o) (sym slot) ∙ ap (λ (x : ℕ). with_places old ks v x) (sym e)
    ]
