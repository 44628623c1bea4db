-- Each guest keeps the evening paid.
use Rattle.std.proofs.Common.{◌≡◌, ℕ, suc, pos, Bool, refl, subst, arith}
use Rattle.std.proofs.lemmas.Int.{ints}
use Rattle.sto_model.specs.Rows.{AllRise}
use Rattle.sto_action.specs.declared.handles.ArrayId.{ArrayId}
use Rattle.sto_action.specs.declared.handles.CounterId.{CounterId}
use Rattle.sto_action.specs.declared.handles.TreeId.{TreeId}
use Rattle.sto_library.specs.Contents.{counted}
use Rattle.sto_library.specs.Keeping.{Keeps, IsKept, Any}
use Rattle.sto_library.proofs.Branches.{counter, array, tree, at_three, on_state}
use Rattle.sto_example_seats.specs.Evening.{deed, objects, holding, paid_by, IsPaid}
use Rattle.sto_example_seats.proofs.Sold.{IsShow, does}

-- a guest of the first show, beside the other one
pub at_first : {till : CounterId} {hall : ArrayId} {line : TreeId} (before : ℕ) → (till.number ≡ 0) × (hall.number ≡ 1) × (line.number ≡ 3) → (i : Bool × ℕ)
    → Keeps objects IsPaid Any (deed till hall line (pos 90) (pos (suc before)) i)
at_first before e (asks, seat) = at_three (λ i j k. Keeps objects IsPaid Any (deed (counter i) (array j) (tree k) (pos 90) (pos (suc before)) (asks, seat))) e (λ st rises h.
    let rise = subst AllRise h.are rises in let paid = h.paid in
    let show : IsShow 0 1 3 (λ m s w. holding m s h.other w h.other_line) = record {
      till_at = λ m s w. (refl, refl);
      hall_at = λ m s w. (refl, refl);
      line_at = λ m s w. (refl, refl);
      till_set = λ m n s w. refl;
      hall_set = λ m s t w. refl;
      line_set = λ m s w v. refl;
    } in
    on_state objects (IsKept IsPaid Any) (deed (counter 0) (array 1) (tree 3) (pos 90) (pos (suc before)) (asks, seat)) h.are
    (does show (pos 90) (pos (suc before)) seat (counted (paid_by (pos 25)) h.other) h.money h.first h.first_line IsPaid
    (λ m s w wait own. record { money = m; first = s; other = h.other; first_line = w; other_line = h.other_line; are = refl; first_wait = wait; other_wait = h.other_wait; paid = omega (arith, ints, own) })
    (grind (arith, ints)) rise.1.0 h.first_wait (omega (arith, ints, paid)) asks))

-- a guest of the other one, beside the first
pub at_other : {till : CounterId} {hall : ArrayId} {line : TreeId} (before : ℕ) → (till.number ≡ 0) × (hall.number ≡ 2) × (line.number ≡ 4) → (i : Bool × ℕ)
    → Keeps objects IsPaid Any (deed till hall line (pos 25) (pos (suc before)) i)
at_other before e (asks, seat) = at_three (λ i j k. Keeps objects IsPaid Any (deed (counter i) (array j) (tree k) (pos 25) (pos (suc before)) (asks, seat))) e (λ st rises h.
    let rise = subst AllRise h.are rises in
    let show : IsShow 0 2 4 (λ m s w. holding m h.first s h.first_line w) = record {
      till_at = λ m s w. (refl, refl);
      hall_at = λ m s w. (refl, refl);
      line_at = λ m s w. (refl, refl);
      till_set = λ m n s w. refl;
      hall_set = λ m s t w. refl;
      line_set = λ m s w v. refl;
    } in
    on_state objects (IsKept IsPaid Any) (deed (counter 0) (array 2) (tree 4) (pos 25) (pos (suc before)) (asks, seat)) h.are
    (does show (pos 25) (pos (suc before)) seat (counted (paid_by (pos 90)) h.first) h.money h.other h.other_line IsPaid
    (λ m s w wait own. record { money = m; first = h.first; other = s; first_line = h.first_line; other_line = w; are = refl; first_wait = h.first_wait; other_wait = wait; paid = own })
    (grind (arith, ints)) rise.1.1.0 h.other_wait h.paid asks))
