-- Passes are gathered one after the other.
use Rattle.std.proofs.Common.{◌≡◌, ◌+◌, ℕ, List, [], ◌∷◌, ◌++◌, map, length, refl, sym, ap, ◌∙◌, subst, arith, length-append, append-nil}
use Rattle.std.proofs.lemmas.List.{map-append}
use Rattle.sto_core.specs.declared.view.View.{View}
use Rattle.sto_core.specs.Gathered.{gathered_into}
use Rattle.sto_type.specs.Meaning.{Meaning}
use Rattle.sto_history.specs.History.{Transaction}
use Rattle.sto_history.specs.Done.{AreAllDone, AreDoneBy}
use Rattle.sto_history.proofs.Doing.{gathered_done}
use Rattle.sto_shared_store.specs.Working.{gathered_onto}

-- the last of them is gathered first
gathered_last : (us : List View) (u v : View) → gathered_onto (us ++ u ∷ []) v ≡ gathered_onto us (gathered_into v u)
gathered_last [] u v = refl
gathered_last (x ∷ us) u v = ap (λ (w : View). gathered_into w x) (gathered_last us u v)

pub gathered_next : {X : Type 0} (view : X → View) (xs rest : List X) (x : X) (v w : View) → xs ≡ rest ++ x ∷ [] → w ≡ gathered_into v (view x)
    → gathered_onto (map view rest) w ≡ gathered_onto (map view xs) v
gathered_next view xs rest x v w all is =
    ap (gathered_onto (map view rest)) is
    ∙ sym (gathered_last (map view rest) (view x) v)
    ∙ ap (λ (l : List View). gathered_onto l v) (sym (map-append view rest (x ∷ [])) ∙ ap (map view) (sym all))

-- one item more
pub one_longer : {X : Type 0} (xs ys : List X) (x : X) → xs ≡ ys ++ x ∷ [] → length xs ≡ length ys + 1
one_longer xs ys x all = let l = ap length all in let e = length-append ys (x ∷ []) in omega (arith, l, e)

-- all that passes have done, the one into which they were gathered has done
pub gathered_doings : (m : Meaning) (us : List View) (v : View) (ts : List Transaction) → AreDoneBy m (us ++ v ∷ []) ts → AreAllDone m (gathered_onto us v) ts
gathered_doings m [] v ts h = subst (AreAllDone m v) (sym (append-nil h.0) ∙ ap (λ (l : List Transaction). h.0 ++ l) (sym h.4) ∙ sym h.2) h.3
gathered_doings m (u ∷ us) v ts h =
    subst (AreAllDone m (gathered_into (gathered_onto us v) u)) (sym h.2)
    (gathered_done m (gathered_onto us v) u h.1 h.0 h.3 (gathered_doings m us v h.1 h.4))
