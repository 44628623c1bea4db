-- Workers that were out come back, one after the other.
use Rattle.std.proofs.Common.{◌≡◌, ◌+◌, ◌⊎◌, ℕ, zero, suc, List, [], ◌∷◌, ◌++◌, length, length-append, refl, sym, ap, ◌∙◌, subst, arith, inl, inr}
use Rattle.std.proofs.lemmas.List.{append_assoc, append-nil}
use Rattle.std.proofs.lemmas.List.Edits.{length-remove}
use Rattle.std.proofs.lemmas.Option.{slice_get_within}
use Rattle.sto_part.specs.declared.naming.Naming as naming
use Rattle.sto_type.specs.Traits.{OfType}
use Rattle.sto_shared_store.specs.declared.worker.CountedRest.{CountedRest}
use Rattle.sto_shared_store.specs.declared.owned_store.OwnedStore.{OwnedStore}
use Rattle.sto_shared_store.specs.Endings.{HasTakenIn, HasGathered}

module _ {T : Type 0} {n : naming.Ghosts T} (t : OfType T) where
  -- one more, or none
  pub gathered_more : (many : ℕ) (x z y : OwnedStore T n) → HasGathered t many x z → (y ≡ z) ⊎ HasTakenIn t z y → (more : ℕ) × HasGathered t more x y
  gathered_more many x z y h (inl same) = (many, subst (λ (o : OwnedStore T n). HasGathered t many x o) (sym same) h)
  gathered_more many x z y h (inr taken) = (suc many, (z, h, taken))

  pub same_store : (many : ℕ) (x y : OwnedStore T n) → HasGathered t many x y → y.store ≡ x.store
  same_store zero x y h = h.2
  same_store (suc many) x y h = h.2.store ∙ same_store many x h.0 h.1

  -- those that rested rest as they were, before those that came back
  pub rest_still : (many : ℕ) (x y : OwnedStore T n) → HasGathered t many x y → (back : List (CountedRest T n)) × (y.idle.items ≡ x.idle.items ++ back) × (length back ≡ many)
  rest_still zero x y h = ([], h.0 ∙ sym (append-nil x.idle.items), refl)
  rest_still (suc many) x y h =
      let k = rest_still many x h.0 h.1 in
      let one = k.2 in (
        k.0 ++ h.2.worker ∷ [],
        h.2.idle ∙ ap (λ (l : List (CountedRest T n)). l ++ h.2.worker ∷ []) k.1 ∙ append_assoc x.idle.items k.0 (h.2.worker ∷ []),
        (let long = length-append k.0 (h.2.worker ∷ []) in omega (arith, long, one)),
      )

  -- each of them leaves its slot
  pub slots_left : (many : ℕ) (x y : OwnedStore T n) → HasGathered t many x y → length y.slots.items + many ≡ length x.slots.items
  slots_left zero x y h = let e = ap length h.1 in omega (arith, e)
  slots_left (suc many) x y h =
      let k = slots_left many x h.0 h.1 in
      let e = ap length h.2.slots in
      let l = length-remove h.0.slots.items h.2.place (slice_get_within h.0.slots.items h.2.place h.2.slot h.2.out) in
      omega (arith, k, e, l)
