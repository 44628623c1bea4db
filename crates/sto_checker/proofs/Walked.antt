-- Walks along replies.
use Rattle.std.proofs.Common.{◌≡◌, ℕ, zero, suc, ◌+◌, ◌<◌, List, [], ◌∷◌, length, drop, get_or, map, sym, ap, ◌∙◌, subst, arith, inl, inr, ◌⊎◌}
use Rattle.sto_model.specs.PlainReplies.{PlainReply}
use Rattle.sto_model.specs.Run.{Behaviour}
use Rattle.sto_model.specs.Asked.{AsksOf, HasAsked}
use Rattle.sto_model.specs.declared.call.Call.{Call}
use Rattle.sto_model.specs.declared.body.Next.{Next}
use Rattle.sto_model.specs.declared.body.Next.TheVariants.{Ask}
use Rattle.sto_checker.specs.Heard.{AreHeard}
use Rattle.sto_checker.proofs.Walks.{heard-same}

pub drop_at : {X : Type 0} (xs : List X) (i : ℕ) (x : X) → i < length xs → x ≡ get_or xs i x → drop i xs ≡ x ∷ drop (i + 1) xs
drop_at [] i x l e = absurd (omega (arith, l))
drop_at (y ∷ xs) zero x l e = ap (λ z. z ∷ xs) (sym e)
drop_at (y ∷ xs) (suc i) x l e =
    let next : suc i + 1 ≡ suc (i + 1) = omega arith in
    drop_at xs i x (omega (arith, l)) e ∙ ap (λ (k : ℕ). x ∷ drop k (y ∷ xs)) (sym next)

asked_same : (o : ℕ) (f g : Behaviour) → ((rs : List PlainReply) → f rs ≡ g rs) → (rs : List PlainReply) → HasAsked o f rs → HasAsked o g rs
asked_same o f g e [] h = subst (AsksOf o) (e []) h
asked_same o f g e (r ∷ rs) (inl h) = inl (subst (AsksOf o) (e []) h)
asked_same o f g e (r ∷ rs) (inr h) = inr (asked_same o (λ xs. f (r ∷ xs)) (λ xs. g (r ∷ xs)) (λ xs. e (r ∷ xs)) rs h)

module _ (o : ℕ) (f g : Behaviour) (r : PlainReply) (rs : List PlainReply) (call : Call) (asks : f [] ≡ Ask call) (other : call.object ≡ o → ⊥) (onto : (xs : List PlainReply) → g xs ≡ f (r ∷ xs)) where
  pub asked_on : HasAsked o f (r ∷ rs) → HasAsked o g rs
  asked_on (inl h) = absurd (other (subst (AsksOf o) asks h))
  asked_on (inr h) = asked_same o (λ xs. f (r ∷ xs)) g (λ xs. sym (onto xs)) rs h

  pub asked_back : HasAsked o g rs → HasAsked o f (r ∷ rs)
  asked_back h = inr (asked_same o g (λ xs. f (r ∷ xs)) onto rs h)

  pub heard_on : AreHeard f (r ∷ rs) → AreHeard g rs
  heard_on h = heard-same (λ xs. f (r ∷ xs)) g (λ xs. sym (onto xs)) rs h.1
