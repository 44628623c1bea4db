-- To which verdict a step of a commit comes; and that nothing disturbs the only pass.
use Rattle.std.proofs.Common.{◌≡◌, ◌≤◌, ◌<◌, ◌||◌, ℕ, zero, suc, true, false, Bool, nat_eq, if◌then◌else◌, Option, Some, None, List, [], ◌∷◌, ◌++◌, refl, ap, sym, ◌∙◌, subst, arith}
use Rattle.sto_part.specs.Listed.{Listed}
use Rattle.sto_item.specs.Pending.{Entry as Update}
use Rattle.sto_core.specs.declared.view.View.{View}
use Rattle.sto_core.specs.Lists.{Each}
use Rattle.sto_core.specs.Versions.{is_free}
use Rattle.sto_core.specs.Views.{holds}
use Rattle.sto_core.specs.Tells.{FoundAlone}
use Rattle.sto_core.proofs.Lists.{each_snoc}
use Rattle.sto_attempt_log.specs.declared.commit_phase.CommitPhase.{CommitPhase}
use Rattle.sto_attempt_log.specs.declared.commit_phase.CommitPhase.TheVariants as S
use Rattle.sto_attempt_log.specs.declared.commit_phase.FoundTicket.{FoundTicket}
use Rattle.sto_attempt_log.specs.declared.verdict.Verdict.{Verdict}
use Rattle.sto_attempt_log.specs.CommitPhases.{ticket_from, IsAim, IsNextCheck, IsNextPut}
use Rattle.sto_attempt_log.specs.Verdicts.{ComesTo}

-- where a helper picks the next phase, the commit goes on
pub aimed_on : (us : List Update) (tasks : List ℕ) (n : ℕ) (commit_phase : CommitPhase) → IsAim us tasks n commit_phase → (verdict : Verdict) → ComesTo None commit_phase verdict → ⊥
aimed_on us tasks n S.Drawing a verdict e = absurd e
aimed_on us tasks n (S.Loading k i) a verdict e = absurd e
aimed_on us tasks n (S.Testing k) a verdict e = absurd e
aimed_on us tasks n (S.Locking k) a verdict e = absurd e
aimed_on us tasks n (S.Tested k i s) a verdict e = absurd e
aimed_on us tasks n (S.Checking k s) a verdict e = absurd e
aimed_on us tasks n (S.Deciding s) a verdict e = absurd e
aimed_on us tasks n (S.Putting k s) a verdict e = absurd e
aimed_on us tasks n (S.Releasing k s) a verdict e = absurd e
aimed_on us tasks n (S.Dropping s x) a verdict e = absurd a
aimed_on us tasks n (S.Leaving k m x) a verdict e = absurd a
aimed_on us tasks n S.Over a verdict e = absurd e

pub checks_on : (checks : List ℕ) (n t : ℕ) (commit_phase : CommitPhase) → IsNextCheck checks n t commit_phase → (verdict : Verdict) → ComesTo None commit_phase verdict → ⊥
checks_on checks n t S.Drawing a verdict e = absurd e
checks_on checks n t (S.Loading k i) a verdict e = absurd e
checks_on checks n t (S.Testing k) a verdict e = absurd e
checks_on checks n t (S.Locking k) a verdict e = absurd e
checks_on checks n t (S.Tested k i s) a verdict e = absurd e
checks_on checks n t (S.Checking k s) a verdict e = absurd e
checks_on checks n t (S.Deciding s) a verdict e = absurd e
checks_on checks n t (S.Putting k s) a verdict e = absurd e
checks_on checks n t (S.Releasing k s) a verdict e = absurd e
checks_on checks n t (S.Dropping s x) a verdict e = absurd a
checks_on checks n t (S.Leaving k m x) a verdict e = absurd a
checks_on checks n t S.Over a verdict e = absurd e

pub puts_on : (places : List (ℕ × ℕ)) (n t : ℕ) (commit_phase : CommitPhase) → IsNextPut places n t commit_phase → (verdict : Verdict) → ComesTo None commit_phase verdict → ⊥
puts_on places n t S.Drawing a verdict e = absurd e
puts_on places n t (S.Loading k i) a verdict e = absurd e
puts_on places n t (S.Testing k) a verdict e = absurd e
puts_on places n t (S.Locking k) a verdict e = absurd e
puts_on places n t (S.Tested k i s) a verdict e = absurd e
puts_on places n t (S.Checking k s) a verdict e = absurd e
puts_on places n t (S.Deciding s) a verdict e = absurd e
puts_on places n t (S.Putting k s) a verdict e = absurd e
puts_on places n t (S.Releasing k s) a verdict e = absurd e
puts_on places n t (S.Dropping s x) a verdict e = absurd a
puts_on places n t (S.Leaving k m x) a verdict e = absurd a
puts_on places n t S.Over a verdict e = absurd e

-- where it gives up before the draw, it comes to that verdict
pub given : (n : ℕ) (verdict : Verdict) (commit_phase : CommitPhase) (result : Option Verdict) → (n ≡ 0 → (result ≡ Some verdict) × (commit_phase ≡ S.Over)) → (0 < n → (result ≡ None) × (commit_phase ≡ S.Leaving 0 n verdict))
    → (x : Verdict) → ComesTo result commit_phase x → verdict ≡ x
given zero verdict commit_phase result over more x e = subst (λ (r : Option Verdict). ComesTo r commit_phase x) (over refl).0 e
given (suc n) verdict commit_phase result over more x e =
    let o = more (omega arith) in
    let to : ComesTo None commit_phase x = subst (λ (r : Option Verdict). ComesTo r commit_phase x) o.0 e in
    subst (λ (s : CommitPhase). ComesTo None s x) o.1 to

-- the only pass finds no part locked that it does not hold
pub not_busy : (v : View) (p n : ℕ) → FoundAlone v p n → holds p v.held ≡ false → is_free n ≡ false → ⊥
not_busy v p n alone unheld busy =
    let both : (is_free n || holds p v.held) ≡ (false || false) = ap (λ (b : Bool). b || holds p v.held) busy ∙ ap (λ (b : Bool). false || b) unheld in
    let clash : true ≡ false = sym alone.0 ∙ both in
    cc

-- a ticket that was found is none above the number
pub early_ticket : (at : ℕ) (found_tickets : List FoundTicket) (p t : ℕ) → t ≤ at → Each (λ (x : FoundTicket). x.ticket ≤ at) found_tickets → ticket_from t found_tickets p ≤ at
early_ticket at [] p t l e = l
early_ticket at (x ∷ found_tickets) p t l e =
    early_ticket at found_tickets p (if nat_eq x.part p then x.ticket else t) (by (nat_eq x.part p)) (λ j y s. e (suc j) y s)
  where
    by : (b : Bool) → (if b then x.ticket else t) ≤ at
    by true = e 0 x refl
    by false = l

pub early_more : (at : ℕ) (old new : Listed FoundTicket) (x : FoundTicket) → new.items ≡ old.items ++ x ∷ [] → Each (λ (y : FoundTicket). y.ticket ≤ at) old.items → x.ticket ≤ at → Each (λ (y : FoundTicket). y.ticket ≤ at) new.items
early_more at old new x is e l = subst (λ (xs : List FoundTicket). Each (λ (y : FoundTicket). y.ticket ≤ at) xs) (sym is) (each_snoc (λ (y : FoundTicket). y.ticket ≤ at) old.items x e l)
