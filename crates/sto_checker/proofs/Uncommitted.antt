-- A body that cancels where another commits hears the same.
use Rattle.std.proofs.Common.{◌≡◌, ℕ, zero, suc, List, [], ◌∷◌, refl, sym, ap, ◌∙◌}
use Rattle.sto_model.specs.PlainReplies.{PlainReply}
use Rattle.sto_model.specs.SequentialObjects.{SequentialObject, reply_to, state_after}
use Rattle.sto_model.specs.Run.{Behaviour, State, IsAsk, MayAsk}
use Rattle.sto_model.specs.Serial.{SerialRun, by_next, ended, heard, run_within, settled_run, serial_run_of, end_step}
use Rattle.sto_model.specs.declared.call.Call.{Call}
use Rattle.sto_model.specs.declared.body.Next.{Next}
use Rattle.sto_model.specs.declared.body.Next.TheVariants.{Ask, Commit, Cancel}
use Rattle.sto_model.specs.declared.run.End.{End}
use Rattle.sto_model.specs.declared.run.End.TheVariants as E
use Rattle.sto_checker.specs.Tentative.{uncommitted}

same_within : (ms : List SequentialObject) (n : ℕ) (f : Behaviour) (st : State) → (run_within ms n (λ rs. uncommitted (f rs)) st).replies ≡ (run_within ms n f st).replies
same_within ms zero f st = by (f [])
  where
    by : (z : Next) → (by_next (uncommitted z) (λ call. ended st E.Commit) (ended st)).replies ≡ (by_next z (λ call. ended st E.Commit) (ended st)).replies
    by (Ask call) = refl
    by Commit = refl
    by Cancel = refl
same_within ms (suc n) f st = by (f []) (λ r s. same_within ms n (λ rs. f (r ∷ rs)) s)
  where
    by : (z : Next) → ((r : PlainReply) (s : State) → (run_within ms n (λ rs. uncommitted (f (r ∷ rs))) s).replies ≡ (run_within ms n (λ rs. f (r ∷ rs)) s).replies)
        → (by_next (uncommitted z) (λ call. heard (reply_to ms call st) (run_within ms n (λ rs. uncommitted (f (reply_to ms call st ∷ rs))) (state_after ms call st))) (ended st)).replies
        ≡ (by_next z (λ call. heard (reply_to ms call st) (run_within ms n (λ rs. f (reply_to ms call st ∷ rs)) (state_after ms call st))) (ended st)).replies
    by (Ask call) h = ap (λ (rs : List PlainReply). reply_to ms call st ∷ rs) (h (reply_to ms call st) (state_after ms call st))
    by Commit h = refl
    by Cancel h = refl

-- the replies are those of the other
pub same_replies : (ms : List SequentialObject) (n : ℕ) (f : Behaviour) (st : State) → (serial_run_of ms n (λ rs. uncommitted (f rs)) st).replies ≡ (serial_run_of ms n f st).replies
same_replies ms n f st = same_within ms n f st

never_commits : (z : Next) → uncommitted z ≡ Commit → ⊥
never_commits (Ask call) e = absurd cc
never_commits Commit e = absurd cc
never_commits Cancel e = absurd cc

-- it ends with a cancel
pub cancels : (z : Next) (e : End) → uncommitted z ≡ end_step e → e ≡ E.Cancel
cancels z E.Commit h = absurd (never_commits z h)
cancels z E.Cancel h = refl

pub asks_on : (z : Next) → IsAsk (uncommitted z) → IsAsk z
asks_on (Ask call) h = tt
asks_on Commit h = absurd h
asks_on Cancel h = absurd h
