-- A serial run by replies is the run that is computed.
use Rattle.std.specs.Prelude.{if◌then◌else◌, Some}
use Rattle.std.proofs.Common.{◌≡◌, ℕ, zero, suc, List, [], ◌∷◌, map, Bool, true, false, sym, ap, ◌∙◌, refl}
use Rattle.sto_model.specs.PlainReplies.{PlainReply}
use Rattle.sto_model.specs.SequentialObjects.{SequentialObject, reply_to, state_after}
use Rattle.sto_model.specs.Run.{State, IsRun, IsReplyTo, stepped, state_along}
use Rattle.sto_model.specs.declared.call.Call.{Call}
use Rattle.sto_model.specs.declared.body.Next.{Next}
use Rattle.sto_model.specs.declared.body.Next.TheVariants.{Ask, Commit, Cancel}
use Rattle.sto_model.specs.declared.shape.Shape.{Shape}
use Rattle.sto_action.specs.Shortened.{short_of}
use Rattle.sto_action.specs.Progs.{Prog, Asks, Gives, Cancels, is_taken, next_within, IsGiven, IsCancelled}
use Rattle.sto_action.specs.Alone.{run_of, reason_of}

-- the step is a commit
abbrev is_commit : Next → Bool
is_commit (Ask call) = false
is_commit Commit = true
is_commit Cancel = false

not_commit : (b : Bool) (call : Call) → (if b then Ask call else Cancel) ≡ Commit → ⊥
not_commit true call h = let k : false ≡ true = ap is_commit h in cc
not_commit false call h = let k : false ≡ true = ap is_commit h in cc

cancel_commit : Cancel ≡ Commit → ⊥
cancel_commit h = let k : false ≡ true = ap is_commit h in cc

-- a call that was answered is one that may be asked, and the reply is that of its object
asked_reply : (ms : List SequentialObject) (b : Bool) (call : Call) (st : State) (r : PlainReply) → IsReplyTo ms (if b then Ask call else Cancel) st r
    → (reply_to ms call st ≡ r) × (stepped ms (if b then Ask call else Cancel) st ≡ state_after ms call st)
asked_reply ms true call st r h = (h, refl)
asked_reply ms false call st r h = absurd h

-- code that heard the replies of a serial run, and then gave a value, gives it where it is run alone, and leaves the state of that run
pub run_gives : {E A : Type 0} (ms : List SequentialObject) (shapes : List Shape) (n : ℕ) (p : Prog E A) (st : State) (rs : List PlainReply) (a : A)
    → IsRun ms (λ xs. next_within shapes n p (map short_of xs)) st rs → IsGiven p (map short_of rs) a
    → run_of ms p st ≡ Some (a, state_along ms (λ xs. next_within shapes n p (map short_of xs)) st rs)
run_gives ms shapes n (Gives b) st [] a h k = ap (λ x. Some (x, st)) (sym k)
run_gives ms shapes n (Gives b) st (r ∷ rs) a h k = absurd h.0
run_gives ms shapes n (Cancels e) st rs a h k = absurd k
run_gives ms shapes n (Asks call f) st [] a h k = absurd k
run_gives ms shapes zero (Asks call f) st (r ∷ rs) a h k = absurd h.0
run_gives ms shapes (suc n) (Asks call f) st (r ∷ rs) a h k =
    let both = asked_reply ms (is_taken shapes call) call st r h.0 in
    let run = run_gives ms shapes n (f (short_of r)) (stepped ms (if is_taken shapes call then Ask call else Cancel) st) rs a h.1 k in
    ap (λ (x : PlainReply). run_of ms (f (short_of x)) (state_after ms call st)) both.0
    ∙ ap (run_of ms (f (short_of r))) (sym both.1) ∙ run

-- code that heard the replies of a serial run, and was then given up for a reason, is given up for it where it is run alone
pub run_cancels : {E A : Type 0} (ms : List SequentialObject) (shapes : List Shape) (n : ℕ) (p : Prog E A) (st : State) (rs : List PlainReply) (e : E)
    → IsRun ms (λ xs. next_within shapes n p (map short_of xs)) st rs → IsCancelled p (map short_of rs) e → reason_of ms p st ≡ Some e
run_cancels ms shapes n (Gives b) st rs e h k = absurd k
run_cancels ms shapes n (Cancels r) st [] e h k = ap Some (sym k)
run_cancels ms shapes n (Cancels r) st (x ∷ rs) e h k = absurd h.0
run_cancels ms shapes n (Asks call f) st [] e h k = absurd k
run_cancels ms shapes zero (Asks call f) st (r ∷ rs) e h k = absurd h.0
run_cancels ms shapes (suc n) (Asks call f) st (r ∷ rs) e h k =
    let both = asked_reply ms (is_taken shapes call) call st r h.0 in
    let run = run_cancels ms shapes n (f (short_of r)) (stepped ms (if is_taken shapes call then Ask call else Cancel) st) rs e h.1 k in
    ap (λ (x : PlainReply). reason_of ms (f (short_of x)) (state_after ms call st)) both.0
    ∙ ap (reason_of ms (f (short_of r))) (sym both.1) ∙ run

-- code that commits after the replies of a serial run gives a value
pub run_commits : {E A : Type 0} (ms : List SequentialObject) (shapes : List Shape) (n : ℕ) (p : Prog E A) (st : State) (rs : List PlainReply)
    → IsRun ms (λ xs. next_within shapes n p (map short_of xs)) st rs → next_within shapes n p (map short_of rs) ≡ Commit
    → (a : A) × IsGiven p (map short_of rs) a
run_commits ms shapes n (Gives b) st rs h k = (b, refl)
run_commits ms shapes n (Cancels e) st rs h k = absurd (cancel_commit k)
run_commits ms shapes zero (Asks call f) st rs h k = absurd (cancel_commit k)
run_commits ms shapes (suc n) (Asks call f) st [] h k = absurd (not_commit (is_taken shapes call) call k)
run_commits ms shapes (suc n) (Asks call f) st (r ∷ rs) h k = run_commits ms shapes n (f (short_of r)) (stepped ms (if is_taken shapes call then Ask call else Cancel) st) rs h.1 k
