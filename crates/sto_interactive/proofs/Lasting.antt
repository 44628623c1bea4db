-- A transaction that waits: what its replies are after its next call, and that it can be committed or given up where it stands.
use Rattle.std.proofs.Common.{◌≡◌, ◌≤◌, ℕ, true, Option, Some, None, List, [], ◌∷◌, ◌++◌, length, length-append, append-nil, refl, ap, sym, ◌∙◌, subst, arith}
use Rattle.std.specs.List.{Contains}
use Rattle.sto_model.specs.PlainReplies.{PlainReply}
use Rattle.sto_model.specs.Run.{Behaviour, IsAsk}
use Rattle.sto_model.specs.declared.call.Call.{Call}
use Rattle.sto_model.specs.declared.body.Next.TheVariants.{Commit, Cancel}
use Rattle.sto_model.specs.declared.run.End.{End}
use Rattle.sto_model.specs.declared.run.End.TheVariants as E
use Rattle.sto_model.specs.Serial.{end_step}
use Rattle.sto_model.specs.Bodies.{OfBody}
use Rattle.sto_type.specs.Known.{Parts}
use Rattle.sto_type.specs.Meaning.{Meaning}
use Rattle.sto_type.specs.Traits.{OfType}
use Rattle.sto_core.specs.declared.view.View.{View}
use Rattle.sto_core.specs.History.{Validity}
use Rattle.sto_core.specs.Tells.{ClaimsFit}
use Rattle.sto_attempt_log.specs.declared.verdict.Verdict.TheVariants.{Wrote, Read, Cancelled, Locked, Changed}
use Rattle.sto_attempt_log.specs.declared.verdict.Verdict.{Verdict}
use Rattle.sto_history.specs.Records.{is_abort}
use Rattle.sto_transaction.specs.Plain.{verdict}
use Rattle.sto_attempt_log.specs.declared.verdict.Turn.{Turn}
use Rattle.sto_attempt_log.specs.declared.verdict.Turn.TheVariants.{More, Ready, Ended}
use Rattle.sto_attempt_log.specs.Answers.{IsPrefix}
use Rattle.sto_attempt_log.specs.Standing.{HasBegun, IsFirst, IsUnaborted}
use Rattle.sto_attempt_log.proofs.Claimed.{claims_fit}
use Rattle.sto_attempt.specs.declared.attempt.Attempt.{Attempt}
use Rattle.sto_attempt.specs.Attempts.{HasTurned, heard}
use Rattle.sto_transaction.specs.Resting.{IsAtRest}
use Rattle.sto_interactive.specs.declared.asked_calls.AskedCalls.{AskedCalls}
use Rattle.sto_interactive.specs.declared.live.Live.{Live}
use Rattle.sto_interactive.specs.Scripts.{script_of}
use Rattle.sto_interactive.specs.Bodies.{asked}
use Rattle.sto_interactive.specs.Waiting.{HearsMore, IsEnd, IsWaiting, EndsSo, HasCome, abort_of}
use Rattle.sto_interactive.specs.Lives.{IsLive, IsAnswered}
use Rattle.sto_interactive.proofs.Adding.{same_body, waits_given, taken_so_far}
use Rattle.sto_interactive.proofs.AtEnd.{answers, so_many, no_more, no_ask, cancel_ready, cancel_ends, one_more, none_more}
use Rattle.sto_interactive.proofs.Coming.{ready_waits}
use Rattle.sto_interactive.proofs.Extending.{at_end, ends_late, few_replies}

-- no more replies than calls, where there are contents that have the claims
pub few_on : (m : Meaning) (valid : Validity) (sizes : List ℕ) (calls : List Call) (end : End) (v : View) (at : ℕ) (rs : List PlainReply) → ClaimsFit valid v → v.sizes ≡ sizes → ((d : Parts) → valid sizes d → m.valid d)
    → IsPrefix m (script_of calls end) v at rs → length rs ≤ length calls
few_on m valid sizes calls end v at rs fit same is runs =
    let whole = claims_fit valid v at fit in
    let there : m.valid whole.0 = is whole.0 (subst (λ (l : List ℕ). valid l whole.0) same whole.1) in
    few_replies m.machines calls end (m.rows whole.0) rs (runs whole.0 there whole.2)

-- the replies are those before and one more, where one call was added
pub last_reply : (calls : List Call) (call : Call) (old now : List PlainReply) → length old ≡ length calls → HearsMore old now → length now ≤ length (calls ++ call ∷ []) → length (calls ++ call ∷ []) ≤ length now
    → (r : PlainReply) × (now ≡ old ++ r ∷ [])
last_reply calls call old now all h most least =
    let long = length-append calls (call ∷ []) in
    let same = ap (λ (l : List PlainReply). length l) h.all in
    let one = one_more old h.more (omega (arith, long, same, all, most, least)) in
    (one.0, h.all ∙ ap (λ (l : List PlainReply). old ++ l) one.1)

-- and those before, where none was
pub same_replies : (calls : List Call) (old now : List PlainReply) → length old ≡ length calls → HearsMore old now → length now ≤ length calls → now ≡ old
same_replies calls old now all h most =
    let same = ap (λ (l : List PlainReply). length l) h.all in
    h.all ∙ ap (λ (l : List PlainReply). old ++ l) (none_more old h.more (omega (arith, same, all, most))) ∙ append-nil old

-- with another end it waits, too
pub cancel_waits : {T : Type 0} (t : OfType T) (ty : T) (calls : List Call) (rs : List PlainReply) (l : Live T) (begun v : View) → IsLive t ty calls rs l begun v
    → (b : AskedCalls) → b.calls.items ≡ l.attempt.log.body.calls.items → b.end ≡ E.Cancel → b.heard ≡ l.attempt.log.body.heard
    → (k : Attempt T AskedCalls) → k ≡ record l.attempt { log = record l.attempt.log { body = b } } → IsWaiting t asked ty (script_of calls E.Cancel) k begun v
cancel_waits t ty calls rs l begun v live b has ends at k given =
    let own = live.waiting.own in
    let same = same_body l.attempt.log.body calls E.Commit own.same_script in
    subst (λ (cs : List Call). IsWaiting t asked ty (script_of cs E.Cancel) k begun v) (append-nil calls)
    (waits_given t ty l.attempt calls E.Commit own begun v live.waiting (ap (λ (rs : List PlainReply). length rs) live.replies ∙ live.all) [] E.Cancel
    (λ call there. taken_so_far t ty l.attempt calls E.Commit own call (subst (λ (cs : List Call). Contains cs call) (append-nil calls) there))
    b (has ∙ same.same_calls ∙ sym (append-nil calls)) ends at k given)

-- where the turn can only be the cancel
pub cancel_turn : {T B : Type 0} (t : OfType T) (b : OfBody B) (k : Attempt T B) (v : View) (turn : Turn) → b.script k.log.body (heard k) ≡ Cancel → HasBegun k.read_phase → IsFirst k.read_phase × IsUnaborted turn
    → HasTurned t b k k v turn → (n : ℕ) × (turn ≡ Ended (Cancelled n))
cancel_turn t b k v More cancels begins first h = absurd (no_more t b k v begins first.0 (no_ask (b.script k.log.body (heard k)) Cancel (λ e. e) cancels) h)
cancel_turn t b k v Ready cancels begins first h = absurd (cancel_ready t b k v cancels h)
cancel_turn t b k v (Ended x) cancels begins first h = (let e = cancel_ends t b k v cancels x first.1 h in (e.0, ap Ended e.1))

-- as many replies as calls at least: the body is at its end
pub ends_there : (calls : List Call) (end : End) (old now : List PlainReply) → length old ≡ length calls → HearsMore old now → script_of calls end now ≡ end_step end
ends_there calls end old now all h =
    let same = ap (λ (l : List PlainReply). length l) h.all in
    let long = length-append old h.more in
    at_end calls end now (omega (arith, same, long, all))

-- calls that end with a commit do not cancel
pub never_cancels : (calls : List Call) (rs : List PlainReply) → script_of calls E.Commit rs ≡ Cancel → ⊥
never_cancels [] rs e = cc
never_cancels (call ∷ calls) [] e = cc
never_cancels (call ∷ calls) (r ∷ rs) e = never_cancels calls rs e

-- a call was answered
pub answered : {T : Type 0} (t : OfType T) (ty : T) (calls : List Call) (call : Call) (rs : List PlainReply) (new : Live T) (begun w : View) → IsAtRest (t.meaning ty) (t.sizes ty) begun → new.ty.now ≡ ty
    → IsWaiting t asked ty (script_of (calls ++ call ∷ []) E.Commit) new.attempt begun w → script_of (calls ++ call ∷ []) E.Commit (heard new.attempt) ≡ Commit → length rs ≡ length calls → HearsMore rs (heard new.attempt)
    → ((d : Parts) → t.valid (t.sizes new.attempt.log.ty.now) d → (t.meaning new.attempt.log.ty.now).valid d) → IsAnswered t ty calls rs call new begun w
answered t ty calls call rs new begun w rest type waiting commits all hears is =
    let more = calls ++ call ∷ [] in
    let most = so_many t asked ty more E.Commit new.attempt begun w is waiting in
    let least = ends_late more E.Commit (heard new.attempt) (λ asks. subst IsAsk commits asks) in
    let last = last_reply calls call rs (heard new.attempt) all hears most least in
    let long = length-append calls (call ∷ []) in
    let longer = length-append rs (last.0 ∷ []) in
    record {
      reply = last.0;
      live = record { rests = rest; same_type = type; waiting = waiting; replies = last.1; all = omega (arith, all, long, longer) };
      answers = subst (λ (ss : List PlainReply). IsPrefix (t.meaning ty) (script_of more E.Commit) w new.attempt.at ss) last.1 (answers t asked ty (script_of more E.Commit) new.attempt begun w waiting);
    }

abbrev IsAbortOf : {T : Type 0} → OfType T → ℕ → T → Behaviour → Attempt T AskedCalls → View → View → Option Verdict → Type 0
IsAbortOf t passes ty f a begun w (Some x) = (is_abort (verdict x) ≡ true) × EndsSo t asked passes ty f a x begun w
IsAbortOf t passes ty f a begun w None = Unit {0}

-- where a turn has led it that is no abort, it waits
pub goes_on : {T : Type 0} (t : OfType T) (passes : ℕ) (ty : T) (calls : List Call) (a : Attempt T AskedCalls) (begun w : View) (turn : Turn) → abort_of turn ≡ None → IsEnd turn
    → HasCome t asked passes ty (script_of calls E.Commit) turn a begun w → IsWaiting t asked ty (script_of calls E.Commit) a begun w × (script_of calls E.Commit (heard a) ≡ Commit)
goes_on t passes ty calls a begun w More none end h = absurd end
goes_on t passes ty calls a begun w Ready none end h = (ready_waits t asked ty (script_of calls E.Commit) a begun w h, sym (ap (λ (f : Behaviour). f (heard a)) h.own.same_script) ∙ h.fits.awaits.0)
goes_on t passes ty calls a begun w (Ended (Wrote n)) none end h = absurd h.1
goes_on t passes ty calls a begun w (Ended (Read n)) none end h = (h.1, (h.0.tried (0, 0)).added.told.ends)
goes_on t passes ty calls a begun w (Ended (Cancelled n)) none end h = absurd (never_cancels calls (heard a) (h.0.tried (0, 0)).added.told.ends)
goes_on t passes ty calls a begun w (Ended (Locked n p)) none end h = cc
goes_on t passes ty calls a begun w (Ended (Changed n p s)) none end h = cc

-- and else it was aborted
pub aborts : {T : Type 0} (t : OfType T) (passes : ℕ) (ty : T) (f : Behaviour) (a : Attempt T AskedCalls) (begun w : View) (turn : Turn) (x : Verdict) → abort_of turn ≡ Some x
    → HasCome t asked passes ty f turn a begun w → (is_abort (verdict x) ≡ true) × EndsSo t asked passes ty f a x begun w
aborts t passes ty f a begun w More x e h = cc
aborts t passes ty f a begun w Ready x e h = cc
aborts t passes ty f a begun w (Ended (Wrote n)) x e h = cc
aborts t passes ty f a begun w (Ended (Read n)) x e h = cc
aborts t passes ty f a begun w (Ended (Cancelled n)) x e h = cc
aborts t passes ty f a begun w (Ended (Locked n p)) x e h = subst (λ (o : Option Verdict). IsAbortOf t passes ty f a begun w o) e (refl, h.0)
aborts t passes ty f a begun w (Ended (Changed n p s)) x e h = subst (λ (o : Option Verdict). IsAbortOf t passes ty f a begun w o) e (refl, h.0)
