-- A transaction that waits, where it goes on without a further call: to its commit, or to its end.
use Rattle.std.proofs.Common.{◌≡◌, ℕ, List, ap, sym, ◌∙◌, subst}
use Rattle.sto_model.specs.PlainReplies.{PlainReply}
use Rattle.sto_model.specs.Run.{Behaviour}
use Rattle.sto_model.specs.declared.call.Call.{Call}
use Rattle.sto_model.specs.declared.body.Next.TheVariants.{Commit}
use Rattle.sto_model.specs.declared.run.End.TheVariants as E
use Rattle.sto_type.specs.Known.{Parts}
use Rattle.sto_type.specs.Traits.{OfType}
use Rattle.sto_core.specs.declared.view.View.{View}
use Rattle.sto_attempt_log.specs.declared.verdict.Verdict.{Verdict}
use Rattle.sto_attempt_log.specs.declared.verdict.Turn.{Turn}
use Rattle.sto_attempt_log.specs.declared.verdict.Turn.TheVariants.{More, Ready, Ended}
use Rattle.sto_attempt_log.specs.Standing.{HasBegun, IsFirst, IsUnaborted}
use Rattle.sto_attempt.specs.declared.attempt.Attempt.{Attempt}
use Rattle.sto_attempt.specs.Attempts.{IsLogOf, HasTurned, HasGrown, heard}
use Rattle.sto_transaction.specs.Going.{InBody}
use Rattle.sto_transaction.specs.Machines.{IsOwnLog, IsReady}
use Rattle.sto_interactive.specs.declared.asked_calls.AskedCalls.{AskedCalls}
use Rattle.sto_interactive.specs.declared.live.Live.{Live}
use Rattle.sto_interactive.specs.Scripts.{script_of}
use Rattle.sto_interactive.specs.Bodies.{next_of, script_in, left_of, MayAskOf, asked}
use Rattle.sto_interactive.specs.Waiting.{HearsMore, IsWaiting, EndsSo, HasCome}
use Rattle.sto_interactive.specs.Lives.{IsLive}
use Rattle.sto_interactive.proofs.AtEnd.{so_many, no_more, no_ask, commit_waits}
use Rattle.sto_interactive.proofs.Coming.{own_now, own_turned, resumed}
use Rattle.sto_interactive.proofs.Lasting.{ends_there, same_replies}

module _ {T : Type 0} (t : OfType T) (ty : T) (calls : List Call) (rs : List PlainReply) (l : Live T) (k : Attempt T AskedCalls) (begun v : View) (live : IsLive t ty calls rs l begun v)
    (types : k.log.ty ≡ l.attempt.log.ty) (scripts : script_in k.log.body ≡ script_in l.attempt.log.body) (at : k.at ≡ l.attempt.at) (log : IsLogOf t asked l.attempt k) (grown : HasGrown t asked l.attempt k)
    (begins : HasBegun k.read_phase) (turn : Turn) (first : IsFirst k.read_phase × IsUnaborted turn) (turned : HasTurned t asked l.attempt k v turn) where
  own : IsOwnLog t.meaning t.valid t.sizes script_in next_of left_of MayAskOf ty (script_of calls E.Commit) k
  own = own_now t asked ty (script_of calls E.Commit) l.attempt k live.waiting.own types scripts log

  hears : HearsMore rs (heard k)
  hears = subst (λ (ss : List PlainReply). HearsMore ss (heard k)) live.replies (record { more = grown.grown.more; all = grown.grown.replies })

  commits : script_in k.log.body (heard k) ≡ Commit
  commits = ap (λ (f : Behaviour). f (heard k)) own.same_script ∙ ends_there calls E.Commit rs (heard k) live.all hears

  turned_now : HasTurned t asked k k v turn
  turned_now = own_turned t asked l.attempt k v turn types scripts turned

  waits : IsWaiting t asked ty (script_of calls E.Commit) k begun v
  waits = record {
    own = own;
    waits = commit_waits t asked k v commits begins turn first turned_now;
    in_body = subst (λ (n : ℕ). InBody begun v n) (sym at) live.waiting.in_body;
  }

  come : (passes : ℕ) → HasCome t asked passes ty (script_of calls E.Commit) turn k begun v
  come passes = resumed t asked passes ty (script_of calls E.Commit) l.attempt k begun v turn live.rests live.waiting types scripts at log turned begins first

  -- nothing further is answered
  pub as_before : ((d : Parts) → t.valid (t.sizes k.log.ty.now) d → (t.meaning k.log.ty.now).valid d) → heard k ≡ rs
  as_before is = same_replies calls rs (heard k) live.all hears (so_many t asked ty calls E.Commit k begun v is waits)

  -- no part is wanting
  pub none_wanting : turn ≡ More → ⊥
  none_wanting e =
      no_more t asked k v begins first.0 (no_ask (script_in k.log.body (heard k)) Commit (λ asks. asks) commits) (subst (λ (x : Turn). HasTurned t asked k k v x) e turned_now)

  pub is_ready : turn ≡ Ready → IsReady t.meaning t.valid t.sizes script_in next_of left_of MayAskOf ty (script_of calls E.Commit) k begun v
  is_ready e = subst (λ (x : Turn). HasCome t asked 0 ty (script_of calls E.Commit) x k begun v) e (come 0)

  pub ends_so : (passes : ℕ) (x : Verdict) → turn ≡ Ended x → EndsSo t asked passes ty (script_of calls E.Commit) k x begun v
  ends_so passes x e = (subst (λ (y : Turn). HasCome t asked passes ty (script_of calls E.Commit) y k begun v) e (come passes)).0
