-- A call with which nothing is wrong is answered, or ends its transaction.
use Rattle.std.proofs.Common.{◌≡◌, ◌≢◌, ◌↔◌, Bool, true, false, is_some, IsTrue, MatchBool, Option, Some, None, Err, refl, ap, sym, ◌∙◌, subst}
use Rattle.std.specs.Prelude.{option_map, option_and_then}
use Rattle.std.specs.Arc.{arc_value}
use Rattle.sto_model.specs.declared.call.Call.{Call}
use Rattle.sto_store.specs.declared.objects.Objects.{Objects}
use Rattle.sto_store.specs.contracts.objects.ObjectsNaming.TheImpl.{ghosts as naming_ghosts}
use Rattle.sto_interactive.specs.declared.asking.AskError.{AskError}
use Rattle.sto_interactive.specs.declared.asking.AskError.TheVariants as ask_error
use Rattle.sto_interactive.specs.declared.pause.RestingTransaction.{RestingTransaction}
use Rattle.sto_interactive.specs.declared.session.Session.{Session}
use Rattle.sto_interactive.specs.Sessions.{Stands, live_of}
use Rattle.sto_interactive.specs.Steps.{HasAsked, HasAskedAfter}
use Rattle.sto_shared_store.specs.Owned.{Leads, IsAt, view_at}
use Rattle.sto_shared_store.proofs.Since.{is_session}
use Rattle.sto_c.specs.declared.content.WorkerHandle.{WorkerHandle}
use Rattle.sto_c.specs.declared.crossing.CallIn.{CallIn}
use Rattle.sto_c.specs.Content.{objects, IsWorker}
use Rattle.sto_c.specs.declared.status.Status.{Status}
use Rattle.sto_c.specs.declared.status.Status.TheVariants as status
use Rattle.sto_c.specs.Calls.{Takes, HasObject, IsLawfulCall, IsFault}
use Rattle.sto_c.specs.Crossing.{call_in}
use Rattle.sto_c.specs.Statuses.{of_unasked}
use Rattle.sto_c.specs.Steps.{Asks, HasAnswered}

some_there : {X : Type 0} (x : X) → Some x ≡ None → ⊥
some_there x same = cc same

-- whether there is something, where it is seen as something else
pub is_there : {X Y : Type 0} (f : X → Y) (o : Option X) (rs : Option Y) (b : Bool) → option_map f o ≡ rs → b ≡ is_some o → MatchBool b (rs ≢ None) (rs ≡ None)
is_there f None rs b same is = subst (λ (t : Bool). MatchBool t (rs ≢ None) (rs ≡ None)) (sym is) (sym same)
is_there f (Some x) rs b same is = subst (λ (t : Bool). MatchBool t (rs ≢ None) (rs ≡ None)) (sym is) (λ none. some_there (f x) (same ∙ none))

-- what a test tells
pub by_test : (b : Bool) (P : Type 0) → (IsTrue b ↔ P) → MatchBool b P (P → ⊥)
by_test true P h = h.0 refl
by_test false P h = λ p. no_true (h.1 p)
  where
    no_true : false ≡ true → ⊥
    no_true same = cc same

-- the transaction has ended
abbrev Ends : AskError → Type 0
Ends ask_error.Aborted = Unit {0}
Ends ask_error.NoMemory = Unit {0}
Ends _ = ⊥

-- the transaction of the session x, which was in one, is asked a call that its objects take
module _ (h : WorkerHandle) (call : Call) (takes : Takes h call) (error : AskError) (x y : Session Objects naming_ghosts)
    (asked : HasAsked objects (arc_value h.worker.store).ty (arc_value h.worker.store).shared x call (Err error) y) where
  by_live : (o : Option RestingTransaction) → live_of x ≡ o → Stands objects (arc_value h.worker.store).ty (arc_value h.worker.store).shared o x.rest.seat x.left → live_of x ≢ None → Ends error
  by_live None e stands within = absurd (within e)
  by_live (Some p) e stands within =
      by error (asked.asking stands.0 stands.1 stands.2 (record { paused = p; live = e; waits = stands.3 }))
    where
      by : (why : AskError) → HasAskedAfter objects (arc_value h.worker.store).ty (arc_value h.worker.store).shared stands.0 stands.1 stands.2 call (Err why) y → Ends why
      by ask_error.NoTransaction after = absurd after
      by ask_error.Untaken after = absurd (after.1 takes)
      by ask_error.Aborted after = tt
      by ask_error.NoMemory after = tt

module _ (h : WorkerHandle) (call : Call) (takes : Takes h call) (error : AskError) where
  by_session : (a b : Option (Session Objects naming_ghosts)) → IsAt objects (arc_value h.worker.store) (view_at h.worker.slot) a
      → option_and_then (λ x. option_map (λ p. p.attempt.table.replies) (live_of x)) a ≢ None
      → Leads (λ x y. HasAsked objects (arc_value h.worker.store).ty (arc_value h.worker.store).shared x call (Err error) y) a b → Ends error
  by_session None b at within l = absurd at
  by_session (Some x) None at within l = absurd l
  by_session (Some x) (Some y) at within l =
      by_live h call takes error x y l (live_of x) refl (is_session objects (arc_value h.worker.store) (view_at h.worker.slot) x at)
      (λ none. within (ap (λ (o : Option RestingTransaction). option_map (λ p. p.attempt.table.replies) o) none))

-- what becomes of it where it is not answered
ends : (given : CallIn) (h : WorkerHandle) (call : Call) (error : AskError) (session : Option (Session Objects naming_ghosts)) → IsWorker h → IsLawfulCall given h call
    → Leads (λ x y. HasAsked objects (arc_value h.worker.store).ty (arc_value h.worker.store).shared x call (Err error) y) h.worker.session session → Ends error
ends given h call error session is lawful l =
    by_session h call lawful.0.2 error h.worker.session session is.at lawful.0.0.0 l

-- so its status is that of an abort, or of want of memory
pub unasked : (given : CallIn) (h k : WorkerHandle) (call : Call) (error : AskError) → IsWorker h → IsLawfulCall given h call → Asks h k call (Err error) → HasAnswered given h (Err (of_unasked error)) k
unasked given h k call ask_error.NoTransaction is lawful asks = absurd (ends given h call ask_error.NoTransaction k.worker.session is lawful asks.1)
unasked given h k call ask_error.Untaken is lawful asks = absurd (ends given h call ask_error.Untaken k.worker.session is lawful asks.1)
unasked given h k call ask_error.Aborted is lawful asks = (call, lawful, asks)
unasked given h k call ask_error.NoMemory is lawful asks = (call, lawful, asks)

-- what is wrong with it is its status, and nothing changes
pub faulted : (given : CallIn) (h : WorkerHandle) (why : Status) → IsFault given h why → HasAnswered given h (Err why) h
faulted given h status.Aborted fault = absurd fault
faulted given h status.NoMemory fault = absurd fault
faulted given h why fault = (fault, refl)

none_some : (call : Call) → None ≡ Some call → ⊥
none_some call same = cc same

some_same : (c d : Call) → Some c ≡ Some d → c ≡ d
some_same c d same = cc same

-- it is no call where its operation is none, and where the objects do not take it
pub no_operation : (given : CallIn) (h : WorkerHandle) → HasObject given h → call_in given ≡ None → IsFault given h status.NoCall
no_operation given h there none = (there, λ call is takes. none_some call (sym none ∙ is))

pub not_taken : (given : CallIn) (h : WorkerHandle) (call : Call) → HasObject given h → call_in given ≡ Some call → (Takes h call → ⊥) → IsFault given h status.NoCall
not_taken given h call there is untaken = (there, λ other same takes. untaken (subst (Takes h) (sym (some_same call other (sym is ∙ same))) takes))
