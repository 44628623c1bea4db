-- What no cancel answers: a place before what the pass knew when the transaction began, and one as of which its calls have other replies.
use Rattle.std.proofs.Common.{◌<◌, ◌≤◌, ℕ, List, ap, subst, inl, le_refl, arith}
use Rattle.sto_part.specs.declared.naming.Naming as naming
use Rattle.sto_model.specs.declared.call.Call.{Call}
use Rattle.sto_model.specs.declared.run.End.TheVariants.{Cancel}
use Rattle.sto_model.specs.PlainReplies.{PlainReply}
use Rattle.sto_type.specs.Traits.{OfType}
use Rattle.sto_core.specs.declared.view.View.{View}
use Rattle.sto_table.specs.declared.shared.Shared.{Shared}
use Rattle.sto_history.specs.Records as plainly
use Rattle.sto_history.specs.Added.{IsKnown}
use Rattle.sto_history.specs.Told.{IsTold}
use Rattle.sto_transaction.specs.Plain.{verdict}
use Rattle.sto_interactive.specs.Scripts.{script_of}
use Rattle.sto_interactive.specs.declared.session.Session.{Session}
use Rattle.sto_interactive.specs.Sessions.{view_of}
use Rattle.sto_interactive.specs.Steps.{WasGivenUp}

module _ {T : Type 0} {n : naming.Ghosts T} (t : OfType T) (ty : T) (s : Shared T) (calls : List Call) (rs : List PlainReply) (place : ℕ) (y : Session T n) (begun : View)
    (given_up : WasGivenUp t ty s calls rs place y begun) where
  pub no_place_before_its_begin : place < begun.at → ⊥
  no_place_before_its_begin less =
      let known : IsKnown begun begun.at = inl (le_refl begun.at) in
      let since : begun.at ≤ place =
      subst (λ (x : plainly.Verdict). plainly.IsSince begun.at x) (ap verdict given_up.stands) ((given_up.told.ended.tried (0, 0)).added.since begun.at known) in
      omega (arith, since, less)

  pub no_place_of_other_replies : (IsTold (t.meaning ty) (view_of y) (script_of calls Cancel) rs (plainly.Cancelled place) → ⊥) → ⊥
  no_place_of_other_replies other =
      other (subst (λ (x : plainly.Verdict). IsTold (t.meaning ty) (view_of y) (script_of calls Cancel) rs x) (ap verdict given_up.stands)
      (subst (λ (l : List PlainReply). IsTold (t.meaning ty) (view_of y) (script_of calls Cancel) l (verdict given_up.ended.verdict)) given_up.told.replies
      (given_up.told.ended.tried (0, 0)).added.told))
