-- An attempt that has made no event yet runs its body from the view at which its pass rests.
use Rattle.std.proofs.Common.{◌≡◌, ◌<◌, ℕ, List, [], false, map, refl, sym, ap, ◌∙◌, subst}
use Rattle.sto_model.specs.declared.body.Next.{Next}
use Rattle.sto_model.specs.declared.call.Call.{Call}
use Rattle.sto_model.specs.PlainReplies.{PlainReply, plain_reply}
use Rattle.sto_model.specs.Run.{Behaviour}
use Rattle.sto_type.specs.Meaning.{Meaning}
use Rattle.sto_core.specs.declared.view.View.{View}
use Rattle.sto_core.specs.History.{Validity}
use Rattle.sto_attempt.specs.declared.attempt.Attempt.{Attempt}
use Rattle.sto_attempt_log.specs.declared.read_phase.ReadPhase.{ReadPhase}
use Rattle.sto_attempt_log.specs.declared.read_phase.ReadPhase.TheVariants.{Unstarted}
use Rattle.sto_attempt_log.specs.Log.{IsOnLog}
use Rattle.sto_attempt_log.specs.Standing.{Goes, IsFirst}
use Rattle.sto_transaction.specs.Going.{HasGone}
use Rattle.sto_transaction.specs.Machines.{RunsBody}
use Rattle.sto_transaction.specs.Resting.{IsAtRest}

module _ {T B : Type 0} (meaning : T → Meaning) (valid : Validity) (sizes : T → List ℕ) (script : B → Behaviour) (next : B → List PlainReply → Next) (left : B → ℕ) (may : B → Call → Type 0) where
  abbrev pub OnLog : T → Behaviour → Attempt T B → Type 0
  OnLog ty f a =
      IsOnLog (meaning ty) (next a.log.body) f (left a.log.body) (may a.log.body) a.log.table.base.items a.log.table.set a.log.table.cache a.log.table.replies.items

  abbrev pub GoesIn : ReadPhase → T → Behaviour → Attempt T B → View → Type 0
  GoesIn s ty f a v =
      Goes (meaning ty) valid (sizes ty) f a.at s a.log.table.words.items a.log.table.extension a.log.table.base.items a.log.table.set.items a.log.table.set.updates
      (map plain_reply a.log.table.replies.items) v

  pub new_runs : (passes : ℕ) (ty : T) (f : Behaviour) (a : Attempt T B) (v : View) → a.log.ty.now ≡ ty → script a.log.body ≡ f → OnLog ty f a
      → a.log.table.base.items ≡ [] → a.log.table.extension.extended ≡ false → a.read_phase ≡ Unstarted → IsAtRest (meaning ty) (sizes ty) v → 0 < v.draws
      → RunsBody meaning valid sizes script next left may passes ty f a v v
  new_runs passes ty f a v same_type same_script log none fresh unstarted rest some = record {
    own = record {
      same_type = same_type;
      same_script = same_script;
      log = subst (λ (x : T). OnLog x (script a.log.body) a) (sym same_type) (subst (λ (g : Behaviour). OnLog ty g a) (sym same_script) log);
    };
    goes = subst (λ (s : ReadPhase). GoesIn s a.log.ty.now (script a.log.body) a v) (sym unstarted)
        (rest.idle, rest.sized ∙ ap sizes (sym same_type), some, none, fresh);
    gone = subst (λ (s : ReadPhase). HasGone s v v a.at) (sym unstarted) refl;
    alone = λ one. subst IsFirst (sym unstarted) tt;
  }
