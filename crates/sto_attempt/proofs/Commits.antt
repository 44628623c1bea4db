-- What is said of a commit by its phase is said by any name of that phase.
use Rattle.std.proofs.Common.{◌≡◌, ℕ, List, Option, map, sym, subst}
use Rattle.sto_item.specs.Pending.{Entry as Update}
use Rattle.sto_model.specs.PlainReplies.{plain_reply}
use Rattle.sto_core.specs.declared.view.View.{View}
use Rattle.sto_attempt_log.specs.declared.lists.Lists.{Lists}
use Rattle.sto_attempt_log.specs.declared.commit_phase.CommitPhase.TheVariants.{Locking}
use Rattle.sto_attempt_log.specs.declared.read_phase.ReadPhase.TheVariants.{Committing}
use Rattle.sto_attempt_log.specs.Log.{IsLog}
use Rattle.sto_attempt_log.specs.ReadSet.{words_in}
use Rattle.sto_attempt_log.specs.Standing.{Fits}
use Rattle.sto_attempt_log.specs.Tables.{with_lists}
use Rattle.sto_attempt_log.proofs.Sealing.{begins}
use Rattle.sto_attempt_log.specs.declared.commit_phase.CommitPhase.{CommitPhase}
use Rattle.sto_attempt_log.specs.declared.verdict.Verdict.{Verdict}
use Rattle.sto_attempt_log.proofs.Replied.{step_prefix}
use Rattle.sto_attempt.specs.declared.attempt.Attempt.{Attempt}
use Rattle.sto_attempt.specs.declared.ready.Ready.{Ready}
use Rattle.sto_attempt.specs.Attempts.{IsOwnLog, IsStocked, FitsAt, deal_with, heard}
use Rattle.sto_type.specs.Traits.{OfType}
use Rattle.sto_model.specs.Bodies.{OfBody}
use Rattle.sto_attempt.specs.Commits.{deal_of, HasPrefix, IsBefore, Advances}

module _ {T B : Type 0} (t : OfType T) (b : OfBody B) where
  pub before_at : (r : Ready T B) (v : View) (old s : CommitPhase) → old ≡ s → IsBefore t b old r v → IsBefore t b s r v
  before_at r v old s e h = subst (λ (x : CommitPhase). IsBefore t b x r v) e h

  pub advances_at : (passes : ℕ) (r q : Ready T B) (v w : View) (result : Option Verdict) (old s : CommitPhase) → old ≡ s
      → Advances t b passes s r q v w result → Advances t b passes old r q v w result
  advances_at passes r q v w result old s e h = subst (λ (x : CommitPhase). Advances t b passes x r q v w result) (sym e) h

  pub prefix_after : (passes : ℕ) (r q : Ready T B) (v w : View) (result : Option Verdict) (s : CommitPhase) → IsBefore t b r.commit_phase r v
      → Advances t b passes s r q v w result → HasPrefix t b r w
  prefix_after passes r q v w result s h e = step_prefix (deal_of t b r) r.log.table.lists.found_tickets r.log.table.lists.loaded_words.items r.commit_phase v h.stands passes w e.event

  -- what an attempt with its lists is sealed to, before its first lock
  abbrev pub stocked : Attempt T B → Lists → Ready T B
  stocked a l = record { log = with_lists a.log l; at = a.at; commit_phase = Locking 0 }

  -- it stands to the view of the pass as the attempt does
  pub stocked_before : (a : Attempt T B) (l : Lists) → IsOwnLog t b a → IsStocked t b a l → (v : View) → FitsAt t b Committing a v
      → IsBefore t b (Locking 0) (stocked a l) v
  stocked_before a l own it v here =
      let m = t.meaning a.log.ty.now in
      let f = b.script a.log.body in
      let base = a.log.table.base.items in
      let log = subst (λ (us : List Update). IsLog m f (words_in base) a.log.table.set.items us (heard a)) (sym it.updates) own.log in
      let fits = subst (λ (us : List Update). Fits m t.valid (t.sizes a.log.ty.now) f a.at Committing a.log.table.words.items base us (heard a) v) (sym it.updates) here in
      record {
        stands = begins (deal_with t b a l) it.planned log l.found_tickets it.unfound it.room l.loaded_words.items it.unloaded a.log.table.words.items v fits;
        space = it.space;
        copy = sym it.updates;
      }
