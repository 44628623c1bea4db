-- An attempt whose body is at its end, and what its replies are then.
use Rattle.std.proofs.Common.{◌≡◌, ◌≤◌, ◌+◌, ℕ, ℤ, List, [], ◌∷◌, ◌++◌, length, length-append, refl, ap, sym, ◌∙◌, subst, arith}
use Rattle.sto_item.specs.declared.item.Item.{Item}
use Rattle.sto_item.specs.Pending.{Entry as Update}
use Rattle.sto_model.specs.PlainReplies.{PlainReply}
use Rattle.sto_model.specs.Run.{Behaviour, IsAsk, IsRun}
use Rattle.sto_model.specs.Bodies.{OfBody}
use Rattle.sto_model.specs.declared.call.Call.{Call}
use Rattle.sto_model.specs.declared.body.Next.{Next}
use Rattle.sto_model.specs.declared.body.Next.TheVariants.{Ask, Commit, Cancel}
use Rattle.sto_model.specs.declared.run.End.{End}
use Rattle.sto_type.specs.Known.{Parts}
use Rattle.sto_type.specs.Meaning.{Meaning}
use Rattle.sto_type.specs.Traits.{OfType}
use Rattle.sto_core.specs.declared.view.View.{View}
use Rattle.sto_core.specs.History.{Validity}
use Rattle.sto_attempt_log.specs.declared.read_entry.ReadEntry.{ReadEntry}
use Rattle.sto_attempt_log.specs.declared.extension.Extension.{Extension}
use Rattle.sto_attempt_log.specs.declared.read_phase.ReadPhase.{ReadPhase}
use Rattle.sto_attempt_log.specs.declared.read_phase.ReadPhase.TheVariants.{Unstarted, Opening, Reading, Renewing, Rechecking, Reopening, Rereading, Committing, Over}
use Rattle.sto_attempt_log.specs.declared.verdict.Verdict.{Verdict}
use Rattle.sto_attempt_log.specs.declared.verdict.Verdict.TheVariants.{Wrote, Read, Cancelled, Locked, Changed}
use Rattle.sto_attempt_log.specs.declared.verdict.Turn.{Turn}
use Rattle.sto_attempt_log.specs.declared.verdict.Turn.TheVariants.{More, Ready, Ended}
use Rattle.sto_attempt_log.specs.Answers.{IsPrefix}
use Rattle.sto_type.specs.Touching.{NextTouches}
use Rattle.sto_attempt_log.specs.Standing.{Fits, Goes, HasBegun, IsFirst, IsUnaborted}
use Rattle.sto_attempt_log.proofs.Claimed.{claims_fit}
use Rattle.sto_attempt_log.proofs.Prefix.{prefix}
use Rattle.sto_attempt_log.proofs.Reading.{idle_reading}
use Rattle.sto_attempt.specs.declared.attempt.Attempt.{Attempt}
use Rattle.sto_attempt.specs.Attempts.{HasTurned, Waits, heard}
use Rattle.sto_interactive.specs.Scripts.{script_of}
use Rattle.sto_interactive.specs.Waiting.{IsWaiting}
use Rattle.sto_interactive.proofs.Extending.{few_replies}

no_part : (m : Meaning) (n : Next) (p : ℕ) → (IsAsk n → ⊥) → NextTouches m n p → ⊥
no_part m (Ask call) p none h = none tt
no_part m Commit p none h = h
no_part m Cancel p none h = h

no_goes : (m : Meaning) (valid : Validity) (sizes : List ℕ) (f : Behaviour) (at : ℕ) (read_phase : ReadPhase) (ws : List ℤ) (extension : Extension) (base : List ReadEntry) (items : List Item) (es : List Update) (rs : List PlainReply) (v : View)
    → HasBegun read_phase → IsFirst read_phase → (IsAsk (f rs) → ⊥) → Goes m valid sizes f at read_phase ws extension base items es rs v → ⊥
no_goes m valid sizes f at Unstarted ws extension base items es rs v begins first none h = begins
no_goes m valid sizes f at (Opening p) ws extension base items es rs v begins first none h = no_part m (f rs) p none h.0.awaits.by_next
no_goes m valid sizes f at (Reading p t) ws extension base items es rs v begins first none h = no_part m (f rs) p none h.0.awaits.by_next
no_goes m valid sizes f at (Renewing p t) ws extension base items es rs v begins first none h = first
no_goes m valid sizes f at (Rechecking p) ws extension base items es rs v begins first none h = first
no_goes m valid sizes f at (Reopening p) ws extension base items es rs v begins first none h = first
no_goes m valid sizes f at (Rereading p t) ws extension base items es rs v begins first none h = first
no_goes m valid sizes f at Committing ws extension base items es rs v begins first none h = h
no_goes m valid sizes f at Over ws extension base items es rs v begins first none h = h

commits_not_cancels : (n : Next) → n ≡ Commit → n ≡ Cancel → ⊥
commits_not_cancels n c k = let e = sym c ∙ k in cc

pub no_ask : (n k : Next) → (IsAsk k → ⊥) → n ≡ k → IsAsk n → ⊥
no_ask n k none e asks = none (subst IsAsk e asks)

module _ {T B : Type 0} (t : OfType T) (b : OfBody B) (a : Attempt T B) (v : View) where
  -- a body that is at its end needs no further part
  pub no_more : HasBegun a.read_phase → IsFirst a.read_phase → (IsAsk (b.script a.log.body (heard a)) → ⊥) → HasTurned t b a a v More → ⊥
  no_more begins first none h =
      no_goes (t.meaning a.log.ty.now) t.valid (t.sizes a.log.ty.now) (b.script a.log.body) a.at a.read_phase a.log.table.words.items a.log.table.extension a.log.table.base.items a.log.table.set.items a.log.table.set.updates (heard a) v begins first none h

  abbrev fits_at : ReadPhase → Type 0
  fits_at read_phase = Fits (t.meaning a.log.ty.now) t.valid (t.sizes a.log.ty.now) (b.script a.log.body) a.at read_phase a.log.table.words.items a.log.table.base.items a.log.table.set.updates (heard a) v

  committing : HasTurned t b a a v Ready → fits_at Committing
  committing h = subst fits_at h.1 h.0

  -- before a commit it may go on, too
  pub may_go_on : fits_at Committing → Waits t b a v
  may_go_on k = (
    record {
      own = k.own;
      unheld = k.unheld;
      decided = k.decided;
      draws = k.draws;
      number = k.number;
      claimed = k.claimed;
      only = k.only;
      below = k.below;
      fit = k.fit;
      stands = idle_reading v k.stands;
      awaits = tt;
    },
    k.stands,
  )

  -- where it commits it waits
  pub commit_waits : b.script a.log.body (heard a) ≡ Commit → HasBegun a.read_phase → (turn : Turn) → IsFirst a.read_phase × IsUnaborted turn → HasTurned t b a a v turn → Waits t b a v
  commit_waits commits begins More first h = absurd (no_more begins first.0 (no_ask (b.script a.log.body (heard a)) Commit (λ e. e) commits) h)
  commit_waits commits begins Ready first h = may_go_on (committing h)
  commit_waits commits begins (Ended (Wrote n)) first h = absurd h.3
  commit_waits commits begins (Ended (Read n)) first h = h.3.1
  commit_waits commits begins (Ended (Cancelled n)) first h = absurd (commits_not_cancels (b.script a.log.body (heard a)) commits h.3.1.ends)
  commit_waits commits begins (Ended (Locked n p)) first h = absurd first.1
  commit_waits commits begins (Ended (Changed n p s)) first h = absurd first.1

  -- where it cancels it has ended so
  pub cancel_ready : b.script a.log.body (heard a) ≡ Cancel → HasTurned t b a a v Ready → ⊥
  cancel_ready cancels h = commits_not_cancels (b.script a.log.body (heard a)) (committing h).awaits.0 cancels

  pub cancel_ends : b.script a.log.body (heard a) ≡ Cancel → (x : Verdict) → IsUnaborted (Ended x) → HasTurned t b a a v (Ended x) → (n : ℕ) × (x ≡ Cancelled n)
  cancel_ends cancels (Wrote n) first h = absurd h.3
  cancel_ends cancels (Read n) first h = absurd (commits_not_cancels (b.script a.log.body (heard a)) h.3.0.1.ends cancels)
  cancel_ends cancels (Cancelled n) first h = (n, refl)
  cancel_ends cancels (Locked n p) first h = absurd first
  cancel_ends cancels (Changed n p s) first h = absurd first

-- what the replies of an attempt that waits tell
pub answers : {T B : Type 0} (t : OfType T) (b : OfBody B) (ty : T) (f : Behaviour) (a : Attempt T B) (begun v : View) → IsWaiting t b ty f a begun v → IsPrefix (t.meaning ty) f v a.at (heard a)
answers t b ty f a begun v h =
    let own = h.own in
    subst (λ (m : Meaning). IsPrefix m f v a.at (heard a)) (ap t.meaning own.same_type)
    (subst (λ (g : Behaviour). IsPrefix (t.meaning a.log.ty.now) g v a.at (heard a)) own.same_script
    (prefix (t.meaning a.log.ty.now) (b.script a.log.body) v a.at a.log.table.base.items a.log.table.set.items a.log.table.set.updates (heard a) own.log.log h.waits.0.claimed))

-- they are no more than the calls
pub so_many : {T B : Type 0} (t : OfType T) (b : OfBody B) (ty : T) (calls : List Call) (end : End) (a : Attempt T B) (begun v : View) → ((d : Parts) → t.valid (t.sizes a.log.ty.now) d → (t.meaning a.log.ty.now).valid d)
    → IsWaiting t b ty (script_of calls end) a begun v → length (heard a) ≤ length calls
so_many t b ty calls end a begun v is h =
    let k = h.waits.0 in
    let m = t.meaning a.log.ty.now in
    let whole = claims_fit t.valid v a.at k.fit in
    let valid : m.valid whole.0 = is whole.0 (subst (λ (l : List ℕ). t.valid l whole.0) k.own.same_sizes whole.1) in
    let run : IsRun m.machines (b.script a.log.body) (m.rows whole.0) (heard a) =
    prefix m (b.script a.log.body) v a.at a.log.table.base.items a.log.table.set.items a.log.table.set.updates (heard a) h.own.log.log k.claimed whole.0 valid whole.2 in
    few_replies m.machines calls end (m.rows whole.0) (heard a) (subst (λ (f : Behaviour). IsRun m.machines f (m.rows whole.0) (heard a)) h.own.same_script run)

-- one more reply
pub one_more : (rs more : List PlainReply) → length (rs ++ more) ≡ length rs + 1 → (r : PlainReply) × (more ≡ r ∷ [])
one_more rs [] e = absurd (let l = length-append rs [] in omega (arith, l, e))
one_more rs (r ∷ []) e = (r, refl)
one_more rs (r ∷ s ∷ more) e = absurd (let l = length-append rs (r ∷ s ∷ more) in omega (arith, l, e))

-- and none
pub none_more : (rs more : List PlainReply) → length (rs ++ more) ≤ length rs → more ≡ []
none_more rs [] e = refl
none_more rs (r ∷ more) e = absurd (let l = length-append rs (r ∷ more) in omega (arith, l, e))
