-- A commit on its pass, before an event and after it.
use Rattle.std.specs.Prelude.{◌≡◌, ◌≤◌, ◌<◌, ◌⊎◌, ℕ, ℤ, Option, None, map, slice_index_or}
use Rattle.sto_model.specs.PlainReplies.{plain_reply}
use Rattle.sto_core.specs.declared.view.View.{View}
use Rattle.sto_core.specs.History.{Validity}
use Rattle.sto_core.specs.Tells.{Tells}
use Rattle.sto_type.specs.Meaning.{Meaning}
use Rattle.sto_core.specs.declared.cells.Cells as cells
use Rattle.sto_part.specs.Listed.{Listed}
use Rattle.sto_attempt_log.specs.declared.commit_phase.FoundTicket.{FoundTicket}
use Rattle.sto_attempt_log.specs.declared.commit_phase.LoadedWord.{LoadedWord}
use Rattle.sto_attempt_log.specs.declared.lists.Lists.{Lists}
use Rattle.sto_attempt_log.specs.Tables.{with_lists}
use Rattle.sto_attempt_log.specs.declared.commit_phase.CommitPhase.{CommitPhase}
use Rattle.sto_attempt_log.specs.declared.commit_phase.CommitPhase.TheVariants.{Locking, Loading, Testing, Tested}
use Rattle.sto_attempt_log.specs.declared.verdict.Verdict.{Verdict}
use Rattle.sto_type.specs.Traits.{OfType}
use Rattle.sto_model.specs.Bodies.{OfBody}
use Rattle.sto_attempt.specs.declared.attempt.Attempt.{Attempt}
use Rattle.sto_attempt.specs.declared.ready.Ready.{Ready}
use Rattle.sto_attempt.specs.Attempts.{FitsAt, reader_of}
use Rattle.sto_attempt_log.specs.declared.read_phase.ReadPhase.TheVariants.{Committing}
use Rattle.sto_attempt_log.specs.Bounds.{left_committing}
use Rattle.sto_attempt_log.specs.Answers.{OneEvent, IsCommitEvent, IsPrefix}
use Rattle.sto_attempt_log.specs.Remaining.{commit_left}
use Rattle.sto_attempt_log.specs.Verdicts.{ComesTo, HasReason, IsUndisturbed}
use Rattle.sto_attempt_log.specs.Doing.{Committer, sealed, commit_event, after_commit}
use Rattle.sto_attempt_log.specs.CommitPhases.{Deal, deal, Stands, Said, EndsBy, SpaceAt}

-- what it is led by, and what it has found
abbrev pub lists_of : {T B : Type 0} → Ready T B → Lists
lists_of r = r.log.table.lists

-- all but the phase is as it was
abbrev pub MovesOnly : {T B : Type 0} → Ready T B → Ready T B → Type 0
MovesOnly r s = s ≡ record r { commit_phase = s.commit_phase }

-- the commit with these tickets found and these words read, at a phase
abbrev pub having_found : {T B : Type 0} → Ready T B → Listed FoundTicket → Listed LoadedWord → CommitPhase → Ready T B
having_found r found loads phase = record r { log = with_lists r.log (record (lists_of r) { found_tickets = found; loaded_words = loads }); commit_phase = phase }

-- what the event of a phase leaves as it was: a lock or a test adds what it found, a load or a test what it has read, and no other event adds to either
abbrev pub KeepsAt : {T B : Type 0} → CommitPhase → Ready T B → Ready T B → Type 0
KeepsAt (Locking k) r s = s ≡ having_found r (lists_of s).found_tickets (lists_of r).loaded_words s.commit_phase
KeepsAt (Loading k i) r s = s ≡ having_found r (lists_of r).found_tickets (lists_of s).loaded_words s.commit_phase
KeepsAt (Testing k) r s = s ≡ having_found r (lists_of s).found_tickets (lists_of r).loaded_words s.commit_phase
KeepsAt (Tested k i n) r s = s ≡ having_found r (lists_of r).found_tickets (lists_of s).loaded_words s.commit_phase
KeepsAt _ r s = MovesOnly r s

-- a commit as plain data
abbrev pub committer_of : {T B : Type 0} → Ready T B → Committer
committer_of r = record {
  at = r.at;
  base = r.log.table.base.items;
  items = r.log.table.set.items;
  us = (lists_of r).updates.items;
  heard = map plain_reply r.log.table.replies.items;
  seen = (lists_of r).seen.items;
  loaded = (lists_of r).loaded.items;
  tasks = (lists_of r).tasks.items;
  checks = (lists_of r).checks.items;
  places = (lists_of r).places.items;
  tickets = (lists_of r).found_tickets.items;
  loads = (lists_of r).loaded_words.items;
  phase = r.commit_phase;
}

-- the event of this phase was made, and what it found has led from the one commit to the other, with its verdict where it was the last one
pub record CommitsOn (m : Meaning) (valid : Validity) (passes : ℕ) (commit_phase : CommitPhase) (c d : Committer) (v w : View) (verdict : Option Verdict) : Type 0 where
  pub number : ℕ
  pub value : ℤ
  pub tells : Tells valid passes (commit_event m commit_phase c) v number value w
  pub leads : (d, verdict) ≡ after_commit m commit_phase c number value

-- t and b are what the traits of the type and of the body say
module _ {T B : Type 0} (t : OfType T) (b : OfBody B) where
  -- what a commit is to do, which no event changes
  abbrev pub deal_of : Ready T B → Deal
  deal_of r =
      deal (t.meaning r.log.ty.now) t.valid (t.sizes r.log.ty.now) (b.script r.log.body) r.at r.log.table.base.items r.log.table.set.items (map plain_reply r.log.table.replies.items)
      (lists_of r).updates.items (lists_of r).seen.items (lists_of r).loaded.items (lists_of r).tasks.items (lists_of r).checks.items (lists_of r).places.items

  -- the event of this phase is next, and there is room for what it finds
  pub record IsBefore (commit_phase : CommitPhase) (r : Ready T B) (v : View) : Type 0 where
    pub stands : Stands (deal_of r) (lists_of r).found_tickets (lists_of r).loaded_words.items commit_phase v
    pub space : SpaceAt (t.meaning r.log.ty.now).widths (lists_of r).tasks.items (lists_of r).loaded_words commit_phase
    pub copy : r.log.table.set.updates ≡ (lists_of r).updates.items

  -- one event has led from r and v to s and w; where it was the last one, it gave the verdict
  pub record Advances (passes : ℕ) (commit_phase : CommitPhase) (r s : Ready T B) (v w : View) (verdict : Option Verdict) : Type 0 where
    pub event : OneEvent (IsCommitEvent (lists_of r).updates.items) t.valid passes v w
    -- what it leaves for the next one, or what the verdict tells
    pub said : Said (deal_of r) (lists_of s).found_tickets (lists_of s).loaded_words.items s.commit_phase w verdict
    pub space : SpaceAt (t.meaning r.log.ty.now).widths (lists_of r).tasks.items (lists_of s).loaded_words s.commit_phase
    -- fewer events are left
    pub left : commit_left (deal_of r) s.commit_phase < commit_left (deal_of r) commit_phase
    -- a verdict that the commit comes to has its reason
    pub reason : (x : Verdict) → ComesTo verdict s.commit_phase x → ComesTo None commit_phase x ⊎ HasReason commit_phase r.log.table.set.items w x
    -- beside no other pass it is no abort
    pub alone : passes ≡ 1 → IsUndisturbed r.at (lists_of r).found_tickets.items None commit_phase → IsUndisturbed r.at (lists_of s).found_tickets.items verdict s.commit_phase
    pub by : EndsBy v.phase verdict
    -- it is the event of the phase, and what it found leads to s
    pub commits : CommitsOn (t.meaning r.log.ty.now) t.valid passes commit_phase (committer_of r) (committer_of s) v w verdict
    pub kept : s ≡ having_found r (lists_of s).found_tickets (lists_of s).loaded_words s.commit_phase

  -- the commit of an attempt, with all memory that it takes
  pub record IsSealed (a : Attempt T B) (r : Ready T B) : Type 0 where
    -- it stands to the view of the pass as the attempt does
    pub before : (v : View) → FitsAt t b Committing a v → IsBefore r.commit_phase r v
    pub space : SpaceAt (t.meaning r.log.ty.now).widths (lists_of r).tasks.items (lists_of r).loaded_words r.commit_phase
    pub copy : r.log.table.set.updates ≡ (lists_of r).updates.items
    -- on the table of the attempt, with its lists
    pub log : r.log ≡ with_lists a.log (lists_of r)
    pub at : r.at ≡ a.at
    pub left : commit_left (deal_of r) r.commit_phase ≤ left_committing (t.meaning a.log.ty.now).widths
    pub undisturbed : IsUndisturbed r.at (lists_of r).found_tickets.items None r.commit_phase
    -- it is the one that the items and updates lead to
    pub seals : committer_of r ≡ sealed (reader_of a)

  -- the replies are the first ones of the body's serial run on all valid contents that have the attempt's claims
  abbrev pub HasPrefix : Ready T B → View → Type 0
  HasPrefix r v = IsPrefix (t.meaning r.log.ty.now) (b.script r.log.body) v r.at (map plain_reply r.log.table.replies.items)

  -- how many words the part at a place of the tasks has
  abbrev pub task_width : Ready T B → ℕ → ℕ
  task_width r place = slice_index_or (t.meaning r.log.ty.now).widths (slice_index_or (lists_of r).tasks.items place 0) 0

  -- c is what the trait of the pass says
  module _ {C : Type 0} (c : cells.Ghosts C T) where
    -- the next event was made, and what it tells
    abbrev pub AdvancesNext : Ready T B → Ready T B → C → C → Option Verdict → Type 0
    AdvancesNext r s here there verdict = Advances (c.passes here) r.commit_phase r s (c.view here) (c.view there) verdict

    -- one event of this phase has led from r and one state of the pass to s and the other, and nothing else was changed
    pub record HasAdvanced (commit_phase : CommitPhase) (r s : Ready T B) (here there : C) (verdict : Option Verdict) : Type 0 where
      pub advances : Advances (c.passes here) commit_phase r s (c.view here) (c.view there) verdict
      pub kept : KeepsAt commit_phase r s
      pub same : c.same here there
