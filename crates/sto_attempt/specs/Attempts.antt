-- An attempt that reads, on its pass, before an event and after it. Where two attempts are named, they are the one before and the one after.
use Rattle.std.specs.Prelude.{◌≡◌, ◌≤◌, ◌<◌, ◌+◌, ◌-◌, ◌^◌, ℕ, ℤ, true, false, List, [], length, drop, map, slice_index_or, Result, IfOk, OnOk, OnErr}
use Rattle.sto_part.specs.declared.NoMemory.{NoMemory}
use Rattle.sto_model.specs.PlainReplies.{PlainReply, plain_reply}
use Rattle.sto_model.specs.Run.{Behaviour}
use Rattle.sto_core.specs.declared.view.View.{View}
use Rattle.sto_core.specs.declared.view.Phase.TheVariants as P
use Rattle.sto_core.specs.declared.cells.Cells as cells
use Rattle.sto_core.specs.Event.{Event, Start, Word}
use Rattle.sto_core.specs.History.{Contents}
use Rattle.sto_item.specs.Observed.{Watched, IsObserved}
use Rattle.sto_item.specs.Watched.{watched}
use Rattle.sto_type.specs.Known.{Known, IsPartOf}
use Rattle.sto_attempt_log.specs.declared.read_phase.ReadPhase.{ReadPhase}
use Rattle.sto_attempt_log.specs.declared.read_phase.ReadPhase.TheVariants.{Unstarted, Reading, Rereading}
use Rattle.sto_attempt_log.specs.declared.verdict.Turn.{Turn}
use Rattle.sto_attempt_log.specs.declared.verdict.Turn.TheVariants.{More}
use Rattle.sto_attempt_log.specs.declared.lists.Lists.{Lists}
use Rattle.sto_attempt_log.specs.declared.commit_phase.CommitPhase.TheVariants.{Locking}
use Rattle.sto_attempt_log.specs.Remaining.{commit_left}
use Rattle.sto_attempt_log.specs.Gathering.{AreGathered}
use Rattle.sto_attempt_log.specs.Answers.{OneEvent, IsPrefix}
use Rattle.sto_attempt_log.specs.Bounds.{events_left, left_committing, left_extending, bound, words_of}
use Rattle.sto_attempt_log.specs.Log.{IsOnLog, IsLog}
use Rattle.sto_attempt_log.specs.Growing.{HasHeard}
use Rattle.sto_attempt_log.specs.Reasons.{IsCaused}
use Rattle.sto_attempt_log.specs.Tables.{with_words, with_lists}
use Rattle.sto_attempt_log.specs.ReadSet.{words_in}
use Rattle.sto_attempt_log.specs.CommitPhases.{Deal, deal, IsPlanned, HasSpace}
use Rattle.sto_attempt_log.specs.Standing.{Goes, Fits, MayGoOn, Renews, Spans, Turned, IsLeft, IsFirst, IsUnaborted, IsRenewed, HasBegun, KeepsExtension, Moves, next_event, IsCalling}
use Rattle.sto_type.specs.Traits.{OfType}
use Rattle.sto_model.specs.Bodies.{OfBody}
use Rattle.sto_attempt_log.specs.Doing.{Reader, ReadsBy, ComesTo, Runs, goes_on_extending}
use Rattle.sto_attempt.specs.declared.attempt.Attempt.{Attempt}

-- the replies that the body has heard
abbrev pub heard : {T B : Type 0} → Attempt T B → List PlainReply
heard a = map plain_reply a.log.table.replies.items

-- an attempt whose body is not at its commit, as plain data
abbrev pub reader_of : {T B : Type 0} → Attempt T B → Reader
reader_of a = record {
  at = a.at;
  phase = a.read_phase;
  words = a.log.table.words.items;
  base = a.log.table.base.items;
  set = record { items = a.log.table.set.items; updates = a.log.table.set.updates };
  heard = map plain_reply a.log.table.replies.items;
  extended = a.log.table.extension.extended;
  bound = a.log.table.extension.bound;
  fresh = a.log.table.extension.fresh.items;
  watches = map watched a.log.table.extension.watches.items;
}

-- the attempt with other lists of its commit, which it does not use before
abbrev pub with_lists_of : {T B : Type 0} → Attempt T B → Attempt T B → Attempt T B
with_lists_of a other = record a { log = with_lists a.log other.log.table.lists }

-- how many words are left of the part that is being read, where these were read
abbrev pub unread : List ℕ → ReadPhase → List ℤ → ℕ
unread widths (Reading p t) words = slice_index_or widths p 0 - length words
unread widths (Rereading p t) words = slice_index_or widths p 0 - length words
unread widths _ words = 0

-- t and b are what the traits of the type and of the body say
module _ {T B : Type 0} (t : OfType T) (b : OfBody B) where
  -- what an attempt has found out is on the log of a script and a type
  abbrev pub IsLogBy : T → Behaviour → Attempt T B → Type 0
  IsLogBy ty f a =
      IsOnLog (t.meaning ty) (b.then a.log.body) f (b.left a.log.body) (b.may_ask a.log.body) a.log.table.base.items a.log.table.set a.log.table.cache a.log.table.replies.items

  -- on those of the one before
  abbrev pub IsLogOf : Attempt T B → Attempt T B → Type 0
  IsLogOf old new = IsLogBy old.log.ty.now (b.script old.log.body) new

  abbrev pub IsOwnLog : Attempt T B → Type 0
  IsOwnLog a = IsLogOf a a

  -- what the view of its pass is to be at a read phase: in a first reading, in an extension, and in either
  abbrev pub FitsAt : ReadPhase → Attempt T B → View → Type 0
  FitsAt read_phase a v =
      Fits (t.meaning a.log.ty.now) t.valid (t.sizes a.log.ty.now) (b.script a.log.body) a.at read_phase a.log.table.words.items a.log.table.base.items a.log.table.set.updates (heard a) v

  abbrev pub RenewsAt : ReadPhase → Attempt T B → View → Type 0
  RenewsAt read_phase a v =
      Renews (t.meaning a.log.ty.now) t.valid (t.sizes a.log.ty.now) (b.script a.log.body (heard a)) a.at read_phase a.log.table.words.items a.log.table.extension a.log.table.base.items a.log.table.set.items v

  abbrev pub GoesAt : ReadPhase → Attempt T B → View → Type 0
  GoesAt read_phase a v =
      Goes (t.meaning a.log.ty.now) t.valid (t.sizes a.log.ty.now) (b.script a.log.body) a.at read_phase a.log.table.words.items a.log.table.extension
      a.log.table.base.items a.log.table.set.items a.log.table.set.updates (heard a) v

  -- the body is at its end, and where it is given more to do, the attempt may go on
  abbrev pub Waits : Attempt T B → View → Type 0
  Waits a v = MayGoOn (t.meaning a.log.ty.now) t.valid (t.sizes a.log.ty.now) (b.script a.log.body) a.at a.log.table.words.items a.log.table.base.items a.log.table.set.updates (heard a) v

  -- the pass reads anew as of the bound of the extension
  abbrev pub SpansAt : Attempt T B → View → Type 0
  SpansAt a v = Spans (t.meaning a.log.ty.now) t.valid (t.sizes a.log.ty.now) a.at a.log.table.extension.bound a.log.table.base.items a.log.table.extension.fresh.items v

  -- what a turn tells
  abbrev pub HasTurned : Attempt T B → Attempt T B → View → Turn → Type 0
  HasTurned old new w turn =
      Turned (t.meaning old.log.ty.now) t.valid (t.sizes old.log.ty.now) (b.script old.log.body) new.at new.read_phase new.log.table.words.items new.log.table.extension
      new.log.table.base.items new.log.table.set.items new.log.table.set.updates (heard new) w turn

  -- the items and updates are those of the calls that were answered, and no others
  abbrev pub HasGrown : Attempt T B → Attempt T B → Type 0
  HasGrown old new =
      HasHeard (t.meaning old.log.ty.now) (b.script old.log.body) (words_in new.log.table.base.items) (heard old) old.log.table.set (heard new) new.log.table.set

  -- the events left at a read phase, at most, by the widths of a type
  abbrev pub left_by : T → ReadPhase → Attempt T B → ℕ
  left_by ty read_phase a = events_left (b.left a.log.body) (t.meaning ty).widths read_phase a.log.table.words.items a.log.table.extension a.log.table.base.items

  -- by those of the type of the one before
  abbrev pub left_of : Attempt T B → ReadPhase → Attempt T B → ℕ
  left_of old read_phase a = left_by old.log.ty.now read_phase a

  -- an attempt of a body on a type has made no event yet
  pub record IsNew (on : T) (body : B) (a : Attempt T B) : Type 0 where
    pub ty : a.log.ty.now ≡ on
    pub script : b.script a.log.body ≡ b.script body
    pub left_at_reset : b.left_at_reset a.log.body ≡ b.left_at_reset body
    pub left : b.left a.log.body ≡ b.left_at_reset body
    pub none : a.log.table.base.items ≡ []
    pub fresh : a.log.table.extension.extended ≡ false
    pub read_phase : a.read_phase ≡ Unstarted
    pub events : left_by on a.read_phase a ≤ bound (b.left_at_reset body) (length (t.meaning on).widths) (words_of (t.meaning on).widths)
    pub log : IsLogBy on (b.script body) a

  -- fewer events are left than at the read phase before
  abbrev pub HasFewer : ReadPhase → Attempt T B → Attempt T B → Type 0
  HasFewer read_phase old new = left_of old new.read_phase new < left_of old read_phase old

  abbrev pub words_left : Attempt T B → ℕ
  words_left a = unread (t.meaning a.log.ty.now).widths a.read_phase a.log.table.words.items

  -- the event of the next step
  abbrev pub event_of : Attempt T B → Event
  event_of a = next_event (t.meaning a.log.ty.now).widths a.read_phase a.log.table.words.items

  -- the replies are the first ones of the body's serial run on all valid contents that have the claims
  abbrev pub IsPrefixOf : Attempt T B → Attempt T B → View → Type 0
  IsPrefixOf old new w = IsPrefix (t.meaning old.log.ty.now) (b.script old.log.body) w new.at (heard new)

  -- it has ended for want of memory
  abbrev pub HasStopped : Attempt T B → Attempt T B → View → Type 0
  HasStopped old new w = IsLeft w × IsPrefixOf old new w

  -- what is so before the event of a read phase
  pub record IsUnderWay (read_phase : ReadPhase) (a : Attempt T B) (v : View) : Type 0 where
    pub goes : GoesAt read_phase a v
    pub log : IsOwnLog a

  -- what is so before the next word of a part is read
  pub record IsBeforeWord (s : ReadPhase) (part : ℕ) (a : Attempt T B) (v : View) : Type 0 where
    pub before : IsUnderWay s a v
    pub read_phase : a.read_phase ≡ s
    pub more : length a.log.table.words.items < slice_index_or (t.meaning a.log.ty.now).widths part 0
    pub few : length a.log.table.words.items + 1 < 2 ^ 32

  -- the event e has led from a read phase of old and v to new and w, and the body was run up to the next event
  pub record Steps (passes : ℕ) (read_phase : ReadPhase) (e : Event) (old new : Attempt T B) (v w : View) (result : Result Turn NoMemory) : Type 0 where
    pub event : OneEvent (λ x. x ≡ e) t.valid passes v w
    pub log : OnOk result (IsLogOf old new)
    pub turned : IfOk result (HasTurned old new w)
    pub grown : OnOk result (HasGrown old new)
    -- with one pass no attempt is aborted, and none extends
    pub alone : passes ≡ 1 → IsFirst read_phase → IfOk result (λ turn. IsFirst new.read_phase × IsUnaborted turn)
    -- a change that ends the attempt has a reason
    pub reason : IfOk result (λ turn. IsCaused e new.log.table.set.items w old.log.table.extension turn)
    pub renewed : OnOk result (KeepsExtension read_phase w old.log.table.extension (heard old) new.log.table.extension (heard new))
    -- the first step takes the number of the view, and no later one lowers it
    pub moves : OnOk result (Moves read_phase old.at new.read_phase new.at w)
    pub left : OnOk result (HasFewer read_phase old new)
    pub err : OnErr result (IsLeft w)
    pub script : b.script new.log.body ≡ b.script old.log.body
    pub left_at_reset : b.left_at_reset new.log.body ≡ b.left_at_reset old.log.body
    pub ty : new.log.ty ≡ old.log.ty

  -- it went on where it had waited
  pub record HasResumed (old new : Attempt T B) (result : Result Turn NoMemory) : Type 0 where
    pub log : OnOk result (IsLogOf old new)
    -- it stands to the view of the pass as after a step
    pub turned : (v : View) → Waits old v → IfOk result (HasTurned old new v)
    pub grown : OnOk result (HasGrown old new)
    -- its body ran on as it does by the plain data
    pub comes : IfOk result (ComesTo (t.meaning old.log.ty.now) (b.script old.log.body) (Runs (record (reader_of old) { extended = false })) (reader_of new))
    pub begun : OnOk result (HasBegun new.read_phase)
    pub alone : IfOk result (λ turn. IsFirst new.read_phase × IsUnaborted turn)
    pub at : new.at ≡ old.at
    pub script : b.script new.log.body ≡ b.script old.log.body
    pub left_at_reset : b.left_at_reset new.log.body ≡ b.left_at_reset old.log.body
    pub ty : new.log.ty ≡ old.log.ty

  -- the items and updates carry the replies
  abbrev pub Carries : Attempt T B → Type 0
  Carries a = IsLog (t.meaning a.log.ty.now) (b.script a.log.body) (words_in a.log.table.base.items) a.log.table.set.items a.log.table.set.updates (heard a)

  -- how many words the part has
  abbrev pub part_width : Attempt T B → ℕ → ℕ
  part_width a part = slice_index_or (t.meaning a.log.ty.now).widths part 0

  -- the watches of the extension
  abbrev pub watches_of : Attempt T B → List Watched
  watches_of a = map watched a.log.table.extension.watches.items

  -- some valid contents have these parts
  abbrev pub CanHave : Attempt T B → Known → Type 0
  CanHave a known = (d : Contents) × (t.meaning a.log.ty.now).valid d × IsPartOf known d

  -- the first of the watches were read anew, and stay so
  abbrev pub AreRenewed : Attempt T B → Type 0
  AreRenewed a = (left : List Watched) × IsRenewed (length (t.meaning a.log.ty.now).widths) (words_in a.log.table.base.items) a.log.table.extension.fresh.items (watches_of a) left

  -- what is so before the extension goes on to its next watch
  pub record IsExtending (a : Attempt T B) : Type 0 where
    pub log : IsOwnLog a
    pub observed : IsObserved a.log.table.set.items (watches_of a)
    pub extended : a.log.table.extension.extended ≡ true
    pub asks : IsCalling (b.script a.log.body (heard a))
    pub renewed : AreRenewed a
    pub bound : a.at ≤ a.log.table.extension.bound
    pub some : CanHave a (words_in a.log.table.base.items)
    pub some_new : CanHave a (words_in a.log.table.extension.fresh.items)

  -- fewer events are left than before the extension went on
  abbrev pub HasFewerOn : Attempt T B → Attempt T B → Type 0
  HasFewerOn old new =
      left_of old new.read_phase new < 1 + left_extending (b.left old.log.body - 1) (t.meaning old.log.ty.now).widths (drop (length old.log.table.extension.fresh.items) (watches_of old))

  -- the extension went on: to its next watch, or where there is none the body was run up to the next event
  pub record HasGoneOn (old new : Attempt T B) (result : Result Turn NoMemory) : Type 0 where
    pub log : OnOk result (IsLogOf old new)
    pub turned : (v : View) → SpansAt old v → v.phase ≡ P.Reading → IfOk result (HasTurned old new v)
    pub unaborted : IfOk result IsUnaborted
    pub grown : OnOk result (HasGrown old new)
    pub renewed : OnOk result ((new.log.table.extension.bound ≡ old.log.table.extension.bound) × (new.log.table.extension.extended ≡ true → heard new ≡ heard old))
    pub moves : OnOk result (HasBegun new.read_phase × (old.at ≤ new.at))
    -- as it does by the plain data
    pub comes : IfOk result (ComesTo (t.meaning old.log.ty.now) (b.script old.log.body) (goes_on_extending (reader_of old)) (reader_of new))
    pub left : OnOk result (HasFewerOn old new)
    pub stopped : (v : View) → SpansAt old v → OnErr result (IsPrefixOf old new v)
    pub script : b.script new.log.body ≡ b.script old.log.body
    pub left_at_reset : b.left_at_reset new.log.body ≡ b.left_at_reset old.log.body
    pub ty : new.log.ty ≡ old.log.ty

  -- c is what the trait of the pass says
  module _ {C : Type 0} (c : cells.Ghosts C T) where
    -- the next event was made, and what it tells
    abbrev pub MakesNext : Attempt T B → Attempt T B → C → C → Result Turn NoMemory → Type 0
    MakesNext old new here there result = Steps (c.passes here) old.read_phase (event_of old) old new (c.view here) (c.view there) result

    -- what the event e of a read phase found has led from the one to the other, as it does by the plain data
    abbrev pub ReadsAs : ReadPhase → Event → Attempt T B → Attempt T B → C → C → Result Turn NoMemory → Type 0
    ReadsAs read_phase e old new here there result =
        IfOk result (ReadsBy (t.meaning old.log.ty.now) (b.script old.log.body) t.valid (c.passes here) read_phase e (reader_of old) (reader_of new) (c.view here) (c.view there))

    -- the next word of the part that is being read was read, as a step does
    pub record HasReadOne (old new : Attempt T B) (here there : C) (result : Result Turn NoMemory) : Type 0 where
      pub steps : MakesNext old new here there result
      pub prefix : IsPrefixOf old new (c.view there)
      pub one : IfOk result (λ turn. turn ≡ More) × OnOk result (words_left new + 1 ≡ words_left old)
      pub longer : OnOk result (length new.log.table.words.items ≡ length old.log.table.words.items + 1)
      pub same : c.same here there

    -- the clock was loaded, and the body was run up to the next event
    pub record HasStarted (old new : Attempt T B) (here there : C) (result : Result Turn NoMemory) : Type 0 where
      pub event : OneEvent (λ e. e ≡ Start) t.valid (c.passes here) (c.view here) (c.view there)
      pub log : OnOk result (IsLogOf old new)
      pub turned : IfOk result (HasTurned old new (c.view there))
      pub grown : OnOk result (HasGrown old new)
      pub extension : new.log.table.extension ≡ old.log.table.extension
      pub moves : OnOk result (HasBegun new.read_phase × (new.at ≡ (c.view there).at))
      pub reads : ReadsAs Unstarted Start old new here there result
      pub left : OnOk result (HasFewer Unstarted old new)
      -- it is never aborted
      pub alone : IfOk result (λ turn. IsFirst new.read_phase × IsUnaborted turn)
      pub err : OnErr result (HasStopped old new (c.view there))
      pub script : b.script new.log.body ≡ b.script old.log.body
      pub left_at_reset : b.left_at_reset new.log.body ≡ b.left_at_reset old.log.body
      pub ty : new.log.ty ≡ old.log.ty
      pub same : c.same here there

    -- one event was made at a read phase, and the body was run up to the next one; also after want of memory the replies are a prefix
    pub record HasStepped (read_phase : ReadPhase) (e : Event) (old new : Attempt T B) (here there : C) (result : Result Turn NoMemory) : Type 0 where
      pub steps : Steps (c.passes here) read_phase e old new (c.view here) (c.view there) result
      pub stopped : OnErr result (IsPrefixOf old new (c.view there))
      pub same : c.same here there

    -- one word more was read of the part that is being read
    pub record HasReadWord (read_phase : ReadPhase) (part : ℕ) (old new : Attempt T B) (here there : C) (result : Result Turn NoMemory) : Type 0 where
      pub event : OneEvent (λ e. e ≡ Word part (length old.log.table.words.items)) t.valid (c.passes here) (c.view here) (c.view there)
      pub turned : IfOk result (HasTurned old new (c.view there))
      pub moves : OnOk result (HasBegun new.read_phase × (new.at ≡ old.at))
      pub left : OnOk result (HasFewer read_phase old new)
      pub alone : IfOk result (λ turn. (IsFirst read_phase → IsFirst new.read_phase) × IsUnaborted turn)
      pub err : OnErr result (HasStopped old new (c.view there))
      pub one : IfOk result (λ turn. turn ≡ More) × OnOk result (words_left new + 1 ≡ words_left old)
      pub longer : OnOk result (length new.log.table.words.items ≡ length old.log.table.words.items + 1)
      pub reads : ReadsAs read_phase (Word part (length old.log.table.words.items)) old new here there result
      -- nothing but the words was changed
      pub log : new.log ≡ with_words old.log new.log.table.words
      pub extension : new.log.table.extension ≡ old.log.table.extension
      pub same : c.same here there

  -- what the commit of an attempt with these lists is to do
  abbrev pub deal_with : Attempt T B → Lists → Deal
  deal_with a l =
      deal (t.meaning a.log.ty.now) t.valid (t.sizes a.log.ty.now) (b.script a.log.body) a.at a.log.table.base.items a.log.table.set.items (heard a)
      l.updates.items l.seen.items l.loaded.items l.tasks.items l.checks.items l.places.items

  -- the lists of its commit, with room for what the commit finds and loads
  pub record IsStocked (a : Attempt T B) (l : Lists) : Type 0 where
    pub gathered : AreGathered a.log.table.set.items a.log.table.set.updates l.seen.items l.loaded.items l.tasks.items l.checks.items l.places.items
    pub planned : IsPlanned (deal_with a l)
    pub left : commit_left (deal_with a l) (Locking 0) ≤ left_committing (t.meaning a.log.ty.now).widths
    pub updates : l.updates.items ≡ a.log.table.set.updates
    pub unfound : l.found_tickets.items ≡ []
    pub room : length l.updates.items + length l.tasks.items ≤ l.found_tickets.spare
    pub unloaded : l.loaded_words.items ≡ []
    pub space : HasSpace (t.meaning a.log.ty.now).widths l.tasks.items 0 0 l.loaded_words
