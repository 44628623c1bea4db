-- How an attempt stands to the view of its pass between two events.
use Rattle.std.specs.Prelude.{◌≡◌, ◌≢◌, ◌≤◌, ◌<◌, ℕ, suc, ℤ, List, [], ◌∷◌, ◌++◌, length, map, nat_lt, if◌then◌else◌, slice_index_or, Bool, true, false}
use Rattle.sto_item.specs.Pending.{Entry as Update}
use Rattle.sto_model.specs.declared.body.Next.{Next}
use Rattle.sto_model.specs.declared.body.Next.TheVariants.{Commit}
use Rattle.sto_model.specs.Asked.{AsksSuch}
use Rattle.sto_model.specs.PlainReplies.{PlainReply}
use Rattle.sto_model.specs.Run.{Behaviour}
use Rattle.sto_core.specs.declared.view.Phase.TheVariants as P
use Rattle.sto_core.specs.declared.view.Entry.{Entry}
use Rattle.sto_core.specs.declared.view.Fate.TheVariants.{Pending}
use Rattle.sto_core.specs.declared.view.View.{View}
use Rattle.sto_core.specs.Reads.{Reads}
use Rattle.sto_core.specs.History.{Validity}
use Rattle.sto_core.specs.Allowed.{IsIdle}
use Rattle.sto_core.specs.Tells.{ClaimsFit}
use Rattle.sto_type.specs.Meaning.{Meaning, is_empty}
use Rattle.sto_attempt_log.specs.declared.read_entry.ReadEntry.{ReadEntry}
use Rattle.sto_attempt_log.specs.declared.read_phase.ReadPhase.{ReadPhase}
use Rattle.sto_attempt_log.specs.declared.read_phase.ReadPhase.TheVariants.{Unstarted, Opening, Reading, Renewing, Rechecking, Reopening, Rereading, Committing, Over}
use Rattle.sto_attempt_log.specs.declared.verdict.Turn.{Turn}
use Rattle.sto_attempt_log.specs.declared.verdict.Turn.TheVariants.{More, Ready, Ended}
use Rattle.sto_attempt_log.specs.declared.verdict.Verdict.{Verdict}
use Rattle.sto_attempt_log.specs.declared.verdict.Verdict.TheVariants.{Wrote, Read, Cancelled, Locked, Changed}
use Rattle.sto_attempt_log.specs.declared.extension.Extension.{Extension}
use Rattle.sto_attempt_log.specs.ReadSet.{words_in, AreClaimed, AreOnly, AreBelow}
use Rattle.sto_attempt_log.specs.Extending.{StaysWatched}
use Rattle.sto_item.specs.declared.item.Item.{Item}
use Rattle.sto_item.specs.Observed.{Watched, IsObserved}
use Rattle.sto_item.specs.Watched.{watched}
use Rattle.sto_core.specs.Lists.{Each, Among}
use Rattle.sto_type.specs.Known.{Known}
use Rattle.sto_attempt_log.specs.Every.{AllOf}
use Rattle.sto_attempt_log.specs.Log.{IsNeeded}
use Rattle.sto_core.specs.Event.{Event, Start, Open, Word, Close, Renew, Recheck}
use Rattle.sto_attempt_log.specs.Answers.{HasRead, HasCancelled, WasLocked, WasChanged}

-- words with their places, from i on
abbrev pub numbered : ℕ → List ℤ → Reads
numbered i [] = []
numbered i (w ∷ ws) = (i, w) ∷ numbered (suc i) ws

-- the pass names the type: it has its sizes, and opened with contents that are valid for it
pub record IsOwn (m : Meaning) (sizes : List ℕ) (v : View) : Type 0 where
  pub same_sizes : v.sizes ≡ sizes
  pub opening : m.valid v.opening

-- no entry of the pass is pending
abbrev pub AreDecided : View → Type 0
AreDecided v = Each (λ (e : Entry). e.fate ≢ Pending) v.entries

-- the phase of the pass
abbrev pub InReadPhase : Meaning → ℕ → ReadPhase → List ℤ → View → Type 0
InReadPhase m at Unstarted ws v = IsIdle v.phase
InReadPhase m at (Opening p) ws v = v.phase ≡ P.Reading
InReadPhase m at (Reading p t) ws v =
    (v.phase ≡ P.Looking (record { part = p; ticket = t; reads = numbered 0 ws })) × (t ≤ at) × (length ws ≤ slice_index_or m.widths p 0)
InReadPhase m at (Renewing p t) ws v = (v.phase ≡ P.Reading) × (at < t) × Among (record { start = v.starts; ticket = t; part = p }) v.wrote
InReadPhase m at (Rechecking p) ws v = ⊥
InReadPhase m at (Reopening p) ws v = ⊥
InReadPhase m at (Rereading p t) ws v = ⊥
InReadPhase m at Committing ws v = v.phase ≡ P.Reading
InReadPhase m at Over ws v = IsIdle v.phase

-- what the body waits for
abbrev pub Awaits : Meaning → Behaviour → List ReadEntry → List Update → List PlainReply → ReadPhase → Type 0
Awaits m f base es rs (Opening p) = IsNeeded m (f rs) (words_in base) es p
Awaits m f base es rs (Reading p t) = IsNeeded m (f rs) (words_in base) es p
Awaits m f base es rs (Renewing p t) = IsNeeded m (f rs) (words_in base) es p
Awaits m f base es rs (Rechecking p) = ⊥
Awaits m f base es rs (Reopening p) = ⊥
Awaits m f base es rs (Rereading p t) = ⊥
Awaits m f base es rs Committing = (f rs ≡ Commit) × (is_empty es ≡ false)
Awaits m f base es rs Unstarted = Unit {0}
Awaits m f base es rs Over = Unit {0}

-- the view is as the earlier steps left it: the parts that were read are claimed as of `at`, and the phase is that of the read phase
pub record Fits (m : Meaning) (valid : Validity) (sizes : List ℕ) (f : Behaviour) (at : ℕ) (read_phase : ReadPhase) (words : List ℤ) (base : List ReadEntry) (es : List Update) (rs : List PlainReply) (v : View) : Type 0 where
  pub own : IsOwn m sizes v
  pub unheld : v.held ≡ []
  pub decided : AreDecided v
  pub draws : 0 < v.draws
  pub number : v.at ≡ at
  pub claimed : AreClaimed v at base
  pub only : AreOnly v at base
  pub below : AreBelow v at
  pub fit : ClaimsFit valid v
  pub stands : InReadPhase m at read_phase words v
  pub awaits : Awaits m f base es rs read_phase

-- what a verdict of a reading attempt tells
abbrev pub Ends : Meaning → Behaviour → View → ℕ → List PlainReply → Verdict → Type 0
Ends m f v at rs (Wrote t) = ⊥
Ends m f v at rs (Read n) = (n ≡ at) × HasRead m f v at rs
Ends m f v at rs (Cancelled n) = (n ≡ at) × HasCancelled m f v at rs
Ends m f v at rs (Locked n p) = (n ≡ at) × WasLocked m f v at p rs
Ends m f v at rs (Changed n p t) = (n ≡ at) × WasChanged m f v at p t rs

-- the pass holds nothing, has no pending entry, and may start again
pub record IsLeft (v : View) : Type 0 where
  pub idle : IsIdle v.phase
  pub unheld : v.held ≡ []
  pub decided : AreDecided v

-- during an extension the pass has two numbers: its standing claims are as of `at`, and it reads anew as of `bound`
pub record Spans (m : Meaning) (valid : Validity) (sizes : List ℕ) (at bound : ℕ) (base fresh : List ReadEntry) (v : View) : Type 0 where
  pub own : IsOwn m sizes v
  pub unheld : v.held ≡ []
  pub decided : AreDecided v
  pub draws : 0 < v.draws
  pub number : v.at ≡ bound
  pub above : at < bound
  pub claimed : AreClaimed v at base
  pub renewed : AreClaimed v bound fresh
  pub only : AreOnly v bound fresh
  pub below : AreBelow v bound
  pub fit : ClaimsFit valid v

-- the first of the watches were read anew, and stay so; these are left
pub record IsRenewed (long : ℕ) (old : Known) (fresh : List ReadEntry) (watches left : List Watched) : Type 0 where
  pub done : List Watched
  pub all : watches ≡ done ++ left
  pub parts : map (λ (s : ReadEntry). s.part) fresh ≡ map (λ (w : Watched). w.part) done
  pub stay : AllOf (StaysWatched long old (words_in fresh)) done

-- the next one is of this part, which was seen as a whole or not
pub record IsNext (long : ℕ) (old : Known) (fresh : List ReadEntry) (watches : List Watched) (seen : Bool) (part : ℕ) : Type 0 where
  pub next : Watched
  pub more : List Watched
  pub renewed : IsRenewed long old fresh watches (next ∷ more)
  pub on : next.part ≡ part
  pub whole : next.seen ≡ seen

-- the phase, and the watch that is next
abbrev pub InExtension : Meaning → ℕ → Known → List ReadEntry → List Watched → ReadPhase → List ℤ → View → Type 0
InExtension m bound old fresh watches (Rechecking p) ws v = (v.phase ≡ P.Reading) × IsNext (length m.widths) old fresh watches true p
InExtension m bound old fresh watches (Reopening p) ws v = (v.phase ≡ P.Reading) × IsNext (length m.widths) old fresh watches false p
InExtension m bound old fresh watches (Rereading p t) ws v =
    (v.phase ≡ P.Looking (record { part = p; ticket = t; reads = numbered 0 ws })) × (t ≤ bound) × (length ws ≤ slice_index_or m.widths p 0)
    × IsNext (length m.widths) old fresh watches false p
InExtension m bound old fresh watches _ ws v = ⊥

-- a call of the body is running
abbrev pub IsCalling : Next → Type 0
IsCalling next = AsksSuch (λ call. Unit {0}) next

-- the view is as the earlier steps of an extension left it, and the call that made it is running still
pub record Renews (m : Meaning) (valid : Validity) (sizes : List ℕ) (next : Next) (at : ℕ) (read_phase : ReadPhase) (words : List ℤ) (extension : Extension) (base : List ReadEntry) (items : List Item) (v : View) : Type 0 where
  pub spans : Spans m valid sizes at extension.bound base extension.fresh.items v
  pub observed : IsObserved items (map watched extension.watches.items)
  pub extended : extension.extended ≡ true
  pub asks : IsCalling next
  pub stands : InExtension m extension.bound (words_in base) extension.fresh.items (map watched extension.watches.items) read_phase words v

-- where the running call has extended, the attempt reads as of the number of the extension
abbrev pub IsAsOf : ℕ → Extension → Type 0
IsAsOf at extension = extension.extended ≡ true → at ≡ extension.bound

-- what the next step asks of the view: of the first one, of one of a first reading, of one of an extension
abbrev pub Goes : Meaning → Validity → List ℕ → Behaviour → ℕ → ReadPhase → List ℤ → Extension → List ReadEntry → List Item → List Update → List PlainReply → View → Type 0
Goes m valid sizes f at Unstarted words extension base items es rs v = IsIdle v.phase × (v.sizes ≡ sizes) × (0 < v.draws) × (base ≡ []) × (extension.extended ≡ false)
Goes m valid sizes f at (Opening p) words extension base items es rs v = Fits m valid sizes f at (Opening p) words base es rs v × IsAsOf at extension
Goes m valid sizes f at (Reading p t) words extension base items es rs v = Fits m valid sizes f at (Reading p t) words base es rs v × IsAsOf at extension
Goes m valid sizes f at (Renewing p t) words extension base items es rs v = Fits m valid sizes f at (Renewing p t) words base es rs v
Goes m valid sizes f at (Rechecking p) words extension base items es rs v = Renews m valid sizes (f rs) at (Rechecking p) words extension base items v
Goes m valid sizes f at (Reopening p) words extension base items es rs v = Renews m valid sizes (f rs) at (Reopening p) words extension base items v
Goes m valid sizes f at (Rereading p t) words extension base items es rs v = Renews m valid sizes (f rs) at (Rereading p t) words extension base items v
Goes m valid sizes f at Committing words extension base items es rs v = ⊥
Goes m valid sizes f at Over words extension base items es rs v = ⊥

-- the body is at its end, and the pass stands as between two reads: where the body is given more to do, the attempt may go on
abbrev pub MayGoOn : Meaning → Validity → List ℕ → Behaviour → ℕ → List ℤ → List ReadEntry → List Update → List PlainReply → View → Type 0
MayGoOn m valid sizes f at words base es rs v = Fits m valid sizes f at Over words base es rs v × (v.phase ≡ P.Reading)

-- what an end tells, and that after one without an update the attempt may go on
abbrev pub EndsAs : Meaning → Validity → List ℕ → Behaviour → ℕ → List ℤ → List ReadEntry → List Update → List PlainReply → View → Verdict → Type 0
EndsAs m valid sizes f at words base es rs v (Read n) = Ends m f v at rs (Read n) × MayGoOn m valid sizes f at words base es rs v
EndsAs m valid sizes f at words base es rs v verdict = Ends m f v at rs verdict

-- what a turn tells; after an end the number of the verdict is not above that of the view
abbrev pub Turned : Meaning → Validity → List ℕ → Behaviour → ℕ → ReadPhase → List ℤ → Extension → List ReadEntry → List Item → List Update → List PlainReply → View → Turn → Type 0
Turned m valid sizes f at read_phase words extension base items es rs v More = Goes m valid sizes f at read_phase words extension base items es rs v
Turned m valid sizes f at read_phase words extension base items es rs v Ready = Fits m valid sizes f at read_phase words base es rs v × (read_phase ≡ Committing)
Turned m valid sizes f at read_phase words extension base items es rs v (Ended verdict) = (read_phase ≡ Over) × IsLeft v × (at ≤ v.at) × EndsAs m valid sizes f at words base es rs v verdict

-- the next event within a read that has read these words: the next word, or the end
abbrev pub reading_event : List ℕ → ℕ → List ℤ → Event
reading_event widths p words = if nat_lt (length words) (slice_index_or widths p 0) then Word p (length words) else Close p

-- the event of the next step; there is none before a commit and after the end
abbrev pub next_event : List ℕ → ReadPhase → List ℤ → Event
next_event widths Unstarted words = Start
next_event widths (Opening p) words = Open p
next_event widths (Reading p t) words = reading_event widths p words
next_event widths (Renewing p t) words = Renew
next_event widths (Rechecking p) words = Recheck p
next_event widths (Reopening p) words = Open p
next_event widths (Rereading p t) words = reading_event widths p words
next_event widths Committing words = Start
next_event widths Over words = Start

-- whether the running call of the body has extended is told truly: a renew alone makes it so, and the next reply ends it; and the number is that of the last renew
abbrev pub KeepsExtension : ReadPhase → View → Extension → List PlainReply → Extension → List PlainReply → Type 0
KeepsExtension (Renewing p t) v old rs new now = (new.bound ≡ v.at) × (new.extended ≡ true → now ≡ rs)
KeepsExtension _ v old rs new now = (new.bound ≡ old.bound) × (new.extended ≡ true → (old.extended ≡ true) × (now ≡ rs))

-- the attempt has made an event
abbrev pub HasBegun : ReadPhase → Type 0
HasBegun Unstarted = ⊥
HasBegun _ = Unit {0}

-- how a step moves the number of an attempt: the first takes that of the view, and no later one lowers it
abbrev pub Moves : ReadPhase → ℕ → ReadPhase → ℕ → View → Type 0
Moves Unstarted old new at v = HasBegun new × (at ≡ v.at)
Moves _ old new at v = HasBegun new × (old ≤ at)

-- the attempt has not come to an extension
abbrev pub IsFirst : ReadPhase → Type 0
IsFirst (Renewing p t) = ⊥
IsFirst (Rechecking p) = ⊥
IsFirst (Reopening p) = ⊥
IsFirst (Rereading p t) = ⊥
IsFirst _ = Unit {0}

-- it was not aborted
abbrev pub IsUnaborted : Turn → Type 0
IsUnaborted (Ended (Locked n p)) = ⊥
IsUnaborted (Ended (Changed n p t)) = ⊥
IsUnaborted _ = Unit {0}
