-- What an attempt does next, over plain data: the event of its next step, and where that which the event finds leads it. Its body runs without an event, up to the next
-- part that it needs or to its end; after that it commits. All is a function of the meaning of the type, of the script of the body, and of what the attempt has found out.
use Rattle.std.specs.Prelude.{◌≡◌, ◌+◌, ℕ, zero, suc, ℤ, pos, nat_eq, nat_le, nat_lt, ◌&&◌, if◌then◌else◌, Bool, true, false, not, Option, Some, None, List, [], ◌∷◌, ◌++◌, length, map, drop, replicate, slice_index_or, IsTrue, ◌↔◌}
use Rattle.std.specs.List.{list_any, list_all}
use Rattle.std.specs.Option.{option_map_or}
use Rattle.sto_part.specs.declared.change.Change.{Change}
use Rattle.sto_part.specs.declared.pred.Pred.{Pred}
use Rattle.sto_part.specs.Changes.{applied, applied_all}
use Rattle.sto_part.specs.Preds.{holds_of}
use Rattle.sto_item.specs.declared.item.Item.{Item}
use Rattle.sto_item.specs.Pending.{Entry as Update, changes_of, change_at, applied_updates, with_updates}
use Rattle.sto_item.specs.Observed.{Watched, watch_at, part_of_item}
use Rattle.sto_item.specs.Rebase.{overwrites, rebased}
use Rattle.sto_item.specs.Recorded.{Recorded, AddsItems}
use Rattle.sto_model.specs.declared.call.Call.{Call}
use Rattle.sto_model.specs.declared.body.Next.TheVariants.{Ask, Commit, Cancel}
use Rattle.sto_model.specs.SequentialObjects.{reply_to}
use Rattle.sto_model.specs.PlainReplies.{PlainReply}
use Rattle.sto_model.specs.Run.{Behaviour}
use Rattle.sto_core.specs.Versions.{ticket_of, is_free}
use Rattle.sto_core.specs.History.{writes}
use Rattle.sto_core.specs.Reads.{value_read}
use Rattle.sto_core.specs.declared.view.View.{View}
use Rattle.sto_core.specs.History.{Validity}
use Rattle.sto_core.specs.Tells.{Tells}
use Rattle.sto_core.specs.Event.{Event, Start, Word, Close, Lock, Test, Draw, Check, Decide, Put, Release, Unlock}
use Rattle.sto_type.specs.Known.{Parts, Known, IsPartOf}
use Rattle.sto_type.specs.Meaning.{Meaning, is_empty}
use Rattle.sto_attempt_log.specs.declared.log.Reached.{Reached}
use Rattle.sto_attempt_log.specs.declared.log.Reached.TheVariants.{Needs, Commits, Cancels}
use Rattle.sto_attempt_log.specs.declared.read_entry.ReadEntry.{ReadEntry}
use Rattle.sto_attempt_log.specs.declared.read_phase.ReadPhase.{ReadPhase}
use Rattle.sto_attempt_log.specs.declared.read_phase.ReadPhase.TheVariants as R
use Rattle.sto_attempt_log.specs.declared.commit_phase.CommitPhase.{CommitPhase}
use Rattle.sto_attempt_log.specs.declared.commit_phase.CommitPhase.TheVariants as S
use Rattle.sto_attempt_log.specs.declared.commit_phase.FoundTicket.{FoundTicket}
use Rattle.sto_attempt_log.specs.declared.commit_phase.LoadedWord.{LoadedWord}
use Rattle.sto_attempt_log.specs.declared.verdict.Turn.{Turn}
use Rattle.sto_attempt_log.specs.declared.verdict.Turn.TheVariants.{More, Ready, Ended}
use Rattle.sto_attempt_log.specs.declared.verdict.Verdict.{Verdict}
use Rattle.sto_attempt_log.specs.declared.verdict.Verdict.TheVariants.{Wrote, Read, Cancelled, Locked, Changed}
use Rattle.sto_attempt_log.specs.ReadSet.{words_in, ticket_in}
use Rattle.sto_attempt_log.specs.Flat.{entry_with}
use Rattle.sto_attempt_log.specs.Gathering.{gathered, seen_part, other_part, is_add, places_at}
use Rattle.sto_attempt_log.specs.Standing.{next_event}
use Rattle.sto_attempt_log.specs.CommitPhases.{reads_of, ticket_from, expected_of, goes_on}

-- a part as it is known: it was read, and its pending changes are applied; or they put it whole
abbrev pub known_by : Option (List ℤ) → List Change → ℕ → Option (List ℤ)
known_by (Some ws) changes width = Some (applied_all changes ws)
known_by None changes width = if overwrites changes then Some (applied_all changes (replicate width (pos 0))) else None

-- all that is known without an event
abbrev pub known_now : Meaning → List ReadEntry → List Update → Known
known_now m base us p = known_by (words_in base p) (changes_of us p) (slice_index_or m.widths p 0)

-- an attempt whose body is not at its commit
pub record Reader : Type 0 where
  -- the number of the clock as of which it reads
  pub at : ℕ
  -- where it stands
  pub phase : ReadPhase
  -- the words of the open read, in order
  pub words : List ℤ
  -- the parts that were read
  pub base : List ReadEntry
  -- the items and the pending updates of the calls that were answered
  pub set : Recorded
  -- what they were answered
  pub heard : List PlainReply
  -- whether the running call has extended
  pub extended : Bool
  -- the number as of which an extension reads anew
  pub bound : ℕ
  -- the parts that it has read anew
  pub fresh : List ReadEntry
  -- what the last extension reads anew, part by part
  pub watches : List Watched

-- the next call of the body is answered on what is known: its items and updates are added, and the body hears the reply
pub record Answers (m : Meaning) (f : Behaviour) (r s : Reader) : Type 0 where
  pub call : Call
  pub asks : f r.heard ≡ Ask call
  pub needless : m.need call (known_now m r.base r.set.updates) ≡ None
  pub reply : PlainReply
  pub updates : List Update
  -- on some valid contents that have the parts that were read, and the same on all of them
  pub some : (d : Parts) × m.valid d × IsPartOf (words_in r.base) d
  pub says : (d : Parts) → m.valid d → IsPartOf (words_in r.base) d
      → (reply ≡ reply_to m.machines call (m.rows (applied_updates r.set.updates d))) × (updates ≡ m.updates call (applied_updates r.set.updates d))
  pub observed : Recorded
  pub adds : AddsItems r.set (rebased r.set.updates (m.items call (known_now m r.base r.set.updates))) observed
  pub after : s ≡ record r { set = record { items = observed.items; updates = with_updates r.set.updates updates }; heard = r.heard ++ reply ∷ []; extended = false }

-- the body has come to a part that it needs, or to its end
abbrev pub Halts : Meaning → Behaviour → Reader → Reached → Type 0
Halts m f r (Needs p) = (call : Call) × (f r.heard ≡ Ask call) × (m.need call (known_now m r.base r.set.updates) ≡ Some p)
Halts m f r Commits = f r.heard ≡ Commit
Halts m f r Cancels = f r.heard ≡ Cancel

-- the body runs on without an event, over so many calls
abbrev pub RunsOn : Meaning → Behaviour → ℕ → Reader → Reader → Reached → Type 0
RunsOn m f zero r s reached = (s ≡ r) × Halts m f r reached
RunsOn m f (suc n) r s reached = (q : Reader) × Answers m f r q × RunsOn m f n q s reached

-- where a step has led a reader: it stands there, with this turn; or its body runs on from there
pub data Course : Type 0 where
  Stays : Reader → Turn → Course
  Runs : Reader → Course

-- the attempt stands at a phase, with a further event
abbrev pub moves : Reader → ReadPhase → Course
moves r phase = Stays (record r { phase = phase }) More

-- it has ended
abbrev pub ends : Reader → Verdict → Course
ends r verdict = Stays (record r { phase = R.Over }) (Ended verdict)

-- the body has come to a part, or to its end: a body that commits without an update has only read
abbrev pub led : Reader → Reached → Course
led r (Needs p) = moves r (R.Opening p)
led r Commits = if is_empty r.set.updates then ends r (Read r.at) else Stays (record r { phase = R.Committing }) Ready
led r Cancels = ends r (Cancelled r.at)

-- an open found the version n: where it is newer than the number, the attempt extends, once in a call
abbrev pub opened : Reader → ℕ → ℕ → Course
opened r p n =
    if not (is_free n) then ends r (Locked r.at p)
    else if nat_le (ticket_of n) r.at then Stays (record r { phase = R.Reading p (ticket_of n); words = [] }) More
    else if r.extended then ends r (Changed r.at p (ticket_of n))
    else moves r (R.Renewing p (ticket_of n))

-- a version was found of a part that had the ticket t: the part is as it was, or the attempt ends
abbrev pub unless_changed : Reader → ℕ → ℕ → ℕ → Course → Course
unless_changed r p t n on =
    if not (is_free n) then ends r (Locked r.at p)
    else if nat_eq (ticket_of n) t then on
    else ends r (Changed r.at p (ticket_of n))

-- the next word x of a part is read
abbrev pub with_word : Reader → ℤ → Course
with_word r x = Stays (record r { words = r.words ++ x ∷ [] }) More

-- what items observe, part by part
abbrev pub watches_of : List Item → List Watched
watches_of items = map (watch_at items) (gathered (λ i. Some (part_of_item i)) [] items)

-- an extension goes on to the first of these watches; where there is none, the attempt reads as of the bound, and knows the parts that were read anew and no others
abbrev pub goes_on_to : Reader → List Watched → Course
goes_on_to r [] = Runs (record r { at = r.bound; base = r.fresh; fresh = [] })
goes_on_to r (w ∷ ws) = moves r (if w.seen then R.Rechecking w.part else R.Reopening w.part)

-- the watches that were not read anew
abbrev pub watches_left : Reader → List Watched
watches_left r = drop (length r.fresh) r.watches

abbrev pub goes_on_extending : Reader → Course
goes_on_extending r = goes_on_to r (watches_left r)

-- the next watch was read anew, with these words
abbrev pub renewed : Reader → ℕ → ℕ → List ℤ → Course
renewed r p t ws = goes_on_extending (record r { fresh = r.fresh ++ entry_with p t ws ∷ [] })

-- the predicates of the first watch are true of these words
abbrev pub are_so : List Watched → List ℤ → Bool
are_so [] ws = true
are_so (w ∷ others) ws = list_all (λ (q : Pred). holds_of q (slice_index_or ws q.word (pos 0))) w.preds

-- the ticket and the words with which a part was read
abbrev pub ticket_read : Reader → ℕ → ℕ
ticket_read r p = option_map_or (λ (t : ℕ). t) (ticket_in r.base p) 0

abbrev pub words_of_part : Reader → ℕ → List ℤ
words_of_part r p = option_map_or (λ (ws : List ℤ). ws) (words_in r.base p) []

-- where the event of a phase leads, which found the number n in a clock or a version, or the value x in a word
abbrev pub after_read : Meaning → ReadPhase → Reader → ℕ → ℤ → Course
after_read m R.Unstarted r n x = Runs (record r { at = n })
after_read m (R.Opening p) r n x = opened r p n
after_read m (R.Reading p t) r n x =
    if nat_lt (length r.words) (slice_index_or m.widths p 0) then with_word r x
    else unless_changed r p t n (Runs (record r { base = r.base ++ entry_with p t r.words ∷ [] }))
after_read m (R.Renewing p t) r n x = goes_on_extending (record r { bound = n; extended = true; fresh = []; watches = watches_of r.set.items })
after_read m (R.Rechecking p) r n x =
    unless_changed r p (ticket_read r p) n (renewed r p (ticket_read r p) (words_of_part r p))
after_read m (R.Reopening p) r n x =
    if not (is_free n) then ends r (Locked r.at p)
    else if nat_le (ticket_of n) r.bound then Stays (record r { phase = R.Rereading p (ticket_of n); words = [] }) More
    else ends r (Changed r.at p (ticket_of n))
after_read m (R.Rereading p t) r n x =
    if nat_lt (length r.words) (slice_index_or m.widths p 0) then with_word r x
    else unless_changed r p t n (if are_so (watches_left r) r.words then renewed r p t r.words else ends r (Changed r.at p t))
after_read m R.Committing r n x = Stays r Ready
after_read m R.Over r n x = Stays r More

-- a course comes to this reader with this turn
abbrev pub ComesTo : Meaning → Behaviour → Course → Reader → Turn → Type 0
ComesTo m f (Stays r turn) s end = (s ≡ r) × (end ≡ turn)
ComesTo m f (Runs r) s end = (n : ℕ) × (q : Reader) × (reached : Reached) × RunsOn m f n r q reached × (Stays s end ≡ led q reached)

-- a step of a reader, whose event found the number n or the value x
abbrev pub ReadsOn : Meaning → Behaviour → Reader → ℕ → ℤ → Reader → Turn → Type 0
ReadsOn m f r n x s turn = ComesTo m f (after_read m r.phase r n x) s turn

-- the commit of an attempt
pub record Committer : Type 0 where
  -- the number as of which it has read
  pub at : ℕ
  -- the parts that were read, the items, the updates, and what the calls were answered
  pub base : List ReadEntry
  pub items : List Item
  pub us : List Update
  pub heard : List PlainReply
  -- the parts that are seen, the other parts that are observed, the parts whose words are loaded, the parts that are checked, and the words that are put
  pub seen : List ℕ
  pub loaded : List ℕ
  pub tasks : List ℕ
  pub checks : List ℕ
  pub places : List (ℕ × ℕ)
  -- the tickets and the words that it has found
  pub tickets : List FoundTicket
  pub loads : List LoadedWord
  -- where it stands
  pub phase : CommitPhase

-- the part of an update that adds
abbrev pub part_added : Update → Option ℕ
part_added u = if list_any is_add u.1 then Some u.0 else None

-- the part, if no update is of it
abbrev pub part_unwritten : List Update → ℕ → Option ℕ
part_unwritten us p = if writes us p then None else Some p

-- the words that updates change
abbrev pub places_of : List Update → List (ℕ × ℕ)
places_of [] = []
places_of (u ∷ us) = places_at u.0 0 u.1 ++ places_of us

-- what a body that commits with an update is led by
abbrev pub seen_of : List Item → List ℕ
seen_of items = gathered seen_part [] items

abbrev pub loaded_of : List Item → List ℕ
loaded_of items = gathered (other_part (seen_of items)) [] items

-- the commit of a reader whose body commits with an update
abbrev pub sealed : Reader → Committer
sealed r = record {
  at = r.at;
  base = r.base;
  items = r.set.items;
  us = r.set.updates;
  heard = r.heard;
  seen = seen_of r.set.items;
  loaded = loaded_of r.set.items;
  tasks = gathered part_added (loaded_of r.set.items) r.set.updates;
  checks = gathered (part_unwritten r.set.updates) (seen_of r.set.items) (loaded_of r.set.items);
  places = places_of r.set.updates;
  tickets = [];
  loads = [];
  phase = S.Locking 0;
}

-- the part of the update, of the load and of the check at a place, and the word that is put there
abbrev pub written_at : Committer → ℕ → ℕ
written_at c k = slice_index_or (map (λ (u : Update). u.0) c.us) k 0

abbrev pub task_at : Committer → ℕ → ℕ
task_at c k = slice_index_or c.tasks k 0

abbrev pub check_at : Committer → ℕ → ℕ
check_at c k = slice_index_or c.checks k 0

abbrev pub place_at : Committer → ℕ → ℕ × ℕ
place_at c k = slice_index_or c.places k (0, 0)

-- the value that a word is put to: its change, over the word as it was loaded
abbrev pub value_put : Committer → ℕ × ℕ → ℤ
value_put c w = applied (change_at c.us w.0 w.1) (value_read (reads_of c.loads w.0) w.1)

-- the event of the next step of a commit; there is none after the end
abbrev pub commit_event : Meaning → CommitPhase → Committer → Event
commit_event m (S.Locking k) c = Lock (written_at c k)
commit_event m (S.Loading k i) c = Word (task_at c k) i
commit_event m (S.Testing k) c = Test (task_at c k)
commit_event m (S.Tested k i t) c = if nat_lt i (slice_index_or m.widths (task_at c k) 0) then Word (task_at c k) i else Close (task_at c k)
commit_event m S.Drawing c = Draw c.us c.seen c.loaded
commit_event m (S.Checking k t) c = Check (check_at c k)
commit_event m (S.Deciding t) c = Decide true
commit_event m (S.Putting k t) c = Put (place_at c k).0 (place_at c k).1 (value_put c (place_at c k))
commit_event m (S.Releasing k t) c = Release (written_at c k)
commit_event m (S.Dropping t verdict) c = Decide false
commit_event m (S.Leaving k n verdict) c = Unlock (written_at c k)
commit_event m S.Over c = Start

-- the load of the part at a place, or the draw where all are loaded: a held part is loaded at once, another is tested
abbrev pub load_next : Committer → ℕ → CommitPhase
load_next c k =
    if not (nat_lt k (length c.tasks)) then S.Drawing
    else if writes c.us (task_at c k) then S.Loading k 0
    else S.Testing k

-- the check of the part at a place, or the decision where all are checked
abbrev pub check_next : Committer → ℕ → ℕ → CommitPhase
check_next c k t = if nat_lt k (length c.checks) then S.Checking k t else S.Deciding t

-- the put of the word at a place, or the first release where all were put
abbrev pub put_next : Committer → ℕ → ℕ → CommitPhase
put_next c k t = if nat_lt k (length c.places) then S.Putting k t else S.Releasing 0 t

-- a commit that goes on at a phase, and one that has ended
abbrev pub at_phase : Committer → CommitPhase → Committer × Option Verdict
at_phase c phase = (record c { phase = phase }, None)

abbrev pub with_verdict : Committer → Verdict → Committer × Option Verdict
with_verdict c verdict = (record c { phase = S.Over }, Some verdict)

-- the commit gives up, with so many parts locked: the verdict comes at once where there is none
abbrev pub gives_up : Committer → ℕ → Verdict → Committer × Option Verdict
gives_up c zero verdict = with_verdict c verdict
gives_up c (suc k) verdict = at_phase c (S.Leaving 0 (suc k) verdict)

-- the part p was found with a ticket, and its word i with a value
abbrev pub with_ticket : Committer → ℕ → ℕ → Committer
with_ticket c p t = record c { tickets = c.tickets ++ record { part = p; ticket = t } ∷ [] }

abbrev pub with_load : Committer → ℕ → ℕ → ℤ → Committer
with_load c p i x = record c { loads = c.loads ++ record { part = p; word = i; value = x } ∷ [] }

-- the part at a place is loaded: the commit goes on where it is seen or its predicates are true, and else gives up
abbrev pub loaded_next : Committer → ℕ → Committer × Option Verdict
loaded_next c k =
    if goes_on c.seen c.items c.loads (task_at c k) then at_phase c (load_next c (k + 1))
    else at_phase c (S.Leaving 0 (length c.us) (Changed c.at (task_at c k) (ticket_from 0 c.tickets (task_at c k))))

-- where the event of a phase leads a commit, and its verdict with the last one
abbrev pub after_commit : Meaning → CommitPhase → Committer → ℕ → ℤ → Committer × Option Verdict
after_commit m (S.Locking k) c n x =
    if not (is_free n) then gives_up c k (Locked c.at (written_at c k))
    else if nat_lt (k + 1) (length c.us) then at_phase (with_ticket c (written_at c k) (ticket_of n)) (S.Locking (k + 1))
    else at_phase (with_ticket c (written_at c k) (ticket_of n)) (load_next c 0)
after_commit m (S.Loading k i) c n x =
    if nat_lt (i + 1) (slice_index_or m.widths (task_at c k) 0) then at_phase (with_load c (task_at c k) i x) (S.Loading k (i + 1))
    else loaded_next (with_load c (task_at c k) i x) k
after_commit m (S.Testing k) c n x =
    if not (is_free n) then at_phase c (S.Leaving 0 (length c.us) (Locked c.at (task_at c k)))
    else at_phase (with_ticket c (task_at c k) (ticket_of n)) (S.Tested k 0 (ticket_of n))
after_commit m (S.Tested k i t) c n x =
    if nat_lt i (slice_index_or m.widths (task_at c k) 0) then at_phase (with_load c (task_at c k) i x) (S.Tested k (i + 1) t)
    else if not (is_free n) then at_phase c (S.Leaving 0 (length c.us) (Locked c.at (task_at c k)))
    else if nat_eq (ticket_of n) t then loaded_next c k
    else at_phase c (S.Leaving 0 (length c.us) (Changed c.at (task_at c k) (ticket_of n)))
after_commit m S.Drawing c n x = at_phase c (check_next c 0 (suc n))
after_commit m (S.Checking k t) c n x =
    if not (is_free n) && not (writes c.us (check_at c k)) then at_phase c (S.Dropping t (Locked c.at (check_at c k)))
    else if nat_eq (ticket_of n) (expected_of c.base c.tickets c.seen (check_at c k)) then at_phase c (check_next c (k + 1) t)
    else at_phase c (S.Dropping t (Changed c.at (check_at c k) (ticket_of n)))
after_commit m (S.Deciding t) c n x = at_phase c (put_next c 0 t)
after_commit m (S.Putting k t) c n x = at_phase c (put_next c (k + 1) t)
after_commit m (S.Releasing k t) c n x = if nat_lt (k + 1) (length c.us) then at_phase c (S.Releasing (k + 1) t) else with_verdict c (Wrote t)
after_commit m (S.Dropping t verdict) c n x = at_phase c (S.Leaving 0 (length c.us) verdict)
after_commit m (S.Leaving k held verdict) c n x = if nat_lt (k + 1) held then at_phase c (S.Leaving (k + 1) held verdict) else with_verdict c verdict
after_commit m S.Over c n x = (c, None)

-- an attempt, as plain data
pub data Doing : Type 0 where
  Reads : Reader → Doing
  Committing : Committer → Doing

-- it has made no event yet
abbrev pub begun : Doing
begun = Reads (record { at = 0; phase = R.Unstarted; words = []; base = []; set = record { items = []; updates = [] }; heard = []; extended = false; bound = 0; fresh = []; watches = [] })

-- what its calls were answered so far
abbrev pub heard_in : Doing → List PlainReply
heard_in (Reads r) = r.heard
heard_in (Committing c) = c.heard

-- the event of its next step
abbrev pub event_next : Meaning → Doing → Event
event_next m (Reads r) = next_event m.widths r.phase r.words
event_next m (Committing c) = commit_event m c.phase c

-- a turn of the body: a body that is ready is sealed, with no event between
abbrev pub turned : Reader → Turn → Doing × Option Verdict
turned r More = (Reads r, None)
turned r Ready = (Committing (sealed r), None)
turned r (Ended verdict) = (Reads r, Some verdict)

-- a step, whose event found the number n or the value x, leads to this attempt, with the verdict where it has ended
abbrev pub DoesNext : Meaning → Behaviour → Doing → ℕ → ℤ → Doing → Option Verdict → Type 0
DoesNext m f (Reads r) n x later end = (s : Reader) × (turn : Turn) × ReadsOn m f r n x s turn × ((later, end) ≡ turned s turn)
DoesNext m f (Committing c) n x later end = (s : Committer) × ((s, end) ≡ after_commit m c.phase c n x) × (later ≡ Committing s)

-- the event e of a read phase found what leads from the one reader to the other, with this turn
pub record ReadsBy (m : Meaning) (f : Behaviour) (valid : Validity) (passes : ℕ) (read_phase : ReadPhase) (e : Event) (r s : Reader) (v w : View) (turn : Turn) : Type 0 where
  pub number : ℕ
  pub value : ℤ
  pub tells : Tells valid passes e v number value w
  pub leads : ComesTo m f (after_read m read_phase r number value) s turn

-- so many calls of the body were answered
abbrev pub AnswersAll : Meaning → Behaviour → ℕ → Reader → Reader → Type 0
AnswersAll m f zero r s = s ≡ r
AnswersAll m f (suc n) r s = (q : Reader) × Answers m f r q × AnswersAll m f n q s

-- the body of a reader has run on to this set and these replies; the running call has extended where it had, and was not answered
pub record RanTo (m : Meaning) (f : Behaviour) (r : Reader) (set : Recorded) (heard : List PlainReply) : Type 0 where
  pub count : ℕ
  pub now : Reader
  pub answered : AnswersAll m f count r now
  pub kept : now ≡ record r { set = set; heard = heard; extended = now.extended }
  pub extended : IsTrue now.extended ↔ (IsTrue r.extended × (length heard ≡ length r.heard))

-- the body of a reader has run on to this set and these replies, and has come to its end or to a part that it needs
abbrev pub HasComeTo : Meaning → Behaviour → Reader → Recorded → List PlainReply → Reached → Type 0
HasComeTo m f r set heard reached = (ran : RanTo m f r set heard) × Halts m f ran.now reached
