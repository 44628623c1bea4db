-- The definitions of what an attempt does next, as a program: a transaction of a file is played from what its events find.
use Rattle.std.specs.Prelude.{ℕ, zero, suc, ℤ, pos, nat_eq, ◌&&◌, if◌then◌else◌, Bool, true, false, Option, Some, None, Result, Ok, Err, List, [], ◌∷◌, ◌++◌, length, map, replicate, slice_index_or, drop}
use Rattle.std.specs.List.{list_any}
use Rattle.std.specs.Ordering.{int_eq}
use Rattle.sto_part.specs.declared.pred.Pred.{Pred}
use Rattle.sto_item.specs.declared.item.Item.{Item}
use Rattle.sto_item.specs.declared.item.Item.TheVariants.{Seen, Holds}
use Rattle.sto_item.specs.Pending.{applied_updates, with_updates}
use Rattle.sto_item.specs.Rebase.{rebased}
use Rattle.sto_model.specs.declared.call.Call.{Call}
use Rattle.sto_model.specs.declared.body.Next.{Next}
use Rattle.sto_model.specs.declared.body.Next.TheVariants.{Ask, Commit, Cancel}
use Rattle.sto_model.specs.SequentialObjects.{reply_to}
use Rattle.sto_model.specs.PlainReplies.{PlainReply}
use Rattle.sto_model.specs.Run.{Behaviour}
use Rattle.sto_core.specs.Event.{Event, Draw}
use Rattle.sto_type.specs.Known.{Parts}
use Rattle.sto_type.specs.Meaning.{Meaning}
use Rattle.sto_lang.specs.Files.{file_of}
use Rattle.sto_lang.specs.Objects.{shapes_of}
use Rattle.sto_lang.specs.Scripts.{File, Script as Text}
use Rattle.sto_lang.specs.Statements.{Nothing}
use Rattle.sto_lang.specs.declared.fault.ScriptFault.{ScriptFault}
use Rattle.sto_script.specs.Meaning.{meaning_of}
use Rattle.sto_store.specs.Stores.{means}
use Rattle.sto_attempt_log.specs.declared.log.Reached.{Reached}
use Rattle.sto_attempt_log.specs.declared.log.Reached.TheVariants.{Needs, Commits, Cancels}
use Rattle.sto_attempt_log.specs.declared.read_entry.ReadEntry.{ReadEntry}
use Rattle.sto_attempt_log.specs.declared.verdict.Turn.TheVariants.{More}
use Rattle.sto_attempt_log.specs.declared.verdict.Verdict.{Verdict}
use Rattle.sto_attempt_log.specs.ReadSet.{words_in}
use Rattle.sto_attempt_log.specs.Doing.{Reader, Course, Stays, Runs, led, known_now, after_read, Committer, Doing, Reads, Committing, turned, after_commit, event_next, heard_in, begun}

-- The run of a body between two events, as a program

abbrev pub same_pred : Pred → Pred → Bool
same_pred p q = nat_eq p.part q.part && nat_eq p.word q.word && int_eq p.shift q.shift && int_eq p.bound q.bound

abbrev pub same_item : Item → Item → Bool
same_item (Seen p) (Seen q) = nat_eq p q
same_item (Holds p) (Holds q) = same_pred p q
same_item _ _ = false

abbrev pub with_item : List Item → Item → List Item
with_item items item = if list_any (same_item item) items then items else items ++ item ∷ []

abbrev pub with_items : List Item → List Item → List Item
with_items items [] = items
with_items items (i ∷ is) = with_items (with_item items i) is

-- contents that have the parts that were read, with 0 elsewhere
abbrev pub part_with : Option (List ℤ) → ℕ → List ℤ
part_with None width = replicate width (pos 0)
part_with (Some ws) width = ws

abbrev pub filled : List ReadEntry → ℕ → List ℕ → Parts
filled base p [] = []
filled base p (w ∷ ws) = part_with (words_in base p) w ∷ filled base (suc p) ws

-- a call is answered on these contents
abbrev pub answered : Meaning → Parts → Call → Reader → Reader
answered m d call r = record r {
  set = record {
    items = with_items r.set.items (rebased r.set.updates (m.items call (known_now m r.base r.set.updates)));
    updates = with_updates r.set.updates (m.updates call (applied_updates r.set.updates d));
  };
  heard = r.heard ++ reply_to m.machines call (m.rows (applied_updates r.set.updates d)) ∷ [];
  extended = false;
}

abbrev pub at_need : (Reader → Reader × Reached) → Reader → Reader → Option ℕ → Reader × Reached
at_need on r next None = on next
at_need on r next (Some p) = (r, Needs p)

abbrev pub at_next : Meaning → Parts → (Reader → Reader × Reached) → Reader → Next → Reader × Reached
at_next m d on r (Ask call) = at_need on r (answered m d call r) (m.need call (known_now m r.base r.set.updates))
at_next m d on r Commit = (r, Commits)
at_next m d on r Cancel = (r, Cancels)

-- at most so many calls
abbrev pub run_body : Meaning → Behaviour → Parts → ℕ → Reader → Reader × Reached
run_body m f d zero r = (r, Cancels)
run_body m f d (suc n) r = at_next m d (run_body m f d n) r (f r.heard)

-- The steps of an attempt, as a program

abbrev pub to_turn : Course → Doing × Option Verdict
to_turn (Stays r turn) = turned r turn
to_turn (Runs r) = turned r More

abbrev pub to_led : Reader × Reached → Doing × Option Verdict
to_led q = to_turn (led q.0 q.1)

abbrev pub by_course : Meaning → Behaviour → Course → Doing × Option Verdict
by_course m f (Stays r turn) = turned r turn
by_course m f (Runs r) = to_led (run_body m f (filled r.base 0 m.widths) 99 r)

abbrev pub as_doing : Committer × Option Verdict → Doing × Option Verdict
as_doing q = (Committing q.0, q.1)

abbrev pub step_of : Meaning → Behaviour → Doing → ℕ → ℤ → Doing × Option Verdict
step_of m f (Reads r) n x = by_course m f (after_read m r.phase r n x)
step_of m f (Committing c) n x = as_doing (after_commit m c.phase c n x)

-- an event, the replies that it completes, and the end of the attempt
pub record Line : Type 0 where
  pub event : Event
  pub replies : List PlainReply
  pub end : Option Verdict

abbrev pub line : Doing → Event → Doing × Option Verdict → Line
line before event now = record { event = event; replies = drop (length (heard_in before)) (heard_in now.0); end = now.1 }

-- an attempt whose events find these numbers and values: its lines
abbrev pub plays : Meaning → Behaviour → Doing → List (ℕ × ℤ) → List Line
plays m f d [] = []
plays m f d (x ∷ xs) = line d (event_next m d) (step_of m f d x.0 x.1) ∷ plays m f (step_of m f d x.0 x.1).0 xs

-- The transactions of a file

abbrev pub no_text : Text
no_text = record { variables = []; body = Nothing; weight = 0 }

abbrev pub read_file : Result File ScriptFault → File
read_file (Ok file) = file
read_file (Err fault) = record { version = 1; declarations = []; names = []; threads = []; schedule = None }

abbrev pub played_in : File → ℕ → ℕ → List (ℕ × ℤ) → List Line
played_in file thread place finds = plays (means (shapes_of file.declarations)) (meaning_of (slice_index_or (slice_index_or file.threads thread []) place no_text)) begun finds

-- the transaction of a thread at a place, both from 0, of the file that a text says
abbrev pub played : List ℕ → ℕ → ℕ → List (ℕ × ℤ) → List Line
played text thread place finds = played_in (read_file (file_of text)) thread place finds

-- the lines without what a draw carries
abbrev pub event_undrawn : Event → Event
event_undrawn (Draw us seen loaded) = Draw [] [] []
event_undrawn event = event

abbrev pub undrawn : List Line → List Line
undrawn lines = map (λ (l : Line). record l { event = event_undrawn l.event }) lines
