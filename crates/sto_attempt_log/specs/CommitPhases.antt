-- How a commit stands to the view of its pass, by its phase.
use Rattle.std.specs.Prelude.{◌≡◌, ◌≢◌, ◌≤◌, ◌<◌, ◌+◌, ◌^◌, ◌⊎◌, ℕ, suc, ℤ, true, false, Bool, nat_eq, ◌&&◌, ◌||◌, if◌then◌else◌, Option, Some, None, List, [], ◌∷◌, map, take, drop, length, slice_index_or}
use Rattle.std.specs.List.{Contains, list_any, list_all}
use Rattle.std.specs.Option.{option_map_or}
use mathlib.Core.Option.{some}
use lib.ListN.{get_elem?}
use Rattle.sto_part.specs.Listed.{Listed}
use Rattle.sto_part.specs.declared.change.Change.{Change}
use Rattle.sto_part.specs.declared.pred.Pred.{Pred}
use Rattle.sto_part.specs.declared.change.Change.TheVariants.{Add}
use Rattle.sto_item.specs.declared.item.Item.{Item}
use Rattle.sto_item.specs.declared.item.Item.TheVariants.{Seen, Holds}
use Rattle.sto_item.specs.Pending.{Entry as Update, change_at, is_keep, AreUpdates}
use Rattle.sto_model.specs.PlainReplies.{PlainReply}
use Rattle.sto_model.specs.Run.{Behaviour}
use Rattle.sto_core.specs.declared.view.Claim.{Claim}
use Rattle.sto_core.specs.declared.view.Held.{Held}
use Rattle.sto_core.specs.declared.view.Looked.{Looked}
use Rattle.sto_core.specs.declared.view.Fate.TheVariants.{Pending, Committed}
use Rattle.sto_core.specs.declared.view.Phase.{Phase}
use Rattle.sto_core.specs.declared.view.Phase.TheVariants as P
use Rattle.sto_core.specs.declared.view.View.{View}
use Rattle.sto_core.specs.Lists.{Each, Among}
use Rattle.sto_core.specs.History.{Validity, writes}
use Rattle.sto_core.specs.Reads.{Reads, was_read, value_read, words_read, AllRead}
use Rattle.sto_part.specs.Preds.{holds_of}
use Rattle.sto_core.specs.Views.{was_put, own_entry, hold_of, width_in, last_claim, no_claim, is_recent}
use Rattle.sto_core.specs.Allowed.{Rises, WasClaimed, IsHeldAs}
use Rattle.sto_type.specs.Meaning.{Meaning}
use Rattle.sto_attempt_log.specs.declared.read_entry.ReadEntry.{ReadEntry}
use Rattle.sto_attempt_log.specs.declared.commit_phase.CommitPhase.{CommitPhase}
use Rattle.sto_attempt_log.specs.declared.commit_phase.CommitPhase.TheVariants as S
use Rattle.sto_attempt_log.specs.declared.commit_phase.FoundTicket.{FoundTicket}
use Rattle.sto_attempt_log.specs.declared.commit_phase.LoadedWord.{LoadedWord}
use Rattle.sto_attempt_log.specs.declared.verdict.Verdict.{Verdict}
use Rattle.sto_attempt_log.specs.declared.verdict.Verdict.TheVariants.{Wrote, Read, Cancelled, Locked, Changed}
use Rattle.sto_attempt_log.specs.Every.{AllOf}
use Rattle.sto_attempt_log.specs.ReadSet.{words_in, ticket_in, IsTrueIn}
use Rattle.sto_attempt_log.specs.Looking.{LooksAt}
use Rattle.sto_attempt_log.specs.Answers.{HasFound, WasLocked, WasChanged, HasWritten}
use Rattle.sto_attempt_log.specs.Standing.{AreDecided, IsLeft}
use Rattle.sto_attempt_log.specs.Committing.{written, IsSealed}

-- what does not change during a commit: what the attempt has found out, and what the commit is to do
pub record Deal : Type 1 where
  pub m : Meaning
  pub valid : Validity
  pub sizes : List ℕ
  pub f : Behaviour
  pub at : ℕ
  pub base : List ReadEntry
  pub items : List Item
  pub rs : List PlainReply
  pub us : List Update
  -- the parts that are seen
  pub seen : List ℕ
  -- the other parts that are observed
  pub loaded : List ℕ
  -- the parts whose words are loaded
  pub tasks : List ℕ
  -- the parts that are checked
  pub checks : List ℕ
  -- the words that are put
  pub places : List (ℕ × ℕ)

abbrev pub deal : Meaning → Validity → List ℕ → Behaviour → ℕ → List ReadEntry → List Item → List PlainReply → List Update → List ℕ → List ℕ → List ℕ → List ℕ → List (ℕ × ℕ) → Deal
deal m valid sizes f at base items rs us seen loaded tasks checks places =
    record { m = m; valid = valid; sizes = sizes; f = f; at = at; base = base; items = items; rs = rs; us = us; seen = seen; loaded = loaded; tasks = tasks; checks = checks; places = places }

-- a word is one that an update changes
pub record IsPlace (widths : List ℕ) (us : List Update) (x : ℕ × ℕ) : Type 0 where
  pub written : writes us x.0 ≡ true
  pub changes : is_keep (change_at us x.0 x.1) ≡ false
  pub within : x.1 < slice_index_or widths x.0 0

-- the item is of a part that is seen, or it is a predicate on one of the others
abbrev pub IsNamed : List ℕ → List ℕ → Item → Type 0
IsNamed seen loaded (Seen p) = Among p seen
IsNamed seen loaded (Holds q) = Among q.part seen ⊎ Among q.part loaded

-- the lists are enough for the draw and for the words to be put
pub record IsPlanned (d : Deal) : Type 0 where
  pub ordered : AreUpdates d.us
  pub seen_rise : Rises d.seen
  pub loaded_rise : Rises d.loaded
  pub tasks_rise : Rises d.tasks
  pub apart : Each (λ (p : ℕ). Each (λ (q : ℕ). q ≢ p) d.loaded) d.seen
  pub named : AllOf (IsNamed d.seen d.loaded) d.items
  pub of_seen : Each (λ (p : ℕ). Contains d.items (Seen p)) d.seen
  pub of_loaded : Each (λ (p : ℕ). Among p d.tasks) d.loaded
  pub of_adds : (p i : ℕ) (x : ℤ) → change_at d.us p i ≡ Add x → Among p d.tasks
  pub in_range : Each (λ (p : ℕ). (p < length d.m.widths) × (0 < slice_index_or d.m.widths p 0)) d.tasks
  pub of_checks : Each (λ (p : ℕ). Among p d.checks) d.seen
  pub from_checks : Each (λ (p : ℕ). Among p d.seen ⊎ (Among p d.loaded × (writes d.us p ≡ false))) d.checks
  pub from_tasks : Each (λ (p : ℕ). writes d.us p ≡ false → Among p d.loaded) d.tasks
  pub on_loaded : Each (λ (p : ℕ). (q : Pred) × Contains d.items (Holds q) × (q.part ≡ p)) d.loaded
  pub of_tests : Each (λ (p : ℕ). writes d.us p ≡ false → Among p d.checks) d.loaded
  pub of_places : Each (IsPlace d.m.widths d.us) d.places
  pub all_places : (x : ℕ × ℕ) → IsPlace d.m.widths d.us x → Among x d.places
  pub few_checks : length d.checks < 2 ^ 32
  pub few_places : length d.places < 2 ^ 32
  pub few : length d.us + length d.tasks < 2 ^ 32

-- the pass holds the written parts from place k on up to place n
pub record HoldsFrom (us : List Update) (k n : ℕ) (v : View) : Type 0 where
  pub held : map (λ (h : Held). h.part) v.held ≡ drop k (take n (written us))

-- the last ticket that was found of a part
abbrev pub ticket_from : ℕ → List FoundTicket → ℕ → ℕ
ticket_from t [] p = t
ticket_from t (x ∷ xs) p = ticket_from (if nat_eq x.part p then x.ticket else t) xs p

-- the words of a part that were loaded, each with its place
abbrev pub reads_of : List LoadedWord → ℕ → Reads
reads_of [] p = []
reads_of (x ∷ xs) p = if nat_eq x.part p then (x.word, x.value) ∷ reads_of xs p else reads_of xs p

-- the running attempt has found the part with this ticket
pub record WasFound (v : View) (p t : ℕ) : Type 0 where
  pub found : HasFound v p t
  pub wrote : 0 < t → Among (record { start = v.starts; ticket = t; part = p }) v.wrote

-- the load is of this word
abbrev pub is_load_of : ℕ → ℕ → LoadedWord → Bool
is_load_of p i x = nat_eq x.part p && nat_eq x.word i

-- each hold has the ticket that was found, and the words that were loaded
pub record AreFound (found_tickets : List FoundTicket) (loaded_words : List LoadedWord) (v : View) : Type 0 where
  pub tickets : Each (λ (h : Held). h.ticket ≡ ticket_from 0 found_tickets h.part) v.held
  pub reads : Each (λ (h : Held). h.reads ≡ reads_of loaded_words h.part) v.held
  pub known : Each (λ (h : Held). WasFound v h.part h.ticket) v.held

-- so many tickets were found, and there is room for the others
pub record HasRoom (d : Deal) (n : ℕ) (found_tickets : Listed FoundTicket) : Type 0 where
  pub used : length found_tickets.items ≤ n
  pub spare : length d.us + length d.tasks ≤ n + found_tickets.spare

-- what is so at every phase before the decision
pub record IsGoing (d : Deal) (v : View) : Type 0 where
  pub sealed : IsSealed d.m d.valid d.sizes d.f d.at d.base d.items d.us d.rs v
  pub planned : IsPlanned d
  pub decided : AreDecided v
  pub draws : 0 < v.draws

-- the words of parts
abbrev pub due : List ℕ → List ℕ → ℕ
due widths [] = 0
due widths (p ∷ ps) = slice_index_or widths p 0 + due widths ps

-- there is room for the words of the parts to be loaded from place n on, of which i were read
pub record HasSpace (widths tasks : List ℕ) (n i : ℕ) (loaded_words : Listed LoadedWord) : Type 0 where
  pub few : length loaded_words.items + due widths (drop n tasks) < 2 ^ 32 + i
  pub spare : due widths (drop n tasks) ≤ loaded_words.spare + i

-- so it is where a word is loaded next, or a part
abbrev pub SpaceAt : List ℕ → List ℕ → Listed LoadedWord → CommitPhase → Type 0
SpaceAt widths tasks loaded_words (S.Locking n) = HasSpace widths tasks 0 0 loaded_words
SpaceAt widths tasks loaded_words (S.Loading n i) = HasSpace widths tasks n i loaded_words
SpaceAt widths tasks loaded_words (S.Testing n) = HasSpace widths tasks n 0 loaded_words
SpaceAt widths tasks loaded_words (S.Tested n i t) = HasSpace widths tasks n i loaded_words
SpaceAt widths tasks loaded_words _ = Unit {0}

-- the commit has locked n parts
pub record IsLockingAt (d : Deal) (n : ℕ) (found_tickets : Listed FoundTicket) (loaded_words : List LoadedWord) (v : View) : Type 0 where
  pub going : IsGoing d v
  pub below : n < length d.us
  pub phase : ((n ≡ 0) × (v.phase ≡ P.Reading)) ⊎ ((0 < n) × (v.phase ≡ P.Locking))
  pub holding : HoldsFrom d.us 0 n v
  pub found : AreFound found_tickets.items loaded_words v
  pub room : HasRoom d n found_tickets
  pub none : loaded_words ≡ []

-- an item's predicate on the part is true of these words
abbrev pub IsTrueOn : ℕ → List ℤ → Item → Type 0
IsTrueOn p ws (Seen q) = Unit {0}
IsTrueOn p ws (Holds q) = q.part ≡ p → IsTrueIn ws q

-- the item is no predicate on the part, or it is true of the word that was loaded
abbrev pub is_so : ℕ → List LoadedWord → Item → Bool
is_so p loaded_words (Seen q) = true
is_so p loaded_words (Holds q) = if nat_eq q.part p then holds_of q (value_read (reads_of loaded_words p) q.word) else true

-- the part is the second
abbrev pub is_same_part : ℕ → ℕ → Bool
is_same_part p q = nat_eq q p

-- the loading goes on after the part: it is seen, and its version is for the check to find, or all predicates on it are true of the words that were loaded
abbrev pub goes_on : List ℕ → List Item → List LoadedWord → ℕ → Bool
goes_on seen items loaded_words p = list_any (is_same_part p) seen || list_all (is_so p loaded_words) items

-- the words of a part that were loaded
abbrev pub words_loaded : List LoadedWord → View → ℕ → List ℤ
words_loaded loaded_words v p = words_read (reads_of loaded_words p) (width_in v p)

-- a part is loaded, and where it is not seen its predicates are true of the words: under its hold, or by a test, whose claim is the last one of the part
pub record IsDone (d : Deal) (found_tickets : List FoundTicket) (loaded_words : List LoadedWord) (v : View) (p : ℕ) : Type 0 where
  pub read : AllRead (reads_of loaded_words p) (width_in v p)
  pub tested : writes d.us p ≡ false
      → WasClaimed v p × ((last_claim (is_recent v p) no_claim v.claims).words ≡ words_loaded loaded_words v p) × ((last_claim (is_recent v p) no_claim v.claims).ticket ≡ ticket_from 0 found_tickets p)
      × ((s : ℕ) → ticket_in d.base p ≡ Some s → s ≤ ticket_from 0 found_tickets p) × WasFound v p (ticket_from 0 found_tickets p)
  pub true_on : (Among p d.seen → ⊥) → AllOf (IsTrueOn p (words_loaded loaded_words v p)) d.items

-- a word that was loaded under a hold is the one that was read before, where the ticket found is not above the number
pub record IsAsBefore (d : Deal) (found_tickets : List FoundTicket) (l : LoadedWord) : Type 0 where
  pub same : writes d.us l.part ≡ true → ticket_from 0 found_tickets l.part ≤ d.at → (ws : List ℤ) → words_in d.base l.part ≡ Some ws → get_elem? ws l.word ≡ some l.value

-- a loaded part that stands at place n or later is one that is held
pub record IsFreshAt (d : Deal) (n : ℕ) (l : LoadedWord) : Type 0 where
  pub held : (k : ℕ) → n ≤ k → k < length d.tasks → l.part ≡ slice_index_or d.tasks k 0 → writes d.us l.part ≡ true

-- the commit holds all written parts, and has loaded n of those to be loaded
pub record IsLoadingAt (d : Deal) (n : ℕ) (found_tickets : Listed FoundTicket) (loaded_words : List LoadedWord) (v : View) : Type 0 where
  pub going : IsGoing d v
  pub phase : v.phase ≡ P.Locking
  pub holding : HoldsFrom d.us 0 (length d.us) v
  pub found : AreFound found_tickets.items loaded_words v
  pub room : HasRoom d (length d.us + n) found_tickets
  pub done : Each (IsDone d found_tickets.items loaded_words v) (take n d.tasks)
  pub same : Each (IsAsBefore d found_tickets.items) loaded_words
  pub fresh : Each (IsFreshAt d n) loaded_words

-- a looked part of the entry: it is seen, with the ticket with which it was read; or it is written, as it was found and loaded under its hold; or it was
-- tested, with the ticket found
abbrev pub IsLookedAt : Deal → List FoundTicket → View → Looked → Type 0
IsLookedAt d found_tickets v l =
    (Among l.part d.seen × (ticket_in d.base l.part ≡ Some l.ticket))
    ⊎ (((writes d.us l.part ≡ true) × IsHeldAs l (hold_of l.part v.held) (width_in v l.part))
    ⊎ (Among l.part d.loaded × (writes d.us l.part ≡ false) × (l.ticket ≡ ticket_from 0 found_tickets l.part)))

-- the part was tested, and claimed with the ticket found, which is not below the one with which it was read, and below the own one
pub record WasTested (d : Deal) (own : ℕ) (found_tickets : List FoundTicket) (v : View) (p : ℕ) : Type 0 where
  pub claim : Claim
  pub among : Among claim v.claims
  pub on : claim.part ≡ p
  pub with_ticket : claim.ticket ≡ ticket_from 0 found_tickets p
  pub known : WasFound v p (ticket_from 0 found_tickets p)
  pub not_before : (s : ℕ) → ticket_in d.base p ≡ Some s → s ≤ ticket_from 0 found_tickets p
  pub below : ticket_from 0 found_tickets p < own

-- the ticket that the check of a part is to find: the one with which it was read, or the one that its test found
abbrev pub IsExpected : Deal → List FoundTicket → ℕ → ℕ → Type 0
IsExpected d found_tickets p s = (Among p d.seen × (ticket_in d.base p ≡ Some s)) ⊎ (Among p d.loaded × (writes d.us p ≡ false) × (s ≡ ticket_from 0 found_tickets p))

-- the same as a number, by what the commit keeps
abbrev pub expected_of : List ReadEntry → List FoundTicket → List ℕ → ℕ → ℕ
expected_of base found_tickets seen p = if list_any (is_same_part p) seen then option_map_or (λ (t : ℕ). t) (ticket_in base p) 0 else ticket_from 0 found_tickets p

-- a part is checked: with the ticket with which it was read, or with the one that its test found
pub record IsChecked (d : Deal) (found_tickets : List FoundTicket) (v : View) (p : ℕ) : Type 0 where
  pub seen : (s : ℕ) → Among p d.seen → ticket_in d.base p ≡ Some s → Among (p, s) v.checked
  pub tested : Among p d.loaded → writes d.us p ≡ false → Among (p, ticket_from 0 found_tickets p) v.checked

-- the words that a sum is put over were loaded
abbrev pub AreAddsRead : Deal → List LoadedWord → View → Type 0
AreAddsRead d loaded_words v = (p i : ℕ) (x : ℤ) → change_at d.us p i ≡ Add x → i < width_in v p → was_read (reads_of loaded_words p) i ≡ true

-- after the draw, with n parts checked
pub record IsCheckingAt (d : Deal) (n ticket : ℕ) (found_tickets : Listed FoundTicket) (loaded_words : List LoadedWord) (v : View) : Type 0 where
  pub sealed : IsSealed d.m d.valid d.sizes d.f d.at d.base d.items d.us d.rs v
  pub planned : IsPlanned d
  pub phase : v.phase ≡ P.Drawn ticket
  pub above : d.at < ticket
  pub holding : HoldsFrom d.us 0 (length d.us) v
  pub found : AreFound found_tickets.items loaded_words v
  pub adds : AreAddsRead d loaded_words v
  pub entry : Among (own_entry v) v.entries
  pub drawn : (own_entry v).ticket ≡ ticket
  pub fate : (own_entry v).fate ≡ Pending
  pub updates : (own_entry v).updates ≡ d.us
  pub looks : AllOf (LooksAt (words_in d.base) (own_entry v).looked) d.items
  pub looked : Each (IsLookedAt d found_tickets.items v) (own_entry v).looked
  pub tests : (p : ℕ) → Among p d.loaded → writes d.us p ≡ false → WasTested d ticket found_tickets.items v p
  pub checked : Each (IsChecked d found_tickets.items v) (take n d.checks)

-- what a verdict tells
abbrev pub EndsWith : Deal → View → Verdict → Type 0
EndsWith d v (Wrote t) = HasWritten d.m d.f v t d.rs
EndsWith d v (Read n) = ⊥
EndsWith d v (Cancelled n) = ⊥
EndsWith d v (Locked n p) = (n ≡ d.at) × WasLocked d.m d.f v d.at p d.rs
EndsWith d v (Changed n p t) = (n ≡ d.at) × WasChanged d.m d.f v d.at p t d.rs

-- what one tells with which the commit gives up
abbrev pub FailsWith : Deal → View → Verdict → Type 0
FailsWith d v (Wrote t) = ⊥
FailsWith d v (Read n) = ⊥
FailsWith d v (Cancelled n) = ⊥
FailsWith d v (Locked n p) = (n ≡ d.at) × WasLocked d.m d.f v d.at p d.rs
FailsWith d v (Changed n p t) = (n ≡ d.at) × WasChanged d.m d.f v d.at p t d.rs

-- the commit gives up, and holds the written parts from place k on up to place n
pub record IsLeaving (d : Deal) (k n : ℕ) (verdict : Verdict) (v : View) : Type 0 where
  pub below : (k < n) × (n ≤ length d.us)
  pub sealed : IsSealed d.m d.valid d.sizes d.f d.at d.base d.items d.us d.rs v
  pub phase : (v.phase ≡ P.Locking) ⊎ ((t : ℕ) × (v.phase ≡ P.Lost t))
  pub holding : HoldsFrom d.us k n v
  pub planned : IsPlanned d
  pub decided : AreDecided v
  pub ends : FailsWith d v verdict

-- the part at a place of those that are loaded
abbrev pub task : Deal → ℕ → ℕ
task d n = slice_index_or d.tasks n 0

-- the update is of the part
abbrev pub is_of_part : ℕ → ℕ × Listed Change → Bool
is_of_part p u = nat_eq u.0 p

-- where the loading of the part at a place begins; or the draw, where all are loaded
abbrev pub IsAim : List Update → List ℕ → ℕ → CommitPhase → Type 0
IsAim us tasks n S.Drawing = n ≡ length tasks
IsAim us tasks n (S.Loading k i) = (k ≡ n) × (i ≡ 0) × (n < length tasks) × (writes us (slice_index_or tasks n 0) ≡ true)
IsAim us tasks n (S.Testing k) = (k ≡ n) × (n < length tasks) × (writes us (slice_index_or tasks n 0) ≡ false)
IsAim us tasks n _ = ⊥

-- the part at place n is held, and its first i words are loaded
pub record IsLoadingWord (d : Deal) (n i : ℕ) (found_tickets : Listed FoundTicket) (loaded_words : List LoadedWord) (v : View) : Type 0 where
  pub loading : IsLoadingAt d n found_tickets loaded_words v
  pub below : n < length d.tasks
  pub writes : writes d.us (task d n) ≡ true
  pub within : i < slice_index_or d.m.widths (task d n) 0
  pub words : AllRead (reads_of loaded_words (task d n)) i

-- the part at place n is not held
pub record IsTestingAt (d : Deal) (n : ℕ) (found_tickets : Listed FoundTicket) (loaded_words : List LoadedWord) (v : View) : Type 0 where
  pub loading : IsLoadingAt d n found_tickets loaded_words v
  pub below : n < length d.tasks
  pub unwritten : writes d.us (task d n) ≡ false

-- the part at place n is not held, its test found the ticket t, and its first i words are loaded
pub record IsTestedWord (d : Deal) (n i t : ℕ) (found_tickets : Listed FoundTicket) (loaded_words : List LoadedWord) (v : View) : Type 0 where
  pub going : IsGoing d v
  pub phase : v.phase ≡ P.Testing (record { part = task d n; ticket = t; reads = reads_of loaded_words (task d n) })
  pub holding : HoldsFrom d.us 0 (length d.us) v
  pub found : AreFound found_tickets.items loaded_words v
  pub room : HasRoom d (length d.us + suc n) found_tickets
  pub done : Each (IsDone d found_tickets.items loaded_words v) (take n d.tasks)
  pub same : Each (IsAsBefore d found_tickets.items) loaded_words
  pub fresh : Each (IsFreshAt d (suc n)) loaded_words
  pub below : n < length d.tasks
  pub unwritten : writes d.us (task d n) ≡ false
  pub within : i ≤ slice_index_or d.m.widths (task d n) 0
  pub words : AllRead (reads_of loaded_words (task d n)) i
  pub ticket : ticket_from 0 found_tickets.items (task d n) ≡ t
  pub known : WasFound v (task d n) t
  pub not_before : (s : ℕ) → ticket_in d.base (task d n) ≡ Some s → s ≤ t
  pub early : t ≤ d.at → ticket_in d.base (task d n) ≡ Some t

-- the check of the part at a place; or the decision, where all are checked
abbrev pub IsNextCheck : List ℕ → ℕ → ℕ → CommitPhase → Type 0
IsNextCheck checks n t (S.Checking k s) = (k ≡ n) × (s ≡ t) × (n < length checks)
IsNextCheck checks n t (S.Deciding s) = (s ≡ t) × (n ≡ length checks)
IsNextCheck checks n t _ = ⊥

-- the put of the word at a place; or the first release, where all were put
abbrev pub IsNextPut : List (ℕ × ℕ) → ℕ → ℕ → CommitPhase → Type 0
IsNextPut places n t (S.Putting k s) = (k ≡ n) × (s ≡ t) × (n < length places)
IsNextPut places n t (S.Releasing k s) = (k ≡ 0) × (s ≡ t) × (n ≡ length places)
IsNextPut places n t _ = ⊥

-- after the decision for the commit, with n words put and k parts released
pub record IsInstallingAt (d : Deal) (n k ticket : ℕ) (puts : List (ℕ × ℕ)) (loaded_words : List LoadedWord) (v : View) : Type 0 where
  pub sealed : IsSealed d.m d.valid d.sizes d.f d.at d.base d.items d.us d.rs v
  pub planned : IsPlanned d
  pub phase : v.phase ≡ P.Won ticket puts
  pub holding : HoldsFrom d.us k (length d.us) v
  pub reads : Each (λ (h : Held). h.reads ≡ reads_of loaded_words h.part) v.held
  pub adds : AreAddsRead d loaded_words v
  pub entry : Among (own_entry v) v.entries
  pub drawn : (own_entry v).ticket ≡ ticket
  pub fate : (own_entry v).fate ≡ Committed
  pub updates : (own_entry v).updates ≡ d.us
  pub decided : AreDecided v
  pub looks : AllOf (LooksAt (words_in d.base) (own_entry v).looked) d.items
  pub done : Each (λ (x : ℕ × ℕ). was_put puts x.0 x.1 ≡ true) (take n d.places)

-- the entry is to be dropped
pub record IsDropping (d : Deal) (ticket : ℕ) (verdict : Verdict) (v : View) : Type 0 where
  pub sealed : IsSealed d.m d.valid d.sizes d.f d.at d.base d.items d.us d.rs v
  pub planned : IsPlanned d
  pub phase : v.phase ≡ P.Drawn ticket
  pub holding : HoldsFrom d.us 0 (length d.us) v
  pub ends : FailsWith d v verdict

abbrev pub Stands : Deal → Listed FoundTicket → List LoadedWord → CommitPhase → View → Type 0
Stands d found_tickets loaded_words (S.Locking n) v = IsLockingAt d n found_tickets loaded_words v
Stands d found_tickets loaded_words (S.Leaving k n verdict) v = IsLeaving d k n verdict v
Stands d found_tickets loaded_words (S.Loading n i) v = IsLoadingWord d n i found_tickets loaded_words v
Stands d found_tickets loaded_words (S.Testing n) v = IsTestingAt d n found_tickets loaded_words v
Stands d found_tickets loaded_words (S.Tested n i t) v = IsTestedWord d n i t found_tickets loaded_words v
Stands d found_tickets loaded_words S.Drawing v = IsLoadingAt d (length d.tasks) found_tickets loaded_words v
Stands d found_tickets loaded_words (S.Checking n t) v = (n < length d.checks) × IsCheckingAt d n t found_tickets loaded_words v
Stands d found_tickets loaded_words (S.Deciding t) v = IsCheckingAt d (length d.checks) t found_tickets loaded_words v
Stands d found_tickets loaded_words (S.Putting n t) v = (n < length d.places) × ((puts : List (ℕ × ℕ)) × IsInstallingAt d n 0 t puts loaded_words v)
Stands d found_tickets loaded_words (S.Releasing k t) v = (k < length d.us) × ((puts : List (ℕ × ℕ)) × IsInstallingAt d (length d.places) k t puts loaded_words v)
Stands d found_tickets loaded_words (S.Dropping t verdict) v = IsDropping d t verdict v
Stands d found_tickets loaded_words _ v = ⊥

-- what a step of the commit tells
abbrev pub Said : Deal → Listed FoundTicket → List LoadedWord → CommitPhase → View → Option Verdict → Type 0
Said d found_tickets loaded_words commit_phase v None = Stands d found_tickets loaded_words commit_phase v
Said d found_tickets loaded_words commit_phase v (Some verdict) = (commit_phase ≡ S.Over) × IsLeft v × (d.at ≤ v.at) × EndsWith d v verdict

-- the verdict to which an event leads in a phase: after the decision for the commit it is that of the own ticket, before it and after the other decision it is an abort
abbrev pub EndsIn : Phase → Verdict → Type 0
EndsIn (P.Won t puts) (Wrote u) = t ≡ u
EndsIn (P.Won t puts) _ = ⊥
EndsIn _ (Wrote u) = ⊥
EndsIn _ _ = Unit {0}

-- so it is, where there is one
abbrev pub EndsBy : Phase → Option Verdict → Type 0
EndsBy h None = Unit {0}
EndsBy h (Some verdict) = EndsIn h verdict
