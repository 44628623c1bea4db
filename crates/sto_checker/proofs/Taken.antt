-- Journal lines with one more.
use Rattle.std.proofs.Common.{◌≡◌, ◌⊎◌, ℕ, zero, suc, ◌+◌, ◌<◌, ◌≤◌, ◌^◌, take, get_or, sum_by, Bool, true, false, List, [], ◌∷◌, ◌++◌, length, map, refl, sym, ap, ◌∙◌, subst, Some, slice_get, slice_set, arith, inl, inr, append-nil}
use Rattle.std.specs.List.{slice_split}
use Rattle.std.proofs.lemmas.List.{length-map, map-append}
use Rattle.std.proofs.lemmas.List.Elements.{All-push}
use Rattle.sto_model.specs.PlainReplies.{PlainReply, plain_reply}
use Rattle.std.proofs.lemmas.List.Sums.{sum_by-cons, sum_by_more, sum_by-take-le}
use Rattle.sto_lang.specs.declared.file.Thread.{Thread}
use Rattle.sto_lang.specs.Drafts.{transaction_count}
use Rattle.sto_lang.specs.Views.{threads_of, script}
use Rattle.sto_lang.specs.Scripts.{Script, File}
use Rattle.sto_lang.specs.Sound.{IsSound}
use Rattle.sto_part.specs.Listed.{Listed}
use Rattle.sto_script.specs.Meaning.{meaning_of}
use Rattle.sto_report_spec.specs.Orders.{TransactionPlace, transaction_at, count_in, positions_of}
use Rattle.sto_report_spec.specs.Replay.{Entry, entries_from, opening_state, final_state, entry_at, run_at}
use Rattle.sto_report_spec.specs.Named.{is_space, named_in, order_named}
use Rattle.sto_report_spec.specs.Report.{line_text}
use Rattle.sto_report_spec.specs.declared.ending.Ending.{Ending}
use Rattle.sto_journal.specs.declared.journal.Line.{Line}
use Rattle.sto_journal.specs.Journals.{entry, places}
use Rattle.sto_checker.specs.Runs.{writers_from, IsSoFar}
use Rattle.sto_checker.proofs.OneMore.{entries_from-more}
use Rattle.sto_checker.proofs.SoundRuns.{sound_runnable}
use Rattle.sto_checker.specs.declared.past.Past.{Past}
use Rattle.sto_checker.specs.Shown.{IsInside, AreInside}
use Rattle.sto_checker.specs.Written.{objects_along, written_from, written_of}
use Rattle.sto_checker.specs.Past.{told_objects, IsBegun, IsPast, IsLast}
use Rattle.sto_checker.specs.Lines.{HasContent}
use Rattle.sto_checker.specs.Right.{total, IsNext, entry_after, IsJournalLine}
use Rattle.sto_checker.specs.Reached.{AreRead, IsJournalRead}
use Rattle.sto_checker.proofs.Kept.{named_once, at_end, set_at, is_inside, count_same, count_other, last_entry, written_at, written_from-more, written_told}
use Rattle.sto_checker.proofs.Truth.{no_truth}
use Rattle.sto_checker.proofs.Complete.{complete, begun_more}
use Rattle.sto_checker.proofs.Ends.{journal_more}
use Rattle.sto_checker.specs.declared.replayed.Replayed.{Replayed}
use Rattle.sto_checker.specs.declared.window.Window.{Window}
use Rattle.sto_checker.specs.Windows.{with_more, window_after, AreWindows}
use Rattle.sto_checker.specs.Replayed.{windows_of, IsReplayed, IsTaken, IsTakenOr, IsJournalTaken}
use Rattle.sto_checker.proofs.Lists.{at_mapped, some_at}
use Rattle.sto_checker.proofs.Windows.{windows_more}

-- as many transactions as lines
pub places_long : (lines : List Line) → length (places lines) ≡ length lines
places_long lines = length-map (map entry lines) (λ (e : Entry). e.place) ∙ length-map lines entry

set_long : (xs : List ℕ) (i v : ℕ) → length (slice_set xs i v) ≡ length xs
set_long [] i v = refl
set_long (x ∷ xs) zero v = refl
set_long (x ∷ xs) (suc i) v = ap suc (set_long xs i v)

-- one transaction more was run
module _ (file : File) (old new : Past) (place : TransactionPlace) (line : Line) (h : IsPast file old) (next : IsNext file (places old.run.lines.items) place)
    (so_far : IsSoFar file new.run.lines.items new.run.writers new.run.state.items)
    (placed : places new.run.lines.items ≡ places old.run.lines.items ++ place ∷ []) (counted : length new.run.lines.items ≡ length old.run.lines.items + 1)
    (stands : slice_get new.run.lines.items (length old.run.lines.items) ≡ Some line) where
  abbrev order : List TransactionPlace
  order = places old.run.lines.items

  pub tells : entry line ≡ entry_after file order place
  tells = last_entry file old.run.lines.items new.run.lines.items place line h.run.entries so_far.entries placed stands

  inside : IsInside file.threads place
  inside = is_inside file place next.script next.transaction

  pub line_thread : line.thread < length file.threads
  line_thread = let l = inside.thread in let e = ap (λ (x : Entry). x.place.0) tells in omega (arith, l, e)

  pub last_is : IsLast file old new place
  last_is = record { line = line; placed = placed; counted = counted; stands = stands; inside = line_thread; tells = tells }

  pub past_more : (s : Script) → transaction_at file place ≡ Some s → new.done.items ≡ slice_set old.done.items place.0 place.1
      → map (λ objects. objects.items) new.written.items ≡ map (λ objects. objects.items) old.written.items ++ told_objects line.end (objects_along (meaning_of s) (map plain_reply line.replies.items))
      → IsPast file new
  past_more s at done written = record {
    run = so_far;
    begun = subst (IsBegun file) (sym placed) (begun_more file order place h.begun next);
    inside = subst (AreInside file) (sym placed) (All-push (IsInside file.threads) order place h.inside inside);
    threads = ap length done ∙ set_long old.done.items place.0 place.1 ∙ h.threads;
    done = λ t c e.
        subst (λ (o : List TransactionPlace). c ≡ length (positions_of t o)) (sym placed)
        (done_by t c (set_at old.done.items place.0 place.1 t c (let l = inside.thread in let k = h.threads in omega (arith, l, k)) (ap (λ (ns : List ℕ). slice_get ns t) (sym done) ∙ e)));
    written =
        written
        ∙ ap (λ (os : List (List ℕ)). os ++ told_objects line.end (objects_along (meaning_of s) (map plain_reply line.replies.items))) h.written
        ∙ ap (λ (os : List (List ℕ)). written_of file order ++ os)
        (sym (written_told file (final_state file order) place s line.end (map plain_reply line.replies.items) at (ap (λ (x : Entry). x.ending) tells) (ap (λ (x : Entry). x.replies) tells)))
        ∙ sym (written_from-more file (opening_state file) order place)
        ∙ ap (written_of file) (sym placed);
  }
    where
      done_by : (t c : ℕ) → ((t ≡ place.0) × (c ≡ place.1)) ⊎ ((t ≡ place.0 → ⊥) × (slice_get old.done.items t ≡ Some c)) → c ≡ length (positions_of t (order ++ place ∷ []))
      done_by t c (inl k) = count_same order place t c k.0 (k.1 ∙ next.next)
      done_by t c (inr k) = count_other order place t c k.0 (h.done t c k.1)

module _ (file : File) (tries : ℕ) (lines : List (List ℕ)) where
  -- one journal line more
  pub taken_more : (old new : Replayed) (read : ℕ) (line : List ℕ) → AreRead file tries lines old.past read → read < total file → slice_get lines read ≡ Some line → IsTaken file old new line → AreRead file tries lines new.past (read + 1)
  taken_more old new read line h below stands t = journal_more file tries lines old.past new.past read line (order_named file.names line) h below stands t.right t.replayed.past t.placed refl

  -- all of them
  pub all_taken : (replayed : Replayed) (read : ℕ) → AreRead file tries lines replayed.past read → IsReplayed file replayed → length replayed.past.run.lines.items ≡ read → read ≡ total file → IsJournalTaken file tries lines replayed read
  all_taken replayed read h is count e = record {
    journal = record { lines_are = h; all = omega (arith, e) };
    replayed_is = is;
    count = e;
    order = complete file (places replayed.past.run.lines.items) is.past.begun is.past.inside (places_long replayed.past.run.lines.items ∙ count ∙ e);
  }

-- How many transactions there are.

pub count_some : (threads : List Thread) → sum_by (λ (t : Thread). length t.scripts.items) threads ≡ transaction_count (threads_of threads)
count_some [] = refl
count_some (t ∷ threads) =
    let more = count_some threads in
    let one = sum_by-cons (λ (x : Thread). length x.scripts.items) t threads in
    let other = sum_by-cons length (map script t.scripts.items) (threads_of threads) in
    let long = length-map t.scripts.items script in
    omega (arith, more, one, other, long)

pub count_next : (threads : List Thread) (i : ℕ) (t : Thread) → i < length threads → t ≡ get_or threads i t
    → sum_by (λ (x : Thread). length x.scripts.items) (take (i + 1) threads) ≡ sum_by (λ (x : Thread). length x.scripts.items) (take i threads) + length t.scripts.items
count_next threads i t l e =
    let more = sum_by_more (λ (x : Thread). length x.scripts.items) threads i t l in
    let here = ap (λ (x : Thread). length x.scripts.items) e in
    omega (arith, more, here)

pub count_fits : (threads : List Thread) (i : ℕ) → sum_by (λ (x : Thread). length x.scripts.items) (take i threads) ≤ transaction_count (threads_of threads)
count_fits threads i = let l = sum_by-take-le (λ (x : Thread). length x.scripts.items) threads i in let e = count_some threads in omega (arith, l, e)

-- the next transaction is one of the file
pub next_inside : (file : File) (order : List TransactionPlace) (place : TransactionPlace) → IsNext file order place → IsInside file.threads place
next_inside file _ place n = is_inside file place n.script n.transaction

-- A line, and the transaction that it names.

-- a thread has few windows
pub few_windows : (file : File) (replayed : Replayed) → IsSound file → IsReplayed file replayed → (t : ℕ) (l : Listed Window) → slice_get replayed.windows.threads.items t ≡ Some l → length l.items ≤ 10000
few_windows file replayed sound is t l e =
    let row = is.windows.each t l.items (at_mapped replayed.windows.threads.items t l e) in
    let count : length l.items ≡ length (positions_of t (places replayed.past.run.lines.items)) = row.count in
    let begun = (is.past.begun t).1 in
    let few = (sound_runnable file sound).few_transactions t in
    omega (arith, count, begun, few)

module _ (file : File) (old : Replayed) (sound : IsSound file) (is : IsReplayed file old) (line content : List ℕ) (text : HasContent line content) where
  -- none that could be the next one is named
  pub none_named : ((place : TransactionPlace) → named_in file.names (slice_split is_space content) ≡ place ∷ [] → 2 ^ 32 ≤ place.1) → IsJournalLine file (places old.past.run.lines.items) line → ⊥
  none_named far h =
      let l = far h.place (sym (named_once file.names line content text) ∙ h.named) in
      let i = next_inside file (places old.past.run.lines.items) h.place h.next in
      let inside = i.last in
      let few = (sound_runnable file sound).few_transactions h.place.0 in
      absurd (omega (arith, l, inside, few))

  module _ (place : TransactionPlace) (named : named_in file.names (slice_split is_space content) ≡ place ∷ []) where
    named_here : order_named file.names line ≡ place ∷ []
    named_here = named_once file.names line content text ∙ named

    same_place : (h : IsJournalLine file (places old.past.run.lines.items) line) → h.place ≡ place
    same_place h = only h.place place (sym h.named ∙ named_here)
      where
        only : (a b : TransactionPlace) → a ∷ [] ≡ b ∷ [] → a ≡ b
        only a b e = cc

    -- it was run
    module _ (new : Replayed) (next : IsNext file (places old.past.run.lines.items) place) (past : IsPast file new.past) (last : IsLast file old.past new.past place)
        (at : ℕ) (told_line : Line) (is_last : at + 1 ≡ length new.past.run.lines.items) (stands : slice_get new.past.run.lines.items at ≡ Some told_line) where
      same_line : told_line ≡ last.line
      same_line =
          let counted = last.counted in
          let there : length old.past.run.lines.items ≡ at = omega (arith, counted, is_last) in
          only told_line last.line (sym stands ∙ ap (slice_get new.past.run.lines.items) (sym there) ∙ last.stands)
        where
          only : (a b : Line) → Some a ≡ Some b → a ≡ b
          only a b e = cc

      tells_line : entry told_line ≡ entry_after file (places old.past.run.lines.items) place
      tells_line = ap entry same_line ∙ last.tells

      pub in_threads : told_line.thread < length old.windows.threads.items
      in_threads =
          let l = last.inside in
          let e = ap (λ (x : Line). x.thread) same_line in
          let count = is.windows.count in
          let mapped = length-map old.windows.threads.items (λ (m : Listed Window). m.items) in
          omega (arith, l, e, count, mapped)

      entries_grow : map entry new.past.run.lines.items ≡ map entry old.past.run.lines.items ++ entry told_line ∷ []
      entries_grow =
          past.run.entries
          ∙ ap (entries_from file 0 (opening_state file)) last.placed
          ∙ entries_from-more file 0 (opening_state file) (places old.past.run.lines.items) place
          ∙ ap (λ (es : List Entry). es ++ entry_after file (places old.past.run.lines.items) place ∷ []) (sym is.past.run.entries)
          ∙ ap (λ (e : Entry). map entry old.past.run.lines.items ++ e ∷ []) (sym tells_line)

      other_line : (line ≡ line_text file.names (entry told_line) → ⊥) → IsJournalLine file (places old.past.run.lines.items) line → ⊥
      other_line wrong h =
          wrong (h.text ∙ ap (λ (p : TransactionPlace). line_text file.names (entry_after file (places old.past.run.lines.items) p)) (same_place h) ∙ ap (line_text file.names) (sym tells_line))

      module _ (windows : (l : Listed Window) → slice_get old.windows.threads.items told_line.thread ≡ Some l
          → windows_of new.windows ≡ with_more (windows_of old.windows) told_line.thread (window_after l.items (entry told_line))) where
        windows_are : AreWindows (length file.threads) (map entry new.past.run.lines.items) (windows_of new.windows)
        windows_are =
            let found = some_at old.windows.threads.items told_line.thread in_threads in
            let l : Listed Window = found.0 in
            let thread : told_line.thread ≡ place.0 = ap (λ (e : Entry). e.place.0) tells_line in
            let position : told_line.position ≡ place.1 = ap (λ (e : Entry). e.place.1) tells_line in
            let order : List TransactionPlace = places old.past.run.lines.items in
            let behind : told_line.position ≡ suc (length (positions_of told_line.thread order)) = position ∙ next.next ∙ ap (λ (t : ℕ). suc (length (positions_of t order))) (sym thread) in
            subst (λ (es : List Entry). AreWindows (length file.threads) es (windows_of new.windows)) (sym entries_grow)
            (subst (AreWindows (length file.threads) (map entry old.past.run.lines.items ++ entry told_line ∷ [])) (sym (windows l found.1))
            (windows_more (length file.threads) (map entry old.past.run.lines.items) (windows_of old.windows) (entry told_line) l.items is.windows (λ t. (is.past.begun t).0)
            (at_mapped old.windows.threads.items told_line.thread l found.1) behind))

        taken : line ≡ line_text file.names (entry told_line) → IsTaken file old new line
        taken e = record {
          right = record { place = place; named = named_here; next = next; text = e ∙ ap (line_text file.names) tells_line };
          replayed = record { past = past; windows = windows_are };
          placed = last.placed ∙ ap (λ (o : List TransactionPlace). places old.past.run.lines.items ++ o) (sym named_here);
          counted = last.counted;
        }

        -- whether it is the text of what was run
        pub taken_or : (yes : Bool) → (yes ≡ true → line ≡ line_text file.names (entry told_line)) × (line ≡ line_text file.names (entry told_line) → yes ≡ true) → IsTakenOr file old new line yes
        taken_or true h = taken (h.0 refl)
        taken_or false h = other_line (λ e. no_truth (h.1 e))
