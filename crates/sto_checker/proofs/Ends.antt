-- Where a report goes wrong, and where it ends.
use Rattle.std.proofs.Common.{◌≡◌, ◌⊎◌, ℕ, zero, suc, ◌+◌, ◌<◌, ◌≤◌, List, [], ◌∷◌, ◌++◌, length, map, take, drop, refl, sym, ap, ◌∙◌, subst, Bool, true, false, Some, None, slice_get, arith, inl, inr}
use Rattle.std.specs.List.{list_any}
use Rattle.std.proofs.lemmas.List.{length-map}
use Rattle.std.proofs.lemmas.Option.{slice_get_within, slice_get-map}
use Rattle.sto_lang.specs.Scripts.{File}
use Rattle.sto_lang.specs.Objects.{Declaration}
use Rattle.sto_report_spec.specs.Orders.{TransactionPlace}
use Rattle.sto_report_spec.specs.Named.{order_named}
use Rattle.sto_journal.specs.Journals.{places}
use Rattle.sto_checker.specs.declared.past.Past.{Past}
use Rattle.sto_checker.specs.declared.found.Found.TheVariants.{Lawful, Not}
use Rattle.sto_checker.specs.Lines.{is_state_line, beyond_state}
use Rattle.sto_checker.specs.Right.{total, order_in, behind, IsRightAfter, IsJournalLine, IsObjectLine}
use Rattle.sto_checker.specs.Answer.{IsRightAt, AreRight, IsWhole, IsAnswer}
use Rattle.sto_checker.specs.Past.{IsPast}
use Rattle.sto_checker.specs.Reached.{AreRead, IsJournalRead, AreObjectsRead}
use Rattle.sto_checker.proofs.Stages.{take_next, length_front, take_whole, order_grows, journal_right, right_journal, right_at, right_after, right_more, object_right, right_object, order_stays, still_some, one_object_more}

module _ (file : File) (tries : ℕ) (lines : List (List ℕ)) where
  pub wrong_here : (place number : ℕ) → number ≡ place + 1 → AreRight file tries lines place → place < length lines → (IsRightAt file tries lines place → ⊥) → IsAnswer file tries lines (Not number)
  wrong_here place number e right inside wrong = (place, omega (arith, e), right, inl (inside, wrong))

  pub missing_here : (place number : ℕ) → number ≡ place + 1 → AreRight file tries lines place → length lines ≡ place → (IsWhole file lines → ⊥) → IsAnswer file tries lines (Not number)
  missing_here place number e right ends short = (place, omega (arith, e), right, inr (sym ends, short))

  dropped : {X : Type 0} (xs : List X) (n : ℕ) → length xs ≤ n → drop n xs ≡ []
  dropped [] zero l = refl
  dropped [] (suc n) l = refl
  dropped (x ∷ xs) zero l = absurd (omega (arith, l))
  dropped (x ∷ xs) (suc n) l = dropped xs n (omega (arith, l))

  -- a report that ends with its journal is not whole
  pub short_journal : length lines ≤ total file → IsWhole file lines → ⊥
  short_journal l w = absurd (let none : list_any is_state_line (behind file lines) ≡ false = ap (list_any is_state_line) (dropped lines (total file) l) in let some = w.state in cc)

  -- nor is one without the line `state`
  pub no_state : (read : ℕ) → length lines ≡ read → list_any is_state_line (behind file (take read lines)) ≡ false → IsWhole file lines → ⊥
  no_state read e none w = absurd (
      let same : take read lines ≡ lines = take_whole lines read (omega (arith, e)) in
      let here : list_any is_state_line (behind file lines) ≡ false = ap (λ (l : List (List ℕ)). list_any is_state_line (behind file l)) (sym same) ∙ none in
      let some = w.state in cc
      )

  -- nor one without the line of an object
  pub few_objects : (read count : ℕ) → length lines ≡ read → length (beyond_state (behind file (take read lines))) ≡ count → count < length file.declarations → IsWhole file lines → ⊥
  few_objects read count e c l w =
      let same : take read lines ≡ lines = take_whole lines read (omega (arith, e)) in
      let here = ap (λ (ls : List (List ℕ)). length (beyond_state (behind file ls))) same in
      let all = w.objects in
      absurd (omega (arith, here, c, l, all))

  -- all are there
  pub all_there : (past : Past) (read count : ℕ) → length lines ≡ read → AreObjectsRead file tries lines past read count → count ≡ length file.declarations → IsAnswer file tries lines Lawful
  all_there past read count e h c =
      let same : take read lines ≡ lines = take_whole lines read (omega (arith, e)) in (
        subst (AreRight file tries lines) (sym e) h.journal.lines_are.right,
        record {
          state = ap (λ (l : List (List ℕ)). list_any is_state_line (behind file l)) (sym same) ∙ h.state;
          objects = ap (λ (l : List (List ℕ)). length (beyond_state (behind file l))) (sym same) ∙ h.count ∙ c;
        },
      )

  -- one line more of the journal
  pub journal_more : (old new : Past) (read : ℕ) (line : List ℕ) (order : List TransactionPlace) → AreRead file tries lines old read → read < total file → slice_get lines read ≡ Some line
      → IsJournalLine file (places old.run.lines.items) line → IsPast file new → places new.run.lines.items ≡ places old.run.lines.items ++ order → order ≡ order_named file.names line
      → AreRead file tries lines new (read + 1)
  journal_more old new read line order h below stands right past placed named =
      let front : List (List ℕ) = take read lines in
      let long : length front ≡ read = length_front lines read h.within in
      let inside = slice_get_within lines read line stands in
      record {
        past = past;
        order =
            placed
            ∙ ap (λ (o : List TransactionPlace). places old.run.lines.items ++ o) named
            ∙ ap (λ (o : List TransactionPlace). o ++ order_named file.names line) h.order
            ∙ sym (order_grows file tries front line (omega (arith, long, below)))
            ∙ ap (order_in file) (sym (take_next lines read line stands));
        right = right_more file tries lines read h.right (right_at file tries lines read line stands (journal_right file tries front line (omega (arith, long, below)) (subst (λ (o : List TransactionPlace). IsJournalLine file o line) h.order right)));
        within = omega (arith, inside);
      }

  pub journal_wrong : (old : Past) (read : ℕ) (line : List ℕ) → AreRead file tries lines old read → read < total file → slice_get lines read ≡ Some line
      → (IsJournalLine file (places old.run.lines.items) line → ⊥) → IsRightAt file tries lines read → ⊥
  journal_wrong old read line h below stands wrong at =
      let front : List (List ℕ) = take read lines in
      let long : length front ≡ read = length_front lines read h.within in
      wrong (subst (λ (o : List TransactionPlace). IsJournalLine file o line) (sym h.order) (right_journal file tries front line (omega (arith, long, below)) (right_after file tries lines read line stands at)))

  -- one line more of an object
  pub object_more : (past : Past) (read count : ℕ) (line : List ℕ) → AreObjectsRead file tries lines past read count → slice_get lines read ≡ Some line
      → IsObjectLine file (order_in file (take read lines)) count line → AreObjectsRead file tries lines past (read + 1) (count + 1)
  object_more past read count line h stands right =
      let front : List (List ℕ) = take read lines in
      let r = h.journal.lines_are in
      let long : length front ≡ read = length_front lines read r.within in
      let behind_it : total file ≤ length front = omega (arith, long, h.journal.all) in
      let next = take_next lines read line stands in
      let inside = slice_get_within lines read line stands in
      record {
        journal = record {
          lines_are = record {
            past = r.past;
            order = r.order ∙ sym (order_stays file tries front line behind_it) ∙ ap (order_in file) (sym next);
            right = right_more file tries lines read r.right (right_at file tries lines read line stands (object_right file tries front line behind_it h.state (subst (λ (n : ℕ). IsObjectLine file (order_in file front) n line) (sym h.count) right)));
            within = omega (arith, inside);
          };
          all = omega (arith, h.journal.all);
        };
        state = ap (λ (l : List (List ℕ)). list_any is_state_line (behind file l)) next ∙ still_some file tries front line behind_it h.state;
        count = ap (λ (l : List (List ℕ)). length (beyond_state (behind file l))) next ∙ one_object_more file tries front line behind_it h.state ∙ ap (λ (n : ℕ). n + 1) h.count;
      }

  pub object_wrong : (past : Past) (read count : ℕ) (line : List ℕ) → AreObjectsRead file tries lines past read count → slice_get lines read ≡ Some line
      → (IsObjectLine file (order_in file (take read lines)) count line → ⊥) → IsRightAt file tries lines read → ⊥
  object_wrong past read count line h stands wrong at =
      let front : List (List ℕ) = take read lines in
      let long : length front ≡ read = length_front lines read h.journal.lines_are.within in
      let behind_it : total file ≤ length front = omega (arith, long, h.journal.all) in
      wrong (subst (λ (n : ℕ). IsObjectLine file (order_in file front) n line) h.count (right_object file tries front line behind_it h.state (right_after file tries lines read line stands at)))
