-- A report whose lines are all right is the report of the order and of the aborted attempts that it names.
use Rattle.std.proofs.Common.{◌≡◌, ◌⊎◌, ℕ, zero, suc, ◌+◌, ◌-◌, ◌<◌, ◌≤◌, List, [], ◌∷◌, ◌++◌, length, take, drop, refl, sym, ap, ◌∙◌, subst, Bool, true, false, ◌||◌, ◌&&◌, ◌==◌, cond, Some, slice_get, codes, arith, inl, inr, append_assoc, append-nil}
use Rattle.std.specs.List.{list_any, flat_map, All}
use Rattle.std.specs.Str.{bytes_eq}
use Rattle.std.proofs.lemmas.Bool.Decides.{nat_tests}
use Rattle.std.proofs.lemmas.Slice.Eq.{bytes_eq-Decides}
use Rattle.std.proofs.lemmas.Option.{slice_get_within}
use Rattle.std.proofs.lemmas.List.Elements.{All-nil, All-push}
use Rattle.sto_model.specs.Run.{State}
use Rattle.sto_lang.specs.Objects.{Declaration}
use Rattle.sto_lang.specs.Scripts.{File}
use Rattle.sto_report_spec.specs.Orders.{TransactionPlace, positions_of, numbers_from, IsOrder}
use Rattle.sto_report_spec.specs.Replay.{Entry, entries_from, entries_of, opening_state, final_state}
use Rattle.sto_report_spec.specs.Aborts.{Abort}
use Rattle.sto_report_spec.specs.Report.{line_text, abort_text, object_text, report_of}
use Rattle.sto_report_spec.specs.Named.{order_named}
use Rattle.sto_report_spec.specs.NamedAborts.{aborts_named}
use Rattle.sto_report_spec.specs.LawfulAborts.{IsSorted, HandsBack, count_at}
use Rattle.sto_checker.proofs.OneMore.{entries_from-more}
use Rattle.sto_checker.specs.Lines.{is_line_feed, onto_line, lines_of, is_state_line, until_state, beyond_state}
use Rattle.sto_checker.specs.Shown.{IsInside, AreInside}
use Rattle.sto_checker.specs.Past.{IsBegun}
use Rattle.sto_checker.specs.Right.{total, order_in, behind, aborts_in, entry_after, IsNext, IsJournalLine, IsRightAlone, IsRightAbort, IsAbortLine, IsObjectLine, IsRightAfter}
use Rattle.sto_checker.specs.Answer.{IsRightAt, AreRight, IsWhole}
use Rattle.sto_checker.specs.Exact.{AreRightAborts, IsRightReport}
use Rattle.sto_checker.proofs.Kept.{is_inside}
use Rattle.sto_checker.proofs.Complete.{complete, begun_more}
use Rattle.sto_checker.proofs.Order.{count_cons, count_more}
use Rattle.sto_checker.proofs.Stages.{take_next, length_front, take_whole, order_grows, order_stays, right_journal, right_abort, right_object, aborts_grow, still_none, state_comes, still_some, one_object_more, no_object_yet, none_behind, no_aborts_behind, right_after}

-- the bytes of lines
abbrev pub joined : List (List ℕ) → List ℕ
joined lines = flat_map (λ line. line) lines

joined_onto : (b : ℕ) (lines : List (List ℕ)) → joined (onto_line b lines) ≡ b ∷ joined lines
joined_onto b [] = refl
joined_onto b (line ∷ lines) = refl

-- lines have all the bytes
pub joined_lines : (bytes : List ℕ) → joined (lines_of bytes) ≡ bytes
joined_lines [] = refl
joined_lines (b ∷ bytes) = by (is_line_feed b) (joined_lines bytes) (joined_onto b (lines_of bytes))
  where
    by : (t : Bool) → joined (lines_of bytes) ≡ bytes → joined (onto_line b (lines_of bytes)) ≡ b ∷ joined (lines_of bytes) → joined (cond t ((b ∷ []) ∷ lines_of bytes) (onto_line b (lines_of bytes))) ≡ b ∷ bytes
    by true h k = ap (λ (l : List ℕ). b ∷ l) h
    by false h k = k ∙ ap (λ (l : List ℕ). b ∷ l) h

flat_more : {X Y : Type 0} (f : X → List Y) (xs : List X) (x : X) → flat_map f (xs ++ x ∷ []) ≡ flat_map f xs ++ f x
flat_more f [] x = append-nil (f x)
flat_more f (y ∷ xs) x = ap (λ l. f y ++ l) (flat_more f xs x) ∙ sym (append_assoc (f y) (flat_map f xs) (f x))

fewer : {P : ℕ → Type 0} (n m : ℕ) → n ≤ m → ((place : ℕ) → place < m → P place) → (place : ℕ) → place < n → P place
fewer n m l h place k = h place (omega (arith, l, k))

longer : {X : Type 0} (xs : List X) (x : X) → length (xs ++ x ∷ []) ≡ suc (length xs)
longer [] x = refl
longer (y ∷ xs) x = ap suc (longer xs x)

line_at : {X : Type 0} (xs : List X) (n : ℕ) → n < length xs → (x : X) × (slice_get xs n ≡ Some x)
line_at [] n l = absurd (omega (arith, l))
line_at (x ∷ xs) zero l = (x, refl)
line_at (x ∷ xs) (suc n) l = line_at xs n (omega (arith, l))

module _ (file : File) (tries : ℕ) (lines : List (List ℕ)) where
  abbrev front : ℕ → List (List ℕ)
  front n = take n lines

  abbrev order_at : ℕ → List TransactionPlace
  order_at n = order_in file (front n)

  abbrev aborts_at : ℕ → List Abort
  aborts_at n = aborts_in file (front n)

  -- so many journal lines
  record JournalTold (n : ℕ) : Type 0 where
    text : joined (front n) ≡ flat_map (line_text file.names) (entries_of file (order_at n))
    begun : IsBegun file (order_at n)
    inside : AreInside file (order_at n)
    count : length (order_at n) ≡ n

  none_told : JournalTold 0
  none_told =
      let empty : order_at 0 ≡ [] = ap (flat_map (order_named file.names)) (none (total file)) in
      record {
        text = sym (ap (λ (o : List TransactionPlace). flat_map (line_text file.names) (entries_of file o)) empty);
        begun = subst (IsBegun file) (sym empty) (λ t. (refl, omega arith));
        inside = subst (AreInside file) (sym empty) (All-nil (IsInside file.threads));
        count = ap length empty;
      }
    where
      none : (n : ℕ) → take n (front 0) ≡ []
      none zero = refl
      none (suc n) = refl

  journal_step : (n : ℕ) (line : List ℕ) → n < total file → slice_get lines n ≡ Some line → n ≤ length lines → JournalTold n → IsJournalLine file (order_at n) line → JournalTold (n + 1)
  journal_step n line below stands within h right =
      let long : length (front n) ≡ n = length_front lines n within in
      let next : front (n + 1) ≡ front n ++ line ∷ [] = take_next lines n line stands in
      let order_is : order_at (n + 1) ≡ order_at n ++ right.place ∷ [] =
      ap (order_in file) next ∙ order_grows file tries (front n) line (omega (arith, long, below)) ∙ ap (λ (o : List TransactionPlace). order_at n ++ o) right.named in
      let entries_are : entries_of file (order_at (n + 1)) ≡ entries_of file (order_at n) ++ entry_after file (order_at n) right.place ∷ [] =
      ap (entries_of file) order_is ∙ entries_from-more file 0 (opening_state file) (order_at n) right.place in
      record {
        text =
            ap joined next
            ∙ flat_more (λ (l : List ℕ). l) (front n) line
            ∙ ap (λ (t : List ℕ). t ++ line) h.text
            ∙ ap (λ (t : List ℕ). flat_map (line_text file.names) (entries_of file (order_at n)) ++ t) right.text
            ∙ sym (flat_more (line_text file.names) (entries_of file (order_at n)) (entry_after file (order_at n) right.place))
            ∙ sym (ap (flat_map (line_text file.names)) entries_are);
        begun = subst (IsBegun file) (sym order_is) (begun_more file (order_at n) right.place h.begun right.next);
        inside = subst (AreInside file) (sym order_is) (All-push (IsInside file.threads) (order_at n) right.place h.inside (is_inside file right.place right.next.script right.next.transaction));
        count = let c = ap length order_is in let l = longer (order_at n) right.place in let o = h.count in omega (arith, c, l, o);
      }

  journal_told : (n : ℕ) → n ≤ total file → n ≤ length lines → AreRight file tries lines n → JournalTold n
  journal_told zero l w right = none_told
  journal_told (suc n) l w right =
      let old = journal_told n (omega (arith, l)) (omega (arith, w)) (fewer n (suc n) (omega arith) right) in
      let here = line_at lines n (omega (arith, w)) in
      let after = right_after file tries lines n here.0 here.1 (right n (omega arith)) in
      let long : length (front n) ≡ n = length_front lines n (omega (arith, w)) in
      let last : n + 1 ≡ suc n = omega arith in
      subst JournalTold last (journal_step n here.0 (omega (arith, l)) here.1 (omega (arith, w)) old (right_journal file tries (front n) here.0 (omega (arith, long, l)) after))

  -- they are those of as many transactions
  pub journal_long : (n : ℕ) → n ≤ total file → n ≤ length lines → AreRight file tries lines n → length (order_at n) ≡ n
  journal_long n l w right = (journal_told n l w right).count

  whole_order : JournalTold (total file) → IsOrder file (order_at (total file))
  whole_order h = complete file (order_at (total file)) h.begun h.inside h.count

  -- so many lines up to the line `state`
  record AbortsTold (n : ℕ) : Type 0 where
    order : IsOrder file (order_at n)
    text : joined (front n) ≡ flat_map (line_text file.names) (entries_of file (order_at n)) ++ flat_map (abort_text file.names) (aborts_at n)
    each : All (IsRightAlone file (order_at n)) (aborts_at n)
    few : (place : TransactionPlace) → count_at place (aborts_at n) ≤ tries
    handed : HandsBack tries (aborts_at n)
    sorted : IsSorted (aborts_at n)

  abbrev has_state : ℕ → Bool
  has_state n = list_any is_state_line (behind file (front n))

  -- and behind it
  record ObjectsTold (n : ℕ) : Type 0 where
    order : IsOrder file (order_at n)
    aborts : List Abort
    are_right : AreRightAborts file tries (order_at n) aborts
    within : length (beyond_state (behind file (front n))) ≤ length file.declarations
    text : joined (front n)
        ≡ flat_map (line_text file.names) (entries_of file (order_at n))
        ++ (flat_map (abort_text file.names) aborts ++ (codes "state\n" ++ flat_map (object_text (final_state file (order_at n))) (take (length (beyond_state (behind file (front n)))) file.declarations)))

  -- one abort line more

  place_is : (p q : TransactionPlace) → p.0 ≡ q.0 → p.1 ≡ q.1 → p ≡ q
  place_is p q e f = λ i. (e i, f i)

  few_more : (before : List Abort) (a : Abort) → ((place : TransactionPlace) → count_at place before ≤ tries) → count_at a.place (before ++ a ∷ []) ≤ tries → (place : TransactionPlace) → count_at place (before ++ a ∷ []) ≤ tries
  few_more before a few own place = by ((a.place.0 == place.0) && (a.place.1 == place.1)) refl
    where
      both : (m n k l : ℕ) → ((m == n) && (k == l)) ≡ true → (m ≡ n) × (k ≡ l)
      both m n k l e = (first m n k l e, second m n k l e)
        where
          first : (m n k l : ℕ) → ((m == n) && (k == l)) ≡ true → m ≡ n
          first m n k l e = grind (arith, nat_tests)

          second : (m n k l : ℕ) → ((m == n) && (k == l)) ≡ true → k ≡ l
          second m n k l e = grind (arith, nat_tests)

      by : (b : Bool) → ((a.place.0 == place.0) && (a.place.1 == place.1)) ≡ b → count_at place (before ++ a ∷ []) ≤ tries
      by true e =
          let same = both a.place.0 place.0 a.place.1 place.1 e in
          subst (λ (q : TransactionPlace). count_at q (before ++ a ∷ []) ≤ tries) (place_is a.place place same.0 same.1) own
      by false e =
          let more = count_more before a place in
          let one = count_cons a [] place in
          let none = ap (λ (b : Bool). cond {A = ℕ} b 1 0) e in
          let old = few place in
          omega (arith, more, one, none, old)

  module _ (n : ℕ) (line : List ℕ) (stands : slice_get lines n ≡ Some line) (behind_it : total file ≤ n) where
    within : n < length lines
    within = slice_get_within lines n line stands

    long : length (front n) ≡ n
    long = length_front lines n (let l = within in omega (arith, l))

    past : total file ≤ length (front n)
    past = let l = long in omega (arith, l, behind_it)

    next : front (n + 1) ≡ front n ++ line ∷ []
    next = take_next lines n line stands

    same_order : order_at (n + 1) ≡ order_at n
    same_order = ap (order_in file) next ∙ order_stays file tries (front n) line past

    joined_more : joined (front (n + 1)) ≡ joined (front n) ++ line
    joined_more = ap joined next ∙ flat_more (λ (l : List ℕ). l) (front n) line

    abort_step : has_state n ≡ false → is_state_line line ≡ false → AbortsTold n → IsAbortLine file tries (order_at n) (aborts_at n) line → AbortsTold (n + 1)
    abort_step none state_false h k =
        let grown : aborts_at (n + 1) ≡ aborts_at n ++ k.abort ∷ [] =
        ap (aborts_in file) next ∙ aborts_grow file tries (front n) line past none state_false ∙ ap (λ (listed : List Abort). aborts_at n ++ listed) k.named in
        record {
          order = subst (IsOrder file) (sym same_order) h.order;
          text =
              joined_more
              ∙ ap (λ (t : List ℕ). t ++ line) h.text
              ∙ append_assoc (flat_map (line_text file.names) (entries_of file (order_at n))) (flat_map (abort_text file.names) (aborts_at n)) line
              ∙ ap (λ (t : List ℕ). flat_map (line_text file.names) (entries_of file (order_at n)) ++ (flat_map (abort_text file.names) (aborts_at n) ++ t)) k.text
              ∙ ap (λ (t : List ℕ). flat_map (line_text file.names) (entries_of file (order_at n)) ++ t) (sym (flat_more (abort_text file.names) (aborts_at n) k.abort))
              ∙ ap (λ (listed : List Abort). flat_map (line_text file.names) (entries_of file (order_at n)) ++ flat_map (abort_text file.names) listed) (sym grown)
              ∙ ap (λ (o : List TransactionPlace). flat_map (line_text file.names) (entries_of file o) ++ flat_map (abort_text file.names) (aborts_at (n + 1))) (sym same_order);
          each = subst (λ (o : List TransactionPlace). All (IsRightAlone file o) (aborts_at (n + 1))) (sym same_order)
              (subst (All (IsRightAlone file (order_at n))) (sym grown) (All-push (IsRightAlone file (order_at n)) (aborts_at n) k.abort h.each k.right.alone));
          few = subst (λ (listed : List Abort). (place : TransactionPlace) → count_at place listed ≤ tries) (sym grown) (few_more (aborts_at n) k.abort h.few k.right.few);
          handed = subst (HandsBack tries) (sym grown) k.right.handed;
          sorted = subst IsSorted (sym grown) k.right.sorted;
        }

    state_step : has_state n ≡ false → is_state_line line ≡ true → AbortsTold n → ObjectsTold (n + 1)
    state_step none state_true h =
        let is : line ≡ codes "state\n" = (bytes_eq-Decides line (codes "state\n")).0 state_true in
        let none_yet : length (beyond_state (behind file (front (n + 1)))) ≡ 0 = ap (λ (l : List (List ℕ)). length (beyond_state (behind file l))) next ∙ no_object_yet file tries (front n) line past none in
        record {
          order = subst (IsOrder file) (sym same_order) h.order;
          aborts = aborts_at n;
          are_right = subst (λ (o : List TransactionPlace). AreRightAborts file tries o (aborts_at n)) (sym same_order) (record { each = h.each; few = h.few; handed = h.handed; sorted = h.sorted });
          within = omega (arith, none_yet);
          text =
              joined_more
              ∙ ap (λ (t : List ℕ). t ++ line) h.text
              ∙ append_assoc (flat_map (line_text file.names) (entries_of file (order_at n))) (flat_map (abort_text file.names) (aborts_at n)) line
              ∙ ap (λ (t : List ℕ). flat_map (line_text file.names) (entries_of file (order_at n)) ++ (flat_map (abort_text file.names) (aborts_at n) ++ t)) (is ∙ sym (append-nil (codes "state\n")))
              ∙ ap (λ (o : List TransactionPlace). flat_map (line_text file.names) (entries_of file o) ++ (flat_map (abort_text file.names) (aborts_at n) ++ (codes "state\n" ++ flat_map (object_text (final_state file o)) []))) (sym same_order)
              ∙ ap (λ (ds : List Declaration). flat_map (line_text file.names) (entries_of file (order_at (n + 1))) ++ (flat_map (abort_text file.names) (aborts_at n) ++ (codes "state\n" ++ flat_map (object_text (final_state file (order_at (n + 1)))) ds)))
              (sym (ap (λ (k : ℕ). take k file.declarations) none_yet ∙ start file.declarations));
        }
      where
        start : (xs : List Declaration) → take 0 xs ≡ []
        start [] = refl
        start (x ∷ xs) = refl

    object_step : has_state n ≡ true → ObjectsTold n → IsObjectLine file (order_at n) (length (beyond_state (behind file (front n)))) line → ObjectsTold (n + 1)
    object_step some h k =
        let count : ℕ = length (beyond_state (behind file (front n))) in
        let state : State = final_state file (order_at n) in
        let more : length (beyond_state (behind file (front (n + 1)))) ≡ count + 1 = ap (λ (l : List (List ℕ)). length (beyond_state (behind file l))) next ∙ one_object_more file tries (front n) line past some in
        let taken : take (count + 1) file.declarations ≡ take count file.declarations ++ k.object ∷ [] = take_next file.declarations count k.object k.next in
        let journal : List ℕ = flat_map (line_text file.names) (entries_of file (order_at n)) in
        let aborts : List ℕ = flat_map (abort_text file.names) h.aborts in
        let objects : List ℕ = flat_map (object_text state) (take count file.declarations) in
        record {
          order = subst (IsOrder file) (sym same_order) h.order;
          aborts = h.aborts;
          are_right = subst (λ (o : List TransactionPlace). AreRightAborts file tries o h.aborts) (sym same_order) h.are_right;
          within = let l = slice_get_within file.declarations count k.object k.next in omega (arith, more, l);
          text =
              joined_more
              ∙ ap (λ (t : List ℕ). t ++ line) h.text
              ∙ append_assoc journal (aborts ++ (codes "state\n" ++ objects)) line
              ∙ ap (λ (t : List ℕ). journal ++ t) (append_assoc aborts (codes "state\n" ++ objects) line ∙ ap (λ (t : List ℕ). aborts ++ t) (append_assoc (codes "state\n") objects line))
              ∙ ap (λ (t : List ℕ). journal ++ (aborts ++ (codes "state\n" ++ (objects ++ t)))) k.text
              ∙ ap (λ (t : List ℕ). journal ++ (aborts ++ (codes "state\n" ++ t))) (sym (flat_more (object_text state) (take count file.declarations) k.object))
              ∙ ap (λ (ds : List Declaration). journal ++ (aborts ++ (codes "state\n" ++ flat_map (object_text state) ds))) (sym taken ∙ ap (λ (j : ℕ). take j file.declarations) (sym more))
              ∙ ap (λ (o : List TransactionPlace). flat_map (line_text file.names) (entries_of file o) ++ (aborts ++ (codes "state\n" ++ flat_map (object_text (final_state file o)) (take (length (beyond_state (behind file (front (n + 1))))) file.declarations)))) (sym same_order);
        }

  abbrev TellsBy : Bool → ℕ → Type 0
  TellsBy false n = AbortsTold n
  TellsBy true n = ObjectsTold n

  aborts_none : total file ≤ length lines → JournalTold (total file) → AbortsTold (total file)
  aborts_none l h =
      let none : aborts_at (total file) ≡ [] = no_aborts_behind file tries (front (total file)) [] (length_front lines (total file) l) in
      record {
        order = whole_order h;
        text = h.text ∙ sym (append-nil (flat_map (line_text file.names) (entries_of file (order_at (total file))))) ∙ ap (λ (listed : List Abort). flat_map (line_text file.names) (entries_of file (order_at (total file))) ++ flat_map (abort_text file.names) listed) (sym none);
        each = subst (All (IsRightAlone file (order_at (total file)))) (sym none) (All-nil (IsRightAlone file (order_at (total file))));
        few = subst (λ (listed : List Abort). (place : TransactionPlace) → count_at place listed ≤ tries) (sym none) (λ place. omega arith);
        handed = subst (HandsBack tries) (sym none) (λ p q own low used. refl);
        sorted = subst IsSorted (sym none) tt;
      }

  all_told : (m n : ℕ) → n ≡ total file + m → n ≤ length lines → AreRight file tries lines n → TellsBy (has_state n) n
  all_told zero n e w right =
      let at : n ≡ total file = omega (arith, e) in
      let none : has_state n ≡ false = none_behind file tries (front n) [] (length_front lines n w ∙ at) in
      subst (λ (b : Bool). TellsBy b n) (sym none) (subst AbortsTold (sym at) (aborts_none (omega (arith, w, at)) (journal_told (total file) (omega arith) (omega (arith, w, at)) (subst (AreRight file tries lines) at right))))
  all_told (suc m) (suc n) e w right =
      let last : n + 1 ≡ suc n = omega arith in
      let old = all_told m n (omega (arith, e)) (omega (arith, w)) (fewer n (suc n) (omega arith) right) in
      let here = line_at lines n (omega (arith, w)) in
      let behind_it : total file ≤ n = omega (arith, e) in
      let after = right_after file tries lines n here.0 here.1 (right n (omega arith)) in
      subst (λ (k : ℕ). TellsBy (has_state k) k) last (by n here.0 here.1 behind_it (has_state n) refl (is_state_line here.0) refl old after)
    where
      by : (n : ℕ) (line : List ℕ) (stands : slice_get lines n ≡ Some line) (behind_it : total file ≤ n) (b : Bool) → has_state n ≡ b → (s : Bool) → is_state_line line ≡ s → TellsBy b n → IsRightAfter file tries (front n) line → TellsBy (has_state (n + 1)) (n + 1)
      by n line stands behind_it true some s q old after =
          let more : has_state (n + 1) ≡ true = ap (λ (l : List (List ℕ)). list_any is_state_line (behind file l)) (next n line stands behind_it) ∙ still_some file tries (front n) line (past n line stands behind_it) some in
          subst (λ (b : Bool). TellsBy b (n + 1)) (sym more) (object_step n line stands behind_it some old (right_object file tries (front n) line (past n line stands behind_it) some after))
      by n line stands behind_it false none true state_true old after =
          let more : has_state (n + 1) ≡ true = ap (λ (l : List (List ℕ)). list_any is_state_line (behind file l)) (next n line stands behind_it) ∙ state_comes file tries (front n) line (past n line stands behind_it) none state_true in
          subst (λ (b : Bool). TellsBy b (n + 1)) (sym more) (state_step n line stands behind_it none state_true old)
      by n line stands behind_it false none false state_false old after =
          let more : has_state (n + 1) ≡ false = ap (λ (l : List (List ℕ)). list_any is_state_line (behind file l)) (next n line stands behind_it) ∙ still_none file tries (front n) line (past n line stands behind_it) none state_false in
          subst (λ (b : Bool). TellsBy b (n + 1)) (sym more) (abort_step n line stands behind_it none state_false old (abort_by (right_abort file tries (front n) line (past n line stands behind_it) none after)))
        where
          abort_by : (line ≡ codes "state\n") ⊎ IsAbortLine file tries (order_at n) (aborts_at n) line → IsAbortLine file tries (order_at n) (aborts_at n) line
          abort_by (inl e) = absurd (let state_true = (bytes_eq-Decides line (codes "state\n")).1 e in let clash : true ≡ false = sym state_true ∙ state_false in cc)
          abort_by (inr k) = k
  all_told (suc m) zero e w right = absurd (omega (arith, e))

  short_is_no_report : length lines < total file → IsWhole file lines → ⊥
  short_is_no_report l h = absurd (let none : list_any is_state_line (behind file lines) ≡ false = ap (list_any is_state_line) (dropped lines (total file) (omega (arith, l))) in let some = h.state in let clash : true ≡ false = sym some ∙ none in cc)
    where
      dropped : (xs : List (List ℕ)) (n : ℕ) → length xs ≤ n → drop n xs ≡ []
      dropped [] zero l = refl
      dropped [] (suc n) l = refl
      dropped (x ∷ xs) zero l = absurd (omega (arith, l))
      dropped (x ∷ xs) (suc n) l = dropped xs n (omega (arith, l))

  pub right_report : (text : List ℕ) → lines ≡ lines_of text → AreRight file tries lines (length lines) → IsWhole file lines → IsRightReport file tries text
  right_report text e right whole = by (le_or (total file) (length lines))
    where
      le_or : (a b : ℕ) → (a ≤ b) ⊎ (b < a)
      le_or zero b = inl (omega arith)
      le_or (suc a) zero = inr (omega arith)
      le_or (suc a) (suc b) = step (le_or a b)
        where
          step : (a ≤ b) ⊎ (b < a) → (suc a ≤ suc b) ⊎ (suc b < suc a)
          step (inl l) = inl (omega (arith, l))
          step (inr l) = inr (omega (arith, l))

      by : (total file ≤ length lines) ⊎ (length lines < total file) → IsRightReport file tries text
      by (inr l) = absurd (short_is_no_report l whole)
      by (inl l) =
          let n : ℕ = length lines in
          let all : front n ≡ lines = take_whole lines n (omega arith) in
          let some : has_state n ≡ true = ap (λ (ls : List (List ℕ)). list_any is_state_line (behind file ls)) all ∙ whole.state in
          let h : ObjectsTold n = subst (λ (b : Bool). TellsBy b n) some (all_told (n - total file) n (omega (arith, l)) (omega arith) right) in
          let objects : length (beyond_state (behind file (front n))) ≡ length file.declarations = ap (λ (ls : List (List ℕ)). length (beyond_state (behind file ls))) all ∙ whole.objects in
          record {
            order = order_at n;
            aborts = h.aborts;
            is_order = h.order;
            are_right = h.are_right;
            report =
                sym (joined_lines text)
                ∙ ap joined (sym e)
                ∙ ap joined (sym all)
                ∙ h.text
                ∙ ap (λ (ds : List Declaration). flat_map (line_text file.names) (entries_of file (order_at n)) ++ (flat_map (abort_text file.names) h.aborts ++ (codes "state\n" ++ flat_map (object_text (final_state file (order_at n))) ds)))
                (ap (λ (k : ℕ). take k file.declarations) objects ∙ take_whole file.declarations (length file.declarations) (omega arith));
          }
