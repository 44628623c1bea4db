-- Along a second replay.
use Rattle.std.proofs.Common.{◌≡◌, ◌⊎◌, ℕ, zero, suc, ◌+◌, ◌<◌, ◌≤◌, List, [], ◌∷◌, ◌++◌, length, map, take, drop, refl, sym, ap, ◌∙◌, subst, Bool, true, false, cond, ◌==◌, Option, Some, slice_get, arith, inl, inr}
use Rattle.std.specs.Option.{option_map}
use Rattle.std.proofs.lemmas.Bool.Decides.{nat_tests}
use Rattle.std.proofs.lemmas.List.{take_all, take-append-drop}
use Rattle.std.proofs.lemmas.List.Elements.{All-head, All-tail}
use Rattle.std.proofs.lemmas.Option.{slice_get_within, slice_get-map}
use Rattle.sto_model.specs.Run.{State}
use Rattle.sto_part.specs.Listed.{Listed}
use Rattle.sto_lang.specs.Scripts.{Script, File}
use Rattle.sto_lang.proofs.SoundLines.{all_get}
use Rattle.sto_report_spec.specs.Orders.{TransactionPlace, transaction_at, count_in, positions_of, numbers_from, IsOrder}
use Rattle.sto_report_spec.specs.Replay.{Entry, run_at, is_writer, counted, entry_at, entries_from, entries_of, state_from, opening_state, shown}
use Rattle.sto_report_spec.specs.LawfulAborts.{writers_before, IsBefore}
use Rattle.sto_report_spec.specs.declared.ending.Ending.{Ending}
use Rattle.sto_report_spec.specs.declared.ending.Ending.TheVariants as endings
use Rattle.sto_journal.specs.declared.journal.Line.{Line}
use Rattle.sto_journal.specs.Journals.{entry, places}
use Rattle.sto_checker.specs.Runs.{writers_from, IsSoFar}
use Rattle.sto_checker.specs.declared.progress.Progress.{Progress}
use Rattle.sto_checker.proofs.OneMore.{writers_from-more}
use Rattle.sto_checker.specs.Shown.{IsInside, AreInside, IsAlong}
use Rattle.sto_checker.proofs.Along.{writers_up, shown_after}
use Rattle.sto_checker.proofs.Kept.{is_inside}
use Rattle.sto_checker.proofs.Stages.{take_next}
use Rattle.sto_checker.specs.declared.abort.GivenAbort.{GivenAbort}
use Rattle.sto_checker.specs.Seen.{AreBySeen, IsFirstOf, IsFirstUnheard}
use Rattle.sto_checker.proofs.Lists.{at_mapped}
use Rattle.sto_checker.proofs.Splitting.{same_first, same_rest}
use Rattle.sto_checker.proofs.Taken.{places_long}
use Rattle.sto_checker.proofs.AbortWalk.{numbers_in, wrong_more}

eq_or : (a b : ℕ) → (a ≡ b) ⊎ (a ≡ b → ⊥)
eq_or zero zero = inl refl
eq_or zero (suc b) = inr (λ e. absurd (omega (arith, e)))
eq_or (suc a) zero = inr (λ e. absurd (omega (arith, e)))
eq_or (suc a) (suc b) = by (eq_or a b)
  where
    by : (a ≡ b) ⊎ (a ≡ b → ⊥) → (suc a ≡ suc b) ⊎ (suc a ≡ suc b → ⊥)
    by (inl e) = inl (ap suc e)
    by (inr n) = inr (λ e. n (omega (arith, e)))

counted_few : (b : Bool) (w : ℕ) → counted b w ≤ suc w
counted_few true w = omega arith
counted_few false w = omega arith

-- there are at most as many writers as transactions
pub writers_few : (f : File) (w : ℕ) (st : State) (order : List TransactionPlace) → writers_from f w st order ≤ w + length order
writers_few f w st [] = omega arith
writers_few f w st (p ∷ order) =
    let one = counted_few (is_writer (transaction_at f p) (run_at f st p)) w in
    let more = writers_few f (entry_at f w st p).writers (run_at f st p).after order in
    omega (arith, one, more)

-- and at most as many up to one of them as up to the last
front_writers : (f : File) (w : ℕ) (st : State) (front back : List TransactionPlace) → writers_from f w st front ≤ writers_from f w st (front ++ back)
front_writers f w st [] back = writers_up f w st back
front_writers f w st (p ∷ front) back = front_writers f (entry_at f w st p).writers (run_at f st p).after front back

-- A second replay.

module _ (file : File) (lines : List Line) where
  abbrev all_places : List TransactionPlace
  all_places = places lines

  pub along_none : (run : Progress) → run.lines.items ≡ [] → run.writers ≡ 0 → run.state.items ≡ opening_state file → IsAlong file all_places run
  along_none run none zero_writers opening = record {
    so_far = record {
      entries = ap (map entry) none ∙ sym (ap (λ (ls : List Line). entries_from file 0 (opening_state file) (places ls)) none);
      writers_are = zero_writers ∙ sym (ap (λ (ls : List Line). writers_from file 0 (opening_state file) (places ls)) none);
      state_is = opening ∙ sym (ap (λ (ls : List Line). state_from file (opening_state file) (places ls)) none);
      few = omega (arith, zero_writers);
      objects = ap length opening;
    };
    placed = ap places none ∙ ap (λ (n : ℕ). take n all_places) (sym (ap length none));
    within = let l = ap length none in omega (arith, l);
  }

  place_at : (n : ℕ) (line : Line) → slice_get lines n ≡ Some line → slice_get all_places n ≡ Some (line.thread, line.position)
  place_at n line stands =
      slice_get-map (λ (e : Entry). e.place) (map entry lines) n ∙ ap (option_map (λ (e : Entry). e.place)) (slice_get-map entry lines n ∙ ap (option_map entry) stands)

  pub along_more : (old new : Progress) (line : Line) → IsAlong file all_places old → slice_get lines (length old.lines.items) ≡ Some line → IsSoFar file new.lines.items new.writers new.state.items
      → places new.lines.items ≡ places old.lines.items ++ (line.thread, line.position) ∷ [] → length new.lines.items ≡ length old.lines.items + 1 → IsAlong file all_places new
  along_more old new line h stands so_far placed counted =
      let n : ℕ = length old.lines.items in
      let there = place_at n line stands in
      let l = slice_get_within all_places n (line.thread, line.position) there in
      record {
        so_far = so_far;
        placed = placed ∙ ap (λ (ps : List TransactionPlace). ps ++ (line.thread, line.position) ∷ []) h.placed ∙ sym (take_next all_places n (line.thread, line.position) there) ∙ ap (λ (k : ℕ). take k all_places) (sym counted);
        within = omega (arith, l, counted);
      }

  counted_by : (b : Bool) (w : ℕ) → (counted b w ≡ w) ⊎ (counted b w ≡ suc w)
  counted_by true w = inr refl
  counted_by false w = inl refl

  -- there is one writer more, or none
  pub writers_more : (old new : Progress) (place : TransactionPlace) → IsSoFar file old.lines.items old.writers old.state.items → IsSoFar file new.lines.items new.writers new.state.items
      → places new.lines.items ≡ places old.lines.items ++ place ∷ [] → (new.writers ≡ old.writers) ⊎ (new.writers ≡ suc old.writers)
  writers_more old new place h k placed =
      let st : State = opening_state file in
      let before : ℕ = writers_from file 0 st (places old.lines.items) in
      let ran : Bool = is_writer (transaction_at file place) (run_at file (state_from file st (places old.lines.items)) place) in
      let is : new.writers ≡ counted ran before = k.writers_are ∙ ap (writers_from file 0 st) placed ∙ writers_from-more file 0 st (places old.lines.items) place in
      by ran is (counted_by ran before)
    where
      by : (b : Bool) → new.writers ≡ counted b (writers_from file 0 (opening_state file) (places old.lines.items))
          → (counted b (writers_from file 0 (opening_state file) (places old.lines.items)) ≡ writers_from file 0 (opening_state file) (places old.lines.items)) ⊎ (counted b (writers_from file 0 (opening_state file) (places old.lines.items)) ≡ suc (writers_from file 0 (opening_state file) (places old.lines.items)))
          → (new.writers ≡ old.writers) ⊎ (new.writers ≡ suc old.writers)
      by b is (inl e) = inl (is ∙ e ∙ sym h.writers_are)
      by b is (inr e) = inr (is ∙ e ∙ ap suc (sym h.writers_are))

  -- its state is the one after its writers
  pub state_shown : (run : Progress) → IsAlong file all_places run → run.state.items ≡ shown file all_places run.writers
  state_shown run h =
      let n : ℕ = length run.lines.items in
      let whole : take n all_places ++ drop n all_places ≡ all_places = take-append-drop n all_places in
      let same : writers_from file 0 (opening_state file) (take n all_places) ≡ 0 + run.writers =
      ap (writers_from file 0 (opening_state file)) (sym h.placed) ∙ sym h.so_far.writers_are ∙ (let z : run.writers ≡ 0 + run.writers = omega arith in z) in
      h.so_far.state_is
      ∙ ap (state_from file (opening_state file)) h.placed
      ∙ sym (shown_after file (opening_state file) (take n all_places) (drop n all_places) 0 run.writers same)
      ∙ ap (λ (o : List TransactionPlace). shown file o run.writers) whole

  pub all_run : (run : Progress) → IsAlong file all_places run → length lines ≤ length run.lines.items → run.writers ≡ writers_from file 0 (opening_state file) all_places
  all_run run h l =
      let long = places_long lines in
      h.so_far.writers_are ∙ ap (writers_from file 0 (opening_state file)) (h.placed ∙ take_all (length run.lines.items) all_places (omega (arith, l, long)))

  -- and it never is more
  pub not_more : (run : Progress) → IsAlong file all_places run → run.writers ≤ writers_from file 0 (opening_state file) all_places
  not_more run h =
      let n : ℕ = length run.lines.items in
      let whole : take n all_places ++ drop n all_places ≡ all_places = take-append-drop n all_places in
      let l = front_writers file 0 (opening_state file) (take n all_places) (drop n all_places) in
      let e = ap (writers_from file 0 (opening_state file)) whole in
      let is = h.so_far.writers_are ∙ ap (writers_from file 0 (opening_state file)) h.placed in
      omega (arith, l, e, is)

  -- the transaction of a line is one of the file
  pub line_inside : (n : ℕ) (line : Line) → AreInside file all_places → slice_get lines n ≡ Some line → IsInside file.threads (line.thread, line.position)
  line_inside n line inside stands = all_get (IsInside file.threads) all_places n (line.thread, line.position) inside (place_at n line stands)

  -- what is known of the abort lines along it
  module _ (aborts : List GivenAbort) where
    pub walked_on : (run : Progress) (writers : ℕ) (lists : List (Listed ℕ)) (l : Listed ℕ) (numbers : List ℕ) (st : State) (old new : Option ℕ) → IsAlong file all_places run → AreBySeen aborts (length aborts) writers (numbers_in lists)
        → slice_get lists run.writers ≡ Some l → numbers ≡ l.items → st ≡ run.state.items → IsFirstUnheard file all_places aborts run.writers old → IsFirstOf file st aborts numbers old new
        → IsFirstUnheard file all_places aborts (run.writers + 1) new
    walked_on run writers lists l numbers st old new h sorted at same st_is first more =
        let next : suc run.writers ≡ run.writers + 1 = omega arith in
        subst (λ (n : ℕ). IsFirstUnheard file all_places aborts n new) next
        (wrong_more file all_places aborts writers (numbers_in lists) l.items run.writers old new sorted (at_mapped lists run.writers l at) first
        (subst (λ (s : State). IsFirstOf file s aborts l.items old new) (st_is ∙ state_shown run h) (subst (λ (ns : List ℕ). IsFirstOf file st aborts ns old new) same more)))

    -- a writer more has a state of its own, and another transaction has none
    module _ (old new : Progress) (place : TransactionPlace) (h : IsAlong file all_places old) (so_far : IsSoFar file new.lines.items new.writers new.state.items) (placed : places new.lines.items ≡ places old.lines.items ++ place ∷ []) where
      pub is_next : old.writers < new.writers → new.writers ≡ old.writers + 1
      is_next l = by (writers_more old new place h.so_far so_far placed)
        where
          by : (new.writers ≡ old.writers) ⊎ (new.writers ≡ suc old.writers) → new.writers ≡ old.writers + 1
          by (inl e) = absurd (omega (arith, e, l))
          by (inr e) = omega (arith, e)

      pub is_same : new.writers ≤ old.writers → new.writers ≡ old.writers
      is_same l = by (writers_more old new place h.so_far so_far placed)
        where
          by : (new.writers ≡ old.writers) ⊎ (new.writers ≡ suc old.writers) → new.writers ≡ old.writers
          by (inl e) = e
          by (inr e) = absurd (omega (arith, e, l))

-- A transaction that has an entry saw no more writers than there are.

record CutPlace (t n : ℕ) (order : List TransactionPlace) : Type 0 where
  front : List TransactionPlace
  back : List TransactionPlace
  are : order ≡ front ++ (t, n) ∷ back

is_thread : (a b : ℕ) → (a == b) ≡ true → a ≡ b
is_thread a b e = grind (arith, nat_tests)

cut_place : (t n : ℕ) (order : List TransactionPlace) (front back : List ℕ) → positions_of t order ≡ front ++ n ∷ back → CutPlace t n order
cut_place t n [] [] back e = absurd cc
cut_place t n [] (m ∷ front) back e = absurd cc
cut_place t n (p ∷ order) front back e = by (p.0 == t) refl front e (λ front e. cut_place t n order front back e)
  where
    behind : CutPlace t n order → CutPlace t n (p ∷ order)
    behind c = record { front = p ∷ c.front; back = c.back; are = ap (λ (o : List TransactionPlace). p ∷ o) c.are }

    by : (b : Bool) → (p.0 == t) ≡ b → (front : List ℕ) → cond b (p.1 ∷ positions_of t order) (positions_of t order) ≡ front ++ n ∷ back
        → ((front : List ℕ) → positions_of t order ≡ front ++ n ∷ back → CutPlace t n order) → CutPlace t n (p ∷ order)
    by true k [] f more =
        let thread = is_thread p.0 t k in
        let position = same_first p.1 n (positions_of t order) back f in
        record { front = []; back = order; are = ap (λ (q : TransactionPlace). q ∷ order) (λ i. (thread i, position i)) }
    by true k (m ∷ front) f more = behind (more front (same_rest p.1 m (positions_of t order) (front ++ n ∷ back) f))
    by false k front f more = behind (more front f)

numbers_cut : (first count n : ℕ) → first ≤ n → n < first + count → (front : List ℕ) × (back : List ℕ) × (numbers_from first count ≡ front ++ n ∷ back)
numbers_cut first zero n l m = absurd (omega (arith, l, m))
numbers_cut first (suc count) n l m = by (eq_or first n) (numbers_cut (suc first) count n)
  where
    by : (first ≡ n) ⊎ (first ≡ n → ⊥) → (suc first ≤ n → n < suc first + count → (front : List ℕ) × (back : List ℕ) × (numbers_from (suc first) count ≡ front ++ n ∷ back))
        → (front : List ℕ) × (back : List ℕ) × (numbers_from first (suc count) ≡ front ++ n ∷ back)
    by (inl e) more = ([], numbers_from (suc first) count, ap (λ (k : ℕ). k ∷ numbers_from (suc first) count) e)
    by (inr ne) more =
        let rest = more (above first n l ne) (omega (arith, m)) in
        (first ∷ rest.0, rest.1, ap (λ (ns : List ℕ). first ∷ ns) rest.2)
      where
        above : (a b : ℕ) → a ≤ b → (a ≡ b → ⊥) → suc a ≤ b
        above a b l ne = grind arith

before_most : (e : Entry) (x : Ending) → writers_before e x ≤ e.writers
before_most e endings.Commit = omega arith
before_most e endings.Read = omega arith
before_most e endings.Cancel = omega arith

within_all : (f : File) (w : ℕ) (st : State) (front : List TransactionPlace) (place : TransactionPlace) (back : List TransactionPlace) (k : ℕ) → IsBefore (entries_from f w st (front ++ place ∷ back)) place k → k ≤ writers_from f w st (front ++ place ∷ back)
within_all f w st [] place back k h =
    let e : Entry = entry_at f w st place in
    let own = All-head (λ (x : Entry). x.place ≡ place → k ≤ writers_before x x.ending) e (entries_from f e.writers (run_at f st place).after back) h refl in
    let most = before_most e e.ending in
    let up = writers_up f e.writers (run_at f st place).after back in
    omega (arith, own, most, up)
within_all f w st (p ∷ front) place back k h =
    let e : Entry = entry_at f w st p in
    within_all f e.writers (run_at f st p).after front place back k (All-tail (λ (x : Entry). x.place ≡ place → k ≤ writers_before x x.ending) e (entries_from f e.writers (run_at f st p).after (front ++ place ∷ back)) h)

pub seen_within : (f : File) (order : List TransactionPlace) (place : TransactionPlace) (s : Script) (k : ℕ) → IsOrder f order → transaction_at f place ≡ Some s → IsBefore (entries_of f order) place k → k ≤ writers_from f 0 (opening_state f) order
seen_within f order place s k whole at h =
    let i = is_inside f place s at in
    let n = numbers_cut 1 (count_in f.threads place.0) place.1 i.first (let l = i.last in omega (arith, l)) in
    let c = cut_place place.0 place.1 order n.0 n.1 (whole place.0 ∙ n.2) in
    subst (λ (o : List TransactionPlace). k ≤ writers_from f 0 (opening_state f) o) (sym c.are)
    (within_all f 0 (opening_state f) c.front place c.back k (subst (λ (o : List TransactionPlace). IsBefore (entries_of f o) place k) c.are h))
