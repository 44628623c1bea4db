-- Each step of a pass keeps the rule of the table, and tells what its event tells.
use Rattle.std.proofs.Common.{◌≡◌, ◌<◌, ◌≤◌, ◌+◌, ◌*◌, ◌%◌, ◌^◌, ℕ, ℤ, suc, List, length, map, set, get_or, sym, refl, ap, ◌∙◌, subst, arith, bit_and, bit_or}
use Rattle.std.proofs.lemmas.List.{map-set}
use mathlib.Core.Option.{some}
use lib.ListN.{get_elem?}
use Rattle.atomic_table.specs.Table.{State, Me, keeps, Allows, carried_after}
use Rattle.atomic_table.proofs.Lists.{at_map}
use Rattle.sto_core.specs.declared.view.View.{View}
use Rattle.sto_core.specs.History.{Contents, Validity, Updates}
use Rattle.sto_core.specs.Event.{Event, Start, Open, Word, Close, Renew, Recheck, Lock, Test, Draw, Check, Decide, Put, Release, Unlock, after}
use Rattle.sto_core.specs.Allowed.{Allowed}
use Rattle.sto_core.specs.Places.{LoadsClock, LoadsVersion}
use Rattle.sto_core.proofs.Places.{has_place}
use Rattle.std.specs.Int.{cast_signed, w64}
use Rattle.sto_core.specs.Views.{own_ticket}
use Rattle.sto_core.specs.Core.{Core, status_word, core_after, number_found, value_found}
use Rattle.sto_core.specs.Rule.{Holds, total}
use Rattle.sto_core.specs.Tells.{Tells}
use Rattle.sto_core.proofs.Lasting.{lasts}
use Rattle.sto_core.proofs.Whole.{event_tells}
use Rattle.sto_table.specs.declared.stance.Stance.{Stance}
use Rattle.sto_table.specs.Laid.{Laid, all_words, core_laid, place_of}
use Rattle.sto_table.specs.Placed.{view_in, views_of, with_view}
use Rattle.sto_table.specs.Shows.{Shows}
use Rattle.sto_table.specs.Steps.{number_told, value_told, Plays, LoadsAt, StoresAt, IsSilent}
use Rattle.sto_table.proofs.Moved.{Moved, load_moves, store_moves, lock_moves, unlock_moves, draw_moves}
use Rattle.sto_table.proofs.Ranges.{widths_are, in_range}
use Rattle.sto_table.proofs.Apart.{below_set, still_apart}

module _ (valid : Validity) (sizes : List ℕ) (opening : Contents) (passes slots id : ℕ)
    (me : Me (Unit {0}) Stance) (e : Event) (live : 0 < me.0.view.gathered) (may : Allowed valid e me.0.view) where
  abbrev v : View
  v = me.0.view

  -- from whatever words that show a core state, the step is its event
  abbrev Moves : ℕ → (ℕ → ℕ) → Type 0
  Moves i f =
      (clock : ℕ) (statuses : List ℕ) (parts : List Laid) (views : List View) → length statuses ≡ passes
      → Holds valid sizes opening (core_laid clock statuses parts views) → get_elem? views id ≡ some v
      → get_or (all_words clock statuses parts) i 0 < 2 ^ 64
      → Moved e clock statuses parts views v i f

  steps : (i : ℕ) (f : ℕ → ℕ) → Moves i f
      → Allows (Shows valid sizes opening passes) slots id me i f (Plays valid passes e me)
  steps i f moves s h _ at small =
      let n : ℕ = get_or s.words i 0 in
      let views = views_of s.views in
      let c = core_laid h.clock h.statuses h.parts views in
      let at' : get_elem? views id ≡ some v = at_map view_in s.views id me.0 at in
      let m = moves h.clock h.statuses h.parts views h.many h.rule at'
      (subst (λ (l : List ℕ). get_or l i 0 < 2 ^ 64) h.words small) in
      let number : number_found e c ≡ number_told e n =
      m.number ∙ ap (λ (l : List ℕ). number_told e (get_or l i 0)) (sym h.words) in
      let value : value_found e c ≡ value_told e n =
      m.value ∙ ap (λ (l : List ℕ). value_told e (get_or l i 0)) (sym h.words) in
      let w = with_view me.0 (after e v (number_told e n) (value_told e n)) in
      let k = event_tells valid sizes opening c id v at' live e may h.rule in
      let views_are : set views id (after e v (number_found e c) (value_found e c)) ≡ views_of (set s.views id w) =
      (λ j. set views id (after e v (number j) (value j))) ∙ sym (map-set view_in s.views id w) in
      let core_is : core_after e c id v ≡ core_laid m.later_clock m.later_statuses m.later_parts (views_of (set s.views id w)) =
      λ j. record { clock = sym m.clock_is j; statuses = sym m.statuses_are j; parts = sym m.parts_are j; views = views_are j } in
      let l = lasts e v (number_told e n) (value_told e n) in (
        w,
        keeps,
        tt,
        record {
          clock = m.later_clock;
          statuses = m.later_statuses;
          parts = m.later_parts;
          words = ap (λ (l : List ℕ). set l i (f (get_or l i 0))) h.words ∙ m.words;
          many = m.many ∙ h.many;
          rule = subst (Holds valid sizes opening) core_is k.0;
          apart = still_apart s.views (set s.views id w)
              (below_set s.views id w (record {
                old = me.0;
                there = at;
                uncut = λ several. omega arith;
                live = λ some_pass. (live, l.number);
              })) h.apart;
        },
        (
          refl,
          subst (λ (z : ℕ × (ℕ × ℤ)). Tells valid z.0 e v z.1.0 z.1.1 (after e v z.1.0 z.1.1))
              (λ j. (h.many j, (number j, value j))) k.1,
        ),
      )

  abbrev Steps : ℕ → (ℕ → ℕ) → Type 0
  Steps i f = Allows (Shows valid sizes opening passes) slots id me i f (Plays valid passes e me)

  pub loads : (i : ℕ) → LoadsAt passes opening e i → Steps i (λ n. n)
  loads i at = steps i (λ n. n) (λ clock statuses parts views many holds there small.
      load_moves passes opening clock statuses parts views v many (widths_are clock statuses parts views holds.1) e i at
      (in_range clock statuses parts views holds.1 id v there live e (has_place valid e v may)))

  pub stores : (i x : ℕ) → StoresAt passes opening e v i x → Steps i (λ n. x)
  stores i x at = steps i (λ n. x) (λ clock statuses parts views many holds there small.
      store_moves passes opening clock statuses parts views v many (widths_are clock statuses parts views holds.1) e i x at
      (in_range clock statuses parts views holds.1 id v there live e (has_place valid e v may)))

module _ (valid : Validity) (sizes : List ℕ) (opening : Contents) (passes slots id : ℕ)
    (me : Me (Unit {0}) Stance) (live : 0 < me.0.view.gathered) where
  locks_there : (e : Event) (p : ℕ) → e ≡ Lock p → Allowed valid e me.0.view
      → Allows (Shows valid sizes opening passes) slots id me (place_of passes opening p) (λ n. bit_or n 1) (Plays valid passes e me)
  locks_there e p is = subst (λ (d : Event). Allowed valid d me.0.view
      → Allows (Shows valid sizes opening passes) slots id me (place_of passes opening p) (λ n. bit_or n 1) (Plays valid passes d me)) (sym is)
      (λ may. steps valid sizes opening passes slots id me (Lock p) live may (place_of passes opening p) (λ n. bit_or n 1)
      (λ clock statuses parts views many holds there small.
      lock_moves passes opening clock statuses parts views me.0.view many (widths_are clock statuses parts views holds.1) p
      (in_range clock statuses parts views holds.1 id me.0.view there live (Lock p) (has_place valid (Lock p) me.0.view may))))

  unlocks_there : (e : Event) (p : ℕ) → e ≡ Unlock p → Allowed valid e me.0.view
      → Allows (Shows valid sizes opening passes) slots id me (place_of passes opening p) (λ n. bit_and n 18446744073709551614) (Plays valid passes e me)
  unlocks_there e p is = subst (λ (d : Event). Allowed valid d me.0.view
      → Allows (Shows valid sizes opening passes) slots id me (place_of passes opening p) (λ n. bit_and n 18446744073709551614) (Plays valid passes d me)) (sym is)
      (λ may. steps valid sizes opening passes slots id me (Unlock p) live may (place_of passes opening p) (λ n. bit_and n 18446744073709551614)
      (λ clock statuses parts views many holds there small.
      unlock_moves passes opening clock statuses parts views me.0.view many (widths_are clock statuses parts views holds.1) p
      (in_range clock statuses parts views holds.1 id me.0.view there live (Unlock p) (has_place valid (Unlock p) me.0.view may)) small))

  pub locks : (e : Event) (p i : ℕ) → e ≡ Lock p → i ≡ place_of passes opening p → Allowed valid e me.0.view
      → Allows (Shows valid sizes opening passes) slots id me i (λ n. bit_or n 1) (Plays valid passes e me)
  locks e p i is at may = subst (λ (k : ℕ). Allows (Shows valid sizes opening passes) slots id me k (λ n. bit_or n 1) (Plays valid passes e me))
      (sym at) (locks_there e p is may)

  pub unlocks : (e : Event) (p i : ℕ) → e ≡ Unlock p → i ≡ place_of passes opening p → Allowed valid e me.0.view
      → Allows (Shows valid sizes opening passes) slots id me i (λ n. bit_and n 18446744073709551614) (Plays valid passes e me)
  unlocks e p i is at may = subst (λ (k : ℕ). Allows (Shows valid sizes opening passes) slots id me k (λ n. bit_and n 18446744073709551614) (Plays valid passes e me))
      (sym at) (unlocks_there e p is may)

  pub draws : (e : Event) (us : Updates) (seen loaded : List ℕ) → e ≡ Draw us seen loaded → Allowed valid e me.0.view
      → Allows (Shows valid sizes opening passes) slots id me 0 (λ n. (n + 1) % 2 ^ 64) (Plays valid passes e me)
  draws e us seen loaded is = subst (λ (d : Event). Allowed valid d me.0.view
      → Allows (Shows valid sizes opening passes) slots id me 0 (λ n. (n + 1) % 2 ^ 64) (Plays valid passes d me)) (sym is)
      (λ may. steps valid sizes opening passes slots id me (Draw us seen loaded) live may 0 (λ n. (n + 1) % 2 ^ 64)
      (λ clock statuses parts views many holds there small.
      draw_moves passes opening clock statuses parts views me.0.view many (widths_are clock statuses parts views holds.1) us seen loaded
      (let room = holds.1.room in omega arith)))

-- the number of passes that a step tells is that of the words
pub told_as : (valid : Validity) (sizes : List ℕ) (opening : Contents) (passes slots id : ℕ)
    (me : Me (Unit {0}) Stance) (e : Event) (i : ℕ) (f : ℕ → ℕ) (told : ℕ) → told ≡ passes
    → Allows (Shows valid sizes opening passes) slots id me i f (Plays valid passes e me)
    → Allows (Shows valid sizes opening passes) slots id me i f (Plays valid told e me)
told_as valid sizes opening passes slots id me e i f told is =
    subst (λ (n : ℕ). Allows (Shows valid sizes opening passes) slots id me i f (Plays valid passes e me)
    → Allows (Shows valid sizes opening passes) slots id me i f (Plays valid n e me)) (sym is) (λ k. k)

-- an event that loads the version of a part loads the word at its place
pub version_at : (passes : ℕ) (opening : Contents) (e : Event) (p i : ℕ) → LoadsVersion e p
    → i ≡ place_of passes opening p → LoadsAt passes opening e i
version_at passes opening (Open q) p i is at = at ∙ ap (place_of passes opening) (sym is)
version_at passes opening (Close q) p i is at = at ∙ ap (place_of passes opening) (sym is)
version_at passes opening (Test q) p i is at = at ∙ ap (place_of passes opening) (sym is)
version_at passes opening (Check q) p i is at = at ∙ ap (place_of passes opening) (sym is)
version_at passes opening (Recheck q) p i is at = at ∙ ap (place_of passes opening) (sym is)
version_at passes opening Start p i is at = absurd is
version_at passes opening Renew p i is at = absurd is
version_at passes opening (Word q k) p i is at = absurd is
version_at passes opening (Lock q) p i is at = absurd is
version_at passes opening (Draw us seen loaded) p i is at = absurd is
version_at passes opening (Decide b) p i is at = absurd is
version_at passes opening (Put q k x) p i is at = absurd is
version_at passes opening (Release q) p i is at = absurd is
version_at passes opening (Unlock q) p i is at = absurd is

-- an event that loads the clock loads the first word
pub clock_at : (passes : ℕ) (opening : Contents) (e : Event) → LoadsClock e → LoadsAt passes opening e 0
clock_at passes opening Start is = refl
clock_at passes opening Renew is = refl
clock_at passes opening (Open q) is = absurd is
clock_at passes opening (Word q k) is = absurd is
clock_at passes opening (Close q) is = absurd is
clock_at passes opening (Recheck q) is = absurd is
clock_at passes opening (Lock q) is = absurd is
clock_at passes opening (Test q) is = absurd is
clock_at passes opening (Draw us seen loaded) is = absurd is
clock_at passes opening (Check q) is = absurd is
clock_at passes opening (Decide b) is = absurd is
clock_at passes opening (Put q k x) is = absurd is
clock_at passes opening (Release q) is = absurd is
clock_at passes opening (Unlock q) is = absurd is

-- the same for an event that an equation names
module _ (passes : ℕ) (opening : Contents) (e : Event) (v : View) where
  pub word_at : (p k i : ℕ) → e ≡ Word p k → i ≡ place_of passes opening p + suc k → LoadsAt passes opening e i
  word_at p k i is at = subst (λ (d : Event). LoadsAt passes opening d i) (sym is) at

  pub status_at : (b : _) (i x : ℕ) → e ≡ Decide b → i ≡ suc v.number → x ≡ status_word b (own_ticket v.phase)
      → StoresAt passes opening e v i x
  status_at b i x is at same = subst (λ (d : Event). StoresAt passes opening d v i x) (sym is) (at, same)

  pub put_at : (p k i x : ℕ) (y : ℤ) → e ≡ Put p k y → i ≡ place_of passes opening p + suc k
      → cast_signed w64 x ≡ y → StoresAt passes opening e v i x
  put_at p k i x y is at same = subst (λ (d : Event). StoresAt passes opening d v i x) (sym is) (at, same)

  pub release_at : (p i x : ℕ) → e ≡ Release p → i ≡ place_of passes opening p → x ≡ 2 * own_ticket v.phase
      → StoresAt passes opening e v i x
  release_at p i x is at same = subst (λ (d : Event). StoresAt passes opening d v i x) (sym is) (at, same)

-- what an event that is told nothing tells does not hang on what its word held
module _ (valid : Validity) (passes : ℕ) (me : Me (Unit {0}) Stance) where
  pub silent : (e : Event) → IsSilent e → (n m : ℕ) (w : Me (Unit {0}) Stance) → Plays valid passes e me n w
      → Plays valid passes e me m w
  silent (Decide b) is n m w plays = plays
  silent (Put p k x) is n m w plays = plays
  silent (Release p) is n m w plays = plays
  silent (Unlock p) is n m w plays = plays
  silent Start is n m w plays = absurd is
  silent Renew is n m w plays = absurd is
  silent (Open p) is n m w plays = absurd is
  silent (Word p k) is n m w plays = absurd is
  silent (Close p) is n m w plays = absurd is
  silent (Lock p) is n m w plays = absurd is
  silent (Test p) is n m w plays = absurd is
  silent (Draw us seen loaded) is n m w plays = absurd is
  silent (Check p) is n m w plays = absurd is
  silent (Recheck p) is n m w plays = absurd is

  pub unlock_silent : (e : Event) (p : ℕ) → e ≡ Unlock p → (n m : ℕ) (w : Me (Unit {0}) Stance)
      → Plays valid passes e me n w → Plays valid passes e me m w
  unlock_silent e p is = silent e (subst IsSilent (sym is) tt)

pub store_silent : (passes : ℕ) (opening : Contents) (e : Event) (v : View) (i x : ℕ)
    → StoresAt passes opening e v i x → IsSilent e
store_silent passes opening (Decide b) v i x at = tt
store_silent passes opening (Put p k y) v i x at = tt
store_silent passes opening (Release p) v i x at = tt
store_silent passes opening Start v i x at = absurd at
store_silent passes opening Renew v i x at = absurd at
store_silent passes opening (Open p) v i x at = absurd at
store_silent passes opening (Word p k) v i x at = absurd at
store_silent passes opening (Close p) v i x at = absurd at
store_silent passes opening (Lock p) v i x at = absurd at
store_silent passes opening (Test p) v i x at = absurd at
store_silent passes opening (Draw us seen loaded) v i x at = absurd at
store_silent passes opening (Check p) v i x at = absurd at
store_silent passes opening (Recheck p) v i x at = absurd at
store_silent passes opening (Unlock p) v i x at = absurd at

-- a store is not told the word that it replaces
pub stores_told : (valid : Validity) (sizes : List ℕ) (opening : Contents) (passes slots id : ℕ)
    (me : Me (Unit {0}) Stance) (e : Event) → 0 < me.0.view.gathered → Allowed valid e me.0.view → (i x : ℕ)
    → StoresAt passes opening e me.0.view i x → (told : ℕ) → told ≡ passes
    → Allows (Shows valid sizes opening passes) slots id me i (λ n. x) (λ n. Plays valid told e me x)
stores_told valid sizes opening passes slots id me e live may i x at told is s h homes there small =
    let k = stores valid sizes opening passes slots id me e live may i x at s h homes there small in
    let plays = silent valid passes me e (store_silent passes opening e me.0.view i x at) _ x (k.0, carried_after me.1 k.1) k.4 in
    (k.0, k.1, k.2, k.3, subst (λ (n : ℕ). Plays valid n e me x (k.0, carried_after me.1 k.1)) (sym is) plays)
