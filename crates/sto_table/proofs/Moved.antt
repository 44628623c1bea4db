-- Each step on one word is its event: the words after it show the core state after the event.
use Rattle.std.proofs.Common.{◌≡◌, ◌<◌, ◌≤◌, ◌+◌, ◌*◌, ◌/◌, ◌%◌, ◌-◌, ◌^◌, ℕ, ℤ, pos, zero, suc, List, [], ◌∷◌, ◌++◌, length, map, set, get_or, true, false, not, sym, refl, ap, ◌∙◌, subst, arith, length-set, bit_and, bit_or}
use Rattle.std.proofs.Math.Bool.{not-not}
use Rattle.std.proofs.lemmas.List.{map-set, set-append_left}
use Rattle.std.proofs.lemmas.Nat.Bits.{and_high_mask}
use Rattle.std.specs.Int.{cast_signed, w64}
use lib.ListN.{get_or-map}
use Rattle.sto_version.specs.Versions.{ticket_of, is_free, version_of, weight}
use Rattle.sto_version.proofs.Bits.{or_one}
use Rattle.sto_core.specs.declared.view.View.{View}
use Rattle.sto_core.specs.History.{Contents, Updates}
use Rattle.sto_core.specs.Views.{own_ticket}
use Rattle.sto_core.specs.Event.{Event, Start, Open, Word, Close, Renew, Recheck, Lock, Test, Draw, Check, Decide, Put, Release, Unlock}
use Rattle.sto_core.specs.Core.{Part, Core, part_at, version_at, number_found, value_found, clock_after, statuses_after, parts_after, status_word, edited, with_lock, with_ticket, with_value}
use Rattle.sto_core.proofs.Versions.{ticket_is, free_is}
use Rattle.sto_table.specs.Laid.{Laid, part_laid, flat, all_words, core_laid, offset, place_of}
use Rattle.sto_table.specs.Steps.{number_told, value_told, LoadsAt, StoresAt}
use Rattle.sto_table.proofs.Flat.{laid_at, widths, set_add, version_at_place, word_at_place, version_set_place, word_set_place, part_at_laid}
use Rattle.sto_core.proofs.Versions.{version_again}
use Rattle.sto_table.proofs.Words.{get_flat, set_flat}

-- what a step at the word i, which becomes f of what it was, has to make of the words
pub record Moved (e : Event) (clock : ℕ) (statuses : List ℕ) (parts : List Laid) (views : List View) (v : View)
    (i : ℕ) (f : ℕ → ℕ) : Type 0 where
  pub number : number_found e (core_laid clock statuses parts views) ≡ number_told e (get_or (all_words clock statuses parts) i 0)
  pub value : value_found e (core_laid clock statuses parts views) ≡ value_told e (get_or (all_words clock statuses parts) i 0)
  pub later_clock : ℕ
  pub later_statuses : List ℕ
  pub later_parts : List Laid
  pub words : set (all_words clock statuses parts) i (f (get_or (all_words clock statuses parts) i 0)) ≡ all_words later_clock later_statuses later_parts
  pub many : length later_statuses ≡ length statuses
  pub clock_is : later_clock ≡ clock_after e clock
  pub statuses_are : later_statuses ≡ statuses_after e v statuses
  pub parts_are : map part_laid later_parts ≡ parts_after e v (map part_laid parts)

set_same : (l : List ℕ) (i : ℕ) → set l i (get_or l i 0) ≡ l
set_same [] i = refl
set_same (x ∷ xs) zero = refl
set_same (x ∷ xs) (suc i) = ap (λ l. x ∷ l) (set_same xs i)

-- the part, the word or the status word of an event is one of these
abbrev pub InRange : List ℕ → List Laid → View → Event → Type 0
InRange statuses parts v (Open p) = p < length parts
InRange statuses parts v (Word p k) = (p < length parts) × (k < length (laid_at parts p).words)
InRange statuses parts v (Close p) = p < length parts
InRange statuses parts v (Test p) = p < length parts
InRange statuses parts v (Check p) = p < length parts
InRange statuses parts v (Recheck p) = p < length parts
InRange statuses parts v (Put p k x) = (p < length parts) × (k < length (laid_at parts p).words)
InRange statuses parts v (Release p) = p < length parts
InRange statuses parts v (Unlock p) = p < length parts
InRange statuses parts v (Lock p) = p < length parts
InRange statuses parts v (Decide b) = v.number < length statuses
InRange statuses parts v e = Unit {0}

module _ (passes : ℕ) (opening : Contents) (clock : ℕ) (statuses : List ℕ) (parts : List Laid) (views : List View)
    (v : View) (many : length statuses ≡ passes) (wide : widths parts ≡ map length opening) where
  abbrev words : List ℕ
  words = all_words clock statuses parts

  abbrev c : Core
  c = core_laid clock statuses parts views

  place_is : (p : ℕ) → place_of passes opening p ≡ suc (length statuses + offset (widths parts) p)
  place_is p = λ j. suc (sym many j + offset (sym wide j) p)

  word_place : (p i : ℕ) → place_of passes opening p + suc i ≡ suc (length statuses + (offset (widths parts) p + suc i))
  word_place p i = let k = place_is p in omega arith

  -- what stands at the version of a part
  pub at_version : (p : ℕ) → p < length parts → get_or words (place_of passes opening p) 0 ≡ (laid_at parts p).version
  at_version p lt =
      ap (λ (k : ℕ). get_or words k 0) (place_is p)
      ∙ (get_flat clock statuses (flat parts) (offset (widths parts) p) ∙ version_at_place parts p lt)

  pub at_word : (p i : ℕ) → p < length parts → i < length (laid_at parts p).words
      → get_or words (place_of passes opening p + suc i) 0 ≡ get_or (laid_at parts p).words i 0
  at_word p i lt within =
      ap (λ (k : ℕ). get_or words k 0) (word_place p i)
      ∙ (get_flat clock statuses (flat parts) (offset (widths parts) p + suc i) ∙ word_at_place parts p i lt within)

  set_version : (p n : ℕ) → p < length parts
      → set words (place_of passes opening p) n
      ≡ all_words clock statuses (set parts p (record { version = n; words = (laid_at parts p).words }))
  set_version p n lt =
      ap (λ (k : ℕ). set words k n) (place_is p)
      ∙ (set_flat clock statuses (flat parts) (offset (widths parts) p) n
      ∙ ap (λ (l : List ℕ). clock ∷ (statuses ++ l)) (version_set_place parts p n lt))

  set_word : (p i n : ℕ) → p < length parts → i < length (laid_at parts p).words
      → set words (place_of passes opening p + suc i) n
      ≡ all_words clock statuses (set parts p (record { version = (laid_at parts p).version; words = set (laid_at parts p).words i n }))
  set_word p i n lt within =
      ap (λ (k : ℕ). set words k n) (word_place p i)
      ∙ (set_flat clock statuses (flat parts) (offset (widths parts) p + suc i) n
      ∙ ap (λ (l : List ℕ). clock ∷ (statuses ++ l)) (word_set_place parts p i n lt within))

  -- the version word of the core state
  version_is : (p : ℕ) → p < length parts → version_at c p ≡ get_or words (place_of passes opening p) 0
  version_is p lt =
      ap (λ (q : Part). version_of q.ticket q.locked) (part_at_laid parts p)
      ∙ (version_again (laid_at parts p).version ∙ sym (at_version p lt))

  value_is : (p i : ℕ) → p < length parts → i < length (laid_at parts p).words
      → get_or (part_at (map part_laid parts) p).words i (pos 0) ≡ cast_signed w64 (get_or words (place_of passes opening p + suc i) 0)
  value_is p i lt within =
      ap (λ (q : Part). get_or q.words i (pos 0)) (part_at_laid parts p)
      ∙ (get_or-map (cast_signed w64) (laid_at parts p).words i 0
      ∙ ap (cast_signed w64) (sym (at_word p i lt within)))

  -- an event that changes no word
  loads : (e : Event) (i : ℕ)
      → number_found e c ≡ number_told e (get_or words i 0)
      → value_found e c ≡ value_told e (get_or words i 0)
      → clock ≡ clock_after e clock → statuses ≡ statuses_after e v statuses
      → map part_laid parts ≡ parts_after e v (map part_laid parts)
      → Moved e clock statuses parts views v i (λ n. n)
  loads e i number value x y z = record {
    number = number;
    value = value;
    later_clock = clock;
    later_statuses = statuses;
    later_parts = parts;
    words = set_same words i;
    many = refl;
    clock_is = x;
    statuses_are = y;
    parts_are = z;
  }

  pub load_moves : (e : Event) (i : ℕ) → LoadsAt passes opening e i → InRange statuses parts v e → Moved e clock statuses parts views v i (λ n. n)
  load_moves Start i is lt = subst (λ (k : ℕ). Moved Start clock statuses parts views v k (λ n. n)) (sym is) (loads Start 0 refl refl refl refl refl)
  load_moves Renew i is lt = subst (λ (k : ℕ). Moved Renew clock statuses parts views v k (λ n. n)) (sym is) (loads Renew 0 refl refl refl refl refl)
  load_moves (Open p) i is lt = subst (λ (k : ℕ). Moved (Open p) clock statuses parts views v k (λ n. n)) (sym is)
      (loads (Open p) (place_of passes opening p) (version_is p lt) refl refl refl refl)
  load_moves (Word p k) i is lt = subst (λ (k' : ℕ). Moved (Word p k) clock statuses parts views v k' (λ n. n)) (sym is)
      (loads (Word p k) (place_of passes opening p + suc k) refl (value_is p k lt.0 lt.1) refl refl refl)
  load_moves (Close p) i is lt = subst (λ (k : ℕ). Moved (Close p) clock statuses parts views v k (λ n. n)) (sym is)
      (loads (Close p) (place_of passes opening p) (version_is p lt) refl refl refl refl)
  load_moves (Test p) i is lt = subst (λ (k : ℕ). Moved (Test p) clock statuses parts views v k (λ n. n)) (sym is)
      (loads (Test p) (place_of passes opening p) (version_is p lt) refl refl refl refl)
  load_moves (Check p) i is lt = subst (λ (k : ℕ). Moved (Check p) clock statuses parts views v k (λ n. n)) (sym is)
      (loads (Check p) (place_of passes opening p) (version_is p lt) refl refl refl refl)
  load_moves (Recheck p) i is lt = subst (λ (k : ℕ). Moved (Recheck p) clock statuses parts views v k (λ n. n)) (sym is)
      (loads (Recheck p) (place_of passes opening p) (version_is p lt) refl refl refl refl)
  load_moves (Lock p) i is lt = absurd is
  load_moves (Draw us seen loaded) i is lt = absurd is
  load_moves (Decide b) i is lt = absurd is
  load_moves (Put p k x) i is lt = absurd is
  load_moves (Release p) i is lt = absurd is
  load_moves (Unlock p) i is lt = absurd is

  -- the parts after one was changed to a laid one
  edited_is : (g : Part → Part) (p : ℕ) (l : Laid) → part_laid l ≡ g (part_laid (laid_at parts p))
      → map part_laid (set parts p l) ≡ edited g (map part_laid parts) p
  edited_is g p l is =
      map-set part_laid parts p l
      ∙ ap (set (map part_laid parts) p) (is ∙ ap g (sym (part_at_laid parts p)))

  -- an event that changes the version of a part
  versions : (e : Event) (g : Part → Part) (p : ℕ) (f : ℕ → ℕ) → p < length parts
      → number_found e c ≡ number_told e (get_or words (place_of passes opening p) 0)
      → value_found e c ≡ value_told e (get_or words (place_of passes opening p) 0)
      → clock ≡ clock_after e clock → statuses ≡ statuses_after e v statuses
      → edited g (map part_laid parts) p ≡ parts_after e v (map part_laid parts)
      → (let n = (laid_at parts p).version in
      part_laid (record { version = f n; words = (laid_at parts p).words }) ≡ g (part_laid (laid_at parts p)))
      → Moved e clock statuses parts views v (place_of passes opening p) f
  versions e g p f lt number value x y z is =
      let at = at_version p lt in
      let l : Laid = record { version = f (laid_at parts p).version; words = (laid_at parts p).words } in record {
        number = number;
        value = value;
        later_clock = clock;
        later_statuses = statuses;
        later_parts = set parts p l;
        words = ap (λ (k : ℕ). set words (place_of passes opening p) (f k)) at ∙ set_version p (f (laid_at parts p).version) lt;
        many = refl;
        clock_is = x;
        statuses_are = y;
        parts_are = edited_is g p l is ∙ z;
      }

  -- a version word with a ticket and a bit
  shows : (n m t : ℕ) (b : _) (ws : List ℕ) → m ≡ version_of t b
      → part_laid (record { version = m; words = ws }) ≡ record { ticket = t; locked = b; words = map (cast_signed w64) ws }
  shows n m t b ws is =
      let bit : not (is_free (version_of t b)) ≡ b = ap not (free_is t b) ∙ not-not b in
      ap (λ (k : ℕ). part_laid (record { version = k; words = ws })) is
      ∙ (λ j. record { ticket = ticket_is t b j; locked = bit j; words = map (cast_signed w64) ws })

  pub lock_moves : (p : ℕ) → p < length parts → Moved (Lock p) clock statuses parts views v (place_of passes opening p) (λ n. bit_or n 1)
  lock_moves p lt =
      let l = laid_at parts p in
      versions (Lock p) (with_lock true) p (λ n. bit_or n 1) lt (version_is p lt) refl refl refl refl
      (shows l.version (bit_or l.version 1) (ticket_of l.version) true l.words (or_one l.version))

  pub unlock_moves : (p : ℕ) → p < length parts → get_or words (place_of passes opening p) 0 < 2 ^ 64
      → Moved (Unlock p) clock statuses parts views v (place_of passes opening p) (λ n. bit_and n 18446744073709551614)
  unlock_moves p lt small =
      let l = laid_at parts p in
      let at = at_version p lt in
      let mask : bit_and l.version 18446744073709551614 ≡ 2 * (l.version / 2) + 0 =
      and_high_mask 64 1 (omega arith) l.version (omega (arith, at, small)) ∙ omega arith in
      versions (Unlock p) (with_lock false) p (λ n. bit_and n 18446744073709551614) lt refl refl refl refl refl
      (shows l.version (bit_and l.version 18446744073709551614) (ticket_of l.version) false l.words mask)

  pub draw_moves : (us : Updates) (seen loaded : List ℕ) → clock < 2 ^ 63
      → Moved (Draw us seen loaded) clock statuses parts views v 0 (λ n. (n + 1) % 2 ^ 64)
  draw_moves us seen loaded small =
      let sum : (clock + 1) % 2 ^ 64 ≡ suc clock = omega (arith, small) in record {
        number = refl;
        value = refl;
        later_clock = suc clock;
        later_statuses = statuses;
        later_parts = parts;
        words = ap (λ (k : ℕ). all_words k statuses parts) sum;
        many = refl;
        clock_is = refl;
        statuses_are = refl;
        parts_are = refl;
      }

  pub store_moves : (e : Event) (i x : ℕ) → StoresAt passes opening e v i x → InRange statuses parts v e → Moved e clock statuses parts views v i (λ n. x)
  store_moves (Decide b) i x is lt =
      subst (λ (k : ℕ). Moved (Decide b) clock statuses parts views v k (λ n. x)) (sym is.0) (record {
        number = refl;
        value = refl;
        later_clock = clock;
        later_statuses = set statuses v.number x;
        later_parts = parts;
        words = ap (λ (l : List ℕ). clock ∷ l) (set-append_left statuses (flat parts) v.number x lt);
        many = length-set statuses v.number x;
        clock_is = refl;
        statuses_are = ap (set statuses v.number) is.1;
        parts_are = refl;
      })
  store_moves (Put p k y) i x is lt =
      let l = laid_at parts p in
      let m : Laid = record { version = l.version; words = set l.words k x } in
      subst (λ (k' : ℕ). Moved (Put p k y) clock statuses parts views v k' (λ n. x)) (sym is.0) (record {
        number = refl;
        value = refl;
        later_clock = clock;
        later_statuses = statuses;
        later_parts = set parts p m;
        words = set_word p k x lt.0 lt.1;
        many = refl;
        clock_is = refl;
        statuses_are = refl;
        parts_are = edited_is (with_value k y) p m
            (λ j. record {
              ticket = ticket_of l.version;
              locked = not (is_free l.version);
              words = (map-set (cast_signed w64) l.words k x ∙ ap (set (map (cast_signed w64) l.words) k) is.1) j;
            });
      })
  store_moves (Release p) i x is lt =
      let l = laid_at parts p in
      subst (λ (k : ℕ). Moved (Release p) clock statuses parts views v k (λ n. x)) (sym is.0)
      (versions (Release p) (with_ticket (own_ticket v.phase)) p (λ n. x) lt refl refl refl refl refl
      (shows l.version x (own_ticket v.phase) false l.words (omega (arith, is.1))))
  store_moves Start i x is lt = absurd is
  store_moves (Open p) i x is lt = absurd is
  store_moves (Word p k) i x is lt = absurd is
  store_moves (Close p) i x is lt = absurd is
  store_moves (Lock p) i x is lt = absurd is
  store_moves (Test p) i x is lt = absurd is
  store_moves (Draw us seen loaded) i x is lt = absurd is
  store_moves (Check p) i x is lt = absurd is
  store_moves Renew i x is lt = absurd is
  store_moves (Recheck p) i x is lt = absurd is
  store_moves (Unlock p) i x is lt = absurd is
