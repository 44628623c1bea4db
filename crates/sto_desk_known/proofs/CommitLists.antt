-- The lists that a commit is led by are those of the parts that a desk tells.
use Rattle.std.specs.Prelude.{if◌then◌else◌, not, ◌&&◌, ◌||◌}
use Rattle.std.specs.List.{list_any, list_all}
use Rattle.std.proofs.Common.{◌≡◌, ◌<◌, ◌≤◌, ◌+◌, ℕ, Bool, true, false, nat_eq, nat_lt, List, [], ◌∷◌, length, map, refl, ap, sym, ◌∙◌, subst, arith, inl, inr, eqb-true, true≢false}
use Rattle.std.proofs.lemmas.Bool.{cases_Bool}
use Rattle.std.proofs.lemmas.Bool.Decides.{nat_tests}
use Rattle.sto_part.specs.Listed.{Listed}
use Rattle.sto_part.specs.declared.change.Change.{Change}
use Rattle.sto_part.specs.declared.change.Change.TheVariants.{Keep, Put, Add}
use Rattle.sto_item.specs.Observed.{sees}
use Rattle.sto_item.specs.Pending.{Entry, plain, is_keep, changes_of, IsRising, IsRisingFrom, EachChanges, AreUpdates}
use Rattle.sto_attempt_log.specs.CommitPhases.{is_of_part}
use Rattle.sto_attempt_log.specs.Gathering.{gathered, is_add, adding_part, unwritten_part, places_in, AreGathered}
use Rattle.sto_desk.specs.Laid.{Laid}
use Rattle.sto_desk.specs.Ordering.{is_add as desk_is_add, has_part, is_updated, is_tested, is_meant, ArePartsOf}
use Rattle.sto_desk.specs.declared.order.Which.TheVariants.{Seen as SeenParts, Held as HeldParts, Loaded as LoadedParts, Checked as CheckedParts}
use Rattle.sto_desk_known.proofs.Gathered.{is_some, or_false, same_parts, gathered_rises, has_gathered, seen_gathered, held_gathered}

-- an update as the library holds it
abbrev Held : Type 0
Held = ℕ × Listed Change

and_no : (b : Bool) → (b && false) ≡ false
and_no true = refl
and_no false = refl

and_yes : (b : Bool) → (b && true) ≡ b
and_yes true = refl
and_yes false = refl

share : (a b c : Bool) → ((a && b) || (a && c)) ≡ (a && (b || c))
share true b c = refl
share false b c = refl

-- the pending changes of a part, where the first update is of it, and where not
first_hit : (u : Held) (es : List Entry) (q : ℕ) → nat_eq u.0 q ≡ true → changes_of (plain u ∷ es) q ≡ u.1.items
first_hit u es q hit = ap (λ (b : Bool). if b then u.1.items else changes_of es q) hit

first_miss : (u : Held) (es : List Entry) (q : ℕ) → nat_eq u.0 q ≡ false → changes_of (plain u ∷ es) q ≡ changes_of es q
first_miss u es q miss = ap (λ (b : Bool). if b then u.1.items else changes_of es q) miss

-- the parts to which updates add
adds_same : (cs : List Change) → list_any is_add cs ≡ list_any desk_is_add cs
adds_same [] = refl
adds_same (Keep ∷ cs) = adds_same cs
adds_same (Put x ∷ cs) = adds_same cs
adds_same (Add x ∷ cs) = refl

adding_is : (u : Held) (q : ℕ) → is_some q (adding_part u) ≡ (list_any is_add u.1.items && nat_eq u.0 q)
adding_is u q = elim (cases_Bool (list_any is_add u.1.items)) [
  | inl adds ↦ rw adds refl
  | inr none ↦ rw none refl
]

abbrev any_adding : ℕ → List Held → Bool
any_adding q xs = list_any (λ (u : Held). is_some q (adding_part u)) xs

none_below : (n q : ℕ) (xs : List Held) → IsRisingFrom n (map plain xs) → q < n → any_adding q xs ≡ false
none_below n q [] rises low = refl
none_below n q (u ∷ xs) rises low =
    let from : n ≤ u.0 = rises.0 in
    let miss : nat_eq u.0 q ≡ false = grind (arith, nat_tests) in
    let a = list_any is_add u.1.items in
    ap (λ (b : Bool). b || any_adding q xs) (adding_is u q ∙ ap (λ (b : Bool). a && b) miss ∙ and_no a) ∙ none_below (u.0 + 1) q xs rises.1 (omega (arith, from, low))

adds_any : (n q : ℕ) (xs : List Held) → IsRisingFrom n (map plain xs) → any_adding q xs ≡ list_any desk_is_add (changes_of (map plain xs) q)
adds_any n q [] rises = refl
adds_any n q (u ∷ xs) rises =
    let a = list_any is_add u.1.items in
    elim (cases_Bool (nat_eq u.0 q)) [
      | inl hit ↦
          let at : u.0 ≡ q = eqb-true u.0 q hit in
          ap (λ (b : Bool). b || any_adding q xs) (adding_is u q ∙ ap (λ (b : Bool). a && b) hit ∙ and_yes a)
          ∙ ap (λ (b : Bool). a || b) (none_below (u.0 + 1) q xs rises.1 (omega (arith, at)))
          ∙ sym (or_false a) ∙ adds_same u.1.items ∙ ap (list_any desk_is_add) (sym (first_hit u (map plain xs) q hit))
      | inr miss ↦
          ap (λ (b : Bool). b || any_adding q xs) (adding_is u q ∙ ap (λ (b : Bool). a && b) miss ∙ and_no a)
          ∙ adds_any (u.0 + 1) q xs rises.1 ∙ ap (list_any desk_is_add) (sym (first_miss u (map plain xs) q miss))
    ]

pub tasks_gathered : (v : Laid) (held ps : List ℕ) (xs : List Held) → map plain xs ≡ v.set.updates → IsRising v.set.updates → ArePartsOf v HeldParts held → ArePartsOf v LoadedParts ps → ps ≡ gathered adding_part held xs
tasks_gathered v held ps xs same rises holds is =
    same_parts ps (gathered adding_part held xs) is.rises (gathered_rises adding_part held xs holds.rises)
    (λ q. is.each q ∙ sym (has_gathered adding_part held xs q ∙ ap (λ (b : Bool). b || any_adding q xs) (holds.each q)
    ∙ ap (λ (b : Bool). is_meant v HeldParts q || b) (adds_any 0 q xs (subst IsRising (sym same) rises) ∙ ap (λ (es : List Entry). list_any desk_is_add (changes_of es q)) same)))

-- the parts that no update is of
has_changes : (cs : List Change) → list_all is_keep cs ≡ false → nat_lt 0 (length cs) ≡ true
has_changes [] h = absurd (true≢false h)
has_changes (c ∷ cs) h = let some : 0 < length (c ∷ cs) = omega arith in grind (arith, nat_tests)

written_is : (xs : List Held) (q : ℕ) → EachChanges (map plain xs) → list_any (is_of_part q) xs ≡ nat_lt 0 (length (changes_of (map plain xs) q))
written_is [] q h = refl
written_is (u ∷ xs) q h = elim (cases_Bool (nat_eq u.0 q)) [
  | inl hit ↦
      ap (λ (b : Bool). b || list_any (is_of_part q) xs) hit ∙ sym (has_changes u.1.items h.0) ∙ ap (λ (cs : List Change). nat_lt 0 (length cs)) (sym (first_hit u (map plain xs) q hit))
  | inr miss ↦
      ap (λ (b : Bool). b || list_any (is_of_part q) xs) miss ∙ written_is xs q h.1 ∙ ap (λ (cs : List Change). nat_lt 0 (length cs)) (sym (first_miss u (map plain xs) q miss))
]

unwritten_here : (xs : List Held) (p q : ℕ) → is_some q (unwritten_part xs p) ≡ (not (list_any (is_of_part q) xs) && nat_eq p q)
unwritten_here xs p q = elim (cases_Bool (nat_eq p q)) [
  | inl hit ↦
      let at : p ≡ q = eqb-true p q hit in
      elim (cases_Bool (list_any (is_of_part p) xs)) [
        | inl there ↦ let too : list_any (is_of_part q) xs ≡ true = ap (λ (n : ℕ). list_any (is_of_part n) xs) (sym at) ∙ there in rw (there, too) refl
        | inr apart ↦ let too : list_any (is_of_part q) xs ≡ false = ap (λ (n : ℕ). list_any (is_of_part n) xs) (sym at) ∙ apart in rw (apart, too) refl
      ]
  | inr miss ↦ elim (cases_Bool (list_any (is_of_part p) xs)) [
    | inl there ↦ rw (there, miss) (sym (and_no (not (list_any (is_of_part q) xs))))
    | inr apart ↦ rw apart (miss ∙ sym (ap (λ (b : Bool). not (list_any (is_of_part q) xs) && b) miss ∙ and_no (not (list_any (is_of_part q) xs))))
  ]
]

unwritten_any : (xs : List Held) (ps : List ℕ) (q : ℕ) → list_any (λ (p : ℕ). is_some q (unwritten_part xs p)) ps ≡ (not (list_any (is_of_part q) xs) && has_part ps q)
unwritten_any xs [] q = sym (and_no (not (list_any (is_of_part q) xs)))
unwritten_any xs (p ∷ ps) q =
    let w = not (list_any (is_of_part q) xs) in
    ap (λ (b : Bool). b || list_any (λ (r : ℕ). is_some q (unwritten_part xs r)) ps) (unwritten_here xs p q)
    ∙ ap (λ (b : Bool). (w && nat_eq p q) || b) (unwritten_any xs ps q) ∙ share w (nat_eq p q) (has_part ps q)

checked_is : (s w t : Bool) → (s || (not w && (not s && t))) ≡ (s || (t && not w))
checked_is true w t = refl
checked_is false true t = sym (and_no t)
checked_is false false t = sym (and_yes t)

pub checks_gathered : (v : Laid) (seen held ps : List ℕ) (xs : List Held) → map plain xs ≡ v.set.updates → EachChanges v.set.updates → ArePartsOf v SeenParts seen → ArePartsOf v HeldParts held → ArePartsOf v CheckedParts ps
    → ps ≡ gathered (unwritten_part xs) seen held
checks_gathered v seen held ps xs same changes sights holds is =
    same_parts ps (gathered (unwritten_part xs) seen held) is.rises (gathered_rises (unwritten_part xs) seen held sights.rises)
    (λ q.
    let updated : list_any (is_of_part q) xs ≡ is_updated v q =
    written_is xs q (subst EachChanges (sym same) changes) ∙ ap (λ (es : List Entry). nat_lt 0 (length (changes_of es q))) same in
    is.each q ∙ sym (has_gathered (unwritten_part xs) seen held q
    ∙ ap (λ (b : Bool). b || list_any (λ (p : ℕ). is_some q (unwritten_part xs p)) held) (sights.each q)
    ∙ ap (λ (b : Bool). sees q v.set.items || b) (unwritten_any xs held q ∙ ap (λ (b : Bool). not b && has_part held q) updated ∙ ap (λ (b : Bool). not (is_updated v q) && b) (holds.each q))
    ∙ checked_is (sees q v.set.items) (is_updated v q) (is_tested v q)))

-- so the parts that a desk tells are lists of a commit, whatever holds its updates
pub are_gathered : (v : Laid) (seen held loaded checked : List ℕ) (xs : List Held) → map plain xs ≡ v.set.updates → AreUpdates v.set.updates → ArePartsOf v SeenParts seen → ArePartsOf v HeldParts held
    → ArePartsOf v LoadedParts loaded → ArePartsOf v CheckedParts checked → AreGathered v.set.items v.set.updates seen held loaded checked (places_in xs)
are_gathered v seen held loaded checked xs same updates sights holds loads checks = record {
  xs = xs;
  updates = same;
  seen_are = seen_gathered v seen sights;
  loaded_are = held_gathered v seen held sights holds;
  tasks_are = tasks_gathered v held loaded xs same updates.0 holds loads;
  checks_are = checks_gathered v seen held checked xs same updates.1 sights holds checks;
  places_are = refl;
}
