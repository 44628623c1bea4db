-- Tickets and words in the order in which a commit comes to them.
use Rattle.std.proofs.Common.{◌≡◌, ◌<◌, ◌≤◌, ◌+◌, ◌-◌, ℕ, zero, suc, true, false, leb, nat_eq, if◌then◌else◌, List, [], ◌∷◌, ◌++◌, length, take, drop, refl, ap, sym, ◌∙◌, subst, arith, slice_index_or, inl, inr, length-append, length-drop}
use Rattle.std.specs.List.Sorted.{IsPartitionPoint}
use Rattle.std.proofs.lemmas.Bool.{cases_lt}
use Rattle.std.proofs.lemmas.Bool.Decides.{nat_tests}
use Rattle.std.proofs.lemmas.List.{get_or_default, get_or-append_right, get_or_append_left, drop-append-le, take-append-le, take_all, get_or-drop}
use Rattle.std.proofs.lemmas.List.Sorted.{IsNonDecreasingBy-push}
use Rattle.sto_core.specs.Reads.{value_read}
use Rattle.sto_attempt_log.specs.declared.commit_phase.FoundTicket.{FoundTicket}
use Rattle.sto_attempt_log.specs.declared.commit_phase.LoadedWord.{LoadedWord}
use Rattle.sto_attempt_log.specs.CommitPhases.{ticket_from, reads_of, is_load_of}
use Rattle.sto_attempt_log.specs.Ordered.{RisesAfter, is_before, AreInOrder, RisesUpTo}
use Rattle.sto_attempt_log.proofs.Values.{one_on, one_off}

-- one ticket more, of no lower part than the last one
pub rises_on : (s : ℕ) (xs : List FoundTicket) (x : FoundTicket) → RisesAfter s xs → ((d : FoundTicket) → 0 < length xs → (slice_index_or xs (length xs - 1) d).part ≤ x.part) → RisesAfter s (xs ++ x ∷ [])
rises_on s xs x r last = (
  omega (arith, r.0, length-append xs (x ∷ [])),
  rw (drop-append-le s xs (x ∷ []) r.0) (IsNonDecreasingBy-push (λ (y : FoundTicket). y.part) (drop s xs) x r.1 (λ d h.
      let long = length-drop s xs in
      let within : 0 < length xs = omega (arith, h, long) in
      let same : s + (length (drop s xs) - 1) ≡ length xs - 1 = omega (arith, h, long, r.0) in
      let at : slice_index_or (drop s xs) (length (drop s xs) - 1) d ≡ slice_index_or xs (length xs - 1) d = get_or-drop s xs (length (drop s xs) - 1) d ∙ ap (λ (k : ℕ). slice_index_or xs k d) same in
      omega (arith, last d within, ap (λ (y : FoundTicket). y.part) at))),
)

-- the last ticket of a part
none_left : (xs : List FoundTicket) (p t : ℕ) → ((k : ℕ) (d : FoundTicket) → k < length xs → nat_eq (slice_index_or xs k d).part p ≡ false) → ticket_from t xs p ≡ t
none_left [] p t other = refl
none_left (x ∷ xs) p t other = rw (other 0 x (omega arith)) (none_left xs p t (λ k d h. other (suc k) d (omega (arith, h))))

last_there : (xs : List FoundTicket) (p t i : ℕ) (d : FoundTicket) → i < length xs → nat_eq (slice_index_or xs i d).part p ≡ true
    → ((k : ℕ) (e : FoundTicket) → i < k → k < length xs → nat_eq (slice_index_or xs k e).part p ≡ false) → ticket_from t xs p ≡ (slice_index_or xs i d).ticket
last_there [] p t i d h hit other = absurd (omega (arith, h))
last_there (x ∷ xs) p t zero d h hit other = rw hit (none_left xs p x.ticket (λ k e l. other (suc k) e (omega arith) (omega (arith, l))))
last_there (x ∷ xs) p t (suc i) d h hit other =
    last_there xs p (if nat_eq x.part p then x.ticket else t) i d (omega (arith, h)) hit (λ k e l m. other (suc k) e (omega (arith, l)) (omega (arith, m)))

-- the one before the first that is of a higher part
pub last_ticket : (xs : List FoundTicket) (p t i n : ℕ) (d : FoundTicket) → n ≡ i + 1 → n ≤ length xs → nat_eq (slice_index_or xs i d).part p ≡ true
    → IsPartitionPoint (λ (y : FoundTicket). leb y.part p ≡ true) (λ y. leb y.part p ≡ false) xs n → ticket_from t xs p ≡ (slice_index_or xs i d).ticket
last_ticket xs p t i n d next few hit point =
    last_there xs p t i d (omega (arith, next, few)) hit (λ k e l m.
    let high : leb (slice_index_or xs k e).part p ≡ false = point.1 k e (omega (arith, next, l)) m in
    grind (arith, nat_tests))

pub ticket_split : (s t : ℕ) (xs : List FoundTicket) (p : ℕ) → ticket_from t xs p ≡ ticket_from (ticket_from t (take s xs) p) (drop s xs) p
ticket_split zero t xs p = refl
ticket_split (suc s) t [] p = refl
ticket_split (suc s) t (x ∷ xs) p = ticket_split s (if nat_eq x.part p then x.ticket else t) xs p

-- the order of words
pub before_both : (x y : LoadedWord) (p w : ℕ) → is_before y.part y.word x ≡ true → is_before p w y ≡ true → is_before p w x ≡ true
before_both x y p w a b = grind (arith, nat_tests)

before_other : (x : LoadedWord) (p w : ℕ) → is_before p w x ≡ true → is_load_of p w x ≡ false
before_other x p w a = grind (arith, nat_tests)

after_other : (x y : LoadedWord) (p w : ℕ) → is_before p w x ≡ false → is_load_of p w x ≡ false → is_before y.part y.word x ≡ true → is_load_of p w y ≡ false
after_other x y p w a b c = grind (arith, nat_tests)

-- one word more, behind the last one
in_order_on : (xs : List LoadedWord) (x : LoadedWord) → AreInOrder xs → ((d : LoadedWord) → 0 < length xs → is_before x.part x.word (slice_index_or xs (length xs - 1) d) ≡ true) → AreInOrder (xs ++ x ∷ [])
in_order_on xs x r last i j d l h = elim (cases_lt j (length xs)) [
  | inl within ↦
      let one = get_or_append_left xs (x ∷ []) d j within in
      let two = get_or_append_left xs (x ∷ []) d i (omega (arith, l, within)) in
      rw (one, two) (r i j d l within)
  | inr end ↦
      let long = length-append xs (x ∷ []) in
      let same : j - length xs ≡ 0 = omega (arith, h, long) in
      let one : slice_index_or (xs ++ x ∷ []) j d ≡ x = get_or-append_right xs (x ∷ []) (length xs) j d refl end ∙ ap (λ (k : ℕ). slice_index_or (x ∷ []) k d) same in
      let within : i < length xs = omega (arith, l, h, long) in
      let two = get_or_append_left xs (x ∷ []) d i within in
      rw (one, two) (elim (cases_lt i (length xs - 1)) [
        | inl lower ↦ before_both (slice_index_or xs i d) (slice_index_or xs (length xs - 1) d) x.part x.word (r i (length xs - 1) d lower (omega (arith, within))) (last d (omega (arith, within)))
        | inr upper ↦
            let k : i ≡ length xs - 1 = omega (arith, within, upper) in
            subst (λ (m : ℕ). is_before x.part x.word (slice_index_or xs m d) ≡ true) (sym k) (last d (omega (arith, within)))
      ])
]

pub rises_up_on : (n : ℕ) (xs : List LoadedWord) (x : LoadedWord) → RisesUpTo n xs → n ≡ length xs → ((d : LoadedWord) → 0 < length xs → is_before x.part x.word (slice_index_or xs (length xs - 1) d) ≡ true) → RisesUpTo (n + 1) (xs ++ x ∷ [])
rises_up_on n xs x r all last =
    let whole : AreInOrder xs = subst AreInOrder (take_all n xs (omega (arith, all))) r.1 in
    let long = length-append xs (x ∷ []) in
    (omega (arith, all, long), subst AreInOrder (sym (take_all (n + 1) (xs ++ x ∷ []) (omega (arith, all, long)))) (in_order_on xs x whole last))

pub rises_up_still : (n : ℕ) (xs : List LoadedWord) (x : LoadedWord) → RisesUpTo n xs → RisesUpTo n (xs ++ x ∷ [])
rises_up_still n xs x r = (omega (arith, r.0, length-append xs (x ∷ [])), rw (take-append-le n xs (x ∷ []) r.0) r.1)

-- words that stand at other places are passed over
passed : (xs rest : List LoadedWord) (p w : ℕ) → ((k : ℕ) (d : LoadedWord) → k < length xs → is_load_of p w (slice_index_or xs k d) ≡ false) → value_read (reads_of (xs ++ rest) p) w ≡ value_read (reads_of rest p) w
passed [] rest p w off = refl
passed (x ∷ xs) rest p w off = one_off x (xs ++ rest) p w (off 0 x (omega arith)) ∙ passed xs rest p w (λ k d h. off (suc k) d (omega (arith, h)))

first_there : (xs rest : List LoadedWord) (p w i : ℕ) (d : LoadedWord) → i < length xs → ((k : ℕ) (e : LoadedWord) → k < i → is_load_of p w (slice_index_or xs k e) ≡ false) → is_load_of p w (slice_index_or xs i d) ≡ true
    → value_read (reads_of (xs ++ rest) p) w ≡ (slice_index_or xs i d).value
first_there [] rest p w i d h off on = absurd (omega (arith, h))
first_there (x ∷ xs) rest p w zero d h off on = one_on x (xs ++ rest) p w on
first_there (x ∷ xs) rest p w (suc i) d h off on =
    one_off x (xs ++ rest) p w (off 0 x (omega arith)) ∙ first_there xs rest p w i d (omega (arith, h)) (λ k e l. off (suc k) e (omega (arith, l))) on

module _ (xs : List LoadedWord) (p w i : ℕ) (order : AreInOrder xs) (point : IsPartitionPoint (λ (y : LoadedWord). is_before p w y ≡ true) (λ y. is_before p w y ≡ false) xs i) where
  off_below : (k : ℕ) (d : LoadedWord) → k < i → is_load_of p w (slice_index_or xs k d) ≡ false
  off_below k d h = before_other (slice_index_or xs k d) p w (point.0 k d (omega arith) h)

  pub value_there : (d : LoadedWord) → i < length xs → is_load_of p w (slice_index_or xs i d) ≡ true → (rest : List LoadedWord) → value_read (reads_of (xs ++ rest) p) w ≡ (slice_index_or xs i d).value
  value_there d h on rest = first_there xs rest p w i d h off_below on

  off_from : (d : LoadedWord) → i < length xs → is_load_of p w (slice_index_or xs i d) ≡ false → (k : ℕ) (e : LoadedWord) → i ≤ k → k < length xs → is_load_of p w (slice_index_or xs k e) ≡ false
  off_from d h off k e l m =
      let one : is_load_of p w (slice_index_or xs i e) ≡ false = ap (is_load_of p w) (get_or_default xs i e d h) ∙ off in
      elim (cases_lt i k) [
        | inl later ↦ after_other (slice_index_or xs i e) (slice_index_or xs k e) p w (point.1 i e (omega arith) h) one (order i k e later m)
        | inr here ↦ let same : k ≡ i = omega (arith, l, here) in subst (λ (j : ℕ). is_load_of p w (slice_index_or xs j e) ≡ false) (sym same) one
      ]

  pub value_absent : (d : LoadedWord) → i < length xs → is_load_of p w (slice_index_or xs i d) ≡ false → (rest : List LoadedWord) → value_read (reads_of (xs ++ rest) p) w ≡ value_read (reads_of rest p) w
  value_absent d h off rest = passed xs rest p w (λ k e m. elim (cases_lt k i) [ inl low ↦ off_below k e low | inr high ↦ off_from d h off k e high m ])

  pub value_past_all : length xs ≤ i → (rest : List LoadedWord) → value_read (reads_of (xs ++ rest) p) w ≡ value_read (reads_of rest p) w
  value_past_all h rest = passed xs rest p w (λ k e m. off_below k e (omega (arith, h, m)))

pub parted_by_order : (xs : List LoadedWord) (p w : ℕ) → AreInOrder xs → (i j : ℕ) (d : LoadedWord) → i ≤ j → j < length xs → is_before p w (slice_index_or xs j d) ≡ true → is_before p w (slice_index_or xs i d) ≡ true
parted_by_order xs p w order i j d l h b = elim (cases_lt i j) [
  | inl lower ↦ before_both (slice_index_or xs i d) (slice_index_or xs j d) p w (order i j d lower h) b
  | inr upper ↦ let same : i ≡ j = omega (arith, l, upper) in subst (λ (k : ℕ). is_before p w (slice_index_or xs k d) ≡ true) (sym same) b
]
