-- The parts of a report, line by line.
use Rattle.std.proofs.Common.{◌≡◌, ℕ, zero, suc, ◌+◌, ◌-◌, ◌<◌, ◌≤◌, List, [], ◌∷◌, ◌++◌, length, take, drop, refl, sym, ap, ◌∙◌, subst, Bool, true, false, cond, ◌||◌, nat_lt, Some, slice_get, arith, append_assoc, append-nil, below_more}
use Rattle.std.specs.List.{list_any, flat_map}
use Rattle.std.proofs.lemmas.Bool.Decides.{nat_tests}
use Rattle.std.proofs.lemmas.Option.{slice_get_within}
use Rattle.sto_lang.specs.Scripts.{File}
use Rattle.sto_report_spec.specs.Orders.{TransactionPlace}
use Rattle.sto_report_spec.specs.Aborts.{Abort}
use Rattle.sto_report_spec.specs.Named.{order_named}
use Rattle.sto_report_spec.specs.NamedAborts.{aborts_named}
use Rattle.sto_checker.specs.Lines.{is_state_line, until_state, beyond_state}
use Rattle.sto_checker.specs.Right.{total, order_in, behind, aborts_in, IsJournalLine, IsAbortLine, IsObjectLine, IsRightBehind, IsRightIn, IsRightAfter}
use Rattle.sto_checker.specs.Answer.{IsRightAt, AreRight, IsWhole}

-- Lists with one more item.

pub take_next : {X : Type 0} (xs : List X) (n : ℕ) (x : X) → slice_get xs n ≡ Some x → take (n + 1) xs ≡ take n xs ++ x ∷ []
take_next [] zero x e = absurd cc
take_next [] (suc n) x e = absurd cc
take_next (y ∷ xs) zero x e = cc
take_next (y ∷ xs) (suc n) x e =
    let next : suc n + 1 ≡ suc (n + 1) = omega arith in
    ap (λ (k : ℕ). take k (y ∷ xs)) next ∙ ap (λ zs. y ∷ zs) (take_next xs n x e)

pub length_front : {X : Type 0} (xs : List X) (n : ℕ) → n ≤ length xs → length (take n xs) ≡ n
length_front [] zero l = refl
length_front [] (suc n) l = absurd (omega (arith, l))
length_front (x ∷ xs) zero l = refl
length_front (x ∷ xs) (suc n) l = ap suc (length_front xs n (omega (arith, l)))

pub take_whole : {X : Type 0} (xs : List X) (n : ℕ) → length xs ≤ n → take n xs ≡ xs
take_whole [] zero l = refl
take_whole [] (suc n) l = refl
take_whole (x ∷ xs) zero l = absurd (omega (arith, l))
take_whole (x ∷ xs) (suc n) l = ap (λ zs. x ∷ zs) (take_whole xs n (omega (arith, l)))

take_front : {X : Type 0} (xs : List X) (x : X) (n : ℕ) → n ≤ length xs → take n (xs ++ x ∷ []) ≡ take n xs
take_front [] x zero l = refl
take_front [] x (suc n) l = absurd (omega (arith, l))
take_front (y ∷ xs) x zero l = refl
take_front (y ∷ xs) x (suc n) l = ap (λ zs. y ∷ zs) (take_front xs x n (omega (arith, l)))

drop_front : {X : Type 0} (xs : List X) (x : X) (n : ℕ) → n ≤ length xs → drop n (xs ++ x ∷ []) ≡ drop n xs ++ x ∷ []
drop_front [] x zero l = refl
drop_front [] x (suc n) l = absurd (omega (arith, l))
drop_front (y ∷ xs) x zero l = refl
drop_front (y ∷ xs) x (suc n) l = drop_front xs x n (omega (arith, l))

drop_whole : {X : Type 0} (xs : List X) (n : ℕ) → length xs ≡ n → drop n xs ≡ []
drop_whole [] zero e = refl
drop_whole [] (suc n) e = absurd (omega (arith, e))
drop_whole (x ∷ xs) zero e = absurd (omega (arith, e))
drop_whole (x ∷ xs) (suc n) e = drop_whole xs n (omega (arith, e))

length_more : {X : Type 0} (xs : List X) (x : X) → length (xs ++ x ∷ []) ≡ length xs + 1
length_more [] x = refl
length_more (y ∷ xs) x = let h = length_more xs x in omega (arith, h)

flat_more : {X Y : Type 0} (f : X → List Y) (xs : List X) (x : X) → flat_map f (xs ++ x ∷ []) ≡ flat_map f xs ++ f x
flat_more f [] x = append-nil (f x)
flat_more f (y ∷ xs) x = ap (λ l. f y ++ l) (flat_more f xs x) ∙ sym (append_assoc (f y) (flat_map f xs) (f x))

-- The line `state`.

until_more : (xs : List (List ℕ)) (x : List ℕ) → list_any is_state_line xs ≡ false → is_state_line x ≡ false → until_state (xs ++ x ∷ []) ≡ until_state xs ++ x ∷ []
until_more [] x n e = ap (λ (b : Bool). cond b [] (x ∷ [])) e
until_more (y ∷ xs) x n e = by (is_state_line y) (until_more xs x) n
  where
    by : (b : Bool) → (list_any is_state_line xs ≡ false → is_state_line x ≡ false → until_state (xs ++ x ∷ []) ≡ until_state xs ++ x ∷ []) → (b || list_any is_state_line xs) ≡ false
        → cond b [] (y ∷ until_state (xs ++ x ∷ [])) ≡ cond b [] (y ∷ until_state xs) ++ x ∷ []
    by true h n = absurd cc
    by false h n = ap (λ (l : List (List ℕ)). y ∷ l) (h n e)

any_more : (xs : List (List ℕ)) (x : List ℕ) → list_any is_state_line (xs ++ x ∷ []) ≡ (list_any is_state_line xs || is_state_line x)
any_more [] x = by (is_state_line x)
  where
    by : (b : Bool) → (b || false) ≡ (false || b)
    by true = refl
    by false = refl
any_more (y ∷ xs) x = by (is_state_line y) (any_more xs x)
  where
    by : (b : Bool) → list_any is_state_line (xs ++ x ∷ []) ≡ (list_any is_state_line xs || is_state_line x) → (b || list_any is_state_line (xs ++ x ∷ [])) ≡ ((b || list_any is_state_line xs) || is_state_line x)
    by true h = refl
    by false h = h

beyond_first : (xs : List (List ℕ)) (x : List ℕ) → list_any is_state_line xs ≡ false → beyond_state (xs ++ x ∷ []) ≡ []
beyond_first [] x n = by (is_state_line x)
  where
    by : (b : Bool) → cond b [] (beyond_state []) ≡ []
    by true = refl
    by false = refl
beyond_first (y ∷ xs) x n = by (is_state_line y) (beyond_first xs x) n
  where
    by : (b : Bool) → (list_any is_state_line xs ≡ false → beyond_state (xs ++ x ∷ []) ≡ []) → (b || list_any is_state_line xs) ≡ false → cond b (xs ++ x ∷ []) (beyond_state (xs ++ x ∷ [])) ≡ []
    by true h n = absurd cc
    by false h n = h n

beyond_more : (xs : List (List ℕ)) (x : List ℕ) → list_any is_state_line xs ≡ true → beyond_state (xs ++ x ∷ []) ≡ beyond_state xs ++ x ∷ []
beyond_more [] x n = absurd cc
beyond_more (y ∷ xs) x n = by (is_state_line y) (beyond_more xs x) n
  where
    by : (b : Bool) → (list_any is_state_line xs ≡ true → beyond_state (xs ++ x ∷ []) ≡ beyond_state xs ++ x ∷ []) → (b || list_any is_state_line xs) ≡ true
        → cond b (xs ++ x ∷ []) (beyond_state (xs ++ x ∷ [])) ≡ cond b xs (beyond_state xs) ++ x ∷ []
    by true h n = refl
    by false h n = h n

-- What is right next.

is_below : (n m : ℕ) → n < m → nat_lt n m ≡ true
is_below n m l = grind (arith, nat_tests)

not_below : (n m : ℕ) → m ≤ n → nat_lt n m ≡ false
not_below n m l = grind (arith, nat_tests)

module _ (file : File) (tries : ℕ) (front : List (List ℕ)) (line : List ℕ) where
  -- up to the number of transactions

  order_all : length front ≤ total file → order_in file front ≡ flat_map (order_named file.names) front
  order_all l = ap (flat_map (order_named file.names)) (take_whole front (total file) l)

  pub order_grows : length front < total file → order_in file (front ++ line ∷ []) ≡ order_in file front ++ order_named file.names line
  order_grows l =
      ap (flat_map (order_named file.names)) (take_whole (front ++ line ∷ []) (total file) (let h = length_more front line in omega (arith, h, l)))
      ∙ flat_more (order_named file.names) front line
      ∙ ap (λ (o : List TransactionPlace). o ++ order_named file.names line) (sym (order_all (omega (arith, l))))

  pub journal_right : length front < total file → IsJournalLine file (order_in file front) line → IsRightAfter file tries front line
  journal_right l h = subst (λ (b : Bool). IsRightIn b file tries front line) (sym (is_below (length front) (total file) l)) h

  pub right_journal : length front < total file → IsRightAfter file tries front line → IsJournalLine file (order_in file front) line
  right_journal l h = subst (λ (b : Bool). IsRightIn b file tries front line) (is_below (length front) (total file) l) h

  -- behind them
  module _ (past : total file ≤ length front) where
    pub order_stays : order_in file (front ++ line ∷ []) ≡ order_in file front
    order_stays = ap (flat_map (order_named file.names)) (take_front front line (total file) past)

    pub behind_more : behind file (front ++ line ∷ []) ≡ behind file front ++ line ∷ []
    behind_more = drop_front front line (total file) past

    to_behind : IsRightAfter file tries front line → IsRightBehind (list_any is_state_line (behind file front)) file tries front line
    to_behind h = subst (λ (b : Bool). IsRightIn b file tries front line) (not_below (length front) (total file) past) h

    from_behind : IsRightBehind (list_any is_state_line (behind file front)) file tries front line → IsRightAfter file tries front line
    from_behind h = subst (λ (b : Bool). IsRightIn b file tries front line) (sym (not_below (length front) (total file) past)) h

    -- before the line `state`
    module _ (none : list_any is_state_line (behind file front) ≡ false) where
      pub abort_right : IsRightBehind false file tries front line → IsRightAfter file tries front line
      abort_right h = from_behind (subst (λ (b : Bool). IsRightBehind b file tries front line) (sym none) h)

      pub right_abort : IsRightAfter file tries front line → IsRightBehind false file tries front line
      right_abort h = subst (λ (b : Bool). IsRightBehind b file tries front line) none (to_behind h)

      pub still_none : is_state_line line ≡ false → list_any is_state_line (behind file (front ++ line ∷ [])) ≡ false
      still_none e = ap (list_any is_state_line) behind_more ∙ any_more (behind file front) line ∙ ap (λ (b : Bool). b || is_state_line line) none ∙ e

      pub aborts_grow : is_state_line line ≡ false → aborts_in file (front ++ line ∷ []) ≡ aborts_in file front ++ aborts_named file.names line
      aborts_grow e =
          ap (λ (l : List (List ℕ)). flat_map (aborts_named file.names) (until_state l)) behind_more
          ∙ ap (flat_map (aborts_named file.names)) (until_more (behind file front) line none e)
          ∙ flat_more (aborts_named file.names) (until_state (behind file front)) line

      pub state_comes : is_state_line line ≡ true → list_any is_state_line (behind file (front ++ line ∷ [])) ≡ true
      state_comes e = ap (list_any is_state_line) behind_more ∙ any_more (behind file front) line ∙ ap (λ (b : Bool). b || is_state_line line) none ∙ e

      pub no_object_yet : length (beyond_state (behind file (front ++ line ∷ []))) ≡ 0
      no_object_yet = ap (λ (l : List (List ℕ)). length (beyond_state l)) behind_more ∙ ap length (beyond_first (behind file front) line none)

    -- behind the line `state`
    module _ (some : list_any is_state_line (behind file front) ≡ true) where
      pub object_right : IsObjectLine file (order_in file front) (length (beyond_state (behind file front))) line → IsRightAfter file tries front line
      object_right h = from_behind (subst (λ (b : Bool). IsRightBehind b file tries front line) (sym some) h)

      pub right_object : IsRightAfter file tries front line → IsObjectLine file (order_in file front) (length (beyond_state (behind file front))) line
      right_object h = subst (λ (b : Bool). IsRightBehind b file tries front line) some (to_behind h)

      pub still_some : list_any is_state_line (behind file (front ++ line ∷ [])) ≡ true
      still_some = ap (list_any is_state_line) behind_more ∙ any_more (behind file front) line ∙ ap (λ (b : Bool). b || is_state_line line) some

      pub one_object_more : length (beyond_state (behind file (front ++ line ∷ []))) ≡ length (beyond_state (behind file front)) + 1
      one_object_more =
          ap (λ (l : List (List ℕ)). length (beyond_state l)) behind_more
          ∙ ap length (beyond_more (behind file front) line some)
          ∙ length_more (beyond_state (behind file front)) line

  pub none_behind : length front ≡ total file → list_any is_state_line (behind file front) ≡ false
  none_behind e = ap (list_any is_state_line) (drop_whole front (total file) e)

  pub no_aborts_behind : length front ≡ total file → aborts_in file front ≡ []
  no_aborts_behind e = ap (λ (l : List (List ℕ)). flat_map (aborts_named file.names) (until_state l)) (drop_whole front (total file) e)

-- Lines that are right.

module _ (file : File) (tries : ℕ) (lines : List (List ℕ)) where
  pub right_at : (place : ℕ) (line : List ℕ) → slice_get lines place ≡ Some line → IsRightAfter file tries (take place lines) line → IsRightAt file tries lines place
  right_at place line e h = record { line = line; stands = e; right = h }

  pub right_after : (place : ℕ) (line : List ℕ) → slice_get lines place ≡ Some line → IsRightAt file tries lines place → IsRightAfter file tries (take place lines) line
  right_after place line e h = subst (IsRightAfter file tries (take place lines)) (same h.line line (sym h.stands ∙ e)) h.right
    where
      same : (a b : List ℕ) → Some a ≡ Some b → a ≡ b
      same a b e = cc

  pub right_more : (place : ℕ) → AreRight file tries lines place → IsRightAt file tries lines place → AreRight file tries lines (place + 1)
  right_more place h here = below_more (IsRightAt file tries lines) place h here
