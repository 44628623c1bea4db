-- Beginnings of orders.
use Rattle.std.proofs.Common.{◌≡◌, ℕ, zero, suc, ◌+◌, ◌<◌, ◌≤◌, List, [], ◌∷◌, ◌++◌, length, refl, sym, ap, ◌∙◌, subst, Bool, true, false, cond, ◌==◌, Some, slice_get, option_and_then, arith, length-append}
use Rattle.std.specs.List.{All}
use Rattle.std.proofs.lemmas.Bool.Decides.{nat_tests}
use Rattle.std.proofs.lemmas.List.Elements.{All-nil, All-cons, All-head, All-tail, All-push}
use Rattle.sto_lang.specs.Scripts.{Script, File}
use Rattle.sto_lang.specs.Drafts.{transaction_count}
use Rattle.sto_report_spec.specs.Orders.{TransactionPlace, at_position, transaction_at, count_in, positions_of, numbers_from, IsOrder}
use Rattle.sto_journal.specs.declared.journal.Line.{Line}
use Rattle.sto_journal.specs.Journals.{HaveThreads, places}
use Rattle.sto_checker.specs.Past.{IsBegun}
use Rattle.sto_checker.specs.Right.{IsNext}
use Rattle.sto_checker.specs.Shown.{IsInside, AreInside}
use Rattle.sto_checker.proofs.Complete.{complete, order_count, begun_more}
use Rattle.sto_checker.proofs.Kept.{is_inside, positions_of-more}
use Rattle.sto_checker.proofs.Lawful.{Each, in_order}
use Rattle.sto_orders.specs.Keys.{done_in}
use Rattle.sto_orders.specs.Ways.{next_of, IsBeginning}

pub none_begun : (f : File) → IsBeginning f 0 []
none_begun f = record { begun = λ t. (refl, omega arith); inside = All-nil (IsInside f.threads); long = refl }

-- One more transaction.

script_at : (scripts : List Script) (n : ℕ) → n < length scripts → (s : Script) × (slice_get scripts n ≡ Some s)
script_at [] n l = absurd (omega (arith, l))
script_at (s ∷ scripts) zero l = (s, refl)
script_at (s ∷ scripts) (suc n) l = script_at scripts n (omega (arith, l))

next_script : (threads : List (List Script)) (t n : ℕ) → n < count_in threads t → (s : Script) × (option_and_then (at_position (suc n)) (slice_get threads t) ≡ Some s)
next_script [] t n l = absurd (omega (arith, l))
next_script (scripts ∷ threads) zero n l = script_at scripts n l
next_script (scripts ∷ threads) (suc t) n l = next_script threads t n l

is_next : (f : File) (order : List TransactionPlace) (t : ℕ) → done_in order t < count_in f.threads t → IsNext f order (next_of order t)
is_next f order t l =
    let s : (s : Script) × (transaction_at f (next_of order t) ≡ Some s) = next_script f.threads t (done_in order t) l in
    record { script = s.0; transaction = s.1; next = refl }

pub begins_on : (f : File) (n : ℕ) (order : List TransactionPlace) (t : ℕ) → IsBeginning f n order → done_in order t < count_in f.threads t → IsBeginning f (suc n) (order ++ next_of order t ∷ [])
begins_on f n order t h l =
    let next : IsNext f order (next_of order t) = is_next f order t l in
    record {
      begun = begun_more f order (next_of order t) h.begun next;
      inside = All-push (IsInside f.threads) order (next_of order t) h.inside (is_inside f (next_of order t) next.script next.transaction);
      long = omega (arith, length-append order (next_of order t ∷ []), h.long);
    }

-- One less.

record Parted (order : List TransactionPlace) : Type 0 where
  front : List TransactionPlace
  last : TransactionPlace
  are : order ≡ front ++ last ∷ []

parted : (n : ℕ) (order : List TransactionPlace) → length order ≡ suc n → Parted order
parted n [] e = absurd (omega (arith, e))
parted n (p ∷ []) e = record { front = []; last = p; are = refl }
parted zero (p ∷ q ∷ order) e = absurd (omega (arith, e))
parted (suc n) (p ∷ q ∷ order) e =
    let more : Parted (q ∷ order) = parted n (q ∷ order) (omega (arith, e)) in
    record { front = p ∷ more.front; last = more.last; are = ap (λ (ps : List TransactionPlace). p ∷ ps) more.are }

-- the front of numbers that follow each other
front_numbers : (first m : ℕ) (xs ys : List ℕ) → xs ++ ys ≡ numbers_from first m → xs ≡ numbers_from first (length xs)
front_numbers first m [] ys e = refl
front_numbers first zero (x ∷ xs) ys e = absurd cc
front_numbers first (suc m) (x ∷ xs) ys e =
    let here : x ≡ first = cc in
    let rest : xs ++ ys ≡ numbers_from (suc first) m = cc in
    ap (λ (n : ℕ). n ∷ xs) here ∙ ap (λ (ns : List ℕ). first ∷ ns) (front_numbers (suc first) m xs ys rest)

next_number : (first m : ℕ) (xs : List ℕ) (y : ℕ) (ys : List ℕ) → xs ++ y ∷ ys ≡ numbers_from first m → y ≡ first + length xs
next_number first zero [] y ys e = absurd cc
next_number first zero (x ∷ xs) y ys e = absurd cc
next_number first (suc m) [] y ys e = let here : y ≡ first = cc in omega (arith, here)
next_number first (suc m) (x ∷ xs) y ys e =
    let rest : xs ++ y ∷ ys ≡ numbers_from (suc first) m = cc in
    let more = next_number (suc first) m xs y ys rest in
    omega (arith, more)

all_front : {X : Type 0} (P : X → Type 0) (xs ys : List X) → All P (xs ++ ys) → All P xs
all_front P [] ys h = All-nil P
all_front P (x ∷ xs) ys h = All-cons P x xs (All-head P x (xs ++ ys) h) (all_front P xs ys (All-tail P x (xs ++ ys) h))

all_behind : {X : Type 0} (P : X → Type 0) (xs : List X) (y : X) (ys : List X) → All P (xs ++ y ∷ ys) → P y
all_behind P [] y ys h = All-head P y ys h
all_behind P (x ∷ xs) y ys h = all_behind P xs y ys (All-tail P x (xs ++ y ∷ ys) h)

own : (p : TransactionPlace) → positions_of p.0 (p ∷ []) ≡ p.1 ∷ []
own p = let same : (p.0 == p.0) ≡ true = grind (arith, nat_tests) in ap (λ (b : Bool). cond b (p.1 ∷ []) []) same

-- the beginning before the last transaction, which is the next of its thread
pub record LastOf (f : File) (n : ℕ) (order : List TransactionPlace) : Type 0 where
  pub front : List TransactionPlace
  pub thread : ℕ
  pub are : order ≡ front ++ next_of front thread ∷ []
  pub begins : IsBeginning f n front
  pub inside : thread < length f.threads
  pub left : done_in front thread < count_in f.threads thread

pub last_of : (f : File) (n : ℕ) (order : List TransactionPlace) → IsBeginning f (suc n) order → LastOf f n order
last_of f n order h =
    let part : Parted order = parted n order h.long in
    let front : List TransactionPlace = part.front in
    let last : TransactionPlace = part.last in
    let begun : IsBegun f (front ++ last ∷ []) = subst (IsBegun f) part.are h.begun in
    let inside : AreInside f (front ++ last ∷ []) = subst (AreInside f) part.are h.inside in
    let here : IsInside f.threads last = all_behind (IsInside f.threads) front last [] inside in
    let split : (t : ℕ) → positions_of t front ++ positions_of t (last ∷ []) ≡ numbers_from 1 (length (positions_of t (front ++ last ∷ []))) =
    λ t. sym (positions_of-more t front last) ∙ (begun t).0 in
    let position : last.1 ≡ 1 + done_in front last.0 =
    next_number 1 (length (positions_of last.0 (front ++ last ∷ []))) (positions_of last.0 front) last.1 []
    (ap (λ (ns : List ℕ). positions_of last.0 front ++ ns) (sym (own last)) ∙ split last.0) in
    let next : last.1 ≡ suc (done_in front last.0) = omega (arith, position) in
    record {
      front = front;
      thread = last.0;
      are = part.are ∙ ap (λ (n : ℕ). let p : TransactionPlace = (last.0, n) in front ++ p ∷ []) next;
      begins = record {
        begun = λ t. (
          front_numbers 1 (length (positions_of t (front ++ last ∷ []))) (positions_of t front) (positions_of t (last ∷ [])) (split t),
          omega (arith, (begun t).1, ap length (positions_of-more t front last), length-append (positions_of t front) (positions_of t (last ∷ []))),
        );
        inside = all_front (IsInside f.threads) front (last ∷ []) inside;
        long = omega (arith, h.long, ap length part.are, length-append front (last ∷ []));
      };
      inside = here.thread;
      left = omega (arith, here.last, next);
    }

-- Whole orders.

long_numbers : (first n : ℕ) → length (numbers_from first n) ≡ n
long_numbers first zero = refl
long_numbers first (suc n) = ap suc (long_numbers (suc first) n)

all_each : {X : Type 0} (P : X → Type 0) (xs : List X) → Each P xs → All P xs
all_each P [] h = All-nil P
all_each P (x ∷ xs) h = All-cons P x xs h.0 (all_each P xs h.1)

pub order_begins : (f : File) (order : List TransactionPlace) → IsOrder f order → IsBeginning f (transaction_count f.threads) order
order_begins f order whole =
    let inside : AreInside f order = all_each (IsInside f.threads) order (in_order f order whole) in
    let count : (t : ℕ) → length (positions_of t order) ≡ count_in f.threads t = λ t. ap length (whole t) ∙ long_numbers 1 (count_in f.threads t) in
    record {
      begun = λ t. (whole t ∙ ap (numbers_from 1) (sym (count t)), omega (arith, count t));
      inside = inside;
      long = order_count f order whole inside;
    }

pub whole_order : (f : File) (order : List TransactionPlace) → IsBeginning f (transaction_count f.threads) order → IsOrder f order
whole_order f order h = complete f order h.begun h.inside h.long

-- the lines are of threads of the file
pub lines_of_threads : (f : File) (lines : List Line) → AreInside f (places lines) → HaveThreads (length f.threads) lines
lines_of_threads f [] h = All-nil (λ (l : Line). l.thread < length f.threads)
lines_of_threads f (line ∷ lines) h =
    All-cons (λ (l : Line). l.thread < length f.threads) line lines (All-head (IsInside f.threads) (line.thread, line.position) (places lines) h).thread
    (lines_of_threads f lines (All-tail (IsInside f.threads) (line.thread, line.position) (places lines) h))
