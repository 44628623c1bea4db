-- The generated file keeps the names, the numbers and the limits that a file which can be read keeps.
use Rattle.std.proofs.Common.{◌≡◌, ◌≤◌, ◌+◌, ◌*◌, ◌==◌, ◌%◌, ◌/◌, refl, arith, ℕ, zero, suc, Bool, true, false, List, [], ◌∷◌, ◌++◌, length, codes, None, pos, subst, sym, ap, inl}
use Rattle.std.specs.Prelude.{All, if◌then◌else◌, fold, sum_by}
use Rattle.std.proofs.lemmas.List.Elements.{All-nil, All-cons, All-push}
use Rattle.sto_syntax.specs.Words.{is_name}
use Rattle.sto_part.specs.declared.pred.Test.TheVariants.{Ge}
use Rattle.sto_model.specs.declared.operation.Operation.TheVariants.{Put}
use Rattle.sto_model.specs.declared.shape.Shape.{Shape}
use Rattle.sto_model.specs.declared.shape.Shape.TheVariants as shapes
use Rattle.sto_lang.specs.declared.arg.Arg.TheVariants.{Var}
use Rattle.sto_lang.specs.Statements.{Statements, Nothing, Ask, Choose, ◌then◌}
use Rattle.sto_lang.specs.Scripts.{Script}
use Rattle.sto_lang.specs.Objects.{Object, shapes_of}
use Rattle.sto_lang.specs.Drafts.{numbered_name, transaction_count, weight_total}
use Rattle.sto_lang.specs.Sound.{AllDiffer, HasPlaces, HasRanges, numbered_from, NameThreads, IsSound, IsSoundScript}
use Rattle.sto_lang.proofs.Differing.{differ_push, numbers_last, numbers_name, numbers_differ}
use Rattle.sto_lang.proofs.SoundObjects.{names_declared, numbered, ranges_declared}
use Rattle.sto_lang.proofs.SoundNumbers.{own_numbers}
use Rattle.sto_gen.specs.declared.draws.Transfer.{Transfer}
use Rattle.sto_gen.specs.Draws.{state_after, transfer_after}
use Rattle.sto_gen.specs.Generated.{objects, number, balance, moves, transaction, transactions, state_before, threads, file_of}
use Rattle.sto_gen.proofs.Steps.{length_last}

abbrev shapes_here : List Shape
shapes_here = shapes_of objects

-- ---- one transaction

abbrev pub note_if : Bool → ℕ → ℕ → ℕ → Statements
note_if b object key value = if b then Ask None object Put (number key) (number value) Nothing else Nothing

-- a transaction with a note in the log where a holds, and one of an owner where b does
abbrev pub noted : Bool → Bool → ℕ → ℕ → ℕ → ℕ → Transfer → Script
noted a b log_key owner_key owner amount t = record {
  variables = codes "x" ∷ [];
  body = balance t.from (Choose (Var 0) Ge (number t.amount) (moves t) Nothing (note_if a 3 log_key amount then note_if b 2 owner_key owner));
  weight = 6 + ((if a then 1 else 0) + (if b then 1 else 0));
}

x_is_name : All (λ name. is_name name ≡ true) (codes "x" ∷ [])
x_is_name = All-cons (λ name. is_name name ≡ true) (codes "x") [] refl (All-nil (λ name. is_name name ≡ true))

moves_placed : (t : Transfer) → HasPlaces 1 (moves t)
moves_placed t = (tt, tt, tt, (tt, tt, tt, (tt, tt, tt, tt)))

noted_sound : (a b : Bool) (log_key owner_key owner amount : ℕ) (t : Transfer) → IsSoundScript shapes_here (noted a b log_key owner_key owner amount t)
noted_sound true true log_key owner_key owner amount t = record {
  weighed = refl;
  light = omega arith;
  named = x_is_name;
  few_variables = omega arith;
  placed = (omega arith, tt, tt, (omega arith, tt, moves_placed t, tt, (tt, tt, tt, (tt, tt, tt, tt))));
  shallow = omega arith;
  taken = refl;
}
noted_sound true false log_key owner_key owner amount t = record {
  weighed = refl;
  light = omega arith;
  named = x_is_name;
  few_variables = omega arith;
  placed = (omega arith, tt, tt, (omega arith, tt, moves_placed t, tt, (tt, tt, tt, tt)));
  shallow = omega arith;
  taken = refl;
}
noted_sound false true log_key owner_key owner amount t = record {
  weighed = refl;
  light = omega arith;
  named = x_is_name;
  few_variables = omega arith;
  placed = (omega arith, tt, tt, (omega arith, tt, moves_placed t, tt, (tt, tt, tt, tt)));
  shallow = omega arith;
  taken = refl;
}
noted_sound false false log_key owner_key owner amount t = record {
  weighed = refl;
  light = omega arith;
  named = x_is_name;
  few_variables = omega arith;
  placed = (omega arith, tt, tt, (omega arith, tt, moves_placed t, tt, tt));
  shallow = omega arith;
  taken = refl;
}

transaction_sound : (thread position : ℕ) (t : Transfer) → IsSoundScript shapes_here (transaction thread position t)
transaction_sound thread position t =
    noted_sound (position % 20 == 0) (position % 25 == 0) (1000 * thread + position) (8 * thread + position / 25) thread t.amount t

pub notes_weigh : (a b : Bool) → (if a then 1 else 0) + (if b then 1 else 0) ≤ 2
notes_weigh true true = omega arith
notes_weigh true false = omega arith
notes_weigh false true = omega arith
notes_weigh false false = omega arith

-- ---- all of them

pub fold_last : {A X : Type 0} (f : A → X → A) (a : A) (xs : List X) (x : X) → fold f a (xs ++ x ∷ []) ≡ f (fold f a xs) x
fold_last f a [] x = refl
fold_last f a (y ∷ xs) x = fold_last f (f a y) xs x

pub transaction_length : (thread state count : ℕ) → length (transactions thread state count) ≡ count
unfolding transactions
transaction_length thread state zero = refl
transaction_length thread state (suc count) =
    omega (arith, transaction_length thread state count, length_last (transactions thread state count) (transaction thread (count + 1) (transfer_after (state_after count state))))

pub transactions_weigh : (thread state count : ℕ) → sum_by (λ script. script.weight) (transactions thread state count) ≤ 8 * count
unfolding transactions
transactions_weigh thread state zero = omega arith
transactions_weigh thread state (suc count) =
    omega (
      arith,
      transactions_weigh thread state count,
      notes_weigh ((count + 1) % 20 == 0) ((count + 1) % 25 == 0),
      fold_last (λ a script. a + script.weight) 0 (transactions thread state count) (transaction thread (count + 1) (transfer_after (state_after count state))),
    )

transactions_sound : (thread state count : ℕ) → All (IsSoundScript shapes_here) (transactions thread state count)
unfolding transactions
transactions_sound thread state zero = All-nil (IsSoundScript shapes_here)
transactions_sound thread state (suc count) =
    let t = transfer_after (state_after count state) in
    All-push (IsSoundScript shapes_here) (transactions thread state count) (transaction thread (count + 1) t) (transactions_sound thread state count) (transaction_sound thread (count + 1) t)

pub thread_count : (state count : ℕ) → length (threads state count) ≡ count
unfolding threads
thread_count state zero = refl
thread_count state (suc count) = omega (arith, thread_count state count, length_last (threads state count) (transactions count (state_before count state) 200))

pub transactions_of_threads : (state count : ℕ) → transaction_count (threads state count) ≡ 200 * count
unfolding threads
transactions_of_threads state zero = refl
transactions_of_threads state (suc count) =
    omega (
      arith,
      transactions_of_threads state count,
      transaction_length count (state_before count state) 200,
      fold_last (λ a thread. a + length thread) 0 (threads state count) (transactions count (state_before count state) 200),
    )

pub threads_weigh : (state count : ℕ) → weight_total (threads state count) ≤ 1600 * count
unfolding threads
threads_weigh state zero = omega arith
threads_weigh state (suc count) =
    omega (
      arith,
      threads_weigh state count,
      transactions_weigh count (state_before count state) 200,
      fold_last (λ a thread. a + sum_by (λ script. script.weight) thread) 0 (threads state count) (transactions count (state_before count state) 200),
    )

threads_sound : (state count : ℕ) → All (All (IsSoundScript shapes_here)) (threads state count)
unfolding threads
threads_sound state zero = All-nil (All (IsSoundScript shapes_here))
threads_sound state (suc count) =
    let last = transactions count (state_before count state) 200 in
    All-push (All (IsSoundScript shapes_here)) (threads state count) last (threads_sound state count) (transactions_sound count (state_before count state) 200)

-- ---- the objects, as lines declare them

abbrev pub acct : Object
acct = record { name = codes "acct"; shape = shapes.Array 64 (pos 1000) }

abbrev pub done : Object
done = record { name = codes "done"; shape = shapes.Counter (pos 0) }

abbrev pub owner : Object
owner = record { name = codes "owner"; shape = shapes.Hash 16 8 }

abbrev pub log : Object
log = record { name = codes "log"; shape = shapes.Tree 64 }

abbrev pub declared : List Object
declared = acct ∷ done ∷ owner ∷ log ∷ []

all_four : (P : Object → Type 0) → P acct → P done → P owner → P log → All P declared
all_four P a d o l = All-cons P acct (done ∷ owner ∷ log ∷ []) a (All-cons P done (owner ∷ log ∷ []) d (All-cons P owner (log ∷ []) o (All-cons P log [] l (All-nil P))))

names_are : All (λ o. is_name o.name ≡ true) declared
names_are = all_four (λ o. is_name o.name ≡ true) refl refl refl refl

ranges_are : All (λ o. HasRanges 1 o.shape) declared
ranges_are = all_four (λ o. HasRanges 1 o.shape) (omega arith, omega arith) tt ((omega arith, omega arith), (omega arith, omega arith)) (omega arith, omega arith)

-- ---- the names of the threads

names_named : (count : ℕ) → count ≤ 64 → All (λ name. is_name name ≡ true) (numbered_from 0 count)
names_named zero h = All-nil (λ name. is_name name ≡ true)
names_named (suc count) h =
    subst (All (λ name. is_name name ≡ true)) (sym (numbers_last count))
    (All-push (λ name. is_name name ≡ true) (numbered_from 0 count) (numbered_name count) (names_named count (omega (arith, h))) (numbers_name count (omega (arith, h))))

names_differ : (count : ℕ) → count ≤ 64 → AllDiffer (numbered_from 0 count)
names_differ zero h = tt
names_differ (suc count) h =
    subst AllDiffer (sym (numbers_last count)) (differ_push (numbered_from 0 count) (numbered_name count) (numbers_differ count (omega (arith, h))) (names_differ count (omega (arith, h))))

names_are_of_threads : (n : ℕ) → NameThreads 1 (length (threads n 16)) (numbered_from 0 16)
names_are_of_threads n = record {
  each = sym (thread_count n 16);
  are_names = names_named 16 (omega arith);
  differ = names_differ 16 (omega arith);
  numbered = λ e. ap (λ (count : ℕ). numbered_from 0 count) (sym (thread_count n 16));
}

-- the generated file is sound, whatever its number
pub generated_sound : (n : ℕ) → IsSound (file_of n)
generated_sound n = record {
  versioned = inl refl;
  own_names = (refl, (refl, (refl, (refl, tt))));
  thread_names = names_are_of_threads n;
  named = names_declared declared names_are;
  few_objects = omega arith;
  in_ranges = ranges_declared 1 declared ranges_are;
  few_parts = omega arith;
  few_words = omega arith;
  numbered = numbered declared;
  own_numbers = own_numbers declared;
  few_threads = omega (arith, thread_count n 16);
  few_transactions = omega (arith, transactions_of_threads n 16);
  light = omega (arith, threads_weigh n 16);
  sound_scripts = threads_sound n 16;
  scheduled = tt;
}
