-- One more of each: statements, transactions, threads.
use Rattle.std.proofs.Common.{◌≡◌, ◌+◌, refl, ap, sym, ◌∙◌, arith, ℕ, suc, List, [], ◌∷◌, ◌++◌, map, length}
use Rattle.sto_lang.specs.Statements.{Statements, Nothing, Ask, Sum, Diff, Choose, Repeat, Cancel, ◌then◌}
use Rattle.sto_lang.specs.Drafts.{numbered_name}
use Rattle.sto_lang.specs.Sound.{numbered_from}
use Rattle.sto_lang.proofs.Differing.{numbers_last}
use Rattle.sto_gen.specs.Draws.{next, state_after, transfer_after, transfers_after}
use Rattle.sto_gen.specs.Generated.{transaction, transactions, state_before, threads}

pub then_nothing : (all : Statements) → all ≡ all then Nothing
then_nothing Nothing = refl
then_nothing (Ask to object operation a b rest) = ap (Ask to object operation a b) (then_nothing rest)
then_nothing (Sum to a b rest) = ap (Sum to a b) (then_nothing rest)
then_nothing (Diff to a b rest) = ap (Diff to a b) (then_nothing rest)
then_nothing (Choose a test b first second rest) = ap (Choose a test b first second) (then_nothing rest)
then_nothing (Repeat times body rest) = ap (Repeat times body) (then_nothing rest)
then_nothing (Cancel rest) = ap Cancel (then_nothing rest)

next_is : (n : ℕ) → suc n ≡ n + 1
next_is n = omega arith

pub one_more_transfer : (count state : ℕ) → next (next (next (state_after count state))) ≡ state_after (count + 1) state
unfolding state_after
one_more_transfer count state = ap (λ n. state_after n state) (next_is count)

pub one_more_drawn : (count state : ℕ) → transfers_after count state ++ transfer_after (state_after count state) ∷ [] ≡ transfers_after (count + 1) state
unfolding transfers_after
one_more_drawn count state = ap (λ n. transfers_after n state) (next_is count)

pub one_more_transaction : (thread state count : ℕ)
    → transactions thread state count ++ transaction thread (count + 1) (transfer_after (state_after count state)) ∷ [] ≡ transactions thread state (count + 1)
unfolding transactions
one_more_transaction thread state count = ap (λ n. transactions thread state n) (next_is count)

pub one_more_thread : (state count : ℕ) → threads state count ++ transactions count (state_before count state) 200 ∷ [] ≡ threads state (count + 1)
unfolding threads
one_more_thread state count = ap (λ n. threads state n) (next_is count)

pub one_more_state : (count state : ℕ) → state_after 200 (state_before count state) ≡ state_before (count + 1) state
unfolding state_before
one_more_state count state = ap (λ n. state_before n state) (next_is count)

pub one_more_name : (count : ℕ) → numbered_from 0 count ++ numbered_name count ∷ [] ≡ numbered_from 0 (count + 1)
one_more_name count = sym (numbers_last count) ∙ ap (λ (n : ℕ). numbered_from 0 n) (next_is count)

pub map_last : {X Y : Type 0} (f : X → Y) (xs : List X) (x : X) → map f (xs ++ x ∷ []) ≡ map f xs ++ f x ∷ []
map_last f [] x = refl
map_last f (y ∷ xs) x = ap (λ rest. f y ∷ rest) (map_last f xs x)

pub length_last : {X : Type 0} (xs : List X) (x : X) → length (xs ++ x ∷ []) ≡ length xs + 1
length_last [] x = refl
length_last (y ∷ xs) x = let rest = length_last xs x in omega arith
