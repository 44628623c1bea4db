-- A store of one box to which each of two workers has added 1 holds 2 at its end.
use Rattle.std.specs.Int.{int_wrap}
use Rattle.std.specs.Prelude.{slice_index_or}
use Rattle.std.proofs.Common.{◌≡◌, ℕ, zero, suc, ℤ, pos, ◌≤◌, List, [], ◌∷◌, refl, ap, ◌∙◌, arith}
use Rattle.std.proofs.lemmas.Bool.Decides.{nat_tests}
use Rattle.std.proofs.lemmas.List.Elements.{All-from_recursion, All-head, All-tail}
use Rattle.sto_model.specs.Run.{State, state_along}
use Rattle.sto_script.specs.Meaning.{meaning_of}
use Rattle.sto_history.specs.Records.{Wrote}
use Rattle.sto_history.specs.Counted.{times_committed}
use Rattle.sto_history.specs.History.{Transaction, times_numbered, StandsIn, IsStep, IsSerialHistory}
use Rattle.sto_history.specs.Done.{IsToldOf, AreDoneBy, HaveHistory}
use Rattle.sto_test_premises.specs.Adding.{adding, box, heard}
use Rattle.sto_test_premises.proofs.Adding.{has_written, run_on_0, run_on_1}
use Rattle.sto_test_refusals.specs.Runs.{first_worker, second_worker, rows_with}

-- what the two did: the second worker wrote first, with ticket 1
abbrev before : Transaction
before = record { steps = meaning_of adding; replies = heard (pos 0); verdict = Wrote 1 }

abbrev later : Transaction
later = record { steps = meaning_of adding; replies = heard (pos 1); verdict = Wrote 3 }

abbrev both : List Transaction
both = later ∷ before ∷ []

-- the value of the box
abbrev value : State → ℤ
value rows = (slice_index_or (slice_index_or rows 0 []) 0 (pos 0, pos 0)).1

counted_first : (n : ℕ) → times_committed n first_worker.entries ≡ times_numbered n (later ∷ [])
counted_first zero = refl
counted_first (suc zero) = refl
counted_first (suc (suc zero)) = refl
counted_first (suc (suc (suc zero))) = refl
counted_first (suc (suc (suc (suc n)))) = grind (arith, nat_tests)

counted_second : (n : ℕ) → times_committed n second_worker.entries ≡ times_numbered n (before ∷ [])
counted_second zero = refl
counted_second (suc zero) = refl
counted_second (suc (suc n)) = grind (arith, nat_tests)

told_later : IsToldOf box first_worker later
told_later = record { ended = refl; told = has_written first_worker 3 0 1 (pos 1) (pos 2) run_on_1 (1, refl) }

told_before : IsToldOf box second_worker before
told_before = record { ended = refl; told = has_written second_worker 1 1 0 (pos 0) (pos 1) run_on_0 (0, refl) }

all_done : AreDoneBy box (first_worker ∷ second_worker ∷ []) both
all_done = (
  later ∷ [],
  before ∷ [],
  refl,
  record { entries = counted_first; each = All-from_recursion (IsToldOf box first_worker) (later ∷ []) (told_later, tt) },
  (before ∷ [], [], refl, record { entries = counted_second; each = All-from_recursion (IsToldOf box second_worker) (before ∷ []) (told_before, tt) }, refl),
)

module _ (clock : ℕ) (states : ℕ → State) (h : IsSerialHistory box.machines clock states both) where
  abbrev Stands : Transaction → Type 0
  Stands t = StandsIn box.machines clock states t.steps t.replies t.verdict

  third : IsStep box.machines clock states (meaning_of adding) (heard (pos 1)) 3
  third = All-head Stands later (before ∷ []) h.each

  first : IsStep box.machines clock states (meaning_of adding) (heard (pos 0)) 1
  first = All-head Stands before [] (All-tail Stands later (before ∷ []) h.each)

  at_1 : states 1 ≡ rows_with 1
  unfolding int_wrap
  at_1 =
      let none : first.before ≡ 0 = let n = first.next in omega (arith, n) in
      first.run.leaves ∙ ap (λ (st : State). state_along box.machines (meaning_of adding) st (heard (pos 0))) (ap states none ∙ h.opened)

  at_2 : states 2 ≡ rows_with 1
  at_2 = let within = third.within in h.still 1 (omega (arith, within)) refl ∙ at_1

  at_3 : states 3 ≡ rows_with 2
  unfolding int_wrap
  at_3 =
      let two : third.before ≡ 2 = let n = third.next in omega (arith, n) in
      third.run.leaves ∙ ap (λ (st : State). state_along box.machines (meaning_of adding) st (heard (pos 1))) (ap states two ∙ at_2)

  unnumbered : (k : ℕ) → times_numbered (suc (suc (suc (suc k)))) both ≡ 0
  unnumbered k = grind (arith, nat_tests)

  from_3 : (k : ℕ) → suc (suc (suc k)) ≤ clock → states (suc (suc (suc k))) ≡ rows_with 2
  from_3 zero within = at_3
  from_3 (suc k) within = h.still (suc (suc (suc k))) (omega (arith, within)) (unnumbered k) ∙ from_3 k (omega (arith, within))

  at_end : (n : ℕ) → clock ≡ n → states clock ≡ rows_with 2
  at_end zero same = let within = third.within in absurd (omega (arith, within, same))
  at_end (suc zero) same = let within = third.within in absurd (omega (arith, within, same))
  at_end (suc (suc zero)) same = let within = third.within in absurd (omega (arith, within, same))
  at_end (suc (suc (suc k))) same = ap states same ∙ from_3 k (omega (arith, same))

both_added : (rows : State) → HaveHistory box (first_worker ∷ second_worker ∷ []) rows → rows ≡ rows_with 2
both_added rows h = let l = h both all_done in l.ends ∙ at_end l.clock l.states l.history l.clock refl

pub no_lost_commit : HaveHistory box (first_worker ∷ second_worker ∷ []) (rows_with 1) → ⊥
no_lost_commit h = let e = both_added (rows_with 1) h in let same : pos 1 ≡ pos 2 = ap value e in absurd cc
