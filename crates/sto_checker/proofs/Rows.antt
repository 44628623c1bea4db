-- Worked cases, computed on the definitions: their answers were written by hand.
use Rattle.std.proofs.Common.{◌≡◌, ℕ, zero, suc, ◌<◌, ◌≤◌, pos, List, [], ◌∷◌, length, take, refl, None, Some, slice_get, codes, arith, inl, inr, lit<, lit≤}
use Rattle.std.specs.Fmt.{digits}
use Rattle.std.specs.Int.{int_wrap}
use Rattle.std.proofs.lemmas.List.Elements.{All-from_recursion, All-nil, All-head}
use Rattle.sto_model.specs.declared.operation.Operation.TheVariants as op
use Rattle.sto_model.specs.PlainReplies.{Value, Done}
use Rattle.sto_model.specs.declared.shape.Shape.TheVariants.{Single}
use Rattle.sto_lang.specs.declared.arg.Arg.{Arg}
use Rattle.sto_lang.specs.declared.arg.Arg.TheVariants.{Num, Var}
use Rattle.sto_lang.specs.Statements.{Nothing, Ask, Sum}
use Rattle.sto_lang.specs.Scripts.{Script, File}
use Rattle.sto_report_spec.specs.Orders.{TransactionPlace}
use Rattle.sto_report_spec.specs.Replay.{Entry, entries_of}
use Rattle.sto_report_spec.specs.Aborts.{Abort, Changed}
use Rattle.sto_report_spec.specs.LawfulAborts.{writers_before}
use Rattle.sto_checker.specs.declared.found.Found.TheVariants.{Lawful, Not}
use Rattle.sto_checker.specs.Lines.{lines_of}
use Rattle.sto_checker.specs.Right.{IsRightAbort, IsAbortLine, IsJournalLine}
use Rattle.sto_checker.specs.Answer.{IsRightAt, AreRight, IsWhole, IsAnswer, IsFound}

abbrev nought : Arg
nought = Num (pos 0)

abbrev adding : Script
adding =
    record {
      variables = codes "x" ∷ codes "y" ∷ [];
      body = Ask (Some 0) 0 op.Get nought nought (Sum 1 (Var 0) (Num (pos 1)) (Ask None 0 op.Set (Var 1) nought Nothing));
      weight = 4;
    }

abbrev lost_update : File
lost_update = record { version = 1; names = codes "t0" ∷ codes "t1" ∷ []; declarations = record { name = codes "a"; shape = Single (pos 0); number = 0 } ∷ []; threads = (adding ∷ []) ∷ (adding ∷ []) ∷ []; schedule = None }

-- the file without objects and transactions
abbrev nothing : File
nothing = record { version = 1; names = []; declarations = []; threads = []; schedule = None }

none_below : {A : Type 0} (n : ℕ) → n < 0 → A
none_below n l = absurd (omega (arith, l))

-- a report of it is the line `state`
empty_script : IsFound nothing 64 (codes "state\n") Lawful
empty_script = (right, record { state = refl; objects = refl })
  where
    right : AreRight nothing 64 (lines_of (codes "state\n")) 1
    right zero l = record { line = codes "state\n"; stands = refl; right = inl refl }
    right (suc n) l = none_below n (omega (arith, l))

-- one without it lacks its first line
empty_report : IsFound nothing 64 [] (Not 1)
empty_report = (0, refl, (λ n l. none_below n l), inr (refl, λ w. absurd (let e = w.state in cc)))

abbrev first_two : List ℕ
first_two = codes "1 t1.1 commit 0 ok\n2 t0.1 commit 1 ok\n"

abbrev first_line : List ℕ
first_line = codes "1 t1.1 commit 0 ok\n"

-- the journal lines of two transactions that add 1 to a box
first_right : IsRightAt lost_update 64 (lines_of first_two) 0
unfolding digits int_wrap
first_right = record { line = first_line; stands = refl; right = record { place = (1, 1); named = refl; next = record { script = adding; transaction = refl; next = refl }; text = refl } }

second_right : IsRightAt lost_update 64 (lines_of first_two) 1
unfolding digits int_wrap
second_right = record { line = codes "2 t0.1 commit 1 ok\n"; stands = refl; right = record { place = (0, 1); named = refl; next = record { script = adding; transaction = refl; next = refl }; text = refl } }
