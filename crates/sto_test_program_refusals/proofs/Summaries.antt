-- A summary has these totals.
use Rattle.std.specs.Fmt.{digits, signed_decimal}
use Rattle.std.specs.Int.{int_wrap}
use Rattle.std.specs.Prelude.{codes, decimal}
use Rattle.std.proofs.Common.{◌≡◌, ℕ, ℤ, pos, List, ◌++◌, Option, refl, ◌∙◌, arith}
use Rattle.sto_model.specs.Run.{State}
use Rattle.sto_bench.specs.Summary.{summary_of, line_of, HasTotals}
use Rattle.sto_args.specs.declared.command.Command.TheVariants.{Bench}
use Rattle.sto_cli.specs.Outputs.{IsOutput}
use Rattle.sto_test_refusals.proofs.Lists.{differ}
use Rattle.sto_test_program_refusals.specs.Inputs.{one_less, one_left_out}

-- the summary of the first number by what it tells
abbrev summary : ℤ → ℕ → ℕ → List ℕ
summary accounts log owners =
    line_of (codes "bench") (decimal 1)
    ++ (line_of (codes "transactions") (decimal 3200)
    ++ (line_of (codes "acct") (signed_decimal accounts)
    ++ (line_of (codes "log") (decimal log)
    ++ line_of (codes "owner") (decimal owners))))

summary_is : (state : State) → HasTotals state → summary_of 1 3200 state ≡ summary (pos 64000) 160 128
summary_is state h = λ i. summary (h.accounts i) (h.log i) (h.owners i)

pub one_text : (threads : Option ℕ) (bytes text : List ℕ) → IsOutput (Bench 1 threads) bytes text → text ≡ summary (pos 64000) 160 128
one_text threads bytes text o = o.2 ∙ summary_is o.0.state.items o.3

pub not_one_less : (threads : Option ℕ) (bytes : List ℕ) → IsOutput (Bench 1 threads) bytes one_less → ⊥
unfolding digits int_wrap
not_one_less threads bytes o = differ one_less (summary (pos 64000) 160 128) 32 51 52 refl refl (λ e. omega (arith, e)) (one_text threads bytes one_less o)

pub not_one_left_out : (threads : Option ℕ) (bytes : List ℕ) → IsOutput (Bench 1 threads) bytes one_left_out → ⊥
unfolding digits int_wrap
not_one_left_out threads bytes o =
    differ one_left_out (summary (pos 64000) 160 128) 22 49 50 refl refl (λ e. omega (arith, e)) (one_text threads bytes one_left_out o)
