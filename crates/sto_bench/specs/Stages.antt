-- What a transaction of the generated file still does, by how far it is.
use Rattle.std.specs.Prelude.{ℕ, ◌+◌, None}
use Rattle.sto_model.specs.declared.operation.Operation.TheVariants.{Add}
use Rattle.sto_lang.specs.Statements.{Statements, Nothing, Ask, ◌then◌}
use Rattle.sto_lang.specs.declared.arg.Arg.TheVariants.{Num}
use Rattle.sto_script.specs.Meaning.{Doing, doing, committing}
use Rattle.sto_gen.specs.declared.draws.Transfer.{Transfer}
use Rattle.sto_gen.specs.Generated.{number, moves, log_note, owner_note, statements}
use Rattle.sto_bench.specs.declared.body.TransferStage.{TransferStage}
use Rattle.sto_bench.specs.declared.body.TransferStage.TheVariants.{Balance, Out, In, Count, Log, Owner, End}

-- what follows the moves
abbrev pub notes : ℕ → ℕ → Transfer → Statements
notes thread position t = log_note thread position t.amount then owner_note thread position

-- `add done 1`
abbrev pub counted : Statements
counted = Ask None 0 Add (number 1) (number 0) Nothing

-- `add acct J A`, and then that
abbrev pub moved_in : Transfer → Statements
moved_in t = Ask None 1 Add (number t.to) (number t.amount) counted

-- what is done from a stage on, by what the variable holds
abbrev pub doing_from : TransferStage → ℕ → ℕ → Transfer → Doing
doing_from Balance thread position t = doing (statements thread position t) committing
doing_from Out thread position t = doing (moves t) (doing (notes thread position t) committing)
doing_from In thread position t = doing (moved_in t) (doing (notes thread position t) committing)
doing_from Count thread position t = doing counted (doing (notes thread position t) committing)
doing_from Log thread position t = doing (notes thread position t) committing
doing_from Owner thread position t = doing (owner_note thread position) committing
doing_from End thread position t = committing

-- how many calls may still be asked
abbrev pub left_from : TransferStage → ℕ
left_from Balance = 6
left_from Out = 5
left_from In = 4
left_from Count = 3
left_from Log = 2
left_from Owner = 1
left_from End = 0
