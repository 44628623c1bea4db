-- What the runs of a file ask of it and of the type of its objects.
use Rattle.std.specs.Prelude.{◌≡◌, ◌≤◌, Some}
use Rattle.sto_model.specs.declared.call.Call.{Call}
use Rattle.sto_type.specs.Meaning.{Meaning}
use Rattle.sto_lang.specs.Scripts.{Script, File}
use Rattle.sto_lang.specs.Sizes.{calls_of}
use Rattle.sto_script.specs.Asks.{Asks}
use Rattle.sto_report_spec.specs.Orders.{TransactionPlace, transaction_at}

-- each transaction of the file weighs at least as much as the calls that it may ask, and the type takes all of these
pub record IsTaken (file : File) (m : Meaning) : Type 0 where
  pub weighed : (place : TransactionPlace) (script : Script) → transaction_at file place ≡ Some script → calls_of script.body ≤ script.weight
  pub takes : (place : TransactionPlace) (script : Script) → transaction_at file place ≡ Some script → (call : Call) → Asks script.body call → m.takes call
