use Rattle.std.proofs.Common.{◌≡◌, ℕ, subst}
use Rattle.std.proofs.lemmas.Result.{IfOk-weaker}
use Rattle.sto_gen.specs.Generated.{file_of}
use Rattle.sto_gen.proofs.Sound.{generated_sound}
use Rattle.sto_run.specs.Meanings.{updating_by}
use Rattle.sto_run.specs.Stores.{means}
use Rattle.sto_run.specs.Lawful.{IsLawfulJournal}
use Rattle.sto_bench.proofs.run.run_generated.Goals as goal

pub run_workload-requires-clause-sound : goal.run_workload-requires-clause-sound
run_workload-requires-clause-sound g c = λ κs within. generated_sound c.in_ok-file.file.number

pub returns : goal.returns
returns g c =
    IfOk-weaker c.run_workload.result _ _
    (λ journal lawful. subst (λ (n : ℕ). IsLawfulJournal (updating_by means) (file_of n) c.args.tries journal) c.in_ok-file.ensures lawful)
    c.run_workload.ensures.lawful
