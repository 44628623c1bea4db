use Rattle.std.proofs.Common.{◌≡◌, Ok}
use Rattle.std.proofs.lemmas.Result.{IfOk-weaker, IfErr-weaker}
use Rattle.sto_lang.specs.Views.{file as view}
use Rattle.sto_lang.proofs.SoundFiles.{readable_sound}
use Rattle.sto_cli.specs.Schedules.{scheduled_by, IsScheduled, IsScheduledFault, IsUnscheduled}
use Rattle.sto_cli.specs.Traces.{IsRefusalFor}
use Rattle.sto_cli.proofs.Refusals.{no_file, no_schedule}
use Rattle.sto_cli.proofs.script.scheduled_in.Goals as goal

pub scheduled-requires : goal.scheduled-requires
scheduled-requires c = readable_sound c.args.bytes.now (view c.in_ok-file.file) c.in_ok-file.ensures.file

pub returns-clause-file : goal.returns-clause-file
returns-clause-file c =
    IfOk-weaker c.scheduled.result
    (λ file. scheduled_by c.args.schedule.now (view c.in_ok-file.file) ≡ Ok (view file))
    (λ file. IsScheduled c.args.schedule.now c.args.bytes.now (view file))
    (λ file h. record { script = view c.in_ok-file.file; reads = c.in_ok-file.ensures.file; scheduled = h })
    c.scheduled.ensures.file

pub returns-clause-fault : goal.returns-clause-fault
returns-clause-fault c =
    IfErr-weaker c.scheduled.result
    (λ e. IsRefusalFor (IsUnscheduled c.args.schedule.now (view c.in_ok-file.file)) e)
    (λ e. IsRefusalFor (IsScheduledFault c.args.schedule.now c.args.bytes.now) e)
    (λ e h. no_schedule c.args.schedule.now c.args.bytes.now (view c.in_ok-file.file) c.in_ok-file.ensures.file e h)
    c.scheduled.ensures.fault
