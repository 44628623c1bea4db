use Rattle.std.proofs.Common.{ℕ, List, ◌≤◌, length, sym, ap, subst}
use Rattle.std.proofs.lemmas.Result.{IfOk-weaker}
use Rattle.sto_lang.specs.Scripts.{File}
use Rattle.sto_lang.specs.declared.file.Turns.{Turns}
use Rattle.sto_lang.specs.Views.{file as view}
use Rattle.sto_type.specs.Traits.{of_type}
use Rattle.sto_serializability.specs.Meanings.{updating_by}
use Rattle.sto_run_threads.specs.declared.workload.BorrowedFile.{BorrowedFile}
use Rattle.sto_run_steps.specs.Logged.{kept}
use Rattle.sto_run.specs.Alone.{RanAlone}
use Rattle.sto_run.specs.Lawful.{IsLawfulJournal}
use Rattle.sto_run.specs.Traced.{IsRunBy, IsTraced}
use Rattle.sto_run.proofs.TracedRuns.{moved}
use Rattle.sto_run.proofs.traced.trace_on.Goals as goal

pub turns_of-schedule-requires : goal.turns_of-schedule-requires
turns_of-schedule-requires g c = c.in_ok-run.ensures.runnable.sound.scheduled

pub trace_opened-requires-clause-schedule : goal.trace_opened-requires-clause-schedule
trace_opened-requires-clause-schedule g c = λ κs within. c.turns_of-schedule.ensures.inside

pub returns-clause-lawful : goal.returns-clause-lawful
returns-clause-lawful g c =
    let same = c.in_ok-run.ensures.of in
    let work = c.in_ok-run.run'.work in
    IfOk-weaker c.trace_opened.result _ _
    (λ r h. moved (λ ty file tries. IsLawfulJournal (updating_by (λ shapes. g.T.TxType.meaning ty)) file tries r.0) work.ty.now c.args.ty.now (view work.workload.file.now) (view c.args.file.now)
    work.tries c.args.tries (ap (λ (f : BorrowedFile). view f.file.now) same.0) same.1 same.2 h)
    c.trace_opened.ensures.lawful

pub returns-clause-alone : goal.returns-clause-alone
returns-clause-alone g c = λ few.
    let same = ap (λ (f : BorrowedFile). view f.file.now) c.in_ok-run.ensures.of.0 in
    IfOk-weaker c.trace_opened.result _ _ (λ r h. subst (λ (f : File). RanAlone f r.0) same h)
    (c.trace_opened.ensures.alone (subst (λ (f : File). length f.threads ≤ 1) (sym same) few))

pub returns-clause-traced : goal.returns-clause-traced
returns-clause-traced g c =
    let same = c.in_ok-run.ensures.of in
    let work = c.in_ok-run.run'.work in
    let t = of_type g.T.Naming g.T.TxType in
    IfOk-weaker c.trace_opened.result _ _
    (λ r h. moved (λ ty file tries. IsTraced t ty file tries r.0 (kept r.1)) work.ty.now c.args.ty.now (view work.workload.file.now) (view c.args.file.now)
    work.tries c.args.tries (ap (λ (f : BorrowedFile). view f.file.now) same.0) same.1 same.2
    (subst (λ (s : List Turns). IsRunBy t work.ty.now (view work.workload.file.now) work.tries s r.0 (kept r.1)) c.turns_of-schedule.ensures.same h))
    c.trace_opened.ensures.run_by
