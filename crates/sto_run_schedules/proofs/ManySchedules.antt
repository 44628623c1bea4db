-- Files with too many schedules.
use Rattle.std.proofs.Common.{◌≤◌, ℕ}
use Rattle.sto_lang.specs.Scripts.{File}
use Rattle.sto_report_spec.specs.declared.form.ReportForm.{ReportForm}
use Rattle.sto_run.specs.Traced.{of_objects}
use Rattle.sto_explore.proofs.MoreSwitches.{too_many_more}
use Rattle.sto_run_schedules.specs.Telling.{tells_of, busy_threads}
use Rattle.sto_run_schedules.specs.Leading.{LeadsTo}
use Rattle.sto_run_schedules.specs.Explored.{HasTooMany}

-- a file that has too many with some switches has too many with more
pub many_with_more : (form : ReportForm) (file : File) (tries k m limit : ℕ) → k ≤ m → HasTooMany form file tries k limit → HasTooMany form file tries m limit
many_with_more form file tries k m limit more h = record {
  objects = h.objects;
  kinds = h.kinds;
  runs = h.runs;
  too_many =
      too_many_more (tells_of of_objects h.objects file tries) (LeadsTo form h.objects file tries) k m (busy_threads file) more limit h.runs h.too_many;
}
