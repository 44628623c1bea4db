-- What `feed` does not print.
use Rattle.std.specs.Fmt.{digits}
use Rattle.std.specs.Int.{int_wrap}
use Rattle.std.proofs.Common.{◌≡◌, ℕ, List, [], length, Option, Some, refl, sym, ap, subst, arith}
use Rattle.sto_lang.specs.Scripts.{File}
use Rattle.sto_report_spec.specs.Lawful.{IsLawful}
use Rattle.sto_report_spec.specs.NamedAborts.{aborts_named}
use Rattle.sto_report_spec.specs.declared.form.ReportForm.TheVariants.{Text}
use Rattle.sto_run.specs.Meanings.{updating_by}
use Rattle.sto_run.specs.Stores.{means}
use Rattle.sto_console.specs.Outcomes.{IsDone}
use Rattle.sto_console.specs.Workers.{workers_of}
use Rattle.sto_feed_cli.specs.Programs.{IsFed, feed_program}
use Rattle.sto_test_premises.specs.Adding.{script, file}
use Rattle.sto_test_refusals.specs.Texts.{right}
use Rattle.sto_test_refusals.proofs.Unlawful.{nothing_is_none}
use Rattle.sto_test_program_refusals.proofs.Texts.{none_gained}
use Rattle.sto_test_program_refusals.proofs.Outputs.{read_as}

-- what it prints is lawful
pub feed_lawful : (threads : Option ℕ) (text : List ℕ) → IsFed (record { threads = threads; tries = 64 }) script text → IsLawful (updating_by means) file 64 text
feed_lawful threads text f = subst (λ (g : File). IsLawful (updating_by means) g 64 text) (read_as f.file f.script) f.lawful

-- by one worker it tells of no aborted attempt
pub feed_not_aborted : IsFed (record { threads = Some 1; tries = 64 }) script right → ⊥
unfolding digits int_wrap
feed_not_aborted f =
    let alone = subst (λ (g : File). workers_of (Some 1) (length g.threads) ≡ 1 → aborts_named g.names right ≡ []) (read_as f.file f.script) f.alone refl in
    let n : 1 ≡ 0 = ap length alone in omega (arith, n)

pub feed_silent : (threads : Option ℕ) (tries : ℕ) (bytes held : List ℕ)
    → IsDone feed_program tt (Some (record { threads = threads; tries = tries })) (Some bytes) (Some []) (Some held) (Some held) → ⊥
feed_silent threads tries bytes held done =
    let fed = done.made.output in
    nothing_is_none (updating_by means) Text fed.file tries
    (subst (λ (text : List ℕ). IsLawful (updating_by means) fed.file tries text) (sym (none_gained held done.text done.gained)) fed.lawful)
