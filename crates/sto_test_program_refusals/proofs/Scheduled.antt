-- What a script with a schedule of words says, and what is not printed of it.
use Rattle.std.specs.Prelude.{codes}
use Rattle.std.specs.Fmt.{digits}
use Rattle.std.specs.Int.{w64, int_wrap}
use Rattle.std.specs.Result.{is_ok}
use Rattle.std.proofs.Common.{◌≡◌, ℕ, nat_eq, List, length, Bool, None, Some, Result, Ok, Err, sym, ap, ◌∙◌, subst, arith, true≢false, refl}
use Rattle.sto_lang.specs.Files.{file_of}
use Rattle.sto_lang.specs.Scripts.{File}
use Rattle.sto_lang.specs.declared.fault.FaultKind.{FaultKind}
use Rattle.sto_schedule.specs.Schedules.{with_schedule}
use Rattle.sto_run.specs.Forms.{form_for}
use Rattle.sto_run.specs.Traced.{turns_in}
use Rattle.sto_run.specs.Stepped.{IsStepReport}
use Rattle.sto_args.specs.declared.command.Command.TheVariants.{Step}
use Rattle.sto_cli.specs.Schedules.{IsScheduled}
use Rattle.sto_cli.specs.Outputs.{IsOutput}
use Rattle.sto_test_program_refusals.specs.Inputs.{lost_update_file, second_first_file}

pub one_file : (bytes : List ℕ) (f g : File) → file_of bytes ≡ Ok f → file_of bytes ≡ Ok g → f ≡ g
one_file bytes f g one other = let e = sym one ∙ other in cc

-- without words that have a schedule, a script is run as it says
pub scheduled_as : (bytes : List ℕ) (file f : File) → file_of bytes ≡ Ok file → IsScheduled None bytes f → f ≡ file
scheduled_as bytes file f reads is = let same : is.script ≡ f = let e = is.scheduled in cc in sym same ∙ one_file bytes is.script file is.reads reads

-- and with such words as they say
with_words : (words bytes : List ℕ) (f h : File) → file_of bytes ≡ Ok f → IsScheduled (Some words) bytes h → with_schedule f words ≡ Ok h
with_words words bytes f h reads is = ap (λ (x : File). with_schedule x words) (one_file bytes f is.script reads is.reads) ∙ is.scheduled

same_scheduled : (f g : File) → ◌≡◌ {A = Result File FaultKind} (Ok f) (Ok g) → f ≡ g
same_scheduled f g e = cc

pub led_elsewhere : (tries : ℕ) (json : Bool) (words bytes text : List ℕ) (f g : File) → file_of bytes ≡ Ok f → with_schedule f words ≡ Ok g
    → IsOutput (Step tries json (Some words)) bytes text → (IsStepReport (form_for json) g tries (turns_in g.schedule) text → ⊥) → ⊥
led_elsewhere tries json words bytes text f g reads scheduled o none =
    let same : o.0 ≡ g = same_scheduled o.0 g (sym (with_words words bytes f o.0 reads o.1) ∙ scheduled) in
    none (subst (λ (x : File). IsStepReport (form_for json) x tries (turns_in x.schedule) text) same o.2)

pub no_schedule : (tries : ℕ) (json : Bool) (words bytes text : List ℕ) (f : File) (kind : FaultKind) → file_of bytes ≡ Ok f → with_schedule f words ≡ Err kind
    → IsOutput (Step tries json (Some words)) bytes text → ⊥
no_schedule tries json words bytes text f kind reads refused o = true≢false (ap is_ok (sym (with_words words bytes f o.0 reads o.1) ∙ refused))

abbrev entry_count : Result File FaultKind → ℕ
entry_count (Ok f) = length (turns_in f.schedule)
entry_count (Err kind) = 0

-- the words stand in the place of the script's own schedule
as_worded : with_schedule lost_update_file (codes "1:10") ≡ Ok second_first_file
unfolding digits int_wrap
as_worded = refl

-- which is not kept
pub own_kept : with_schedule lost_update_file (codes "1:10") ≡ Ok lost_update_file → ⊥
own_kept e =
    let same : ◌≡◌ {A = Result File FaultKind} (Ok second_first_file) (Ok lost_update_file) = sym as_worded ∙ e in
    let n : entry_count (Ok second_first_file) ≡ entry_count (Ok lost_update_file) = ap entry_count same in
    true≢false (ap (λ k. nat_eq k 1) n)

-- there is no third thread, and no turn without a step
pub no_thread : (f : File) → with_schedule lost_update_file (codes "2:1") ≡ Ok f → ⊥
unfolding digits int_wrap
no_thread f e = true≢false (sym (ap is_ok e))

pub no_steps : (f : File) → with_schedule lost_update_file (codes "0:0") ≡ Ok f → ⊥
unfolding digits int_wrap
no_steps f e = true≢false (sym (ap is_ok e))
