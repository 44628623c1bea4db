-- What is found, and what a call that is not refused tells.
use Rattle.std.proofs.Common.{◌≡◌, ◌<◌, ℕ, List, ◌++◌, ◌⊎◌, inl, inr, refl, sym, ap, ◌∙◌, subst, append-nil, arith, Option, None, Some, Result, Ok, Err, true≢false}
use Rattle.std.specs.Result.{is_ok}
use Rattle.std.specs.Option.{is_some}
use Rattle.sto_console.specs.Told.{Rose}
use Rattle.sto_args.specs.declared.asked.Checking.{Checking}
use Rattle.sto_checker.specs.declared.found.Found.{Found}
use Rattle.sto_checker.specs.declared.found.Found.TheVariants.{Lawful, Not}
use Rattle.sto_checker.specs.Answer.{IsFound}
use Rattle.sto_console.specs.declared.refusal.InputFault.{InputFault}
use Rattle.sto_console.specs.declared.refusal.Refusal.{Refusal}
use Rattle.sto_console.specs.declared.refusal.Refusal.TheVariants.{Usage, ReadFault, WriteFault, NoMemory}
use Rattle.sto_console.specs.declared.refusal.Refusal.TheVariants as refusals
use Rattle.sto_console.specs.Statuses.{status_of}
use Rattle.sto_console.specs.Ends.{Made, Ends, RoseFor}
use Rattle.sto_console.proofs.Causes.{IsExclusive}
use Rattle.sto_check_cli.specs.Inputs.{Input, input_of}
use Rattle.sto_check_cli.specs.Programs.{program, found_status}
use Rattle.sto_check_cli.specs.Findings.{IsToldFound}

-- each answer has one of two statuses
pub few_statuses : (found : Found) → found_status found < 2
few_statuses Lawful = omega arith
few_statuses (Not line) = omega arith

pub by_lawful : (P : Found → Type 0) (found : Found) → found_status found ≡ 0 → P found → P Lawful
by_lawful P Lawful e h = h
by_lawful P (Not line) e h = absurd (omega (arith, e))

pub by_wrong : (P : Found → Type 0) (found : Found) → found_status found ≡ 1 → P found → (line : ℕ) × P (Not line)
by_wrong P Lawful e h = absurd (omega (arith, e))
by_wrong P (Not line) e h = (line, h)

input_or : Input → Result Input InputFault → Input
input_or other (Ok input) = input
input_or other (Err fault) = other

same_inputs : (one other : Input) → ◌≡◌ {A = Result Input InputFault} (Ok one) (Ok other) → one ≡ other
unfolding input_or
same_inputs one other e = ap (input_or one) e

no_fault : (B : Type 0) (input : Input) (fault : InputFault) → ◌≡◌ {A = Result Input InputFault} (Ok input) (Err fault) → B
no_fault B input fault e = absurd (true≢false (ap is_ok e))

-- an input is answered, or it has a fault
pub exclusive : IsExclusive program
exclusive = record {
  read = λ asked bytes fault h. refl;
  faultless = λ asked bytes fault found text own h f. no_fault _ h.0.input fault (sym h.0.reads ∙ f);
}

-- only one answer is found of bytes that are told
only_found : (asked : Checking) (found other : Found) (bytes rest : List ℕ) (text : List ℕ) (input : Input) → input_of bytes ≡ Ok input → IsFound input.file asked.tries input.report found
    → Made program asked other (Some bytes) (Some rest) text → found ≡ other
only_found asked found other bytes rest text input reads is m =
    let whole : bytes ≡ m.bytes = m.reads.0 ∙ ap (λ (xs : List ℕ). m.bytes ++ xs) m.reads.1 ∙ append-nil m.bytes in
    let same : input ≡ m.output.0.input = same_inputs input m.output.0.input (sym reads ∙ ap input_of whole ∙ m.output.0.reads) in
    m.output.0.judged.only found (subst (λ (i : Input). IsFound i.file asked.tries i.report found) same is)

none_is_some : (B : Type 0) (asked : Checking) → Some asked ≡ None → B
none_is_some B asked e = absurd (true≢false (ap is_some e))

exact_told : (ending : Result Found Refusal) (found : Found) (asked : Checking) (bytes rest : List ℕ) (held now : Option (List ℕ)) (read read_now wrote wrote_now : ℕ)
    → Ends program ending (Some asked) (Some bytes) (Some rest) held now → RoseFor ReadFault ending read read_now → RoseFor WriteFault ending wrote wrote_now
    → (input : Input) → input_of bytes ≡ Ok input → IsFound input.file asked.tries input.report found
    → (Rose read read_now → ⊥) → (Rose wrote wrote_now → ⊥) → (status_of found_status ending ≡ found_status found) ⊎ (status_of found_status ending ≡ 6)
exact_told (Ok other) found asked bytes rest held now r rn w wn h fr fw input reads is nr nw =
    inl (ap found_status (sym (only_found asked found other bytes rest h.text input reads is h.made)))
exact_told (Err Usage) found asked bytes rest held now r rn w wn h fr fw input reads is nr nw = none_is_some _ asked h.0
exact_told (Err (refusals.Input fault)) found asked bytes rest held now r rn w wn h fr fw input reads is nr nw = no_fault _ input fault (sym reads ∙ h.0.1)
exact_told (Err ReadFault) found asked bytes rest held now r rn w wn h fr fw input reads is nr nw = absurd (nr fr)
exact_told (Err WriteFault) found asked bytes rest held now r rn w wn h fr fw input reads is nr nw = absurd (nw fw)
exact_told (Err NoMemory) found asked bytes rest held now r rn w wn h fr fw input reads is nr nw = inr refl

-- what is so of the report is what the status says
pub exact : (ending : Result Found Refusal) (found : Found) (asked : Option Checking) (left rest held now : Option (List ℕ)) (read read_now wrote wrote_now : ℕ)
    → Ends program ending asked left rest held now → RoseFor ReadFault ending read read_now → RoseFor WriteFault ending wrote wrote_now
    → IsToldFound found asked left rest → (Rose read read_now → ⊥) → (Rose wrote wrote_now → ⊥) → (status_of found_status ending ≡ found_status found) ⊎ (status_of found_status ending ≡ 6)
exact ending found None left rest held now r rn w wn h fr fw told nr nw = absurd told
exact ending found (Some asked) None rest held now r rn w wn h fr fw told nr nw = absurd told
exact ending found (Some asked) (Some bytes) None held now r rn w wn h fr fw told nr nw = absurd told
exact ending found (Some asked) (Some bytes) (Some rest) held now r rn w wn h fr fw told nr nw =
    exact_told ending found asked bytes rest held now r rn w wn h fr fw told.0 told.1 told.2 nr nw
