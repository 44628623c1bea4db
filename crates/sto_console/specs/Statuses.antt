-- The status of a call of a program, and the line that it writes beside. `A` is what a program answers.
use Rattle.std.specs.Prelude.{◌≡◌, ℕ, List, [], ◌⊎◌, Result, Ok, Err, codes}
use Rattle.sto_console.specs.Said.{fault_line, schedules_line, states_line, schedule_line, question_line}
use Rattle.sto_console.specs.declared.refusal.InputFault.TheVariants.{Script, NoReport, LongTrace, LongRun, ManySchedules, ManyStates, Schedule, Question}
use Rattle.sto_console.specs.declared.refusal.Refusal.{Refusal}
use Rattle.sto_console.specs.declared.refusal.Refusal.TheVariants.{Usage, Input, ReadFault, WriteFault, NoMemory}

-- the exit status of a refusal
abbrev pub refusal_status : Refusal → ℕ
refusal_status Usage = 2
refusal_status (Input fault) = 3
refusal_status ReadFault = 4
refusal_status WriteFault = 5
refusal_status NoMemory = 6

-- the exit status, where each answer has this one
abbrev pub status_of : {A : Type 0} → (A → ℕ) → Result A Refusal → ℕ
status_of answered (Ok answer) = answered answer
status_of answered (Err refusal) = refusal_status refusal

-- that of a program which says no more than that all is done
abbrev pub done_status : Unit {0} → ℕ
done_status x = 0

-- the line that is written beside for a refusal
abbrev pub refusal_line : Refusal → List ℕ
refusal_line Usage = codes "sto: usage\n"
refusal_line (Input (Script fault)) = fault_line fault
refusal_line (Input NoReport) = codes "sto: line 0: no report\n"
refusal_line (Input LongTrace) = codes "sto: line 0: too many transactions\n"
refusal_line (Input LongRun) = codes "sto: line 0: too many events\n"
refusal_line (Input (ManySchedules counts)) = schedules_line counts
refusal_line (Input (ManyStates count)) = states_line count
refusal_line (Input (Schedule kind)) = schedule_line kind
refusal_line (Input (Question fault)) = question_line fault
refusal_line ReadFault = codes "sto: read fault\n"
refusal_line WriteFault = codes "sto: write fault\n"
refusal_line NoMemory = codes "sto: out of memory\n"

-- the line that is written beside; none where there is an answer
abbrev pub line_of : {A : Type 0} → Result A Refusal → List ℕ
line_of (Ok answer) = []
line_of (Err refusal) = refusal_line refusal

-- a call ended with this status, by one outcome
abbrev pub EndsWith : {A : Type 0} → (A → ℕ) → ℕ → (Result A Refusal → Type 0) → Type 0
EndsWith {A = A} answered status P = (outcome : Result A Refusal) × (status ≡ status_of answered outcome) × P outcome

-- a refusal whose line is always the same
abbrev pub IsFixed : Refusal → Type 0
IsFixed (Input (Script fault)) = ⊥
IsFixed (Input NoReport) = Unit {0}
IsFixed (Input LongTrace) = Unit {0}
IsFixed (Input LongRun) = Unit {0}
IsFixed (Input (ManySchedules counts)) = ⊥
IsFixed (Input (ManyStates count)) = ⊥
IsFixed (Input (Schedule kind)) = ⊥
IsFixed (Input (Question fault)) = ⊥
IsFixed Usage = Unit {0}
IsFixed ReadFault = Unit {0}
IsFixed WriteFault = Unit {0}
IsFixed NoMemory = Unit {0}

-- a call is refused so for this reason: for the same, or for want of memory for the line of a fault
abbrev pub IsRefusedSo : Refusal → Refusal → Type 0
IsRefusedSo (Input (Script fault)) told = (told ≡ Input (Script fault)) ⊎ (told ≡ NoMemory)
IsRefusedSo (Input NoReport) told = told ≡ Input NoReport
IsRefusedSo (Input LongTrace) told = told ≡ Input LongTrace
IsRefusedSo (Input LongRun) told = told ≡ Input LongRun
IsRefusedSo (Input (ManySchedules counts)) told = (told ≡ Input (ManySchedules counts)) ⊎ (told ≡ NoMemory)
IsRefusedSo (Input (ManyStates count)) told = (told ≡ Input (ManyStates count)) ⊎ (told ≡ NoMemory)
IsRefusedSo (Input (Schedule kind)) told = (told ≡ Input (Schedule kind)) ⊎ (told ≡ NoMemory)
IsRefusedSo (Input (Question fault)) told = (told ≡ Input (Question fault)) ⊎ (told ≡ NoMemory)
IsRefusedSo Usage told = told ≡ Usage
IsRefusedSo ReadFault told = told ≡ ReadFault
IsRefusedSo WriteFault told = told ≡ WriteFault
IsRefusedSo NoMemory told = told ≡ NoMemory

-- a call ends so after this outcome
abbrev pub EndsSo : {A : Type 0} → Result A Refusal → Result A Refusal → Type 0
EndsSo (Ok answer) ending = ending ≡ Ok answer
EndsSo {A = A} (Err refusal) ending = (told : Refusal) × IsRefusedSo refusal told × (ending ≡ Err told)
