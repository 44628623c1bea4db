-- How a call of a program ends, by what its source had left and its sink holds, before and after.
use Rattle.std.specs.Prelude.{◌≡◌, ℕ, List, Bool, true, false, Option, None, Some, take, Result, Ok, Err}
use Rattle.sto_console.specs.Told.{Takes, Gains, AtEnd, Rose}
use Rattle.sto_lang.specs.Files.{file_of}
use Rattle.sto_console.specs.Read.{IfTold}
use Rattle.sto_console.specs.Programs.{Program}
use Rattle.sto_console.specs.declared.refusal.InputFault.{InputFault}
use Rattle.sto_console.specs.declared.refusal.InputFault.TheVariants.{Script, NoReport, LongTrace, LongRun, ManySchedules, ManyStates, Schedule, Question}
use Rattle.sto_console.specs.declared.refusal.Refusal.{Refusal}
use Rattle.sto_console.specs.declared.refusal.Refusal.TheVariants.{Usage, Input, ReadFault, WriteFault, NoMemory}

-- what was read: all that was left, or nothing
abbrev pub Reads : Bool → Option (List ℕ) → Option (List ℕ) → List ℕ → Type 0
Reads true left rest bytes = Takes left rest bytes × AtEnd rest
Reads false left rest bytes = rest ≡ left

-- a text that the command may print with this answer, for what it read
pub record Made {C A : Type 0} (p : Program C A) (command : C) (answer : A) (left rest : Option (List ℕ)) (text : List ℕ) : Type 0 where
  pub bytes : List ℕ
  pub reads : Reads (p.reads command) left rest bytes
  pub output : p.IsAnswer command bytes answer text

-- the whole of one text of the command was written
pub record Done {C A : Type 0} (p : Program C A) (command : C) (answer : A) (left rest held now : Option (List ℕ)) : Type 0 where
  pub text : List ℕ
  pub made : Made p command answer left rest text
  pub gained : Gains held now text

-- the same, where the writing stopped after a front of the text
pub record Stopped {C A : Type 0} (p : Program C A) (command : C) (left rest held now : Option (List ℕ)) : Type 0 where
  pub answer : A
  pub text : List ℕ
  pub count : ℕ
  pub made : Made p command answer left rest text
  pub gained : Gains held now (take count text)

-- the command reads, and what was left has this fault
abbrev pub Faulty : {C A : Type 0} → Program C A → C → InputFault → Option (List ℕ) → Option (List ℕ) → Type 0
Faulty p command fault left rest = (p.reads command ≡ true) × IfTold left rest (λ bytes. p.HasFault command bytes fault)

-- why the bytes could not be read
abbrev pub IsReadRefusal : Refusal → Type 0
IsReadRefusal ReadFault = Unit {0}
IsReadRefusal NoMemory = Unit {0}
IsReadRefusal Usage = ⊥
IsReadRefusal (Input fault) = ⊥
IsReadRefusal WriteFault = ⊥

-- why bytes are no file: the fault that is told is theirs, and want of memory may come at any time
abbrev pub IsFileRefusal : Refusal → List ℕ → Type 0
IsFileRefusal (Input (Script fault)) bytes = file_of bytes ≡ Err fault
IsFileRefusal (Input NoReport) bytes = ⊥
IsFileRefusal (Input LongTrace) bytes = ⊥
IsFileRefusal (Input LongRun) bytes = ⊥
IsFileRefusal (Input (ManySchedules counts)) bytes = ⊥
IsFileRefusal (Input (ManyStates count)) bytes = ⊥
IsFileRefusal (Input (Schedule kind)) bytes = ⊥
IsFileRefusal (Input (Question fault)) bytes = ⊥
IsFileRefusal NoMemory bytes = Unit {0}
IsFileRefusal Usage bytes = ⊥
IsFileRefusal ReadFault bytes = ⊥
IsFileRefusal WriteFault bytes = ⊥

-- why no text of the command was made
abbrev pub Unmade : {C A : Type 0} → Program C A → Refusal → C → Option (List ℕ) → Option (List ℕ) → Type 0
Unmade p (Input fault) command left rest = Faulty p command fault left rest
Unmade p ReadFault command left rest = p.reads command ≡ true
Unmade p NoMemory command left rest = Unit {0}
Unmade p Usage command left rest = ⊥
Unmade p WriteFault command left rest = ⊥

-- the whole of a text was written, or a front of it
abbrev pub IsWritten : Result (Unit {0}) Refusal → List ℕ → Option (List ℕ) → Option (List ℕ) → Type 0
IsWritten (Ok x) text held now = Gains held now text
IsWritten (Err WriteFault) text held now = (count : ℕ) × Gains held now (take count text)
IsWritten (Err refusal) text held now = ⊥

-- a call was refused: what the words or the bytes have to do with it, and what the sink holds after it
abbrev pub Refused : {C A : Type 0} → Program C A → Refusal → Option C → Option (List ℕ) → Option (List ℕ) → Option (List ℕ) → Option (List ℕ) → Type 0
Refused p Usage command left rest held now = (command ≡ None) × (rest ≡ left) × (now ≡ held)
Refused p (Input fault) None left rest held now = ⊥
Refused p (Input fault) (Some command) left rest held now = Faulty p command fault left rest × (now ≡ held)
Refused p ReadFault None left rest held now = ⊥
Refused p ReadFault (Some command) left rest held now = (p.reads command ≡ true) × (now ≡ held)
Refused p WriteFault None left rest held now = ⊥
Refused p WriteFault (Some command) left rest held now = Stopped p command left rest held now
Refused p NoMemory command left rest held now = now ≡ held

-- a call ends so: it was answered, or it was refused
abbrev pub Ends : {C A : Type 0} → Program C A → Result A Refusal → Option C → Option (List ℕ) → Option (List ℕ) → Option (List ℕ) → Option (List ℕ) → Type 0
Ends p (Ok answer) None left rest held now = ⊥
Ends p (Ok answer) (Some command) left rest held now = Done p command answer left rest held now
Ends p (Err refusal) command left rest held now = Refused p refusal command left rest held now

-- a count of faults rose where the one refusal is the other, and stayed else
abbrev pub RoseBy : Refusal → Refusal → ℕ → ℕ → Type 0
RoseBy ReadFault ReadFault old new = Rose old new
RoseBy WriteFault WriteFault old new = Rose old new
RoseBy refusal other old new = new ≡ old

-- it rose where this refusal came, and stayed else
abbrev pub RoseFor : {A : Type 0} → Refusal → Result A Refusal → ℕ → ℕ → Type 0
RoseFor refusal (Ok answer) old new = new ≡ old
RoseFor refusal (Err other) old new = RoseBy refusal other old new
