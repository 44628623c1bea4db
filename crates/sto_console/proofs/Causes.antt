-- What is so of each call, whatever its program.
use Rattle.std.proofs.Common.{◌≡◌, ℕ, ◌<◌, ◌≤◌, List, ◌++◌, ◌⊎◌, inl, inr, refl, sym, ap, ◌∙◌, subst, append-nil, arith, Bool, true, false, true≢false, Option, None, Some, Result, Ok, Err}
use Rattle.std.specs.Option.{is_some}
use Rattle.sto_console.specs.Told.{Rose}
use Rattle.sto_console.specs.declared.refusal.InputFault.{InputFault}
use Rattle.sto_console.specs.declared.refusal.Refusal.{Refusal}
use Rattle.sto_console.specs.declared.refusal.Refusal.TheVariants.{Usage, Input, ReadFault, WriteFault, NoMemory}
use Rattle.sto_console.specs.Programs.{Program}
use Rattle.sto_console.specs.Statuses.{status_of}
use Rattle.sto_console.specs.Ends.{Reads, Made, Faulty, Ends, RoseFor}
use Rattle.sto_console.specs.Outcomes.{IsDone, IsFaulty, IsStopped, IsOwn, IsToldFault, IfReads, IsToldWell, IsFaultless}
use Rattle.sto_console.specs.Causes.{HasAnswered, HasCauses}

-- only what is read has faults, and what has one of its own is not answered
pub record IsExclusive {C A : Type 0} (p : Program C A) : Type 0 where
  pub read : (command : C) (bytes : List ℕ) (fault : InputFault) → p.HasFault command bytes fault → p.reads command ≡ true
  pub faultless : (command : C) (bytes : List ℕ) (fault : InputFault) (answer : A) (text : List ℕ) → IsOwn fault → p.IsAnswer command bytes answer text → p.HasFault command bytes fault → ⊥

-- ---- by how the call ended

no_command : {C : Type 0} (B : Type 0) (command : C) → Some command ≡ None → B
no_command B command e = absurd (true≢false (ap is_some e))

other : (B : Type 0) (m n : ℕ) → m < n → m ≡ n → B
other B m n l e = absurd (omega (arith, l, e))

less : (B : Type 0) (m n : ℕ) → n < m → m ≡ n → B
less B m n l e = absurd (omega (arith, l, e))

module _ {C A : Type 0} (p : Program C A) (answered : A → ℕ) (low : (answer : A) → answered answer < 2) (left rest held now : Option (List ℕ)) where
  high : (B : Type 0) (answer : A) (n : ℕ) → 2 ≤ n → answered answer ≡ n → B
  high B answer n l e = let few = low answer in absurd (omega (arith, l, e, few))

  done : (ending : Result A Refusal) (command : Option C) → Ends p ending command left rest held now → status_of answered ending < 2
      → (answer : A) × (status_of answered ending ≡ answered answer) × IsDone p answer command left rest held now
  done (Ok answer) None h l = absurd h
  done (Ok answer) (Some c) h l = (answer, refl, h)
  done (Err Usage) command h l = absurd (omega (arith, l))
  done (Err (Input fault)) command h l = absurd (omega (arith, l))
  done (Err ReadFault) command h l = absurd (omega (arith, l))
  done (Err WriteFault) command h l = absurd (omega (arith, l))
  done (Err NoMemory) command h l = absurd (omega (arith, l))

  usage : (ending : Result A Refusal) (command : Option C) → Ends p ending command left rest held now → status_of answered ending ≡ 2 → command ≡ None
  usage (Ok answer) command h e = high _ answer 2 (omega arith) e
  usage (Err Usage) command h e = h.0
  usage (Err (Input fault)) command h e = less _ 3 2 (omega arith) e
  usage (Err ReadFault) command h e = less _ 4 2 (omega arith) e
  usage (Err WriteFault) command h e = less _ 5 2 (omega arith) e
  usage (Err NoMemory) command h e = less _ 6 2 (omega arith) e

  usage_only : (ending : Result A Refusal) (command : Option C) → Ends p ending command left rest held now → command ≡ None
      → (status_of answered ending ≡ 2) ⊎ (status_of answered ending ≡ 6)
  usage_only (Err Usage) command h e = inl refl
  usage_only (Err NoMemory) command h e = inr refl
  usage_only (Ok answer) (Some c) h e = no_command _ c e
  usage_only (Ok answer) None h e = absurd h
  usage_only (Err (Input fault)) (Some c) h e = no_command _ c e
  usage_only (Err (Input fault)) None h e = absurd h
  usage_only (Err ReadFault) (Some c) h e = no_command _ c e
  usage_only (Err ReadFault) None h e = absurd h
  usage_only (Err WriteFault) (Some c) h e = no_command _ c e
  usage_only (Err WriteFault) None h e = absurd h

  faulty : (ending : Result A Refusal) (command : Option C) → Ends p ending command left rest held now → status_of answered ending ≡ 3 → IsFaulty p command left rest
  faulty (Err (Input fault)) None h e = absurd h
  faulty (Err (Input fault)) (Some c) h e = (fault, h.0)
  faulty (Ok answer) command h e = high _ answer 3 (omega arith) e
  faulty (Err Usage) command h e = other _ 2 3 (omega arith) e
  faulty (Err ReadFault) command h e = less _ 4 3 (omega arith) e
  faulty (Err WriteFault) command h e = less _ 5 3 (omega arith) e
  faulty (Err NoMemory) command h e = less _ 6 3 (omega arith) e

  stopped : (ending : Result A Refusal) (command : Option C) → Ends p ending command left rest held now → status_of answered ending ≡ 5 → IsStopped p command left rest held now
  stopped (Err WriteFault) None h e = absurd h
  stopped (Err WriteFault) (Some c) h e = h
  stopped (Ok answer) command h e = high _ answer 5 (omega arith) e
  stopped (Err Usage) command h e = other _ 2 5 (omega arith) e
  stopped (Err (Input fault)) command h e = other _ 3 5 (omega arith) e
  stopped (Err ReadFault) command h e = other _ 4 5 (omega arith) e
  stopped (Err NoMemory) command h e = less _ 6 5 (omega arith) e

  unchanged : (ending : Result A Refusal) (command : Option C) → Ends p ending command left rest held now → ((answer : A) → status_of answered ending ≡ answered answer → ⊥)
      → (status_of answered ending ≡ 5 → ⊥) → now ≡ held
  unchanged (Ok answer) command h n s = absurd (n answer refl)
  unchanged (Err WriteFault) command h n s = absurd (s refl)
  unchanged (Err Usage) command h n s = h.2
  unchanged (Err (Input fault)) None h n s = absurd h
  unchanged (Err (Input fault)) (Some c) h n s = h.1
  unchanged (Err ReadFault) None h n s = absurd h
  unchanged (Err ReadFault) (Some c) h n s = h.1
  unchanged (Err NoMemory) command h n s = h

  -- ---- by the faults of the streams

  module _ (old new : ℕ) where
    read_fault : (ending : Result A Refusal) → RoseFor ReadFault ending old new → status_of answered ending ≡ 4 → Rose old new
    read_fault (Err ReadFault) h e = h
    read_fault (Ok answer) h e = high _ answer 4 (omega arith) e
    read_fault (Err Usage) h e = other _ 2 4 (omega arith) e
    read_fault (Err (Input fault)) h e = other _ 3 4 (omega arith) e
    read_fault (Err WriteFault) h e = less _ 5 4 (omega arith) e
    read_fault (Err NoMemory) h e = less _ 6 4 (omega arith) e

    no_read_fault : (ending : Result A Refusal) → RoseFor ReadFault ending old new → (status_of answered ending ≡ 4 → ⊥) → new ≡ old
    no_read_fault (Err ReadFault) h n = absurd (n refl)
    no_read_fault (Ok answer) h n = h
    no_read_fault (Err Usage) h n = h
    no_read_fault (Err (Input fault)) h n = h
    no_read_fault (Err WriteFault) h n = h
    no_read_fault (Err NoMemory) h n = h

    write_fault : (ending : Result A Refusal) → RoseFor WriteFault ending old new → status_of answered ending ≡ 5 → Rose old new
    write_fault (Err WriteFault) h e = h
    write_fault (Ok answer) h e = high _ answer 5 (omega arith) e
    write_fault (Err Usage) h e = other _ 2 5 (omega arith) e
    write_fault (Err (Input fault)) h e = other _ 3 5 (omega arith) e
    write_fault (Err ReadFault) h e = other _ 4 5 (omega arith) e
    write_fault (Err NoMemory) h e = less _ 6 5 (omega arith) e

    no_write_fault : (ending : Result A Refusal) → RoseFor WriteFault ending old new → (status_of answered ending ≡ 5 → ⊥) → new ≡ old
    no_write_fault (Err WriteFault) h n = absurd (n refl)
    no_write_fault (Ok answer) h n = h
    no_write_fault (Err Usage) h n = h
    no_write_fault (Err (Input fault)) h n = h
    no_write_fault (Err ReadFault) h n = h
    no_write_fault (Err NoMemory) h n = h

-- ---- by what the input is

module _ {C A : Type 0} (p : Program C A) (exclusive : IsExclusive p) (command : C) (bytes rest : List ℕ) where
  -- what is answered and told was read whole, and has no fault of its own
  answered_well : (fault : InputFault) (answer : A) (text : List ℕ) → IsOwn fault → p.HasFault command bytes fault → Made p command answer (Some bytes) (Some rest) text → ⊥
  answered_well fault answer text own f m = by (p.reads command) refl m.reads
    where
      by : (b : Bool) → p.reads command ≡ b → Reads b (Some bytes) (Some rest) m.bytes → ⊥
      by true e r =
          let whole : bytes ≡ m.bytes = r.0 ∙ ap (λ (xs : List ℕ). m.bytes ++ xs) r.1 ∙ append-nil m.bytes in
          exclusive.faultless command m.bytes fault answer text own m.output (subst (λ (xs : List ℕ). p.HasFault command xs fault) whole f)
      by false e r = absurd (true≢false (sym (exclusive.read command bytes fault f) ∙ e))

module _ {C A : Type 0} (p : Program C A) (exclusive : IsExclusive p) (answered : A → ℕ) where
  told_fault : (ending : Result A Refusal) (command : C) (bytes rest : List ℕ) (held now : Option (List ℕ)) (fault : InputFault) → Ends p ending (Some command) (Some bytes) (Some rest) held now
      → IsOwn fault → p.HasFault command bytes fault → (status_of answered ending ≡ 3) ⊎ (status_of answered ending ≡ 4) ⊎ (status_of answered ending ≡ 6)
  told_fault (Ok answer) command bytes rest held now fault h own f = absurd (answered_well p exclusive command bytes rest fault answer h.text own f h.made)
  told_fault (Err Usage) command bytes rest held now fault h own f = no_command _ command h.0
  told_fault (Err (Input other_fault)) command bytes rest held now fault h own f = inl refl
  told_fault (Err ReadFault) command bytes rest held now fault h own f = inr (inl refl)
  told_fault (Err WriteFault) command bytes rest held now fault h own f = absurd (answered_well p exclusive command bytes rest fault h.answer h.text own f h.made)
  told_fault (Err NoMemory) command bytes rest held now fault h own f = inr (inr refl)

  refused : (ending : Result A Refusal) (command : Option C) (left rest held now : Option (List ℕ)) (fault : InputFault) → Ends p ending command left rest held now
      → IsOwn fault → IsToldFault p fault command left rest → (status_of answered ending ≡ 3) ⊎ (status_of answered ending ≡ 4) ⊎ (status_of answered ending ≡ 6)
  refused ending None left rest held now fault h own f = absurd f
  refused ending (Some command) None rest held now fault h own f = absurd f
  refused ending (Some command) (Some bytes) None held now fault h own f = absurd f
  refused ending (Some command) (Some bytes) (Some rest) held now fault h own f = told_fault ending command bytes rest held now fault h own f

-- bytes that are told and have no fault are refused for none
told_well : {C A : Type 0} (p : Program C A) (command : C) (left rest : Option (List ℕ)) (fault : InputFault) → Faulty p command fault left rest → IsToldWell p (Some command) left rest → ⊥
told_well p command None rest fault f w = absurd w
told_well p command (Some bytes) None fault f w = absurd w
told_well p command (Some bytes) (Some rest) fault f w = w fault f.1

well : {C A : Type 0} (p : Program C A) (command : C) (left rest : Option (List ℕ)) (fault : InputFault) → Faulty p command fault left rest → IfReads (p.reads command) (IsToldWell p (Some command) left rest) → ⊥
well p command left rest fault f w = told_well p command left rest fault f (subst (λ (b : Bool). IfReads b (IsToldWell p (Some command) left rest)) f.0 w)

complete : {C A : Type 0} (p : Program C A) (answered : A → ℕ) (ending : Result A Refusal) (command : Option C) (left rest held now : Option (List ℕ)) (read read_now wrote wrote_now : ℕ)
    → Ends p ending command left rest held now → RoseFor ReadFault ending read read_now → RoseFor WriteFault ending wrote wrote_now
    → IsFaultless p command left rest → (Rose read read_now → ⊥) → (Rose wrote wrote_now → ⊥)
    → ((answer : A) × (status_of answered ending ≡ answered answer)) ⊎ (status_of answered ending ≡ 6)
complete p answered ending None left rest held now r rn w wn h fr fw g nr nw = absurd g
complete p answered (Ok answer) (Some c) left rest held now r rn w wn h fr fw g nr nw = inl (answer, refl)
complete p answered (Err Usage) (Some c) left rest held now r rn w wn h fr fw g nr nw = no_command _ c h.0
complete p answered (Err (Input fault)) (Some c) left rest held now r rn w wn h fr fw g nr nw = absurd (well p c left rest fault h.0 g)
complete p answered (Err ReadFault) (Some c) left rest held now r rn w wn h fr fw g nr nw = absurd (nr fr)
complete p answered (Err WriteFault) (Some c) left rest held now r rn w wn h fr fw g nr nw = absurd (nw fw)
complete p answered (Err NoMemory) (Some c) left rest held now r rn w wn h fr fw g nr nw = inr refl

-- ---- all of it

below : {A : Type 0} (answered : A → ℕ) → ((answer : A) → answered answer < 2) → (status : ℕ) → HasAnswered answered status → status < 2
below answered low status a = let few = low a.0 in omega (arith, few, a.1)

among : {A : Type 0} (answered : A → ℕ) (ending : Result A Refusal)
    → HasAnswered answered (status_of answered ending) ⊎ ((2 ≤ status_of answered ending) × (status_of answered ending ≤ 6))
among answered (Ok answer) = inl (answer, refl)
among answered (Err Usage) = inr (omega arith, omega arith)
among answered (Err (Input fault)) = inr (omega arith, omega arith)
among answered (Err ReadFault) = inr (omega arith, omega arith)
among answered (Err WriteFault) = inr (omega arith, omega arith)
among answered (Err NoMemory) = inr (omega arith, omega arith)

pub causes : {C A : Type 0} (p : Program C A) → IsExclusive p → (answered : A → ℕ) → ((answer : A) → answered answer < 2) → (ending : Result A Refusal) (status : ℕ) → status ≡ status_of answered ending
    → (command : Option C) (left rest held now : Option (List ℕ)) (read read_now wrote wrote_now : ℕ)
    → Ends p ending command left rest held now → RoseFor ReadFault ending read read_now → RoseFor WriteFault ending wrote wrote_now
    → HasCauses p answered status command left rest held now read read_now wrote wrote_now
causes p exclusive answered low ending status is command left rest held now read read_now wrote wrote_now h fr fw =
    subst (λ (n : ℕ). HasCauses p answered n command left rest held now read read_now wrote wrote_now) (sym is) (record {
      among = among answered ending;
      done = λ a. done p answered low left rest held now ending command h (below answered low (status_of answered ending) a);
      usage = usage p answered low left rest held now ending command h;
      usage_only = usage_only p answered low left rest held now ending command h;
      faulty = faulty p answered low left rest held now ending command h;
      refused = λ fault own f. refused p exclusive answered ending command left rest held now fault h own f;
      complete = complete p answered ending command left rest held now read read_now wrote wrote_now h fr fw;
      stopped = stopped p answered low left rest held now ending command h;
      unchanged = λ undone. unchanged p answered low left rest held now ending command h (λ answer e. undone (answer, e));
      read_fault = read_fault p answered low left rest held now read read_now ending fr;
      no_read_fault = no_read_fault p answered low left rest held now read read_now ending fr;
      write_fault = write_fault p answered low left rest held now wrote wrote_now ending fw;
      no_write_fault = no_write_fault p answered low left rest held now wrote wrote_now ending fw;
    })
