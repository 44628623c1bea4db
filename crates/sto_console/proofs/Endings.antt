-- What is said of a call is a way in which it ends.
use Rattle.std.proofs.Common.{◌≡◌, ℕ, List, inl, inr, sym, subst, Option, None, Some, Result, Ok, Err}
use Rattle.sto_console.specs.declared.refusal.InputFault.{InputFault}
use Rattle.sto_console.specs.declared.refusal.InputFault.TheVariants.{Script, NoReport, LongTrace, LongRun, ManySchedules, ManyStates, Schedule, Question}
use Rattle.sto_console.specs.declared.refusal.Refusal.{Refusal}
use Rattle.sto_console.specs.declared.refusal.Refusal.TheVariants.{Usage, Input, ReadFault, WriteFault, NoMemory}
use Rattle.sto_console.specs.Programs.{Program}
use Rattle.sto_console.specs.Ends.{Refused, Ends, RoseBy, RoseFor}
use Rattle.sto_console.specs.Statuses.{IsRefusedSo, EndsSo}

module _ {C A : Type 0} (p : Program C A) (command : Option C) (left rest held now : Option (List ℕ)) where
  -- a call that is refused for a fault has written nothing
  unwritten : (fault : InputFault) → Refused p (Input fault) command left rest held now → now ≡ held
  unwritten fault h = by command h
    where
      by : (c : Option C) → Refused p (Input fault) c left rest held now → now ≡ held
      by None h = absurd h
      by (Some c) h = h.1

  same : {refusal told : Refusal} → told ≡ refusal → Refused p refusal command left rest held now → Refused p told command left rest held now
  same e h = subst (λ (r : Refusal). Refused p r command left rest held now) (sym e) h

  refused_so : (refusal told : Refusal) → IsRefusedSo refusal told → Refused p refusal command left rest held now → Refused p told command left rest held now
  refused_so (Input (Script fault)) told (inl e) h = same {refusal = Input (Script fault)} e h
  refused_so (Input (Script fault)) told (inr e) h = same {refusal = NoMemory} e (unwritten (Script fault) h)
  refused_so (Input NoReport) told e h = same {refusal = Input NoReport} e h
  refused_so (Input LongTrace) told e h = same {refusal = Input LongTrace} e h
  refused_so (Input LongRun) told e h = same {refusal = Input LongRun} e h
  refused_so (Input (ManySchedules counts)) told (inl e) h = same {refusal = Input (ManySchedules counts)} e h
  refused_so (Input (ManyStates count)) told (inl e) h = same {refusal = Input (ManyStates count)} e h
  refused_so (Input (Schedule kind)) told (inl e) h = same {refusal = Input (Schedule kind)} e h
  refused_so (Input (Question fault)) told (inl e) h = same {refusal = Input (Question fault)} e h
  refused_so (Input (ManySchedules counts)) told (inr e) h = same {refusal = NoMemory} e (unwritten (ManySchedules counts) h)
  refused_so (Input (ManyStates count)) told (inr e) h = same {refusal = NoMemory} e (unwritten (ManyStates count) h)
  refused_so (Input (Schedule kind)) told (inr e) h = same {refusal = NoMemory} e (unwritten (Schedule kind) h)
  refused_so (Input (Question fault)) told (inr e) h = same {refusal = NoMemory} e (unwritten (Question fault) h)
  refused_so Usage told e h = same {refusal = Usage} e h
  refused_so ReadFault told e h = same {refusal = ReadFault} e h
  refused_so WriteFault told e h = same {refusal = WriteFault} e h
  refused_so NoMemory told e h = same {refusal = NoMemory} e h

  -- what is said of a call is a way in which it ends
  pub ended : (outcome ending : Result A Refusal) → EndsSo outcome ending → Ends p outcome command left rest held now → Ends p ending command left rest held now
  ended (Ok answer) ending e h = subst (λ (o : Result A Refusal). Ends p o command left rest held now) (sym e) h
  ended (Err refusal) ending e h = subst (λ (o : Result A Refusal). Ends p o command left rest held now) (sym e.2) (refused_so refusal e.0 e.1 h)

-- the counts of faults tell of what is said as of what happened
module _ (old new : ℕ) where
  same_read : {refusal told : Refusal} → told ≡ refusal → RoseBy ReadFault refusal old new → RoseBy ReadFault told old new
  same_read e h = subst (λ (r : Refusal). RoseBy ReadFault r old new) (sym e) h

  read_refused : (refusal told : Refusal) → IsRefusedSo refusal told → RoseBy ReadFault refusal old new → RoseBy ReadFault told old new
  read_refused (Input (Script fault)) told (inl e) h = same_read {refusal = Input (Script fault)} e h
  read_refused (Input (Script fault)) told (inr e) h = same_read {refusal = NoMemory} e h
  read_refused (Input NoReport) told e h = same_read {refusal = Input NoReport} e h
  read_refused (Input LongTrace) told e h = same_read {refusal = Input LongTrace} e h
  read_refused (Input LongRun) told e h = same_read {refusal = Input LongRun} e h
  read_refused (Input (ManySchedules counts)) told (inl e) h = same_read {refusal = Input (ManySchedules counts)} e h
  read_refused (Input (ManyStates count)) told (inl e) h = same_read {refusal = Input (ManyStates count)} e h
  read_refused (Input (Schedule kind)) told (inl e) h = same_read {refusal = Input (Schedule kind)} e h
  read_refused (Input (Question fault)) told (inl e) h = same_read {refusal = Input (Question fault)} e h
  read_refused (Input (ManySchedules counts)) told (inr e) h = same_read {refusal = NoMemory} e h
  read_refused (Input (ManyStates count)) told (inr e) h = same_read {refusal = NoMemory} e h
  read_refused (Input (Schedule kind)) told (inr e) h = same_read {refusal = NoMemory} e h
  read_refused (Input (Question fault)) told (inr e) h = same_read {refusal = NoMemory} e h
  read_refused Usage told e h = same_read {refusal = Usage} e h
  read_refused ReadFault told e h = same_read {refusal = ReadFault} e h
  read_refused WriteFault told e h = same_read {refusal = WriteFault} e h
  read_refused NoMemory told e h = same_read {refusal = NoMemory} e h

  pub read_so : {A : Type 0} (outcome ending : Result A Refusal) → EndsSo outcome ending → RoseFor ReadFault outcome old new → RoseFor ReadFault ending old new
  read_so {A = A} (Ok answer) ending e h = subst (λ (o : Result A Refusal). RoseFor ReadFault o old new) (sym e) h
  read_so {A = A} (Err refusal) ending e h = subst (λ (o : Result A Refusal). RoseFor ReadFault o old new) (sym e.2) (read_refused refusal e.0 e.1 h)

  same_write : {refusal told : Refusal} → told ≡ refusal → RoseBy WriteFault refusal old new → RoseBy WriteFault told old new
  same_write e h = subst (λ (r : Refusal). RoseBy WriteFault r old new) (sym e) h

  write_refused : (refusal told : Refusal) → IsRefusedSo refusal told → RoseBy WriteFault refusal old new → RoseBy WriteFault told old new
  write_refused (Input (Script fault)) told (inl e) h = same_write {refusal = Input (Script fault)} e h
  write_refused (Input (Script fault)) told (inr e) h = same_write {refusal = NoMemory} e h
  write_refused (Input NoReport) told e h = same_write {refusal = Input NoReport} e h
  write_refused (Input LongTrace) told e h = same_write {refusal = Input LongTrace} e h
  write_refused (Input LongRun) told e h = same_write {refusal = Input LongRun} e h
  write_refused (Input (ManySchedules counts)) told (inl e) h = same_write {refusal = Input (ManySchedules counts)} e h
  write_refused (Input (ManyStates count)) told (inl e) h = same_write {refusal = Input (ManyStates count)} e h
  write_refused (Input (Schedule kind)) told (inl e) h = same_write {refusal = Input (Schedule kind)} e h
  write_refused (Input (Question fault)) told (inl e) h = same_write {refusal = Input (Question fault)} e h
  write_refused (Input (ManySchedules counts)) told (inr e) h = same_write {refusal = NoMemory} e h
  write_refused (Input (ManyStates count)) told (inr e) h = same_write {refusal = NoMemory} e h
  write_refused (Input (Schedule kind)) told (inr e) h = same_write {refusal = NoMemory} e h
  write_refused (Input (Question fault)) told (inr e) h = same_write {refusal = NoMemory} e h
  write_refused Usage told e h = same_write {refusal = Usage} e h
  write_refused ReadFault told e h = same_write {refusal = ReadFault} e h
  write_refused WriteFault told e h = same_write {refusal = WriteFault} e h
  write_refused NoMemory told e h = same_write {refusal = NoMemory} e h

  pub write_so : {A : Type 0} (outcome ending : Result A Refusal) → EndsSo outcome ending → RoseFor WriteFault outcome old new → RoseFor WriteFault ending old new
  write_so {A = A} (Ok answer) ending e h = subst (λ (o : Result A Refusal). RoseFor WriteFault o old new) (sym e) h
  write_so {A = A} (Err refusal) ending e h = subst (λ (o : Result A Refusal). RoseFor WriteFault o old new) (sym e.2) (write_refused refusal e.0 e.1 h)
