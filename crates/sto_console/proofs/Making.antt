-- A call whose text was not made or not written is refused, and only what failed has failed.
use Rattle.std.proofs.Common.{◌≡◌, ℕ, List, refl, Option, Some, Err}
use Rattle.sto_console.specs.declared.refusal.Refusal.{Refusal}
use Rattle.sto_console.specs.declared.refusal.Refusal.TheVariants.{Usage, Input, ReadFault, WriteFault, NoMemory}
use Rattle.sto_console.specs.Programs.{Program}
use Rattle.sto_console.specs.Ends.{Made, Unmade, IsWritten, Refused, RoseBy}

pub refused_making : {C A : Type 0} (p : Program C A) (e : Refusal) (command : C) (left rest held : Option (List ℕ)) → Unmade p e command left rest
    → Refused p e (Some command) left rest held held
refused_making p (Input fault) command left rest held h = (h, refl)
refused_making p ReadFault command left rest held h = (h, refl)
refused_making p NoMemory command left rest held h = refl
refused_making p Usage command left rest held h = absurd h
refused_making p WriteFault command left rest held h = absurd h

pub refused_writing : {C A : Type 0} (p : Program C A) (e : Refusal) (command : C) (answer : A) (left rest held now : Option (List ℕ)) (text : List ℕ)
    → Made p command answer left rest text → IsWritten (Err e) text held now → Refused p e (Some command) left rest held now
refused_writing p WriteFault command answer left rest held now text m h = record { answer = answer; text = text; count = h.0; made = m; gained = h.1 }
refused_writing p (Input fault) command answer left rest held now text m h = absurd h
refused_writing p ReadFault command answer left rest held now text m h = absurd h
refused_writing p NoMemory command answer left rest held now text m h = absurd h
refused_writing p Usage command answer left rest held now text m h = absurd h

-- making a text does not touch the output
pub unwritten : {C A : Type 0} (p : Program C A) (e : Refusal) (command : C) (left rest : Option (List ℕ)) (count : ℕ) → Unmade p e command left rest
    → RoseBy WriteFault e count count
unwritten p (Input fault) command left rest count h = refl
unwritten p ReadFault command left rest count h = refl
unwritten p NoMemory command left rest count h = refl
unwritten p Usage command left rest count h = absurd h
unwritten p WriteFault command left rest count h = absurd h

-- writing does not touch the source
pub unread : (e : Refusal) (text : List ℕ) (held now : Option (List ℕ)) (old new : ℕ) → IsWritten (Err e) text held now → new ≡ old
    → RoseBy ReadFault e old new
unread WriteFault text held now old new h same = same
unread (Input fault) text held now old new h same = absurd h
unread ReadFault text held now old new h same = absurd h
unread NoMemory text held now old new h same = absurd h
unread Usage text held now old new h same = absurd h
