-- What a sound file and its store give a run.
use Rattle.std.specs.Prelude.{map}
use Rattle.std.proofs.Common.{◌≤◌, List}
use Rattle.sto_model.specs.declared.shape.Shape.{Shape}
use Rattle.sto_lang.specs.Objects.{shapes_of}
use Rattle.sto_lang.specs.Scripts.{File}
use Rattle.sto_lang.specs.Sound.{IsSoundScript, IsSound}
use Rattle.sto_lang.proofs.SoundFiles.{calls_within}
use Rattle.sto_type.specs.Meaning.{IsLawful}
use Rattle.sto_store.specs.Stores.{means, AreInOrder}
use Rattle.sto_store.specs.StoresLaw.{machines_are, has_parts}
use Rattle.sto_serializability.specs.Meanings.{IsTypeOf}
use Rattle.sto_serializability.proofs.Usable.{sound_script}
use Rattle.sto_run.specs.Runnable.{AreRunnable}
use Rattle.sto_run.proofs.Ordered.{is_in_order}
use Rattle.sto_run.proofs.Homes.{homes_are}

pub sound_in_order : (file : File) → AreInOrder (shapes_of file.declarations)
sound_in_order file = is_in_order (map (λ d. d.shape) file.declarations)

-- each transaction can be run
pub sound_runnable : (file : File) → IsSound file → AreRunnable file
sound_runnable file sound place script there =
    let s : IsSoundScript (shapes_of file.declarations) script = sound_script file sound place script there in
    record { weighed = calls_within (shapes_of file.declarations) script s; light = s.light; taken = s.taken }

-- what shapes in order mean is their type, where it is lawful
pub is_type_of : (shapes : List Shape) → AreInOrder shapes → IsLawful (means shapes) → IsTypeOf shapes (means shapes)
is_type_of shapes order law = record {
  lawful = law;
  machines = machines_are shapes order;
  homes = homes_are shapes (means shapes) (has_parts shapes order);
}
