-- What the headline asks of the words of a run and of the records of its attempts, all together.
use Rattle.std.specs.Prelude.{ℕ, ◌<◌, ◌^◌, List, length}
use Rattle.sto_lang.specs.Objects.{shapes_of}
use Rattle.sto_lang.specs.Scripts.{File}
use Rattle.sto_type.specs.Meaning.{Meaning}
use Rattle.sto_core.specs.declared.view.View.{View}
use Rattle.sto_core.specs.History.{Contents, Validity}
use Rattle.sto_core.specs.Core.{Core}
use Rattle.sto_core.specs.Rule.{Past}
use Rattle.sto_history.specs.Records.{Record}
use Rattle.sto_serializability.specs.Finished.{AreFinished}
use Rattle.sto_serializability.specs.Merged.{AreMerged}
use Rattle.sto_serializability.specs.Meanings.{IsTypeOf, IsUsable}
use Rattle.sto_serializability.specs.Headline.{AreShortRecords}
use Rattle.sto_serializability.proofs.Journal.{IsClosed}

-- m is what the type of the file's objects says; v is the view that has gathered all others; ordered are the records that ended
pub record Premises (valid : Validity) (sizes : List ℕ) (opening : Contents) (m : Meaning) (file : File) (tries : ℕ) (core : Core) (v : View)
    (rs ordered : List Record) : Type 0 where
  pub usable : IsUsable file
  pub type_of : IsTypeOf (shapes_of file.declarations) m
  pub past : Past
  pub closed : IsClosed valid sizes opening past core v m
  pub finished : AreFinished m file tries v rs
  pub merged : AreMerged rs ordered
  pub short : AreShortRecords rs
  pub few_parts : length m.homes < 2 ^ 64
