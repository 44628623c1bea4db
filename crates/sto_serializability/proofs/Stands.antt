-- The records of a finished run of a file stand in the history of its words: one view has the whole of it.
use Rattle.std.specs.Prelude.{◌↔◌}
use Rattle.std.proofs.Common.{◌≡◌, ℕ, List, length, Bool, Some}
use mathlib.Core.Option.{some}
use lib.ListN.{get_elem?}
use Rattle.sto_lang.specs.Scripts.{Script, File}
use Rattle.sto_script.specs.Meaning.{meaning_of}
use Rattle.sto_type.specs.Known.{Parts}
use Rattle.sto_type.specs.Meaning.{Meaning}
use Rattle.sto_core.specs.declared.view.View.{View}
use Rattle.sto_core.specs.History.{Contents, Validity}
use Rattle.sto_core.specs.Core.{Core}
use Rattle.sto_core.specs.Rule.{Past, Rule}
use Rattle.sto_report_spec.specs.Orders.{transaction_at}
use Rattle.sto_history.specs.Records.{Record, times_written}
use Rattle.sto_history.specs.Counted.{times_committed}
use Rattle.sto_history.proofs.Histories.{StandsAt}
use Rattle.sto_history.proofs.Standing as standing
use Rattle.sto_serializability.specs.Finished.{IsRecord}

-- a record of a transaction of the file
pub record Stands (m : Meaning) (file : File) (clock : ℕ) (contents : ℕ → Parts) (wrote : ℕ → ℕ → Bool) (all : List Record) (r : Record) : Type 0 where
  pub script : Script
  pub transaction : transaction_at file r.place ≡ Some script
  pub at : StandsAt m clock contents wrote all (meaning_of script) r.replies r.verdict

module _ {valid : Validity} {sizes : List ℕ} {opening : Contents} {past : Past} {core : Core} (rule : Rule valid sizes opening past core)
    (i : ℕ) (v : View) (seat : get_elem? core.views i ≡ some v) (whole : v.gathered ≡ length core.statuses)
    (m : Meaning) (same_valid : (c : Parts) → m.valid c ↔ valid sizes c) (same_opening : m.opened ≡ opening)
    (rs : List Record) (tickets : (t : ℕ) → times_written t rs ≡ times_committed t v.entries) where
  pub record_stands : (file : File) (r : Record) → IsRecord m file v r
      → Stands m file core.clock (standing.contents_at rule i v seat whole m same_valid same_opening rs tickets) (standing.wrote_at rule i v seat whole m same_valid same_opening rs tickets) rs r
  record_stands file r h = record {
    script = h.script;
    transaction = h.transaction;
    at = standing.told_stands rule i v seat whole m same_valid same_opening rs tickets (meaning_of h.script) r.replies r.verdict h.told;
  }
