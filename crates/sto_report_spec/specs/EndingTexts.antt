-- The words of endings.
use Rattle.std.specs.Prelude.{ℕ, List, codes}
use Rattle.sto_report_spec.specs.declared.ending.Ending.{Ending}
use Rattle.sto_report_spec.specs.declared.ending.Ending.TheVariants.{Commit, Read, Cancel}

-- how an ending is told
abbrev pub ending_text : Ending → List ℕ
ending_text Commit = codes "commit"
ending_text Read = codes "read"
ending_text Cancel = codes "cancel"
