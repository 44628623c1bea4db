-- Records of the code as plain data.
use Rattle.std.specs.Prelude.{List, Vec, map}
use Rattle.sto_history.specs.Records as plainly
use Rattle.sto_transaction.specs.declared.record.Record.{Record}
use Rattle.sto_transaction.specs.Plain.{plain}

-- what they tell
abbrev pub told_in : {A : Type 0} → Vec Record A → List plainly.Record
told_in records = map plain records.items
