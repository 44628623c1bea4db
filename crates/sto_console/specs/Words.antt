-- How a call ends whose words cannot be read.
use Rattle.sto_console.specs.declared.words.WordsError.{WordsError}
use Rattle.sto_console.specs.declared.words.WordsError.TheVariants as faults
use Rattle.sto_console.specs.declared.refusal.Refusal.{Refusal}
use Rattle.sto_console.specs.declared.refusal.Refusal.TheVariants.{Usage, NoMemory}

-- a word that is not UTF-8 is in no grammar
abbrev pub refusal_of : WordsError → Refusal
refusal_of faults.NotText = Usage
refusal_of faults.NoMemory = NoMemory
