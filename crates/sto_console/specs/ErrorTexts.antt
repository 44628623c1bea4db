-- How errors print themselves.
use Rattle.std.specs.Prelude.{ℕ, List, codes}
use Rattle.sto_console.specs.declared.words.WordsError.{WordsError}
use Rattle.sto_console.specs.declared.words.WordsError.TheVariants as words_error
use Rattle.sto_console.specs.declared.whole.ReadAllError.{ReadAllError}
use Rattle.sto_console.specs.declared.whole.ReadAllError.TheVariants as read_all_error

abbrev pub words_error_text : WordsError → List ℕ
words_error_text words_error.NotText = codes "a word is no text"
words_error_text words_error.NoMemory = codes "out of memory"

abbrev pub read_all_error_text : ReadAllError → List ℕ
read_all_error_text read_all_error.Fault = codes "the input cannot be read"
read_all_error_text read_all_error.NoMemory = codes "out of memory"
