-- What a generated file that is not held in memory stands for.
use Rattle.std.specs.Prelude.{ℕ}
use Rattle.sto_lang.specs.Scripts.{File}
use Rattle.sto_gen.specs.Generated.{file_of}
use Rattle.sto_bench.specs.declared.file.GeneratedFile.{GeneratedFile}

-- the number that generates it
abbrev pub number_of : GeneratedFile → ℕ
number_of f = f.number

-- the file of that number
abbrev pub generated : GeneratedFile → File
generated f = file_of f.number
