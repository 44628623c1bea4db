-- The canonical text of the generated file reads as that file.
use Rattle.std.proofs.Common.{◌≡◌, ◌∙◌, ℕ, refl, inl, Ok}
use Rattle.sto_syntax.specs.Lines.{lines_of}
use Rattle.sto_lang.specs.Drafts.{opening}
use Rattle.sto_lang.specs.Files.{with_lines, IsFile, file_of}
use Rattle.sto_write.specs.Texts.{body_lines, text_of}
use Rattle.sto_write.proofs.WrittenText.{text_says}
use Rattle.sto_write.proofs.ReadBack.{reads_back}
use Rattle.sto_gen.specs.Generated.{file_of as generated}
use Rattle.sto_gen.proofs.SaidLines.{file_said}
use Rattle.sto_gen.proofs.GoodLines.{file_good}
use Rattle.sto_gen.proofs.Lengths.{text_length}

lines_read : (n : ℕ) → with_lines opening 1 (lines_of (text_of (generated n))) ≡ Ok (generated n)
lines_read n = text_says 1 (inl refl) (body_lines (generated n)) (file_good n) ∙ file_said n

-- the generated file is one that can be read
pub generated_is_file : (n : ℕ) → IsFile (generated n)
generated_is_file n = record { bytes = text_of (generated n); reads = lines_read n }

-- its text reads as it
pub generated_reads_back : (n : ℕ) → file_of (text_of (generated n)) ≡ Ok (generated n)
generated_reads_back n = reads_back (generated n) (generated_is_file n) (text_length n)
