use Rattle.std.proofs.Common.{◌∙◌, ap}
use Rattle.sto_lang.specs.Files.{file_of}
use Rattle.sto_write.specs.Texts.{text_of}
use Rattle.sto_gen.proofs.ReadBack.{generated_reads_back}
use Rattle.sto_cli.proofs.answer.gen_text.Goals as goal

pub returns : goal.returns
returns c =
    let text = c.in_ok-text.ensures.text ∙ ap text_of c.in_ok-file.ensures.file in
    (text, ap file_of text ∙ generated_reads_back c.args.number)
