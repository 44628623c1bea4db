use Rattle.std.proofs.Common.{map, sym, subst, ◌∙◌}
use Rattle.std.specs.Str.{IsAscii}
use Rattle.std.proofs.lemmas.Result.{IfOk-weaker}
use Rattle.sto_lang.specs.Views.{file as view}
use Rattle.sto_journal.specs.Journals.{home_pair}
use Rattle.sto_trace_text.specs.Texts.{Names}
use Rattle.sto_cli.proofs.Lines.{lines_ascii}
use Rattle.sto_cli.proofs.traced.text_of.Goals as goal

pub of_string-requires : goal.of_string-requires
of_string-requires c =
    let names : Names = record { file = view c.args.file.now; homes = map home_pair c.args.homes.now } in
    subst IsAscii (sym c.in_ok-text.ensures) (lines_ascii c.args.json names c.args.steps.now c.requires)

pub returns : goal.returns
returns c = IfOk-weaker c.of_string.result _ _ (λ text is. is ∙ c.in_ok-text.ensures) c.of_string.ensures
