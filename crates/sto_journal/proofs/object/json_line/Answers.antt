use Rattle.std.proofs.Common.{ℕ, List, ◌++◌, ap, ◌∙◌, map, codes}
use Rattle.serde_json.specs.Written.{has_float, compact_text}
use Rattle.sto_lang.specs.Views.{declaration, names_of}
use Rattle.sto_report_spec.proofs.NamingJson.{whole_no_float}
use Rattle.sto_journal.specs.Journals.{entry, abort}
use Rattle.sto_journal.proofs.object.json_line.Goals as goal

pub returns-clause-text : goal.returns-clause-text
returns-clause-text c =
    let value = c.in_ok-value.ensures.value in
    let none = whole_no_float (names_of c.args.file.now.threads.items) (map declaration c.args.file.now.decls.items) (map entry c.args.journal.now.lines.items)
    (map (abort (map declaration c.args.file.now.decls.items)) c.args.journal.now.aborts.items) c.args.journal.now.state.items in
    c.in_ok-push_str.ensures.bytes ∙ ap (λ (l : List ℕ). l ++ codes "\n") (c.in_ok-line.ensures.text (ap has_float value ∙ none) ∙ ap compact_text value)
