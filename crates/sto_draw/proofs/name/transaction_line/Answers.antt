use Rattle.std.proofs.Common.{[], ◌∷◌, subst, append-nil}
use Rattle.std.specs.Str.{IsAscii}
use Rattle.sto_lang.specs.Views.{names_of}
use Rattle.sto_report_spec.specs.Report.{line_text}
use Rattle.sto_report_spec.proofs.Naming.{entries_ascii}
use Rattle.sto_journal.specs.Journals.{entry}
use Rattle.sto_draw.proofs.name.transaction_line.Goals as goal

pub without_end-requires : goal.without_end-requires
without_end-requires c =
    let names = names_of c.args.threads.now in
    let ascii = entries_ascii names c.requires.names (entry c.args.line.now ∷ []) (c.in-Ok.ensures.short, tt) in
    rw (c.as_str.ensures.value, c.in-Ok.ensures.text, c.new-text.ensures.bytes)
    (subst IsAscii (append-nil (line_text names (entry c.args.line.now))) ascii)
