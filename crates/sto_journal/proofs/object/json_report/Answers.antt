use Rattle.std.proofs.Common.{rules, map}
use Rattle.sto_lang.specs.Views.{declaration, names_of}
use Rattle.sto_report_spec.specs.Short.{AreShortEntries, AreShortAborts}
use Rattle.sto_report_spec.proofs.NamingJson.{json_names_order, json_names_aborts}
use Rattle.sto_report_spec.proofs.PlainJson.{json_ascii}
use Rattle.sto_journal.specs.Journals.{entry, abort}
use Rattle.sto_journal.proofs.Shorts.{entries_short, aborts_short}
use Rattle.sto_journal.proofs.object.json_report.Goals as goal

pub of_string-requires : goal.of_string-requires
of_string-requires c =
    let names = names_of c.args.file.now.threads.items in
    let ds = map declaration c.args.file.now.decls.items in
    let entries = map entry c.args.journal.now.lines.items in
    let aborts = map (abort (map declaration c.args.file.now.decls.items)) c.args.journal.now.aborts.items in
    let state = c.args.journal.now.state.items in
    let short = entries_short (names_of c.args.file.now.threads.items) c.args.journal.now.lines.items c.in-Ok.ensures.entries in
    let readable = aborts_short (names_of c.args.file.now.threads.items) (map declaration c.args.file.now.decls.items) c.args.journal.now.aborts.items c.in-Ok.ensures.aborts in
    rw c.in-Ok.ensures.text
    (json_ascii names c.requires.threads ds entries aborts state c.requires.names short readable)

pub returns-in-Ok-clause-order : goal.returns-in-Ok-clause-order
returns-in-Ok-clause-order c =
    let names = names_of c.args.file.now.threads.items in
    let ds = map declaration c.args.file.now.decls.items in
    let entries = map entry c.args.journal.now.lines.items in
    let aborts = map (abort (map declaration c.args.file.now.decls.items)) c.args.journal.now.aborts.items in
    let state = c.args.journal.now.state.items in
    let short = entries_short (names_of c.args.file.now.threads.items) c.args.journal.now.lines.items c.in-Ok.ensures.entries in
    let readable = aborts_short (names_of c.args.file.now.threads.items) (map declaration c.args.file.now.decls.items) c.args.journal.now.aborts.items c.in-Ok.ensures.aborts in
    let named = json_names_order names ds entries aborts state c.requires.threads short readable in
    search (rules, named, c.of_string.ensures, c.in-Ok.ensures.text)

pub returns-in-Ok-clause-aborts : goal.returns-in-Ok-clause-aborts
returns-in-Ok-clause-aborts c =
    let names = names_of c.args.file.now.threads.items in
    let ds = map declaration c.args.file.now.decls.items in
    let entries = map entry c.args.journal.now.lines.items in
    let aborts = map (abort (map declaration c.args.file.now.decls.items)) c.args.journal.now.aborts.items in
    let state = c.args.journal.now.state.items in
    let short = entries_short (names_of c.args.file.now.threads.items) c.args.journal.now.lines.items c.in-Ok.ensures.entries in
    let readable = aborts_short (names_of c.args.file.now.threads.items) (map declaration c.args.file.now.decls.items) c.args.journal.now.aborts.items c.in-Ok.ensures.aborts in
    let named = json_names_aborts names ds entries aborts state c.requires.threads short readable in
    search (rules, named, c.of_string.ensures, c.in-Ok.ensures.text)
