use Rattle.std.proofs.Common.{ap, sym, ◌∙◌}
use Rattle.std.specs.Option.{option_map}
use Rattle.sto_lang.specs.Views.{declaration}
use Rattle.sto_report_spec.specs.Aborts.{name_of}
use Rattle.sto_write.proofs.TextLemmas.{with_number_of}
use Rattle.sto_trace_text.proofs.names.object_name.Goals as goal

pub returns-in-Some : goal.returns-in-Some
returns-in-Some c =
    c.as_str.ensures.items ∙ sym (ap name_of (with_number_of c.args.number c.args.decls.now ∙ ap (option_map declaration) (sym c.in-Some.ensures)))

pub returns-in-None : goal.returns-in-None
returns-in-None c =
    sym (ap name_of (with_number_of c.args.number c.args.decls.now ∙ ap (option_map declaration) (sym c.in-None.ensures)))
