use Rattle.std.proofs.Common.{[], ◌∷◌, subst, append-nil}
use Rattle.std.specs.Str.{IsAscii}
use Rattle.sto_lang.specs.Views.{declaration}
use Rattle.sto_report_spec.specs.Report.{object_text}
use Rattle.sto_report_spec.proofs.Naming.{objects_ascii}
use Rattle.sto_draw.proofs.name.object_line.Goals as goal

pub without_end-requires : goal.without_end-requires
without_end-requires c =
    let ascii = objects_ascii c.args.state.now.items (declaration c.args.decl.now ∷ []) (c.requires.name, tt) in
    rw (c.as_str.ensures.value, c.in-Ok.ensures, c.new-line.ensures.bytes)
    (subst IsAscii (append-nil (object_text c.args.state.now.items (declaration c.args.decl.now))) ascii)
