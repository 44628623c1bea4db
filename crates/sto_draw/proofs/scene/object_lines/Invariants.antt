use Rattle.std.proofs.Common.{◌≡◌, take, length, map}
use Rattle.sto_lang.specs.Views.{declaration}
use Rattle.sto_report_spec.specs.Report.{object_text}
use Rattle.sto_picture.specs.Views.{bytes_of}
use Rattle.sto_draw.specs.Scenes.{without_end}
use Rattle.sto_draw.proofs.scene.object_lines.Given as goal

abbrev pub invariant-loop-decl : goal.invariant-loop-decl
invariant-loop-decl l =
    (bytes_of l.lines.items ≡ map (λ d. without_end (object_text l.state.items d)) (map declaration (take l.decl-index l.decls))) × (length l.lines.items ≡ l.decl-index)
