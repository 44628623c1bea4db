use Rattle.std.proofs.Common.{◌∙◌, ap}
use Rattle.std.proofs.lemmas.Result.{IfOk-weaker}
use Rattle.sto_lang.specs.Objects.{shapes_of}
use Rattle.sto_bench.proofs.file.GeneratedFileWorkload.shapes.Goals as goal

pub returns : goal.returns
returns c = IfOk-weaker c.shapes.result _ _ (λ l e. e ∙ ap shapes_of c.in_ok-objects.ensures) c.shapes.ensures
