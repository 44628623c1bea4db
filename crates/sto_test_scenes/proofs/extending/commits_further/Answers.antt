use Rattle.std.proofs.Common.{ℕ, true, sym, subst, ◌∙◌}
use Rattle.sto_core.specs.Event.{Decide}
use Rattle.sto_core.specs.Core.{Core}
use Rattle.sto_core.specs.Allowed.{Allowed}
use Rattle.sto_plain.specs.Passes.{view_of}
use Rattle.sto_test_scenes.specs.Scenes.{always}
use Rattle.sto_test_scenes.proofs.Scenes.{may_write}
use Rattle.sto_test_scenes.proofs.extending.commits_further.Goals as goal

pub decide-requires : goal.decide-requires
decide-requires c =
    subst (λ (z : Core × ℕ). Allowed always (Decide true) (view_of z.0 z.1))
    (λ j. (sym (c.at-pass.ensures.plain ∙ c.requires) j, sym c.at-pass.ensures.pass j)) may_write
