use Rattle.std.proofs.Common.{ℕ, true, sym, subst, ◌∙◌}
use Rattle.sto_core.specs.Event.{Decide}
use Rattle.sto_core.specs.Core.{Core}
use Rattle.sto_core.specs.Allowed.{Allowed}
use Rattle.sto_plain.specs.Passes.{view_of}
use Rattle.sto_test_scenes.specs.Scenes.{always}
use Rattle.sto_test_scenes.proofs.Scenes.{may_commit}
use Rattle.sto_test_scenes.proofs.committing.other_commits.Goals as goal

pub decide-requires : goal.decide-requires
decide-requires c =
    subst (λ (z : Core × ℕ). Allowed always (Decide true) (view_of z.0 z.1))
    (λ j. (sym (c.at-winner.ensures.plain ∙ c.requires) j, sym c.at-winner.ensures.pass j)) may_commit
