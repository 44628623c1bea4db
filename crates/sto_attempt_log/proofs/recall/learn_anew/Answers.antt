use Rattle.std.proofs.Common.{ℕ, ℤ, List, ap, inl, inr}
use Rattle.sto_type.specs.Known.{known}
use Rattle.sto_attempt_log.proofs.recall.learn_anew.Goals as goal

pub returns-then-branch : goal.returns-then-branch
returns-then-branch g c = inl (c.in_ok-recall.ensures.known c.if-branch.true)

pub returns : goal.returns
returns g c = inr (λ q. ap (λ (l : List (ℕ × List ℤ)). known l q) c.forget.ensures)
