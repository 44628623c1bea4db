use Rattle.std.proofs.Common.{◌≡◌, ℕ, Some, subst}
use Rattle.sto_type.specs.Known.{known}
use Rattle.sto_tree.proofs.needs.is_value_known.Goals as goal

pub returns : goal.returns
returns c t p = (c.in-Some._words.now, subst (λ (q : ℕ). known c.args.cache.now q ≡ Some c.in-Some._words.now) c.value_part.ensures c.in-Some.ensures)
