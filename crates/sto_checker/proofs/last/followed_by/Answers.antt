use Rattle.std.proofs.Common.{subst}
use Rattle.sto_checker.specs.Last.{IsLastOf}
use Rattle.sto_checker.proofs.Order.{first_some}
use Rattle.sto_checker.proofs.last.followed_by.Goals as goal

pub returns-in-Some : goal.returns-in-Some
returns-in-Some c = λ before a h p s n. c.behind.ensures before a (subst (IsLastOf c.args.tries before) c.in-Some.is h) p s n

pub returns-in-None : goal.returns-in-None
returns-in-None c = λ before a h p s n. first_some before a c.args.at c.args.known c.args.tries c.requires (subst (IsLastOf c.args.tries before) c.in-None.is h) p n
