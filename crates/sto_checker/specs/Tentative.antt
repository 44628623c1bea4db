-- A body that cancels where another commits.
use Rattle.sto_model.specs.declared.body.Next.{Next}
use Rattle.sto_model.specs.declared.body.Next.TheVariants.{Ask, Commit, Cancel}

-- it asks what the other asks, and ends with a cancel
abbrev pub uncommitted : Next → Next
uncommitted (Ask call) = Ask call
uncommitted Commit = Cancel
uncommitted Cancel = Cancel
