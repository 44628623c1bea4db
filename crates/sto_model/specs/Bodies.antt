-- What the trait of a body says, whole, as `B.Body` has it in a clause.
use Rattle.sto_model.specs.declared.body.Body as body

-- of a body: its script, what it does next, how many calls it may still ask, and which
abbrev pub OfBody : Type 0 → Type 1
OfBody B = body.Ghosts B
