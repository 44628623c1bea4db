-- How many steps attempts take.
use Rattle.std.specs.Prelude.{◌≤◌, ◌+◌, ◌*◌, ℕ, length}
use Rattle.sto_type.specs.Meaning.{Meaning}
use Rattle.sto_core.specs.declared.view.View.{View}
use Rattle.sto_attempt_log.specs.Bounds.{bound, words_of}

-- the most steps of an attempt on a type, of a body that asks at most so many calls
abbrev pub most_steps : Meaning → ℕ → ℕ
most_steps m calls = bound calls (length m.widths) (words_of m.widths)

-- from the view v to the view w, each start was followed by at most so many steps, itself among them
abbrev pub KeepsPace : ℕ → View → View → Type 0
KeepsPace most v w = w.steps + v.starts * most ≤ v.steps + w.starts * most
