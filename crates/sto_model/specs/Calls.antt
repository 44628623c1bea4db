-- Calls, by their operations.
use Rattle.std.specs.Prelude.{ℕ, ℤ, pos}
use Rattle.sto_model.specs.declared.call.Call.{Call}
use Rattle.sto_model.specs.declared.operation.Operation.{Operation}

-- the call of an operation of the object with a number, with two numbers of its own
abbrev pub call_of : ℕ → Operation → ℤ → ℤ → Call
call_of object operation a b = record { object = object; operation = operation; a = a; b = b; c = pos 0 }

-- the call with a third number
abbrev pub with_third : Call → ℤ → Call
with_third call c = record call { c = c }
