-- An attempt that rests without the borrow of its type.
use denote.Bor.{Bor}
use Rattle.sto_attempt.specs.declared.attempt.Attempt.{Attempt}
use Rattle.sto_attempt.specs.declared.pause.Paused.{Paused}

-- the attempt that it is on a type
abbrev pub with_type : {T B : Type 0} → Bor T → Paused B → Attempt T B
with_type ty p = record { log = record { ty = ty; body = p.body; table = p.table }; at = p.at; read_phase = p.read_phase }
