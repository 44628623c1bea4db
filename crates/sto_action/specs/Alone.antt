-- What code does where it is run alone on a state of the objects, computed.
use Rattle.std.specs.Prelude.{List, Option, Some, None}
use Rattle.sto_model.specs.SequentialObjects.{SequentialObject, reply_to, state_after}
use Rattle.sto_model.specs.Run.{State}
use Rattle.sto_action.specs.Shortened.{short_of}
use Rattle.sto_action.specs.Progs.{Prog, Asks, Gives, Cancels}

-- the value that it gives, with the state that it leaves; none where it gives the transaction up, which leaves the state as it was
abbrev pub run_of : {E A : Type 0} → List SequentialObject → Prog E A → State → Option (A × State)
run_of ms (Asks call k) st = run_of ms (k (short_of (reply_to ms call st))) (state_after ms call st)
run_of ms (Gives a) st = Some (a, st)
run_of ms (Cancels e) st = None

-- the reason for which it gives the transaction up; none where it gives a value
abbrev pub reason_of : {E A : Type 0} → List SequentialObject → Prog E A → State → Option E
reason_of ms (Asks call k) st = reason_of ms (k (short_of (reply_to ms call st))) (state_after ms call st)
reason_of ms (Gives a) st = None
reason_of ms (Cancels e) st = Some e
