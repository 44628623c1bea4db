-- Which objects the calls of writer runs wrote.
use Rattle.std.specs.Prelude.{ℕ, List, [], ◌∷◌, if◌then◌else◌, Option, None, Some}
use Rattle.sto_model.specs.PlainReplies.{PlainReply, is_write}
use Rattle.sto_model.specs.Run.{Behaviour, State}
use Rattle.sto_model.specs.Serial.{SerialRun}
use Rattle.sto_model.specs.declared.body.Next.{Next}
use Rattle.sto_model.specs.declared.body.Next.TheVariants.{Ask, Commit, Cancel}
use Rattle.sto_lang.specs.Scripts.{Script, File}
use Rattle.sto_script.specs.Meaning.{meaning_of}
use Rattle.sto_report_spec.specs.Orders.{TransactionPlace, transaction_at}
use Rattle.sto_report_spec.specs.Replay.{run_at, is_writer, opening_state}

-- the object of what is done next where that is a call that wrote something, before those of the calls after it; a body that
-- ended calls nothing more
abbrev pub onto_objects : Next → PlainReply → List ℕ → List ℕ
onto_objects (Ask call) reply others = if is_write call.operation reply then call.object ∷ others else others
onto_objects Commit reply others = []
onto_objects Cancel reply others = []

-- the objects of the calls that wrote something, along replies
abbrev pub objects_along : Behaviour → List PlainReply → List ℕ
objects_along steps [] = []
objects_along steps (reply ∷ replies) = onto_objects (steps []) reply (objects_along (λ others. steps (reply ∷ others)) replies)

-- those of a run of a transaction
abbrev pub objects_in : Option Script → SerialRun → List ℕ
objects_in None run = []
objects_in (Some script) run = objects_along (meaning_of script) run.replies

-- those of each writer run, where transactions are run from a state on
abbrev pub written_from : File → State → List TransactionPlace → List (List ℕ)
written_from file state [] = []
written_from file state (place ∷ order) =
    if is_writer (transaction_at file place) (run_at file state place)
    then objects_in (transaction_at file place) (run_at file state place) ∷ written_from file (run_at file state place).after order
    else written_from file (run_at file state place).after order

-- those of each writer run of a replay, the first one first
abbrev pub written_of : File → List TransactionPlace → List (List ℕ)
written_of file order = written_from file (opening_state file) order
