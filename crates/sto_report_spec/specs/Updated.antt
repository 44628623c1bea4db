-- Which parts the writer runs of a replay update. What a call updates, the types of objects say.
use Rattle.std.specs.Prelude.{ℕ, zero, suc, ℤ, List, [], ◌∷◌, ◌++◌, if◌then◌else◌, Option, None, Some}
use Rattle.sto_model.specs.PlainReplies.{PlainReply}
use Rattle.sto_model.specs.Run.{Behaviour, State}
use Rattle.sto_model.specs.declared.call.Call.{Call}
use Rattle.sto_model.specs.declared.body.Next.{Next}
use Rattle.sto_model.specs.declared.body.Next.TheVariants.{Ask, Commit, Cancel}
use Rattle.sto_model.specs.declared.shape.Shape.{Shape}
use Rattle.sto_lang.specs.Objects.{shapes_of}
use Rattle.sto_lang.specs.Scripts.{Script, File}
use Rattle.sto_script.specs.Meaning.{meaning_of}
use Rattle.sto_report_spec.specs.Orders.{TransactionPlace, transaction_at}
use Rattle.sto_report_spec.specs.Replay.{run_at, is_writer, opening_state}

-- the words of each part of all objects, which are numbered through in the order of objects
abbrev pub Contents : Type 0
Contents = List (List ℤ)

-- what the types say of objects of some shapes: their contents at the opening, the parts that the updates of a call on
-- contents name, the contents after these updates, and whether a call may touch a part: need, observe or update it
pub record Updating : Type 1 where
  pub opening : List Shape → Contents
  pub parts : List Shape → Call → Contents → List ℕ
  pub after : List Shape → Call → Contents → Contents
  pub touches : List Shape → ℕ → Call → Type 0

-- the parts that a run has updated so far, and the contents then
pub record Updates : Type 0 where
  pub parts : List ℕ
  pub contents : Contents

-- with the updates of what is done next
abbrev pub with_next : Updating → List Shape → Next → Updates → Updates
with_next u shapes (Ask call) done = record { parts = done.parts ++ u.parts shapes call done.contents; contents = u.after shapes call done.contents }
with_next u shapes Commit done = done
with_next u shapes Cancel done = done

-- with the updates of the calls that these replies answer
abbrev pub updates_along : Updating → List Shape → Behaviour → List PlainReply → Updates → Updates
updates_along u shapes steps [] done = done
updates_along u shapes steps (reply ∷ replies) done =
    updates_along u shapes (λ others. steps (reply ∷ others)) replies (with_next u shapes (steps []) done)

-- what a run of a transaction updates on contents
abbrev pub updates_in : Updating → List Shape → Option Script → List PlainReply → Contents → Updates
updates_in u shapes None replies contents = record { parts = []; contents = contents }
updates_in u shapes (Some script) replies contents = updates_along u shapes (meaning_of script) replies (record { parts = []; contents = contents })

-- what the run of the transaction at a place updates
abbrev pub updates_at : Updating → File → State → Contents → TransactionPlace → Updates
updates_at u file state contents place = updates_in u (shapes_of file.declarations) (transaction_at file place) (run_at file state place).replies contents

-- the parts of this writer where none comes earlier, else those of a later one
abbrev pub at_writer : ℕ → List ℕ → (ℕ → List ℕ) → List ℕ
at_writer zero here others = here
at_writer (suc more) here others = others (suc more)

-- the parts that the writer run with this number, from 1, updates; there are none where there is no such run
abbrev pub updated_from : Updating → File → State → Contents → List TransactionPlace → ℕ → List ℕ
updated_from u file state contents [] number = []
updated_from u file state contents (place ∷ order) zero = []
updated_from u file state contents (place ∷ order) (suc earlier) =
    if is_writer (transaction_at file place) (run_at file state place)
    then at_writer earlier (updates_at u file state contents place).parts (updated_from u file (run_at file state place).after (updates_at u file state contents place).contents order)
    else updated_from u file (run_at file state place).after contents order (suc earlier)

-- the parts that the writer run with this number in a replay updates
abbrev pub updated : Updating → File → List TransactionPlace → ℕ → List ℕ
updated u file order number = updated_from u file (opening_state file) (u.opening (shapes_of file.declarations)) order number
