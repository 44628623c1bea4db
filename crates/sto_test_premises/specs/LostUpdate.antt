-- A run of the two transactions in which the first to read loses: every event, the words and the view that it leaves, and its records.
use Rattle.std.specs.Prelude.{pos, List, [], ◌∷◌, ◌++◌, codes}
use Rattle.sto_report_spec.specs.Orders.{TransactionPlace}
use Rattle.sto_report_spec.specs.Aborts.{Abort}
use Rattle.sto_report_spec.specs.Aborts as aborts
use Rattle.sto_core.specs.declared.view.View.{View}
use Rattle.sto_core.specs.Core.{Core}
use Rattle.sto_core.specs.Gathered.{gathered_into, core_gathered}
use Rattle.sto_history.specs.Records.{Record, Wrote, Changed}
use Rattle.sto_test_premises.specs.Turns.{Turn, view_at, after_turns}
use Rattle.sto_test_premises.specs.Adding.{opened, heard, reads, locks, draws, drops, adds, by}

-- the pass at seat 0 reads 0; that at seat 1 reads 0 and commits 1 with ticket 1
abbrev pub first_turns : List Turn
first_turns = by 0 reads ++ by 1 (adds (pos 1))

-- the pass at seat 0 draws ticket 2, finds ticket 1, and drops its own
abbrev pub second_turns : List Turn
second_turns = by 0 (locks ++ (draws (pos 1) ++ drops))

-- in its second attempt it reads 1, and commits 2 with ticket 3
abbrev pub third_turns : List Turn
third_turns = by 0 (adds (pos 2))

abbrev pub first_core : Core
first_core = after_turns first_turns opened

abbrev pub second_core : Core
second_core = after_turns second_turns first_core

abbrev pub third_core : Core
third_core = after_turns third_turns second_core

-- the words at the end, and the pass that has gathered the other
abbrev pub closed : Core
closed = core_gathered third_core 0 (view_at third_core 0) 1 (view_at third_core 1)

abbrev pub view : View
view = gathered_into (view_at third_core 0) (view_at third_core 1)

-- what the three attempts tell: those of thread 0, and that of thread 1
abbrev pub lost : Record
lost = record { place = (0, 1); replies = heard (pos 0); verdict = Changed 0 0 1 }

abbrev pub again : Record
again = record { place = (0, 1); replies = heard (pos 1); verdict = Wrote 3 }

abbrev pub won : Record
won = record { place = (1, 1); replies = heard (pos 0); verdict = Wrote 1 }

abbrev pub records : List Record
records = lost ∷ again ∷ won ∷ []

-- those that ended, in the order of the journal
abbrev pub ordered : List Record
ordered = won ∷ again ∷ []

-- the order and the aborted attempt that the report tells
abbrev pub order : List TransactionPlace
order = (1, 1) ∷ (0, 1) ∷ []

abbrev pub told_aborts : List Abort
told_aborts = record { place = (0, 1); seen = 0; replies = heard (pos 0); cause = aborts.Changed (record { object = codes "a"; part = 0 }) 1 } ∷ []
