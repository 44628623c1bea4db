-- A run of the two transactions, with one try, in which the second finds the box locked by the first and is handed back: every event, the
-- words and the view that it leaves, and its records.
use Rattle.std.specs.Prelude.{pos, List, [], ◌∷◌, ◌++◌, codes}
use Rattle.sto_report_spec.specs.Orders.{TransactionPlace}
use Rattle.sto_report_spec.specs.Aborts.{Abort}
use Rattle.sto_report_spec.specs.Aborts as aborts
use Rattle.sto_core.specs.declared.view.View.{View}
use Rattle.sto_core.specs.Core.{Core}
use Rattle.sto_core.specs.Reopened.{reopened_core}
use Rattle.sto_history.specs.Records.{Record, Wrote, Locked}
use Rattle.sto_test_premises.specs.Turns.{Turn, view_at, after_turns}
use Rattle.sto_test_premises.specs.Adding.{box, opened, heard, reads, locks, draws, installs, adds, finds_locked, by}

-- the pass at seat 0 reads 0 and locks the part; that at seat 1 finds it locked
abbrev pub first_turns : List Turn
first_turns = by 0 (reads ++ locks) ++ by 1 finds_locked

-- the pass at seat 0 commits 1 with ticket 1
abbrev pub second_turns : List Turn
second_turns = by 0 (draws (pos 1) ++ installs (pos 1))

-- what was handed back reads 1, and commits 2 with ticket 2
abbrev pub third_turns : List Turn
third_turns = by 0 (adds (pos 2))

abbrev pub first_core : Core
first_core = after_turns first_turns opened

abbrev pub second_core : Core
second_core = after_turns second_turns first_core

-- the words are closed, and opened again with one pass, for what was handed back
abbrev pub reopened : Core
reopened = reopened_core [] box.opened second_core

-- the words at the end, and their one pass
abbrev pub closed : Core
closed = after_turns third_turns reopened

abbrev pub view : View
view = view_at closed 0

-- what the three attempts tell: that of thread 0, and those of thread 1
abbrev pub won : Record
won = record { place = (0, 1); replies = heard (pos 0); verdict = Wrote 1 }

abbrev pub locked_out : Record
locked_out = record { place = (1, 1); replies = []; verdict = Locked 0 0 }

abbrev pub again : Record
again = record { place = (1, 1); replies = heard (pos 1); verdict = Wrote 2 }

abbrev pub records : List Record
records = won ∷ locked_out ∷ again ∷ []

-- those that ended, in the order of the journal
abbrev pub ordered : List Record
ordered = won ∷ again ∷ []

-- the order and the aborted attempt that the report tells
abbrev pub order : List TransactionPlace
order = (0, 1) ∷ (1, 1) ∷ []

abbrev pub told_aborts : List Abort
told_aborts = record { place = (1, 1); seen = 0; replies = []; cause = aborts.Locked (record { object = codes "a"; part = 0 }) } ∷ []
