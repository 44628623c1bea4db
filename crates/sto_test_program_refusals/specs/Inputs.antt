-- What the programs read and do not print.
use Rattle.std.specs.Prelude.{ℕ, List, [], ◌∷◌, ◌++◌, Some, codes}
use Rattle.sto_lang.specs.Scripts.{File}
use Rattle.sto_test_premises.specs.Adding.{script, file}

-- the script by whose schedule the first thread reads the box, and the second one commits before it goes on; and what it says
abbrev pub lost_update : List ℕ
lost_update = script ++ codes "schedule 0:4 1:10\n"

abbrev pub lost_update_file : File
lost_update_file = record file { schedule = Some (record { thread = 0; steps = 4 } ∷ record { thread = 1; steps = 10 } ∷ []) }

-- what it says where the second thread has the first ten turns
abbrev pub second_first_file : File
second_first_file = record file { schedule = Some (record { thread = 1; steps = 10 } ∷ []) }

-- what the checker reads: the script, and a report of it
abbrev pub with_report : List ℕ → List ℕ
with_report report = script ++ (codes "report\n" ++ report)

-- a lawful report of one worker, with its last number changed, and with the threads in the other order
abbrev pub alone_changed : List ℕ
alone_changed = codes "1 t0.1 commit 0 ok\n2 t1.1 commit 1 ok\nstate\na = 3\n"

abbrev pub alone_reversed : List ℕ
alone_reversed = codes "1 t1.1 commit 0 ok\n2 t0.1 commit 1 ok\nstate\na = 2\n"

-- a summary of which the accounts hold 1 less than all
abbrev pub one_less : List ℕ
one_less = codes "bench 1\ntransactions 3200\nacct 63999\nlog 160\nowner 128\n"

-- and one of which a transaction is left out
abbrev pub one_left_out : List ℕ
one_left_out = codes "bench 1\ntransactions 3199\nacct 64000\nlog 160\nowner 128\n"
