-- Reports of which one thing about an abort line is wrong, and the files that they are of.
use Rattle.std.specs.Prelude.{ℕ, pos, List, [], ◌∷◌, ◌++◌, codes, Some, None}
use Rattle.sto_model.specs.declared.operation.Operation.TheVariants.{Get, Set}
use Rattle.sto_model.specs.declared.shape.Shape.TheVariants.{Single, Array}
use Rattle.sto_lang.specs.declared.arg.Arg.TheVariants.{Num}
use Rattle.sto_lang.specs.Statements.{Nothing, Ask}
use Rattle.sto_lang.specs.Objects.{Declaration}
use Rattle.sto_lang.specs.Scripts.{Script, File}
use Rattle.sto_test_premises.specs.Adding.{file, adding}

-- the box of the transactions that add 1 to it
abbrev pub box_named : List ℕ → ℕ → Declaration
box_named name number = record { name = name; shape = Single (pos 0); number = number }

-- its first thread adds 1 twice, the second one once
abbrev pub twice_script : List ℕ
twice_script = codes "box a 0\nthread\nbegin\nx = get a\ny = sum x 1\nset a y\ncommit\nbegin\nx = get a\ny = sum x 1\nset a y\ncommit\nthread\nbegin\nx = get a\ny = sum x 1\nset a y\ncommit\n"

abbrev pub twice_file : File
twice_file = record file { threads = (adding ∷ adding ∷ []) ∷ (adding ∷ []) ∷ [] }

-- its first thread only reads the box
abbrev pub reading_script : List ℕ
reading_script = codes "box a 0\nthread\nbegin\nx = get a\ncommit\nthread\nbegin\nx = get a\ny = sum x 1\nset a y\ncommit\n"

abbrev pub reading : Script
reading = record { variables = codes "x" ∷ []; body = Ask (Some 0) 0 Get (Num (pos 0)) (Num (pos 0)) Nothing; weight = 2 }

abbrev pub reading_file : File
reading_file = record file { threads = (reading ∷ []) ∷ (adding ∷ []) ∷ [] }

-- its second thread sets another box
abbrev pub apart_script : List ℕ
apart_script = codes "box a 0\nbox b 0\nthread\nbegin\nx = get a\ny = sum x 1\nset a y\ncommit\nthread\nbegin\nset b 1\ncommit\n"

abbrev pub setting : Script
setting = record { variables = []; body = Ask None 1 Set (Num (pos 1)) (Num (pos 0)) Nothing; weight = 2 }

abbrev pub apart_file : File
apart_file = record file { declarations = box_named (codes "a") 0 ∷ box_named (codes "b") 1 ∷ []; threads = (adding ∷ []) ∷ (setting ∷ []) ∷ [] }

-- its threads set the two places of an array
abbrev pub places_script : List ℕ
places_script = codes "array a 2 0\nthread\nbegin\nset a 0 1\ncommit\nthread\nbegin\nset a 1 1\ncommit\n"

abbrev pub setting_place : ℕ → Script
setting_place place = record { variables = []; body = Ask None 0 Set (Num (pos place)) (Num (pos 1)) Nothing; weight = 2 }

abbrev pub places_file : File
places_file = record file {
  declarations = record { name = codes "a"; shape = Array 2 (pos 0); number = 0 } ∷ [];
  threads = (setting_place 0 ∷ []) ∷ (setting_place 1 ∷ []) ∷ [];
}

-- of the file in which each thread adds 1 once, with these lines between the journal and the state
abbrev pub once_with : List ℕ → List ℕ
once_with lines = codes "1 t1.1 commit 0 ok\n2 t0.1 commit 1 ok\n" ++ (lines ++ codes "state\na = 2\n")

-- it heard 1 of the box, which held 0 after no writer
abbrev pub other_replies : List ℕ
other_replies = once_with (codes "abort t0.1 at 0 saw 1 ok changed a 0 by 1\n")

-- it heard more than a whole run
abbrev pub more_replies : List ℕ
more_replies = once_with (codes "abort t0.1 at 0 saw 0 ok ok changed a 0 by 1\n")

-- it saw its own transaction's commit
abbrev pub saw_itself : List ℕ
saw_itself = once_with (codes "abort t0.1 at 2 saw 2 ok locked a 0\n")

-- there is no such object
abbrev pub unknown_object : List ℕ
unknown_object = once_with (codes "abort t0.1 at 0 saw 0 ok changed b 0 by 1\n")

-- it had seen the writer that it was aborted by
abbrev pub seen_writer : List ℕ
seen_writer = once_with (codes "abort t0.1 at 1 saw 1 ok changed a 0 by 1\n")

-- there is no such transaction, and no such thread
abbrev pub no_transaction : List ℕ
no_transaction = once_with (codes "abort t0.2 at 0 saw 0 ok changed a 0 by 1\n")

abbrev pub no_thread : List ℕ
no_thread = once_with (codes "abort t2.1 at 0 saw 0 ok changed a 0 by 1\n")

-- two aborted attempts of one transaction: with 1 try too many
abbrev pub two_attempts : List ℕ
two_attempts = once_with (codes "abort t0.1 at 0 saw 0 ok changed a 0 by 1\nabort t0.1 at 1 saw 1 ok locked a 0\n")

-- the later attempt saw less than the earlier one knew of
abbrev pub attempts_exchanged : List ℕ
attempts_exchanged = once_with (codes "abort t0.1 at 0 saw 0 ok changed a 0 by 1\nabort t0.1 at 0 saw 0 ok locked a 0\n")

-- the attempt of the second thread comes first
abbrev pub threads_exchanged : List ℕ
threads_exchanged = once_with (codes "abort t1.1 at 0 saw 0 ok locked a 0\nabort t0.1 at 0 saw 0 ok changed a 0 by 1\n")

-- it stands before the journal
abbrev pub before_journal : List ℕ
before_journal = codes "abort t0.1 at 0 saw 0 ok changed a 0 by 1\n1 t1.1 commit 0 ok\n2 t0.1 commit 1 ok\nstate\na = 2\n"

-- as JSON: it heard 1 of the box
abbrev pub json_other_replies : List ℕ
json_other_replies = codes "{\"aborts\":[{\"at\":0,\"by\":1,\"cause\":\"changed\",\"object\":\"a\",\"part\":0,\"position\":1,\"saw\":[\"1\",\"ok\"],\"thread\":\"t0\"}],\"journal\":[{\"end\":\"commit\",\"k\":1,\"position\":1,\"replies\":[\"0\",\"ok\"],\"thread\":\"t1\"},{\"end\":\"commit\",\"k\":2,\"position\":1,\"replies\":[\"1\",\"ok\"],\"thread\":\"t0\"}],\"state\":[{\"name\":\"a\",\"text\":\"2\"}]}\n"

-- of the file whose first thread adds 1 twice: its second transaction did not see the commit of its first one
abbrev pub own_unseen : List ℕ
own_unseen = codes "1 t0.1 commit 0 ok\n2 t1.1 commit 1 ok\n3 t0.2 commit 2 ok\nabort t0.2 at 0 saw 0 ok changed a 0 by 2\nstate\na = 3\n"

-- one attempt of each of its two transactions was aborted: with 1 try the second one was never begun
abbrev pub after_handed : List ℕ
after_handed = codes "1 t1.1 commit 0 ok\n2 t0.1 commit 1 ok\n3 t0.2 commit 2 ok\nabort t0.1 at 0 saw 0 ok changed a 0 by 1\nabort t0.2 at 2 saw 2 ok locked a 0\nstate\na = 3\n"

-- the attempt of the second one comes first
abbrev pub positions_exchanged : List ℕ
positions_exchanged = codes "1 t1.1 commit 0 ok\n2 t0.1 commit 1 ok\n3 t0.2 commit 2 ok\nabort t0.2 at 2 saw 2 ok locked a 0\nabort t0.1 at 0 saw 0 ok changed a 0 by 1\nstate\na = 3\n"

-- of the file whose first thread only reads: it had read all, and so it was at its end
abbrev pub settled : List ℕ
settled = codes "1 t1.1 commit 0 ok\n1 t0.1 read 1\nabort t0.1 at 0 saw 0 changed a 0 by 1\nstate\na = 1\n"

-- of the file of two boxes: the first thread asks nothing of the second box, and the writer did not write the first one
abbrev pub unasked_object : List ℕ
unasked_object = codes "1 t1.1 commit ok\n2 t0.1 commit 0 ok\nabort t0.1 at 0 saw 0 ok changed b 0 by 1\nstate\na = 1\nb = 1\n"

abbrev pub unwritten_part : List ℕ
unwritten_part = codes "1 t1.1 commit ok\n2 t0.1 commit 0 ok\nabort t0.1 at 0 saw 0 ok changed a 0 by 1\nstate\na = 1\nb = 1\n"

-- of the file of an array: the first thread touches its first place, not the second one
abbrev pub untouched_part : List ℕ
untouched_part = codes "1 t1.1 commit ok\n2 t0.1 commit ok\nabort t0.1 at 0 saw ok changed a 1 by 1\nstate\na = [1,1]\n"
