-- The text of a report of two transactions that each add 1 to a box, of which one lost an attempt; and texts with one thing wrong in each.
use Rattle.std.specs.Prelude.{ℕ, List, codes}

abbrev pub right : List ℕ
right = codes "1 t1.1 commit 0 ok\n2 t0.1 commit 1 ok\nabort t0.1 at 0 saw 0 ok changed a 0 by 1\nstate\na = 2\n"

-- the two commits stand in the other order
abbrev pub exchanged : List ℕ
exchanged = codes "2 t0.1 commit 1 ok\n1 t1.1 commit 0 ok\nabort t0.1 at 0 saw 0 ok changed a 0 by 1\nstate\na = 2\n"

-- the second commit is left out
abbrev pub left_out : List ℕ
left_out = codes "1 t1.1 commit 0 ok\nstate\na = 1\n"

-- the second transaction found 2, not 1
abbrev pub other_reply : List ℕ
other_reply = codes "1 t1.1 commit 0 ok\n2 t0.1 commit 2 ok\nabort t0.1 at 0 saw 0 ok changed a 0 by 1\nstate\na = 2\n"

-- the attempt was aborted by part 1 of the box, which has one part
abbrev pub other_part : List ℕ
other_part = codes "1 t1.1 commit 0 ok\n2 t0.1 commit 1 ok\nabort t0.1 at 0 saw 0 ok changed a 1 by 1\nstate\na = 2\n"

-- it was aborted by the second writer, which is its own transaction
abbrev pub other_writer : List ℕ
other_writer = codes "1 t1.1 commit 0 ok\n2 t0.1 commit 1 ok\nabort t0.1 at 0 saw 0 ok changed a 0 by 2\nstate\na = 2\n"

-- the box holds 3 at the end
abbrev pub other_rows : List ℕ
other_rows = codes "1 t1.1 commit 0 ok\n2 t0.1 commit 1 ok\nabort t0.1 at 0 saw 0 ok changed a 0 by 1\nstate\na = 3\n"

-- as JSON: the second commit is left out, and the second transaction found 2, not 1
abbrev pub json_left_out : List ℕ
json_left_out = codes "{\"aborts\":[],\"journal\":[{\"end\":\"commit\",\"k\":1,\"position\":1,\"replies\":[\"0\",\"ok\"],\"thread\":\"t1\"}],\"state\":[{\"name\":\"a\",\"text\":\"1\"}]}\n"

abbrev pub json_other_reply : List ℕ
json_other_reply = codes "{\"aborts\":[],\"journal\":[{\"end\":\"commit\",\"k\":1,\"position\":1,\"replies\":[\"0\",\"ok\"],\"thread\":\"t1\"},{\"end\":\"commit\",\"k\":2,\"position\":1,\"replies\":[\"2\",\"ok\"],\"thread\":\"t0\"}],\"state\":[{\"name\":\"a\",\"text\":\"2\"}]}\n"
