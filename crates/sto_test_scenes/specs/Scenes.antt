-- What the passes of a scene do, in order: each event with the number of its pass.
use Rattle.std.specs.Prelude.{ℕ, ℤ, pos, negsuc, List, [], ◌∷◌, true, false}
use Rattle.sto_part.specs.declared.change.Change.TheVariants.{Put as PutChange, Add as AddChange}
use Rattle.sto_core.specs.History.{Updates, Validity}
use Rattle.sto_core.specs.Event.{Event, Start, Open, Word, Close, Lock, Test, Draw, Check, Decide, Put, Release, Unlock}
use Rattle.sto_core.specs.Core.{Core}
use Rattle.sto_core.specs.Opened.{opened_core}
use Rattle.sto_core.specs.Reopened.{reopened_core}
use Rattle.sto_plain.specs.Passes.{stepped}

-- all contents are valid
abbrev pub always : Validity
always sizes contents = Unit {0}

-- the core state after these events
abbrev pub played : List (ℕ × Event) → Core → Core
played [] c = c
played (x ∷ xs) c = played xs (stepped x.1 c x.0)

-- the update that puts a value in the one word of a part
abbrev pub one_put : ℕ → ℤ → Updates
one_put part value = (part, PutChange value ∷ []) ∷ []

-- three passes over two parts of one word, which hold 5 and 7, and their states after some reads each
abbrev pub three_passes : Core
three_passes = opened_core [] ((pos 5 ∷ []) ∷ (pos 7 ∷ []) ∷ []) 3

abbrev pub first_reads : Core
first_reads = played ((0, Start) ∷ (1, Start) ∷ (0, Open 0) ∷ (1, Open 1) ∷ (1, Word 1 0) ∷ []) three_passes

abbrev pub second_reads : Core
second_reads = played ((2, Start) ∷ (0, Word 0 0) ∷ (2, Open 0) ∷ (1, Close 1) ∷ []) first_reads

abbrev pub third_reads : Core
third_reads = played ((0, Close 0) ∷ (0, Open 1) ∷ (2, Word 0 0) ∷ (1, Open 0) ∷ []) second_reads

abbrev pub fourth_reads : Core
fourth_reads = played ((2, Close 0) ∷ (0, Word 1 0) ∷ (0, Close 1) ∷ (1, Word 0 0) ∷ []) third_reads

-- two passes over two parts of one word, which hold 0
abbrev pub two_passes : Core
two_passes = opened_core [] ((pos 0 ∷ []) ∷ (pos 0 ∷ []) ∷ []) 2

-- two passes over parts that hold 0: both have drawn, then one commits and the other does not
abbrev pub both_drawn : Core
both_drawn =
    played ((0, Start) ∷ (0, Lock 0) ∷ (0, Draw (one_put 0 (pos 1)) [] []) ∷ (1, Start) ∷ (1, Lock 1) ∷
    (1, Draw (one_put 1 (pos 9)) [] []) ∷ []) two_passes

abbrev pub second_committed : Core
second_committed = played ((1, Decide true) ∷ (1, Put 1 0 (pos 9)) ∷ (1, Release 1) ∷ []) both_drawn

abbrev pub first_gave_up : Core
first_gave_up = played ((0, Decide false) ∷ (0, Unlock 0) ∷ []) second_committed

-- a lost update, which the check after the draw finds
abbrev pub first_read : Core
first_read = played ((0, Start) ∷ (0, Open 0) ∷ (0, Word 0 0) ∷ (0, Close 0) ∷ []) two_passes

abbrev pub other_read : Core
other_read = played ((1, Start) ∷ (1, Open 0) ∷ (1, Word 0 0) ∷ (1, Close 0) ∷ []) first_read

abbrev pub other_drew : Core
other_drew = played ((1, Lock 0) ∷ (1, Draw (one_put 0 (pos 1)) (0 ∷ []) []) ∷ (1, Check 0) ∷ []) other_read

abbrev pub other_committed : Core
other_committed = played ((1, Decide true) ∷ (1, Put 0 0 (pos 1)) ∷ (1, Release 0) ∷ []) other_drew

abbrev pub first_failed : Core
first_failed =
    played ((0, Lock 0) ∷ (0, Draw (one_put 0 (pos 1)) (0 ∷ []) []) ∷ (0, Check 0) ∷ (0, Decide false) ∷
    (0, Unlock 0) ∷ []) other_committed

-- a pass that reads on as of a later number
abbrev pub other_written : Core
other_written =
    played ((1, Start) ∷ (1, Lock 1) ∷ (1, Draw (one_put 1 (pos 9)) [] []) ∷ (1, Decide true) ∷
    (1, Put 1 0 (pos 9)) ∷ (1, Release 1) ∷ []) first_read

-- a pass that adds to a part which another has read, and that one, which loads the part under its hold, and part 1
-- by a test
abbrev pub one_add : ℕ → ℤ → Updates
one_add part value = (part, AddChange value ∷ []) ∷ []

abbrev pub other_drew_sum : Core
other_drew_sum =
    played ((1, Start) ∷ (1, Lock 0) ∷ (1, Word 0 0) ∷ (1, Draw (one_add 0 (pos 5)) [] (0 ∷ [])) ∷ []) first_read

abbrev pub other_added : Core
other_added = played ((1, Decide true) ∷ (1, Put 0 0 (pos 5)) ∷ (1, Release 0) ∷ []) other_drew_sum

abbrev pub both_loaded : Core
both_loaded =
    played ((0, Lock 0) ∷ (0, Word 0 0) ∷ (0, Test 1) ∷ (0, Word 1 0) ∷ (0, Close 1) ∷ []) other_added

abbrev pub first_drew : Core
first_drew = played ((0, Draw (one_add 0 (negsuc 1)) [] (0 ∷ 1 ∷ [])) ∷ (0, Check 1) ∷ []) both_loaded

-- words that were closed after a commit and a drop, and opened again with one pass, which then draws a ticket
abbrev pub went_on : Core
went_on = reopened_core [] ((pos 0 ∷ []) ∷ (pos 0 ∷ []) ∷ []) first_gave_up

abbrev pub drew_further : Core
drew_further = played ((0, Start) ∷ (0, Lock 1) ∷ (0, Draw (one_put 1 (pos 8)) [] []) ∷ []) went_on

abbrev pub wrote_further : Core
wrote_further = played ((0, Decide true) ∷ (0, Put 1 0 (pos 8)) ∷ (0, Release 1) ∷ []) drew_further
