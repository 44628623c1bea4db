-- The attempts of documented runs: what `sto trace` told of their events as found leads to the events, the replies and the ends that it told.
use Rattle.std.specs.Prelude.{ℕ, ℤ, pos, negsuc, true, false, Some, None, List, [], ◌∷◌, codes}
use Rattle.std.specs.Fmt.{digits}
use Rattle.std.specs.Int.{int_wrap}
use Rattle.std.proofs.Common.{◌≡◌, refl}
use Rattle.sto_part.specs.declared.change.Change.TheVariants as C
use Rattle.sto_model.specs.PlainReplies.{PlainReply, Value, Done, Flag, Absent, Full, Range}
use Rattle.sto_core.specs.Event.{Event, Start, Open, Word, Close, Renew, Recheck, Lock, Test, Draw, Check, Decide, Put, Release, Unlock}
use Rattle.sto_attempt_log.specs.declared.verdict.Verdict.{Verdict}
use Rattle.sto_attempt_log.specs.declared.verdict.Verdict.TheVariants.{Wrote, Read, Cancelled, Locked, Changed}
use Rattle.sto_test_attempts.specs.Playing.{Line, played, undrawn}

-- an event found a number in the clock or a version, or a value in a word
abbrev number : ℕ → ℕ × ℤ
number n = (n, pos 0)

abbrev value : ℤ → ℕ × ℤ
value x = (0, x)

-- a line of a trace: the event alone, the replies that it completed, and the end of the attempt
abbrev on : Event → Line
on event = record { event = event; replies = []; end = None }

abbrev says : Event → List PlainReply → Line
says event replies = record { event = event; replies = replies; end = None }

abbrev ends_with : Event → List PlainReply → Verdict → Line
ends_with event replies verdict = record { event = event; replies = replies; end = Some verdict }

-- lost_update
abbrev lost_update : List ℕ
lost_update = codes "box a 0\nthread\nbegin\nx = get a\ny = sum x 1\nset a y\ncommit\nthread\nbegin\nx = get a\ny = sum x 1\nset a y\ncommit\nschedule 0:4 1:10\n"

pub lost_update_0_1_1 : played lost_update 0 0 (number 0 ∷ number 0 ∷ value (pos 0) ∷ number 0 ∷ number 2 ∷ number 1 ∷ number 3 ∷ number 0 ∷ number 0 ∷ [])
    ≡ on (Start) ∷ on (Open 0) ∷ on (Word 0 0) ∷ says (Close 0) (Value (pos 0) ∷ Done ∷ []) ∷ on (Lock 0) ∷ on (Draw ((0, C.Put (pos 1) ∷ []) ∷ []) (0 ∷ []) ([])) ∷ on (Check 0) ∷ on (Decide false) ∷ ends_with (Unlock 0) ([]) (Changed 0 0 1) ∷ []
unfolding digits int_wrap
lost_update_0_1_1 = refl

pub lost_update_1_1_1 : played lost_update 1 0 (number 0 ∷ number 0 ∷ value (pos 0) ∷ number 0 ∷ number 0 ∷ number 0 ∷ number 1 ∷ number 0 ∷ number 0 ∷ number 0 ∷ [])
    ≡ on (Start) ∷ on (Open 0) ∷ on (Word 0 0) ∷ says (Close 0) (Value (pos 0) ∷ Done ∷ []) ∷ on (Lock 0) ∷ on (Draw ((0, C.Put (pos 1) ∷ []) ∷ []) (0 ∷ []) ([])) ∷ on (Check 0) ∷ on (Decide true) ∷ on (Put 0 0 (pos 1)) ∷ ends_with (Release 0) ([]) (Wrote 1) ∷ []
unfolding digits int_wrap
lost_update_1_1_1 = refl

pub lost_update_0_1_2 : played lost_update 0 0 (number 2 ∷ number 2 ∷ value (pos 1) ∷ number 2 ∷ number 2 ∷ number 2 ∷ number 3 ∷ number 0 ∷ number 0 ∷ number 0 ∷ [])
    ≡ on (Start) ∷ on (Open 0) ∷ on (Word 0 0) ∷ says (Close 0) (Value (pos 1) ∷ Done ∷ []) ∷ on (Lock 0) ∷ on (Draw ((0, C.Put (pos 2) ∷ []) ∷ []) (0 ∷ []) ([])) ∷ on (Check 0) ∷ on (Decide true) ∷ on (Put 0 0 (pos 2)) ∷ ends_with (Release 0) ([]) (Wrote 3) ∷ []
unfolding digits int_wrap
lost_update_0_1_2 = refl

-- lost_update_with_one_try
abbrev lost_update_with_one_try : List ℕ
lost_update_with_one_try = codes "box a 0\nthread\nbegin\nx = get a\ny = sum x 1\nset a y\ncommit\nthread\nbegin\nx = get a\ny = sum x 1\nset a y\ncommit\nschedule 0:4 1:10\n"

pub lost_update_with_one_try_0_1_1 : played lost_update_with_one_try 0 0 (number 0 ∷ number 0 ∷ value (pos 0) ∷ number 0 ∷ number 2 ∷ number 1 ∷ number 3 ∷ number 0 ∷ number 0 ∷ [])
    ≡ on (Start) ∷ on (Open 0) ∷ on (Word 0 0) ∷ says (Close 0) (Value (pos 0) ∷ Done ∷ []) ∷ on (Lock 0) ∷ on (Draw ((0, C.Put (pos 1) ∷ []) ∷ []) (0 ∷ []) ([])) ∷ on (Check 0) ∷ on (Decide false) ∷ ends_with (Unlock 0) ([]) (Changed 0 0 1) ∷ []
unfolding digits int_wrap
lost_update_with_one_try_0_1_1 = refl

pub lost_update_with_one_try_1_1_1 : played lost_update_with_one_try 1 0 (number 0 ∷ number 0 ∷ value (pos 0) ∷ number 0 ∷ number 0 ∷ number 0 ∷ number 1 ∷ number 0 ∷ number 0 ∷ number 0 ∷ [])
    ≡ on (Start) ∷ on (Open 0) ∷ on (Word 0 0) ∷ says (Close 0) (Value (pos 0) ∷ Done ∷ []) ∷ on (Lock 0) ∷ on (Draw ((0, C.Put (pos 1) ∷ []) ∷ []) (0 ∷ []) ([])) ∷ on (Check 0) ∷ on (Decide true) ∷ on (Put 0 0 (pos 1)) ∷ ends_with (Release 0) ([]) (Wrote 1) ∷ []
unfolding digits int_wrap
lost_update_with_one_try_1_1_1 = refl

-- locked_at_the_lock_step
abbrev locked_at_the_lock_step : List ℕ
locked_at_the_lock_step = codes "box a 0\nthread\nbegin\nx = get a\ny = sum x 1\nset a y\ncommit\nthread\nbegin\nx = get a\ny = sum x 1\nset a y\ncommit\nschedule 0:4 1:4 0:1 1:1 0:5\n"

pub locked_at_the_lock_step_0_1_1 : played locked_at_the_lock_step 0 0 (number 0 ∷ number 0 ∷ value (pos 0) ∷ number 0 ∷ number 0 ∷ number 0 ∷ number 1 ∷ number 0 ∷ number 0 ∷ number 0 ∷ [])
    ≡ on (Start) ∷ on (Open 0) ∷ on (Word 0 0) ∷ says (Close 0) (Value (pos 0) ∷ Done ∷ []) ∷ on (Lock 0) ∷ on (Draw ((0, C.Put (pos 1) ∷ []) ∷ []) (0 ∷ []) ([])) ∷ on (Check 0) ∷ on (Decide true) ∷ on (Put 0 0 (pos 1)) ∷ ends_with (Release 0) ([]) (Wrote 1) ∷ []
unfolding digits int_wrap
locked_at_the_lock_step_0_1_1 = refl

pub locked_at_the_lock_step_1_1_1 : played locked_at_the_lock_step 1 0 (number 0 ∷ number 0 ∷ value (pos 0) ∷ number 0 ∷ number 1 ∷ [])
    ≡ on (Start) ∷ on (Open 0) ∷ on (Word 0 0) ∷ says (Close 0) (Value (pos 0) ∷ Done ∷ []) ∷ ends_with (Lock 0) ([]) (Locked 0 0) ∷ []
unfolding digits int_wrap
locked_at_the_lock_step_1_1_1 = refl

pub locked_at_the_lock_step_1_1_2 : played locked_at_the_lock_step 1 0 (number 1 ∷ number 2 ∷ value (pos 1) ∷ number 2 ∷ number 2 ∷ number 1 ∷ number 3 ∷ number 0 ∷ number 0 ∷ number 0 ∷ [])
    ≡ on (Start) ∷ on (Open 0) ∷ on (Word 0 0) ∷ says (Close 0) (Value (pos 1) ∷ Done ∷ []) ∷ on (Lock 0) ∷ on (Draw ((0, C.Put (pos 2) ∷ []) ∷ []) (0 ∷ []) ([])) ∷ on (Check 0) ∷ on (Decide true) ∷ on (Put 0 0 (pos 2)) ∷ ends_with (Release 0) ([]) (Wrote 2) ∷ []
unfolding digits int_wrap
locked_at_the_lock_step_1_1_2 = refl

-- locked_at_the_open
abbrev locked_at_the_open : List ℕ
locked_at_the_open = codes "box a 0\nthread\nbegin\nx = get a\ny = sum x 1\nset a y\ncommit\nthread\nbegin\nx = get a\ny = sum x 1\nset a y\ncommit\nschedule 0:5 1:2 0:5\n"

pub locked_at_the_open_0_1_1 : played locked_at_the_open 0 0 (number 0 ∷ number 0 ∷ value (pos 0) ∷ number 0 ∷ number 0 ∷ number 0 ∷ number 1 ∷ number 0 ∷ number 0 ∷ number 0 ∷ [])
    ≡ on (Start) ∷ on (Open 0) ∷ on (Word 0 0) ∷ says (Close 0) (Value (pos 0) ∷ Done ∷ []) ∷ on (Lock 0) ∷ on (Draw ((0, C.Put (pos 1) ∷ []) ∷ []) (0 ∷ []) ([])) ∷ on (Check 0) ∷ on (Decide true) ∷ on (Put 0 0 (pos 1)) ∷ ends_with (Release 0) ([]) (Wrote 1) ∷ []
unfolding digits int_wrap
locked_at_the_open_0_1_1 = refl

pub locked_at_the_open_1_1_1 : played locked_at_the_open 1 0 (number 0 ∷ number 1 ∷ [])
    ≡ on (Start) ∷ ends_with (Open 0) ([]) (Locked 0 0) ∷ []
unfolding digits int_wrap
locked_at_the_open_1_1_1 = refl

pub locked_at_the_open_1_1_2 : played locked_at_the_open 1 0 (number 1 ∷ number 2 ∷ value (pos 1) ∷ number 2 ∷ number 2 ∷ number 1 ∷ number 3 ∷ number 0 ∷ number 0 ∷ number 0 ∷ [])
    ≡ on (Start) ∷ on (Open 0) ∷ on (Word 0 0) ∷ says (Close 0) (Value (pos 1) ∷ Done ∷ []) ∷ on (Lock 0) ∷ on (Draw ((0, C.Put (pos 2) ∷ []) ∷ []) (0 ∷ []) ([])) ∷ on (Check 0) ∷ on (Decide true) ∷ on (Put 0 0 (pos 2)) ∷ ends_with (Release 0) ([]) (Wrote 2) ∷ []
unfolding digits int_wrap
locked_at_the_open_1_1_2 = refl

-- predicate_kept
abbrev predicate_kept : List ℕ
predicate_kept = codes "counter c 10\nthread\nbegin\ntake c 5\ncommit\nthread\nbegin\nadd c 3\ncommit\nschedule 0:4 1:10\n"

pub predicate_kept_0_1_1 : played predicate_kept 0 0 (number 0 ∷ number 0 ∷ value (pos 10) ∷ number 0 ∷ number 2 ∷ value (pos 13) ∷ number 1 ∷ number 0 ∷ number 0 ∷ number 0 ∷ [])
    ≡ on (Start) ∷ on (Open 0) ∷ on (Word 0 0) ∷ says (Close 0) (Flag true ∷ []) ∷ on (Lock 0) ∷ on (Word 0 0) ∷ on (Draw ((0, C.Add (negsuc 4) ∷ []) ∷ []) ([]) (0 ∷ [])) ∷ on (Decide true) ∷ on (Put 0 0 (pos 8)) ∷ ends_with (Release 0) ([]) (Wrote 2) ∷ []
unfolding digits int_wrap
predicate_kept_0_1_1 = refl

pub predicate_kept_1_1_1 : played predicate_kept 1 0 (number 0 ∷ number 0 ∷ value (pos 10) ∷ number 0 ∷ number 0 ∷ value (pos 10) ∷ number 0 ∷ number 0 ∷ number 0 ∷ number 0 ∷ [])
    ≡ on (Start) ∷ on (Open 0) ∷ on (Word 0 0) ∷ says (Close 0) (Done ∷ []) ∷ on (Lock 0) ∷ on (Word 0 0) ∷ on (Draw ((0, C.Add (pos 3) ∷ []) ∷ []) ([]) (0 ∷ [])) ∷ on (Decide true) ∷ on (Put 0 0 (pos 13)) ∷ ends_with (Release 0) ([]) (Wrote 1) ∷ []
unfolding digits int_wrap
predicate_kept_1_1_1 = refl

-- predicate_broken
abbrev predicate_broken : List ℕ
predicate_broken = codes "counter c 6\nthread\nbegin\ntake c 5\ncommit\nthread\nbegin\nadd c -3\ncommit\nschedule 0:4 1:10\n"

pub predicate_broken_0_1_1 : played predicate_broken 0 0 (number 0 ∷ number 0 ∷ value (pos 6) ∷ number 0 ∷ number 2 ∷ value (pos 3) ∷ number 0 ∷ [])
    ≡ on (Start) ∷ on (Open 0) ∷ on (Word 0 0) ∷ says (Close 0) (Flag true ∷ []) ∷ on (Lock 0) ∷ on (Word 0 0) ∷ ends_with (Unlock 0) ([]) (Changed 0 0 1) ∷ []
unfolding digits int_wrap
predicate_broken_0_1_1 = refl

pub predicate_broken_1_1_1 : played predicate_broken 1 0 (number 0 ∷ number 0 ∷ value (pos 6) ∷ number 0 ∷ number 0 ∷ value (pos 6) ∷ number 0 ∷ number 0 ∷ number 0 ∷ number 0 ∷ [])
    ≡ on (Start) ∷ on (Open 0) ∷ on (Word 0 0) ∷ says (Close 0) (Done ∷ []) ∷ on (Lock 0) ∷ on (Word 0 0) ∷ on (Draw ((0, C.Add (negsuc 2) ∷ []) ∷ []) ([]) (0 ∷ [])) ∷ on (Decide true) ∷ on (Put 0 0 (pos 3)) ∷ ends_with (Release 0) ([]) (Wrote 1) ∷ []
unfolding digits int_wrap
predicate_broken_1_1_1 = refl

pub predicate_broken_0_1_2 : played predicate_broken 0 0 (number 1 ∷ number 2 ∷ value (pos 3) ∷ number 2 ∷ [])
    ≡ on (Start) ∷ on (Open 0) ∷ on (Word 0 0) ∷ ends_with (Close 0) (Flag false ∷ []) (Read 1) ∷ []
unfolding digits int_wrap
predicate_broken_0_1_2 = refl

-- seen_and_tested_as_well
abbrev seen_and_tested_as_well : List ℕ
seen_and_tested_as_well = codes "counter c 6\ncounter d 6\nthread\nbegin\nget c\ntest c le 10\ntake d 5\nadd c 1\ncommit\nthread\nbegin\nadd c 7\nadd d -3\ncommit\nschedule 0:7 1:100\n"

pub seen_and_tested_as_well_0_1_1 : played seen_and_tested_as_well 0 0 (number 0 ∷ number 0 ∷ value (pos 6) ∷ number 0 ∷ number 0 ∷ value (pos 6) ∷ number 0 ∷ number 2 ∷ number 2 ∷ value (pos 13) ∷ value (pos 3) ∷ number 0 ∷ number 0 ∷ [])
    ≡ on (Start) ∷ on (Open 0) ∷ on (Word 0 0) ∷ says (Close 0) (Value (pos 6) ∷ Flag true ∷ []) ∷ on (Open 1) ∷ on (Word 1 0) ∷ says (Close 1) (Flag true ∷ Done ∷ []) ∷ on (Lock 0) ∷ on (Lock 1) ∷ on (Word 0 0) ∷ on (Word 1 0) ∷ on (Unlock 0) ∷ ends_with (Unlock 1) ([]) (Changed 0 1 1) ∷ []
unfolding digits int_wrap
seen_and_tested_as_well_0_1_1 = refl

pub seen_and_tested_as_well_1_1_1 : played seen_and_tested_as_well 1 0 (number 0 ∷ number 0 ∷ value (pos 6) ∷ number 0 ∷ number 0 ∷ value (pos 6) ∷ number 0 ∷ number 0 ∷ number 0 ∷ value (pos 6) ∷ value (pos 6) ∷ number 0 ∷ number 0 ∷ number 0 ∷ number 0 ∷ number 0 ∷ number 0 ∷ [])
    ≡ on (Start) ∷ on (Open 0) ∷ on (Word 0 0) ∷ says (Close 0) (Done ∷ []) ∷ on (Open 1) ∷ on (Word 1 0) ∷ says (Close 1) (Done ∷ []) ∷ on (Lock 0) ∷ on (Lock 1) ∷ on (Word 0 0) ∷ on (Word 1 0) ∷ on (Draw ((0, C.Add (pos 7) ∷ []) ∷ (1, C.Add (negsuc 2) ∷ []) ∷ []) ([]) (0 ∷ 1 ∷ [])) ∷ on (Decide true) ∷ on (Put 0 0 (pos 13)) ∷ on (Put 1 0 (pos 3)) ∷ on (Release 0) ∷ ends_with (Release 1) ([]) (Wrote 1) ∷ []
unfolding digits int_wrap
seen_and_tested_as_well_1_1_1 = refl

pub seen_and_tested_as_well_0_1_2 : played seen_and_tested_as_well 0 0 (number 1 ∷ number 2 ∷ value (pos 13) ∷ number 2 ∷ number 2 ∷ value (pos 3) ∷ number 2 ∷ number 2 ∷ value (pos 13) ∷ number 2 ∷ value (pos 3) ∷ number 2 ∷ number 1 ∷ number 3 ∷ number 2 ∷ number 0 ∷ number 0 ∷ number 0 ∷ [])
    ≡ on (Start) ∷ on (Open 0) ∷ on (Word 0 0) ∷ says (Close 0) (Value (pos 13) ∷ Flag false ∷ []) ∷ on (Open 1) ∷ on (Word 1 0) ∷ says (Close 1) (Flag false ∷ Done ∷ []) ∷ on (Lock 0) ∷ on (Word 0 0) ∷ on (Test 1) ∷ on (Word 1 0) ∷ on (Close 1) ∷ on (Draw ((0, C.Add (pos 1) ∷ []) ∷ []) (0 ∷ []) (1 ∷ [])) ∷ on (Check 0) ∷ on (Check 1) ∷ on (Decide true) ∷ on (Put 0 0 (pos 14)) ∷ ends_with (Release 0) ([]) (Wrote 2) ∷ []
unfolding digits int_wrap
seen_and_tested_as_well_0_1_2 = refl

-- size_seen_and_tested_as_well
abbrev size_seen_and_tested_as_well : List ℕ
size_seen_and_tested_as_well = codes "sto 2\nvector q 4\nvector s 4\nthread p\nbegin\nlen q\npush q 1\npush s 1\ncommit\nthread r\nbegin\npush q 2\npush s 2\ncommit\nschedule p:7 r:100\n"

pub size_seen_and_tested_as_well_0_1_1 : undrawn (played size_seen_and_tested_as_well 0 0 (number 0 ∷ number 0 ∷ value (pos 0) ∷ number 0 ∷ number 0 ∷ value (pos 0) ∷ number 0 ∷ number 2 ∷ number 2 ∷ number 2 ∷ number 2 ∷ value (pos 1) ∷ value (pos 1) ∷ number 0 ∷ number 0 ∷ number 0 ∷ number 0 ∷ []))
    ≡ on (Start) ∷ on (Open 0) ∷ on (Word 0 0) ∷ says (Close 0) (Value (pos 0) ∷ Done ∷ []) ∷ on (Open 5) ∷ on (Word 5 0) ∷ says (Close 5) (Done ∷ []) ∷ on (Lock 0) ∷ on (Lock 1) ∷ on (Lock 5) ∷ on (Lock 6) ∷ on (Word 0 0) ∷ on (Word 5 0) ∷ on (Unlock 0) ∷ on (Unlock 1) ∷ on (Unlock 5) ∷ ends_with (Unlock 6) ([]) (Changed 0 5 1) ∷ []
unfolding digits int_wrap
size_seen_and_tested_as_well_0_1_1 = refl

pub size_seen_and_tested_as_well_1_1_1 : undrawn (played size_seen_and_tested_as_well 1 0 (number 0 ∷ number 0 ∷ value (pos 0) ∷ number 0 ∷ number 0 ∷ value (pos 0) ∷ number 0 ∷ number 0 ∷ number 0 ∷ number 0 ∷ number 0 ∷ value (pos 0) ∷ value (pos 0) ∷ number 0 ∷ number 0 ∷ number 0 ∷ number 0 ∷ number 0 ∷ number 0 ∷ number 0 ∷ number 0 ∷ number 0 ∷ number 0 ∷ []))
    ≡ on (Start) ∷ on (Open 0) ∷ on (Word 0 0) ∷ says (Close 0) (Done ∷ []) ∷ on (Open 5) ∷ on (Word 5 0) ∷ says (Close 5) (Done ∷ []) ∷ on (Lock 0) ∷ on (Lock 1) ∷ on (Lock 5) ∷ on (Lock 6) ∷ on (Word 0 0) ∷ on (Word 5 0) ∷ on (Draw [] [] []) ∷ on (Decide true) ∷ on (Put 0 0 (pos 1)) ∷ on (Put 1 0 (pos 2)) ∷ on (Put 5 0 (pos 1)) ∷ on (Put 6 0 (pos 2)) ∷ on (Release 0) ∷ on (Release 1) ∷ on (Release 5) ∷ ends_with (Release 6) ([]) (Wrote 1) ∷ []
unfolding digits int_wrap
size_seen_and_tested_as_well_1_1_1 = refl

pub size_seen_and_tested_as_well_0_1_2 : undrawn (played size_seen_and_tested_as_well 0 0 (number 1 ∷ number 2 ∷ value (pos 1) ∷ number 2 ∷ number 2 ∷ value (pos 1) ∷ number 2 ∷ number 2 ∷ number 0 ∷ number 2 ∷ number 0 ∷ value (pos 1) ∷ value (pos 1) ∷ number 1 ∷ number 3 ∷ number 0 ∷ number 0 ∷ number 0 ∷ number 0 ∷ number 0 ∷ number 0 ∷ number 0 ∷ number 0 ∷ number 0 ∷ []))
    ≡ on (Start) ∷ on (Open 0) ∷ on (Word 0 0) ∷ says (Close 0) (Value (pos 1) ∷ Done ∷ []) ∷ on (Open 5) ∷ on (Word 5 0) ∷ says (Close 5) (Done ∷ []) ∷ on (Lock 0) ∷ on (Lock 2) ∷ on (Lock 5) ∷ on (Lock 7) ∷ on (Word 0 0) ∷ on (Word 5 0) ∷ on (Draw [] [] []) ∷ on (Check 0) ∷ on (Decide true) ∷ on (Put 0 0 (pos 2)) ∷ on (Put 2 0 (pos 1)) ∷ on (Put 5 0 (pos 2)) ∷ on (Put 7 0 (pos 1)) ∷ on (Release 0) ∷ on (Release 2) ∷ on (Release 5) ∷ ends_with (Release 7) ([]) (Wrote 2) ∷ []
unfolding digits int_wrap
size_seen_and_tested_as_well_0_1_2 = refl

-- own_writes
abbrev own_writes : List ℕ
own_writes = codes "counter c 2\nthread\nbegin\nadd c 3\nx = test c ge 5\ntake c 5\ncommit\nthread\nbegin\nadd c 1\ncommit\nschedule 0:4 1:10\n"

pub own_writes_0_1_1 : played own_writes 0 0 (number 0 ∷ number 0 ∷ value (pos 2) ∷ number 0 ∷ number 2 ∷ value (pos 3) ∷ number 1 ∷ number 0 ∷ number 0 ∷ number 0 ∷ [])
    ≡ on (Start) ∷ on (Open 0) ∷ on (Word 0 0) ∷ says (Close 0) (Done ∷ Flag true ∷ Flag true ∷ []) ∷ on (Lock 0) ∷ on (Word 0 0) ∷ on (Draw ((0, C.Add (negsuc 1) ∷ []) ∷ []) ([]) (0 ∷ [])) ∷ on (Decide true) ∷ on (Put 0 0 (pos 1)) ∷ ends_with (Release 0) ([]) (Wrote 2) ∷ []
unfolding digits int_wrap
own_writes_0_1_1 = refl

pub own_writes_1_1_1 : played own_writes 1 0 (number 0 ∷ number 0 ∷ value (pos 2) ∷ number 0 ∷ number 0 ∷ value (pos 2) ∷ number 0 ∷ number 0 ∷ number 0 ∷ number 0 ∷ [])
    ≡ on (Start) ∷ on (Open 0) ∷ on (Word 0 0) ∷ says (Close 0) (Done ∷ []) ∷ on (Lock 0) ∷ on (Word 0 0) ∷ on (Draw ((0, C.Add (pos 1) ∷ []) ∷ []) ([]) (0 ∷ [])) ∷ on (Decide true) ∷ on (Put 0 0 (pos 3)) ∷ ends_with (Release 0) ([]) (Wrote 1) ∷ []
unfolding digits int_wrap
own_writes_1_1_1 = refl

-- opacity
abbrev opacity : List ℕ
opacity = codes "box a 0\nbox b 0\nthread\nbegin\nx = get a\ny = get b\ncommit\nthread\nbegin\nset a 1\nset b 1\ncommit\nschedule 0:4 1:9\n"

pub opacity_0_1_1 : played opacity 0 0 (number 0 ∷ number 0 ∷ value (pos 0) ∷ number 0 ∷ number 2 ∷ number 1 ∷ number 2 ∷ [])
    ≡ on (Start) ∷ on (Open 0) ∷ on (Word 0 0) ∷ says (Close 0) (Value (pos 0) ∷ []) ∷ on (Open 1) ∷ on (Renew) ∷ ends_with (Recheck 0) ([]) (Changed 0 0 1) ∷ []
unfolding digits int_wrap
opacity_0_1_1 = refl

pub opacity_1_1_1 : played opacity 1 0 (number 0 ∷ number 0 ∷ number 0 ∷ number 0 ∷ number 0 ∷ number 0 ∷ number 0 ∷ number 0 ∷ number 0 ∷ [])
    ≡ says (Start) (Done ∷ Done ∷ []) ∷ on (Lock 0) ∷ on (Lock 1) ∷ on (Draw ((0, C.Put (pos 1) ∷ []) ∷ (1, C.Put (pos 1) ∷ []) ∷ []) ([]) ([])) ∷ on (Decide true) ∷ on (Put 0 0 (pos 1)) ∷ on (Put 1 0 (pos 1)) ∷ on (Release 0) ∷ ends_with (Release 1) ([]) (Wrote 1) ∷ []
unfolding digits int_wrap
opacity_1_1_1 = refl

pub opacity_0_1_2 : played opacity 0 0 (number 1 ∷ number 2 ∷ value (pos 1) ∷ number 2 ∷ number 2 ∷ value (pos 1) ∷ number 2 ∷ [])
    ≡ on (Start) ∷ on (Open 0) ∷ on (Word 0 0) ∷ says (Close 0) (Value (pos 1) ∷ []) ∷ on (Open 1) ∷ on (Word 1 0) ∷ ends_with (Close 1) (Value (pos 1) ∷ []) (Read 1) ∷ []
unfolding digits int_wrap
opacity_0_1_2 = refl

-- newer_second_box
abbrev newer_second_box : List ℕ
newer_second_box = codes "box a 0\nbox b 0\nthread\nbegin\nx = get a\ny = get b\ncommit\nthread\nbegin\nset b 1\ncommit\nschedule 0:4 1:6\n"

pub newer_second_box_0_1_1 : played newer_second_box 0 0 (number 0 ∷ number 0 ∷ value (pos 0) ∷ number 0 ∷ number 2 ∷ number 1 ∷ number 0 ∷ number 2 ∷ value (pos 1) ∷ number 2 ∷ [])
    ≡ on (Start) ∷ on (Open 0) ∷ on (Word 0 0) ∷ says (Close 0) (Value (pos 0) ∷ []) ∷ on (Open 1) ∷ on (Renew) ∷ on (Recheck 0) ∷ on (Open 1) ∷ on (Word 1 0) ∷ ends_with (Close 1) (Value (pos 1) ∷ []) (Read 1) ∷ []
unfolding digits int_wrap
newer_second_box_0_1_1 = refl

pub newer_second_box_1_1_1 : played newer_second_box 1 0 (number 0 ∷ number 0 ∷ number 0 ∷ number 0 ∷ number 0 ∷ number 0 ∷ [])
    ≡ says (Start) (Done ∷ []) ∷ on (Lock 1) ∷ on (Draw ((1, C.Put (pos 1) ∷ []) ∷ []) ([]) ([])) ∷ on (Decide true) ∷ on (Put 1 0 (pos 1)) ∷ ends_with (Release 1) ([]) (Wrote 1) ∷ []
unfolding digits int_wrap
newer_second_box_1_1_1 = refl

-- extension_keeps_a_predicate
abbrev extension_keeps_a_predicate : List ℕ
extension_keeps_a_predicate = codes "counter c 10\nbox b 0\nthread\nbegin\nx = test c ge 5\ny = get b\ncommit\nthread\nbegin\nadd c 3\nset b 1\ncommit\nschedule 0:4 1:13\n"

pub extension_keeps_a_predicate_0_1_1 : played extension_keeps_a_predicate 0 0 (number 0 ∷ number 0 ∷ value (pos 10) ∷ number 0 ∷ number 2 ∷ number 1 ∷ number 2 ∷ value (pos 13) ∷ number 2 ∷ number 2 ∷ value (pos 1) ∷ number 2 ∷ [])
    ≡ on (Start) ∷ on (Open 1) ∷ on (Word 1 0) ∷ says (Close 1) (Flag true ∷ []) ∷ on (Open 0) ∷ on (Renew) ∷ on (Open 1) ∷ on (Word 1 0) ∷ on (Close 1) ∷ on (Open 0) ∷ on (Word 0 0) ∷ ends_with (Close 0) (Value (pos 1) ∷ []) (Read 1) ∷ []
unfolding digits int_wrap
extension_keeps_a_predicate_0_1_1 = refl

pub extension_keeps_a_predicate_1_1_1 : played extension_keeps_a_predicate 1 0 (number 0 ∷ number 0 ∷ value (pos 10) ∷ number 0 ∷ number 0 ∷ number 0 ∷ value (pos 10) ∷ number 0 ∷ number 0 ∷ number 0 ∷ number 0 ∷ number 0 ∷ number 0 ∷ [])
    ≡ on (Start) ∷ on (Open 1) ∷ on (Word 1 0) ∷ says (Close 1) (Done ∷ Done ∷ []) ∷ on (Lock 0) ∷ on (Lock 1) ∷ on (Word 1 0) ∷ on (Draw ((0, C.Put (pos 1) ∷ []) ∷ (1, C.Add (pos 3) ∷ []) ∷ []) ([]) (1 ∷ [])) ∷ on (Decide true) ∷ on (Put 0 0 (pos 1)) ∷ on (Put 1 0 (pos 13)) ∷ on (Release 0) ∷ ends_with (Release 1) ([]) (Wrote 1) ∷ []
unfolding digits int_wrap
extension_keeps_a_predicate_1_1_1 = refl

-- extension_finds_a_broken_predicate
abbrev extension_finds_a_broken_predicate : List ℕ
extension_finds_a_broken_predicate = codes "counter c 10\nbox b 0\nthread\nbegin\nx = test c ge 5\ny = get b\ncommit\nthread\nbegin\nadd c -6\nset b 1\ncommit\nschedule 0:4 1:13\n"

pub extension_finds_a_broken_predicate_0_1_1 : played extension_finds_a_broken_predicate 0 0 (number 0 ∷ number 0 ∷ value (pos 10) ∷ number 0 ∷ number 2 ∷ number 1 ∷ number 2 ∷ value (pos 4) ∷ number 2 ∷ [])
    ≡ on (Start) ∷ on (Open 1) ∷ on (Word 1 0) ∷ says (Close 1) (Flag true ∷ []) ∷ on (Open 0) ∷ on (Renew) ∷ on (Open 1) ∷ on (Word 1 0) ∷ ends_with (Close 1) ([]) (Changed 0 1 1) ∷ []
unfolding digits int_wrap
extension_finds_a_broken_predicate_0_1_1 = refl

pub extension_finds_a_broken_predicate_1_1_1 : played extension_finds_a_broken_predicate 1 0 (number 0 ∷ number 0 ∷ value (pos 10) ∷ number 0 ∷ number 0 ∷ number 0 ∷ value (pos 10) ∷ number 0 ∷ number 0 ∷ number 0 ∷ number 0 ∷ number 0 ∷ number 0 ∷ [])
    ≡ on (Start) ∷ on (Open 1) ∷ on (Word 1 0) ∷ says (Close 1) (Done ∷ Done ∷ []) ∷ on (Lock 0) ∷ on (Lock 1) ∷ on (Word 1 0) ∷ on (Draw ((0, C.Put (pos 1) ∷ []) ∷ (1, C.Add (negsuc 5) ∷ []) ∷ []) ([]) (1 ∷ [])) ∷ on (Decide true) ∷ on (Put 0 0 (pos 1)) ∷ on (Put 1 0 (pos 4)) ∷ on (Release 0) ∷ ends_with (Release 1) ([]) (Wrote 1) ∷ []
unfolding digits int_wrap
extension_finds_a_broken_predicate_1_1_1 = refl

pub extension_finds_a_broken_predicate_0_1_2 : played extension_finds_a_broken_predicate 0 0 (number 1 ∷ number 2 ∷ value (pos 4) ∷ number 2 ∷ number 2 ∷ value (pos 1) ∷ number 2 ∷ [])
    ≡ on (Start) ∷ on (Open 1) ∷ on (Word 1 0) ∷ says (Close 1) (Flag false ∷ []) ∷ on (Open 0) ∷ on (Word 0 0) ∷ ends_with (Close 0) (Value (pos 1) ∷ []) (Read 1) ∷ []
unfolding digits int_wrap
extension_finds_a_broken_predicate_0_1_2 = refl

-- late_read_keeps_its_place
abbrev late_read_keeps_its_place : List ℕ
late_read_keeps_its_place = codes "box a 0\nbox b 5\nthread\nbegin\nx = get b\ncommit\nthread\nbegin\nset a 1\ncommit\nschedule 0:1 1:6 0:3\n"

pub late_read_keeps_its_place_0_1_1 : played late_read_keeps_its_place 0 0 (number 0 ∷ number 0 ∷ value (pos 5) ∷ number 0 ∷ [])
    ≡ on (Start) ∷ on (Open 1) ∷ on (Word 1 0) ∷ ends_with (Close 1) (Value (pos 5) ∷ []) (Read 0) ∷ []
unfolding digits int_wrap
late_read_keeps_its_place_0_1_1 = refl

pub late_read_keeps_its_place_1_1_1 : played late_read_keeps_its_place 1 0 (number 0 ∷ number 0 ∷ number 0 ∷ number 0 ∷ number 0 ∷ number 0 ∷ [])
    ≡ says (Start) (Done ∷ []) ∷ on (Lock 0) ∷ on (Draw ((0, C.Put (pos 1) ∷ []) ∷ []) ([]) ([])) ∷ on (Decide true) ∷ on (Put 0 0 (pos 1)) ∷ ends_with (Release 0) ([]) (Wrote 1) ∷ []
unfolding digits int_wrap
late_read_keeps_its_place_1_1_1 = refl

-- write_skew
abbrev write_skew : List ℕ
write_skew = codes "box x 1\nbox y 1\nthread\nbegin\np = get x\nq = get y\nset x 0\ncommit\nthread\nbegin\np = get x\nq = get y\nset y 0\ncommit\nschedule 0:7 1:7 0:7\n"

pub write_skew_0_1_1 : played write_skew 0 0 (number 0 ∷ number 0 ∷ value (pos 1) ∷ number 0 ∷ number 0 ∷ value (pos 1) ∷ number 0 ∷ number 0 ∷ number 0 ∷ number 1 ∷ number 0 ∷ number 0 ∷ number 0 ∷ number 0 ∷ [])
    ≡ on (Start) ∷ on (Open 0) ∷ on (Word 0 0) ∷ says (Close 0) (Value (pos 1) ∷ []) ∷ on (Open 1) ∷ on (Word 1 0) ∷ says (Close 1) (Value (pos 1) ∷ Done ∷ []) ∷ on (Lock 0) ∷ on (Draw ((0, C.Put (pos 0) ∷ []) ∷ []) (0 ∷ 1 ∷ []) ([])) ∷ on (Check 0) ∷ on (Check 1) ∷ on (Decide true) ∷ on (Put 0 0 (pos 0)) ∷ ends_with (Release 0) ([]) (Wrote 1) ∷ []
unfolding digits int_wrap
write_skew_0_1_1 = refl

pub write_skew_1_1_1 : played write_skew 1 0 (number 0 ∷ number 0 ∷ value (pos 1) ∷ number 0 ∷ number 0 ∷ value (pos 1) ∷ number 0 ∷ number 0 ∷ number 1 ∷ number 2 ∷ number 0 ∷ number 0 ∷ [])
    ≡ on (Start) ∷ on (Open 0) ∷ on (Word 0 0) ∷ says (Close 0) (Value (pos 1) ∷ []) ∷ on (Open 1) ∷ on (Word 1 0) ∷ says (Close 1) (Value (pos 1) ∷ Done ∷ []) ∷ on (Lock 1) ∷ on (Draw ((1, C.Put (pos 0) ∷ []) ∷ []) (0 ∷ 1 ∷ []) ([])) ∷ on (Check 0) ∷ on (Decide false) ∷ ends_with (Unlock 1) ([]) (Changed 0 0 1) ∷ []
unfolding digits int_wrap
write_skew_1_1_1 = refl

pub write_skew_1_1_2 : played write_skew 1 0 (number 2 ∷ number 2 ∷ value (pos 0) ∷ number 2 ∷ number 0 ∷ value (pos 1) ∷ number 0 ∷ number 0 ∷ number 2 ∷ number 2 ∷ number 1 ∷ number 0 ∷ number 0 ∷ number 0 ∷ [])
    ≡ on (Start) ∷ on (Open 0) ∷ on (Word 0 0) ∷ says (Close 0) (Value (pos 0) ∷ []) ∷ on (Open 1) ∷ on (Word 1 0) ∷ says (Close 1) (Value (pos 1) ∷ Done ∷ []) ∷ on (Lock 1) ∷ on (Draw ((1, C.Put (pos 0) ∷ []) ∷ []) (0 ∷ 1 ∷ []) ([])) ∷ on (Check 0) ∷ on (Check 1) ∷ on (Decide true) ∷ on (Put 1 0 (pos 0)) ∷ ends_with (Release 1) ([]) (Wrote 3) ∷ []
unfolding digits int_wrap
write_skew_1_1_2 = refl

-- tries_used_up
abbrev tries_used_up : List ℕ
tries_used_up = codes "box x 1\nbox y 1\nthread\nbegin\np = get x\nq = get y\nset x 0\ncommit\nthread\nbegin\np = get x\nq = get y\nset y 0\ncommit\nschedule 0:7 1:7\n"

pub tries_used_up_0_1_1 : played tries_used_up 0 0 (number 0 ∷ number 0 ∷ value (pos 1) ∷ number 0 ∷ number 0 ∷ value (pos 1) ∷ number 0 ∷ number 0 ∷ number 0 ∷ number 1 ∷ number 1 ∷ number 0 ∷ number 0 ∷ [])
    ≡ on (Start) ∷ on (Open 0) ∷ on (Word 0 0) ∷ says (Close 0) (Value (pos 1) ∷ []) ∷ on (Open 1) ∷ on (Word 1 0) ∷ says (Close 1) (Value (pos 1) ∷ Done ∷ []) ∷ on (Lock 0) ∷ on (Draw ((0, C.Put (pos 0) ∷ []) ∷ []) (0 ∷ 1 ∷ []) ([])) ∷ on (Check 0) ∷ on (Check 1) ∷ on (Decide false) ∷ ends_with (Unlock 0) ([]) (Locked 0 1) ∷ []
unfolding digits int_wrap
tries_used_up_0_1_1 = refl

pub tries_used_up_1_1_1 : played tries_used_up 1 0 (number 0 ∷ number 0 ∷ value (pos 1) ∷ number 0 ∷ number 0 ∷ value (pos 1) ∷ number 0 ∷ number 0 ∷ number 1 ∷ number 1 ∷ number 0 ∷ number 0 ∷ [])
    ≡ on (Start) ∷ on (Open 0) ∷ on (Word 0 0) ∷ says (Close 0) (Value (pos 1) ∷ []) ∷ on (Open 1) ∷ on (Word 1 0) ∷ says (Close 1) (Value (pos 1) ∷ Done ∷ []) ∷ on (Lock 1) ∷ on (Draw ((1, C.Put (pos 0) ∷ []) ∷ []) (0 ∷ 1 ∷ []) ([])) ∷ on (Check 0) ∷ on (Decide false) ∷ ends_with (Unlock 1) ([]) (Locked 0 0) ∷ []
unfolding digits int_wrap
tries_used_up_1_1_1 = refl

-- absence_in_a_bucket
abbrev absence_in_a_bucket : List ℕ
absence_in_a_bucket = codes "hash h 8 2\nbox a 0\nthread\nbegin\nx = has h 3\nset a 1\ncommit\nthread\nbegin\nput h 11 1\ncommit\nschedule 0:7 1:17\n"

pub absence_in_a_bucket_0_1_1 : undrawn (played absence_in_a_bucket 0 0 (number 0 ∷ number 0 ∷ value (pos 0) ∷ value (pos 0) ∷ value (pos 0) ∷ value (pos 0) ∷ number 0 ∷ number 0 ∷ number 1 ∷ number 2 ∷ number 0 ∷ number 0 ∷ []))
    ≡ on (Start) ∷ on (Open 10) ∷ on (Word 10 0) ∷ on (Word 10 1) ∷ on (Word 10 2) ∷ on (Word 10 3) ∷ says (Close 10) (Flag false ∷ Done ∷ []) ∷ on (Lock 0) ∷ on (Draw [] [] []) ∷ on (Check 10) ∷ on (Decide false) ∷ ends_with (Unlock 0) ([]) (Changed 0 10 1) ∷ []
unfolding digits int_wrap
absence_in_a_bucket_0_1_1 = refl

pub absence_in_a_bucket_1_1_1 : undrawn (played absence_in_a_bucket 1 0 (number 0 ∷ number 0 ∷ value (pos 0) ∷ value (pos 0) ∷ value (pos 0) ∷ value (pos 0) ∷ number 0 ∷ number 0 ∷ number 0 ∷ number 0 ∷ number 1 ∷ number 0 ∷ number 0 ∷ number 0 ∷ number 0 ∷ number 0 ∷ number 0 ∷ []))
    ≡ on (Start) ∷ on (Open 10) ∷ on (Word 10 0) ∷ on (Word 10 1) ∷ on (Word 10 2) ∷ on (Word 10 3) ∷ says (Close 10) (Done ∷ []) ∷ on (Lock 10) ∷ on (Lock 11) ∷ on (Draw [] [] []) ∷ on (Check 10) ∷ on (Decide true) ∷ on (Put 10 0 (pos 1)) ∷ on (Put 10 1 (pos 11)) ∷ on (Put 11 0 (pos 1)) ∷ on (Release 10) ∷ ends_with (Release 11) ([]) (Wrote 1) ∷ []
unfolding digits int_wrap
absence_in_a_bucket_1_1_1 = refl

pub absence_in_a_bucket_0_1_2 : undrawn (played absence_in_a_bucket 0 0 (number 2 ∷ number 2 ∷ value (pos 1) ∷ value (pos 11) ∷ value (pos 0) ∷ value (pos 0) ∷ number 2 ∷ number 0 ∷ number 2 ∷ number 2 ∷ number 0 ∷ number 0 ∷ number 0 ∷ []))
    ≡ on (Start) ∷ on (Open 10) ∷ on (Word 10 0) ∷ on (Word 10 1) ∷ on (Word 10 2) ∷ on (Word 10 3) ∷ says (Close 10) (Flag false ∷ Done ∷ []) ∷ on (Lock 0) ∷ on (Draw [] [] []) ∷ on (Check 10) ∷ on (Decide true) ∷ on (Put 0 0 (pos 1)) ∷ ends_with (Release 0) ([]) (Wrote 3) ∷ []
unfolding digits int_wrap
absence_in_a_bucket_0_1_2 = refl

-- absence_beside_another_bucket
abbrev absence_beside_another_bucket : List ℕ
absence_beside_another_bucket = codes "hash h 8 2\nbox a 0\nthread\nbegin\nx = has h 3\nset a 1\ncommit\nthread\nbegin\nput h 4 1\ncommit\nschedule 0:7 1:17\n"

pub absence_beside_another_bucket_0_1_1 : undrawn (played absence_beside_another_bucket 0 0 (number 0 ∷ number 0 ∷ value (pos 0) ∷ value (pos 0) ∷ value (pos 0) ∷ value (pos 0) ∷ number 0 ∷ number 0 ∷ number 1 ∷ number 0 ∷ number 0 ∷ number 0 ∷ number 0 ∷ []))
    ≡ on (Start) ∷ on (Open 10) ∷ on (Word 10 0) ∷ on (Word 10 1) ∷ on (Word 10 2) ∷ on (Word 10 3) ∷ says (Close 10) (Flag false ∷ Done ∷ []) ∷ on (Lock 0) ∷ on (Draw [] [] []) ∷ on (Check 10) ∷ on (Decide true) ∷ on (Put 0 0 (pos 1)) ∷ ends_with (Release 0) ([]) (Wrote 2) ∷ []
unfolding digits int_wrap
absence_beside_another_bucket_0_1_1 = refl

pub absence_beside_another_bucket_1_1_1 : undrawn (played absence_beside_another_bucket 1 0 (number 0 ∷ number 0 ∷ value (pos 0) ∷ value (pos 0) ∷ value (pos 0) ∷ value (pos 0) ∷ number 0 ∷ number 0 ∷ number 0 ∷ number 0 ∷ number 1 ∷ number 0 ∷ number 0 ∷ number 0 ∷ number 0 ∷ number 0 ∷ number 0 ∷ []))
    ≡ on (Start) ∷ on (Open 13) ∷ on (Word 13 0) ∷ on (Word 13 1) ∷ on (Word 13 2) ∷ on (Word 13 3) ∷ says (Close 13) (Done ∷ []) ∷ on (Lock 13) ∷ on (Lock 14) ∷ on (Draw [] [] []) ∷ on (Check 13) ∷ on (Decide true) ∷ on (Put 13 0 (pos 1)) ∷ on (Put 13 1 (pos 4)) ∷ on (Put 14 0 (pos 1)) ∷ on (Release 13) ∷ ends_with (Release 14) ([]) (Wrote 1) ∷ []
unfolding digits int_wrap
absence_beside_another_bucket_1_1_1 = refl

-- presence_beside_a_new_key
abbrev presence_beside_a_new_key : List ℕ
presence_beside_a_new_key = codes "hash h 8 2\nbox a 0\nthread\nbegin\nput h 3 5\ncommit\nbegin\nx = get h 3\nset a x\ncommit\nthread\nbegin\nput h 11 1\ncommit\nschedule 0:27 1:17\n"

pub presence_beside_a_new_key_0_1_1 : undrawn (played presence_beside_a_new_key 0 0 (number 0 ∷ number 0 ∷ value (pos 0) ∷ value (pos 0) ∷ value (pos 0) ∷ value (pos 0) ∷ number 0 ∷ number 0 ∷ number 0 ∷ number 0 ∷ number 1 ∷ number 0 ∷ number 0 ∷ number 0 ∷ number 0 ∷ number 0 ∷ number 0 ∷ []))
    ≡ on (Start) ∷ on (Open 10) ∷ on (Word 10 0) ∷ on (Word 10 1) ∷ on (Word 10 2) ∷ on (Word 10 3) ∷ says (Close 10) (Done ∷ []) ∷ on (Lock 10) ∷ on (Lock 11) ∷ on (Draw [] [] []) ∷ on (Check 10) ∷ on (Decide true) ∷ on (Put 10 0 (pos 1)) ∷ on (Put 10 1 (pos 3)) ∷ on (Put 11 0 (pos 5)) ∷ on (Release 10) ∷ ends_with (Release 11) ([]) (Wrote 1) ∷ []
unfolding digits int_wrap
presence_beside_a_new_key_0_1_1 = refl

pub presence_beside_a_new_key_0_2_1 : undrawn (played presence_beside_a_new_key 0 1 (number 1 ∷ number 2 ∷ value (pos 1) ∷ value (pos 3) ∷ value (pos 0) ∷ value (pos 0) ∷ number 2 ∷ number 2 ∷ value (pos 5) ∷ number 2 ∷ number 0 ∷ number 4 ∷ value (pos 1) ∷ value (pos 3) ∷ value (pos 1) ∷ value (pos 11) ∷ number 4 ∷ number 2 ∷ number 4 ∷ number 2 ∷ number 0 ∷ number 0 ∷ number 0 ∷ []))
    ≡ on (Start) ∷ on (Open 10) ∷ on (Word 10 0) ∷ on (Word 10 1) ∷ on (Word 10 2) ∷ on (Word 10 3) ∷ on (Close 10) ∷ on (Open 11) ∷ on (Word 11 0) ∷ says (Close 11) (Value (pos 5) ∷ Done ∷ []) ∷ on (Lock 0) ∷ on (Test 10) ∷ on (Word 10 0) ∷ on (Word 10 1) ∷ on (Word 10 2) ∷ on (Word 10 3) ∷ on (Close 10) ∷ on (Draw [] [] []) ∷ on (Check 10) ∷ on (Check 11) ∷ on (Decide true) ∷ on (Put 0 0 (pos 5)) ∷ ends_with (Release 0) ([]) (Wrote 3) ∷ []
unfolding digits int_wrap
presence_beside_a_new_key_0_2_1 = refl

pub presence_beside_a_new_key_1_1_1 : undrawn (played presence_beside_a_new_key 1 0 (number 1 ∷ number 2 ∷ value (pos 1) ∷ value (pos 3) ∷ value (pos 0) ∷ value (pos 0) ∷ number 2 ∷ number 2 ∷ number 0 ∷ number 1 ∷ number 3 ∷ number 0 ∷ number 0 ∷ number 0 ∷ number 0 ∷ number 0 ∷ number 0 ∷ []))
    ≡ on (Start) ∷ on (Open 10) ∷ on (Word 10 0) ∷ on (Word 10 1) ∷ on (Word 10 2) ∷ on (Word 10 3) ∷ says (Close 10) (Done ∷ []) ∷ on (Lock 10) ∷ on (Lock 12) ∷ on (Draw [] [] []) ∷ on (Check 10) ∷ on (Decide true) ∷ on (Put 10 2 (pos 1)) ∷ on (Put 10 3 (pos 11)) ∷ on (Put 12 0 (pos 1)) ∷ on (Release 10) ∷ ends_with (Release 12) ([]) (Wrote 2) ∷ []
unfolding digits int_wrap
presence_beside_a_new_key_1_1_1 = refl

-- phantom_in_a_count
abbrev phantom_in_a_count : List ℕ
phantom_in_a_count = codes "tree t 2\nbox a 0\nthread\nbegin\nn = count t 0 100\nset a n\ncommit\nthread\nbegin\nput t 50 1\ncommit\nschedule 0:27 1:53\n"

pub phantom_in_a_count_0_1_1 : undrawn (played phantom_in_a_count 0 0 (number 0 ∷ number 0 ∷ value (pos 1) ∷ value (negsuc 9223372036854775807) ∷ value (pos 9223372036854775807) ∷ value (pos 0) ∷ value (pos 0) ∷ value (pos 0) ∷ number 0 ∷ number 0 ∷ value (pos 0) ∷ value (pos 0) ∷ value (pos 0) ∷ value (pos 0) ∷ value (pos 0) ∷ value (pos 0) ∷ value (pos 0) ∷ value (pos 0) ∷ value (pos 0) ∷ value (pos 0) ∷ value (pos 0) ∷ value (pos 0) ∷ value (pos 0) ∷ value (pos 0) ∷ value (pos 0) ∷ value (pos 0) ∷ number 0 ∷ number 0 ∷ number 0 ∷ value (pos 1) ∷ value (negsuc 9223372036854775807) ∷ value (pos 9223372036854775807) ∷ value (pos 0) ∷ value (pos 0) ∷ value (pos 0) ∷ number 0 ∷ number 1 ∷ number 0 ∷ number 2 ∷ number 0 ∷ number 0 ∷ []))
    ≡ on (Start) ∷ on (Open 2) ∷ on (Word 2 0) ∷ on (Word 2 1) ∷ on (Word 2 2) ∷ on (Word 2 3) ∷ on (Word 2 4) ∷ on (Word 2 5) ∷ on (Close 2) ∷ on (Open 3) ∷ on (Word 3 0) ∷ on (Word 3 1) ∷ on (Word 3 2) ∷ on (Word 3 3) ∷ on (Word 3 4) ∷ on (Word 3 5) ∷ on (Word 3 6) ∷ on (Word 3 7) ∷ on (Word 3 8) ∷ on (Word 3 9) ∷ on (Word 3 10) ∷ on (Word 3 11) ∷ on (Word 3 12) ∷ on (Word 3 13) ∷ on (Word 3 14) ∷ on (Word 3 15) ∷ says (Close 3) (Value (pos 0) ∷ Done ∷ []) ∷ on (Lock 0) ∷ on (Test 2) ∷ on (Word 2 0) ∷ on (Word 2 1) ∷ on (Word 2 2) ∷ on (Word 2 3) ∷ on (Word 2 4) ∷ on (Word 2 5) ∷ on (Close 2) ∷ on (Draw [] [] []) ∷ on (Check 2) ∷ on (Check 3) ∷ on (Decide false) ∷ ends_with (Unlock 0) ([]) (Changed 0 3 1) ∷ []
unfolding digits int_wrap
phantom_in_a_count_0_1_1 = refl

pub phantom_in_a_count_1_1_1 : undrawn (played phantom_in_a_count 1 0 (number 0 ∷ number 0 ∷ value (pos 1) ∷ value (negsuc 9223372036854775807) ∷ value (pos 9223372036854775807) ∷ value (pos 0) ∷ value (pos 0) ∷ value (pos 0) ∷ number 0 ∷ number 0 ∷ value (pos 0) ∷ value (pos 0) ∷ value (pos 0) ∷ value (pos 0) ∷ value (pos 0) ∷ value (pos 0) ∷ value (pos 0) ∷ value (pos 0) ∷ value (pos 0) ∷ value (pos 0) ∷ value (pos 0) ∷ value (pos 0) ∷ value (pos 0) ∷ value (pos 0) ∷ value (pos 0) ∷ value (pos 0) ∷ number 0 ∷ number 0 ∷ value (pos 0) ∷ number 0 ∷ number 0 ∷ number 0 ∷ number 0 ∷ value (pos 0) ∷ number 0 ∷ value (pos 1) ∷ value (negsuc 9223372036854775807) ∷ value (pos 9223372036854775807) ∷ value (pos 0) ∷ value (pos 0) ∷ value (pos 0) ∷ number 0 ∷ number 0 ∷ number 0 ∷ number 1 ∷ number 0 ∷ number 0 ∷ number 0 ∷ number 0 ∷ number 0 ∷ number 0 ∷ number 0 ∷ number 0 ∷ []))
    ≡ on (Start) ∷ on (Open 2) ∷ on (Word 2 0) ∷ on (Word 2 1) ∷ on (Word 2 2) ∷ on (Word 2 3) ∷ on (Word 2 4) ∷ on (Word 2 5) ∷ on (Close 2) ∷ on (Open 3) ∷ on (Word 3 0) ∷ on (Word 3 1) ∷ on (Word 3 2) ∷ on (Word 3 3) ∷ on (Word 3 4) ∷ on (Word 3 5) ∷ on (Word 3 6) ∷ on (Word 3 7) ∷ on (Word 3 8) ∷ on (Word 3 9) ∷ on (Word 3 10) ∷ on (Word 3 11) ∷ on (Word 3 12) ∷ on (Word 3 13) ∷ on (Word 3 14) ∷ on (Word 3 15) ∷ on (Close 3) ∷ on (Open 1) ∷ on (Word 1 0) ∷ says (Close 1) (Done ∷ []) ∷ on (Lock 1) ∷ on (Lock 3) ∷ on (Lock 4) ∷ on (Word 1 0) ∷ on (Test 2) ∷ on (Word 2 0) ∷ on (Word 2 1) ∷ on (Word 2 2) ∷ on (Word 2 3) ∷ on (Word 2 4) ∷ on (Word 2 5) ∷ on (Close 2) ∷ on (Draw [] [] []) ∷ on (Check 2) ∷ on (Check 3) ∷ on (Decide true) ∷ on (Put 1 0 (pos 1)) ∷ on (Put 3 0 (pos 1)) ∷ on (Put 3 1 (pos 50)) ∷ on (Put 4 0 (pos 1)) ∷ on (Release 1) ∷ on (Release 3) ∷ ends_with (Release 4) ([]) (Wrote 1) ∷ []
unfolding digits int_wrap
phantom_in_a_count_1_1_1 = refl

pub phantom_in_a_count_0_1_2 : undrawn (played phantom_in_a_count 0 0 (number 2 ∷ number 0 ∷ value (pos 1) ∷ value (negsuc 9223372036854775807) ∷ value (pos 9223372036854775807) ∷ value (pos 0) ∷ value (pos 0) ∷ value (pos 0) ∷ number 0 ∷ number 2 ∷ value (pos 1) ∷ value (pos 50) ∷ value (pos 0) ∷ value (pos 0) ∷ value (pos 0) ∷ value (pos 0) ∷ value (pos 0) ∷ value (pos 0) ∷ value (pos 0) ∷ value (pos 0) ∷ value (pos 0) ∷ value (pos 0) ∷ value (pos 0) ∷ value (pos 0) ∷ value (pos 0) ∷ value (pos 0) ∷ number 2 ∷ number 0 ∷ number 0 ∷ value (pos 1) ∷ value (negsuc 9223372036854775807) ∷ value (pos 9223372036854775807) ∷ value (pos 0) ∷ value (pos 0) ∷ value (pos 0) ∷ number 0 ∷ number 2 ∷ number 0 ∷ number 2 ∷ number 0 ∷ number 0 ∷ number 0 ∷ []))
    ≡ on (Start) ∷ on (Open 2) ∷ on (Word 2 0) ∷ on (Word 2 1) ∷ on (Word 2 2) ∷ on (Word 2 3) ∷ on (Word 2 4) ∷ on (Word 2 5) ∷ on (Close 2) ∷ on (Open 3) ∷ on (Word 3 0) ∷ on (Word 3 1) ∷ on (Word 3 2) ∷ on (Word 3 3) ∷ on (Word 3 4) ∷ on (Word 3 5) ∷ on (Word 3 6) ∷ on (Word 3 7) ∷ on (Word 3 8) ∷ on (Word 3 9) ∷ on (Word 3 10) ∷ on (Word 3 11) ∷ on (Word 3 12) ∷ on (Word 3 13) ∷ on (Word 3 14) ∷ on (Word 3 15) ∷ says (Close 3) (Value (pos 1) ∷ Done ∷ []) ∷ on (Lock 0) ∷ on (Test 2) ∷ on (Word 2 0) ∷ on (Word 2 1) ∷ on (Word 2 2) ∷ on (Word 2 3) ∷ on (Word 2 4) ∷ on (Word 2 5) ∷ on (Close 2) ∷ on (Draw [] [] []) ∷ on (Check 2) ∷ on (Check 3) ∷ on (Decide true) ∷ on (Put 0 0 (pos 1)) ∷ ends_with (Release 0) ([]) (Wrote 3) ∷ []
unfolding digits int_wrap
phantom_in_a_count_0_1_2 = refl

-- vector_push_beside_a_test
abbrev vector_push_beside_a_test : List ℕ
vector_push_beside_a_test = codes "sto 2\nvector q 4\nbox a 0\nthread p\nbegin\npush q 1\ncommit\nbegin\nx = test q ge 1\nset a x\ncommit\nthread r\nbegin\npush q 2\ncommit\nschedule p:17 r:13\n"

pub vector_push_beside_a_test_0_1_1 : undrawn (played vector_push_beside_a_test 0 0 (number 0 ∷ number 0 ∷ value (pos 0) ∷ number 0 ∷ number 0 ∷ number 0 ∷ value (pos 0) ∷ number 0 ∷ number 0 ∷ number 0 ∷ number 0 ∷ number 0 ∷ number 0 ∷ []))
    ≡ on (Start) ∷ on (Open 1) ∷ on (Word 1 0) ∷ says (Close 1) (Done ∷ []) ∷ on (Lock 1) ∷ on (Lock 2) ∷ on (Word 1 0) ∷ on (Draw [] [] []) ∷ on (Decide true) ∷ on (Put 1 0 (pos 1)) ∷ on (Put 2 0 (pos 1)) ∷ on (Release 1) ∷ ends_with (Release 2) ([]) (Wrote 1) ∷ []
unfolding digits int_wrap
vector_push_beside_a_test_0_1_1 = refl

pub vector_push_beside_a_test_0_2_1 : undrawn (played vector_push_beside_a_test 0 1 (number 1 ∷ number 2 ∷ value (pos 1) ∷ number 2 ∷ number 0 ∷ number 4 ∷ value (pos 2) ∷ number 4 ∷ number 2 ∷ number 4 ∷ number 0 ∷ number 0 ∷ number 0 ∷ []))
    ≡ on (Start) ∷ on (Open 1) ∷ on (Word 1 0) ∷ says (Close 1) (Flag true ∷ Done ∷ []) ∷ on (Lock 0) ∷ on (Test 1) ∷ on (Word 1 0) ∷ on (Close 1) ∷ on (Draw [] [] []) ∷ on (Check 1) ∷ on (Decide true) ∷ on (Put 0 0 (pos 1)) ∷ ends_with (Release 0) ([]) (Wrote 3) ∷ []
unfolding digits int_wrap
vector_push_beside_a_test_0_2_1 = refl

pub vector_push_beside_a_test_1_1_1 : undrawn (played vector_push_beside_a_test 1 0 (number 1 ∷ number 2 ∷ value (pos 1) ∷ number 2 ∷ number 2 ∷ number 0 ∷ value (pos 1) ∷ number 1 ∷ number 0 ∷ number 0 ∷ number 0 ∷ number 0 ∷ number 0 ∷ []))
    ≡ on (Start) ∷ on (Open 1) ∷ on (Word 1 0) ∷ says (Close 1) (Done ∷ []) ∷ on (Lock 1) ∷ on (Lock 3) ∷ on (Word 1 0) ∷ on (Draw [] [] []) ∷ on (Decide true) ∷ on (Put 1 0 (pos 2)) ∷ on (Put 3 0 (pos 2)) ∷ on (Release 1) ∷ ends_with (Release 3) ([]) (Wrote 2) ∷ []
unfolding digits int_wrap
vector_push_beside_a_test_1_1_1 = refl

-- named_threads
abbrev named_threads : List ℕ
named_threads = codes "sto 2\nbox a 0\nthread up\nbegin\nx = get a\ny = sum x 1\nset a y\ncommit\nthread down\nbegin\nx = get a\ny = diff x 1\nset a y\ncommit\nschedule up:4 down:10\n"

pub named_threads_0_1_1 : played named_threads 0 0 (number 0 ∷ number 0 ∷ value (pos 0) ∷ number 0 ∷ number 2 ∷ number 1 ∷ number 3 ∷ number 0 ∷ number 0 ∷ [])
    ≡ on (Start) ∷ on (Open 0) ∷ on (Word 0 0) ∷ says (Close 0) (Value (pos 0) ∷ Done ∷ []) ∷ on (Lock 0) ∷ on (Draw ((0, C.Put (pos 1) ∷ []) ∷ []) (0 ∷ []) ([])) ∷ on (Check 0) ∷ on (Decide false) ∷ ends_with (Unlock 0) ([]) (Changed 0 0 1) ∷ []
unfolding digits int_wrap
named_threads_0_1_1 = refl

pub named_threads_1_1_1 : played named_threads 1 0 (number 0 ∷ number 0 ∷ value (pos 0) ∷ number 0 ∷ number 0 ∷ number 0 ∷ number 1 ∷ number 0 ∷ number 0 ∷ number 0 ∷ [])
    ≡ on (Start) ∷ on (Open 0) ∷ on (Word 0 0) ∷ says (Close 0) (Value (pos 0) ∷ Done ∷ []) ∷ on (Lock 0) ∷ on (Draw ((0, C.Put (negsuc 0) ∷ []) ∷ []) (0 ∷ []) ([])) ∷ on (Check 0) ∷ on (Decide true) ∷ on (Put 0 0 (negsuc 0)) ∷ ends_with (Release 0) ([]) (Wrote 1) ∷ []
unfolding digits int_wrap
named_threads_1_1_1 = refl

pub named_threads_0_1_2 : played named_threads 0 0 (number 2 ∷ number 2 ∷ value (negsuc 0) ∷ number 2 ∷ number 2 ∷ number 2 ∷ number 3 ∷ number 0 ∷ number 0 ∷ number 0 ∷ [])
    ≡ on (Start) ∷ on (Open 0) ∷ on (Word 0 0) ∷ says (Close 0) (Value (negsuc 0) ∷ Done ∷ []) ∷ on (Lock 0) ∷ on (Draw ((0, C.Put (pos 0) ∷ []) ∷ []) (0 ∷ []) ([])) ∷ on (Check 0) ∷ on (Decide true) ∷ on (Put 0 0 (pos 0)) ∷ ends_with (Release 0) ([]) (Wrote 3) ∷ []
unfolding digits int_wrap
named_threads_0_1_2 = refl

-- a_lost_update_that_is_not_lost
abbrev a_lost_update_that_is_not_lost : List ℕ
a_lost_update_that_is_not_lost = codes "box a 0\nthread\nbegin\nx = get a\ny = sum x 1\nset a y\ncommit\nthread\nbegin\nx = get a\ny = sum x 1\nset a y\ncommit\nschedule 0:4 1:10\n"

pub a_lost_update_that_is_not_lost_0_1_1 : played a_lost_update_that_is_not_lost 0 0 (number 0 ∷ number 0 ∷ value (pos 0) ∷ number 0 ∷ number 2 ∷ number 1 ∷ number 3 ∷ number 0 ∷ number 0 ∷ [])
    ≡ on (Start) ∷ on (Open 0) ∷ on (Word 0 0) ∷ says (Close 0) (Value (pos 0) ∷ Done ∷ []) ∷ on (Lock 0) ∷ on (Draw ((0, C.Put (pos 1) ∷ []) ∷ []) (0 ∷ []) ([])) ∷ on (Check 0) ∷ on (Decide false) ∷ ends_with (Unlock 0) ([]) (Changed 0 0 1) ∷ []
unfolding digits int_wrap
a_lost_update_that_is_not_lost_0_1_1 = refl

pub a_lost_update_that_is_not_lost_1_1_1 : played a_lost_update_that_is_not_lost 1 0 (number 0 ∷ number 0 ∷ value (pos 0) ∷ number 0 ∷ number 0 ∷ number 0 ∷ number 1 ∷ number 0 ∷ number 0 ∷ number 0 ∷ [])
    ≡ on (Start) ∷ on (Open 0) ∷ on (Word 0 0) ∷ says (Close 0) (Value (pos 0) ∷ Done ∷ []) ∷ on (Lock 0) ∷ on (Draw ((0, C.Put (pos 1) ∷ []) ∷ []) (0 ∷ []) ([])) ∷ on (Check 0) ∷ on (Decide true) ∷ on (Put 0 0 (pos 1)) ∷ ends_with (Release 0) ([]) (Wrote 1) ∷ []
unfolding digits int_wrap
a_lost_update_that_is_not_lost_1_1_1 = refl

pub a_lost_update_that_is_not_lost_0_1_2 : played a_lost_update_that_is_not_lost 0 0 (number 2 ∷ number 2 ∷ value (pos 1) ∷ number 2 ∷ number 2 ∷ number 2 ∷ number 3 ∷ number 0 ∷ number 0 ∷ number 0 ∷ [])
    ≡ on (Start) ∷ on (Open 0) ∷ on (Word 0 0) ∷ says (Close 0) (Value (pos 1) ∷ Done ∷ []) ∷ on (Lock 0) ∷ on (Draw ((0, C.Put (pos 2) ∷ []) ∷ []) (0 ∷ []) ([])) ∷ on (Check 0) ∷ on (Decide true) ∷ on (Put 0 0 (pos 2)) ∷ ends_with (Release 0) ([]) (Wrote 3) ∷ []
unfolding digits int_wrap
a_lost_update_that_is_not_lost_0_1_2 = refl

-- no_attempt_sees_two_moments
abbrev no_attempt_sees_two_moments : List ℕ
no_attempt_sees_two_moments = codes "box a 0\nbox b 0\nthread\nbegin\nx = get a\ny = get b\ncommit\nthread\nbegin\nset a 1\nset b 1\ncommit\nschedule 0:4 1:9\n"

pub no_attempt_sees_two_moments_0_1_1 : played no_attempt_sees_two_moments 0 0 (number 0 ∷ number 0 ∷ value (pos 0) ∷ number 0 ∷ number 2 ∷ number 1 ∷ number 2 ∷ [])
    ≡ on (Start) ∷ on (Open 0) ∷ on (Word 0 0) ∷ says (Close 0) (Value (pos 0) ∷ []) ∷ on (Open 1) ∷ on (Renew) ∷ ends_with (Recheck 0) ([]) (Changed 0 0 1) ∷ []
unfolding digits int_wrap
no_attempt_sees_two_moments_0_1_1 = refl

pub no_attempt_sees_two_moments_1_1_1 : played no_attempt_sees_two_moments 1 0 (number 0 ∷ number 0 ∷ number 0 ∷ number 0 ∷ number 0 ∷ number 0 ∷ number 0 ∷ number 0 ∷ number 0 ∷ [])
    ≡ says (Start) (Done ∷ Done ∷ []) ∷ on (Lock 0) ∷ on (Lock 1) ∷ on (Draw ((0, C.Put (pos 1) ∷ []) ∷ (1, C.Put (pos 1) ∷ []) ∷ []) ([]) ([])) ∷ on (Decide true) ∷ on (Put 0 0 (pos 1)) ∷ on (Put 1 0 (pos 1)) ∷ on (Release 0) ∷ ends_with (Release 1) ([]) (Wrote 1) ∷ []
unfolding digits int_wrap
no_attempt_sees_two_moments_1_1_1 = refl

pub no_attempt_sees_two_moments_0_1_2 : played no_attempt_sees_two_moments 0 0 (number 1 ∷ number 2 ∷ value (pos 1) ∷ number 2 ∷ number 2 ∷ value (pos 1) ∷ number 2 ∷ [])
    ≡ on (Start) ∷ on (Open 0) ∷ on (Word 0 0) ∷ says (Close 0) (Value (pos 1) ∷ []) ∷ on (Open 1) ∷ on (Word 1 0) ∷ ends_with (Close 1) (Value (pos 1) ∷ []) (Read 1) ∷ []
unfolding digits int_wrap
no_attempt_sees_two_moments_0_1_2 = refl

-- a_transaction_of_every_kind
abbrev a_transaction_of_every_kind : List ℕ
a_transaction_of_every_kind = codes "sto 2\nbox a 0\ncounter c 3\narray d 3 7\nhash h 2 2\ntree t 2\nvector v 3\nthread p\nbegin\nx = get a\nadd c 2\nset d 1 x\nadd d 2 5\nput h 3 4\nput t 9 1\npush v 6\ny = len v\nz = count t 0 20\nremove h 3\nw = pop v\ncommit\n"

pub a_transaction_of_every_kind_0_1_1 : undrawn (played a_transaction_of_every_kind 0 0 (number 0 ∷ number 0 ∷ value (pos 0) ∷ number 0 ∷ number 0 ∷ value (pos 3) ∷ number 0 ∷ number 0 ∷ value (pos 7) ∷ number 0 ∷ number 0 ∷ value (pos 0) ∷ value (pos 0) ∷ value (pos 0) ∷ value (pos 0) ∷ number 0 ∷ number 0 ∷ value (pos 1) ∷ value (negsuc 9223372036854775807) ∷ value (pos 9223372036854775807) ∷ value (pos 0) ∷ value (pos 0) ∷ value (pos 0) ∷ number 0 ∷ number 0 ∷ value (pos 0) ∷ value (pos 0) ∷ value (pos 0) ∷ value (pos 0) ∷ value (pos 0) ∷ value (pos 0) ∷ value (pos 0) ∷ value (pos 0) ∷ value (pos 0) ∷ value (pos 0) ∷ value (pos 0) ∷ value (pos 0) ∷ value (pos 0) ∷ value (pos 0) ∷ value (pos 0) ∷ value (pos 0) ∷ number 0 ∷ number 0 ∷ value (pos 0) ∷ number 0 ∷ number 0 ∷ value (pos 0) ∷ number 0 ∷ number 0 ∷ number 0 ∷ number 0 ∷ number 0 ∷ number 0 ∷ number 0 ∷ number 0 ∷ number 0 ∷ number 0 ∷ number 0 ∷ value (pos 3) ∷ value (pos 7) ∷ value (pos 0) ∷ number 0 ∷ value (pos 1) ∷ value (negsuc 9223372036854775807) ∷ value (pos 9223372036854775807) ∷ value (pos 0) ∷ value (pos 0) ∷ value (pos 0) ∷ number 0 ∷ value (pos 0) ∷ number 0 ∷ number 0 ∷ number 1 ∷ number 0 ∷ number 1 ∷ number 1 ∷ number 0 ∷ number 0 ∷ number 0 ∷ number 0 ∷ number 0 ∷ number 0 ∷ number 0 ∷ number 0 ∷ number 0 ∷ number 0 ∷ number 0 ∷ number 0 ∷ number 0 ∷ number 0 ∷ number 0 ∷ number 0 ∷ number 0 ∷ number 0 ∷ number 0 ∷ number 0 ∷ number 0 ∷ number 0 ∷ number 0 ∷ []))
    ≡ on (Start) ∷ on (Open 0) ∷ on (Word 0 0) ∷ says (Close 0) (Value (pos 0) ∷ []) ∷ on (Open 1) ∷ on (Word 1 0) ∷ says (Close 1) (Done ∷ Done ∷ []) ∷ on (Open 4) ∷ on (Word 4 0) ∷ says (Close 4) (Done ∷ []) ∷ on (Open 8) ∷ on (Word 8 0) ∷ on (Word 8 1) ∷ on (Word 8 2) ∷ on (Word 8 3) ∷ says (Close 8) (Done ∷ []) ∷ on (Open 12) ∷ on (Word 12 0) ∷ on (Word 12 1) ∷ on (Word 12 2) ∷ on (Word 12 3) ∷ on (Word 12 4) ∷ on (Word 12 5) ∷ on (Close 12) ∷ on (Open 13) ∷ on (Word 13 0) ∷ on (Word 13 1) ∷ on (Word 13 2) ∷ on (Word 13 3) ∷ on (Word 13 4) ∷ on (Word 13 5) ∷ on (Word 13 6) ∷ on (Word 13 7) ∷ on (Word 13 8) ∷ on (Word 13 9) ∷ on (Word 13 10) ∷ on (Word 13 11) ∷ on (Word 13 12) ∷ on (Word 13 13) ∷ on (Word 13 14) ∷ on (Word 13 15) ∷ on (Close 13) ∷ on (Open 11) ∷ on (Word 11 0) ∷ says (Close 11) (Done ∷ []) ∷ on (Open 31) ∷ on (Word 31 0) ∷ says (Close 31) (Done ∷ Value (pos 1) ∷ Value (pos 1) ∷ Flag true ∷ Value (pos 6) ∷ []) ∷ on (Lock 1) ∷ on (Lock 3) ∷ on (Lock 4) ∷ on (Lock 8) ∷ on (Lock 9) ∷ on (Lock 11) ∷ on (Lock 13) ∷ on (Lock 14) ∷ on (Lock 31) ∷ on (Lock 32) ∷ on (Word 1 0) ∷ on (Word 4 0) ∷ on (Word 11 0) ∷ on (Test 12) ∷ on (Word 12 0) ∷ on (Word 12 1) ∷ on (Word 12 2) ∷ on (Word 12 3) ∷ on (Word 12 4) ∷ on (Word 12 5) ∷ on (Close 12) ∷ on (Word 31 0) ∷ on (Draw [] [] []) ∷ on (Check 0) ∷ on (Check 8) ∷ on (Check 12) ∷ on (Check 13) ∷ on (Check 31) ∷ on (Decide true) ∷ on (Put 1 0 (pos 5)) ∷ on (Put 3 0 (pos 0)) ∷ on (Put 4 0 (pos 12)) ∷ on (Put 8 0 (pos 0)) ∷ on (Put 8 1 (pos 3)) ∷ on (Put 9 0 (pos 4)) ∷ on (Put 11 0 (pos 1)) ∷ on (Put 13 0 (pos 1)) ∷ on (Put 13 1 (pos 9)) ∷ on (Put 14 0 (pos 1)) ∷ on (Put 31 0 (pos 0)) ∷ on (Put 32 0 (pos 6)) ∷ on (Release 1) ∷ on (Release 3) ∷ on (Release 4) ∷ on (Release 8) ∷ on (Release 9) ∷ on (Release 11) ∷ on (Release 13) ∷ on (Release 14) ∷ on (Release 31) ∷ ends_with (Release 32) ([]) (Wrote 1) ∷ []
unfolding digits int_wrap
a_transaction_of_every_kind_0_1_1 = refl

-- cancelled
abbrev cancelled : List ℕ
cancelled = codes "box a 0\nbox b 0\nthread\nbegin\nx = get a\nset b 1\nif x eq 0\ncancel\nend\ncommit\nschedule 0:20\n"

pub cancelled_0_1_1 : played cancelled 0 0 (number 0 ∷ number 0 ∷ value (pos 0) ∷ number 0 ∷ [])
    ≡ on (Start) ∷ on (Open 0) ∷ on (Word 0 0) ∷ ends_with (Close 0) (Value (pos 0) ∷ Done ∷ []) (Cancelled 0) ∷ []
unfolding digits int_wrap
cancelled_0_1_1 = refl

-- changed_at_the_check_of_a_test
abbrev changed_at_the_check_of_a_test : List ℕ
changed_at_the_check_of_a_test = codes "counter c 10\nbox b 0\nthread\nbegin\nx = test c ge 5\nset b 1\ncommit\nthread\nbegin\nadd c 3\ncommit\nschedule 0:9 1:20 0:20\n"

pub changed_at_the_check_of_a_test_0_1_1 : played changed_at_the_check_of_a_test 0 0 (number 0 ∷ number 0 ∷ value (pos 10) ∷ number 0 ∷ number 0 ∷ number 0 ∷ value (pos 10) ∷ number 0 ∷ number 0 ∷ number 4 ∷ number 0 ∷ number 0 ∷ [])
    ≡ on (Start) ∷ on (Open 1) ∷ on (Word 1 0) ∷ says (Close 1) (Flag true ∷ Done ∷ []) ∷ on (Lock 0) ∷ on (Test 1) ∷ on (Word 1 0) ∷ on (Close 1) ∷ on (Draw ((0, C.Put (pos 1) ∷ []) ∷ []) ([]) (1 ∷ [])) ∷ on (Check 1) ∷ on (Decide false) ∷ ends_with (Unlock 0) ([]) (Changed 0 1 2) ∷ []
unfolding digits int_wrap
changed_at_the_check_of_a_test_0_1_1 = refl

pub changed_at_the_check_of_a_test_1_1_1 : played changed_at_the_check_of_a_test 1 0 (number 1 ∷ number 0 ∷ value (pos 10) ∷ number 0 ∷ number 0 ∷ value (pos 10) ∷ number 1 ∷ number 0 ∷ number 0 ∷ number 0 ∷ [])
    ≡ on (Start) ∷ on (Open 1) ∷ on (Word 1 0) ∷ says (Close 1) (Done ∷ []) ∷ on (Lock 1) ∷ on (Word 1 0) ∷ on (Draw ((1, C.Add (pos 3) ∷ []) ∷ []) ([]) (1 ∷ [])) ∷ on (Decide true) ∷ on (Put 1 0 (pos 13)) ∷ ends_with (Release 1) ([]) (Wrote 2) ∷ []
unfolding digits int_wrap
changed_at_the_check_of_a_test_1_1_1 = refl

pub changed_at_the_check_of_a_test_0_1_2 : played changed_at_the_check_of_a_test 0 0 (number 2 ∷ number 4 ∷ value (pos 13) ∷ number 4 ∷ number 0 ∷ number 4 ∷ value (pos 13) ∷ number 4 ∷ number 2 ∷ number 4 ∷ number 0 ∷ number 0 ∷ number 0 ∷ [])
    ≡ on (Start) ∷ on (Open 1) ∷ on (Word 1 0) ∷ says (Close 1) (Flag true ∷ Done ∷ []) ∷ on (Lock 0) ∷ on (Test 1) ∷ on (Word 1 0) ∷ on (Close 1) ∷ on (Draw ((0, C.Put (pos 1) ∷ []) ∷ []) ([]) (1 ∷ [])) ∷ on (Check 1) ∷ on (Decide true) ∷ on (Put 0 0 (pos 1)) ∷ ends_with (Release 0) ([]) (Wrote 3) ∷ []
unfolding digits int_wrap
changed_at_the_check_of_a_test_0_1_2 = refl

-- changed_at_the_close
abbrev changed_at_the_close : List ℕ
changed_at_the_close = codes "box a 0\nbox b 0\nthread\nbegin\nx = get a\ny = get b\ncommit\nthread\nbegin\nset a 1\ncommit\nschedule 0:3 1:20 0:20\n"

pub changed_at_the_close_0_1_1 : played changed_at_the_close 0 0 (number 0 ∷ number 0 ∷ value (pos 0) ∷ number 2 ∷ [])
    ≡ on (Start) ∷ on (Open 0) ∷ on (Word 0 0) ∷ ends_with (Close 0) ([]) (Changed 0 0 1) ∷ []
unfolding digits int_wrap
changed_at_the_close_0_1_1 = refl

pub changed_at_the_close_1_1_1 : played changed_at_the_close 1 0 (number 0 ∷ number 0 ∷ number 0 ∷ number 0 ∷ number 0 ∷ number 0 ∷ [])
    ≡ says (Start) (Done ∷ []) ∷ on (Lock 0) ∷ on (Draw ((0, C.Put (pos 1) ∷ []) ∷ []) ([]) ([])) ∷ on (Decide true) ∷ on (Put 0 0 (pos 1)) ∷ ends_with (Release 0) ([]) (Wrote 1) ∷ []
unfolding digits int_wrap
changed_at_the_close_1_1_1 = refl

pub changed_at_the_close_0_1_2 : played changed_at_the_close 0 0 (number 1 ∷ number 2 ∷ value (pos 1) ∷ number 2 ∷ number 0 ∷ value (pos 0) ∷ number 0 ∷ [])
    ≡ on (Start) ∷ on (Open 0) ∷ on (Word 0 0) ∷ says (Close 0) (Value (pos 1) ∷ []) ∷ on (Open 1) ∷ on (Word 1 0) ∷ ends_with (Close 1) (Value (pos 0) ∷ []) (Read 1) ∷ []
unfolding digits int_wrap
changed_at_the_close_0_1_2 = refl

-- changed_at_the_close_of_a_test
abbrev changed_at_the_close_of_a_test : List ℕ
changed_at_the_close_of_a_test = codes "counter c 10\nbox b 0\nthread\nbegin\nx = test c ge 5\nset b 1\ncommit\nthread\nbegin\nadd c 3\ncommit\nschedule 0:7 1:20 0:20\n"

pub changed_at_the_close_of_a_test_0_1_1 : played changed_at_the_close_of_a_test 0 0 (number 0 ∷ number 0 ∷ value (pos 10) ∷ number 0 ∷ number 0 ∷ number 0 ∷ value (pos 10) ∷ number 2 ∷ number 0 ∷ [])
    ≡ on (Start) ∷ on (Open 1) ∷ on (Word 1 0) ∷ says (Close 1) (Flag true ∷ Done ∷ []) ∷ on (Lock 0) ∷ on (Test 1) ∷ on (Word 1 0) ∷ on (Close 1) ∷ ends_with (Unlock 0) ([]) (Changed 0 1 1) ∷ []
unfolding digits int_wrap
changed_at_the_close_of_a_test_0_1_1 = refl

pub changed_at_the_close_of_a_test_1_1_1 : played changed_at_the_close_of_a_test 1 0 (number 0 ∷ number 0 ∷ value (pos 10) ∷ number 0 ∷ number 0 ∷ value (pos 10) ∷ number 0 ∷ number 0 ∷ number 0 ∷ number 0 ∷ [])
    ≡ on (Start) ∷ on (Open 1) ∷ on (Word 1 0) ∷ says (Close 1) (Done ∷ []) ∷ on (Lock 1) ∷ on (Word 1 0) ∷ on (Draw ((1, C.Add (pos 3) ∷ []) ∷ []) ([]) (1 ∷ [])) ∷ on (Decide true) ∷ on (Put 1 0 (pos 13)) ∷ ends_with (Release 1) ([]) (Wrote 1) ∷ []
unfolding digits int_wrap
changed_at_the_close_of_a_test_1_1_1 = refl

pub changed_at_the_close_of_a_test_0_1_2 : played changed_at_the_close_of_a_test 0 0 (number 1 ∷ number 2 ∷ value (pos 13) ∷ number 2 ∷ number 0 ∷ number 2 ∷ value (pos 13) ∷ number 2 ∷ number 1 ∷ number 2 ∷ number 0 ∷ number 0 ∷ number 0 ∷ [])
    ≡ on (Start) ∷ on (Open 1) ∷ on (Word 1 0) ∷ says (Close 1) (Flag true ∷ Done ∷ []) ∷ on (Lock 0) ∷ on (Test 1) ∷ on (Word 1 0) ∷ on (Close 1) ∷ on (Draw ((0, C.Put (pos 1) ∷ []) ∷ []) ([]) (1 ∷ [])) ∷ on (Check 1) ∷ on (Decide true) ∷ on (Put 0 0 (pos 1)) ∷ ends_with (Release 0) ([]) (Wrote 2) ∷ []
unfolding digits int_wrap
changed_at_the_close_of_a_test_0_1_2 = refl

-- changed_at_the_reclose
abbrev changed_at_the_reclose : List ℕ
changed_at_the_reclose = codes "counter c 10\nbox b 0\nthread\nbegin\nx = test c ge 5\ny = get b\ncommit\nthread\nbegin\nset b 1\ncommit\nbegin\nadd c 1\ncommit\nschedule 0:4 1:6 0:4 1:20 0:20\n"

pub changed_at_the_reclose_0_1_1 : played changed_at_the_reclose 0 0 (number 0 ∷ number 0 ∷ value (pos 10) ∷ number 0 ∷ number 2 ∷ number 1 ∷ number 0 ∷ value (pos 10) ∷ number 4 ∷ [])
    ≡ on (Start) ∷ on (Open 1) ∷ on (Word 1 0) ∷ says (Close 1) (Flag true ∷ []) ∷ on (Open 0) ∷ on (Renew) ∷ on (Open 1) ∷ on (Word 1 0) ∷ ends_with (Close 1) ([]) (Changed 0 1 2) ∷ []
unfolding digits int_wrap
changed_at_the_reclose_0_1_1 = refl

pub changed_at_the_reclose_1_1_1 : played changed_at_the_reclose 1 0 (number 0 ∷ number 0 ∷ number 0 ∷ number 0 ∷ number 0 ∷ number 0 ∷ [])
    ≡ says (Start) (Done ∷ []) ∷ on (Lock 0) ∷ on (Draw ((0, C.Put (pos 1) ∷ []) ∷ []) ([]) ([])) ∷ on (Decide true) ∷ on (Put 0 0 (pos 1)) ∷ ends_with (Release 0) ([]) (Wrote 1) ∷ []
unfolding digits int_wrap
changed_at_the_reclose_1_1_1 = refl

pub changed_at_the_reclose_1_2_1 : played changed_at_the_reclose 1 1 (number 1 ∷ number 0 ∷ value (pos 10) ∷ number 0 ∷ number 0 ∷ value (pos 10) ∷ number 1 ∷ number 0 ∷ number 0 ∷ number 0 ∷ [])
    ≡ on (Start) ∷ on (Open 1) ∷ on (Word 1 0) ∷ says (Close 1) (Done ∷ []) ∷ on (Lock 1) ∷ on (Word 1 0) ∷ on (Draw ((1, C.Add (pos 1) ∷ []) ∷ []) ([]) (1 ∷ [])) ∷ on (Decide true) ∷ on (Put 1 0 (pos 11)) ∷ ends_with (Release 1) ([]) (Wrote 2) ∷ []
unfolding digits int_wrap
changed_at_the_reclose_1_2_1 = refl

pub changed_at_the_reclose_0_1_2 : played changed_at_the_reclose 0 0 (number 2 ∷ number 4 ∷ value (pos 11) ∷ number 4 ∷ number 2 ∷ value (pos 1) ∷ number 2 ∷ [])
    ≡ on (Start) ∷ on (Open 1) ∷ on (Word 1 0) ∷ says (Close 1) (Flag true ∷ []) ∷ on (Open 0) ∷ on (Word 0 0) ∷ ends_with (Close 0) (Value (pos 1) ∷ []) (Read 2) ∷ []
unfolding digits int_wrap
changed_at_the_reclose_0_1_2 = refl

-- extended_in_two_calls
abbrev extended_in_two_calls : List ℕ
extended_in_two_calls = codes "box a 0\nbox b 0\nbox d 0\nthread\nbegin\nx = get a\ny = get b\nz = get d\ncommit\nthread\nbegin\nset b 1\ncommit\nbegin\nset d 2\ncommit\nschedule 0:4 1:6 0:6 1:6 0:20\n"

pub extended_in_two_calls_0_1_1 : played extended_in_two_calls 0 0 (number 0 ∷ number 0 ∷ value (pos 0) ∷ number 0 ∷ number 2 ∷ number 1 ∷ number 0 ∷ number 2 ∷ value (pos 1) ∷ number 2 ∷ number 4 ∷ number 2 ∷ number 0 ∷ number 2 ∷ number 4 ∷ value (pos 2) ∷ number 4 ∷ [])
    ≡ on (Start) ∷ on (Open 0) ∷ on (Word 0 0) ∷ says (Close 0) (Value (pos 0) ∷ []) ∷ on (Open 1) ∷ on (Renew) ∷ on (Recheck 0) ∷ on (Open 1) ∷ on (Word 1 0) ∷ says (Close 1) (Value (pos 1) ∷ []) ∷ on (Open 2) ∷ on (Renew) ∷ on (Recheck 0) ∷ on (Recheck 1) ∷ on (Open 2) ∷ on (Word 2 0) ∷ ends_with (Close 2) (Value (pos 2) ∷ []) (Read 2) ∷ []
unfolding digits int_wrap
extended_in_two_calls_0_1_1 = refl

pub extended_in_two_calls_1_1_1 : played extended_in_two_calls 1 0 (number 0 ∷ number 0 ∷ number 0 ∷ number 0 ∷ number 0 ∷ number 0 ∷ [])
    ≡ says (Start) (Done ∷ []) ∷ on (Lock 1) ∷ on (Draw ((1, C.Put (pos 1) ∷ []) ∷ []) ([]) ([])) ∷ on (Decide true) ∷ on (Put 1 0 (pos 1)) ∷ ends_with (Release 1) ([]) (Wrote 1) ∷ []
unfolding digits int_wrap
extended_in_two_calls_1_1_1 = refl

pub extended_in_two_calls_1_2_1 : played extended_in_two_calls 1 1 (number 1 ∷ number 0 ∷ number 1 ∷ number 0 ∷ number 0 ∷ number 0 ∷ [])
    ≡ says (Start) (Done ∷ []) ∷ on (Lock 2) ∷ on (Draw ((2, C.Put (pos 2) ∷ []) ∷ []) ([]) ([])) ∷ on (Decide true) ∷ on (Put 2 0 (pos 2)) ∷ ends_with (Release 2) ([]) (Wrote 2) ∷ []
unfolding digits int_wrap
extended_in_two_calls_1_2_1 = refl

-- extended_twice_in_a_call
abbrev extended_twice_in_a_call : List ℕ
extended_twice_in_a_call = codes "box a 0\nbox b 0\nthread\nbegin\nx = get a\ny = get b\ncommit\nthread\nbegin\nset b 1\ncommit\nbegin\nset b 2\ncommit\nschedule 0:4 1:6 0:3 1:6 0:20\n"

pub extended_twice_in_a_call_0_1_1 : played extended_twice_in_a_call 0 0 (number 0 ∷ number 0 ∷ value (pos 0) ∷ number 0 ∷ number 2 ∷ number 1 ∷ number 0 ∷ number 4 ∷ [])
    ≡ on (Start) ∷ on (Open 0) ∷ on (Word 0 0) ∷ says (Close 0) (Value (pos 0) ∷ []) ∷ on (Open 1) ∷ on (Renew) ∷ on (Recheck 0) ∷ ends_with (Open 1) ([]) (Changed 1 1 2) ∷ []
unfolding digits int_wrap
extended_twice_in_a_call_0_1_1 = refl

pub extended_twice_in_a_call_1_1_1 : played extended_twice_in_a_call 1 0 (number 0 ∷ number 0 ∷ number 0 ∷ number 0 ∷ number 0 ∷ number 0 ∷ [])
    ≡ says (Start) (Done ∷ []) ∷ on (Lock 1) ∷ on (Draw ((1, C.Put (pos 1) ∷ []) ∷ []) ([]) ([])) ∷ on (Decide true) ∷ on (Put 1 0 (pos 1)) ∷ ends_with (Release 1) ([]) (Wrote 1) ∷ []
unfolding digits int_wrap
extended_twice_in_a_call_1_1_1 = refl

pub extended_twice_in_a_call_1_2_1 : played extended_twice_in_a_call 1 1 (number 1 ∷ number 2 ∷ number 1 ∷ number 0 ∷ number 0 ∷ number 0 ∷ [])
    ≡ says (Start) (Done ∷ []) ∷ on (Lock 1) ∷ on (Draw ((1, C.Put (pos 2) ∷ []) ∷ []) ([]) ([])) ∷ on (Decide true) ∷ on (Put 1 0 (pos 2)) ∷ ends_with (Release 1) ([]) (Wrote 2) ∷ []
unfolding digits int_wrap
extended_twice_in_a_call_1_2_1 = refl

pub extended_twice_in_a_call_0_1_2 : played extended_twice_in_a_call 0 0 (number 2 ∷ number 0 ∷ value (pos 0) ∷ number 0 ∷ number 4 ∷ value (pos 2) ∷ number 4 ∷ [])
    ≡ on (Start) ∷ on (Open 0) ∷ on (Word 0 0) ∷ says (Close 0) (Value (pos 0) ∷ []) ∷ on (Open 1) ∷ on (Word 1 0) ∷ ends_with (Close 1) (Value (pos 2) ∷ []) (Read 2) ∷ []
unfolding digits int_wrap
extended_twice_in_a_call_0_1_2 = refl

-- extension_of_both
abbrev extension_of_both : List ℕ
extension_of_both = codes "box a 0\ncounter c 10\ncounter e 1\nbox b 0\nthread\nbegin\nx = get a\ny = test c ge 5\nw = get c\nu = test e lt 4\nz = get b\nadd e 2\ncommit\nthread\nbegin\nset b 1\ncommit\nschedule 0:10 1:6 0:50\n"

pub extension_of_both_0_1_1 : played extension_of_both 0 0 (number 0 ∷ number 0 ∷ value (pos 0) ∷ number 0 ∷ number 0 ∷ value (pos 10) ∷ number 0 ∷ number 0 ∷ value (pos 1) ∷ number 0 ∷ number 2 ∷ number 1 ∷ number 0 ∷ number 0 ∷ number 0 ∷ value (pos 1) ∷ number 0 ∷ number 2 ∷ value (pos 1) ∷ number 2 ∷ number 0 ∷ value (pos 1) ∷ number 1 ∷ number 0 ∷ number 2 ∷ number 0 ∷ number 0 ∷ number 0 ∷ number 0 ∷ [])
    ≡ on (Start) ∷ on (Open 0) ∷ on (Word 0 0) ∷ says (Close 0) (Value (pos 0) ∷ []) ∷ on (Open 2) ∷ on (Word 2 0) ∷ says (Close 2) (Flag true ∷ Value (pos 10) ∷ []) ∷ on (Open 3) ∷ on (Word 3 0) ∷ says (Close 3) (Flag true ∷ []) ∷ on (Open 1) ∷ on (Renew) ∷ on (Recheck 0) ∷ on (Recheck 2) ∷ on (Open 3) ∷ on (Word 3 0) ∷ on (Close 3) ∷ on (Open 1) ∷ on (Word 1 0) ∷ says (Close 1) (Value (pos 1) ∷ Done ∷ []) ∷ on (Lock 3) ∷ on (Word 3 0) ∷ on (Draw ((3, C.Add (pos 2) ∷ []) ∷ []) (0 ∷ 1 ∷ 2 ∷ []) (3 ∷ [])) ∷ on (Check 0) ∷ on (Check 1) ∷ on (Check 2) ∷ on (Decide true) ∷ on (Put 3 0 (pos 3)) ∷ ends_with (Release 3) ([]) (Wrote 2) ∷ []
unfolding digits int_wrap
extension_of_both_0_1_1 = refl

pub extension_of_both_1_1_1 : played extension_of_both 1 0 (number 0 ∷ number 0 ∷ number 0 ∷ number 0 ∷ number 0 ∷ number 0 ∷ [])
    ≡ says (Start) (Done ∷ []) ∷ on (Lock 1) ∷ on (Draw ((1, C.Put (pos 1) ∷ []) ∷ []) ([]) ([])) ∷ on (Decide true) ∷ on (Put 1 0 (pos 1)) ∷ ends_with (Release 1) ([]) (Wrote 1) ∷ []
unfolding digits int_wrap
extension_of_both_1_1_1 = refl

-- extension_of_nothing
abbrev extension_of_nothing : List ℕ
extension_of_nothing = codes "box a 0\nbox b 0\nthread\nbegin\ny = get b\ncommit\nthread\nbegin\nset b 1\ncommit\nschedule 0:1 1:6 0:20\n"

pub extension_of_nothing_0_1_1 : played extension_of_nothing 0 0 (number 0 ∷ number 2 ∷ number 1 ∷ number 2 ∷ value (pos 1) ∷ number 2 ∷ [])
    ≡ on (Start) ∷ on (Open 1) ∷ on (Renew) ∷ on (Open 1) ∷ on (Word 1 0) ∷ ends_with (Close 1) (Value (pos 1) ∷ []) (Read 1) ∷ []
unfolding digits int_wrap
extension_of_nothing_0_1_1 = refl

pub extension_of_nothing_1_1_1 : played extension_of_nothing 1 0 (number 0 ∷ number 0 ∷ number 0 ∷ number 0 ∷ number 0 ∷ number 0 ∷ [])
    ≡ says (Start) (Done ∷ []) ∷ on (Lock 1) ∷ on (Draw ((1, C.Put (pos 1) ∷ []) ∷ []) ([]) ([])) ∷ on (Decide true) ∷ on (Put 1 0 (pos 1)) ∷ ends_with (Release 1) ([]) (Wrote 1) ∷ []
unfolding digits int_wrap
extension_of_nothing_1_1_1 = refl

-- locked_at_the_check
abbrev locked_at_the_check : List ℕ
locked_at_the_check = codes "counter c 10\nbox b 0\nthread\nbegin\nx = test c ge 5\nset b 1\ncommit\nthread\nbegin\nadd c 3\ncommit\nschedule 0:9 1:5 0:3 1:20 0:20\n"

pub locked_at_the_check_0_1_1 : played locked_at_the_check 0 0 (number 0 ∷ number 0 ∷ value (pos 10) ∷ number 0 ∷ number 0 ∷ number 0 ∷ value (pos 10) ∷ number 0 ∷ number 0 ∷ number 1 ∷ number 0 ∷ number 0 ∷ [])
    ≡ on (Start) ∷ on (Open 1) ∷ on (Word 1 0) ∷ says (Close 1) (Flag true ∷ Done ∷ []) ∷ on (Lock 0) ∷ on (Test 1) ∷ on (Word 1 0) ∷ on (Close 1) ∷ on (Draw ((0, C.Put (pos 1) ∷ []) ∷ []) ([]) (1 ∷ [])) ∷ on (Check 1) ∷ on (Decide false) ∷ ends_with (Unlock 0) ([]) (Locked 0 1) ∷ []
unfolding digits int_wrap
locked_at_the_check_0_1_1 = refl

pub locked_at_the_check_1_1_1 : played locked_at_the_check 1 0 (number 1 ∷ number 0 ∷ value (pos 10) ∷ number 0 ∷ number 0 ∷ value (pos 10) ∷ number 1 ∷ number 0 ∷ number 0 ∷ number 0 ∷ [])
    ≡ on (Start) ∷ on (Open 1) ∷ on (Word 1 0) ∷ says (Close 1) (Done ∷ []) ∷ on (Lock 1) ∷ on (Word 1 0) ∷ on (Draw ((1, C.Add (pos 3) ∷ []) ∷ []) ([]) (1 ∷ [])) ∷ on (Decide true) ∷ on (Put 1 0 (pos 13)) ∷ ends_with (Release 1) ([]) (Wrote 2) ∷ []
unfolding digits int_wrap
locked_at_the_check_1_1_1 = refl

pub locked_at_the_check_0_1_2 : played locked_at_the_check 0 0 (number 2 ∷ number 4 ∷ value (pos 13) ∷ number 4 ∷ number 0 ∷ number 4 ∷ value (pos 13) ∷ number 4 ∷ number 2 ∷ number 4 ∷ number 0 ∷ number 0 ∷ number 0 ∷ [])
    ≡ on (Start) ∷ on (Open 1) ∷ on (Word 1 0) ∷ says (Close 1) (Flag true ∷ Done ∷ []) ∷ on (Lock 0) ∷ on (Test 1) ∷ on (Word 1 0) ∷ on (Close 1) ∷ on (Draw ((0, C.Put (pos 1) ∷ []) ∷ []) ([]) (1 ∷ [])) ∷ on (Check 1) ∷ on (Decide true) ∷ on (Put 0 0 (pos 1)) ∷ ends_with (Release 0) ([]) (Wrote 3) ∷ []
unfolding digits int_wrap
locked_at_the_check_0_1_2 = refl

-- locked_at_the_close
abbrev locked_at_the_close : List ℕ
locked_at_the_close = codes "box a 0\nbox b 0\nthread\nbegin\nx = get a\ny = get b\ncommit\nthread\nbegin\nset a 1\ncommit\nschedule 0:3 1:2 0:1 1:20 0:20\n"

pub locked_at_the_close_0_1_1 : played locked_at_the_close 0 0 (number 0 ∷ number 0 ∷ value (pos 0) ∷ number 1 ∷ [])
    ≡ on (Start) ∷ on (Open 0) ∷ on (Word 0 0) ∷ ends_with (Close 0) ([]) (Locked 0 0) ∷ []
unfolding digits int_wrap
locked_at_the_close_0_1_1 = refl

pub locked_at_the_close_1_1_1 : played locked_at_the_close 1 0 (number 0 ∷ number 0 ∷ number 0 ∷ number 0 ∷ number 0 ∷ number 0 ∷ [])
    ≡ says (Start) (Done ∷ []) ∷ on (Lock 0) ∷ on (Draw ((0, C.Put (pos 1) ∷ []) ∷ []) ([]) ([])) ∷ on (Decide true) ∷ on (Put 0 0 (pos 1)) ∷ ends_with (Release 0) ([]) (Wrote 1) ∷ []
unfolding digits int_wrap
locked_at_the_close_1_1_1 = refl

pub locked_at_the_close_0_1_2 : played locked_at_the_close 0 0 (number 1 ∷ number 2 ∷ value (pos 1) ∷ number 2 ∷ number 0 ∷ value (pos 0) ∷ number 0 ∷ [])
    ≡ on (Start) ∷ on (Open 0) ∷ on (Word 0 0) ∷ says (Close 0) (Value (pos 1) ∷ []) ∷ on (Open 1) ∷ on (Word 1 0) ∷ ends_with (Close 1) (Value (pos 0) ∷ []) (Read 1) ∷ []
unfolding digits int_wrap
locked_at_the_close_0_1_2 = refl

-- locked_at_the_close_of_a_test
abbrev locked_at_the_close_of_a_test : List ℕ
locked_at_the_close_of_a_test = codes "counter c 10\nbox b 0\nthread\nbegin\nx = test c ge 5\nset b 1\ncommit\nthread\nbegin\nadd c 3\ncommit\nschedule 0:7 1:5 0:3 1:20 0:20\n"

pub locked_at_the_close_of_a_test_0_1_1 : played locked_at_the_close_of_a_test 0 0 (number 0 ∷ number 0 ∷ value (pos 10) ∷ number 0 ∷ number 0 ∷ number 0 ∷ value (pos 10) ∷ number 1 ∷ number 0 ∷ [])
    ≡ on (Start) ∷ on (Open 1) ∷ on (Word 1 0) ∷ says (Close 1) (Flag true ∷ Done ∷ []) ∷ on (Lock 0) ∷ on (Test 1) ∷ on (Word 1 0) ∷ on (Close 1) ∷ ends_with (Unlock 0) ([]) (Locked 0 1) ∷ []
unfolding digits int_wrap
locked_at_the_close_of_a_test_0_1_1 = refl

pub locked_at_the_close_of_a_test_1_1_1 : played locked_at_the_close_of_a_test 1 0 (number 0 ∷ number 0 ∷ value (pos 10) ∷ number 0 ∷ number 0 ∷ value (pos 10) ∷ number 0 ∷ number 0 ∷ number 0 ∷ number 0 ∷ [])
    ≡ on (Start) ∷ on (Open 1) ∷ on (Word 1 0) ∷ says (Close 1) (Done ∷ []) ∷ on (Lock 1) ∷ on (Word 1 0) ∷ on (Draw ((1, C.Add (pos 3) ∷ []) ∷ []) ([]) (1 ∷ [])) ∷ on (Decide true) ∷ on (Put 1 0 (pos 13)) ∷ ends_with (Release 1) ([]) (Wrote 1) ∷ []
unfolding digits int_wrap
locked_at_the_close_of_a_test_1_1_1 = refl

pub locked_at_the_close_of_a_test_0_1_2 : played locked_at_the_close_of_a_test 0 0 (number 0 ∷ number 2 ∷ number 1 ∷ number 2 ∷ value (pos 13) ∷ number 2 ∷ number 0 ∷ number 2 ∷ value (pos 13) ∷ number 2 ∷ number 1 ∷ number 2 ∷ number 0 ∷ number 0 ∷ number 0 ∷ [])
    ≡ on (Start) ∷ on (Open 1) ∷ on (Renew) ∷ on (Open 1) ∷ on (Word 1 0) ∷ says (Close 1) (Flag true ∷ Done ∷ []) ∷ on (Lock 0) ∷ on (Test 1) ∷ on (Word 1 0) ∷ on (Close 1) ∷ on (Draw ((0, C.Put (pos 1) ∷ []) ∷ []) ([]) (1 ∷ [])) ∷ on (Check 1) ∷ on (Decide true) ∷ on (Put 0 0 (pos 1)) ∷ ends_with (Release 0) ([]) (Wrote 2) ∷ []
unfolding digits int_wrap
locked_at_the_close_of_a_test_0_1_2 = refl

-- locked_at_the_recheck
abbrev locked_at_the_recheck : List ℕ
locked_at_the_recheck = codes "box a 0\nbox b 0\nthread\nbegin\nx = get a\ny = get b\ncommit\nthread\nbegin\nset b 1\ncommit\nbegin\nset a 2\ncommit\nschedule 0:4 1:6 0:2 1:2 0:1 1:9 0:20\n"

pub locked_at_the_recheck_0_1_1 : played locked_at_the_recheck 0 0 (number 0 ∷ number 0 ∷ value (pos 0) ∷ number 0 ∷ number 2 ∷ number 1 ∷ number 1 ∷ [])
    ≡ on (Start) ∷ on (Open 0) ∷ on (Word 0 0) ∷ says (Close 0) (Value (pos 0) ∷ []) ∷ on (Open 1) ∷ on (Renew) ∷ ends_with (Recheck 0) ([]) (Locked 0 0) ∷ []
unfolding digits int_wrap
locked_at_the_recheck_0_1_1 = refl

pub locked_at_the_recheck_1_1_1 : played locked_at_the_recheck 1 0 (number 0 ∷ number 0 ∷ number 0 ∷ number 0 ∷ number 0 ∷ number 0 ∷ [])
    ≡ says (Start) (Done ∷ []) ∷ on (Lock 1) ∷ on (Draw ((1, C.Put (pos 1) ∷ []) ∷ []) ([]) ([])) ∷ on (Decide true) ∷ on (Put 1 0 (pos 1)) ∷ ends_with (Release 1) ([]) (Wrote 1) ∷ []
unfolding digits int_wrap
locked_at_the_recheck_1_1_1 = refl

pub locked_at_the_recheck_1_2_1 : played locked_at_the_recheck 1 1 (number 1 ∷ number 0 ∷ number 1 ∷ number 0 ∷ number 0 ∷ number 0 ∷ [])
    ≡ says (Start) (Done ∷ []) ∷ on (Lock 0) ∷ on (Draw ((0, C.Put (pos 2) ∷ []) ∷ []) ([]) ([])) ∷ on (Decide true) ∷ on (Put 0 0 (pos 2)) ∷ ends_with (Release 0) ([]) (Wrote 2) ∷ []
unfolding digits int_wrap
locked_at_the_recheck_1_2_1 = refl

pub locked_at_the_recheck_0_1_2 : played locked_at_the_recheck 0 0 (number 2 ∷ number 4 ∷ value (pos 2) ∷ number 4 ∷ number 2 ∷ value (pos 1) ∷ number 2 ∷ [])
    ≡ on (Start) ∷ on (Open 0) ∷ on (Word 0 0) ∷ says (Close 0) (Value (pos 2) ∷ []) ∷ on (Open 1) ∷ on (Word 1 0) ∷ ends_with (Close 1) (Value (pos 1) ∷ []) (Read 2) ∷ []
unfolding digits int_wrap
locked_at_the_recheck_0_1_2 = refl

-- locked_at_the_reopening
abbrev locked_at_the_reopening : List ℕ
locked_at_the_reopening = codes "counter c 10\nbox b 0\nthread\nbegin\nx = test c ge 5\ny = get b\ncommit\nthread\nbegin\nset b 1\ncommit\nbegin\nadd c 1\ncommit\nschedule 0:4 1:6 0:2 1:5 0:1 1:20 0:20\n"

pub locked_at_the_reopening_0_1_1 : played locked_at_the_reopening 0 0 (number 0 ∷ number 0 ∷ value (pos 10) ∷ number 0 ∷ number 2 ∷ number 1 ∷ number 1 ∷ [])
    ≡ on (Start) ∷ on (Open 1) ∷ on (Word 1 0) ∷ says (Close 1) (Flag true ∷ []) ∷ on (Open 0) ∷ on (Renew) ∷ ends_with (Open 1) ([]) (Locked 0 1) ∷ []
unfolding digits int_wrap
locked_at_the_reopening_0_1_1 = refl

pub locked_at_the_reopening_1_1_1 : played locked_at_the_reopening 1 0 (number 0 ∷ number 0 ∷ number 0 ∷ number 0 ∷ number 0 ∷ number 0 ∷ [])
    ≡ says (Start) (Done ∷ []) ∷ on (Lock 0) ∷ on (Draw ((0, C.Put (pos 1) ∷ []) ∷ []) ([]) ([])) ∷ on (Decide true) ∷ on (Put 0 0 (pos 1)) ∷ ends_with (Release 0) ([]) (Wrote 1) ∷ []
unfolding digits int_wrap
locked_at_the_reopening_1_1_1 = refl

pub locked_at_the_reopening_1_2_1 : played locked_at_the_reopening 1 1 (number 1 ∷ number 0 ∷ value (pos 10) ∷ number 0 ∷ number 0 ∷ value (pos 10) ∷ number 1 ∷ number 0 ∷ number 0 ∷ number 0 ∷ [])
    ≡ on (Start) ∷ on (Open 1) ∷ on (Word 1 0) ∷ says (Close 1) (Done ∷ []) ∷ on (Lock 1) ∷ on (Word 1 0) ∷ on (Draw ((1, C.Add (pos 1) ∷ []) ∷ []) ([]) (1 ∷ [])) ∷ on (Decide true) ∷ on (Put 1 0 (pos 11)) ∷ ends_with (Release 1) ([]) (Wrote 2) ∷ []
unfolding digits int_wrap
locked_at_the_reopening_1_2_1 = refl

pub locked_at_the_reopening_0_1_2 : played locked_at_the_reopening 0 0 (number 2 ∷ number 4 ∷ value (pos 11) ∷ number 4 ∷ number 2 ∷ value (pos 1) ∷ number 2 ∷ [])
    ≡ on (Start) ∷ on (Open 1) ∷ on (Word 1 0) ∷ says (Close 1) (Flag true ∷ []) ∷ on (Open 0) ∷ on (Word 0 0) ∷ ends_with (Close 0) (Value (pos 1) ∷ []) (Read 2) ∷ []
unfolding digits int_wrap
locked_at_the_reopening_0_1_2 = refl

-- locked_at_the_test
abbrev locked_at_the_test : List ℕ
locked_at_the_test = codes "counter c 10\nbox b 0\nthread\nbegin\nx = test c ge 5\nset b 1\ncommit\nthread\nbegin\nadd c 3\ncommit\nschedule 0:5 1:5 0:3 1:20 0:20\n"

pub locked_at_the_test_0_1_1 : played locked_at_the_test 0 0 (number 0 ∷ number 0 ∷ value (pos 10) ∷ number 0 ∷ number 0 ∷ number 1 ∷ number 0 ∷ [])
    ≡ on (Start) ∷ on (Open 1) ∷ on (Word 1 0) ∷ says (Close 1) (Flag true ∷ Done ∷ []) ∷ on (Lock 0) ∷ on (Test 1) ∷ ends_with (Unlock 0) ([]) (Locked 0 1) ∷ []
unfolding digits int_wrap
locked_at_the_test_0_1_1 = refl

pub locked_at_the_test_1_1_1 : played locked_at_the_test 1 0 (number 0 ∷ number 0 ∷ value (pos 10) ∷ number 0 ∷ number 0 ∷ value (pos 10) ∷ number 0 ∷ number 0 ∷ number 0 ∷ number 0 ∷ [])
    ≡ on (Start) ∷ on (Open 1) ∷ on (Word 1 0) ∷ says (Close 1) (Done ∷ []) ∷ on (Lock 1) ∷ on (Word 1 0) ∷ on (Draw ((1, C.Add (pos 3) ∷ []) ∷ []) ([]) (1 ∷ [])) ∷ on (Decide true) ∷ on (Put 1 0 (pos 13)) ∷ ends_with (Release 1) ([]) (Wrote 1) ∷ []
unfolding digits int_wrap
locked_at_the_test_1_1_1 = refl

pub locked_at_the_test_0_1_2 : played locked_at_the_test 0 0 (number 0 ∷ number 2 ∷ number 1 ∷ number 2 ∷ value (pos 13) ∷ number 2 ∷ number 0 ∷ number 2 ∷ value (pos 13) ∷ number 2 ∷ number 1 ∷ number 2 ∷ number 0 ∷ number 0 ∷ number 0 ∷ [])
    ≡ on (Start) ∷ on (Open 1) ∷ on (Renew) ∷ on (Open 1) ∷ on (Word 1 0) ∷ says (Close 1) (Flag true ∷ Done ∷ []) ∷ on (Lock 0) ∷ on (Test 1) ∷ on (Word 1 0) ∷ on (Close 1) ∷ on (Draw ((0, C.Put (pos 1) ∷ []) ∷ []) ([]) (1 ∷ [])) ∷ on (Check 1) ∷ on (Decide true) ∷ on (Put 0 0 (pos 1)) ∷ ends_with (Release 0) ([]) (Wrote 2) ∷ []
unfolding digits int_wrap
locked_at_the_test_0_1_2 = refl

-- newer_at_the_reopening
abbrev newer_at_the_reopening : List ℕ
newer_at_the_reopening = codes "counter c 10\nbox b 0\nthread\nbegin\nx = test c ge 5\ny = get b\ncommit\nthread\nbegin\nset b 1\ncommit\nbegin\nadd c 1\ncommit\nschedule 0:4 1:6 0:2 1:20 0:20\n"

pub newer_at_the_reopening_0_1_1 : played newer_at_the_reopening 0 0 (number 0 ∷ number 0 ∷ value (pos 10) ∷ number 0 ∷ number 2 ∷ number 1 ∷ number 4 ∷ [])
    ≡ on (Start) ∷ on (Open 1) ∷ on (Word 1 0) ∷ says (Close 1) (Flag true ∷ []) ∷ on (Open 0) ∷ on (Renew) ∷ ends_with (Open 1) ([]) (Changed 0 1 2) ∷ []
unfolding digits int_wrap
newer_at_the_reopening_0_1_1 = refl

pub newer_at_the_reopening_1_1_1 : played newer_at_the_reopening 1 0 (number 0 ∷ number 0 ∷ number 0 ∷ number 0 ∷ number 0 ∷ number 0 ∷ [])
    ≡ says (Start) (Done ∷ []) ∷ on (Lock 0) ∷ on (Draw ((0, C.Put (pos 1) ∷ []) ∷ []) ([]) ([])) ∷ on (Decide true) ∷ on (Put 0 0 (pos 1)) ∷ ends_with (Release 0) ([]) (Wrote 1) ∷ []
unfolding digits int_wrap
newer_at_the_reopening_1_1_1 = refl

pub newer_at_the_reopening_1_2_1 : played newer_at_the_reopening 1 1 (number 1 ∷ number 0 ∷ value (pos 10) ∷ number 0 ∷ number 0 ∷ value (pos 10) ∷ number 1 ∷ number 0 ∷ number 0 ∷ number 0 ∷ [])
    ≡ on (Start) ∷ on (Open 1) ∷ on (Word 1 0) ∷ says (Close 1) (Done ∷ []) ∷ on (Lock 1) ∷ on (Word 1 0) ∷ on (Draw ((1, C.Add (pos 1) ∷ []) ∷ []) ([]) (1 ∷ [])) ∷ on (Decide true) ∷ on (Put 1 0 (pos 11)) ∷ ends_with (Release 1) ([]) (Wrote 2) ∷ []
unfolding digits int_wrap
newer_at_the_reopening_1_2_1 = refl

pub newer_at_the_reopening_0_1_2 : played newer_at_the_reopening 0 0 (number 2 ∷ number 4 ∷ value (pos 11) ∷ number 4 ∷ number 2 ∷ value (pos 1) ∷ number 2 ∷ [])
    ≡ on (Start) ∷ on (Open 1) ∷ on (Word 1 0) ∷ says (Close 1) (Flag true ∷ []) ∷ on (Open 0) ∷ on (Word 0 0) ∷ ends_with (Close 0) (Value (pos 1) ∷ []) (Read 2) ∷ []
unfolding digits int_wrap
newer_at_the_reopening_0_1_2 = refl

-- own_set_read
abbrev own_set_read : List ℕ
own_set_read = codes "box a 0\nbox b 0\nthread\nbegin\nset a 1\nx = get a\nset a 2\ny = get b\ncommit\nthread\nbegin\nset b 2\ncommit\nschedule 1:20 0:20\n"

pub own_set_read_1_1_1 : played own_set_read 1 0 (number 0 ∷ number 0 ∷ number 0 ∷ number 0 ∷ number 0 ∷ number 0 ∷ [])
    ≡ says (Start) (Done ∷ []) ∷ on (Lock 1) ∷ on (Draw ((1, C.Put (pos 2) ∷ []) ∷ []) ([]) ([])) ∷ on (Decide true) ∷ on (Put 1 0 (pos 2)) ∷ ends_with (Release 1) ([]) (Wrote 1) ∷ []
unfolding digits int_wrap
own_set_read_1_1_1 = refl

pub own_set_read_0_1_1 : played own_set_read 0 0 (number 1 ∷ number 2 ∷ value (pos 2) ∷ number 2 ∷ number 0 ∷ number 1 ∷ number 2 ∷ number 0 ∷ number 0 ∷ number 0 ∷ [])
    ≡ says (Start) (Done ∷ Value (pos 1) ∷ Done ∷ []) ∷ on (Open 1) ∷ on (Word 1 0) ∷ says (Close 1) (Value (pos 2) ∷ []) ∷ on (Lock 0) ∷ on (Draw ((0, C.Put (pos 2) ∷ []) ∷ []) (1 ∷ []) ([])) ∷ on (Check 1) ∷ on (Decide true) ∷ on (Put 0 0 (pos 2)) ∷ ends_with (Release 0) ([]) (Wrote 2) ∷ []
unfolding digits int_wrap
own_set_read_0_1_1 = refl

-- second_lock_locked
abbrev second_lock_locked : List ℕ
second_lock_locked = codes "box a 0\nbox b 0\nthread\nbegin\nset a 1\nset b 1\ncommit\nthread\nbegin\nset b 2\ncommit\nschedule 1:2 0:4 1:20 0:20\n"

pub second_lock_locked_1_1_1 : played second_lock_locked 1 0 (number 0 ∷ number 0 ∷ number 0 ∷ number 0 ∷ number 0 ∷ number 0 ∷ [])
    ≡ says (Start) (Done ∷ []) ∷ on (Lock 1) ∷ on (Draw ((1, C.Put (pos 2) ∷ []) ∷ []) ([]) ([])) ∷ on (Decide true) ∷ on (Put 1 0 (pos 2)) ∷ ends_with (Release 1) ([]) (Wrote 1) ∷ []
unfolding digits int_wrap
second_lock_locked_1_1_1 = refl

pub second_lock_locked_0_1_1 : played second_lock_locked 0 0 (number 0 ∷ number 0 ∷ number 1 ∷ number 0 ∷ [])
    ≡ says (Start) (Done ∷ Done ∷ []) ∷ on (Lock 0) ∷ on (Lock 1) ∷ ends_with (Unlock 0) ([]) (Locked 0 1) ∷ []
unfolding digits int_wrap
second_lock_locked_0_1_1 = refl

pub second_lock_locked_0_1_2 : played second_lock_locked 0 0 (number 1 ∷ number 0 ∷ number 2 ∷ number 1 ∷ number 0 ∷ number 0 ∷ number 0 ∷ number 0 ∷ number 0 ∷ [])
    ≡ says (Start) (Done ∷ Done ∷ []) ∷ on (Lock 0) ∷ on (Lock 1) ∷ on (Draw ((0, C.Put (pos 1) ∷ []) ∷ (1, C.Put (pos 1) ∷ []) ∷ []) ([]) ([])) ∷ on (Decide true) ∷ on (Put 0 0 (pos 1)) ∷ on (Put 1 0 (pos 1)) ∷ on (Release 0) ∷ ends_with (Release 1) ([]) (Wrote 2) ∷ []
unfolding digits int_wrap
second_lock_locked_0_1_2 = refl

-- seen_written_and_added
abbrev seen_written_and_added : List ℕ
seen_written_and_added = codes "counter c 2\nbox b 0\nthread\nbegin\nadd c 3\nx = get c\nadd c 1\nset b 4\ncommit\nschedule 0:40\n"

pub seen_written_and_added_0_1_1 : played seen_written_and_added 0 0 (number 0 ∷ number 0 ∷ value (pos 2) ∷ number 0 ∷ number 0 ∷ number 0 ∷ value (pos 2) ∷ number 0 ∷ number 1 ∷ number 0 ∷ number 0 ∷ number 0 ∷ number 0 ∷ number 0 ∷ [])
    ≡ on (Start) ∷ on (Open 1) ∷ on (Word 1 0) ∷ says (Close 1) (Done ∷ Value (pos 5) ∷ Done ∷ Done ∷ []) ∷ on (Lock 0) ∷ on (Lock 1) ∷ on (Word 1 0) ∷ on (Draw ((0, C.Put (pos 4) ∷ []) ∷ (1, C.Add (pos 4) ∷ []) ∷ []) (1 ∷ []) ([])) ∷ on (Check 1) ∷ on (Decide true) ∷ on (Put 0 0 (pos 4)) ∷ on (Put 1 0 (pos 6)) ∷ on (Release 0) ∷ ends_with (Release 1) ([]) (Wrote 1) ∷ []
unfolding digits int_wrap
seen_written_and_added_0_1_1 = refl

-- tested_and_broken
abbrev tested_and_broken : List ℕ
tested_and_broken = codes "counter c 10\nbox b 0\nthread\nbegin\nx = test c ge 5\nset b 1\ncommit\nthread\nbegin\nadd c -6\ncommit\nschedule 0:4 1:20 0:20\n"

pub tested_and_broken_0_1_1 : played tested_and_broken 0 0 (number 0 ∷ number 0 ∷ value (pos 10) ∷ number 0 ∷ number 0 ∷ number 2 ∷ value (pos 4) ∷ number 2 ∷ number 0 ∷ [])
    ≡ on (Start) ∷ on (Open 1) ∷ on (Word 1 0) ∷ says (Close 1) (Flag true ∷ Done ∷ []) ∷ on (Lock 0) ∷ on (Test 1) ∷ on (Word 1 0) ∷ on (Close 1) ∷ ends_with (Unlock 0) ([]) (Changed 0 1 1) ∷ []
unfolding digits int_wrap
tested_and_broken_0_1_1 = refl

pub tested_and_broken_1_1_1 : played tested_and_broken 1 0 (number 0 ∷ number 0 ∷ value (pos 10) ∷ number 0 ∷ number 0 ∷ value (pos 10) ∷ number 0 ∷ number 0 ∷ number 0 ∷ number 0 ∷ [])
    ≡ on (Start) ∷ on (Open 1) ∷ on (Word 1 0) ∷ says (Close 1) (Done ∷ []) ∷ on (Lock 1) ∷ on (Word 1 0) ∷ on (Draw ((1, C.Add (negsuc 5) ∷ []) ∷ []) ([]) (1 ∷ [])) ∷ on (Decide true) ∷ on (Put 1 0 (pos 4)) ∷ ends_with (Release 1) ([]) (Wrote 1) ∷ []
unfolding digits int_wrap
tested_and_broken_1_1_1 = refl

pub tested_and_broken_0_1_2 : played tested_and_broken 0 0 (number 1 ∷ number 2 ∷ value (pos 4) ∷ number 2 ∷ number 0 ∷ number 2 ∷ value (pos 4) ∷ number 2 ∷ number 1 ∷ number 2 ∷ number 0 ∷ number 0 ∷ number 0 ∷ [])
    ≡ on (Start) ∷ on (Open 1) ∷ on (Word 1 0) ∷ says (Close 1) (Flag false ∷ Done ∷ []) ∷ on (Lock 0) ∷ on (Test 1) ∷ on (Word 1 0) ∷ on (Close 1) ∷ on (Draw ((0, C.Put (pos 1) ∷ []) ∷ []) ([]) (1 ∷ [])) ∷ on (Check 1) ∷ on (Decide true) ∷ on (Put 0 0 (pos 1)) ∷ ends_with (Release 0) ([]) (Wrote 2) ∷ []
unfolding digits int_wrap
tested_and_broken_0_1_2 = refl

-- tested_and_kept
abbrev tested_and_kept : List ℕ
tested_and_kept = codes "counter c 10\nbox b 0\nthread\nbegin\nx = test c ge 5\nset b 1\ncommit\nthread\nbegin\nadd c 3\ncommit\nschedule 0:4 1:20 0:20\n"

pub tested_and_kept_0_1_1 : played tested_and_kept 0 0 (number 0 ∷ number 0 ∷ value (pos 10) ∷ number 0 ∷ number 0 ∷ number 2 ∷ value (pos 13) ∷ number 2 ∷ number 1 ∷ number 2 ∷ number 0 ∷ number 0 ∷ number 0 ∷ [])
    ≡ on (Start) ∷ on (Open 1) ∷ on (Word 1 0) ∷ says (Close 1) (Flag true ∷ Done ∷ []) ∷ on (Lock 0) ∷ on (Test 1) ∷ on (Word 1 0) ∷ on (Close 1) ∷ on (Draw ((0, C.Put (pos 1) ∷ []) ∷ []) ([]) (1 ∷ [])) ∷ on (Check 1) ∷ on (Decide true) ∷ on (Put 0 0 (pos 1)) ∷ ends_with (Release 0) ([]) (Wrote 2) ∷ []
unfolding digits int_wrap
tested_and_kept_0_1_1 = refl

pub tested_and_kept_1_1_1 : played tested_and_kept 1 0 (number 0 ∷ number 0 ∷ value (pos 10) ∷ number 0 ∷ number 0 ∷ value (pos 10) ∷ number 0 ∷ number 0 ∷ number 0 ∷ number 0 ∷ [])
    ≡ on (Start) ∷ on (Open 1) ∷ on (Word 1 0) ∷ says (Close 1) (Done ∷ []) ∷ on (Lock 1) ∷ on (Word 1 0) ∷ on (Draw ((1, C.Add (pos 3) ∷ []) ∷ []) ([]) (1 ∷ [])) ∷ on (Decide true) ∷ on (Put 1 0 (pos 13)) ∷ ends_with (Release 1) ([]) (Wrote 1) ∷ []
unfolding digits int_wrap
tested_and_kept_1_1_1 = refl

-- upgrade_of_a_get
abbrev upgrade_of_a_get : List ℕ
upgrade_of_a_get = codes "counter c 2\nbox b 0\nthread\nbegin\nadd c 3\nx = get c\nadd c 1\nset b 4\ncommit\nthread\nbegin\nadd c 2\ncommit\nschedule 0:5 1:20 0:40\n"

pub upgrade_of_a_get_0_1_1 : played upgrade_of_a_get 0 0 (number 0 ∷ number 0 ∷ value (pos 2) ∷ number 0 ∷ number 0 ∷ number 2 ∷ value (pos 4) ∷ number 1 ∷ number 3 ∷ number 0 ∷ number 0 ∷ number 0 ∷ [])
    ≡ on (Start) ∷ on (Open 1) ∷ on (Word 1 0) ∷ says (Close 1) (Done ∷ Value (pos 5) ∷ Done ∷ Done ∷ []) ∷ on (Lock 0) ∷ on (Lock 1) ∷ on (Word 1 0) ∷ on (Draw ((0, C.Put (pos 4) ∷ []) ∷ (1, C.Add (pos 4) ∷ []) ∷ []) (1 ∷ []) ([])) ∷ on (Check 1) ∷ on (Decide false) ∷ on (Unlock 0) ∷ ends_with (Unlock 1) ([]) (Changed 0 1 1) ∷ []
unfolding digits int_wrap
upgrade_of_a_get_0_1_1 = refl

pub upgrade_of_a_get_1_1_1 : played upgrade_of_a_get 1 0 (number 0 ∷ number 0 ∷ value (pos 2) ∷ number 0 ∷ number 0 ∷ value (pos 2) ∷ number 0 ∷ number 0 ∷ number 0 ∷ number 0 ∷ [])
    ≡ on (Start) ∷ on (Open 1) ∷ on (Word 1 0) ∷ says (Close 1) (Done ∷ []) ∷ on (Lock 1) ∷ on (Word 1 0) ∷ on (Draw ((1, C.Add (pos 2) ∷ []) ∷ []) ([]) (1 ∷ [])) ∷ on (Decide true) ∷ on (Put 1 0 (pos 4)) ∷ ends_with (Release 1) ([]) (Wrote 1) ∷ []
unfolding digits int_wrap
upgrade_of_a_get_1_1_1 = refl

pub upgrade_of_a_get_0_1_2 : played upgrade_of_a_get 0 0 (number 2 ∷ number 2 ∷ value (pos 4) ∷ number 2 ∷ number 0 ∷ number 2 ∷ value (pos 4) ∷ number 2 ∷ number 3 ∷ number 0 ∷ number 0 ∷ number 0 ∷ number 0 ∷ number 0 ∷ [])
    ≡ on (Start) ∷ on (Open 1) ∷ on (Word 1 0) ∷ says (Close 1) (Done ∷ Value (pos 7) ∷ Done ∷ Done ∷ []) ∷ on (Lock 0) ∷ on (Lock 1) ∷ on (Word 1 0) ∷ on (Draw ((0, C.Put (pos 4) ∷ []) ∷ (1, C.Add (pos 4) ∷ []) ∷ []) (1 ∷ []) ([])) ∷ on (Check 1) ∷ on (Decide true) ∷ on (Put 0 0 (pos 4)) ∷ on (Put 1 0 (pos 8)) ∷ on (Release 0) ∷ ends_with (Release 1) ([]) (Wrote 3) ∷ []
unfolding digits int_wrap
upgrade_of_a_get_0_1_2 = refl
