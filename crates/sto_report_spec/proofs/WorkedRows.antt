-- Worked cases, computed on the definitions: their expected texts were written by hand.
use Rattle.std.proofs.Common.{◌≡◌, ℕ, List, zero, suc, pos, negsuc, [], ◌∷◌, refl, None, Some, codes, arith}
use Rattle.std.specs.Fmt.{digits}
use Rattle.std.specs.Int.{int_wrap}
use Rattle.json.specs.Print.{escape_byte}
use Rattle.json.proofs.OnLiterals.{json_on_literals}
use Rattle.sto_model.specs.declared.operation.Operation.TheVariants as op
use Rattle.sto_part.specs.declared.pred.Test.TheVariants.{Lt}
use Rattle.sto_model.specs.PlainReplies.{Value, Done}
use Rattle.sto_model.specs.declared.shape.Shape.TheVariants.{Single, Counter, Array}
use Rattle.sto_lang.specs.declared.arg.Arg.{Arg}
use Rattle.sto_lang.specs.declared.arg.Arg.TheVariants.{Num, Var}
use Rattle.sto_lang.specs.Statements.{Nothing, Ask, Sum, Diff, Choose, Cancel}
use Rattle.sto_lang.specs.Scripts.{Script, File}
use Rattle.sto_report_spec.specs.Orders.{IsOrder}
use Rattle.sto_report_spec.specs.Replay.{shown}
use Rattle.sto_report_spec.specs.Report.{report_of}
use Rattle.sto_report_spec.specs.Json.{json_of}
use Rattle.sto_report_spec.specs.NamedJson.{json_order_named, json_aborts_named}
use Rattle.sto_report_spec.specs.Named.{order_named}
use Rattle.sto_report_spec.specs.Aborts.{Abort, Changed}
use Rattle.sto_report_spec.specs.NamedAborts.{aborts_named}

-- the number 0 in the place of an argument that is not given
abbrev nought : Arg
nought = Num (pos 0)

-- one box, and one transaction that gets it
abbrev one_box : File
one_box =
    record {
      version = 1;
      declarations = record { name = codes "a"; shape = Single (pos 5); number = 0 } ∷ [];
      names = codes "t0" ∷ [];
      threads = (record { variables = codes "x" ∷ []; body = Ask (Some 0) 0 op.Get nought nought Nothing; weight = 2 } ∷ []) ∷ [];
      schedule = None;
    }

one_get : report_of one_box ((0, 1) ∷ []) [] ≡ codes "0 t0.1 read 5\nstate\na = 5\n"
unfolding digits int_wrap
one_get = refl

one_get_named : order_named (codes "t0" ∷ []) (codes "0 t0.1 read 5\nstate\na = 5\n") ≡ (0, 1) ∷ []
one_get_named = refl

-- two threads whose transactions add 1 to a box by a get and a set
abbrev adding : Script
adding =
    record {
      variables = codes "x" ∷ codes "y" ∷ [];
      body = Ask (Some 0) 0 op.Get nought nought (Sum 1 (Var 0) (Num (pos 1)) (Ask None 0 op.Set (Var 1) nought Nothing));
      weight = 4;
    }

abbrev lost_update : File
lost_update = record { version = 1; names = codes "t0" ∷ codes "t1" ∷ []; declarations = record { name = codes "a"; shape = Single (pos 0); number = 0 } ∷ []; threads = (adding ∷ []) ∷ (adding ∷ []) ∷ []; schedule = None }

lost_update_text : report_of lost_update ((1, 1) ∷ (0, 1) ∷ []) [] ≡ codes "1 t1.1 commit 0 ok\n2 t0.1 commit 1 ok\nstate\na = 2\n"
unfolding digits int_wrap
lost_update_text = refl

lost_update_order : IsOrder lost_update ((1, 1) ∷ (0, 1) ∷ [])
lost_update_order zero = refl
lost_update_order (suc zero) = refl
lost_update_order (suc (suc thread)) = grind arith

-- abort lines and lines of the state name no transaction
lost_update_named : order_named (codes "t0" ∷ codes "t1" ∷ []) (codes "1 t1.1 commit 0 ok\n2 t0.1 commit 1 ok\nabort t0.1 at 0 saw 0 ok changed a 0 by 1\nstate\na = 2\n") ≡ (1, 1) ∷ (0, 1) ∷ []
lost_update_named = refl

-- the abort line of an attempt that saw the declared state, and found the box changed by the first writer
abbrev lost_update_abort : Abort
lost_update_abort = record { place = (0, 1); seen = 0; replies = Value (pos 0) ∷ Done ∷ []; cause = Changed (record { object = codes "a"; part = 0 }) 1 }

lost_update_aborts : aborts_named (codes "t0" ∷ codes "t1" ∷ []) (codes "1 t1.1 commit 0 ok\n2 t0.1 commit 1 ok\nabort t0.1 at 0 saw 0 ok changed a 0 by 1\nstate\na = 2\n") ≡ lost_update_abort ∷ []
unfolding digits
lost_update_aborts = refl

lost_update_abort_line : report_of lost_update ((1, 1) ∷ (0, 1) ∷ []) (lost_update_abort ∷ []) ≡ codes "1 t1.1 commit 0 ok\n2 t0.1 commit 1 ok\nabort t0.1 at 0 saw 0 ok changed a 0 by 1\nstate\na = 2\n"
unfolding digits int_wrap
lost_update_abort_line = refl

-- the same report as an object
abbrev lost_update_object : List ℕ
lost_update_object = codes "{\"aborts\":[{\"at\":0,\"by\":1,\"cause\":\"changed\",\"object\":\"a\",\"part\":0,\"position\":1,\"saw\":[\"0\",\"ok\"],\"thread\":\"t0\"}],\"journal\":[{\"end\":\"commit\",\"k\":1,\"position\":1,\"replies\":[\"0\",\"ok\"],\"thread\":\"t1\"},{\"end\":\"commit\",\"k\":2,\"position\":1,\"replies\":[\"1\",\"ok\"],\"thread\":\"t0\"}],\"state\":[{\"name\":\"a\",\"text\":\"2\"}]}\n"

lost_update_json : json_of lost_update ((1, 1) ∷ (0, 1) ∷ []) (lost_update_abort ∷ []) ≡ lost_update_object
unfolding digits int_wrap escape_byte
lost_update_json = refl

lost_update_json_order : json_order_named (codes "t0" ∷ codes "t1" ∷ []) lost_update_object ≡ (1, 1) ∷ (0, 1) ∷ []
unfolding json_on_literals
lost_update_json_order = refl

lost_update_json_aborts : json_aborts_named (codes "t0" ∷ codes "t1" ∷ []) lost_update_object ≡ lost_update_abort ∷ []
unfolding json_on_literals
lost_update_json_aborts = refl

-- after the first writer the box holds 1
lost_update_shown : shown lost_update ((1, 1) ∷ (0, 1) ∷ []) 1 ≡ ((pos 0, pos 1) ∷ []) ∷ []
unfolding int_wrap
lost_update_shown = refl

-- a choice whose second branch cancels leaves the state as it was
abbrev choosing : Script
choosing =
    record {
      variables = codes "x" ∷ [];
      body = Ask (Some 0) 0 op.Get nought nought (Choose (Var 0) Lt (Num (pos 1)) (Ask None 0 op.Set (Num (pos 5)) nought Nothing) (Ask None 0 op.Set (Num (pos 9)) nought (Cancel Nothing)) Nothing);
      weight = 5;
    }

cancel_and_choice : report_of (record { version = 1; names = codes "t0" ∷ []; declarations = record { name = codes "a"; shape = Single (pos 1); number = 0 } ∷ []; threads = (choosing ∷ []) ∷ []; schedule = None }) ((0, 1) ∷ []) [] ≡ codes "0 t0.1 cancel 1 ok\nstate\na = 1\n"
unfolding digits int_wrap
cancel_and_choice = refl

-- the ends of the numbers of a counter, and an array asked beside its rows
abbrev ending : Script
ending =
    record {
      variables = codes "x" ∷ codes "y" ∷ [];
      body = Ask None 0 op.Add (Num (pos 1)) nought (Ask (Some 0) 0 op.Get nought nought (Ask (Some 1) 1 op.Get (Num (negsuc 0)) nought (Ask (Some 1) 1 op.Get (Num (pos 2)) nought (Ask None 1 op.Set (Num (pos 2)) (Num (pos 5)) (Ask (Some 1) 1 op.Get (Num (pos 1)) nought Nothing)))));
      weight = 7;
    }

ends_of_the_type : report_of
    (record {
      version = 1;
      names = codes "t0" ∷ [];
      declarations = record { name = codes "c"; shape = Counter (pos 9223372036854775807); number = 0 } ∷ record { name = codes "r"; shape = Array 2 (pos 0); number = 1 } ∷ [];
      threads = (ending ∷ []) ∷ [];
      schedule = None;
    })
    ((0, 1) ∷ []) [] ≡ codes "0 t0.1 read range 9223372036854775807 none none none 0\nstate\nc = 9223372036854775807\nr = [0,0]\n"
unfolding digits int_wrap
ends_of_the_type = refl

-- the same two transactions under names; the one of `up` found the box changed by the one of `down`
abbrev taking : Script
taking =
    record {
      variables = codes "x" ∷ codes "y" ∷ [];
      body = Ask (Some 0) 0 op.Get nought nought (Diff 1 (Var 0) (Num (pos 1)) (Ask None 0 op.Set (Var 1) nought Nothing));
      weight = 4;
    }

abbrev up_and_down : File
up_and_down =
    record {
      version = 2;
      declarations = record { name = codes "a"; shape = Single (pos 0); number = 0 } ∷ [];
      names = codes "up" ∷ codes "down" ∷ [];
      threads = (adding ∷ []) ∷ (taking ∷ []) ∷ [];
      schedule = Some (record { thread = 0; steps = 4 } ∷ record { thread = 1; steps = 10 } ∷ []);
    }

abbrev up_abort : Abort
up_abort = record { place = (0, 1); seen = 0; replies = Value (pos 0) ∷ Done ∷ []; cause = Changed (record { object = codes "a"; part = 0 }) 1 }

named_text : report_of up_and_down ((1, 1) ∷ (0, 1) ∷ []) (up_abort ∷ []) ≡ codes "1 down.1 commit 0 ok\n2 up.1 commit -1 ok\nabort up.1 at 0 saw 0 ok changed a 0 by 1\nstate\na = 0\n"
unfolding digits int_wrap
named_text = refl

named_order : order_named up_and_down.names (codes "1 down.1 commit 0 ok\n2 up.1 commit -1 ok\nabort up.1 at 0 saw 0 ok changed a 0 by 1\nstate\na = 0\n") ≡ (1, 1) ∷ (0, 1) ∷ []
named_order = refl

named_aborts : aborts_named up_and_down.names (codes "1 down.1 commit 0 ok\n2 up.1 commit -1 ok\nabort up.1 at 0 saw 0 ok changed a 0 by 1\nstate\na = 0\n") ≡ up_abort ∷ []
unfolding digits
named_aborts = refl

-- a name that no thread has names no place
unknown_name : order_named up_and_down.names (codes "1 left.1 commit 0 ok\n") ≡ []
unknown_name = refl
