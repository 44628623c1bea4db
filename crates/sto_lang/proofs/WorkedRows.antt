-- Worked cases of version 2, computed on the definitions: their expected files and faults were written by hand.
use Rattle.std.proofs.Common.{◌≡◌, pos, [], ◌∷◌, refl, None, Some, Ok, codes}
use Rattle.std.specs.Fmt.{digits}
use Rattle.std.specs.Int.{int_wrap}
use Rattle.sto_model.specs.declared.operation.Operation.TheVariants as op
use Rattle.sto_model.specs.declared.shape.Shape.TheVariants.{Single, Hash, Vector}
use Rattle.sto_lang.specs.declared.arg.Arg.TheVariants.{Num, Var}
use Rattle.sto_lang.specs.declared.fault.FaultKind.TheVariants.{BadLine, WrongPlace, TakenName, UnknownName, WrongKind, OutOfLimits}
use Rattle.sto_lang.specs.Statements.{Nothing, Ask, Sum}
use Rattle.sto_lang.specs.Drafts.{opening}
use Rattle.sto_lang.specs.Files.{fault, with_lines}
use Rattle.sto_syntax.specs.Lines.{lines_of}

unnamed_thread : with_lines opening 1 (lines_of (codes "sto 2\nthread\n")) ≡ fault 2 BadLine
unfolding digits int_wrap
unnamed_thread = refl

taken_thread : with_lines opening 1 (lines_of (codes "sto 2\nthread p\nthread p\n")) ≡ fault 3 TakenName
unfolding digits int_wrap
taken_thread = refl

late_version : with_lines opening 1 (lines_of (codes "box a 1\nsto 2\n")) ≡ fault 2 WrongPlace
unfolding digits int_wrap
late_version = refl

third_version : with_lines opening 1 (lines_of (codes "sto 3\n")) ≡ fault 1 OutOfLimits
unfolding digits int_wrap
third_version = refl

unknown_thread : with_lines opening 1 (lines_of (codes "sto 2\nthread p\nschedule q:1\n")) ≡ fault 3 UnknownName
unfolding digits int_wrap
unknown_thread = refl

numbered_in_second : with_lines opening 1 (lines_of (codes "sto 2\nthread p\nschedule 0:1\n")) ≡ fault 3 BadLine
unfolding digits int_wrap
numbered_in_second = refl

no_threads : with_lines opening 1 (lines_of (codes "schedule 0:1\n")) ≡ fault 1 OutOfLimits
unfolding digits int_wrap
no_threads = refl

no_named_threads : with_lines opening 1 (lines_of (codes "sto 2\nschedule p:1\n")) ≡ fault 2 UnknownName
unfolding digits int_wrap
no_named_threads = refl

no_steps : with_lines opening 1 (lines_of (codes "sto 2\nthread p\nschedule p:0\n")) ≡ fault 3 OutOfLimits
unfolding digits int_wrap
no_steps = refl

large_hash : with_lines opening 1 (lines_of (codes "sto 2\nhash h 683 64\n")) ≡ fault 2 OutOfLimits
unfolding digits int_wrap
large_hash = refl

largest_hash : with_lines opening 1 (lines_of (codes "sto 2\nhash h 682 64\n"))
    ≡ Ok (record { version = 2; declarations = record { name = codes "h"; shape = Hash 682 64; number = 0 } ∷ []; names = []; threads = []; schedule = None })
unfolding digits int_wrap
largest_hash = refl

-- vectors are of version 2 alone
early_vector : with_lines opening 1 (lines_of (codes "vector q 2\n")) ≡ fault 1 BadLine
unfolding digits int_wrap
early_vector = refl

early_push : with_lines opening 1 (lines_of (codes "box a 0\nthread\nbegin\npush a 1\ncommit\n")) ≡ fault 4 BadLine
unfolding digits int_wrap
early_push = refl

early_pop : with_lines opening 1 (lines_of (codes "box a 0\nthread\nbegin\nx = pop a\ncommit\n")) ≡ fault 4 BadLine
unfolding digits int_wrap
early_pop = refl

wide_vector : with_lines opening 1 (lines_of (codes "sto 2\nvector q 4097\n")) ≡ fault 2 OutOfLimits
unfolding digits int_wrap
wide_vector = refl

push_of_a_box : with_lines opening 1 (lines_of (codes "sto 2\nbox a 0\nthread p\nbegin\npush a 1\ncommit\n")) ≡ fault 5 WrongKind
unfolding digits int_wrap
push_of_a_box = refl

vector_calls : with_lines opening 1 (lines_of (codes "sto 2\nvector q 2\nthread p\nbegin\npush q 5\nx = pop q\nx = test q ge 1\nx = get q 0\nx = len q\ncommit\n"))
    ≡ Ok (record {
      version = 2;
      declarations = record { name = codes "q"; shape = Vector 2; number = 0 } ∷ [];
      names = codes "p" ∷ [];
      threads = (record {
        variables = codes "x" ∷ [];
        body = Ask None 0 op.Push (Num (pos 5)) (Num (pos 0)) (Ask (Some 0) 0 op.Pop (Num (pos 0)) (Num (pos 0)) (Ask (Some 0) 0 op.Test (Num (pos 5)) (Num (pos 1)) (Ask (Some 0) 0 op.Get (Num (pos 0)) (Num (pos 0)) (Ask (Some 0) 0 op.Len (Num (pos 0)) (Num (pos 0)) Nothing))));
        weight = 6;
      } ∷ []) ∷ [];
      schedule = None;
    })
unfolding digits int_wrap
vector_calls = refl

named_threads : with_lines opening 1 (lines_of (codes "\nsto 2\nbox a 0\nthread up\nbegin\nx = get a\ny = sum x 1\nset a y\ncommit\nthread down\nschedule up:4 down:10\n"))
    ≡ Ok (record {
      version = 2;
      declarations = record { name = codes "a"; shape = Single (pos 0); number = 0 } ∷ [];
      names = codes "up" ∷ codes "down" ∷ [];
      threads = (record { variables = codes "x" ∷ codes "y" ∷ []; body = Ask (Some 0) 0 op.Get (Num (pos 0)) (Num (pos 0)) (Sum 1 (Var 0) (Num (pos 1)) (Ask None 0 op.Set (Var 1) (Num (pos 0)) Nothing)); weight = 4 } ∷ []) ∷ [] ∷ [];
      schedule = Some (record { thread = 0; steps = 4 } ∷ record { thread = 1; steps = 10 } ∷ []);
    })
unfolding digits int_wrap
named_threads = refl

numbered_threads : with_lines opening 1 (lines_of (codes "thread\nthread\nschedule 1:3\n"))
    ≡ Ok (record { version = 1; declarations = []; names = codes "t0" ∷ codes "t1" ∷ []; threads = [] ∷ [] ∷ []; schedule = Some (record { thread = 1; steps = 3 } ∷ []) })
unfolding digits int_wrap
numbered_threads = refl
