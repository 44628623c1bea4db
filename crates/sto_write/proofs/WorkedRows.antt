-- Worked cases of version 2, computed on the definitions: their expected texts were written by hand.
use Rattle.std.proofs.Common.{◌≡◌, pos, negsuc, List, [], ◌∷◌, refl, Some, codes}
use Rattle.std.specs.Fmt.{digits}
use Rattle.sto_model.specs.Calls.{call_of}
use Rattle.sto_model.specs.declared.operation.Operation.TheVariants as model
use Rattle.sto_model.specs.declared.shape.Shape.TheVariants.{Single, Array, Hash}
use Rattle.sto_lang.specs.declared.arg.Arg.TheVariants.{Num}
use Rattle.sto_lang.specs.Statements.{Nothing, Ask}
use Rattle.sto_lang.specs.Objects.{Declaration}
use Rattle.sto_lang.specs.Scripts.{File}
use Rattle.sto_write.specs.Texts.{text_of, upgraded, call_text}

abbrev one_get : File
one_get =
    record {
      version = 1;
      declarations = record { name = codes "a"; shape = Single (pos 5); number = 0 } ∷ [];
      names = codes "t0" ∷ [];
      threads = (record { variables = codes "x" ∷ []; body = Ask (Some 0) 0 model.Get (Num (pos 0)) (Num (pos 0)) Nothing; weight = 2 } ∷ []) ∷ [];
      schedule = Some (record { thread = 0; steps = 3 } ∷ []);
    }

first_text : text_of one_get ≡ codes "box a 5\nthread\nbegin\nx = get a\ncommit\nschedule 0:3\n"
unfolding digits
first_text = refl

upgraded_text : text_of (upgraded one_get) ≡ codes "sto 2\nbox a 5\nthread t0\nbegin\nx = get a\ncommit\nschedule t0:3\n"
unfolding digits
upgraded_text = refl

-- calls as statements, with numbers for variables

abbrev three_objects : List Declaration
three_objects =
    record { name = codes "m"; shape = Hash 1 1; number = 2 } ∷ record { name = codes "a"; shape = Single (pos 5); number = 0 }
    ∷ record { name = codes "row"; shape = Array 4 (pos 0); number = 1 } ∷ []

get_of_box : call_text three_objects (call_of 0 model.Get (pos 0) (pos 0)) ≡ codes "get a"
unfolding digits
get_of_box = refl

set_in_array : call_text three_objects (call_of 1 model.Set (pos 3) (negsuc 6)) ≡ codes "set row 3 -7"
unfolding digits
set_in_array = refl

comparison_of_box : call_text three_objects (call_of 0 model.Test (pos 2) (pos 9)) ≡ codes "test a lt 9"
unfolding digits
comparison_of_box = refl

length_of_hash : call_text three_objects (call_of 2 model.Len (pos 0) (pos 0)) ≡ codes "len m"
unfolding digits
length_of_hash = refl
