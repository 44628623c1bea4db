use Rattle.std.proofs.Common.{◌≡◌, map, take, length}
use Rattle.sto_lang.specs.Objects.{with_numbers}
use Rattle.sto_lang.specs.ObjectTables.{objects_of}
use Rattle.sto_lang.specs.Views.{declaration}
use Rattle.sto_lang.proofs.objects.DeclaredObjects.into_decls.Given as goal

abbrev pub invariant-loop-place : goal.invariant-loop-place
invariant-loop-place l =
    (map declaration l.decls.items ≡ take l.place (with_numbers (objects_of (map (λ name. name.items) l.names.items) l.shapes.items) l.numbers.items)) × (length l.decls.items ≡ l.place)
