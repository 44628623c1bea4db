-- What code does, written call by call as the code is: each names its object and its numbers, and what follows by its answer.
use Rattle.std.specs.Prelude.{ℤ, pos, Bool, Option}
use Rattle.sto_part.specs.declared.pred.Test.{Test}
use Rattle.sto_model.specs.Operations.{test_number}
use Rattle.sto_model.specs.Calls.{call_of}
use Rattle.sto_model.specs.declared.operation.Operation.TheVariants.{Get, Set, Add, Test as TestWord, Take, Put, Remove, Has, Len, Next, Count, Push, Pop}
use Rattle.sto_action.specs.Calls.{number, perhaps, is_yes, is_done}
use Rattle.sto_action.specs.Progs.{Prog, Asks}
use Rattle.sto_action.specs.declared.handles.BoxId.{BoxId}
use Rattle.sto_action.specs.declared.handles.CounterId.{CounterId}
use Rattle.sto_action.specs.declared.handles.ArrayId.{ArrayId}
use Rattle.sto_action.specs.declared.handles.HashId.{HashId}
use Rattle.sto_action.specs.declared.handles.TreeId.{TreeId}
use Rattle.sto_action.specs.declared.handles.VectorId.{VectorId}

abbrev pub box_get : {E A : Type 0} → BoxId → (ℤ → Prog E A) → Prog E A
box_get x then = Asks (call_of x.number Get (pos 0) (pos 0)) (λ h. then (number h))

abbrev pub box_set : {E A : Type 0} → BoxId → ℤ → Prog E A → Prog E A
box_set x value then = Asks (call_of x.number Set value (pos 0)) (λ _. then)

abbrev pub counter_get : {E A : Type 0} → CounterId → (ℤ → Prog E A) → Prog E A
counter_get x then = Asks (call_of x.number Get (pos 0) (pos 0)) (λ h. then (number h))

abbrev pub counter_add : {E A : Type 0} → CounterId → ℤ → (Bool → Prog E A) → Prog E A
counter_add x by then = Asks (call_of x.number Add by (pos 0)) (λ h. then (is_done h))

abbrev pub counter_test : {E A : Type 0} → CounterId → Test → ℤ → (Bool → Prog E A) → Prog E A
counter_test x test than then = Asks (call_of x.number TestWord (pos (test_number test)) than) (λ h. then (is_yes h))

abbrev pub counter_take : {E A : Type 0} → CounterId → ℤ → (Bool → Prog E A) → Prog E A
counter_take x by then = Asks (call_of x.number Take by (pos 0)) (λ h. then (is_yes h))

abbrev pub array_get : {E A : Type 0} → ArrayId → ℤ → (Option ℤ → Prog E A) → Prog E A
array_get x place then = Asks (call_of x.number Get place (pos 0)) (λ h. then (perhaps h))

abbrev pub array_set : {E A : Type 0} → ArrayId → ℤ → ℤ → (Bool → Prog E A) → Prog E A
array_set x place value then = Asks (call_of x.number Set place value) (λ h. then (is_done h))

abbrev pub array_add : {E A : Type 0} → ArrayId → ℤ → ℤ → (Bool → Prog E A) → Prog E A
array_add x place by then = Asks (call_of x.number Add place by) (λ h. then (is_done h))

abbrev pub hash_get : {E A : Type 0} → HashId → ℤ → (Option ℤ → Prog E A) → Prog E A
hash_get x key then = Asks (call_of x.number Get key (pos 0)) (λ h. then (perhaps h))

abbrev pub hash_put : {E A : Type 0} → HashId → ℤ → ℤ → (Bool → Prog E A) → Prog E A
hash_put x key value then = Asks (call_of x.number Put key value) (λ h. then (is_done h))

abbrev pub hash_remove : {E A : Type 0} → HashId → ℤ → (Bool → Prog E A) → Prog E A
hash_remove x key then = Asks (call_of x.number Remove key (pos 0)) (λ h. then (is_yes h))

abbrev pub hash_has : {E A : Type 0} → HashId → ℤ → (Bool → Prog E A) → Prog E A
hash_has x key then = Asks (call_of x.number Has key (pos 0)) (λ h. then (is_yes h))

abbrev pub hash_len : {E A : Type 0} → HashId → (ℤ → Prog E A) → Prog E A
hash_len x then = Asks (call_of x.number Len (pos 0) (pos 0)) (λ h. then (number h))

abbrev pub tree_get : {E A : Type 0} → TreeId → ℤ → (Option ℤ → Prog E A) → Prog E A
tree_get x key then = Asks (call_of x.number Get key (pos 0)) (λ h. then (perhaps h))

abbrev pub tree_put : {E A : Type 0} → TreeId → ℤ → ℤ → (Bool → Prog E A) → Prog E A
tree_put x key value then = Asks (call_of x.number Put key value) (λ h. then (is_done h))

abbrev pub tree_remove : {E A : Type 0} → TreeId → ℤ → (Bool → Prog E A) → Prog E A
tree_remove x key then = Asks (call_of x.number Remove key (pos 0)) (λ h. then (is_yes h))

abbrev pub tree_len : {E A : Type 0} → TreeId → (ℤ → Prog E A) → Prog E A
tree_len x then = Asks (call_of x.number Len (pos 0) (pos 0)) (λ h. then (number h))

abbrev pub tree_next : {E A : Type 0} → TreeId → ℤ → (Option ℤ → Prog E A) → Prog E A
tree_next x from then = Asks (call_of x.number Next from (pos 0)) (λ h. then (perhaps h))

abbrev pub tree_count : {E A : Type 0} → TreeId → ℤ → ℤ → (ℤ → Prog E A) → Prog E A
tree_count x first last then = Asks (call_of x.number Count first last) (λ h. then (number h))

abbrev pub vector_get : {E A : Type 0} → VectorId → ℤ → (Option ℤ → Prog E A) → Prog E A
vector_get x place then = Asks (call_of x.number Get place (pos 0)) (λ h. then (perhaps h))

abbrev pub vector_test : {E A : Type 0} → VectorId → Test → ℤ → (Bool → Prog E A) → Prog E A
vector_test x test than then = Asks (call_of x.number TestWord (pos (test_number test)) than) (λ h. then (is_yes h))

abbrev pub vector_len : {E A : Type 0} → VectorId → (ℤ → Prog E A) → Prog E A
vector_len x then = Asks (call_of x.number Len (pos 0) (pos 0)) (λ h. then (number h))

abbrev pub vector_push : {E A : Type 0} → VectorId → ℤ → (Bool → Prog E A) → Prog E A
vector_push x value then = Asks (call_of x.number Push value (pos 0)) (λ h. then (is_done h))

abbrev pub vector_pop : {E A : Type 0} → VectorId → (Option ℤ → Prog E A) → Prog E A
vector_pop x then = Asks (call_of x.number Pop (pos 0) (pos 0)) (λ h. then (perhaps h))
