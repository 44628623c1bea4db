-- Code that asks each call of one kind of objects, and gives what was answered.
use Rattle.std.specs.Prelude.{ℤ, pos, Bool, Option}
use Rattle.std.specs.declared.convert.Infallible.{Infallible}
use Rattle.sto_part.specs.declared.pred.Test.TheVariants.{Lt, Ge}
use Rattle.sto_action.specs.declared.handles.BoxId.{BoxId}
use Rattle.sto_action.specs.declared.handles.CounterId.{CounterId}
use Rattle.sto_action.specs.declared.handles.ArrayId.{ArrayId}
use Rattle.sto_action.specs.declared.handles.HashId.{HashId}
use Rattle.sto_action.specs.declared.handles.TreeId.{TreeId}
use Rattle.sto_action.specs.declared.handles.VectorId.{VectorId}
use Rattle.sto_action.specs.Progs.{Prog, Gives, Cancels}
use Rattle.sto_action.specs.Steps.{box_get, box_set, counter_get, counter_add, counter_test, counter_take, array_get, array_set, array_add, hash_get, hash_put, hash_remove, hash_has, hash_len, tree_get, tree_put, tree_remove, tree_len, tree_next, tree_count, vector_get, vector_test, vector_len, vector_push, vector_pop}

abbrev pub box_calls : BoxId → Prog Infallible (ℤ × ℤ)
box_calls x = box_get x (λ was. box_set x (pos 8) (box_get x (λ is. Gives (was, is))))

abbrev pub counter_calls : CounterId → Prog Infallible (Bool × Bool × Bool × ℤ)
counter_calls x =
    counter_add x (pos 4) (λ added. counter_test x Lt (pos 9) (λ less. counter_take x (pos 20) (λ taken. counter_get x (λ is. Gives (added, less, taken, is)))))

abbrev pub array_calls : ArrayId → Prog Infallible (Option ℤ × Bool × Bool × Option ℤ)
array_calls x =
    array_get x (pos 2) (λ was. array_set x (pos 2) (pos 6) (λ set. array_add x (pos 3) (pos 1) (λ beyond. array_get x (pos 2) (λ is. Gives (was, set, beyond, is)))))

abbrev pub array_writes : ArrayId → Prog Infallible (Bool × Option ℤ)
array_writes x = array_add x (pos 1) (pos 5) (λ added. array_get x (pos 1) (λ is. Gives (added, is)))

abbrev pub hash_writes : HashId → Prog Infallible (Bool × Bool × Bool × Option ℤ)
hash_writes x =
    hash_put x (pos 5) (pos 50) (λ put. hash_put x (pos 6) (pos 60) (λ also. hash_remove x (pos 7) (λ removed. hash_get x (pos 6) (λ is. Gives (put, also, removed, is)))))

abbrev pub hash_reads : HashId → Prog Infallible (Bool × ℤ × Option ℤ)
hash_reads x = hash_has x (pos 5) (λ has. hash_len x (λ many. hash_get x (pos 9) (λ none. Gives (has, many, none))))

abbrev pub tree_writes : TreeId → Prog Infallible (Bool × Bool × Bool × Option ℤ)
tree_writes x =
    tree_put x (pos 3) (pos 30) (λ put. tree_put x (pos 8) (pos 80) (λ also. tree_remove x (pos 4) (λ removed. tree_get x (pos 8) (λ is. Gives (put, also, removed, is)))))

abbrev pub tree_reads : TreeId → Prog Infallible (Option ℤ × ℤ × ℤ)
tree_reads x = tree_next x (pos 4) (λ next. tree_count x (pos 0) (pos 9) (λ within. tree_len x (λ many. Gives (next, within, many))))

abbrev pub vector_writes : VectorId → Prog Infallible (Bool × Bool × Bool × Option ℤ)
vector_writes x =
    vector_push x (pos 7) (λ first. vector_push x (pos 8) (λ second. vector_push x (pos 9) (λ third. vector_pop x (λ last. Gives (first, second, third, last)))))

abbrev pub vector_reads : VectorId → Prog Infallible (Option ℤ × Bool × ℤ)
vector_reads x = vector_get x (pos 0) (λ first. vector_test x Ge (pos 1) (λ some. vector_len x (λ many. Gives (first, some, many))))

-- it gives what a box held, and leaves another value in it
abbrev pub swap : BoxId → ℤ → Prog Infallible ℤ
swap x value = box_get x (λ was. box_set x value (Gives was))

-- it gets the value of a box, writes another one, and then gives up for a reason by what it got
abbrev pub give_up : {E : Type 0} → (ℤ → E) → BoxId → Prog E ℤ
give_up because x = box_get x (λ was. box_set x (pos 99) (Cancels (because was)))
