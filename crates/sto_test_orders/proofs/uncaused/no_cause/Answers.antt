use Rattle.std.proofs.Common.{◌≡◌, ℕ, ◌<◌, List, [], ◌∷◌, length, refl, sym, ap, ◌∙◌, subst, Some, slice_get, arith}
use Rattle.std.proofs.lemmas.List.Elements.{All-head}
use Rattle.sto_lang.specs.Scripts.{File}
use Rattle.sto_lang.proofs.SoundLines.{all_get}
use Rattle.sto_report_spec.specs.Orders.{TransactionPlace}
use Rattle.sto_checker.specs.Shown.{IsInside}
use Rattle.sto_orders.specs.Causes.{IsFront, DoMeet}
use Rattle.sto_test_orders.proofs.uncaused.no_cause.Goals as goal

first_two : {X : Type 0} (xs : List X) → 1 < length xs → (x : X) × (y : X) × (slice_get xs 0 ≡ Some x) × (slice_get xs 1 ≡ Some y)
first_two [] l = absurd (omega (arith, l))
first_two (x ∷ []) l = absurd (omega (arith, l))
first_two (x ∷ y ∷ xs) l = (x, y, refl, refl)

-- a file without a thread has only one beginning
only_none : (f : File) (order : List TransactionPlace) → f.threads ≡ [] → IsFront f order → order ≡ []
only_none f [] none h = refl
only_none f (p ∷ order) none h =
    let within = (All-head (IsInside f.threads) p order h.inside).thread in
    let zero_threads = ap length none in
    absurd (omega (arith, within, zero_threads))

pub returns-clause-allowed : goal.returns-clause-allowed
returns-clause-allowed c = λ by f most least within cause. let above = cause.1 in absurd (omega (arith, within, above))

pub returns-clause-other_number : goal.returns-clause-other_number
returns-clause-other_number c = λ by f most least wrong cause. wrong cause.0

pub returns-clause-enough : goal.returns-clause-enough
returns-clause-enough c = λ by f most all cause.
    let within = all cause.orders cause.fronts cause.apart in
    let above = cause.many in
    absurd (omega (arith, within, above))

pub returns-clause-nothing : goal.returns-clause-nothing
returns-clause-nothing c = λ by f most none some cause.
    let above = cause.many in
    let two = first_two cause.orders (omega (arith, some, above)) in
    let first : two.0 ≡ [] = only_none f two.0 none (all_get (IsFront f) cause.orders 0 two.0 cause.fronts two.2) in
    let second : two.1 ≡ [] = only_none f two.1 none (all_get (IsFront f) cause.orders 1 two.1 cause.fronts two.3) in
    let meet : DoMeet by f two.0 two.1 = subst (DoMeet by f two.0) (first ∙ sym second) (record { done = refl; same = refl }) in
    let same : 0 ≡ 1 = cause.apart 0 1 two.0 two.1 two.2 two.3 meet in
    absurd (omega (arith, same))

pub returns-clause-twice : goal.returns-clause-twice
returns-clause-twice c = λ by f order orders apart.
    let same : 0 ≡ 1 = apart 0 1 order order refl refl (record { done = refl; same = refl }) in
    absurd (omega (arith, same))
