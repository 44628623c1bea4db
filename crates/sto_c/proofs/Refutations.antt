-- What the clauses of the library refuse.
use Rattle.std.specs.Prelude.{if◌then◌else◌, IfSome}
use Rattle.std.specs.Arc.{arc_value}
use Rattle.std.specs.List.{All}
use Rattle.std.proofs.Common.{◌≡◌, ◌≢◌, ◌+◌, ◌<◌, ◌≤◌, ℕ, zero, suc, ℤ, pos, Bool, true≢false, List, [], ◌∷◌, ◌++◌, length, length-append, map, Option, Some, None, Ok, refl, sym, ap, ◌∙◌, subst, arith, ne_eqb, append-nil, append_assoc, inl, inr}
use Rattle.std.proofs.lemmas.List.Elements.{All-head}
use Rattle.sto_model.specs.SequentialObjects.{opening_of}
use Rattle.sto_model.specs.Run.{State, state_along}
use Rattle.sto_model.specs.declared.shape.Shape.{Shape}
use Rattle.sto_store.specs.declared.objects.Objects.{Objects}
use Rattle.sto_store.specs.contracts.objects.ObjectsNaming.TheImpl.{ghosts as naming_ghosts}
use Rattle.sto_history.specs.Done.{AreAllDone, AreDoneBy}
use Rattle.sto_history.specs.History.{times_numbered, StandsIn, LeadTo}
use Rattle.sto_history.proofs.Examples.{boxes, set_five}
use Rattle.sto_shared_store.specs.declared.store.Store.{Store}
use Rattle.sto_shared_store.specs.declared.worker.CountedRest.{CountedRest}
use Rattle.sto_shared_store.specs.declared.plan_error.PlanError.{PlanError}
use Rattle.sto_shared_store.specs.declared.plan_error.PlanError.TheVariants as plan_error
use Rattle.sto_shared_store.specs.Plans.{CanStand, AllStand, IsReason}
use Rattle.sto_interactive.specs.declared.session.Session.{Session}
use Rattle.sto_shared_store.proofs.GatheredOwned.{rest_still, slots_left, same_store}
use Rattle.sto_c.specs.declared.content.HandleContent.{HandleContent}
use Rattle.sto_c.specs.declared.content.HandleContent.TheVariants.{Worker}
use Rattle.sto_c.specs.declared.content.StoreHandle.{StoreHandle}
use Rattle.sto_c.specs.declared.content.WorkerHandle.{WorkerHandle}
use Rattle.sto_c.specs.declared.crossing.RowOut.{RowOut}
use Rattle.sto_c.specs.declared.crossing.ShapeIn.{ShapeIn}
use Rattle.sto_c.specs.declared.status.Status.{Status}
use Rattle.sto_c.specs.Content.{objects}
use Rattle.sto_c.specs.Crossing.{rows_out}
use Rattle.sto_c.specs.Stores.{IsNew, HasShapes, IsRefused, HasGivenBack, AreClosedRows}
use Rattle.sto_interactive.specs.Sessions.{live_of}

-- a box that held 1, and one transaction, which set it to 5
abbrev fives : State
fives = ((pos 0, pos 5) ∷ []) ∷ []

not_there : (k : ℕ) → times_numbered (suc (suc k)) (set_five ∷ []) ≡ 0
not_there k = ap (λ (b : Bool). (if b then 1 else 0) + 0) (ne_eqb 1 (suc (suc k)) (λ e. omega (arith, e)))

module _ (clock : ℕ) (states : ℕ → State) (still : (n : ℕ) → n < clock → times_numbered (suc n) (set_five ∷ []) ≡ 0 → states (suc n) ≡ states n) where
  after_one : (k : ℕ) → suc k ≤ clock → states (suc k) ≡ states 1
  after_one zero less = refl
  after_one (suc k) less = still (suc k) (omega (arith, less)) (not_there k) ∙ after_one k (omega (arith, less))

  at_end : (k : ℕ) → k ≤ clock → 1 ≤ k → states k ≡ states 1
  at_end zero within some = absurd (omega (arith, some))
  at_end (suc k) within some = after_one k within

-- each of its histories ends with 5
ends_with_five : (last : State) → LeadTo boxes (set_five ∷ []) last → last ≡ fives
ends_with_five last h =
    let step : StandsIn boxes h.clock h.states set_five.steps set_five.replies set_five.verdict = h.history.each 0 set_five (omega arith) in
    let next = step.next in
    let first : step.before ≡ 0 = omega (arith, next) in
    h.ends ∙ at_end h.clock h.states h.history.still h.clock (omega arith) step.within
    ∙ step.run.leaves ∙ ap (λ (st : State). state_along boxes set_five.steps st set_five.replies) (ap h.states first ∙ h.history.opened)

nothing_more : {X : Type 0} (x : X) (xs back : List X) → xs ≡ (x ∷ []) ++ back → length xs ≡ 1 → xs ≡ x ∷ []
nothing_more x xs [] same one = same
nothing_more x xs (y ∷ ys) same one = let long = ap length same in absurd (omega (arith, long, one))

first_value : List RowOut → ℤ
first_value [] = pos 0
first_value (row ∷ rows) = row.value

one_is_not_five : pos 1 ≡ pos 5 → ⊥
one_is_not_five same = cc same

module _ (h : StoreHandle) (rows : List RowOut) (closed : AreClosedRows h rows) where
  -- a store of one worker, which rested there and had committed one transaction
  module _ (w : CountedRest Objects naming_ghosts) (rests : h.store.idle.items ≡ w ∷ []) (one : (arc_value h.store.store).shared.table.shared.key.passes ≡ 1)
      (box : (objects.meaning (arc_value h.store.store).ty).machines ≡ boxes) (done : AreAllDone (objects.meaning (arc_value h.store.store).ty) w.rest.seat.me.0.view (set_five ∷ [])) where
    same : arc_value closed.last.store ≡ arc_value h.store.store
    same = ap arc_value (same_store objects closed.many h.store closed.last closed.gathered)

    alone : closed.last.idle.items ≡ w ∷ []
    alone =
        let back = rest_still objects closed.many h.store closed.last closed.gathered in
        nothing_more w closed.last.idle.items back.0 (back.1 ∙ ap (λ (l : List (CountedRest Objects naming_ghosts)). l ++ back.0) rests)
        (closed.all ∙ ap (λ (s : Store Objects). s.shared.table.shared.key.passes) same ∙ one)

    history : LeadTo boxes (set_five ∷ []) closed.state
    history =
        subst (λ ms. LeadTo ms (set_five ∷ []) closed.state) (ap (λ (s : Store Objects). (objects.meaning s.ty).machines) same ∙ box)
        (closed.history (set_five ∷ []) (subst (λ (l : List (CountedRest Objects naming_ghosts)). AreDoneBy (objects.meaning (arc_value closed.last.store).ty) (map (λ x. x.rest.seat.me.0.view) l) (set_five ∷ [])) (sym alone)
        (set_five ∷ [], [], refl, subst (λ (s : Store Objects). AreAllDone (objects.meaning s.ty) w.rest.seat.me.0.view (set_five ∷ [])) (sym same) done, refl)))

    pub rows_of_five : rows ≡ rows_out 0 fives
    rows_of_five = closed.told ∙ ap (rows_out 0) (ends_with_five closed.state history)

    -- the rows that it opened with
    pub no_opening_rows : rows ≡ rows_out 0 (opening_of boxes) → ⊥
    unfolding first_value
    no_opening_rows opening = let same : pos 1 ≡ pos 5 = ap first_value (sym opening ∙ rows_of_five) in one_is_not_five same

  -- a store of which a worker was lost: it neither rests there nor is out
  pub no_lost_worker : length h.store.idle.items + length h.store.slots.items < (arc_value closed.last.store).shared.table.shared.key.passes → ⊥
  no_lost_worker lost =
      let back = rest_still objects closed.many h.store closed.last closed.gathered in
      let many = ap length back.1 in
      let long = length-append h.store.idle.items back.0 in
      let count = back.2 in
      let left = slots_left objects closed.many h.store closed.last closed.gathered in
      let all = closed.all in
      omega (arith, lost, many, long, count, left, all)

-- a store that was opened for one worker, where two were asked
pub no_store_for_two : (shapes : List ShapeIn) (h : StoreHandle) → HasShapes shapes 1 h → HasShapes shapes 2 h → ⊥
no_store_for_two shapes h one two = let a = one.passes in let b = two.passes in omega (arith, a, b)

-- a store of two workers, where one of them rests
pub no_missing_worker : (shapes : List ShapeIn) (h : StoreHandle) → HasShapes shapes 2 h → length h.store.idle.items ≡ 1 → ⊥
no_missing_worker shapes h two rest = let b = two.rest in omega (arith, rest, b)

module _ (shapes : List ShapeIn) (workers : ℕ) (h : StoreHandle) (opened : HasShapes shapes workers h) where
  module _ (w : CountedRest Objects naming_ghosts) (ws : List (CountedRest Objects naming_ghosts)) (rests : h.store.idle.items ≡ w ∷ ws) where
    first_new : IsNew (arc_value h.store.store) w
    first_new =
        All-head (IsNew (arc_value h.store.store)) w ws (subst (λ (l : List (CountedRest Objects naming_ghosts)). All (IsNew (arc_value h.store.store)) l) rests opened.new)

    -- a store whose first worker has begun or committed something
    pub no_store_with_past : w.rest.seat.me.0.view.entries ≢ [] → ⊥
    no_store_with_past past = past (ap (λ v. v.entries) first_new.0.view)

    -- or may begin nothing
    pub no_store_without_tickets : w.left ≡ 0 → ⊥
    no_store_without_tickets none = let all = first_new.1 in omega (arith, none, all)

-- one of the shapes is at a place that it cannot stand at
one_stands : (before first : List Shape) (s : Shape) (after : List Shape) → AllStand before (first ++ s ∷ after) → CanStand (before ++ first) s
one_stands before [] s after h = subst (λ (l : List Shape). CanStand l s) (sym (append-nil before)) h.0
one_stands before (x ∷ first) s after h = subst (λ (l : List Shape). CanStand l s) (append_assoc before (x ∷ []) first) (one_stands (before ++ x ∷ []) first s after h.1)

no_reason : (error : PlanError) (shapes : List Shape) (s : Shape) → CanStand shapes s → error ≢ plan_error.NoMemory → IsReason error shapes s → ⊥
no_reason plan_error.OutOfOrder shapes s h broken why = let o = h.order in omega (arith, o, why)
no_reason plan_error.NoRoom shapes s h broken why = true≢false (sym h.room ∙ why)
no_reason plan_error.TooMany shapes s h broken (inl parts) = let p = h.parts in omega (arith, p, parts)
no_reason plan_error.TooMany shapes s h broken (inr many) = let f = h.few in omega (arith, f, many)
no_reason plan_error.NoMemory shapes s h broken why = broken refl

-- an earlier shape breaks a rule too
pub no_second_fault : (shapes : List ShapeIn) (why : Status) (h : IsRefused shapes why) (first after : List Shape) (s : Shape) → h.planned ≡ first ++ s ∷ after
    → (error : PlanError) → error ≢ plan_error.NoMemory → IsReason error first s → ⊥
no_second_fault shapes why h first after s here error broken fault =
    no_reason error first s (one_stands [] first s after (subst (λ (l : List Shape). AllStand [] l) here h.first)) broken fault

-- a worker that is in a transaction
pub no_give_back_within : (h : WorkerHandle) (y : HandleContent) → IfSome h.worker.session (λ x. live_of x ≢ None) → h.worker.session ≢ None → HasGivenBack (Worker h) (Ok tt) y → ⊥
no_give_back_within h y within there given = both h.worker.session there within given.1
  where
    both : (o : Option (Session Objects naming_ghosts)) → o ≢ None → IfSome o (λ x. live_of x ≢ None) → IfSome o (λ x. live_of x ≡ None) → ⊥
    both None there within free = there refl
    both (Some x) there within free = within free

-- the worker is in the handle still
pub no_give_back_that_keeps : (h k : WorkerHandle) → HasGivenBack (Worker h) (Ok tt) (Worker k) → ⊥
no_give_back_that_keeps h k given = cc (given.0)
