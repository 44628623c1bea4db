-- What was planned of the shapes that were given, and why a shape was not.
use Rattle.std.proofs.Common.{◌≡◌, ◌+◌, ◌≤◌, ℕ, suc, List, [], ◌∷◌, ◌++◌, ◌^◌, length, map, take, drop, slice_get, Option, Some, sym, ap, ◌∙◌, subst, arith}
use Rattle.std.specs.List.{All}
use Rattle.std.proofs.lemmas.List.{take-append-drop, take_all, map-append, append-nil, append_assoc}
use Rattle.sto_model.specs.declared.shape.Shape.{Shape}
use Rattle.sto_shared_store.specs.declared.plan_error.PlanError.{PlanError}
use Rattle.sto_shared_store.specs.declared.plan_error.PlanError.TheVariants as plan_error
use Rattle.sto_shared_store.specs.declared.open_error.OpenError.{OpenError}
use Rattle.sto_shared_store.specs.declared.open_error.OpenError.TheVariants as open_error
use Rattle.sto_shared_store.specs.Plans.{IsReason, CanStand, AllStand}
use Rattle.sto_shared_store.specs.Refusals.{IsCause}
use Rattle.sto_shared_store.specs.Working.{IsFresh}
use Rattle.sto_shared_store.specs.declared.store.Store.{Store}
use Rattle.sto_shared_store.specs.declared.worker.CountedRest.{CountedRest}
use Rattle.sto_store.specs.declared.objects.Objects.{Objects}
use Rattle.sto_store.specs.contracts.objects.ObjectsNaming.TheImpl.{ghosts as naming_ghosts}
use Rattle.sto_c.specs.declared.crossing.ShapeIn.{ShapeIn}
use Rattle.sto_c.specs.declared.status.Status.{Status}
use Rattle.sto_c.specs.declared.status.Status.TheVariants as status
use Rattle.sto_c.specs.Content.{objects}
use Rattle.sto_c.specs.Crossing.{shape_in}
use Rattle.sto_c.specs.Statuses.{of_unplanned, of_unopened}
use Rattle.sto_c.specs.Stores.{IsNew, IsUnfit, IsRefused, ArePlanned, IsUnplanned, IsUnopened}
use Rattle.sto_c.proofs.Copying.{drop_next, take_next}

-- the shape at the place i cannot stand behind those before it
pub refused_at : (shapes : List ShapeIn) (given : ShapeIn) (planned : List Shape) (i : ℕ) (why : Status) → slice_get shapes i ≡ Some given
    → map shape_in (take i shapes) ≡ map Some planned → AllStand [] planned → IsUnfit why planned (shape_in given) → IsRefused shapes why
refused_at shapes given planned i why here fit first reason = record {
  before = take i shapes;
  given = given;
  after = drop (suc i) shapes;
  planned = planned;
  all = sym (take-append-drop i shapes) ∙ ap (λ (d : List ShapeIn). take i shapes ++ d) (drop_next shapes given i here);
  fit = fit;
  first = first;
  reason = reason;
}

-- the same by what the plan answered
pub unplanned_at : (shapes : List ShapeIn) (given : ShapeIn) (planned : List Shape) (shape : Shape) (i : ℕ) (error : PlanError) → slice_get shapes i ≡ Some given
    → map shape_in (take i shapes) ≡ map Some planned → AllStand [] planned → Some shape ≡ shape_in given → IsReason error planned shape → IsUnplanned shapes (of_unplanned error)
unplanned_at shapes given planned shape i plan_error.OutOfOrder here fit first is reason =
    refused_at shapes given planned i status.BadOrder here fit first (subst (λ (o : Option Shape). IsUnfit status.BadOrder planned o) is reason)
unplanned_at shapes given planned shape i plan_error.NoRoom here fit first is reason =
    refused_at shapes given planned i status.BadSize here fit first (subst (λ (o : Option Shape). IsUnfit status.BadSize planned o) is reason)
unplanned_at shapes given planned shape i plan_error.TooMany here fit first is reason =
    refused_at shapes given planned i status.TooMany here fit first (subst (λ (o : Option Shape). IsUnfit status.TooMany planned o) is reason)
unplanned_at shapes given planned shape i plan_error.NoMemory here fit first is reason = tt

-- one more stands behind those before it
pub stand_more : (before shapes : List Shape) (s : Shape) → AllStand before shapes → CanStand (before ++ shapes) s → AllStand before (shapes ++ s ∷ [])
stand_more before [] s h k = (subst (λ (l : List Shape). CanStand l s) (append-nil before) k, tt)
stand_more before (x ∷ xs) s h k =
    (h.0, stand_more (before ++ x ∷ []) xs s h.1 (subst (λ (l : List Shape). CanStand l s) (sym (append_assoc before (x ∷ []) xs)) k))

-- one more is planned
pub planned_next : (shapes : List ShapeIn) (given : ShapeIn) (planned new : List Shape) (shape : Shape) (i : ℕ) → slice_get shapes i ≡ Some given
    → map shape_in (take i shapes) ≡ map Some planned → Some shape ≡ shape_in given → new ≡ planned ++ shape ∷ [] → map shape_in (take (i + 1) shapes) ≡ map Some new
planned_next shapes given planned new shape i here fit is more =
    let next : i + 1 ≡ suc i = omega arith in
    ap (λ (k : ℕ). map shape_in (take k shapes)) next
    ∙ take_next shape_in shapes given i here
    ∙ ap (λ (os : List (Option Shape)). os ++ shape_in given ∷ []) fit
    ∙ ap (λ (o : Option Shape). map Some planned ++ o ∷ []) (sym is)
    ∙ sym (map-append Some planned (shape ∷ []))
    ∙ ap (λ (ss : List Shape). map Some ss) (sym more)

-- all are planned
pub all_planned : (shapes : List ShapeIn) (planned : List Shape) (i : ℕ) → length shapes ≤ i → map shape_in (take i shapes) ≡ map Some planned → map shape_in shapes ≡ map Some planned
all_planned shapes planned i end fit = ap (λ (gs : List ShapeIn). map shape_in gs) (sym (take_all i shapes end)) ∙ fit

-- a store that was not planned was not opened
pub unplanned_unopened : (shapes : List ShapeIn) (workers : ℕ) (why : Status) → IsUnplanned shapes why → IsUnopened shapes workers why
unplanned_unopened shapes workers status.BadWorkers h = absurd h.reason
unplanned_unopened shapes workers why h = h

-- the same by what opening answered, where all were planned
pub caused_unopened : (shapes : List ShapeIn) (planned : List Shape) (workers : ℕ) (error : OpenError) → ArePlanned shapes planned → IsCause error workers → IsUnopened shapes workers (of_unopened error)
caused_unopened shapes planned workers open_error.Workers all cause = ((planned, all), cause)
caused_unopened shapes planned workers open_error.NoMemory all cause = tt

-- the workers of a store that was opened are new
pub opened_new : (s t : Store Objects) (xs ys : List (CountedRest Objects naming_ghosts)) → s ≡ t → xs ≡ ys
    → All (λ (w : CountedRest Objects naming_ghosts). IsFresh (objects.meaning t.ty) (objects.sizes t.ty) t.shared w.rest.seat) ys
    → All (λ (w : CountedRest Objects naming_ghosts). w.left ≡ 2 ^ 40) ys → All (IsNew s) xs
opened_new s t xs ys same all fresh left =
    subst (λ (o : Store Objects). All (IsNew o) xs) (sym same)
    (subst (λ (l : List (CountedRest Objects naming_ghosts)). All (IsNew t) l) (sym all) (λ k d less. (fresh k d less, left k d less)))
