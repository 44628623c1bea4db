-- What a telling answers on known parts is what the meaning says.
use Rattle.std.proofs.Common.{◌≡◌, ◌<◌, ℕ, ℤ, Option, Some, None, List, length, refl, sym, ◌∙◌, ap, subst, inl, inr}
use Rattle.sto_part.specs.Parts.{part_of}
use Rattle.sto_type.specs.Known.{Parts, Known, IsPartOf}
use Rattle.sto_type.specs.Plans.{Plan}
use Rattle.sto_type.specs.Plans as P
use Rattle.sto_type.specs.Reading.{need_of, items_of, updates_at}
use Rattle.sto_type.specs.Readings.{ReadsWithin}
use Rattle.sto_type.specs.Telling.{Telling, Read, Tell, reading_of, told_at, plan_of}

-- cases of what is known of a part
pub by_option : {A : Type 0} (P : Type 0) (o : Option A) → (o ≡ None → P) → ((x : A) → o ≡ Some x → P) → P
by_option P None f g = f refl
by_option P (Some x) f g = g x refl

-- the plan asks for what is needed; or it says what is observed on what is known, and what is told and updated on all contents that this is part of
abbrev pub IsPlanned : Telling → Known → (Parts → Type 0) → Plan → Type 0
IsPlanned r k valid (P.Ask p) = need_of (reading_of r) k ≡ Some p
IsPlanned r k valid (P.Say t is es) =
    (need_of (reading_of r) k ≡ None) × (is ≡ items_of (reading_of r) k) × ((d : Parts) → valid d → IsPartOf k d → (t ≡ told_at r d) × (es ≡ updates_at (reading_of r) d))

-- a step over a part that is known
known_step : (p : ℕ) (f : List ℤ → Telling) (k : Known) (ws : List ℤ) → k p ≡ Some ws → plan_of (Read p f) k ≡ plan_of (f ws) k
known_step p f k ws e = rw e refl

unknown_step : (p : ℕ) (f : List ℤ → Telling) (k : Known) → k p ≡ None → plan_of (Read p f) k ≡ P.Ask p
unknown_step p f k e = rw e refl

need_step : (p : ℕ) (f : List ℤ → Telling) (k : Known) (ws : List ℤ) → k p ≡ Some ws → need_of (reading_of (Read p f)) k ≡ need_of (reading_of (f ws)) k
need_step p f k ws e = rw e refl

need_here : (p : ℕ) (f : List ℤ → Telling) (k : Known) → k p ≡ None → need_of (reading_of (Read p f)) k ≡ Some p
need_here p f k e = rw e refl

items_step : (p : ℕ) (f : List ℤ → Telling) (k : Known) (ws : List ℤ) → k p ≡ Some ws → items_of (reading_of (Read p f)) k ≡ items_of (reading_of (f ws)) k
items_step p f k ws e = rw e refl

step_planned :
    (p : ℕ) (f : List ℤ → Telling) (k : Known) (ws : List ℤ) (valid : Parts → Type 0) (plan : Plan) → k p ≡ Some ws → ((d : Parts) → valid d → IsPartOf k d → part_of d p ≡ ws)
    → IsPlanned (f ws) k valid plan → IsPlanned (Read p f) k valid plan
step_planned p f k ws valid (P.Ask q) e same h = need_step p f k ws e ∙ h
step_planned p f k ws valid (P.Say t is es) e same h = (
  need_step p f k ws e ∙ h.0,
  h.1 ∙ sym (items_step p f k ws e),
  λ d v part. (
    (h.2 d v part).0 ∙ sym (ap (λ xs. told_at (f xs) d) (same d v part)),
    (h.2 d v part).1 ∙ sym (ap (λ xs. updates_at (reading_of (f xs)) d) (same d v part)),
  ),
)

-- what is read on one of these contents is in range on all of them
pub plan_is : (r : Telling) (k : Known) (d : Parts) (valid : Parts → Type 0) → valid d → IsPartOf k d → ((e : Parts) → valid e → length e ≡ length d) → ReadsWithin (reading_of r) d → IsPlanned r k valid (plan_of r k)
plan_is (Tell t is es) k d valid v part long within = (refl, refl, λ e w p. (refl, refl))
plan_is (Read p f) k d valid v part long within =
    by_option (IsPlanned (Read p f) k valid (plan_of (Read p f) k)) (k p)
    (λ none. subst (IsPlanned (Read p f) k valid) (sym (unknown_step p f k none)) (need_here p f k none))
    (λ ws some.
    let in_range : p < length d = within p (inl refl) in
    let here : part_of d p ≡ ws = part.same p ws in_range some in
    let inner : ReadsWithin (reading_of (f ws)) d = subst (λ (xs : List ℤ). ReadsWithin (reading_of (f xs)) d) here (λ q h. within q (inr h)) in
    let all : (e : Parts) → valid e → IsPartOf k e → part_of e p ≡ ws = λ e w q. q.same p ws (subst (λ (n : ℕ). p < n) (sym (long e w)) in_range) some in
    subst (IsPlanned (Read p f) k valid) (sym (known_step p f k ws some))
    (step_planned p f k ws valid (plan_of (f ws) k) some all (plan_is (f ws) k d valid v part long inner)))
