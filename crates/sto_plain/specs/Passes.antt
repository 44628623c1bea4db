-- The passes of one thread: their views, and what an event of one of them makes of the core state.
use Rattle.std.specs.Prelude.{◌≡◌, ◌≢◌, ◌<◌, refl, ℕ, ℤ, List, [], ◌∷◌, ◌++◌, length, slice_set, slice_index_or}
use Rattle.std.proofs.Common.{◌∙◌, subst}
use Rattle.sto_core.specs.declared.view.View.{View}
use Rattle.sto_core.specs.Gathered.{spent_view}
use Rattle.sto_core.specs.Core.{Core, core_after, number_found, value_found}
use Rattle.sto_core.specs.Event.{Event, after}
use Rattle.sto_core.specs.History.{Validity}
use Rattle.sto_core.specs.Allowed.{Allowed}
use Rattle.sto_core.specs.Tells.{Tells}

-- the view of the pass at a place, of none an empty one
abbrev pub view_at : List View → ℕ → View
view_at views pass = slice_index_or views pass spent_view

abbrev pub view_of : Core → ℕ → View
view_of c pass = view_at c.views pass

-- the views after an event of one pass, which found the number n or the value x
abbrev pub noted : Event → List View → ℕ → ℕ → ℤ → List View
noted e views pass n x = slice_set views pass (after e (view_at views pass) n x)

-- the core state after an event of one pass
abbrev pub stepped : Event → Core → ℕ → Core
stepped e c pass = core_after e c pass (view_of c pass)

-- the same pass of as many, and the views of the others are as they were
abbrev pub IsSame : Core → ℕ → Core → ℕ → Type 0
IsSame c pass d now =
    (now ≡ pass) × (length d.statuses ≡ length c.statuses) × (length d.views ≡ length c.views)
    × ((other : ℕ) → other ≢ pass → view_of d other ≡ view_of c other)

pub same_as_itself : (c : Core) (pass : ℕ) → IsSame c pass c pass
same_as_itself c pass = (refl, refl, refl, λ other ne. refl)

pub same_through : (c : Core) (i : ℕ) (d : Core) (j : ℕ) (e : Core) (k : ℕ) → IsSame c i d j
    → IsSame d j e k → IsSame c i e k
same_through c i d j e k p q =
    (q.0 ∙ p.0, q.1 ∙ p.1, q.2 ∙ p.2, λ other ne. q.3 other (λ is. ne (is ∙ p.0)) ∙ p.3 other ne)

-- the event of a pass that a call was: it answers what the word held, and tells what the pass learns
pub record Steps (valid : Validity) (e : Event) (c : Core) (pass n : ℕ) (x : ℤ) (later : Core) : Type 0
  where
    pub number : n ≡ number_found e c
    pub value : x ≡ value_found e c
    pub core : later ≡ stepped e c pass
    pub tells : Tells valid (length c.statuses) e (view_of c pass) n x (view_of later pass)

-- the pass may make the event
abbrev pub Can : Validity → Event → Core → ℕ → Type 0
Can valid e c pass = (pass < length c.views) × Allowed valid e (view_of c pass)

-- events of one pass, one after the other, with no event of another pass between
abbrev pub Walk : Validity → ℕ → List Event → Core → Core → Type 0
Walk valid pass [] c d = d ≡ c
Walk valid pass (e ∷ es) c d = (n : ℕ) × (x : ℤ) × (b : Core) × Steps valid e c pass n x b × Walk valid pass es b d

-- some have led on
pub record Walks (valid : Validity) (pass : ℕ) (c d : Core) : Type 0 where
  pub events : List Event
  pub walk : Walk valid pass events c d

-- the same pass, other passes are as they were, and some events of this one have led on
abbrev pub IsOn : Validity → Core → ℕ → Core → ℕ → Type 0
IsOn valid c pass d now = IsSame c pass d now × Walks valid pass c d

pub on_as_itself : (valid : Validity) (c : Core) (pass : ℕ) → IsOn valid c pass c pass
on_as_itself valid c pass = (same_as_itself c pass, record { events = []; walk = refl })

walk_on : (valid : Validity) (pass : ℕ) (es fs : List Event) (c d e : Core) → Walk valid pass es c d → Walk valid pass fs d e → Walk valid pass (es ++ fs) c e
walk_on valid pass [] fs c d e h k = subst (λ (x : Core). Walk valid pass fs x e) h k
walk_on valid pass (f ∷ es) fs c d e h k = (h.0, h.1, h.2, h.3, walk_on valid pass es fs h.2 d e h.4 k)

pub on_through : (valid : Validity) (c : Core) (i : ℕ) (d : Core) (j : ℕ) (e : Core) (k : ℕ) → IsOn valid c i d j → IsOn valid d j e k → IsOn valid c i e k
on_through valid c i d j e k p q = (
  same_through c i d j e k p.0 q.0,
  record { events = p.1.events ++ q.1.events; walk = walk_on valid i p.1.events q.1.events c d e p.1.walk (subst (λ (n : ℕ). Walk valid n q.1.events d e) p.0.0 q.1.walk) },
)
