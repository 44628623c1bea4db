-- A set with several items more.
use Rattle.std.proofs.Common.{◌≡◌, List, [], ◌∷◌, ◌++◌, ap, ◌∙◌, subst, inl, inr}
use Rattle.sto_item.specs.declared.item.Item.{Item}
use Rattle.sto_item.specs.Pending.{Entry}
use Rattle.sto_item.specs.Recorded.{Recorded, AddsItem, AddsItems}

-- the updates stay
one_keeps : (old : Recorded) (i : Item) (new : Recorded) → AddsItem old i new → new.updates ≡ old.updates
one_keeps old i new adds = elim adds [
  | inl there ↦ ap (λ (s : Recorded). s.updates) there.1
  | inr more ↦ ap (λ (s : Recorded). s.updates) more.1
]

pub AddsItems-updates : (old : Recorded) (is : List Item) (new : Recorded) → AddsItems old is new → new.updates ≡ old.updates
AddsItems-updates old [] new adds = ap (λ (s : Recorded). s.updates) adds
AddsItems-updates old (i ∷ is) new adds = AddsItems-updates adds.0 is new adds.2 ∙ one_keeps old i adds.0 adds.1

-- and do not matter
one_beside : (us : List Entry) (old : Recorded) (i : Item) (new : Recorded) → AddsItem old i new → AddsItem (record old { updates = us }) i (record new { updates = us })
one_beside us old i new adds = elim adds [
  | inl there ↦ inl (there.0, ap (λ (s : Recorded). record s { updates = us }) there.1)
  | inr more ↦ inr (more.0, ap (λ (s : Recorded). record s { updates = us }) more.1)
]

pub AddsItems-beside : (us : List Entry) (old : Recorded) (is : List Item) (new : Recorded) → AddsItems old is new → AddsItems (record old { updates = us }) is (record new { updates = us })
AddsItems-beside us old [] new adds = ap (λ (s : Recorded). record s { updates = us }) adds
AddsItems-beside us old (i ∷ is) new adds = (record adds.0 { updates = us }, one_beside us old i adds.0 adds.1, AddsItems-beside us adds.0 is new adds.2)

-- one list of items after the other
pub AddsItems-append : (old : Recorded) (is : List Item) (between : Recorded) (js : List Item) (new : Recorded) → AddsItems old is between → AddsItems between js new → AddsItems old (is ++ js) new
AddsItems-append old [] between js new first second = subst (λ (s : Recorded). AddsItems s js new) first second
AddsItems-append old (i ∷ is) between js new first second = (first.0, first.1, AddsItems-append first.0 is between js new first.2 second)
