-- A part that a call may touch is one of the call's object.
use Rattle.std.proofs.Common.{◌≡◌, ℕ, zero, suc, ◌<◌, Some, None, List, [], ◌∷◌, length, map, slice_index_or, refl, ap, sym, subst, arith, inl, inr}
use Rattle.std.specs.List.{Contains}
use Rattle.sto_item.specs.declared.item.Item.{Item}
use Rattle.sto_item.specs.Pending.{Entry}
use Rattle.sto_item.specs.Observed.{parts_of_items}
use Rattle.sto_model.specs.declared.call.Call.{Call}
use Rattle.sto_model.specs.declared.body.Next.{Next}
use Rattle.sto_model.specs.declared.body.Next.TheVariants.{Ask, Commit, Cancel}
use Rattle.sto_model.specs.PlainReplies.{PlainReply}
use Rattle.sto_model.specs.Run.{Behaviour}
use Rattle.sto_model.specs.Asked.{AsksOf, HasAsked}
use Rattle.sto_type.specs.Known.{Known}
use Rattle.sto_type.specs.Meaning.{Meaning, IsLawful, IsReady, IsPartOfObject, EachKnown, EachOwned}
use Rattle.sto_type.specs.Touching.{Touches, NextTouches, HasTouched}

item_owned : (homes : List (ℕ × ℕ)) (object part : ℕ) (k : Known) (is : List Item) (n : ℕ)
    → n < length (parts_of_items is) → slice_index_or (parts_of_items is) n part ≡ part → EachKnown homes object k is → IsPartOfObject homes object part
item_owned homes object part k [] n within at known = absurd (omega (arith, within))
item_owned homes object part k (i ∷ is) zero within at known = subst (IsPartOfObject homes object) at known.0
item_owned homes object part k (i ∷ is) (suc n) within at known = item_owned homes object part k is n (omega (arith, within)) at known.2

update_owned : (homes : List (ℕ × ℕ)) (object part : ℕ) (es : List Entry) (n : ℕ)
    → n < length (map (λ e. e.0) es) → slice_index_or (map (λ e. e.0) es) n part ≡ part → EachOwned homes object es → IsPartOfObject homes object part
update_owned homes object part [] n within at owned = absurd (omega (arith, within))
update_owned homes object part (e ∷ es) zero within at owned = subst (IsPartOfObject homes object) at owned.0
update_owned homes object part (e ∷ es) (suc n) within at owned = update_owned homes object part es n (omega (arith, within)) at owned.1

pub touched_owned : (m : Meaning) (law : IsLawful m) (part : ℕ) (call : Call) → Touches m part call → IsPartOfObject m.homes call.object part
touched_owned m law part call h = elim h.does [
  | inl needed ↦ (law.needs call h.knowledge h.contents part h.takes h.valid h.known needed).owned
  | inr (inl observed) ↦
      item_owned m.homes call.object part h.knowledge (m.items call h.knowledge) observed.1.0 observed.1.1 observed.1.2
      (law.knows call h.knowledge h.contents (record { takes = h.takes; valid = h.valid; part = h.known; done = observed.0 }))
  | inr (inr updated) ↦
      update_owned m.homes call.object part (m.updates call h.contents) updated.0 updated.1 updated.2
      (law.updated call h.contents h.takes h.valid).owned
]

-- the object whose part was touched, and that was asked
pub record IsTouchedOf (m : Meaning) (script : Behaviour) (replies : List PlainReply) (part : ℕ) : Type 0 where
  pub object : ℕ
  pub owned : IsPartOfObject m.homes object part
  pub asked : HasAsked object script replies

record NextOwned (m : Meaning) (next : Next) (part : ℕ) : Type 0 where
  object : ℕ
  owned : IsPartOfObject m.homes object part
  asked : AsksOf object next

next_owned : (m : Meaning) (law : IsLawful m) (next : Next) (part : ℕ) → NextTouches m next part → NextOwned m next part
next_owned m law (Ask call) part h = record { object = call.object; owned = touched_owned m law part call h; asked = refl }
next_owned m law Commit part h = absurd h
next_owned m law Cancel part h = absurd h

pub touched_of : (m : Meaning) (law : IsLawful m) (script : Behaviour) (replies : List PlainReply) (part : ℕ) → HasTouched m script replies part → IsTouchedOf m script replies part
touched_of m law script [] part h = let k = next_owned m law (script []) part h in record { object = k.object; owned = k.owned; asked = k.asked }
touched_of m law script (r ∷ rs) part (inl h) = let k = next_owned m law (script []) part h in record { object = k.object; owned = k.owned; asked = inl k.asked }
touched_of m law script (r ∷ rs) part (inr h) = let k = touched_of m law (λ xs. script (r ∷ xs)) rs part h in record { object = k.object; owned = k.owned; asked = inr k.asked }
