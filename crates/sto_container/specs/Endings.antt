-- The law of one call, from what its telling ends with.
use Rattle.std.specs.Prelude.{◌≡◌, ◌<◌, ℕ, List, length}
use Rattle.std.proofs.Common.{sym, ◌∙◌, subst}
use Rattle.sto_item.specs.declared.item.Item.{Item}
use Rattle.sto_item.specs.Pending.{Entry}
use Rattle.sto_item.specs.Agreement.{Agrees, AreTrueOf}
use Rattle.sto_model.specs.declared.call.Call.{Call}
use Rattle.sto_model.specs.PlainReplies.{PlainReply}
use Rattle.sto_model.specs.SequentialObjects.{reply_to}
use Rattle.sto_type.specs.Known.{Parts}
use Rattle.sto_type.specs.Meaning.{Meaning, IsUpdated, EachInside}
use Rattle.sto_type.specs.Reading.{items_at, updates_at, IsRead}
use Rattle.sto_type.specs.Observing.{EachRead}
use Rattle.sto_type.specs.Telling.{Telling, reading_of, told_at}
use Rattle.sto_type.specs.OneObject.{IsTold}

-- what a telling ends with on contents
abbrev pub Ends : Telling → Parts → PlainReply → List Item → List Entry → Type 0
Ends r c t is es = (told_at r c ≡ t) × (items_at (reading_of r) c ≡ is) × (updates_at (reading_of r) c ≡ es)

pub told_by :
    (m : Meaning) (call : Call) (r : Telling) (c : Parts) (t : PlainReply) (is : List Item) (es : List Entry) → Ends r c t is es → ((q : ℕ) → IsRead (reading_of r) c q → q < length m.widths)
    → EachRead (reading_of r) c is → EachInside m.widths is → AreTrueOf c is → ((e : Parts) → m.valid e → Agrees e is c → (told_at r e ≡ t) × (updates_at (reading_of r) e ≡ es))
    → t ≡ reply_to m.machines call (m.rows c) → IsUpdated m call c es → IsTold m call r c
told_by m call r c t is es ends within read inside holds same says updated = record {
  within = within;
  observed = subst (λ (x : List Item). EachRead (reading_of r) c x) (sym ends.1) read;
  inside = subst (λ (x : List Item). EachInside m.widths x) (sym ends.1) inside;
  holds = subst (λ (x : List Item). Agrees c x c) (sym ends.1) holds;
  same_told = λ e v a. (same e v (subst (λ (x : List Item). Agrees e x c) ends.1 a)).0 ∙ sym ends.0;
  same_updates = λ e v a. (same e v (subst (λ (x : List Item). Agrees e x c) ends.1 a)).1 ∙ sym ends.2;
  tells = ends.0 ∙ says;
  updated = subst (λ (x : List Entry). IsUpdated m call c x) (sym ends.2) updated;
}
