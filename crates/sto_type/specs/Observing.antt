-- The law of a call that is a reading: what it needs and observes follows from what is read, and only whole contents are spoken of.
use Rattle.std.specs.Prelude.{◌≡◌, ◌<◌, ℕ, Some, None, List, [], ◌∷◌, map, length}
use Rattle.std.proofs.Common.{sym, ◌∙◌, ap, subst, arith}
use Rattle.std.proofs.lemmas.List.{length-map}
use Rattle.sto_item.specs.declared.item.Item.{Item}
use Rattle.sto_item.specs.Pending.{Entry}
use Rattle.sto_item.specs.Observed.{part_of_item}
use Rattle.sto_item.specs.Agreement.{Agrees, AreTrueOf}
use Rattle.sto_model.specs.declared.call.Call.{Call}
use Rattle.sto_model.specs.SequentialObjects.{reply_to}
use Rattle.sto_type.specs.Known.{Parts, Known, IsPartOf}
use Rattle.sto_type.specs.Meaning.{Meaning, IsReady, IsNeed, IsUpdated, IsPartOfObject, EachKnown, EachInside}
use Rattle.sto_type.specs.Reading.{Reading, need_of, items_of, items_at, updates_at, IsRead}
use Rattle.sto_type.specs.Readings.{ReadsWithin, need_is_read, items_are, read_is_known}

-- each item is of a part that is read
abbrev pub EachRead : Reading → Parts → List Item → Type 0
EachRead r c [] = Unit {0}
EachRead r c (i ∷ is) = IsRead r c (part_of_item i) × EachRead r c is

-- the reply of a call is the same on both contents
abbrev pub SameReply : Meaning → Call → Parts → Parts → Type 0
SameReply m call e c = reply_to m.machines call (m.rows e) ≡ reply_to m.machines call (m.rows c)

-- what a reading observes on valid contents is what a call's reply and updates rest on
pub record IsObservation (m : Meaning) (call : Call) (r : Reading) (c : Parts) : Type 0 where
  -- the parts that are read are the type's, the items are of these, and their predicates are of words that are there
  pub within : (q : ℕ) → IsRead r c q → q < length m.widths
  pub observed : EachRead r c (items_at r c)
  pub inside : EachInside m.widths (items_at r c)
  -- the items are true, and what agrees with them has the same reply and updates
  pub holds : AreTrueOf c (items_at r c)
  pub same_reply : (e : Parts) → m.valid e → Agrees e (items_at r c) c → SameReply m call e c
  pub same_updates : (e : Parts) → m.valid e → Agrees e (items_at r c) c → updates_at r e ≡ updates_at r c

-- the law of one call on valid contents
pub record IsCallLawful (m : Meaning) (call : Call) (r : Reading) (c : Parts) : Type 0 where
  pub observation : IsObservation m call r c
  pub updated : IsUpdated m call c (updates_at r c)

-- an observation, from its items and updates as they come out
pub observation_by :
    (m : Meaning) (call : Call) (r : Reading) (c : Parts) (is : List Item) (es : List Entry) → items_at r c ≡ is → updates_at r c ≡ es
    → ((q : ℕ) → IsRead r c q → q < length m.widths) → EachRead r c is → EachInside m.widths is → AreTrueOf c is
    → ((e : Parts) → m.valid e → Agrees e is c → SameReply m call e c × (updates_at r e ≡ es)) → IsObservation m call r c
observation_by m call r c is es fi fu within read inside holds same = record {
  within = within;
  observed = subst (λ (x : List Item). EachRead r c x) (sym fi) read;
  inside = subst (λ (x : List Item). EachInside m.widths x) (sym fi) inside;
  holds = subst (λ (x : List Item). Agrees c x c) (sym fi) holds;
  same_reply = λ e t a. (same e t (subst (λ (x : List Item). Agrees e x c) fi a)).0;
  same_updates = λ e t a. (same e t (subst (λ (x : List Item). Agrees e x c) fi a)).1 ∙ sym fu;
}

-- the needs, items and updates of a call are those of a reading
pub record IsReading (m : Meaning) (call : Call) (r : Reading) : Type 0 where
  pub need : (k : Known) → m.need call k ≡ need_of r k
  pub items : (k : Known) → m.items call k ≡ items_of r k
  pub updates : (c : Parts) → m.updates call c ≡ updates_at r c

-- The laws of a call that is a reading, from those on whole contents; each part is to be the call's object's.
module _ (m : Meaning) (call : Call) (r : Reading) (is : IsReading m call r) (widths : (c : Parts) → m.valid c → map length c ≡ m.widths)
    (owned : (p : ℕ) → p < length m.widths → IsPartOfObject m.homes call.object p) (lawful : (c : Parts) → m.valid c → IsCallLawful m call r c) where
  reads_within : (c : Parts) → m.valid c → ReadsWithin r c
  reads_within c v q h =
      let w : q < length m.widths = (lawful c v).observation.within q h in
      let l : length m.widths ≡ length c = ap length (sym (widths c v)) ∙ length-map c length in
      omega (arith, w, l)

  pub reading_needs : (k : Known) (d : Parts) (p : ℕ) → m.valid d → IsPartOf k d → m.need call k ≡ Some p → IsNeed m call k p
  reading_needs k d p v part e =
      let h : (k p ≡ None) × IsRead r d p = need_is_read r k d p part (reads_within d v) (sym (is.need k) ∙ e) in
      record { unknown = h.0; owned = owned p ((lawful d v).observation.within p h.1) }

  done : (k : Known) (d : Parts) → IsReady m call k d → need_of r k ≡ None
  done k d h = sym (is.need k) ∙ h.done

  -- the items on what is known are those on the contents
  pub reading_items : (k : Known) (d : Parts) → IsReady m call k d → m.items call k ≡ items_at r d
  reading_items k d h = is.items k ∙ items_are r k d h.part (reads_within d h.valid) (done k d h)

  each_known : (k : Known) (d : Parts) → IsReady m call k d → (items : List Item) → EachRead r d items → EachKnown m.homes call.object k items
  each_known k d h [] read = tt
  each_known k d h (i ∷ items) read =
      (owned (part_of_item i) ((lawful d h.valid).observation.within (part_of_item i) read.0), read_is_known r k d (part_of_item i) h.part (reads_within d h.valid) (done k d h) read.0, each_known k d h items read.1)

  pub reading_knows : (k : Known) (d : Parts) → IsReady m call k d → EachKnown m.homes call.object k (m.items call k)
  reading_knows k d h = subst (λ (l : List Item). EachKnown m.homes call.object k l) (sym (reading_items k d h)) (each_known k d h (items_at r d) (lawful d h.valid).observation.observed)

  pub reading_inside : (k : Known) (d : Parts) → IsReady m call k d → EachInside m.widths (m.items call k)
  reading_inside k d h = subst (λ (l : List Item). EachInside m.widths l) (sym (reading_items k d h)) (lawful d h.valid).observation.inside

  pub reading_holds : (k : Known) (d : Parts) → IsReady m call k d → AreTrueOf d (m.items call k)
  reading_holds k d h = subst (λ (l : List Item). AreTrueOf d l) (sym (reading_items k d h)) (lawful d h.valid).observation.holds

  agrees : (k : Known) (d e : Parts) → IsReady m call k d → Agrees e (m.items call k) d → Agrees e (items_at r d) d
  agrees k d e h a = subst (λ (l : List Item). Agrees e l d) (reading_items k d h) a

  pub reading_reply : (k : Known) (d e : Parts) → IsReady m call k d → m.valid e → Agrees e (m.items call k) d → SameReply m call e d
  reading_reply k d e h v a = (lawful d h.valid).observation.same_reply e v (agrees k d e h a)

  pub reading_updates : (k : Known) (d e : Parts) → IsReady m call k d → m.valid e → Agrees e (m.items call k) d → m.updates call e ≡ m.updates call d
  reading_updates k d e h v a = is.updates e ∙ (lawful d h.valid).observation.same_updates e v (agrees k d e h a) ∙ sym (is.updates d)

  pub reading_updated : (c : Parts) → m.valid c → IsUpdated m call c (m.updates call c)
  reading_updated c v = subst (λ (l : List Entry). IsUpdated m call c l) (sym (is.updates c)) (lawful c v).updated
