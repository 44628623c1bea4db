-- What was carried is carried from the parts that an extension has read anew.
use Rattle.std.proofs.Common.{◌≡◌, ℕ, ℤ, pos, Some, List, [], ◌∷◌, refl, sym, ◌∙◌, subst, slice_index_or, IsTrue, ◌<◌, length}
use Rattle.sto_part.specs.Parts.{part_of}
use Rattle.sto_part.specs.Preds.{holds_of}
use Rattle.sto_item.specs.declared.item.Item.{Item}
use Rattle.sto_item.specs.declared.item.Item.TheVariants.{Seen, Holds}
use Rattle.sto_item.specs.Pending.{Entry}
use Rattle.sto_item.specs.Agreement.{Agrees, AreTrueOf}
use Rattle.sto_model.specs.PlainReplies.{PlainReply}
use Rattle.sto_model.specs.Run.{Behaviour}
use Rattle.sto_type.specs.Known.{Parts, Known, IsPartOf}
use Rattle.sto_type.specs.Meaning.{Meaning}
use Rattle.sto_type.specs.Runs.{IsCarried}
use Rattle.sto_attempt_log.specs.Every.{AllOf}
use Rattle.sto_attempt_log.specs.Extending.{StaysSo}

-- each item is said of the new parts as of the old
module _ (m : Meaning) (old new : Known) where
  item_words : (p : ℕ) (ws : List ℤ) (d : Parts) → p < length d → IsPartOf new d → new p ≡ Some ws → part_of d p ≡ ws
  item_words p ws d l h e = h.same p ws l e

  -- contents with the new parts that agree with the items agree with them relative to contents with the old parts
  pub agrees_over : (long : ℕ) (items : List Item) (e d c : Parts) → length d ≡ long → length c ≡ long → AllOf (StaysSo long old new) items → IsPartOf new d → IsPartOf old c → Agrees e items d → Agrees e items c
  agrees_over long [] e d c ld lc s n o a = tt
  agrees_over long (Seen p ∷ is) e d c ld lc s n o a =
      (a.0 ∙ n.same p s.0.words (subst (λ (l : ℕ). p < l) (sym ld) s.0.range) s.0.now ∙ sym (o.same p s.0.words (subst (λ (l : ℕ). p < l) (sym lc) s.0.range) s.0.before), agrees_over long is e d c ld lc s.1 n o a.1)
  agrees_over long (Holds p ∷ is) e d c ld lc s n o a = (a.0, agrees_over long is e d c ld lc s.1 n o a.1)

  -- and the items are true of contents with the new parts
  pub true_over : (long : ℕ) (items : List Item) (d : Parts) → length d ≡ long → AllOf (StaysSo long old new) items → IsPartOf new d → AreTrueOf d items
  true_over long items d ld s n = by items s
    where
      by : (is : List Item) → AllOf (StaysSo long old new) is → Agrees d is d
      by [] h = tt
      by (Seen p ∷ is) h = (refl, by is h.1)
      by (Holds p ∷ is) h =
          (subst (λ (ws : List ℤ). IsTrue (holds_of p (slice_index_or ws p.word (pos 0)))) (sym (n.same p.part h.0.words (subst (λ (l : ℕ). p.part < l) (sym ld) h.0.range) h.0.now)) h.0.holds, by is h.1)

  pub carried_over : (f : Behaviour) (items : List Item) (es : List Entry) (rs : List PlainReply) (long : ℕ) (c : Parts) → ((d : Parts) → m.valid d → length d ≡ long) → m.valid c → IsPartOf old c
      → AllOf (StaysSo long old new) items → IsCarried m f old items es rs → IsCarried m f new items es rs
  carried_over f items es rs long c wide v o s h = record {
    holds = λ d w n. true_over long items d (wide d w) s n;
    runs = λ d e w n u a. h.runs c e v o u (agrees_over long items e d c (wide d w) (wide c v) s n o a);
  }
