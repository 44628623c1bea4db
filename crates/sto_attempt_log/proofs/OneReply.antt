-- An attempt's log over one more reply.
use Rattle.std.proofs.Common.{◌≡◌, ℕ, suc, not, ◌||◌, None, List, [], ◌∷◌, ◌++◌, map, refl, arith, ap, sym, ◌∙◌, subst, inl, inr}
use Rattle.std.specs.List.{Contains}
use Rattle.sto_item.specs.declared.item.Item.{Item}
use Rattle.sto_item.specs.Pending.{Entry, AreUpdates, applied_updates, with_updates}
use Rattle.sto_item.specs.Observed.{part_of_item, parts_of_items}
use Rattle.sto_item.specs.Rebase.{rebased}
use Rattle.sto_item.specs.Recorded.{Recorded}
use Rattle.sto_item.specs.Agreement.{Agrees, AreTrueOf}
use Rattle.sto_model.specs.declared.call.Call.{Call}
use Rattle.sto_model.specs.declared.body.Next.{Next}
use Rattle.sto_model.specs.declared.body.Next.TheVariants.{Ask}
use Rattle.sto_model.specs.PlainReplies.{PlainReply, is_write}
use Rattle.sto_model.specs.SequentialObjects.{reply_to}
use Rattle.sto_model.specs.Run.{Behaviour}
use Rattle.sto_model.specs.Serial.{is_written, has_written}
use Rattle.sto_type.specs.Known.{Parts, Known, IsPartOf, known}
use Rattle.sto_type.specs.Meaning.{Meaning, IsLawful, IsReady, is_empty}
use Rattle.sto_type.specs.Runs.{IsRunOn, IsCarried}
use Rattle.sto_type.proofs.Carrying.{IsCarried-more}
use Rattle.sto_type.proofs.Learning.{IsPartOf-none}
use Rattle.sto_attempt_log.specs.Every.{AllOf}
use Rattle.sto_type.specs.Touching.{Touches, NextTouches, HasTouched}
use Rattle.sto_attempt_log.specs.Log.{IsRead, IsInside, IsLog, IsCache}
use Rattle.sto_item.specs.Recorded.{AddsItems}
use Rattle.sto_attempt_log.proofs.Every.{all_map}
use Rattle.sto_attempt_log.proofs.Touched.{touched_next, touched_more}
use Rattle.sto_attempt_log.proofs.Items.{agrees_added, agrees_before, all_added}
use Rattle.sto_attempt_log.proofs.Written.{written_more, empty_with, with_parts}
use Rattle.sto_attempt_log.proofs.Moving.{read_below, inside_below, parts_below}

pub cache_none : (m : Meaning) (base : Known) (es : List Entry) → IsCache m base es (known [])
cache_none m base es = record { above = λ d v p. IsPartOf-none (applied_updates es d); from = λ p h. cc; inside = λ p h. cc }

-- the run on contents that what was read is part of
pub run_on : (m : Meaning) (f : Behaviour) (base : Known) (items : List Item) (es : List Entry) (rs : List PlainReply) (d : Parts) → IsCarried m f base items es rs → m.valid d → IsPartOf base d → IsRunOn m f d es rs
run_on m f base items es rs d h v p = h.runs d d v p v (h.holds d v p)

-- what is so of each part that items name, and that updates name
all_observed : (P : ℕ → Type 0) (is : List Item) → ((p : ℕ) → Contains (parts_of_items is) p → P p) → AllOf (λ (i : Item). P (part_of_item i)) is
all_observed P [] h = tt
all_observed P (i ∷ is) h = (h (part_of_item i) (0, omega arith, refl), all_observed P is (λ p c. h p (suc c.0, omega (arith, c.1), c.2)))

all_updated : (P : ℕ → Type 0) (es : List Entry) → ((p : ℕ) → Contains (map (λ e. e.0) es) p → P p) → AllOf (λ (e : Entry). P e.0) es
all_updated P [] h = tt
all_updated P (e ∷ es) h = (h e.0 (0, omega arith, refl), all_updated P es (λ p c. h p (suc c.0, omega (arith, c.1), c.2)))

-- the same of a set that agrees alike
pub carried_alike : (m : Meaning) (f : Behaviour) (base : Known) (items js : List Item) (es : List Entry) (rs : List PlainReply) → IsCarried m f base items es rs
    → ((e d : Parts) → Agrees e items d → Agrees e js d) → ((e d : Parts) → Agrees e js d → Agrees e items d) → IsCarried m f base js es rs
carried_alike m f base items js es rs h there here = record {
  holds = λ d v p. there d d (h.holds d v p);
  runs = λ d e v p w a. h.runs d e v p w (here e d a);
}

-- One call that is answered on the cache.
module _ (m : Meaning) (law : IsLawful m) (f : Behaviour) (base : Known) (items : List Item) (es : List Entry) (rs : List PlainReply) (call : Call) (k : Known)
    (was : IsLog m f base items es rs) (cache : IsCache m base es k) (d : Parts) (valid : m.valid d) (part : IsPartOf base d)
    (t : m.takes call) (done : m.need call k ≡ None) (asks : f rs ≡ Ask call) where
  pub here : IsRunOn m f d es rs
  here = run_on m f base items es rs d was.carried valid part

  pub ready : IsReady m call k (applied_updates es d)
  ready = record { takes = t; valid = here.valid; part = cache.above d valid part; done = done }

  -- the items of the call are true with the updates applied
  pub true_now : AreTrueOf (applied_updates es d) (m.items call k)
  true_now = law.holds call k (applied_updates es d) ready

  abbrev pub left : List Item
  left = rebased es (m.items call k)

  touched_of : (p : ℕ) → Touches m p call → HasTouched m f rs p
  touched_of p h = touched_next m f rs p (subst (λ (n : Next). NextTouches m n p) (sym asks) h)

  -- the call may touch what it observes, and what it updates
  observes : (p : ℕ) → Contains (parts_of_items (m.items call k)) p → Touches m p call
  observes p there = record { takes = t; contents = applied_updates es d; valid = here.valid; knowledge = k; known = cache.above d valid part; does = inr (inl (done, there)) }

  updates : (p : ℕ) → Contains (map (λ e. e.0) (m.updates call (applied_updates es d))) p → Touches m p call
  updates p there = record { takes = t; contents = applied_updates es d; valid = here.valid; knowledge = k; known = cache.above d valid part; does = inr (inr there) }

  module _ (reply : PlainReply) (v : List Entry) (ordered : AreUpdates v) (says : (c : Parts) → m.valid c → IsPartOf k c → (reply ≡ reply_to m.machines call (m.rows c)) × (v ≡ m.updates call c)) where
    said : (reply ≡ reply_to m.machines call (m.rows (applied_updates es d))) × (v ≡ m.updates call (applied_updates es d))
    said = says (applied_updates es d) here.valid (cache.above d valid part)

    written : has_written f (rs ++ reply ∷ []) ≡ not (is_empty (with_updates es v))
    written =
        let own : is_written (f rs) reply ≡ not (is_empty v) =
        ap (λ n. is_written n reply) asks ∙ ap (is_write call.operation) said.0
        ∙ (law.updated call (applied_updates es d) t here.valid).writes ∙ ap (λ (l : List Entry). not (is_empty l)) (sym said.1) in
        written_more f rs reply ∙ ap (λ b. b || is_written (f rs) reply) was.written ∙ ap (λ b. not (is_empty es) || b) own
        ∙ sym (empty_with es v ordered.1)

    pub log_more : (js : List Item) → AddsItems (record { items = items; updates = es }) left (record { items = js; updates = es }) → IsLog m f base js (with_updates es v) (rs ++ reply ∷ [])
    log_more js adds =
        let old : Recorded = record { items = items; updates = es } in
        let new : Recorded = record { items = js; updates = es } in
        let carried : IsCarried m f base (items ++ left) (with_updates es v) (rs ++ reply ∷ []) =
        IsCarried-more m law f base base items es rs call k was.carried t (λ c h. h) (λ c w h on. cache.above c w h) done reply v says asks in
        let known_items = law.knows call k (applied_updates es d) ready in
        let inside = law.inside call k (applied_updates es d) ready in
        record {
          carried = carried_alike m f base (items ++ left) js (with_updates es v) (rs ++ reply ∷ []) carried (λ e c a. agrees_added e c old left new adds a) (λ e c a. agrees_before e c old left new adds a);
          read = all_added (IsRead base) old left new adds was.read (read_below base k es m.widths d here.widths (law.widths d valid) cache.from m.homes call.object (m.items call k) known_items inside);
          inside = all_added (IsInside m.widths) old left new adds was.inside (inside_below m.widths es (m.items call k) inside);
          touched_items =
              let P : Item → Type 0 = λ i. HasTouched m f (rs ++ reply ∷ []) (part_of_item i) in
              all_added P old left new adds (all_map (λ (i : Item). HasTouched m f rs (part_of_item i)) P (λ i h. touched_more m f rs reply (part_of_item i) h) items was.touched_items)
              (parts_below (λ p. HasTouched m f (rs ++ reply ∷ []) p) es (m.items call k)
              (all_observed (λ p. HasTouched m f (rs ++ reply ∷ []) p) (m.items call k) (λ p there. touched_more m f rs reply p (touched_of p (observes p there)))));
          touched_updates =
              let P : ℕ → Type 0 = λ p. HasTouched m f (rs ++ reply ∷ []) p in
              with_parts P es v (all_map (λ (e : Entry). HasTouched m f rs e.0) (λ (e : Entry). P e.0) (λ e h. touched_more m f rs reply e.0 h) es was.touched_updates)
              (subst (λ (l : List Entry). AllOf (λ (e : Entry). P e.0) l) (sym said.1)
              (all_updated P (m.updates call (applied_updates es d)) (λ p there. touched_more m f rs reply p (touched_of p (updates p there)))));
          written = written;
        }
