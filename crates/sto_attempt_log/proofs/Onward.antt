-- The log after one more call, as the code has it.
use Rattle.std.proofs.Common.{◌≡◌, ℕ, Some, List, [], ◌∷◌, ◌++◌, ap, sym, ◌∙◌, subst, inl}
use Rattle.sto_item.specs.declared.item.Item.{Item}
use Rattle.sto_item.specs.Pending.{Entry, AreUpdates, applied_updates, with_updates}
use Rattle.sto_item.specs.Rebase.{rebased}
use Rattle.sto_item.specs.Agreement.{HasWidths}
use Rattle.sto_item.specs.Recorded.{Recorded}
use Rattle.sto_model.specs.declared.call.Call.{Call}
use Rattle.sto_model.specs.declared.body.Next.{Next}
use Rattle.sto_model.specs.declared.body.Next.TheVariants.{Ask}
use Rattle.sto_model.specs.PlainReplies.{PlainReply}
use Rattle.sto_model.specs.Run.{Behaviour}
use Rattle.sto_type.specs.Known.{Parts, Known, IsPartOf}
use Rattle.sto_type.specs.Meaning.{Meaning, IsLawful}
use Rattle.sto_type.specs.Touching.{Touches, NextTouches}
use Rattle.sto_type.specs.Plans.{Say, IsPlan}
use Rattle.sto_type.specs.Runs.{IsRunOn}
use Rattle.sto_type.proofs.Steps.{step_widths}
use Rattle.sto_attempt_log.specs.Log.{IsLog, IsCache, IsPending}
use Rattle.sto_attempt_log.specs.Refreshed.{outside}
use Rattle.sto_item.specs.Recorded.{AddsItems}
use Rattle.sto_item.proofs.Added.{AddsItems-updates}
use Rattle.sto_type.specs.Runs.{Answered, IsAnswer, updates_along}
use Rattle.sto_type.proofs.Growing.{HasGrown-none, HasGrown-more}
use Rattle.sto_attempt_log.specs.Growing.{AreKnown, HasHeard}
use Rattle.sto_attempt_log.proofs.OneReply.{run_on, log_more}
use Rattle.sto_attempt_log.proofs.Refreshing.{cache_outside}

-- the pending updates fit what was read
pub pending_of : (m : Meaning) (f : Behaviour) (base : Known) (items : List Item) (es : List Entry) (rs : List PlainReply) → IsLog m f base items es rs → (d : Parts) × m.valid d × IsPartOf base d → IsPending m base es
pending_of m f base items es rs h some = record {
  ordered = (run_on m f base items es rs some.0 h.carried some.1 some.2).ordered;
  fits = λ d v p. let on : IsRunOn m f d es rs = run_on m f base items es rs d h.carried v p in (on.widths, on.valid);
  some = some;
}

-- the next call may touch the part that it needs
pub need_touched : (m : Meaning) (f : Behaviour) (base : Known) (items : List Item) (es : List Entry) (rs : List PlainReply) (call : Call) (k : Known) (p : ℕ)
    → IsLog m f base items es rs → IsCache m base es k → ((d : Parts) × m.valid d × IsPartOf base d) → m.takes call → f rs ≡ Ask call → m.need call k ≡ Some p → NextTouches m (f rs) p
need_touched m f base items es rs call k p log cache some takes asks needs =
    let touches : Touches m p call = record {
      takes = takes;
      contents = applied_updates es some.0;
      valid = (run_on m f base items es rs some.0 log.carried some.1 some.2).valid;
      knowledge = k;
      known = cache.above some.0 some.1 some.2;
      does = inl needs;
    } in
    subst (λ (n : Next). NextTouches m n p) (sym asks) touches

module _ (m : Meaning) (law : IsLawful m) (f : Behaviour) (base : Known) (old : Recorded) (rs : List PlainReply) (call : Call) (k : Known)
    (was : IsLog m f base old.items old.updates rs) (cache : IsCache m base old.updates k) (some : (d : Parts) × m.valid d × IsPartOf base d)
    (t : m.takes call) (asks : f rs ≡ Ask call) (reply : PlainReply) (is : List Item) (v : List Entry) (plan : IsPlan m call k (Say reply is v)) where
  on : IsRunOn m f some.0 old.updates rs
  on = run_on m f base old.items old.updates rs some.0 was.carried some.1 some.2

  pub may_compose : (mid : Recorded) (left : List Item) → AddsItems old left mid → AreUpdates mid.updates × ((d : Parts) × HasWidths mid.updates d × HasWidths v d)
  may_compose mid left adds =
      let same : mid.updates ≡ old.updates = AddsItems-updates old left mid adds in
      let says = (plan.2 (applied_updates old.updates some.0) on.valid (cache.above some.0 some.1 some.2)).1 in
      let fit : HasWidths v some.0 = subst (λ (l : List Entry). HasWidths l some.0) (sym says) (step_widths m law f some.0 old.updates rs call on t) in (
        subst AreUpdates (sym same) on.ordered,
        (some.0, subst (λ (l : List Entry). HasWidths l some.0) (sym same) on.widths, fit),
      )

  pub log_next : AreUpdates v → (left : List Item) → left ≡ rebased old.updates is → (mid new : Recorded) → AddsItems old left mid → new ≡ record mid { updates = with_updates mid.updates v } → IsLog m f base new.items new.updates (rs ++ reply ∷ [])
  log_next ordered left made mid new adds after =
      let same : mid.updates ≡ old.updates = AddsItems-updates old left mid adds in
      let adds_left : AddsItems old (rebased old.updates (m.items call k)) (record { items = mid.items; updates = old.updates }) =
      let P : List Item → Recorded → Type 0 = λ l s. AddsItems old l s in
      let here : mid ≡ record { items = mid.items; updates = old.updates } = λ i. record { items = mid.items; updates = same i } in
      subst (λ (l : List Item). P l (record { items = mid.items; updates = old.updates })) (made ∙ ap (rebased old.updates) plan.1) (subst (P left) here adds) in
      let h : IsLog m f base mid.items (with_updates old.updates v) (rs ++ reply ∷ []) =
      log_more m law f base old.items old.updates rs call k was cache some.0 some.1 some.2 t plan.0 asks reply v ordered (λ c w p. plan.2 c w p) mid.items adds_left in
      let items : new.items ≡ mid.items = ap (λ (s : Recorded). s.items) after in
      let updates : new.updates ≡ with_updates old.updates v = ap (λ (s : Recorded). s.updates) after ∙ ap (λ l. with_updates l v) same in
      subst (λ (l : List Item). IsLog m f base l new.updates (rs ++ reply ∷ [])) (sym items) (subst (λ (l : List Entry). IsLog m f base mid.items l (rs ++ reply ∷ [])) (sym updates) h)

  -- the updates fit, and with them pending what is known of other parts is right
  pub may_refresh : AreUpdates v → (left : List Item) → left ≡ rebased old.updates is → (mid new : Recorded) → AddsItems old left mid → new ≡ record mid { updates = with_updates mid.updates v }
      → ((d : Parts) × m.valid d × HasWidths v d) × IsPending m base new.updates × IsCache m base new.updates (outside v k)
  may_refresh ordered left made mid new adds after =
      let updates : new.updates ≡ with_updates old.updates v = ap (λ (s : Recorded). s.updates) after ∙ ap (λ l. with_updates l v) (AddsItems-updates old left mid adds) in
      let fits : (d : Parts) → m.valid d → IsPartOf base d → HasWidths old.updates d × HasWidths v d = λ d w p.
      let here : IsRunOn m f d old.updates rs = run_on m f base old.items old.updates rs d was.carried w p in
      let says = (plan.2 (applied_updates old.updates d) here.valid (cache.above d w p)).1 in
      (here.widths, subst (λ (l : List Entry). HasWidths l d) (sym says) (step_widths m law f d old.updates rs call here t)) in (
        (some.0, some.1, (fits some.0 some.1 some.2).1),
        pending_of m f base new.items new.updates (rs ++ reply ∷ []) (log_next ordered left made mid new adds after) some,
        subst (λ (l : List Entry). IsCache m base l (outside v k)) (sym updates) (cache_outside m base old.updates v k on.ordered ordered fits cache),
      )

  -- the call as it was answered
  abbrev pub answered : Answered
  answered = record { call = call; found = applied_updates old.updates some.0; known = k }

  pub answer : IsAnswer m f rs reply answered
  answer =
      let part : IsPartOf k (applied_updates old.updates some.0) = cache.above some.0 some.1 some.2 in
      record { asks = asks; ready = record { takes = t; valid = on.valid; part = part; done = plan.0 }; says = (plan.2 (applied_updates old.updates some.0) on.valid part).0 }

  -- and how the set grew by it
  pub answer_adds : (left : List Item) → left ≡ rebased old.updates is → (mid new : Recorded) → AddsItems old left mid → new ≡ record mid { updates = with_updates mid.updates v }
      → AddsItems old (rebased old.updates (m.items call k)) (record new { updates = old.updates })
  answer_adds left made mid new adds after =
      let same : mid.updates ≡ old.updates = AddsItems-updates old left mid adds in
      let items : new.items ≡ mid.items = ap (λ (s : Recorded). s.items) after in
      let here : mid ≡ record new { updates = old.updates } = λ i. record { items = sym items i; updates = same i } in
      subst (λ (l : List Item). AddsItems old l (record new { updates = old.updates })) (made ∙ ap (rebased old.updates) plan.1) (subst (λ (s : Recorded). AddsItems old left s) here adds)

  pub answer_updates : (left : List Item) (mid new : Recorded) → AddsItems old left mid → new ≡ record mid { updates = with_updates mid.updates v }
      → new.updates ≡ with_updates old.updates (m.updates call (applied_updates old.updates some.0))
  answer_updates left mid new adds after =
      let same : mid.updates ≡ old.updates = AddsItems-updates old left mid adds in
      let says : v ≡ m.updates call (applied_updates old.updates some.0) = (plan.2 (applied_updates old.updates some.0) on.valid (cache.above some.0 some.1 some.2)).1 in
      ap (λ (s : Recorded). s.updates) after ∙ ap (λ l. with_updates l v) same ∙ ap (with_updates old.updates) says

pub heard_none : (m : Meaning) (f : Behaviour) (base : Known) (rs : List PlainReply) (old : Recorded) → HasHeard m f base rs old rs old
heard_none m f base rs old = record { grown = HasGrown-none m f rs old; known = tt }

known_more : (m : Meaning) (base : Known) (es : List Entry) (ans : List Answered) (a : Answered) → AreKnown m base es ans → IsCache m base (updates_along m es ans) a.known → AreKnown m base es (ans ++ a ∷ [])
known_more m base es [] a h e = (e, tt)
known_more m base es (b ∷ bs) a h e = (h.0, known_more m base (with_updates es (m.updates b.call b.found)) bs a h.1 e)

-- one call more
pub heard_more : (m : Meaning) (f : Behaviour) (base : Known) (rs : List PlainReply) (old : Recorded) (all : List PlainReply) (mid : Recorded) (t : PlainReply) (a : Answered) (new : Recorded)
    → HasHeard m f base rs old all mid → IsAnswer m f all t a → IsCache m base mid.updates a.known → AddsItems mid (rebased mid.updates (m.items a.call a.known)) (record new { updates = mid.updates })
    → new.updates ≡ with_updates mid.updates (m.updates a.call a.found) → HasHeard m f base rs old (all ++ t ∷ []) new
heard_more m f base rs old all mid t a new h given cache adds after = record {
  grown = HasGrown-more m f rs old all mid t a new h.grown given adds after;
  known = known_more m base old.updates h.grown.calls a h.known (subst (λ (l : List Entry). IsCache m base l a.known) h.grown.updates cache);
}
