-- The events of an extension, by what they tell, with the two numbers that the pass then has.
use Rattle.std.proofs.Common.{◌≡◌, ◌+◌, ◌≤◌, ◌<◌, ℕ, ℤ, true, Some, None, List, [], ◌∷◌, ◌++◌, refl, sym, subst, arith}
use Rattle.sto_item.specs.Pending.{Entry as Update}
use Rattle.sto_model.specs.PlainReplies.{PlainReply}
use Rattle.sto_model.specs.Run.{Behaviour}
use Rattle.sto_core.specs.declared.view.Claim.{Claim}
use Rattle.sto_core.specs.declared.view.Wrote.{Wrote}
use Rattle.sto_core.specs.declared.view.Finding.{Finding}
use Rattle.sto_core.specs.declared.view.Phase.{Phase}
use Rattle.sto_core.specs.declared.view.Phase.TheVariants as P
use Rattle.sto_core.specs.declared.view.View.{View}
use Rattle.sto_core.specs.Lists.{Among}
use Rattle.sto_core.specs.Versions.{ticket_of, is_free}
use Rattle.sto_core.specs.History.{Validity}
use Rattle.sto_core.specs.Event.{Renew, Recheck, found}
use Rattle.sto_core.specs.Allowed.{IsIdle, HasPart, Allowed}
use Rattle.sto_core.specs.Tells.{Tells, ClaimsFit}
use Rattle.sto_core.proofs.Lists.{among_snoc, each_snoc}
use Rattle.sto_type.specs.Meaning.{Meaning}
use Rattle.sto_attempt_log.specs.declared.read_entry.ReadEntry.{ReadEntry}
use Rattle.sto_attempt_log.specs.declared.read_phase.ReadPhase.TheVariants as S
use Rattle.sto_attempt_log.specs.ReadSet.{words_in, ticket_in, claim_of, IsClaimed, AreClaimed}
use Rattle.sto_attempt_log.specs.Standing.{Fits, Spans, IsLeft}
use Rattle.sto_attempt_log.proofs.Claimed.{claimed_still, claimed_more, ticket_more, ticket_new}
use Rattle.sto_attempt_log.proofs.Reading.{AtRest, own_still, among_front}
use Rattle.sto_attempt_log.proofs.Renewing.{was_claimed, recheck_words}

-- what an event leaves that claims nothing
pub spans_quiet : (m : Meaning) (valid : Validity) (sizes : List ℕ) (at bound : ℕ) (base fresh : List ReadEntry) (v : View) (found : List Finding) (wrote : List Wrote) (phase : Phase)
    → ClaimsFit valid (record v { steps = v.steps + 1; findings = found; wrote = wrote; phase = phase }) → Spans m valid sizes at bound base fresh v → Spans m valid sizes at bound base fresh (record v { steps = v.steps + 1; findings = found; wrote = wrote; phase = phase })
spans_quiet m valid sizes at bound base fresh v found wrote phase fit h =
    let w : View = record v { steps = v.steps + 1; findings = found; wrote = wrote; phase = phase } in
    let old : AreClaimed w at base = claimed_still v w at base refl (λ c h. h) h.claimed in
    let new : AreClaimed w bound fresh = claimed_still v w bound fresh refl (λ c h. h) h.renewed in
    record {
      own = own_still m sizes v w refl refl h.own;
      unheld = h.unheld;
      decided = h.decided;
      draws = h.draws;
      number = h.number;
      above = h.above;
      claimed = old;
      renewed = new;
      only = h.only;
      below = h.below;
      fit = fit;
    }

-- what one leaves that claims one more part as of the new number
pub spans_more : (m : Meaning) (valid : Validity) (sizes : List ℕ) (at bound : ℕ) (base fresh : List ReadEntry) (v : View) (found : List Finding) (wrote : List Wrote) (phase : Phase) (x : ReadEntry)
    → ClaimsFit valid (record v { steps = v.steps + 1; findings = found; wrote = wrote; claims = v.claims ++ claim_of v bound x ∷ []; phase = phase }) → x.ticket ≤ bound → words_in fresh x.part ≡ None
    → Spans m valid sizes at bound base fresh v → Spans m valid sizes at bound base (fresh ++ x ∷ []) (record v { steps = v.steps + 1; findings = found; wrote = wrote; claims = v.claims ++ claim_of v bound x ∷ []; phase = phase })
spans_more m valid sizes at bound base fresh v found wrote phase x fit early unread h =
    let c : Claim = claim_of v bound x in
    let w : View = record v { steps = v.steps + 1; findings = found; wrote = wrote; claims = v.claims ++ c ∷ []; phase = phase } in
    let old : AreClaimed w at base = claimed_still v w at base refl (λ d h. among_front v.claims c d h) h.claimed in
    let new : AreClaimed w bound fresh = claimed_still v w bound fresh refl (λ d h. among_front v.claims c d h) h.renewed in
    let there : Among (claim_of w bound x) w.claims = among_snoc v.claims c in
    let one : IsClaimed w bound x = record { among = there; early = early } in
    let Only : Claim → Type 0 = λ d. d.start ≡ v.starts → d.number ≡ bound → ticket_in (fresh ++ x ∷ []) d.part ≡ Some d.ticket in
    let Below : Claim → Type 0 = λ d. d.start ≡ v.starts → d.number ≤ bound in
    record {
      own = own_still m sizes v w refl refl h.own;
      unheld = h.unheld;
      decided = h.decided;
      draws = h.draws;
      number = h.number;
      above = h.above;
      claimed = old;
      renewed = claimed_more w bound fresh x new one;
      only = each_snoc Only v.claims c (λ j d there start number. ticket_more fresh x d.part d.ticket (h.only j d there start number)) (λ start number. ticket_new fresh x unread);
      below = each_snoc Below v.claims c h.below (λ start. omega arith);
      fit = fit;
    }

-- A renew
pub renew_spans : (m : Meaning) (valid : Validity) (sizes : List ℕ) (f : Behaviour) (at p s : ℕ) (ws : List ℤ) (base : List ReadEntry) (es : List Update) (rs : List PlainReply) (v w : View) (passes n : ℕ) (x : ℤ)
    → Fits m valid sizes f at (S.Renewing p s) ws base es rs v → Tells valid passes Renew v n x w → Spans m valid sizes at n base [] w × (w.phase ≡ P.Reading)
renew_spans m valid sizes f at p s ws base es rs v w passes n x fits t =
    let u : View = record v { steps = v.steps + 1; at = n } in
    let wrote : Among (record { start = v.starts; ticket = s; part = p }) v.wrote = fits.stands.2 in
    let covers : s ≤ n = t.learns.wrote wrote.0 (record { start = v.starts; ticket = s; part = p }) wrote.1 in
    let above : at < n = omega (arith, covers, fits.stands.1) in
    let old : AreClaimed u at base = claimed_still v u at base refl (λ c h. h) fits.claimed in
    let h : Spans m valid sizes at n base [] u = record {
      own = own_still m sizes v u refl refl fits.own;
      unheld = fits.unheld;
      decided = fits.decided;
      draws = fits.draws;
      number = refl;
      above = above;
      claimed = old;
      renewed = tt;
      only = λ j c there start number. absurd (omega (arith, fits.below j c there start, number, above));
      below = λ j c there start. omega (arith, fits.below j c there start, above);
      fit = subst (ClaimsFit valid) t.after t.fit;
    } in
    let rest : (u.phase ≡ P.Reading) = fits.stands.0 in
    (subst (λ (y : View). Spans m valid sizes at n base [] y) (sym t.after) h, subst (λ (y : View). y.phase ≡ P.Reading) (sym t.after) rest)

module _ (m : Meaning) (valid : Validity) (sizes : List ℕ) (at bound : ℕ) (base fresh : List ReadEntry) (f : Behaviour) (rs : List PlainReply) (v : View) (spans : Spans m valid sizes at bound base fresh v) where
  pub rests : v.phase ≡ P.Reading → AtRest m valid sizes bound v
  rests e = record { own = spans.own; unheld = spans.unheld; decided = spans.decided; draws = spans.draws; number = spans.number; fit = spans.fit; phase = e }

  pub left_idle : IsIdle v.phase → IsLeft v
  left_idle e = record { idle = e; unheld = spans.unheld; decided = spans.decided }

  pub spans_within : at ≤ v.at
  spans_within = omega (arith, spans.number, spans.above)

  -- The recheck of a part that was seen
  module _ (e : v.phase ≡ P.Reading) (s : ReadEntry) (claim : IsClaimed v at s) where
    pub may_recheck : HasPart v s.part → Allowed valid (Recheck s.part) v
    may_recheck range = (e, range, was_claimed m valid sizes f at bound rs v (rests e) s claim)

    module _ (passes n : ℕ) (x : ℤ) (w : View) (t : Tells valid passes (Recheck s.part) v n x w) where
      pub recheck_spans : is_free n ≡ true → ticket_of n ≡ s.ticket → words_in fresh s.part ≡ None → Spans m valid sizes at bound base (fresh ++ s ∷ []) w × (w.phase ≡ P.Reading)
      recheck_spans free same unread =
          let told = recheck_words m valid sizes f at bound rs v (rests e) s claim passes n x w t free same in
          let there : View = record (found v s.part n) { claims = v.claims ++ claim_of v bound s ∷ [] } in
          let is : w ≡ there = told in
          let early : s.ticket ≤ bound = omega (arith, claim.early, spans.above) in
          let h : Spans m valid sizes at bound base (fresh ++ s ∷ []) there =
          spans_more m valid sizes at bound base fresh v (found v s.part n).findings (found v s.part n).wrote v.phase s (subst (ClaimsFit valid) is t.fit) early unread spans in
          let rest : there.phase ≡ P.Reading = e in
          (subst (λ (y : View). Spans m valid sizes at bound base (fresh ++ s ∷ []) y) (sym is) h, subst (λ (y : View). y.phase ≡ P.Reading) (sym is) rest)
