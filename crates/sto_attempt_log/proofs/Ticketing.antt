-- A ticket may be drawn, where all written parts are held and each item is covered by the parts seen and loaded.
use Rattle.std.proofs.Common.{◌≡◌, ◌≢◌, ◌⊎◌, ◌<◌, ℕ, zero, suc, Bool, false, nat_eq, ◌||◌, List, [], ◌∷◌, length, take, map, slice_index_or, IsSome, refl, ap, sym, ◌∙◌, subst}
use Rattle.std.proofs.Math.Seq.{take-length}
use Rattle.std.proofs.lemmas.List.{length-map}
use mathlib.Core.Option.{some-ne-none, some-injective}
use Rattle.sto_part.specs.Parts.{part_of}
use Rattle.sto_item.specs.declared.item.Item.{Item}
use Rattle.sto_item.specs.Pending.{Entry as Update}
use Rattle.sto_item.specs.Agreement.{HasWidths}
use Rattle.sto_item.proofs.Widths.{HasWidths-same}
use Rattle.sto_model.specs.PlainReplies.{PlainReply}
use Rattle.sto_model.specs.Run.{Behaviour}
use Rattle.sto_core.specs.declared.view.Held.{Held}
use Rattle.sto_core.specs.declared.view.Phase.TheVariants as P
use Rattle.sto_core.specs.declared.view.View.{View}
use Rattle.sto_core.specs.Lists.{Each}
use Rattle.sto_core.specs.Views.{holds, looked_parts}
use Rattle.sto_core.specs.History.{Validity, writes, UpdatesFit as HasWidthsEach}
use Rattle.sto_core.specs.Allowed.{MayDraw, Rises, LoadedByHold, LoadedByClaim}
use Rattle.sto_type.specs.Known.{Parts, IsPartOf}
use Rattle.sto_type.specs.Meaning.{Meaning, IsLawful}
use Rattle.sto_type.specs.Runs.{IsRunOn}
use Rattle.sto_attempt_log.specs.declared.read_entry.ReadEntry.{ReadEntry}
use Rattle.sto_attempt_log.specs.Every.{AllOf}
use Rattle.sto_attempt_log.specs.ReadSet.{words_in, HasClaims}
use Rattle.sto_attempt_log.specs.Looking.{LooksAt, IsCovered}
use Rattle.sto_attempt_log.specs.Committing.{written, IsSealed, HoldsFirst}
use Rattle.sto_attempt_log.proofs.Moving.{width_of}
use Rattle.sto_attempt_log.proofs.OneReply.{run_on}
use Rattle.sto_attempt_log.proofs.Claimed.{part_of_claims, claims_fit, claimed_words}
use Rattle.sto_attempt_log.proofs.Drawing.{was_seen, read_words, draw_looks, draw_keeps_valid, were_true}

-- a number stands in a list
mem : ℕ → List ℕ → Bool
mem p [] = false
mem p (q ∷ qs) = nat_eq q p || mem p qs

writes_mem : (us : List Update) (p : ℕ) → writes us p ≡ mem p (written us)
unfolding mem
writes_mem [] p = refl
writes_mem (u ∷ us) p = ap (λ b. nat_eq u.0 p || b) (writes_mem us p)

holds_mem : (hs : List Held) (p : ℕ) → holds p hs ≡ mem p (map (λ (h : Held). h.part) hs)
unfolding mem
holds_mem [] p = refl
holds_mem (h ∷ hs) p = ap (λ b. nat_eq h.part p || b) (holds_mem hs p)

-- the held parts are the written ones
pub held_written : (us : List Update) (v : View) (p : ℕ) → HoldsFirst us (length us) v → writes us p ≡ holds p v.held
held_written us v p h =
    let all : take (length us) (written us) ≡ written us = ap (λ n. take n (written us)) (sym (length-map us (λ (u : Update). u.0))) ∙ take-length (written us) in
    writes_mem us p ∙ ap (mem p) (sym (h.held ∙ all)) ∙ sym (holds_mem v.held p)

-- widths by place
pub widths_each : (us : List Update) (c : Parts) → HasWidths us c → HasWidthsEach c us
widths_each [] c h j u e = absurd (some-ne-none u (sym e))
widths_each (x ∷ us) c h zero u e = subst (λ (y : Update). (y.0 < length c) × (length y.1 ≡ length (part_of c y.0))) (some-injective x u e) (h.0, sym h.1)
widths_each (x ∷ us) c h (suc j) u e = widths_each us c h.2 j u e

module _ (m : Meaning) (law : IsLawful m) (valid : Validity) (sizes : List ℕ) (f : Behaviour) (at : ℕ) (base : List ReadEntry) (items : List Item) (us : List Update) (rs : List PlainReply) (v : View)
    (sealed : IsSealed m valid sizes f at base items us rs v) (here : (c : Parts) → valid v.sizes c → m.valid c) (there : (c : Parts) → m.valid c → valid v.sizes c) where
  claims : (d : Parts) × valid v.sizes d × HasClaims v at d
  claims = claims_fit valid v at sealed.fit

  ok : m.valid claims.0
  ok = here claims.0 claims.1

  part : IsPartOf (words_in base) claims.0
  part = part_of_claims v at base claims.0 sealed.claimed claims.2

  on : IsRunOn m f claims.0 us rs
  on = run_on m f (words_in base) items us rs claims.0 sealed.log.carried ok part

  as_wide : (q : ℕ) → length (part_of v.opening q) ≡ length (part_of claims.0 q)
  as_wide q =
      sym (width_of v.opening q) ∙ ap (λ (l : List ℕ). slice_index_or l q 0) (law.widths v.opening sealed.own.opening ∙ sym (law.widths claims.0 ok)) ∙ width_of claims.0 q

  as_long : length v.opening ≡ length claims.0
  as_long = sym (length-map v.opening length) ∙ ap length (law.widths v.opening sealed.own.opening ∙ sym (law.widths claims.0 ok)) ∙ length-map claims.0 length

  pub may_draw : (seen loaded : List ℕ) → v.phase ≡ P.Locking → 0 < v.draws → HoldsFirst us (length us) v → Rises seen → Rises loaded → Each (λ (p : ℕ). Each (λ (q : ℕ). q ≢ p) loaded) seen
      → Each (λ (p : ℕ). IsSome (words_in base p)) seen → Each (λ (p : ℕ). LoadedByHold v p ⊎ LoadedByClaim v p) loaded → AllOf (IsCovered v seen loaded) items
      → MayDraw valid us seen loaded v
  may_draw seen loaded phase draws holding seen_rise loaded_rise apart read loaded_words covered = record {
    phase = phase;
    draws = draws;
    updates = on.ordered;
    widths = widths_each us v.opening (HasWidths-same us claims.0 v.opening as_long as_wide on.widths);
    held = λ p. held_written us v p holding;
    seen_rise = seen_rise;
    loaded_rise = loaded_rise;
    apart = apart;
    sights = λ j p e. let k = read_words base p (read j p e) in was_seen valid v at base sealed.number sealed.claimed sealed.fit p k.0 k.1;
    loads = loaded_words;
    keeps =
        let true_then = were_true m (words_in base) items claims.0 (λ p ws e. claimed_words v at base claims.0 p ws sealed.claimed claims.2 e) (sealed.log.carried.holds claims.0 ok part) in
        let looks : AllOf (LooksAt (words_in base) (looked_parts v seen loaded)) items = draw_looks valid v at base sealed.number sealed.claimed sealed.fit seen loaded items sealed.log.read true_then covered in
        draw_keeps_valid m law valid v.sizes f (words_in base) items us rs (looked_parts v seen loaded) claims.0 here there ok part sealed.log looks;
  }
