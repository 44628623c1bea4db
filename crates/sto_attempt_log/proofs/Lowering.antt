-- Where the events of a read and of an extension lead, there are fewer events left.
use Rattle.std.proofs.Common.{ℤ, ◌≡◌, ◌≤◌, ◌<◌, ◌+◌, ◌-◌, ◌⊎◌, ℕ, suc, Bool, true, false, IsTrue, ◌↔◌, List, [], ◌∷◌, ◌++◌, length, map, drop, slice_index_or, refl, ap, sym, ◌∙◌, subst, arith, inl, inr}
use Rattle.std.specs.List.{Contains}
use Rattle.sto_item.specs.declared.item.Item.{Item}
use Rattle.sto_item.specs.Observed.{Watched, IsObserved, parts_of_items}
use Rattle.sto_item.specs.Pending.{Entry as Update}
use Rattle.sto_model.specs.PlainReplies.{PlainReply}
use Rattle.sto_model.specs.Run.{Behaviour}
use Rattle.sto_type.specs.Known.{Known}
use Rattle.sto_type.specs.Meaning.{Meaning, IsLawful}
use Rattle.sto_attempt_log.specs.declared.read_entry.ReadEntry.{ReadEntry}
use Rattle.sto_attempt_log.specs.declared.extension.Extension.{Extension}
use Rattle.sto_attempt_log.specs.declared.read_phase.ReadPhase.{ReadPhase}
use Rattle.sto_attempt_log.specs.declared.verdict.Turn.{Turn}
use Rattle.sto_attempt_log.specs.declared.log.Reached.{Reached}
use Rattle.sto_attempt_log.specs.Every.{AllOf}
use Rattle.sto_attempt_log.specs.Log.{IsNeeded}
use Rattle.sto_attempt_log.specs.ReadSet.{words_in}
use Rattle.sto_attempt_log.specs.Led.{IsLed}
use Rattle.sto_attempt_log.specs.Reached.{IsByCall}
use Rattle.sto_attempt_log.specs.Standing.{IsNext}
use Rattle.sto_attempt_log.specs.Bounds.{words_of, reading, unread, renewing, later, left_opening, left_renewing, left_extending, events_left}
use Rattle.sto_attempt_log.proofs.Touched.{touched_next, touched_range}
use Rattle.sto_attempt_log.proofs.Bounding.{commit_cost, unread_most, needed_cost, read_cost, led_fewer, next_call, same_call, first_left, renew_costs, renewing_most, recheck_costs, reread_costs}

-- two truths that say the same
same_truth : (a b : Bool) → IsTrue a ↔ IsTrue b → a ≡ b
same_truth true true h = refl
same_truth true false h = sym (h.0 refl)
same_truth false true h = h.1 refl
same_truth false false h = refl

-- the running call is the same, or there were further replies
still_or_more : (before now : ℕ) → before ≤ now → (now ≡ before) ⊎ (before < now)
still_or_more before now l = grind arith

pub less_next : (n : ℕ) → n < 1 + n
less_next n = omega arith

-- after the start
pub began_fewer : (at : ℕ) (es : List Update) (reached : Reached) (read_phase : ReadPhase) (turn : Turn) → IsLed at es reached read_phase turn → (before calls : ℕ) (widths : List ℕ) (words : List ℤ) (extension : Extension) (base : List ReadEntry)
    → calls ≤ before → IsByCall calls reached → events_left calls widths read_phase words extension base < later before widths
began_fewer at es reached read_phase turn led before calls widths words extension base l by =
    led_fewer at es reached read_phase turn led calls widths words extension base (later before widths) (commit_cost before widths)
    (λ p e. first_left before calls widths extension.extended (words_in base) (subst (λ (r : Reached). IsByCall calls r) e by) l)

-- an open
module _ (m : Meaning) (law : IsLawful m) (f : Behaviour) (rs : List PlainReply) (p : ℕ) (base : List ReadEntry) (pending : List Update) (needed : IsNeeded m (f rs) (words_in base) pending p) where
  range : p < length m.widths
  range = omega (arith, touched_range m law f rs p (touched_next m f rs p needed.by_next), law.homes)

  -- what is left before the open of a needed part has room for its read
  pub room : (calls : ℕ) (extended : Bool) → later calls m.widths + slice_index_or m.widths p 0 + 2 ≤ left_opening calls m.widths extended (words_in base)
  room calls extended = omega (arith, needed_cost m.widths p (words_in base) range needed.unread)

  pub open_over : (calls : ℕ) (extended : Bool) → 0 < left_opening calls m.widths extended (words_in base)
  open_over calls extended = omega (arith, room calls extended)

  pub open_fewer : (calls : ℕ) (extended : Bool) → left_opening calls m.widths extended (words_in base) - (1 + 0) < left_opening calls m.widths extended (words_in base)
  open_fewer calls extended = omega (arith, open_over calls extended)

  pub open_renew : (calls : ℕ) (extended : Bool) → extended ≡ false → left_renewing calls m.widths < left_opening calls m.widths extended (words_in base)
  open_renew calls extended e = subst (λ (b : Bool). left_renewing calls m.widths < left_opening calls m.widths b (words_in base)) (sym e) (renew_costs calls m.widths p (words_in base) range needed.unread)

  -- a word
  pub word_fewer : (calls : ℕ) (extended : Bool) (n : ℕ) → n < slice_index_or m.widths p 0
      → left_opening calls m.widths extended (words_in base) - (1 + (n + 1)) < left_opening calls m.widths extended (words_in base) - (1 + n)
  word_fewer calls extended n l = omega (arith, room calls extended, l)

  -- the end of the read
  module _ (n : ℕ) (long : n ≡ slice_index_or m.widths p 0) where
    pub close_over : (calls : ℕ) (extended : Bool) → 0 < left_opening calls m.widths extended (words_in base) - (1 + n)
    close_over calls extended = omega (arith, room calls extended, long)

    pub close_fewer : (at : ℕ) (es : List Update) (reached : Reached) (read_phase : ReadPhase) (turn : Turn) → IsLed at es reached read_phase turn
        → (before calls heard now : ℕ) (was is : Bool) (words : List ℤ) (extension : Extension) (x : ReadEntry) → extension.extended ≡ is → x.part ≡ p → now + calls ≤ heard + before → heard ≤ now → IsByCall calls reached
        → IsTrue is ↔ (IsTrue was × (now ≡ heard)) → events_left calls m.widths read_phase words extension (base ++ x ∷ []) < left_opening (before - 1) m.widths was (words_in base) - (1 + n)
    close_fewer at es reached read_phase turn led before calls heard now was is words extension x e of_part fewer on by iff =
        led_fewer at es reached read_phase turn led calls m.widths words extension (base ++ x ∷ []) (left_opening (before - 1) m.widths was (words_in base) - (1 + n))
        (omega (arith, commit_cost (before - 1) m.widths, room (before - 1) was, long))
        (λ q needs.
        subst (λ (b : Bool). left_opening (calls - 1) m.widths b (words_in (base ++ x ∷ [])) < left_opening (before - 1) m.widths was (words_in base) - (1 + n)) (sym e)
        (elim (still_or_more heard now on) [
          | inl same ↦
              let as_was : is ≡ was = same_truth is was ((λ t. (iff.0 t).0), (λ t. iff.1 (t, same))) in
              let less : unread m.widths 0 (words_in (base ++ x ∷ [])) + (slice_index_or m.widths x.part 0 + 2) ≤ unread m.widths 0 (words_in base) =
              read_cost m.widths base x (subst (λ (k : ℕ). k < length m.widths) (sym of_part) range) (ap (words_in base) of_part ∙ needed.unread) in
              let width : slice_index_or m.widths x.part 0 ≡ n = ap (λ (k : ℕ). slice_index_or m.widths k 0) of_part ∙ sym long in
              subst (λ (b : Bool). left_opening (calls - 1) m.widths b (words_in (base ++ x ∷ [])) < left_opening (before - 1) m.widths was (words_in base) - (1 + n)) (sym as_was)
              (omega (arith, same_call before calls m.widths was (words_in (base ++ x ∷ [])) (omega (arith, fewer, same)), less, width))
          | inr more ↦
              let some : 0 < calls = subst (λ (r : Reached). IsByCall calls r) needs by in
              omega (arith, next_call before calls m.widths is (words_in (base ++ x ∷ [])) some (omega (arith, fewer, more)), room (before - 1) was, long)
        ]))

-- the end of an extension
pub advance_fewer : (widths : List ℕ) (at : ℕ) (es : List Update) (reached : Reached) (read_phase : ReadPhase) (turn : Turn) → IsLed at es reached read_phase turn
    → (before calls heard now : ℕ) (was is : Bool) (words : List ℤ) (extension : Extension) (base : List ReadEntry) (watches : List Watched) → extension.extended ≡ is → was ≡ true → now + calls ≤ heard + before → heard ≤ now → IsByCall calls reached
    → IsTrue is ↔ (IsTrue was × (now ≡ heard)) → events_left calls widths read_phase words extension base < 1 + left_extending (before - 1) widths watches
advance_fewer widths at es reached read_phase turn led before calls heard now was is words extension base watches e extended fewer on by iff =
    led_fewer at es reached read_phase turn led calls widths words extension base (1 + left_extending (before - 1) widths watches) (omega (arith, commit_cost (before - 1) widths))
    (λ q needs.
    subst (λ (b : Bool). left_opening (calls - 1) widths b (words_in base) < 1 + left_extending (before - 1) widths watches) (sym e)
    (elim (still_or_more heard now on) [
      | inl same ↦
          let as_was : is ≡ true = iff.1 (extended, same) in
          subst (λ (b : Bool). left_opening (calls - 1) widths b (words_in base) < 1 + left_extending (before - 1) widths watches) (sym as_was)
          (omega (arith, same_call before calls widths true (words_in base) (omega (arith, fewer, same)), unread_most widths 0 (words_in base)))
      | inr more ↦
          let some : 0 < calls = subst (λ (r : Reached). IsByCall calls r) needs by in
          omega (arith, next_call before calls widths is (words_in base) some (omega (arith, fewer, more)))
    ]))

-- what is watched is of parts of the type
all_in : (n : ℕ) (ws : List Watched) → ((p : ℕ) → Contains (map (λ (w : Watched). w.part) ws) p → p < n) → AllOf (λ (w : Watched). w.part < n) ws
all_in n [] h = tt
all_in n (w ∷ ws) h = (h w.part (0, omega arith, refl), all_in n ws (λ p c. h p (suc c.0, omega (arith, c.1), c.2)))

-- a renew
pub renew_fewer : (widths : List ℕ) (items : List Item) (watches : List Watched) → IsObserved items watches → ((p : ℕ) → Contains (parts_of_items items) p → p < length widths)
    → (calls left : ℕ) → left < 1 + left_extending calls widths watches → left < left_renewing calls widths
renew_fewer widths items watches o range calls left l =
    let most : renewing widths watches ≤ reading (length widths) (words_of widths) = renewing_most widths watches o.parts.rising (all_in (length widths) watches (λ p c. range p ((o.parts.exact p).0 c))) in
    omega (arith, most, l)

-- within an extension
module _ (widths : List ℕ) (old : Known) (fresh : List ReadEntry) (watches : List Watched) (p : ℕ) where
  module _ (n : IsNext (length widths) old fresh watches true p) where
    pub recheck_over : (calls : ℕ) → 0 < left_extending calls widths (drop (length fresh) watches)
    recheck_over calls = omega (arith, recheck_costs widths old fresh watches p n)

    pub recheck_fewer : (calls left : ℕ) → left < 1 + left_extending calls widths n.more → left < left_extending calls widths (drop (length fresh) watches)
    recheck_fewer calls left l = omega (arith, recheck_costs widths old fresh watches p n, l)

  module _ (n : IsNext (length widths) old fresh watches false p) where
    pub reopen_over : (calls : ℕ) → 0 < left_extending calls widths (drop (length fresh) watches)
    reopen_over calls = omega (arith, reread_costs widths old fresh watches p n)

    pub reopen_fewer : (calls : ℕ) → left_extending calls widths (drop (length fresh) watches) - (1 + 0) < left_extending calls widths (drop (length fresh) watches)
    reopen_fewer calls = omega (arith, reopen_over calls)

    pub reread_fewer : (calls k : ℕ) → k < slice_index_or widths p 0
        → left_extending calls widths (drop (length fresh) watches) - (1 + (k + 1)) < left_extending calls widths (drop (length fresh) watches) - (1 + k)
    reread_fewer calls k l = omega (arith, reread_costs widths old fresh watches p n, l)

    pub reclose_over : (calls k : ℕ) → k ≡ slice_index_or widths p 0 → 0 < left_extending calls widths (drop (length fresh) watches) - (1 + k)
    reclose_over calls k l = omega (arith, reread_costs widths old fresh watches p n, l)

    pub reclose_fewer : (calls k left : ℕ) → k ≡ slice_index_or widths p 0 → left < 1 + left_extending calls widths n.more → left < left_extending calls widths (drop (length fresh) watches) - (1 + k)
    reclose_fewer calls k left all l = omega (arith, reread_costs widths old fresh watches p n, all, l)
