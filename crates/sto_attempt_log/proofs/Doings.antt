-- What an attempt does next is one thing: two steps from one state that found the same lead to the same state, the same replies and the same verdict.
use Rattle.std.specs.Prelude.{Some, None, Option}
use Rattle.std.proofs.Common.{◌≡◌, ℕ, ℤ, zero, suc, false, List, [], ◌∷◌, ◌++◌, refl, sym, ap, ◌∙◌, subst, inl, inr}
use Rattle.sto_item.specs.declared.item.Item.{Item}
use Rattle.sto_item.specs.Pending.{with_updates, applied_updates}
use Rattle.sto_item.specs.Rebase.{rebased}
use Rattle.sto_item.specs.Recorded.{Recorded, AddsItem, AddsItems}
use Rattle.sto_model.specs.declared.call.Call.{Call}
use Rattle.sto_model.specs.declared.body.Next.TheVariants.{Ask, Commit, Cancel}
use Rattle.sto_model.specs.SequentialObjects.{reply_to}
use Rattle.sto_model.specs.Run.{Behaviour}
use Rattle.sto_type.specs.Meaning.{Meaning}
use Rattle.sto_attempt_log.specs.declared.log.Reached.{Reached}
use Rattle.sto_attempt_log.specs.declared.log.Reached.TheVariants.{Needs, Commits, Cancels}
use Rattle.sto_attempt_log.specs.declared.verdict.Turn.{Turn}
use Rattle.sto_attempt_log.specs.declared.verdict.Verdict.{Verdict}
use Rattle.sto_attempt_log.specs.Doing.{Reader, Answers, Halts, RunsOn, Course, Stays, Runs, ComesTo, ReadsOn, led, known_now, after_read, Committer, Doing, Reads, Committing, DoesNext, turned}

-- an item is added in one way
adds_one : (old : Recorded) (item : Item) (a b : Recorded) → AddsItem old item a → AddsItem old item b → a ≡ b
adds_one old item a b h k = elim h [
  | inl there ↦ elim k [ inl too ↦ there.1 ∙ sym too.1 | inr new ↦ absurd (new.0 there.0) ]
  | inr new ↦ elim k [ inl there ↦ absurd (new.0 there.0) | inr too ↦ new.1 ∙ sym too.1 ]
]

adds_once : (old : Recorded) (items : List Item) (a b : Recorded) → AddsItems old items a → AddsItems old items b → a ≡ b
adds_once old [] a b h k = h ∙ sym k
adds_once old (i ∷ is) a b h k = adds_once h.0 is a b h.2 (subst (λ (x : Recorded). AddsItems x is b) (adds_one old i k.0 h.0 k.1 h.1) k.2)

same_call : (x y : Call) → Ask x ≡ Ask y → x ≡ y
same_call x y e = cc

no_commit : (x : Call) → Ask x ≡ Commit → ⊥
no_commit x e = cc

no_cancel : (x : Call) → Ask x ≡ Cancel → ⊥
no_cancel x e = cc

not_both : Commit ≡ Cancel → ⊥
not_both e = cc

same_part : (p q : ℕ) → Some p ≡ Some q → p ≡ q
same_part p q e = cc

no_part : (p : ℕ) → Some p ≡ None → ⊥
no_part p e = cc

same_course : (r s : Reader) (a b : Turn) → Stays r a ≡ Stays s b → (r ≡ s) × (a ≡ b)
same_course r s a b e = (first r s a b e, second r s a b e)
  where
    first : (r s : Reader) (a b : Turn) → Stays r a ≡ Stays s b → r ≡ s
    first r s a b e = cc

    second : (r s : Reader) (a b : Turn) → Stays r a ≡ Stays s b → a ≡ b
    second r s a b e = cc

module _ (m : Meaning) (f : Behaviour) where
  -- a call is answered in one way
  answers_once : (r s t : Reader) → Answers m f r s → Answers m f r t → s ≡ t
  answers_once r s t h k =
      let call : h.call ≡ k.call = same_call h.call k.call (sym h.asks ∙ k.asks) in
      let d = h.some.0 in
      let one = h.says d h.some.1 h.some.2 in let two = k.says d h.some.1 h.some.2 in
      let reply : h.reply ≡ k.reply = one.0 ∙ ap (λ (x : Call). reply_to m.machines x (m.rows (applied_updates r.set.updates d))) call ∙ sym two.0 in
      let updates : h.updates ≡ k.updates = one.1 ∙ ap (λ (x : Call). m.updates x (applied_updates r.set.updates d)) call ∙ sym two.1 in
      let observed : h.observed ≡ k.observed =
      adds_once r.set (rebased r.set.updates (m.items k.call (known_now m r.base r.set.updates))) h.observed k.observed
      (subst (λ (x : Call). AddsItems r.set (rebased r.set.updates (m.items x (known_now m r.base r.set.updates))) h.observed) call h.adds) k.adds in
      h.after ∙ (λ i. record r { set = record { items = (observed i).items; updates = with_updates r.set.updates (updates i) }; heard = r.heard ++ reply i ∷ []; extended = false }) ∙ sym k.after

  -- a body that is answered does not halt
  no_halt : (r s : Reader) (reached : Reached) → Halts m f r reached → Answers m f r s → ⊥
  no_halt r s (Needs p) h k =
      let call : h.0 ≡ k.call = same_call h.0 k.call (sym h.1 ∙ k.asks) in
      no_part p (sym h.2 ∙ ap (λ (x : Call). m.need x (known_now m r.base r.set.updates)) call ∙ k.needless)
  no_halt r s Commits h k = no_commit k.call (sym k.asks ∙ h)
  no_halt r s Cancels h k = no_cancel k.call (sym k.asks ∙ h)

  -- it halts in one way
  halts_once : (r : Reader) (a b : Reached) → Halts m f r a → Halts m f r b → a ≡ b
  halts_once r (Needs p) (Needs q) h k =
      let call : h.0 ≡ k.0 = same_call h.0 k.0 (sym h.1 ∙ k.1) in
      ap Needs (same_part p q (sym h.2 ∙ ap (λ (x : Call). m.need x (known_now m r.base r.set.updates)) call ∙ k.2))
  halts_once r (Needs p) Commits h k = absurd (no_commit h.0 (sym h.1 ∙ k))
  halts_once r (Needs p) Cancels h k = absurd (no_cancel h.0 (sym h.1 ∙ k))
  halts_once r Commits (Needs q) h k = absurd (no_commit k.0 (sym k.1 ∙ h))
  halts_once r Commits Commits h k = refl
  halts_once r Commits Cancels h k = absurd (not_both (sym h ∙ k))
  halts_once r Cancels (Needs q) h k = absurd (no_cancel k.0 (sym k.1 ∙ h))
  halts_once r Cancels Commits h k = absurd (not_both (sym k ∙ h))
  halts_once r Cancels Cancels h k = refl

  -- the body runs on in one way
  pub runs_once : (n k : ℕ) (r s t : Reader) (a b : Reached) → RunsOn m f n r s a → RunsOn m f k r t b → (s ≡ t) × (a ≡ b)
  runs_once zero zero r s t a b h k = (h.0 ∙ sym k.0, halts_once r a b h.1 k.1)
  runs_once zero (suc k) r s t a b h l = absurd (no_halt r l.0 a h.1 l.1)
  runs_once (suc n) zero r s t a b h l = absurd (no_halt r h.0 b l.1 h.1)
  runs_once (suc n) (suc k) r s t a b h l =
      runs_once n k h.0 s t a b h.2 (subst (λ (x : Reader). RunsOn m f k x t b) (answers_once r l.0 h.0 l.1 h.1) l.2)

  -- a course comes to one place
  pub comes_once : (course : Course) (s t : Reader) (a b : Turn) → ComesTo m f course s a → ComesTo m f course t b → (s ≡ t) × (a ≡ b)
  comes_once (Stays r turn) s t a b h k = (h.0 ∙ sym k.0, h.1 ∙ sym k.1)
  comes_once (Runs r) s t a b h k =
      let run = runs_once h.0 k.0 r h.1 k.1 h.2 k.2 h.3 k.3 in
      same_course s t a b (h.4 ∙ (λ i. led (run.0 i) (run.1 i)) ∙ sym k.4)

  -- a step of a reader leads to one place
  pub reads_once : (r s t : Reader) (n : ℕ) (x : ℤ) (a b : Turn) → ReadsOn m f r n x s a → ReadsOn m f r n x t b → (s ≡ t) × (a ≡ b)
  reads_once r s t n x a b h k = comes_once (after_read m r.phase r n x) s t a b h k

  -- a step leads to one place
  pub steps_once : (d : Doing) (n : ℕ) (x : ℤ) (s t : Doing) (a b : Option Verdict) → DoesNext m f d n x s a → DoesNext m f d n x t b → (s ≡ t) × (a ≡ b)
  steps_once (Reads r) n x s t a b h k =
      let on = reads_once r h.0 k.0 n x h.1 k.1 h.2 k.2 in
      let both : (s, a) ≡ (t, b) = h.3 ∙ (λ i. turned (on.0 i) (on.1 i)) ∙ sym k.3 in
      (ap (λ (y : Doing × Option Verdict). y.0) both, ap (λ (y : Doing × Option Verdict). y.1) both)
  steps_once (Committing c) n x s t a b h k =
      let both : (h.0, a) ≡ (k.0, b) = h.1 ∙ sym k.1 in
      (h.2 ∙ ap (λ (y : Committer × Option Verdict). Committing y.0) both ∙ sym k.2, ap (λ (y : Committer × Option Verdict). y.1) both)
