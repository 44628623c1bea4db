-- The run of a body on what is known: where the type is asked on a cache, its answers are those of all that is known.
use Rattle.std.specs.Prelude.{Option, Some, None, if◌then◌else◌, Bool, IsTrue, ◌↔◌}
use Rattle.std.proofs.Common.{◌≡◌, ◌<◌, ◌+◌, ℕ, zero, suc, ℤ, pos, true, false, List, [], ◌∷◌, ◌++◌, length, length-append, replicate, slice_index_or, IsSome, refl, ap, sym, ◌∙◌, subst, arith, inl, inr}
use Rattle.std.proofs.lemmas.List.{length-map}
use Rattle.sto_part.specs.Changes.{applied_all}
use Rattle.sto_part.specs.declared.change.Change.{Change}
use Rattle.sto_part.specs.Parts.{part_of}
use Rattle.sto_item.specs.declared.item.Item.{Item}
use Rattle.sto_item.specs.Pending.{Entry as Update, changes_of, applied_updates, with_updates}
use Rattle.sto_item.specs.Rebase.{overwrites, rebased}
use Rattle.sto_item.specs.Recorded.{Recorded, AddsItems}
use Rattle.sto_item.proofs.Widths.{length-applied_updates}
use Rattle.sto_model.specs.declared.call.Call.{Call}
use Rattle.sto_model.specs.declared.body.Next.TheVariants.{Ask as Asks}
use Rattle.sto_model.specs.PlainReplies.{PlainReply}
use Rattle.sto_model.specs.Run.{Behaviour}
use Rattle.sto_type.specs.Known.{Known, IsWithin}
use Rattle.sto_type.specs.Meaning.{Meaning, IsLawful}
use Rattle.sto_type.specs.Plans.{Ask, Say, IsPlan}
use Rattle.sto_attempt_log.specs.declared.log.Reached.{Reached}
use Rattle.sto_attempt_log.specs.declared.log.Reached.TheVariants.{Needs}
use Rattle.sto_attempt_log.specs.declared.read_entry.ReadEntry.{ReadEntry}
use Rattle.sto_attempt_log.specs.ReadSet.{words_in}
use Rattle.sto_attempt_log.specs.Log.{IsPending, IsCache}
use Rattle.sto_attempt_log.specs.Doing.{Reader, Answers, Halts, RunsOn, AnswersAll, RanTo, known_by, known_now}
use Rattle.sto_attempt_log.proofs.Answering.{some_of, same_words, known_is}

some_read : (o : Option (List ℤ)) (cs : List Change) (width : ℕ) → IsSome o → IsSome (known_by o cs width)
some_read None cs width h = cc
some_read (Some ws) cs width h = refl

some_whole : (o : Option (List ℤ)) (cs : List Change) (width : ℕ) → overwrites cs ≡ true → IsSome (known_by o cs width)
some_whole (Some ws) cs width h = refl
some_whole None cs width h = rw h refl

none_known : (o : Option (List ℤ)) (cs : List Change) (width : ℕ) → o ≡ None → overwrites cs ≡ false → known_by o cs width ≡ None
none_known (Some ws) cs width e h = cc
none_known None cs width e h = rw h refl

module _ (m : Meaning) (law : IsLawful m) (base : List ReadEntry) (us : List Update) (h : IsPending m (words_in base) us)
    (k : Known) (c : IsCache m (words_in base) us k) where
  -- the cache is part of all that is known
  pub known_within : IsWithin k (known_now m base us)
  known_within p ws is =
      let some : IsSome (k p) = subst (λ (o : Option (List ℤ)). IsSome o) (sym is) refl in
      let cs = changes_of us p in
      let width = slice_index_or m.widths p 0 in
      let now : IsSome (known_now m base us p) = elim (c.from p some) [
        | inl read ↦ some_read (words_in base p) cs width read
        | inr whole ↦ some_whole (words_in base p) cs width whole
      ] in
      let there = some_of (known_now m base us p) now in
      let d = h.some.0 in
      let range : p < length (applied_updates us d) = omega (arith, c.inside p some, length-applied_updates us d, ap (λ (l : List ℕ). length l) (law.widths d h.some.1), length-map d length) in
      let one : part_of (applied_updates us d) p ≡ there.0 = (known_is m law base us h p there.0 (words_in base p) refl (c.inside p some) there.1).above d h.some.1 h.some.2 in
      let two : part_of (applied_updates us d) p ≡ ws = (c.above d h.some.1 h.some.2).same p ws range is in
      there.1 ∙ ap (λ (x : List ℤ). Some x) (sym one ∙ two)

module _ (m : Meaning) (law : IsLawful m) (f : Behaviour) (r : Reader) (h : IsPending m (words_in r.base) r.set.updates)
    (k : Known) (c : IsCache m (words_in r.base) r.set.updates k) (call : Call) (asks : f r.heard ≡ Asks call) where
  within : IsWithin k (known_now m r.base r.set.updates)
  within = known_within m law r.base r.set.updates h k c

  -- a call that is answered on the cache is answered
  pub answers_is : (reply : PlainReply) (is : List Item) (es : List Update) → IsPlan m call k (Say reply is es) → (mid : Recorded) → AddsItems r.set (rebased r.set.updates is) mid
      → Answers m f r (record r { set = record { items = mid.items; updates = with_updates r.set.updates es }; heard = r.heard ++ reply ∷ []; extended = false })
  answers_is reply is es plan mid adds =
      let on = law.steady.done call k (known_now m r.base r.set.updates) within plan.0 in
      record {
        call = call;
        asks = asks;
        needless = on.0;
        reply = reply;
        updates = es;
        some = h.some;
        says = λ d v part. plan.2 (applied_updates r.set.updates d) (h.fits d v part).1 (c.above d v part);
        observed = mid;
        adds = subst (λ (l : List Item). AddsItems r.set (rebased r.set.updates l) mid) (plan.1 ∙ sym on.1) adds;
        after = refl;
      }

  -- a part that is needed on the cache, and is not known at all, is needed
  pub halts_is : (p : ℕ) → IsPlan m call k (Ask p) → words_in r.base p ≡ None → overwrites (changes_of r.set.updates p) ≡ false → Halts m f r (Needs p)
  halts_is p plan unread unput =
      (call, asks, law.steady.steady call k (known_now m r.base r.set.updates) p within (none_known (words_in r.base p) (changes_of r.set.updates p) (slice_index_or m.widths p 0) unread unput) plan)

module _ (m : Meaning) (f : Behaviour) where
  answers_more : (n : ℕ) (r s t : Reader) → AnswersAll m f n r s → Answers m f s t → AnswersAll m f (suc n) r t
  answers_more zero r s t h a = (t, subst (λ (x : Reader). Answers m f x t) h a, refl)
  answers_more (suc n) r s t h a = (h.0, h.1, answers_more n h.0 s t h.2 a)

  pub runs_on_to : (n : ℕ) (r s : Reader) (reached : Reached) → AnswersAll m f n r s → Halts m f s reached → RunsOn m f n r s reached
  runs_on_to zero r s reached h halts = (h, subst (λ (x : Reader). Halts m f x reached) h halts)
  runs_on_to (suc n) r s reached h halts = (h.0, h.1, runs_on_to n h.0 s reached h.2 halts)

  answers_longer : (n : ℕ) (r s : Reader) → AnswersAll m f n r s → length s.heard ≡ length r.heard + n
  answers_longer zero r s h = omega (arith, ap (λ (x : Reader). length x.heard) h)
  answers_longer (suc n) r s h = omega (arith, answers_longer n h.0 s h.2, ap (λ (x : Reader). length x.heard) h.1.after, length-append r.heard (h.1.reply ∷ []))

  -- no call was answered yet
  pub ran_none : (r : Reader) (set : Recorded) (heard : List PlainReply) → r.set ≡ set → r.heard ≡ heard → RanTo m f r set heard
  ran_none r set heard same told = record {
    count = 0;
    now = r;
    answered = refl;
    kept = λ i. record r { set = same i; heard = told i };
    extended = ((λ e. (e, ap (λ (l : List PlainReply). length l) (sym told))), λ e. e.0);
  }

-- One call more is answered on the cache, or the body has come to a part that it needs.
module _ (m : Meaning) (law : IsLawful m) (f : Behaviour) (r : Reader) (base : List ReadEntry) (old : Recorded) (rs : List PlainReply) (same : r.base ≡ base) (ran : RanTo m f r old rs)
    (h : IsPending m (words_in base) old.updates) (k : Known) (c : IsCache m (words_in base) old.updates k) (call : Call) (asks : f rs ≡ Asks call) where
  abbrev at_set : Reader
  at_set = record r { base = base; set = old; heard = rs; extended = ran.now.extended }

  now_is : ran.now ≡ at_set
  now_is = ran.kept ∙ (λ i. record r { base = same i; set = old; heard = rs; extended = ran.now.extended })

  pub ran_answer : (reply : PlainReply) (is : List Item) (es : List Update) → IsPlan m call k (Say reply is es) → (mid new : Recorded) → AddsItems old (rebased old.updates is) mid
      → new ≡ record { items = mid.items; updates = with_updates old.updates es } → RanTo m f r new (rs ++ reply ∷ [])
  ran_answer reply is es plan mid new adds after =
      let a : Answers m f at_set (record at_set { set = record { items = mid.items; updates = with_updates old.updates es }; heard = rs ++ reply ∷ []; extended = false }) =
      answers_is m law f at_set h k c call asks reply is es plan mid adds in
      let next : Reader = record at_set { set = new; heard = rs ++ reply ∷ []; extended = false } in
      let b : Answers m f ran.now next = subst (λ (x : Reader). Answers m f x next) (sym now_is) (subst (λ (s : Recorded). Answers m f at_set (record at_set { set = s; heard = rs ++ reply ∷ []; extended = false })) (sym after) a) in
      let long : length ran.now.heard ≡ length r.heard + ran.count = answers_longer m f ran.count r ran.now ran.answered in
      let told : ran.now.heard ≡ rs = ap (λ (x : Reader). x.heard) ran.kept in
      record {
        count = suc ran.count;
        now = next;
        answered = answers_more m f ran.count r ran.now next ran.answered b;
        kept = λ i. record r { base = sym same i; set = new; heard = rs ++ reply ∷ []; extended = false };
        extended = ((λ e. cc), λ e. absurd (omega (arith, e.1, long, ap (λ (l : List PlainReply). length l) told, length-append rs (reply ∷ []))));
      }

  pub ran_halts : (p : ℕ) → IsPlan m call k (Ask p) → words_in base p ≡ None → overwrites (changes_of old.updates p) ≡ false → Halts m f ran.now (Needs p)
  ran_halts p plan unread unput = subst (λ (x : Reader). Halts m f x (Needs p)) (sym now_is) (halts_is m law f at_set h k c call asks p plan unread unput)
