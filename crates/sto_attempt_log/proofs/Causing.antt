-- Why a change ends an attempt, and what its replies are where want of memory ends it.
use Rattle.std.proofs.Common.{◌≡◌, ◌≤◌, ◌<◌, ℕ, zero, suc, ℤ, pos, Bool, true, false, List, [], ◌∷◌, ◌++◌, length, length-append, Result, Ok, Err, IfOk, OnErr, refl, ap, sym, ◌∙◌, arith, inl, inr, slice_index_or, append-nil, map, nat_eq, eqb-true, eq-eqb, true≢false, ◌⊎◌}
use Rattle.std.specs.List.{Contains}
use Rattle.std.proofs.lemmas.Bool.{cases_Bool}
use Rattle.std.proofs.lemmas.List.{length-map}
use Rattle.sto_part.specs.declared.NoMemory.{NoMemory}
use Rattle.sto_part.specs.declared.pred.Pred.{Pred}
use Rattle.sto_part.specs.Preds.{holds_of}
use Rattle.sto_item.specs.declared.item.Item.{Item}
use Rattle.sto_item.specs.declared.item.Item.TheVariants.{Seen, Holds}
use Rattle.sto_item.specs.Observed.{sees, is_sight_of, preds_on, pred_on}
use Rattle.sto_model.specs.PlainReplies.{PlainReply, plain_reply}
use Rattle.sto_model.specs.declared.reply.Reply.{Reply}
use Rattle.sto_core.specs.declared.view.View.{View}
use Rattle.sto_core.specs.Event.{Event, Open, Close, Recheck}
use Rattle.sto_attempt_log.specs.declared.extension.Extension.{Extension}
use Rattle.sto_attempt_log.specs.declared.verdict.Turn.{Turn}
use Rattle.sto_attempt_log.specs.declared.verdict.Turn.TheVariants.{More, Ready, Ended}
use Rattle.sto_attempt_log.specs.declared.verdict.Verdict.TheVariants.{Wrote, Read, Cancelled, Locked, Changed}
use Rattle.sto_attempt_log.specs.ReadSet.{IsTrueIn, AllTrueIn}
use Rattle.sto_attempt_log.specs.Reasons.{IsReason, WasReadUnder, IsCaused}
use Rattle.sto_attempt_log.specs.Standing.{IsUnaborted}

-- what was not aborted needs no cause
pub unaborted_caused : (event : Event) (items : List Item) (v : View) (extension : Extension) (turn : Turn) → IsUnaborted turn → IsCaused event items v extension turn
unaborted_caused event items v extension More h = tt
unaborted_caused event items v extension Ready h = tt
unaborted_caused event items v extension (Ended (Wrote t)) h = tt
unaborted_caused event items v extension (Ended (Read n)) h = tt
unaborted_caused event items v extension (Ended (Cancelled n)) h = tt
unaborted_caused event items v extension (Ended (Locked n p)) h = tt
unaborted_caused event items v extension (Ended (Changed n p t)) h = absurd h

pub unaborted_ok : (event : Event) (items : List Item) (v : View) (extension : Extension) (r : Result Turn NoMemory) → IfOk r IsUnaborted → IfOk r (λ turn. IsCaused event items v extension turn)
unaborted_ok event items v extension (Ok turn) h = unaborted_caused event items v extension turn h
unaborted_ok event items v extension (Err e) h = tt

-- a close that finds another ticket
pub by_close : (items : List Item) (v : View) (p t : ℕ) (renewed : Bool) (bound : ℕ) → IsReason (Close p) items v p t renewed bound
by_close items v p t renewed bound = inl (record { by = inl refl })

-- an open that finds one above the renewed number
pub by_open : (items : List Item) (v : View) (p t : ℕ) (renewed : Bool) (bound : ℕ) → renewed ≡ true → bound < t → IsReason (Open p) items v p t renewed bound
by_open items v p t renewed bound e l = inl (record { by = inr (refl, e, l) })

-- a part that is seen
seen_there : (p : ℕ) (items : List Item) → sees p items ≡ true → Contains items (Seen p)
seen_there p [] e = cc
seen_there p (i ∷ is) e = elim (cases_Bool (is_sight_of p i)) [
  | inl here ↦ (0, omega arith, is_seen i here)
  | inr other ↦ let c = seen_there p is (rw other at e) in (suc c.0, omega (arith, c.1), c.2)
]
  where
    is_seen : (i : Item) → is_sight_of p i ≡ true → i ≡ Seen p
    is_seen (Seen q) h = ap (λ (k : ℕ). Seen k) (eqb-true q p h)
    is_seen (Holds q) h = cc

pub by_read_entry : (items : List Item) (v : View) (p t : ℕ) (renewed : Bool) (bound : ℕ) → sees p items ≡ true → IsReason (Recheck p) items v p t renewed bound
by_read_entry items v p t renewed bound e = inr (inl (record { seen = seen_there p items e; by = refl }))

there_seen : (p : ℕ) (items : List Item) → Contains items (Seen p) → sees p items ≡ true
there_seen p [] c = absurd (omega (arith, c.1))
there_seen p (i ∷ is) (zero, l, e) = rw e (rw (eq-eqb p p refl) refl)
there_seen p (i ∷ is) (suc k, l, e) = elim (cases_Bool (is_sight_of p i)) [
  | inl here ↦ rw here refl
  | inr other ↦ rw other (there_seen p is (k, omega (arith, l), e))
]

-- a predicate that is false
record FalsePred (ws : List ℤ) (ps : List Pred) : Type 0 where
  pub pred : Pred
  pub among : Contains ps pred
  pub fails : IsTrueIn ws pred → ⊥

false_pred : (ws : List ℤ) (ps : List Pred) → (AllTrueIn ws ps → ⊥) → FalsePred ws ps
false_pred ws [] h = absurd (h tt)
false_pred ws (q ∷ ps) h = elim (cases_Bool (holds_of q (slice_index_or ws q.word (pos 0)))) [
  | inl holds ↦ let more = false_pred ws ps (λ rest. h (holds, rest)) in record { pred = more.pred; among = (suc more.among.0, omega (arith, more.among.1), more.among.2); fails = more.fails }
  | inr not_so ↦ record { pred = q; among = (0, omega arith, refl); fails = λ holds. true≢false (sym holds ∙ not_so) }
]

-- it is an item's, on the part
contains_both : {A : Type 0} (xs ys : List A) (x : A) → Contains (xs ++ ys) x → Contains xs x ⊎ Contains ys x
contains_both [] ys x c = inr c
contains_both (y ∷ xs) ys x (zero, l, e) = inl (0, omega arith, e)
contains_both (y ∷ xs) ys x (suc k, l, e) = elim (contains_both xs ys x (k, omega (arith, l), e)) [
  | inl a ↦ inl (suc a.0, omega (arith, a.1), a.2)
  | inr b ↦ inr b
]

pred_item : (p : ℕ) (items : List Item) (q : Pred) → Contains (preds_on p items) q → Contains items (Holds q) × (q.part ≡ p)
pred_item p [] q c = absurd (omega (arith, c.1))
pred_item p (i ∷ is) q c = elim (contains_both (pred_on p i) (preds_on p is) q c) [
  | inl here ↦ let h = of i here in ((0, omega arith, h.0), h.1)
  | inr more ↦ let h = pred_item p is q more in ((suc h.0.0, omega (arith, h.0.1), h.0.2), h.1)
]
  where
    of : (i : Item) → Contains (pred_on p i) q → (i ≡ Holds q) × (q.part ≡ p)
    of (Seen r) c = absurd (omega (arith, c.1))
    of (Holds r) c = elim (cases_Bool (nat_eq r.part p)) [
      | inl hit ↦
          let one : Contains (r ∷ []) q = rw hit at c in
          let same : r ≡ q = only one in
          (ap (λ (k : Pred). Holds k) same, sym (ap (λ (k : Pred). k.part) same) ∙ eqb-true r.part p hit)
      | inr miss ↦ let nothing : Contains [] q = rw miss at c in absurd (omega (arith, nothing.1))
    ]
      where
        only : Contains (r ∷ []) q → r ≡ q
        only (zero, l, e) = e
        only (suc k, l, e) = absurd (omega (arith, l))

pub by_predicate : (event : Event) (items : List Item) (v : View) (p t : ℕ) (renewed : Bool) (bound : ℕ) (ws : List ℤ) → sees p items ≡ false → (AllTrueIn ws (preds_on p items) → ⊥) → WasReadUnder v p t ws → IsReason event items v p t renewed bound
by_predicate event items v p t renewed bound ws unseen fails read =
    let it = false_pred ws (preds_on p items) fails in
    let h = pred_item p items it.pred it.among in
    inr (inr (record { unseen = λ there. true≢false (sym (there_seen p items there) ∙ unseen); pred = it.pred; among = h.0; on = h.1; words = ws; were_read = inl read; fails = it.fails }))

pub err_both : {T E : Type 0} (r : Result T E) (P Q : Type 0) → OnErr r P → OnErr r Q → OnErr r (P × Q)
err_both (Ok x) P Q a b = tt
err_both (Err e) P Q a b = (a, b)

-- as many replies are the same ones
no_more : (xs : List PlainReply) → length xs ≡ 0 → xs ≡ []
no_more [] e = refl
no_more (x ∷ xs) e = absurd (omega (arith, e))

pub same_replies : (all rs more : List PlainReply) → all ≡ rs ++ more → length all ≡ length rs → all ≡ rs
same_replies all rs more e l =
    let none : length more ≡ 0 = omega (arith, l, ap length e, length-append rs more) in
    e ∙ ap (λ (x : List PlainReply). rs ++ x) (no_more more none) ∙ append-nil rs

-- replies that others come after are not more
pub replies_on : (xs ys : List Reply) (more : List PlainReply) → map plain_reply ys ≡ map plain_reply xs ++ more → length xs ≤ length ys
replies_on xs ys more e = omega (arith, sym (length-map xs plain_reply), sym (length-map ys plain_reply), ap length e, length-append (map plain_reply xs) more)

pub replies_same : (xs ys : List Reply) (more : List PlainReply) → map plain_reply ys ≡ map plain_reply xs ++ more → length ys ≡ length xs → map plain_reply ys ≡ map plain_reply xs
replies_same xs ys more e l = same_replies (map plain_reply ys) (map plain_reply xs) more e (length-map ys plain_reply ∙ l ∙ sym (length-map xs plain_reply))
