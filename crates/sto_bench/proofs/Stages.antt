-- A reply leads from each stage to the next one.
use Rattle.std.specs.Prelude.{if◌then◌else◌, None, pos, ℤ, FitsSigned}
use Rattle.std.specs.Int.{w64}
use Rattle.std.proofs.lemmas.Int.{fits_signed_from_abs}
use Rattle.std.proofs.Common.{◌≡◌, ℕ, ◌==◌, ◌%◌, ◌+◌, ◌*◌, ◌/◌, ◌<◌, ◌≤◌, List, [], ◌∷◌, Bool, true, false, refl, ◌∙◌, arith, ◌^◌, inl, inr}
use Rattle.sto_part.specs.Preds.{compares}
use Rattle.sto_part.specs.declared.pred.Test.TheVariants.{Ge}
use Rattle.sto_model.specs.PlainReplies.{PlainReply}
use Rattle.sto_model.specs.Run.{IsAsk, MayAsk}
use Rattle.sto_model.specs.declared.call.Call.{Call}
use Rattle.sto_model.specs.declared.operation.Operation.TheVariants.{Put}
use Rattle.sto_model.specs.declared.body.Next.{Next}
use Rattle.sto_model.specs.declared.body.Next.TheVariants as next
use Rattle.sto_lang.specs.declared.arg.Arg.{Arg}
use Rattle.sto_lang.specs.declared.arg.Arg.TheVariants.{Num}
use Rattle.sto_lang.specs.Statements.{Statements, Nothing, Ask, ◌then◌}
use Rattle.sto_script.specs.Meaning.{Values, doing, committing, taken}
use Rattle.sto_script.specs.Asks.{Asks}
use Rattle.sto_gen.specs.declared.draws.Transfer.{Transfer}
use Rattle.sto_gen.specs.Generated.{number, moves, statements, owner_note}
use Rattle.sto_bench.specs.Stages.{notes, doing_from, left_from}
use Rattle.sto_bench.specs.declared.body.TransferStage.TheVariants.{Balance, Out, Log, Owner, End}

-- a note that is made where b holds
abbrev note_if : Bool → ℕ → Arg → Arg → Statements
note_if b object key value = if b then Ask None object Put key value Nothing else Nothing

note_heard : (b c : Bool) (k v l w : Arg) (x : Values) (r : PlainReply) (rs : List PlainReply) → IsAsk (doing (note_if b 3 k v then note_if c 2 l w) committing x [])
    → (if b then doing (note_if c 2 l w) committing x rs else next.Commit) ≡ doing (note_if b 3 k v then note_if c 2 l w) committing x (r ∷ rs)
note_heard true c k v l w x r rs asked = refl
note_heard false true k v l w x r rs asked = refl
note_heard false false k v l w x r rs asked = absurd asked

after_note : (b : Bool) (thread position : ℕ) (t : Transfer) (x : Values) (rs : List PlainReply)
    → doing_from (if b then Owner else End) thread position t x rs ≡ (if b then doing (owner_note thread position) committing x rs else next.Commit)
after_note true thread position t x rs = refl
after_note false thread position t x rs = refl

-- the log's stage
pub log_heard : (thread position : ℕ) (t : Transfer) (x : Values) (r : PlainReply) (rs : List PlainReply) → IsAsk (doing_from Log thread position t x [])
    → doing_from (if position % 20 == 0 then Owner else End) thread position t x rs ≡ doing_from Log thread position t x (r ∷ rs)
log_heard thread position t x r rs asked =
    after_note (position % 20 == 0) thread position t x rs
    ∙ note_heard (position % 20 == 0) (position % 25 == 0) (number (1000 * thread + position)) (number t.amount) (number (8 * thread + position / 25)) (number thread) x r rs asked

owner_none_left : (c : Bool) (l w : Arg) (x : Values) (r : PlainReply) (rs : List PlainReply) → IsAsk (doing (note_if c 2 l w) committing x []) → next.Commit ≡ doing (note_if c 2 l w) committing x (r ∷ rs)
owner_none_left true l w x r rs asked = refl
owner_none_left false l w x r rs asked = absurd asked

-- that of the owners
pub owner_heard : (thread position : ℕ) (t : Transfer) (x : Values) (r : PlainReply) (rs : List PlainReply) → IsAsk (doing_from Owner thread position t x [])
    → doing_from End thread position t x rs ≡ doing_from Owner thread position t x (r ∷ rs)
owner_heard thread position t x r rs asked = owner_none_left (position % 25 == 0) (number (8 * thread + position / 25)) (number thread) x r rs asked

moves_or_log : (b : Bool) (thread position : ℕ) (t : Transfer) (x : Values) (rs : List PlainReply)
    → doing_from (if b then Out else Log) thread position t x rs
    ≡ (if b then doing (moves t) (doing (notes thread position t) committing) x rs else doing Nothing (doing (notes thread position t) committing) x rs)
moves_or_log true thread position t x rs = refl
moves_or_log false thread position t x rs = refl

-- that of the balance
pub balance_heard : (thread position : ℕ) (t : Transfer) (old : ℤ) (r : PlainReply) (rs : List PlainReply)
    → doing_from (if compares Ge (taken r) (pos t.amount) then Out else Log) thread position t (taken r ∷ []) rs ≡ doing_from Balance thread position t (old ∷ []) (r ∷ rs)
balance_heard thread position t old r rs = moves_or_log (compares Ge (taken r) (pos t.amount)) thread position t (taken r ∷ []) rs

-- fewer calls are left
pub fewer_after_balance : (b : Bool) → left_from (if b then Out else Log) < 6
fewer_after_balance true = omega arith
fewer_after_balance false = omega arith

pub fewer_after_note : (b : Bool) → left_from (if b then Owner else End) < 2
fewer_after_note true = omega arith
fewer_after_note false = omega arith

-- what is asked for a note is asked by the statements
may_if : (b c : Bool) (k v l w : ℤ) (x : Values) → FitsSigned w64 k → FitsSigned w64 v → FitsSigned w64 l → FitsSigned w64 w
    → MayAsk (Asks (note_if b 3 (Num k) (Num v) then note_if c 2 (Num l) (Num w))) (doing (note_if b 3 (Num k) (Num v) then note_if c 2 (Num l) (Num w)) committing x [])
may_if true c k v l w x fk fv fl fw = inl (record { object_is = refl; operation_is = refl; a_may_be = refl; b_may_be = refl; no_third = refl; a_fits = fk; b_fits = fv })
may_if false true k v l w x fk fv fl fw = inl (record { object_is = refl; operation_is = refl; a_may_be = refl; b_may_be = refl; no_third = refl; a_fits = fl; b_fits = fw })
may_if false false k v l w x fk fv fl fw = tt

owner_if : (b c : Bool) (k v l w : ℤ) (x : Values) → FitsSigned w64 l → FitsSigned w64 w
    → MayAsk (Asks (note_if b 3 (Num k) (Num v) then note_if c 2 (Num l) (Num w))) (doing (note_if c 2 (Num l) (Num w)) committing x [])
owner_if true true k v l w x fl fw = inr (inl (record { object_is = refl; operation_is = refl; a_may_be = refl; b_may_be = refl; no_third = refl; a_fits = fl; b_fits = fw }))
owner_if false true k v l w x fl fw = inl (record { object_is = refl; operation_is = refl; a_may_be = refl; b_may_be = refl; no_third = refl; a_fits = fl; b_fits = fw })
owner_if true false k v l w x fl fw = tt
owner_if false false k v l w x fl fw = tt

-- a number below 2^40 has 64 bits
small_fits : (n : ℕ) → n < 2 ^ 50 → FitsSigned w64 (pos n)
small_fits n small = fits_signed_from_abs w64 (pos n) (omega (arith, small))

may_weaker : (P Q : Call → Type 0) (n : Next) → ((call : Call) → P call → Q call) → MayAsk P n → MayAsk Q n
may_weaker P Q (next.Ask call) f h = f call h
may_weaker P Q next.Commit f h = tt
may_weaker P Q next.Cancel f h = tt

notes_are_asked : (thread position : ℕ) (t : Transfer) (call : Call) → Asks (notes thread position t) call → Asks (statements thread position t) call
notes_are_asked thread position t call h = inr (inr h)

pub log_asked : (thread position : ℕ) (t : Transfer) (x : Values) → thread < 16 → position ≤ 200 → t.amount < 256
    → MayAsk (Asks (statements thread position t)) (doing_from Log thread position t x [])
log_asked thread position t x th po am =
    may_weaker (Asks (notes thread position t)) (Asks (statements thread position t)) (doing_from Log thread position t x []) (notes_are_asked thread position t)
    (may_if (position % 20 == 0) (position % 25 == 0) (pos (1000 * thread + position)) (pos t.amount) (pos (8 * thread + position / 25)) (pos thread) x
    (small_fits (1000 * thread + position) (omega (arith, th, po))) (small_fits t.amount (omega (arith, am))) (small_fits (8 * thread + position / 25) (omega (arith, th, po))) (small_fits thread (omega (arith, th))))

pub owner_asked : (thread position : ℕ) (t : Transfer) (x : Values) → thread < 16 → position ≤ 200
    → MayAsk (Asks (statements thread position t)) (doing_from Owner thread position t x [])
owner_asked thread position t x th po =
    may_weaker (Asks (notes thread position t)) (Asks (statements thread position t)) (doing_from Owner thread position t x []) (notes_are_asked thread position t)
    (owner_if (position % 20 == 0) (position % 25 == 0) (pos (1000 * thread + position)) (pos t.amount) (pos (8 * thread + position / 25)) (pos thread) x
    (small_fits (8 * thread + position / 25) (omega (arith, th, po))) (small_fits thread (omega (arith, th))))
