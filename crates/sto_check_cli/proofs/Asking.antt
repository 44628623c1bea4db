-- A transaction asks only calls of its statements, with numbers of 64 bits, as long as the replies that it hears have such.
use Rattle.std.proofs.Common.{◌≡◌, ℕ, zero, suc, pos, ℤ, List, [], ◌∷◌, length, replicate, slice_set, slice_get, unwrap_or, Bool, true, false, cond, arith, refl, inl, inr, Option, None, Some}
use Rattle.std.specs.Int.{w64}
use Rattle.std.specs.List.{All}
use Rattle.std.proofs.lemmas.Int.{SFits-int_wrap}
use Rattle.std.proofs.lemmas.List.Elements.{All-nil, All-cons, All-head, All-tail, All-set, All-replicate}
use Rattle.sto_part.specs.Changes.{wrapped_sum, wrapped_difference}
use Rattle.sto_part.specs.Preds.{compares}
use Rattle.sto_model.specs.PlainReplies.{PlainReply, Done, Value, Flag, Absent, Full, Range, Pairs}
use Rattle.sto_model.specs.Run.{Behaviour, MayAsk}
use Rattle.sto_model.specs.Calls.{call_of}
use Rattle.sto_model.specs.declared.call.Call.{Call}
use Rattle.sto_model.specs.declared.body.Next.{Next}
use Rattle.sto_model.specs.declared.body.Next.TheVariants as next
use Rattle.sto_lang.specs.declared.arg.Arg.{Arg}
use Rattle.sto_lang.specs.declared.arg.Arg.TheVariants.{Num, Var}
use Rattle.sto_lang.specs.Statements.{Statements, Nothing, Ask, Sum, Diff, Choose, Repeat, Cancel}
use Rattle.sto_lang.specs.Scripts.{Script}
use Rattle.sto_lang.proofs.SoundLines.{all_get}
use Rattle.sto_script.specs.Asks.{MayBe, Asks}
use Rattle.sto_script.specs.Meaning.{Values, value_of, taken, with_reply, Doing, times_over, doing, committing, meaning_of}
use Rattle.sto_type.specs.Meaning.{Meaning}
use Rattle.sto_type.specs.Runs.{AreTaken}
use Rattle.sto_store.specs.StoresLaw.{IsFitting}
use Rattle.sto_check_cli.proofs.Numbers.{Fits, ToldFits, count_fits, zero_fits}

-- the argument is no number, or one of 64 bits
abbrev pub ArgFits : Arg → Type 0
ArgFits (Num value) = Fits value
ArgFits (Var place) = Unit {0}

-- so are all arguments of the statements
abbrev pub HaveNumbers : Statements → Type 0
HaveNumbers Nothing = Unit {0}
HaveNumbers (Ask to object operation a b rest) = ArgFits a × ArgFits b × HaveNumbers rest
HaveNumbers (Sum to a b rest) = ArgFits a × ArgFits b × HaveNumbers rest
HaveNumbers (Diff to a b rest) = ArgFits a × ArgFits b × HaveNumbers rest
HaveNumbers (Choose a test b first second rest) = ArgFits a × ArgFits b × HaveNumbers first × HaveNumbers second × HaveNumbers rest
HaveNumbers (Repeat times body rest) = HaveNumbers body × HaveNumbers rest
HaveNumbers (Cancel rest) = HaveNumbers rest

-- a call is one of these, and its numbers are of 64 bits
pub record IsFittingOf (P : Call → Type 0) (call : Call) : Type 0 where
  pub is : P call
  pub fits : IsFitting call

-- all that is asked next is such a call, where the values of the variables and the replies have numbers of 64 bits
abbrev AsksOf : (Call → Type 0) → Doing → Type 0
AsksOf P d = (vs : Values) (replies : List PlainReply) → All Fits vs → All ToldFits replies → MayAsk (IsFittingOf P) (d vs replies)

-- all that is asked after such replies
abbrev pub StepsOf : (Call → Type 0) → Behaviour → Type 0
StepsOf P steps = (replies : List PlainReply) → All ToldFits replies → MayAsk (IsFittingOf P) (steps replies)

-- Values of variables.

value_fits : (vs : Values) (a : Arg) → All Fits vs → ArgFits a → Fits (value_of vs a)
value_fits vs (Num value) h f = f
value_fits vs (Var place) h f = by (slice_get vs place) refl
  where
    by : (o : Option ℤ) → slice_get vs place ≡ o → Fits (unwrap_or o (pos 0))
    by None e = zero_fits
    by (Some x) e = all_get Fits vs place x h e

taken_fits : (reply : PlainReply) → ToldFits reply → Fits (taken reply)
taken_fits Done f = count_fits 1 (omega arith)
taken_fits (Value x) f = f
taken_fits (Flag true) f = count_fits 1 (omega arith)
taken_fits (Flag false) f = zero_fits
taken_fits Absent f = zero_fits
taken_fits Full f = zero_fits
taken_fits Range f = zero_fits
taken_fits (Pairs rows) f = count_fits (length rows) f

reply_kept : (vs : Values) (to : Option ℕ) (reply : PlainReply) → All Fits vs → ToldFits reply → All Fits (with_reply vs to reply)
reply_kept vs None reply h f = h
reply_kept vs (Some to) reply h f = All-set Fits vs to (taken reply) (taken_fits reply f) h

may_be : (vs : Values) (a : Arg) → MayBe a (value_of vs a)
may_be vs (Num v) = refl
may_be vs (Var place) = tt

-- Statements.

chosen : (Q : Next → Type 0) (t : Bool) (x y : Next) → Q x → Q y → Q (cond t x y)
chosen Q true x y h k = h
chosen Q false x y h k = k

repeated : (P : Call → Type 0) (body : Doing → Doing) → ((others : Doing) → AsksOf P others → AsksOf P (body others)) → (times : ℕ) (others : Doing) → AsksOf P others → AsksOf P (times_over times body others)
repeated P body step zero others h = h
repeated P body step (suc times) others h = step (times_over times body others) (repeated P body step times others h)

asks_of : (P : Call → Type 0) (s : Statements) (others : Doing) → HaveNumbers s → ((call : Call) → Asks s call → P call) → AsksOf P others → AsksOf P (doing s others)
asks_of P Nothing others n p h vs rs v r = h vs rs v r
asks_of P (Ask to object operation a b rest) others n p h vs [] v r =
    let first : Fits (value_of vs a) = value_fits vs a v n.0 in
    let second : Fits (value_of vs b) = value_fits vs b v n.1 in
    record {
      is = p (call_of object operation (value_of vs a) (value_of vs b))
          (inl (record { object_is = refl; operation_is = refl; a_may_be = may_be vs a; b_may_be = may_be vs b; no_third = refl; a_fits = first; b_fits = second }));
      fits = record { first = first; second = second };
    }
asks_of P (Ask to object operation a b rest) others n p h vs (reply ∷ rs) v r =
    asks_of P rest others n.2 (λ call k. p call (inr k)) h (with_reply vs to reply) rs (reply_kept vs to reply v (All-head ToldFits reply rs r)) (All-tail ToldFits reply rs r)
asks_of P (Sum to a b rest) others n p h vs rs v r =
    let sum : ℤ = wrapped_sum (value_of vs a) (value_of vs b) in
    asks_of P rest others n.2 p h (slice_set vs to sum) rs (All-set Fits vs to sum (SFits-int_wrap w64 _) v) r
asks_of P (Diff to a b rest) others n p h vs rs v r =
    let difference : ℤ = wrapped_difference (value_of vs a) (value_of vs b) in
    asks_of P rest others n.2 p h (slice_set vs to difference) rs (All-set Fits vs to difference (SFits-int_wrap w64 _) v) r
asks_of P (Choose a test b first second rest) others n p h vs rs v r =
    let more : AsksOf P (doing rest others) = asks_of P rest others n.4 (λ call k. p call (inr k)) h in
    chosen (MayAsk (IsFittingOf P)) (compares test (value_of vs a) (value_of vs b)) (doing first (doing rest others) vs rs) (doing second (doing rest others) vs rs)
    (asks_of P first (doing rest others) n.2 (λ call k. p call (inl (inl k))) more vs rs v r) (asks_of P second (doing rest others) n.3 (λ call k. p call (inl (inr k))) more vs rs v r)
asks_of P (Repeat times body rest) others n p h vs rs v r =
    repeated P (doing body) (λ o k. asks_of P body o n.0 (λ call a. p call (inl a)) k) times (doing rest others) (asks_of P rest others n.1 (λ call k. p call (inr k)) h) vs rs v r
asks_of P (Cancel rest) others n p h vs rs v r = tt

-- what a transaction asks
pub script_asks : (P : Call → Type 0) (s : Script) → HaveNumbers s.body → ((call : Call) → Asks s.body call → P call) → StepsOf P (meaning_of s)
script_asks P s n p rs r =
    asks_of P s.body committing n p (λ vs others v k. tt) (replicate (length s.variables) (pos 0)) rs (All-replicate Fits (length s.variables) (pos 0) zero_fits) r

taken_next : (P : Call → Type 0) (n : Next) → MayAsk (IsFittingOf P) n → MayAsk P n
taken_next P (next.Ask call) h = h.is
taken_next P next.Commit h = tt
taken_next P next.Cancel h = tt

-- such calls are taken
pub taken_along : (m : Meaning) (steps : Behaviour) (replies : List PlainReply) → StepsOf m.takes steps → All ToldFits replies → AreTaken m steps replies
taken_along m steps [] h r = tt
taken_along m steps (x ∷ replies) h r = (
  taken_next m.takes (steps []) (h [] (All-nil ToldFits)),
  taken_along m (λ others. steps (x ∷ others)) replies (λ rs k. h (x ∷ rs) (All-cons ToldFits x rs (All-head ToldFits x replies r) k)) (All-tail ToldFits x replies r),
)
