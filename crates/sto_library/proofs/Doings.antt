-- What a worker did, one transaction after the other.
use Rattle.std.specs.List.{All}
use Rattle.std.specs.Prelude.{OnOk, is_err}
use Rattle.std.proofs.Common.{◌≡◌, ◌+◌, ◌≤◌, ℕ, List, [], ◌∷◌, ◌++◌, length, length-append, refl, ◌∙◌, subst, arith, Result, Ok, Err, true, false, true≢false, sym}
use Rattle.std.proofs.lemmas.List.Elements.{All-nil, All-cons, All-append, All-weaker}
use Rattle.sto_model.specs.declared.shape.Shape.{Shape}
use Rattle.sto_type.specs.Traits.{OfType}
use Rattle.sto_type.specs.Meaning.{Meaning}
use Rattle.sto_history.specs.Added.{Grows}
use Rattle.sto_history.proofs.Among.{among_second}
use Rattle.sto_history.specs.History.{Transaction}
use Rattle.sto_history.specs.Done.{IsToldOf, HasDone}
use Rattle.sto_history.proofs.Doing.{done_none, done_more}
use Rattle.sto_action.specs.declared.short_reply.ShortReply.{ShortReply}
use Rattle.sto_action.specs.Progs.{Prog, IsGiven, IsCancelled, IsAsked}
use Rattle.sto_shared_store.specs.declared.store.Store.{Store as Words}
use Rattle.sto_action.specs.declared.outcome.Done.{Done}
use Rattle.sto_action.specs.declared.outcome.Done.TheVariants.{Gave, Cancelled}
use Rattle.sto_action.specs.declared.outcome.TransactionError.{TransactionError}
use Rattle.sto_action.specs.declared.outcome.TransactionError.TheVariants.{Busy, Refused, Worn, NoMemory}
use Rattle.sto_action.specs.Atomic.{steps_of, TakesNoEffect, IsAtomic, HasLed}
use Rattle.sto_action.proofs.Tried.{seen_later}
use Rattle.sto_library.specs.Values.{Working}
use Rattle.sto_library.specs.Doings.{HasRunOnly, HasRepeated, HasHeard, IsLedBy, HasGiven, HasCause}

-- the steps are those of code of this family
abbrev pub RanSome : {I E A : Type 0} → List Shape → ℕ → (I → Prog E A) → Transaction → Type 0
RanSome {I} shapes most p x = (i : I) × (x.steps ≡ steps_of shapes most (p i))

-- the steps are those of this code
abbrev Ran : {E A : Type 0} → List Shape → ℕ → Prog E A → Transaction → Type 0
Ran shapes most p = RanSome shapes most (λ (once : Unit {0}). p)

module _ {T E A : Type 0} (t : OfType T) (before after : Working T) (most : ℕ) (p : Prog E A) (words : after.words ≡ before.words) (shapes : after.shapes ≡ before.shapes)
    (grows : Grows before.seat.me.0.view after.seat.me.0.view) where
  abbrev m : Meaning
  m = t.meaning before.words.ty

  -- a transaction that ended
  ended : (says : List ShortReply → Type 0) → IsAtomic (t.meaning before.words.ty) before.seat.me.0.view after.seat.me.0.view before.shapes most p says
      → (again : HasRepeated t before after most p) × ((length again.did ≡ 1) × HasHeard before again.did says)
  ended says h =
      let x : Transaction = record { steps = steps_of before.shapes most p; replies = h.replies; verdict = h.verdict } in (
        record {
          words = words;
          shapes = shapes;
          did = x ∷ [];
          done = record {
            grows = grows;
            entries = λ n. (let e = h.entries n in omega (arith, e));
            each = All-cons (IsToldOf m after.seat.me.0.view) x [] (record { ended = h.ended; told = h.told }) (All-nil (IsToldOf m after.seat.me.0.view));
          };
          each = All-cons (Ran before.shapes most p) x [] (tt, refl) (All-nil (Ran before.shapes most p));
        },
        (refl, record { transaction = x; there = (0, refl); since = h.since; said = h.said }),
      )

  -- one that took no effect
  none : TakesNoEffect before.seat.me.0.view after.seat.me.0.view → HasRepeated t before after most p
  none h = record {
    words = words;
    shapes = shapes;
    did = [];
    done = record { grows = grows; entries = λ n. (let e = h n in omega (arith, e)); each = All-nil (IsToldOf m after.seat.me.0.view) };
    each = All-nil (Ran before.shapes most p);
  }

  pub led_given : (tries : ℕ) (r : Result (Done A E) TransactionError) → HasLed (t.meaning before.words.ty) before.seat.me.0.view after.seat.me.0.view tries after.left before.shapes most p r
      → HasGiven t before after 1 most p r
  unfolding none
  led_given tries (Ok (Gave value)) h = let e = ended (λ hs. IsGiven p hs value) h in let one : length e.0.did ≡ 1 = e.1.0 in record { repeated = e.0; at_most = omega (arith, one); each_time = omega (arith, one); led = e.1.1 }
  led_given tries (Ok (Cancelled reason)) h = let e = ended (λ hs. IsCancelled p hs reason) h in let one : length e.0.did ≡ 1 = e.1.0 in record { repeated = e.0; at_most = omega (arith, one); each_time = omega (arith, one); led = e.1.1 }
  led_given tries (Err (Refused call)) h = let e = ended (λ hs. IsAsked p hs call) h in let one : length e.0.did ≡ 1 = e.1.0 in record { repeated = e.0; at_most = omega (arith, one); each_time = tt; led = e.1.1 }
  led_given tries (Err (Busy told last)) h = record { repeated = none h.1.aborted.none; at_most = omega (arith); each_time = tt; led = tt }
  led_given tries (Err Worn) h = record { repeated = none h.1.2.none; at_most = omega (arith); each_time = tt; led = tt }
  led_given tries (Err NoMemory) h = record { repeated = none h; at_most = omega (arith); each_time = tt; led = tt }

-- why it was not run to its end
pub led_cause : {T E A : Type 0} (t : OfType T) (before after : Working T) (tries most : ℕ) (p : Prog E A) (r : Result (Done A E) TransactionError)
    → HasLed (t.meaning before.words.ty) before.seat.me.0.view after.seat.me.0.view tries after.left before.shapes most p r → HasCause t before after tries r
led_cause t before after tries most p (Ok (Gave value)) h = tt
led_cause t before after tries most p (Ok (Cancelled reason)) h = tt
led_cause t before after tries most p (Err (Refused call)) h = tt
led_cause t before after tries most p (Err (Busy told last)) h = h
led_cause t before after tries most p (Err Worn) h = h
led_cause t before after tries most p (Err NoMemory) h = tt

heard_more : {T : Type 0} (u v : Working T) (did more : List Transaction) (says : List ShortReply → Type 0) → Grows u.seat.me.0.view v.seat.me.0.view → HasHeard v more says → HasHeard u (did ++ more) says
heard_more u v did more says g h = record {
  transaction = h.transaction;
  there = among_second did more h.transaction h.there;
  since = λ n k. h.since n (seen_later u.seat.me.0.view v.seat.me.0.view g n k);
  said = h.said;
}

module _ {T I E A : Type 0} (t : OfType T) where
  -- a worker that has done nothing yet
  pub run_none : (w : Working T) (most : ℕ) (p : I → Prog E A) → HasRunOnly t w w most p
  run_none w most p = record {
    words = refl;
    shapes = refl;
    did = [];
    done = done_none (t.meaning w.words.ty) w.seat.me.0.view;
    each = All-nil (RanSome w.shapes most p);
  }

  -- one that goes on
  pub run_on : {u v w : Working T} {most : ℕ} {p : I → Prog E A} → HasRunOnly t u v most p → HasRunOnly t v w most p → HasRunOnly t u w most p
  run_on {u} {v} {w} {most} {p} h k = record {
    words = k.words ∙ h.words;
    shapes = k.shapes ∙ h.shapes;
    did = h.did ++ k.did;
    done = done_more (t.meaning u.words.ty) u.seat.me.0.view v.seat.me.0.view w.seat.me.0.view h.did k.did h.done
        (subst (λ (x : Words T). HasDone (t.meaning x.ty) v.seat.me.0.view w.seat.me.0.view k.did) h.words k.done);
    each = All-append (RanSome u.shapes most p) h.did k.did h.each (subst (λ (ss : List Shape). All (RanSome ss most p) k.did) h.shapes k.each);
  }

  -- one that runs the code of the family that has this index
  run_one : {v w : Working T} {most : ℕ} {p : I → Prog E A} (i : I) → HasRepeated t v w most (p i) → HasRunOnly t v w most p
  run_one {v} {w} {most} {p} i h = record {
    words = h.words;
    shapes = h.shapes;
    did = h.did;
    done = h.done;
    each = All-weaker (Ran v.shapes most (p i)) (RanSome v.shapes most p) (λ x is. (i, is.1)) h.did h.each;
  }

  pub run_more : {u v w : Working T} {most : ℕ} {p : I → Prog E A} (i : I) → HasRunOnly t u v most p → HasRepeated t v w most (p i) → HasRunOnly t u w most p
  run_more {p = p} i h k = run_on h (run_one {p = p} i k)

module _ {T E A : Type 0} (t : OfType T) where
  led_more : (u v : Working T) (did more : List Transaction) (p : Prog E A) (r : Result (Done A E) TransactionError) → Grows u.seat.me.0.view v.seat.me.0.view → IsLedBy v more p r → IsLedBy u (did ++ more) p r
  led_more u v did more p (Ok (Gave value)) g h = heard_more u v did more (λ hs. IsGiven p hs value) g h
  led_more u v did more p (Ok (Cancelled reason)) g h = heard_more u v did more (λ hs. IsCancelled p hs reason) g h
  led_more u v did more p (Err (Refused call)) g h = heard_more u v did more (λ hs. IsAsked p hs call) g h
  led_more u v did more p (Err (Busy told last)) g h = tt
  led_more u v did more p (Err Worn) g h = tt
  led_more u v did more p (Err NoMemory) g h = tt

  -- some runs, and then one that led to this
  pub given_more : {u v w : Working T} {before most : ℕ} {p : Prog E A} {r : Result (Done A E) TransactionError} → (h : HasRepeated t u v most p) → length h.did ≡ before → HasGiven t v w 1 most p r
      → HasGiven t u w (before + 1) most p r
  unfolding run_on
  given_more {u} {v} {w} {before} {most} {p} {r} h many k =
      let all = length-append h.did k.repeated.did in
      let few = k.at_most in record {
        repeated = run_on t h k.repeated;
        at_most = omega (arith, all, few, many);
        each_time = each_more r k.each_time;
        led = led_more u v h.did k.repeated.did p r h.done.grows k.led;
      }
    where
      each_more : (o : Result (Done A E) TransactionError) → OnOk o (1 ≤ length k.repeated.did) → OnOk o (before + 1 ≤ length (h.did ++ k.repeated.did))
      each_more (Ok done) one = let all = length-append h.did k.repeated.did in omega (arith, all, one, many)
      each_more (Err error) one = tt

  -- a worker that ran the code so many times
  abbrev pub RanTimes : (before after : Working T) → (times most : ℕ) → Prog E A → Type 0
  RanTimes before after times most p = (ran : HasRepeated t before after most p) × (length ran.did ≡ times)

  pub ran_none : (w : Working T) (most : ℕ) (p : Prog E A) → RanTimes w w 0 most p
  unfolding run_none
  ran_none w most p = (run_none t w most (λ (once : Unit {0}). p), refl)

  -- once more, not in vain
  pub ran_once_more : {u v w : Working T} {times most : ℕ} {p : Prog E A} {r : Result (Done A E) TransactionError} → RanTimes u v times most p → is_err r ≡ false → HasGiven t v w 1 most p r → RanTimes u w (times + 1) most p
  unfolding run_on
  ran_once_more {times = times} {r = Ok done} h fine k =
      let all = length-append h.0.did k.repeated.did in
      let few = k.at_most in let one = k.each_time in let many = h.1 in (run_on t h.0 k.repeated, omega (arith, all, few, one, many))
  ran_once_more {r = Err error} h fine k = absurd (true≢false fine)

  -- a run in vain ended it before so many times
  pub given_in_vain : {u w : Working T} {times more most : ℕ} {p : Prog E A} {r : Result (Done A E) TransactionError} → times ≤ more → is_err r ≡ true → HasGiven t u w times most p r → HasGiven t u w more most p r
  given_in_vain {r = Ok done} few vain k = absurd (true≢false (sym vain))
  given_in_vain {r = Err error} few vain k = let most = k.at_most in record { repeated = k.repeated; at_most = omega (arith, few, most); each_time = tt; led = k.led }
