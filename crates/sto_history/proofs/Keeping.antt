-- An invariant that the opening has, and that each transaction of a serial history keeps, holds all along.
use Rattle.std.specs.List.{All}
use Rattle.std.specs.Prelude.{if◌then◌else◌}
use Rattle.std.proofs.Common.{◌≡◌, ℕ, zero, suc, ◌+◌, ◌-◌, ◌<◌, ◌≤◌, List, [], ◌∷◌, ◌++◌, refl, sym, ap, ◌∙◌, subst, arith, Bool, true, false, ◌==◌, eqb-true, inl, inr, le_refl}
use Rattle.std.proofs.lemmas.Bool.{cases_lt}
use Rattle.std.proofs.lemmas.List.Elements.{All-nil, All-cons, All-head, All-tail, All-append, All-weaker}
use Rattle.sto_model.specs.PlainReplies.{PlainReply}
use Rattle.sto_model.specs.SequentialObjects.{SequentialObject, opening_of}
use Rattle.sto_model.specs.Run.{Behaviour, State, IsRun, state_along}
use Rattle.sto_model.specs.declared.run.End.TheVariants as E
use Rattle.sto_type.specs.Meaning.{Meaning}
use Rattle.sto_core.specs.declared.view.View.{View}
use Rattle.sto_history.specs.Records.{Verdict, Wrote, Read, Cancelled, Locked, Changed, wrote_with}
use Rattle.sto_history.specs.History.{Transaction, times_numbered, IsStep, StandsIn, IsSerialHistory, LeadTo}
use Rattle.sto_history.specs.Counted.{times_committed}
use Rattle.sto_history.specs.Done.{IsToldOf, AreAllDone, HaveHistory}
use Rattle.sto_history.specs.Keeping.{KeepsState, RanWithin, HasKept, IsKeeping, HaveKept}
use Rattle.sto_history.proofs.Doing.{numbered_append, all_later}

module _ (ms : List SequentialObject) (Inv : State → Type 0) (clock : ℕ) (states : ℕ → State) where
  abbrev Stands : Transaction → Type 0
  Stands t = StandsIn ms clock states t.steps t.replies t.verdict

  -- the transaction with the next number keeps the invariant
  step_by : (n k : ℕ) (f : Behaviour) (replies : List PlainReply) (b : Bool) → (k ≡ suc n) → IsStep ms clock states f replies k
      → KeepsState ms Inv (record { steps = f; replies = replies; verdict = Wrote k }) → Inv (states n) → Inv (states (suc n))
  step_by n k f replies b is h keeps inv =
      let e : h.before ≡ n = (let a = h.next in omega (arith, a, is)) in
      let low : Inv (states h.before) = subst (λ (x : ℕ). Inv (states x)) (sym e) inv in
      let high : Inv (states k) = subst Inv (sym h.run.leaves) (keeps (states h.before) low h.run.runs h.run.ends) in
      subst (λ (x : ℕ). Inv (states x)) is high

  by_verdict : (n : ℕ) (f : Behaviour) (replies : List PlainReply) (verdict : Verdict) (rest : ℕ) → StandsIn ms clock states f replies verdict
      → KeepsState ms Inv (record { steps = f; replies = replies; verdict = verdict }) → Inv (states n)
      → (0 < rest → Inv (states (suc n))) → 0 < wrote_with (suc n) verdict + rest → Inv (states (suc n))
  by_verdict n f replies (Wrote k) rest h keeps inv later some = by (k == suc n) refl
    where
      by : (b : Bool) → (k == suc n) ≡ b → Inv (states (suc n))
      by true is = step_by n k f replies true (eqb-true k (suc n) is) h keeps inv
      by false is = later (let none : wrote_with (suc n) (Wrote k) ≡ 0 = ap (λ (b : Bool). if b then 1 else 0) is in omega (arith, none, some))
  by_verdict n f replies (Read k) rest h keeps inv later some = later (omega (arith, some))
  by_verdict n f replies (Cancelled k) rest h keeps inv later some = later (omega (arith, some))
  by_verdict n f replies (Locked k part) rest h keeps inv later some = absurd h
  by_verdict n f replies (Changed k part ticket) rest h keeps inv later some = absurd h

  step_kept : (n : ℕ) (ts : List Transaction) → All Stands ts → All (KeepsState ms Inv) ts → Inv (states n) → 0 < times_numbered (suc n) ts → Inv (states (suc n))
  step_kept n [] h keeps inv some = absurd (omega (arith, some))
  step_kept n (t ∷ ts) h keeps inv some =
      by_verdict n t.steps t.replies t.verdict (times_numbered (suc n) ts) (All-head Stands t ts h) (All-head (KeepsState ms Inv) t ts keeps) inv
      (step_kept n ts (All-tail Stands t ts h) (All-tail (KeepsState ms Inv) t ts keeps) inv) some

  module _ (ts : List Transaction) (history : IsSerialHistory ms clock states ts) (opening : Inv (opening_of ms)) (keeps : All (KeepsState ms Inv) ts) where
    -- the state after each number has it
    pub all_along : (n : ℕ) → n ≤ clock → Inv (states n)
    all_along zero l = subst Inv (sym history.opened) opening
    all_along (suc n) l =
        let inv = all_along n (omega (arith, l)) in
        elim (cases_lt 0 (times_numbered (suc n) ts)) [
          | inl some ↦ step_kept n ts history.each keeps inv some
          | inr none ↦ subst Inv (sym (history.still n (omega (arith, l)) (omega (arith, none)))) inv
        ]

    ran_by : (f : Behaviour) (replies : List PlainReply) (verdict : Verdict) → StandsIn ms clock states f replies verdict → RanWithin ms Inv (record { steps = f; replies = replies; verdict = verdict })
    ran_by f replies (Wrote k) h = record { state = states h.before; holds = all_along h.before (let a = h.next in let b = h.within in omega (arith, a, b)); runs = h.run.runs }
    ran_by f replies (Read k) h = record { state = states k; holds = all_along k h.within; runs = h.run.runs }
    ran_by f replies (Cancelled k) h = record { state = states k; holds = all_along k h.within; runs = h.run.runs }
    ran_by f replies (Locked k part) h = absurd h
    ran_by f replies (Changed k part ticket) h = absurd h

    -- and so has what each transaction looked at
    pub all_within : All (RanWithin ms Inv) ts
    all_within = All-weaker Stands (RanWithin ms Inv) (λ t h. ran_by t.steps t.replies t.verdict h) ts history.each

-- it holds of the last state, and of what each transaction looked at
pub kept_to_the_end : (ms : List SequentialObject) (Inv : State → Type 0) (ts : List Transaction) (last : State) → LeadTo ms ts last → Inv (opening_of ms) → All (KeepsState ms Inv) ts
    → Inv last × All (RanWithin ms Inv) ts
kept_to_the_end ms Inv ts last h opening keeps = (
  subst Inv (sym h.ends) (all_along ms Inv h.clock h.states ts h.history opening keeps h.clock (le_refl h.clock)),
  all_within ms Inv h.clock h.states ts h.history opening keeps,
)

-- a pass that has done nothing
pub new_kept : (m : Meaning) (Inv : State → Type 0) (v : View) → v.entries ≡ [] → HasKept m Inv v (Unit {0})
new_kept m Inv v none = record {
  did = [];
  done = record { entries = λ n. (let a = ap (times_committed n) none in omega (arith, a)); each = All-nil (IsToldOf m v) };
  keeps = All-nil (KeepsState m.machines Inv);
  shows = λ ran. tt;
}

-- what was done first, and what came after
pub first_all : {X : Type 0} (P : X → Type 0) (xs ys : List X) → All P (xs ++ ys) → All P xs
first_all P [] ys h = All-nil P
first_all P (x ∷ xs) ys h = All-cons P x xs (All-head P x (xs ++ ys) h) (first_all P xs ys (All-tail P x (xs ++ ys) h))

pub second_all : {X : Type 0} (P : X → Type 0) (xs ys : List X) → All P (xs ++ ys) → All P ys
second_all P [] ys h = h
second_all P (x ∷ xs) ys h = second_all P xs ys (All-tail P x (xs ++ ys) h)

-- a pass that goes on
pub kept_on : (m : Meaning) (Inv : State → Type 0) (v w : View) (P Q : Type 0) → HasKept m Inv v P → IsKeeping m Inv v w Q → HasKept m Inv w (P × Q)
kept_on m Inv v w P Q h k = record {
  did = h.did ++ k.did;
  done = record {
    entries = λ n. (let a = h.done.entries n in let b = k.done.entries n in let s = numbered_append n h.did k.did in omega (arith, a, b, s));
    each = All-append (IsToldOf m w) h.did k.did (all_later m v w k.done.grows h.did h.done.each) k.done.each;
  };
  keeps = All-append (KeepsState m.machines Inv) h.did k.did h.keeps k.keeps;
  shows = λ ran. (h.shows (first_all (RanWithin m.machines Inv) h.did k.did ran), k.shows (second_all (RanWithin m.machines Inv) h.did k.did ran));
}

-- one pass, and others
pub none_kept : (m : Meaning) (Inv : State → Type 0) → HaveKept m Inv [] (Unit {0})
none_kept m Inv = record { did = []; done = refl; keeps = All-nil (KeepsState m.machines Inv); shows = λ ran. tt }

pub one_kept : (m : Meaning) (Inv : State → Type 0) (v : View) (vs : List View) (P Q : Type 0) → HasKept m Inv v P → HaveKept m Inv vs Q → HaveKept m Inv (v ∷ vs) (P × Q)
one_kept m Inv v vs P Q h k = record {
  did = h.did ++ k.did;
  done = (h.did, k.did, refl, h.done, k.done);
  keeps = All-append (KeepsState m.machines Inv) h.did k.did h.keeps k.keeps;
  shows = λ ran. (h.shows (first_all (RanWithin m.machines Inv) h.did k.did ran), k.shows (second_all (RanWithin m.machines Inv) h.did k.did ran));
}

pub others_kept : (m : Meaning) (Inv : State → Type 0) (us vs : List View) (Q : Type 0) → All (λ v. HasKept m Inv v (Unit {0})) us → HaveKept m Inv vs Q → HaveKept m Inv (us ++ vs) Q
others_kept m Inv [] vs Q all k = k
others_kept m Inv (u ∷ us) vs Q all k =
    let P : View → Type 0 = λ v. HasKept m Inv v (Unit {0}) in
    let rest = one_kept m Inv u (us ++ vs) (Unit {0}) Q (All-head P u us all) (others_kept m Inv us vs Q (All-tail P u us all) k) in
    record { did = rest.did; done = rest.done; keeps = rest.keeps; shows = λ ran. (rest.shows ran).1 }

-- at the end the invariant holds, and so does what is so wherever it holds
pub kept_by_all : (m : Meaning) (Inv : State → Type 0) (views : List View) (P : Type 0) (last : State) → HaveKept m Inv views P
    → HaveHistory m views last → Inv (opening_of m.machines) → Inv last × P
kept_by_all m Inv views P last h history opening =
    let both = kept_to_the_end m.machines Inv h.did last (history h.did h.done) opening h.keeps in
    (both.0, h.shows both.1)
