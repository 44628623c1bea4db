-- A history computed: a box with 1; one transaction sets it to 5 with the number 1, one reads it before, and one after.
use Rattle.std.specs.Prelude.{if◌then◌else◌}
use Rattle.std.proofs.Common.{◌≡◌, ◌+◌, ◌<◌, ◌≤◌, ℕ, zero, suc, ℤ, pos, List, [], ◌∷◌, refl, ap, arith, Bool, true, false, ◌==◌}
use Rattle.std.proofs.lemmas.List.Elements.{All-nil, All-cons}
use Rattle.sto_model.specs.PlainReplies.{PlainReply, Done, Value}
use Rattle.sto_model.specs.SequentialObjects.{SequentialObject}
use Rattle.sto_model.specs.Objects.{machines_of}
use Rattle.sto_model.specs.Run.{Behaviour, State}
use Rattle.sto_model.specs.Calls.{call_of}
use Rattle.sto_model.specs.declared.operation.Operation.{Operation}
use Rattle.sto_model.specs.declared.operation.Operation.TheVariants.{Get, Set}
use Rattle.sto_model.specs.declared.body.Next.{Next}
use Rattle.sto_model.specs.declared.body.Next.TheVariants.{Ask, Commit}
use Rattle.sto_model.specs.declared.shape.Shape.TheVariants.{Single}
use Rattle.sto_history.specs.Records.{Wrote, Read}
use Rattle.sto_history.specs.History.{Transaction, times_numbered, StandsIn, LeadTo}

-- one call of the box, and the end
abbrev pub one_call : Operation → ℤ → Behaviour
one_call operation a [] = Ask (call_of 0 operation a (pos 0))
one_call operation a (r ∷ rs) = Commit

abbrev pub set_five : Transaction
set_five = record { steps = one_call Set (pos 5); replies = Done ∷ []; verdict = Wrote 1 }

abbrev pub read_before : Transaction
read_before = record { steps = one_call Get (pos 0); replies = Value (pos 1) ∷ []; verdict = Read 0 }

abbrev pub read_after : Transaction
read_after = record { steps = one_call Get (pos 0); replies = Value (pos 5) ∷ []; verdict = Read 1 }

abbrev pub boxes : List SequentialObject
boxes = machines_of (Single (pos 1) ∷ [])

-- the state after each number
abbrev pub states : ℕ → State
states zero = ((pos 0, pos 1) ∷ []) ∷ []
states (suc n) = ((pos 0, pos 5) ∷ []) ∷ []

-- told in another order than they took effect
abbrev pub all : List Transaction
all = read_after ∷ set_five ∷ read_before ∷ []

abbrev pub Stands : Transaction → Type 0
Stands t = StandsIn boxes 1 states t.steps t.replies t.verdict

once_each : (n : ℕ) → times_numbered n all ≤ 1
once_each n = by (1 == n) refl
  where
    by : (b : Bool) → (1 == n) ≡ b → times_numbered n all ≤ 1
    by true e = let one : times_numbered n all ≡ 1 = ap (λ (b : Bool). 0 + ((if b then 1 else 0) + (0 + 0))) e in omega (arith, one)
    by false e = let none : times_numbered n all ≡ 0 = ap (λ (b : Bool). 0 + ((if b then 1 else 0) + (0 + 0))) e in omega (arith, none)

still_each : (n : ℕ) → n < 1 → times_numbered (suc n) all ≡ 0 → states (suc n) ≡ states n
still_each zero l h = absurd (omega (arith, h))
still_each (suc n) l h = absurd (omega (arith, l))

pub leads : LeadTo boxes all (((pos 0, pos 5) ∷ []) ∷ [])
leads = record {
  clock = 1;
  states = states;
  history = record {
    opened = refl;
    once = once_each;
    still = still_each;
    each = All-cons Stands read_after (set_five ∷ read_before ∷ []) (record { within = omega arith; run = record { runs = (refl, tt); ends = refl; leaves = refl } })
        (All-cons Stands set_five (read_before ∷ []) (record { before = 0; next = refl; within = omega arith; run = record { runs = (refl, tt); ends = refl; leaves = refl } })
        (All-cons Stands read_before [] (record { within = omega arith; run = record { runs = (refl, tt); ends = refl; leaves = refl } }) (All-nil Stands)));
  };
  ends = refl;
}
