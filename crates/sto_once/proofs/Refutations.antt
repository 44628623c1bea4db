-- Runs of code that are not what its tree says, and an answer of a transaction that comes too early.
use Rattle.std.proofs.Common.{◌≡◌, ◌+◌, ℕ, ℤ, pos, List, [], ◌∷◌, length, Ok, Err, sym, ap, subst, arith}
use Rattle.sto_model.specs.declared.call.Call.{Call}
use Rattle.sto_model.specs.declared.shape.Shape.{Shape}
use Rattle.sto_type.specs.Meaning.{Meaning}
use Rattle.sto_core.specs.declared.view.View.{View}
use Rattle.sto_action.specs.Progs.{Prog, Asks, Gives}
use Rattle.sto_action.specs.Calls.{number}
use Rattle.sto_action.specs.declared.short_reply.ShortReply.{ShortReply}
use Rattle.sto_action.specs.declared.short_reply.ShortReply.TheVariants.{Value}
use Rattle.sto_action.specs.Atomic.{HasLed}
use Rattle.sto_action.specs.declared.cause.AbortCause.{AbortCause}
use Rattle.sto_action.specs.declared.outcome.TransactionError.TheVariants.{Busy}
use Rattle.sto_once.specs.Once.{Heard, Answering, Goes, Gave}

-- what answers calls, seen as what it has answered
abbrev history : Answering (List Heard)
history = record {
  heard = λ hs. hs;
  Key = Unit {0};
  stands = λ k hs. Unit {0};
  over = λ hs. ⊥;
  refuses = λ hs call. ⊥;
}

-- code of one call, whose value is the number that was answered
abbrev asks_once : Call → Prog (Unit {0}) ℤ
asks_once call = Asks call (λ h. Gives (number h))

-- it is not run a second time
pub run_twice : (call : Call) (x y : ShortReply) (a : ℤ) → Goes history (asks_once call) [] ((call, x) ∷ (call, y) ∷ []) (Ok a) → ⊥
run_twice call x y a g = longer (subst (λ (hs : List Heard). Gave (asks_once call) hs a) (sym g.1.1) g.1.2) where
  longer : Gave (asks_once call) ((call, x) ∷ (call, y) ∷ []) a → ⊥
  longer h = let n = ap length h.1.1 in omega (arith, n)

-- its value is that of the reply which it was given
pub other_reply : (call : Call) → Goes history (asks_once call) [] ((call, Value (pos 1)) ∷ []) (Ok (pos 2)) → ⊥
other_reply call g = other (subst (λ (hs : List Heard). Gave (asks_once call) hs (pos 2)) (sym g.1.1) g.1.2) where
  natural : ℤ → ℕ
  natural (pos n) = n
  natural x = 0

  other : Gave (asks_once call) ((call, Value (pos 1)) ∷ []) (pos 2) → ⊥
  other h = let same : 2 ≡ 1 = ap natural h.1.0 in omega (arith, same)

-- where two tries may be made, one does not tell that others were in the way
pub busy_after_one_try : {E A : Type 0} (m : Meaning) (v w : View) (left : ℕ) (shapes : List Shape) (most : ℕ) (p : Prog E A) (told : ℕ) (last : AbortCause) → w.starts ≡ v.starts + 1
    → HasLed m v w 2 left shapes most p (Err (Busy told last)) → ⊥
busy_after_one_try m v w left shapes most p told last one h = let all = h.1.aborted.starts in omega (arith, one, all)
