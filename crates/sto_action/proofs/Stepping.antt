-- What code does next, by what a run over the answers says.
use Rattle.std.proofs.Common.{◌≡◌, ◌≤◌, ◌<◌, ◌⊎◌, Bool, true, false, nat_lt, if◌then◌else◌, ◌∙◌, Result, Ok, Err, inl, inr, ℕ, zero, suc, List, [], ◌∷◌, length, refl, sym, ap, arith}
use Rattle.std.proofs.Common.{true≢false}
use Rattle.std.proofs.lemmas.Bool.{cases_lt, ltb-true, lt-ltb}
use Rattle.sto_model.specs.declared.call.Call.{Call}
use Rattle.sto_model.specs.declared.body.Next.TheVariants.{Ask, Commit, Cancel}
use Rattle.sto_model.specs.Run.{IsAsk}
use Rattle.sto_model.specs.declared.shape.Shape.{Shape}
use Rattle.sto_action.specs.declared.short_reply.ShortReply.{ShortReply}
use Rattle.sto_action.specs.declared.tx.Stop.{Stop}
use Rattle.sto_action.specs.declared.tx.Stop.TheVariants as stops
use Rattle.sto_action.specs.Progs.{is_taken, Prog, Asks, Gives, Cancels, next_within, next_by, Runs, IsGiven, IsAsked, IsCancelled}

pub given_next : {E A : Type 0} (ss : List Shape) (n : ℕ) (p : Prog E A) (hs : List ShortReply) (a : A) → length hs ≤ n → IsGiven p hs a → next_within ss n p hs ≡ Commit
given_next ss n (Gives b) hs a few g = refl
given_next ss n (Cancels e) hs a few g = absurd g
given_next ss n (Asks c k) [] a few g = absurd g
given_next ss zero (Asks c k) (h ∷ hs) a few g = absurd (omega (arith, few))
given_next ss (suc n) (Asks c k) (h ∷ hs) a few g = given_next ss n (k h) hs a (omega (arith, few)) g

pub cancelled_next : {E A : Type 0} (ss : List Shape) (n : ℕ) (p : Prog E A) (hs : List ShortReply) (e : E) → length hs ≤ n → IsCancelled p hs e → next_within ss n p hs ≡ Cancel
cancelled_next ss n (Gives b) hs e few g = absurd g
cancelled_next ss n (Cancels r) hs e few g = refl
cancelled_next ss n (Asks c k) [] e few g = absurd g
cancelled_next ss zero (Asks c k) (h ∷ hs) e few g = absurd (omega (arith, few))
cancelled_next ss (suc n) (Asks c k) (h ∷ hs) e few g = cancelled_next ss n (k h) hs e (omega (arith, few)) g

pub asked_next : {E A : Type 0} (ss : List Shape) (n : ℕ) (p : Prog E A) (hs : List ShortReply) (c : Call) → length hs < n → IsAsked p hs c → next_within ss n p hs ≡ (if is_taken ss c then Ask c else Cancel)
asked_next ss n (Gives b) hs c few g = absurd g
asked_next ss n (Cancels e) hs c few g = absurd g
asked_next ss zero (Asks b k) hs c few g = absurd (omega (arith, few))
asked_next ss (suc n) (Asks b k) [] c few g = ap (λ (x : Call). if is_taken ss x then Ask x else Cancel) (sym g)
asked_next ss (suc n) (Asks b k) (h ∷ hs) c few g = asked_next ss n (k h) hs c (omega (arith, few)) g

pub full_next : {E A : Type 0} (ss : List Shape) (n : ℕ) (p : Prog E A) (hs : List ShortReply) (c : Call) → length hs ≡ n → IsAsked p hs c → next_within ss n p hs ≡ Cancel
full_next ss n (Gives b) hs c few g = absurd g
full_next ss n (Cancels e) hs c few g = absurd g
full_next ss zero (Asks b k) hs c few g = refl
full_next ss (suc n) (Asks b k) [] c few g = absurd (omega (arith, few))
full_next ss (suc n) (Asks b k) (h ∷ hs) c few g = full_next ss n (k h) hs c (omega (arith, few)) g

-- what asks has heard fewer than it may
pub asks_few : {E A : Type 0} (ss : List Shape) (n : ℕ) (p : Prog E A) (hs : List ShortReply) → IsAsk (next_within ss n p hs) → length hs < n
asks_few ss n (Gives b) hs g = absurd g
asks_few ss n (Cancels e) hs g = absurd g
asks_few ss zero (Asks b k) hs g = absurd g
asks_few ss (suc n) (Asks b k) [] g = omega arith
asks_few ss (suc n) (Asks b k) (h ∷ hs) g = omega (arith, asks_few ss n (k h) hs g)

-- what is done next is what a run answered
pub runs_next : {E A : Type 0} (ss : List Shape) (n : ℕ) (p : Prog E A) (hs : List ShortReply) (room : Bool) (r : Result A (Stop E)) → length hs ≤ n → (room ≡ true → length hs < n) → (room ≡ false → n ≤ length hs) → Runs p hs r → next_within ss n p hs ≡ next_by ss room r
runs_next ss n p hs room (Ok a) few some none g = given_next ss n p hs a few g
runs_next ss n p hs true (Err (stops.Asks c)) few some none g = asked_next ss n p hs c (some refl) g
runs_next ss n p hs false (Err (stops.Asks c)) few some none g = full_next ss n p hs c (let k = none refl in omega (arith, k, few)) g
runs_next ss n p hs room (Err (stops.Cancels e)) few some none g = cancelled_next ss n p hs e few g

at_least : (m n : ℕ) → (m < n) ⊎ (n ≤ m) → nat_lt m n ≡ false → n ≤ m
at_least m n (inl h) e = absurd (true≢false (sym (lt-ltb m n h) ∙ e))
at_least m n (inr h) e = h

-- the same where the room is found by the number of what was heard
pub ran_next : {E A : Type 0} (ss : List Shape) (n : ℕ) (p : Prog E A) (hs : List ShortReply) (m : ℕ) (r : Result A (Stop E)) → length hs ≤ n → m ≡ length hs → Runs p hs r → next_within ss n p hs ≡ next_by ss (nat_lt m n) r
ran_next ss n p hs m r few same g =
    runs_next ss n p hs (nat_lt m n) r few (λ e. let k = ltb-true m n e in omega (arith, k, same)) (λ e. let k = at_least m n (cases_lt m n) e in omega (arith, k, same)) g
