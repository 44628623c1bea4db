-- What a transaction does next, for all replies: it asks at most so many calls.
use Rattle.std.proofs.Common.{◌≡◌, ℕ, zero, suc, ◌+◌, ◌*◌, ◌≤◌, max, List, [], ◌∷◌, length, refl, arith, Bool, true, false, cond, suc-mul}
use Rattle.sto_part.specs.Preds.{compares}
use Rattle.sto_model.specs.PlainReplies.{PlainReply}
use Rattle.sto_model.specs.SequentialObjects.{SequentialObject}
use Rattle.sto_model.specs.Run.{Behaviour, State, IsAsk, IsRun, IsReplyTo, stepped}
use Rattle.sto_model.specs.declared.body.Next.{Next}
use Rattle.sto_model.specs.declared.body.Next.TheVariants.{Ask as Asking, Commit, Cancel as Cancelling}
use Rattle.sto_lang.specs.Statements.{Statements, Nothing, Ask, Sum, Diff, Choose, Repeat, Cancel}
use Rattle.sto_lang.specs.Scripts.{Script}
use Rattle.sto_lang.specs.Sizes.{calls_of}
use Rattle.sto_script.specs.Meaning.{Values, Doing, value_of, times_over, doing, committing, meaning_of}

-- each reply answers a call that is asked where it is heard
abbrev AreHeard : Behaviour → List PlainReply → Type 0
AreHeard f [] = Unit {0}
AreHeard f (r ∷ rs) = IsAsk (f []) × AreHeard (λ xs. f (r ∷ xs)) rs

is_asked : (ms : List SequentialObject) (n : Next) (st : State) (r : PlainReply) → IsReplyTo ms n st r → IsAsk n
is_asked ms (Asking call) st r h = tt
is_asked ms Commit st r h = absurd h
is_asked ms Cancelling st r h = absurd h

run_heard : (ms : List SequentialObject) (f : Behaviour) (st : State) (rs : List PlainReply) → IsRun ms f st rs → AreHeard f rs
run_heard ms f st [] h = tt
run_heard ms f st (r ∷ rs) h = (is_asked ms (f []) st r h.0, run_heard ms (λ xs. f (r ∷ xs)) (stepped ms (f []) st) rs h.1)

-- a choice by a truth value, with what both ways have
heard_choice : (b : Bool) (f g : Behaviour) (rs : List PlainReply) → AreHeard (λ xs. cond b (f xs) (g xs)) rs → (n : ℕ) → (AreHeard f rs → length rs ≤ n) → (AreHeard g rs → length rs ≤ n) → length rs ≤ n
heard_choice true f g rs h n k l = k h
heard_choice false f g rs h n k l = l h

-- what is done asks at most n calls
abbrev AsksAtMost : Doing → ℕ → Type 0
AsksAtMost d n = (values : Values) (rs : List PlainReply) → AreHeard (λ xs. d values xs) rs → length rs ≤ n

most_weaker : (d : Doing) (n k : ℕ) → n ≤ k → AsksAtMost d n → AsksAtMost d k
most_weaker d n k l h values rs heard = let here = h values rs heard in omega arith

few_times : (body : Doing → Doing) (n : ℕ) → ((others : Doing) (k : ℕ) → AsksAtMost others k → AsksAtMost (body others) (n + k))
    → (times : ℕ) (others : Doing) (k : ℕ) → AsksAtMost others k → AsksAtMost (times_over times body others) (times * n + k)
few_times body n f zero others k h = most_weaker others k (0 * n + k) (omega arith) h
few_times body n f (suc times) others k h =
    let once = f (times_over times body others) (times * n + k) (few_times body n f times others k h) in
    most_weaker (body (times_over times body others)) (n + (times * n + k)) (suc times * n + k) (let e = suc-mul times n in omega arith) once

few_calls : (s : Statements) (others : Doing) (n : ℕ) → AsksAtMost others n → AsksAtMost (doing s others) (calls_of s + n)
few_calls Nothing others n h values rs heard = let here = h values rs heard in omega arith
few_calls (Ask to object code a b rest) others n h values [] heard = omega arith
few_calls (Ask to object code a b rest) others n h values (r ∷ rs) heard =
    let here = few_calls rest others n h _ rs heard.1 in omega arith
few_calls (Sum to a b rest) others n h values rs heard = few_calls rest others n h _ rs heard
few_calls (Diff to a b rest) others n h values rs heard = few_calls rest others n h _ rs heard
few_calls (Choose a test b first second rest) others n h values rs heard =
    let after = few_calls rest others n h in
    heard_choice (compares test (value_of values a) (value_of values b)) (λ xs. doing first (doing rest others) values xs) (λ xs. doing second (doing rest others) values xs) rs heard
    (max (calls_of first) (calls_of second) + calls_of rest + n)
    (λ k. let here = few_calls first (doing rest others) (calls_of rest + n) after values rs k in omega arith)
    (λ k. let here = few_calls second (doing rest others) (calls_of rest + n) after values rs k in omega arith)
few_calls (Repeat times body rest) others n h values rs heard =
    let here = few_times (doing body) (calls_of body) (few_calls body) times (doing rest others) (calls_of rest + n) (few_calls rest others n h) values rs heard in
    omega arith
few_calls (Cancel rest) others n h values [] heard = omega arith
few_calls (Cancel rest) others n h values (r ∷ rs) heard = absurd heard.0

few_at_end : AsksAtMost committing 0
few_at_end values [] heard = omega arith
few_at_end values (r ∷ rs) heard = absurd heard.0

-- a run of a transaction has at most as many replies as the statements may ask calls
pub few_replies : (ms : List SequentialObject) (s : Script) (st : State) (rs : List PlainReply) → IsRun ms (meaning_of s) st rs → length rs ≤ calls_of s.body
few_replies ms s st rs run =
    let here = few_calls s.body committing 0 few_at_end _ rs (run_heard ms (meaning_of s) st rs run) in omega arith
