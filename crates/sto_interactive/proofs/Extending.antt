-- The script of calls and that of the same calls and more are alike up to as many replies as there are calls.
use Rattle.std.proofs.Common.{◌≡◌, ◌≤◌, ◌<◌, ◌+◌, ℕ, zero, suc, slice_index_or, List, [], ◌∷◌, ◌++◌, length, drop, refl, ap, sym, ◌∙◌, subst, arith}
use Rattle.sto_model.specs.PlainReplies.{PlainReply}
use Rattle.sto_model.specs.PlainReplies as Tell
use Rattle.sto_model.specs.SequentialObjects.{SequentialObject}
use Rattle.sto_model.specs.declared.call.Call.{Call}
use Rattle.sto_model.specs.declared.body.Next.{Next}
use Rattle.sto_model.specs.declared.body.Next.TheVariants.{Ask, Commit, Cancel}
use Rattle.sto_model.specs.declared.run.End.{End}
use Rattle.sto_model.specs.declared.run.End.TheVariants as E
use Rattle.sto_model.specs.Run.{State, IsReplyTo, IsRun, IsAsk, stepped}
use Rattle.sto_model.specs.Serial.{end_step}
use Rattle.sto_type.specs.Meaning.{Meaning}
use Rattle.sto_type.specs.Touching.{NextTouches}
use Rattle.sto_interactive.specs.Scripts.{script_of}
use Rattle.sto_interactive.proofs.Alike.{AreAlike, NoFurther}

zero_not : {n : ℕ} → suc n ≡ 0 → ⊥
zero_not {n} e = omega (arith, e)

suc_same : (n k : ℕ) → suc n ≡ suc k → n ≡ k
suc_same n k e = omega (arith, e)

-- an end asks nothing
pub end_asks : (end : End) → IsAsk (end_step end) → ⊥
end_asks E.Commit h = h
end_asks E.Cancel h = h

asks_no_end : (call : Call) (end : End) → Ask call ≡ end_step end → ⊥
asks_no_end call end e = end_asks end (subst IsAsk e tt)

pub more_alike : (calls more : List Call) (end other : End) (rs : List PlainReply) → length rs ≡ length calls → AreAlike (script_of calls end) (script_of (calls ++ more) other) rs
more_alike calls more end other [] e = tt
more_alike [] more end other (r ∷ rs) e = absurd (zero_not e)
more_alike (call ∷ calls) more end other (r ∷ rs) e = (refl, more_alike calls more end other rs (suc_same (length rs) (length calls) e))

-- once all of them are answered, the end comes
pub at_end : (calls : List Call) (end : End) (rs : List PlainReply) → length calls ≤ length rs → script_of calls end rs ≡ end_step end
at_end [] end rs l = refl
at_end (call ∷ calls) end [] l = absurd (omega (arith, l))
at_end (call ∷ calls) end (r ∷ rs) l = at_end calls end rs (omega (arith, l))

-- and not before
pub ends_late : (calls : List Call) (end : End) (rs : List PlainReply) → (IsAsk (script_of calls end rs) → ⊥) → length calls ≤ length rs
ends_late [] end rs h = omega arith
ends_late (call ∷ calls) end [] h = absurd (h tt)
ends_late (call ∷ calls) end (r ∷ rs) h = (let l = ends_late calls end rs h in omega (arith, l))

-- no more replies than calls
pub few_replies : (ms : List SequentialObject) (calls : List Call) (end : End) (st : State) (rs : List PlainReply) → IsRun ms (script_of calls end) st rs → length rs ≤ length calls
few_replies ms calls end st [] h = omega arith
few_replies ms [] end st (r ∷ rs) h = absurd (no_reply end h.0)
  where
    no_reply : (end : End) → IsReplyTo ms (end_step end) st r → ⊥
    no_reply E.Commit h = h
    no_reply E.Cancel h = h
few_replies ms (call ∷ calls) end st (r ∷ rs) h = (let l = few_replies ms calls end (stepped ms (Ask call) st) rs h.1 in omega (arith, l))

end_asks_none : (m : Meaning) (end : End) (n k : Next) → n ≡ end_step end → NoFurther m n k
end_asks_none m E.Commit n k e p h = absurd (subst (λ (x : Next). NextTouches m x p) e h)
end_asks_none m E.Cancel n k e p h = absurd (subst (λ (x : Next). NextTouches m x p) e h)

pub more_asked : (m : Meaning) (calls more : List Call) (end other : End) (rs : List PlainReply) → length rs ≡ length calls → NoFurther m (script_of calls end rs) (script_of (calls ++ more) other rs)
more_asked m calls more end other rs e = end_asks_none m end (script_of calls end rs) (script_of (calls ++ more) other rs) (at_end calls end rs (omega (arith, e)))

-- one more answered
hears_one : (calls : List Call) (n : ℕ) (end : End) (r : PlainReply) (rs : List PlainReply) → script_of (drop (suc n) calls) end rs ≡ script_of (drop n calls) end (r ∷ rs)
hears_one [] zero end r rs = refl
hears_one [] (suc n) end r rs = refl
hears_one (call ∷ calls) zero end r rs = refl
hears_one (call ∷ calls) (suc n) end r rs = hears_one calls n end r rs

pub hears_next : (calls : List Call) (n : ℕ) (end : End) (r : PlainReply) (rs : List PlainReply) → script_of (drop (n + 1) calls) end rs ≡ script_of (drop n calls) end (r ∷ rs)
hears_next calls n end r rs =
    let more : n + 1 ≡ suc n = omega arith in
    subst (λ (k : ℕ). script_of (drop k calls) end rs ≡ script_of (drop n calls) end (r ∷ rs)) (sym more) (hears_one calls n end r rs)

-- all answered
pub skip_heard : (calls : List Call) (end : End) (rs xs : List PlainReply) → script_of (drop (length rs) calls) end xs ≡ script_of calls end (rs ++ xs)
skip_heard calls end [] xs = refl
skip_heard [] end (r ∷ rs) xs = refl
skip_heard (call ∷ calls) end (r ∷ rs) xs = skip_heard calls end rs xs

-- which call is next
pub next_at : (calls : List Call) (n : ℕ) (end : End) (other : Call) → n < length calls → script_of (drop n calls) end [] ≡ Ask (slice_index_or calls n other)
next_at [] n end other l = absurd (omega (arith, l))
next_at (call ∷ calls) zero end other l = refl
next_at (call ∷ calls) (suc n) end other l = next_at calls n end other (omega (arith, l))

-- where nothing is asked next, all were answered
pub all_heard : (calls : List Call) (n : ℕ) (end : End) → (IsAsk (script_of (drop n calls) end []) → ⊥) → length calls ≤ n
all_heard [] n end h = omega arith
all_heard (call ∷ calls) zero end h = absurd (h tt)
all_heard (call ∷ calls) (suc n) end h = (let l = all_heard calls n end h in omega (arith, l))

-- a script tells its calls and its end
same_end : (end other : End) → end_step end ≡ end_step other → end ≡ other
same_end E.Commit E.Commit e = refl
same_end E.Commit E.Cancel e = cc
same_end E.Cancel E.Commit e = cc
same_end E.Cancel E.Cancel e = refl

asked_call : Call → Next → Call
asked_call other (Ask call) = call
asked_call other Commit = other
asked_call other Cancel = other

same_call : (call other : Call) → Ask call ≡ Ask other → call ≡ other
unfolding asked_call
same_call call other e = ap (asked_call call) e

pub record AreSame (calls others : List Call) (end other : End) : Type 0 where
  pub same_calls : calls ≡ others
  pub same_ends : end ≡ other

pub same_script : (calls others : List Call) (end other : End) → ((rs : List PlainReply) → script_of calls end rs ≡ script_of others other rs) → AreSame calls others end other
same_script [] [] end other h = record { same_calls = refl; same_ends = same_end end other (h []) }
same_script [] (call ∷ others) end other h = absurd (asks_no_end call end (sym (h [])))
same_script (call ∷ calls) [] end other h = absurd (asks_no_end call other (h []))
same_script (call ∷ calls) (first ∷ others) end other h =
    let rest = same_script calls others end other (λ rs. h (Tell.Done ∷ rs)) in
    let one : call ≡ first = same_call call first (h []) in
    record { same_calls = ap (λ (c : Call). c ∷ calls) one ∙ ap (λ (l : List Call). first ∷ l) rest.same_calls; same_ends = rest.same_ends }
