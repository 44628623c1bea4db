use Rattle.std.proofs.Common.{◌≡◌, ℕ, ◌+◌, ◌-◌, ◌≤◌, List, [], ◌++◌, length, take, drop, refl, sym, ap, ◌∙◌, append_assoc, append-nil, arith, Option, None, Some}
use Rattle.std.proofs.lemmas.List.{take_at, take-append-drop, drop-drop}
use Rattle.std.proofs.lemmas.Grind.{common_steps}
use Rattle.sto_console.specs.Told.{Takes, Gains}

pub takes_nothing : (left : Option (List ℕ)) → Takes left left []
takes_nothing None = tt
takes_nothing (Some xs) = refl

pub gains_nothing : (held : Option (List ℕ)) → Gains held held []
gains_nothing None = tt
gains_nothing (Some xs) = sym (append-nil xs)

pub takes_more : (a b c : Option (List ℕ)) (xs ys : List ℕ) → Takes a b xs → Takes b c ys → Takes a c (xs ++ ys)
takes_more a b None xs ys f g = tt
takes_more a None (Some r) xs ys f g = absurd g
takes_more None (Some q) (Some r) xs ys f g = absurd f
takes_more (Some p) (Some q) (Some r) xs ys f g = f ∙ ap (λ t. xs ++ t) g ∙ sym (append_assoc xs ys r)

pub gains_more : (a b c : Option (List ℕ)) (xs ys : List ℕ) → Gains a b xs → Gains b c ys → Gains a c (xs ++ ys)
gains_more a b None xs ys f g = tt
gains_more a None (Some r) xs ys f g = absurd g
gains_more None (Some q) (Some r) xs ys f g = absurd f
gains_more (Some p) (Some q) (Some r) xs ys f g = g ∙ ap (λ t. t ++ ys) f ∙ append_assoc p xs ys

-- a piece that was copied to the front of a buffer is the front of what was left
pub copied_front : (bytes buf new : List ℕ) (at n : ℕ) → new ≡ take n (drop at bytes) → n ≤ length (drop at bytes) → drop at bytes ≡ take n (new ++ drop n buf) ++ drop (at + n) bytes
copied_front bytes buf new at n e le =
    let len : length new ≡ n = ap length e ∙ grind (arith, common_steps) in
    rw (take_at new (drop n buf) n len, e, ← drop-drop n at bytes) (sym (take-append-drop n (drop at bytes)))

-- what `&bytes[at..]` is
pub rest_is : (at : ℕ) (bytes : List ℕ) → take (length bytes - at) (drop at bytes) ≡ drop at bytes
rest_is at bytes = grind (arith, common_steps)
