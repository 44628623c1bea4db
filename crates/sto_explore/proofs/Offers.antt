-- The offers of a loop, one turn or one leg further.
use Rattle.std.proofs.Common.{◌≡◌, ◌≤◌, ◌+◌, ◌-◌, ℕ, zero, suc, List, [], ◌∷◌, ◌++◌, drop, length, get_or, sym, ap, ◌∙◌, arith, append_assoc}
use Rattle.std.proofs.lemmas.List.{drop_more}
use Rattle.sto_explore.specs.Branches.{Offer, offers_to, offers_within, part_of, switches_in, offered}
use Rattle.sto_explore.specs.declared.leg.Leg.{Leg}

-- one turn more
pub within_more : (legs decided : List Leg) (left : ℕ) (others : List ℕ) (thread turns : ℕ) (first was now : List Offer)
    → 1 ≤ turns → decided ≡ legs ++ part_of thread turns ∷ []
    → was ≡ first ++ offers_within legs left others thread (turns - 1) → now ≡ was ++ offers_to decided left others
    → now ≡ first ++ offers_within legs left others thread (turns + 1 - 1)
within_more legs decided left others thread zero first was now some legs_are before added = absurd (omega (arith, some))
within_more legs decided left others thread (suc n) first was now some legs_are before added =
    let there : suc n - 1 ≡ n = omega arith in
    let next : suc n + 1 - 1 ≡ suc n = omega arith in
    added ∙ ap (λ (ls : List Leg). was ++ offers_to ls left others) legs_are
    ∙ ap (λ (os : List Offer). os ++ offers_to (legs ++ part_of thread (suc n) ∷ []) left others) (before ∙ ap (λ (k : ℕ). first ++ offers_within legs left others thread k) there)
    ∙ append_assoc first (offers_within legs left others thread n) (offers_to (legs ++ part_of thread (suc n) ∷ []) left others)
    ∙ ap (λ (k : ℕ). first ++ offers_within legs left others thread k) (sym next)

-- where a switch is left
pub within_all : (legs : List Leg) (left : ℕ) (others : List ℕ) (leg : Leg) (turns : ℕ) → 1 ≤ left → turns ≡ leg.turns - 1
    → offers_within legs (left - 1) others leg.thread turns ≡ switches_in legs left others leg
within_all legs zero others leg turns some same = absurd (omega (arith, some))
within_all legs (suc more) others leg turns some same =
    let there : suc more - 1 ≡ more = omega arith in
    (λ i. offers_within legs (there i) others leg.thread (same i))

-- one leg more: the leg at a place, with the switches in it and the others after it
pub legs_more : (legs all further : List Leg) (left place : ℕ) (order : List ℕ) (leg : Leg) (first was mid now : List Offer) (t : ℕ)
    → place + 1 ≤ length order → length order ≡ length further → leg ≡ get_or further place leg
    → all ≡ legs ++ leg ∷ []
    → mid ≡ was ++ switches_in legs left (drop (place + 1) order) leg → now ≡ mid ++ offers_to all left (drop 1 (drop (place + 1) order))
    → was ++ offered legs left (drop place order) (drop place further) ≡ first
    → now ++ offered all left (drop (place + 1) order) (drop (place + 1) further) ≡ first
legs_more legs all further left place order leg first was mid now t inside many here legs_are a b before =
    let others = drop (place + 1) order in
    let rest = drop (place + 1) further in
    let threads : drop place order ≡ get_or order place t ∷ others = drop_more order place t (omega (arith, inside)) in
    let ls : drop place further ≡ leg ∷ rest = drop_more further place leg (omega (arith, inside, many)) ∙ ap (λ (x : Leg). x ∷ rest) (sym here) in
    let s = switches_in legs left others leg in
    let o = offers_to (legs ++ leg ∷ []) left (drop 1 others) in
    let r = offered (legs ++ leg ∷ []) left others rest in
    (λ i. (b ∙ ap (λ (os : List Offer). os ++ offers_to all left (drop 1 others)) a) i ++ offered all left others rest)
    ∙ (λ i. ((was ++ s) ++ offers_to (legs_are i) left (drop 1 others)) ++ offered (legs_are i) left others rest)
    ∙ ap (λ (os : List Offer). os ++ r) (append_assoc was s o)
    ∙ append_assoc was (s ++ o) r ∙ ap (λ (os : List Offer). was ++ os) (append_assoc s o r)
    ∙ (λ i. was ++ offered legs left (sym threads i) (sym ls i)) ∙ before
