-- States that wrong programs would leave. Each contradicts the rule, whatever the history is taken to be.
--
-- The first states go on from `Examples.first_commit`: both passes have read a box with the value 0, and seat 1 has
-- committed 1 with ticket 1.
use Rattle.std.proofs.Common.{◌≡◌, pos, negsuc, [], ◌∷◌, refl, true, false, ap, ◌∙◌, arith}
use Rattle.std.specs.Int.{int_wrap}
use Rattle.sto_part.specs.declared.change.Change.TheVariants.{Put as PutValue, Add as AddValue}
use Rattle.sto_core.specs.declared.view.Entry.{Entry}
use Rattle.sto_core.specs.declared.view.Claim.{Claim}
use Rattle.sto_core.specs.History.{Contents, writes, committed_updates, last_writer, last_if, up}
use Rattle.sto_core.specs.Event.{Lock, Draw, Decide, Put, Release, Unlock}
use Rattle.sto_core.specs.Core.{Core}
use Rattle.sto_core.specs.Rule.{Holds}
use Rattle.sto_part.specs.Changes.{applied_all}
use Rattle.sto_item.specs.Pending.{changes_of}
use Rattle.sto_core.proofs.Examples.{view_at, by_seat, first_commit}
use Rattle.sto_core.proofs.Loaded.{always, decided}

-- a box with the value 0
abbrev box : Contents
box = (pos 0 ∷ []) ∷ []

-- seat 0 draws ticket 2 on what it read before
abbrev second_draw : Core
second_draw = by_seat 0 (Lock 0 ∷ Draw ((0, PutValue (pos 1) ∷ []) ∷ []) (0 ∷ []) [] ∷ []) first_commit

-- unchecked commit: the second decides for its commit all the same
abbrev unchecked : Core
unchecked = by_seat 0 (Decide true ∷ []) second_draw

no_unchecked : Holds always [] box unchecked → ⊥
no_unchecked h =
    let first = (h.1.each 1 (view_at unchecked 1) refl).entries 0 _ refl in
    let second = (h.1.each 0 (view_at unchecked 0) refl).entries 0 _ refl in
    let was = (second.looked refl 0 _ refl).ticket in
    let is = ap (λ (e : Entry). last_if (writes (committed_updates e) 0) 1 0) first.logged in
    let none : 0 ≡ 1 = was ∙ is in absurd (omega (arith, none))

-- check before draw: the check found ticket 0 before ticket 1 was committed, and is kept beyond the draw
abbrev checked_early : Core
checked_early = record second_draw { views = record (view_at second_draw 0) { checked = (0, 0) ∷ [] } ∷ view_at second_draw 1 ∷ [] }

no_checked_early : Holds always [] box checked_early → ⊥
no_checked_early h =
    let first = (h.1.each 1 (view_at checked_early 1) refl).entries 0 _ refl in
    let drawn = (h.1.each 0 (view_at checked_early 0) refl).knows in
    let was = (drawn.checked 0 (0, 0) refl).ticket in
    let is = ap (λ (e : Entry). last_if (writes (committed_updates e) 0) 1 0) first.logged in
    let none : 0 ≡ 1 = was ∙ is in absurd (omega (arith, none))

-- leaky abort: the dropped ticket stands in the version
abbrev dropped : Core
dropped = by_seat 0 (Decide false ∷ Unlock 0 ∷ []) second_draw

abbrev leaked_ticket : Core
leaked_ticket = record dropped { parts = record { ticket = 2; locked = false; words = pos 1 ∷ [] } ∷ [] }

no_leaked_ticket : Holds always [] box leaked_ticket → ⊥
no_leaked_ticket h =
    let first = (h.1.each 1 (view_at dropped 1) refl).entries 0 _ refl in
    let second = (h.1.each 0 (view_at dropped 0) refl).entries 0 _ refl in
    let was = (h.1.settled 0 _ refl refl).0 in
    let late = ap (λ (e : Entry). last_if (writes (committed_updates e) 0) 2 (last_writer box h.0.log 0 1)) second.logged in
    let is = ap (λ (e : Entry). last_if (writes (committed_updates e) 0) 1 0) first.logged in
    let none : 2 ≡ 1 = was ∙ late ∙ is in absurd (omega (arith, none))

-- leaky abort: a written word stays
abbrev leaked_word : Core
leaked_word = record dropped { parts = record { ticket = 1; locked = false; words = pos 7 ∷ [] } ∷ [] }

no_leaked_word : Holds always [] box leaked_word → ⊥
no_leaked_word h =
    let first = (h.1.each 1 (view_at dropped 1) refl).entries 0 _ refl in
    let second = (h.1.each 0 (view_at dropped 0) refl).entries 0 _ refl in
    let was = (h.1.settled 0 _ refl refl).1 in
    let late = ap (λ (e : Entry). applied_all (changes_of (committed_updates e) 0) (up box h.0.log 0 1)) second.logged in
    let is = ap (λ (e : Entry). applied_all (changes_of (committed_updates e) 0) (pos 0 ∷ [])) first.logged in
    let none : pos 7 ∷ [] ≡ pos 1 ∷ [] = was ∙ late ∙ is in cc

-- a part is left locked by nobody
abbrev left_locked : Core
left_locked = record dropped { parts = record { ticket = 1; locked = true; words = pos 1 ∷ [] } ∷ [] }

no_left_locked : Holds always [] box left_locked → ⊥
no_left_locked h = let none : 1 ≡ 0 = h.1.locks 0 _ refl in absurd (omega (arith, none))

-- one-look read, and a read from the future: a claim as of the clock 0 with later words, or with a later ticket
abbrev claiming : Claim → Core
claiming c = record first_commit { views = record (view_at first_commit 0) { claims = c ∷ [] } ∷ view_at first_commit 1 ∷ [] }

no_mixed : Holds always [] box (claiming (record { start = 1; number = 0; part = 0; ticket = 0; words = pos 1 ∷ [] })) → ⊥
no_mixed h =
    let claim = (h.1.each 0 _ refl).claims 0 _ refl in
    let none : pos 1 ∷ [] ≡ pos 0 ∷ [] = claim.stands.words in cc

no_future : Holds always [] box (claiming (record { start = 1; number = 0; part = 0; ticket = 1; words = pos 1 ∷ [] })) → ⊥
no_future h =
    let claim = (h.1.each 0 _ refl).claims 0 _ refl in
    let none : 1 ≡ 0 = claim.stands.ticket in absurd (omega (arith, none))

-- an entry that is counted twice, and one that is lost
abbrev lost : Core
lost = record first_commit { clock = 2 }

no_lost : Holds always [] box lost → ⊥
no_lost h = let none : 0 ≡ 1 = h.1.once_each 2 in absurd (omega (arith, none))

abbrev twice : Core
twice = record first_commit { views = record (view_at first_commit 0) { entries = (view_at first_commit 1).entries } ∷ view_at first_commit 1 ∷ [] }

no_twice : Holds always [] box twice → ⊥
no_twice h = let none : 2 ≡ 1 = h.1.once_each 1 in absurd (omega (arith, none))

-- stale sum: the value that was read first less 2 is installed over a later addition
abbrev counter : Contents
counter = (pos 2 ∷ []) ∷ []

abbrev stale_sum : Core
stale_sum = by_seat 0 (Put 0 0 (pos 0) ∷ Release 0 ∷ []) decided

no_stale_sum : Holds always [] counter stale_sum → ⊥
unfolding int_wrap
no_stale_sum h =
    let first = (h.1.each 1 (view_at stale_sum 1) refl).entries 0 _ refl in
    let second = (h.1.each 0 (view_at stale_sum 0) refl).entries 0 _ refl in
    let was = (h.1.settled 0 _ refl refl).1 in
    let late = ap (λ (e : Entry). applied_all (changes_of (committed_updates e) 0) (up counter h.0.log 0 1)) second.logged in
    let is = ap (λ (e : Entry). applied_all (AddValue (negsuc 1) ∷ []) (applied_all (changes_of (committed_updates e) 0) (pos 2 ∷ []))) first.logged in
    let none : pos 0 ∷ [] ≡ pos 1 ∷ [] = was ∙ late ∙ is in cc
