-- The arrow to an attempt that was aborted since a part was changed: from the release of that part with the ticket that the attempt tells, to
-- the step at which the attempt found this ticket there.
use Rattle.std.specs.Prelude.{◌≡◌, ◌<◌, ◌≤◌, ℕ, ◌+◌, List, length, ◌==◌, ◌&&◌, Bool, true, false, Option, None, Some, IfSome, nat_le, if◌then◌else◌, slice_get}
use Rattle.std.specs.Option.{option_map, option_map_or, option_and_then}
use Rattle.sto_version.specs.Versions.{ticket_of}
use Rattle.sto_trace.specs.declared.Deed.{Deed}
use Rattle.sto_trace.specs.declared.Deed.TheVariants.{Start, Renew, Open, Word, Close, Recheck, Lock, Test, Draw, Check, Decide, Put, Release, Unlock}
use Rattle.sto_trace.specs.declared.Step.{Step}
use Rattle.sto_picture.specs.Told.{last_before, releases, start_of}

-- it looked at the version of this part, and found this ticket
abbrev pub finds : ℕ → ℕ → Deed → Bool
finds part ticket (Open other version) = (other == part) && (ticket_of version.0 == ticket)
finds part ticket (Close other version) = (other == part) && (ticket_of version.0 == ticket)
finds part ticket (Recheck other version) = (other == part) && (ticket_of version.0 == ticket)
finds part ticket (Lock other version) = (other == part) && (ticket_of version.0 == ticket)
finds part ticket (Test other version) = (other == part) && (ticket_of version.0 == ticket)
finds part ticket (Check other version) = (other == part) && (ticket_of version.0 == ticket)
finds part ticket deed = false

-- it drew a ticket
abbrev pub draws : Deed → Bool
draws (Draw ticket) = true
draws deed = false

-- it drew this ticket
abbrev pub draws_this : ℕ → Deed → Bool
draws_this ticket (Draw other) = other == ticket
draws_this ticket deed = false

-- a thread found a ticket at a part with a step
abbrev pub finds_of : ℕ → ℕ → ℕ → Step → Bool
finds_of thread part ticket s = (s.thread == thread) && finds part ticket s.deed

-- a thread drew a ticket with a step
abbrev pub draws_of : ℕ → Step → Bool
draws_of thread s = (s.thread == thread) && draws s.deed

-- where the attempt that a thread ends with step n found this ticket at a part last
abbrev pub found_at : List Step → ℕ → ℕ → ℕ → ℕ → Option ℕ
found_at steps thread part ticket n =
    option_and_then (λ found. if nat_le (start_of steps thread n) found then Some found else None) (last_before (finds_of thread part ticket) steps (n + 1))

-- the ticket that a thread drew last before step n is this one
abbrev pub has_drawn : List Step → ℕ → ℕ → ℕ → Bool
has_drawn steps thread ticket n =
    option_map_or (λ drawn. option_map_or (λ s. draws_this ticket s.deed) (slice_get steps drawn) false) (last_before (draws_of thread) steps n) false

-- the thread of step n had drawn this ticket last
abbrev pub is_with_ticket : List Step → ℕ → ℕ → Bool
is_with_ticket steps ticket n = option_map_or (λ s. has_drawn steps s.thread ticket n) (slice_get steps n) false

-- the last release of a part before step n, where it was made with this ticket
abbrev pub released_at : List Step → ℕ → ℕ → ℕ → Option ℕ
released_at steps part ticket n =
    option_and_then (λ from. if is_with_ticket steps ticket from then Some from else None) (last_before (releases part) steps n)

-- both ends of the arrow to the attempt that a thread ended with step n
abbrev pub ends_of : List Step → ℕ → ℕ → ℕ → ℕ → Option (ℕ × ℕ)
ends_of steps thread part ticket n =
    option_and_then (λ found. option_map (λ from. (from, found)) (released_at steps part ticket found)) (found_at steps thread part ticket n)

-- What both ends of an arrow are.

-- these are a release of the part by the thread that had drawn the ticket last, and later, in the attempt that a thread ended with step n, an
-- event that looked at the version of the part and found the ticket there
pub record IsArrow (steps : List Step) (thread part ticket n from found : ℕ) : Type 0 where
  pub release : Step
  pub draw : Step
  pub look : Step
  pub drawn : ℕ
  pub at_release : slice_get steps from ≡ Some release
  pub at_draw : slice_get steps drawn ≡ Some draw
  pub at_look : slice_get steps found ≡ Some look
  pub released : release.deed ≡ Release part
  pub drew : draw.deed ≡ Draw ticket
  pub writer : draw.thread ≡ release.thread
  pub last : (k : ℕ) → drawn < k → k < from → option_map_or (draws_of release.thread) (slice_get steps k) false ≡ false
  pub reader : look.thread ≡ thread
  pub sees : finds part ticket look.deed ≡ true
  pub in_order : (drawn < from) × (from < found) × (start_of steps thread n ≤ found) × (found ≤ n)

-- each arrow of these steps, from the first of its ends to the second, is one
abbrev pub AreArrows : List Step → Type 0
AreArrows steps = (thread part ticket n : ℕ) → n < length steps → IfSome (ends_of steps thread part ticket n) (λ ends. IsArrow steps thread part ticket n ends.0 ends.1)
