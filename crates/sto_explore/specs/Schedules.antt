-- Schedules, turn by turn: which thread may have the next turn, where at most so many switches are made.
use Rattle.std.specs.Prelude.{◌-◌, ◌&&◌, ◌||◌, ℕ, List, [], ◌∷◌, Option, None, Some, Bool, true, false, not, nat_eq, nat_lt, if◌then◌else◌}
use Rattle.std.specs.List.{filter, list_any}

-- a turn of a thread, and whether the thread was over after it
pub record Turn : Type 0 where
  pub thread : ℕ
  pub over : Bool

-- what a turn may follow: so many more switches may be made; the thread of the last turn, where it can go on; and all that can
pub record Place : Type 0 where
  pub left : ℕ
  pub last : Option ℕ
  pub going : List ℕ

-- a turn of this thread leaves one that could go on
abbrev pub is_switch : Option ℕ → ℕ → Bool
is_switch None thread = false
is_switch (Some last) thread = not (nat_eq last thread)

-- whether a thread may have the next turn: it can go on, and it had the last turn, or that thread is over, or a switch is left
abbrev pub may : Place → ℕ → Bool
may p thread = list_any (nat_eq thread) p.going && (not (is_switch p.last thread) || nat_lt 0 p.left)

-- the threads without one
abbrev pub without : ℕ → List ℕ → List ℕ
without thread threads = filter (λ other. not (nat_eq other thread)) threads

-- the place after a turn
abbrev pub after : Place → Turn → Place
after p turn = record {
  left = if is_switch p.last turn.thread then p.left - 1 else p.left;
  last = if turn.over then None else Some turn.thread;
  going = if turn.over then without turn.thread p.going else p.going;
}

-- whether each of these turns may be had, one after the other
abbrev pub is_within : Place → List Turn → Bool
is_within p [] = true
is_within p (turn ∷ turns) = may p turn.thread && is_within (after p turn) turns

-- whether a run with these turns follows a schedule: each turn of the schedule is that of the run, up to one that may not be had
abbrev pub follows : Place → List Turn → List ℕ → Bool
follows p turns [] = true
follows p [] (thread ∷ schedule) = not (may p thread)
follows p (turn ∷ turns) (thread ∷ schedule) = if nat_eq thread turn.thread then follows (after p turn) turns schedule else not (may p thread)
