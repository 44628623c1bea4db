-- How many events a commit has left at most.
use Rattle.std.specs.Prelude.{ℕ, ◌+◌, ◌-◌, List, [], ◌∷◌, length, drop, slice_index_or}
use Rattle.sto_attempt_log.specs.declared.commit_phase.CommitPhase.{CommitPhase}
use Rattle.sto_attempt_log.specs.declared.commit_phase.CommitPhase.TheVariants as S
use Rattle.sto_attempt_log.specs.CommitPhases.{Deal}

-- the events to load parts: each word, and the begin and the end of a test
abbrev pub loading : List ℕ → List ℕ → ℕ
loading widths [] = 0
loading widths (p ∷ ps) = slice_index_or widths p 0 + 2 + loading widths ps

-- the events from the decision on: itself, the puts and the releases
abbrev pub deciding : Deal → ℕ
deciding d = 1 + length d.places + length d.us

-- the events from the draw on: itself, the checks, and the others
abbrev pub drawing : Deal → ℕ
drawing d = 1 + length d.checks + deciding d

-- the events left at a phase
abbrev pub commit_left : Deal → CommitPhase → ℕ
commit_left d (S.Locking n) = (length d.us - n) + loading d.m.widths d.tasks + drawing d
commit_left d (S.Loading n i) = (loading d.m.widths (drop n d.tasks) - i) + drawing d
commit_left d (S.Testing n) = loading d.m.widths (drop n d.tasks) + drawing d
commit_left d (S.Tested n i t) = (loading d.m.widths (drop n d.tasks) - (1 + i)) + drawing d
commit_left d S.Drawing = drawing d
commit_left d (S.Checking n t) = (length d.checks - n) + deciding d
commit_left d (S.Deciding t) = deciding d
commit_left d (S.Putting n t) = (length d.places - n) + length d.us
commit_left d (S.Releasing k t) = length d.us - k
commit_left d (S.Dropping t verdict) = 1 + length d.us
commit_left d (S.Leaving k n verdict) = n - k
commit_left d S.Over = 0
