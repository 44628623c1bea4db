-- What steps tell: the sign of a deed, what is locked and let go, and where an attempt begins.
use Rattle.std.specs.Prelude.{ℕ, ◌+◌, ◌-◌, List, ◌==◌, ◌&&◌, Bool, true, false, Option, None, Some, unwrap_or, if◌then◌else◌, position, reverse, take, slice_range, codes}
use Rattle.std.specs.Option.{option_map}
use Rattle.sto_version.specs.Versions.{is_free}
use Rattle.sto_trace.specs.declared.Deed.{Deed}
use Rattle.sto_trace.specs.declared.Deed.TheVariants.{Start, Renew, Open, Word, Close, Recheck, Lock, Test, Draw, Check, Decide, Put, Release, Unlock}
use Rattle.sto_trace.specs.declared.Step.{Step}

-- the sign of a deed: small where the attempt reads, capital where it commits
abbrev pub sign : Deed → List ℕ
sign (Start clock) = codes "s"
sign (Renew clock) = codes "n"
sign (Open part version) = codes "o"
sign (Word part word value) = codes "w"
sign (Close part version) = codes "c"
sign (Recheck part version) = codes "r"
sign (Lock part version) = codes "L"
sign (Test part version) = codes "T"
sign (Draw ticket) = codes "D"
sign (Check part version) = codes "C"
sign (Decide true) = codes "Y"
sign (Decide false) = codes "N"
sign (Put part word value) = codes "P"
sign (Release part) = codes "R"
sign (Unlock part) = codes "U"

-- it begins an attempt
abbrev pub starts : Deed → Bool
starts (Start clock) = true
starts deed = false

-- it tries to lock a part, with which a commit begins
abbrev pub tries_lock : Deed → Bool
tries_lock (Lock part version) = true
tries_lock deed = false

-- the part that it locked, which was free
abbrev pub locked_part : Deed → Option ℕ
locked_part (Lock part version) = if is_free version.0 then Some part else None
locked_part deed = None

-- the part whose lock it gave back, changed or not
abbrev pub freed_part : Deed → Option ℕ
freed_part (Release part) = Some part
freed_part (Unlock part) = Some part
freed_part deed = None

-- the part that it changed for all others
abbrev pub released_part : Deed → Option ℕ
released_part (Release part) = Some part
released_part deed = None

-- it is this part
abbrev pub is_part : ℕ → Option ℕ → Bool
is_part part None = false
is_part part (Some other) = other == part

-- the place of the last step that passes, of those before n
abbrev pub last_before : (Step → Bool) → List Step → ℕ → Option ℕ
last_before passes steps n = option_map (λ back. n - 1 - back) (position passes (reverse (take n steps)))

-- a step begins an attempt of a thread
abbrev pub starts_of : ℕ → Step → Bool
starts_of thread s = (s.thread == thread) && starts s.deed

-- a thread locked a part with a step
abbrev pub locks_of : ℕ → ℕ → Step → Bool
locks_of thread part s = (s.thread == thread) && is_part part (locked_part s.deed)

-- a step released a part
abbrev pub releases : ℕ → Step → Bool
releases part s = is_part part (released_part s.deed)

-- a thread begins to commit
abbrev pub commits_of : ℕ → Step → Bool
commits_of thread s = (s.thread == thread) && tries_lock s.deed

-- the step with which the attempt began that a thread makes with step n
abbrev pub start_of : List Step → ℕ → ℕ → ℕ
start_of steps thread n = unwrap_or (last_before (starts_of thread) steps (n + 1)) 0

-- the step with which that attempt began to commit, if it did
abbrev pub commit_of : List Step → ℕ → ℕ → Option ℕ
commit_of steps thread n =
    let start = start_of steps thread n in
    option_map (λ more. start + more) (position (commits_of thread) (slice_range steps start (n + 1)))
