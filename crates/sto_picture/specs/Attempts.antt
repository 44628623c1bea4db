-- What is drawn of attempts: signs, bars, and how they ended.
use Rattle.std.specs.Prelude.{ℕ, ◌+◌, ◌-◌, List, [], ◌++◌, Option, None, Some, codes, decimal}
use Rattle.sto_attempt_log.specs.declared.verdict.Verdict.{Verdict}
use Rattle.sto_attempt_log.specs.declared.verdict.Verdict.TheVariants.{Wrote, Read, Cancelled, Locked, Changed}
use Rattle.sto_trace.specs.declared.Step.{Step}
use Rattle.sto_picture.specs.Views.{Scene, Frame, text_at}
use Rattle.sto_picture.specs.Elements.{box_text, words_text}
use Rattle.sto_picture.specs.Told.{sign, start_of, commit_of}
use Rattle.sto_picture.specs.Places.{left, right, middle, bar_top, words_line}

-- a bar in the lane of a thread, from one step to another
abbrev pub bar_text : Frame → List ℕ → ℕ → ℕ → ℕ → List ℕ
bar_text frame role thread from n = box_text role (left frame from) (bar_top thread) (right frame n - left frame from) 20

-- the half in which the attempt commits
abbrev pub commit_bar : Frame → ℕ → Option ℕ → ℕ → List ℕ
commit_bar frame thread None n = []
commit_bar frame thread (Some from) n = bar_text frame (codes "committing") thread from n

-- an aborted attempt is hatched
abbrev pub hatch_bar : Frame → ℕ → Verdict → ℕ → ℕ → List ℕ
hatch_bar frame thread (Wrote ticket) from n = []
hatch_bar frame thread (Read at) from n = []
hatch_bar frame thread (Cancelled at) from n = []
hatch_bar frame thread (Locked at part) from n = bar_text frame (codes "aborted") thread from n
hatch_bar frame thread (Changed at part ticket) from n = bar_text frame (codes "aborted") thread from n

-- the bar of the attempt that ended with step n
abbrev pub attempt_bar : Frame → List Step → ℕ → ℕ → Option Verdict → List ℕ
attempt_bar frame steps n thread None = []
attempt_bar frame steps n thread (Some end) =
    let from = start_of steps thread n in
    bar_text frame (codes "reading") thread from n ++ (commit_bar frame thread (commit_of steps thread n) n ++ hatch_bar frame thread end from n)

-- how an attempt ended, in a word
abbrev pub end_word : Verdict → List ℕ
end_word (Wrote ticket) = codes "commit"
end_word (Read at) = codes "read"
end_word (Cancelled at) = codes "cancel"
end_word (Locked at part) = codes "locked"
end_word (Changed at part ticket) = codes "changed"

-- its ticket, the number of the clock as of which it read, or the part that was locked or changed
abbrev pub end_cause : List (List ℕ) → Verdict → List ℕ
end_cause parts (Wrote ticket) = codes "ticket " ++ decimal ticket
end_cause parts (Read at) = codes "as of " ++ decimal at
end_cause parts (Cancelled at) = codes "as of " ++ decimal at
end_cause parts (Locked at part) = text_at parts part
end_cause parts (Changed at part ticket) = text_at parts part

-- by which ticket the part was changed
abbrev pub end_writer : ℕ → ℕ → Verdict → List ℕ
end_writer x y (Wrote ticket) = []
end_writer x y (Read at) = []
end_writer x y (Cancelled at) = []
end_writer x y (Locked at part) = []
end_writer x y (Changed at part ticket) = words_text (codes "end") x y (codes "by ticket " ++ decimal ticket)

-- right below its bar: the position of the transaction and how it ended
abbrev pub end_words : Scene → Frame → ℕ → Step → Option Verdict → List ℕ
end_words scene frame n step None = []
end_words scene frame n step (Some end) =
    let x = right frame n + 3 in
    words_text (codes "end") x (words_line step.thread 0) (decimal step.position ++ (codes ": " ++ end_word end))
    ++ (words_text (codes "end") x (words_line step.thread 1) (end_cause scene.parts end) ++ end_writer x (words_line step.thread 2) end)

-- the sign of step n in the bar
abbrev pub sign_text : Frame → ℕ → Step → List ℕ
sign_text frame n step = words_text (codes "sign") (middle frame n) (bar_top step.thread + 14) (sign step.deed)
