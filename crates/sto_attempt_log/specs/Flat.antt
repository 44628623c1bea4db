-- The parts that were read, as they are kept: the words of all in one list.
use Rattle.std.specs.Prelude.{ℕ, ℤ, ◌+◌, ◌≤◌, List, length, map}
use Rattle.std.specs.List.{slice_range}
use Rattle.sto_attempt_log.specs.declared.read_entry.ReadEntry.{ReadEntry}
use Rattle.sto_attempt_log.specs.declared.read_entry.ReadHead.{ReadHead}

-- a part as it was read, with these words
abbrev pub entry_with : ℕ → ℕ → List ℤ → ReadEntry
entry_with part ticket words = record { part = part; ticket = ticket; words = record { items = words; spare = 0 } }

-- the part of a head
abbrev pub entry_of : List ℤ → ReadHead → ReadEntry
entry_of words h = entry_with h.part h.ticket (slice_range words h.start (h.start + h.width))

-- the parts of heads
abbrev pub entries_of : List ℤ → List ReadHead → List ReadEntry
entries_of words hs = map (entry_of words) hs

-- the words of a head are there
abbrev pub IsWithin : List ℤ → ReadHead → Type 0
IsWithin words h = h.start + h.width ≤ length words
