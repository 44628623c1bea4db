-- How many events an attempt makes at most: a number by where it stands, which each step lowers.
use Rattle.std.specs.Prelude.{◌+◌, ◌-◌, ◌*◌, ℕ, suc, ℤ, Bool, if◌then◌else◌, is_some, List, [], ◌∷◌, length, map, drop, slice_index_or}
use Rattle.sto_item.specs.Observed.{Watched}
use Rattle.sto_item.specs.Watched.{watched}
use Rattle.sto_type.specs.Known.{Known}
use Rattle.sto_attempt_log.specs.declared.read_entry.ReadEntry.{ReadEntry}
use Rattle.sto_attempt_log.specs.declared.extension.Extension.{Extension}
use Rattle.sto_attempt_log.specs.declared.read_phase.ReadPhase.{ReadPhase}
use Rattle.sto_attempt_log.specs.declared.read_phase.ReadPhase.TheVariants.{Unstarted, Opening, Reading, Renewing, Rechecking, Reopening, Rereading, Committing, Over}
use Rattle.sto_attempt_log.specs.ReadSet.{words_in}

-- the words of parts of these widths
abbrev pub words_of : List ℕ → ℕ
words_of [] = 0
words_of (w ∷ ws) = w + words_of ws

-- one round: room for the reading or the checking of all parts, and more
abbrev pub round : ℕ → ℕ → ℕ
round parts words = 3 * parts + 2 * words + 3

-- the bound for a body that may ask so many calls
abbrev pub bound : ℕ → ℕ → ℕ → ℕ
bound calls parts words = (2 * calls + 3) * round parts words

-- the events to read all parts: an open, a close and each word
abbrev pub reading : ℕ → ℕ → ℕ
reading parts words = 2 * parts + words

-- the events to read the parts that are not known, from part k on
abbrev pub unread : List ℕ → ℕ → Known → ℕ
unread [] k base = 0
unread (w ∷ ws) k base = (if is_some (base k) then 0 else w + 2) + unread ws (suc k) base

-- the events to read anew what is watched: a recheck of a part that was seen, a new read of another
abbrev pub renewing : List ℕ → List Watched → ℕ
renewing widths [] = 0
renewing widths (w ∷ ws) = (if w.seen then 1 else slice_index_or widths w.part 0 + 2) + renewing widths ws

-- what is kept for so many calls after the running one, and for the commit
abbrev pub later : ℕ → List ℕ → ℕ
later calls widths = bound calls (length widths) (words_of widths)

-- the events left before the open of a needed part: an extension, and two readings, or the rest of one
abbrev pub left_opening : ℕ → List ℕ → Bool → Known → ℕ
left_opening calls widths extended base =
    later calls widths + (if extended then 0 else 1 + 2 * reading (length widths) (words_of widths)) + unread widths 0 base

-- the events left before a renew: itself, the observed parts read anew, and a reading
abbrev pub left_renewing : ℕ → List ℕ → ℕ
left_renewing calls widths = later calls widths + 1 + 2 * reading (length widths) (words_of widths)

-- the events left within an extension: a reading, and what of the watches was not read anew
abbrev pub left_extending : ℕ → List ℕ → List Watched → ℕ
left_extending calls widths watches = later calls widths + reading (length widths) (words_of widths) + renewing widths watches

-- the events that a commit and its giving up make at most: each written part is locked and released, each part is loaded and checked, each word loaded and put
abbrev pub left_committing : List ℕ → ℕ
left_committing widths = 2 * round (length widths) (words_of widths)

-- the events left of an attempt whose body may ask so many calls, the running one among them, by where it stands
abbrev pub events_left : ℕ → List ℕ → ReadPhase → List ℤ → Extension → List ReadEntry → ℕ
events_left calls widths Unstarted words extension base = later calls widths
events_left calls widths (Opening p) words extension base = left_opening (calls - 1) widths extension.extended (words_in base)
events_left calls widths (Reading p t) words extension base = left_opening (calls - 1) widths extension.extended (words_in base) - (1 + length words)
events_left calls widths (Renewing p t) words extension base = left_renewing (calls - 1) widths
events_left calls widths (Rechecking p) words extension base = left_extending (calls - 1) widths (drop (length extension.fresh.items) (map watched extension.watches.items))
events_left calls widths (Reopening p) words extension base = left_extending (calls - 1) widths (drop (length extension.fresh.items) (map watched extension.watches.items))
events_left calls widths (Rereading p t) words extension base =
    left_extending (calls - 1) widths (drop (length extension.fresh.items) (map watched extension.watches.items)) - (1 + length words)
events_left calls widths Committing words extension base = left_committing widths
events_left calls widths Over words extension base = 0
