-- The entries of a schedule are those of threads of the file.
use Rattle.std.specs.List.{list_all}
use Rattle.std.specs.Prelude.{All}
use Rattle.std.proofs.Common.{◌≡◌, ◌<◌, ◌+◌, ℕ, List, [], ◌∷◌, length, map, get_or, refl, sym, ap, ◌∙◌, subst, Bool, true, false, not, ◌&&◌, cond, nat_lt, Option, None, Some, Result, Ok, Err, arith}
use Rattle.std.proofs.lemmas.Bool.Decides.{nat_tests}
use Rattle.std.proofs.lemmas.List.Elements.{All-map}
use Rattle.std.proofs.lemmas.List.Sums.{AllPass-from_list_all}
use Rattle.sto_syntax.specs.Forms.{ThreadWord, Numbered, Named, ScheduleEntry, all_of, entry_of}
use Rattle.sto_syntax.specs.Lines.{words_of}
use Rattle.sto_syntax.specs.Numbers.{is_good_entry}
use Rattle.sto_lang.specs.declared.fault.FaultKind.{FaultKind}
use Rattle.sto_lang.specs.declared.fault.FaultKind.TheVariants.{BadLine, BadNumber, UnknownName, OutOfLimits}
use Rattle.sto_lang.specs.declared.file.Turns.{Turns}
use Rattle.sto_lang.specs.Drafts.{thread_number, turns_of}
use Rattle.sto_lang.specs.Limits.{has_range, has_thread, is_in_range, is_turn}
use Rattle.sto_lang.specs.Scripts.{File}
use Rattle.sto_lang.specs.Shapes.{in_range}
use Rattle.sto_lang.specs.Sound.{IsSound, IsTurnOf}
use Rattle.sto_lang.specs.Uses.{is_known_thread}
use Rattle.sto_lang.proofs.SoundLines.{natural_in_range}
use Rattle.sto_lang.proofs.SoundPlaces.{both, place_within}
use Rattle.sto_schedule.specs.Schedules.{entries_in, schedule_from, schedule_of}

thread_is : (names : List (List ℕ)) (threads : ℕ) (word : ThreadWord) → length names ≡ threads → has_thread threads word ≡ true → is_known_thread names word ≡ true → thread_number names word < threads
thread_is names threads (Numbered value) e h k = grind (arith, nat_tests)
thread_is names threads (Named name) e h k = omega (arith, place_within names name k, e)

turn_is : (names : List (List ℕ)) (threads : ℕ) → length names ≡ threads → (entry : ScheduleEntry) → (is_known_thread names entry.thread ≡ true) × (is_turn threads entry ≡ true) → IsTurnOf threads (turns_of names entry)
turn_is names threads e entry h =
    let parts = both (is_in_range entry) (has_thread threads entry.thread) h.1 in
    let ranges = both (has_range entry.thread) (in_range 1 1000000 entry.steps) parts.0 in
    record { has_thread = thread_is names threads entry.thread e parts.1 h.0; has_steps = natural_in_range 1 1000000 entry.steps ranges.1 }

-- where there is a schedule, no kind of fault applies
taken : (numbers known within : Bool) (made turns : List Turns)
    → cond (not numbers) (Err BadNumber) (cond (not known) (Err UnknownName) (cond (not within) (Err OutOfLimits) (Ok made))) ≡ Ok turns
    → (known ≡ true) × (within ≡ true) × (made ≡ turns)
taken true true true made turns e = (refl, refl, cc)
taken true true false made turns e = absurd cc
taken true false within made turns e = absurd cc
taken false known within made turns e = absurd cc

entries_sound : (file : File) (entries : List ScheduleEntry) (turns : List Turns) → IsSound file → entries_in file entries ≡ Ok turns → All (IsTurnOf (length file.threads)) turns
entries_sound file entries turns sound is =
    let threads = length file.threads in
    let so = taken (list_all is_good_entry entries) (list_all (λ entry. is_known_thread file.names entry.thread) entries) (list_all (is_turn threads) entries) (map (turns_of file.names) entries) turns is in
    subst (All (IsTurnOf threads)) so.2
    (All-map (IsTurnOf threads) (turns_of file.names) entries (λ k e l. turn_is file.names threads sound.thread_names.each (get_or entries k e)
    (AllPass-from_list_all (λ entry. is_known_thread file.names entry.thread) entries so.0 k e l, AllPass-from_list_all (is_turn threads) entries so.1 k e l)))

from_sound : (file : File) (entries : Option (List ScheduleEntry)) (turns : List Turns) → IsSound file → schedule_from file entries ≡ Ok turns → All (IsTurnOf (length file.threads)) turns
from_sound file None turns sound is = absurd cc
from_sound file (Some []) turns sound is = absurd cc
from_sound file (Some (entry ∷ entries)) turns sound is = entries_sound file (entry ∷ entries) turns sound is

pub schedule_sound : (file : File) (text : List ℕ) (turns : List Turns) → IsSound file → schedule_of file text ≡ Ok turns → All (IsTurnOf (length file.threads)) turns
schedule_sound file text turns sound is = from_sound file (all_of (entry_of file.version) (words_of text)) turns sound is

-- a sound file with other such entries is one
pub with_sound : (file : File) (turns : List Turns) → IsSound file → All (IsTurnOf (length file.threads)) turns → IsSound (record file { schedule = Some turns })
with_sound file turns s scheduled = record {
  versioned = s.versioned;
  named = s.named;
  own_names = s.own_names;
  few_objects = s.few_objects;
  in_ranges = s.in_ranges;
  few_parts = s.few_parts;
  few_words = s.few_words;
  numbered = s.numbered;
  own_numbers = s.own_numbers;
  few_threads = s.few_threads;
  thread_names = s.thread_names;
  few_transactions = s.few_transactions;
  light = s.light;
  sound_scripts = s.sound_scripts;
  scheduled = scheduled;
}
