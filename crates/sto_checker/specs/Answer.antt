-- What is said of a report.
use Rattle.std.specs.Prelude.{◌≡◌, ℕ, suc, ◌<◌, ◌⊎◌, List, length, take, true, Some, slice_get}
use Rattle.std.specs.List.{list_any}
use Rattle.sto_lang.specs.Scripts.{File}
use Rattle.sto_checker.specs.Lines.{lines_of, is_state_line, beyond_state}
use Rattle.sto_checker.specs.Right.{behind, IsRightAfter}
use Rattle.sto_checker.specs.declared.found.Found.{Found}
use Rattle.sto_checker.specs.declared.found.Found.TheVariants.{Lawful, Not}

-- the line at a place, from 0, is right after those before it
pub record IsRightAt (file : File) (tries : ℕ) (lines : List (List ℕ)) (place : ℕ) : Type 0 where
  pub line : List ℕ
  pub stands : slice_get lines place ≡ Some line
  pub right : IsRightAfter file tries (take place lines) line

-- each of the first so many lines is right
abbrev pub AreRight : File → ℕ → List (List ℕ) → ℕ → Type 0
AreRight file tries lines count = (place : ℕ) → place < count → IsRightAt file tries lines place

-- no line is missing: the line `state` has come, and a line for each declared object
pub record IsWhole (file : File) (lines : List (List ℕ)) : Type 0 where
  pub state : list_any is_state_line (behind file lines) ≡ true
  pub objects : length (beyond_state (behind file lines)) ≡ length file.declarations

-- at this place there is a line that is not right, or the report ends and a line is missing
abbrev pub GoesWrong : File → ℕ → List (List ℕ) → ℕ → Type 0
GoesWrong file tries lines place =
    ((place < length lines) × (IsRightAt file tries lines place → ⊥)) ⊎ ((place ≡ length lines) × (IsWhole file lines → ⊥))

-- every line is right and none is missing; or the lines before that one are right, and with it the report goes wrong
abbrev pub IsAnswer : File → ℕ → List (List ℕ) → Found → Type 0
IsAnswer file tries lines Lawful = AreRight file tries lines (length lines) × IsWhole file lines
IsAnswer file tries lines (Not number) = (place : ℕ) × (number ≡ suc place) × AreRight file tries lines place × GoesWrong file tries lines place

-- the answer for the bytes of a report
abbrev pub IsFound : File → ℕ → List ℕ → Found → Type 0
IsFound file tries bytes found = IsAnswer file tries (lines_of bytes) found
