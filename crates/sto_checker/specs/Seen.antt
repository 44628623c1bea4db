-- Which of the abort lines are right, by what their attempts heard.
use Rattle.std.specs.Prelude.{◌≡◌, ◌⊎◌, ℕ, ◌+◌, ◌<◌, ◌≤◌, List, length, Option, None, Some, slice_get}
use Rattle.sto_model.specs.Run.{State}
use Rattle.sto_lang.specs.Scripts.{File}
use Rattle.sto_report_spec.specs.Orders.{TransactionPlace}
use Rattle.sto_report_spec.specs.Replay.{shown}
use Rattle.sto_checker.specs.declared.abort.GivenAbort.{GivenAbort}
use Rattle.sto_checker.specs.Given.{IsHeard}

-- a number stands in a list
abbrev pub Stands : List ℕ → ℕ → Type 0
Stands numbers number = (k : ℕ) × (slice_get numbers k ≡ Some number)

-- it stands in the list at a place
pub record StandsAt (lists : List (List ℕ)) (place number : ℕ) : Type 0 where
  pub numbers : List ℕ
  pub at : slice_get lists place ≡ Some numbers
  pub stands : Stands numbers number

-- the abort line at a place saw so many writers
pub record HasSeen (aborts : List GivenAbort) (place seen : ℕ) : Type 0 where
  pub given : GivenAbort
  pub stands : slice_get aborts place ≡ Some given
  pub saw : given.told.seen ≡ seen

-- the places of the first so many abort lines, by how many writers they saw, up to so many writers
pub record AreBySeen (aborts : List GivenAbort) (count writers : ℕ) (places : List (List ℕ)) : Type 0 where
  pub lists : length places ≡ writers + 1
  pub few : (seen : ℕ) (numbers : List ℕ) → slice_get places seen ≡ Some numbers → length numbers ≤ count
  pub all : (place : ℕ) (given : GivenAbort) → place < count → slice_get aborts place ≡ Some given → StandsAt places given.told.seen place
  pub only : (seen place : ℕ) → StandsAt places seen place → HasSeen aborts place seen

-- what the abort line at a place heard is right, where it saw this state
abbrev pub IsHeardIn : File → State → List GivenAbort → ℕ → Type 0
IsHeardIn file state aborts place = (given : GivenAbort) → slice_get aborts place ≡ Some given → IsHeard file state given

-- it is not
pub record IsUnheardIn (file : File) (state : State) (aborts : List GivenAbort) (place : ℕ) : Type 0 where
  pub given : GivenAbort
  pub stands : slice_get aborts place ≡ Some given
  pub unheard : IsHeard file state given → ⊥

-- the place is before that one; any is where there is none
abbrev pub IsBeforeOr : ℕ → Option ℕ → Type 0
IsBeforeOr place None = Unit {0}
IsBeforeOr place (Some wrong) = place < wrong

-- the first of an earlier place and of those places at which what was heard is not right
pub record IsFirstOf (file : File) (state : State) (aborts : List GivenAbort) (places : List ℕ) (earlier wrong : Option ℕ) : Type 0 where
  pub either : (wrong ≡ earlier) ⊎ ((place : ℕ) × (wrong ≡ Some place) × Stands places place × IsUnheardIn file state aborts place)
  pub up_to : (place : ℕ) → IsBeforeOr place wrong → IsBeforeOr place earlier
  pub heard : (place : ℕ) → Stands places place → IsBeforeOr place wrong → IsHeardIn file state aborts place

pub record IsUnheardAt (file : File) (order : List TransactionPlace) (aborts : List GivenAbort) (place : ℕ) : Type 0 where
  pub given : GivenAbort
  pub stands : slice_get aborts place ≡ Some given
  pub unheard : IsHeard file (shown file order given.told.seen) given → ⊥

abbrev pub IsUnheardOr : File → List TransactionPlace → List GivenAbort → Option ℕ → Type 0
IsUnheardOr file order aborts None = Unit {0}
IsUnheardOr file order aborts (Some place) = IsUnheardAt file order aborts place

-- the first place at which what was heard is not right, among the abort lines that saw fewer writers than these
pub record IsFirstUnheard (file : File) (order : List TransactionPlace) (aborts : List GivenAbort) (bound : ℕ) (wrong : Option ℕ) : Type 0 where
  pub unheard : IsUnheardOr file order aborts wrong
  pub heard : (place : ℕ) (given : GivenAbort) → slice_get aborts place ≡ Some given → given.told.seen < bound → IsBeforeOr place wrong → IsHeard file (shown file order given.told.seen) given
