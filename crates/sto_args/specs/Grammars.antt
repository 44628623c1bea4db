-- What `clap` is told of a command.
use Rattle.std.specs.Prelude.{◌≡◌, List, [], ◌∷◌, ◌++◌, Bool, true, false, map, Option, None, Some, if◌then◌else◌}
use Rattle.clap.specs.Walk.{Rule, rows_of}
use Rattle.clap.specs.Matches.{found_of}
use Rattle.clap.specs.Simple.{App, new_rule, new_shape, matches_of}
use Rattle.clap.specs.Faults.{fault_of}
use Rattle.clap.specs.declared.parser.matches.ArgMatches.{ArgMatches}
use Rattle.sto_args.specs.Given.{Text, Takes, number_name}

-- an option that is named as its value is
abbrev pub option_rule : Text → Rule
option_rule name = record (new_rule name) { long = Some name }

abbrev pub number_rules : Bool → List Rule
number_rules takes_number = if takes_number then new_rule number_name ∷ [] else []

-- all words are the command's, and none of them asks for help
abbrev pub app_for : Text → Takes → App
app_for name t = record {
  top = record (new_shape name) { rules = map option_rule t.options ++ number_rules t.number; no_binary_name = true; disable_help_flag = true };
  subs = [];
}

-- no option and no number
abbrev pub nothing : Takes
nothing = record { options = []; number = false }

-- what `clap` finds in words: none exactly where it has a fault to tell of
abbrev pub Finds : App → List Text → Option ArgMatches → Type 0
Finds app words None = fault_of app words ≡ [] → ⊥
Finds app words (Some m) = (fault_of app words ≡ []) × (rows_of (found_of m) ≡ matches_of app words)
