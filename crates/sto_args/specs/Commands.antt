-- The grammar of the words: which commands there are, and what each takes.
use Rattle.std.specs.Prelude.{ℕ, ◌≤◌, List, [], ◌∷◌, ◌&&◌, true, false, is_some, Option, None, Some, codes, map, String, string_bytes, nat_le, nat_lt, decimal, ◌^◌, if◌then◌else◌}
use Rattle.std.specs.Option.{option_map, option_and_then}
use Rattle.std.specs.Str.{bytes_eq}
use Rattle.std.specs.Str.Parse.{digits_value}
use Rattle.std.specs.List.{list_any}
use Rattle.sto_args.specs.Given.{Text, Takes, Given, value_of, number_name, given_by, as_option, gives_flag}
use Rattle.sto_args.specs.HelpPages.{page_of}
use Rattle.sto_args.specs.declared.command.Command.{Command}
use Rattle.sto_args.specs.declared.command.Stepping.{Stepping}
use Rattle.sto_args.specs.declared.command.Command.TheVariants.{Run, Step, Trace, Draw, Explore, Schedules, Upgrade, Gen, Bench, Help}
use Rattle.sto_args.specs.declared.command.By.{By}
use Rattle.sto_args.specs.declared.command.By.TheVariants.{State, Answers, Order}
use Rattle.sto_args.specs.declared.command.Asked.{Asked}
use Rattle.sto_args.specs.declared.command.Asked.TheVariants.{Where, Never}

-- the number of 64 bits that a text is: decimal digits without a sign, and no leading zero unless it is 0 alone
abbrev pub decimal_of : Text → Option ℕ
decimal_of text = let n = digits_value 10 text in if bytes_eq (decimal n) text && nat_lt n (2 ^ 64) then Some n else None

-- a number from low to high
abbrev pub number_in : ℕ → ℕ → Text → Option ℕ
number_in low high text = option_and_then (λ n. if nat_le low n && nat_le n high then Some n else None) (decimal_of text)

-- `run [--threads N] [--tries N] [--json]`
abbrev pub run_takes : Takes
run_takes = record { options = codes "threads" ∷ codes "tries" ∷ codes "json" ∷ []; number = false }

-- 1 to 16 threads; none where the script is to say
abbrev pub threads_of : Option Text → Option (Option ℕ)
threads_of None = Some None
threads_of (Some text) = option_map (λ n. Some n) (number_in 1 16 text)

-- 1 to 64 tries; 64 where none is given
abbrev pub tries_of : Option Text → Option ℕ
tries_of None = Some 64
tries_of (Some text) = number_in 1 64 text

abbrev pub run_of : Given → Option Command
run_of given = option_and_then (λ threads. option_map (λ tries. Run threads tries (is_some (value_of (codes "json") given))) (tries_of (value_of (codes "tries") given))) (threads_of (value_of (codes "threads") given))

-- `step [--tries N] [--json] [--schedule TEXT]`
abbrev pub step_takes : Takes
step_takes = record { options = codes "tries" ∷ codes "json" ∷ codes "schedule" ∷ []; number = false }

abbrev pub stepping_of : Given → Option Stepping
stepping_of given = option_map (λ tries. record { tries = tries; json = is_some (value_of (codes "json") given); schedule = value_of (codes "schedule") given }) (tries_of (value_of (codes "tries") given))

abbrev pub step_of : Given → Option Command
step_of given = option_map (λ stepping. Step stepping.tries stepping.json stepping.schedule) (stepping_of given)

-- `trace`, which takes what `step` takes
abbrev pub trace_of : Given → Option Command
trace_of given = option_map (λ stepping. Trace stepping.tries stepping.json stepping.schedule) (stepping_of given)

-- `draw [--tries N] [--schedule TEXT]`
abbrev pub draw_takes : Takes
draw_takes = record { options = codes "tries" ∷ codes "schedule" ∷ []; number = false }

abbrev pub draw_of : Given → Option Command
draw_of given = option_map (λ tries. Draw tries (value_of (codes "schedule") given)) (tries_of (value_of (codes "tries") given))

-- `explore [--by WORD] [--states N] [--json]`, and at most one of `[--where TEXT]` and `[--never TEXT]`
abbrev pub explore_takes : Takes
explore_takes = record { options = codes "by" ∷ codes "states" ∷ codes "json" ∷ codes "where" ∷ codes "never" ∷ []; number = false }

-- `state`, `answers` or `order`; `state` where nothing is given
abbrev pub by_of : Option Text → Option By
by_of None = Some State
by_of (Some text) =
    if bytes_eq text (codes "state") then Some State
    else (if bytes_eq text (codes "answers") then Some Answers
    else (if bytes_eq text (codes "order") then Some Order
    else None))

-- 1 to 1,000,000,000 nodes; 1,000,000 where none is given
abbrev pub states_of : Option Text → Option ℕ
states_of None = Some 1000000
states_of (Some text) = number_in 1 1000000000 text

-- what is asked of outcomes by these two texts: nothing, by one of them, and nothing is right where both are given
abbrev pub asked_of : Option Text → Option Text → Option (Option Asked)
asked_of None None = Some None
asked_of (Some text) None = Some (Some (Where text))
asked_of None (Some text) = Some (Some (Never text))
asked_of (Some text) (Some other) = None

abbrev pub explore_of : Given → Option Command
explore_of given = option_and_then (λ by. option_and_then (λ states. option_map (λ asked. Explore by states (is_some (value_of (codes "json") given)) asked)
    (asked_of (value_of (codes "where") given) (value_of (codes "never") given))) (states_of (value_of (codes "states") given))) (by_of (value_of (codes "by") given))

-- `schedules [--switches K] [--tries N] [--json]`
abbrev pub schedules_takes : Takes
schedules_takes = record { options = codes "switches" ∷ codes "tries" ∷ codes "json" ∷ []; number = false }

-- at most 8 switches; 2 where none is given
abbrev pub switches_of : Option Text → Option ℕ
switches_of None = Some 2
switches_of (Some text) = number_in 0 8 text

abbrev pub schedules_of : Given → Option Command
schedules_of given = option_and_then (λ switches. option_map (λ tries. Schedules switches tries (is_some (value_of (codes "json") given))) (tries_of (value_of (codes "tries") given))) (switches_of (value_of (codes "switches") given))

-- `upgrade` alone
abbrev pub upgrade_of : List Text → Option Command
upgrade_of [] = Some Upgrade
upgrade_of (word ∷ words) = None

-- `gen NUMBER`
abbrev pub gen_takes : Takes
gen_takes = record { options = []; number = true }

abbrev pub gen_of : Given → Option Command
gen_of given = option_map (λ number. Gen number) (option_and_then decimal_of (value_of number_name given))

-- `bench NUMBER [--threads N]`
abbrev pub bench_takes : Takes
bench_takes = record { options = codes "threads" ∷ []; number = true }

abbrev pub bench_of : Given → Option Command
bench_of given = option_and_then (λ number. option_map (λ threads. Bench number threads) (threads_of (value_of (codes "threads") given))) (option_and_then decimal_of (value_of number_name given))

-- `--help` alone, or with the name of a command
abbrev pub help_of : List Text → Option Command
help_of words = option_map (λ page. Help page) (page_of words)

-- the command that the first word names, with what the other words give it
abbrev pub command_from : Text → List Text → Option Command
command_from word words =
    if bytes_eq word (codes "run") then option_and_then run_of (given_by run_takes words)
    else (if bytes_eq word (codes "step") then option_and_then step_of (given_by step_takes words)
    else (if bytes_eq word (codes "trace") then option_and_then trace_of (given_by step_takes words)
    else (if bytes_eq word (codes "draw") then option_and_then draw_of (given_by draw_takes words)
    else (if bytes_eq word (codes "explore") then option_and_then explore_of (given_by explore_takes words)
    else (if bytes_eq word (codes "schedules") then option_and_then schedules_of (given_by schedules_takes words)
    else (if bytes_eq word (codes "upgrade") then upgrade_of words
    else (if bytes_eq word (codes "gen") then option_and_then gen_of (given_by gen_takes words)
    else (if bytes_eq word (codes "bench") then option_and_then bench_of (given_by bench_takes words)
    else None))))))))

abbrev pub command_of : List Text → Option Command
command_of [] = None
command_of (word ∷ words) =
    if bytes_eq word (codes "--help") then help_of words
    else (if list_any gives_flag words then None
    else command_from word (map as_option words))

-- the command that the words of a program are
abbrev pub command_in : {Z : Type 0} → List (String Z) → Option Command
command_in words = command_of (map (λ word. string_bytes word) words)

-- the threads, where they are given
abbrev pub HasThreads : Option ℕ → Type 0
HasThreads None = Unit {0}
HasThreads (Some threads) = (1 ≤ threads) × (threads ≤ 16)

-- the threads, the tries and the switches are in their ranges
abbrev pub HasRange : Command → Type 0
HasRange (Run threads tries json) = HasThreads threads × (1 ≤ tries) × (tries ≤ 64)
HasRange (Step tries json schedule) = (1 ≤ tries) × (tries ≤ 64)
HasRange (Trace tries json schedule) = (1 ≤ tries) × (tries ≤ 64)
HasRange (Draw tries schedule) = (1 ≤ tries) × (tries ≤ 64)
HasRange (Explore by states json asked) = Unit {0}
HasRange (Schedules switches tries json) = (switches ≤ 8) × (1 ≤ tries) × (tries ≤ 64)
HasRange Upgrade = Unit {0}
HasRange (Gen number) = Unit {0}
HasRange (Bench number threads) = HasThreads threads
HasRange (Help page) = Unit {0}
