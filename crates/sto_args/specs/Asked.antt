-- What the checker of reports and the feed are asked by their words.
use Rattle.std.specs.Prelude.{◌≤◌, List, [], ◌∷◌, false, Option, codes, map, String, string_bytes}
use Rattle.std.specs.Option.{option_map, option_and_then}
use Rattle.sto_args.specs.Given.{Text, Takes, Given, value_of, given_by}
use Rattle.sto_args.specs.Commands.{HasThreads, threads_of, tries_of}
use Rattle.sto_args.specs.declared.asked.Checking.{Checking}
use Rattle.sto_args.specs.declared.asked.Feeding.{Feeding}

-- `[--tries N]`
abbrev pub check_takes : Takes
check_takes = record { options = codes "tries" ∷ []; number = false }

abbrev pub check_of : Given → Option Checking
check_of given = option_map (λ tries. record { tries = tries }) (tries_of (value_of (codes "tries") given))

abbrev pub checking_of : List Text → Option Checking
checking_of words = option_and_then check_of (given_by check_takes words)

-- what the words of the checker ask
abbrev pub checking_in : {Z : Type 0} → List (String Z) → Option Checking
checking_in words = checking_of (map (λ word. string_bytes word) words)

-- `[--threads N] [--tries N]`
abbrev pub feed_takes : Takes
feed_takes = record { options = codes "threads" ∷ codes "tries" ∷ []; number = false }

abbrev pub feed_of : Given → Option Feeding
feed_of given = option_and_then (λ threads. option_map (λ tries. record { threads = threads; tries = tries }) (tries_of (value_of (codes "tries") given))) (threads_of (value_of (codes "threads") given))

abbrev pub feeding_of : List Text → Option Feeding
feeding_of words = option_and_then feed_of (given_by feed_takes words)

-- what the words of the feed ask
abbrev pub feeding_in : {Z : Type 0} → List (String Z) → Option Feeding
feeding_in words = feeding_of (map (λ word. string_bytes word) words)

-- the tries are in their range
abbrev pub HasTries : Checking → Type 0
HasTries asked = (1 ≤ asked.tries) × (asked.tries ≤ 64)

-- the threads and the tries are in their ranges
abbrev pub HasNumbers : Feeding → Type 0
HasNumbers asked = HasThreads asked.threads × (1 ≤ asked.tries) × (asked.tries ≤ 64)
