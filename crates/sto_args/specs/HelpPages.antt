-- The pages of help, and the words that ask for one.
use Rattle.std.specs.Prelude.{List, [], ◌∷◌, Option, None, Some, codes, if◌then◌else◌}
use Rattle.std.specs.Str.{bytes_eq}
use Rattle.sto_args.specs.Given.{Text}
use Rattle.sto_args.specs.declared.help.HelpPage.{HelpPage}
use Rattle.sto_args.specs.declared.help.HelpPage.TheVariants.{Program, Run, Step, Trace, Draw, Explore, Schedules, Upgrade, Gen, Bench}

-- the page of the command that a word names
abbrev pub page_named : Text → Option HelpPage
page_named word =
    if bytes_eq word (codes "run") then Some Run
    else (if bytes_eq word (codes "step") then Some Step
    else (if bytes_eq word (codes "trace") then Some Trace
    else (if bytes_eq word (codes "draw") then Some Draw
    else (if bytes_eq word (codes "explore") then Some Explore
    else (if bytes_eq word (codes "schedules") then Some Schedules
    else (if bytes_eq word (codes "upgrade") then Some Upgrade
    else (if bytes_eq word (codes "gen") then Some Gen
    else (if bytes_eq word (codes "bench") then Some Bench
    else None))))))))

-- the page that the words after `--help` ask for
abbrev pub page_of : List Text → Option HelpPage
page_of [] = Some Program
page_of (word ∷ []) = page_named word
page_of (word ∷ other ∷ words) = None

-- all words that ask for a page: `--help` alone, or `--help` and the name of a command
abbrev pub help_words : HelpPage → List Text
help_words Program = codes "--help" ∷ []
help_words Run = codes "--help" ∷ codes "run" ∷ []
help_words Step = codes "--help" ∷ codes "step" ∷ []
help_words Trace = codes "--help" ∷ codes "trace" ∷ []
help_words Draw = codes "--help" ∷ codes "draw" ∷ []
help_words Explore = codes "--help" ∷ codes "explore" ∷ []
help_words Schedules = codes "--help" ∷ codes "schedules" ∷ []
help_words Upgrade = codes "--help" ∷ codes "upgrade" ∷ []
help_words Gen = codes "--help" ∷ codes "gen" ∷ []
help_words Bench = codes "--help" ∷ codes "bench" ∷ []
