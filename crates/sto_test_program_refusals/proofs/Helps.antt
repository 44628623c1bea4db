-- What `--help` does not print, and how it does not end.
use Rattle.std.proofs.Common.{◌≡◌, ◌⊎◌, inl, inr, ℕ, suc, List, [], ◌∷◌, length, refl, sym, ap, ◌∙◌, arith, Option, Some}
use Rattle.sto_args.specs.declared.command.Command.TheVariants.{Help}
use Rattle.sto_args.specs.declared.help.HelpPage.{HelpPage}
use Rattle.sto_args.specs.declared.help.HelpPage.TheVariants.{Program, Run, Step, Trace, Draw, Explore, Schedules, Upgrade, Gen, Bench}
use Rattle.sto_cli.specs.Helps.{help_text, IsHelped}
use Rattle.sto_cli.specs.Outputs.{IsOutput}
use Rattle.sto_test_refusals.proofs.Lists.{differ, some_is}
use Rattle.sto_test_program_refusals.proofs.Texts.{no_front, none_gained}

-- no page is nothing
pub some_text : (page : HelpPage) → [] ≡ help_text page → ⊥
unfolding help_text
some_text Program e = no_front e
some_text Run e = no_front e
some_text Step e = no_front e
some_text Trace e = no_front e
some_text Draw e = no_front e
some_text Explore e = no_front e
some_text Schedules e = no_front e
some_text Upgrade e = no_front e
some_text Gen e = no_front e
some_text Bench e = no_front e

pub help_nothing : (page : HelpPage) (bytes : List ℕ) → IsOutput (Help page) bytes [] → ⊥
help_nothing page bytes o = some_text page o

-- the pages of two commands differ behind `sto `
apart : help_text Run ≡ help_text Step → ⊥
unfolding help_text
apart e = differ (help_text Run) (help_text Step) 4 114 115 refl refl (λ n. omega (arith, n)) e

pub other_page : (bytes text : List ℕ) → IsOutput (Help Run) bytes text → IsOutput (Help Step) bytes text → ⊥
other_page bytes text o p = apart (sym o ∙ p)

none_of : (status : ℕ) → status ≡ 2 → (status ≡ 0) ⊎ (status ≡ 5) ⊎ (status ≡ 6) → ⊥
none_of status two (inl e) = omega (arith, two, e)
none_of status two (inr (inl e)) = omega (arith, two, e)
none_of status two (inr (inr e)) = omega (arith, two, e)

pub help_usage : (page : HelpPage) (left rest held now : Option (List ℕ)) → IsHelped page 2 left rest held now → ⊥
help_usage page left rest held now h = none_of 2 refl h.statuses

pub help_silent : (page : HelpPage) (left rest : Option (List ℕ)) (held : List ℕ) → IsHelped page 0 left rest (Some held) (Some held) → ⊥
help_silent page left rest held h = some_text page (none_gained held (help_text page) (h.printed refl))

pub help_read : (page : HelpPage) (status byte : ℕ) (bytes : List ℕ) (held now : Option (List ℕ)) → IsHelped page status (Some (byte ∷ bytes)) (Some bytes) held now → ⊥
help_read page status byte bytes held now h =
    let n : length bytes ≡ suc (length bytes) = ap length (some_is bytes (byte ∷ bytes) h.unread) in omega (arith, n)
