-- What `--help` prints, and how a call ends that asks for it.
use Rattle.std.specs.Prelude.{◌≡◌, ℕ, List, ◌⊎◌, Option}
use Rattle.sto_args.specs.declared.help.HelpPage.{HelpPage}
use Rattle.sto_args.specs.declared.help.HelpPage.TheVariants.{Program, Run, Step, Trace, Draw, Explore, Schedules, Upgrade, Gen, Bench}
use Rattle.sto_console.specs.Told.{Gains}
use Rattle.sto_cli.specs.declared.help.TheConstants.{PROGRAM, RUN, STEP, TRACE, DRAW, EXPLORE, SCHEDULES, UPGRADE, GEN, BENCH}

-- what a page says, whole
unfoldable pub help_text : HelpPage → List ℕ
help_text Program = PROGRAM.now
help_text Run = RUN.now
help_text Step = STEP.now
help_text Trace = TRACE.now
help_text Draw = DRAW.now
help_text Explore = EXPLORE.now
help_text Schedules = SCHEDULES.now
help_text Upgrade = UPGRADE.now
help_text Gen = GEN.now
help_text Bench = BENCH.now

-- a call that asks for a page ended so
pub record IsHelped (page : HelpPage) (status : ℕ) (left rest held now : Option (List ℕ)) : Type 0 where
  -- with status 0 the page was written, and nothing else
  pub printed : status ≡ 0 → Gains held now (help_text page)
  -- its input is as it was
  pub unread : rest ≡ left
  -- another status is 5, where the output failed, or 6, where memory could not be had
  pub statuses : (status ≡ 0) ⊎ (status ≡ 5) ⊎ (status ≡ 6)
