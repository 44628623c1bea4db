-- How a call ends that asks for help.
use Rattle.std.proofs.Common.{◌≡◌, ℕ, List, inl, inr, refl, sym, ap, ◌∙◌, subst, arith, true≢false, Option, Some, Result, Ok, Err}
use Rattle.std.specs.Option.{is_some}
use Rattle.sto_args.specs.Commands.{command_of}
use Rattle.sto_args.specs.HelpPages.{help_words}
use Rattle.sto_args.specs.declared.command.Command.{Command}
use Rattle.sto_args.specs.declared.command.Command.TheVariants.{Help}
use Rattle.sto_args.specs.declared.help.HelpPage.{HelpPage}
use Rattle.sto_args.specs.declared.help.HelpPage.TheVariants.{Program, Run, Step, Trace, Draw, Explore, Schedules, Upgrade, Gen, Bench}
use Rattle.sto_console.specs.Told.{Gains}
use Rattle.sto_console.specs.declared.refusal.Refusal.{Refusal}
use Rattle.sto_console.specs.declared.refusal.Refusal.TheVariants.{Usage, Input, ReadFault, WriteFault, NoMemory}
use Rattle.sto_console.specs.Ends.{Ends}
use Rattle.sto_console.specs.Statuses.{status_of}
use Rattle.sto_cli.specs.declared.told.Answer.{Answer}
use Rattle.sto_cli.specs.declared.told.Answer.TheVariants.{Done, Found}
use Rattle.sto_cli.specs.Helps.{IsHelped}
use Rattle.sto_cli.specs.Programs.{program, answer_status}

-- the words that ask for a page are the command that prints it
pub asked : (page : HelpPage) → command_of (help_words page) ≡ Some (Help page)
asked Program = refl
asked Run = refl
asked Step = refl
asked Trace = refl
asked Draw = refl
asked Explore = refl
asked Schedules = refl
asked Upgrade = refl
asked Gen = refl
asked Bench = refl

module _ (page : HelpPage) (left rest held now : Option (List ℕ)) (unread : rest ≡ left) where
  by_ending : (ending : Result Answer Refusal) → Ends program ending (Some (Help page)) left rest held now → IsHelped page (status_of answer_status ending) left rest held now
  by_ending (Ok Done) h = record {
    printed = λ e. subst (Gains held now) h.made.output.1 h.gained;
    unread = unread;
    statuses = inl refl;
  }
  by_ending (Ok Found) h = let e : 1 ≡ 0 = ap answer_status h.made.output.0 in absurd (omega (arith, e))
  by_ending (Err Usage) h = absurd (true≢false (ap is_some h.0))
  by_ending (Err (Input fault)) h = absurd (true≢false (sym h.0.0))
  by_ending (Err ReadFault) h = absurd (true≢false (sym h.0))
  by_ending (Err WriteFault) h = record {
    printed = λ e. absurd (omega (arith, e));
    unread = unread;
    statuses = inr (inl refl);
  }
  by_ending (Err NoMemory) h = record {
    printed = λ e. absurd (omega (arith, e));
    unread = unread;
    statuses = inr (inr refl);
  }

  -- a call that asks for a page prints it
  pub helped : (command : Option Command) → command ≡ Some (Help page) → (ending : Result Answer Refusal) (status : ℕ) → status ≡ status_of answer_status ending
      → Ends program ending command left rest held now → IsHelped page status left rest held now
  helped command asks ending status is h =
      subst (λ (s : ℕ). IsHelped page s left rest held now) (sym is)
      (by_ending ending (subst (λ (c : Option Command). Ends program ending c left rest held now) asks h))
