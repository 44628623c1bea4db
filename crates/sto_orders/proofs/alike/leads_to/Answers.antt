use Rattle.std.proofs.Common.{◌≡◌, ℕ, ◌<◌, List, length, refl, sym, ◌∙◌, subst, arith}
use Rattle.sto_lang.specs.Views.{file as view}
use Rattle.sto_lang.specs.Scripts.{File}
use Rattle.sto_model.specs.Run.{State}
use Rattle.sto_report_spec.specs.Orders.{TransactionPlace}
use Rattle.sto_journal.specs.declared.journal.Line.{Line}
use Rattle.sto_journal.specs.Journals.{HaveThreads, places}
use Rattle.sto_checker.specs.Runs.{IsReplay}
use Rattle.sto_checker.proofs.Places.{length-threads}
use Rattle.sto_checker.proofs.SoundRuns.{sound_runnable}
use Rattle.sto_orders.specs.Keys.{IsReplayed, IsKeyOf}
use Rattle.sto_orders.proofs.Sameness.{replay_threads, replay_replayed, same_end, equal_keys}
use Rattle.sto_orders.proofs.alike.leads_to.Goals as goal

pub key_of-requires-clause-few : goal.key_of-requires-clause-few
key_of-requires-clause-few c =
    let few = (sound_runnable (view c.args.file.now) c.requires.sound).few_threads in
    omega (arith, few, length-threads c.args.file.now.threads.items)

pub key_of-requires-clause-lines : goal.key_of-requires-clause-lines
key_of-requires-clause-lines c = replay_threads (view c.args.file.now) (length c.args.file.now.threads.items) c.args.lines.now.items c.as_slice.result.now c.args.state.now.items
    (length-threads c.args.file.now.threads.items) c.as_slice.ensures.items c.requires.replay

pub key_of-requires-clause-replayed : goal.key_of-requires-clause-replayed
key_of-requires-clause-replayed c = replay_replayed (view c.args.file.now) c.args.lines.now.items c.as_slice.result.now c.args.state.now.items c.as_slice.ensures.items c.requires.replay

pub key_of-requires-2-clause-lines : goal.key_of-requires-2-clause-lines
key_of-requires-2-clause-lines c = replay_threads (view c.args.file.now) (length c.args.file.now.threads.items) c.args.outcome.now.lines.items c.as_slice-2.result.now c.args.outcome.now.state.items
    (length-threads c.args.file.now.threads.items) c.as_slice-2.ensures.items c.requires.outcome

pub key_of-requires-2-clause-replayed : goal.key_of-requires-2-clause-replayed
key_of-requires-2-clause-replayed c = replay_replayed (view c.args.file.now) c.args.outcome.now.lines.items c.as_slice-2.result.now c.args.outcome.now.state.items c.as_slice-2.ensures.items c.requires.outcome

pub returns-in-Equal : goal.returns-in-Equal
returns-in-Equal c =
    let by = c.args.by in
    let f = view c.args.file.now in
    let told = subst (λ (ls : List Line). IsKeyOf by f (places ls) c.in_ok-told.told) c.as_slice.ensures.items c.in_ok-told.ensures in
    let found = subst (λ (ls : List Line). IsKeyOf by f (places ls) c.in_ok-found.found) c.as_slice-2.ensures.items c.in_ok-found.ensures in (
      λ yes. same_end by f (places c.args.lines.now.items) (places c.args.outcome.now.lines.items) c.in_ok-told.told c.in_ok-found.found told found (sym c.cmp.ensures ∙ c.in-Equal.is),
      λ same. refl,
    )

pub returns : goal.returns
returns c =
    let by = c.args.by in
    let f = view c.args.file.now in
    let told = subst (λ (ls : List Line). IsKeyOf by f (places ls) c.in_ok-told.told) c.as_slice.ensures.items c.in_ok-told.ensures in
    let found = subst (λ (ls : List Line). IsKeyOf by f (places ls) c.in_ok-found.found) c.as_slice-2.ensures.items c.in_ok-found.ensures in (
      λ yes. absurd (cc),
      λ same. absurd (c.in_default.not-Equal (c.cmp.ensures ∙ equal_keys by f (places c.args.lines.now.items) (places c.args.outcome.now.lines.items) c.in_ok-told.told c.in_ok-found.found
          c.requires.replay.order c.requires.outcome.order told found same)),
    )
