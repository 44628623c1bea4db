use Rattle.std.proofs.Common.{◌≡◌, ◌<◌, ℕ, List, [], ◌∷◌, ◌++◌, length, sym, ap, ◌∙◌, subst, rules, arith}
use Rattle.std.proofs.lemmas.List.Elements.{All-nil}
use Rattle.sto_model.specs.SequentialObjects.{opening_of}
use Rattle.sto_model.specs.Objects.{machines_of}
use Rattle.sto_model.specs.declared.shape.Shape.{Shape}
use Rattle.sto_lang.specs.Views.{file as view}
use Rattle.sto_report_spec.specs.Orders.{TransactionPlace}
use Rattle.sto_journal.specs.declared.journal.Line.{Line}
use Rattle.sto_journal.specs.Journals.{HaveThreads, places}
use Rattle.sto_checker.proofs.Places.{length-threads}
use Rattle.sto_checker.proofs.SoundRuns.{sound_runnable}
use Rattle.sto_orders.specs.declared.level.Node.{Node}
use Rattle.sto_orders.specs.Keys.{IsReplayed, IsKeyOf}
use Rattle.sto_orders.proofs.Levelling.{first_level}
use Rattle.sto_orders.proofs.Nexts.{opening_so_far, so_far_replayed}
use Rattle.sto_orders.proofs.level.opening_level.Goals as goal

pub key_of-requires-clause-few : goal.key_of-requires-clause-few
key_of-requires-clause-few c =
    let few = (sound_runnable (view c.args.file.now) c.requires.sound).few_threads in
    omega (arith, few, length-threads c.args.file.now.threads.items)

pub key_of-requires-clause-lines : goal.key_of-requires-clause-lines
key_of-requires-clause-lines c =
    let threads = length c.args.file.now.threads.items in
    subst (λ (ls : List Line). HaveThreads threads ls) (sym (c.as_slice-lines.ensures.items ∙ c.in_ok-run.ensures.lines)) (All-nil (λ (l : Line). l.thread < threads))

pub key_of-requires-clause-replayed : goal.key_of-requires-clause-replayed
key_of-requires-clause-replayed c =
    subst (λ (ls : List Line). IsReplayed (view c.args.file.now) ls c.in_ok-run.run'.state.items) (sym c.as_slice-lines.ensures.items)
    (so_far_replayed (view c.args.file.now) c.in_ok-run.run'
    (opening_so_far (view c.args.file.now) c.in_ok-run.run' c.in_ok-run.ensures.lines c.in_ok-run.ensures.writers
    (c.in_ok-run.ensures.state ∙ ap (λ (s : List Shape). opening_of (machines_of s)) c.requires.shapes)))

pub returns : goal.returns
returns c =
    let f = view c.args.file.now in
    let node : Node = record { key = c.in_ok-key.key; ways = c.in_ok-ways.ways } in
    let added : c.push.new.self.items ≡ c.new-nodes.result.items ++ node ∷ [] = search rules in
    let only : c.push.new.self.items ≡ node ∷ [] = added ∙ ap (λ (ns : List Node). ns ++ node ∷ []) c.new-nodes.ensures.items in
    first_level c.args.by f node c.push.new.self.items (subst (λ (ps : List TransactionPlace). IsKeyOf c.args.by f ps node.key) (ap places (c.as_slice-lines.ensures.items ∙ c.in_ok-run.ensures.lines)) c.in_ok-key.ensures) c.in_ok-ways.ensures only
