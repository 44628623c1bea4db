use Rattle.std.specs.List.{All}
use Rattle.std.proofs.Common.{◌≡◌, ℕ, Option, IfSome, ◌<◌, ◌++◌, [], ◌∷◌, List, length, sym, subst, ◌∙◌, rules}
use Rattle.std.proofs.lemmas.List.Elements.{All-nil, All-push}
use Rattle.sto_lang.specs.declared.file.Turns.{Turns}
use Rattle.sto_journal.specs.declared.journal.Line.{Line}
use Rattle.sto_run_orders.specs.Ready.{file_of, AreTurns}
use Rattle.sto_run_orders.proofs.runs.OrderRuns.schedule_along.Goals as goal

pub loop-place-init : goal.loop-place-init
loop-place-init c = subst (AreTurns c.args.self.now) (sym c.new-entries.ensures.items) (All-nil (λ (t : Turns). t.thread < length (file_of c.args.self.now).threads))

pub next_entry-requires-clause-entries : goal.next_entry-requires-clause-entries
next_entry-requires-clause-entries c = subst (AreTurns c.args.self.now) (sym c.as_slice.ensures.value) c.loop-place.invariant

pub next_entry-requires-clause-thread : goal.next_entry-requires-clause-thread
next_entry-requires-clause-thread c =
    subst (λ (line : Line). line.thread < length (file_of c.args.self.now).threads) (sym c.index-lines-place.is)
    (c.requires.lines c.loop-place.place c.index-lines-place.result c.loop-place-test.true)

pub loop-place-preserved : goal.loop-place-preserved
loop-place-preserved c =
    let r = c.args.self.now in
    let added : c.push.new.self.items ≡ c.loop-place.entries.items ++ c.in-Some.entry ∷ [] = search rules in
    let inside : c.index-lines-place.result.thread < length (file_of r).threads =
    subst (λ (line : Line). line.thread < length (file_of r).threads) (sym c.index-lines-place.is)
    (c.requires.lines c.loop-place.place c.index-lines-place.result c.loop-place-test.true) in
    subst (AreTurns r) (sym added)
    (All-push (λ (t : Turns). t.thread < length (file_of r).threads) c.loop-place.entries.items c.in-Some.entry c.loop-place.invariant
    (subst (λ (n : ℕ). n < length (file_of r).threads) (sym (subst (λ (o : Option Turns). IfSome o (λ turns. turns.thread ≡ c.index-lines-place.result.thread)) c.in-Some.is c.in_ok-entry.ensures)) inside))
