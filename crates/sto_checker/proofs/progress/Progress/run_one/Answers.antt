use Rattle.std.proofs.Common.{◌≡◌, ◌++◌, ℕ, suc, ◌+◌, ◌-◌, ◌≤◌, List, [], ◌∷◌, map, sym, ap, ◌∙◌, subst, Bool, true, false, arith}
use Rattle.sto_model.specs.PlainReplies.{plain_reply}
use Rattle.sto_model.specs.Objects.{machines_of}
use Rattle.sto_model.specs.Serial.{serial_run_of}
use Rattle.sto_model.specs.declared.shape.Shape.{Shape}
use Rattle.sto_lang.specs.Views.{file as view, script}
use Rattle.sto_script.specs.Meaning.{meaning_of}
use Rattle.sto_report_spec.specs.Replay.{machines_for, counted}
use Rattle.sto_journal.specs.declared.journal.Line.{Line}
use Rattle.sto_model.specs.Run.{Behaviour, State}
use Rattle.sto_checker.specs.Runs.{IsSoFar}
use Rattle.sto_checker.specs.Runnable.{CanRun}
use Rattle.sto_checker.specs.declared.progress.Progress.{Progress}
use Rattle.sto_checker.proofs.Places.{count_at, at_place}
use Rattle.sto_checker.proofs.OneMore.{IsTold, is_told, so_far-more}
use Rattle.sto_checker.proofs.progress.Progress.run_one.Goals as goal
use Rattle.sto_checker.proofs.progress.Progress.run_one.Goals.{then-writer, else-writer}

pub get-script-requires : goal.get-script-requires
get-script-requires c = omega (arith, c.requires.first, c.requires.last, count_at c.args.file.now.threads.items c.args.thread c.get.result.now c.get.ensures)

pub run_transaction-requires-clause-fits : goal.run_transaction-requires-clause-fits
run_transaction-requires-clause-fits c =
    let next : c.args.position ≡ suc (c.args.position - 1) = omega (arith, c.requires.first) in
    let at = at_place c.args.file.now c.args.thread c.args.position (c.args.position - 1) c.get.result.now c.get-script.result.now next c.get.ensures c.get-script.ensures in
    subst (λ (s : List Shape). CanRun s (script c.get-script.result.now)) (sym c.requires.shapes) (c.requires.runnable.scripts (c.args.thread, c.args.position) (script c.get-script.result.now) at)

-- one more, or none
one_more : (b : Bool) (n : ℕ) → b ≡ true → n + 1 ≡ counted b n
one_more b n e = let next : n + 1 ≡ suc n = omega arith in next ∙ ap (λ (x : Bool). counted x n) (sym e)

no_more : (b : Bool) (n : ℕ) → b ≡ false → n ≡ counted b n
no_more b n e = ap (λ (x : Bool). counted x n) (sym e)

counted_below : (b : Bool) (k n : ℕ) → k ≡ counted b n → k ≤ n + 1
counted_below true k n e = omega arith
counted_below false k n e = omega arith

pub returns-clause-so_far : goal.returns-clause-so_far
returns-clause-so_far c =
    let out = c.in_ok-outcome in
    let ran = out.field-0 in
    let line : Line = record { k = c.if-writer.self.writers; thread = c.args.thread; position = c.args.position; end = c.ending.result; replies = ran.outcome.replies } in
    let next : c.args.position ≡ suc (c.args.position - 1) = omega (arith, c.requires.first) in
    let at = at_place c.args.file.now c.args.thread c.args.position (c.args.position - 1) c.get.result.now c.get-script.result.now next c.get.ensures c.get-script.ensures in
    let text = c.get-script.result.now in
    let lines : c.if-writer.self.lines.items ≡ c.args.self.now.lines.items =
    elim c.if-writer.branch [ then-writer w ↦ ap (λ (p : Progress). p.lines.items) w.self-is | else-writer w ↦ ap (λ (p : Progress). p.lines.items) w.self-is ] in
    let after : c.if-writer.self.state.items ≡ c.run_transaction.new.state.items =
    elim c.if-writer.branch [ then-writer w ↦ ap (λ (p : Progress). p.state.items) w.self-is | else-writer w ↦ ap (λ (p : Progress). p.state.items) w.self-is ] in
    let counts : c.if-writer.self.writers ≡ counted ran.writer c.args.self.now.writers =
    elim c.if-writer.branch [
      | then-writer w ↦ ap (λ (p : Progress). p.writers) w.self-is ∙ one_more ran.writer c.args.self.now.writers w.if-writer.true
      | else-writer w ↦ ap (λ (p : Progress). p.writers) w.self-is ∙ no_more ran.writer c.args.self.now.writers w.if-writer.false
    ] in
    let f : Behaviour = meaning_of (script text) in
    let run : serial_run_of (machines_for (view c.args.file.now)) text.weight f c.args.self.now.state.items
    ≡ record { replies = map plain_reply ran.outcome.replies.items; end = ran.outcome.end; after = c.run_transaction.new.state.items } =
    ap (λ (s : List Shape). serial_run_of (machines_of s) text.weight f c.args.self.now.state.items) (sym c.requires.shapes) ∙ out.ensures.run in
    let is : IsTold (view c.args.file.now) c.args.self.now.writers c.args.self.now.state.items c.run_transaction.new.state.items line =
    is_told (view c.args.file.now) (script text) c.args.self.now.writers c.args.self.now.state.items c.run_transaction.new.state.items line ran.outcome.end ran.writer at run out.ensures.writer counts c.ending.ensures in
    let made = so_far-more (view c.args.file.now) c.args.self.now.lines.items c.push.new.self.items line c.args.self.now.writers c.args.self.now.state.items c.run_transaction.new.state.items
    (c.in_ok-push.ensures.ok ∙ ap (λ (ls : List Line). ls ++ line ∷ []) lines) (counted_below ran.writer line.k c.args.self.now.writers counts) out.ensures.objects is c.requires.so_far in
    subst (λ (st : State). IsSoFar (view c.args.file.now) c.push.new.self.items c.if-writer.self.writers st) (sym after) made
