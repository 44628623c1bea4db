use Rattle.std.proofs.Common.{◌≡◌, ℕ, refl, arith}
use Rattle.std.proofs.lemmas.Bool.Decides.{nat_tests}
use Rattle.sto_lang.specs.Views.{file as view}
use Rattle.sto_journal.specs.Journals.{places}
use Rattle.sto_checker.proofs.Places.{count_at}
use Rattle.sto_checker.proofs.Taken.{next_inside}
use Rattle.sto_checker.proofs.Givens.{has_transaction}
use Rattle.sto_checker.proofs.replayed.has_next.Goals as goal

pub returns-then-at-len : goal.returns-then-at-len
returns-then-at-len c = (
  (λ t.
      let next = c.is_next.ensures.0 t in
      let count = count_at c.args.file.now.threads.items c.args.at.thread c.get.result.now c.get.ensures in
      let script = has_transaction (view c.args.file.now).threads c.args.at.thread c.args.at.position (omega (arith, next)) (omega (arith, count, c.if-at-len.true, c.len.ensures)) in
      record { script = script.0; transaction = script.1; next = next }),
  (λ n. c.is_next.ensures.1 n.next),
)

pub returns-else-at-len : goal.returns-else-at-len
returns-else-at-len c = (
  (λ t. absurd (grind (arith, nat_tests, c.if-at-len.false))),
  (λ n.
      let i = next_inside (view c.args.file.now) (places c.args.past.now.run.lines.items) (c.args.at.thread, c.args.at.position) n in
      let count = count_at c.args.file.now.threads.items c.args.at.thread c.get.result.now c.get.ensures in
      absurd (omega (arith, i.last, count, c.if-at-len.false, c.len.ensures))),
)
