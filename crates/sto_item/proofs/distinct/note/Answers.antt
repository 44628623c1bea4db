use Rattle.std.proofs.Common.{arith}
use Rattle.sto_item.specs.Known.{HaveSame}
use Rattle.sto_item.proofs.Known.{same_pushed}
use Rattle.sto_item.proofs.distinct.note.Goals as goal
use Rattle.sto_item.proofs.distinct.note.Goals.{then-items-eq-FEW+in-Ok, else-items-eq-FEW}

pub returns-in-Ok-insert-clause-ok : goal.returns-in-Ok-insert-clause-ok
returns-in-Ok-insert-clause-ok c =
    let same : HaveSame c.args.items.now c.if-items-eq-FEW.known.keys = elim c.if-items-eq-FEW.branch [
      | then-items-eq-FEW+in-Ok w ↦ rw w.known-is w.in-Ok.ensures
      | else-items-eq-FEW w ↦ rw w.known-is (c.requires.known (omega (arith, c.if-items-lt-FEW.false, w.if-items-eq-FEW.false)))
    ] in
    λ _. same_pushed c.args.items.now c.if-items-eq-FEW.known c.insert.new.self c.args.item c.in-Ok-insert.field-0 c.requires.absent same c.in-Ok-insert.ensures.added c.in-Ok-insert.ensures.keys

pub returns-in-Err-insert-clause-err : goal.returns-in-Err-insert-clause-err
returns-in-Err-insert-clause-err c =
    let same : HaveSame c.args.items.now c.if-items-eq-FEW.known.keys = elim c.if-items-eq-FEW.branch [
      | then-items-eq-FEW+in-Ok w ↦ rw w.known-is w.in-Ok.ensures
      | else-items-eq-FEW w ↦ rw w.known-is (c.requires.known (omega (arith, c.if-items-lt-FEW.false, w.if-items-eq-FEW.false)))
    ] in
    λ _. rw c.in-Err-insert.ensures.err same
