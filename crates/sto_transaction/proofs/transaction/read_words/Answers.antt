-- Each word is a step of the attempt that reads, by `proofs/Steps`.
use Rattle.std.proofs.Common.{◌≡◌, ◌<◌, ℕ, Result, map, sym, ◌∙◌, subst, arith}
use Rattle.sto_part.specs.declared.NoMemory.{NoMemory}
use Rattle.sto_model.specs.Run.{Behaviour}
use Rattle.sto_model.specs.PlainReplies.{plain_reply}
use Rattle.sto_core.specs.declared.view.View.{View}
use Rattle.sto_attempt_log.specs.declared.verdict.Turn.{Turn}
use Rattle.sto_attempt_log.proofs.Reading.{always_err}
use Rattle.sto_transaction.specs.declared.machine.Machine.TheVariants.{Running}
use Rattle.sto_transaction.specs.Machines.{Proceeds, HasStopped, HasTurned}
use Rattle.sto_transaction.proofs.SomeLeft.{some_left}
use Rattle.sto_transaction.proofs.Steps.{reads_on, read_more, fewer_left}
use Rattle.sto_transaction.proofs.transaction.read_words.Goals as goal

pub words_left-end-requires : goal.words_left-end-requires
words_left-end-requires g c =
    let r = c.requires in
    (g.C.Cells.view c.args.cells.now, record { goes = r.3.1.goes; log = r.3.1.own.log })

pub read_word-requires-clause-before : goal.read_word-requires-clause-before
read_word-requires-clause-before g c =
    let r = c.requires in
    let h = c.loop.invariant.proceeds r.0 r.1 r.2 r.3 in
    record { goes = h.1.goes; log = h.1.own.log }

pub read_word-requires-clause-more : goal.read_word-requires-clause-more
read_word-requires-clause-more g c = omega (arith, c.loop-test.true, c.loop.invariant.words, c.words_left-end.ensures.left)

pub read_word-requires-clause-few : goal.read_word-requires-clause-few
read_word-requires-clause-few g c =
    let some : 0 < c.words_left-end.result = omega (arith, c.loop-test.true) in
    omega (arith, c.loop-test.true, c.loop.invariant.long, c.words_left-end.ensures.few some)

pub returns-in_err-read_word-clause-err : goal.returns-in_err-read_word-clause-err
returns-in_err-read_word-clause-err g c ty f begun h =
    let first = c.args.cells.now in
    let a = c.loop.attempt in
    let b = c.read_word.new.self in
    let here = c.loop.cells in
    let later = c.read_word.new.cells in
    let k = c.read_word.ensures.steps in
    let turned : (ty : g.row.T.Denot) (f : Behaviour) (begun : View) → Proceeds g.T.TxType.meaning g.T.Naming.valid g.T.Naming.sizes g.B.Body.script g.B.Body.then g.B.Body.left g.B.Body.may_ask (g.C.Cells.passes first) ty f (Running c.args.attempt.now) begun (g.C.Cells.view first)
    → HasTurned g.T.TxType.meaning g.T.Naming.valid g.T.Naming.sizes g.B.Body.script g.B.Body.then g.B.Body.left g.B.Body.may_ask (g.C.Cells.passes here) ty f c.read_word.result (Running b) begun (g.C.Cells.view later) = λ ty f begun h.
    (let it = c.loop.invariant.proceeds ty f begun h in
    reads_on g.T.TxType.meaning g.T.Naming.valid g.T.Naming.sizes g.B.Body.script g.B.Body.then g.B.Body.left g.B.Body.may_ask (g.C.Cells.passes here) ty f a b begun (g.C.Cells.view here) (g.C.Cells.view later) c.read_word.result it.0 it.1 k.ty k.script k.event k.log k.turned k.alone k.moves k.err) in
    always_err c.from_residual.result (HasStopped (g.T.TxType.meaning ty) (g.T.Naming.sizes ty) begun (g.C.Cells.view later))
    (subst (λ (r : Result Turn NoMemory). HasTurned g.T.TxType.meaning g.T.Naming.valid g.T.Naming.sizes g.B.Body.script g.B.Body.then g.B.Body.left g.B.Body.may_ask (g.C.Cells.passes here) ty f r (Running b) begun (g.C.Cells.view later)) c.in_err-read_word.was (turned ty f begun h))

pub returns-in_err-read_word-clause-same : goal.returns-in_err-read_word-clause-same
returns-in_err-read_word-clause-same g c = g.met.C.Cells.same_through c.args.cells.now c.loop.cells c.read_word.new.cells c.loop.invariant.same c.read_word.ensures.same

pub loop-preserved : goal.loop-preserved
loop-preserved g c =
    let first = c.args.cells.now in
    let a = c.loop.attempt in
    let b = c.read_word.new.self in
    let here = c.loop.cells in
    let later = c.read_word.new.cells in
    let k = c.read_word.ensures.steps in
    let turned : (ty : g.row.T.Denot) (f : Behaviour) (begun : View) → Proceeds g.T.TxType.meaning g.T.Naming.valid g.T.Naming.sizes g.B.Body.script g.B.Body.then g.B.Body.left g.B.Body.may_ask (g.C.Cells.passes first) ty f (Running c.args.attempt.now) begun (g.C.Cells.view first)
    → HasTurned g.T.TxType.meaning g.T.Naming.valid g.T.Naming.sizes g.B.Body.script g.B.Body.then g.B.Body.left g.B.Body.may_ask (g.C.Cells.passes here) ty f c.read_word.result (Running b) begun (g.C.Cells.view later) = λ ty f begun h.
    (let it = c.loop.invariant.proceeds ty f begun h in
    reads_on g.T.TxType.meaning g.T.Naming.valid g.T.Naming.sizes g.B.Body.script g.B.Body.then g.B.Body.left g.B.Body.may_ask (g.C.Cells.passes here) ty f a b begun (g.C.Cells.view here) (g.C.Cells.view later) c.read_word.result it.0 it.1 k.ty k.script k.event k.log k.turned k.alone k.moves k.err) in
    let passes : g.C.Cells.passes later ≡ g.C.Cells.passes here = g.met.C.Cells.same_passes here later c.read_word.ensures.same in
    let fewer = fewer_left g.T.TxType.meaning g.T.Naming.valid g.T.Naming.sizes g.B.Body.script g.B.Body.then g.B.Body.left g.B.Body.may_ask a b k.ty c.in_ok-read_word.ensures.steps.left in
    record {
      proceeds = λ ty f begun h.
          subst (λ (n : ℕ). Proceeds g.T.TxType.meaning g.T.Naming.valid g.T.Naming.sizes g.B.Body.script g.B.Body.then g.B.Body.left g.B.Body.may_ask n ty f (Running b) begun (g.C.Cells.view later)) (sym passes)
          (read_more g.T.TxType.meaning g.T.Naming.valid g.T.Naming.sizes g.B.Body.script g.B.Body.then g.B.Body.left g.B.Body.may_ask (g.C.Cells.passes here) ty f c.read_word.result (Running b) begun (g.C.Cells.view later) _ c.in_ok-read_word.was c.read_word.ensures.one.0 (turned ty f begun h));
      goes =
          let before = c.loop.invariant.goes in
          record {
            fewer = omega (arith, fewer, before.fewer);
            taken = omega (arith, fewer, k.event.tells.counts, before.taken);
            calls = k.left_at_reset ∙ before.calls;
          };
      words = omega (arith, c.in_ok-read_word.ensures.one.1, c.loop.invariant.words);
      long = omega (arith, c.in_ok-read_word.ensures.longer, c.loop.invariant.long);
      same = g.met.C.Cells.same_through first here later c.loop.invariant.same c.read_word.ensures.same;
    }

pub returns-clause-proceeds : goal.returns-clause-proceeds
returns-clause-proceeds g c ty f begun h =
    let first = c.args.cells.now in
    let here = c.loop.cells in
    let passes : g.C.Cells.passes here ≡ g.C.Cells.passes first = g.met.C.Cells.same_passes first here c.loop.invariant.same in
    subst (λ (n : ℕ). Proceeds g.T.TxType.meaning g.T.Naming.valid g.T.Naming.sizes g.B.Body.script g.B.Body.then g.B.Body.left g.B.Body.may_ask n ty f (Running c.loop.attempt) begun (g.C.Cells.view here)) passes (c.loop.invariant.proceeds ty f begun h)

pub returns-in_err-read_word-clause-steps : goal.returns-in_err-read_word-clause-steps
returns-in_err-read_word-clause-steps g c =
    let r = c.requires in
    let a = c.loop.attempt in
    let v = g.C.Cells.view c.loop.cells in
    let h = c.loop.invariant.proceeds r.0 r.1 r.2 r.3 in
    let some = some_left (g.T.TxType.meaning a.log.ty.now) (g.met.T.TxType.lawful a.log.ty.now) g.T.Naming.valid (g.T.Naming.sizes a.log.ty.now) (g.B.Body.script a.log.body) a.at (g.B.Body.left a.log.body) a.log.table.words.items a.log.table.extension a.log.table.base.items a.log.table.set.items a.log.table.set.updates (map plain_reply a.log.table.replies.items) v a.read_phase h.1.goes in
    omega (arith, c.read_word.ensures.steps.event.tells.counts, some, c.loop.invariant.goes.taken)
