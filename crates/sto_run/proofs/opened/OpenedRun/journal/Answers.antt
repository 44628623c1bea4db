use Rattle.std.proofs.Common.{◌≡◌, ◌≤◌, ℕ, List, [], length, map, refl, arith}
use Rattle.std.proofs.lemmas.Result.{IfOk-weaker}
use Rattle.sto_lang.specs.Scripts.{File}
use Rattle.sto_type.specs.Meaning.{Meaning}
use Rattle.sto_serializability.specs.Meanings.{updating_by}
use Rattle.sto_run.proofs.Alone.{no_aborts, never_aborted}
use Rattle.sto_run.proofs.opened.OpenedRun.journal.Goals as goal

pub journal_of-requires-clause-one : goal.journal_of-requires-clause-one
journal_of-requires-clause-one g c = λ κs within. c.requires.finished.one

pub journal_of-requires-clause-rests : goal.journal_of-requires-clause-rests
journal_of-requires-clause-rests g c = λ κs within. c.requires.finished.rests

pub journal_of-requires-clause-finished : goal.journal_of-requires-clause-finished
journal_of-requires-clause-finished g c = λ κs within. (c.args.self.now.work.tries, c.requires.tries, c.requires.finished.finished)

pub returns-clause-lawful : goal.returns-clause-lawful
returns-clause-lawful g c = IfOk-weaker c.journal_of.result _ _ (λ j h. h c.args.self.now.work.tries c.requires.finished.finished) c.journal_of.ensures.lawful

pub returns-clause-alone : goal.returns-clause-alone
returns-clause-alone g c = λ none.
    let m : Meaning = g.T.TxType.meaning c.args.self.now.work.ty.now in
    let file : File = g.F.Workload.file c.args.self.now.work.workload in
    IfOk-weaker c.journal_of.result _ _
    (λ j h. no_aborts (updating_by (λ shapes. m)) file j (h 0 (never_aborted m file c.args.self.now.work.tries _ _ c.requires.finished.finished none)))
    c.journal_of.ensures.lawful

pub returns-clause-in_turn : goal.returns-clause-in_turn
returns-clause-in_turn g c = λ turn.
    let file : File = g.F.Workload.file c.args.self.now.work.workload in c.journal_of.ensures.in_turn (0, 0) (length file.threads, 0) turn
