-- One attempt adds one record, and that tells what the code said.
use Rattle.std.proofs.Common.{rules, ◌≡◌, [], ◌∷◌, ◌++◌}
use Rattle.sto_transaction.specs.Plain.{verdict}
use Rattle.sto_action.proofs.Causes.{told_names}
use Rattle.sto_action.proofs.Tried.{broken_none, same_run, last_added, told_tried, told_alone}
use Rattle.sto_action.proofs.attempt.attempt.Goals as goal

pub returns-in-Err-clause-tried : goal.returns-in-Err-clause-tried
returns-in-Err-clause-tried g c =
    broken_none (g.T.TxType.meaning c.args.ty.now) (g.T.Naming.sizes c.args.ty.now) (g.C.Cells.view c.args.cells.now) (g.C.Cells.view c.run.new.cells) _ _ _ _ c.in-Err.ensures.err

pub tried_by-tried-requires : goal.tried_by-tried-requires
tried_by-tried-requires g c =
    let m = g.T.TxType.meaning c.args.ty.now in let sizes = g.T.Naming.sizes c.args.ty.now in
    let passes = g.C.Cells.passes c.args.cells.now in
    let v = g.C.Cells.view c.args.cells.now in let w = g.C.Cells.view c.run.new.cells in
    let body = c.in_ok-body.body in let ended = c.in-Ok.transacted.ended in
    let same = c.in_ok-body.ensures in
    let ran = same_run g.K.Action.does m sizes passes v w (0, 1) c.take_records-records.result.items c.run.new.records.items ended
    body.code.now c.args.code.now body.shapes.now c.args.shapes.now body.most (g.K.Action.most c.args.code.now) same.0 same.1 same.2 c.take_records-records.ensures c.in-Ok.ensures.ran in
    let all : c.run.new.records.items ≡ c.pop.new.self.items ++ c.in-Some.last ∷ [] = search rules in
    told_names m (g.met.T.TxType.lawful c.args.ty.now) w _ _ (verdict c.in-Some.last.verdict)
    (last_added m sizes passes v w _ (0, 1) c.pop.new.self.items c.in-Some.last c.run.new.records.items ended all ran).told

pub returns-clause-tried : goal.returns-clause-tried
returns-clause-tried g c =
    let m = g.T.TxType.meaning c.args.ty.now in let sizes = g.T.Naming.sizes c.args.ty.now in
    let passes = g.C.Cells.passes c.args.cells.now in
    let v = g.C.Cells.view c.args.cells.now in let w = g.C.Cells.view c.run.new.cells in
    let body = c.in_ok-body.body in let ended = c.in-Ok.transacted.ended in
    let same = c.in_ok-body.ensures in
    let ran = same_run g.K.Action.does m sizes passes v w (0, 1) c.take_records-records.result.items c.run.new.records.items ended
    body.code.now c.args.code.now body.shapes.now c.args.shapes.now body.most (g.K.Action.most c.args.code.now) same.0 same.1 same.2 c.take_records-records.ensures c.in-Ok.ensures.ran in
    let all : c.run.new.records.items ≡ c.pop.new.self.items ++ c.in-Some.last ∷ [] = search rules in
    told_tried m sizes passes v w c.args.shapes.now.items (g.K.Action.most c.args.code.now) (g.K.Action.does c.args.code.now) (0, 1) c.pop.new.self.items c.in-Some.last c.run.new.records.items ended
    c.tried_by-tried.result all ran c.tried_by-tried.ensures

pub returns-clause-alone : goal.returns-clause-alone
returns-clause-alone g c =
    let m = g.T.TxType.meaning c.args.ty.now in let sizes = g.T.Naming.sizes c.args.ty.now in
    let passes = g.C.Cells.passes c.args.cells.now in
    let v = g.C.Cells.view c.args.cells.now in let w = g.C.Cells.view c.run.new.cells in
    let body = c.in_ok-body.body in let ended = c.in-Ok.transacted.ended in
    let same = c.in_ok-body.ensures in
    let ran = same_run g.K.Action.does m sizes passes v w (0, 1) c.take_records-records.result.items c.run.new.records.items ended
    body.code.now c.args.code.now body.shapes.now c.args.shapes.now body.most (g.K.Action.most c.args.code.now) same.0 same.1 same.2 c.take_records-records.ensures c.in-Ok.ensures.ran in
    let all : c.run.new.records.items ≡ c.pop.new.self.items ++ c.in-Some.last ∷ [] = search rules in
    told_alone m sizes passes v w _ (0, 1) c.pop.new.self.items c.in-Some.last c.run.new.records.items ended c.tried_by-tried.result _ all ran c.tried_by-tried.ensures
