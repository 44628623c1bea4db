use Rattle.sto_type.specs.Traits.{of_type}
use Rattle.sto_attempt.proofs.Commits.{before_at, advances_at, prefix_after}
use Rattle.sto_attempt.proofs.ready.Ready.step.Goals as goal

pub lock-requires : goal.lock-requires
lock-requires g c =
    let a = c.args.self.now in
    before_at (of_type g.T.Naming g.T.TxType) g.B.Body a (g.C.Cells.view c.args.cells.now) a.commit_phase _ c.in-Locking.is c.requires

pub load-requires : goal.load-requires
load-requires g c =
    let a = c.args.self.now in
    before_at (of_type g.T.Naming g.T.TxType) g.B.Body a (g.C.Cells.view c.args.cells.now) a.commit_phase _ c.in-Loading.is c.requires

pub test-requires : goal.test-requires
test-requires g c =
    let a = c.args.self.now in
    before_at (of_type g.T.Naming g.T.TxType) g.B.Body a (g.C.Cells.view c.args.cells.now) a.commit_phase _ c.in-Testing.is c.requires

pub go_on_testing-requires : goal.go_on_testing-requires
go_on_testing-requires g c =
    let a = c.args.self.now in
    before_at (of_type g.T.Naming g.T.TxType) g.B.Body a (g.C.Cells.view c.args.cells.now) a.commit_phase _ c.in-Tested.is c.requires

pub draw-requires : goal.draw-requires
draw-requires g c =
    let a = c.args.self.now in
    before_at (of_type g.T.Naming g.T.TxType) g.B.Body a (g.C.Cells.view c.args.cells.now) a.commit_phase _ c.in-Drawing.is c.requires

pub check-requires : goal.check-requires
check-requires g c =
    let a = c.args.self.now in
    before_at (of_type g.T.Naming g.T.TxType) g.B.Body a (g.C.Cells.view c.args.cells.now) a.commit_phase _ c.in-Checking.is c.requires

pub commit-requires : goal.commit-requires
commit-requires g c =
    let a = c.args.self.now in
    before_at (of_type g.T.Naming g.T.TxType) g.B.Body a (g.C.Cells.view c.args.cells.now) a.commit_phase _ c.in-Deciding.is c.requires

pub put-requires : goal.put-requires
put-requires g c =
    let a = c.args.self.now in
    before_at (of_type g.T.Naming g.T.TxType) g.B.Body a (g.C.Cells.view c.args.cells.now) a.commit_phase _ c.in-Putting.is c.requires

pub release-requires : goal.release-requires
release-requires g c =
    let a = c.args.self.now in
    before_at (of_type g.T.Naming g.T.TxType) g.B.Body a (g.C.Cells.view c.args.cells.now) a.commit_phase _ c.in-Releasing.is c.requires

pub drop_entry-requires : goal.drop_entry-requires
drop_entry-requires g c =
    let a = c.args.self.now in
    before_at (of_type g.T.Naming g.T.TxType) g.B.Body a (g.C.Cells.view c.args.cells.now) a.commit_phase _ c.in-Dropping.is c.requires

pub leave-requires : goal.leave-requires
leave-requires g c =
    let a = c.args.self.now in
    before_at (of_type g.T.Naming g.T.TxType) g.B.Body a (g.C.Cells.view c.args.cells.now) a.commit_phase _ c.in-Leaving.is c.requires

pub returns-in-Locking-clause-advances : goal.returns-in-Locking-clause-advances
returns-in-Locking-clause-advances g c =
    let a = c.args.self.now in
    advances_at (of_type g.T.Naming g.T.TxType) g.B.Body (g.C.Cells.passes c.args.cells.now) a c.lock.new.self (g.C.Cells.view c.args.cells.now) (g.C.Cells.view c.lock.new.cells) c.lock.result a.commit_phase _ c.in-Locking.is c.lock.ensures.advances

pub returns-in-Locking-clause-prefix : goal.returns-in-Locking-clause-prefix
returns-in-Locking-clause-prefix g c =
    let a = c.args.self.now in
    prefix_after (of_type g.T.Naming g.T.TxType) g.B.Body (g.C.Cells.passes c.args.cells.now) a c.lock.new.self (g.C.Cells.view c.args.cells.now) (g.C.Cells.view c.lock.new.cells) c.lock.result _ c.requires c.lock.ensures.advances

pub returns-in-Locking-clause-same : goal.returns-in-Locking-clause-same
returns-in-Locking-clause-same g c = c.lock.ensures.same

pub returns-in-Loading-clause-advances : goal.returns-in-Loading-clause-advances
returns-in-Loading-clause-advances g c =
    let a = c.args.self.now in
    advances_at (of_type g.T.Naming g.T.TxType) g.B.Body (g.C.Cells.passes c.args.cells.now) a c.load.new.self (g.C.Cells.view c.args.cells.now) (g.C.Cells.view c.load.new.cells) c.load.result a.commit_phase _ c.in-Loading.is c.load.ensures.advances

pub returns-in-Loading-clause-prefix : goal.returns-in-Loading-clause-prefix
returns-in-Loading-clause-prefix g c =
    let a = c.args.self.now in
    prefix_after (of_type g.T.Naming g.T.TxType) g.B.Body (g.C.Cells.passes c.args.cells.now) a c.load.new.self (g.C.Cells.view c.args.cells.now) (g.C.Cells.view c.load.new.cells) c.load.result _ c.requires c.load.ensures.advances

pub returns-in-Loading-clause-same : goal.returns-in-Loading-clause-same
returns-in-Loading-clause-same g c = c.load.ensures.same

pub returns-in-Testing-clause-advances : goal.returns-in-Testing-clause-advances
returns-in-Testing-clause-advances g c =
    let a = c.args.self.now in
    advances_at (of_type g.T.Naming g.T.TxType) g.B.Body (g.C.Cells.passes c.args.cells.now) a c.test.new.self (g.C.Cells.view c.args.cells.now) (g.C.Cells.view c.test.new.cells) c.test.result a.commit_phase _ c.in-Testing.is c.test.ensures.advances

pub returns-in-Testing-clause-prefix : goal.returns-in-Testing-clause-prefix
returns-in-Testing-clause-prefix g c =
    let a = c.args.self.now in
    prefix_after (of_type g.T.Naming g.T.TxType) g.B.Body (g.C.Cells.passes c.args.cells.now) a c.test.new.self (g.C.Cells.view c.args.cells.now) (g.C.Cells.view c.test.new.cells) c.test.result _ c.requires c.test.ensures.advances

pub returns-in-Testing-clause-same : goal.returns-in-Testing-clause-same
returns-in-Testing-clause-same g c = c.test.ensures.same

pub returns-in-Tested-clause-advances : goal.returns-in-Tested-clause-advances
returns-in-Tested-clause-advances g c =
    let a = c.args.self.now in
    advances_at (of_type g.T.Naming g.T.TxType) g.B.Body (g.C.Cells.passes c.args.cells.now) a c.go_on_testing.new.self (g.C.Cells.view c.args.cells.now) (g.C.Cells.view c.go_on_testing.new.cells) c.go_on_testing.result a.commit_phase _ c.in-Tested.is c.go_on_testing.ensures.advances

pub returns-in-Tested-clause-prefix : goal.returns-in-Tested-clause-prefix
returns-in-Tested-clause-prefix g c =
    let a = c.args.self.now in
    prefix_after (of_type g.T.Naming g.T.TxType) g.B.Body (g.C.Cells.passes c.args.cells.now) a c.go_on_testing.new.self (g.C.Cells.view c.args.cells.now) (g.C.Cells.view c.go_on_testing.new.cells) c.go_on_testing.result _ c.requires c.go_on_testing.ensures.advances

pub returns-in-Tested-clause-same : goal.returns-in-Tested-clause-same
returns-in-Tested-clause-same g c = c.go_on_testing.ensures.same

pub returns-in-Drawing-clause-advances : goal.returns-in-Drawing-clause-advances
returns-in-Drawing-clause-advances g c =
    let a = c.args.self.now in
    advances_at (of_type g.T.Naming g.T.TxType) g.B.Body (g.C.Cells.passes c.args.cells.now) a c.draw.new.self (g.C.Cells.view c.args.cells.now) (g.C.Cells.view c.draw.new.cells) c.draw.result a.commit_phase _ c.in-Drawing.is c.draw.ensures.advances

pub returns-in-Drawing-clause-prefix : goal.returns-in-Drawing-clause-prefix
returns-in-Drawing-clause-prefix g c =
    let a = c.args.self.now in
    prefix_after (of_type g.T.Naming g.T.TxType) g.B.Body (g.C.Cells.passes c.args.cells.now) a c.draw.new.self (g.C.Cells.view c.args.cells.now) (g.C.Cells.view c.draw.new.cells) c.draw.result _ c.requires c.draw.ensures.advances

pub returns-in-Drawing-clause-same : goal.returns-in-Drawing-clause-same
returns-in-Drawing-clause-same g c = c.draw.ensures.same

pub returns-in-Checking-clause-advances : goal.returns-in-Checking-clause-advances
returns-in-Checking-clause-advances g c =
    let a = c.args.self.now in
    advances_at (of_type g.T.Naming g.T.TxType) g.B.Body (g.C.Cells.passes c.args.cells.now) a c.check.new.self (g.C.Cells.view c.args.cells.now) (g.C.Cells.view c.check.new.cells) c.check.result a.commit_phase _ c.in-Checking.is c.check.ensures.advances

pub returns-in-Checking-clause-prefix : goal.returns-in-Checking-clause-prefix
returns-in-Checking-clause-prefix g c =
    let a = c.args.self.now in
    prefix_after (of_type g.T.Naming g.T.TxType) g.B.Body (g.C.Cells.passes c.args.cells.now) a c.check.new.self (g.C.Cells.view c.args.cells.now) (g.C.Cells.view c.check.new.cells) c.check.result _ c.requires c.check.ensures.advances

pub returns-in-Checking-clause-same : goal.returns-in-Checking-clause-same
returns-in-Checking-clause-same g c = c.check.ensures.same

pub returns-in-Deciding-clause-advances : goal.returns-in-Deciding-clause-advances
returns-in-Deciding-clause-advances g c =
    let a = c.args.self.now in
    advances_at (of_type g.T.Naming g.T.TxType) g.B.Body (g.C.Cells.passes c.args.cells.now) a c.commit.new.self (g.C.Cells.view c.args.cells.now) (g.C.Cells.view c.commit.new.cells) c.commit.result a.commit_phase _ c.in-Deciding.is c.commit.ensures.advances

pub returns-in-Deciding-clause-prefix : goal.returns-in-Deciding-clause-prefix
returns-in-Deciding-clause-prefix g c =
    let a = c.args.self.now in
    prefix_after (of_type g.T.Naming g.T.TxType) g.B.Body (g.C.Cells.passes c.args.cells.now) a c.commit.new.self (g.C.Cells.view c.args.cells.now) (g.C.Cells.view c.commit.new.cells) c.commit.result _ c.requires c.commit.ensures.advances

pub returns-in-Deciding-clause-same : goal.returns-in-Deciding-clause-same
returns-in-Deciding-clause-same g c = c.commit.ensures.same

pub returns-in-Putting-clause-advances : goal.returns-in-Putting-clause-advances
returns-in-Putting-clause-advances g c =
    let a = c.args.self.now in
    advances_at (of_type g.T.Naming g.T.TxType) g.B.Body (g.C.Cells.passes c.args.cells.now) a c.put.new.self (g.C.Cells.view c.args.cells.now) (g.C.Cells.view c.put.new.cells) c.put.result a.commit_phase _ c.in-Putting.is c.put.ensures.advances

pub returns-in-Putting-clause-prefix : goal.returns-in-Putting-clause-prefix
returns-in-Putting-clause-prefix g c =
    let a = c.args.self.now in
    prefix_after (of_type g.T.Naming g.T.TxType) g.B.Body (g.C.Cells.passes c.args.cells.now) a c.put.new.self (g.C.Cells.view c.args.cells.now) (g.C.Cells.view c.put.new.cells) c.put.result _ c.requires c.put.ensures.advances

pub returns-in-Putting-clause-same : goal.returns-in-Putting-clause-same
returns-in-Putting-clause-same g c = c.put.ensures.same

pub returns-in-Releasing-clause-advances : goal.returns-in-Releasing-clause-advances
returns-in-Releasing-clause-advances g c =
    let a = c.args.self.now in
    advances_at (of_type g.T.Naming g.T.TxType) g.B.Body (g.C.Cells.passes c.args.cells.now) a c.release.new.self (g.C.Cells.view c.args.cells.now) (g.C.Cells.view c.release.new.cells) c.release.result a.commit_phase _ c.in-Releasing.is c.release.ensures.advances

pub returns-in-Releasing-clause-prefix : goal.returns-in-Releasing-clause-prefix
returns-in-Releasing-clause-prefix g c =
    let a = c.args.self.now in
    prefix_after (of_type g.T.Naming g.T.TxType) g.B.Body (g.C.Cells.passes c.args.cells.now) a c.release.new.self (g.C.Cells.view c.args.cells.now) (g.C.Cells.view c.release.new.cells) c.release.result _ c.requires c.release.ensures.advances

pub returns-in-Releasing-clause-same : goal.returns-in-Releasing-clause-same
returns-in-Releasing-clause-same g c = c.release.ensures.same

pub returns-in-Dropping-clause-advances : goal.returns-in-Dropping-clause-advances
returns-in-Dropping-clause-advances g c =
    let a = c.args.self.now in
    advances_at (of_type g.T.Naming g.T.TxType) g.B.Body (g.C.Cells.passes c.args.cells.now) a c.drop_entry.new.self (g.C.Cells.view c.args.cells.now) (g.C.Cells.view c.drop_entry.new.cells) c.drop_entry.result a.commit_phase _ c.in-Dropping.is c.drop_entry.ensures.advances

pub returns-in-Dropping-clause-prefix : goal.returns-in-Dropping-clause-prefix
returns-in-Dropping-clause-prefix g c =
    let a = c.args.self.now in
    prefix_after (of_type g.T.Naming g.T.TxType) g.B.Body (g.C.Cells.passes c.args.cells.now) a c.drop_entry.new.self (g.C.Cells.view c.args.cells.now) (g.C.Cells.view c.drop_entry.new.cells) c.drop_entry.result _ c.requires c.drop_entry.ensures.advances

pub returns-in-Dropping-clause-same : goal.returns-in-Dropping-clause-same
returns-in-Dropping-clause-same g c = c.drop_entry.ensures.same

pub returns-in-Leaving-clause-advances : goal.returns-in-Leaving-clause-advances
returns-in-Leaving-clause-advances g c =
    let a = c.args.self.now in
    advances_at (of_type g.T.Naming g.T.TxType) g.B.Body (g.C.Cells.passes c.args.cells.now) a c.leave.new.self (g.C.Cells.view c.args.cells.now) (g.C.Cells.view c.leave.new.cells) c.leave.result a.commit_phase _ c.in-Leaving.is c.leave.ensures.advances

pub returns-in-Leaving-clause-prefix : goal.returns-in-Leaving-clause-prefix
returns-in-Leaving-clause-prefix g c =
    let a = c.args.self.now in
    prefix_after (of_type g.T.Naming g.T.TxType) g.B.Body (g.C.Cells.passes c.args.cells.now) a c.leave.new.self (g.C.Cells.view c.args.cells.now) (g.C.Cells.view c.leave.new.cells) c.leave.result _ c.requires c.leave.ensures.advances

pub returns-in-Leaving-clause-same : goal.returns-in-Leaving-clause-same
returns-in-Leaving-clause-same g c = c.leave.ensures.same
