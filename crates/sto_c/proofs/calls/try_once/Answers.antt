-- A try ends with its commit, or with the first call that was not answered.
use Rattle.std.proofs.Common.{inl, inr}
use Rattle.sto_c.proofs.Whole.{tried_by_commit}
use Rattle.sto_c.proofs.calls.try_once.Goals as goal

pub returns-in-Ok-ask_all-clause-tried : goal.returns-in-Ok-ask_all-clause-tried
returns-in-Ok-ask_all-clause-tried c =
    tried_by_commit c.args.calls.now c.ask_all.new.replies c.commit.new.place c.args.held.now c.begin.new.held c.ask_all.new.held c.commit.result c.commit.new.held
    c.in-Ok.ensures.begun c.in-Ok-ask_all.ensures.asked c.commit.ensures.committed

pub returns-in-Err-ask_all-clause-tried : goal.returns-in-Err-ask_all-clause-tried
returns-in-Err-ask_all-clause-tried c =
    inr (inl (record {
      begun = c.begin.new.held;
      failed = c.ask_all.new.held;
      ended = c.cancel-given_up.result;
      begins = c.in-Ok.ensures.begun;
      fails = c.in-Err-ask_all.ensures.unanswered;
      ends = c.cancel-given_up.ensures.cancelled;
    }))
