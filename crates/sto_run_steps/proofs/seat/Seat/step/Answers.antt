use Rattle.std.specs.Prelude.{None}
use Rattle.std.proofs.Common.{◌+◌, map, ap, ◌∙◌, OnOk, subst, arith}
use Rattle.std.proofs.lemmas.Result.{on_ok_weaker}
use Rattle.sto_model.specs.PlainReplies.{plain_reply}
use Rattle.sto_history.specs.Records.{Record}
use Rattle.sto_transaction.specs.Plain.{verdict}
use Rattle.sto_run_steps.specs.Stepped.{HasStepped}
use Rattle.sto_run_steps.specs.Seated.{HasKept, WithinAt}
use Rattle.sto_run_steps.specs.declared.attempts.Stepped.{Stepped}
use Rattle.sto_run_steps.specs.declared.seat.Seat.{Seat}
use Rattle.sto_run_steps.proofs.Seats.{goes_on, in_some, all_events, seat_kept, kept_events}
use Rattle.sto_run_steps.proofs.seat.Seat.step.Goals as goal

pub returns-in-Ended-clause-seated : goal.returns-in-Ended-clause-seated
returns-in-Ended-clause-seated g c =
    let plan = g.W.Work.plan c.args.work.now in
    let passes = g.C.Cells.passes c.args.cells.now in let v = g.C.Cells.view c.args.cells.now in
    let s = c.args.self.now in let seated = c.requires.seated in
    let going = goes_on s.ended s.count s.left c.requires.going seated.within in
    let fits = g.W.Attempts.fits c.args.work.now in let left = g.W.Attempts.left c.args.work.now in
    let wi = in_some (WithinAt plan fits passes c.args.thread s) c.begin.new.self.trial c.in-Some.trial v c.in-Some.is (c.in_ok-begin.ensures.within passes v seated) in
    let r : Record = record { place = (c.args.thread, s.ended + 1); replies = map plain_reply c.in-Ended.replies.items; verdict = verdict c.in-Ended.verdict } in
    let made = (subst (λ (x : Stepped). HasStepped plan fits left passes (c.args.thread, s.ended + 1) (left c.in-Some.trial) c.step.new.trial wi.begun (g.C.Cells.view c.step.new.cells) x) c.in-Ended.is (c.in_ok-step.ensures.stepped wi.begun wi.fits_now)).0 in
    let idle : Seat g.row.M.Denot = record s { trial = None } in
    on_ok_weaker c.keep.result
    (λ (k : HasKept r idle c.keep.new.self). seat_kept plan fits passes c.args.thread wi.begun (g.C.Cells.view c.step.new.cells) idle c.keep.new.self r
    seated.counted seated.each going wi.between made k.trial k)
    (subst (λ (x : Seat g.row.M.Denot). OnOk c.keep.result (HasKept r x c.keep.new.self)) (c.clear.ensures ∙ ap (λ (x : Seat g.row.M.Denot). record x { trial = None }) c.begin.ensures.kept) c.keep.ensures.kept)

pub returns-in-Ended-clause-left : goal.returns-in-Ended-clause-left
returns-in-Ended-clause-left g c =
    let plan = g.W.Work.plan c.args.work.now in
    let passes = g.C.Cells.passes c.args.cells.now in let v = g.C.Cells.view c.args.cells.now in
    let s = c.args.self.now in let seated = c.requires.seated in
    let going = goes_on s.ended s.count s.left c.requires.going seated.within in
    let fits = g.W.Attempts.fits c.args.work.now in let left = g.W.Attempts.left c.args.work.now in
    let wi = in_some (WithinAt plan fits passes c.args.thread s) c.begin.new.self.trial c.in-Some.trial v c.in-Some.is (c.in_ok-begin.ensures.within passes v seated) in
    let r : Record = record { place = (c.args.thread, s.ended + 1); replies = map plain_reply c.in-Ended.replies.items; verdict = verdict c.in-Ended.verdict } in
    let some = (subst (λ (x : Stepped). HasStepped plan fits left passes (c.args.thread, s.ended + 1) (left c.in-Some.trial) c.step.new.trial wi.begun (g.C.Cells.view c.step.new.cells) x) c.in-Ended.is (c.in_ok-step.ensures.stepped wi.begun wi.fits_now)).1 in
    let idle : Seat g.row.M.Denot = record s { trial = None } in
    let all = all_events left (g.W.Attempts.most c.args.work.now) s c.begin.new.self.trial c.in-Some.trial c.in-Some.is c.in_ok-begin.ensures.left in
    on_ok_weaker c.keep.result
    (λ (k : HasKept r idle c.keep.new.self).
    let e = kept_events left (g.W.Attempts.most c.args.work.now) idle c.keep.new.self r c.in-Some.trial going k k.trial some in omega (arith, e, all))
    (subst (λ (x : Seat g.row.M.Denot). OnOk c.keep.result (HasKept r x c.keep.new.self)) (c.clear.ensures ∙ ap (λ (x : Seat g.row.M.Denot). record x { trial = None }) c.begin.ensures.kept) c.keep.ensures.kept)
