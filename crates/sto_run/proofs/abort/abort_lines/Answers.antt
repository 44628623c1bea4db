use Rattle.std.proofs.Common.{ap, map, slice_index_or, arith, rules, length, refl}
use Rattle.sto_journal.specs.Journals.{home_pair}
use Rattle.sto_run.proofs.AbortSteps.{one_more, room_more, locked_line, changed_line}
use Rattle.sto_run.proofs.abort.abort_lines.Goals as goal

pub loop-record-preserved-in-Continue-1 : goal.loop-record-preserved-in-Continue-1
loop-record-preserved-in-Continue-1 c = record {
  so_far = λ ds. one_more ds (map home_pair c.args.homes.now) c.args.tickets.now c.loop-record.lines.items _ _ c.loop-record.yielded c.in-Some.record
      c.in_ok-push-in-Locked.ensures.ok (c.loop-record.invariant.so_far ds)
      (locked_line ds c.args.homes.now c.args.tickets.now c.in-Some.record c.in-Locked.at c.in-Locked.part c.rank.result _ c.in-Locked.is c.rank.ensures.counts refl);
  room = room_more c.loop-record.lines.items _ _ c.loop-record.yielded c.in-Some.record c.in_ok-push-in-Locked.ensures.ok c.loop-record.invariant.room;
}

pub loop-record-preserved-in-Continue-branch-2 : goal.loop-record-preserved-in-Continue-branch-2
loop-record-preserved-in-Continue-branch-2 c = record {
  so_far = λ ds. one_more ds (map home_pair c.args.homes.now) c.args.tickets.now c.loop-record.lines.items _ _ c.loop-record.yielded c.in-Some.record
      c.in_ok-push-in-Changed.ensures.ok (c.loop-record.invariant.so_far ds)
      (changed_line ds c.args.homes.now c.args.tickets.now c.in-Some.record c.in-Changed.at c.in-Changed.part c.in-Changed.ticket c.rank-in-Changed.result c.rank-in-Changed-2.result _ c.in-Changed.is c.rank-in-Changed.ensures.counts c.rank-in-Changed-2.ensures.counts refl);
  room = room_more c.loop-record.lines.items _ _ c.loop-record.yielded c.in-Some.record c.in_ok-push-in-Changed.ensures.ok c.loop-record.invariant.room;
}
