use Rattle.std.proofs.Common.{◌≡◌, ℕ, List, [], ◌∷◌, ◌++◌, take, ap, sym, ◌∙◌, append-nil}
use Rattle.sto_attempt_log.specs.declared.verdict.Verdict.{Verdict}
use Rattle.sto_run.specs.Tickets.{ticket_in, tickets_of}
use Rattle.sto_run.proofs.Counted.{tickets_more, no_ticket}
use Rattle.sto_run.proofs.rank.tickets.Goals as goal
use Rattle.sto_run.proofs.rank.tickets.Goals.{in-Wrote+in_ok-push, in_default}

pub loop-record-preserved : goal.loop-record-preserved
loop-record-preserved c =
    let e = tickets_more c.args.records.now c.loop-record.record-index c.record-item.result c.loop-record-test.true c.record-item.is in
    let old : List ℕ = tickets_of (take c.loop-record.record-index c.args.records.now) in
    elim c.match-record.branch [
      | in-Wrote+in_ok-push w ↦
          ap (λ v. v.items) w.found-is
          ∙ w.in_ok-push.ensures.items
          ∙ ap (λ (l : List ℕ). l ++ w.in-Wrote.ticket ∷ []) c.loop-record.invariant
          ∙ ap (λ (v : Verdict). tickets_of (take c.loop-record.record-index c.args.records.now) ++ ticket_in v) (sym w.in-Wrote.is)
          ∙ sym e
      | in_default w ↦
          ap (λ v. v.items) w.found-is
          ∙ c.loop-record.invariant
          ∙ sym (append-nil (tickets_of (take c.loop-record.record-index c.args.records.now)))
          ∙ ap (λ (l : List ℕ). tickets_of (take c.loop-record.record-index c.args.records.now) ++ l) (sym (no_ticket c.record-item.result.verdict w.in_default.not-Wrote))
          ∙ sym e
    ]
