use Rattle.std.proofs.Common.{[], rules, refl, pos}
use Rattle.sto_attempt_log.proofs.Drawn.{may_decide}
use Rattle.sto_attempt_log.proofs.Installing.{decide_goes}
use Rattle.sto_attempt_log.proofs.Aiming.{puts_next}
use Rattle.sto_attempt_log.proofs.Remaining.{decide_lowers}
use Rattle.sto_attempt_log.proofs.Space.{space_puts}
use Rattle.sto_attempt_log.proofs.Undisturbed.{puts_on}
use Rattle.sto_type.specs.Traits.{of_type}
use Rattle.sto_attempt.specs.Commits.{deal_of, committer_of}
use Rattle.sto_attempt_log.proofs.CommitSteps.{decide_on}
use Rattle.sto_attempt.proofs.ready.Ready.commit.Goals as goal

pub decide-requires : goal.decide-requires
decide-requires g c =
    let a = c.args.self.now in
    let d = deal_of (of_type g.T.Naming g.T.TxType) g.B.Body a in
    let v = g.C.Cells.view c.args.cells.now in
    may_decide d c.args.ticket a.log.table.lists.found_tickets a.log.table.lists.loaded_words.items v c.requires.stands

pub returns : goal.returns
returns g c =
    let a = c.args.self.now in
    let d = deal_of (of_type g.T.Naming g.T.TxType) g.B.Body a in
    let v = g.C.Cells.view c.args.cells.now in
    let w = g.C.Cells.view c.decide.new.self in
    let it = decide_goes d c.args.ticket a.log.table.lists.found_tickets a.log.table.lists.loaded_words.items v _ c.requires.stands w _ _ _ c.decide.ensures.tells in
    record {
      advances = record {
        event = search rules;
        said = puts_next d 0 c.args.ticket [] a.log.table.lists.found_tickets a.log.table.lists.loaded_words.items w it it.sealed.some c.next_put-self.result c.next_put-self.ensures;
        space = space_puts (g.T.TxType.meaning c.args.self.now.log.ty.now).widths c.args.self.now.log.table.lists.tasks.items c.args.self.now.log.table.lists.loaded_words c.args.self.now.log.table.lists.places.items 0 c.args.ticket c.next_put-self.result c.next_put-self.ensures;
        left = decide_lowers d c.args.ticket c.next_put-self.result c.next_put-self.ensures;
        reason = λ y e. absurd (puts_on a.log.table.lists.places.items 0 c.args.ticket c.next_put-self.result c.next_put-self.ensures y e);
        alone = λ one quiet. record { early = quiet.early; unaborted = λ y e. absurd (puts_on a.log.table.lists.places.items 0 c.args.ticket c.next_put-self.result c.next_put-self.ensures y e) };
        by = search rules;
        commits = record { number = 0; value = pos 0; tells = c.decide.ensures.tells; leads = decide_on (g.T.TxType.meaning a.log.ty.now) (committer_of a) c.args.ticket 0 (pos 0) c.next_put-self.result c.next_put-self.ensures };
        kept = refl;
      };
      kept = refl;
      same = c.decide.ensures.same;
    }
