use Rattle.std.proofs.Common.{◌≤◌, ◌∙◌, Bool, ap, if◌then◌else◌}
use Rattle.sto_script.proofs.Steps.{branch_taken, room-opened, choice_few, choice_room}
use Rattle.sto_lang.specs.Written.{statements_of}
use Rattle.sto_script.specs.declared.block.Block.TheVariants.{Choice}
use Rattle.sto_script.proofs.running.Running.choose.Goals as goal

pub push_spare-requires-clause-few : goal.push_spare-requires-clause-few
push_spare-requires-clause-few c =
    choice_few c.args.a.now c.args.test c.args.b.now (statements_of c.args.yes.now) (statements_of c.args.no.now) (statements_of c.args.after.now) c.args.self.now.blocks c.requires.few

pub push_spare-requires-clause-room : goal.push_spare-requires-clause-room
push_spare-requires-clause-room c =
    choice_room c.args.a.now c.args.test c.args.b.now (statements_of c.args.yes.now) (statements_of c.args.no.now) (statements_of c.args.after.now) c.args.self.now.blocks c.requires.room

pub returns-clause-leads : goal.returns-clause-leads
returns-clause-leads c =
    let bs = c.args.self.now.blocks in
    let few : 1 ≤ bs.spare = choice_room c.args.a.now c.args.test c.args.b.now (statements_of c.args.yes.now) (statements_of c.args.no.now) (statements_of c.args.after.now) bs c.requires.room in
    branch_taken c.args.a.now c.args.test c.args.b.now (statements_of c.args.yes.now) (statements_of c.args.no.now) c.args.after (statements_of c.branch-first.result.now) bs c.push_spare.new.self c.args.self.now.variables.values.items
    (c.branch-first.ensures ∙ ap (λ (first : Bool). if first then statements_of c.args.yes.now else statements_of c.args.no.now) c.compare-first.ensures)
    (ap (λ l. l.items) c.push_spare.ensures)
    (room-opened bs c.push_spare.new.self (Choice c.args.after) c.push_spare.ensures few)
