use Rattle.std.proofs.Common.{◌≡◌, length, Some, slice_get, refl, arith}
use Rattle.std.proofs.lemmas.Option.{slice_get_read, slice_get_within}
use Rattle.std.proofs.lemmas.Result.{err_from_is_err_and}
use Rattle.sto_lang.specs.Views.{file as view}
use Rattle.sto_orders.proofs.Levelling.{level_more}
use Rattle.sto_orders.proofs.Refusing.{level_cause}
use Rattle.sto_orders.proofs.Nexts.{found_none, next_nodes}
use Rattle.sto_orders.proofs.level.next_level.Goals as goal

pub go_on_from-requires-clause-node : goal.go_on_from-requires-clause-node
go_on_from-requires-clause-node c =
    let nodes = c.args.nodes.now in
    let at : slice_get nodes c.loop-node.node-index ≡ Some c.node-item.result = slice_get_read nodes (length nodes) c.loop-node.node-index c.node-item.result refl c.loop-node-test.true c.node-item.is in
    record { count = c.requires.level.count; few = c.requires.level.few; ways = c.requires.level.level.ways c.loop-node.node-index c.node-item.result at }

pub loop-node-init : goal.loop-node-init
loop-node-init c = record {
  found = λ count level key ways e. absurd (found_none c.new-found.result key ways c.new-found.ensures.empty e);
  next = λ k p l e. absurd (omega (arith, l));
}

pub loop-node-preserved : goal.loop-node-preserved
loop-node-preserved c =
    let f = view c.args.file.now in
    let nodes = c.args.nodes.now in
    let i = c.loop-node.node-index in
    let node = c.node-item.result in
    let at : slice_get nodes i ≡ Some node = slice_get_read nodes (length nodes) i node refl c.loop-node-test.true c.node-item.is in
    let more = c.in_ok-go_on_from.ensures in
    record {
      found = λ count level. more.found count (level.ways i node at) (c.loop-node.invariant.found count level);
      next = next_nodes c.args.by f c.loop-node.found c.go_on_from.new.found nodes i node (length f.threads) at more.keeps c.loop-node.invariant.next more.next;
    }

pub returns-clause-level : goal.returns-clause-level
returns-clause-level c = λ count level.
    let nodes = c.args.nodes.now in
    level_more c.args.by (view c.args.file.now) count nodes c.loop-node.found c.in_ok-next.next.items level (c.loop-node.invariant.found count level)
    (λ k p e. c.loop-node.invariant.next k p (omega (arith, c.loop-node-test.false, slice_get_within nodes k p e)) e) c.in_ok-next.ensures.each c.in_ok-next.ensures.apart

pub returns-in_err-next-clause-cause : goal.returns-in_err-next-clause-cause
returns-in_err-next-clause-cause c =
    let p = err_from_is_err_and c.from_residual-in_err-next.result c.from_residual-in_err-next.ensures.1 in
    let nodes = c.args.nodes.now in
    rw (p.1, p.2)
    (level_cause c.args.by (view c.args.file.now) nodes c.loop-node.found c.args.room c.in_err-next.field-0.0 c.loop-node.invariant.found
    (λ k p e. c.loop-node.invariant.next k p (omega (arith, c.loop-node-test.false, slice_get_within nodes k p e)) e) c.in_err-next.ensures.cause)
