use Rattle.std.proofs.Common.{◌≡◌, List, length, map, ap, sym, subst, rules, arith}
use Rattle.std.proofs.lemmas.List.{length-map}
use Rattle.std.specs.List.Sorted.{IsStrictlySortedBy}
use Rattle.sto_orders.specs.declared.key.Key.{Key}
use Rattle.sto_orders.specs.declared.level.Node.{Node}
use Rattle.sto_orders.specs.Keys.{key_cmp}
use Rattle.sto_orders.specs.Levels.{node_of}
use Rattle.sto_orders.proofs.Levelling.{keys_of_nodes}
use Rattle.sto_orders.proofs.level.nodes_of.Goals as goal

pub returns-in-Ok-clause-apart : goal.returns-in-Ok-clause-apart
returns-in-Ok-clause-apart c =
    let each : c.in-Ok.nodes.items ≡ map node_of c.args.found.entries = search rules in
    subst (λ (ns : List Node). IsStrictlySortedBy key_cmp (map (λ (p : Node). p.key) ns)) (sym each)
    (subst (λ (ks : List Key). IsStrictlySortedBy key_cmp ks) (sym (keys_of_nodes c.args.found.entries)) c.len.ensures.ordered)

pub returns-in-Ok-clause-few : goal.returns-in-Ok-clause-few
returns-in-Ok-clause-few c =
    let each : c.in-Ok.nodes.items ≡ map node_of c.args.found.entries = search rules in
    let long = ap length each in
    omega (arith, long, length-map c.args.found.entries node_of, c.len.ensures.len, c.if-room-len.false)
