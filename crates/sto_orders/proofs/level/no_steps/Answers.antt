use Rattle.std.proofs.Common.{◌≡◌, List, [], ◌∷◌, ◌++◌, ap, ◌∙◌, rules}
use Rattle.sto_orders.specs.declared.way.Way.{Way}
use Rattle.sto_orders.proofs.level.no_steps.Goals as goal

pub returns : goal.returns
returns c =
    let way : Way = record { order = c.new.result; legs = 0 } in
    let added : c.push.new.self.items ≡ c.new-each.result.items ++ way ∷ [] = search rules in
    record { way = way; only = added ∙ ap (λ (ws : List Way). ws ++ way ∷ []) c.new-each.ensures.items; none = c.new.ensures.items }
