use Rattle.std.specs.Prelude.{OnOk, Option, None, Some}
use Rattle.std.specs.Option.{option_copied_mut}
use Rattle.std.specs.BTreeMap.{get}
use Rattle.std.proofs.Common.{◌≡◌, MutBor, rules, sym, ap, ◌∙◌, subst}
use Rattle.std.proofs.lemmas.Result.{on_ok_weaker}
use Rattle.sto_orders.specs.declared.way.Ways.{Ways}
use Rattle.sto_orders.specs.Keys.{key_cmp}
use Rattle.sto_orders.specs.Levels.{Found, HasMoreWays, IsAdded}
use Rattle.sto_orders.proofs.Nexts.{added_again, added_first}
use Rattle.sto_orders.proofs.found.add.Goals as goal

pub returns-in-Some : goal.returns-in-Some
returns-in-Some c =
    let ways = c.add_way.new.ways in
    on_ok_weaker c.add_way.result
    (λ (more : HasMoreWays (Some c.in-Some.ways.now) c.args.way ways).
    added_again c.args.found.now (c.get_mut.follows.lender ways) c.args.key c.args.way c.in-Some.ways.now ways ((c.get_mut.follows.holds ways).3 (search rules)) c.in-Some.ensures.value more)
    c.add_way.ensures

pub returns-in-Ok : goal.returns-in-Ok
returns-in-Ok c =
    let unchanged = c.get_mut.follows.lender-at-none in
    let none : get key_cmp c.args.found.now c.args.key ≡ None = sym c.get_mut.ensures.value ∙ ap (λ (o : Option (MutBor Ways)). option_copied_mut o) c.in_default.is in
    let same : unchanged ≡ c.args.found.now = c.get_mut.follows.holds-at-none in
    subst (λ (old : Found). IsAdded old c.insert.new.self c.args.key c.args.way) same
    (added_first unchanged c.insert.new.self c.args.key c.args.way c.in_ok-ways.ways c.in-Ok.ensures.updates
    (subst (λ (old : Found). get key_cmp old c.args.key ≡ None) (sym same) none) c.in_ok-ways.ensures)
