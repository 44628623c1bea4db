use Rattle.std.specs.Prelude.{OnOk, string_bytes, Option, None}
use Rattle.std.specs.Option.{option_copied_mut}
use Rattle.std.specs.BTreeMap.{get_by_text}
use Rattle.std.proofs.Common.{◌≡◌, List, ℕ, MutBor, rules, refl, sym, ap, ◌∙◌, subst}
use Rattle.std.proofs.lemmas.Result.{on_ok_weaker}
use Rattle.sto_explore.specs.Tallied.{Ways, HasOneMore, HasOneMoreWay}
use Rattle.sto_explore.specs.declared.way.Way.{Way}
use Rattle.sto_explore.proofs.Adding.{way_put, again, first}
use Rattle.sto_explore.proofs.tally.add_way.Goals as goal

pub returns-in-Some : goal.returns-in-Some
returns-in-Some c =
    let old = c.args.ways.now in
    let later = c.get_mut.follows.lender c.add.new.self in
    let legs = c.args.legs.items in
    subst (λ (text : List ℕ). OnOk c.add.result (HasOneMoreWay old text legs later)) c.as_str.ensures.value
    (on_ok_weaker c.add.result
    (λ (more : HasOneMore c.in-Some.way.now legs c.add.new.self). way_put c.as_str.result.now old later legs c.add.new.self
    ((c.get_mut.follows.holds c.add.new.self).3 (search rules)) (again c.as_str.result.now old legs c.in-Some.way.now c.add.new.self c.in-Some.ensures.value more))
    c.add.ensures)

pub returns-in-Ok : goal.returns-in-Ok
returns-in-Ok c =
    let text = string_bytes c.args.text in
    let legs = c.args.legs.items in
    let unchanged = c.get_mut.follows.lender-at-none in
    let way : Way = record { schedules = 1; legs = c.args.legs } in
    let none : get_by_text c.args.ways.now text ≡ None =
    subst (λ (t : List ℕ). get_by_text c.args.ways.now t ≡ None) c.as_str.ensures.value (sym c.get_mut.ensures.value ∙ ap (λ (o : Option (MutBor Way)). option_copied_mut o) c.in_default.is) in
    let same : unchanged ≡ c.args.ways.now = c.get_mut.follows.holds-at-none in
    subst (λ (old : Ways). HasOneMoreWay old text legs c.insert.new.self) same
    (way_put text unchanged c.insert.new.self legs way c.in-Ok.ensures.updates
    (first text unchanged legs way (subst (λ (old : Ways). get_by_text old text ≡ None) (sym same) none) refl refl))
