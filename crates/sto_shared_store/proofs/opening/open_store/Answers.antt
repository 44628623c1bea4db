use Rattle.std.proofs.Common.{◌≡◌, map, length, sym, ap, subst, arith}
use Rattle.std.proofs.lemmas.List.{length-map}
use Rattle.sto_table.specs.declared.shared.Rest.{Rest}
use Rattle.sto_table.specs.Openings.{opened_down}
use Rattle.sto_type.specs.Known.{Parts}
use Rattle.sto_shared_store.proofs.Opened.{all_fresh, many_opened}
use Rattle.sto_shared_store.proofs.opening.open_store.Goals as goal

pub open-requires-clause-valid : goal.open-requires-clause-valid
open-requires-clause-valid g c =
    let x = c.args.ty in
    (g.met.T.TxType.valid_is x c.in_ok-contents.contents.items).0
    (subst (g.T.TxType.meaning x).valid (sym c.in_ok-contents.ensures) (g.met.T.TxType.lawful x).opening)

pub hire-requires-clause-fresh : goal.hire-requires-clause-fresh
hire-requires-clause-fresh g c =
    let o = c.in_ok-shared.field-0 in
    let m = g.T.TxType.meaning c.args.ty in
    let sizes = g.T.Naming.sizes c.args.ty in
    let views = subst (λ (d : Parts). map (λ (r : Rest g.row.T.Denot g.T.Naming). r.seat.me.0.view) o.rests.items ≡ opened_down sizes d c.args.workers) c.in_ok-contents.ensures c.in_ok-shared.ensures.views in
    all_fresh {T = g.row.T.Denot} m sizes o.shared (λ (r : Rest g.row.T.Denot g.T.Naming). r.seat) o.rests.items c.args.workers views c.in_ok-shared.ensures.of

pub hire-requires-clause-few : goal.hire-requires-clause-few
hire-requires-clause-few g c =
    let o = c.in_ok-shared.field-0 in
    let a = ap length c.in_ok-shared.ensures.views in
    let n = many_opened (g.T.Naming.sizes c.args.ty) c.in_ok-contents.contents.items c.args.workers in
    let l = length-map o.rests.items (λ (r : Rest g.row.T.Denot g.T.Naming). r.seat.me.0.view) in
    let few = c.requires.1 in omega (arith, a, n, l, few)

pub returns-clause-many : goal.returns-clause-many
returns-clause-many g c =
    let o = c.in_ok-shared.field-0 in
    let a = ap length c.in_ok-shared.ensures.views in
    let n = many_opened (g.T.Naming.sizes c.args.ty) c.in_ok-contents.contents.items c.args.workers in
    let l = length-map o.rests.items (λ (r : Rest g.row.T.Denot g.T.Naming). r.seat.me.0.view) in
    let h = c.in_ok-hired.ensures.many in omega (arith, a, n, l, h)
