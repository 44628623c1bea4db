use Rattle.std.proofs.Common.{sym, ap, ◌∙◌, subst}
use Rattle.std.proofs.lemmas.Result.{IfOk-weaker}
use Rattle.sto_store.proofs.Whole.{whole_contents}
use Rattle.sto_shared_store.proofs.Closed.{one_view, one_pass, none_held, last_valid, last_history}
use Rattle.sto_shared_store.proofs.closing.last_rows.Goals as goal

pub contents-requires : goal.contents-requires
contents-requires g c =
    let v = c.args.rest.seat.me.0.view in
    none_held v c.in-Ok.words.views (one_view c.in_ok-closed.closed v c.in-Ok.words c.in-Ok.ensures.ok c.in_ok-closed.ensures.views c.args.rest.live)

pub rows_at-requires : goal.rows_at-requires
rows_at-requires g c =
    let m = g.T.TxType.meaning c.args.ty.now in
    let v = c.args.rest.seat.me.0.view in
    let closed = c.in_ok-closed.closed in
    let words = c.in-Ok.words in
    let views = one_view closed v words c.in-Ok.ensures.ok c.in_ok-closed.ensures.views c.args.rest.live in
    let pass = one_pass closed words c.in-Ok.ensures.ok in
    let contents = c.in_ok-contents.contents.items in
    let valid = last_valid g.T.Naming.valid m (g.T.Naming.sizes c.args.ty.now) v c.requires.worker.rests (g.met.T.TxType.valid_is c.args.ty.now) words views pass contents c.in_ok-contents.ensures.commits in
    subst m.valid (sym (whole_contents m (g.met.T.TxType.lawful c.args.ty.now) contents valid)) valid

pub returns-clause-rows : goal.returns-clause-rows
returns-clause-rows g c =
    let m = g.T.TxType.meaning c.args.ty.now in
    let v = c.args.rest.seat.me.0.view in
    let closed = c.in_ok-closed.closed in
    let words = c.in-Ok.words in
    let views = one_view closed v words c.in-Ok.ensures.ok c.in_ok-closed.ensures.views c.args.rest.live in
    let pass = one_pass closed words c.in-Ok.ensures.ok in
    let contents = c.in_ok-contents.contents.items in
    let valid = last_valid g.T.Naming.valid m (g.T.Naming.sizes c.args.ty.now) v c.requires.worker.rests (g.met.T.TxType.valid_is c.args.ty.now) words views pass contents c.in_ok-contents.ensures.commits in
    IfOk-weaker c.rows_at.result _ _
    (λ rows is. record {
      core = words;
      contents = contents;
      now = c.in_ok-contents.ensures.commits;
      one_view = views;
      one_pass = pass;
      stand_for = is ∙ ap m.rows (whole_contents m (g.met.T.TxType.lawful c.args.ty.now) contents valid);
    })
    c.rows_at.ensures

pub returns-clause-history : goal.returns-clause-history
returns-clause-history g c =
    let m = g.T.TxType.meaning c.args.ty.now in
    let v = c.args.rest.seat.me.0.view in
    let closed = c.in_ok-closed.closed in
    let words = c.in-Ok.words in
    let same = g.met.T.TxType.valid_is c.args.ty.now in
    let sizes = g.T.Naming.sizes c.args.ty.now in
    let views = one_view closed v words c.in-Ok.ensures.ok c.in_ok-closed.ensures.views c.args.rest.live in
    let pass = one_pass closed words c.in-Ok.ensures.ok in
    let contents = c.in_ok-contents.contents.items in
    let now = c.in_ok-contents.ensures.commits in
    let lawful = g.met.T.TxType.lawful c.args.ty.now in
    let valid = last_valid g.T.Naming.valid m sizes v c.requires.worker.rests same words views pass contents now in
    IfOk-weaker c.rows_at.result _ _
    (λ rows is. last_history g.T.Naming.valid m sizes v c.requires.worker.rests same words views pass contents now lawful rows.items (is ∙ ap m.rows (whole_contents m lawful contents valid)))
    c.rows_at.ensures
