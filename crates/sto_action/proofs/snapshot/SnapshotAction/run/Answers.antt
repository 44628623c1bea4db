-- It gets the boxes, and then the counters.
use Rattle.std.proofs.Common.{rules, ◌≡◌, ℤ, List, Ok, Err, Result, refl, sym, subst}
use Rattle.sto_action.specs.Progs.{Prog, Gives, Follows}
use Rattle.sto_action.specs.Steps.{box_get, counter_get}
use Rattle.sto_action.specs.Snapshots.{each_got, snapshot}
use Rattle.sto_action.specs.declared.handles.BoxId.{BoxId}
use Rattle.sto_action.specs.declared.handles.CounterId.{CounterId}
use Rattle.sto_action.specs.declared.snapshot.SnapshotValues.{SnapshotValues}
use Rattle.sto_action.specs.declared.tx.Stop.{Stop}
use Rattle.std.specs.declared.convert.Infallible.{Infallible}
use Rattle.sto_action.proofs.Snapshots.{got_on, got_stop}
use Rattle.sto_action.proofs.snapshot.SnapshotAction.run.Goals as goal

pub returns-in_err-boxes : goal.returns-in_err-boxes
returns-in_err-boxes g c =
    let s = c.args.self.now in
    let same : c.from_residual.result ≡ Err c.in_err-boxes.field-0.0 = search rules in
    subst (λ (r : Result (SnapshotValues g.row.B g.row.C) (Stop Infallible)). Follows (snapshot s.boxes s.counters) c.args.tx.now c.boxes_held.new.tx r) (sym same)
    (got_stop box_get (λ (x : BoxId). x.number) (λ x then. refl) s.boxes (λ xs. each_got counter_get s.counters (λ ys. Gives (record { boxes = xs; counters = ys }))) c.args.tx.now c.boxes_held.new.tx c.boxes_held.new.tx
    c.in_err-boxes.field-0.0 c.in_err-boxes.ensures)

pub returns-in_err-counters : goal.returns-in_err-counters
returns-in_err-counters g c =
    let s = c.args.self.now in
    let then : List ℤ → List ℤ → Prog Infallible (SnapshotValues g.row.B g.row.C) = λ xs ys. Gives (record { boxes = xs; counters = ys }) in
    let stop = c.in_err-counters.field-0.0 in
    let same : c.from_residual-in_err-counters.result ≡ Err stop = search rules in
    subst (λ (r : Result (SnapshotValues g.row.B g.row.C) (Stop Infallible)). Follows (snapshot s.boxes s.counters) c.args.tx.now c.counters_held.new.tx r) (sym same)
    (got_on box_get (λ (x : BoxId). x.number) (λ x then. refl) s.boxes (λ xs. each_got counter_get s.counters (then xs)) c.args.tx.now c.boxes_held.new.tx c.counters_held.new.tx c.in_ok-boxes.boxes (Err stop) c.in_ok-boxes.ensures
    (got_stop counter_get (λ (x : CounterId). x.number) (λ x then. refl) s.counters (then c.in_ok-boxes.boxes) c.boxes_held.new.tx c.counters_held.new.tx c.counters_held.new.tx stop c.in_err-counters.ensures))

pub returns : goal.returns
returns g c =
    let s = c.args.self.now in
    let then : List ℤ → List ℤ → Prog Infallible (SnapshotValues g.row.B g.row.C) = λ xs ys. Gives (record { boxes = xs; counters = ys }) in
    let held : SnapshotValues g.row.B g.row.C = record { boxes = c.in_ok-boxes.boxes; counters = c.in_ok-counters.counters } in
    got_on box_get (λ (x : BoxId). x.number) (λ x then. refl) s.boxes (λ xs. each_got counter_get s.counters (then xs)) c.args.tx.now c.boxes_held.new.tx c.counters_held.new.tx c.in_ok-boxes.boxes (Ok held) c.in_ok-boxes.ensures
    (got_on counter_get (λ (x : CounterId). x.number) (λ x then. refl) s.counters (then c.in_ok-boxes.boxes) c.boxes_held.new.tx c.counters_held.new.tx c.counters_held.new.tx c.in_ok-counters.counters (Ok held) c.in_ok-counters.ensures (refl, refl))
