-- It goes on from where it was, and is given up: its pass stays as it was.
use Rattle.std.proofs.Common.{◌≡◌, None, ap, sym, ◌∙◌, subst}
use Rattle.sto_type.specs.Traits.{of_type}
use Rattle.sto_table.specs.declared.shared.Rest.{Rest}
use Rattle.sto_interactive.specs.declared.ending.CommitError.{CommitError}
use Rattle.sto_interactive.specs.Steps.{HasCancelledAfter, passes_of}
use Rattle.std.specs.Prelude.{ℕ, Result}
use Rattle.sto_interactive.specs.declared.session.SessionRoom.{SessionRoom}
use Rattle.sto_interactive.specs.Sessions.{live_of}
use Rattle.sto_interactive.proofs.Passing.{fails, cancels}
use Rattle.sto_interactive.proofs.ending.cancel.Goals as goal

pub cancel-requires : goal.cancel-requires
cancel-requires g c =
    let w = c.requires.waits in (
      c.args.ty.now,
      w.0,
      w.1,
      w.2,
      c.args.rest.seat.me.0.view,
      c.go_on-live.ensures.live w.0 w.1 w.2 c.args.rest.seat.me.0.view w.3.paused,
    )

pub returns-in-Ok-clause-cancelled : goal.returns-in-Ok-clause-cancelled
returns-in-Ok-clause-cancelled g c calls rs begun w =
    let t = of_type g.T.Naming g.T.TxType in
    let ty = c.args.ty.now in
    let s = c.args.shared.now in
    let a = c.args.rest.seat in
    let on = c.go_on-live.ensures.live calls rs begun a.me.0.view w.paused in
    let free : live_of c.new.result ≡ None = rw c.new.ensures.room (ap (λ (r : SessionRoom). r.live) c.deref_mut-held.ensures.value ∙ c.requires.free) in
    subst (λ (r : Result ℕ CommitError). HasCancelledAfter t ty s calls rs begun r c.new.result) (sym c.place_of-place.ensures)
    (cancels t ty s calls rs begun c.new.result a c.in-Ok.ended free (ap (λ (r : Rest g.row.T.Denot g.T.Naming). r.seat) c.new.ensures.rest) w.of (c.in-Ok.ensures.cancelled (passes_of s) ty calls rs begun a.me.0.view on))

pub returns-in-Err-clause-cancelled : goal.returns-in-Err-clause-cancelled
returns-in-Err-clause-cancelled g c calls rs begun w =
    let t = of_type g.T.Naming g.T.TxType in
    let a = c.args.rest.seat in
    let on = c.go_on-live.ensures.live calls rs begun a.me.0.view w.paused in
    let free : live_of c.new-in-Err.result ≡ None = rw c.new-in-Err.ensures.room (ap (λ (r : SessionRoom). r.live) c.deref_mut-held.ensures.value ∙ c.requires.free) in
    fails t c.args.ty.now c.args.shared.now begun c.new-in-Err.result a free (ap (λ (r : Rest g.row.T.Denot g.T.Naming). r.seat) c.new-in-Err.ensures.rest) w.of (c.in-Err.ensures.err c.args.ty.now calls rs begun a.me.0.view on)
