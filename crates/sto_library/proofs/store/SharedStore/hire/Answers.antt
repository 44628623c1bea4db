use Rattle.std.specs.Prelude.{MatchOption}
use Rattle.std.proofs.Common.{◌≡◌, [], ◌∷◌, ◌++◌, map, subst}
use Rattle.sto_core.specs.declared.view.View.{View}
use Rattle.sto_type.specs.Traits.{of_type}
use Rattle.sto_shared_store.specs.declared.worker.CountedRest.{CountedRest}
use Rattle.sto_library.specs.Values.{Stored, Serves}
use Rattle.sto_library.proofs.Hired.{hired_last}
use Rattle.sto_library.proofs.store.SharedStore.hire.Goals as goal

pub returns-clause-worker : goal.returns-clause-worker
returns-clause-worker g c =
    let V : CountedRest g.row.T.Denot g.T.Naming → View = λ w. w.rest.seat.me.0.view in
    let t = of_type g.T.Naming g.T.TxType in
    subst (λ (s : Stored g.row.T.Denot). MatchOption c.pop.result (s.views ≡ []) (λ w. Serves t s.words w.rest.seat × (s.views ≡ map V c.pop.new.self.items ++ w.rest.seat.me.0.view ∷ []))) c.self.view_is
    (hired_last (λ (w : CountedRest g.row.T.Denot g.T.Naming). Serves t c.self.inside.words w.rest.seat) V c.self.inside.idle c.pop.new.self c.pop.result c.self.invariant.0 c.pop.ensures)
