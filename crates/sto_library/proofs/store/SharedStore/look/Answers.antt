-- The worker is taken from those that rest, and put back.
use Rattle.std.specs.List.{All}
use Rattle.std.proofs.Common.{◌≡◌, ◌^◌, [], ◌∷◌, ◌++◌, Result, Some, map, length, sym, ap, ◌∙◌, subst, arith, length-append}
use Rattle.std.proofs.lemmas.List.{map-append}
use Rattle.std.proofs.lemmas.List.Elements.{All-push, All-pop}
use Rattle.sto_core.specs.declared.view.View.{View}
use Rattle.sto_type.specs.Traits.{of_type}
use Rattle.sto_action.specs.declared.outcome.Done.{Done}
use Rattle.sto_shared_store.specs.declared.worker.CountedRest.{CountedRest}
use Rattle.sto_library.specs.declared.store.LookError.{LookError}
use Rattle.sto_library.specs.Values.{Stored, Serves}
use Rattle.sto_library.specs.Doings.{HasGiven, HasCause}
use Rattle.sto_library.specs.Tasks.{IsDone}
use Rattle.sto_library.specs.Looks.{HasLooked}
use Rattle.sto_library.proofs.Looks.{answered}
use Rattle.sto_library.proofs.store.SharedStore.look.Goals as goal

pub push_spare-requires-clause-few : goal.push_spare-requires-clause-few
push_spare-requires-clause-few g c =
    let all : c.self.inside.idle.items ≡ c.pop.new.self.items ++ c.in-Some.worker ∷ [] = c.in-Some.ensures.0 in
    let more = ap length all ∙ length-append c.pop.new.self.items (c.in-Some.worker ∷ []) in
    omega (arith, more, c.len-resting.ensures, c.len-resting.type_inv)

pub invariant_of-self-2 : goal.invariant_of-self-2
invariant_of-self-2 g c =
    let t = of_type g.T.Naming g.T.TxType in
    let P : CountedRest g.row.T.Denot g.T.Naming → Type 0 = λ w. Serves t c.self.inside.words w.rest.seat in
    let all : c.self.inside.idle.items ≡ c.pop.new.self.items ++ c.in-Some.worker ∷ [] = c.in-Some.ensures.0 in
    let back : c.push_spare.new.self.items ≡ c.pop.new.self.items ++ c.look_by-worker.result.0 ∷ [] = ap (λ l. l.items) c.push_spare.ensures in
    let others = (All-pop P c.self.inside.idle.items c.pop.new.self.items (Some c.in-Some.worker) all c.self.invariant.0).0 in
    (subst (All P) (sym back) (All-push P c.pop.new.self.items c.look_by-worker.result.0 others c.look_by-worker.ensures.serves), c.self.invariant.1)

pub returns-clause-looked : goal.returns-clause-looked
returns-clause-looked g c =
    let t = of_type g.T.Naming g.T.TxType in
    let V : CountedRest g.row.T.Denot g.T.Naming → View = λ w. w.rest.seat.me.0.view in
    let most = g.K.Action.most c.args.code.now in let p = g.K.Action.does c.args.code.now in
    let old : Stored g.row.T.Denot = c.args.self.now in
    let out = c.look_by-worker.result.1 in
    let others = c.pop.new.self.items in let worker = c.in-Some.worker in let again = c.look_by-worker.result.0 in
    let all : c.self.inside.idle.items ≡ others ++ worker ∷ [] = c.in-Some.ensures.0 in
    let back : c.push_spare.new.self.items ≡ others ++ again ∷ [] = ap (λ l. l.items) c.push_spare.ensures in
    let new : Stored g.row.T.Denot = record { words = c.self.inside.words; shapes = c.self.inside.shapes.items; views = map V c.push_spare.new.self.items } in
    subst (λ (r : Result (Done g.row.K-Out.Denot g.row.K-Reason.Denot) LookError). HasLooked t old new most p r) (sym c.looked.ensures)
    (answered t old new most p out (record {
      others = map V others;
      from = V worker;
      to = V again;
      were = sym (ap (λ (s : Stored g.row.T.Denot). s.views) c.self.view_is) ∙ ap (map V) all ∙ map-append V others (worker ∷ []);
      are = ap (map V) back ∙ map-append V others (again ∷ []);
      done = subst (λ (s : Stored g.row.T.Denot). IsDone s.words s.shapes (V worker) (V again) (λ before after o. HasGiven t before after 1 most p o × HasCause t before after (2 ^ 16) o) out) c.self.view_is c.look_by-worker.ensures.done;
    }))
