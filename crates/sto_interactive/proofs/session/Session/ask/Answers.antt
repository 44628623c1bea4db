-- The transaction is taken out of its room. Of a session in no transaction nothing changes.
use Rattle.std.proofs.Common.{◌≡◌, Option, Some, None, refl, sym, ap, ◌∙◌, subst}
use Rattle.sto_type.specs.Traits.{of_type}
use Rattle.sto_interactive.specs.declared.pause.RestingTransaction.{RestingTransaction}
use Rattle.sto_interactive.specs.declared.session.SessionRoom.{SessionRoom}
use Rattle.sto_interactive.specs.Sessions.{live_of, Stands, Waits}
use Rattle.sto_interactive.proofs.Passing.{never_both, same_one}
use Rattle.sto_interactive.proofs.session.Session.ask.Goals as goal

pub ask-requires-clause-waits : goal.ask-requires-clause-waits
ask-requires-clause-waits g c =
    subst (λ (o : Option RestingTransaction). Stands (of_type g.T.Naming g.T.TxType) c.args.ty.now c.args.shared.now o c.args.self.rest.seat c.args.self.left) (sym c.take.ensures.live ∙ c.in-Some.is) (subst (λ (r : SessionRoom). Stands (of_type g.T.Naming g.T.TxType) c.args.ty.now c.args.shared.now r.live c.args.self.rest.seat c.args.self.left) (sym c.deref_mut.ensures.value) c.requires)

pub returns-in-Some : goal.returns-in-Some
returns-in-Some g c =
    let there : live_of c.args.self ≡ Some c.in-Some.live = ap (λ (r : SessionRoom). r.live) (sym c.deref_mut.ensures.value) ∙ sym c.take.ensures.live ∙ c.in-Some.is in
    record {
      free = λ none. absurd (never_both (live_of c.args.self) c.in-Some.live none there);
      asking = λ calls rs begun h.
          c.ask.ensures.asked calls rs begun
          (subst (λ (p : RestingTransaction). Waits (of_type g.T.Naming g.T.TxType) c.args.ty.now c.args.shared.now calls rs p begun c.args.self.rest.seat c.args.self.left) (same_one (live_of c.args.self) h.paused c.in-Some.live h.live there) h.waits);
      left = c.ask.ensures.left;
    }

pub returns-in-None : goal.returns-in-None
returns-in-None g c =
    let gone : live_of c.args.self ≡ None = ap (λ (r : SessionRoom). r.live) (sym c.deref_mut.ensures.value) ∙ sym c.take.ensures.live ∙ c.in-None.is in
    let free : live_of c.new.result ≡ None = rw c.new.ensures.room c.take.ensures.none in
    record {
      free = λ none. (refl, (c.new.ensures.rest, c.new.ensures.left, free ∙ sym none));
      asking = λ calls rs begun h. absurd (never_both (live_of c.args.self) h.paused gone h.live);
      left = c.new.ensures.left;
    }
