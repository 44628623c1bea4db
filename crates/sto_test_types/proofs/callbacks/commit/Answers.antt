use Rattle.std.specs.List.{All, Contains}
use Rattle.std.proofs.Common.{◌≡◌, ◌<◌, ℕ, List, true, refl, ap, sym, ◌∙◌, subst, arith, length}
use Rattle.sto_core.specs.Core.{Core}
use Rattle.sto_plain.specs.Passes.{view_of}
use Rattle.sto_type.specs.Known.{Parts}
use Rattle.sto_transaction.specs.Resting.{IsAtRest}
use Rattle.sto_transaction.proofs.Resting.{opened_rests}
use Rattle.sto_test_types.proofs.callbacks.commit.Goals as goal

pub open-requires-clause-valid : goal.open-requires-clause-valid
open-requires-clause-valid g c =
    let ty = c.args.ty.now in
    (g.met.T.TxType.valid_is ty _).0 (subst (λ (d : Parts). (g.T.TxType.meaning ty).valid d) (sym c.in_ok-contents.ensures) (g.met.T.TxType.lawful ty).opening)

pub run_transaction_alone-words-requires-clause-rests : goal.run_transaction_alone-words-requires-clause-rests
run_transaction_alone-words-requires-clause-rests g c =
    let m = g.T.TxType.meaning c.args.ty.now in
    let sizes = g.T.Naming.sizes c.args.ty.now in
    subst (λ (p : Core). IsAtRest m sizes (view_of p 0)) (sym c.in_ok-words.ensures) (opened_rests m sizes c.in_ok-contents.contents.items 0 c.in_ok-contents.ensures)
