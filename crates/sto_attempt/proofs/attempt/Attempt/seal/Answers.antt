use Rattle.std.proofs.Common.{ℕ, List, subst, ap, ◌∙◌, map, refl, rules}
use Rattle.sto_model.specs.PlainReplies.{plain_reply}
use Rattle.sto_attempt_log.proofs.Claimed.{claims_fit, part_of_claims}
use Rattle.sto_attempt_log.proofs.Sealed.{gathered_sealed}
use Rattle.sto_attempt.specs.Attempts.{reader_of}
use Rattle.sto_attempt.proofs.Commits.{stocked_before}
use Rattle.sto_attempt.proofs.attempt.Attempt.seal.Goals as goal

pub stock-requires-clause-some : goal.stock-requires-clause-some
stock-requires-clause-some g c =
    let a = c.args.self in
    let v = c.requires.fits.0 in
    let h = c.requires.fits.1 in
    let whole = claims_fit g.T.Naming.valid v a.at h.fit in (
      whole.0,
      (g.met.T.TxType.valid_is a.log.ty.now whole.0).1 (subst (λ (l : List ℕ). g.T.Naming.valid l whole.0) h.own.same_sizes whole.1),
      part_of_claims v a.at a.log.table.base.items whole.0 h.claimed whole.2,
    )

pub returns-in-Ok : goal.returns-in-Ok
returns-in-Ok g c =
    let a = c.args.self in
    let kept = c.in-Ok.ensures.kept in
    let it = c.in-Ok.ensures.stocked in
    rw kept (record {
      before = stocked_before _ g.B.Body a _ c.requires.log it;
      space = search rules;
      copy = search rules;
      log = refl;
      at = refl;
      left = search rules;
      undisturbed = search rules;
      seals = gathered_sealed (reader_of a) _ it.gathered refl refl refl it.updates refl it.unfound it.unloaded refl;
    })
