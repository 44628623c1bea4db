use Rattle.sto_lang.proofs.draft.Draft.opening.Goals as goal

pub invariant_of-result-clause-begun_weighed : goal.invariant_of-result-clause-begun_weighed
invariant_of-result-clause-begun_weighed c = tt
