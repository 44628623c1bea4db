use Rattle.std.proofs.Common.{sym, subst}
use Rattle.std.specs.List.{All}
use Rattle.sto_lang.specs.declared.open_transaction.OpenBlock.{OpenBlock}
use Rattle.sto_lang.specs.Weighed.{IsWeighed, IsWeighedBlock}
use Rattle.sto_lang.proofs.WeightLemmas.{all_last}
use Rattle.sto_lang.proofs.open_transaction.OpenTransaction.end.Goals as goal

pub returns-clause-weighed : goal.returns-clause-weighed
returns-clause-weighed c = λ shapes before.
    let P : OpenBlock → Type 0 = IsWeighedBlock shapes in
    let apart = all_last P c.pop.new.self.items c.in-Some.block (subst (All P) c.in-Some.ensures.0 before.1) in
    (c.in_ok-self.ensures.weighed shapes apart.1 (subst (IsWeighed shapes) (sym c.replace-inner.ensures.value) before.0), apart.0)
