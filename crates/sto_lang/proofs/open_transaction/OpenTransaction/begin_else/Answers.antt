use Rattle.std.proofs.Common.{◌≡◌, ◌++◌, ◌∷◌, [], List, ap, sym, subst, ◌∙◌}
use Rattle.std.specs.List.{All}
use Rattle.std.proofs.lemmas.List.Elements.{All-push}
use Rattle.sto_lang.specs.declared.open_transaction.OpenBlock.{OpenBlock}
use Rattle.sto_lang.specs.declared.open_transaction.OpenBlock.TheVariants.{FirstBranch, SecondBranch}
use Rattle.sto_lang.specs.Weighed.{IsWeighed, IsWeighedBlock}
use Rattle.sto_lang.proofs.WeightLemmas.{all_last}
use Rattle.sto_lang.proofs.open_transaction.OpenTransaction.begin_else.Goals as goal

pub returns-clause-weighed : goal.returns-clause-weighed
returns-clause-weighed c = λ shapes before.
    let b = c.in-Some-FirstBranch in
    let P : OpenBlock → Type 0 = IsWeighedBlock shapes in
    let rest : List OpenBlock = c.pop.new.self.items in
    let closed : OpenBlock = FirstBranch b.before b.a b.test b.b in
    let old : c.args.self.now.blocks.items ≡ rest ++ closed ∷ [] = ap (λ l. l.items) (sym c.replace-blocks.ensures.value) ∙ b.ensures.0 ∙ ap (λ x. rest ++ x ∷ []) b.field-0-is in
    let apart = all_last P rest closed (subst (All P) old before.1) in
    let first = subst (IsWeighed shapes) (sym c.replace-first.ensures.value) before.0 in (
      subst (IsWeighed shapes) (sym c.replace-first.ensures.after) (c.new-2.ensures.weighed shapes),
      subst (λ l. All P l.items) (sym c.push_spare.ensures) (All-push P rest (SecondBranch b.before b.a b.test b.b c.replace-first.result) apart.0 (apart.1, first)),
    )
