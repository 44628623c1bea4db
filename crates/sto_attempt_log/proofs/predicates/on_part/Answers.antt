use Rattle.std.proofs.Common.{◌≡◌, ltb, leb, true, false, List, take, drop, ap, ◌∙◌, rules, subst, sym}
use Rattle.std.specs.List.{list_all}
use Rattle.std.specs.List.Sorted.{IsNonDecreasingBy, IsPartitionPoint}
use Rattle.std.proofs.lemmas.List.Sorted.{IsPartitionPoint-from_clause, IsPartitionedBy-ltb, IsPartitionedBy-leb, IsNonDecreasingBy-drop}
use Rattle.sto_part.specs.declared.pred.Pred.{Pred}
use Rattle.sto_attempt_log.proofs.Preds.{test_on}
use Rattle.sto_attempt_log.proofs.predicates.on_part.Goals as goal

pub returns : goal.returns
returns c =
    let qs = c.args.preds.now in
    let p = c.args.part in
    let i = c.partition_point-first.result in
    let n = c.partition_point-count.result in
    let back : c.split_at.result.1.now ≡ drop i qs = c.split_at.ensures.back in
    let low = IsPartitionPoint-from_clause (λ (q : Pred). ltb q.part p) _ _ c.partition_point-first.ensures.partitioned (IsPartitionedBy-ltb (λ (q : Pred). q.part) qs p c.requires) (λ a r q k. search rules) in
    let rises : IsNonDecreasingBy (λ (q : Pred). q.part) c.split_at.result.1.now = subst (λ (l : List Pred). IsNonDecreasingBy (λ (q : Pred). q.part) l) (sym back) (IsNonDecreasingBy-drop (λ (q : Pred). q.part) i qs c.requires) in
    let high = IsPartitionPoint-from_clause (λ (q : Pred). leb q.part p) _ _ c.partition_point-count.ensures.partitioned (IsPartitionedBy-leb (λ (q : Pred). q.part) c.split_at.result.1.now p rises) (λ a r q k. search rules) in
    let above : IsPartitionPoint (λ (q : Pred). leb q.part p ≡ true) (λ q. leb q.part p ≡ false) (drop i qs) n = subst (λ (l : List Pred). IsPartitionPoint (λ (q : Pred). leb q.part p ≡ true) (λ q. leb q.part p ≡ false) l n) back high in
    λ f. test_on p f qs i n c.partition_point-first.ensures.bound low above ∙ ap (λ (l : List Pred). list_all f (take n l)) (sym back) ∙ ap (list_all f) (sym c.split_at-2.ensures.front)
