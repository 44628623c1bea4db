use Rattle.std.proofs.Common.{◌≡◌, refl, [], ◌∷◌, ◌++◌, List, map, ap, sym, ◌∙◌, arith, rules, subst, length, slice_index_or, append-nil, length-append}
use Rattle.std.specs.List.{IsChunkByPrefix}
use Rattle.std.specs.Slice.Iter.{chunk_by_rest}
use Rattle.std.proofs.lemmas.List.Sorted.{answers_always}
use Rattle.std.proofs.lemmas.Option.{MatchOption-at_some, MatchOption-at_none}
use Rattle.sto_item.specs.declared.item.Item.{Item}
use Rattle.sto_item.specs.declared.item.Item.TheVariants.{Seen}
use Rattle.sto_item.specs.declared.watch.Watch.{Watch}
use Rattle.sto_item.specs.Observed.{part_of_item, watch_at, IsObserved}
use Rattle.sto_item.specs.Watched.{watched}
use Rattle.sto_item.proofs.Runs.{Rises, Rises-sorted, watches_of, same_part, cut, none_left}
use Rattle.sto_item.proofs.Observed.{watched-more, IsObserved-watches_of}
use Rattle.sto_item.proofs.watch.watch_each.Goals as goal

pub loop-run-init : goal.loop-run-init
loop-run-init c =
    let all : chunk_by_rest c.into_iter-run-iterator.result ≡ c.args.items.now = search rules in
    let none : c.new-made.result.items ≡ [] = search rules in
    rw (all, none) (Rises-sorted c.args.items.now c.requires.rising, refl, omega arith)

pub loop-run-preserved : goal.loop-run-preserved
loop-run-preserved c =
    let it = c.loop-run.invariant in
    let made = c.loop-run.made.items in
    let run = c.in-Some.run'.now in
    let rest = chunk_by_rest c.next.new.self in
    let p = c.part.result in
    let step = MatchOption-at_some _ _ c.in-Some.run' c.in-Some.is c.next.ensures.steps in
    let prefix = (step.2 same_part (answers_always _ _ _ (λ f a r g h. search rules))).1 in
    let front : IsChunkByPrefix same_part (run ++ rest) (length run) = subst (λ (l : List Item). IsChunkByPrefix same_part l (length run)) step.0 prefix in
    let first : p ≡ part_of_item (slice_index_or run 0 (Seen 0)) = search rules in
    let done = cut run rest p first step.1 front (subst (Rises 0) step.0 it.0) in
    let more : c.push.new.self.items ≡ made ++ c.in_ok-watch_part.field-0 ∷ [] = c.in_ok-push.ensures.ok in
    let long = ap length more in
    let longer = length-append made (c.in_ok-watch_part.field-0 ∷ []) in
    let parted = ap length step.0 in
    let parts = length-append run rest in (
      done.0,
      ap (λ (l : List Watch). map watched l ++ watches_of rest) more
          ∙ watched-more made c.in_ok-watch_part.field-0 (watch_at run p) (watches_of rest) c.in_ok-watch_part.ensures
          ∙ ap (λ l. map watched made ++ l) (sym done.1)
          ∙ ap (λ (l : List Item). map watched made ++ watches_of l) (sym step.0)
          ∙ it.1,
      omega (arith, it.2, step.1, long, longer, parted, parts),
    )

pub returns : goal.returns
returns c =
    let end : chunk_by_rest c.loop-run.run-iterator ≡ [] = none_left _ (MatchOption-at_none _ _ c.in-None.is c.next.ensures.steps).0 in
    let whole : map watched c.loop-run.made.items ≡ watches_of c.args.items.now =
    sym (append-nil (map watched c.loop-run.made.items)) ∙ ap (λ (l : List Item). map watched c.loop-run.made.items ++ watches_of l) (sym end) ∙ c.loop-run.invariant.1 in
    subst (IsObserved c.args.items.now) (sym whole) (IsObserved-watches_of c.args.items.now (Rises-sorted c.args.items.now c.requires.rising))
