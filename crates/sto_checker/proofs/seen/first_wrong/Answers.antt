use Rattle.std.proofs.Common.{◌+◌, ℕ, List, take, get_or, sym, ap, ◌∙◌, subst, Some}
use Rattle.std.proofs.lemmas.Option.{slice_get-get_or}
use Rattle.sto_part.specs.Listed.{Listed}
use Rattle.sto_lang.specs.Views.{file as view}
use Rattle.sto_checker.proofs.Stages.{take_next}
use Rattle.sto_checker.specs.Seen.{IsFirstOf}
use Rattle.sto_checker.proofs.AbortWalk.{first_kept, first_less, heard_there, unheard_there}
use Rattle.sto_checker.proofs.seen.first_wrong.Goals as goal
use Rattle.sto_checker.proofs.seen.first_wrong.Goals.{then-not-branch, else-not-branch}

pub bounds-aborts-place : goal.bounds-aborts-place
bounds-aborts-place c = c.requires.inside (get_or c.args.places.now c.loop-place.place-index 0) (c.loop-place.place-index, slice_get-get_or c.args.places.now c.loop-place.place-index 0 c.loop-place-test.true)

pub is_heard-requires-clause-placed : goal.is_heard-requires-clause-placed
is_heard-requires-clause-placed c =
    let n = get_or c.args.places.now c.loop-place.place-index 0 in
    let inside = c.requires.inside n (c.loop-place.place-index, slice_get-get_or c.args.places.now c.loop-place.place-index 0 c.loop-place-test.true) in
    c.requires.placed n _ (slice_get-get_or c.args.aborts.now n _ inside)

pub loop-place-preserved : goal.loop-place-preserved
loop-place-preserved c =
    let file = view c.args.file.now in
    let st = c.args.state.now.items in
    let aborts = c.args.aborts.now in
    let n = get_or c.args.places.now c.loop-place.place-index 0 in
    let here = slice_get-get_or c.args.places.now c.loop-place.place-index 0 c.loop-place-test.true in
    let inside = c.requires.inside n (c.loop-place.place-index, here) in
    let next = take_next c.args.places.now c.loop-place.place-index n here in
    let same = ap (λ (s : Listed _). s.items) c.loop-place.invariant.state in
    record {
      first = elim c.if-not-branch.branch [
        | then-not-branch w ↦
            let judged = rw w.if-not-branch.true at c.in_ok-is_heard.ensures.heard in
            let unheard = unheard_there file st aborts c.loop-place.state.items n _ same inside (λ k. absurd (let yes = judged.1 k in cc)) in
            subst (IsFirstOf file st aborts (take (c.loop-place.place-index + 1) c.args.places.now) c.args.earlier) (sym w.wrong-is)
            (subst (λ (ns : List ℕ). IsFirstOf file st aborts ns c.args.earlier (Some w.first_of.result)) (sym next)
            (first_less file st aborts (take c.loop-place.place-index c.args.places.now) n c.args.earlier c.loop-place.wrong w.first_of.result c.loop-place.invariant.first unheard w.first_of.ensures))
        | else-not-branch w ↦
            let judged = rw w.if-not-branch.false at c.in_ok-is_heard.ensures.heard in
            let heard = heard_there file st aborts c.loop-place.state.items n _ same inside (judged.0 cc) in
            subst (IsFirstOf file st aborts (take (c.loop-place.place-index + 1) c.args.places.now) c.args.earlier) (sym w.wrong-is)
            (subst (λ (ns : List ℕ). IsFirstOf file st aborts ns c.args.earlier c.loop-place.wrong) (sym next)
            (first_kept file st aborts (take c.loop-place.place-index c.args.places.now) n c.args.earlier c.loop-place.wrong c.loop-place.invariant.first heard))
      ];
      state = c.is_heard.ensures.state ∙ c.loop-place.invariant.state;
    }
