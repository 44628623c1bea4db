use Rattle.std.proofs.Common.{◌≡◌, ◌-◌, true, length, arith, slice_index_or, sym, subst, ◌∙◌}
use Rattle.std.proofs.lemmas.Option.{get_or_from_slice_get}
use Rattle.sto_attempt_log.specs.declared.commit_phase.LoadedWord.{LoadedWord}
use Rattle.sto_attempt_log.specs.Ordered.{is_before}
use Rattle.sto_attempt_log.proofs.Orders.{rises_up_on, rises_up_still}
use Rattle.sto_attempt_log.proofs.loaded_words.rising_with.Goals as goal

pub returns-then-is_before : goal.returns-then-is_before
returns-then-is_before c =
    let xs = c.args.loaded_words.now in
    let x = c.args.next.now in
    rises_up_on c.args.rising xs x c.requires.rises (omega (arith, c.requires.rises.0, c.if-rising-loaded_words.false)) (λ d h.
    let last : slice_index_or xs (length xs - 1) d ≡ c.in-Some.last.now = get_or_from_slice_get xs (length xs - 1) c.in-Some.last.now d (sym c.in-Some.ensures.value) in
    subst (λ (y : LoadedWord). is_before x.part x.word y ≡ true) (sym last) (sym c.is_before.ensures ∙ c.if-is_before.true))

pub returns-else-is_before : goal.returns-else-is_before
returns-else-is_before c = rises_up_still c.args.rising c.args.loaded_words.now c.args.next.now c.requires.rises
