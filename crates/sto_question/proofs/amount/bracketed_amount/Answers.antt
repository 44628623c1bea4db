use Rattle.std.proofs.Common.{◌≡◌, ◌+◌, length, map, ap, sym, ◌∙◌, arith}
use Rattle.sto_lang.specs.Views.{declaration}
use Rattle.sto_question.specs.Questions.{named, bracketed_amount}
use Rattle.sto_question.proofs.Pieces.{closed, not_closed, goes_on}
use Rattle.sto_question.proofs.amount.bracketed_amount.Goals as goal

pub returns-in_default : goal.returns-in_default
returns-in_default c = sym (not_closed (map declaration c.args.decls.now) c.args.name.now c.args.rest.now (sym c.closing.ensures ∙ c.in_default.is))

pub returns-then-end-rest : goal.returns-then-end-rest
returns-then-end-rest c =
    sym (goes_on (map declaration c.args.decls.now) c.args.name.now c.args.rest.now c.in-Some.end (sym c.in-Some.ensures) (λ e. omega (arith, e, c.if-end-rest.true)))

pub returns : goal.returns
returns c =
    let ds = map declaration c.args.decls.now in
    c.keyed_amount.ensures (named ds c.args.name.now) c.named.ensures
    ∙ sym (ap (bracketed_amount ds c.args.name.now) (closed ds c.args.name.now c.args.rest.now c.in-Some.end (sym c.in-Some.ensures) (omega (arith, c.if-end-rest.false))))
