use Rattle.std.proofs.Common.{rules, ◌≡◌, ◌∙◌, sym, ap, true≢false}
use Rattle.std.specs.Prelude.{decimal}
use Rattle.std.proofs.lemmas.Fmt.{parse-decimal}
use Rattle.std.proofs.lemmas.Slice.Eq.{bytes_eq-Decides}
use Rattle.sto_args.proofs.Numbers.{refused, accepted}
use Rattle.sto_args.proofs.number.decimal_of.Goals as goal

pub returns-in_default : goal.returns-in_default
returns-in_default c = refused c.args.text.now (λ n small e. c.in_default.not-Ok n (parse-decimal 64 n c.args.text.now c.parse.result small small e c.parse.ensures.value.0))

pub returns-then-eq : goal.returns-then-eq
returns-then-eq c = accepted c.in-Ok.value c.args.text.now (search rules) (search rules)

pub returns-else-eq : goal.returns-else-eq
returns-else-eq c = refused c.args.text.now (λ n small e.
    let parsed = parse-decimal 64 n c.args.text.now c.parse.result small small e c.parse.ensures.value.0 in
    let same : c.in-Ok.value ≡ n = cc in
    true≢false (sym ((bytes_eq-Decides c.format.result.now c.args.text.now).1 (c.format.ensures.text ∙ ap decimal same ∙ sym e)) ∙ sym c.eq.ensures ∙ c.if-eq.false))
