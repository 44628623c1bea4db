use Rattle.std.proofs.Common.{◌∙◌, sym, w64}
use Rattle.std.proofs.lemmas.Fmt.{parse-signed_decimal}
use Rattle.sto_syntax.proofs.Numbers.{number_refused, small, fits, utf8_number}
use Rattle.sto_question.proofs.number.number.Goals as goal

pub returns-in_default : goal.returns-in_default
returns-in_default c = sym (number_refused c.args.word.now (λ z i64 e. c.in_default.ensures.cases.0 (utf8_number z c.args.word.now i64 e)))

pub returns-in_default-parse : goal.returns-in_default-parse
returns-in_default-parse c = sym (number_refused c.args.word.now (λ z i64 e.
    c.in_default-parse.not-Ok z (parse-signed_decimal w64 z c.in-Ok.text.now c.parse.result (fits z i64) (small z i64) (c.in-Ok.ensures.cases.0 ∙ e) c.parse.ensures.value.0)))
