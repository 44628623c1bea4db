use Rattle.std.proofs.Common.{◌≡◌, ◌∙◌, sym, ap, map, codes, string_bytes}
use Rattle.std.proofs.lemmas.Result.{IfOk-weaker}
use Rattle.std.specs.Str.{bytes_eq}
use Rattle.sto_args.specs.Commands.{command_in, command_from}
use Rattle.sto_args.proofs.Refused.{help_after_first, valued_after_first, options_after_first}
use Rattle.sto_args.proofs.command.find_command.Goals as goal

pub returns-then-eq-clause-command : goal.returns-then-eq-clause-command
returns-then-eq-clause-command c =
    help_after_first (λ word. string_bytes word) c.args.words.now c.word-item.result c.help.result c.in-len1-up.len_at_least c.word-item.is
    (ap (λ text. bytes_eq text (codes "--help")) (sym c.as_str.ensures.value) ∙ sym c.eq.ensures ∙ c.if-eq.true) c.help.ensures.command

pub returns-then-has_flag_value-clause-command : goal.returns-then-has_flag_value-clause-command
returns-then-has_flag_value-clause-command c =
    valued_after_first (λ word. string_bytes word) c.args.words.now c.word-item.result c.in-len1-up.len_at_least c.word-item.is
    (ap (λ text. bytes_eq text (codes "--help")) (sym c.as_str.ensures.value) ∙ sym c.eq.ensures ∙ c.if-eq.false)
    (sym c.if-has_flag_value.true ∙ c.has_flag_value.ensures)

pub returns-clause-command : goal.returns-clause-command
returns-clause-command c =
    IfOk-weaker c.command_from.result
    (λ x. x ≡ command_from c.as_str-2.result.now (map (λ option. option.now) c.as_slice.result.now))
    (λ x. x ≡ command_in c.args.words.now)
    (λ x h. h
    ∙ (λ i. command_from (c.as_str-2.ensures.value i) (map (λ option. option.now) (c.as_slice.ensures.value i)))
    ∙ options_after_first (λ word. string_bytes word) c.args.words.now c.word-item.result (map (λ option. option.now) c.in_ok-options.options.items)
    c.in-len1-up.len_at_least c.word-item.is
    (ap (λ text. bytes_eq text (codes "--help")) (sym c.as_str.ensures.value) ∙ sym c.eq.ensures ∙ c.if-eq.false)
    (sym c.if-has_flag_value.false ∙ c.has_flag_value.ensures) c.in_ok-options.ensures)
    c.command_from.ensures.command
