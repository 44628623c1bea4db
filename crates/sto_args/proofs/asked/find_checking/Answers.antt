use Rattle.std.proofs.Common.{◌≡◌, ◌∙◌, sym, ap, map, string_bytes, true}
use Rattle.std.specs.List.{list_any}
use Rattle.std.specs.Option.{option_and_then}
use Rattle.clap.proofs.WalkLemmas.{list_any-map}
use Rattle.sto_args.specs.Given.{is_refused}
use Rattle.sto_args.specs.Asked.{check_takes, check_of}
use Rattle.sto_args.proofs.Refused.{words_refused}
use Rattle.sto_args.proofs.asked.find_checking.Goals as goal

pub returns-then-has_refused-clause-asked : goal.returns-then-has_refused-clause-asked
returns-then-has_refused-clause-asked c =
    let words = map (λ word. string_bytes word) c.args.words.now in
    let same = ap (map (λ word. word.now)) c.as_slice.ensures.value ∙ c.in_ok-texts.ensures in
    let refused : list_any is_refused words ≡ true =
    ap (list_any is_refused) (sym same) ∙ sym (list_any-map is_refused (λ word. word.now) c.as_slice.result.now) ∙ sym c.has_refused.ensures ∙ c.if-has_refused.true in
    sym (ap (option_and_then check_of) (words_refused check_takes words refused))

pub checking_from-requires : goal.checking_from-requires
checking_from-requires c =
    ap (λ texts. list_any is_refused (map (λ word. word.now) texts)) (c.as_slice-2.ensures.value ∙ sym c.as_slice.ensures.value)
    ∙ sym (list_any-map is_refused (λ word. word.now) c.as_slice.result.now) ∙ sym c.has_refused.ensures ∙ c.if-has_refused.false
