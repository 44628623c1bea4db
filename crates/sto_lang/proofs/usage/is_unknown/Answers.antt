use Rattle.std.proofs.Common.{◌≡◌, ◌∙◌, ap, sym, Bool, true, not, ◌||◌, Option, None, Some, is_some, is_none, List, ℕ, refl}
use Rattle.std.specs.Option.{option_map}
use Rattle.std.specs.List.{list_all}
use Rattle.sto_syntax.specs.declared.form.Form as lines
use Rattle.sto_syntax.specs.Views.{form, operand_list}
use Rattle.sto_lang.specs.declared.objects.KnownObject.{KnownObject}
use Rattle.sto_lang.specs.Objects.{object_place}
use Rattle.sto_lang.specs.ObjectViews.{known}
use Rattle.sto_lang.specs.Drafts.{Draft, variables_in}
use Rattle.sto_lang.specs.DraftViews.{draft_of}
use Rattle.sto_lang.specs.Uses.{asked_of, is_known, is_unknown}
use Rattle.sto_lang.proofs.AskedLemmas.{unknown_call}
use Rattle.sto_lang.proofs.usage.is_unknown.Goals as goal

none_of : (o : Option KnownObject) → is_some o ≡ not true → is_none o ≡ true
none_of None e = refl
none_of (Some k) e = absurd (cc)

pub returns-then-is_none : goal.returns-then-is_none
returns-then-is_none c =
    let d : Draft = draft_of c.args.draft.now in
    let object : List ℕ = c.in-Call.object.bytes.now in
    let looked = c.requires ∙ ap (λ (line : lines.Form). option_map known (asked_of d (form line))) c.in-Call.is in
    let nowhere : is_none (object_place object d.objects) ≡ true = sym (unknown_call d object) ∙ sym (ap is_none looked) ∙ none_of c.args.asked (c.is_none.ensures ∙ ap not c.if-is_none.true) in
    let unknown = λ (b : Bool). b || not (list_all (is_known (variables_in d.inside)) (operand_list c.in-Call.operands)) in
    c.if-is_none.true ∙ sym (ap (λ (line : lines.Form). is_unknown d (form line)) c.in-Call.is ∙ ap unknown nowhere)
