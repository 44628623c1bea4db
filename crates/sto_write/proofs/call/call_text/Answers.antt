use Rattle.std.proofs.Common.{rules, ◌≡◌, ℕ, List, [], ◌++◌, Option, None, Some, map, flat_map, ap, sym, ◌∙◌, append-nil}
use Rattle.std.specs.Option.{option_map, option_copied}
use Rattle.std.specs.List.{join_with_byte}
use Rattle.sto_lang.specs.declared.arg.Arg.TheVariants.{Num}
use Rattle.sto_part.specs.Listed.{Listed}
use Rattle.sto_lang.specs.declared.text.Text.{Text}
use Rattle.sto_lang.specs.Objects.{Declaration, with_number}
use Rattle.sto_lang.specs.Views.{declaration}
use Rattle.sto_write.specs.Texts.{word_with, option_list, call_on, form_words}
use Rattle.sto_write.proofs.TextLemmas.{with_number_of}
use Rattle.sto_write.proofs.call.call_text.Goals as goal

pub returns-in_default : goal.returns-in_default
returns-in_default c =
    let call = c.args.call in
    let made = call_on [] None (word_with call.operation (Num call.a)) (Num call.a) (Num call.b) in
    let none : with_number call.object (map declaration c.args.decls.now) ≡ None =
    with_number_of call.object c.args.decls.now ∙ ap (option_map declaration) (sym c.decl_with.ensures ∙ ap option_copied c.in_default.is) in
    c.new-out.ensures ∙ sym (ap (λ (o : Option Declaration). join_with_byte 32 (flat_map form_words (option_list (option_map made o) ++ []))) none)

pub returns : goal.returns
returns c =
    let call = c.args.call in
    let d : Declaration = declaration c.in-Some.decl.now in
    let made = call_on [] None (word_with call.operation (Num call.a)) (Num call.a) (Num call.b) in
    let found : with_number call.object (map declaration c.args.decls.now) ≡ Some d =
    with_number_of call.object c.args.decls.now ∙ ap (option_map declaration) (sym c.in-Some.ensures) in
    let vs : List (List ℕ) = c.in_ok-no_variables.no_variables in
    let made_with = λ (vs : List (List ℕ)). call_on vs None (word_with call.operation (Num call.a)) (Num call.a) (Num call.b) d in
    let none : vs ≡ [] = c.in_ok-no_variables.ensures ∙ ap (λ (l : Listed Text). map (λ (name : Text). name.items) l.items) c.new.ensures in
    let one : join_with_byte 32 (form_words (made d)) ≡ join_with_byte 32 (flat_map form_words (option_list (option_map made (with_number call.object (map declaration c.args.decls.now))) ++ [])) =
    ap (join_with_byte 32) (sym (append-nil (form_words (made d))))
    ∙ sym (ap (λ (o : Option Declaration). join_with_byte 32 (flat_map form_words (option_list (option_map made o) ++ []))) found) in
    let two : join_with_byte 32 (form_words (made_with vs)) ≡ join_with_byte 32 (form_words (made d)) = ap (λ (vs : List (List ℕ)). join_with_byte 32 (form_words (made_with vs))) none in
    search (rules, c.in_ok-push_asked.ensures, c.new-out.ensures, one, two)
