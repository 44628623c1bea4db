-- The object with a number, among the code's declarations.
use Rattle.std.proofs.Common.{◌≡◌, ℕ, List, [], ◌∷◌, refl, ap, ◌∙◌, Bool, true, false, cond, ◌==◌, Option, None, Some, map}
use Rattle.std.specs.Prelude.{find, option_map}
use Rattle.sto_lang.specs.declared.file.Decl.{Decl}
use Rattle.sto_lang.specs.Objects.{Declaration, with_number}
use Rattle.sto_lang.specs.Views.{declaration}
use Rattle.sto_report_spec.specs.Aborts.{name_of}

abbrev code_with : List Decl → ℕ → Option Decl
code_with decls number = find (λ (d : Decl). d.number == number) decls

same_found : (decls : List Decl) (number : ℕ) → with_number number (map declaration decls) ≡ option_map declaration (code_with decls number)
same_found [] number = refl
same_found (d ∷ decls) number = by (d.number == number) (same_found decls number)
  where
    by : (b : Bool) → with_number number (map declaration decls) ≡ option_map declaration (code_with decls number)
        → cond b (Some (declaration d)) (with_number number (map declaration decls)) ≡ option_map declaration (cond b (Some d) (code_with decls number))
    by true k = refl
    by false k = k

pub found : (decls : List Decl) (number : ℕ) (d : Decl) → find (λ (x : Decl). x.number == number) decls ≡ Some d → name_of (with_number number (map declaration decls)) ≡ d.name.items
found decls number d e = ap name_of (same_found decls number) ∙ ap (λ (o : Option Decl). name_of (option_map declaration o)) e

pub not_found : (decls : List Decl) (number : ℕ) → find (λ (x : Decl). x.number == number) decls ≡ None → name_of (with_number number (map declaration decls)) ≡ []
not_found decls number e = ap name_of (same_found decls number) ∙ ap (λ (o : Option Decl). name_of (option_map declaration o)) e
