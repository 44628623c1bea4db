-- An object with a number is declared where one of the declarations has the number.
use Rattle.std.specs.List.{list_any}
use Rattle.std.proofs.Common.{◌≡◌, ℕ, List, [], ◌∷◌, map, refl, Bool, true, false, cond, ◌==◌, ◌||◌, Some, is_some}
use Rattle.sto_lang.specs.declared.file.Decl.{Decl}
use Rattle.sto_lang.specs.Objects.{with_number}
use Rattle.sto_lang.specs.Views.{declaration}

pub declared : (decls : List Decl) (number : ℕ) → is_some (with_number number (map declaration decls)) ≡ list_any (λ (d : Decl). d.number == number) decls
declared [] number = refl
declared (d ∷ decls) number = by (d.number == number) (declared decls number)
  where
    by : (b : Bool) → is_some (with_number number (map declaration decls)) ≡ list_any (λ (x : Decl). x.number == number) decls
        → is_some (cond b (Some (declaration d)) (with_number number (map declaration decls))) ≡ b || list_any (λ (x : Decl). x.number == number) decls
    by true rest = refl
    by false rest = rest
