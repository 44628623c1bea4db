-- The names of some declarations, and of parts.
use Rattle.std.proofs.Common.{◌≡◌, ℕ, zero, suc, ◌<◌, List, [], ◌∷◌, ◌++◌, length, get_or, map, Bool, true, false, cond, ◌==◌, Some, codes, decimal, refl, arith, ap, ◌∙◌}
use Rattle.std.specs.Str.{IsAscii}
use Rattle.sto_syntax.specs.Words.{is_name}
use Rattle.sto_lang.specs.declared.file.Decl.{Decl}
use Rattle.sto_lang.specs.Views.{declaration}
use Rattle.sto_lang.specs.Objects.{Declaration, HaveNames, with_number}
use Rattle.sto_report_spec.specs.Aborts.{name_of}
use Rattle.sto_report_spec.proofs.Names.{name_printable}
use Rattle.sto_report_spec.proofs.Printable.{IsPrintable, printable_append, printable_decimal, printable_ascii}
use Rattle.sto_draw.specs.Scenes.{name_of_part}

named_at : (decls : List Decl) (i : ℕ) (d : Decl) → i < length decls → HaveNames (map declaration decls) → is_name (get_or decls i d).name.items ≡ true
named_at [] i d within h = absurd (omega (arith, within))
named_at (x ∷ decls) zero d within h = h.0
named_at (x ∷ decls) (suc i) d within h = named_at decls i d (omega (arith, within)) h.1

-- a declaration with a place has a name where all have one
pub has_name : (decls : List Decl) (i : ℕ) (d : Decl) → i < length decls → d ≡ get_or decls i d → HaveNames (map declaration decls) → is_name d.name.items ≡ true
has_name decls i d within e h = ap (λ (x : Decl). is_name x.name.items) e ∙ named_at decls i d within h

-- the name of a part is printable, also where no object has the number
printable_name : (ds : List Declaration) (number : ℕ) → HaveNames ds → IsPrintable (name_of (with_number number ds))
printable_name [] number h = tt
printable_name (d ∷ ds) number h = by (d.number == number) (printable_name ds number h.1)
  where
    by : (b : Bool) → IsPrintable (name_of (with_number number ds)) → IsPrintable (name_of (cond b (Some d) (with_number number ds)))
    by true k = name_printable d.name h.0
    by false k = k

pub part_ascii : (ds : List Declaration) (home : ℕ × ℕ) → HaveNames ds → IsAscii (name_of_part ds home)
part_ascii ds home h =
    printable_ascii (name_of_part ds home)
    (printable_append (name_of (with_number home.0 ds)) (codes " " ++ decimal home.1) (printable_name ds home.0 h) (refl, printable_decimal home.1))
