-- The tests' file and journal are what a report asks for.
use Rattle.std.proofs.Common.{◌≡◌, ℕ, ◌<◌, List, [], ◌∷◌, length, map, refl, sym, ap, ◌∙◌, subst, arith, true}
use Rattle.std.proofs.lemmas.List.{length-map}
use Rattle.std.proofs.lemmas.List.Elements.{All-from_recursion}
use Rattle.sto_model.specs.Run.{State}
use Rattle.sto_syntax.specs.Words.{is_name}
use Rattle.sto_lang.specs.declared.file.Decl.{Decl}
use Rattle.sto_lang.specs.declared.file.Thread.{Thread}
use Rattle.sto_lang.specs.Objects.{Declaration, HaveNames}
use Rattle.sto_lang.specs.Views.{declaration, names_of}
use Rattle.sto_journal.specs.Named.{AreNames}
use Rattle.sto_journal.specs.declared.journal.Line.{Line}
use Rattle.sto_journal.specs.declared.journal.AbortLine.{AbortLine}
use Rattle.sto_journal.specs.Journals.{HaveThreads, AreAbortsOf, HaveRows}
use Rattle.sto_test_texts.specs.Examples.{box_a, up_and_down}

pub box_named : (ds : List Decl) → map declaration ds ≡ box_a → HaveNames (map declaration ds)
box_named ds e = subst HaveNames (sym e) (refl, tt)

pub threads_named : (ts : List Thread) → names_of ts ≡ up_and_down → AreNames (names_of ts)
threads_named ts e = subst AreNames (sym e) (record { each = All-from_recursion (λ (n : List ℕ). is_name n ≡ true) up_and_down (refl, (refl, tt)); differ = (refl, (refl, tt)) })

two_threads : (ts : List Thread) → names_of ts ≡ up_and_down → length ts ≡ 2
two_threads ts e = sym (length-map ts (λ (t : Thread). t.name.items)) ∙ ap length e

pub lines_of_two : (ts : List Thread) (ls : List Line) → names_of ts ≡ up_and_down → HaveThreads 2 ls → HaveThreads (length ts) ls
lines_of_two ts ls e h = subst (λ (n : ℕ). HaveThreads n ls) (sym (two_threads ts e)) h

pub aborts_of_two : (ts : List Thread) (ds : List Decl) (ls : List AbortLine) → names_of ts ≡ up_and_down → map declaration ds ≡ box_a → AreAbortsOf 2 box_a ls → AreAbortsOf (length ts) (map declaration ds) ls
aborts_of_two ts ds ls e f h = subst (λ (n : ℕ). AreAbortsOf n (map declaration ds) ls) (sym (two_threads ts e)) (subst (λ (xs : List Declaration). AreAbortsOf 2 xs ls) (sym f) h)

pub box_rows : (ds : List Decl) (state : State) → map declaration ds ≡ box_a → length state ≡ 1 → HaveRows state ds
box_rows [] state e l = absurd cc
box_rows (d ∷ []) state e l =
    let number : d.number ≡ 0 = ap (λ (xs : List Declaration). first_number xs) e in
    All-from_recursion (λ (x : Decl). x.number < length state) (d ∷ []) (omega (arith, number, l), tt)
  where
    first_number : List Declaration → ℕ
    first_number [] = 0
    first_number (x ∷ xs) = x.number
box_rows (d ∷ x ∷ ds) state e l = absurd cc
