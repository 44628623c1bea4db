-- The lines of the objects.
use Rattle.std.proofs.Common.{◌≡◌, ℕ, ◌<◌, ◌≤◌, List, length, map, take, get_or, sym, ap, ◌∙◌, subst, Some, slice_get, arith}
use Rattle.std.specs.Option.{option_map}
use Rattle.std.proofs.lemmas.List.{length-map}
use Rattle.std.proofs.lemmas.Option.{slice_get_within, slice_get-map, slice_get-get_or}
use Rattle.sto_model.specs.Run.{State}
use Rattle.sto_lang.specs.declared.file.Decl.{Decl}
use Rattle.sto_lang.specs.declared.file.File as code
use Rattle.sto_lang.specs.Objects.{Declaration, shapes_of}
use Rattle.sto_lang.specs.Scripts.{File}
use Rattle.sto_lang.specs.Sound.{IsSound}
use Rattle.sto_lang.specs.Views.{file as view, declaration}
use Rattle.sto_lang.proofs.SoundFiles.{decls_numbered}
use Rattle.sto_report_spec.specs.Replay.{final_state}
use Rattle.sto_report_spec.specs.Report.{object_text}
use Rattle.sto_checker.proofs.Places.{length-opening}
use Rattle.sto_checker.specs.declared.past.Past.{Past}
use Rattle.sto_checker.specs.Past.{IsPast}
use Rattle.sto_checker.specs.Right.{order_in, IsObjectLine}
use Rattle.sto_checker.specs.Reached.{AreObjectsRead}

-- the number of an object is that of a row of the state
pub has_rows : (file : code.File) (past : Past) → IsSound (view file) → IsPast (view file) past → (i : ℕ) (d : Decl) → i < length file.decls.items → get_or file.decls.items i d ≡ d → d.number < length past.run.state.items
has_rows file past sound is i d l e =
    let count : length past.run.state.items ≡ length (shapes_of (view file).declarations) = is.run.objects ∙ length-opening (shapes_of (view file).declarations) in
    subst (λ (x : Decl). x.number < length past.run.state.items) e (decls_numbered file sound (length past.run.state.items) count i d l)

module _ (file : File) (tries : ℕ) (lines : List (List ℕ)) (past : Past) (read count : ℕ) (h : AreObjectsRead file tries lines past read count) where
  state_is : past.run.state.items ≡ final_state file (order_in file (take read lines))
  state_is = h.journal.lines_are.past.run.state_is ∙ ap (final_state file) h.journal.lines_are.order

  module _ (d : Declaration) (stands : slice_get file.declarations count ≡ Some d) (line : List ℕ) where
    -- the line of the next object
    pub object_here : line ≡ object_text past.run.state.items d → IsObjectLine file (order_in file (take read lines)) count line
    object_here e = record { object = d; next = stands; text = e ∙ ap (λ (state : State). object_text state d) state_is }

    pub no_object_here : (line ≡ object_text past.run.state.items d → ⊥) → IsObjectLine file (order_in file (take read lines)) count line → ⊥
    no_object_here wrong k =
        wrong (k.text ∙ ap (object_text (final_state file (order_in file (take read lines)))) (same k.object d (sym k.next ∙ stands)) ∙ ap (λ (state : State). object_text state d) (sym state_is))
      where
        same : (a b : Declaration) → Some a ≡ Some b → a ≡ b
        same a b e = cc

  -- there is no further object
  pub no_object_left : length file.declarations ≤ count → (line : List ℕ) → IsObjectLine file (order_in file (take read lines)) count line → ⊥
  no_object_left l line k = let inside = slice_get_within file.declarations count k.object k.next in absurd (omega (arith, l, inside))

-- a declared object by its place in the code
pub declared_at : (decls : List Decl) (i : ℕ) (d : Decl) → i < length decls → get_or decls i d ≡ d → slice_get (map declaration decls) i ≡ Some (declaration d)
declared_at decls i d l e = slice_get-map declaration decls i ∙ ap (option_map declaration) (slice_get-get_or decls i d l ∙ ap (λ (x : Decl). Some x) e)

pub count_declared : (decls : List Decl) → length (map declaration decls) ≡ length decls
count_declared decls = length-map decls declaration
