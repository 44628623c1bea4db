-- Every sound file can be used.
use Rattle.std.specs.Prelude.{slice_get, option_and_then}
use Rattle.std.specs.List.{All}
use Rattle.std.proofs.Common.{◌≡◌, ℕ, zero, suc, ◌+◌, ◌<◌, ◌≤◌, List, [], ◌∷◌, length, map, refl, sym, ap, ◌∙◌, subst, arith, Bool, true, false, Option, Some, None}
use Rattle.std.proofs.lemmas.List.{length-map}
use Rattle.std.proofs.lemmas.List.Elements.{All-head, All-tail}
use Rattle.std.proofs.lemmas.Option.{slice_get_within}
use Rattle.sto_model.specs.declared.shape.Shape.{Shape}
use Rattle.sto_syntax.specs.Words.{is_name}
use Rattle.sto_lang.specs.Objects.{Declaration, HaveNames, shapes_of, with_number}
use Rattle.sto_lang.specs.Shapes.{in_order}
use Rattle.sto_lang.specs.Scripts.{Script, File}
use Rattle.sto_lang.specs.Sound.{IsNumbered, HaveOwnNumbers, IsSoundScript, IsSound}
use Rattle.sto_lang.proofs.SoundObjects.{order_count}
use Rattle.sto_lang.proofs.SoundFiles.{calls_within, script_at}
use Rattle.sto_report_spec.specs.Orders.{TransactionPlace, at_position, transaction_at}
use Rattle.sto_serializability.specs.Meanings.{IsNamedObject, AreNamed, IsUsable}
use Rattle.sto_serializability.proofs.Chains.{Every, every}
use Rattle.sto_serializability.proofs.Pairs.{Later, every_weaker, occurrences}
use Rattle.sto_serializability.proofs.Numbers.{all_there, IsFound, found_number, found_name}

-- numbers of objects

numbers_below : (n : ℕ) (ds : List Declaration) → Every (λ (d : Declaration). d.number < n) ds → Every (λ y. y < n) (map (λ (d : Declaration). d.number) ds)
numbers_below n [] h = tt
numbers_below n (d ∷ ds) h = (h.0, numbers_below n ds h.1)

differ : (d : Declaration) (ds : List Declaration) → ((j : ℕ) (e : Declaration) → slice_get ds j ≡ Some e → d.number ≡ e.number → ⊥) → Every (λ y. d.number ≡ y → ⊥) (map (λ (e : Declaration). e.number) ds)
differ d [] h = tt
differ d (e ∷ ds) h = (h 0 e refl, differ d ds (λ j x at same. h (suc j) x at same))

apart : (ds : List Declaration) → HaveOwnNumbers ds → Later (λ y z. y ≡ z → ⊥) (map (λ (d : Declaration). d.number) ds)
apart [] h = tt
apart (d ∷ ds) h = (
  differ d ds (λ j e at same. let k = h 0 (suc j) d e refl at same in omega (arith, k)),
  apart ds (λ i j x y p q r. let k = h (suc i) (suc j) x y p q r in omega (arith, k)),
)

-- the name and the number of an object at a place
name_at : (ds : List Declaration) (i : ℕ) (d : Declaration) → HaveNames ds → slice_get ds i ≡ Some d → is_name d.name ≡ true
name_at [] zero d h e = absurd cc
name_at [] (suc i) d h e = absurd cc
name_at (x ∷ ds) zero d h e = let same : x ≡ d = cc in ap (λ (y : Declaration). is_name y.name) (sym same) ∙ h.0
name_at (x ∷ ds) (suc i) d h e = name_at ds i d h.1 e

numbered_at : (all ds : List Declaration) (i : ℕ) (d : Declaration) → Every (IsNumbered all) ds → slice_get ds i ≡ Some d → IsNumbered all d
numbered_at all [] zero d h e = absurd cc
numbered_at all [] (suc i) d h e = absurd cc
numbered_at all (x ∷ ds) zero d h e = let same : x ≡ d = cc in subst (IsNumbered all) same h.0
numbered_at all (x ∷ ds) (suc i) d h e = numbered_at all ds i d h.1 e

shapes_count : (ds : List Declaration) → length (shapes_of ds) ≡ length ds
shapes_count ds = order_count (map (λ (d : Declaration). d.shape) ds) ∙ length-map ds (λ (d : Declaration). d.shape)

are_named : (file : File) → IsSound file → AreNamed file.declarations
are_named file sound object shape at =
    let ds : List Declaration = file.declarations in
    let numbers : List ℕ = map (λ (d : Declaration). d.number) file.declarations in
    let numbered : Every (IsNumbered file.declarations) file.declarations = every (IsNumbered file.declarations) file.declarations sound.numbered in
    let within : object < length (shapes_of file.declarations) = slice_get_within (shapes_of file.declarations) object shape at in
    let count = shapes_count file.declarations in
    let one : occurrences object (map (λ (d : Declaration). d.number) file.declarations) ≡ 1 =
    all_there (length file.declarations) (map (λ (d : Declaration). d.number) file.declarations) (length-map file.declarations (λ (d : Declaration). d.number))
    (numbers_below (length file.declarations) file.declarations (every_weaker (IsNumbered file.declarations) (λ (d : Declaration). d.number < length file.declarations) (λ d k. k.below) file.declarations numbered))
    (apart file.declarations sound.own_numbers) object (omega (arith, within, count)) in
    let found : IsFound file.declarations object = found_number file.declarations object (omega (arith, one)) in (
      found.declaration,
      record {
        number = found.number;
        shaped = ap (slice_get (shapes_of file.declarations)) (sym found.number) ∙ (numbered_at file.declarations file.declarations found.place found.declaration numbered found.there).shaped;
        by_number = found.by_number;
        by_name = found_name file.declarations found.place found.declaration sound.own_names found.there;
        word = name_at file.declarations found.place found.declaration sound.named found.there;
      },
    )

-- a transaction by its thread and what stands before it there
pub record Found (thread : Option (List Script)) (position : ℕ) (script : Script) : Type 0 where
  pub scripts : List Script
  pub earlier : ℕ
  pub in_thread : thread ≡ Some scripts
  pub next : position ≡ suc earlier
  pub stands : slice_get scripts earlier ≡ Some script

pub found_script : (thread : Option (List Script)) (position : ℕ) (script : Script) → option_and_then (at_position position) thread ≡ Some script → Found thread position script
found_script None position script e = absurd cc
found_script (Some scripts) zero script e = absurd cc
found_script (Some scripts) (suc earlier) script e = record { scripts = scripts; earlier = earlier; in_thread = refl; next = refl; stands = e }

-- each transaction of a sound file is sound
pub sound_script : (file : File) → IsSound file → (place : TransactionPlace) (script : Script) → transaction_at file place ≡ Some script → IsSoundScript (shapes_of file.declarations) script
sound_script file sound place script e =
    let f : Found (slice_get file.threads place.0) place.1 script = found_script (slice_get file.threads place.0) place.1 script e in
    script_at file place.0 f.earlier f.scripts script sound f.in_thread f.stands

-- A sound file can be used.
pub sound_usable : (file : File) → IsSound file → IsUsable file
sound_usable file sound = record {
  named = are_named file sound;
  words = sound.named;
  threads = record { each = sound.thread_names.are_names; differ = sound.thread_names.differ };
  each_thread = sound.thread_names.each;
  weighed = λ place script e. calls_within (shapes_of file.declarations) script (sound_script file sound place script e);
}
