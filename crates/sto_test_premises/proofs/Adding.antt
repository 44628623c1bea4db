-- What every run of the two transactions rests on: the file, the type of its box, what their attempts may do, and what they find.
use Rattle.std.specs.Prelude.{slice_index_or}
use Rattle.std.specs.Fmt.{digits}
use Rattle.std.specs.Int.{w64, int_wrap}
use Rattle.std.specs.Int.RustNames.{FitsSigned}
use Rattle.std.proofs.Common.{◌≡◌, ℕ, zero, suc, ℤ, pos, ◌<◌, ◌≤◌, List, [], ◌∷◌, length, None, refl, ap, ◌∙◌, sym, subst, arith, Bool, true, false, if◌then◌else◌, inl, Ok}
use Rattle.sto_part.specs.Codes.{IsSignedCode}
use Rattle.sto_part.specs.Parts.{part_of}
use Rattle.sto_model.specs.Calls.{call_of}
use Rattle.sto_model.specs.declared.operation.Operation.TheVariants.{Get, Set}
use Rattle.sto_model.specs.declared.shape.Shape.TheVariants.{Single}
use Rattle.sto_lang.specs.Objects.{shapes_of}
use Rattle.sto_lang.specs.Files.{file_of}
use Rattle.sto_lang.proofs.SoundFiles.{readable_sound}
use Rattle.sto_script.specs.Meaning.{meaning_of}
use Rattle.sto_type.specs.Pending.{applied_updates}
use Rattle.sto_type.specs.Known.{Parts}
use Rattle.sto_type.specs.Runs.{IsRunOn}
use Rattle.sto_type.specs.Touching.{Touches}
use Rattle.sto_box.specs.Boxed.{IsBox, BoxTakes}
use Rattle.sto_box.specs.BoxedLaw.{box_lawful, one_part, one_word}
use Rattle.sto_core.specs.declared.view.Entry.{Entry}
use Rattle.sto_core.specs.declared.view.Fate.TheVariants.{Committed}
use Rattle.sto_core.specs.declared.view.Phase.TheVariants.{Locking}
use Rattle.sto_core.specs.declared.view.View.{View}
use Rattle.sto_core.specs.Lists.{Among}
use Rattle.sto_core.specs.Reads.{was_read}
use Rattle.sto_core.specs.History.{Contents, UpdatesFit, writes}
use Rattle.sto_core.specs.Views.{holds, was_put}
use Rattle.sto_core.specs.Allowed.{MayDraw, WasSeen}
use Rattle.sto_core.specs.Core.{Core}
use Rattle.sto_core.proofs.Lists.{each_one, each_nothing}
use Rattle.sto_report_spec.specs.Lawful.{made_in, IsLawfulIn}
use Rattle.sto_report_spec.specs.declared.form.ReportForm.{ReportForm}
use Rattle.sto_history.specs.Records.{Record}
use Rattle.sto_history.specs.Told.{HasWritten}
use Rattle.sto_serializability.specs.Meanings.{updating_by, IsHomeAt, IsTypeOf, IsUsable}
use Rattle.sto_serializability.specs.Merged.{aborts_from}
use Rattle.sto_serializability.proofs.Headline.{report_lawful}
use Rattle.sto_serializability.proofs.Replaying.{places_of}
use Rattle.sto_serializability.proofs.Usable.{sound_usable}
use Rattle.sto_test_premises.specs.Premises.{Premises}
use Rattle.sto_test_premises.specs.Adding.{script, adding, file, box, valid, heard, puts}

-- The file and its type

-- the script says the file
pub reads_file : file_of script ≡ Ok file
unfolding digits int_wrap
reads_file = refl

pub usable : IsUsable file
usable = sound_usable file (readable_sound script file reads_file)

pub box_opened : box.valid box.opened
box_opened = record { widths = refl; code = ∣ tt ∣₁; fits = (record { sfits = omega arith }, tt) }

homes_are : (p : ℕ) → p < 1 → IsHomeAt (shapes_of file.declarations) p (slice_index_or box.homes p (0, 0))
homes_are zero l = record { shape = Single (pos 0); object = refl; inside = omega arith; number = omega arith }
homes_are (suc p) l = absurd (omega (arith, l))

pub type_is : IsTypeOf (shapes_of file.declarations) box
type_is = record {
  lawful = box_lawful 1 IsSignedCode (pos 0 ∷ []) (omega arith, omega arith) box_opened;
  machines = refl;
  homes = homes_are;
}

-- records that meet all premises have a lawful report, in both forms
pub lawful : {tries : ℕ} {core : Core} {v : View} {rs ordered : List Record} → Premises valid [] box.opened box file tries core v rs ordered
    → (form : ReportForm)
    → IsLawfulIn form (updating_by (λ shapes. box)) file tries (made_in form file (places_of ordered) (aborts_from file.declarations box.homes rs 0 (length file.threads)))
lawful {tries = tries} {rs = rs} {ordered = ordered} p form =
    report_lawful (λ shapes. box) file p.usable p.type_of p.closed tries rs ordered p.finished p.merged p.short p.few_parts form

-- What an attempt may do

pub one : 0 < 1
one = omega arith

pub fits_1 : FitsSigned w64 (pos 1)
fits_1 = record { sfits = omega arith }

pub fits_2 : FitsSigned w64 (pos 2)
fits_2 = record { sfits = omega arith }

-- the only place of the part was read, and put
pub one_read : (x : ℤ) (i : ℕ) → i < 1 → was_read ((0, x) ∷ []) i ≡ true
one_read x zero l = refl
one_read x (suc i) l = absurd (omega (arith, l))

pub one_put : (i : ℕ) → i < 1 → was_put ((0, 0) ∷ []) 0 i ≡ true
one_put zero l = refl
one_put (suc i) l = absurd (omega (arith, l))

-- contents of one word
one_value : (c : Parts) → IsBox 1 IsSignedCode c → (x : ℤ) × (c ≡ (x ∷ []) ∷ [])
one_value c v =
    let part : (c ≡ part_of c 0 ∷ []) × _ = one_part 1 c v.widths in
    let x = one_word (part_of c 0) part.1 in
    (x.0, part.0 ∙ ap (λ (ws : List ℤ). ws ∷ []) x.1)

-- a put of a number keeps them valid
put_keeps : (y : ℤ) → FitsSigned w64 y → (c : Parts) → IsBox 1 IsSignedCode c → IsBox 1 IsSignedCode (applied_updates (puts y) c)
put_keeps y fits c v =
    let x = one_value c v in
    subst (λ (d : Parts). IsBox 1 IsSignedCode (applied_updates (puts y) d)) (sym x.1)
    (record { widths = refl; code = ∣ tt ∣₁; fits = (fits, tt) })

-- a pass that holds the part, and has a standing claim of it, may draw a ticket for a put of a number
pub may_draw : (y : ℤ) → FitsSigned w64 y → (v : View) → v.phase ≡ Locking → 0 < v.draws → v.opening ≡ box.opened
    → ((p : ℕ) → writes (puts y) p ≡ holds p v.held) → WasSeen v 0 → MayDraw valid (puts y) (0 ∷ []) [] v
may_draw y fits v phase draws opening held seen = record {
  phase = phase;
  draws = draws;
  updates = ((omega arith, tt), (refl, tt));
  widths = subst (λ (c : Contents). UpdatesFit c (puts y)) (sym opening) (each_one _ _ (one, refl));
  held = held;
  seen_rise = tt;
  loaded_rise = tt;
  apart = each_one _ _ (each_nothing _);
  sights = each_one _ _ seen;
  loads = each_nothing _;
  keeps = λ c h shows. put_keeps y fits c h;
}

-- What it finds

-- the calls of either transaction are taken: a get of the box, and a set of it to a number
get_taken : BoxTakes 1 IsSignedCode (call_of 0 Get (pos 0) (pos 0))
get_taken = record { object = refl; third = refl; taken = refl; value = λ e. ∣ tt ∣₁; fits = record { sfits = omega arith }; fits_too = record { sfits = omega arith } }

set_taken : (y : ℤ) → FitsSigned w64 y → BoxTakes 1 IsSignedCode (call_of 0 Set y (pos 0))
set_taken y fits = record { object = refl; third = refl; taken = refl; value = λ e. ∣ tt ∣₁; fits = fits; fits_too = record { sfits = omega arith } }

-- the get may touch the part: where nothing is known, it needs it
pub get_touches : Touches box 0 (call_of 0 Get (pos 0) (pos 0))
get_touches = record { takes = get_taken; contents = box.opened; valid = box_opened; knowledge = λ p. None; known = record { same = λ p ws l e. absurd cc }; does = inl refl }

-- their run on a box with 0, and on one with 1
pub run_on_0 : IsRunOn box (meaning_of adding) ((pos 0 ∷ []) ∷ []) (puts (pos 1)) (heard (pos 0))
unfolding int_wrap
run_on_0 = record {
  ordered = ((omega arith, tt), (refl, tt));
  widths = (omega arith, refl, tt);
  valid = record { widths = refl; code = ∣ tt ∣₁; fits = (fits_1, tt) };
  run = (refl, (refl, tt));
  state = refl;
  pending = refl;
  contents = refl;
  taken = (get_taken, (set_taken (pos 1) fits_1, tt));
}

pub run_on_1 : IsRunOn box (meaning_of adding) ((pos 1 ∷ []) ∷ []) (puts (pos 2)) (heard (pos 1))
unfolding int_wrap
run_on_1 = record {
  ordered = ((omega arith, tt), (refl, tt));
  widths = (omega arith, refl, tt);
  valid = record { widths = refl; code = ∣ tt ∣₁; fits = (fits_2, tt) };
  run = (refl, (refl, tt));
  state = refl;
  pending = refl;
  contents = refl;
  taken = (get_taken, (set_taken (pos 2) fits_2, tt));
}

-- valid contents are those that the word of their part says
pub shown : (x : ℤ) (c : Parts) → IsBox 1 IsSignedCode c → part_of c 0 ≡ x ∷ [] → (x ∷ []) ∷ [] ≡ c
shown x c v shows = sym ((one_part 1 c v.widths).0 ∙ ap (λ (ws : List ℤ). ws ∷ []) shows)

-- the committed entry of a pass that found x with a ticket, and puts y
abbrev pub committed : (ticket pass found : ℕ) → ℤ → ℤ → Entry
committed ticket pass found x y = record {
  ticket = ticket;
  pass = pass;
  updates = puts y;
  looked = record { part = 0; ticket = found; words = x ∷ [] } ∷ [];
  fate = Committed;
}

-- it is what the record of an attempt that wrote tells
pub has_written : (v : View) (ticket pass found : ℕ) (x y : ℤ) → IsRunOn box (meaning_of adding) ((x ∷ []) ∷ []) (puts y) (heard x)
    → Among (committed ticket pass found x y) v.entries → HasWritten box v (meaning_of adding) (heard x) ticket
has_written v ticket pass found x y run there = record {
  entry = committed ticket pass found x y;
  there = there;
  drawn = refl;
  committed = refl;
  runs = λ c h shows. subst (λ (d : Parts). IsRunOn box (meaning_of adding) d (puts y) (heard x)) (shown x c h (shows 0 _ refl)) run;
  ends = refl;
  writes = refl;
}

-- What is counted

pub at_most : (b : Bool) → (if b then 1 else 0) ≤ 1
at_most true = omega arith
at_most false = omega arith
