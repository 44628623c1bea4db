-- The object that a call asks.
use Rattle.std.proofs.Common.{◌≡◌, ℕ, List, [], refl, ap, ◌∙◌, arith, Option, None, Some, is_none, slice_get, option_and_then, pos}
use Rattle.std.specs.Option.{option_map, option_map_or}
use Rattle.std.specs.Str.{bytes_eq}
use Rattle.std.proofs.lemmas.List.Quantifiers.{position-Some}
use Rattle.std.proofs.lemmas.Option.{slice_get-get_or}
use Rattle.sto_model.specs.declared.shape.Shape.TheVariants.{Single}
use Rattle.sto_syntax.specs.Forms.{Form, VersionLine, DeclareLine, ThreadLine, BeginLine, CallLine, SumLine, DiffLine, IfLine, ElseLine, RepeatLine, EndLine, CancelLine, CommitLine, ScheduleLine}
use Rattle.sto_lang.specs.declared.objects.KnownObject.{KnownObject}
use Rattle.sto_lang.specs.Objects.{Object, Declaration, declarations_of, object_place, named}
use Rattle.sto_lang.specs.ObjectViews.{known}
use Rattle.sto_lang.specs.Drafts.{Draft}
use Rattle.sto_lang.specs.Asked.{asked_number}
use Rattle.sto_lang.specs.Uses.{declared, asked_of}
use Rattle.sto_lang.proofs.SoundObjects.{declaration_count}

by_place : (objects : List Object) (name : List ℕ) (place : Option ℕ) → object_place name objects ≡ place → is_none (option_map known (named name objects)) ≡ is_none place
by_place objects name None e = ap (λ (p : Option ℕ). is_none (option_map known (option_and_then (slice_get (declarations_of objects)) p))) e
by_place objects name (Some i) e =
    let none : Object = record { name = []; shape = Single (pos 0) } in
    let here = (position-Some (λ o. bytes_eq name o.name) objects i none e).0 in
    let nowhere : Declaration = record { name = []; shape = Single (pos 0); number = 0 } in
    let found = slice_get-get_or (declarations_of objects) i nowhere (omega (arith, here, declaration_count objects)) in
    ap (λ (o : Option Declaration). is_none (option_map known o)) (ap (λ (p : Option ℕ). option_and_then (slice_get (declarations_of objects)) p) e ∙ found)

-- it is found where its name has a place
pub unknown_call : (d : Draft) (object : List ℕ) → is_none (option_map known (declared d object)) ≡ is_none (object_place object d.objects)
unknown_call d object = by_place d.objects object (object_place object d.objects) refl

number_known : (o : Option Declaration) → option_map_or (λ (k : KnownObject). k.number) (option_map known o) 0 ≡ option_map_or (λ (d : Declaration). d.number) o 0
number_known None = refl
number_known (Some d) = refl

pub number_asked : (d : Draft) (form : Form) → option_map_or (λ (k : KnownObject). k.number) (option_map known (asked_of d form)) 0 ≡ asked_number d.objects form
number_asked d (CallLine to operation object operands) = number_known (declared d object)
number_asked d (VersionLine version) = refl
number_asked d (DeclareLine name what) = refl
number_asked d (ThreadLine name) = refl
number_asked d BeginLine = refl
number_asked d (SumLine to a b) = refl
number_asked d (DiffLine to a b) = refl
number_asked d (IfLine a test b) = refl
number_asked d ElseLine = refl
number_asked d (RepeatLine times) = refl
number_asked d EndLine = refl
number_asked d CancelLine = refl
number_asked d CommitLine = refl
number_asked d (ScheduleLine entries) = refl
