-- Each file that can be read is sound.
use Rattle.std.proofs.Common.{◌≡◌, ◌≤◌, ◌<◌, ℕ, suc, List, [], ◌∷◌, length, refl, sym, ◌∙◌, arith, Bool, true, false, Option, None, Some, Result, Ok, Err, IfOk, cond, nat_lt, subst, slice_get, map, inl}
use Rattle.std.specs.Prelude.{All}
use Rattle.std.specs.List.{list_all}
use Rattle.std.proofs.lemmas.List.{length-map}
use Rattle.std.proofs.lemmas.List.Elements.{All-nil, All-cons, All-head, All-tail, All-weaker}
use Rattle.sto_model.specs.declared.shape.Shape.{Shape}
use Rattle.sto_syntax.specs.Words.{is_name}
use Rattle.sto_syntax.specs.Lines.{lines_of, words_of}
use Rattle.sto_syntax.specs.Forms.{Form, form_of}
use Rattle.sto_lang.specs.declared.fault.ScriptFault.{ScriptFault}
use Rattle.sto_lang.specs.declared.fault.FaultKind.{FaultKind}
use Rattle.sto_lang.specs.declared.fault.FaultKind.TheVariants.{TooLarge, BadByte}
use Rattle.sto_lang.specs.Scripts.{Script, File}
use Rattle.sto_model.specs.Sizes.{part_count, word_count}
use Rattle.sto_lang.specs.Shapes.{in_order}
use Rattle.sto_lang.specs.Objects.{Object, shapes_in, declarations_of, shapes_of}
use Rattle.sto_lang.specs.Drafts.{Draft, OpenTransaction, opening, with_form}
use Rattle.sto_lang.specs.Faults.{fault_of}
use Rattle.sto_lang.specs.Files.{fault, is_allowed, unless, with_line_of, with_words, with_line, whole, ◌>>=◌, with_lines, file_of, IsFile}
use Rattle.sto_lang.specs.Sound.{HasRanges, AllDiffer, IsNumbered, IsSoundScript, IsSound}
use Rattle.sto_lang.specs.Sizes.{calls_of}
use Rattle.sto_lang.proofs.SoundStatements.{calls_weigh}
use Rattle.sto_lang.proofs.SoundLines.{all_get}
use Rattle.sto_lang.specs.declared.file.File as code
use Rattle.sto_lang.specs.Views.{declaration, file as seen}
use Rattle.sto_lang.proofs.SoundForms.{Well, NamesWell, form_well}
use Rattle.sto_lang.proofs.SoundObjects.{names_declared, same_names, ranges_declared, total_declared, numbered, declaration_count, shapes_are, order_count}
use Rattle.sto_lang.proofs.SoundNumbers.{own_numbers}
use Rattle.sto_lang.proofs.SoundDrafts.{IsSoundDraft}
use Rattle.sto_lang.proofs.SoundSteps.{no_fault, form_sound}

-- before the first line
pub opening_sound : IsSoundDraft opening
opening_sound =
    record {
      versioned = inl refl;
      named = All-nil (λ (o : Object). is_name o.name ≡ true);
      own_names = tt;
      thread_names = record { each = refl; are_names = All-nil (λ (n : List ℕ). is_name n ≡ true); differ = tt; numbered = λ e. refl };
      few_objects = omega arith;
      in_ranges = All-nil (λ (o : Object). HasRanges 1 o.shape);
      few_parts = omega arith;
      few_words = omega arith;
      few_threads = omega arith;
      few_transactions = omega arith;
      light = omega arith;
      sound_scripts = All-nil (All (IsSoundScript (in_order (shapes_in []))));
      sound_inside = tt;
      begun_after = λ e. refl;
      scheduled = tt;
    }

by_fault : (d : Draft) (number : ℕ) (later : List (List ℕ)) (form : Form) (found : Option FaultKind) → fault_of d later form ≡ found → IsSoundDraft d → NamesWell d.version form → IfOk (unless (with_form d form) number found) IsSoundDraft
by_fault d number later form None e s named = form_sound d later form s named (no_fault d later form e)
by_fault d number later form (Some kind) e s named = tt

line_of_sound : (d : Draft) (number : ℕ) (later : List (List ℕ)) (form : Option Form) → IsSoundDraft d → Well d.version form → IfOk (with_line_of d number later form) IsSoundDraft
line_of_sound d number later None s named = tt
line_of_sound d number later (Some form) s named = by_fault d number later form (fault_of d later form) refl s named

words_sound : (d : Draft) (number : ℕ) (later words : List (List ℕ)) → IsSoundDraft d → IfOk (with_words d number later words) IsSoundDraft
words_sound d number later [] s = s
words_sound d number later (word ∷ words) s = line_of_sound d number later (form_of d.version word words) s (form_well d.version word words)

by_bytes : (allowed : Bool) (r : Result Draft ScriptFault) (number : ℕ) → IfOk r IsSoundDraft → IfOk (cond allowed r (fault number BadByte)) IsSoundDraft
by_bytes true r number h = h
by_bytes false r number h = tt

line_sound : (d : Draft) (number : ℕ) (later : List (List ℕ)) (line : List ℕ) → IsSoundDraft d → IfOk (with_line d number later line) IsSoundDraft
line_sound d number later line s = by_bytes (list_all is_allowed line) (with_words d number later (words_of line)) number (words_sound d number later (words_of line) s)

-- a file by its objects
file_sound : (d : Draft) → IsSoundDraft d → IsSound (record { version = d.version; declarations = declarations_of d.objects; names = d.names; threads = d.threads; schedule = d.schedule })
file_sound d s =
    record {
      versioned = s.versioned;
      named = names_declared d.objects s.named;
      own_names = subst AllDiffer (sym (same_names d.objects)) s.own_names;
      thread_names = s.thread_names;
      few_objects = omega (arith, declaration_count d.objects, s.few_objects);
      in_ranges = ranges_declared d.version d.objects s.in_ranges;
      few_parts = omega (arith, total_declared part_count d.objects, s.few_parts);
      few_words = omega (arith, total_declared word_count d.objects, s.few_words);
      numbered = numbered d.objects;
      own_numbers = own_numbers d.objects;
      few_threads = s.few_threads;
      few_transactions = omega (arith, s.few_transactions);
      light = s.light;
      sound_scripts = subst (λ (shapes : List Shape). All (All (IsSoundScript shapes)) d.threads) (sym (shapes_are d.objects)) s.sound_scripts;
      scheduled = s.scheduled;
    }

whole_sound : (d : Draft) (number : ℕ) (inside : Option OpenTransaction) (file : File) → IsSoundDraft d → whole d number inside ≡ Ok file → IsSound file
whole_sound d number None file s e =
    let same : record { version = d.version; declarations = declarations_of d.objects; names = d.names; threads = d.threads; schedule = d.schedule } ≡ file = cc in
    subst IsSound same (file_sound d s)
whole_sound d number (Some t) file s e = absurd cc

then_sound : (r : Result Draft ScriptFault) (rest : Draft → Result File ScriptFault) (file : File) → IfOk r IsSoundDraft → ((d : Draft) → IsSoundDraft d → rest d ≡ Ok file → IsSound file) → r >>= rest ≡ Ok file → IsSound file
then_sound (Ok d) rest file h f e = f d h e
then_sound (Err x) rest file h f e = absurd cc

lines_sound : (d : Draft) (number : ℕ) (lines : List (List ℕ)) (file : File) → IsSoundDraft d → with_lines d number lines ≡ Ok file → IsSound file
lines_sound d number [] file s e = whole_sound d number d.inside file s e
lines_sound d number (line ∷ lines) file s e =
    then_sound (with_line d number lines line) (λ x. with_lines x (suc number) lines) file (line_sound d number lines line s) (λ x h k. lines_sound x (suc number) lines file h k) e

by_size : (large : Bool) (bytes : List ℕ) (file : File) → cond large (fault 0 TooLarge) (with_lines opening 1 (lines_of bytes)) ≡ Ok file → IsSound file
by_size true bytes file e = absurd cc
by_size false bytes file e = lines_sound opening 1 (lines_of bytes) file opening_sound e

-- what can be read satisfies `IsSound`
pub readable_sound : (bytes : List ℕ) (file : File) → file_of bytes ≡ Ok file → IsSound file
readable_sound bytes file e = by_size (nat_lt 1048576 (length bytes)) bytes file e

-- what each script may ask weighs no more than the script
pub calls_within : (shapes : List Shape) (script : Script) → IsSoundScript shapes script → calls_of script.body ≤ script.weight
calls_within shapes script s = omega (arith, s.weighed, calls_weigh shapes script.body)

-- each number is below the count of objects
pub numbers_below : (file : File) → IsSound file → All (λ d. d.number < length file.declarations) file.declarations
numbers_below file s = All-weaker (IsNumbered file.declarations) (λ d. d.number < length file.declarations) (λ d h. h.below) file.declarations s.numbered

-- one of the scripts
pub script_at : (file : File) (i j : ℕ) (thread : List Script) (script : Script) → IsSound file → slice_get file.threads i ≡ Some thread → slice_get thread j ≡ Some script → IsSoundScript (shapes_of file.declarations) script
script_at file i j thread script s e f =
    all_get (IsSoundScript (shapes_of file.declarations)) thread j script (all_get (All (IsSoundScript (shapes_of file.declarations))) file.threads i thread s.sound_scripts e) f

-- the same, the limit of bytes aside
pub file_is_sound : (file : File) → IsFile file → IsSound file
file_is_sound file h = lines_sound opening 1 (lines_of h.bytes) file opening_sound h.reads

from_map : {X Y : Type 0} (P : Y → Type 0) (f : X → Y) (xs : List X) → All P (map f xs) → All (λ x. P (f x)) xs
from_map P f [] h = All-nil (λ x. P (f x))
from_map P f (x ∷ xs) h = All-cons (λ x. P (f x)) x xs (All-head P (f x) (map f xs) h) (from_map P f xs (All-tail P (f x) (map f xs) h))

-- each number of the objects of the code is below the count of shapes
pub decls_numbered : (file : code.File) → IsSound (seen file) → (n : ℕ) → n ≡ length (shapes_of (seen file).declarations) → All (λ d. d.number < n) file.decls.items
decls_numbered file s n e =
    let declarations = map declaration file.decls.items in
    let count : n ≡ length declarations = e ∙ order_count (map (λ d. d.shape) declarations) ∙ length-map declarations (λ d. d.shape) in
    from_map (λ d. d.number < n) declaration file.decls.items (All-weaker (λ d. d.number < length declarations) (λ d. d.number < n) (λ d h. omega (arith, h, count)) declarations (numbers_below (seen file) s))
