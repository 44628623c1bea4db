-- The text of a call is printable, where the names of objects are names.
use Rattle.std.proofs.Common.{◌≡◌, ℕ, ℤ, List, [], ◌∷◌, ◌++◌, refl, sym, subst, append-nil, ◌==◌, Bool, true, false, ◌&&◌, cond, map, Option, None, Some}
use Rattle.std.specs.List.{flat_map, list_all, join_with_byte}
use Rattle.std.specs.Option.{option_map}
use Rattle.sto_part.specs.declared.pred.Test as tests
use Rattle.sto_part.specs.declared.pred.Test.TheVariants.{Eq, Ne, Lt, Le, Gt, Ge}
use Rattle.sto_model.specs.declared.call.Call.{Call}
use Rattle.sto_syntax.specs.Words.{is_name}
use Rattle.sto_syntax.specs.Kinds.{Kind, Box, Counter, Array, Hash, Tree, Vector}
use Rattle.sto_syntax.specs.Forms.{Operand}
use Rattle.sto_syntax.specs.Operations.{operation_word, test_word}
use Rattle.sto_syntax.specs.declared.operation.OperationWord.{OperationWord}
use Rattle.sto_syntax.specs.declared.operation.OperationWord.TheVariants as ops
use Rattle.sto_lang.specs.Objects.{Declaration, HaveNames, with_number}
use Rattle.sto_lang.specs.Shapes.{kind_of}
use Rattle.sto_lang.specs.declared.arg.Arg.{Arg}
use Rattle.sto_lang.specs.declared.arg.Arg.TheVariants.{Num}
use Rattle.sto_write.specs.Texts.{call_words, form_words, operand, operand_word, word_with, arguments_of, call_on, option_list, call_text}
use Rattle.sto_report_spec.specs.Aborts.{name_of}
use Rattle.sto_report_spec.proofs.Names.{name_printable}
use Rattle.sto_report_spec.proofs.Printable.{IsPrintable, is_printable, printable_append, printable_signed}

both_true : (a b : Bool) → (a && b) ≡ true → (a ≡ true) × (b ≡ true)
both_true true b e = (refl, e)
both_true false b e = absurd cc

-- a word whose bytes are looked at one by one
pub plain_word : (s : List ℕ) → list_all is_printable s ≡ true → IsPrintable s
plain_word [] e = tt
plain_word (x ∷ s) e = let h = both_true (is_printable x) (list_all is_printable s) e in (h.0, plain_word s h.1)

-- what holds of the object with a number, where there is one, and where there is none
with_object : (P : Option Declaration → Type 0) (ds : List Declaration) (object : ℕ) → HaveNames ds → P None → ((d : Declaration) → is_name d.name ≡ true → P (Some d)) → P (with_number object ds)
with_object P [] object h none one = none
with_object P (d ∷ ds) object h none one = by (d.number == object) (with_object P ds object h.1 none one)
  where
    by : (b : Bool) → P (with_number object ds) → P (cond b (Some d) (with_number object ds))
    by true later = one d h.0
    by false later = later

pub object_printable : (ds : List Declaration) (object : ℕ) → HaveNames ds → IsPrintable (name_of (with_number object ds))
object_printable ds object h = with_object (λ o. IsPrintable (name_of o)) ds object h tt (λ d named. name_printable d.name named)

abbrev ArePrintable : List (List ℕ) → Type 0
ArePrintable [] = Unit {0}
ArePrintable (w ∷ words) = IsPrintable w × ArePrintable words

joined : (words : List (List ℕ)) → ArePrintable words → IsPrintable (join_with_byte 32 words)
joined [] h = tt
joined (w ∷ []) h = h.0
joined (w ∷ next ∷ words) h = printable_append w (32 ∷ join_with_byte 32 (next ∷ words)) h.0 (refl, joined (next ∷ words) h.1)

compared : (test : tests.Test) → IsPrintable (test_word test)
compared Eq = plain_word (test_word Eq) refl
compared Ne = plain_word (test_word Ne) refl
compared Lt = plain_word (test_word Lt) refl
compared Le = plain_word (test_word Le) refl
compared Gt = plain_word (test_word Gt) refl
compared Ge = plain_word (test_word Ge) refl

operates : (operation : OperationWord) → IsPrintable (operation_word operation)
operates ops.Get = plain_word (operation_word ops.Get) refl
operates ops.Set = plain_word (operation_word ops.Set) refl
operates ops.Add = plain_word (operation_word ops.Add) refl
operates (ops.Compare test) = plain_word (operation_word (ops.Compare test)) refl
operates ops.Take = plain_word (operation_word ops.Take) refl
operates ops.Put = plain_word (operation_word ops.Put) refl
operates ops.Remove = plain_word (operation_word ops.Remove) refl
operates ops.Has = plain_word (operation_word ops.Has) refl
operates ops.Len = plain_word (operation_word ops.Len) refl
operates ops.Next = plain_word (operation_word ops.Next) refl
operates ops.Count = plain_word (operation_word ops.Count) refl
operates ops.Scan = plain_word (operation_word ops.Scan) refl
operates ops.Push = plain_word (operation_word ops.Push) refl
operates ops.Pop = plain_word (operation_word ops.Pop) refl

then_operands : (operation : OperationWord) (operands : List Operand) → ArePrintable (map operand_word operands) → ArePrintable (call_words operation operands)
then_operands ops.Get operands h = h
then_operands ops.Set operands h = h
then_operands ops.Add operands h = h
then_operands (ops.Compare test) operands h = (compared test, h)
then_operands ops.Take operands h = h
then_operands ops.Put operands h = h
then_operands ops.Remove operands h = h
then_operands ops.Has operands h = h
then_operands ops.Len operands h = h
then_operands ops.Next operands h = h
then_operands ops.Count operands h = h
then_operands ops.Scan operands h = h
then_operands ops.Push operands h = h
then_operands ops.Pop operands h = h

module _ (x y : ℤ) where
  abbrev words_of : List Arg → List (List ℕ)
  words_of arguments = map operand_word (map (operand []) arguments)

  no_number : ArePrintable (words_of [])
  no_number = tt

  first : ArePrintable (words_of (Num x ∷ []))
  first = (printable_signed x, tt)

  second : ArePrintable (words_of (Num y ∷ []))
  second = (printable_signed y, tt)

  both : ArePrintable (words_of (Num x ∷ Num y ∷ []))
  both = (printable_signed x, (printable_signed y, tt))

  numbers : (operation : OperationWord) (kind : Kind) → ArePrintable (words_of (arguments_of operation kind (Num x) (Num y)))
  numbers ops.Get Box = no_number
  numbers ops.Get Counter = no_number
  numbers ops.Get Array = first
  numbers ops.Get Hash = first
  numbers ops.Get Tree = first
  numbers ops.Get Vector = first
  numbers ops.Set Box = first
  numbers ops.Set Counter = both
  numbers ops.Set Array = both
  numbers ops.Set Hash = both
  numbers ops.Set Tree = both
  numbers ops.Set Vector = both
  numbers ops.Add Box = both
  numbers ops.Add Counter = first
  numbers ops.Add Array = both
  numbers ops.Add Hash = both
  numbers ops.Add Tree = both
  numbers ops.Add Vector = both
  numbers (ops.Compare test) kind = second
  numbers ops.Take kind = first
  numbers ops.Put kind = both
  numbers ops.Remove kind = first
  numbers ops.Has kind = first
  numbers ops.Len kind = no_number
  numbers ops.Next kind = first
  numbers ops.Count kind = both
  numbers ops.Scan kind = both
  numbers ops.Push kind = first
  numbers ops.Pop kind = no_number

  words_printable : (operation : OperationWord) (d : Declaration) → is_name d.name ≡ true → ArePrintable (form_words (call_on [] None operation (Num x) (Num y) d))
  words_printable operation d h =
      (operates operation, (name_printable d.name h, then_operands operation (map (operand []) (arguments_of operation (kind_of d.shape) (Num x) (Num y))) (numbers operation (kind_of d.shape))))

pub call_printable : (ds : List Declaration) (call : Call) → HaveNames ds → IsPrintable (call_text ds call)
call_printable ds call h =
    let operation = word_with call.operation (Num call.a) in
    let made = call_on [] None operation (Num call.a) (Num call.b) in
    with_object (λ o. IsPrintable (join_with_byte 32 (flat_map form_words (option_list (option_map made o) ++ [])))) ds call.object h tt
    (λ d named. subst (λ (words : List (List ℕ)). IsPrintable (join_with_byte 32 words)) (sym (append-nil (form_words (made d)))) (joined (form_words (made d)) (words_printable call.a call.b operation d named)))
