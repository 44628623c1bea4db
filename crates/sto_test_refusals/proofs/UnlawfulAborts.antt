-- Which texts are no lawful reports for an abort line.
use Rattle.std.specs.Fmt.{digits}
use Rattle.std.specs.Int.{int_wrap}
use Rattle.std.specs.List.{All}
use Rattle.std.specs.Prelude.{codes, slice_index_or}
use Rattle.std.proofs.Common.{◌≡◌, ℕ, suc, ◌+◌, ℤ, pos, negsuc, ◌<◌, ◌≤◌, List, [], ◌∷◌, ◌++◌, length, None, Some, Ok, true, false, refl, sym, ap, subst, arith, inl, inr, length-append}
use Rattle.std.proofs.lemmas.List.Elements.{All-head}
use Rattle.json.specs.Print.{escape_byte}
use Rattle.json.proofs.OnLiterals.{json_on_literals}
use Rattle.sto_model.specs.PlainReplies.{PlainReply, Value, Done}
use Rattle.sto_model.specs.Calls.{call_of}
use Rattle.sto_model.specs.declared.operation.Operation.TheVariants.{Set}
use Rattle.sto_model.specs.declared.shape.Shape.TheVariants.{Array}
use Rattle.sto_model.specs.Asked.{HasAsked, IsUnsettled}
use Rattle.sto_lang.specs.Objects.{Declaration}
use Rattle.sto_lang.specs.Files.{file_of}
use Rattle.sto_lang.specs.Scripts.{Script, File}
use Rattle.sto_script.specs.Meaning.{meaning_of, taken}
use Rattle.sto_report_spec.specs.Orders.{TransactionPlace}
use Rattle.sto_report_spec.specs.Aborts.{Cause, Locked, Changed, Abort}
use Rattle.sto_report_spec.specs.Named.{order_named}
use Rattle.sto_report_spec.specs.NamedAborts.{aborts_named}
use Rattle.sto_report_spec.specs.Updated.{Updating, updated}
use Rattle.sto_report_spec.specs.LawfulAborts.{IsLawfulAbort, IsPartTouched, MayPrecede, known_at_end, declared_as, part_number}
use Rattle.sto_report_spec.specs.Lawful.{IsLawful, IsLawfulJson}
use Rattle.sto_type.specs.Touching.{Touches}
use Rattle.sto_store.specs.Stores.{means}
use Rattle.sto_serializability.specs.Meanings.{updating_by}
use Rattle.sto_test_premises.specs.Adding.{file, adding, heard}
use Rattle.sto_test_refusals.proofs.Lists.{differ, some_is}
use Rattle.sto_test_refusals.proofs.Unlawful.{order, no_entry}
use Rattle.sto_test_refusals.specs.AbortTexts.{twice_script, twice_file, reading_script, reading, reading_file, apart_script, apart_file, places_script, places_file, setting_place, other_replies, more_replies, saw_itself, unknown_object, seen_writer, no_transaction, no_thread, two_attempts, attempts_exchanged, threads_exchanged, before_journal, json_other_replies, own_unseen, after_handed, positions_exchanged, settled, unasked_object, unwritten_part, untouched_part}

-- an attempt of the first thread's transaction at this position
abbrev attempt : (position seen : ℕ) → List PlainReply → Cause → Abort
attempt position seen replies cause = record { place = (0, position); seen = seen; replies = replies; cause = cause }

abbrev locked : Cause
locked = Locked (record { object = codes "a"; part = 0 })

-- an object's first part was changed
abbrev changed : List ℕ → ℕ → Cause
changed object by = Changed (record { object = object; part = 0 }) by

abbrev as_it_was : Abort
as_it_was = attempt 1 0 (heard (pos 0)) (changed (codes "a") 1)

-- the orders of the files of three transactions
abbrev own_first : List TransactionPlace
own_first = (0, 1) ∷ (1, 1) ∷ (0, 2) ∷ []

abbrev other_first : List TransactionPlace
other_first = (1, 1) ∷ (0, 1) ∷ (0, 2) ∷ []

-- the number that a list of replies begins with; 0 for one below it
abbrev natural : ℤ → ℕ
natural (pos n) = n
natural (negsuc n) = 0

abbrev number_first : List PlainReply → ℕ
number_first replies = natural (taken (slice_index_or replies 0 Done))

-- one is all, whatever stands around it
one_around : (x y : ℕ) (before after : List ℕ) → x ∷ [] ≡ before ++ y ∷ after → x ≡ y
one_around x y [] after e = ap (λ (l : List ℕ). slice_index_or l 0 x) e
one_around x y (b ∷ before) after e =
    let all : 1 ≡ suc (length (before ++ y ∷ after)) = ap length e in
    let more : length (before ++ y ∷ after) ≡ length before + suc (length after) = length-append before (y ∷ after) in absurd (omega (arith, all, more))

-- an abort may not stand before one of an earlier thread or transaction, or before an attempt that saw less than it knew
no_earlier : (a b : Abort) → b.place.0 ≤ a.place.0 → b.place.1 ≤ a.place.1 → (a.place ≡ b.place → b.seen < known_at_end a) → MayPrecede a b → ⊥
no_earlier a b thread position less may =
    elim may [
      | inl earlier ↦ omega (arith, thread, earlier)
      | inr others ↦ elim others [
        | inl here ↦ let earlier : a.place.1 < b.place.1 = here.1 in omega (arith, position, earlier)
        | inr same ↦ let fewer = less same.0 in let more : known_at_end a ≤ b.seen = same.1 in omega (arith, fewer, more)
      ]
    ]

-- the transaction that adds 1 to the first box asks nothing of the second one
not_asked : (script : Script) (d : Declaration) → Some adding ≡ Some script → declared_as (codes "b") apart_file.declarations ≡ Some d
    → HasAsked d.number (meaning_of script) (heard (pos 0)) → ⊥
not_asked script d transaction declared asked =
    let here : HasAsked 1 (meaning_of adding) (heard (pos 0)) =
    subst (λ (e : Declaration). HasAsked e.number (meaning_of adding) (heard (pos 0))) (sym (some_is _ d declared))
    (subst (λ (s : Script). HasAsked d.number (meaning_of s) (heard (pos 0))) (sym (some_is adding script transaction)) asked) in
    elim here [
      | inl first ↦ let e : 0 ≡ 1 = first in omega (arith, e)
      | inr others ↦ elim others [
        | inl second ↦ let e : 0 ≡ 1 = second in omega (arith, e)
        | inr none ↦ absurd none
      ]
    ]

-- the first writer of the two boxes updates the second one alone
unwritten : (d : Declaration) → declared_as (codes "a") apart_file.declarations ≡ Some d → (before after : List ℕ)
    → updated (updating_by means) apart_file order 1 ≡ before ++ part_number apart_file.declarations d 0 ∷ after → ⊥
unfolding digits int_wrap
unwritten d declared before after w =
    let first : 1 ≡ part_number apart_file.declarations d 0 = one_around 1 _ before after w in
    let here : 1 ≡ 0 = subst (λ (e : Declaration). 1 ≡ part_number apart_file.declarations e 0) (sym (some_is _ d declared)) first in omega (arith, here)

-- a set of the first place of an array does not touch the second one
no_touch : Touches (means (Array 2 (pos 0) ∷ [])) 1 (call_of 0 Set (pos 0) (pos 1)) → ⊥
no_touch t =
    elim t.does [
      | inl need ↦ absurd cc
      | inr others ↦ elim others [
        | inl seen ↦ let none : seen.1.0 < 0 = seen.1.1 in omega (arith, none)
        | inr updated ↦
            let within : updated.0 < 1 = updated.1 in let first : updated.0 ≡ 0 = omega (arith, within) in
            let same : 0 ≡ 1 = subst (λ (k : ℕ). slice_index_or (0 ∷ []) k 1 ≡ 1) first updated.2 in omega (arith, same)
      ]
    ]

untouched : (script : Script) (d : Declaration) → Some (setting_place 0) ≡ Some script → declared_as (codes "a") places_file.declarations ≡ Some d
    → IsPartTouched (updating_by means) places_file script (Done ∷ []) (part_number places_file.declarations d 1) → ⊥
untouched script d transaction declared touched =
    let here : IsPartTouched (updating_by means) places_file (setting_place 0) (Done ∷ []) 1 =
    subst (λ (e : Declaration). IsPartTouched (updating_by means) places_file (setting_place 0) (Done ∷ []) (part_number places_file.declarations e 1)) (sym (some_is _ d declared))
    (subst (λ (s : Script). IsPartTouched (updating_by means) places_file s (Done ∷ []) (part_number places_file.declarations d 1)) (sym (some_is _ script transaction)) touched) in
    elim here [
      | inl set ↦ no_touch set
      | inr none ↦ absurd none
    ]

module _ (u : Updating) where
  -- a report's one abort is lawful
  only_abort : (f : File) (tries : ℕ) (text : List ℕ) (places : List TransactionPlace) (a : Abort) → order_named f.names text ≡ places → aborts_named f.names text ≡ a ∷ []
      → (IsLawfulAbort u f places a → ⊥) → IsLawful u f tries text → ⊥
  only_abort f tries text places a named one wrong l =
      wrong (All-head (IsLawfulAbort u f places) a []
      (subst (λ (p : List TransactionPlace). All (IsLawfulAbort u f p) (a ∷ [])) named
      (subst (λ (told_in : List Abort). All (IsLawfulAbort u f (order_named f.names text)) told_in) one l.aborts.each)))

  -- the replies

  pub other_replies_are_none : IsLawful u file 64 other_replies → ⊥
  unfolding digits int_wrap
  other_replies_are_none = only_abort file 64 other_replies order (attempt 1 0 (heard (pos 1)) (changed (codes "a") 1)) refl refl
      (λ a. let one : 0 ≡ 1 = ap number_first a.replies.1 in omega (arith, one))

  pub more_replies_are_none : IsLawful u file 64 more_replies → ⊥
  unfolding digits int_wrap
  more_replies_are_none = only_abort file 64 more_replies order (attempt 1 0 (Value (pos 0) ∷ Done ∷ Done ∷ []) (changed (codes "a") 1)) refl refl
      (λ a. let all : 2 ≡ suc (suc (suc (length a.replies.0))) = ap length a.replies.1 in omega (arith, all))

  -- how many writers it saw

  pub own_unseen_is_none : IsLawful u twice_file 64 own_unseen → ⊥
  unfolding digits int_wrap
  own_unseen_is_none = only_abort twice_file 64 own_unseen own_first (attempt 2 0 (heard (pos 0)) (changed (codes "a") 2)) refl refl
      (λ a. let there : 0 < 3 = omega arith in let earlier : 1 < 2 = omega arith in
      let seen : 1 ≤ 0 = a.after_own 0 no_entry there refl earlier in omega (arith, seen))

  pub saw_itself_is_none : IsLawful u file 64 saw_itself → ⊥
  unfolding digits int_wrap
  saw_itself_is_none = only_abort file 64 saw_itself order (attempt 1 2 (heard (pos 2)) locked) refl refl
      (λ a. let there : 1 < 2 = omega arith in let fewer : 2 ≤ 1 = a.before 1 no_entry there refl in omega (arith, fewer))

  -- whether it could still be aborted

  pub settled_is_none : IsLawful u reading_file 64 settled → ⊥
  unfolding digits int_wrap
  settled_is_none = only_abort reading_file 64 settled order (attempt 1 0 (Value (pos 0) ∷ []) (changed (codes "a") 1)) refl refl
      (λ a. let written : false ≡ true = subst (λ (s : Script). IsUnsettled (meaning_of s) (Value (pos 0) ∷ [])) (sym (some_is reading a.script a.transaction)) a.unsettled in absurd cc)

  -- the part that it was aborted by

  pub unknown_object_is_none : IsLawful u file 64 unknown_object → ⊥
  unfolding digits int_wrap
  unknown_object_is_none = only_abort file 64 unknown_object order (attempt 1 0 (heard (pos 0)) (changed (codes "b") 1)) refl refl
      (λ a. let none : None ≡ Some a.object = a.part.declared in absurd cc)

  pub unasked_object_is_none : IsLawful u apart_file 64 unasked_object → ⊥
  unfolding digits int_wrap
  unasked_object_is_none = only_abort apart_file 64 unasked_object order (attempt 1 0 (heard (pos 0)) (changed (codes "b") 1)) refl refl
      (λ a. not_asked a.script a.object a.transaction a.part.declared a.part.asked)

  -- the writer that it was aborted by

  pub seen_writer_is_none : IsLawful u file 64 seen_writer → ⊥
  unfolding digits int_wrap
  seen_writer_is_none = only_abort file 64 seen_writer order (attempt 1 1 (heard (pos 1)) (changed (codes "a") 1)) refl refl
      (λ a. let later : 1 < 1 = a.cause.later in omega (arith, later))

  -- the transaction

  pub no_transaction_is_none : IsLawful u file 64 no_transaction → ⊥
  unfolding digits int_wrap
  no_transaction_is_none = only_abort file 64 no_transaction order (attempt 2 0 (heard (pos 0)) (changed (codes "a") 1)) refl refl
      (λ a. let none : None ≡ Some a.script = a.transaction in absurd cc)

  -- a text that names no abort tells none
  pub no_thread_is_none : IsLawful u file 64 no_thread → ⊥
  unfolding digits int_wrap
  no_thread_is_none l = differ _ _ 38 97 115 refl refl (λ e. omega (arith, e)) l.report

  pub before_journal_is_none : IsLawful u file 64 before_journal → ⊥
  unfolding digits int_wrap
  before_journal_is_none l = differ _ _ 0 97 49 refl refl (λ e. omega (arith, e)) l.report

  -- how many there are, and their order

  pub two_attempts_are_none : IsLawful u file 1 two_attempts → ⊥
  unfolding digits int_wrap
  two_attempts_are_none l = let few : 2 ≤ 1 = l.aborts.few (0, 1) in omega (arith, few)

  pub after_handed_is_none : IsLawful u twice_file 1 after_handed → ⊥
  unfolding digits int_wrap
  after_handed_is_none l = let later : 1 < 2 = omega arith in let none : 1 ≡ 0 = l.aborts.handed (0, 1) (0, 2) refl later refl in omega (arith, none)

  pub attempts_exchanged_are_none : IsLawful u file 64 attempts_exchanged → ⊥
  unfolding digits int_wrap
  attempts_exchanged_are_none l =
      let same : 0 ≤ 0 = omega arith in let at : 1 ≤ 1 = omega arith in
      no_earlier as_it_was (attempt 1 0 (heard (pos 0)) locked) same at (λ e. omega arith) l.aborts.sorted.0

  pub threads_exchanged_are_none : IsLawful u file 64 threads_exchanged → ⊥
  unfolding digits int_wrap
  threads_exchanged_are_none l =
      let first : Abort = record { place = (1, 1); seen = 0; replies = heard (pos 0); cause = locked } in
      let thread : 0 ≤ 1 = omega arith in let at : 1 ≤ 1 = omega arith in
      no_earlier first as_it_was thread at (λ e. let none : 1 ≡ 0 = ap (λ (p : TransactionPlace). p.0) e in omega (arith, none)) l.aborts.sorted.0

  pub positions_exchanged_are_none : IsLawful u twice_file 64 positions_exchanged → ⊥
  unfolding digits int_wrap
  positions_exchanged_are_none l =
      let same : 0 ≤ 0 = omega arith in let at : 1 ≤ 2 = omega arith in
      no_earlier (attempt 2 2 (heard (pos 2)) locked) as_it_was same at (λ e. let none : 2 ≡ 1 = ap (λ (p : TransactionPlace). p.1) e in omega (arith, none)) l.aborts.sorted.0

  pub json_other_replies_are_none : IsLawfulJson u file 64 json_other_replies → ⊥
  unfolding digits int_wrap escape_byte json_on_literals
  json_other_replies_are_none l =
      let a = All-head (IsLawfulAbort u file order) (attempt 1 0 (heard (pos 1)) (changed (codes "a") 1)) [] l.aborts.each in
      let one : 0 ≡ 1 = ap number_first a.replies.1 in omega (arith, one)

-- By what the types of a store say of updates

-- the set of the second box is no update of the first one
pub unwritten_part_is_none : IsLawful (updating_by means) apart_file 64 unwritten_part → ⊥
unfolding digits int_wrap
unwritten_part_is_none = only_abort (updating_by means) apart_file 64 unwritten_part order as_it_was refl refl
    (λ a. unwritten a.object a.part.declared a.cause.written.0 a.cause.written.1 a.cause.written.2)

pub untouched_part_is_none : IsLawful (updating_by means) places_file 64 untouched_part → ⊥
unfolding digits int_wrap
untouched_part_is_none =
    only_abort (updating_by means) places_file 64 untouched_part order (attempt 1 0 (Done ∷ []) (Changed (record { object = codes "a"; part = 1 }) 1)) refl refl
    (λ a. untouched a.script a.object a.transaction a.part.declared a.touched)

-- The scripts say the files

pub reads_twice : file_of twice_script ≡ Ok twice_file
unfolding digits int_wrap
reads_twice = refl

pub reads_reading : file_of reading_script ≡ Ok reading_file
unfolding digits int_wrap
reads_reading = refl

pub reads_apart : file_of apart_script ≡ Ok apart_file
unfolding digits int_wrap
reads_apart = refl

pub reads_places : file_of places_script ≡ Ok places_file
unfolding digits int_wrap
reads_places = refl
