-- Which texts the checker does not find lawful, and one that it does not find wrong.
use Rattle.std.specs.Fmt.{digits}
use Rattle.std.specs.Int.{int_wrap}
use Rattle.std.specs.Prelude.{codes, slice_get, take}
use Rattle.std.proofs.Common.{◌≡◌, ℕ, ◌<◌, ◌≤◌, List, [], ◌∷◌, length, Some, refl, sym, ap, ◌∙◌, subst, arith, inl, inr}
use Rattle.sto_lang.specs.Scripts.{File}
use Rattle.sto_report_spec.specs.Orders.{TransactionPlace}
use Rattle.sto_report_spec.specs.Aborts.{Abort}
use Rattle.sto_report_spec.specs.Report.{line_text, object_text}
use Rattle.sto_report_spec.specs.Replay.{final_state}
use Rattle.sto_report_spec.specs.Named.{order_named}
use Rattle.sto_report_spec.specs.NamedAborts.{aborts_named}
use Rattle.sto_checker.specs.Lines.{lines_of}
use Rattle.sto_checker.specs.Right.{IsRightAfter, IsJournalLine, IsObjectLine, IsRightAlone, entry_after}
use Rattle.sto_checker.specs.Answer.{IsRightAt, IsFound}
use Rattle.sto_checker.specs.declared.found.Found.TheVariants.{Lawful, Not}
use Rattle.sto_test_premises.specs.Adding.{file, adding}
use Rattle.sto_test_refusals.specs.Texts.{right, exchanged, left_out, other_reply, other_part, other_writer, other_rows}
use Rattle.sto_test_refusals.proofs.Unlawful.{order, by_other_part, by_other_writer, no_part, no_entry}
use Rattle.sto_test_refusals.proofs.Lists.{differ, some_is, one_is}

-- what the line at a place must be
line_at : (f : File) (tries : ℕ) (lines : List (List ℕ)) (place : ℕ) (line : List ℕ) → slice_get lines place ≡ Some line → IsRightAt f tries lines place
    → IsRightAfter f tries (take place lines) line
line_at f tries lines place line stands r =
    subst (λ (l : List ℕ). IsRightAfter f tries (take place lines) l) (some_is r.line line (sym r.stands ∙ stands)) r.right

-- a journal line is the text of the place that it names
journal_text : (f : File) (front : List TransactionPlace) (line : List ℕ) (place : TransactionPlace) → order_named f.names line ≡ place ∷ [] → IsJournalLine f front line
    → line ≡ line_text f.names (entry_after f front place)
journal_text f front line place named j =
    j.text ∙ ap (λ (p : TransactionPlace). line_text f.names (entry_after f front p)) (one_is j.place place (sym j.named ∙ named))

pub exchanged_is_not : IsFound file 64 exchanged Lawful → ⊥
unfolding digits int_wrap
exchanged_is_not a =
    let first = codes "2 t0.1 commit 1 ok\n" in let there : 0 < 5 = omega arith in
    let line : IsJournalLine file [] first = line_at file 64 (lines_of exchanged) 0 first refl (a.0 0 there) in
    differ first _ 0 50 49 refl refl (λ e. omega (arith, e)) (journal_text file [] first (0, 1) refl line)

pub left_out_is_not : IsFound file 64 left_out Lawful → ⊥
unfolding digits int_wrap
left_out_is_not a =
    let second = codes "state\n" in let there : 1 < 3 = omega arith in
    let line : IsJournalLine file ((1, 1) ∷ []) second = line_at file 64 (lines_of left_out) 1 second refl (a.0 1 there) in
    let none : 0 ≡ 1 = ap length line.named in omega (arith, none)

pub other_reply_is_not : IsFound file 64 other_reply Lawful → ⊥
unfolding digits int_wrap
other_reply_is_not a =
    let second = codes "2 t0.1 commit 2 ok\n" in let there : 1 < 5 = omega arith in
    let line : IsJournalLine file ((1, 1) ∷ []) second = line_at file 64 (lines_of other_reply) 1 second refl (a.0 1 there) in
    differ second _ 14 50 49 refl refl (λ e. omega (arith, e)) (journal_text file ((1, 1) ∷ []) second (0, 1) refl line)

pub other_rows_is_not : IsFound file 64 other_rows Lawful → ⊥
unfolding digits int_wrap
other_rows_is_not a =
    let last = codes "a = 3\n" in let there : 4 < 5 = omega arith in
    let line : IsObjectLine file order 0 last = line_at file 64 (lines_of other_rows) 4 last refl (a.0 4 there) in
    differ last _ 4 51 50 refl refl (λ e. omega (arith, e)) (line.text ∙ ap (object_text (final_state file order)) (sym (some_is _ line.object line.next)))

-- the third line tells of an attempt that is not right
third : (line : List ℕ) (abort : Abort) → aborts_named file.names line ≡ abort ∷ [] → (line ≡ codes "state\n" → ⊥) → (IsRightAlone file order abort → ⊥)
    → IsRightAfter file 64 (codes "1 t1.1 commit 0 ok\n" ∷ codes "2 t0.1 commit 1 ok\n" ∷ []) line → ⊥
unfolding digits int_wrap
third line abort named is_no_state wrong right =
    elim right [
      | inl state ↦ is_no_state state
      | inr a ↦ wrong (subst (IsRightAlone file order) (one_is a.abort abort (sym a.named ∙ named)) a.right.alone)
    ]

pub other_part_is_not : IsFound file 64 other_part Lawful → ⊥
unfolding digits int_wrap
other_part_is_not a =
    let line = codes "abort t0.1 at 0 saw 0 ok changed a 1 by 1\n" in let there : 2 < 5 = omega arith in
    third line by_other_part refl (differ line _ 0 97 115 refl refl (λ e. omega (arith, e)))
    (λ alone. no_part alone.object alone.part.declared alone.part.inside)
    (line_at file 64 (lines_of other_part) 2 line refl (a.0 2 there))

writer_is_wrong : IsRightAlone file order by_other_writer → ⊥
unfolding digits int_wrap
writer_is_wrong alone =
    let there : 1 < 2 = omega arith in let second : 2 ≤ 1 = alone.cause.earlier 1 no_entry there refl in omega (arith, second)

pub other_writer_is_not : IsFound file 64 other_writer Lawful → ⊥
unfolding digits int_wrap
other_writer_is_not a =
    let line = codes "abort t0.1 at 0 saw 0 ok changed a 0 by 2\n" in let there : 2 < 5 = omega arith in
    third line by_other_writer refl (differ line _ 0 97 115 refl refl (λ e. omega (arith, e))) writer_is_wrong
    (line_at file 64 (lines_of other_writer) 2 line refl (a.0 2 there))

first_is_right : IsRightAt file 64 (lines_of right) 0
unfolding digits int_wrap
first_is_right = record {
  line = codes "1 t1.1 commit 0 ok\n";
  stands = refl;
  right = record { place = (1, 1); named = refl; next = record { script = adding; transaction = refl; next = refl }; text = refl };
}

pub right_is_not_wrong : IsFound file 64 right (Not 1) → ⊥
unfolding digits int_wrap
right_is_not_wrong a =
    let first : a.0 ≡ 0 = let n = a.1 in omega (arith, n) in
    elim a.3 [
      | inl wrong ↦ wrong.1 (subst (IsRightAt file 64 (lines_of right)) (sym first) first_is_right)
      | inr ends ↦ let all : a.0 ≡ 5 = ends.0 in omega (arith, first, all)
    ]
