-- The lines of a report.
use Rattle.std.proofs.Common.{◌≡◌, ℕ, zero, suc, ◌<◌, ◌≤◌, ◌^◌, List, [], ◌∷◌, ◌++◌, length, map, refl, sym, ap, ◌∙◌, subst, Bool, true, false, cond, ◌&&◌, nat_eq, codes, decimal, arith, append_assoc, append-nil, true≢false}
use Rattle.std.specs.List.{slice_split, flat_map, list_any}
use Rattle.std.specs.Str.{bytes_eq}
use Rattle.std.proofs.lemmas.Bool.Decides.{nat_tests}
use Rattle.std.proofs.lemmas.Slice.Eq.{bytes_eq-Decides}
use Rattle.sto_model.specs.Run.{State}
use Rattle.sto_syntax.specs.Words.{is_name}
use Rattle.sto_lang.specs.Objects.{Declaration}
use Rattle.sto_report_spec.specs.Orders.{TransactionPlace}
use Rattle.sto_report_spec.specs.Replay.{Entry}
use Rattle.sto_report_spec.specs.Aborts.{LocalPart, Cause, Locked, Changed, Abort, part_in}
use Rattle.sto_report_spec.specs.Report.{name_at, spaced_reply, part_text, cause_text, line_text, abort_text, rows_text, rows_of, object_text}
use Rattle.sto_report_spec.proofs.Printable.{IsPrintable, printable_append, printable_decimal, printable_replies, printable_lacks_feed}
use Rattle.sto_report_spec.proofs.Names.{name_printable}
use Rattle.sto_report_spec.proofs.Naming.{HasWord, word_of, printable_word, line_of, printable_line, line_is, entry_tail, printable_tail, object_line, object_is, printable_object}
use Rattle.sto_checker.specs.Lines.{is_line_feed, lines_of, is_state_line}
use Rattle.sto_checker.proofs.Cuts.{Lacks}
use Rattle.sto_checker.proofs.Lines.{line_of as first_line_of}
use Rattle.sto_checker.proofs.Sound.{joined}

-- a text is one line with its line feed
pub record IsOneLine (text : List ℕ) : Type 0 where
  pub content : List ℕ
  pub lacks : Lacks is_line_feed content
  pub is : text ≡ content ++ 10 ∷ []

abbrev pub AreLines : List (List ℕ) → Type 0
AreLines [] = Unit {0}
AreLines (line ∷ lines) = IsOneLine line × AreLines lines

pub lines_append : (xs ys : List (List ℕ)) → AreLines xs → AreLines ys → AreLines (xs ++ ys)
lines_append [] ys h k = k
lines_append (x ∷ xs) ys h k = (h.0, lines_append xs ys h.1 k)

pub lines_are : (lines : List (List ℕ)) → AreLines lines → lines_of (joined lines) ≡ lines
lines_are [] h = refl
lines_are (line ∷ lines) h =
    let one : IsOneLine line = h.0 in
    ap (λ (l : List ℕ). lines_of (l ++ joined lines)) one.is
    ∙ ap lines_of (append_assoc one.content (10 ∷ []) (joined lines))
    ∙ first_line_of one.content (joined lines) one.lacks
    ∙ ap (λ (l : List ℕ). l ∷ lines_of (joined lines)) (sym one.is)
    ∙ ap (λ (ls : List (List ℕ)). line ∷ ls) (lines_are lines h.1)

pub joined_map : {X : Type 0} (f : X → List ℕ) (xs : List X) → joined (map f xs) ≡ flat_map f xs
joined_map f [] = refl
joined_map f (x ∷ xs) = ap (λ (l : List ℕ). f x ++ l) (joined_map f xs)

pub joined_append : (xs ys : List (List ℕ)) → joined (xs ++ ys) ≡ joined xs ++ joined ys
joined_append [] ys = refl
joined_append (x ∷ xs) ys = ap (λ (l : List ℕ). x ++ l) (joined_append xs ys) ∙ sym (append_assoc x (joined xs) (joined ys))

-- journal lines
pub journal_line : (names : List (List ℕ)) (e : Entry) → HasWord names e.place → IsOneLine (line_text names e)
journal_line names e word = record {
  content = line_of names e.writers e.place (entry_tail e);
  lacks = printable_lacks_feed (line_of names e.writers e.place (entry_tail e)) (printable_line names e.writers e.place (entry_tail e) word (printable_tail e));
  is = sym (append-nil (line_text names e)) ∙ line_is names e [];
}

-- the line of an object
pub object_line_is : (state : State) (d : Declaration) → is_name d.name ≡ true → IsOneLine (object_text state d)
object_line_is state d e = record {
  content = object_line state d;
  lacks = printable_lacks_feed (object_line state d) (printable_object state d e);
  is = sym (append-nil (object_text state d)) ∙ object_is d.name (rows_text d.shape (rows_of state d.number)) [];
}

-- an abort line without its line feed
abbrev abort_content : List (List ℕ) → Abort → List ℕ
abort_content names a = codes "abort " ++ (word_of names a.place ++ (codes " at " ++ (decimal a.seen ++ (codes " saw" ++ (flat_map spaced_reply a.replies ++ (codes " " ++ cause_text a.cause))))))

same_text : (head name j seen told cause : List ℕ)
    → head ++ (name ++ (codes "." ++ (j ++ (codes " at " ++ (seen ++ (codes " saw" ++ (told ++ (codes " " ++ (cause ++ codes "\n")))))))))
    ≡ (head ++ ((name ++ 46 ∷ j) ++ (codes " at " ++ (seen ++ (codes " saw" ++ (told ++ (codes " " ++ cause))))))) ++ 10 ∷ []
same_text head name j seen told cause = simp append_assoc

printable_part : (part : LocalPart) → is_name part.object ≡ true → IsPrintable (part_text part)
printable_part part e = printable_append part.object (codes " " ++ decimal part.part) (name_printable part.object e) (refl, printable_decimal part.part)

printable_cause : (c : Cause) → is_name (part_in c).object ≡ true → IsPrintable (cause_text c)
printable_cause (Locked part) e = printable_append (codes "locked ") (part_text part) (refl, (refl, (refl, (refl, (refl, (refl, (refl, tt))))))) (printable_part part e)
printable_cause (Changed part by) e =
    printable_append (codes "changed ") (part_text part ++ (codes " by " ++ decimal by)) (refl, (refl, (refl, (refl, (refl, (refl, (refl, (refl, tt))))))))
    (printable_append (part_text part) (codes " by " ++ decimal by) (printable_part part e) (refl, (refl, (refl, (refl, printable_decimal by)))))

pub abort_line : (names : List (List ℕ)) (a : Abort) → HasWord names a.place → is_name (part_in a.cause).object ≡ true → IsOneLine (abort_text names a)
abort_line names a word e = record {
  content = abort_content names a;
  lacks = printable_lacks_feed (abort_content names a)
      (printable_append (codes "abort ") (word_of names a.place ++ (codes " at " ++ (decimal a.seen ++ (codes " saw" ++ (flat_map spaced_reply a.replies ++ (codes " " ++ cause_text a.cause))))))
      (refl, (refl, (refl, (refl, (refl, (refl, tt))))))
      (printable_append (word_of names a.place) (codes " at " ++ (decimal a.seen ++ (codes " saw" ++ (flat_map spaced_reply a.replies ++ (codes " " ++ cause_text a.cause))))) (printable_word names a.place word) (
        refl,
        (
          refl,
          (
            refl,
            (
              refl,
              printable_append (decimal a.seen) (codes " saw" ++ (flat_map spaced_reply a.replies ++ (codes " " ++ cause_text a.cause))) (printable_decimal a.seen)
                  (refl, (refl, (refl, (refl, printable_append (flat_map spaced_reply a.replies) (codes " " ++ cause_text a.cause) (printable_replies a.replies) (refl, printable_cause a.cause e))))),
            ),
          ),
        ),
      )));
  is = same_text (codes "abort ") (name_at names a.place.0) (decimal a.place.1) (decimal a.seen) (flat_map spaced_reply a.replies) (cause_text a.cause);
}

-- the line `state`
pub state_line_is : IsOneLine (codes "state\n")
state_line_is = record { content = codes "state"; lacks = (refl, (refl, (refl, (refl, (refl, tt))))); is = refl }

-- an abort line is another
pub abort_no_state : (names : List (List ℕ)) (a : Abort) → is_state_line (abort_text names a) ≡ false
abort_no_state names a = refl
