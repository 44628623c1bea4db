-- Numbers of 64 bits are short, and lists of what is short are.
use Rattle.std.proofs.Common.{◌≡◌, ℕ, suc, ◌<◌, ◌^◌, ℤ, pos, negsuc, List, [], ◌∷◌, length, map, sym, subst, arith, Bool, true, false, cond, ◌==◌, is_some, Some}
use Rattle.std.proofs.lemmas.List.{length-map}
use Rattle.std.specs.List.{All}
use Rattle.std.specs.Int.RustNames.{FitsSigned}
use Rattle.std.proofs.Common.{w64}
use Rattle.std.proofs.lemmas.List.Elements.{All-head, All-tail}
use Rattle.sto_model.specs.declared.reply.Reply.{Reply}
use Rattle.sto_model.specs.PlainReplies.{plain_reply}
use Rattle.sto_model.specs.Rows.{Row}
use Rattle.sto_type.specs.declared.answer.Home.{Home}
use Rattle.sto_syntax.specs.Words.{is_name}
use Rattle.sto_lang.specs.declared.file.Thread.{Thread}
use Rattle.sto_lang.specs.Objects.{Declaration, HaveNames, with_number}
use Rattle.sto_lang.specs.Views.{names_of}
use Rattle.sto_report_spec.specs.Aborts.{name_of}
use Rattle.sto_report_spec.specs.Short.{IsShort, IsShortRow, AreShortRows, IsShortCause, AreShortReplies, IsShortEntry, AreShortEntries, IsShortAbort, AreShortAborts}
use Rattle.sto_journal.specs.declared.journal.Line.{Line}
use Rattle.sto_journal.specs.declared.journal.AbortLine.{AbortLine}
use Rattle.sto_journal.specs.declared.journal.Cause.TheVariants.{Locked, Changed}
use Rattle.sto_journal.specs.Journals.{IsShortlyTold, entry, abort, cause, IsAbortOf}

pub is_short : (z : ℤ) → FitsSigned w64 z → IsShort z
is_short (pos n) h = omega (arith, h)
is_short (negsuc n) h = omega (arith, h)

pub rows_short : (rows : List Row) → All IsShortRow rows → AreShortRows rows
rows_short [] h = tt
rows_short (row ∷ rows) h = (All-head IsShortRow row rows h, rows_short rows (All-tail IsShortRow row rows h))

pub first_and_rest : (rows : List Row) (first : Row) (rest : List Row) → rows ≡ first ∷ rest → IsShortRow first → All IsShortRow rest → AreShortRows rows
first_and_rest rows first rest e h k = subst AreShortRows (sym e) (h, rows_short rest k)

pub replies_short : (replies : List Reply) → All IsShortlyTold replies → AreShortReplies (map plain_reply replies)
replies_short [] h = tt
replies_short (r ∷ replies) h = ((All-head IsShortlyTold r replies h).short, replies_short replies (All-tail IsShortlyTold r replies h))

-- a declared object has a name
named : (ds : List Declaration) (number : ℕ) → HaveNames ds → is_some (with_number number ds) ≡ true → is_name (name_of (with_number number ds)) ≡ true
named [] number h e = absurd cc
named (d ∷ ds) number h e = by (d.number == number) (named ds number h.1) e
  where
    by : (b : Bool) → (is_some (with_number number ds) ≡ true → is_name (name_of (with_number number ds)) ≡ true)
        → is_some (cond b (Some d) (with_number number ds)) ≡ true → is_name (name_of (cond b (Some d) (with_number number ds))) ≡ true
    by true k e = h.0
    by false k e = k e

pub locked_short : (ds : List Declaration) (home : Home) → HaveNames ds → is_some (with_number home.object ds) ≡ true → home.local < 2 ^ 64 → IsShortCause (cause ds (Locked home))
locked_short ds home h e k = (named ds home.object h e, k)

pub changed_short : (ds : List Declaration) (home : Home) (by : ℕ) → HaveNames ds → is_some (with_number home.object ds) ≡ true → home.local < 2 ^ 64 → by < 2 ^ 64 → IsShortCause (cause ds (Changed home by))
changed_short ds home by h e k l = (named ds home.object h e, k, l)

pub abort_short : (threads : List Thread) (ds : List Declaration) (l : AbortLine) → IsAbortOf (length threads) ds l → l.position < 2 ^ 64 → l.at < 2 ^ 64
    → AreShortReplies (map plain_reply l.replies.items) → IsShortCause (cause ds l.cause) → IsShortAbort (names_of threads) (abort ds l)
abort_short threads ds l known position seen replies why = record {
  place = record { thread = (let k = known.0 in let e = length-map threads (λ (t : Thread). t.name.items) in omega (arith, k, e)); position = position };
  seen = seen;
  replies = replies;
  cause = why;
}

pub entries_short : (names : List (List ℕ)) (lines : List Line) → All (λ l. IsShortEntry names (entry l)) lines → AreShortEntries names (map entry lines)
entries_short names [] h = tt
entries_short names (l ∷ lines) h =
    (All-head (λ m. IsShortEntry names (entry m)) l lines h, entries_short names lines (All-tail (λ m. IsShortEntry names (entry m)) l lines h))

pub aborts_short : (names : List (List ℕ)) (ds : List Declaration) (lines : List AbortLine) → All (λ l. IsShortAbort names (abort ds l)) lines → AreShortAborts names (map (abort ds) lines)
aborts_short names ds [] h = tt
aborts_short names ds (l ∷ lines) h =
    (All-head (λ m. IsShortAbort names (abort ds m)) l lines h, aborts_short names ds lines (All-tail (λ m. IsShortAbort names (abort ds m)) l lines h))
