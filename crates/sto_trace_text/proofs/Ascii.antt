-- The text of a trace is ASCII, where the names of threads and objects are names.
use Rattle.std.proofs.Common.{◌≡◌, ℕ, zero, suc, ℤ, List, [], ◌∷◌, ◌++◌, refl, Bool, true, false, Option, None, Some, unwrap_or, slice_get, decimal, codes}
use Rattle.std.specs.List.{All, flat_map, list_all}
use Rattle.std.specs.Fmt.{signed_decimal}
use Rattle.std.specs.Str.{IsAscii}
use Rattle.std.proofs.lemmas.List.Elements.{All-head, All-tail}
use Rattle.std.proofs.lemmas.Str.{IsAscii-append}
use Rattle.std.proofs.lemmas.Str.Ascii.{IsAscii-nil}
use Rattle.sto_version.specs.Versions.{ticket_of, is_free}
use Rattle.sto_version.specs.declared.Version.{Version}
use Rattle.sto_model.specs.declared.call.Call.{Call}
use Rattle.sto_syntax.specs.Words.{is_name}
use Rattle.sto_attempt_log.specs.declared.verdict.Verdict.{Verdict}
use Rattle.sto_attempt_log.specs.declared.verdict.Verdict.TheVariants.{Wrote, Read, Cancelled, Locked, Changed}
use Rattle.sto_lang.specs.Objects.{Declaration, HaveNames, with_number}
use Rattle.sto_lang.specs.Ascii.{is_ascii}
use Rattle.sto_lang.proofs.AsciiLemmas.{is_text}
use Rattle.sto_report_spec.specs.Aborts.{name_of}
use Rattle.sto_report_spec.specs.Named.{AreNames}
use Rattle.sto_report_spec.specs.Report.{name_at, reply_text}
use Rattle.sto_report_spec.proofs.Names.{name_printable}
use Rattle.sto_report_spec.proofs.Printable.{IsPrintable, printable_ascii, printable_decimal, printable_signed, printable_reply}
use Rattle.sto_trace.specs.declared.Deed.{Deed}
use Rattle.sto_trace.specs.declared.Deed.TheVariants.{Start, Renew, Open, Word, Close, Recheck, Lock, Test, Draw, Check, Decide, Put, Release, Unlock}
use Rattle.sto_trace.specs.declared.Step.{Step}
use Rattle.sto_write.specs.Texts.{call_text}
use Rattle.sto_trace_text.proofs.Calls.{object_printable, call_printable}
use Rattle.sto_trace_text.specs.Events.{Answer, Event, events_of}
use Rattle.sto_trace_text.specs.Texts.{Names, part_at, word_text, lock_text, version_text, decision_text, deed_text, asked_text, answer_text, verdict_text, end_text, event_text, trace_text}

-- a text is ASCII; as a record, so that the fact tells the text
record Ascii (bytes : List ℕ) : Type 0 where
  pub text : IsAscii bytes

none : Ascii []
none = record { text = IsAscii-nil }

plain : (bytes : List ℕ) → list_all is_ascii bytes ≡ true → Ascii bytes
plain bytes e = record { text = is_text bytes e }

printed : (bytes : List ℕ) → IsPrintable bytes → Ascii bytes
printed bytes h = record { text = printable_ascii bytes h }

number : (n : ℕ) → Ascii (decimal n)
number n = printed (decimal n) (printable_decimal n)

signed : (z : ℤ) → Ascii (signed_decimal z)
signed z = printed (signed_decimal z) (printable_signed z)

word : (name : List ℕ) → is_name name ≡ true → Ascii name
word name h = printed name (name_printable name h)

then : {first second : List ℕ} → Ascii first → Ascii second → Ascii (first ++ second)
then {first} {second} a b = record { text = IsAscii-append first second a.text b.text }

thread_name : (names : List (List ℕ)) (thread : ℕ) → All (λ name. is_name name ≡ true) names → Ascii (name_at names thread)
thread_name [] thread h = none
thread_name (name ∷ names) zero h = word name (All-head (λ n. is_name n ≡ true) name names h)
thread_name (name ∷ names) (suc thread) h = thread_name names thread (All-tail (λ n. is_name n ≡ true) name names h)

object_name : (ds : List Declaration) (object : ℕ) → HaveNames ds → Ascii (name_of (with_number object ds))
object_name ds object h = printed (name_of (with_number object ds)) (object_printable ds object h)

asked : (ds : List Declaration) (call : Option Call) → HaveNames ds → Ascii (asked_text ds call)
asked ds None h = none
asked ds (Some call) h = then (printed (call_text ds call) (call_printable ds call h)) (plain (codes " ") refl)

locked : (free : Bool) → Ascii (lock_text free)
locked true = plain (lock_text true) refl
locked false = plain (lock_text false) refl

decision : (commit : Bool) → Ascii (decision_text commit)
decision true = plain (decision_text true) refl
decision false = plain (decision_text false) refl

module _ (names : Names) (objects : HaveNames names.file.declarations) (threads : AreNames names.file.names) where
  home : (at : ℕ × ℕ) → Ascii (name_of (with_number at.0 names.file.declarations) ++ (codes " " ++ decimal at.1))
  home at = then (object_name names.file.declarations at.0 objects) (then (plain (codes " ") refl) (number at.1))

  part : (p : ℕ) → Ascii (part_at names p)
  part p = home (unwrap_or (slice_get names.homes p) (0, 0))

  on_word : (p w : ℕ) (value : ℤ) → Ascii (word_text names p w value)
  on_word p w value = then (part p) (then (plain (codes ".") refl) (then (number w) (then (plain (codes " = ") refl) (signed value))))

  found : (p : ℕ) (version : Version) → Ascii (version_text names p version)
  found p version = then (part p) (then (locked (is_free version.0)) (number (ticket_of version.0)))

  deed : (d : Deed) → Ascii (deed_text names d)
  deed (Start clock) = then (plain (codes "start at ") refl) (number clock)
  deed (Renew clock) = then (plain (codes "renew at ") refl) (number clock)
  deed (Open p version) = then (plain (codes "open ") refl) (found p version)
  deed (Word p w value) = then (plain (codes "word ") refl) (on_word p w value)
  deed (Close p version) = then (plain (codes "close ") refl) (found p version)
  deed (Recheck p version) = then (plain (codes "recheck ") refl) (found p version)
  deed (Lock p version) = then (plain (codes "lock ") refl) (found p version)
  deed (Test p version) = then (plain (codes "test ") refl) (found p version)
  deed (Draw ticket) = then (plain (codes "draw ") refl) (number ticket)
  deed (Check p version) = then (plain (codes "check ") refl) (found p version)
  deed (Decide commit) = decision commit
  deed (Put p w value) = then (plain (codes "put ") refl) (on_word p w value)
  deed (Release p) = then (plain (codes "release ") refl) (part p)
  deed (Unlock p) = then (plain (codes "unlock ") refl) (part p)

  verdict : (v : Verdict) → Ascii (verdict_text names v)
  verdict (Wrote ticket) = then (plain (codes "; commit ") refl) (number ticket)
  verdict (Read at) = then (plain (codes "; read at ") refl) (number at)
  verdict (Cancelled at) = then (plain (codes "; cancel at ") refl) (number at)
  verdict (Locked at p) = then (plain (codes "; abort at ") refl) (then (number at) (then (plain (codes " locked ") refl) (part p)))
  verdict (Changed at p ticket) =
      then (plain (codes "; abort at ") refl) (then (number at) (then (plain (codes " changed ") refl) (then (part p) (then (plain (codes " by ticket ") refl) (number ticket)))))

  end : (e : Option Verdict) → Ascii (end_text names e)
  end None = none
  end (Some v) = verdict v

  answered : (answers : List Answer) → Ascii (flat_map (answer_text names) answers)
  answered [] = none
  answered (a ∷ answers) =
      then (then (plain (codes "; ") refl) (then (asked names.file.declarations a.call objects) (then (plain (codes "heard ") refl) (printed (reply_text a.reply) (printable_reply a.reply)))))
      (answered answers)

  line : (e : Event) → Ascii (event_text names e)
  line e =
      then (number e.number) (then (plain (codes " ") refl) (then (thread_name names.file.names e.step.thread threads.each) (then (plain (codes ".") refl) (then (number e.step.position) (then (plain (codes " ") refl)
      (then (deed e.step.deed) (then (answered e.answers) (then (end e.step.end) (plain (codes "\n") refl)))))))))

  lines : (events : List Event) → Ascii (flat_map (event_text names) events)
  lines [] = none
  lines (e ∷ events) = then (line e) (lines events)

  pub trace_ascii : (steps : List Step) → IsAscii (trace_text names steps)
  trace_ascii steps = (lines (events_of names.file steps)).text
