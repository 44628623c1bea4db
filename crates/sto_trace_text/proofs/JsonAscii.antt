-- The JSON of a trace is ASCII, where the names of threads and objects are names.
use Rattle.std.proofs.Common.{◌≡◌, ℕ, zero, suc, List, [], ◌∷◌, refl, true, map, Option, None, Some, unwrap_or, slice_get, codes}
use Rattle.std.specs.List.{All, flat_map}
use Rattle.std.specs.Str.{IsAscii}
use Rattle.std.proofs.lemmas.List.Elements.{All-head, All-tail}
use Rattle.std.proofs.lemmas.Str.{IsAscii-append}
use Rattle.std.proofs.lemmas.Str.Ascii.{IsAscii-nil}
use Rattle.serde_json.specs.View.{items_of}
use Rattle.serde_json.specs.Written.{compact_text}
use Rattle.sto_model.specs.declared.call.Call.{Call}
use Rattle.sto_syntax.specs.Words.{is_name}
use Rattle.sto_attempt_log.specs.declared.verdict.Verdict.{Verdict}
use Rattle.sto_attempt_log.specs.declared.verdict.Verdict.TheVariants.{Wrote, Read, Cancelled, Locked, Changed}
use Rattle.sto_lang.specs.Objects.{HaveNames}
use Rattle.sto_report_spec.specs.Named.{AreNames}
use Rattle.sto_report_spec.specs.Report.{name_at}
use Rattle.sto_report_spec.proofs.Names.{name_printable}
use Rattle.sto_report_spec.proofs.Naming.{line_ascii}
use Rattle.sto_report_spec.proofs.PlainJson.{IsPlain, ArePlain, plain_text}
use Rattle.sto_report_spec.proofs.Printable.{IsPrintable, printable_signed, printable_reply}
use Rattle.sto_trace.specs.declared.Deed.{Deed}
use Rattle.sto_trace.specs.declared.Deed.TheVariants.{Start, Renew, Open, Word, Close, Recheck, Lock, Test, Draw, Check, Decide, Put, Release, Unlock}
use Rattle.sto_trace.specs.declared.Step.{Step}
use Rattle.sto_version.specs.declared.Version.{Version}
use Rattle.std.specs.Prelude.{ℤ}
use Rattle.sto_trace_text.proofs.Calls.{plain_word, object_printable, call_printable}
use Rattle.sto_trace_text.specs.Events.{Answer, Event, events_of}
use Rattle.sto_trace_text.specs.Texts.{Names, named_part}
use Rattle.sto_trace_text.specs.Json.{clock_data, version_data, word_data, part_data, deed_data, call_data, answer_data, ended_data, end_data, event_data, json_line, trace_json}

thread_printable : (names : List (List ℕ)) (thread : ℕ) → All (λ name. is_name name ≡ true) names → IsPrintable (name_at names thread)
thread_printable [] thread h = tt
thread_printable (name ∷ names) zero h = name_printable name (All-head (λ n. is_name n ≡ true) name names h)
thread_printable (name ∷ names) (suc thread) h = thread_printable names thread (All-tail (λ n. is_name n ≡ true) name names h)

ended_plain : (at : ℕ) (word : List ℕ) → IsPrintable word → IsPlain (ended_data at word)
ended_plain at word h = (plain_word (codes "at") refl, tt, (plain_word (codes "end") refl, h, tt))

clock_plain : (name : List ℕ) (clock : ℕ) → IsPrintable name → IsPlain (clock_data name clock)
clock_plain name clock h = (plain_word (codes "clock") refl, tt, (plain_word (codes "name") refl, h, tt))

module _ (names : Names) (objects : HaveNames names.file.declarations) (threads : AreNames names.file.names) where
  object_plain : (p : ℕ) → IsPrintable (named_part names p).object
  object_plain p = let at : ℕ × ℕ = unwrap_or (slice_get names.homes p) (0, 0) in object_printable names.file.declarations at.0 objects

  version_plain : (name : List ℕ) (p : ℕ) (version : Version) → IsPrintable name → IsPlain (version_data names name p version)
  version_plain name p version h = (
    plain_word (codes "locked") refl,
    tt,
    (
      plain_word (codes "name") refl,
      h,
      (
        plain_word (codes "object") refl,
        object_plain p,
        (
          plain_word (codes "part") refl,
          tt,
          (plain_word (codes "ticket") refl, tt, tt),
        ),
      ),
    ),
  )

  value_plain : (name : List ℕ) (p w : ℕ) (value : ℤ) → IsPrintable name → IsPlain (word_data names name p w value)
  value_plain name p w value h = (
    plain_word (codes "name") refl,
    h,
    (
      plain_word (codes "object") refl,
      object_plain p,
      (
        plain_word (codes "part") refl,
        tt,
        (
          plain_word (codes "value") refl,
          printable_signed value,
          (plain_word (codes "word") refl, tt, tt),
        ),
      ),
    ),
  )

  part_plain : (name : List ℕ) (p : ℕ) → IsPrintable name → IsPlain (part_data names name p)
  part_plain name p h = (plain_word (codes "name") refl, h, (plain_word (codes "object") refl, object_plain p, (plain_word (codes "part") refl, tt, tt)))

  deed_plain : (d : Deed) → IsPlain (deed_data names d)
  deed_plain (Start clock) = clock_plain (codes "start") clock (plain_word (codes "start") refl)
  deed_plain (Renew clock) = clock_plain (codes "renew") clock (plain_word (codes "renew") refl)
  deed_plain (Open p version) = version_plain (codes "open") p version (plain_word (codes "open") refl)
  deed_plain (Word p w value) = value_plain (codes "word") p w value (plain_word (codes "word") refl)
  deed_plain (Close p version) = version_plain (codes "close") p version (plain_word (codes "close") refl)
  deed_plain (Recheck p version) = version_plain (codes "recheck") p version (plain_word (codes "recheck") refl)
  deed_plain (Lock p version) = version_plain (codes "lock") p version (plain_word (codes "lock") refl)
  deed_plain (Test p version) = version_plain (codes "test") p version (plain_word (codes "test") refl)
  deed_plain (Draw ticket) = (plain_word (codes "name") refl, plain_word (codes "draw") refl, (plain_word (codes "ticket") refl, tt, tt))
  deed_plain (Check p version) = version_plain (codes "check") p version (plain_word (codes "check") refl)
  deed_plain (Decide commit) = (plain_word (codes "commit") refl, tt, (plain_word (codes "name") refl, plain_word (codes "decide") refl, tt))
  deed_plain (Put p w value) = value_plain (codes "put") p w value (plain_word (codes "put") refl)
  deed_plain (Release p) = part_plain (codes "release") p (plain_word (codes "release") refl)
  deed_plain (Unlock p) = part_plain (codes "unlock") p (plain_word (codes "unlock") refl)

  call_plain : (c : Option Call) → IsPlain (call_data names.file.declarations c)
  call_plain None = tt
  call_plain (Some c) = call_printable names.file.declarations c objects

  answers_plain : (answers : List Answer) → ArePlain (items_of (map (answer_data names) answers))
  answers_plain [] = tt
  answers_plain (a ∷ answers) =
      ((plain_word (codes "call") refl, call_plain a.call, (plain_word (codes "reply") refl, printable_reply a.reply, tt)), answers_plain answers)

  end_plain : (e : Option Verdict) → IsPlain (end_data names e)
  end_plain None = tt
  end_plain (Some (Wrote ticket)) = (plain_word (codes "end") refl, plain_word (codes "commit") refl, (plain_word (codes "ticket") refl, tt, tt))
  end_plain (Some (Read at)) = ended_plain at (codes "read") (plain_word (codes "read") refl)
  end_plain (Some (Cancelled at)) = ended_plain at (codes "cancel") (plain_word (codes "cancel") refl)
  end_plain (Some (Locked at p)) = (
    plain_word (codes "at") refl,
    tt,
    (
      plain_word (codes "cause") refl,
      plain_word (codes "locked") refl,
      (
        plain_word (codes "end") refl,
        plain_word (codes "abort") refl,
        (plain_word (codes "object") refl, object_plain p, (plain_word (codes "part") refl, tt, tt)),
      ),
    ),
  )
  end_plain (Some (Changed at p ticket)) = (
    plain_word (codes "at") refl,
    tt,
    (
      plain_word (codes "cause") refl,
      plain_word (codes "changed") refl,
      (
        plain_word (codes "end") refl,
        plain_word (codes "abort") refl,
        (plain_word (codes "object") refl, object_plain p, (plain_word (codes "part") refl, tt, (plain_word (codes "ticket") refl, tt, tt))),
      ),
    ),
  )

  event_plain : (e : Event) → IsPlain (event_data names e)
  event_plain e = (
    plain_word (codes "attempt") refl,
    end_plain e.step.end,
    (
      plain_word (codes "calls") refl,
      answers_plain e.answers,
      (
        plain_word (codes "event") refl,
        deed_plain e.step.deed,
        (plain_word (codes "number") refl, tt, (plain_word (codes "position") refl, tt, (plain_word (codes "thread") refl, thread_printable names.file.names e.step.thread threads.each, tt))),
      ),
    ),
  )

  lines_ascii : (events : List Event) → IsAscii (flat_map (json_line names) events)
  lines_ascii [] = IsAscii-nil
  lines_ascii (e ∷ events) =
      IsAscii-append (json_line names e) (flat_map (json_line names) events) (line_ascii (compact_text (event_data names e)) (plain_text (event_data names e) (event_plain e))) (lines_ascii events)

  pub json_ascii : (steps : List Step) → IsAscii (trace_json names steps)
  json_ascii steps = lines_ascii (events_of names.file steps)
