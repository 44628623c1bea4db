-- The JSON of a trace has no number that is a float.
use Rattle.std.proofs.Common.{◌≡◌, List, [], ◌∷◌, map, refl, ap, ◌∙◌, Bool, false, ◌||◌, Option, None, Some}
use Rattle.serde_json.specs.View.{items_of}
use Rattle.serde_json.specs.Written.{has_float, items_have_float}
use Rattle.sto_model.specs.declared.call.Call.{Call}
use Rattle.sto_lang.specs.Objects.{Declaration}
use Rattle.sto_attempt_log.specs.declared.verdict.Verdict.{Verdict}
use Rattle.sto_attempt_log.specs.declared.verdict.Verdict.TheVariants.{Wrote, Read, Cancelled, Locked, Changed}
use Rattle.sto_trace.specs.declared.Deed.{Deed}
use Rattle.sto_trace.specs.declared.Deed.TheVariants.{Start, Renew, Open, Word, Close, Recheck, Lock, Test, Draw, Check, Decide, Put, Release, Unlock}
use Rattle.sto_trace_text.specs.Events.{Answer, Event}
use Rattle.sto_trace_text.specs.Texts.{Names}
use Rattle.sto_trace_text.specs.Json.{deed_data, call_data, answer_data, end_data, event_data}

call : (ds : List Declaration) (c : Option Call) → has_float (call_data ds c) ≡ false
call ds None = refl
call ds (Some c) = refl

module _ (names : Names) where
  deed : (d : Deed) → has_float (deed_data names d) ≡ false
  deed (Start clock) = refl
  deed (Renew clock) = refl
  deed (Open p version) = refl
  deed (Word p w value) = refl
  deed (Close p version) = refl
  deed (Recheck p version) = refl
  deed (Lock p version) = refl
  deed (Test p version) = refl
  deed (Draw ticket) = refl
  deed (Check p version) = refl
  deed (Decide commit) = refl
  deed (Put p w value) = refl
  deed (Release p) = refl
  deed (Unlock p) = refl

  answers : (replies : List Answer) → items_have_float (items_of (map (answer_data names) replies)) ≡ false
  answers [] = refl
  answers (a ∷ replies) = ap (λ (b : Bool). (b || false) || items_have_float (items_of (map (answer_data names) replies))) (call names.file.declarations a.call) ∙ answers replies

  end : (e : Option Verdict) → has_float (end_data names e) ≡ false
  end None = refl
  end (Some (Wrote ticket)) = refl
  end (Some (Read at)) = refl
  end (Some (Cancelled at)) = refl
  end (Some (Locked at p)) = refl
  end (Some (Changed at p ticket)) = refl

  pub no_float : (e : Event) → has_float (event_data names e) ≡ false
  no_float e =
      ap (λ (b : Bool). b || (items_have_float (items_of (map (answer_data names) e.answers)) || (has_float (deed_data names e.step.deed) || false))) (end e.step.end)
      ∙ ap (λ (b : Bool). b || (has_float (deed_data names e.step.deed) || false)) (answers e.answers)
      ∙ ap (λ (b : Bool). b || false) (deed e.step.deed)
