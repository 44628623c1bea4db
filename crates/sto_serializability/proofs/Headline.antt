-- The report of a finished run is lawful, in both forms.
use Rattle.std.specs.Prelude.{slice_index_or, slice_get, option_and_then, filter}
use Rattle.std.proofs.Common.{◌≡◌, ℕ, ◌<◌, ◌≤◌, ◌^◌, List, [], ◌∷◌, length, map, refl, sym, ap, ◌∙◌, subst, arith, true, Option, None, Some}
use Rattle.std.proofs.lemmas.Bool.Decides.{nat_tests}
use Rattle.std.proofs.lemmas.List.Elements.{All-filter}
use Rattle.std.proofs.lemmas.List.Sorted.{All-permutation}
use Rattle.sto_model.specs.PlainReplies.{PlainReply}
use Rattle.sto_model.specs.declared.shape.Shape.{Shape}
use Rattle.sto_syntax.specs.Words.{is_name}
use Rattle.sto_lang.specs.Objects.{shapes_of}
use Rattle.sto_lang.specs.Scripts.{Script, File}
use Rattle.sto_script.specs.Meaning.{meaning_of}
use Rattle.sto_type.specs.Meaning.{Meaning}
use Rattle.sto_type.specs.Touching.{HasTouched}
use Rattle.sto_type.proofs.Touching.{touched_of}
use Rattle.sto_core.specs.declared.view.View.{View}
use Rattle.sto_core.specs.History.{Contents, Validity, contents_as_of, writes, committed_updates}
use Rattle.sto_core.specs.Core.{Core}
use Rattle.sto_core.specs.Rule.{Past}
use Rattle.sto_report_spec.specs.Orders.{TransactionPlace, at_position, IsOrder}
use Rattle.sto_report_spec.specs.Replay.{Entry, entries_of, final_state}
use Rattle.sto_report_spec.specs.Aborts.{Abort, name_of}
use Rattle.sto_report_spec.specs.Named.{IsNamable, order_named}
use Rattle.sto_report_spec.specs.NamedAborts.{aborts_named}
use Rattle.sto_report_spec.specs.NamedJson.{json_order_named, json_aborts_named}
use Rattle.sto_report_spec.specs.Report.{report_of}
use Rattle.sto_report_spec.specs.Json.{json_of}
use Rattle.sto_report_spec.specs.LawfulAborts.{AreLawful}
use Rattle.sto_report_spec.specs.Lawful.{made_in, IsLawful, IsLawfulJson, IsLawfulIn}
use Rattle.sto_report_spec.specs.Short.{IsShortAbort, AreShortAborts, AreShortEntries}
use Rattle.sto_report_spec.specs.declared.form.ReportForm.{ReportForm}
use Rattle.sto_report_spec.specs.declared.form.ReportForm.TheVariants.{Text, Json}
use Rattle.sto_report_spec.proofs.NamingTexts.{text_names_order, text_names_aborts}
use Rattle.sto_report_spec.proofs.NamingJson.{json_names_order, json_names_aborts}
use Rattle.sto_history.specs.Records.{Verdict, Wrote, Read, Cancelled, Locked, Changed, Record, is_finished, stands_at, wrote_within, writers_up_to}
use Rattle.sto_serializability.specs.Finished.{IsRecord, AreFinished}
use Rattle.sto_serializability.specs.Merged.{line_of, AreMerged, part_named, lines_of_abort, aborts_from}
use Rattle.sto_serializability.specs.Meanings.{updating_by, IsHomeAt, IsTypeOf, IsNamedObject, IsUsable}
use Rattle.sto_serializability.specs.Headline.{IsShortRecord, AreShortRecords}
use Rattle.sto_serializability.proofs.Chains.{Every, every}
use Rattle.sto_history.proofs.Histories.{StandsAt}
use Rattle.sto_serializability.proofs.Pairs.{every_both}
use Rattle.sto_serializability.proofs.Replaying.{places_of}
use Rattle.sto_serializability.proofs.Journal as journal
use Rattle.sto_serializability.proofs.Journal.{IsClosed}
use Rattle.sto_serializability.proofs.AbortLines.{all_every, aborts_lawful}
use Rattle.std.proofs.lemmas.Option.{slice_get_within}

-- there are no more writers than records
few_writers : (n : ℕ) (rs : List Record) → writers_up_to n rs ≤ length rs
few_writers n [] = omega arith
few_writers n (r ∷ rs) = let here = one r.verdict in let rest = few_writers n rs in omega (arith, here, rest)
  where
    one : (v : Verdict) → wrote_within n v ≤ 1
    one (Wrote t) = grind (arith, nat_tests)
    one (Read i) = omega arith
    one (Cancelled i) = omega arith
    one (Locked i p) = omega arith
    one (Changed i p t) = omega arith

-- facts of every abort, and of every line
readable_of : (names : List (List ℕ)) (xs : List Abort) → Every (IsShortAbort names) xs → AreShortAborts names xs
readable_of names [] h = tt
readable_of names (x ∷ xs) h = (h.0, readable_of names xs h.1)

short_of : (names : List (List ℕ)) (rs ordered : List Record) → ((n : ℕ) → writers_up_to n rs < 2 ^ 64) → Every (λ (r : Record). IsNamable names r.place) ordered → AreShortEntries names (map (line_of rs) ordered)
short_of names rs [] few h = tt
short_of names rs (r ∷ ordered) few h = (record { place = h.0; writers = few (stands_at r.verdict) }, short_of names rs ordered few h.1)

-- a transaction is one of a thread
of_thread : (file : File) (thread : Option (List Script)) (position : ℕ) (s : Script) → option_and_then (at_position position) thread ≡ Some s → (scripts : List Script) × (thread ≡ Some scripts)
of_thread file None position s e = absurd cc
of_thread file (Some scripts) position s e = (scripts, refl)

places_told : (rs ordered : List Record) → map (λ (e : Entry). e.place) (map (line_of rs) ordered) ≡ places_of ordered
places_told rs [] = refl
places_told rs (r ∷ ordered) = ap (λ (ps : List TransactionPlace). r.place ∷ ps) (places_told rs ordered)

module _ {valid : Validity} {sizes : List ℕ} {opening : Contents} {past : Past} {core : Core} {v : View}
    (means : List Shape → Meaning) (file : File) (usable : IsUsable file) (type_of : IsTypeOf (shapes_of file.declarations) (means (shapes_of file.declarations)))
    (closed : IsClosed valid sizes opening past core v (means (shapes_of file.declarations)))
    (tries : ℕ) (rs ordered : List Record)
    (finished : AreFinished (means (shapes_of file.declarations)) file tries v rs) (merged : AreMerged rs ordered)
    (short : AreShortRecords rs) (parts : length (means (shapes_of file.declarations)).homes < 2 ^ 64) where
  abbrev m : Meaning
  m = means (shapes_of file.declarations)

  abbrev aborts : List Abort
  aborts = aborts_from file.declarations m.homes rs 0 (length file.threads)

  named_part : (p : ℕ) → p < length m.homes → is_name (part_named file.declarations m.homes p).object ≡ true
  named_part p range =
      let home : ℕ × ℕ = slice_index_or m.homes p (0, 0) in
      let at_home : IsHomeAt (shapes_of file.declarations) p home = type_of.homes p range in
      let found = usable.named home.0 at_home.shape at_home.object in
      let is : IsNamedObject file.declarations home.0 found.0 = found.1 in
      ap (λ x. is_name (name_of x)) is.by_number ∙ is.word

  low_part : (p : ℕ) → p < length m.homes → (part_named file.declarations m.homes p).part < 2 ^ 64
  low_part p range =
      let home : ℕ × ℕ = slice_index_or m.homes p (0, 0) in
      let at_home : IsHomeAt (shapes_of file.declarations) p home = type_of.homes p range in
      let number = at_home.number in omega (arith, number, range, parts)

  in_range : (p : ℕ) (s : Script) (replies : List PlainReply) → HasTouched m (meaning_of s) replies p → p < length m.homes
  in_range p s replies h = (touched_of m type_of.lawful (meaning_of s) replies p h).owned.in_range

  few : (n : ℕ) → writers_up_to n rs < 2 ^ 64
  few n = let k = few_writers n rs in let l = short.few in omega (arith, k, l)

  readable_by : (r : Record) (w : Verdict) (s : Script) → IsNamable file.names r.place → IsShortRecord r
      → StandsAt m core.clock (λ n. contents_as_of opening past.log n) (λ t p. writes (committed_updates (past.log t)) p) rs (meaning_of s) r.replies w
      → Every (IsShortAbort file.names) (lines_of_abort file.declarations m.homes rs r.place r.replies w)
  readable_by r (Wrote t) s named k h = tt
  readable_by r (Read n) s named k h = tt
  readable_by r (Cancelled n) s named k h = tt
  readable_by r (Locked n p) s named k h = (
    record {
      place = named;
      seen = few n;
      replies = k.replies;
      cause = let range = in_range p s r.replies h.touched in (named_part p range, low_part p range);
    },
    tt,
  )
  readable_by r (Changed n p t) s named k h = (
    record {
      place = named;
      seen = few n;
      replies = k.replies;
      cause = let range = in_range p s r.replies h.aborted.touched in (named_part p range, low_part p range, few t);
    },
    tt,
  )

  namable : (r : Record) → IsShortRecord r → IsRecord m file v r → IsNamable file.names r.place
  namable r k h =
      let there = of_thread file (slice_get file.threads r.place.0) r.place.1 h.script h.transaction in
      let below = slice_get_within file.threads r.place.0 there.0 there.1 in
      let each = usable.each_thread in
      record { thread = omega (arith, below, each); position = k.position }

  readable : AreShortAborts file.names aborts
  readable = readable_of file.names aborts
      (all_every file.declarations m.homes rs (IsShortAbort file.names)
      (every_both IsShortRecord (IsRecord m file v) (λ r. Every (IsShortAbort file.names) (lines_of_abort file.declarations m.homes rs r.place r.replies r.verdict))
      (λ r k h. let there = journal.stands means file usable type_of closed tries rs ordered finished merged r h in readable_by r r.verdict there.script (namable r k h) k there.at)
      rs (every IsShortRecord rs short.each) (every (IsRecord m file v) rs finished.each))
      0 (length file.threads))

  entries_are : entries_of file (places_of ordered) ≡ map (line_of rs) ordered
  entries_are = journal.entries means file usable type_of closed tries rs ordered finished merged

  short_lines : AreShortEntries file.names (entries_of file (places_of ordered))
  short_lines = subst (AreShortEntries file.names) (sym entries_are)
      (short_of file.names rs ordered few
      (every_both IsShortRecord (IsRecord m file v) (λ (r : Record). IsNamable file.names r.place) namable ordered
      (every IsShortRecord ordered (All-permutation IsShortRecord (filter is_finished rs) ordered merged.same (All-filter is_finished IsShortRecord rs short.each)))
      (every (IsRecord m file v) ordered (All-permutation (IsRecord m file v) (filter is_finished rs) ordered merged.same (All-filter is_finished (IsRecord m file v) rs finished.each)))))

  lawful_order : IsOrder file (places_of ordered)
  lawful_order = journal.order means file usable type_of closed tries rs ordered finished merged

  lawful_aborts : AreLawful (updating_by means) file tries (places_of ordered) aborts
  lawful_aborts = aborts_lawful means file usable type_of closed tries rs ordered finished merged

  places_are : map (λ (e : Entry). e.place) (entries_of file (places_of ordered)) ≡ places_of ordered
  places_are = ap (map (λ (e : Entry). e.place)) entries_are ∙ places_told rs ordered

  abbrev text : List ℕ
  text = report_of file (places_of ordered) aborts

  order_is_named : order_named file.names text ≡ places_of ordered
  order_is_named =
      text_names_order file.names usable.threads file.declarations (entries_of file (places_of ordered)) aborts (final_state file (places_of ordered)) usable.words short_lines readable
      ∙ places_are

  aborts_are_named : aborts_named file.names text ≡ aborts
  aborts_are_named = text_names_aborts file.names usable.threads file.declarations (entries_of file (places_of ordered)) aborts (final_state file (places_of ordered)) usable.words short_lines readable

  text_lawful : IsLawful (updating_by means) file tries text
  text_lawful = record {
    order = subst (IsOrder file) (sym order_is_named) lawful_order;
    aborts = subst (λ (o : List TransactionPlace). AreLawful (updating_by means) file tries o (aborts_named file.names text)) (sym order_is_named)
        (subst (AreLawful (updating_by means) file tries (places_of ordered)) (sym aborts_are_named) lawful_aborts);
    report = sym (ap (λ (o : List TransactionPlace). report_of file o (aborts_named file.names text)) order_is_named ∙ ap (report_of file (places_of ordered)) aborts_are_named);
  }

  abbrev object : List ℕ
  object = json_of file (places_of ordered) aborts

  json_order_is_named : json_order_named file.names object ≡ places_of ordered
  json_order_is_named =
      json_names_order file.names file.declarations (entries_of file (places_of ordered)) aborts (final_state file (places_of ordered)) usable.threads short_lines readable
      ∙ places_are

  json_aborts_are_named : json_aborts_named file.names object ≡ aborts
  json_aborts_are_named = json_names_aborts file.names file.declarations (entries_of file (places_of ordered)) aborts (final_state file (places_of ordered)) usable.threads short_lines readable

  json_lawful : IsLawfulJson (updating_by means) file tries object
  json_lawful = record {
    order = subst (IsOrder file) (sym json_order_is_named) lawful_order;
    aborts = subst (λ (o : List TransactionPlace). AreLawful (updating_by means) file tries o (json_aborts_named file.names object)) (sym json_order_is_named)
        (subst (AreLawful (updating_by means) file tries (places_of ordered)) (sym json_aborts_are_named) lawful_aborts);
    report = sym (ap (λ (o : List TransactionPlace). json_of file o (json_aborts_named file.names object)) json_order_is_named ∙ ap (json_of file (places_of ordered)) json_aborts_are_named);
  }

  -- The report of the records is lawful in either form, with what the types of the objects say of updates.
  pub report_lawful : (form : ReportForm) → IsLawfulIn form (updating_by means) file tries (made_in form file (places_of ordered) aborts)
  report_lawful Text = text_lawful
  report_lawful Json = json_lawful
