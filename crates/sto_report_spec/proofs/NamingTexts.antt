-- A report names the order that it replays and the aborted attempts that it tells, and it is ASCII.
use Rattle.std.proofs.Common.{◌≡◌, ℕ, List, ◌++◌, map, ap, ◌∙◌, append-nil, codes}
use Rattle.std.specs.List.{flat_map}
use Rattle.std.specs.Str.{IsAscii}
use Rattle.std.proofs.lemmas.Str.{IsAscii-append}
use Rattle.sto_model.specs.Run.{State}
use Rattle.sto_lang.specs.Objects.{Declaration, HaveNames}
use Rattle.sto_report_spec.specs.Orders.{TransactionPlace}
use Rattle.sto_report_spec.specs.Aborts.{Abort}
use Rattle.sto_report_spec.specs.Replay.{Entry}
use Rattle.sto_report_spec.specs.Report.{line_text, abort_text, object_text, text_of}
use Rattle.sto_report_spec.specs.Named.{order_named, AreNames}
use Rattle.sto_report_spec.specs.NamedAborts.{aborts_named}
use Rattle.sto_report_spec.specs.Short.{AreShortAborts, AreShortEntries}
use Rattle.sto_report_spec.proofs.Naming.{journal_names, state_names, objects_name, entries_ascii, state_ascii, objects_ascii}
use Rattle.sto_report_spec.proofs.NamingAborts.{journal_names_none, state_names_none, objects_name_none, aborts_name, aborts_no_place, aborts_ascii}

module _ (names : List (List ℕ)) (known : AreNames names) (ds : List Declaration) (entries : List Entry) (aborts : List Abort) (state : State)
    (words : HaveNames ds) (short : AreShortEntries names entries) (readable : AreShortAborts names aborts) where
  abbrev rest : List ℕ
  rest = codes "state\n" ++ flat_map (object_text state) ds

  -- it names the places of its entries
  pub text_names_order : order_named names (text_of names ds entries aborts state) ≡ map (λ e. e.place) entries
  text_names_order =
      journal_names names known entries (flat_map (abort_text names) aborts ++ rest) short
      ∙ ap (λ (ps : List TransactionPlace). map (λ e. e.place) entries ++ ps)
      (aborts_no_place names known aborts rest readable ∙ state_names names (flat_map (object_text state) ds) ∙ objects_name names state ds words)
      ∙ append-nil (map (λ e. e.place) entries)

  -- it names its aborts
  pub text_names_aborts : aborts_named names (text_of names ds entries aborts state) ≡ aborts
  text_names_aborts =
      journal_names_none names known entries (flat_map (abort_text names) aborts ++ rest) short
      ∙ aborts_name names known aborts rest readable
      ∙ ap (λ (named : List Abort). aborts ++ named) (state_names_none names (flat_map (object_text state) ds) ∙ objects_name_none names state ds words)
      ∙ append-nil aborts

  pub text_ascii : IsAscii (text_of names ds entries aborts state)
  text_ascii =
      IsAscii-append (flat_map (line_text names) entries) (flat_map (abort_text names) aborts ++ rest) (entries_ascii names known entries short)
      (IsAscii-append (flat_map (abort_text names) aborts) rest (aborts_ascii names known aborts readable)
      (IsAscii-append (codes "state\n") (flat_map (object_text state) ds) state_ascii (objects_ascii state ds words)))
