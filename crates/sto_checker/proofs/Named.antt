-- The aborted attempt that a line names.
use Rattle.std.proofs.Common.{◌≡◌, ℕ, List, [], ◌∷◌, ◌++◌, refl, sym, ap, ◌∙◌, append-nil, inl, inr, Bool, true, false, codes}
use Rattle.std.specs.List.{slice_split}
use Rattle.sto_report_spec.specs.Aborts.{Abort}
use Rattle.sto_report_spec.specs.Named.{is_space, AreNames}
use Rattle.sto_report_spec.specs.NamedAborts.{aborts_in, aborts_among, aborts_named}
use Rattle.sto_report_spec.specs.Report.{abort_text}
use Rattle.sto_report_spec.specs.Short.{IsShortAbort}
use Rattle.sto_report_spec.proofs.NamingAborts.{aborts_name}
use Rattle.sto_report_spec.specs.Orders.{TransactionPlace}
use Rattle.sto_report_spec.specs.NamedAborts.{heard_in}
use Rattle.sto_report_spec.specs.Named.{is_dot, place_of_pieces}
use Rattle.std.specs.Str.{bytes_eq}
use Rattle.std.specs.Str.Parse.{digits_value}
use Rattle.sto_checker.specs.Lines.{HasContent}
use Rattle.sto_checker.proofs.Reading.{Named, abort_parts, no_abort_line}

pub abort_once : (names : List (List ℕ)) (line content : List ℕ) → HasContent line content → aborts_named names line ≡ aborts_in names (slice_split is_space content)
abort_once names line content (inl e) = ap (aborts_among names) e ∙ append-nil (aborts_in names (slice_split is_space content))
abort_once names line content (inr e) = ap (aborts_among names) e ∙ append-nil (aborts_in names (slice_split is_space content))

-- the text of an abort line names its attempt
pub text_names : (names : List (List ℕ)) (a : Abort) → AreNames names → IsShortAbort names a → aborts_named names (abort_text names a) ≡ a ∷ []
text_names names a known short =
    ap (aborts_named names) (sym (append-nil (abort_text names a ++ []) ∙ append-nil (abort_text names a)))
    ∙ aborts_name names known (a ∷ []) [] (short, tt)

-- what an abort line names, by its words
module _ (names : List (List ℕ)) (words : List (List ℕ)) (first place at seen saw : List ℕ) (rest : List (List ℕ)) (e : words ≡ first ∷ place ∷ at ∷ seen ∷ saw ∷ rest) where
  pub words_name : (a : Abort) → aborts_in names words ≡ a ∷ [] → Named (place_of_pieces names (slice_split is_dot place)) (digits_value 10 seen) (heard_in rest) a
  words_name a f = by (bytes_eq first (codes "abort")) refl
    where
      by : (b : Bool) → bytes_eq first (codes "abort") ≡ b → Named (place_of_pieces names (slice_split is_dot place)) (digits_value 10 seen) (heard_in rest) a
      by true k = abort_parts names words first place at seen saw rest e k a f
      by false k = absurd (no_abort_line names words first place at seen saw rest e k a f)
