-- What an abort line tells, and what is left to be judged of it.
use Rattle.std.specs.Prelude.{◌≡◌, ℕ, ◌≤◌, ◌<◌, List, [], ◌∷◌, length, take, Option, None, Some, slice_get}
use Rattle.sto_model.specs.Asked.{HasAsked, IsUnsettled}
use Rattle.sto_model.specs.PlainReplies.{PlainReply}
use Rattle.sto_model.specs.Run.{Behaviour, State}
use Rattle.sto_model.specs.Sizes.{part_count}
use Rattle.sto_lang.specs.Objects.{Declaration}
use Rattle.sto_lang.specs.Scripts.{Script, File}
use Rattle.sto_script.specs.Meaning.{meaning_of}
use Rattle.sto_report_spec.specs.Orders.{TransactionPlace, transaction_at}
use Rattle.sto_report_spec.specs.Replay.{entries_of, run_at}
use Rattle.sto_report_spec.specs.Report.{abort_text}
use Rattle.sto_report_spec.specs.Aborts.{LocalPart, Cause, Locked, Changed, Abort}
use Rattle.sto_report_spec.specs.NamedAborts.{aborts_named}
use Rattle.sto_report_spec.specs.LawfulAborts.{IsBefore, IsAfterOwn, declared_as}
use Rattle.sto_journal.specs.declared.journal.Cause as lines
use Rattle.sto_journal.specs.declared.journal.Cause.TheVariants as causes
use Rattle.sto_checker.specs.declared.told.ToldCause.{ToldCause}
use Rattle.sto_checker.specs.declared.told.ToldAbort.{ToldAbort}
use Rattle.sto_checker.specs.Reading.{place_of, IsTold}
use Rattle.sto_checker.specs.Right.{WroteAt, IsWrittenBy, IsRightAlone, IsAbortLine}
use Rattle.sto_checker.specs.declared.abort.GivenAbort.{GivenAbort}

-- the cause by its part, and by the writer where there is one
abbrev pub cause_by : LocalPart → Option ℕ → Cause
cause_by part None = Locked part
cause_by part (Some by) = Changed part by

abbrev pub cause_in : ToldCause → Cause
cause_in told = cause_by (record { object = told.object.now; part = told.part }) told.by

-- the cause names the part of the object with a number
abbrev pub TellsCause : ℕ → ℕ → Option ℕ → lines.Cause → Type 0
TellsCause part object None c = c ≡ causes.Locked (record { object = object; local = part })
TellsCause part object (Some by) c = c ≡ causes.Changed (record { object = object; local = part }) by

-- what its transaction hears from a state
abbrev pub hears : File → State → ToldAbort → List PlainReply
hears file state told = (run_at file state (place_of told.place)).replies

-- the aborted attempt that heard so many of these replies
abbrev pub abort_of : File → State → ToldAbort → Abort
abort_of file state told = record { place = place_of told.place; seen = told.seen; replies = take told.heard (hears file state told); cause = cause_in told.cause }

-- the writer, where there is one, is later than those that were seen, at most the last of some, and wrote the object
pub record IsLater (seen most : ℕ) (written : List (List ℕ)) (object by : ℕ) : Type 0 where
  pub later : seen < by
  pub within : by ≤ most
  pub wrote : WroteAt written by object

abbrev pub MayBe : ℕ → ℕ → List (List ℕ) → ℕ → Option ℕ → Type 0
MayBe seen most written object None = Unit {0}
MayBe seen most written object (Some by) = IsLater seen most written object by

-- the writer, where there is one, is one that a cause may name
abbrev pub IsWriterOr : File → List TransactionPlace → ToldAbort → ℕ → Option ℕ → Type 0
IsWriterOr file order told object None = Unit {0}
IsWriterOr file order told object (Some by) = IsWrittenBy file order (place_of told.place) told.seen object by

-- the transaction is one of the file, and the part is one of a declared object
pub record IsPlaced (file : File) (given : GivenAbort) : Type 0 where
  pub script : Script
  pub object : Declaration
  pub transaction : transaction_at file (place_of given.told.place) ≡ Some script
  pub stands : slice_get file.declarations given.object ≡ Some object
  pub declared : declared_as given.told.cause.object.now file.declarations ≡ Some object
  pub inside : given.told.cause.part < part_count object.shape

-- all is right of an abort line but its replies and its place among the others
pub record IsGiven (file : File) (order : List TransactionPlace) (given : GivenAbort) : Type 0 where
  pub placed : IsPlaced file given
  pub after_own : IsAfterOwn (entries_of file order) (place_of given.told.place) given.told.seen
  pub earlier : IsBefore (entries_of file order) (place_of given.told.place) given.told.seen
  pub cause : IsWriterOr file order given.told placed.object.number given.told.cause.by

-- an aborted attempt of a right line is told so
abbrev pub TellsAbort : File → List TransactionPlace → List ℕ → ToldAbort → Type 0
TellsAbort file order line told = (a : Abort) → aborts_named file.names line ≡ a ∷ [] → IsRightAlone file order a → IsTold a told

-- all but its replies is right; or the line is no abort line, whatever stands before it
abbrev pub IsGivenOr : File → List TransactionPlace → List ℕ → Option GivenAbort → Type 0
IsGivenOr file order line None = (tries : ℕ) (before : List Abort) → IsAbortLine file tries order before line → ⊥
IsGivenOr file order line (Some given) = (given.text.now ≡ line) × IsGiven file order given × TellsAbort file order line given.told

-- an attempt that heard the replies asked the object, and was not at its end
abbrev pub MayBeAborted : ℕ → Behaviour → List PlainReply → Type 0
MayBeAborted object script replies = HasAsked object script replies × IsUnsettled script replies

-- its replies are those that its transaction hears first from a state, and the attempt that heard these may have been aborted, for a part
-- of its object
pub record IsHeard (file : File) (state : State) (given : GivenAbort) : Type 0 where
  pub script : Script
  pub object : Declaration
  pub transaction : transaction_at file (place_of given.told.place) ≡ Some script
  pub stands : slice_get file.declarations given.object ≡ Some object
  pub enough : given.told.heard ≤ length (hears file state given.told)
  pub may_abort : MayBeAborted object.number (meaning_of script) (take given.told.heard (hears file state given.told))
  pub named : aborts_named file.names given.text.now ≡ abort_of file state given.told ∷ []
  pub text : given.text.now ≡ abort_text file.names (abort_of file state given.told)
