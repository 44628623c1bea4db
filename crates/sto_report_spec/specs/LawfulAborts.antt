-- When aborted attempts are lawful for a file, an order of its transactions, and a number of tries.
use Rattle.std.specs.Prelude.{◌≡◌, ℕ, ◌+◌, ◌-◌, ◌≤◌, ◌<◌, ◌⊎◌, List, [], ◌∷◌, ◌++◌, ◌==◌, ◌&&◌, Option, None, Some, find, take, sum_by, count_by}
use Rattle.std.specs.List.{All}
use Rattle.std.specs.Str.{bytes_eq}
use Rattle.sto_model.specs.PlainReplies.{PlainReply}
use Rattle.sto_model.specs.Asked.{HasAsked, HasAskedSuch, IsUnsettled}
use Rattle.sto_lang.specs.Objects.{Declaration, shapes_of}
use Rattle.sto_model.specs.Sizes.{part_count}
use Rattle.sto_lang.specs.Scripts.{Script, File}
use Rattle.sto_script.specs.Meaning.{meaning_of}
use Rattle.sto_report_spec.specs.Orders.{TransactionPlace, transaction_at}
use Rattle.sto_report_spec.specs.Replay.{Entry, entries_of, run_at, shown}
use Rattle.sto_report_spec.specs.declared.ending.Ending.{Ending}
use Rattle.sto_report_spec.specs.declared.ending.Ending.TheVariants as endings
use Rattle.sto_report_spec.specs.Aborts.{LocalPart, Cause, Locked, Changed, Abort, part_in}
use Rattle.sto_report_spec.specs.Updated.{Updating, updated}

-- the replies are the first ones of others
abbrev pub IsFront : List PlainReply → List PlainReply → Type 0
IsFront front all = (others : List PlainReply) × (all ≡ front ++ others)

-- how many writer runs there are before an entry
abbrev pub writers_before : Entry → Ending → ℕ
writers_before entry endings.Commit = entry.writers - 1
writers_before entry endings.Read = entry.writers
writers_before entry endings.Cancel = entry.writers

-- the number is at most that of the writer runs before the transaction's own entry
abbrev pub IsBefore : List Entry → TransactionPlace → ℕ → Type 0
IsBefore entries place number = All (λ e. e.place ≡ place → number ≤ writers_before e e.ending) entries

-- the number is at least that of each entry of the thread before the transaction
abbrev pub IsAfterOwn : List Entry → TransactionPlace → ℕ → Type 0
IsAfterOwn entries place number = All (λ e. e.place.0 ≡ place.0 → e.place.1 < place.1 → e.writers ≤ number) entries

-- the object with a name
abbrev pub declared_as : List ℕ → List Declaration → Option Declaration
declared_as name declarations = find (λ d. bytes_eq name d.name) declarations

-- the number of a part of an object among the parts of all
abbrev pub part_number : List Declaration → Declaration → ℕ → ℕ
part_number declarations d part = sum_by part_count (take d.number (shapes_of declarations)) + part

-- the part is one of an object that a call of the attempt asks
pub record IsPartAsked (file : File) (script : Script) (replies : List PlainReply) (part : LocalPart) (d : Declaration) : Type 0 where
  pub declared : declared_as part.object file.declarations ≡ Some d
  pub inside : part.part < part_count d.shape
  pub asked : HasAsked d.number (meaning_of script) replies

-- the writer is a later one that the transaction comes after, and it updates the part
pub record IsChange (u : Updating) (file : File) (order : List TransactionPlace) (abort : Abort) (part by : ℕ) : Type 0 where
  pub later : abort.seen < by
  pub earlier : IsBefore (entries_of file order) abort.place by
  pub written : (before after : List ℕ) × (updated u file order by ≡ before ++ part ∷ after)

-- one of the calls of the attempt may touch the part
abbrev pub IsPartTouched : Updating → File → Script → List PlainReply → ℕ → Type 0
IsPartTouched u file script replies part = HasAskedSuch (u.touches (shapes_of file.declarations) part) (meaning_of script) replies

-- what the cause says of a writer
abbrev pub IsCause : Updating → File → List TransactionPlace → Abort → Declaration → Cause → Type 0
IsCause u file order abort d (Locked part) = Unit {0}
IsCause u file order abort d (Changed part by) = IsChange u file order abort (part_number file.declarations d part.part) by

-- an aborted attempt is lawful: it is one of a transaction of the file, it heard what that hears of the state after the
-- writers that it saw, those are as many as its thread's own earlier entries and not more than are before its own entry,
-- it was not at its end (a call was running, or it was committing what it had written), and its cause is a part of an
-- object that it asked for, which one of its calls may touch, and a writer that changed it
pub record IsLawfulAbort (u : Updating) (file : File) (order : List TransactionPlace) (abort : Abort) : Type 0 where
  pub script : Script
  pub object : Declaration
  pub transaction : transaction_at file abort.place ≡ Some script
  pub replies : IsFront abort.replies (run_at file (shown file order abort.seen) abort.place).replies
  pub after_own : IsAfterOwn (entries_of file order) abort.place abort.seen
  pub before : IsBefore (entries_of file order) abort.place abort.seen
  pub unsettled : IsUnsettled (meaning_of script) abort.replies
  pub part : IsPartAsked file script abort.replies (part_in abort.cause) object
  pub touched : IsPartTouched u file script abort.replies (part_number file.declarations object (part_in abort.cause).part)
  pub cause : IsCause u file order abort object abort.cause

-- how many writers an attempt knew of that saw so many and was aborted for this cause: the one that changed the part, too
abbrev pub known_by : Cause → ℕ → ℕ
known_by (Locked part) seen = seen
known_by (Changed part by) seen = by

abbrev pub known_at_end : Abort → ℕ
known_at_end abort = known_by abort.cause abort.seen

-- an abort may stand before another: by thread, then by position, and in one transaction where the later attempt saw at least what
-- the earlier one knew at its end
abbrev pub MayPrecede : Abort → Abort → Type 0
MayPrecede a b =
    (a.place.0 < b.place.0)
    ⊎ ((a.place.0 ≡ b.place.0) × (a.place.1 < b.place.1))
    ⊎ ((a.place ≡ b.place) × (known_at_end a ≤ b.seen))

-- each may stand before the next
abbrev pub IsSorted : List Abort → Type 0
IsSorted [] = Unit {0}
IsSorted (a ∷ []) = Unit {0}
IsSorted (a ∷ b ∷ aborts) = MayPrecede a b × IsSorted (b ∷ aborts)

-- how many of them are of the transaction at a place
abbrev pub count_at : TransactionPlace → List Abort → ℕ
count_at place aborts = count_by (λ a. (a.place.0 == place.0) && (a.place.1 == place.1)) aborts

-- a transaction with as many of them as tries is handed back with all later ones of its thread, and of these none is aborted
abbrev pub HandsBack : ℕ → List Abort → Type 0
HandsBack tries aborts = (p q : TransactionPlace) → p.0 ≡ q.0 → p.1 < q.1 → count_at p aborts ≡ tries → count_at q aborts ≡ 0

-- the aborts are lawful: each of them is, no transaction has more than the tries, one that has as many is the last of its thread to have
-- any, and they stand in their order
pub record AreLawful (u : Updating) (file : File) (tries : ℕ) (order : List TransactionPlace) (aborts : List Abort) : Type 0 where
  pub each : All (IsLawfulAbort u file order) aborts
  pub few : (place : TransactionPlace) → count_at place aborts ≤ tries
  pub handed : HandsBack tries aborts
  pub sorted : IsSorted aborts
