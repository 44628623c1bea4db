-- What the events of a pass did, as deeds.
use Rattle.std.specs.Prelude.{ℕ, ℤ, suc}
use Rattle.sto_version.specs.declared.Version.{Version}
use Rattle.sto_core.specs.declared.view.View.{View}
use Rattle.sto_core.specs.History.{Validity}
use Rattle.sto_core.specs.Event.{Event, Start, Open, Word, Close, Renew, Recheck, Lock, Test, Draw, Check, Decide, Put, Release, Unlock}
use Rattle.sto_core.specs.Tells.{Tells}
use Rattle.sto_trace.specs.declared.Deed.{Deed}
use Rattle.sto_trace.specs.declared.Deed.TheVariants as deeds
use Rattle.std.specs.Prelude.{◌≡◌}

-- the version with this number
abbrev pub version_with : ℕ → Version
version_with n = record { 0 = n }

-- what an event did that found the number n in a clock or version word, or the value x in a content word
abbrev pub deed_of : Event → ℕ → ℤ → Deed
deed_of Start n x = deeds.Start n
deed_of Renew n x = deeds.Renew n
deed_of (Open p) n x = deeds.Open p (version_with n)
deed_of (Word p i) n x = deeds.Word p i x
deed_of (Close p) n x = deeds.Close p (version_with n)
deed_of (Recheck p) n x = deeds.Recheck p (version_with n)
deed_of (Lock p) n x = deeds.Lock p (version_with n)
deed_of (Test p) n x = deeds.Test p (version_with n)
deed_of (Draw updates seen loaded) n x = deeds.Draw (suc n)
deed_of (Check p) n x = deeds.Check p (version_with n)
deed_of (Decide commit) n x = deeds.Decide commit
deed_of (Put p i y) n x = deeds.Put p i y
deed_of (Release p) n x = deeds.Release p
deed_of (Unlock p) n x = deeds.Unlock p

-- exactly one event leads from a view of a pass to the next, and this is what it did
pub record IsDone (valid : Validity) (passes : ℕ) (deed : Deed) (v w : View) : Type 0 where
  pub event : Event
  pub number : ℕ
  pub value : ℤ
  pub tells : Tells valid passes event v number value w
  pub did : deed ≡ deed_of event number value
