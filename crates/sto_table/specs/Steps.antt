-- What a step of a pass tells it, and at which word each event is made.
use Rattle.std.specs.Prelude.{◌≡◌, ◌+◌, ◌*◌, ◌^◌, ◌<◌, ℕ, suc, ℤ, pos, List}
use Rattle.std.specs.Int.{cast_signed, cast_unsigned, w64}
use Rattle.atomic_table.specs.Table.{Me}
use Rattle.sto_core.specs.declared.view.View.{View}
use Rattle.sto_core.specs.History.{Contents, Validity}
use Rattle.sto_core.specs.Views.{own_ticket}
use Rattle.sto_core.specs.Event.{Event, Start, Open, Word, Close, Lock, Test, Draw, Check, Decide, Put, Release}
use Rattle.sto_core.specs.Event.{Unlock, Renew, Recheck, after}
use Rattle.sto_core.specs.Core.{status_word}
use Rattle.sto_core.specs.Tells.{Tells}
use Rattle.sto_table.specs.declared.stance.Stance.{Stance}
use Rattle.sto_table.specs.Laid.{place_of}
use Rattle.sto_table.specs.Placed.{with_view}

-- the number and the value that an event is told where its word held n
abbrev pub number_told : Event → ℕ → ℕ
number_told (Word p i) n = 0
number_told (Decide b) n = 0
number_told (Put p i x) n = 0
number_told (Release p) n = 0
number_told (Unlock p) n = 0
number_told e n = n

abbrev pub value_told : Event → ℕ → ℤ
value_told (Word p i) n = cast_signed w64 n
value_told e n = pos 0

-- what a step that found n tells the pass that knew m: its view is the one after the event, and the facts of the core
abbrev pub Plays : Validity → ℕ → Event → Me (Unit {0}) Stance → ℕ → Me (Unit {0}) Stance → Type 0
Plays valid passes e m n w =
    (w ≡ (with_view m.0 (after e m.0.view (number_told e n) (value_told e n)), m.1))
    × Tells valid passes e m.0.view (number_told e n) (value_told e n) w.0.view

module _ (passes : ℕ) (opening : Contents) where
  -- the event loads the word at place i
  abbrev pub LoadsAt : Event → ℕ → Type 0
  LoadsAt Start i = i ≡ 0
  LoadsAt Renew i = i ≡ 0
  LoadsAt (Open p) i = i ≡ place_of passes opening p
  LoadsAt (Word p k) i = i ≡ place_of passes opening p + suc k
  LoadsAt (Close p) i = i ≡ place_of passes opening p
  LoadsAt (Test p) i = i ≡ place_of passes opening p
  LoadsAt (Check p) i = i ≡ place_of passes opening p
  LoadsAt (Recheck p) i = i ≡ place_of passes opening p
  LoadsAt e i = ⊥

  -- the event of a pass with the view v stores x in the word at place i
  abbrev pub StoresAt : Event → View → ℕ → ℕ → Type 0
  StoresAt (Decide b) v i x = (i ≡ suc v.number) × (x ≡ status_word b (own_ticket v.phase))
  StoresAt (Put p k y) v i x = (i ≡ place_of passes opening p + suc k) × (cast_signed w64 x ≡ y)
  StoresAt (Release p) v i x = (i ≡ place_of passes opening p) × (x ≡ 2 * own_ticket v.phase)
  StoresAt e v i x = ⊥

-- the event is told nothing
abbrev pub IsSilent : Event → Type 0
IsSilent (Decide b) = Unit {0}
IsSilent (Put p i x) = Unit {0}
IsSilent (Release p) = Unit {0}
IsSilent (Unlock p) = Unit {0}
IsSilent e = ⊥
