-- How many writers an attempt of a transaction may have seen.
use Rattle.std.specs.Prelude.{◌≡◌, ℕ, zero, suc, ◌-◌, ◌≤◌, ◌<◌, max, List, [], ◌∷◌, ◌++◌, length, map, Option, None, Some, slice_get}
use Rattle.sto_report_spec.specs.Orders.{TransactionPlace, positions_of}
use Rattle.sto_report_spec.specs.Replay.{Entry}
use Rattle.sto_report_spec.specs.LawfulAborts.{writers_before, IsBefore, IsAfterOwn}
use Rattle.sto_checker.specs.declared.window.Window.{Window}

-- lists with an item more at the end of one of them
abbrev pub with_more : {X : Type 0} → List (List X) → ℕ → X → List (List X)
with_more [] n x = []
with_more (xs ∷ lists) zero x = (xs ++ x ∷ []) ∷ lists
with_more (xs ∷ lists) (suc n) x = xs ∷ with_more lists n x

-- how many writers there are up to the last of some transactions of a thread
abbrev pub reached_in : Option Window → ℕ
reached_in None = 0
reached_in (Some window) = window.reached

-- the window of the next transaction of a thread, by its entry
abbrev pub window_after : List Window → Entry → Window
window_after earlier e =
    let least = reached_in (slice_get earlier (length earlier - 1)) in
    record { least = least; most = writers_before e e.ending; reached = max least e.writers }

-- the window of the transaction at a position
abbrev pub at_position : ℕ → Option (List Window) → Option Window
at_position position None = None
at_position zero (Some windows) = None
at_position (suc earlier) (Some windows) = slice_get windows earlier

-- the window of a transaction
abbrev pub window_at : List (List Window) → TransactionPlace → Option Window
window_at windows place = at_position place.1 (slice_get windows place.0)

-- the numbers from the least to the most are those that an attempt of the transaction may have seen, and the last one is the
-- least for an attempt of the next one
pub record IsWindow (entries : List Entry) (place : TransactionPlace) (window : Window) : Type 0 where
  pub least : (n : ℕ) → window.least ≤ n → IsAfterOwn entries place n
  pub not_below : (n : ℕ) → IsAfterOwn entries place n → window.least ≤ n
  pub most : (n : ℕ) → n ≤ window.most → IsBefore entries place n
  pub not_above : (n : ℕ) → IsBefore entries place n → n ≤ window.most
  pub reached : (n : ℕ) → window.reached ≤ n → IsAfterOwn entries (place.0, suc place.1) n
  pub not_reached : (n : ℕ) → IsAfterOwn entries (place.0, suc place.1) n → window.reached ≤ n

-- the windows are those of the transactions of a thread, in rising position
pub record AreOfThread (entries : List Entry) (thread : ℕ) (windows : List Window) : Type 0 where
  pub count : length windows ≡ length (positions_of thread (map (λ e. e.place) entries))
  pub each : (earlier : ℕ) (window : Window) → slice_get windows earlier ≡ Some window → IsWindow entries (thread, suc earlier) window

-- the windows of the transactions of so many threads
pub record AreWindows (threads : ℕ) (entries : List Entry) (windows : List (List Window)) : Type 0 where
  pub count : length windows ≡ threads
  pub each : (thread : ℕ) (of_thread : List Window) → slice_get windows thread ≡ Some of_thread → AreOfThread entries thread of_thread
