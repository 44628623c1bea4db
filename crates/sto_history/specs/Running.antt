-- How the view of a pass stands, while an attempt runs, to the view before the attempt.
use Rattle.std.specs.Prelude.{◌≡◌, ◌≢◌, ◌<◌, ◌+◌, ◌⊎◌, ℕ, List, [], ◌∷◌, ◌++◌}
use Rattle.sto_core.specs.declared.view.Entry.{Entry}
use Rattle.sto_core.specs.declared.view.Fate.{Fate}
use Rattle.sto_core.specs.declared.view.Fate.TheVariants.{Pending, Committed, Dropped}
use Rattle.sto_core.specs.declared.view.Phase.{Phase}
use Rattle.sto_core.specs.declared.view.Phase.TheVariants as P
use Rattle.sto_core.specs.declared.view.View.{View}
use Rattle.sto_core.specs.Lists.{Each}
use Rattle.sto_history.specs.Added.{Grows, IsKnown}

-- nothing was drawn
pub record HasNoMore (begun : View) (entries : List Entry) (draws : ℕ) : Type 0 where
  pub same : entries ≡ begun.entries
  pub left : draws ≡ begun.draws

-- one entry was added, with a ticket above all that was known, and this became of it
pub record HasOneMore (begun : View) (ticket : ℕ) (fate : Fate) (entries : List Entry) (draws : ℕ) : Type 0 where
  pub entry : Entry
  pub all : entries ≡ begun.entries ++ entry ∷ []
  pub drawn : entry.ticket ≡ ticket
  pub has : entry.fate ≡ fate
  pub since : (k : ℕ) → IsKnown begun k → k < ticket
  pub used : draws + 1 ≡ begun.draws

-- an attempt has ended: nothing was drawn, or what was drawn is decided
pub data HasSettled (begun : View) (entries : List Entry) (draws : ℕ) : Type 0 where
  Undrawn : HasNoMore begun entries draws → HasSettled begun entries draws
  Won : (ticket : ℕ) → HasOneMore begun ticket Committed entries draws → HasSettled begun entries draws
  Lost : (ticket : ℕ) → HasOneMore begun ticket Dropped entries draws → HasSettled begun entries draws

-- what was added by a phase
abbrev pub HasDrawn : View → Phase → List Entry → ℕ → Type 0
HasDrawn begun P.Idle es n = HasSettled begun es n
HasDrawn begun P.Reading es n = HasNoMore begun es n
HasDrawn begun (P.Looking r) es n = HasNoMore begun es n
HasDrawn begun P.Locking es n = HasNoMore begun es n
HasDrawn begun (P.Testing r) es n = HasNoMore begun es n
HasDrawn begun (P.Drawn t) es n = HasOneMore begun t Pending es n
HasDrawn begun (P.Won t puts) es n = HasOneMore begun t Committed es n
HasDrawn begun (P.Lost t) es n = HasOneMore begun t Dropped es n

-- the ticket that an attempt in this phase has drawn, if any, is above the number
abbrev pub HasDrawnAbove : ℕ → Phase → Type 0
HasDrawnAbove n (P.Drawn t) = n < t
HasDrawnAbove n (P.Won t puts) = n < t
HasDrawnAbove n (P.Lost t) = n < t
HasDrawnAbove n _ = Unit {0}

-- an attempt that began at the view `begun` has led to the view v
pub record IsRunning (begun v : View) : Type 0 where
  pub grows : Grows begun v
  pub starts : v.starts ≡ begun.starts + 1
  pub settled : Each (λ (e : Entry). e.fate ≢ Pending) begun.entries
  pub drawn : HasDrawn begun v.phase v.entries v.draws
  -- its ticket is above the number that it reads as of
  pub above : HasDrawnAbove v.at v.phase
  -- its words are those of the same type
  pub sizes : v.sizes ≡ begun.sizes
  pub opening : v.opening ≡ begun.opening
