-- Aborted attempts keep their findings as views grow.
use Rattle.std.specs.List.{All}
use Rattle.std.proofs.Common.{ℕ, ◌+◌, ◌++◌, List, [], ◌∷◌}
use Rattle.std.proofs.lemmas.List.Elements.{All-append, All-weaker, All-cons, All-nil}
use Rattle.sto_core.specs.declared.view.View.{View}
use Rattle.sto_history.specs.Records.{Record}
use Rattle.sto_history.specs.Added.{Grows}
use Rattle.sto_history.specs.Trying.{AreFound}
use Rattle.sto_history.proofs.Tries.{found_later}
use Rattle.sto_run_threads.specs.Worked.{WasFound}

pub all_found_later : (v w : View) (rs : List Record) → Grows v w → All (WasFound v) rs → All (WasFound w) rs
all_found_later v w rs g = All-weaker (WasFound v) (WasFound w) (λ r h. record { start = h.start; found = found_later v w h.start r.verdict g h.found }) rs

-- those of one start after the other
were_found : (w : View) (start : ℕ) (rs : List Record) → AreFound w start rs → All (WasFound w) rs
were_found w start [] h = All-nil (WasFound w)
were_found w start (r ∷ rs) h = All-cons (WasFound w) r rs (record { start = start; found = h.0 }) (were_found w (start + 1) rs h.1)

-- those of a run are added
pub found_more : (v w : View) (rs new : List Record) (start : ℕ) → Grows v w → All (WasFound v) rs → AreFound w start new → All (WasFound w) (rs ++ new)
found_more v w rs new start g h k = All-append (WasFound w) rs new (all_found_later v w rs g h) (were_found w start new k)

-- those of two passes are those of the pass that knows what both know
pub found_both : (v u w : View) (rs ss : List Record) → Grows v w → Grows u w → All (WasFound v) rs → All (WasFound u) ss → All (WasFound w) (rs ++ ss)
found_both v u w rs ss g f h k = All-append (WasFound w) rs ss (all_found_later v w rs g h) (all_found_later u w ss f k)
