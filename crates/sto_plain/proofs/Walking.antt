-- One event of a pass leaves the other passes as they were.
use Rattle.std.specs.Prelude.{slice_set}
use Rattle.std.proofs.Common.{◌≡◌, ◌≢◌, ℕ, ℤ, List, [], ◌∷◌, length, get_or, set, get_or-set_other, length-set, refl, ap, ◌∙◌}
use Rattle.sto_core.specs.declared.view.View.{View}
use Rattle.sto_core.specs.Core.{Core, statuses_after, status_word, view_after}
use Rattle.sto_core.specs.Views.{own_ticket}
use Rattle.sto_core.specs.Gathered.{spent_view}
use Rattle.sto_core.specs.Event.{Event, Start, Open, Word, Close, Renew, Recheck, Lock, Test, Draw, Check, Decide, Put, Release, Unlock}
use Rattle.sto_core.specs.History.{Validity}
use Rattle.sto_plain.specs.Passes.{view_of, stepped, IsSame, IsOn, Steps}

as_many : (e : Event) (v : View) (statuses : List ℕ) → length (statuses_after e v statuses) ≡ length statuses
as_many Start v statuses = refl
as_many (Open p) v statuses = refl
as_many (Word p i) v statuses = refl
as_many (Close p) v statuses = refl
as_many Renew v statuses = refl
as_many (Recheck p) v statuses = refl
as_many (Lock p) v statuses = refl
as_many (Test p) v statuses = refl
as_many (Draw us seen loaded) v statuses = refl
as_many (Check p) v statuses = refl
as_many (Decide commit) v statuses = length-set statuses v.number (status_word commit (own_ticket v.phase))
as_many (Put p i x) v statuses = refl
as_many (Release p) v statuses = refl
as_many (Unlock p) v statuses = refl

-- so it is on the same pass, and has led on
pub on_by : (valid : Validity) (e : Event) (c : Core) (pass n : ℕ) (x : ℤ) (d : Core) → Steps valid e c pass n x d → IsOn valid c pass d pass
on_by valid e c pass n x d steps = (
  (
    refl,
    ap (λ (k : Core). length k.statuses) steps.core ∙ as_many e (view_of c pass) c.statuses,
    ap (λ (k : Core). length k.views) steps.core ∙ length-set c.views pass (view_after e c (view_of c pass)),
    λ other ne. ap (λ (k : Core). view_of k other) steps.core ∙ get_or-set_other c.views pass other (view_after e c (view_of c pass)) spent_view ne,
  ),
  record { events = e ∷ []; walk = (n, x, d, steps, refl) },
)
