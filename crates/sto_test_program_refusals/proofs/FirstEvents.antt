-- The first event of a pass is a start, which changes no word.
use Rattle.std.proofs.Common.{◌≡◌, ℕ, suc, List, refl, sym, ap, ◌∙◌, subst, true, false}
use Rattle.sto_core.specs.declared.view.Phase.{Phase}
use Rattle.sto_core.specs.declared.view.Phase.TheVariants.{Idle, Reading, Locking, Drawn}
use Rattle.sto_core.specs.declared.view.View.{View}
use Rattle.sto_core.specs.History.{Contents, Validity}
use Rattle.sto_core.specs.Event.{Event, Start, Open, Word, Close, Renew, Recheck, Lock, Test, Draw, Check, Decide, Put, Release, Unlock}
use Rattle.sto_core.specs.Allowed.{Allowed, MayRead, MayClose, MayLock, MayPut, MayRelease, MayUnlock, IsDrawn}
use Rattle.sto_core.specs.Core.{Core}
use Rattle.sto_core.specs.Opened.{opened_core}
use Rattle.sto_plain.specs.Passes.{view_of, stepped}
use Rattle.sto_run_steps.specs.Turning.{AStep}

not_reading : (p : Phase) → p ≡ Idle → p ≡ Reading → ⊥
not_reading p idle reading = let e : Idle ≡ Reading = sym idle ∙ reading in absurd cc

not_locking : (p : Phase) → p ≡ Idle → p ≡ Locking → ⊥
not_locking p idle locking = let e : Idle ≡ Locking = sym idle ∙ locking in absurd cc

not_drawn : (p : Phase) → p ≡ Idle → IsDrawn p → ⊥
not_drawn p idle drawn = let e : Idle ≡ Drawn drawn.0 = sym idle ∙ drawn.1 in absurd cc

-- an idle pass may only start
pub is_start : (valid : Validity) (e : Event) (v : View) → v.phase ≡ Idle → Allowed valid e v → e ≡ Start
is_start valid Start v idle may = refl
is_start valid (Open p) v idle may = absurd (not_reading v.phase idle may.0)
is_start valid (Word p i) v idle may = absurd (subst (MayRead v p) idle may.0)
is_start valid (Close p) v idle may = absurd (subst (MayClose v p) idle may.0)
is_start valid Renew v idle may = absurd (not_reading v.phase idle may)
is_start valid (Recheck p) v idle may = absurd (not_reading v.phase idle may.0)
is_start valid (Lock p) v idle may = absurd (subst (MayLock v p) idle may.0)
is_start valid (Test p) v idle may = absurd (not_locking v.phase idle may.0)
is_start valid (Draw us seen loaded) v idle may = absurd (not_locking v.phase idle may.phase)
is_start valid (Check p) v idle may = absurd (not_drawn v.phase idle may.0)
is_start valid (Decide true) v idle may = absurd (not_drawn v.phase idle may.0)
is_start valid (Decide false) v idle may = absurd (not_drawn v.phase idle may)
is_start valid (Put p i x) v idle may = absurd (subst (MayPut p i x v) idle may)
is_start valid (Release p) v idle may = absurd (subst (MayRelease p v) idle may)
is_start valid (Unlock p) v idle may = absurd (subst (MayUnlock p v) idle may)

-- so the words after it are those of a start
starts : (valid : Validity) (c : Core) (pass : ℕ) (d : Core) → (view_of c pass).phase ≡ Idle → AStep valid c pass d → d ≡ stepped Start c pass
starts valid c pass d idle s =
    s.steps.core ∙ ap (λ (e : Event). stepped e c pass) (is_start valid s.event (view_of c pass) idle s.steps.tells.allowed)

module _ (valid : Validity) (sizes : List ℕ) (opening : Contents) (many : ℕ) (d : Core) (s : AStep valid (opened_core sizes opening (suc many)) 0 d) where
  pub clock_same : d.clock ≡ 0
  clock_same = ap (λ (c : Core). c.clock) (starts valid (opened_core sizes opening (suc many)) 0 d refl s)

  pub parts_same : d.parts ≡ (opened_core sizes opening (suc many)).parts
  parts_same = ap (λ (c : Core). c.parts) (starts valid (opened_core sizes opening (suc many)) 0 d refl s)
