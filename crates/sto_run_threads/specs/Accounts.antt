-- Which starts and commits of a pass its records account for.
use Rattle.std.specs.Prelude.{◌≡◌, ◌≤◌, ℕ, ◌+◌, ◌*◌, List, length}
use Rattle.sto_core.specs.declared.view.View.{View}
use Rattle.sto_core.specs.Rule.{total}
use Rattle.sto_history.specs.Records.{Record, times_written}
use Rattle.sto_history.specs.Counted.{times_committed}
use Rattle.sto_run_threads.specs.Plans.{Plan, Rests}

-- from the view v to the view w records were added: as many as there were starts, and those that wrote are the new committed entries
pub record AddsUp (v w : View) (rs later : List Record) : Type 0 where
  pub tickets : (t : ℕ) → times_committed t w.entries + times_written t rs ≡ times_committed t v.entries + times_written t later
  pub starts : w.starts + length rs ≡ v.starts + length later

-- a run led the pass to the view w, at rest again: so many tickets at most were drawn, and the records that were added account for it
pub record Leads (plan : Plan) (most : ℕ) (v w : View) (rs later : List Record) : Type 0 where
  pub rests : Rests plan w
  pub draws : v.draws ≤ w.draws + most
  pub adds_up : AddsUp v w rs later

-- the view has gathered passes with these views, which made these records since, and drew at most so often each
pub record HasGathered (need : ℕ) (before : List View) (v : View) (rs : List Record) : Type 0 where
  pub gathered : v.gathered ≡ total (λ u. u.gathered) before
  pub draws : total (λ u. u.draws) before ≤ v.draws + need * length before
  pub starts : v.starts ≡ total (λ u. u.starts) before + length rs
  pub tickets : (t : ℕ) → times_committed t v.entries ≡ total (λ u. times_committed t u.entries) before + times_written t rs

-- the view has gathered all passes of words with so many, it may draw so often, and its records account for all that was done on them
pub record HasAll (need passes : ℕ) (v : View) (rs : List Record) : Type 0 where
  pub gathered : v.gathered ≡ passes
  pub draws : need ≤ v.draws
  pub starts : v.starts ≡ length rs
  pub tickets : (t : ℕ) → times_written t rs ≡ times_committed t v.entries

-- what has gathered the first passes has gathered the others
abbrev pub Gathers : List View → List View → Type 0
Gathers xs ys = (need : ℕ) (v : View) (rs : List Record) → HasGathered need xs v rs → HasGathered need ys v rs
