-- Workers on the words of a table, before and after their work.
use Rattle.std.specs.Prelude.{◌≡◌, ◌≤◌, ℕ, ◌+◌, List, [], ◌++◌, length, map, sum_by}
use Rattle.sto_part.specs.declared.naming.Naming as naming
use Rattle.sto_core.specs.declared.view.View.{View}
use Rattle.sto_core.specs.Gathered.{gathered_into}
use Rattle.sto_table.specs.declared.shared.Shared.{Shared}
use Rattle.sto_table.specs.declared.shared.Rest.{Rest}
use Rattle.sto_table.specs.Rests.{IsOf}
use Rattle.sto_table.specs.declared.numbers.Claims.{Claims}
use Rattle.sto_table.specs.declared.numbers.Claimer.{Claimer}
use Rattle.sto_table.specs.Taken.{taken, times}
use Rattle.sto_history.specs.Records.{Record}
use Rattle.sto_run_threads.specs.Plans.{Plan, Rests, MayDraw, draws_of, IsPaced}
use Rattle.sto_run_threads.specs.Accounts.{HasGathered}
use Rattle.sto_run_threads.specs.Told.{told_in}
use Rattle.sto_run_threads.specs.Worked.{HasWorked, AreOf, AreDone, AbortsNone}
use Rattle.sto_run_threads.specs.Ordered.{RanInTurn}
use Rattle.sto_run_threads.specs.declared.worker.ScriptWorker.{ScriptWorker}
use Rattle.sto_run_threads.specs.declared.worker.Team.{Team}
use Rattle.sto_run_threads.specs.declared.all.Worked.{Worked}

-- a claimer of these numbers which has found none yet
abbrev pub IsNew : Claims → Claimer → Type 0
IsNew claims c = (c.seat.table_id ≡ claims.table.shared.table_id) × (c.seat.me.0 ≡ taken [] 1)

module _ {T : Type 0} {n : naming.Ghosts T} where
  -- what a pass at rest knows
  abbrev pub view_at : Rest T n → View
  view_at rest = rest.seat.me.0.view

  -- what the passes of workers know, and how many seats their claimers have
  abbrev pub views_of : List (ScriptWorker T n) → List View
  views_of workers = map (λ w. view_at w.rest) workers

  abbrev pub seats_of : List (ScriptWorker T n) → ℕ
  seats_of workers = sum_by (λ w. w.claimer.seat.me.0.seats) workers

  -- a pass at rest of these words, which may draw a ticket for each try of each transaction, and has kept its pace
  pub record IsReady (s : Shared T) (plan : Plan) (rest : Rest T n) : Type 0 where
    pub of : IsOf s rest.seat
    pub free : MayDraw plan (draws_of plan) (view_at rest)
    pub paced : IsPaced plan (view_at rest)

  -- the same, with a claimer of these numbers which has found none yet
  pub record IsHired (s : Shared T) (claims : Claims) (plan : Plan) (w : ScriptWorker T n) : Type 0 where
    pub ready : IsReady s plan w.rest
    pub new : IsNew claims w.claimer

  -- a pass of these words is at rest, and the records are told of its view
  pub record HasMade (s : Shared T) (plan : Plan) (rest : Rest T n) (rs : List Record) : Type 0 where
    pub of : IsOf s rest.seat
    pub rests : Rests plan (view_at rest)
    pub worked : HasWorked plan (view_at rest) rs

  -- they have run all threads that they claimed
  pub record HasFinished (s : Shared T) (claims : Claims) (plan : Plan) (team : Team T n) : Type 0 where
    pub made : HasMade s plan team.rest (told_in team.records)
    pub claimer : team.claimer.seat.table_id ≡ claims.table.shared.table_id
    pub own : AreOf team.claimer.seat.me.0.numbers (told_in team.records)
    pub done : AreDone plan team.claimer.seat.me.0.numbers (told_in team.records)
    -- beside no other pass no attempt was aborted
    pub alone : s.table.shared.key.passes ≡ 1 → AbortsNone [] (told_in team.records)
    -- a number past all threads was found
    pub last : ℕ
    pub past : length plan.file.threads ≤ last
    pub found : 1 ≤ times last team.claimer.seat.me.0.numbers

  -- two teams were gathered into one
  pub record IsOfBoth (s : Shared T) (claims : Claims) (plan : Plan) (first other team : Team T n) : Type 0 where
    pub finished : HasFinished s claims plan team
    pub view : view_at team.rest ≡ gathered_into (view_at first.rest) (view_at other.rest)
    pub records : told_in team.records ≡ told_in first.records ++ told_in other.records
    pub seats : team.claimer.seat.me.0.seats ≡ first.claimer.seat.me.0.seats + other.claimer.seat.me.0.seats

  -- these workers have finished, and were gathered into the team
  pub record IsTeamOf (s : Shared T) (claims : Claims) (plan : Plan) (workers : List (ScriptWorker T n)) (team : Team T n) : Type 0 where
    pub finished : HasFinished s claims plan team
    pub gathered : HasGathered (draws_of plan) (views_of workers) (view_at team.rest) (told_in team.records)
    pub seats : team.claimer.seat.me.0.seats ≡ seats_of workers
    -- one worker runs all in rising thread and then position
    pub in_turn : length workers ≡ 1 → RanInTurn plan (told_in team.records)

  -- all workers on these words, whose passes knew this before, were gathered
  pub record HaveWorked (s : Shared T) (plan : Plan) (before : List View) (all : Worked T n) : Type 0 where
    pub made : HasMade s plan all.rest (told_in all.records)
    pub gathered : HasGathered (draws_of plan) before (view_at all.rest) (told_in all.records)
    -- beside no other pass no attempt was aborted
    pub alone : s.table.shared.key.passes ≡ 1 → AbortsNone [] (told_in all.records)
