-- Two teams are gathered into one, and a pass that has worked comes to rest.
use Rattle.std.proofs.Common.{◌≡◌, ℕ, ◌+◌, ◌≤◌, List, [], ◌++◌, sym, ap, subst, arith}
use Rattle.atomic_table.specs.declared.shared.Seat.{Seat}
use Rattle.sto_part.specs.declared.naming.Naming as naming
use Rattle.sto_core.specs.declared.view.View.{View}
use Rattle.sto_core.specs.Gathered.{gathered_into}
use Rattle.sto_table.specs.declared.stance.Stance.{Stance}
use Rattle.sto_table.specs.declared.shared.Shared.{Shared}
use Rattle.sto_table.specs.declared.shared.Rest.{Rest}
use Rattle.sto_table.specs.Rests.{IsOf}
use Rattle.sto_table.specs.declared.taken.Taken.{Taken}
use Rattle.sto_table.specs.declared.numbers.Claims.{Claims}
use Rattle.sto_table.specs.Taken.{times, both}
use Rattle.sto_history.specs.Records.{Record}
use Rattle.sto_run_threads.specs.Plans.{Plan, Rests}
use Rattle.sto_run_threads.specs.Told.{told_in}
use Rattle.sto_run_threads.specs.Worked.{HasWorked, AreOf, AreDone, AbortsNone}
use Rattle.sto_run_threads.specs.Teams.{HasMade, HasFinished, view_at}
use Rattle.sto_run_threads.specs.declared.worker.Team.{Team}
use Rattle.sto_transaction.proofs.Resting.{gathered_rests}
use Rattle.sto_run_threads.proofs.Joined.{times_append, gathered_worked, gathered_of, none_both}
use Rattle.sto_run_threads.proofs.Claiming.{done_both}

pub made_at : {T : Type 0} {n : naming.Ghosts T} (s : Shared T) (plan : Plan) (rest : Rest T n) (seat : Seat (Unit {0}) Stance) (rs : List Record)
    → rest.seat ≡ seat → IsOf s seat → Rests plan seat.me.0.view → HasWorked plan seat.me.0.view rs → HasMade s plan rest rs
made_at s plan rest seat rs is of rests worked = record {
  of = subst (IsOf s) (sym is) of;
  rests = subst (λ (x : Seat (Unit {0}) Stance). Rests plan x.me.0.view) (sym is) rests;
  worked = subst (λ (x : Seat (Unit {0}) Stance). HasWorked plan x.me.0.view rs) (sym is) worked;
}

pub both_finished : {T : Type 0} {n : naming.Ghosts T} (s : Shared T) (claims : Claims) (plan : Plan) (a b r : Team T n)
    → HasFinished s claims plan a → HasFinished s claims plan b → IsOf s r.rest.seat → view_at r.rest ≡ gathered_into (view_at a.rest) (view_at b.rest)
    → r.claimer.seat.table_id ≡ claims.table.shared.table_id → r.claimer.seat.me.0 ≡ both a.claimer.seat.me.0 b.claimer.seat.me.0
    → ((x : ℕ) → times x a.claimer.seat.me.0.numbers + times x b.claimer.seat.me.0.numbers ≤ 1)
    → told_in r.records ≡ told_in a.records ++ told_in b.records → HasFinished s claims plan r
both_finished s claims plan a b r h k of view claimer numbers apart whole =
    let rs = told_in a.records in let ss = told_in b.records in
    let xs = a.claimer.seat.me.0.numbers in let ys = b.claimer.seat.me.0.numbers in
    let new : r.claimer.seat.me.0.numbers ≡ xs ++ ys = ap (λ (t : Taken). t.numbers) numbers in record {
      made = record {
        of = of;
        rests = subst (Rests plan) (sym view) (gathered_rests plan.meaning plan.sizes (view_at a.rest) (view_at b.rest) h.made.rests k.made.rests);
        worked = subst (λ (v : View). HasWorked plan v (told_in r.records)) (sym view) (subst (HasWorked plan (gathered_into (view_at a.rest) (view_at b.rest))) (sym whole)
            (gathered_worked plan (view_at a.rest) (view_at b.rest) xs ys rs ss apart h.own k.own h.made.worked k.made.worked));
      };
      claimer = claimer;
      own = subst (AreOf r.claimer.seat.me.0.numbers) (sym whole) (subst (λ (l : List ℕ). AreOf l (rs ++ ss)) (sym new) (gathered_of xs ys rs ss h.own k.own));
      done = subst (AreDone plan r.claimer.seat.me.0.numbers) (sym whole)
          (subst (λ (l : List ℕ). AreDone plan l (rs ++ ss)) (sym new) (done_both plan xs ys rs ss apart h.own k.own h.done k.done));
      alone = λ one. subst (AbortsNone []) (sym whole) (none_both rs ss (h.alone one) (k.alone one));
      last = h.last;
      past = h.past;
      found = subst (λ (l : List ℕ). 1 ≤ times h.last l) (sym new) (let e = times_append h.last xs ys in let f = h.found in omega (arith, e, f));
    }
