-- Two teams that served different queues are gathered into one.
use Rattle.std.specs.Prelude.{◌%◌, nat_eq}
use Rattle.std.proofs.Common.{◌≡◌, ℕ, zero, suc, ◌+◌, ◌<◌, ◌≤◌, List, [], ◌∷◌, ◌++◌, map, take, drop, refl, sym, ap, ap₂, ◌∙◌, subst, arith, append_assoc, length, inl, inr, eq-eqb, ne_eqb}
use Rattle.std.proofs.lemmas.Bool.{cases_eq}
use Rattle.std.proofs.lemmas.List.{map-append, take-append-drop}
use Rattle.std.proofs.lemmas.List.Elements.{All-append}
use Rattle.sto_part.specs.declared.naming.Naming as naming
use Rattle.sto_run_feed.specs.declared.job.Job.{Job}
use Rattle.sto_run_feed.specs.declared.pass.JobQueue.{JobQueue}
use Rattle.sto_run_feed.specs.Passes.{known}
use Rattle.sto_core.specs.declared.view.View.{View}
use Rattle.sto_core.specs.Lists.{weight}
use Rattle.sto_table.specs.Taken.{times}
use Rattle.sto_run_threads.specs.Orders.{numbers_from}
use Rattle.sto_table.specs.declared.shared.Shared.{Shared}
use Rattle.sto_run_threads.specs.Records.{Record}
use Rattle.sto_run_threads.specs.Plans.{Plan, Rests}
use Rattle.sto_run_threads.specs.Told.{told_in}
use Rattle.sto_run_threads.specs.Teams.{view_at}
use Rattle.sto_run_threads.specs.Worked.{HasWorked, AbortsNone}
use Rattle.sto_transaction.proofs.Resting.{gathered_rests}
use Rattle.sto_run_threads.proofs.Joined.{times_append, either_list, gathered_apart, none_both}
use Rattle.sto_run_feed.specs.QueuePasses.{HaveTaken}
use Rattle.sto_run_feed.specs.Served.{HaveServed, AreFrom, AreApart, IsServed, IsOfBoth, numbers_of, jobs_in}
use Rattle.sto_run_feed.specs.declared.server.QueueWorker.{QueueWorker}
use Rattle.sto_run_feed.specs.declared.server.ServingTeam.{ServingTeam}
use Rattle.sto_run_feed.proofs.Passes.{taken_both}

served_both : (tries : ℕ) (js ks : List (List Job)) (rs ss : List Record) → HaveServed tries js rs → HaveServed tries ks ss → HaveServed tries (js ++ ks) (rs ++ ss)
served_both tries [] ks rs ss h k = subst (λ (l : List Record). HaveServed tries ks (l ++ ss)) (sym h) k
served_both tries (j ∷ js) ks rs ss h k =
    (h.0, h.1 ++ ss, ap (λ (l : List Record). l ++ ss) h.2 ∙ append_assoc h.0 h.1 ss, h.3, served_both tries js ks h.1 ss h.4 k)

from_both : (queues : ℕ) (xs ys : List ℕ) (rs ss : List Record) → AreFrom queues xs rs → AreFrom queues ys ss → AreFrom queues (xs ++ ys) (rs ++ ss)
from_both queues xs ys rs ss h k thread none =
    let both = times_append (thread % queues) xs ys in
    All-append (λ (r : Record). r.place.0 ≡ thread → ⊥) rs ss (h thread (omega (arith, both, none))) (k thread (omega (arith, both, none)))

-- the items of a list by halves
pub halves : {X Y : Type 0} (f : X → Y) (all : List X) (half : ℕ) (front back : List X) → front ≡ take half all → back ≡ drop half all → map f front ++ map f back ≡ map f all
halves f all half front back first other =
    sym (map-append f front back) ∙ ap₂ (λ (x y : List _). map f (x ++ y)) first other ∙ ap (map f) (take-append-drop half all)

module _ {T : Type 0} {n : naming.Ghosts T} (s : Shared T) (queues : List JobQueue) (plan : Plan) where
  both_served : (xs ys : List ℕ) (js ks : List (List Job)) (a b r : ServingTeam T n) → ((x : ℕ) → times x (xs ++ ys) ≤ 1)
      → IsServed s queues plan xs js a → IsServed s queues plan ys ks b → IsOfBoth s a b r → IsServed s queues plan (xs ++ ys) (js ++ ks) r
  both_served xs ys js ks a b r once h k both =
      let rs = told_in a.records in let ss = told_in b.records in record {
        made = record {
          of = both.of;
          rests = subst (Rests plan) (sym both.view) (gathered_rests plan.meaning plan.sizes (view_at a.rest) (view_at b.rest) h.made.rests k.made.rests);
          worked = subst (HasWorked plan (view_at r.rest)) (sym both.records) (subst (λ (v : View). HasWorked plan v (rs ++ ss)) (sym both.view)
              (gathered_apart plan (view_at a.rest) (view_at b.rest) rs ss
              (λ thread. elim (either_list xs ys (λ x. (let e = times_append x xs ys in let o = once x in omega (arith, e, o))) (thread % length queues)) [
                | inl none ↦ inl (h.own thread none)
                | inr none ↦ inr (k.own thread none)
              ]) h.made.worked k.made.worked));
        };
        own = subst (AreFrom (length queues) (xs ++ ys)) (sym both.records) (from_both (length queues) xs ys rs ss h.own k.own);
        alone = λ one. subst (AbortsNone []) (sym both.records) (none_both rs ss (h.alone one) (k.alone one));
        taken = subst (HaveTaken queues (xs ++ ys) (js ++ ks)) (sym both.workers) (taken_both queues xs ys js ks a.workers.items b.workers.items h.taken k.taken);
        served = subst (HaveServed plan.tries (js ++ ks)) (sym both.records) (served_both plan.tries js ks rs ss h.served k.served);
      }

  pub halves_served : (all : List (QueueWorker T n)) (half : ℕ) (front back : List (QueueWorker T n)) (a b r : ServingTeam T n)
      → front ≡ take half all → back ≡ drop half all → AreApart all → IsServed s queues plan (numbers_of front) (jobs_in front) a
      → IsServed s queues plan (numbers_of back) (jobs_in back) b → IsOfBoth s a b r → IsServed s queues plan (numbers_of all) (jobs_in all) r
  halves_served all half front back a b r first other once h k both =
      let numbers = halves (λ (w : QueueWorker T n). w.number) all half front back first other in
      let jobs = halves (λ (w : QueueWorker T n). (known w.worker).jobs) all half front back first other in
      subst (λ (l : List ℕ). IsServed s queues plan l (jobs_in all) r) numbers
      (subst (λ (l : List (List Job)). IsServed s queues plan (numbers_of front ++ numbers_of back) l r) jobs
      (both_served (numbers_of front) (numbers_of back) (jobs_in front) (jobs_in back) a b r (subst (λ (l : List ℕ). (x : ℕ) → times x l ≤ 1) (sym numbers) once) h k both))

-- of the halves each has a number once at most
pub once_in_halves : {X : Type 0} (number : X → ℕ) (all : List X) (half : ℕ) (front back : List X) → front ≡ take half all → back ≡ drop half all → ((x : ℕ) → times x (map number all) ≤ 1)
    → ((x : ℕ) → times x (map number front) ≤ 1) × ((x : ℕ) → times x (map number back) ≤ 1)
once_in_halves number all half front back first other once =
    let numbers = halves number all half front back first other in (
      λ x. (let e = times_append x (map number front) (map number back) in let f = ap (times x) numbers in let o = once x in omega (arith, e, f, o)),
      λ x. (let e = times_append x (map number front) (map number back) in let f = ap (times x) numbers in let o = once x in omega (arith, e, f, o)),
    )

none_below : (x first count : ℕ) → x < first → times x (numbers_from first count) ≡ 0
none_below x first zero l = refl
none_below x first (suc count) l =
    let e : weight (nat_eq x first) ≡ 0 = ap weight (ne_eqb x first (λ is. absurd (omega (arith, is, l)))) in
    let k = none_below x (suc first) count (omega (arith, l)) in omega (arith, e, k)

pub numbers_once : (x first count : ℕ) → times x (numbers_from first count) ≤ 1
numbers_once x first zero = omega arith
numbers_once x first (suc count) = elim (cases_eq x first) [
  | inl same ↦
      (let e : weight (nat_eq x first) ≡ 1 = ap weight (eq-eqb x first same) in let k = none_below x (suc first) count (omega (arith, same)) in omega (arith, e, k))
  | inr other ↦
      (let e : weight (nat_eq x first) ≡ 0 = ap weight (ne_eqb x first other) in let k = numbers_once x (suc first) count in omega (arith, e, k))
]
