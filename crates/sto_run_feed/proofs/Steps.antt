-- Each kind of step keeps the rule.
use Rattle.std.specs.Prelude.{slice_get, Option, Some, ◌⊎◌}
use Rattle.std.proofs.Common.{◌≡◌, ◌<◌, ◌≤◌, ◌+◌, ◌-◌, ℕ, zero, suc, List, [], ◌∷◌, ◌++◌, length, take, drop, set, refl, sym, ap, ◌∙◌, subst, arith, inl, inr}
use Rattle.std.proofs.lemmas.Option.{slice_get_within}
use mathlib.Core.Option.{some, some-injective, some-ne-none}
use lib.ListN.{get_elem?}
use Rattle.crossbeam_queue.specs.Fifo.{Pushes, Pops, Forks, Merges, Learns}
use Rattle.sto_run_feed.specs.declared.job.Job.{Job}
use Rattle.sto_run_feed.specs.declared.known.Side.{Side}
use Rattle.sto_run_feed.specs.declared.known.Side.TheVariants.{Unopened, Feeder, Worker, Joined, Spent}
use Rattle.sto_run_feed.specs.declared.known.Known.{Known}
use Rattle.sto_run_feed.specs.Queues.{unopened, feeding, working, joined, spent, AreBetween, IsUnopened, Keeps, HasSent, HasTaken, AreFew, AreNext}

-- which of one item, or of two
one : {X : Type 0} (a v : X) (i : ℕ) → get_elem? (a ∷ []) i ≡ some v → (i ≡ 0) × (a ≡ v)
one a v zero at = (refl, some-injective a v at)
one a v (suc i) at = absurd (some-ne-none v (sym at))

two : {X : Type 0} (a b v : X) (i : ℕ) → get_elem? (a ∷ b ∷ []) i ≡ some v → ((i ≡ 0) × (a ≡ v)) ⊎ ((i ≡ 1) × (b ≡ v))
two a b v zero at = inl (refl, some-injective a v at)
two a b v (suc i) at = let k = one b v i at in inr (ap suc k.0, k.1)

-- one more item behind so many
take_more : (jobs : List Job) (n : ℕ) (x : Job) → slice_get jobs n ≡ Some x → take n jobs ++ x ∷ [] ≡ take (suc n) jobs
take_more [] zero x at = absurd (cc)
take_more [] (suc n) x at = absurd (cc)
take_more (j ∷ jobs) zero x at = let e : x ≡ j = cc in ap (λ (y : Job). y ∷ []) e
take_more (j ∷ jobs) (suc n) x at = ap (λ (l : List Job). j ∷ l) (take_more jobs n x at)

get_drop : (jobs : List Job) (m n : ℕ) → slice_get (drop m jobs) n ≡ slice_get jobs (m + n)
get_drop jobs zero n = let e : n ≡ 0 + n = omega arith in ap (slice_get jobs) e
get_drop [] (suc m) zero = refl
get_drop [] (suc m) (suc n) = refl
get_drop (j ∷ jobs) (suc m) n = let e : suc (m + n) ≡ suc m + n = omega arith in get_drop jobs m n ∙ ap (slice_get (j ∷ jobs)) e

more_sent : (jobs : List Job) (sent taken : ℕ) (x : Job) → taken ≤ sent → slice_get jobs sent ≡ Some x
    → take (sent - taken) (drop taken jobs) ++ x ∷ [] ≡ take (sent + 1 - taken) (drop taken jobs)
more_sent jobs sent taken x behind at =
    let e : taken + (sent - taken) ≡ sent = omega (arith, behind) in
    let n : suc (sent - taken) ≡ sent + 1 - taken = omega (arith, behind) in
    take_more (drop taken jobs) (sent - taken) x (get_drop jobs taken (sent - taken) ∙ ap (slice_get jobs) e ∙ at)
    ∙ ap (λ (m : ℕ). take m (drop taken jobs)) n

-- the first item, and those behind it
first_taken : (jobs : List Job) (n taken : ℕ) (x : Job) (items : List Job) → x ∷ items ≡ take n (drop taken jobs)
    → (slice_get jobs taken ≡ Some x) × (items ≡ take (n - 1) (drop (suc taken) jobs)) × (1 ≤ n)
first_taken [] zero zero x items is = absurd (cc)
first_taken [] (suc n) zero x items is = absurd (cc)
first_taken [] zero (suc taken) x items is = absurd (cc)
first_taken [] (suc n) (suc taken) x items is = absurd (cc)
first_taken (j ∷ jobs) zero zero x items is = absurd (cc)
first_taken (j ∷ jobs) (suc n) zero x items is =
    let e : j ≡ x = cc in let r : items ≡ take n jobs = cc in
    let m : suc n - 1 ≡ n = omega arith in
    (ap (λ (y : Job). Some y) e, r ∙ ap (λ (k : ℕ). take k jobs) (sym m), omega arith)
first_taken (j ∷ jobs) n (suc taken) x items is = first_taken jobs n taken x items is

-- a list is no longer than it was taken
few_taken : (jobs : List Job) (n : ℕ) → length (take n jobs) ≤ n
few_taken jobs zero = omega arith
few_taken [] (suc n) = omega arith
few_taken (j ∷ jobs) (suc n) = let k = few_taken jobs n in omega (arith, k)

-- what the feeder or the worker knows is what the rule says
feeder_knows : (items : List Job) (views : List Known) (id : ℕ) (jobs : List Job) (sent : ℕ) → Keeps items views → get_elem? views id ≡ some (feeding jobs sent)
    → (taken : ℕ) × (id ≡ 0) × (views ≡ feeding jobs sent ∷ working jobs taken ∷ []) × AreBetween jobs sent taken items
feeder_knows items views id jobs sent (inl k) at =
    let e = (one unopened (feeding jobs sent) id (subst (λ (l : List Known). get_elem? l id ≡ some (feeding jobs sent)) k.known at)).1 in
    let s : Unopened ≡ Feeder = ap (λ (u : Known). u.side) e in absurd (cc)
feeder_knows items views id jobs sent (inr (inl k)) at =
    elim (two (feeding k.jobs k.sent) (working k.jobs k.taken) (feeding jobs sent) id (subst (λ (l : List Known). get_elem? l id ≡ some (feeding jobs sent)) k.known at)) [
      | inl e ↦
          let j : k.jobs ≡ jobs = ap (λ (u : Known). u.jobs) e.1 in let n : k.sent ≡ sent = ap (λ (u : Known). u.sent) e.1 in
          (k.taken, e.0, k.known ∙ (λ i. feeding (j i) (n i) ∷ working (j i) k.taken ∷ []), subst (λ (z : List Job × ℕ). AreBetween z.0 z.1 k.taken items) (λ i. (j i, n i)) k.holds)
      | inr e ↦ (let s : Worker ≡ Feeder = ap (λ (u : Known). u.side) e.1 in absurd (cc))
    ]
feeder_knows items views id jobs sent (inr (inr k)) at =
    elim (two (joined k.jobs k.sent k.taken) spent (feeding jobs sent) id (subst (λ (l : List Known). get_elem? l id ≡ some (feeding jobs sent)) k.known at)) [
      | inl e ↦ (let s : Joined ≡ Feeder = ap (λ (u : Known). u.side) e.1 in absurd (cc))
      | inr e ↦ (let s : Spent ≡ Feeder = ap (λ (u : Known). u.side) e.1 in absurd (cc))
    ]

worker_knows : (items : List Job) (views : List Known) (id : ℕ) (jobs : List Job) (taken : ℕ) → Keeps items views → get_elem? views id ≡ some (working jobs taken)
    → (sent : ℕ) × (id ≡ 1) × (views ≡ feeding jobs sent ∷ working jobs taken ∷ []) × AreBetween jobs sent taken items
worker_knows items views id jobs taken (inl k) at =
    let e = (one unopened (working jobs taken) id (subst (λ (l : List Known). get_elem? l id ≡ some (working jobs taken)) k.known at)).1 in
    let s : Unopened ≡ Worker = ap (λ (u : Known). u.side) e in absurd (cc)
worker_knows items views id jobs taken (inr (inl k)) at =
    elim (two (feeding k.jobs k.sent) (working k.jobs k.taken) (working jobs taken) id (subst (λ (l : List Known). get_elem? l id ≡ some (working jobs taken)) k.known at)) [
      | inl e ↦ (let s : Feeder ≡ Worker = ap (λ (u : Known). u.side) e.1 in absurd (cc))
      | inr e ↦
          let j : k.jobs ≡ jobs = ap (λ (u : Known). u.jobs) e.1 in let n : k.taken ≡ taken = ap (λ (u : Known). u.taken) e.1 in
          (k.sent, e.0, k.known ∙ (λ i. feeding (j i) k.sent ∷ working (j i) (n i) ∷ []), subst (λ (z : List Job × ℕ). AreBetween z.0 k.sent z.1 items) (λ i. (j i, n i)) k.holds)
    ]
worker_knows items views id jobs taken (inr (inr k)) at =
    elim (two (joined k.jobs k.sent k.taken) spent (working jobs taken) id (subst (λ (l : List Known). get_elem? l id ≡ some (working jobs taken)) k.known at)) [
      | inl e ↦ (let s : Joined ≡ Worker = ap (λ (u : Known). u.side) e.1 in absurd (cc))
      | inr e ↦ (let s : Spent ≡ Worker = ap (λ (u : Known). u.side) e.1 in absurd (cc))
    ]

unopened_knows : (items : List Job) (views : List Known) (id : ℕ) → Keeps items views → get_elem? views id ≡ some unopened → (id ≡ 0) × IsUnopened items views
unopened_knows items views id (inl k) at =
    ((one unopened unopened id (subst (λ (l : List Known). get_elem? l id ≡ some unopened) k.known at)).0, k)
unopened_knows items views id (inr (inl k)) at =
    elim (two (feeding k.jobs k.sent) (working k.jobs k.taken) unopened id (subst (λ (l : List Known). get_elem? l id ≡ some unopened) k.known at)) [
      | inl e ↦ (let s : Feeder ≡ Unopened = ap (λ (u : Known). u.side) e.1 in absurd (cc))
      | inr e ↦ (let s : Worker ≡ Unopened = ap (λ (u : Known). u.side) e.1 in absurd (cc))
    ]
unopened_knows items views id (inr (inr k)) at =
    elim (two (joined k.jobs k.sent k.taken) spent unopened id (subst (λ (l : List Known). get_elem? l id ≡ some unopened) k.known at)) [
      | inl e ↦ (let s : Joined ≡ Unopened = ap (λ (u : Known). u.side) e.1 in absurd (cc))
      | inr e ↦ (let s : Spent ≡ Unopened = ap (λ (u : Known). u.side) e.1 in absurd (cc))
    ]

pub begins : Keeps [] (unopened ∷ [])
begins = inl (record { empty = refl; known = refl })

pub opens : (id : ℕ) (jobs : List Job) → Forks Keeps id unopened (feeding jobs 0) (working jobs 0)
opens id jobs items views k at =
    let u = unopened_knows items views id k at in
    inr (inl (record {
      jobs = jobs;
      sent = 0;
      taken = 0;
      known = λ i. set (u.1.known i) (u.0 i) (feeding jobs 0) ++ working jobs 0 ∷ [];
      holds = record { behind = omega arith; within = omega arith; held = u.1.empty };
    }))

pub sends : (n id : ℕ) (jobs : List Job) (sent : ℕ) (x : Job) → slice_get jobs sent ≡ Some x → Pushes Keeps n id (feeding jobs sent) x (HasSent (feeding jobs sent) x)
sends n id jobs sent x at items views room k here =
    let f = feeder_knows items views id jobs sent k here in let b = f.3 in (
      feeding jobs (sent + 1),
      inr (inl (record {
        jobs = jobs;
        sent = sent + 1;
        taken = f.0;
        known = λ i. set (f.2 i) (f.1 i) (feeding jobs (sent + 1));
        holds = record {
          behind = (let l = b.behind in omega (arith, l));
          within = (let l = slice_get_within jobs sent x at in omega (arith, l));
          held = ap (λ (l : List Job). l ++ x ∷ []) b.held ∙ more_sent jobs sent f.0 x b.behind at;
        };
      })),
      refl,
    )

pub is_few : (id : ℕ) (jobs : List Job) (sent : ℕ) → Learns Keeps id (feeding jobs sent) (AreFew (feeding jobs sent))
is_few id jobs sent items views k here =
    let f = feeder_knows items views id jobs sent k here in let b = f.3 in
    let l = ap length b.held in let few = few_taken (drop f.0 jobs) (sent - f.0) in omega (arith, l, few)

pub takes : (id : ℕ) (jobs : List Job) (taken : ℕ) → Pops Keeps id (working jobs taken) (HasTaken (working jobs taken))
takes id jobs taken x items views k here =
    let f = worker_knows (x ∷ items) views id jobs taken k here in let b = f.3 in
    let p = first_taken jobs (f.0 - taken) taken x items b.held in (
      working jobs (taken + 1),
      inr (inl (record {
        jobs = jobs;
        sent = f.0;
        taken = taken + 1;
        known = λ i. set (f.2 i) (f.1 i) (working jobs (taken + 1));
        holds = record {
          behind = (let some' = p.2 in omega (arith, some'));
          within = b.within;
          held = p.1 ∙ (let e : f.0 - taken - 1 ≡ f.0 - (taken + 1) = omega arith in let d : suc taken ≡ taken + 1 = omega arith in λ i. take (e i) (drop (d i) jobs));
        };
      })),
      (p.0, refl),
    )

pub is_next : (id : ℕ) (jobs : List Job) (taken : ℕ) → Learns Keeps id (working jobs taken) (AreNext (working jobs taken))
is_next id jobs taken items views k here = let f = worker_knows items views id jobs taken k here in (f.0, f.3)

pub joins : (id other : ℕ) (jobs : List Job) (sent : ℕ) (more : List Job) (taken : ℕ)
    → Merges Keeps id (feeding jobs sent) other (working more taken) (joined jobs sent taken) spent
joins id other jobs sent more taken items views k here apart there =
    let f = feeder_knows items views id jobs sent k here in
    let now : set views id (joined jobs sent taken) ≡ joined jobs sent taken ∷ working jobs f.0 ∷ [] = λ i. set (f.2 i) (f.1 i) (joined jobs sent taken) in
    elim (two (joined jobs sent taken) (working jobs f.0) (working more taken) other (subst (λ (l : List Known). get_elem? l other ≡ some (working more taken)) now there)) [
      | inl e ↦ (let s : Joined ≡ Worker = ap (λ (u : Known). u.side) e.1 in absurd (cc))
      | inr e ↦
          let n : f.0 ≡ taken = ap (λ (u : Known). u.taken) e.1 in
          inr (inr (record {
            jobs = jobs;
            sent = sent;
            taken = taken;
            known = λ i. set (now i) (e.0 i) spent;
            holds = subst (λ (m : ℕ). AreBetween jobs sent m items) n f.3;
          }))
    ]

pub sends_as : (n id : ℕ) (v : Known) (x : Job) → v ≡ feeding v.jobs v.sent → slice_get v.jobs v.sent ≡ Some x → Pushes Keeps n id v x (HasSent v x)
sends_as n id v x is at = subst (λ (u : Known). Pushes Keeps n id u x (HasSent u x)) (sym is) (sends n id v.jobs v.sent x at)

pub is_few_as : (id : ℕ) (v : Known) → v ≡ feeding v.jobs v.sent → Learns Keeps id v (AreFew v)
is_few_as id v is = subst (λ (u : Known). Learns Keeps id u (AreFew u)) (sym is) (is_few id v.jobs v.sent)

pub takes_as : (id : ℕ) (v : Known) → v ≡ working v.jobs v.taken → Pops Keeps id v (HasTaken v)
takes_as id v is = subst (λ (u : Known). Pops Keeps id u (HasTaken u)) (sym is) (takes id v.jobs v.taken)

pub is_next_as : (id : ℕ) (v : Known) → v ≡ working v.jobs v.taken → Learns Keeps id v (AreNext v)
is_next_as id v is = subst (λ (u : Known). Learns Keeps id u (AreNext u)) (sym is) (is_next id v.jobs v.taken)
