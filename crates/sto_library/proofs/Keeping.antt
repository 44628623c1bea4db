-- Tasks whose code keeps an invariant, up to the rows at the end.
use Rattle.std.specs.List.{All, AllByRecursion, AllZip}
use Rattle.std.specs.Prelude.{Option, IfSome}
use Rattle.std.proofs.Common.{◌≡◌, ◌++◌, ℕ, zero, suc, List, [], ◌∷◌, map, reverse, sym, ap, ◌∙◌, subst, Some, None, Result, Ok, Err}
use mathlib.Core.List.{reverse_aux}
use mathlib.Core.Option.{some-injective, some-ne-none}
use Rattle.std.proofs.lemmas.List.Elements.{All-head, All-tail, All-weaker}
use Rattle.std.proofs.lemmas.List.Sorted.{All-permutation, IsPermutation-sym, IsPermutation-reverse}
use Rattle.either.specs.declared.Either.{Either}
use Rattle.either.specs.declared.Either.TheVariants.{Left, Right}
use Rattle.either.specs.Either.{IsLeftAnd, IsRightAnd}
use Rattle.sto_model.specs.SequentialObjects.{SequentialObject, opening_of}
use Rattle.sto_model.specs.Objects.{machines_of}
use Rattle.sto_model.specs.Rows.{AllRise}
use Rattle.sto_model.specs.Run.{State, IsRun, state_along}
use Rattle.sto_model.specs.declared.shape.Shape.{Shape}
use Rattle.sto_model.proofs.Maps.{opening-rises}
use Rattle.sto_type.specs.Traits.{OfType}
use Rattle.sto_type.specs.Meaning.{Meaning}
use Rattle.sto_core.specs.declared.view.View.{View}
use Rattle.sto_core.specs.Lists.{Among}
use Rattle.sto_history.specs.History.{Transaction}
use Rattle.sto_history.specs.Done.{HasDone, HaveHistory}
use Rattle.sto_history.specs.Keeping.{KeepsState, RanWithin, HasKept, IsKeeping, HaveKept}
use Rattle.sto_history.proofs.Keeping.{new_kept, kept_on, one_kept, none_kept, others_kept, first_all, second_all, kept_by_all}
use Rattle.sto_action.specs.Shortened.{short_of}
use Rattle.sto_action.specs.Progs.{Prog, IsGiven, IsCancelled}
use Rattle.sto_action.specs.Alone.{run_of, reason_of}
use Rattle.sto_action.proofs.Alone.{run_gives, run_cancels, run_commits}
use Rattle.sto_shared_store.specs.declared.store.Store.{Store as Words}
use Rattle.sto_action.specs.declared.outcome.Done.{Done}
use Rattle.sto_action.specs.declared.outcome.Done.TheVariants.{Gave, Cancelled}
use Rattle.sto_action.specs.declared.outcome.TransactionError.{TransactionError}
use Rattle.sto_action.specs.Atomic.{steps_of}
use Rattle.sto_library.specs.Values.{Working, Stored}
use Rattle.sto_library.specs.Tasks.{IsDone, TaskDone, tasks_of, outs_of, views_before, views_after, AreAllDone}
use Rattle.sto_library.specs.Doings.{HasRunOnly, IsLedBy, HasGiven}
use Rattle.sto_library.specs.Keeping.{Keeps, Excuses, IsKept, IfGave, IfTold}
use Rattle.sto_library.proofs.Doings.{RanSome}
use Rattle.sto_library.proofs.Rising.{run_rises}

-- one of a list of which all are so
all_among : {X : Type 0} (P : X → Type 0) (xs : List X) (x : X) → Among x xs → All P xs → P x
all_among P [] x h all = absurd (some-ne-none x (sym h.1))
all_among P (y ∷ xs) x (zero, e) all = subst P (some-injective y x e) (All-head P y xs all)
all_among P (y ∷ xs) x (suc j, e) all = all_among P xs x (j, e) (All-tail P y xs all)

-- the keys of each object rise, as in all states of a store, and the invariant holds
pub record HoldsRising (Inv : State → Type 0) (state : State) : Type 0 where
  pub rises : AllRise state
  pub holds : Inv state

-- the same as `Keeps`, of sequential objects, for an invariant that says itself that the keys rise
abbrev KeepsAlone : {E A : Type 0} → List SequentialObject → (State → Type 0) → (A → Type 0) → Prog E A → Type 0
KeepsAlone ms Inv Good p = (st : State) → Inv st → IfSome (run_of ms p st) (IsKept Inv Good)

rises_too : {A : Type 0} (Inv : State → Type 0) (Good : A → Type 0) (o : Option (A × State)) → IfSome o (λ r. AllRise r.1) → IfSome o (IsKept Inv Good) → IfSome o (IsKept (HoldsRising Inv) Good)
rises_too Inv Good None h k = tt
rises_too Inv Good (Some r) h k = (k.0, record { rises = h; holds = k.1 })

alone_on : {E A : Type 0} (ms : List SequentialObject) (Inv : State → Type 0) (Good : A → Type 0) (shapes : List Shape) (p : Prog E A) → ms ≡ machines_of shapes → Keeps shapes Inv Good p
    → KeepsAlone ms (HoldsRising Inv) Good p
alone_on ms Inv Good shapes p same law =
    subst (λ (l : List SequentialObject). KeepsAlone l (HoldsRising Inv) Good p) (sym same)
    (λ st h. rises_too Inv Good (run_of (machines_of shapes) p st) (run_rises shapes p st h.rises) (law st h.rises h.holds))

module _ {E A : Type 0} (ms : List SequentialObject) (Inv : State → Type 0) (Good : A → Type 0) (shapes : List Shape) (most : ℕ) (p : Prog E A) (law : KeepsAlone ms Inv Good p) where
  -- what it gives on a state with the invariant
  gives_on : (t : Transaction) → t.steps ≡ steps_of shapes most p → (st : State) (a : A) → Inv st → IsRun ms t.steps st t.replies → IsGiven p (map short_of t.replies) a
      → Good a × Inv (state_along ms t.steps st t.replies)
  gives_on t is st a inv run gave =
      let own = subst (λ f. IsRun ms f st t.replies) is run in
      let end = subst (λ (r : Option (A × State)). IfSome r (IsKept Inv Good)) (run_gives ms shapes most p st t.replies a own gave) (law st inv) in
      (end.0, subst (λ f. Inv (state_along ms f st t.replies)) (sym is) end.1)

  pub code_keeps : (t : Transaction) → t.steps ≡ steps_of shapes most p → KeepsState ms Inv t
  code_keeps t is st inv run commits =
      let own = subst (λ f. IsRun ms f st t.replies) is run in
      let gave = run_commits ms shapes most p st t.replies own (sym (ap (λ f. f t.replies) is) ∙ commits) in
      (gives_on t is st gave.0 inv run gave.1).1

  pub code_good : (t : Transaction) → t.steps ≡ steps_of shapes most p → (a : A) → RanWithin ms Inv t → IsGiven p (map short_of t.replies) a → Good a
  code_good t is a ran gave = (gives_on t is ran.state a ran.holds ran.runs gave).0

-- the same as `Excuses`, of sequential objects
abbrev ExcusesAlone : {E A : Type 0} → List SequentialObject → (State → Type 0) → (E → Type 0) → Prog E A → Type 0
ExcusesAlone ms Inv Why p = (st : State) → Inv st → IfSome (reason_of ms p st) Why

excuses_on : {E A : Type 0} (ms : List SequentialObject) (Inv : State → Type 0) (Why : E → Type 0) (shapes : List Shape) (p : Prog E A) → ms ≡ machines_of shapes → Excuses shapes Inv Why p
    → ExcusesAlone ms (HoldsRising Inv) Why p
excuses_on ms Inv Why shapes p same law = subst (λ (l : List SequentialObject). ExcusesAlone l (HoldsRising Inv) Why p) (sym same) (λ st h. law st h.rises h.holds)

-- why it was given up, on a state with the invariant
code_why : {E A : Type 0} (ms : List SequentialObject) (Inv : State → Type 0) (Why : E → Type 0) (shapes : List Shape) (most : ℕ) (p : Prog E A) → ExcusesAlone ms Inv Why p
    → (t : Transaction) → t.steps ≡ steps_of shapes most p → (e : E) → RanWithin ms Inv t → IsCancelled p (map short_of t.replies) e → Why e
code_why {E} ms Inv Why shapes most p law t is e ran gave =
    let own = subst (λ f. IsRun ms f ran.state t.replies) is ran.runs in
    subst (λ (r : Option E). IfSome r Why) (run_cancels ms shapes most p ran.state t.replies e own gave) (law ran.state ran.holds)

-- a worker that ran code of a family which keeps the invariant, as a task by which what it knew went from the view v to the view w
module _ {T I E A : Type 0} (t : OfType T) (Inv : State → Type 0) (Good : A → Type 0) (words : Words T) (v w : View) (most : ℕ) (p : I → Prog E A)
    (law : (i : I) → KeepsAlone (t.meaning words.ty).machines Inv Good (p i)) (before after : Working T) (same : before.words ≡ words) (from : before.seat.me.0.view ≡ v)
    (to : after.seat.me.0.view ≡ w) (ran : HasRunOnly t before after most p) where
  abbrev own : List SequentialObject
  own = (t.meaning words.ty).machines

  done_between : HasDone (t.meaning words.ty) v w ran.did
  done_between =
      subst (λ (x : View). HasDone (t.meaning words.ty) v x ran.did) to
      (subst (λ (x : View). HasDone (t.meaning words.ty) x after.seat.me.0.view ran.did) from
      (subst (λ (x : Words T). HasDone (t.meaning x.ty) before.seat.me.0.view after.seat.me.0.view ran.did) same ran.done))

  all_kept_within : All (KeepsState (t.meaning words.ty).machines Inv) ran.did
  all_kept_within = All-weaker (RanSome before.shapes most p) (KeepsState own Inv) (λ x is. code_keeps own Inv Good before.shapes most (p is.0) (law is.0) x is.1) ran.did ran.each

  is_keeping : {P : Type 0} → (All (RanWithin (t.meaning words.ty).machines Inv) ran.did → P) → IsKeeping (t.meaning words.ty) Inv v w P
  is_keeping shows = record { did = ran.did; done = done_between; keeps = all_kept_within; shows = shows }

-- whatever worker of these objects does the task: it keeps the invariant, and what it gives is good
pub record TaskKeeps {T Out : Type 0} (t : OfType T) (words : Words T) (Inv : State → Type 0) (gives : Working T → Working T → Out → Type 0) (Good : Out → Type 0) : Type 0 where
  pub keeping : (shapes : List Shape) (v w : View) (out : Out) → IsDone words shapes v w gives out → IsKeeping (t.meaning words.ty) Inv v w (Good out)

-- what one of the transactions gave, which were of this code
given_good : {T E A : Type 0} (ms : List SequentialObject) (Inv : State → Type 0) (Good : A → Type 0) (most : ℕ) (p : Prog E A) (before : Working T) (did : List Transaction) → KeepsAlone ms Inv Good p
    → All (RanSome before.shapes most (λ (once : Unit {0}). p)) did → (o : Result (Done A E) TransactionError) → IsLedBy before did p o → All (RanWithin ms Inv) did → IfGave Good o
given_good ms Inv Good most p before did law each (Ok (Gave value)) k ran =
    code_good ms Inv Good before.shapes most p law k.transaction (all_among (RanSome before.shapes most (λ (once : Unit {0}). p)) did k.transaction k.there each).1 value
    (all_among (RanWithin ms Inv) did k.transaction k.there ran) k.said
given_good ms Inv Good most p before did law each (Ok (Cancelled reason)) k ran = tt
given_good ms Inv Good most p before did law each (Err error) k ran = tt

-- the same, and the reason for which it was given up
given_told : {T E A : Type 0} (ms : List SequentialObject) (Inv : State → Type 0) (Good : A → Type 0) (Why : E → Type 0) (most : ℕ) (p : Prog E A) (before : Working T) (did : List Transaction)
    → KeepsAlone ms Inv Good p → ExcusesAlone ms Inv Why p → All (RanSome before.shapes most (λ (once : Unit {0}). p)) did → (o : Result (Done A E) TransactionError) → IsLedBy before did p o
    → All (RanWithin ms Inv) did → IfTold Good Why o
given_told ms Inv Good Why most p before did law why each (Ok (Gave value)) k ran = given_good ms Inv Good most p before did law each (Ok (Gave value)) k ran
given_told ms Inv Good Why most p before did law why each (Ok (Cancelled reason)) k ran =
    code_why ms Inv Why before.shapes most p why k.transaction (all_among (RanSome before.shapes most (λ (once : Unit {0}). p)) did k.transaction k.there each).1 reason
    (all_among (RanWithin ms Inv) did k.transaction k.there ran) k.said
given_told ms Inv Good Why most p before did law why each (Err error) k ran = tt

module _ {T E A : Type 0} {t : OfType T} {words : Words T} {Inv : State → Type 0} (shapes : List Shape) (Good : A → Type 0) (same : (t.meaning words.ty).machines ≡ machines_of shapes) where
  -- a task that runs code of a family which keeps the invariant
  pub runs_keep : {I Out : Type 0} {most : ℕ} {p : I → Prog E A} → ((i : I) → Keeps shapes Inv Good (p i))
      → TaskKeeps {Out = Out} t words (HoldsRising Inv) (λ before after out. HasRunOnly t before after most p) (λ out. Unit {0})
  runs_keep {most = most} {p = p} law = record {
    keeping = λ own_shapes v w out h.
        is_keeping t (HoldsRising Inv) Good words v w most p (λ i. alone_on (t.meaning words.ty).machines Inv Good shapes (p i) same (law i)) h.before h.after h.same_words h.from h.to h.gave (λ ran. tt);
  }

  -- one that runs one code, so many times
  pub times_keep : {times most : ℕ} {p : Prog E A} → Keeps shapes Inv Good p → TaskKeeps t words (HoldsRising Inv) (λ before after o. HasGiven t before after times most p o) (IfGave Good)
  times_keep {most = most} {p = p} law = record {
    keeping = λ own_shapes v w out h. (
        let ms = (t.meaning words.ty).machines in let own = alone_on ms Inv Good shapes p same law in
        is_keeping t (HoldsRising Inv) Good words v w most (λ (once : Unit {0}). p) (λ once. own) h.before h.after h.same_words h.from h.to h.gave.repeated
        (given_good ms (HoldsRising Inv) Good most p h.before h.gave.repeated.did own h.gave.repeated.each out h.gave.led));
  }

  -- the same, where it gives the transaction up for such reasons
  pub times_tell : {times most : ℕ} {p : Prog E A} (Why : E → Type 0) → Keeps shapes Inv Good p → Excuses shapes Inv Why p
      → TaskKeeps t words (HoldsRising Inv) (λ before after o. HasGiven t before after times most p o) (IfTold Good Why)
  times_tell {most = most} {p = p} Why law why = record {
    keeping = λ own_shapes v w out h. (
        let ms = (t.meaning words.ty).machines in let own = alone_on ms Inv Good shapes p same law in
        is_keeping t (HoldsRising Inv) Good words v w most (λ (once : Unit {0}). p) (λ once. own) h.before h.after h.same_words h.from h.to h.gave.repeated
        (given_told ms (HoldsRising Inv) Good Why most p h.before h.gave.repeated.did own (excuses_on ms Inv Why shapes p same why) h.gave.repeated.each out h.gave.led));
  }

-- the same task, as it was done
done_as : {T A B : Type 0} {words : Words T} {shapes : List Shape} {v w : View} {f : Working T → Working T → A → Type 0} {g : Working T → Working T → B → Type 0} {x : A} {y : B}
    (h : IsDone words shapes v w f x) → g h.before h.after y → IsDone words shapes v w g y
done_as h gave = record { before = h.before; after = h.after; same_words = h.same_words; same_shapes = h.same_shapes; from = h.from; to = h.to; gave = gave }

module _ {T X Y : Type 0} {t : OfType T} {words : Words T} {Inv : State → Type 0} where
  -- a task of one of two kinds
  pub left_keeps : {gives : Working T → Working T → X → Type 0} {Good : X → Type 0} → TaskKeeps t words Inv gives Good
      → TaskKeeps t words Inv (λ before after (out : Either X Y). IsLeftAnd out (gives before after)) (λ out. IsLeftAnd out Good)
  left_keeps {gives = gives} {Good = Good} h = record { keeping = by }
    where
      by : (shapes : List Shape) (v w : View) (out : Either X Y) → IsDone words shapes v w (λ before after (o : Either X Y). IsLeftAnd o (gives before after)) out
          → IsKeeping (t.meaning words.ty) Inv v w (IsLeftAnd out Good)
      by shapes v w (Left x) k = h.keeping shapes v w x (done_as k k.gave)
      by shapes v w (Right y) k = absurd k.gave

  pub right_keeps : {gives : Working T → Working T → Y → Type 0} {Good : Y → Type 0} → TaskKeeps t words Inv gives Good
      → TaskKeeps t words Inv (λ before after (out : Either X Y). IsRightAnd out (gives before after)) (λ out. IsRightAnd out Good)
  right_keeps {gives = gives} {Good = Good} h = record { keeping = by }
    where
      by : (shapes : List Shape) (v w : View) (out : Either X Y) → IsDone words shapes v w (λ before after (o : Either X Y). IsRightAnd o (gives before after)) out
          → IsKeeping (t.meaning words.ty) Inv v w (IsRightAnd out Good)
      by shapes v w (Left x) k = absurd k.gave
      by shapes v w (Right y) k = h.keeping shapes v w y (done_as k k.gave)

module _ {T K Out : Type 0} (t : OfType T) (Inv : State → Type 0) (words : Words T) (shapes : List Shape) (gives : K → Working T → Working T → Out → Type 0) (Good : K → Out → Type 0) where
  abbrev m : Meaning
  m = t.meaning words.ty

  abbrev Kept : View → Type 0
  Kept v = HasKept (t.meaning words.ty) Inv v (Unit {0})

  abbrev Each : K → Type 0
  Each k = TaskKeeps t words Inv (gives k) (Good k)

  -- tasks that were done, before views that follow
  done_kept : (did : List (TaskDone words shapes gives)) (us : List View) (Q : Type 0) → AllByRecursion Each (tasks_of did) → All Kept (views_before did) → HaveKept (t.meaning words.ty) Inv us Q
      → HaveKept (t.meaning words.ty) Inv (reverse_aux (views_after did) us) (AllZip Good (tasks_of did) (outs_of did) × Q)
  done_kept [] us Q laws was h = record { did = h.did; done = h.done; keeps = h.keeps; shows = λ ran. (tt, h.shows ran) }
  done_kept (d ∷ did) us Q laws was h =
      let here = kept_on m Inv d.from d.to (Unit {0}) (Good d.task d.out) (All-head Kept d.from (views_before did) was) (laws.0.keeping shapes d.from d.to d.out d.done) in
      let more = one_kept m Inv d.to us (Unit {0} × Good d.task d.out) Q here h in
      let all = done_kept did (d.to ∷ us) ((Unit {0} × Good d.task d.out) × Q) laws.1 (All-tail Kept d.from (views_before did) was) more in
      record { did = all.did; done = all.done; keeps = all.keeps; shows = λ ran. (let s = all.shows ran in ((s.1.0.1, s.0), s.1.1)) }

-- tasks that keep the invariant, of workers that kept it before
tasks_kept : {T K Out : Type 0} (t : OfType T) (Inv : State → Type 0) (old new : Stored T) (gives : K → Working T → Working T → Out → Type 0) (Good : K → Out → Type 0) (tasks : List K) (outs : List Out)
    → AreAllDone old new gives tasks outs → All (λ v. HasKept (t.meaning old.words.ty) Inv v (Unit {0})) old.views → AllByRecursion (λ k. TaskKeeps t old.words Inv (gives k) (Good k)) tasks
    → HaveKept (t.meaning old.words.ty) Inv new.views (AllZip Good tasks outs)
tasks_kept {K = K} {Out = Out} t Inv old new gives Good tasks outs h before laws =
    let m = t.meaning old.words.ty in
    let Kept : View → Type 0 = λ v. HasKept m Inv v (Unit {0}) in
    let Told : List K → List Out → Type 0 = λ ks os. HaveKept m Inv new.views (AllZip Good ks os) in
    let was = views_before h.did in
    let all = subst (All Kept) h.were before in
    let own = All-permutation Kept (reverse was) was (IsPermutation-sym was (reverse was) (IsPermutation-reverse was)) (second_all Kept h.others (reverse was) all) in
    let each = subst (AllByRecursion (λ k. TaskKeeps t old.words Inv (gives k) (Good k))) (sym h.of_tasks) laws in
    let done = done_kept t Inv old.words old.shapes gives Good h.did [] (Unit {0}) each own (none_kept m Inv) in
    let every = others_kept m Inv h.others (reverse (views_after h.did)) (AllZip Good (tasks_of h.did) (outs_of h.did) × Unit {0}) (first_all Kept h.others (reverse was) all) done in
    let kept : Told (tasks_of h.did) (outs_of h.did) = subst (λ (views : List View). HaveKept m Inv views (AllZip Good (tasks_of h.did) (outs_of h.did))) (sym h.are)
    (record { did = every.did; done = every.done; keeps = every.keeps; shows = λ ran. (every.shows ran).0 }) in
    subst (Told tasks) h.gave (subst (λ ks. Told ks (outs_of h.did)) h.of_tasks kept)

-- a store on which tasks kept the invariant since it was opened, up to its rows at the end
pub kept_to_rows : {T P : Type 0} (t : OfType T) (Inv : State → Type 0) (ms : List SequentialObject) (old new : Stored T) (rows : State) → (t.meaning old.words.ty).machines ≡ ms → new.words ≡ old.words
    → HaveKept (t.meaning old.words.ty) Inv new.views P
    → HaveHistory (t.meaning new.words.ty) new.views rows → Inv (opening_of ms) → Inv rows × P
kept_to_rows {T} {P} t Inv ms old new rows same words kept history opening =
    kept_by_all (t.meaning old.words.ty) Inv new.views P rows kept
    (subst (λ (x : Words T). HaveHistory (t.meaning x.ty) new.views rows) words history)
    (subst (λ (l : List SequentialObject). Inv (opening_of l)) (sym same) opening)

-- the workers of a store that was just opened
pub all_kept : (m : Meaning) (Inv : State → Type 0) (views : List View) → All (λ v. v.entries ≡ []) views → All (λ v. HasKept m Inv v (Unit {0})) views
all_kept m Inv views new = All-weaker (λ (v : View). v.entries ≡ []) (λ (v : View). HasKept m Inv v (Unit {0})) (λ v none. new_kept m Inv v none) views new

-- what each task gave is good
pub record AreGood {K Out : Type 0} (Good : K → Out → Type 0) (tasks : List K) (outs : List Out) : Type 0 where
  pub each : AllZip Good tasks outs

-- Tasks of a store that was just opened, each of which keeps an invariant: it holds of the rows at the end, and what each task gave is good
pub all_keep : {T K Out : Type 0} {old new : Stored T} {rows : State} {gives : K → Working T → Working T → Out → Type 0} {tasks : List K} {outs : List Out}
    (t : OfType T) (shapes : List Shape) (Inv : State → Type 0) (Good : K → Out → Type 0)
    → (t.meaning old.words.ty).machines ≡ machines_of shapes → All (λ v. v.entries ≡ []) old.views → new.words ≡ old.words → AreAllDone old new gives tasks outs
    → HaveHistory (t.meaning new.words.ty) new.views rows → Inv (opening_of (machines_of shapes)) → AllByRecursion (λ k. TaskKeeps t old.words (HoldsRising Inv) (gives k) (Good k)) tasks
    → Inv rows × AreGood Good tasks outs
all_keep {old = old} {new = new} {rows = rows} {gives = gives} {tasks = tasks} {outs = outs} t shapes Inv Good machines fresh same done history opening laws =
    let end = kept_to_rows t (HoldsRising Inv) (machines_of shapes) old new rows machines same
    (tasks_kept t (HoldsRising Inv) old new gives Good tasks outs done (all_kept (t.meaning old.words.ty) (HoldsRising Inv) old.views fresh) laws)
    history (record { rises = opening-rises shapes; holds = opening }) in
    (end.0.holds, record { each = end.1 })
