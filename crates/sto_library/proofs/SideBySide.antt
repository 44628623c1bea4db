-- Tasks that were done side by side.
use Rattle.std.specs.List.{All}
use Rattle.std.proofs.Common.{◌≡◌, ◌+◌, ◌<◌, ℕ, List, [], ◌∷◌, ◌++◌, map, length, reverse, take, drop, get_or, refl, sym, ap, ap₂, ◌∙◌, subst, arith, append_assoc, append-nil, length-append}
use Rattle.std.proofs.lemmas.List.{map-append, reverse-append, take-append-drop}
use Rattle.std.proofs.lemmas.List.Elements.{All-nil, All-cons, All-push, All-append}
use Rattle.sto_part.specs.declared.naming.Naming as naming
use Rattle.sto_model.specs.declared.shape.Shape.{Shape}
use Rattle.sto_type.specs.Traits.{OfType}
use Rattle.sto_core.specs.declared.view.View.{View}
use Rattle.sto_shared_store.specs.declared.store.Store.{Store as Words}
use Rattle.sto_shared_store.specs.declared.worker.CountedRest.{CountedRest}
use Rattle.sto_library.specs.Values.{Stored, Working, Serves}
use Rattle.sto_library.specs.declared.task.Finished.{Finished}
use Rattle.sto_library.specs.declared.task.FinishedTasks.{FinishedTasks}
use Rattle.sto_library.specs.Tasks.{TaskDone, tasks_of, outs_of, views_before, views_after, views_of, AreHired, DoesTask, HaveWorked, AreBothLists, AreAllDone}

-- one more, who comes last, is the first of those turned round
last_first : {X Y : Type 0} (f : X → Y) (xs : List X) (x : X) → reverse (map f (xs ++ x ∷ [])) ≡ f x ∷ reverse (map f xs)
last_first f xs x = ap reverse (map-append f xs (x ∷ [])) ∙ reverse-append (map f xs) (f x ∷ [])

-- before those that come back, turned round, stands one that comes back next
pub next_back : {X Y : Type 0} (f : X → Y) (old new : List Y) (all xs : List X) (x : X) → all ≡ xs ++ x ∷ [] → new ≡ old ++ f x ∷ [] → new ++ reverse (map f xs) ≡ old ++ reverse (map f all)
next_back f old new all xs x e back =
    ap (λ l. l ++ reverse (map f xs)) back ∙ append_assoc old (f x ∷ []) (reverse (map f xs)) ∙ ap (λ l. old ++ l) (sym (last_first f xs x)) ∙ ap (λ l. old ++ reverse (map f l)) (sym e)

module _ {T : Type 0} {n : naming.Ghosts T} (t : OfType T) where
  -- nobody is hired yet
  pub none_hired : (store : Stored T) (workers : List (CountedRest T n)) → workers ≡ [] → AreHired t store store 0 workers
  none_hired store workers none = record {
    count = ap length none;
    serve = subst (All (λ (w : CountedRest T n). Serves t store.words w.rest.seat)) (sym none) (All-nil (λ (w : CountedRest T n). Serves t store.words w.rest.seat));
    were = sym (append-nil store.views) ∙ ap (λ (ws : List (CountedRest T n)). store.views ++ reverse (views_of ws)) (sym none);
  }

  -- one more is hired
  pub one_hired : {old mid : Stored T} (new : Stored T) {many : ℕ} {workers all : List (CountedRest T n)} (worker : CountedRest T n) → AreHired t old mid many workers → mid.words ≡ old.words
      → Serves t mid.words worker.rest.seat × (mid.views ≡ new.views ++ worker.rest.seat.me.0.view ∷ []) → all ≡ workers ++ worker ∷ [] → AreHired t old new (many + 1) all
  one_hired {old} {mid} new {many} {workers} {all} worker h same w e =
      let P : CountedRest T n → Type 0 = λ x. Serves t old.words x.rest.seat in
      let one : P worker = subst (λ (o : Words T). Serves t o worker.rest.seat) same w.0 in
      record {
        count = (let a = ap length e in let b = length-append workers (worker ∷ []) in let k = h.count in omega (arith, a, b, k));
        serve = subst (All P) (sym e) (All-push P workers worker h.serve one);
        were = h.were ∙ next_back (λ (x : CountedRest T n). x.rest.seat.me.0.view) new.views mid.views all workers worker e w.1;
      }

-- the first of a list
pub first_of : {X : Type 0} (xs : List X) (x : X) → 0 < length xs → x ≡ get_or xs 0 x → (rest : List X) × (xs ≡ x ∷ rest)
first_of [] x some is = absurd (omega (arith, some))
first_of (y ∷ xs) x some is = (xs, ap (λ z. z ∷ xs) (sym is))

module _ {T K Out : Type 0} {n : naming.Ghosts T} (t : OfType T) (words : Words T) (shapes : List Shape) (gives : K → Working T → Working T → Out → Type 0) where
  -- no task
  pub none_worked : (tasks : List K) (workers : List (CountedRest T n)) (done : FinishedTasks T Out n) → length tasks ≡ length workers → workers ≡ [] → done.workers.items ≡ [] → done.outs.items ≡ []
      → HaveWorked t words shapes gives tasks workers done
  none_worked [] workers done same none rest outs = record {
    did = [];
    of_tasks = refl;
    gave = sym outs;
    were = ap views_of (sym none);
    are = ap views_of (sym rest);
    serve = subst (All (λ (w : CountedRest T n). Serves t words w.rest.seat)) (sym rest) (All-nil (λ (w : CountedRest T n). Serves t words w.rest.seat));
  }
  none_worked (k ∷ tasks) workers done same none rest outs = let few : length workers ≡ 0 = ap length none in absurd (omega (arith, same, few))

  -- one task, by one worker
  pub one_worked : (tasks : List K) (workers others : List (CountedRest T n)) (task : K) (worker : CountedRest T n) (one : Finished T Out n) (done : FinishedTasks T Out n)
      → length tasks ≡ length workers → length workers < 2 → workers ≡ others ++ worker ∷ [] → ((rest : List K) × (tasks ≡ task ∷ rest))
      → DoesTask t words shapes worker (gives task) one → done.workers.items ≡ others ++ one.worker ∷ [] → done.outs.items ≡ one.out ∷ []
      → HaveWorked t words shapes gives tasks workers done
  one_worked tasks workers [] task worker one done same few is ([], these) does rest outs = record {
    did = record { task = task; out = one.out; from = worker.rest.seat.me.0.view; to = one.worker.rest.seat.me.0.view; done = does.1 } ∷ [];
    of_tasks = sym these;
    gave = sym outs;
    were = ap views_of (sym is);
    are = ap views_of (sym rest);
    serve = (let P : CountedRest T n → Type 0 = λ w. Serves t words w.rest.seat in subst (All P) (sym rest) (All-cons P one.worker [] does.0 (All-nil P)));
  }
  one_worked tasks workers [] task worker one done same few is (k ∷ ks, these) does rest outs = let many : length tasks ≡ length (task ∷ k ∷ ks) = ap length these in absurd (omega (arith, same, few, many))
  one_worked tasks workers (w ∷ others) task worker one done same few is these does rest outs =
      let many : length workers ≡ length (w ∷ (others ++ worker ∷ [])) = ap length is in let some = length-append others (worker ∷ []) in absurd (omega (arith, few, many, some))

  -- the first so many tasks, and all others
  pub both_worked : (half : ℕ) (tasks first_tasks other_tasks : List K) (workers first_workers other_workers : List (CountedRest T n)) (first other both : FinishedTasks T Out n)
      → first_tasks ≡ take half tasks → other_tasks ≡ drop half tasks → first_workers ≡ take half workers → other_workers ≡ drop half workers
      → HaveWorked t words shapes gives first_tasks first_workers first → HaveWorked t words shapes gives other_tasks other_workers other → AreBothLists first other both
      → HaveWorked t words shapes gives tasks workers both
  both_worked half tasks first_tasks other_tasks workers first_workers other_workers first other both ft ot fw ow h k b =
      let D : Type 0 = TaskDone words shapes gives in
      let V : CountedRest T n → View = λ w. w.rest.seat.me.0.view in
      let P : CountedRest T n → Type 0 = λ w. Serves t words w.rest.seat in
      let all_tasks : first_tasks ++ other_tasks ≡ tasks = ap₂ (λ (x y : List K). x ++ y) ft ot ∙ take-append-drop half tasks in
      let all_workers : first_workers ++ other_workers ≡ workers = ap₂ (λ (x y : List (CountedRest T n)). x ++ y) fw ow ∙ take-append-drop half workers in
      record {
        did = h.did ++ k.did;
        of_tasks = map-append (λ (d : D). d.task) h.did k.did ∙ ap₂ (λ (x y : List K). x ++ y) h.of_tasks k.of_tasks ∙ all_tasks;
        gave = map-append (λ (d : D). d.out) h.did k.did ∙ ap₂ (λ (x y : List Out). x ++ y) h.gave k.gave ∙ sym b.outs;
        were = map-append (λ (d : D). d.from) h.did k.did ∙ ap₂ (λ (x y : List View). x ++ y) h.were k.were ∙ sym (map-append V first_workers other_workers) ∙ ap views_of all_workers;
        are = map-append (λ (d : D). d.to) h.did k.did ∙ ap₂ (λ (x y : List View). x ++ y) h.are k.are ∙ sym (map-append V first.workers.items other.workers.items) ∙ ap views_of (sym b.workers);
        serve = subst (All P) (sym b.workers) (All-append P first.workers.items other.workers.items h.serve k.serve);
      }

  -- the workers were hired, and are back
  pub all_done : (old mid new : Stored T) (tasks : List K) (workers : List (CountedRest T n)) (done : FinishedTasks T Out n) (many : ℕ) → AreHired t old mid many workers → words ≡ old.words → shapes ≡ old.shapes
      → HaveWorked t words shapes gives tasks workers done → new.views ≡ mid.views ++ reverse (views_of done.workers.items) → AreAllDone old new gives tasks done.outs.items
  all_done old mid new tasks workers done many hired e f worked back =
      let own = subst (λ (o : Words T). HaveWorked t o old.shapes gives tasks workers done) e (subst (λ (s : List Shape). HaveWorked t words s gives tasks workers done) f worked) in
      record {
        others = mid.views;
        did = own.did;
        of_tasks = own.of_tasks;
        gave = own.gave;
        were = hired.were ∙ ap (λ vs. mid.views ++ reverse vs) (sym own.were);
        are = back ∙ ap (λ vs. mid.views ++ reverse vs) (sym own.are);
      }
