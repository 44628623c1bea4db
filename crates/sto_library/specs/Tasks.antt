-- What tasks give, and why they give nothing.
use Rattle.std.specs.Prelude.{◌≡◌, ◌<◌, ℕ, List, ◌++◌, length, map, reverse}
use Rattle.std.specs.List.{All}
use Rattle.sto_model.specs.declared.shape.Shape.{Shape}
use Rattle.sto_part.specs.declared.naming.Naming as naming
use Rattle.sto_type.specs.Traits.{OfType}
use Rattle.sto_core.specs.declared.view.View.{View}
use Rattle.sto_shared_store.specs.declared.store.Store.{Store as Words}
use Rattle.sto_shared_store.specs.declared.worker.CountedRest.{CountedRest}
use Rattle.sto_library.specs.Values.{Stored, Working, Serves}
use Rattle.sto_library.specs.declared.task.Finished.{Finished}
use Rattle.sto_library.specs.declared.task.FinishedTasks.{FinishedTasks}
use Rattle.sto_library.specs.declared.task.TaskError.{TaskError}
use Rattle.sto_library.specs.declared.task.TaskError.TheVariants.{NoWorker, NoMemory}

-- a worker of these objects did a task, by which what it knew went from the view v to the view w: what it gave is as the task says
pub record IsDone {T Out : Type 0} (words : Words T) (shapes : List Shape) (v w : View) (gives : Working T → Working T → Out → Type 0) (out : Out) : Type 0 where
  pub before : Working T
  pub after : Working T
  pub same_words : before.words ≡ words
  pub same_shapes : before.shapes ≡ shapes
  pub from : before.seat.me.0.view ≡ v
  pub to : after.seat.me.0.view ≡ w
  pub gave : gives before after out

-- a task that a worker of these objects did, with what it gave, and what its worker knew before and after
pub record TaskDone {T K Out : Type 0} (words : Words T) (shapes : List Shape) (gives : K → Working T → Working T → Out → Type 0) : Type 0 where
  pub task : K
  pub out : Out
  pub from : View
  pub to : View
  pub done : IsDone words shapes from to (gives task) out

module _ {T K Out : Type 0} {words : Words T} {shapes : List Shape} {gives : K → Working T → Working T → Out → Type 0} where
  -- the tasks that were done, one after the other
  abbrev pub tasks_of : List (TaskDone words shapes gives) → List K
  tasks_of did = map (λ d. d.task) did

  -- what each of them gave
  abbrev pub outs_of : List (TaskDone words shapes gives) → List Out
  outs_of did = map (λ d. d.out) did

  -- what the worker of each knew before
  abbrev pub views_before : List (TaskDone words shapes gives) → List View
  views_before did = map (λ d. d.from) did

  -- and after
  abbrev pub views_after : List (TaskDone words shapes gives) → List View
  views_after did = map (λ d. d.to) did

-- workers that rest in a store, the last one first, did these tasks, each one, which gave these; and rest there again. The others know no
-- more than before
pub record AreAllDone {T K Out : Type 0} (old new : Stored T) (gives : K → Working T → Working T → Out → Type 0) (tasks : List K) (outs : List Out) : Type 0 where
  pub others : List View
  pub did : List (TaskDone old.words old.shapes gives)
  pub of_tasks : tasks_of did ≡ tasks
  pub gave : outs_of did ≡ outs
  pub were : old.views ≡ others ++ reverse (views_before did)
  pub are : new.views ≡ others ++ reverse (views_after did)

-- why so many tasks gave nothing: there were too few workers, and the store is as it was; or memory was wanting
abbrev pub HasFailed : {T : Type 0} → TaskError → ℕ → (old new : Stored T) → Type 0
HasFailed NoWorker many old new = (length old.views < many) × (new ≡ old)
HasFailed NoMemory many old new = Unit {0}

module _ {T : Type 0} {n : naming.Ghosts T} where
  -- what workers know that rest
  abbrev pub views_of : List (CountedRest T n) → List View
  views_of workers = map (λ w. w.rest.seat.me.0.view) workers

  -- so many workers of a store, who rested there last, the last one first
  pub record AreHired (t : OfType T) (old new : Stored T) (many : ℕ) (workers : List (CountedRest T n)) : Type 0 where
    pub count : length workers ≡ many
    pub serve : All (λ w. Serves t old.words w.rest.seat) workers
    pub were : old.views ≡ new.views ++ reverse (views_of workers)

  -- a worker did a task, and is the store's still
  abbrev pub DoesTask : {Out : Type 0} → OfType T → Words T → List Shape → CountedRest T n → (Working T → Working T → Out → Type 0) → Finished T Out n → Type 0
  DoesTask t words shapes worker gives done =
      Serves t words done.worker.rest.seat × IsDone words shapes worker.rest.seat.me.0.view done.worker.rest.seat.me.0.view gives done.out

  -- workers did tasks, each the one at its place, and are the store's still
  pub record HaveWorked {K Out : Type 0} (t : OfType T) (words : Words T) (shapes : List Shape) (gives : K → Working T → Working T → Out → Type 0) (tasks : List K)
      (workers : List (CountedRest T n)) (done : FinishedTasks T Out n) : Type 0 where
    pub did : List (TaskDone words shapes gives)
    pub of_tasks : tasks_of did ≡ tasks
    pub gave : outs_of did ≡ done.outs.items
    pub were : views_before did ≡ views_of workers
    pub are : views_after did ≡ views_of done.workers.items
    pub serve : All (λ w. Serves t words w.rest.seat) done.workers.items

  -- both lists are those of the first, and then those of the other
  pub record AreBothLists {Out : Type 0} (first other both : FinishedTasks T Out n) : Type 0 where
    pub workers : both.workers.items ≡ first.workers.items ++ other.workers.items
    pub outs : both.outs.items ≡ first.outs.items ++ other.outs.items
