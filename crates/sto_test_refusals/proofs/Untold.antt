-- What tasks that were done give, and what they do not.
use Rattle.std.proofs.Common.{◌≡◌, List, [], ◌∷◌, length, reverse, sym, ap, ◌∙◌, subst, arith, length-append}
use Rattle.std.proofs.lemmas.List.{length-map, length-reverse}
use Rattle.sto_model.specs.declared.shape.Shape.{Shape}
use Rattle.sto_core.specs.declared.view.View.{View}
use Rattle.sto_shared_store.specs.declared.store.Store.{Store as Words}
use Rattle.sto_library.specs.Values.{Stored, Working}
use Rattle.sto_library.specs.Tasks.{TaskDone, AreAllDone, outs_of, tasks_of, views_before, views_after}

first_is : {T K A : Type 0} {words : Words T} {shapes : List Shape} {gives : K → Working T → Working T → A → Type 0} {task : K} {out : A} (did : List (TaskDone words shapes gives)) → tasks_of did ≡ task ∷ [] → outs_of did ≡ out ∷ [] → ((before after : Working T) → gives task before after out → ⊥) → ⊥
first_is [] tasks gave never = let n : 0 ≡ 1 = ap length tasks in absurd (omega (arith, n))
first_is {K = K} {A = A} {gives = gives} {task = task} {out = out} (d ∷ did) tasks gave never =
    let same : d.task ≡ task = cc in let given : d.out ≡ out = cc in
    never d.done.before d.done.after (subst (λ (k : K). gives k d.done.before d.done.after out) same (subst (λ (o : A). gives d.task d.done.before d.done.after o) given d.done.gave))

module _ {T K A : Type 0} {old new : Stored T} {gives : K → Working T → Working T → A → Type 0} where
  pub as_many : {tasks : List K} {outs : List A} → AreAllDone old new gives tasks outs → length outs ≡ length tasks
  as_many done =
      let D : Type 0 = TaskDone old.words old.shapes gives in
      sym (ap length done.gave) ∙ length-map done.did (λ (d : D). d.out) ∙ sym (length-map done.did (λ (d : D). d.task)) ∙ ap length done.of_tasks

  pub all_back : {tasks : List K} {outs : List A} → AreAllDone old new gives tasks outs → length new.views ≡ length old.views
  all_back done =
      let D : Type 0 = TaskDone old.words old.shapes gives in
      let before : List View = views_before done.did in let after : List View = views_after done.did in
      let a = ap length done.are ∙ length-append done.others (reverse after) in let b = ap length done.were ∙ length-append done.others (reverse before) in
      let c = length-reverse after ∙ length-map done.did (λ (d : D). d.to) in let e = length-reverse before ∙ length-map done.did (λ (d : D). d.from) in
      omega (arith, a, b, c, e)

  pub own_answer : {task : K} {out : A} → AreAllDone old new gives (task ∷ []) (out ∷ []) → ((before after : Working T) → gives task before after out → ⊥) → ⊥
  own_answer done never = first_is done.did done.of_tasks done.gave never
