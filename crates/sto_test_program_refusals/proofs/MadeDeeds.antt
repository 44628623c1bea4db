-- Which deeds are not those of the event that a thread has made.
use Rattle.std.specs.Prelude.{nat_lt}
use Rattle.std.proofs.Common.{◌≡◌, ◌+◌, ℕ, List, [], ◌∷◌, ◌++◌, length, length-append, None, Some, sym, ap, ◌∙◌, subst, arith, inl, inr}
use Rattle.std.proofs.lemmas.Bool.{cases_Bool}
use Rattle.sto_core.specs.Core.{Core}
use Rattle.sto_core.specs.History.{Validity}
use Rattle.sto_plain.specs.Passes.{view_of}
use Rattle.sto_trace.specs.declared.Step.{Step}
use Rattle.sto_trace.specs.Deeds.{deed_of, IsDone}
use Rattle.sto_run_steps.specs.Logged.{most_kept, with_step, HasLogged}
use Rattle.sto_run_steps.specs.Turning.{AStep}
use Rattle.sto_test_refusals.proofs.Lists.{last_same}
use Rattle.sto_test_program_refusals.specs.Told.{made, plain}
use Rattle.sto_test_program_refusals.proofs.PlainDeeds.{same_plain}

-- a log with one more step is longer
kept_or_given_up : (steps : List Step) (step : Step) → Some steps ≡ with_step steps step → ⊥
kept_or_given_up steps step e = elim (cases_Bool (nat_lt (length steps) most_kept)) [
  | inl few ↦
      let longer : steps ≡ steps ++ step ∷ [] = let s : Some steps ≡ Some (steps ++ step ∷ []) = rw few at e in cc in
      let many : length steps ≡ length (steps ++ step ∷ []) = ap length longer in
      let one : length (steps ++ step ∷ []) ≡ length steps + 1 = length-append steps (step ∷ []) in omega (arith, many, one)
  | inr many ↦ let none : Some steps ≡ None = rw many at e in absurd cc
]

-- the step that a log has more is the one that was made
step_is : (steps : List Step) (step told : Step) → Some (steps ++ told ∷ []) ≡ with_step steps step → told ≡ step
step_is steps step told e = elim (cases_Bool (nat_lt (length steps) most_kept)) [
  | inl few ↦
      let same : steps ++ told ∷ [] ≡ steps ++ step ∷ [] = let s : Some (steps ++ told ∷ []) ≡ Some (steps ++ step ∷ []) = rw few at e in cc in
      last_same steps told step same
  | inr many ↦ let none : Some (steps ++ told ∷ []) ≡ None = rw many at e in absurd cc
]

module _ (kind : Step → Type 0) (steps : List Step) where
  pub not_left_out : HasLogged kind (Some steps) (Some steps) → ⊥
  not_left_out logged = kept_or_given_up steps logged.0 logged.2

  -- what was told before is not told otherwise
  pub not_forgotten : (others : List Step) → HasLogged kind (Some steps) (Some others) → ((told : Step) → others ≡ steps ++ told ∷ [] → ⊥) → ⊥
  not_forgotten others logged none = elim (cases_Bool (nat_lt (length steps) most_kept)) [
    | inl few ↦ none logged.0 (let s : Some others ≡ Some (steps ++ logged.0 ∷ []) = rw few at logged.2 in cc)
    | inr many ↦ let given_up : Some others ≡ None = rw many at logged.2 in absurd cc
  ]

  -- the step that is told is of its kind
  pub told_kind : (told : Step) → HasLogged kind (Some steps) (Some (steps ++ told ∷ [])) → kind told
  told_kind told logged = subst kind (sym (step_is steps logged.0 told logged.2)) logged.1

-- the deed that is told is that of the event by which the words were changed, but for which load of a version that led no further it was
pub told_plain : (valid : Validity) (c : Core) (thread : ℕ) (d : Core) (told : Step) (s : AStep valid c thread d)
    → IsDone valid (length c.statuses) told.deed (view_of c thread) (view_of d thread) → plain told.deed ≡ plain (made s.event c)
told_plain valid c thread d told s done =
    let found : deed_of s.event s.number s.value ≡ made s.event c =
    ap (λ n. deed_of s.event n s.value) s.steps.number ∙ ap (deed_of s.event _) s.steps.value in
    ap plain done.did
    ∙ same_plain valid (view_of c thread) done.number s.number done.value s.value done.event s.event done.tells.allowed s.steps.tells.allowed
    (sym done.tells.after ∙ s.steps.tells.after)
    ∙ ap plain found
