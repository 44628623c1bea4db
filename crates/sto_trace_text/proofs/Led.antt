-- The attempts of threads, step by step.
use Rattle.std.proofs.Common.{◌≡◌, ◌≤◌, ◌<◌, ℕ, zero, suc, ◌+◌, ◌==◌, List, [], ◌∷◌, ◌++◌, length, take, refl, sym, ap, ◌∙◌, subst, arith, append-nil, append_assoc, map, true, false, Bool, cond, Option, None, Some, slice_get}
use Rattle.std.specs.Prelude.{slice_set, option_and_then}
use Rattle.std.specs.Option.{option_map}
use Rattle.std.specs.List.{flat_map}
use Rattle.std.proofs.lemmas.Bool.{eq-eqb, eqb-true}
use Rattle.std.proofs.lemmas.List.{length-set}
use Rattle.std.proofs.lemmas.List.Concat.{flat_map-append}
use Rattle.std.proofs.lemmas.Option.{slice_get_past, slice_get_within}
use Rattle.sto_model.specs.PlainReplies.{plain_reply}
use Rattle.sto_lang.specs.Scripts.{File, Script}
use Rattle.sto_lang.proofs.ObjectLemmas.{take_found}
use Rattle.sto_script.specs.declared.body.ScriptBody.{ScriptBody}
use Rattle.sto_report_spec.specs.Orders.{at_position, transaction_at}
use Rattle.sto_trace.specs.declared.Step.{Step}
use Rattle.sto_trace_text.specs.Events.{Attempt, Answer, Event, begun, hearing, is_start, made, led, attempt_of, event_after, events_after, events_of}
use Rattle.sto_trace_text.specs.Bodies.{IsBodyOf, GoesThrough, GoThrough, answer_of, event_with}
use Rattle.sto_trace_text.specs.Lines.{AddsLine}
use Rattle.sto_trace_text.specs.declared.attempts.Answer as code

-- one step more
led_more : (file : File) (thread : ℕ) (attempt : Option Attempt) (steps : List Step) (step : Step)
    → led file thread attempt (steps ++ step ∷ []) ≡ cond (step.thread == thread) (made file (led file thread attempt steps) step) (led file thread attempt steps)
led_more file thread attempt [] step = refl
led_more file thread attempt (s ∷ steps) step = led_more file thread (cond (s.thread == thread) (made file attempt s) attempt) steps step

own_step : (file : File) (steps : List Step) (step : Step) → attempt_of file step.thread (steps ++ step ∷ []) ≡ made file (attempt_of file step.thread steps) step
own_step file steps step =
    let now = attempt_of file step.thread steps in
    led_more file step.thread None steps step ∙ ap (λ (b : Bool). cond b (made file now step) now) (eq-eqb step.thread step.thread refl)

other_step : (file : File) (thread : ℕ) (steps : List Step) (step : Step) → (step.thread == thread) ≡ false → attempt_of file thread (steps ++ step ∷ []) ≡ attempt_of file thread steps
other_step file thread steps step other =
    let now = attempt_of file thread steps in
    led_more file thread None steps step ∙ ap (λ (b : Bool). cond b (made file now step) now) other

-- a thread that the file does not have makes no attempt
none_made : (file : File) (step : Step) (start : Bool) → slice_get file.threads step.thread ≡ None
    → option_map (hearing (map plain_reply step.replies.items)) (cond start (option_map begun (transaction_at file (step.thread, step.position))) None) ≡ None
none_made file step true e = ap (λ (o : Option (List Script)). option_map (hearing (map plain_reply step.replies.items)) (option_map begun (option_and_then (at_position step.position) o))) e
none_made file step false e = refl

none_led : (file : File) (thread : ℕ) (steps : List Step) → slice_get file.threads thread ≡ None → attempt_of file thread steps ≡ None
none_led file thread [] e = refl
none_led file thread (step ∷ steps) e =
    ap (λ (attempt : Option Attempt). led file thread attempt steps) (by (step.thread == thread) refl) ∙ none_led file thread steps e
  where
    by : (b : Bool) → (step.thread == thread) ≡ b → cond b (made file None step) None ≡ None
    by true same = none_made file step (is_start step.deed) (ap (slice_get file.threads) (eqb-true step.thread thread same) ∙ e)
    by false other = refl

unequal : (i j : ℕ) → (i ≡ j → ⊥) → (i == j) ≡ false
unequal i j apart = by (i == j) refl
  where
    by : (b : Bool) → (i == j) ≡ b → b ≡ false
    by true same = absurd (apart (eqb-true i j same))
    by false other = refl

-- an item of a list in which one was set
data At {X : Type 0} (xs : List X) (i j : ℕ) (x y : X) : Type 0 where
  Own : i ≡ j → x ≡ y → At xs i j x y
  Other : (i ≡ j → ⊥) → slice_get xs j ≡ Some y → At xs i j x y

one_on : {X : Type 0} (z : X) (xs : List X) (i j : ℕ) (x y : X) → At xs i j x y → At (z ∷ xs) (suc i) (suc j) x y
one_on z xs i j x y (Own i_is x_is) = Own (ap suc i_is) x_is
one_on z xs i j x y (Other apart at) = Other (λ e. apart (omega (arith, e))) at

at_set : {X : Type 0} (xs : List X) (i j : ℕ) (x y : X) → slice_get (slice_set xs i x) j ≡ Some y → At xs i j x y
at_set [] i j x y e = absurd cc
at_set (z ∷ xs) zero zero x y e = Own refl cc
at_set (z ∷ xs) zero (suc j) x y e = Other (λ f. absurd (omega (arith, f))) e
at_set (z ∷ xs) (suc i) zero x y e = Other (λ f. absurd (omega (arith, f))) e
at_set (z ∷ xs) (suc i) (suc j) x y e = one_on z xs i j x y (at_set xs i j x y e)

module _ (file : File) (step : Step) (bodies : List (Option ScriptBody)) (heard : List Answer) where
  -- a step of one of the threads
  pub own_goes : (after : List (Option ScriptBody)) (before new : Option ScriptBody) → slice_get bodies step.thread ≡ Some before → GoesThrough file step before heard new
      → after ≡ slice_set bodies step.thread new → GoThrough file step bodies heard after
  own_goes after before new at goes is earlier h =
      let went = goes (attempt_of file step.thread earlier) (h.follow step.thread before at) in (
        went.0,
        record {
          each = ap length is ∙ length-set bodies step.thread new ∙ h.each;
          follow = λ thread body got. by thread body (at_set bodies step.thread thread new body (sym (ap (λ (l : List (Option ScriptBody)). slice_get l thread) is) ∙ got)) went.1;
        },
      )
    where
      by : (thread : ℕ) (body : Option ScriptBody) → At bodies step.thread thread new body → IsBodyOf new (made file (attempt_of file step.thread earlier) step)
          → IsBodyOf body (attempt_of file thread (earlier ++ step ∷ []))
      by thread body (Own own same) new_is =
          subst (λ (t : ℕ). IsBodyOf body (attempt_of file t (earlier ++ step ∷ []))) own
          (subst (λ (b : Option ScriptBody). IsBodyOf b (attempt_of file step.thread (earlier ++ step ∷ []))) same (subst (IsBodyOf new) (sym (own_step file earlier step)) new_is))
      by thread body (Other other got) new_is = subst (IsBodyOf body) (sym (other_step file thread earlier step (unequal step.thread thread other))) (h.follow thread body got)

  -- a step of a thread that the file does not have
  pub none_goes : (new : Option ScriptBody) → length bodies ≤ step.thread → GoesThrough file step None heard new → GoThrough file step bodies heard bodies
  none_goes new past goes earlier h =
      let none : attempt_of file step.thread earlier ≡ None = none_led file step.thread earlier (slice_get_past file.threads step.thread (subst (λ (n : ℕ). n ≤ step.thread) h.each past)) in
      let went = goes (attempt_of file step.thread earlier) (subst (IsBodyOf None) (sym none) tt) in
      (went.0, record { each = h.each; follow = λ thread body got. subst (IsBodyOf body) (sym (other_step file thread earlier step (apart thread (slice_get_within bodies thread body got)))) (h.follow thread body got) })
    where
      apart : (thread : ℕ) → thread < length bodies → (step.thread == thread) ≡ false
      apart thread within = unequal step.thread thread (λ e. omega (arith, e, within, past))

-- the line of a step
pub line_goes : (line : Event → List ℕ) (file : File) (step : Step) (number : ℕ) (before : List (Option ScriptBody)) (text : List ℕ) (after : List (Option ScriptBody)) (longer : List ℕ) (answers : List code.Answer)
    → GoThrough file step before (map answer_of answers) after → longer ≡ text ++ line (event_with number step answers) → AddsLine line file step number before text after longer
line_goes line file step number before text after longer answers goes is earlier same h =
    let went = goes earlier h in
    let event : event_with number step answers ≡ event_after file earlier step =
    ap (λ (n : ℕ). event_with n step answers) same ∙ ap (λ (l : List Answer). record { number = length earlier + 1; step = step; answers = l }) went.0 in
    (is ∙ ap (λ (e : Event). text ++ line e) event, went.1)

events_last : (file : File) (before steps : List Step) (step : Step) → events_after file before (steps ++ step ∷ []) ≡ events_after file before steps ++ event_after file (before ++ steps) step ∷ []
events_last file before [] step = ap (λ (l : List Step). event_after file l step ∷ []) (sym (append-nil before))
events_last file before (s ∷ steps) step =
    ap (λ (l : List Event). event_after file before s ∷ l)
    (events_last file (before ++ s ∷ []) steps step ∙ ap (λ (l : List Step). events_after file (before ++ s ∷ []) steps ++ event_after file l step ∷ []) (append_assoc before (s ∷ []) steps))

-- the texts of events, one more
pub texts_more : (text : Event → List ℕ) (file : File) (steps : List Step) (i : ℕ) (step : Step) → slice_get steps i ≡ Some step
    → flat_map text (events_of file (take (i + 1) steps)) ≡ flat_map text (events_of file (take i steps)) ++ text (event_after file (take i steps) step)
texts_more text file steps i step at =
    ap (λ (l : List Step). flat_map text (events_of file l)) (take_found steps i step at)
    ∙ ap (flat_map text) (events_last file [] (take i steps) step)
    ∙ flat_map-append text (events_of file (take i steps)) (event_after file (take i steps) step ∷ [])
    ∙ ap (λ (l : List ℕ). flat_map text (events_of file (take i steps)) ++ l) (append-nil (text (event_after file (take i steps) step)))
