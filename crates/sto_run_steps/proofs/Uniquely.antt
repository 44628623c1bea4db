-- There is one run by a schedule.
use Rattle.std.specs.Prelude.{slice_get, slice_set, Some, None, Option, drop}
use Rattle.std.specs.List.{flat_map}
use Rattle.std.proofs.Common.{◌≡◌, ℕ, ℤ, zero, suc, ◌+◌, List, [], ◌∷◌, ◌++◌, length, true, false, true≢false, refl, sym, ap, ◌∙◌, subst, inl, inr}
use Rattle.sto_lang.specs.Scripts.{Script}
use Rattle.sto_lang.specs.declared.file.Turns.{Turns}
use Rattle.sto_script.specs.Meaning.{meaning_of}
use Rattle.sto_core.specs.Core.{Core}
use Rattle.sto_core.specs.Reopened.{reopened_core}
use Rattle.sto_core.specs.History.{Validity}
use Rattle.sto_plain.specs.Passes.{Steps}
use Rattle.sto_attempt_log.specs.Doing.{Doing, begun, event_next, heard_in, DoesNext}
use Rattle.sto_attempt_log.specs.declared.verdict.Verdict.{Verdict}
use Rattle.sto_attempt_log.proofs.Doings.{steps_once}
use Rattle.sto_history.specs.Records.{Record}
use Rattle.sto_run_threads.specs.Orders.{TransactionPlace, numbers_from, transaction_at}
use Rattle.sto_run_threads.specs.Plans.{Plan}
use Rattle.sto_run_steps.specs.Turning.{entry_turns}
use Rattle.sto_run_steps.specs.Scheduled.{Thread, Made, Scene, StepsOn, MakesOf, Makes, Passes, TurnsBy, RoundsBy, EndsIn, RunsEach, StepsBy, first_scene, places_left, sat, doing_of, heard_of, record_of, is_over, are_over}

same_thread : (a b : Thread) → Some a ≡ Some b → a ≡ b
same_thread a b e = cc

same_script : (a b : Script) → Some a ≡ Some b → a ≡ b
same_script a b e = cc

same_verdict : (a b : Verdict) → Some a ≡ Some b → a ≡ b
same_verdict a b e = cc

some_none : (a : Verdict) → Some a ≡ None → ⊥
some_none a e = cc

module _ (plan : Plan) (valid : Validity) where
  -- what a step finds and leaves, as one
  pub record SameStep (d e : Core) (n k : ℕ) (x y : ℤ) (later next : Doing) (a b : Option Verdict) : Type 0 where
    pub core : d ≡ e
    pub number : n ≡ k
    pub value : x ≡ y
    pub led : later ≡ next
    pub end : a ≡ b

  step_once : (pass : ℕ) (f : Script) (now : Doing) (c d e : Core) (n k : ℕ) (x y : ℤ) (later next : Doing) (a b : Option Verdict)
      → StepsOn plan valid pass f now c d n x later a → StepsOn plan valid pass f now c e k y next b → SameStep d e n k x y later next a b
  step_once pass f now c d e n k x y later next a b h l =
      let number : n ≡ k = h.steps.number ∙ sym l.steps.number in
      let value : x ≡ y = h.steps.value ∙ sym l.steps.value in
      let led = steps_once plan.meaning (meaning_of f) now n x later next a b h.does
      (subst (λ (i : ℕ). DoesNext plan.meaning (meaning_of f) now i x next b) (sym number) (subst (λ (z : ℤ). DoesNext plan.meaning (meaning_of f) now k z next b) (sym value) l.does)) in
      record { core = h.steps.core ∙ sym l.steps.core; number = number; value = value; led = led.0; end = led.1 }

  made_once : (thread : ℕ) (s : Thread) (f : Script) (scene a b : Scene) → MakesOf plan valid thread s f scene a → MakesOf plan valid thread s f scene b → a ≡ b
  made_once thread s f scene a b h k =
      let same = step_once thread f (doing_of s.trial) scene.core h.core k.core h.number k.number h.value k.value h.later k.later h.end k.end h.steps k.steps in
      h.after ∙ (λ i. record {
        core = same.core i;
        threads = slice_set scene.threads thread (sat plan thread s (same.led i) (same.end i));
        made = scene.made ++ record {
          thread = thread;
          position = s.ended + 1;
          event = event_next plan.meaning (doing_of s.trial);
          number = same.number i;
          value = same.value i;
          replies = drop (length (heard_of s.trial)) (heard_in (same.led i));
          end = same.end i;
        } ∷ [];
      }) ∙ sym k.after

  makes_once : (thread : ℕ) (scene a b : Scene) → Makes plan valid thread scene a → Makes plan valid thread scene b → a ≡ b
  makes_once thread scene a b h k =
      let seat : k.before ≡ h.before = same_thread k.before h.before (sym k.at ∙ h.at) in
      let script : k.script ≡ h.script = same_script k.script h.script (sym k.there ∙ ap (λ (s : Thread). transaction_at plan.file (thread, s.ended + 1)) seat ∙ h.there) in
      made_once thread h.before h.script scene a b h.makes
      (subst (λ (f : Script). MakesOf plan valid thread h.before f scene b) script (subst (λ (s : Thread). MakesOf plan valid thread s k.script scene b) seat k.makes))

  not_passed : (thread : ℕ) (scene a b : Scene) → Makes plan valid thread scene a → Passes plan valid thread scene b → ⊥
  not_passed thread scene a b h k =
      let seat : k.before ≡ h.before = same_thread k.before h.before (sym k.at ∙ h.at) in
      true≢false (sym k.over ∙ ap (is_over plan thread) seat ∙ h.going)

  pub turns_once : (threads : List ℕ) (scene a b : Scene) → TurnsBy plan valid threads scene a → TurnsBy plan valid threads scene b → a ≡ b
  turns_once [] scene a b h k = h ∙ sym k
  turns_once (thread ∷ threads) scene a b h k =
      let same : k.0 ≡ h.0 = elim h.1 [
        | inl made ↦ elim k.1 [ inl too ↦ makes_once thread scene k.0 h.0 too made | inr over ↦ absurd (not_passed thread scene h.0 k.0 made over) ]
        | inr over ↦ elim k.1 [ inl made ↦ absurd (not_passed thread scene k.0 h.0 made over) | inr too ↦ too.after ∙ sym over.after ]
      ] in
      turns_once threads h.0 a b h.2 (subst (λ (s : Scene). TurnsBy plan valid threads s b) same k.2)

  pub rounds_once : (n m : ℕ) (scene a b : Scene) → RoundsBy plan valid n scene a → RoundsBy plan valid m scene b → a ≡ b
  rounds_once zero zero scene a b h k = h.1 ∙ sym k.1
  rounds_once zero (suc m) scene a b h k = absurd (true≢false (sym h.0 ∙ k.0))
  rounds_once (suc n) zero scene a b h k = absurd (true≢false (sym k.0 ∙ h.0))
  rounds_once (suc n) (suc m) scene a b h k =
      let same : k.1 ≡ h.1 = turns_once (numbers_from 0 (length scene.threads)) scene k.1 h.1 k.2 h.2 in
      rounds_once n m h.1 a b h.3 (subst (λ (s : Scene). RoundsBy plan valid m s b) same k.3)

  -- where an attempt that is run to its end leads, as one
  pub record SameEnd (d e : Core) (later next : Doing) (a b : Verdict) : Type 0 where
    pub core : d ≡ e
    pub led : later ≡ next
    pub end : a ≡ b

  ends_once : (n m : ℕ) (f : Script) (now : Doing) (c d e : Core) (later next : Doing) (a b : Verdict)
      → EndsIn plan valid n f now c d later a → EndsIn plan valid m f now c e next b → SameEnd d e later next a b
  ends_once zero m f now c d e later next a b h k = absurd h
  ends_once (suc n) zero f now c d e later next a b h k = absurd k
  ends_once (suc n) (suc m) f now c d e later next a b h k =
      let same = step_once 0 f now c h.0 k.0 h.1 k.1 h.2 k.2 h.3 k.3 h.4 k.4 h.5 k.5 in
      elim h.6 [
        | inl done ↦ elim k.6 [
          | inl too ↦ record { core = done.2 ∙ same.core ∙ sym too.2; led = done.3 ∙ same.led ∙ sym too.3; end = same_verdict a b (sym done.1 ∙ same.end ∙ too.1) }
          | inr on ↦ absurd (some_none a (sym done.1 ∙ same.end ∙ on.0))
        ]
        | inr on ↦ elim k.6 [
          | inl done ↦ absurd (some_none b (sym done.1 ∙ sym same.end ∙ on.0))
          | inr too ↦ ends_once n m f h.3 h.0 d e later next a b on.1
              (subst (λ (x : Core). EndsIn plan valid m f h.3 x e next b) (sym same.core) (subst (λ (x : Doing). EndsIn plan valid m f x k.0 e next b) (sym same.led) too.1))
        ]
      ]

  pub each_once : (places : List TransactionPlace) (c d e : Core) (rs ss : List Record) → RunsEach plan valid places c d rs → RunsEach plan valid places c e ss → (d ≡ e) × (rs ≡ ss)
  each_once [] c d e rs ss h k = (h.0 ∙ sym k.0, h.1 ∙ sym k.1)
  each_once (place ∷ places) c d e rs ss h k =
      let script : k.0 ≡ h.0 = same_script k.0 h.0 (sym k.1 ∙ h.1) in
      let same = ends_once h.2 k.2 h.0 begun c h.3 k.3 h.4 k.4 h.5 k.5 h.6 (subst (λ (f : Script). EndsIn plan valid k.2 f begun c k.3 k.4 k.5) script k.6) in
      let rest = each_once places h.3 d e h.7 k.7 h.8 (subst (λ (x : Core). RunsEach plan valid places x e k.7) (sym same.core) k.8) in
      (rest.0, h.9 ∙ (λ i. record_of place (same.led i) (same.end i) ∷ rest.1 i) ∙ sym k.9)

  -- by one schedule the same events are made, and the same records come of it, on words that are left the same
  pub run_once : (schedule : List Turns) (made done : List Made) (rs ss : List Record) (last end : Core)
      → StepsBy plan valid schedule made rs last → StepsBy plan valid schedule done ss end → (made ≡ done) × (rs ≡ ss) × (last ≡ end)
  run_once schedule made done rs ss last end h k =
      let followed : k.followed ≡ h.followed = turns_once (flat_map entry_turns schedule) (first_scene plan valid) k.followed h.followed k.follows h.follows in
      let stepped : k.stepped ≡ h.stepped =
      rounds_once k.rounds h.rounds h.followed k.stepped h.stepped (subst (λ (s : Scene). RoundsBy plan valid k.rounds s k.stepped) followed k.finishes) h.finishes in
      let rest = each_once (places_left plan valid 0 h.stepped.threads) (reopened_core plan.sizes plan.meaning.opened h.stepped.core) last end h.others k.others h.runs
      (subst (λ (s : Scene). RunsEach plan valid (places_left plan valid 0 s.threads) (reopened_core plan.sizes plan.meaning.opened s.core) end k.others) stepped k.runs) in (
        h.events ∙ ap (λ (s : Scene). s.made) (sym stepped) ∙ sym k.events,
        h.records ∙ (λ i. flat_map (λ (t : Thread). t.records) (sym stepped i).threads ++ rest.1 i) ∙ sym k.records,
        rest.0,
      )
