-- Runs that are led by legs and then to the ends of threads.
use Rattle.std.specs.Prelude.{◌⊎◌, Some, max}
use Rattle.std.specs.List.{flat_map}
use Rattle.std.proofs.Common.{◌≡◌, ℕ, zero, suc, ◌≤◌, ◌<◌, List, [], ◌∷◌, ◌++◌, length, drop, replicate, refl, sym, ap, ◌∙◌, subst, arith, Bool, true, false, inl, inr, append_assoc, append-nil, length-append}
use Rattle.std.proofs.lemmas.List.{map-append}
use Rattle.sto_core.specs.Core.{Core}
use Rattle.sto_trace.specs.declared.Step.{Step}
use Rattle.sto_run_steps.specs.Logged.{RunLog, most_kept}
use Rattle.sto_explore.specs.Schedules.{Turn}
use Rattle.sto_explore.specs.Legs.{turns_with, turns_of, schedule_of, LeadToEnds, AreTold}
use Rattle.sto_explore.specs.declared.leg.Leg.{Leg}
use Rattle.sto_explore.proofs.Following.{threads_with, told_append}
use Rattle.sto_run_schedules.specs.Parted.{front_of, past, ends_of}
use Rattle.sto_run_schedules.specs.Telling.{IsToldAfter, HadSome}
use Rattle.sto_run_schedules.proofs.Turned.{AreLaws, AllTurns, Split, split, join, no_more, Events, Block, block, AreOfOthers, had_more}
use Rattle.sto_run_schedules.proofs.Fronts.{front_is, past_front}

-- the schedule of a leg and others
pub schedule_cons : (leg : Leg) (legs : List Leg) → schedule_of (leg ∷ legs) ≡ replicate leg.turns leg.thread ++ schedule_of legs
schedule_cons leg legs =
    map-append (λ (t : Turn). t.thread) (turns_with leg.thread leg.over leg.turns) (turns_of legs)
    ∙ ap (λ (l : List ℕ). l ++ schedule_of legs) (threads_with leg.thread leg.over leg.turns)

module _ {S : Type 0} (IsOver : ℕ → S → Type 0) (Turn : ℕ → Core → S → RunLog → Core → S → RunLog → Type 0) (Had : List ℕ → Core → S → RunLog → Core → S → RunLog → Type 0) (laws : AreLaws IsOver Turn Had) where
  -- a block of turns and what follows it
  record Parts (n t : ℕ) (more : List ℕ) (c : Core) (seats : S) (steps new : List Step) (d : Core) (later : S) : Type 0 where
    s : Split IsOver Turn (replicate n t) more c seats steps new d later
    b : Block IsOver Turn n t c seats steps s.front s.e s.middle
    end : (length s.front ≡ n) ⊎ AreOfOthers t s.back
    front : front_of t n new ≡ length s.front
    back : drop (front_of t n new) new ≡ s.back

  parted : (n t : ℕ) (more : List ℕ) (c d : Core) (seats later : S) (steps new : List Step) → AllTurns IsOver Turn (replicate n t ++ more) c seats steps new d later
      → Parts n t more c seats steps new d later
  parted n t more c d seats later steps new h =
      let s = split IsOver Turn Had laws (replicate n t) more c d seats later steps new h in
      let b = block IsOver Turn Had laws n t c s.e seats s.middle steps s.front s.before in
      let many = b.many in
      let few = b.few in
      let short : length s.front ≤ n = omega (arith, many, few) in
      let end : (length s.front ≡ n) ⊎ AreOfOthers t s.back = (elim b.end [
        | inl all ↦ inl (many ∙ all)
        | inr over ↦ inr (no_more IsOver Turn Had laws t more s.e d s.middle later (steps ++ s.front) s.back over s.after)
      ]) in
      record {
        s = s;
        b = b;
        end = end;
        front = subst (λ (l : List Step). front_of t n l ≡ length s.front) (sym s.whole) (front_is t n s.front s.back b.own short end);
        back = subst (λ (l : List Step). drop (front_of t n l) l ≡ s.back) (sym s.whole) (past_front t n s.front s.back b.own short end);
      }

  -- the turns of legs, and the steps past them
  pub record Begun (decided : List Leg) (more : List ℕ) (c : Core) (seats : S) (steps new : List Step) (d : Core) (later : S) : Type 0 where
    pub s : Split IsOver Turn (schedule_of decided) more c seats steps new d later
    pub left : past decided new ≡ s.back

  pub begun : (decided : List Leg) (more : List ℕ) (c d : Core) (seats later : S) (steps new : List Step) → AllTurns IsOver Turn (schedule_of decided ++ more) c seats steps new d later
      → Begun decided more c seats steps new d later
  begun [] more c d seats later steps new h = record {
    s = record {
      e = c;
      middle = seats;
      front = [];
      back = new;
      before = (refl, refl, refl);
      after = subst (λ (l : List Step). AllTurns IsOver Turn more c seats l new d later) (sym (append-nil steps)) h;
      whole = refl;
    };
    left = refl;
  }
  begun (leg ∷ decided) more c d seats later steps new h =
      let t = leg.thread in
      let n = leg.turns in
      let whole = schedule_cons leg decided in
      let p = parted n t (schedule_of decided ++ more) c d seats later steps new
      (subst (λ (l : List ℕ). AllTurns IsOver Turn l c seats steps new d later) (ap (λ (l : List ℕ). l ++ more) whole ∙ append_assoc (replicate n t) (schedule_of decided) more) h) in
      let k = begun decided more p.s.e d p.s.middle later (steps ++ p.s.front) p.s.back p.s.after in
      record {
        s = record {
          e = k.s.e;
          middle = k.s.middle;
          front = p.s.front ++ k.s.front;
          back = k.s.back;
          before = subst (λ (l : List ℕ). AllTurns IsOver Turn l c seats steps (p.s.front ++ k.s.front) k.s.e k.s.middle) (sym whole)
              (join IsOver Turn Had laws (replicate n t) (schedule_of decided) c p.s.e k.s.e seats p.s.middle k.s.middle steps p.s.front k.s.front p.s.before k.s.before);
          after = subst (λ (l : List Step). AllTurns IsOver Turn more k.s.e k.s.middle l k.s.back d later) (append_assoc steps p.s.front k.s.front) k.s.after;
          whole = p.s.whole ∙ ap (λ (l : List Step). p.s.front ++ l) k.s.whole ∙ sym (append_assoc p.s.front k.s.front k.s.back);
        };
        left = ap (past decided) p.back ∙ k.left;
      }

  module _ (IsNew : S → Type 0) (opened : Core) (first : S) (new_seats : IsNew first) where
    -- what is told of these turns
    abbrev pub Told : List ℕ → Bool → Type 0
    Told = IsToldAfter IsNew (HadSome Had opened) IsOver

    -- from the opening, threads had these turns, and have come to this
    abbrev pub Reach : List ℕ → Core → S → List Step → Type 0
    Reach before c seats steps = Had before opened first (Some []) c seats (Some steps)

    further : (before : List ℕ) (t : ℕ) (c d : Core) (seats later : S) (steps more : List Step) → Reach before c seats steps
        → Turn t c seats (Some steps) d later (Some more) → Reach (before ++ t ∷ []) d later more
    further before t c d seats later steps more h turn = had_more IsOver Turn Had laws before t opened c d first seats later (Some []) (Some steps) (Some more) h turn

    is_over : (before : List ℕ) (t : ℕ) (d : Core) (later : S) (steps : List Step) → Reach (before ++ t ∷ []) d later steps → IsOver t later → Told (before ++ t ∷ []) true
    is_over before t d later steps h over = record {
      before = before;
      thread = t;
      last = refl;
      seats = first;
      new = new_seats;
      later = later;
      had = (d, Some steps, h);
      is = over;
    }

    is_not : (before : List ℕ) (t : ℕ) (d : Core) (later : S) (steps : List Step) → Reach (before ++ t ∷ []) d later steps → (IsOver t later → ⊥) → Told (before ++ t ∷ []) false
    is_not before t d later steps h going = record {
      before = before;
      thread = t;
      last = refl;
      seats = first;
      new = new_seats;
      later = later;
      had = (d, Some steps, h);
      is = going;
    }

    -- a leg of some events to the end of a thread was told, and leads there
    pub record Led (before : List ℕ) (t n : ℕ) (d : Core) (later : S) (steps : List Step) : Type 0 where
      pub told : AreTold Told before (turns_with t true n)
      pub there : Reach (before ++ replicate n t) d later steps

    led : (n t : ℕ) (before : List ℕ) (c d : Core) (seats later : S) (steps new : List Step) → Events IsOver Turn (suc n) t c seats steps new d later → IsOver t later
        → Reach before c seats steps → Led before t (suc n) d later (steps ++ new)
    led zero t before c d seats later steps new h over reach =
        let here = further before t c h.0 seats h.1 steps (steps ++ h.2 ∷ []) reach h.5 in
        let last = h.7 in
        let all : steps ++ h.2 ∷ [] ≡ steps ++ new = ap (λ (l : List Step). steps ++ h.2 ∷ l) (sym last.2) ∙ ap (λ (l : List Step). steps ++ l) (sym h.8) in
        let there = subst (λ (x : Core). Reach (before ++ t ∷ []) x later (steps ++ new)) (sym last.0)
        (subst (λ (l : S). Reach (before ++ t ∷ []) h.0 l (steps ++ new)) (sym last.1)
        (subst (λ (l : List Step). Reach (before ++ t ∷ []) h.0 h.1 l) all here)) in
        record { told = (is_over before t d later (steps ++ new) there over, tt); there = there }
    led (suc n) t before c d seats later steps new h over reach =
        let here = further before t c h.0 seats h.1 steps (steps ++ h.2 ∷ []) reach h.5 in
        let rest = led n t (before ++ t ∷ []) h.0 d h.1 later (steps ++ h.2 ∷ []) h.3 h.7 over here in
        let all : (steps ++ h.2 ∷ []) ++ h.3 ≡ steps ++ new = append_assoc steps (h.2 ∷ []) h.3 ∙ ap (λ (l : List Step). steps ++ l) (sym h.8) in
        record {
          told = (is_not before t h.0 h.1 (steps ++ h.2 ∷ []) here h.7.4, rest.told);
          there = subst (λ (l : List Step). Reach (before ++ replicate (suc (suc n)) t) d later l) all
              (subst (λ (l : List ℕ). Reach l d later ((steps ++ h.2 ∷ []) ++ h.3)) (append_assoc before (t ∷ []) (replicate (suc n) t)) rest.there);
        }

    -- the same where there may be none: then one turn of the thread, which is over, does nothing
    led_any : (n k t : ℕ) (before : List ℕ) (c d : Core) (seats later : S) (steps new : List Step) → Events IsOver Turn n t c seats steps new d later → k ≡ max 1 n → IsOver t later
        → Reach before c seats steps → Led before t k d later (steps ++ new)
    led_any zero k t before c d seats later steps new h is over reach =
        let one : 1 ≡ k = omega (arith, is) in
        let all : steps ≡ steps ++ new = sym (ap (λ (l : List Step). steps ++ l) h.2 ∙ append-nil steps) in
        let at = subst (λ (x : Core). Reach before x later (steps ++ new)) (sym h.0) (subst (λ (l : S). Reach before c l (steps ++ new)) (sym h.1) (subst (λ (l : List Step). Reach before c seats l) all reach)) in
        let there = further before t d d later later (steps ++ new) (steps ++ new) at (laws.rests t d later (Some (steps ++ new)) over) in
        subst (λ (m : ℕ). Led before t m d later (steps ++ new)) one (record { told = (is_over before t d later (steps ++ new) there over, tt); there = there })
    led_any (suc n) k t before c d seats later steps new h is over reach =
        let same : suc n ≡ k = omega (arith, is) in
        subst (λ (m : ℕ). Led before t m d later (steps ++ new)) same (led n t before c d seats later steps new h over reach)

    -- threads were led to their ends, one after the other
    pub record Ended (n : ℕ) (order before more : List ℕ) (new : List Step) (d : Core) (later : S) : Type 0 where
      pub ends : LeadToEnds order (ends_of n order new)
      pub told : AreTold Told before (turns_of (ends_of n order new))
      pub e : Core
      pub middle : S
      pub steps : List Step
      pub back : List Step
      pub there : Reach (before ++ schedule_of (ends_of n order new)) e middle steps
      pub after : AllTurns IsOver Turn more e middle steps back d later

    pub ended : (n : ℕ) (order before more : List ℕ) (c d : Core) (seats later : S) (steps new : List Step) → most_kept < n → length (steps ++ new) ≤ most_kept
        → Reach before c seats steps → AllTurns IsOver Turn (flat_map (replicate n) order ++ more) c seats steps new d later → Ended n order before more new d later
    ended n [] before more c d seats later steps new enough few reach h = record {
      ends = tt;
      told = tt;
      e = c;
      middle = seats;
      steps = steps;
      back = new;
      there = subst (λ (l : List ℕ). Reach l c seats steps) (sym (append-nil before)) reach;
      after = h;
    }
    ended n (t ∷ order) before more c d seats later steps new enough few reach h =
        let p = parted n t (flat_map (replicate n) order ++ more) c d seats later steps new
        (subst (λ (l : List ℕ). AllTurns IsOver Turn l c seats steps new d later) (append_assoc (replicate n t) (flat_map (replicate n) order) more) h) in
        let made = front_of t n new in
        let leg : Leg = record { thread = t; turns = max 1 made; over = true } in
        let legs = ends_of n order (drop made new) in
        let all = ap (λ (l : List Step). length l) p.s.whole ∙ length-append p.s.front p.s.back in
        let long = length-append steps new in
        let many = p.b.many in
        let over : IsOver t p.s.middle = (elim p.b.end [
          | inl most ↦ absurd (omega (arith, most, many, all, long, few, enough))
          | inr is ↦ is
        ]) in
        let k = led_any p.b.count (max 1 made) t before c p.s.e seats p.s.middle steps p.s.front p.b.events (ap (λ (m : ℕ). max 1 m) (p.front ∙ many)) over reach in
        let short : length ((steps ++ p.s.front) ++ p.s.back) ≤ most_kept =
        subst (λ (l : List Step). length l ≤ most_kept) (ap (λ (l : List Step). steps ++ l) p.s.whole ∙ sym (append_assoc steps p.s.front p.s.back)) few in
        let rest = ended n order (before ++ replicate (max 1 made) t) more p.s.e d p.s.middle later (steps ++ p.s.front) p.s.back enough short k.there p.s.after in
        let same : ends_of n order p.s.back ≡ legs = ap (ends_of n order) (sym p.back) in
        let threads = threads_with t true (max 1 made) in
        record {
          ends = (refl, refl, omega arith, subst (LeadToEnds order) same rest.ends);
          told = told_append Told before (turns_with t true (max 1 made)) (turns_of legs) k.told
              (subst (λ (l : List ℕ). AreTold Told (before ++ l) (turns_of legs)) (sym threads) (subst (λ (l : List Leg). AreTold Told (before ++ replicate (max 1 made) t) (turns_of l)) same rest.told));
          e = rest.e;
          middle = rest.middle;
          steps = rest.steps;
          back = rest.back;
          there = subst (λ (l : List ℕ). Reach l rest.e rest.middle rest.steps)
              (append_assoc before (replicate (max 1 made) t) (schedule_of (ends_of n order p.s.back)) ∙ ap (λ (l : List Leg). before ++ (replicate (max 1 made) t ++ schedule_of l)) same ∙ ap (λ (l : List ℕ). before ++ l) (sym (schedule_cons leg legs)))
              rest.there;
          after = rest.after;
        }
