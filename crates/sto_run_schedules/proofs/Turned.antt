-- Turns of threads and the steps that they made, one after the other: of threads that stand so, and may be over, and whose turns obey some laws.
use Rattle.std.specs.Prelude.{◌⊎◌, nat_lt, nat_eq, Option, None, Some}
use Rattle.std.specs.List.{AllByRecursion}
use Rattle.std.proofs.Common.{◌≡◌, ℕ, zero, suc, ◌≤◌, List, [], ◌∷◌, ◌++◌, length, replicate, refl, sym, ap, ◌∙◌, subst, arith, true, false, inl, inr, append_assoc, append-nil, length-append}
use Rattle.std.proofs.lemmas.Bool.{cases_Bool, cond-true, cond-false, eq-eqb, false_from_ne_true, eqb-true, ltb-true}
use Rattle.std.proofs.lemmas.Option.{same_Some}
use Rattle.sto_core.specs.Core.{Core}
use Rattle.sto_trace.specs.declared.Step.{Step}
use Rattle.sto_run_steps.specs.Logged.{RunLog, most_kept, with_step}

some_none : {A : Type 0} (x : A) → ◌≡◌ {A = Option A} (Some x) None → ⊥
some_none x e = cc

-- steps are of one thread, and of others
abbrev pub AreOf : ℕ → List Step → Type 0
AreOf thread steps = AllByRecursion (λ (step : Step). nat_eq step.thread thread ≡ true) steps

abbrev pub AreOfOthers : ℕ → List Step → Type 0
AreOfOthers thread steps = AllByRecursion (λ (step : Step). nat_eq step.thread thread ≡ false) steps

module _ {S : Type 0} (IsOver : ℕ → S → Type 0) (Turn : ℕ → Core → S → RunLog → Core → S → RunLog → Type 0) where
  -- a turn that added these steps to others
  pub record OneTurn (thread : ℕ) (c : Core) (seats : S) (steps new : List Step) (d : Core) (later : S) : Type 0 where
    pub turn : Turn thread c seats (Some steps) d later (Some (steps ++ new))
    pub made : (IsOver thread seats × (d ≡ c) × (later ≡ seats) × (new ≡ []))
        ⊎ ((IsOver thread seats → ⊥) × (step : Step) × (nat_eq step.thread thread ≡ true) × (new ≡ step ∷ []))

  -- turns that did
  abbrev pub AllTurns : List ℕ → Core → S → (steps new : List Step) → Core → S → Type 0
  AllTurns [] c seats steps new d later = (d ≡ c) × (later ≡ seats) × (new ≡ [])
  AllTurns (thread ∷ threads) c seats steps new d later =
      (e : Core) × (middle : S) × (first : List Step) × (rest : List Step) × OneTurn thread c seats steps first e middle
      × AllTurns threads e middle (steps ++ first) rest d later × (new ≡ first ++ rest)

  -- turns in two parts
  pub record Split (first rest : List ℕ) (c : Core) (seats : S) (steps new : List Step) (d : Core) (later : S) : Type 0 where
    pub e : Core
    pub middle : S
    pub front : List Step
    pub back : List Step
    pub before : AllTurns first c seats steps front e middle
    pub after : AllTurns rest e middle (steps ++ front) back d later
    pub whole : new ≡ front ++ back

  -- so many events of a thread, one after the other
  abbrev pub Events : ℕ → ℕ → Core → S → (steps new : List Step) → Core → S → Type 0
  Events zero t c seats steps new d later = (d ≡ c) × (later ≡ seats) × (new ≡ [])
  Events (suc n) t c seats steps new d later =
      (e : Core) × (middle : S) × (step : Step) × (rest : List Step) × (IsOver t seats → ⊥)
      × Turn t c seats (Some steps) e middle (Some (steps ++ step ∷ [])) × (nat_eq step.thread t ≡ true)
      × Events n t e middle (steps ++ step ∷ []) rest d later × (new ≡ step ∷ rest)

  -- of so many turns of a thread the first made an event each, up to the last or to the end of the thread
  pub record Block (n t : ℕ) (c : Core) (seats : S) (steps new : List Step) (d : Core) (later : S) : Type 0 where
    pub count : ℕ
    pub few : count ≤ n
    pub events : Events count t c seats steps new d later
    pub many : length new ≡ count
    pub own : AreOf t new
    pub end : (count ≡ n) ⊎ IsOver t later

-- what is known of turns: a thread that is over stays so; a turn adds no step to none, and none where the thread is over; else it adds one
pub record AreLaws {S : Type 0} (IsOver : ℕ → S → Type 0) (Turn : ℕ → Core → S → RunLog → Core → S → RunLog → Type 0) (Had : List ℕ → Core → S → RunLog → Core → S → RunLog → Type 0) : Type 0 where
  pub stays : (t thread : ℕ) (c d : Core) (seats later : S) (log next : RunLog) → IsOver t seats → Turn thread c seats log d later next → IsOver t later
  pub none : (thread : ℕ) (c d : Core) (seats later : S) (next : RunLog) → Turn thread c seats None d later next → next ≡ None
  pub rests : (thread : ℕ) (c : Core) (seats : S) (log : RunLog) → IsOver thread seats → Turn thread c seats log c seats log
  pub kinds : (thread : ℕ) (c d : Core) (seats later : S) (steps : List Step) (next : RunLog) → Turn thread c seats (Some steps) d later next
      → (IsOver thread seats × (d ≡ c) × (later ≡ seats) × (next ≡ Some steps)) ⊎ ((IsOver thread seats → ⊥) × (step : Step) × (step.thread ≡ thread) × (next ≡ with_step steps step))
  pub nil : (c d : Core) (seats later : S) (log next : RunLog) → Had [] c seats log d later next → (d ≡ c) × (later ≡ seats) × (next ≡ log)
  pub to_nil : (c d : Core) (seats later : S) (log next : RunLog) → (d ≡ c) × (later ≡ seats) × (next ≡ log) → Had [] c seats log d later next
  pub cons : (thread : ℕ) (threads : List ℕ) (c d : Core) (seats later : S) (log next : RunLog) → Had (thread ∷ threads) c seats log d later next
      → (e : Core) × (middle : S) × (kept : RunLog) × Turn thread c seats log e middle kept × Had threads e middle kept d later next
  pub to_cons : (thread : ℕ) (threads : List ℕ) (c e d : Core) (seats middle later : S) (log kept next : RunLog) → Turn thread c seats log e middle kept → Had threads e middle kept d later next
      → Had (thread ∷ threads) c seats log d later next

module _ {S : Type 0} (IsOver : ℕ → S → Type 0) (Turn : ℕ → Core → S → RunLog → Core → S → RunLog → Type 0) (Had : List ℕ → Core → S → RunLog → Core → S → RunLog → Type 0) (laws : AreLaws IsOver Turn Had) where
  -- where no steps are kept, none are kept later
  none_left : (threads : List ℕ) (c d : Core) (seats later : S) (next : RunLog) → Had threads c seats None d later next → next ≡ None
  none_left [] c d seats later next h = (laws.nil c d seats later None next h).2
  none_left (thread ∷ threads) c d seats later next h =
      let k = laws.cons thread threads c d seats later None next h in
      none_left threads k.0 d k.1 later next (subst (λ (o : RunLog). Had threads k.0 k.1 o d later next) (laws.none thread c k.0 seats k.1 k.2 k.3) k.4)

  -- no more steps are kept than may be
  kept_step : (thread : ℕ) (c d : Core) (seats later : S) (steps : List Step) (next : RunLog) → Turn thread c seats (Some steps) d later next → length steps ≤ most_kept
      → (next ≡ None) ⊎ ((new : List Step) × (next ≡ Some (steps ++ new)) × OneTurn IsOver Turn thread c seats steps new d later × (length (steps ++ new) ≤ most_kept))
  kept_step thread c d seats later steps next turn few = elim (laws.kinds thread c d seats later steps next turn) [
    | inl idle ↦
        let is : next ≡ Some (steps ++ []) = idle.3 ∙ ap Some (sym (append-nil steps)) in
        inr (
          [],
          is,
          record { turn = subst (λ (o : RunLog). Turn thread c seats (Some steps) d later o) is turn; made = inl (idle.0, idle.1, idle.2, refl) },
          subst (λ (l : List Step). length l ≤ most_kept) (sym (append-nil steps)) few,
        )
    | inr one ↦
        let step = one.1 in
        elim (cases_Bool (nat_lt (length steps) most_kept)) [
          | inl room ↦
              let is : next ≡ Some (steps ++ step ∷ []) = one.3 ∙ cond-true (nat_lt (length steps) most_kept) (Some (steps ++ step ∷ [])) None room in
              inr (
                step ∷ [],
                is,
                record {
                  turn = subst (λ (o : RunLog). Turn thread c seats (Some steps) d later o) is turn;
                  made = inr (one.0, step, eq-eqb step.thread thread one.2, refl);
                },
                (let l = length-append steps (step ∷ []) in let r = ltb-true (length steps) most_kept room in omega (arith, l, r)),
              )
          | inr full ↦ inl (one.3 ∙ cond-false (nat_lt (length steps) most_kept) (Some (steps ++ step ∷ [])) None full)
        ]
  ]

  -- turns whose steps were kept to the last
  pub kept_turns : (threads : List ℕ) (c d : Core) (seats later : S) (steps all : List Step) → Had threads c seats (Some steps) d later (Some all) → length steps ≤ most_kept
      → (new : List Step) × AllTurns IsOver Turn threads c seats steps new d later × (all ≡ steps ++ new) × (length all ≤ most_kept)
  kept_turns [] c d seats later steps all had few =
      let h = laws.nil c d seats later (Some steps) (Some all) had in
      let same : all ≡ steps = same_Some all steps h.2 in
      ([], (h.0, h.1, refl), same ∙ sym (append-nil steps), subst (λ (l : List Step). length l ≤ most_kept) (sym same) few)
  kept_turns (thread ∷ threads) c d seats later steps all had few =
      let h = laws.cons thread threads c d seats later (Some steps) (Some all) had in
      elim (kept_step thread c h.0 seats h.1 steps h.2 h.3 few) [
        | inl none ↦ absurd (some_none all (none_left threads h.0 d h.1 later (Some all) (subst (λ (o : RunLog). Had threads h.0 h.1 o d later (Some all)) none h.4)))
        | inr k ↦
            let rest = kept_turns threads h.0 d h.1 later (steps ++ k.0) all (subst (λ (o : RunLog). Had threads h.0 h.1 o d later (Some all)) k.1 h.4) k.3 in (
              k.0 ++ rest.0,
              (h.0, h.1, k.0, rest.0, k.2, rest.1, refl),
              rest.2 ∙ append_assoc steps k.0 rest.0,
              rest.3,
            )
      ]

  -- turns that added steps are turns
  pub turns_had : (threads : List ℕ) (c d : Core) (seats later : S) (steps new : List Step) → AllTurns IsOver Turn threads c seats steps new d later
      → Had threads c seats (Some steps) d later (Some (steps ++ new))
  turns_had [] c d seats later steps new h =
      laws.to_nil c d seats later (Some steps) (Some (steps ++ new)) (h.0, h.1, ap (λ (l : List Step). Some (steps ++ l)) h.2 ∙ ap Some (append-nil steps))
  turns_had (thread ∷ threads) c d seats later steps new h =
      laws.to_cons thread threads c h.0 d seats h.1 later (Some steps) (Some (steps ++ h.2)) (Some (steps ++ new)) h.4.turn
      (subst (λ (o : RunLog). Had threads h.0 h.1 (Some (steps ++ h.2)) d later o) (ap Some (append_assoc steps h.2 h.3 ∙ ap (λ (l : List Step). steps ++ l) (sym h.6)))
      (turns_had threads h.0 d h.1 later (steps ++ h.2) h.3 h.5))

  -- turns after others
  pub had_append : (first rest : List ℕ) (c d e : Core) (seats middle later : S) (log kept next : RunLog) → Had first c seats log d middle kept → Had rest d middle kept e later next
      → Had (first ++ rest) c seats log e later next
  had_append [] rest c d e seats middle later log kept next had k =
      let h = laws.nil c d seats middle log kept had in
      subst (λ (x : Core). Had rest x seats log e later next) h.0
      (subst (λ (l : S). Had rest d l log e later next) h.1 (subst (λ (o : RunLog). Had rest d middle o e later next) h.2 k))
  had_append (thread ∷ first) rest c d e seats middle later log kept next had k =
      let h = laws.cons thread first c d seats middle log kept had in
      laws.to_cons thread (first ++ rest) c h.0 e seats h.1 later log h.2 next h.3 (had_append first rest h.0 d e h.1 middle later h.2 kept next h.4 k)

  -- one turn more
  pub had_more : (threads : List ℕ) (thread : ℕ) (c d e : Core) (seats middle later : S) (log kept next : RunLog) → Had threads c seats log d middle kept → Turn thread d middle kept e later next
      → Had (threads ++ thread ∷ []) c seats log e later next
  had_more threads thread c d e seats middle later log kept next h turn =
      had_append threads (thread ∷ []) c d e seats middle later log kept next h
      (laws.to_cons thread [] d e e middle later later kept next next turn (laws.to_nil e e later later next next (refl, refl, refl)))

  pub split : (first rest : List ℕ) (c d : Core) (seats later : S) (steps new : List Step) → AllTurns IsOver Turn (first ++ rest) c seats steps new d later
      → Split IsOver Turn first rest c seats steps new d later
  split [] rest c d seats later steps new h = record {
    e = c;
    middle = seats;
    front = [];
    back = new;
    before = (refl, refl, refl);
    after = subst (λ (l : List Step). AllTurns IsOver Turn rest c seats l new d later) (sym (append-nil steps)) h;
    whole = refl;
  }
  split (thread ∷ first) rest c d seats later steps new h =
      let k = split first rest h.0 d h.1 later (steps ++ h.2) h.3 h.5 in record {
        e = k.e;
        middle = k.middle;
        front = h.2 ++ k.front;
        back = k.back;
        before = (h.0, h.1, h.2, k.front, h.4, k.before, refl);
        after = subst (λ (l : List Step). AllTurns IsOver Turn rest k.e k.middle l k.back d later) (append_assoc steps h.2 k.front) k.after;
        whole = h.6 ∙ ap (λ (l : List Step). h.2 ++ l) k.whole ∙ sym (append_assoc h.2 k.front k.back);
      }

  -- a thread that is over makes no more steps
  pub no_more : (t : ℕ) (threads : List ℕ) (c d : Core) (seats later : S) (steps new : List Step) → IsOver t seats → AllTurns IsOver Turn threads c seats steps new d later
      → AreOfOthers t new
  no_more t [] c d seats later steps new over h = subst (λ (l : List Step). AreOfOthers t l) (sym h.2) tt
  no_more t (thread ∷ threads) c d seats later steps new over h =
      let rest = no_more t threads h.0 d h.1 later (steps ++ h.2) h.3 (laws.stays t thread c h.0 seats h.1 (Some steps) (Some (steps ++ h.2)) over h.4.turn) h.5 in
      subst (λ (l : List Step). AreOfOthers t l) (sym h.6) (elim h.4.made [
        | inl idle ↦ subst (λ (l : List Step). AreOfOthers t (l ++ h.3)) (sym idle.3) rest
        | inr one ↦ subst (λ (l : List Step). AreOfOthers t (l ++ h.3)) (sym one.3)
            (false_from_ne_true (nat_eq one.1.thread t) (λ is. one.0 (subst (λ (n : ℕ). IsOver n seats) (sym (eqb-true one.1.thread t is) ∙ eqb-true one.1.thread thread one.2) over)), rest)
      ])

  -- turns of a thread that is over do nothing
  idle : (n t : ℕ) (c d : Core) (seats later : S) (steps new : List Step) → IsOver t seats → AllTurns IsOver Turn (replicate n t) c seats steps new d later
      → (d ≡ c) × (later ≡ seats) × (new ≡ [])
  idle zero t c d seats later steps new over h = h
  idle (suc n) t c d seats later steps new over h = elim h.4.made [
    | inl none ↦
        let rest = idle n t h.0 d h.1 later (steps ++ h.2) h.3 (subst (λ (l : S). IsOver t l) (sym none.2) over) h.5 in
        (rest.0 ∙ none.1, rest.1 ∙ none.2, h.6 ∙ ap (λ (l : List Step). l ++ h.3) none.3 ∙ rest.2)
    | inr one ↦ absurd (one.0 over)
  ]

  pub block : (n t : ℕ) (c d : Core) (seats later : S) (steps new : List Step) → AllTurns IsOver Turn (replicate n t) c seats steps new d later → Block IsOver Turn n t c seats steps new d later
  block zero t c d seats later steps new h = record {
    count = 0;
    few = omega arith;
    events = h;
    many = ap (λ (l : List Step). length l) h.2;
    own = subst (λ (l : List Step). AreOf t l) (sym h.2) tt;
    end = inl refl;
  }
  block (suc n) t c d seats later steps new h = elim h.4.made [
    | inl none ↦
        let rest = idle n t h.0 d h.1 later (steps ++ h.2) h.3 (subst (λ (l : S). IsOver t l) (sym none.2) none.0) h.5 in
        let nothing : new ≡ [] = h.6 ∙ ap (λ (l : List Step). l ++ h.3) none.3 ∙ rest.2 in
        record {
          count = 0;
          few = omega arith;
          events = (rest.0 ∙ none.1, rest.1 ∙ none.2, nothing);
          many = ap (λ (l : List Step). length l) nothing;
          own = subst (λ (l : List Step). AreOf t l) (sym nothing) tt;
          end = inr (subst (λ (l : S). IsOver t l) (sym (rest.1 ∙ none.2)) none.0);
        }
    | inr one ↦
        let k = block n t h.0 d h.1 later (steps ++ h.2) h.3 h.5 in
        let step = one.1 in
        let here : new ≡ step ∷ h.3 = h.6 ∙ ap (λ (l : List Step). l ++ h.3) one.3 in
        let few = k.few in
        let many = k.many in
        record {
          count = suc k.count;
          few = omega (arith, few);
          events = (
            h.0,
            h.1,
            step,
            h.3,
            one.0,
            subst (λ (l : List Step). Turn t c seats (Some steps) h.0 h.1 (Some (steps ++ l))) one.3 h.4.turn,
            one.2,
            subst (λ (l : List Step). Events IsOver Turn k.count t h.0 h.1 (steps ++ l) h.3 d later) one.3 k.events,
            here,
          );
          many = ap (λ (l : List Step). length l) here ∙ ap suc many;
          own = subst (λ (l : List Step). AreOf t l) (sym here) (one.2, k.own);
          end = elim k.end [
            | inl all ↦ inl (ap suc all)
            | inr over ↦ inr over
          ];
        }
  ]

  -- turns that added steps, after others
  pub join : (first rest : List ℕ) (c e d : Core) (seats middle later : S) (steps front back : List Step) → AllTurns IsOver Turn first c seats steps front e middle
      → AllTurns IsOver Turn rest e middle (steps ++ front) back d later → AllTurns IsOver Turn (first ++ rest) c seats steps (front ++ back) d later
  join [] rest c e d seats middle later steps front back h k =
      subst (λ (x : Core). AllTurns IsOver Turn rest x seats steps (front ++ back) d later) h.0
      (subst (λ (l : S). AllTurns IsOver Turn rest e l steps (front ++ back) d later) h.1
      (subst (λ (l : List Step). AllTurns IsOver Turn rest e middle steps (l ++ back) d later) (sym h.2)
      (subst (λ (l : List Step). AllTurns IsOver Turn rest e middle l back d later) (ap (λ (l : List Step). steps ++ l) h.2 ∙ append-nil steps) k)))
  join (thread ∷ first) rest c e d seats middle later steps front back h k = (
    h.0,
    h.1,
    h.2,
    h.3 ++ back,
    h.4,
    join first rest h.0 e d h.1 middle later (steps ++ h.2) h.3 back h.5
        (subst (λ (l : List Step). AllTurns IsOver Turn rest e middle l back d later) (ap (λ (l : List Step). steps ++ l) h.6 ∙ sym (append_assoc steps h.2 h.3)) k),
    ap (λ (l : List Step). l ++ back) h.6 ∙ append_assoc h.2 h.3 back,
  )
