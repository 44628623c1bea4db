-- What a run by a schedule to the ends of threads tells, and by which other schedules it is the same run.
use Rattle.std.specs.Prelude.{◌≢◌, slice_get, Some}
use Rattle.std.specs.List.{flat_map}
use Rattle.std.proofs.Common.{◌≡◌, ℕ, ◌≤◌, ◌<◌, List, [], ◌++◌, length, set, replicate, refl, sym, ap, ◌∙◌, subst, arith, inl, inr, append_assoc, length-set}
use Rattle.std.proofs.lemmas.Bool.{cases_eq}
use Rattle.std.proofs.lemmas.List.{get_or-set_other}
use Rattle.std.proofs.lemmas.Option.{slice_get_within, get_or_from_slice_get, slice_get-get_or}
use Rattle.sto_model.specs.PlainReplies.{PlainReply}
use Rattle.sto_core.specs.Core.{Core}
use Rattle.sto_core.specs.History.{Validity}
use Rattle.sto_core.specs.declared.view.View.{View}
use Rattle.sto_lang.specs.declared.file.Turns.{Turns}
use Rattle.sto_trace.specs.declared.Step.{Step}
use Rattle.sto_history.specs.Records.{Record}
use Rattle.sto_run_threads.specs.Orders.{TransactionPlace}
use Rattle.sto_run_threads.specs.Plans.{Plan}
use Rattle.sto_run_steps.specs.Logged.{RunLog, most_kept}
use Rattle.sto_run_steps.specs.Seated.{AreNew, IsOverAt}
use Rattle.sto_run_steps.specs.Turning.{HasTurn, HaveTurns, WereStepped, entry_turns, round_turns}
use Rattle.sto_explore.specs.Legs.{turns_of, schedule_of, LeadToEnds, AreTold}
use Rattle.sto_explore.specs.declared.leg.Leg.{Leg}
use Rattle.sto_run_schedules.specs.Parted.{turns_to_ends, past, ends_of}
use Rattle.sto_run_schedules.specs.Telling.{IsToldAfter, HadSome}
use Rattle.sto_run_schedules.proofs.Turned.{AreLaws, kept_turns, turns_had, had_append}
use Rattle.sto_run_schedules.proofs.Ending.{begun, ended}

-- another place of a list with one item set
set_other : {X : Type 0} (xs : List X) (i j : ℕ) (y x : X) → j ≢ i → slice_get (set xs i y) j ≡ Some x → slice_get xs j ≡ Some x
set_other xs i j y x other at =
    let within = slice_get_within (set xs i y) j x at in
    let long = length-set xs i y in
    slice_get-get_or xs j x (omega (arith, within, long)) ∙ ap Some (sym (get_or-set_other xs i j y x other) ∙ get_or_from_slice_get (set xs i y) j x x at)

-- the turns of script threads obey the laws
laws_of : {M : Type 0} (valid : Validity) (heard : M → List PlainReply) → AreLaws (IsOverAt {M = M}) (HasTurn valid heard) (HaveTurns valid heard)
laws_of {M} valid heard = record {
  stays = λ t thread c d seats later log next over turn. elim turn [
    | inl one ↦ elim (cases_eq t thread) [
      | inl same ↦ absurd (one.going (subst (λ (n : ℕ). IsOverAt n seats) same over))
      | inr other ↦ subst (IsOverAt {M = M} t) (sym one.others) (λ s at. over s (set_other seats thread t one.seat s other at))
    ]
    | inr idle ↦ subst (IsOverAt {M = M} t) (sym idle.2) over
  ];
  none = λ thread c d seats later next turn. elim turn [
    | inl one ↦ one.logged
    | inr idle ↦ idle.3
  ];
  rests = λ thread c seats log over. inr (over, refl, refl, refl);
  kinds = λ thread c d seats later steps next turn. elim turn [
    | inl one ↦ inr (one.going, one.logged.0, one.logged.1.last.of_thread, one.logged.2)
    | inr idle ↦ inl idle
  ];
  nil = λ c d seats later log next h. h;
  to_nil = λ c d seats later log next h. h;
  cons = λ thread threads c d seats later log next h. h;
  to_cons = λ thread threads c e d seats middle later log kept next turn h. (e, middle, kept, turn, h);
}

-- the same run by each schedule of these turns
abbrev pub ByTurns : {M : Type 0} → Plan → (ℕ → TransactionPlace → M → View → View → Type 0) → Validity → (M → List PlainReply) → Core → List Record → List ℕ → Type 0
ByTurns {M} plan fits valid heard opened records turns =
    (schedule : List Turns) → flat_map entry_turns schedule ≡ turns → (log : RunLog) × WereStepped {M = M} plan fits valid heard schedule opened (Some []) records log

pub record Stepped {M : Type 0} (plan : Plan) (fits : ℕ → TransactionPlace → M → View → View → Type 0) (valid : Validity) (heard : M → List PlainReply) (opened : Core) (records : List Record) (decided legs : List Leg) (order : List ℕ) : Type 0 where
  pub ends : LeadToEnds order legs
  pub told : AreTold (IsToldAfter (AreNew {M = M} plan) (HadSome (HaveTurns valid heard) opened) (IsOverAt {M = M})) (schedule_of decided) (turns_of legs)
  pub by_turns : ByTurns {M = M} plan fits valid heard opened records (schedule_of decided ++ schedule_of legs)

pub stepped : {M : Type 0} (plan : Plan) (fits : ℕ → TransactionPlace → M → View → View → Type 0) (valid : Validity) (heard : M → List PlainReply) (opened : Core) (records : List Record) (decided : List Leg) (order : List ℕ) (n : ℕ) (schedule : List Turns) (all : List Step)
    → most_kept < n → flat_map entry_turns schedule ≡ turns_to_ends decided n order → WereStepped {M = M} plan fits valid heard schedule opened (Some []) records (Some all)
    → Stepped {M = M} plan fits valid heard opened records decided (ends_of n order (past decided all)) order
stepped {M} plan fits valid heard opened records decided order n schedule all enough turns w =
    let rounds = round_turns (length w.seats) w.rounds in
    let ends = flat_map (replicate n) order in
    let laws = laws_of {M = M} valid heard in
    let had : HaveTurns valid heard (schedule_of decided ++ (ends ++ rounds)) opened w.seats (Some []) w.stepped w.later (Some all) =
    subst (λ (l : List ℕ). HaveTurns valid heard l opened w.seats (Some []) w.stepped w.later (Some all)) (ap (λ (l : List ℕ). l ++ rounds) turns ∙ append_assoc (schedule_of decided) ends rounds) w.turns in
    let k = kept_turns (IsOverAt {M = M}) (HasTurn valid heard) (HaveTurns valid heard) laws (schedule_of decided ++ (ends ++ rounds)) opened w.stepped w.seats w.later [] all had (omega arith) in
    let b = begun (IsOverAt {M = M}) (HasTurn valid heard) (HaveTurns valid heard) laws decided (ends ++ rounds) opened w.stepped w.seats w.later [] k.0 k.1 in
    let few : length (b.s.front ++ b.s.back) ≤ most_kept = subst (λ (l : List Step). length l ≤ most_kept) (k.2 ∙ b.s.whole) k.3 in
    let e = ended (IsOverAt {M = M}) (HasTurn valid heard) (HaveTurns valid heard) laws (AreNew {M = M} plan) opened w.seats w.new n order (schedule_of decided) rounds b.s.e w.stepped b.s.middle w.later b.s.front b.s.back enough few
    (turns_had (IsOverAt {M = M}) (HasTurn valid heard) (HaveTurns valid heard) laws (schedule_of decided) opened b.s.e w.seats b.s.middle [] b.s.front b.s.before) b.s.after in
    let same : ends_of n order b.s.back ≡ ends_of n order (past decided all) = ap (ends_of n order) (sym b.left ∙ ap (past decided) (sym k.2)) in
    let legs = ends_of n order (past decided all) in
    record {
      ends = subst (LeadToEnds order) same e.ends;
      told = subst (λ (l : List Leg). AreTold (IsToldAfter (AreNew {M = M} plan) (HadSome (HaveTurns valid heard) opened) (IsOverAt {M = M})) (schedule_of decided) (turns_of l)) same e.told;
      by_turns = λ exact is. (
        Some (e.steps ++ e.back),
        record {
          seats = w.seats;
          many = w.many;
          new = w.new;
          seated = w.seated;
          rounds = w.rounds;
          stepped = w.stepped;
          later = w.later;
          turns = subst (λ (l : List ℕ). HaveTurns valid heard (l ++ rounds) opened w.seats (Some []) w.stepped w.later (Some (e.steps ++ e.back)))
              (ap (λ (l : List Leg). schedule_of decided ++ schedule_of l) same ∙ sym is)
              (had_append (IsOverAt {M = M}) (HasTurn valid heard) (HaveTurns valid heard) laws (schedule_of decided ++ schedule_of (ends_of n order b.s.back)) rounds opened e.e w.stepped w.seats e.middle w.later (Some []) (Some e.steps) (Some (e.steps ++ e.back)) e.there
              (turns_had (IsOverAt {M = M}) (HasTurn valid heard) (HaveTurns valid heard) laws rounds e.e w.stepped e.middle w.later e.steps e.back e.after));
          over = w.over;
          still_seated = w.still_seated;
          made = w.made;
          others = w.others;
          records = w.records;
          aborts = w.aborts;
        },
      );
    }
