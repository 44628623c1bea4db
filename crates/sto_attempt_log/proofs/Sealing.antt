-- What was gathered is a plan, on which a commit begins.
use Rattle.std.proofs.Common.{◌≡◌, ◌≤◌, ◌<◌, ◌+◌, ◌*◌, ◌^◌, ℕ, ℤ, true, false, List, [], length, map, refl, ap, sym, ◌∙◌, subst, arith, inl, inr}
use Rattle.std.specs.List.{list_any}
use Rattle.sto_part.specs.Listed.{Listed}
use Rattle.sto_part.specs.declared.change.Change.{Change}
use Rattle.sto_item.specs.declared.item.Item.{Item}
use Rattle.sto_item.specs.declared.item.Item.TheVariants.{Seen}
use Rattle.sto_item.specs.Observed.{part_of_item}
use Rattle.sto_item.specs.Pending.{Entry as Update, plain}
use Rattle.sto_item.specs.Agreement.{HasWidths}
use Rattle.sto_model.specs.PlainReplies.{PlainReply}
use Rattle.sto_model.specs.Run.{Behaviour}
use Rattle.sto_core.specs.declared.view.View.{View}
use Rattle.sto_core.specs.declared.view.Held.{Held}
use Rattle.sto_core.specs.Lists.{Each, Among}
use Rattle.sto_core.specs.Allowed.{Rises}
use Rattle.sto_core.specs.History.{Validity, writes}
use Rattle.sto_type.specs.Known.{Parts, IsPartOf}
use Rattle.sto_type.specs.Meaning.{Meaning, IsLawful}
use Rattle.sto_attempt_log.specs.declared.read_entry.ReadEntry.{ReadEntry}
use Rattle.sto_attempt_log.specs.declared.commit_phase.FoundTicket.{FoundTicket}
use Rattle.sto_attempt_log.specs.declared.commit_phase.LoadedWord.{LoadedWord}
use Rattle.sto_attempt_log.specs.declared.read_phase.ReadPhase.TheVariants.{Committing}
use Rattle.sto_attempt_log.specs.declared.commit_phase.CommitPhase.TheVariants.{Locking}
use Rattle.sto_type.specs.Touching.{HasTouched}
use Rattle.sto_attempt_log.specs.Bounds.{round, words_of}
use Rattle.sto_attempt_log.specs.Remaining.{commit_left}
use Rattle.sto_attempt_log.specs.ReadSet.{words_in}
use Rattle.sto_attempt_log.specs.Log.{IsLog}
use Rattle.sto_attempt_log.specs.Standing.{Fits}
use Rattle.sto_attempt_log.specs.Gathering.{gathered, seen_part, other_part, adding_part, unwritten_part, places_in, is_add, AreGathered}
use Rattle.sto_attempt_log.specs.CommitPhases.{Deal, deal, IsPlanned, IsLockingAt, WasFound, ticket_from, reads_of}
use Rattle.sto_attempt_log.proofs.Touched.{touched_range}
use Rattle.sto_attempt_log.proofs.Bounded.{begins_bounded}
use Rattle.sto_attempt_log.proofs.Every.{all_contained}
use Rattle.sto_attempt_log.proofs.Onward.{pending_of}
use Rattle.sto_attempt_log.proofs.Gathering.{among_none, gathered-rises, gathered-kept, gathered-cases}
use Rattle.sto_attempt_log.proofs.Planning as plan
use Rattle.sto_attempt_log.proofs.Placing.{own_writes, plan_places, plan_all}
use Rattle.sto_attempt_log.proofs.Leaving.{some_update}

module _ (m : Meaning) (law : IsLawful m) (valid : Validity) (sizes : List ℕ) (f : Behaviour) (at : ℕ) (base : List ReadEntry) (items : List Item) (rs : List PlainReply)
    (xs : List (ℕ × Listed Change)) (h : IsLog m f (words_in base) items (map plain xs) rs) (some : (d : Parts) × m.valid d × IsPartOf (words_in base) d) where
  abbrev us : List Update
  us = map plain xs

  abbrev seen : List ℕ
  seen = plan.seen items

  abbrev loaded : List ℕ
  loaded = plan.loaded items

  abbrev tasks : List ℕ
  tasks = plan.tasks items xs

  abbrev checks : List ℕ
  checks = plan.checks items xs

  fit : HasWidths us some.0
  fit = ((pending_of m f (words_in base) items us rs h some).fits some.0 some.1 some.2).0

  same : map length some.0 ≡ m.widths
  same = law.widths some.0 some.1

  -- a task that is not written is loaded for its predicates
  task_loaded : Each (λ (p : ℕ). writes us p ≡ false → Among p loaded) tasks
  task_loaded j p e free =
      elim (gathered-cases adding_part loaded xs p (j, e)) [
        | inl before ↦ before
        | inr u ↦
            let on : u.0.0 ≡ p = (plan.adding_of u.0 p (list_any is_add u.0.1.items) refl u.2).0 in
            let is = subst (λ (q : ℕ). writes us q ≡ true) on (own_writes xs u.0 u.1) in
            let clash : true ≡ false = sym is ∙ free in
            cc
      ]

  pub planned : length checks < 2 ^ 32 → length (places_in xs) < 2 ^ 32 → length us + length tasks < 2 ^ 32
      → IsPlanned (deal m valid sizes f at base items rs us seen loaded tasks checks (places_in xs))
  planned few_checks few_places few = record {
    ordered = (pending_of m f (words_in base) items us rs h some).ordered;
    seen_rise = gathered-rises seen_part [] items tt;
    loaded_rise = gathered-rises (other_part seen) [] items tt;
    tasks_rise = gathered-rises adding_part loaded xs (gathered-rises (other_part seen) [] items tt);
    apart = plan.plan_apart items;
    named = plan.plan_named items;
    of_seen = plan.plan_seen items;
    of_loaded = λ j p e. gathered-kept adding_part loaded xs p (j, e);
    of_adds = plan.plan_adds items xs;
    in_range = plan.plan_range items xs m.widths h.inside some.0 same fit;
    of_checks = λ j p e. gathered-kept (unwritten_part xs) seen loaded p (j, e);
    from_checks = plan.plan_checks items xs;
    from_tasks = task_loaded;
    on_loaded = plan.plan_loaded items;
    of_tests = plan.plan_tests items xs;
    of_places = plan_places xs m.widths some.0 same fit (pending_of m f (words_in base) items us rs h some).ordered.0;
    all_places = plan_all xs m.widths;
    few_checks = few_checks;
    few_places = few_places;
    few = few;
  }

-- the same of lists that are known to be these
module _ (m : Meaning) (law : IsLawful m) (valid : Validity) (sizes : List ℕ) (f : Behaviour) (at : ℕ) (base : List ReadEntry) (items : List Item) (rs : List PlainReply) (us : List Update)
    (h : IsLog m f (words_in base) items us rs) (some : (d : Parts) × m.valid d × IsPartOf (words_in base) d) where
  pub gathered_planned : (seen loaded tasks checks : List ℕ) (places : List (ℕ × ℕ)) → AreGathered items us seen loaded tasks checks places
      → length checks < 2 ^ 32 → length places < 2 ^ 32 → length us + length tasks < 2 ^ 32 → IsPlanned (deal m valid sizes f at base items rs us seen loaded tasks checks places)
  gathered_planned seen loaded tasks checks places g few_checks few_places few =
      let xs = g.xs in
      let seen_is : seen ≡ plan.seen items = g.seen_are in
      let loaded_is : loaded ≡ plan.loaded items = g.loaded_are ∙ ap (λ (l : List ℕ). gathered (other_part l) [] items) seen_is in
      let tasks_is : tasks ≡ plan.tasks items xs = g.tasks_are ∙ ap (λ (l : List ℕ). gathered adding_part l xs) loaded_is in
      let checks_is : checks ≡ plan.checks items xs = g.checks_are ∙ ap (λ (l : List ℕ). gathered (unwritten_part xs) l loaded) seen_is ∙ ap (λ (l : List ℕ). gathered (unwritten_part xs) (plan.seen items) l) loaded_is in
      let on : IsLog m f (words_in base) items (map plain xs) rs = subst (λ (l : List Update). IsLog m f (words_in base) items l rs) (sym g.updates) h in
      let sum : length (map plain xs) + length (plan.tasks items xs) < 2 ^ 32 =
      omega (arith, few, ap (λ (l : List Update). length l) g.updates, ap (λ (l : List ℕ). length l) tasks_is) in
      let it = planned m law valid sizes f at base items rs xs on some (subst (λ (l : List ℕ). length l < 2 ^ 32) checks_is few_checks) (subst (λ (l : List (ℕ × ℕ)). length l < 2 ^ 32) g.places_are few_places) sum in
      subst (λ (l : List Update). IsPlanned (deal m valid sizes f at base items rs l seen loaded tasks checks places)) g.updates
      (subst (λ (l : List ℕ). IsPlanned (deal m valid sizes f at base items rs (map plain xs) l loaded tasks checks places)) (sym seen_is)
      (subst (λ (l : List ℕ). IsPlanned (deal m valid sizes f at base items rs (map plain xs) (plan.seen items) l tasks checks places)) (sym loaded_is)
      (subst (λ (l : List ℕ). IsPlanned (deal m valid sizes f at base items rs (map plain xs) (plan.seen items) (plan.loaded items) l checks places)) (sym tasks_is)
      (subst (λ (l : List ℕ). IsPlanned (deal m valid sizes f at base items rs (map plain xs) (plan.seen items) (plan.loaded items) (plan.tasks items xs) l places)) (sym checks_is)
      (subst (λ (l : List (ℕ × ℕ)). IsPlanned (deal m valid sizes f at base items rs (map plain xs) (plan.seen items) (plan.loaded items) (plan.tasks items xs) (plan.checks items xs) l)) (sym g.places_are) it)))))

  pub gathered_bounded : (seen loaded tasks checks : List ℕ) (places : List (ℕ × ℕ)) → AreGathered items us seen loaded tasks checks places
      → IsPlanned (deal m valid sizes f at base items rs us seen loaded tasks checks places)
      → commit_left (deal m valid sizes f at base items rs us seen loaded tasks checks places) (Locking 0) ≤ 2 * round (length m.widths) (words_of m.widths)
  gathered_bounded seen loaded tasks checks places g planned =
      let fit : HasWidths us some.0 = ((pending_of m f (words_in base) items us rs h some).fits some.0 some.1 some.2).0 in
      let rising : Rises checks = subst (λ (l : List ℕ). Rises l) (sym g.checks_are) (gathered-rises (unwritten_part g.xs) seen loaded planned.seen_rise) in
      begins_bounded (deal m valid sizes f at base items rs us seen loaded tasks checks places) g.xs some.0 (law.widths some.0 some.1) g.updates fit planned g.places_are in_range rising
    where
      in_range : Each (λ (p : ℕ). p < length m.widths) checks
      in_range j p e = elim (planned.from_checks j p e) [
        | inl s ↦
            let touched = all_contained (λ (y : Item). HasTouched m f rs (part_of_item y)) items (Seen p) (planned.of_seen s.0 p s.1) h.touched_items in
            omega (arith, touched_range m law f rs p touched, law.homes)
        | inr l ↦ let t = planned.of_loaded l.0.0 p l.0.1 in (planned.in_range t.0 p t.1).0
      ]

each_none : {A : Type 0} (P : A → Type 0) (l : List A) → l ≡ [] → Each P l
each_none P l is = subst (λ (xs : List _). Each P xs) (sym is) (λ j x e. absurd (among_none x (j, e)))

-- the view of an attempt that is to commit is that of a commit before its first lock
pub begins : (d : Deal) → IsPlanned d → IsLog d.m d.f (words_in d.base) d.items d.us d.rs → (found_tickets : Listed FoundTicket) → found_tickets.items ≡ [] → length d.us + length d.tasks ≤ found_tickets.spare
    → (loaded_words : List LoadedWord) → loaded_words ≡ [] → (words : List ℤ) (v : View) → Fits d.m d.valid d.sizes d.f d.at Committing words d.base d.us d.rs v → IsLockingAt d 0 found_tickets loaded_words v
begins d planned log found_tickets unfound room loaded_words unloaded words v fits = record {
  going = record {
    sealed = record {
      own = fits.own;
      number = fits.number;
      claimed = fits.claimed;
      only = fits.only;
      fit = fits.fit;
      log = log;
      ends = fits.awaits.0;
      some = fits.awaits.1;
    };
    planned = planned;
    draws = fits.draws;
    decided = fits.decided;
  };
  below = some_update d fits.awaits.1;
  phase = inl (refl, fits.stands);
  holding = record { held = ap (λ (l : List Held). map (λ (x : Held). x.part) l) fits.unheld };
  found = record {
    tickets = each_none (λ (x : Held). x.ticket ≡ ticket_from 0 found_tickets.items x.part) v.held fits.unheld;
    reads = each_none (λ (x : Held). x.reads ≡ reads_of loaded_words x.part) v.held fits.unheld;
    known = each_none (λ (x : Held). WasFound v x.part x.ticket) v.held fits.unheld;
  };
  room = record { used = let none : length found_tickets.items ≡ 0 = ap (λ (l : List FoundTicket). length l) unfound in omega (arith, none); spare = omega (arith, room) };
  none = unloaded;
}
