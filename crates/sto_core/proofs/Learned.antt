-- What each event tells its pass: facts two, three and four. The first is in `Valid`.
--
-- A ticket that is found free, or under the own hold before the decision, is the last committed writer of
-- its part. So it is the ticket of each claim whose number it does not pass, no claim of the part has a
-- later one, and no open read goes back.
use Rattle.std.specs.Prelude.{◌||◌, ◌&&◌, if◌then◌else◌}
use Rattle.std.proofs.Common.{◌≡◌, ◌≢◌, ⊎_elim, ℕ, ℤ, pos, ◌+◌, ◌*◌, ◌<◌, ◌≤◌, ◌^◌, List, length, Bool, true}
use Rattle.std.proofs.Common.{false, not, true≢false, sym, refl, ap, ap₂, ◌∙◌, subst, arith, eqb, eq-eqb, ltb}
use Rattle.std.proofs.lemmas.Bool.{lt-ltb}
use mathlib.Core.Logic.{dite}
use mathlib.Core.Option.{some, some-injective}
use native.Mathlib.Decide.{ℕ_discrete}
use lib.ListN.{get_elem?}
use Rattle.sto_core.specs.declared.view.View.{View}
use Rattle.sto_core.specs.declared.view.Claim.{Claim}
use Rattle.sto_core.specs.declared.view.OpenRead.{OpenRead}
use Rattle.sto_core.specs.declared.view.Fate.{Fate}
use Rattle.sto_core.specs.declared.view.Phase.{Phase}
use Rattle.sto_core.specs.declared.view.Phase.TheVariants.{Idle, Reading, Looking, Locking, Testing, Drawn, Won}
use Rattle.sto_core.specs.declared.view.Phase.TheVariants.{Lost}
use Rattle.sto_core.specs.Lists.{Among, weight}
use Rattle.sto_core.specs.Versions.{ticket_of, is_free}
use Rattle.sto_core.specs.History.{Contents, Validity, if_committed, writes, committed_updates, last_writer, up}
use Rattle.sto_core.specs.Views.{hold_of, holds, width_in, count, any_claim, is_claimed}
use Rattle.sto_core.specs.Reads.{words_read, AllRead}
use Rattle.sto_core.specs.Event.{Event, after, Start, Open, Word, Close, Lock, Test, Draw, Check, Renew, Recheck}
use Rattle.sto_core.specs.Event.{is_own_or_free, found, closed_by, locked_by, checked_by, passes_check, rechecked_by, is_claimed_still}
use Rattle.sto_core.specs.Allowed.{IsIdle, MayRead, MayClose, MayLock, Allowed}
use Rattle.sto_core.specs.Core.{Part, part_at, version_at, number_found, value_found, view_after}
use Rattle.sto_core.specs.Rule.{total, IsPart, IsLaterThan, IsTrueRead, HoldsInPhase, Alone, InPhase}
use Rattle.sto_core.specs.Tells.{Fresh, Finds, IsLater, HasClaimed, Closes, Rechecks, ReadsHeld, Covers, Begins, Learns}
use Rattle.sto_core.proofs.History.{last_after, last_below, last_rises, last_wrote, unchanged}
use Rattle.sto_core.proofs.Holds.{held_counts, hold_at, unheld_counts}
use Rattle.sto_core.proofs.Lists.{at_place, both_are, both_true, snoc_if_among}
use Rattle.sto_core.proofs.OnClose.{claim_true}
use Rattle.sto_core.proofs.OnDraw.{nobody_else}
use Rattle.sto_core.proofs.OnRecheck.{free_last, still_words}
use Rattle.sto_core.proofs.Parts.{found_settled, own_settled}
use Rattle.sto_core.proofs.Phases.{IsLostPhase, IsWonPhase, idle_holds, idle_plain, plain_undrawn}
use Rattle.sto_core.proofs.Step.{Step, IsSettled, world, fits, in_range, own_part, phased, width_at}
use Rattle.sto_core.proofs.Sums.{counts, total-at}
use Rattle.sto_core.proofs.Versions.{free_is, ticket_is}

-- What a close, a lock and a check leave of the claims of writers

claimed_wrote : (b : Bool) (v : View) (cs : List Claim)
    → (if b then record v { claims = cs } else v).wrote ≡ v.wrote
claimed_wrote true v cs = refl
claimed_wrote false v cs = refl

closed_wrote : (h : Phase) (v : View) (n : ℕ) → (closed_by h v n).wrote ≡ v.wrote
closed_wrote (Looking r) v n = claimed_wrote (eqb n (2 * r.ticket)) v _
closed_wrote (Testing r) v n = claimed_wrote (eqb n (2 * r.ticket)) v _
closed_wrote _ v n = refl

locked_wrote : (b : Bool) (v : View) (p n : ℕ) → (locked_by b v p n).wrote ≡ v.wrote
locked_wrote true v p n = refl
locked_wrote false v p n = refl

checked_wrote : (b : Bool) (v : View) (p n : ℕ) → (checked_by b v p n).wrote ≡ v.wrote
checked_wrote true v p n = refl
checked_wrote false v p n = refl

rechecked_wrote : (b : Bool) (v : View) (p n : ℕ) → (rechecked_by b v p n).wrote ≡ v.wrote
rechecked_wrote true v p n = refl
rechecked_wrote false v p n = refl

-- a phase in which versions are found
record Finding (h : Phase) : Type 0 where
  begun : h ≡ Idle → ⊥
  not_lost : IsLostPhase h → ⊥
  not_won : IsWonPhase h → ⊥

module _ {valid : Validity} {sizes : List ℕ} {opening : Contents} (step : Step valid sizes opening) where
  open step use {past, core, seat, view, rule, at, live}

  -- the clock is at least all that the view has
  covers : Covers view core.clock
  covers = record {
    at = (fits step).at;
    entries = λ j e there. ((fits step).entries j e there).within;
    claims = λ j c there. let k = (fits step).claims j c there in
        let ticket = k.stands.ticket in let below = last_below opening past.log c.part c.number in
        let within = k.within in
        (k.within, (omega arith));
    wrote = λ j c there. ((fits step).wrote j c there).within;
  }

  -- A version that is found

  -- where there is one pass, nobody else holds a part
  only_own : length core.statuses ≡ 1 → (p : ℕ) → holds p view.held ≡ false
      → total (λ u. count p u.held) core.views ≡ 0
  only_own one p none =
      dite (ℕ_discrete (total (λ u. count p u.held) core.views) 0) (λ no_holds. no_holds)
      (λ some_hold. let k = counts (λ u. count p u.held) core.views (omega arith) in
      absurd (nobody k.0 k.1 k.2 k.3))
    where
      own_none : (u : View) → u ≡ view → count p u.held ≡ 0
      own_none u same = ap (λ (v : View). count p v.held) same ∙ unheld_counts p view.held none

      spent_none : (j : ℕ) (u : View) → get_elem? core.views j ≡ some u → u.gathered ≡ 0 → count p u.held ≡ 0
      spent_none j u there spent =
          let k = rule.each j u there in
          ap (count p) (subst (λ (h : Phase). HoldsInPhase h u.held) (k.spent spent).phase k.holds)

      nobody : (j : ℕ) (u : View) → get_elem? core.views j ≡ some u → 0 < count p u.held → ⊥
      nobody j u there some_held =
          dite (ℕ_discrete j seat)
          (λ same.
          let k = own_none u (some-injective u view (sym there ∙ ap (get_elem? core.views) same ∙ at)) in
          omega arith)
          (λ ne. dite (ℕ_discrete u.gathered 0)
          (λ spent. let k = spent_none j u there spent in omega arith)
          (λ some_pass. nobody_else step one j u ne there (omega arith)))

  module _ (p : ℕ) (range : p < length view.opening) (unwon : IsWonPhase view.phase → ⊥) where
    abbrev n : ℕ
    n = version_at core p

    abbrev part : Part
    part = part_at core.parts p

    is : ticket_of n ≡ part.ticket
    is = ticket_is part.ticket part.locked

    last_found : is_own_or_free view p n ≡ true → ticket_of n ≡ last_writer opening past.log p core.clock
    last_found own =
        let there = own_part step p range in
        is ∙ (rule.settled p part there (found_settled rule seat view at p part there own unwon)).0

    fresh : is_own_or_free view p n ≡ true → Fresh view p (ticket_of n)
    fresh own = let last = last_found own in record {
      same = λ j c there of_part le. let k = (fits step).claims j c there in
          let since = unchanged opening past.log p c.number core.clock k.within (omega arith) in
          last ∙ since.1 ∙ ap (λ (m : ℕ). last_writer opening past.log m c.number) (sym of_part)
          ∙ sym k.stands.ticket;
      claims = λ j c there of_part. let k = (fits step).claims j c there in
          let rises = last_rises opening past.log p c.number core.clock k.within in
          let ticket : c.ticket ≡ last_writer opening past.log p c.number =
          k.stands.ticket ∙ ap (λ (m : ℕ). last_writer opening past.log m c.number) of_part in
          omega arith;
      wrote = λ j c there of_part. let k = (fits step).wrote j c there in
          let after =
          last_after opening past.log p core.clock c.ticket k.above k.within
          (subst (λ (m : ℕ). writes (committed_updates (past.log c.ticket)) m ≡ true) of_part k.wrote) in
          omega arith;
    }

    own_alone : length core.statuses ≡ 1 → is_own_or_free view p n ≡ true
    own_alone one = by part.locked refl (holds p view.held) refl
      where
        by : (b : Bool) → part.locked ≡ b → (h : Bool) → holds p view.held ≡ h → is_own_or_free view p n ≡ true
        by false unlocked h e =
            ap (λ (b : Bool). b || holds p view.held) (free_is part.ticket part.locked ∙ ap not unlocked)
        by true locked true e = ap₂ ◌||◌ (free_is part.ticket part.locked ∙ ap not locked) e
        by true locked false e =
            absurd
            (let none = only_own one p e in let lock = rule.locks p part (own_part step p range) in
            let one_bit : weight part.locked ≡ 1 = ap weight locked in omega arith)

    -- the own pending entry is not the last writer, and nobody else has drawn
    early : (h : Phase) → Finding h → Alone core.clock view.at h
        → InPhase opening (world step) (IsSettled step) h view
        → length core.statuses ≡ 1 → ticket_of n ≤ view.at
    early Idle f alone knows one = absurd (f.begun refl)
    early (Drawn t) f alone knows one =
        let last = last_found (own_alone one) in let below = last_below opening past.log p core.clock in
        let clock_is = alone.0 in let is_last = alone.1 in let above = knows.above in
        let other : last_writer opening past.log p core.clock ≢ t = λ same.
        let wrote = last_wrote opening past.log p core.clock (omega arith) in
        true≢false
        (sym wrote ∙ ap (λ (m : ℕ). writes (committed_updates (past.log m)) p) same
        ∙ ap (λ (g : Fate). writes (if_committed g (past.log t).updates) p) knows.pending) in
        omega arith
    early (Won t puts) f alone knows one = absurd (f.not_won tt)
    early (Lost t) f alone knows one = absurd (f.not_lost tt)
    early _ f alone knows one = let within = rule.tickets p part (own_part step p range) in let same = is in
        omega arith

    claimed_found : is_own_or_free view p n ≡ true → 0 < ticket_of n
        → Among (record { start = view.starts; ticket = ticket_of n; part = p }) (found view p n).wrote
    claimed_found own above =
        snoc_if_among (is_own_or_free view p n && ltb 0 (ticket_of n)) view.wrote _
        (both_true (is_own_or_free view p n) (ltb 0 (ticket_of n)) own (lt-ltb 0 (ticket_of n) above))

  finds_in : (p : ℕ) → p < length view.opening → (h : Phase) → view.phase ≡ h → Finding h → (w : View)
      → w.wrote ≡ (found view p (version_at core p)).wrote
      → Finds (length core.statuses) view p (version_at core p) w
  finds_in p range h e finding w same =
      let unwon : IsWonPhase view.phase → ⊥ = subst (λ (g : Phase). IsWonPhase g → ⊥) (sym e) finding.not_won in
      let known = phased step h e in
      record {
        wrote = λ own above.
            subst (Among (record { start = view.starts; ticket = ticket_of (version_at core p); part = p }))
            (sym same)
            (claimed_found p range unwon own above);
        fresh = fresh p range unwon;
        alone = λ one.
            (own_alone p range unwon one, early p range unwon h finding (known.alone one) known.knows one);
      }

  reading_finds : Finding Reading
  reading_finds = record { begun = λ e. absurd (cc); not_lost = λ e. e; not_won = λ e. e }

  locking_finds : Finding Locking
  locking_finds = record { begun = λ e. absurd (cc); not_lost = λ e. e; not_won = λ e. e }

  looking_finds : (r : OpenRead) → Finding (Looking r)
  looking_finds r = record { begun = λ e. absurd (cc); not_lost = λ e. e; not_won = λ e. e }

  testing_finds : (r : OpenRead) → Finding (Testing r)
  testing_finds r = record { begun = λ e. absurd (cc); not_lost = λ e. e; not_won = λ e. e }

  drawn_finds : (t : ℕ) → Finding (Drawn t)
  drawn_finds t = record { begun = λ e. absurd (cc); not_lost = λ e. e; not_won = λ e. e }

  lock_finds : (p : ℕ) → p < length view.opening → (h : Phase) → view.phase ≡ h → MayLock view p h
      → Finds (length core.statuses) view p (version_at core p) (view_after (Lock p) core view)
  lock_finds p range Reading e may =
      finds_in p range Reading e reading_finds _
      (locked_wrote (is_free (version_at core p)) (found view p (version_at core p)) p _)
  lock_finds p range Locking e may =
      finds_in p range Locking e locking_finds _
      (locked_wrote (is_free (version_at core p)) (found view p (version_at core p)) p _)
  lock_finds p range _ e may = absurd may

  -- A close

  close_finds : (p : ℕ) → p < length view.opening → (h : Phase) → view.phase ≡ h → MayClose view p h
      → Finds (length core.statuses) view p (version_at core p) (view_after (Close p) core view)
  close_finds p range (Looking r) e may =
      finds_in p range (Looking r) e (looking_finds r) _
      (closed_wrote view.phase (found view p (version_at core p)) _)
  close_finds p range (Testing r) e may =
      finds_in p range (Testing r) e (testing_finds r) _
      (closed_wrote view.phase (found view p (version_at core p)) _)
  close_finds p range _ e may = absurd may

  module _ (p : ℕ) (range : p < length view.opening) (r : OpenRead) (of_part : r.part ≡ p)
      (all : AllRead r.reads (width_in view p))
      (is_true : IsTrueRead core.clock core.parts (IsSettled step) view.at r) where
    later : IsLater r view (version_at core p)
    later free other =
        let same : ticket_of (version_at core p) ≡ (part_at core.parts p).ticket =
        ticket_is (part_at core.parts p).ticket (part_at core.parts p).locked in
        ⊎_elim
        (λ (still : (part_at core.parts p).ticket ≡ r.ticket). absurd (other (same ∙ still)))
        (λ (above : IsLaterThan r view.at (part_at core.parts p).ticket). subst (IsLaterThan r view.at)
        (sym same) above)
        (is_true.now (part_at core.parts p) (ap (get_elem? core.parts) of_part ∙ own_part step p range))

    claimed : version_at core p ≡ 2 * r.ticket
        → HasClaimed view p r.ticket (words_read r.reads (width_in view p))
    claimed again j c there same le =
        let k = (fits step).claims j c there in
        let new =
        claim_true step p range r of_part all is_true c.number k.within le
        (eq-eqb (version_at core p) (2 * r.ticket) again) in
        ap (λ (m : ℕ). words_read r.reads (width_in view m)) (sym of_part) ∙ new.stands.words
        ∙ ap (λ (m : ℕ). up opening past.log m c.number) (of_part ∙ sym same) ∙ sym k.stands.words

  closes_in : (p : ℕ) → p < length view.opening → (h : Phase) → view.phase ≡ h → MayClose view p h
      → Closes h view p (version_at core p)
  closes_in p range (Looking r) e may =
      let known = (phased step (Looking r) e).knows in
      (later p range r may.0 may.1 known.0, claimed p range r may.0 may.1 known.0)
  closes_in p range (Testing r) e may =
      let known = (phased step (Testing r) e).knows in
      (later p range r may.0 may.1 known, claimed p range r may.0 may.1 known)
  closes_in p range _ e may = absurd may

  -- A recheck

  rechecks : (p : ℕ) → p < length view.opening → Rechecks view p (version_at core p)
  rechecks p range still j c there of_part le =
      let k = (fits step).claims j c there in
      let free =
      (both_are (is_free (version_at core p))
      (any_claim (is_claimed view p (ticket_of (version_at core p))) view.claims) still).0 in
      let last = free_last step p range free in
      let since = unchanged opening past.log p c.number core.clock k.within (omega arith) in
      still_words step p range still ∙ since.0
      ∙ ap (λ (m : ℕ). up opening past.log m c.number) (sym of_part)
      ∙ sym k.stands.words

  -- A start and a draw

  begins : IsIdle view.phase → Begins valid (after Start view core.clock (pos 0))
  begins idle = let starts = (fits step).starts in let serves = (fits step).serves live in record {
    held = idle_holds view.phase view.held idle (fits step).holds;
    decided = λ j e there pending. plain_undrawn view.phase e.ticket (idle_plain view.phase idle)
        ((fits step).own j e there pending);
    claims = λ j c there. let before = starts.claims j c there in omega arith;
    wrote = λ j c there. let before = starts.wrote j c there in omega arith;
    findings = λ j f there. let before = starts.findings j f there in omega arith;
    opened =
        subst (λ (z : List ℕ × Contents). valid z.0 z.1)
        (λ j. (sym serves.same_sizes j, sym serves.same_opening j)) rule.opened;
  }

  draw_fits : 0 < view.draws → core.clock + 1 ≤ 2 ^ 56
  draw_fits some_draw = by (2 ^ 56) rule.room (total-at (λ u. u.draws) core.views seat view at)
    where
      by : (limit : ℕ) → core.clock + total (λ u. u.draws) core.views ≤ limit
          → view.draws ≤ total (λ u. u.draws) core.views → core.clock + 1 ≤ limit
      by limit room mine = omega arith

  -- A word under a hold

  reads_held : (p i : ℕ) → p < length view.opening → i < width_in view p → view.phase ≡ Locking
      → holds p view.held ≡ true → ReadsHeld Locking view p i (value_found (Word p i) core)
  reads_held p i range inside e held j c found of_part le =
      let g = hold_at p view.held held in
      let o = (fits step).on_hold g.0 (hold_of p view.held) g.1 in
      let part = part_at core.parts p in
      let there : IsPart core.parts p part = own_part step p range in
      let same : part.ticket ≡ o.part.ticket =
      ap (λ (q : Part). q.ticket)
      (some-injective part o.part (sym there ∙ ap (get_elem? core.parts) (sym g.2) ∙ o.there)) in
      let ticket = o.ticket in
      let settled =
      own_settled rule seat view at p part there (held_counts p view.held held)
      (λ won. subst IsWonPhase e won) in
      let now = rule.settled p part there settled in let last = now.0 in
      let k = (fits step).claims j c found in
      let since = unchanged opening past.log p c.number core.clock k.within (omega arith) in
      let width = width_at step p (in_range step p range) in
      ap (λ (ws : List ℤ). get_elem? ws i)
      (k.stands.words ∙ ap (λ (m : ℕ). up opening past.log m c.number) of_part ∙ sym since.0 ∙ sym now.1)
      ∙ at_place (pos 0) part.words i (omega arith)

  reads_in : (p i : ℕ) → p < length view.opening → i < width_in view p → (h : Phase) → view.phase ≡ h
      → MayRead view p h
      → ReadsHeld h view p i (value_found (Word p i) core)
  reads_in p i range inside Locking e may = reads_held p i range inside e may
  reads_in p i range inside (Looking r) e may = tt
  reads_in p i range inside (Testing r) e may = tt
  reads_in p i range inside _ e may = absurd may

  -- what each event tells
  pub event_learns : (e : Event) → Allowed valid e view
      → Learns valid (length core.statuses) e view (number_found e core) (value_found e core) (view_after e core view)
  event_learns Start may = (covers, begins may)
  event_learns (Open p) may = finds_in p may.1 Reading may.0 reading_finds _ refl
  event_learns (Word p i) may = reads_in p i may.1.0 may.1.1 view.phase refl may.0
  event_learns (Close p) may =
      (close_finds p may.1 view.phase refl may.0, closes_in p may.1 view.phase refl may.0)
  event_learns Renew may = covers
  event_learns (Recheck p) may = (
    finds_in p may.1 Reading may.0 reading_finds _
        (rechecked_wrote (is_claimed_still view p (version_at core p)) (found view p (version_at core p)) p _),
    rechecks p may.1,
  )
  event_learns (Lock p) may = lock_finds p may.1 view.phase refl may.0
  event_learns (Test p) may = finds_in p may.1 Locking may.0 locking_finds _ refl
  event_learns (Draw us seen loaded) may = (covers, draw_fits may.draws)
  event_learns (Check p) may =
      finds_in p may.1 (Drawn may.0.0) may.0.1 (drawn_finds may.0.0) _
      (checked_wrote (passes_check view p (version_at core p)) (found view p (version_at core p)) p _)
  event_learns _ may = tt
