-- draw: the clock grows by 1, and the history gets a pending entry with the new ticket.
--
-- It disturbs `Rule.once_each` and `Rule.room`; `Fits.entries` and `HasDrawn`: the new entry keeps
-- validity, the pass holds exactly what it writes, and what it looked at rests on true claims; all that
-- the rule says of the history, which grows by an entry above every number that it speaks of;
-- `ReadBeside`: the new ticket is above every open read; and `Fits.alone`. No word but the clock changes.
use Rattle.std.specs.Prelude.{if◌then◌else◌}
use Rattle.std.proofs.Common.{◌≡◌, ◌≢◌, ◌⊎◌, ⊎_elim, ℕ, ℤ, suc, ◌+◌, ◌-◌, ◌<◌, ◌≤◌, List, [], ◌∷◌, length, map}
use Rattle.std.proofs.Common.{Bool, true, false, sym, refl, ap, ◌∙◌, subst, arith, eqb, eq-eqb}
use Rattle.std.proofs.lemmas.Bool.{eqb-true}
use mathlib.Core.Logic.{dite}
use mathlib.Core.Option.{some, some-ne-none}
use native.Mathlib.Decide.{ℕ_discrete}
use lib.ListN.{get_elem?}
use Rattle.sto_core.specs.declared.view.View.{View}
use Rattle.sto_core.specs.declared.view.Entry.{Entry}
use Rattle.sto_core.specs.declared.view.Held.{Held}
use Rattle.sto_core.specs.declared.view.Claim.{Claim}
use Rattle.sto_core.specs.declared.view.Wrote.{Wrote}
use Rattle.sto_core.specs.declared.view.OpenRead.{OpenRead}
use Rattle.sto_core.specs.declared.view.Fate.TheVariants.{Pending, Committed}
use Rattle.sto_core.specs.declared.view.Phase.{Phase}
use Rattle.sto_core.specs.declared.view.Phase.TheVariants.{Idle, Looking, Locking, Testing, Drawn, Won, Lost}
use Rattle.sto_core.specs.Lists.{Each, weight}
use Rattle.sto_core.specs.History.{Contents, Validity, Updates, Log, writes, committed_updates, pending_updates}
use Rattle.sto_core.specs.History.{KeepsValid, UpdatesFit, up, PartAsOf}
use Rattle.sto_core.specs.Views.{drawn_entry, looked_parts, seen_part, loaded_part, looked_by_claim}
use Rattle.sto_core.specs.Views.{looked_by_hold, last_claim, no_claim, is_recent, is_standing, hold_of, holds}
use Rattle.sto_core.specs.Views.{width_in, count, times, if_won, if_drawn}
use Rattle.sto_core.specs.Reads.{words_read, ReadsAgree}
use Rattle.sto_core.specs.Event.{Draw, drawn}
use Rattle.sto_core.specs.Allowed.{MayDraw, WasSeen, LoadedByHold, LoadedByClaim}
use Rattle.sto_core.specs.Core.{part_at, core_after}
use Rattle.sto_core.specs.Rule.{once, total, Settled, World, Past, ReadBeside, HasDrawn, IsTrueWrote}
use Rattle.sto_core.specs.Rule.{IsTrueClaim, IsTrueRead, IsLogged, IsOwn, WasSoBelow, IsTrueHold, held_words}
use Rattle.sto_core.specs.Rule.{InPhase, Fits, Rule}
use Rattle.sto_core.proofs.Claims.{last_among}
use Rattle.sto_core.proofs.DrawnHistory.{drawn_log, below, here, next_last, next_up, same_status, same_up}
use Rattle.sto_core.proofs.DrawnHistory.{settles_later, stands_later}
use Rattle.sto_core.proofs.Entries.{times-append}
use Rattle.sto_core.proofs.HeldParts.{read_under_hold}
use Rattle.sto_core.proofs.Holds.{held_at, held_counts, unheld_counts}
use Rattle.sto_core.proofs.Lists.{both_are, each_append, each_of_map, each_others, each_snoc}
use Rattle.sto_core.proofs.Parts.{exclusive, own_none}
use Rattle.sto_core.proofs.Phases.{IsWonPhase}
use Rattle.sto_core.proofs.Step.{Step, IsSettled, world, views_with, fits, not_spent, phased, still_apart}
use Rattle.sto_core.proofs.Step.{still_serves, sum_same, sum_set}
use Rattle.sto_core.proofs.Sums.{reads_set, total-at, total-two}

module _ {valid : Validity} {sizes : List ℕ} {opening : Contents} (step : Step valid sizes opening) where
  open step use {past, core, seat, view, rule, at, live}

  -- where there is one pass, all other views are spent
  pub nobody_else : length core.statuses ≡ 1 → (j : ℕ) (u : View) → j ≢ seat → get_elem? core.views j ≡ some u
      → 0 < u.gathered → ⊥
  nobody_else one j u ne there lives =
      let two = total-two (λ v. v.gathered) core.views j seat u view ne there at in let all = rule.gathered in
      let mine = live in omega arith

  module _ (us : Updates) (seen loaded : List ℕ) (may : MayDraw valid us seen loaded view) where
    abbrev ticket : ℕ
    ticket = suc core.clock

    abbrev entry : Entry
    entry = drawn_entry view ticket us seen loaded

    -- the history after the draw
    abbrev later : Log
    later = drawn_log opening past.log core.clock entry refl

    -- the history nobody sees, after the draw
    abbrev pub after_draw : Past
    after_draw = record { log = later; since = past.since }

    abbrev later_world : World
    later_world = record { clock = ticket; passes = length core.statuses; parts = core.parts; log = later }

    abbrev next : View
    next = drawn view core.clock us seen loaded

    unwon : IsWonPhase view.phase → ⊥
    unwon won = subst IsWonPhase may.phase won

    -- What stays true of the history

    as_before : (n : ℕ) → n ≤ core.clock → later n ≡ past.log n
    as_before = below opening past.log core.clock entry refl

    new_entry : later ticket ≡ entry
    new_entry = here opening past.log core.clock entry refl

    stands : (p n s : ℕ) (ws : List ℤ) → n ≤ core.clock → PartAsOf opening past.log p n s ws
        → PartAsOf opening later p n s ws
    stands = stands_later opening past.log core.clock entry refl

    up_same : (p n : ℕ) → n ≤ core.clock → up opening later p n ≡ up opening past.log p n
    up_same = same_up opening past.log core.clock entry refl

    claim_later : (c : Claim) → IsTrueClaim opening past.log core.clock c → IsTrueClaim opening later ticket c
    claim_later c k = let within = k.within in record {
      within = (omega arith);
      stands = stands c.part c.number c.ticket c.words k.within k.stands;
    }

    wrote_later : (c : Wrote) → IsTrueWrote past.log core.clock c → IsTrueWrote later ticket c
    wrote_later c k = let within = k.within in record {
      above = k.above;
      within = (omega arith);
      wrote = ap (λ (e : Entry). writes (committed_updates e) c.part) (as_before c.ticket within) ∙ k.wrote;
    }

    entry_later : (e : Entry) → IsLogged valid sizes opening past.log core.clock e
        → IsLogged valid sizes opening later ticket e
    entry_later e k = let within = k.within in record {
      within = (omega arith);
      logged = as_before e.ticket within ∙ k.logged;
      rising = k.rising;
      widths = k.widths;
      keeps = k.keeps;
      looked = λ committed j l there.
          stands l.part (e.ticket - 1) l.ticket l.words (omega arith) (k.looked committed j l there);
    }

    still_settled : (p : ℕ) → Settled (views_with step next) p → IsSettled step p
    still_settled p settled =
        sym (sum_same step (λ u. if_won u.phase (count p u.held)) next
        (sym (ap (λ (h : Phase). if_won h (count p view.held)) may.phase))) ∙ settled

    read_later : (a : ℕ) (r : OpenRead) → IsTrueRead core.clock core.parts (IsSettled step) a r
        → IsTrueRead ticket core.parts (Settled (views_with step next)) a r
    read_later a r k = let within = k.within in record {
      within = (omega arith);
      now = k.now;
      words = λ part there settled same. k.words part there (still_settled r.part settled) same;
    }

    -- Another pass

    module _ (j : ℕ) (u : View) (ne : j ≢ seat) (there : get_elem? core.views j ≡ some u) where
      before : Fits valid sizes opening (world step) (IsSettled step) u
      before = rule.each j u there

      lives : {t : ℕ} → u.phase ≡ Drawn t → 0 < u.gathered
      lives {t} is =
          dite (ℕ_discrete u.gathered 0) (λ none. absurd (not_idle (sym (before.spent none).phase ∙ is)))
          (λ some_pass. omega arith)
        where
          not_idle : Idle ≡ Drawn t → ⊥
          not_idle e = absurd (cc)

      drawn_later : (t : ℕ) → u.phase ≡ Drawn t
          → HasDrawn opening past.log core.clock t u.number u.entries u.held u.checked
          → HasDrawn opening later ticket t u.number u.entries u.held u.checked
      drawn_later t is k = let within = k.within in let same = as_before t within in record {
        pending = ap (λ (e : Entry). e.fate) same ∙ k.pending;
        own = k.own;
        pass = ap (λ (e : Entry). e.pass) same ∙ k.pass;
        above = k.above;
        within = (omega arith);
        latest = λ m above top number. dite (ℕ_discrete m ticket)
            (λ is_new. rule.numbers seat j view u at there (λ e. ne (sym e)) live (lives is)
            (sym (ap (λ (e : Entry). e.pass) (ap later is_new ∙ new_entry)) ∙ number))
            (λ old. k.latest m above (omega arith)
            (sym (ap (λ (e : Entry). e.pass) (as_before m (omega arith))) ∙ number));
        holds = λ p. ap (λ (e : Entry). weight (writes e.updates p)) same ∙ k.holds p;
        tickets = k.tickets;
        checked = λ m c found.
            settles_later opening past.log core.clock entry refl c.0 (t - 1) c.1 (omega arith)
            (k.checked m c found);
        looked = subst (λ (e : Entry). Each (WasSoBelow opening later t) e.looked) (sym same)
            (λ m l found. let so = k.looked m l found in let lt = so.1 in
            (so.0, so.1, stands l.part so.0 l.ticket l.words (omega arith) so.2));
      }

      knows_later : (h : Phase) → u.phase ≡ h → InPhase opening (world step) (IsSettled step) h u
          → InPhase opening later_world (Settled (views_with step next)) h u
      knows_later (Looking r) is k = (read_later u.at r k.0, k.1, k.2)
      knows_later (Testing r) is k = read_later u.at r k
      knows_later (Drawn t) is k = drawn_later t is k
      knows_later (Won t puts) is k = let within = k.within in let same = as_before t within in record {
        committed = ap (λ (e : Entry). e.fate) same ∙ k.committed;
        own = k.own;
        above = k.above;
        within = (omega arith);
        writes = λ p held. ap (λ (e : Entry). writes e.updates p) same ∙ k.writes p held;
        tickets = k.tickets;
        last = λ p held. next_last opening past.log core.clock entry refl p ∙ k.last p held;
        put = λ p i part held found is_put. k.put p i part held found is_put
            ∙ ap (λ (ws : List ℤ). get_elem? ws i) (sym (up_same p t (omega arith)));
        rest = λ p i part held found not_put. k.rest p i part held found not_put
            ∙ ap (λ (ws : List ℤ). get_elem? ws i) (sym (up_same p (t - 1) (omega arith)));
      }
      knows_later (Lost t) is k = let within = k.within in let same = as_before t within in record {
        dropped = ap (λ (e : Entry). e.fate) same ∙ k.dropped;
        own = k.own;
        above = k.above;
        within = (omega arith);
        writes = λ p held. ap (λ (e : Entry). writes e.updates p) same ∙ k.writes p held;
        tickets = k.tickets;
      }
      knows_later _ is k = k

      hold_later : (h : Phase) → InPhase opening (world step) (IsSettled step) h u → (x : Held)
          → IsTrueHold core.parts (held_words opening past.log h) x
          → IsTrueHold core.parts (held_words opening later h) x
      hold_later (Won t puts) k x o = let within = k.within in record {
        part = o.part;
        there = o.there;
        ticket = o.ticket;
        reads = subst (ReadsAgree x.reads) (sym (up_same x.part (t - 1) (omega arith))) o.reads;
      }
      hold_later _ k x o = o

      other_fits : Fits valid sizes opening later_world (Settled (views_with step next)) u
      other_fits = record {
        spent = before.spent;
        serves = before.serves;
        at = (let within = before.at in omega arith);
        starts = before.starts;
        holds = before.holds;
        on_hold = λ m x found. hold_later u.phase before.knows x (before.on_hold m x found);
        own = before.own;
        entries = λ m e found. entry_later e (before.entries m e found);
        claims = λ m c found. claim_later c (before.claims m c found);
        wrote = λ m c found. wrote_later c (before.wrote m c found);
        knows = knows_later u.phase refl before.knows;
        alone = λ one some_pass. absurd (nobody_else one j u ne there some_pass);
      }

      -- its open read is below the new ticket
      reads_below : (h : Phase) → InPhase opening (world step) (IsSettled step) h u
          → ReadBeside h u.at (Drawn ticket) view.held
      reads_below (Looking r) k = λ some_held. let a = k.0.within in let b = before.at in
          ((omega arith), (omega arith))
      reads_below (Testing r) k = λ some_held. let a = k.within in let b = before.at in
          ((omega arith), (omega arith))
      reads_below _ k = tt

    -- What the entry looked at

    one_hold : (p : ℕ) → weight (holds p view.held) ≡ count p view.held
    one_hold p = by (holds p view.held) refl
      where
        by : (b : Bool) → holds p view.held ≡ b → weight b ≡ count p view.held
        by false is = sym (unheld_counts p view.held is)
        by true is =
            let some_held = held_counts p view.held is in let k = held_at p view.held some_held in
            let o = (fits step).on_hold k.0 k.1 k.2 in
            let all = exclusive rule p o.part (ap (get_elem? core.parts) (sym k.3) ∙ o.there) in
            let mine = total-at (λ v. count p v.held) core.views seat view at in omega arith

    by_claim : (p : ℕ) (c : Claim) → c.part ≡ p → IsTrueClaim opening past.log core.clock c
        → WasSoBelow opening later ticket (looked_by_claim p c)
    by_claim p c same k = let within = k.within in (
      c.number,
      (omega arith),
      stands p c.number c.ticket c.words within
          (subst (λ (m : ℕ). PartAsOf opening past.log m c.number c.ticket c.words) same k.stands),
    )

    recent_part : (p : ℕ) (c : Claim) → is_recent view p c ≡ true → c.part ≡ p
    recent_part p c is = eqb-true c.part p (both_are (eqb c.part p) (eqb c.start view.starts) is).0

    standing_part : (p : ℕ) (c : Claim) → is_standing view p c ≡ true → c.part ≡ p
    standing_part p c is = recent_part p c (both_are (eqb c.number view.at) (is_recent view p c) is).1

    seen_was_so : (p : ℕ) → WasSeen view p → WasSoBelow opening later ticket (seen_part view p)
    seen_was_so p was_seen =
        let k = last_among (is_standing view p) no_claim view.claims was_seen in
        let claim = last_claim (is_standing view p) no_claim view.claims in
        by_claim p claim (standing_part p claim k.2) ((fits step).claims k.0 claim k.1)

    held_was_so : (p : ℕ) → LoadedByHold view p
        → WasSoBelow opening later ticket (looked_by_hold view p (hold_of p view.held))
    held_was_so p loaded = let k = read_under_hold step unwon p loaded in let hold = hold_of p view.held in (
      core.clock,
      (omega arith),
      stands p core.clock hold.ticket (words_read hold.reads (width_in view p)) (omega arith) record {
        ticket = k.ticket;
        words = k.words;
        none = own_none rule seat view at p (part_at core.parts p) core.clock k.there k.some_held (omega arith)
            (λ t le. ap (λ (h : Phase). if_drawn t h (count p view.held)) may.phase);
      },
    )

    loaded_was_so : (p : ℕ) → LoadedByHold view p ⊎ LoadedByClaim view p
        → WasSoBelow opening later ticket (loaded_part view p)
    loaded_was_so p k =
        let claim = last_claim (is_recent view p) no_claim view.claims in
        let Goal : Bool → Type 0 =
        λ b. WasSoBelow opening later ticket
        (if b then looked_by_hold view p (hold_of p view.held) else looked_by_claim p claim) in
        ⊎_elim
        (λ (held : LoadedByHold view p). subst Goal (sym held.0) (held_was_so p held))
        (λ (tested : LoadedByClaim view p). subst Goal (sym tested.0)
        (let one = last_among (is_recent view p) no_claim view.claims tested.1 in
        by_claim p claim (recent_part p claim one.2) ((fits step).claims one.0 claim one.1)))
        k

    looked_was_so : Each (WasSoBelow opening later ticket) (looked_parts view seen loaded)
    looked_was_so =
        each_append (WasSoBelow opening later ticket) (map (seen_part view) seen)
        (map (loaded_part view) loaded)
        (each_of_map (seen_part view) (WasSeen view)
        (WasSoBelow opening later ticket) seen seen_was_so may.sights)
        (each_of_map (loaded_part view) (λ (p : ℕ). LoadedByHold view p ⊎ LoadedByClaim view p)
        (WasSoBelow opening later ticket) loaded loaded_was_so may.loads)

    -- The pass itself

    next_drawn : HasDrawn opening later ticket ticket next.number next.entries next.held next.checked
    next_drawn = record {
      pending = ap (λ (e : Entry). e.fate) new_entry;
      own =
          (let more = times-append ticket view.entries (entry ∷ []) in
          let one : weight (eqb ticket ticket) ≡ 1 = ap weight (eq-eqb ticket ticket refl) in omega arith);
      pass = ap (λ (e : Entry). e.pass) new_entry;
      above = (omega arith);
      within = (omega arith);
      latest = λ m above top. absurd (omega arith);
      holds = λ p. ap (λ (e : Entry). weight (writes e.updates p)) new_entry ∙ ap weight (may.held p)
          ∙ one_hold p;
      tickets = λ j h found. let o = (fits step).on_hold j h found in
          let within = rule.tickets h.part o.part o.there in let same = o.ticket in omega arith;
      checked = λ j x none. absurd (some-ne-none x (sym none));
      looked = subst (λ (e : Entry). Each (WasSoBelow opening later ticket) e.looked)
          (sym new_entry) looked_was_so;
    }

    entry_logged : IsLogged valid sizes opening later ticket entry
    entry_logged = record {
      within = (omega arith);
      logged = new_entry;
      rising = may.updates.0;
      widths = subst (λ (c : Contents). UpdatesFit c us) ((fits step).serves live).same_opening may.widths;
      keeps = subst (λ (ns : List ℕ). KeepsValid valid ns (looked_parts view seen loaded) us)
          ((fits step).serves live).same_sizes may.keeps;
      looked = λ committed. absurd (not_both committed);
    }
      where
        not_both : Pending ≡ Committed → ⊥
        not_both e = absurd (cc)

    not_drawn : {t : ℕ} → Locking ≡ Drawn t → ⊥
    not_drawn e = absurd (cc)

    next_fits : Fits valid sizes opening later_world (Settled (views_with step next)) next
    next_fits = let locking = phased step Locking may.phase in record {
      spent = not_spent step;
      serves = λ some_pass. still_serves step next refl;
      at = (let within = (fits step).at in omega arith);
      starts = (fits step).starts;
      holds = locking.holds;
      on_hold = locking.on_hold;
      own =
          each_snoc (IsOwn (Drawn ticket)) view.entries entry
          (λ j e found pending. absurd (not_drawn (locking.own j e found pending))) (λ pending. refl);
      entries =
          each_snoc (IsLogged valid sizes opening later ticket) view.entries entry
          (λ j e found. entry_later e ((fits step).entries j e found)) entry_logged;
      claims = λ j c found. claim_later c ((fits step).claims j c found);
      wrote = λ j c found. wrote_later c ((fits step).wrote j c found);
      knows = next_drawn;
      alone = λ one some_pass. let before = locking.alone one in ((omega arith), refl);
    }

    -- All views

    once_more : (t : ℕ) → total (λ u. times t u.entries) (views_with step next) ≡ once t ticket
    once_more t =
        let sum = sum_set step (λ u. times t u.entries) next in
        let more = times-append t view.entries (entry ∷ []) in
        let before = rule.once_each t in omega arith

    pending_held : (p t : ℕ) → t ≤ ticket → writes (pending_updates (later t)) p ≡ true
        → 0 < total (λ u. if_drawn t u.phase (count p u.held)) (views_with step next)
    pending_held p t le is =
        let sum = sum_set step (λ u. if_drawn t u.phase (count p u.held)) next in
        let none_before : if_drawn t view.phase (count p view.held) ≡ 0 =
        ap (λ (h : Phase). if_drawn t h (count p view.held)) may.phase in
        dite (ℕ_discrete t ticket)
        (λ is_new.
        let written : writes us p ≡ true =
        sym (ap (λ (e : Entry). writes (pending_updates e) p) (ap later is_new ∙ new_entry)) ∙ is in
        let held : 1 ≡ count p view.held = sym (ap weight (sym (may.held p) ∙ written)) ∙ one_hold p in
        let mine : if_drawn t (Drawn ticket) (count p view.held) ≡ count p view.held =
        ap (λ (b : Bool). if b then count p view.held else 0) (eq-eqb t ticket is_new) in omega arith)
        (λ old.
        let within : t ≤ core.clock = omega arith in
        let before =
        rule.pending p t within
        (sym (ap (λ (e : Entry). writes (pending_updates e) p) (as_before t within)) ∙ is) in
        omega arith)

    room_left : (limit : ℕ) → total (λ u. u.draws) (views_with step next) + view.draws
        ≡ total (λ u. u.draws) core.views + (view.draws - 1)
        → core.clock + total (λ u. u.draws) core.views ≤ limit → 0 < view.draws
        → suc core.clock + total (λ u. u.draws) (views_with step next) ≤ limit
    room_left limit sum room some_draw = omega arith

    -- the event keeps the rule
    pub draw_keeps : Rule valid sizes opening after_draw (core_after (Draw us seen loaded) core seat view)
    draw_keeps = record {
      opened = rule.opened;
      widths = rule.widths;
      room = room_left _ (sum_set step (λ u. u.draws) next) rule.room may.draws;
      gathered = sum_same step (λ u. u.gathered) next refl ∙ rule.gathered;
      once_each = once_more;
      locks = λ p part there. rule.locks p part there ∙ sym (sum_same step (λ u. count p u.held) next refl);
      settled = λ p part there settled. let now = rule.settled p part there (still_settled p settled) in (
        now.0 ∙ sym (next_last opening past.log core.clock entry refl p),
        now.1 ∙ sym (next_up opening past.log core.clock entry refl p),
      );
      pending = pending_held;
      tickets = λ p part there. let within = rule.tickets p part there in omega arith;
      statuses = λ m lt. rule.statuses m lt
          ∙ sym (same_status opening past.log core.clock entry refl past.since m);
      since = (let within = rule.since in omega arith);
      recent = λ t above le pending. dite (ℕ_discrete t ticket)
          (λ is_new. let within = rule.since in omega arith)
          (λ old. rule.recent t above (omega arith)
          (sym (ap (λ (e : Entry). e.fate) (as_before t (omega arith))) ∙ pending));
      numbers = still_apart step next refl;
      meets =
          reads_set core.views seat next rule.meets tt
          (λ j u ne there. (tt, reads_below j u ne there u.phase (rule.each j u there).knows));
      each =
          each_others (Fits valid sizes opening (world step) (IsSettled step))
          (Fits valid sizes opening later_world (Settled (views_with step next))) core.views seat next rule.each
          (λ j u ne there k. other_fits j u ne there) next_fits;
    }
