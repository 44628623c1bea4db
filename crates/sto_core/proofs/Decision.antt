-- A pass decides the ticket that it has drawn: what a commit and a drop have in common.
--
-- The entry of the ticket gets its fate, and the status word follows. Nothing that the rule says of other
-- passes turns on it: by `HasDrawn.holds` and `Rule.locks` nobody else holds a part that the entry writes,
-- and by `IsTrueClaim` and `IsLogged.looked` no claim and no looked part of a committed entry is of such a
-- part as of a number from the ticket on.
use Rattle.std.specs.Prelude.{if◌then◌else◌}
use Rattle.std.proofs.Common.{◌≡◌, ◌≢◌, ◌⊎◌, inl, ⊎_elim, ℕ, ℤ, ◌+◌, ◌-◌, ◌<◌, ◌≤◌, ◌^◌, List, length, map}
use Rattle.std.proofs.Common.{get_or, Bool, true, false, true≢false, set, sym, refl, ap, ◌∙◌, subst, arith}
use Rattle.std.proofs.Common.{ne_eqb, get_or-set_same, get_or-set_other}
use Rattle.std.proofs.lemmas.List.{length-set}
use mathlib.Core.Logic.{dite}
use mathlib.Core.Option.{some}
use native.Mathlib.Decide.{ℕ_discrete}
use lib.ListN.{get_elem?}
use Rattle.sto_core.specs.declared.view.View.{View}
use Rattle.sto_core.specs.declared.view.Entry.{Entry}
use Rattle.sto_core.specs.declared.view.Held.{Held}
use Rattle.sto_core.specs.declared.view.Claim.{Claim}
use Rattle.sto_core.specs.declared.view.Wrote.{Wrote}
use Rattle.sto_core.specs.declared.view.OpenRead.{OpenRead}
use Rattle.sto_core.specs.declared.view.Fate.TheVariants.{Pending, Committed, Dropped}
use Rattle.sto_core.specs.declared.view.Fate.{Fate}
use Rattle.sto_core.specs.declared.view.Looked.{Looked}
use Rattle.sto_core.specs.declared.view.Phase.{Phase}
use Rattle.sto_core.specs.declared.view.Phase.TheVariants.{Looking, Testing, Drawn, Won, Lost}
use Rattle.sto_core.specs.Lists.{Each, Among, weight}
use Rattle.sto_core.specs.History.{Contents, Validity, Log, writes, pending_updates, if_pending, status_after}
use Rattle.sto_core.specs.History.{status_by, last_writer, up, PartAsOf}
use Rattle.sto_core.specs.Views.{own_entry, entry_of, hold_of, own_ticket, width_in, count, times, if_drawn}
use Rattle.sto_core.specs.Reads.{ReadsAgree}
use Rattle.sto_core.specs.Event.{settle, settle_entry}
use Rattle.sto_core.specs.Allowed.{HoldsPart, IsHeldAs, IsConfirmed}
use Rattle.sto_core.specs.Core.{part_at, status_word}
use Rattle.sto_core.specs.Rule.{total, Settled, World, Past, ReadBeside, IsTrueRead, WasSoBelow, WasSoBefore}
use Rattle.sto_core.specs.Rule.{HasDrawn, IsTrueWrote, IsTrueClaim, IsLogged, IsOwn, IsTrueHold, held_words}
use Rattle.sto_core.specs.Rule.{InPhase, Fits, Rule}
use Rattle.sto_core.proofs.DecidedHistory.{with_fate, fated, fated_here, fated_else, same_pass, alike_unwritten}
use Rattle.sto_core.proofs.DecidedHistory.{alike_dropped, decide_stands, decide_ticket, decide_wrote}
use Rattle.sto_core.proofs.DecidedHistory.{status_else, status_own}
use Rattle.sto_core.proofs.Entries.{entry_at, once_one, times_at, times_settle}
use Rattle.sto_core.proofs.HeldParts.{read_under_hold}
use Rattle.sto_core.proofs.History.{last_alike, last_below, unchanged, up_alike}
use Rattle.sto_core.proofs.Holds.{count_at, held_at, hold_at}
use Rattle.sto_core.proofs.Lists.{each_of_map, each_others, zero_bit}
use Rattle.sto_core.proofs.Parts.{exclusive, own_none}
use Rattle.sto_core.proofs.Phases.{IsWonPhase, final}
use Rattle.sto_core.proofs.Step.{Step, IsSettled, lasting, world, views_with, fits, phased, still_apart}
use Rattle.sto_core.proofs.Step.{sum_same, sum_set}
use Rattle.sto_core.proofs.Sums.{reads_set, total-two}

module _ {valid : Validity} {sizes : List ℕ} {opening : Contents} (step : Step valid sizes opening) where
  open step use {past, core, seat, view, rule, at, live}

  module _ (commit : Bool) (t : ℕ) (is_drawn : view.phase ≡ Drawn t) where
    abbrev fate : Fate
    fate = settle commit Pending

    -- what the rule says of the pass
    pub drawn : HasDrawn opening past.log core.clock t view.number view.entries view.held view.checked
    drawn = (phased step (Drawn t) is_drawn).knows

    -- the history after the decision
    abbrev later : Log
    later = fated opening past.log t fate drawn.pending

    -- the history nobody sees, after the decision
    abbrev pub after_decide : Past
    after_decide = record { log = later; since = past.since }

    abbrev later_world : World
    later_world = record { clock = core.clock; passes = length core.statuses; parts = core.parts; log = later }

    unwon : IsWonPhase view.phase → ⊥
    unwon won = subst IsWonPhase is_drawn won

    same_other : (k : ℕ) → k ≢ t → later k ≡ past.log k
    same_other = fated_else opening past.log t fate drawn.pending

    -- a part that keeps its history: one that the pass does not hold, or any where the entry is dropped
    abbrev pub Untouched : ℕ → Type 0
    Untouched p = (count p view.held ≡ 0) ⊎ (fate ≡ Dropped)

    unwritten_part : (p : ℕ) → count p view.held ≡ 0 → writes (past.log t).updates p ≡ false
    unwritten_part p none = zero_bit (writes (past.log t).updates p) (drawn.holds p ∙ none)

    same_last : (p n : ℕ) → Untouched p → last_writer opening later p n ≡ last_writer opening past.log p n
    same_last p n k = ⊎_elim
        (λ (none : count p view.held ≡ 0).
        last_alike opening later past.log p n
        (λ m le. alike_unwritten opening past.log t fate drawn.pending p (unwritten_part p none) m))
        (λ (dropped : fate ≡ Dropped).
        last_alike opening later past.log p n
        (λ m le. alike_dropped opening past.log t fate drawn.pending dropped p m))
        k

    same_up : (p n : ℕ) → Untouched p → up opening later p n ≡ up opening past.log p n
    same_up p n k = ⊎_elim
        (λ (none : count p view.held ≡ 0).
        up_alike opening later past.log p n
        (λ m le. alike_unwritten opening past.log t fate drawn.pending p (unwritten_part p none) m))
        (λ (dropped : fate ≡ Dropped).
        up_alike opening later past.log p n
        (λ m le. alike_dropped opening past.log t fate drawn.pending dropped p m))
        k

    stands : (p n s : ℕ) (ws : List ℤ) → PartAsOf opening past.log p n s ws → PartAsOf opening later p n s ws
    stands = decide_stands opening past.log t fate drawn.pending (final commit Pending)

    -- a claim stays true
    pub claim_still : (c : Claim) → IsTrueClaim opening past.log core.clock c
        → IsTrueClaim opening later core.clock c
    claim_still c k = record { within = k.within; stands = stands c.part c.number c.ticket c.words k.stands }

    -- and so does a claim of a writer
    pub wrote_still : (c : Wrote) → IsTrueWrote past.log core.clock c → IsTrueWrote later core.clock c
    wrote_still c k = record {
      above = k.above;
      within = k.within;
      wrote = decide_wrote opening past.log t fate drawn.pending c.part c.ticket k.wrote;
    }

    -- what a decision asks of the view w after it
    pub record Decides (w : View) : Type 0 where
      pub same : lasting w ≡ lasting view
      pub draws : w.draws ≡ view.draws
      pub held : w.held ≡ view.held
      pub entries : w.entries ≡ map (settle_entry commit) view.entries
      pub undrawn : (m n : ℕ) → if_drawn m w.phase n ≡ 0
      pub settled : (p : ℕ) → Settled (views_with step w) p → IsSettled step p × Untouched p
      pub reads : (a : ℕ) (h : Phase) (gs : List Held) → ReadBeside w.phase a h gs
      pub met : (a : ℕ) (h : Phase) → ReadBeside h a (Drawn t) view.held → ReadBeside h a w.phase w.held
      pub fits : Fits valid sizes opening later_world (Settled (views_with step w)) w
      pub status : (s : ℕ) → status_by fate t s ≡ status_word commit t

    module _ (w : View) (k : Decides w) where
      abbrev IsSettledAfter : ℕ → Type 0
      IsSettledAfter = Settled (views_with step w)

      -- Another pass

      module _ (j : ℕ) (u : View) (ne : j ≢ seat) (there : get_elem? core.views j ≡ some u) where
        before : Fits valid sizes opening (world step) (IsSettled step) u
        before = rule.each j u there

        -- it has no entry of this ticket
        no_entry : times t u.entries ≡ 0
        no_entry =
            let two = total-two (λ v. times t v.entries) core.views j seat u view ne there at in
            let once_each = rule.once_each t in let one = once_one t core.clock in let mine = drawn.own in
            omega arith

        other_ticket : (x : ℕ) → 0 < times x u.entries → x ≢ t
        other_ticket x some_entry same =
            let none = no_entry in let here = subst (λ (m : ℕ). 0 < times m u.entries) same some_entry in
            omega arith

        -- what it holds this pass does not
        apart : (p : ℕ) → 0 < count p u.held → count p view.held ≡ 0
        apart p some_held =
            let h = held_at p u.held some_held in let o = before.on_hold h.0 h.1 h.2 in
            let all = exclusive rule p o.part (ap (get_elem? core.parts) (sym h.3) ∙ o.there) in
            let two = total-two (λ v. count p v.held) core.views j seat u view ne there at in omega arith

        read_still : (a : ℕ) (r : OpenRead) → IsTrueRead core.clock core.parts (IsSettled step) a r
            → IsTrueRead core.clock core.parts IsSettledAfter a r
        read_still a r is_true = record {
          within = is_true.within;
          now = is_true.now;
          words = λ part found settled same. is_true.words part found (k.settled r.part settled).0 same;
        }

        drawn_still : (x : ℕ) → HasDrawn opening past.log core.clock x u.number u.entries u.held u.checked
            → HasDrawn opening later core.clock x u.number u.entries u.held u.checked
        drawn_still x d = let same = same_other x (other_ticket x d.own) in record {
          pending = ap (λ (e : Entry). e.fate) same ∙ d.pending;
          own = d.own;
          pass = ap (λ (e : Entry). e.pass) same ∙ d.pass;
          above = d.above;
          within = d.within;
          latest = λ m above top number.
              d.latest m above top (sym (same_pass opening past.log t fate drawn.pending m) ∙ number);
          holds = λ p. ap (λ (e : Entry). weight (writes e.updates p)) same ∙ d.holds p;
          tickets = d.tickets;
          checked = λ m c found.
              decide_ticket opening past.log t fate drawn.pending (final commit Pending) c.0 (x - 1) c.1
              (d.checked m c found);
          looked = subst (λ (e : Entry). Each (WasSoBelow opening later x) e.looked) (sym same)
              (λ m l found. let so = d.looked m l found in
              (so.0, so.1, stands l.part so.0 l.ticket l.words so.2));
        }

        knows_still : (h : Phase) → InPhase opening (world step) (IsSettled step) h u
            → InPhase opening later_world IsSettledAfter h u
        knows_still (Looking r) d = (read_still u.at r d.0, d.1, d.2)
        knows_still (Testing r) d = read_still u.at r d
        knows_still (Drawn x) d = drawn_still x d
        knows_still (Won x puts) d = let same = same_other x (other_ticket x d.own) in record {
          committed = ap (λ (e : Entry). e.fate) same ∙ d.committed;
          own = d.own;
          above = d.above;
          within = d.within;
          writes = λ p held. ap (λ (e : Entry). writes e.updates p) same ∙ d.writes p held;
          tickets = d.tickets;
          last = λ p held. same_last p core.clock (inl (apart p held)) ∙ d.last p held;
          put = λ p i part held found is_put. d.put p i part held found is_put
              ∙ ap (λ (ws : List ℤ). get_elem? ws i) (sym (same_up p x (inl (apart p held))));
          rest = λ p i part held found not_put. d.rest p i part held found not_put
              ∙ ap (λ (ws : List ℤ). get_elem? ws i) (sym (same_up p (x - 1) (inl (apart p held))));
        }
        knows_still (Lost x) d = let same = same_other x (other_ticket x d.own) in record {
          dropped = ap (λ (e : Entry). e.fate) same ∙ d.dropped;
          own = d.own;
          above = d.above;
          within = d.within;
          writes = λ p held. ap (λ (e : Entry). writes e.updates p) same ∙ d.writes p held;
          tickets = d.tickets;
        }
        knows_still _ d = d

        hold_still : (h : Phase) (x : Held) → 0 < count x.part u.held
            → IsTrueHold core.parts (held_words opening past.log h) x
            → IsTrueHold core.parts (held_words opening later h) x
        hold_still (Won y puts) x some_held o = record {
          part = o.part;
          there = o.there;
          ticket = o.ticket;
          reads = subst (ReadsAgree x.reads) (sym (same_up x.part (y - 1) (inl (apart x.part some_held)))) o.reads;
        }
        hold_still _ x some_held o = o

        entry_still : (m : ℕ) (e : Entry) → get_elem? u.entries m ≡ some e
            → IsLogged valid sizes opening past.log core.clock e
            → IsLogged valid sizes opening later core.clock e
        entry_still m e found d = record {
          within = d.within;
          logged = same_other e.ticket (other_ticket e.ticket (times_at u.entries m e found)) ∙ d.logged;
          rising = d.rising;
          widths = d.widths;
          keeps = d.keeps;
          looked = λ committed n l g. stands l.part (e.ticket - 1) l.ticket l.words (d.looked committed n l g);
        }

        other_fits : Fits valid sizes opening later_world IsSettledAfter u
        other_fits = record {
          spent = before.spent;
          serves = before.serves;
          at = before.at;
          starts = before.starts;
          holds = before.holds;
          on_hold = λ m x found. hold_still u.phase x (count_at u.held m x found) (before.on_hold m x found);
          own = before.own;
          entries = λ m e found. entry_still m e found (before.entries m e found);
          claims = λ m c found. claim_still c (before.claims m c found);
          wrote = λ m c found. wrote_still c (before.wrote m c found);
          knows = knows_still u.phase before.knows;
          alone = before.alone;
        }

      -- All views

      pending_held : (p m : ℕ) → m ≤ core.clock → writes (pending_updates (later m)) p ≡ true
          → 0 < total (λ u. if_drawn m u.phase (count p u.held)) (views_with step w)
      pending_held p m le is =
          dite (ℕ_discrete m t)
          (λ same. absurd
          (true≢false
          (sym is
          ∙ ap (λ (e : Entry). writes (pending_updates e) p)
          (ap later same ∙ fated_here opening past.log t fate drawn.pending)
          ∙ none_left commit)))
          (λ ne.
          let some_drawn =
          rule.pending p m le (sym (ap (λ (e : Entry). writes (pending_updates e) p) (same_other m ne)) ∙ is) in
          let none_before : if_drawn m view.phase (count p view.held) ≡ 0 =
          ap (λ (h : Phase). if_drawn m h (count p view.held)) is_drawn
          ∙ ap (λ (b : Bool). if b then count p view.held else 0) (ne_eqb m t ne) in
          let none_after = k.undrawn m (count p w.held) in
          let sum = sum_set step (λ v. if_drawn m v.phase (count p v.held)) w in omega arith)
        where
          none_left : (b : Bool) → writes (if_pending (settle b Pending) (past.log t).updates) p ≡ false
          none_left true = refl
          none_left false = refl

      abbrev statuses : List ℕ
      statuses = set core.statuses view.number (status_word commit t)

      statuses_are : (m : ℕ) → m < length statuses
          → get_or statuses m 0 ≡ status_after later past.since m core.clock
      statuses_are m lt =
          let range = ((fits step).serves live).number in
          let long = length-set core.statuses view.number (status_word commit t) in let within = drawn.within in
          dite (ℕ_discrete m view.number)
          (λ is.
          ap (λ (n : ℕ). get_or statuses n 0) is
          ∙ get_or-set_same core.statuses view.number (status_word commit t) 0 range
          ∙ sym (status_own opening past.log t fate drawn.pending past.since m (drawn.pass ∙ sym is)
          (rule.recent t drawn.above drawn.within drawn.pending) core.clock
          (λ u above top number. drawn.latest u above top (number ∙ is))
          (status_word commit t) k.status core.clock
          within (omega arith)))
          (λ ne.
          get_or-set_other core.statuses view.number m (status_word commit t) 0 ne
          ∙ rule.statuses m (omega arith)
          ∙ sym (status_else opening past.log t fate drawn.pending past.since m
          (λ own. ne (sym own ∙ drawn.pass)) core.clock))

      -- such a decision keeps the rule
      pub decide_by : Rule valid sizes opening after_decide
          (record { clock = core.clock; statuses = statuses; parts = core.parts; views = views_with step w })
      decide_by =
          let number = ap (λ (v : View). v.number) k.same in
          let gathered = ap (λ (v : View). v.gathered) k.same in
          record {
            opened = rule.opened;
            widths = rule.widths;
            room = subst (λ (n : ℕ). core.clock + n ≤ 2 ^ 56)
                (sym (sum_same step (λ v. v.draws) w k.draws)) rule.room;
            gathered = sum_same step (λ v. v.gathered) w gathered ∙ rule.gathered
                ∙ sym (length-set core.statuses view.number (status_word commit t));
            once_each = λ m. sum_same step (λ v. times m v.entries) w
                (ap (times m) k.entries ∙ times_settle commit m view.entries) ∙ rule.once_each m;
            locks = λ p part there. rule.locks p part there
                ∙ sym (sum_same step (λ v. count p v.held) w (ap (count p) k.held));
            settled = λ p part there settled.
                let untouched = k.settled p settled in let now = rule.settled p part there untouched.0 in (
                  now.0 ∙ sym (same_last p core.clock untouched.1),
                  now.1 ∙ sym (same_up p core.clock untouched.1),
                );
            pending = pending_held;
            tickets = rule.tickets;
            statuses = statuses_are;
            since = rule.since;
            recent = λ m above le is. rule.recent m above le
                (dite (ℕ_discrete m t) (λ same. ap (λ (n : ℕ). (past.log n).fate) same ∙ drawn.pending)
                (λ ne. sym (ap (λ (e : Entry). e.fate) (same_other m ne)) ∙ is));
            numbers = still_apart step w number;
            meets =
                reads_set core.views seat w rule.meets (k.reads w.at w.phase w.held)
                (λ j u ne there. (
                  k.reads w.at u.phase u.held,
                  k.met u.at u.phase ((phased step (Drawn t) is_drawn).met j u there),
                ));
            each = subst
                (λ (n : ℕ). Each
                (Fits valid sizes opening
                (record { clock = core.clock; passes = n; parts = core.parts; log = later }) IsSettledAfter)
                (views_with step w))
                (sym (length-set core.statuses view.number (status_word commit t)))
                (each_others (Fits valid sizes opening (world step) (IsSettled step))
                (Fits valid sizes opening later_world IsSettledAfter) core.views seat w rule.each
                (λ j u ne there d. other_fits j u ne there) k.fits);
          }

    -- What the pass's own entries looked at

    same_entry : past.log t ≡ own_entry view
    same_entry =
        entry_at past.log t view.entries drawn.own (λ j e there. ((fits step).entries j e there).logged)
        ∙ ap (λ (n : ℕ). entry_of n view.entries) (sym (ap own_ticket is_drawn))

    -- a confirmed part was so before the ticket
    confirmed_by_check : (j : ℕ) (l : Looked) → get_elem? (past.log t).looked j ≡ some l
        → Among (l.part, l.ticket) view.checked → WasSoBefore opening past.log t l
    confirmed_by_check j l there check =
        let ticket = drawn.checked check.0 (l.part, l.ticket) check.1 in
        let so = drawn.looked j l there in let below = so.1 in let was = so.2 in
        let same = was.ticket in let last = ticket.ticket in
        let early = last_below opening past.log l.part so.0 in
        let since = unchanged opening past.log l.part so.0 (t - 1) (omega arith) (omega arith) in
        record { ticket = ticket.ticket; words = was.words ∙ sym since.0; none = ticket.none }

    confirmed_by_hold : (l : Looked) → HoldsPart view l.part
        → IsHeldAs l (hold_of l.part view.held) (width_in view l.part) → WasSoBefore opening past.log t l
    confirmed_by_hold l held held_as =
        let p = l.part in let hold = hold_of l.part view.held in
        let k = read_under_hold step unwon l.part (held, held_as.1) in
        let h = hold_at l.part view.held held in
        let below : hold.ticket < t = drawn.tickets h.0 hold h.1 in
        let last = k.ticket in let within = drawn.within in let above = drawn.above in
        let since = unchanged opening past.log l.part (t - 1) core.clock (omega arith) (omega arith) in
        record {
          ticket = sym held_as.0 ∙ k.ticket ∙ since.1;
          words = sym held_as.2 ∙ k.words ∙ since.0;
          none = own_none rule seat view at l.part (part_at core.parts l.part) (t - 1) k.there k.some_held
              (omega arith)
              (λ m le. ap (λ (g : Phase). if_drawn m g (count l.part view.held)) is_drawn
              ∙ ap (λ (b : Bool). if b then count l.part view.held else 0) (ne_eqb m t (λ same. omega arith)));
        }

    -- so is each looked part, where all are confirmed
    pub confirmed : Each (IsConfirmed view) (own_entry view).looked
        → Each (WasSoBefore opening past.log t) (past.log t).looked
    confirmed all j l there =
        ⊎_elim (confirmed_by_check j l there)
        (λ (held : HoldsPart view l.part × IsHeldAs l (hold_of l.part view.held) (width_in view l.part)).
        confirmed_by_hold l held.0 held.1)
        (subst (λ (e : Entry). Each (IsConfirmed view) e.looked) (sym same_entry) all j l there)

    -- Its entries after the decision

    decided_before : (e : Entry) (g : Fate) → e.fate ≡ g → settle commit g ≡ g → (g ≡ Pending → ⊥)
        → IsLogged valid sizes opening past.log core.clock e
        → IsLogged valid sizes opening later core.clock (settle_entry commit e)
    decided_before e g is same decided k =
        let other : e.ticket ≢ t =
        λ e_is. decided
        (sym is ∙ ap (λ (x : Entry). x.fate) (sym k.logged) ∙ ap (λ (n : ℕ). (past.log n).fate) e_is
        ∙ drawn.pending) in
        subst (λ (x : Fate). IsLogged valid sizes opening later core.clock (record e { fate = x }))
        (is ∙ sym same ∙ ap (settle commit) (sym is))
        record {
          within = k.within;
          logged = same_other e.ticket other ∙ k.logged;
          rising = k.rising;
          widths = k.widths;
          keeps = k.keeps;
          looked = λ committed m l there. stands l.part (e.ticket - 1) l.ticket l.words
              (k.looked committed m l there);
        }

    decided_now : (fate ≡ Committed → Each (WasSoBefore opening past.log t) (past.log t).looked) → (e : Entry)
        → e.fate ≡ Pending → view.phase ≡ Drawn e.ticket → IsLogged valid sizes opening past.log core.clock e
        → IsLogged valid sizes opening later core.clock (settle_entry commit e)
    decided_now looked e is own k =
        let same : t ≡ e.ticket = ap own_ticket (sym is_drawn ∙ own) in
        let logged : past.log t ≡ e = ap past.log same ∙ k.logged in
        record {
          within = k.within;
          logged =
              ap later (sym same) ∙ fated_here opening past.log t fate drawn.pending
              ∙ ap (with_fate fate) logged
              ∙ ap (λ (x : Fate). record e { fate = settle commit x }) (sym is);
          rising = k.rising;
          widths = k.widths;
          keeps = k.keeps;
          looked = λ committed m l there. stands l.part (e.ticket - 1) l.ticket l.words
              (subst (λ (n : ℕ). WasSoBefore opening past.log n l) same
              (subst (λ (x : Entry). Each (WasSoBefore opening past.log t) x.looked) logged
              (looked (ap (settle commit) (sym is) ∙ committed)) m l there));
        }

    -- the entries of the pass stand in the history as before, and rest on what they looked at
    pub decided_entries : (fate ≡ Committed → Each (WasSoBefore opening past.log t) (past.log t).looked)
        → Each (IsLogged valid sizes opening later core.clock) (map (settle_entry commit) view.entries)
    decided_entries looked =
        each_of_map (settle_entry commit)
        (λ (e : Entry). IsLogged valid sizes opening past.log core.clock e × IsOwn view.phase e)
        (IsLogged valid sizes opening later core.clock) view.entries (λ e k. by_fate e k e.fate refl)
        (λ j e there. ((fits step).entries j e there, (fits step).own j e there))
      where
        kept : (b : Bool) → settle b Committed ≡ Committed
        kept true = refl
        kept false = refl

        kept_dropped : (b : Bool) → settle b Dropped ≡ Dropped
        kept_dropped true = refl
        kept_dropped false = refl

        by_fate : (e : Entry) → IsLogged valid sizes opening past.log core.clock e × IsOwn view.phase e
            → (g : Fate)
            → e.fate ≡ g → IsLogged valid sizes opening later core.clock (settle_entry commit e)
        by_fate e k Pending is = decided_now looked e is (k.1 is) k.0
        by_fate e k Committed is = decided_before e Committed is (kept commit) (λ x. absurd (cc)) k.0
        by_fate e k Dropped is = decided_before e Dropped is (kept_dropped commit) (λ x. absurd (cc)) k.0
