-- The records of a finished run stand in the history of its words: one view has the whole of it.
use Rattle.std.specs.Prelude.{◌↔◌, if◌then◌else◌}
use Rattle.std.specs.List.{All}
use Rattle.std.proofs.lemmas.List.Elements.{All-weaker}
use Rattle.std.proofs.Common.{◌≡◌, ℕ, zero, suc, ◌+◌, ◌-◌, ◌<◌, ◌≤◌, List, [], ◌∷◌, length, refl, sym, ap, ◌∙◌, subst, arith, Bool, true, false, nat_eq, eq-eqb, ne_eqb, true≢false}
use mathlib.Core.Option.{some, some-injective, some-ne-none}
use lib.ListN.{get_elem?}
use Rattle.sto_part.specs.Parts.{part_of}
use Rattle.sto_item.specs.Pending.{Entry as Update, applied_updates}
use Rattle.sto_model.specs.PlainReplies.{PlainReply}
use Rattle.sto_model.specs.Run.{Behaviour}
use Rattle.sto_type.specs.Known.{Parts}
use Rattle.sto_type.specs.Meaning.{Meaning}
use Rattle.sto_core.specs.declared.view.Entry.{Entry}
use Rattle.sto_core.specs.declared.view.Claim.{Claim}
use Rattle.sto_core.specs.declared.view.Fate.{Fate}
use Rattle.sto_core.specs.declared.view.Fate.TheVariants.{Pending, Committed, Dropped}
use Rattle.sto_core.specs.declared.view.View.{View}
use Rattle.sto_core.specs.Lists.{Each, Among, weight}
use Rattle.sto_core.specs.History.{Contents, Validity, Shows, if_committed, committed_updates, writes, contents_as_of}
use Rattle.sto_core.specs.Views.{times}
use Rattle.sto_core.specs.Core.{Core}
use Rattle.sto_core.specs.Rule.{once, Past, Rule, Settled, world_of, IsLogged, IsTrueWrote, Fits}
use Rattle.sto_core.proofs.Entries.{times_at, time_at, once_one, once_within}
use Rattle.sto_core.proofs.Valid.{part_after, all_valid}
use Rattle.sto_core.proofs.Stated.{claim_in_contents}
use Rattle.sto_core.proofs.Closing.{closes_whole}
use Rattle.sto_history.specs.Records.{Verdict, Wrote, Read, Cancelled, Locked, Changed, Record, times_written}
use Rattle.sto_history.specs.Told.{HasClaimed, HasWritten, HasRead, HasCancelled, WasAborted, HasWrote, WasChanged, IsTold}
use Rattle.sto_history.specs.Counted.{if_won, times_committed}
use Rattle.sto_history.proofs.Histories.{IsHistory, WroteAt, ReadAt, CancelledAt, AbortedAt, ChangedAt, StandsAt}

-- committed entries are entries
won_few : (f : Fate) → if_won f ≤ 1
won_few Pending = omega arith
won_few Committed = omega arith
won_few Dropped = omega arith

one_few : (b : Bool) (f : Fate) → (if b then if_won f else 0) ≤ weight b
one_few true f = won_few f
one_few false f = omega arith

committed_few : (t : ℕ) (es : List Entry) → times_committed t es ≤ times t es
committed_few t [] = omega arith
committed_few t (e ∷ es) = let here = one_few (nat_eq t e.ticket) e.fate in let rest = committed_few t es in omega (arith, here, rest)

-- a committed entry of the list is counted
committed_at : (es : List Entry) (j : ℕ) (e : Entry) → get_elem? es j ≡ some e → e.fate ≡ Committed → 0 < times_committed e.ticket es
committed_at [] j e h c = absurd (some-ne-none e (sym h))
committed_at (x ∷ xs) zero e h c =
    let is : x ≡ e = some-injective x e h in
    let hit : nat_eq e.ticket x.ticket ≡ true = eq-eqb e.ticket x.ticket (ap (λ (y : Entry). y.ticket) (sym is)) in
    let won : if_won x.fate ≡ 1 = ap (λ (y : Entry). if_won y.fate) is ∙ ap if_won c in
    let one : (if nat_eq e.ticket x.ticket then if_won x.fate else 0) ≡ 1 = ap (λ (b : Bool). if b then if_won x.fate else 0) hit ∙ won in
    omega (arith, one)
committed_at (x ∷ xs) (suc j) e h c = let k = committed_at xs j e h c in omega (arith, k)

once_zero : (n : ℕ) → once 0 n ≡ 0
once_zero zero = refl
once_zero (suc n) =
    let none : weight (nat_eq 0 (suc n)) ≡ 0 = ap weight (ne_eqb 0 (suc n) (λ e. omega arith)) in
    let k = once_zero n in omega (arith, none, k)

fate_of : (f : Fate) (us : List Update) → (f ≡ Committed → ⊥) → if_committed f us ≡ []
fate_of Pending us h = refl
fate_of Committed us h = absurd (h refl)
fate_of Dropped us h = refl

-- an entry whose updates count is committed
is_committed : (f : Fate) (us : List Update) (p : ℕ) → writes (if_committed f us) p ≡ true → f ≡ Committed
is_committed Pending us p h = absurd (true≢false (sym h))
is_committed Committed us p h = refl
is_committed Dropped us p h = absurd (true≢false (sym h))

module _ {valid : Validity} {sizes : List ℕ} {opening : Contents} {past : Past} {core : Core} (rule : Rule valid sizes opening past core)
    (i : ℕ) (v : View) (seat : get_elem? core.views i ≡ some v) (whole : v.gathered ≡ length core.statuses)
    (m : Meaning) (same_valid : (c : Parts) → m.valid c ↔ valid sizes c) (same_opening : m.opened ≡ opening)
    (rs : List Record) (tickets : (t : ℕ) → times_written t rs ≡ times_committed t v.entries) where
  -- the contents after the tickets up to a number, and which parts a ticket wrote
  abbrev pub contents_at : ℕ → Parts
  contents_at n = contents_as_of opening past.log n

  abbrev pub wrote_at : ℕ → ℕ → Bool
  wrote_at t p = writes (committed_updates (past.log t)) p

  fits : Fits valid sizes opening (world_of past core) (Settled core.views) v
  fits = rule.each i v seat

  entry_logged : (j : ℕ) (e : Entry) → get_elem? v.entries j ≡ some e → IsLogged valid sizes opening past.log core.clock e
  entry_logged j e h = fits.entries j e h

  few : (t : ℕ) → times_written t rs ≤ once t core.clock
  few t = let a = tickets t in let b = committed_few t v.entries in let c = closes_whole rule i v seat whole t in omega (arith, a, b, c)

  valid_at : (n : ℕ) → n ≤ core.clock → m.valid (contents_at n)
  valid_at n le = (same_valid (contents_at n)).1 (all_valid rule n le)

  -- a ticket that no record wrote with changes nothing
  still_at : (n : ℕ) → n < core.clock → times_written (suc n) rs ≡ 0 → contents_at (suc n) ≡ contents_at n
  still_at n l none =
      let counted : 0 < times (suc n) v.entries = (let c = closes_whole rule i v seat whole (suc n) in let o = once_within (suc n) core.clock (omega arith) (omega (arith, l)) in omega (arith, c, o)) in
      let found = time_at (suc n) v.entries counted in
      let e : Entry = found.1 in
      let in_log : past.log (suc n) ≡ e = ap past.log (sym found.3) ∙ (entry_logged found.0 e found.2).logged in
      let lost : e.fate ≡ Committed → ⊥ = λ c.
      (let some_committed = committed_at v.entries found.0 e found.2 c in let same = ap (λ (t : ℕ). times_committed t v.entries) found.3 in let a = tickets (suc n) in omega (arith, some_committed, same, a, none)) in
      ap (λ (x : Entry). applied_updates (committed_updates x) (contents_at n)) in_log
      ∙ ap (λ (us : List Update). applied_updates us (contents_at n)) (fate_of e.fate e.updates lost)

  pub history : IsHistory m core.clock contents_at rs
  history = record {
    opened = sym same_opening;
    valid = valid_at;
    still = still_at;
    once = λ t. (let a = few t in let b = once_one t core.clock in omega (arith, a, b));
    none = (let a = few 0 in let b = once_zero core.clock in omega (arith, a, b));
  }

  module _ (f : Behaviour) (replies : List PlainReply) where
    claimed : (n : ℕ) → HasClaimed v n (contents_at n)
    claimed n j k h is = subst (λ (x : ℕ). part_of (contents_at x) k.part ≡ k.words) is (claim_in_contents rule k (fits.claims j k h))

    within_clock : (n : ℕ) → n ≤ v.at → n ≤ core.clock
    within_clock n h = let a = fits.at in omega (arith, h, a)

    wrote_stands : (t : ℕ) → HasWritten m v f replies t → WroteAt m core.clock contents_at wrote_at rs f replies t
    wrote_stands t h = subst (λ (x : ℕ). WroteAt m core.clock contents_at wrote_at rs f replies x) h.drawn own
      where
        in_log : IsLogged valid sizes opening past.log core.clock h.entry
        in_log = entry_logged h.there.0 h.entry h.there.1

        above : 0 < h.entry.ticket
        above = by h.entry.ticket refl
          where
            by : (x : ℕ) → h.entry.ticket ≡ x → 0 < x
            by zero is = absurd (
                let some_there = times_at v.entries h.there.0 h.entry h.there.1 in
                let all = closes_whole rule i v seat whole h.entry.ticket in
                let same = ap (λ (x : ℕ). once x core.clock) is in
                let z = once_zero core.clock in omega (arith, some_there, all, same, z))
            by (suc x) is = omega arith

        next : h.entry.ticket ≡ suc (h.entry.ticket - 1)
        next = let a = above in omega (arith, a)

        low : h.entry.ticket - 1 ≤ core.clock
        low = let a = in_log.within in omega (arith, a)

        applied : committed_updates (past.log h.entry.ticket) ≡ h.entry.updates
        applied = ap committed_updates in_log.logged ∙ ap (λ (x : Fate). if_committed x h.entry.updates) h.committed

        own : WroteAt m core.clock contents_at wrote_at rs f replies h.entry.ticket
        own = record {
          before = h.entry.ticket - 1;
          next = next;
          within = in_log.within;
          updates = h.entry.updates;
          runs = h.runs (contents_at (h.entry.ticket - 1)) (valid_at (h.entry.ticket - 1) low)
              (λ j l k. part_after rule l.part (h.entry.ticket - 1) low ∙ sym (in_log.looked h.committed j l k).words);
          leaves = ap contents_at next
              ∙ ap (λ (x : ℕ). applied_updates (committed_updates (past.log x)) (contents_at (h.entry.ticket - 1))) (sym next)
              ∙ ap (λ (us : List Update). applied_updates us (contents_at (h.entry.ticket - 1))) applied;
          named = λ p k. subst (λ (us : List Update). writes us p ≡ true) applied k;
          ends = h.ends;
          writes_some = h.writes;
        }

    aborted_stands : (n part : ℕ) → WasAborted m v f replies n part → AbortedAt m core.clock contents_at wrote_at rs f replies n part
    aborted_stands n part h = record {
      within = within_clock n h.known;
      runs = h.runs (contents_at n) (valid_at n (within_clock n h.known)) (claimed n);
      touched = h.touched;
      unsettled = h.unsettled;
    }

    pub told_stands : (verdict : Verdict) → IsTold m v f replies verdict → StandsAt m core.clock contents_at wrote_at rs f replies verdict
    told_stands (Wrote t) h = wrote_stands t h
    told_stands (Read n) h = record {
      within = within_clock n h.known;
      runs = h.runs (contents_at n) (valid_at n (within_clock n h.known)) (claimed n);
      ends = h.ends;
      writes_none = h.writes;
    }
    told_stands (Cancelled n) h = record {
      within = within_clock n h.known;
      runs = h.runs (contents_at n) (valid_at n (within_clock n h.known)) (claimed n);
      ends = h.ends;
    }
    told_stands (Locked n part) h = aborted_stands n part h
    told_stands (Changed n part t) h =
        let true_wrote : IsTrueWrote past.log core.clock h.wrote.claim = fits.wrote h.wrote.there.0 h.wrote.claim h.wrote.there.1 in
        let by_ticket : writes (committed_updates (past.log t)) part ≡ true =
        subst (λ (x : ℕ). writes (committed_updates (past.log t)) x ≡ true) h.wrote.on
        (subst (λ (x : ℕ). writes (committed_updates (past.log x)) h.wrote.claim.part ≡ true) h.wrote.by true_wrote.wrote) in
        let within : t ≤ core.clock = subst (λ (x : ℕ). x ≤ core.clock) h.wrote.by true_wrote.within in
        let above : 0 < t = subst (λ (x : ℕ). 0 < x) h.wrote.by true_wrote.above in
        let counted : 0 < times t v.entries = (let c = closes_whole rule i v seat whole t in let o = once_within t core.clock above within in omega (arith, c, o)) in
        let found = time_at t v.entries counted in
        let e : Entry = found.1 in
        let in_log : past.log t ≡ e = ap past.log (sym found.3) ∙ (entry_logged found.0 e found.2).logged in
        let won : e.fate ≡ Committed = is_committed e.fate e.updates part (subst (λ (x : Entry). writes (committed_updates x) part ≡ true) in_log by_ticket) in
        let some_committed = committed_at v.entries found.0 e found.2 won in
        let same = ap (λ (x : ℕ). times_committed x v.entries) found.3 in
        let a = tickets t in let b = few t in let o = once_one t core.clock in
        record {
          aborted = aborted_stands n part h.aborted;
          later = h.later;
          within = within;
          written = omega (arith, some_committed, same, a, b, o);
          by = by_ticket;
        }
