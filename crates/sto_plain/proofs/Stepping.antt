-- Each event of a pass keeps what is kept between two calls.
use Rattle.std.proofs.Common.{◌≡◌, ◌≢◌, ◌<◌, ℕ, suc, List, length, get_or, sym, refl, ◌∙◌, subst, ⊎_elim, length-set, get_or-set_same, get_or-set_other}
use mathlib.Core.Option.{some}
use lib.ListN.{get_elem?}
use Rattle.atomic_table.proofs.Lists.{at_set}
use Rattle.sto_core.specs.declared.view.View.{View}
use Rattle.sto_core.specs.History.{Validity}
use Rattle.sto_core.specs.Event.{Event, Start, Open, Word, Close, Renew, Recheck, Lock, Test, Draw, Check, Decide, Put, Release, Unlock, after}
use Rattle.sto_core.specs.Allowed.{Allowed}
use Rattle.sto_core.specs.Core.{Core, number_found, value_found}
use Rattle.sto_core.specs.Rule.{Holds}
use Rattle.sto_core.specs.Tells.{Tells}
use Rattle.sto_core.proofs.Parts.{at_place}
use Rattle.sto_core.proofs.Lasting.{lasts}
use Rattle.sto_core.proofs.Whole.{event_tells}
use Rattle.sto_core.specs.Gathered.{spent_view}
use Rattle.sto_plain.specs.Passes.{view_of, stepped}
use Rattle.sto_core.specs.Remembered.{Remembers, remembered}
use Rattle.sto_plain.specs.Kept.{all_remembered, IsSeated, Kept}
use Rattle.sto_core.proofs.Remembering.{remembers_after}

-- a draw sets the ticket of its pass, and no event that of another
length_remembered : (e : Event) (n : ℕ) (tickets : List ℕ) (pass : ℕ)
    → length (all_remembered e n tickets pass) ≡ length tickets
length_remembered (Draw us seen loaded) n tickets pass = length-set tickets pass (suc n)
length_remembered Start n tickets pass = refl
length_remembered (Open p) n tickets pass = refl
length_remembered (Word p i) n tickets pass = refl
length_remembered (Close p) n tickets pass = refl
length_remembered Renew n tickets pass = refl
length_remembered (Recheck p) n tickets pass = refl
length_remembered (Lock p) n tickets pass = refl
length_remembered (Test p) n tickets pass = refl
length_remembered (Check p) n tickets pass = refl
length_remembered (Decide b) n tickets pass = refl
length_remembered (Put p i x) n tickets pass = refl
length_remembered (Release p) n tickets pass = refl
length_remembered (Unlock p) n tickets pass = refl

own_remembered : (e : Event) (n : ℕ) (tickets : List ℕ) (pass : ℕ) → pass < length tickets
    → get_or (all_remembered e n tickets pass) pass 0 ≡ remembered e n (get_or tickets pass 0)
own_remembered (Draw us seen loaded) n tickets pass lt = get_or-set_same tickets pass (suc n) 0 lt
own_remembered Start n tickets pass lt = refl
own_remembered (Open p) n tickets pass lt = refl
own_remembered (Word p i) n tickets pass lt = refl
own_remembered (Close p) n tickets pass lt = refl
own_remembered Renew n tickets pass lt = refl
own_remembered (Recheck p) n tickets pass lt = refl
own_remembered (Lock p) n tickets pass lt = refl
own_remembered (Test p) n tickets pass lt = refl
own_remembered (Check p) n tickets pass lt = refl
own_remembered (Decide b) n tickets pass lt = refl
own_remembered (Put p i x) n tickets pass lt = refl
own_remembered (Release p) n tickets pass lt = refl
own_remembered (Unlock p) n tickets pass lt = refl

other_remembered : (e : Event) (n : ℕ) (tickets : List ℕ) (pass other : ℕ) → other ≢ pass
    → get_or (all_remembered e n tickets pass) other 0 ≡ get_or tickets other 0
other_remembered (Draw us seen loaded) n tickets pass other ne =
    get_or-set_other tickets pass other (suc n) 0 ne
other_remembered Start n tickets pass other ne = refl
other_remembered (Open p) n tickets pass other ne = refl
other_remembered (Word p i) n tickets pass other ne = refl
other_remembered (Close p) n tickets pass other ne = refl
other_remembered Renew n tickets pass other ne = refl
other_remembered (Recheck p) n tickets pass other ne = refl
other_remembered (Lock p) n tickets pass other ne = refl
other_remembered (Test p) n tickets pass other ne = refl
other_remembered (Check p) n tickets pass other ne = refl
other_remembered (Decide b) n tickets pass other ne = refl
other_remembered (Put p i x) n tickets pass other ne = refl
other_remembered (Release p) n tickets pass other ne = refl
other_remembered (Unlock p) n tickets pass other ne = refl

module _ (valid : Validity) (e : Event) (tickets : List ℕ) (c : Core) (pass : ℕ)
    (kept : Kept valid tickets c) (inside : pass < length c.views) (may : Allowed valid e (view_of c pass))
  where
    -- the view of the pass before, what the event finds, and the view after
    abbrev v : View
    v = view_of c pass

    abbrev n : ℕ
    n = number_found e c

    abbrev w : View
    w = after e v n (value_found e c)

    at : get_elem? c.views pass ≡ some v
    at = at_place spent_view c.views pass inside

    seat : IsSeated pass (get_or tickets pass 0) v
    seat = kept.seated pass v at

    step : Holds valid kept.sizes kept.opening (stepped e c pass)
        × Tells valid (length c.statuses) e v n (value_found e c) w
    step = event_tells valid kept.sizes kept.opening c pass v at seat.live e may kept.rule

    -- the pass keeps its place and remembers its ticket
    seat_after : IsSeated pass (get_or (all_remembered e n tickets pass) pass 0) w
    seat_after = let k = lasts e v n (value_found e c) in let t = kept.tickets_of_all in record {
      number = k.number ∙ seat.number;
      live = subst (λ (m : ℕ). 0 < m) (sym k.gathered) seat.live;
      remembers =
          subst (λ (t : ℕ). Remembers t w.phase)
          (sym (own_remembered e n tickets pass (subst (λ (m : ℕ). pass < m) (sym t) inside)))
          (remembers_after (get_or tickets pass 0) valid e v n (value_found e c) may seat.remembers);
    }

    -- what is kept before the event is kept after it
    pub step_keeps : Kept valid (all_remembered e n tickets pass) (stepped e c pass)
    step_keeps = record {
      sizes = kept.sizes;
      opening = kept.opening;
      rule = step.0;
      some_pass = subst (λ (n : ℕ). 0 < n) (sym (length-set c.views pass w)) kept.some_pass;
      tickets_of_all =
          length_remembered e n tickets pass ∙ (kept.tickets_of_all ∙ sym (length-set c.views pass w));
      seated = λ i u is. ⊎_elim
          (λ (k : (i ≡ pass) × (w ≡ u)). subst
          (λ (z : ℕ × View). IsSeated z.0 (get_or (all_remembered e n tickets pass) z.0 0) z.1)
          (λ j. (sym k.0 j, k.1 j)) seat_after)
          (λ (k : (i ≢ pass) × (get_elem? c.views i ≡ some u)). subst (λ (t : ℕ). IsSeated i t u)
          (sym (other_remembered e n tickets pass i k.0)) (kept.seated i u k.1))
          (at_set c.views pass i w u is);
    }

    -- the event tells what the core says of it
    pub step_tells : Tells valid (length c.statuses) e v n (value_found e c) (view_of (stepped e c pass) pass)
    step_tells =
        subst (Tells valid (length c.statuses) e v n (value_found e c))
        (sym (get_or-set_same c.views pass w spent_view inside)) step.1
