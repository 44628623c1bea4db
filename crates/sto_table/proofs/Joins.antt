-- Two idle passes of a table are gathered, and the rule stays.
use Rattle.std.proofs.Common.{◌≡◌, ◌≢◌, ◌<◌, ◌≤◌, ℕ, List, map, set, true, false, true≢false, sym, refl, ap, ◌∙◌, subst, arith}
use Rattle.std.proofs.lemmas.List.{map-set}
use mathlib.Core.Option.{some}
use lib.ListN.{get_elem?}
use Rattle.atomic_table.specs.Table.{Joins}
use Rattle.atomic_table.proofs.Lists.{at_map, set_else}
use Rattle.sto_core.specs.declared.view.Phase.{Phase}
use Rattle.sto_core.specs.declared.view.Phase.TheVariants.{Idle, Reading, Looking, Locking, Testing, Drawn, Won, Lost}
use Rattle.sto_core.specs.declared.view.View.{View}
use Rattle.sto_core.specs.History.{Contents, Validity}
use Rattle.sto_core.specs.Allowed.{IsIdle}
use Rattle.sto_core.specs.Gathered.{gathered_into, spent_view}
use Rattle.sto_core.specs.Rule.{Holds}
use Rattle.sto_core.proofs.Gathering.{gather_keeps}
use Rattle.sto_core.proofs.Phases.{idle_is}
use Rattle.sto_table.specs.declared.stance.Stance.{Stance}
use Rattle.sto_core.specs.Allowed.{is_idle}
use Rattle.sto_table.specs.Laid.{core_laid}
use Rattle.sto_table.specs.Placed.{view_in, views_of, whole, both_passes, spent_pass}
use Rattle.sto_table.specs.Shows.{Shows}
use Rattle.sto_table.proofs.Apart.{Below, below_set, itself, still_apart}

module _ (valid : Validity) (sizes : List ℕ) (opening : Contents) (passes id other : ℕ) (v w : Stance)
    (idle_v : IsIdle v.view.phase) (idle_w : IsIdle w.view.phase) (live : 0 < v.view.gathered) where
  pub joins : Joins (Shows valid sizes opening passes) id v other w (both_passes v w) spent_pass
  joins s h at ne at_other =
      let both = both_passes v w in
      let views = views_of s.views in
      let there : get_elem? s.views other ≡ some w = sym (set_else s.views id other both ne) ∙ at_other in
      let k = gather_keeps h.rule.1 id other v.view w.view (λ e. ne (sym e)) (at_map view_in s.views id v at)
      (at_map view_in s.views other w there) idle_v idle_w live in
      let same : set (set views id (gathered_into v.view w.view)) other spent_view
      ≡ views_of (set (set s.views id both) other spent_pass) =
      ap (λ (l : List View). set l other spent_view) (sym (map-set view_in s.views id both))
      ∙ sym (map-set view_in (set s.views id both) other spent_pass) in
      record {
        clock = h.clock;
        statuses = h.statuses;
        parts = h.parts;
        words = h.words;
        many = h.many;
        rule = subst (λ (l : List View). Holds valid sizes opening (core_laid h.clock h.statuses h.parts l)) same (h.rule.0, k);
        apart =
            still_apart (set s.views id both) (set (set s.views id both) other spent_pass)
            (below_set (set s.views id both) other spent_pass (record {
              old = w;
              there = at_other;
              uncut = λ several. absurd (omega arith);
              live = λ some_pass. absurd (omega arith);
            }))
            (still_apart s.views (set s.views id both)
            (below_set s.views id both (record {
              old = v;
              there = at;
              uncut = λ several. absurd (omega arith);
              live = λ some_pass. (live, refl);
            })) h.apart);
      }
