-- The transactions that the one pass of words was told of are a serial history.
use Rattle.std.specs.Prelude.{◌↔◌}
use Rattle.std.specs.List.{All}
use Rattle.std.proofs.lemmas.List.Elements.{All-weaker}
use Rattle.std.proofs.Common.{◌≡◌, ℕ, suc, ◌+◌, ◌<◌, List, [], ◌∷◌, length, map, refl, sym, ap, ◌∙◌, arith, Bool, false, true≢false}
use mathlib.Core.Option.{some}
use lib.ListN.{get_elem?}
use Rattle.sto_model.specs.PlainReplies.{PlainReply}
use Rattle.sto_model.specs.Run.{Behaviour, State}
use Rattle.sto_type.specs.Known.{Parts}
use Rattle.sto_type.specs.Meaning.{Meaning, IsLawful}
use Rattle.sto_core.specs.declared.view.View.{View}
use Rattle.sto_core.specs.History.{Contents, Validity, contents_as_of}
use Rattle.sto_core.specs.Core.{Core}
use Rattle.sto_core.specs.Rule.{Past, Rule}
use Rattle.sto_history.specs.Records.{Verdict, Wrote, Read, Cancelled, Locked, Changed, Record, is_abort, wrote_with, times_written}
use Rattle.sto_history.specs.Counted.{times_committed}
use Rattle.sto_history.specs.History.{Transaction, times_numbered, StandsIn, LeadTo}
use Rattle.sto_history.specs.Done.{IsToldOf, AreAllDone}
use Rattle.sto_history.proofs.Histories.{IsHistory, StandsAt}
use Rattle.sto_history.proofs.Standing as standing

-- a transaction as the record of an attempt, at a place that says nothing
abbrev recorded : Transaction → Record
recorded t = record { place = (0, 0); replies = t.replies; verdict = t.verdict }

same_times : (n : ℕ) (ts : List Transaction) → times_written n (map recorded ts) ≡ times_numbered n ts
same_times n [] = refl
same_times n (t ∷ ts) = ap (λ (k : ℕ). wrote_with n t.verdict + k) (same_times n ts)

module _ (m : Meaning) (clock : ℕ) (contents : ℕ → Parts) (wrote : ℕ → ℕ → Bool) (all : List Record) (f : Behaviour) (replies : List PlainReply) where
  stands_in : (verdict : Verdict) → is_abort verdict ≡ false → StandsAt m clock contents wrote all f replies verdict → StandsIn m.machines clock (λ n. m.rows (contents n)) f replies verdict
  stands_in (Wrote n) e h = record {
    before = h.before;
    next = h.next;
    within = h.within;
    run = record { runs = h.runs.run; ends = h.ends; leaves = ap m.rows h.leaves ∙ h.runs.state };
  }
  stands_in (Read n) e h = record { within = h.within; run = record { runs = h.runs.run; ends = h.ends; leaves = h.runs.state } }
  stands_in (Cancelled n) e h = record { within = h.within; run = record { runs = h.runs; ends = h.ends; leaves = refl } }
  stands_in (Locked n part) e h = absurd (true≢false e)
  stands_in (Changed n part ticket) e h = absurd (true≢false e)

module _ {valid : Validity} {sizes : List ℕ} {opening : Contents} {past : Past} {core : Core} (rule : Rule valid sizes opening past core)
    (i : ℕ) (v : View) (seat : get_elem? core.views i ≡ some v) (whole : v.gathered ≡ length core.statuses)
    (m : Meaning) (lawful : IsLawful m) (same_valid : (c : Parts) → m.valid c ↔ valid sizes c) (same_opening : m.opened ≡ opening)
    (ts : List Transaction) (done : AreAllDone m v ts) where
  rs : List Record
  rs = map recorded ts

  tickets : (n : ℕ) → times_written n (map recorded ts) ≡ times_committed n v.entries
  tickets n = same_times n ts ∙ sym (done.entries n)

  abbrev contents : ℕ → Parts
  contents = standing.contents_at rule i v seat whole m same_valid same_opening (map recorded ts) tickets

  history : IsHistory m core.clock contents (map recorded ts)
  history = standing.history rule i v seat whole m same_valid same_opening (map recorded ts) tickets

  pub lead_to : (rows : State) → rows ≡ m.rows (contents_as_of opening past.log core.clock) → LeadTo m.machines ts rows
  lead_to rows is = record {
    clock = core.clock;
    states = λ n. m.rows (contents n);
    history = record {
      opened = ap m.rows (sym same_opening) ∙ lawful.opening_rows;
      once = λ n. (let a = history.once n in let b = same_times n ts in omega (arith, a, b));
      still = λ n l none. ap m.rows (history.still n l (same_times (suc n) ts ∙ none));
      each = All-weaker (IsToldOf m v) (λ (t : Transaction). StandsIn m.machines core.clock (λ n. m.rows (contents n)) t.steps t.replies t.verdict)
          (λ t h. stands_in m core.clock contents (standing.wrote_at rule i v seat whole m same_valid same_opening (map recorded ts) tickets) (map recorded ts) t.steps t.replies t.verdict h.ended
          (standing.told_stands rule i v seat whole m same_valid same_opening (map recorded ts) tickets t.steps t.replies t.verdict h.told)) ts done.each;
    };
    ends = is;
  }
