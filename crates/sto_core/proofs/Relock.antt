-- A pass that has neither drawn nor won sets or clears the lock bit of one part, and takes or lets go the
-- part: what lock and unlock have in common.
--
-- Only `Rule.locks` and the clauses on holds speak of lock bits and holds; all others read the tickets and
-- words of parts, which stay.
use Rattle.std.proofs.Common.{◌≡◌, ◌≢◌, inl, inr, ⊎_elim, ℕ, ℤ, zero, suc, ◌+◌, ◌<◌, ◌≤◌, ◌^◌, List, [], ◌∷◌}
use Rattle.std.proofs.Common.{length, map, get_or, Bool, set, sym, refl, ap, ◌∙◌, subst, arith}
use mathlib.Core.Logic.{dite}
use mathlib.Core.Option.{some, some-injective}
use native.Mathlib.Decide.{ℕ_discrete}
use lib.ListN.{get_elem?}
use Rattle.atomic_table.proofs.Lists.{at_set, set_here, set_else}
use Rattle.sto_core.specs.declared.view.View.{View}
use Rattle.sto_core.specs.declared.view.Held.{Held}
use Rattle.sto_core.specs.declared.view.OpenRead.{OpenRead}
use Rattle.sto_core.specs.declared.view.Phase.{Phase}
use Rattle.sto_core.specs.declared.view.Phase.TheVariants.{Looking, Testing, Won}
use Rattle.sto_core.specs.Lists.{weight}
use Rattle.sto_core.specs.History.{Contents, Validity, Log}
use Rattle.sto_core.specs.Views.{count, times, if_won, if_drawn}
use Rattle.sto_core.specs.Reads.{ReadsAgree}
use Rattle.sto_core.specs.Core.{Part, no_part, part_at, with_lock, edited}
use Rattle.sto_core.specs.Rule.{total, Settled, World, IsPart, ReadBeside, IsLaterThan, IsTrueRead, held_words}
use Rattle.sto_core.specs.Rule.{IsTrueHold, InPhase, Fits, Rule}
use Rattle.sto_core.proofs.Lists.{each_else}
use Rattle.sto_core.proofs.Parts.{parts_many}
use Rattle.sto_core.proofs.Phases.{IsPlain, meets_plain, plain_drawn, plain_won}
use Rattle.sto_core.proofs.Plain.{Moves, moves_fit}
use Rattle.sto_core.proofs.Step.{IsSettled, Step, views_with, world, in_range, own_part, sum_same, sum_set}
use Rattle.sto_core.proofs.Step.{still_apart}
use Rattle.sto_core.proofs.Sums.{reads_set}

-- the parts have the same tickets and words, whatever their lock bits
pub record SameParts (before after : List Part) : Type 0 where
  pub back : (p : ℕ) (y : Part) → IsPart after p y
      → (x : Part) × IsPart before p x × (x.ticket ≡ y.ticket) × (x.words ≡ y.words)
  pub forth : (p : ℕ) (x : Part) → IsPart before p x
      → (y : Part) × IsPart after p y × (x.ticket ≡ y.ticket) × (x.words ≡ y.words)

-- a lock bit changes no ticket and no word
pub locked_same : (b : Bool) (parts : List Part) (p : ℕ) → IsPart parts p (part_at parts p) → p < length parts
    → SameParts parts (edited (with_lock b) parts p)
locked_same b parts p there range = record {
  back = λ m y e. ⊎_elim
      (λ (here : (m ≡ p) × (with_lock b (part_at parts p) ≡ y)). (
        part_at parts p,
        ap (get_elem? parts) here.0 ∙ there,
        ap (λ (q : Part). q.ticket) here.1,
        ap (λ (q : Part). q.words) here.1,
      ))
      (λ (other : (m ≢ p) × (get_elem? parts m ≡ some y)). (y, other.1, refl, refl))
      (at_set parts p m (with_lock b (part_at parts p)) y e);
  forth = λ m x e. dite (ℕ_discrete m p)
      (λ is.
      let same : x ≡ part_at parts p =
      some-injective x (part_at parts p) (sym e ∙ ap (get_elem? parts) is ∙ there) in (
        with_lock b (part_at parts p),
        ap (get_elem? (edited (with_lock b) parts p)) is
            ∙ set_here parts p (with_lock b (part_at parts p)) range,
        ap (λ (q : Part). q.ticket) same,
        ap (λ (q : Part). q.words) same,
      ))
      (λ ne. (x, set_else parts p m (with_lock b (part_at parts p)) ne ∙ e, refl, refl));
}

-- a list with one item edited shows the same where the edit does not show
pub edit_same : {A B : Type 0} (f : A → B) (g : A → A) (d : A) → ((x : A) → f (g x) ≡ f x)
    → (l : List A) (p : ℕ)
    → map f (set l p (g (get_or l p d))) ≡ map f l
edit_same f g d same [] p = refl
edit_same f g d same (x ∷ xs) zero = ap (λ (y : _). y ∷ map f xs) (same x)
edit_same f g d same (x ∷ xs) (suc p) = ap (λ (ys : List _). f x ∷ ys) (edit_same f g d same xs p)

-- What a view fits beside the parts before, it fits beside those after

module _ (opening : Contents) (clock passes : ℕ) (log : Log) (before after : List Part)
    (same : SameParts before after) where
  abbrev world_with : List Part → World
  world_with parts = record { clock = clock; passes = passes; parts = parts; log = log }

  words_alike : (h : Phase) (x y : Part) (p : ℕ) → x.words ≡ y.words
      → held_words opening log h x p ≡ held_words opening log h y p
  words_alike (Won t puts) x y p e = refl
  words_alike _ x y p e = e

  hold_alike : (h : Phase) (x : Held) → IsTrueHold before (held_words opening log h) x
      → IsTrueHold after (held_words opening log h) x
  hold_alike h x k = let f = same.forth x.part k.part k.there in record {
    part = f.0;
    there = f.1;
    ticket = sym f.2 ∙ k.ticket;
    reads = subst (ReadsAgree x.reads) (words_alike h k.part f.0 x.part f.3) k.reads;
  }

  module _ (P Q : ℕ → Type 0) (fewer : (p : ℕ) → Q p → P p) where
    read_alike : (at : ℕ) (r : OpenRead) → IsTrueRead clock before P at r → IsTrueRead clock after Q at r
    read_alike at r k = record {
      within = k.within;
      now = λ y there. let f = same.back r.part y there in
          ⊎_elim
          (λ (still : f.0.ticket ≡ r.ticket). inl (sym f.2 ∙ still))
          (λ (later : IsLaterThan r at f.0.ticket). inr (subst (IsLaterThan r at) f.2 later)) (k.now f.0 f.1);
      words = λ y there settled ticket. let f = same.back r.part y there in
          subst (ReadsAgree r.reads) f.3 (k.words f.0 f.1 (fewer r.part settled) (f.2 ∙ ticket));
    }

    knows_alike : (h : Phase) (v : View) → InPhase opening (world_with before) P h v
        → InPhase opening (world_with after) Q h v
    knows_alike (Looking r) v k = (read_alike v.at r k.0, k.1, k.2)
    knows_alike (Testing r) v k = read_alike v.at r k
    knows_alike (Won t puts) v k = record {
      committed = k.committed;
      own = k.own;
      above = k.above;
      within = k.within;
      writes = k.writes;
      tickets = k.tickets;
      last = k.last;
      put = λ p j y held there is. let f = same.back p y there in
          ap (λ (ws : List ℤ). get_elem? ws j) (sym f.3) ∙ k.put p j f.0 held f.1 is;
      rest = λ p j y held there is. let f = same.back p y there in
          ap (λ (ws : List ℤ). get_elem? ws j) (sym f.3) ∙ k.rest p j f.0 held f.1 is;
    }
    knows_alike _ v k = k

    -- the whole of what the rule says of a view
    pub fits_alike : (valid : Validity) (sizes : List ℕ) (v : View)
        → Fits valid sizes opening (world_with before) P v
        → Fits valid sizes opening (world_with after) Q v
    fits_alike valid sizes v k = record {
      spent = k.spent;
      serves = k.serves;
      at = k.at;
      starts = k.starts;
      holds = k.holds;
      on_hold = λ j x there. hold_alike v.phase x (k.on_hold j x there);
      own = k.own;
      entries = k.entries;
      claims = k.claims;
      wrote = k.wrote;
      knows = knows_alike v.phase v k.knows;
      alone = k.alone;
    }

module _ {valid : Validity} {sizes : List ℕ} {opening : Contents} (step : Step valid sizes opening) where
  open step use {past, core, seat, view, rule, at, live}

  -- the lock bit of the part p becomes b, and the view of the pass w
  module _ (b : Bool) (p : ℕ) (range : p < length view.opening) (w : View) (plain : IsPlain view.phase)
      (plain_w : IsPlain w.phase) where
    abbrev part : Part
    part = part_at core.parts p

    abbrev parts_after : List Part
    parts_after = edited (with_lock b) core.parts p

    there : IsPart core.parts p part
    there = own_part step p range

    same : SameParts core.parts parts_after
    same =
        locked_same b core.parts p there
        (let many = parts_many rule in let inside = in_range step p range in omega arith)

    won_same : (m : ℕ) → if_won w.phase (count m w.held) ≡ if_won view.phase (count m view.held)
    won_same m = plain_won w.phase (count m w.held) plain_w
        ∙ sym (plain_won view.phase (count m view.held) plain)

    drawn_same : (t m : ℕ) → if_drawn t w.phase (count m w.held) ≡ if_drawn t view.phase (count m view.held)
    drawn_same t m =
        plain_drawn t w.phase (count m w.held) plain_w
        ∙ sym (plain_drawn t view.phase (count m view.held) plain)

    still_settled : (m : ℕ) → Settled (views_with step w) m → IsSettled step m
    still_settled m settled = sym (sum_same step (λ u. if_won u.phase (count m u.held)) w (won_same m))
        ∙ settled

    module _ (others : (m : ℕ) → m ≢ p → count m w.held ≡ count m view.held)
        (here : weight b + count p view.held ≡ weight part.locked + count p w.held) where
      locks_after : (m : ℕ) (q : Part) → IsPart parts_after m q
          → weight q.locked ≡ total (λ u. count m u.held) (views_with step w)
      locks_after m q found = ⊎_elim
          (λ (is : (m ≡ p) × (with_lock b part ≡ q)).
          let sum = sum_set step (λ u. count p u.held) w in let lock = rule.locks p part there in
          let lock_is : weight q.locked ≡ weight b = ap (λ (z : Part). weight z.locked) (sym is.1) in
          let sum_is : weight b ≡ total (λ u. count p u.held) (views_with step w) = omega arith in
          lock_is ∙ sum_is ∙ ap (λ (k : ℕ). total (λ u. count k u.held) (views_with step w)) (sym is.0))
          (λ (other : (m ≢ p) × (get_elem? core.parts m ≡ some q)).
          rule.locks m q other.1 ∙ sym (sum_same step (λ u. count m u.held) w (others m other.0)))
          (at_set core.parts p m (with_lock b part) q found)

      -- the rule after the lock bit has changed
      pub relock : Moves step w
          → ((j : ℕ) (u : View) → get_elem? core.views j ≡ some u → ReadBeside w.phase w.at u.phase u.held)
          → Rule valid sizes opening past
          (record {
            clock = core.clock;
            statuses = core.statuses;
            parts = parts_after;
            views = views_with step w;
          })
      relock moves reads =
          let fits_still =
          fits_alike opening core.clock (length core.statuses) past.log core.parts parts_after same
          (IsSettled step)
          (Settled (views_with step w)) still_settled valid sizes in
          record {
            opened = rule.opened;
            widths = edit_same (λ (q : Part). length q.words) (with_lock b) no_part (λ q. refl) core.parts p
                ∙ rule.widths;
            room = subst (λ (n : ℕ). core.clock + n ≤ 2 ^ 56)
                (sym (sum_same step (λ u. u.draws) w (ap (λ (v : View). v.draws) moves.same))) rule.room;
            gathered = sum_same step (λ u. u.gathered) w (ap (λ (v : View). v.gathered) moves.same)
                ∙ rule.gathered;
            once_each = λ t. sum_same step (λ u. times t u.entries) w
                (ap (λ (v : View). times t v.entries) moves.same)
                ∙ rule.once_each t;
            locks = locks_after;
            settled = λ m q found settled. let f = same.back m q found in
                let now = rule.settled m f.0 f.1 (still_settled m settled) in
                (sym f.2 ∙ now.0, sym f.3 ∙ now.1);
            pending = λ m t le writes. subst (λ (n : ℕ). 0 < n)
                (sym (sum_same step (λ u. if_drawn t u.phase (count m u.held)) w (drawn_same t m)))
                (rule.pending m t le writes);
            tickets = λ m q found. let f = same.back m q found in
                subst (λ (n : ℕ). n ≤ core.clock) f.2 (rule.tickets m f.0 f.1);
            statuses = rule.statuses;
            since = rule.since;
            recent = rule.recent;
            numbers =
                still_apart step w (ap (λ (v : View). v.number) moves.same);
            meets = reads_set core.views seat w rule.meets (meets_plain w.phase w.at w.phase w.held plain_w)
                (λ j u ne found. (reads j u found, meets_plain u.phase u.at w.phase w.held plain_w));
            each = each_else (Fits valid sizes opening (world step) (IsSettled step))
                (Fits valid sizes opening
                (record {
                  clock = core.clock;
                  passes = length core.statuses;
                  parts = parts_after;
                  log = past.log;
                })
                (Settled (views_with step w)))
                core.views seat w rule.each fits_still (fits_still w (moves_fit step w plain plain_w moves));
          }
