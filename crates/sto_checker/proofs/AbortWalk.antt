-- Abort lines by how many writers they saw, and along a replay.
use Rattle.std.proofs.Common.{◌≡◌, ◌⊎◌, ℕ, zero, suc, ◌+◌, ◌<◌, ◌≤◌, min, List, [], ◌∷◌, ◌++◌, length, map, replicate, get_or, refl, sym, ap, ◌∙◌, subst, Option, None, Some, MatchOption, slice_get, slice_set, arith, inl, inr}
use Rattle.std.proofs.Math.Nat.{min-le_left, min-le_right, min-eq_left, min_comm}
use Rattle.std.proofs.lemmas.Option.{slice_get_within, slice_get-get_or}
use Rattle.sto_model.specs.Run.{State}
use Rattle.sto_part.specs.Listed.{Listed}
use Rattle.sto_lang.specs.Scripts.{File}
use Rattle.sto_report_spec.specs.Orders.{TransactionPlace}
use Rattle.sto_report_spec.specs.Replay.{shown}
use Rattle.sto_checker.specs.declared.abort.GivenAbort.{GivenAbort}
use Rattle.sto_checker.specs.Windows.{with_more}
use Rattle.sto_checker.specs.Given.{IsHeard}
use Rattle.sto_checker.specs.Seen.{Stands, StandsAt, HasSeen, AreBySeen, IsHeardIn, IsUnheardIn, IsBeforeOr, IsFirstOf, IsUnheardOr, IsFirstUnheard}
use Rattle.sto_checker.proofs.Lists.{more_length, more_same, more_other, IsMore, more_cases, push_cases, push_front, some_at, set_more, at_mapped}

same_given : (a b : GivenAbort) → Some a ≡ Some b → a ≡ b
same_given a b e = cc

same_list : (a b : List ℕ) → Some a ≡ Some b → a ≡ b
same_list a b e = cc

eq_or : (a b : ℕ) → (a ≡ b) ⊎ (a ≡ b → ⊥)
eq_or zero zero = inl refl
eq_or zero (suc b) = inr (λ e. absurd (omega (arith, e)))
eq_or (suc a) zero = inr (λ e. absurd (omega (arith, e)))
eq_or (suc a) (suc b) = by (eq_or a b)
  where
    by : (a ≡ b) ⊎ (a ≡ b → ⊥) → (suc a ≡ suc b) ⊎ (suc a ≡ suc b → ⊥)
    by (inl e) = inl (ap suc e)
    by (inr n) = inr (λ e. n (omega (arith, e)))

pub below_or : (a b : ℕ) → a < suc b → (a < b) ⊎ (a ≡ b)
below_or a b l = by (eq_or a b)
  where
    strictly : (a b : ℕ) → a < suc b → (a ≡ b → ⊥) → a < b
    strictly a b l n = grind arith

    by : (a ≡ b) ⊎ (a ≡ b → ⊥) → (a < b) ⊎ (a ≡ b)
    by (inl e) = inr e
    by (inr n) = inl (strictly a b l n)

longer : (ns : List ℕ) (n : ℕ) → length (ns ++ n ∷ []) ≡ suc (length ns)
longer [] n = refl
longer (m ∷ ns) n = ap suc (longer ns n)

at_end : (ns : List ℕ) (n : ℕ) → Stands (ns ++ n ∷ []) n
at_end [] n = (0, refl)
at_end (m ∷ ns) n = let more = at_end ns n in (suc more.0, more.1)

-- none yet
pub none_seen : (aborts : List GivenAbort) (writers : ℕ) (lists : List (List ℕ)) → lists ≡ replicate (writers + 1) [] → AreBySeen aborts 0 writers lists
none_seen aborts writers lists e = record {
  lists = ap length e ∙ longs (writers + 1);
  few = λ seen numbers k. let none = only (writers + 1) seen numbers (ap (λ (ls : List (List ℕ)). slice_get ls seen) (sym e) ∙ k) in let l = ap length none in omega (arith, l);
  all = λ place given l. absurd (omega (arith, l));
  only = λ seen place h. absurd (let none = only (writers + 1) seen h.numbers (ap (λ (ls : List (List ℕ)). slice_get ls seen) (sym e) ∙ h.at) in nothing h.stands.0 place (ap (λ (ns : List ℕ). slice_get ns h.stands.0) (sym none) ∙ h.stands.1));
}
  where
    longs : (n : ℕ) → (let none : List ℕ = [] in length (replicate n none) ≡ n)
    longs zero = refl
    longs (suc n) = ap suc (longs n)

    only : (n t : ℕ) (row : List ℕ) → slice_get (replicate n []) t ≡ Some row → row ≡ []
    only zero zero row e = absurd cc
    only zero (suc t) row e = absurd cc
    only (suc n) zero row e = let same : [] ≡ row = cc in sym same
    only (suc n) (suc t) row e = only n t row e

    nothing : (i n : ℕ) → slice_get [] i ≡ Some n → ⊥
    nothing zero n e = absurd cc
    nothing (suc i) n e = absurd cc

-- one more
pub seen_more : (aborts : List GivenAbort) (count writers : ℕ) (lists : List (List ℕ)) (given : GivenAbort) → AreBySeen aborts count writers lists → slice_get aborts count ≡ Some given → given.told.seen ≤ writers
    → AreBySeen aborts (count + 1) writers (with_more lists given.told.seen count)
seen_more aborts count writers lists given h at within = record {
  lists = more_length lists given.told.seen count ∙ h.lists;
  few = λ seen numbers k. few_by seen numbers (more_cases lists given.told.seen count seen numbers k);
  all = λ place other l k. all_by place other (below_or place count (omega (arith, l))) k;
  only = λ seen place k. only_by seen place k (more_cases lists given.told.seen count seen k.numbers k.at);
}
  where
    few_by : (seen : ℕ) (numbers : List ℕ) → IsMore lists given.told.seen count seen numbers ⊎ ((seen ≡ given.told.seen → ⊥) × (slice_get lists seen ≡ Some numbers)) → length numbers ≤ count + 1
    few_by seen numbers (inl m) = let old = h.few given.told.seen m.xs m.at in let long = ap length m.is ∙ longer m.xs count in omega (arith, old, long)
    few_by seen numbers (inr m) = let old = h.few seen numbers m.1 in omega (arith, old)

    all_by : (place : ℕ) (other : GivenAbort) → (place < count) ⊎ (place ≡ count) → slice_get aborts place ≡ Some other → StandsAt (with_more lists given.told.seen count) other.told.seen place
    all_by place other (inl l) k =
        let old = h.all place other l k in
        by old (eq_or other.told.seen given.told.seen)
      where
        by : StandsAt lists other.told.seen place → (other.told.seen ≡ given.told.seen) ⊎ (other.told.seen ≡ given.told.seen → ⊥) → StandsAt (with_more lists given.told.seen count) other.told.seen place
        by old (inl e) = record {
          numbers = old.numbers ++ count ∷ [];
          at =
              ap (slice_get (with_more lists given.told.seen count)) e
              ∙ more_same lists given.told.seen count old.numbers (ap (slice_get lists) (sym e) ∙ old.at);
          stands = (old.stands.0, push_front old.numbers count old.stands.0 place old.stands.1);
        }
        by old (inr n) = record { numbers = old.numbers; at = more_other lists given.told.seen other.told.seen count n ∙ old.at; stands = old.stands }
    all_by place other (inr e) k =
        let same : other ≡ given = same_given other given (sym k ∙ ap (slice_get aborts) e ∙ at) in
        let row = some_at lists given.told.seen (let l = h.lists in omega (arith, l, within)) in
        record {
          numbers = row.0 ++ count ∷ [];
          at = ap (λ (g : GivenAbort). slice_get (with_more lists given.told.seen count) g.told.seen) same ∙ more_same lists given.told.seen count row.0 row.1;
          stands = subst (Stands (row.0 ++ count ∷ [])) (sym e) (at_end row.0 count);
        }

    only_by : (seen place : ℕ) (k : StandsAt (with_more lists given.told.seen count) seen place)
        → IsMore lists given.told.seen count seen k.numbers ⊎ ((seen ≡ given.told.seen → ⊥) × (slice_get lists seen ≡ Some k.numbers)) → HasSeen aborts place seen
    only_by seen place k (inr m) = h.only seen place (record { numbers = k.numbers; at = m.1; stands = k.stands })
    only_by seen place k (inl m) = by (push_cases m.xs count k.stands.0 place (ap (λ (ns : List ℕ). slice_get ns k.stands.0) (sym m.is) ∙ k.stands.1))
      where
        by : (slice_get m.xs k.stands.0 ≡ Some place) ⊎ ((k.stands.0 ≡ length m.xs) × (place ≡ count)) → HasSeen aborts place seen
        by (inl q) = h.only seen place (record { numbers = m.xs; at = ap (slice_get lists) m.same ∙ m.at; stands = (k.stands.0, q) })
        by (inr q) = record { given = given; stands = ap (slice_get aborts) q.1 ∙ at; saw = sym m.same }

-- Along a replay.

module _ (file : File) (order : List TransactionPlace) (aborts : List GivenAbort) where
  pub none_wrong : IsFirstUnheard file order aborts 0 None
  none_wrong = record { unheard = tt; heard = λ place given k l b. absurd (omega (arith, l)) }

  pub wrong_more : (writers : ℕ) (places : List (List ℕ)) (at : List ℕ) (seen : ℕ) (old new : Option ℕ) → AreBySeen aborts (length aborts) writers places → slice_get places seen ≡ Some at
      → IsFirstUnheard file order aborts seen old → IsFirstOf file (shown file order seen) aborts at old new → IsFirstUnheard file order aborts (suc seen) new
  wrong_more writers places at seen old new sorted here h f = record {
    unheard = unheard_by f.either;
    heard = λ place given k l b. heard_by place given k b (below_or given.told.seen seen l);
  }
    where
      unheard_by : (new ≡ old) ⊎ ((place : ℕ) × (new ≡ Some place) × Stands at place × IsUnheardIn file (shown file order seen) aborts place) → IsUnheardOr file order aborts new
      unheard_by (inl e) = subst (IsUnheardOr file order aborts) (sym e) h.unheard
      unheard_by (inr w) =
          let place = w.0 in
          let there = sorted.only seen place (record { numbers = at; at = here; stands = w.2 }) in
          let same : there.given ≡ (w.3).given = same_given there.given (w.3).given (sym there.stands ∙ (w.3).stands) in
          let saw : (w.3).given.told.seen ≡ seen = ap (λ (g : GivenAbort). g.told.seen) (sym same) ∙ there.saw in
          subst (IsUnheardOr file order aborts) (sym w.1) (record {
            given = (w.3).given;
            stands = (w.3).stands;
            unheard = λ q. (w.3).unheard (subst (λ (n : ℕ). IsHeard file (shown file order n) (w.3).given) saw q);
          })

      heard_by : (place : ℕ) (given : GivenAbort) → slice_get aborts place ≡ Some given → IsBeforeOr place new → (given.told.seen < seen) ⊎ (given.told.seen ≡ seen) → IsHeard file (shown file order given.told.seen) given
      heard_by place given k b (inl l) = h.heard place given k l (f.up_to place b)
      heard_by place given k b (inr e) =
          let there = sorted.all place given (slice_get_within aborts place given k) k in
          let numbers : there.numbers ≡ at = same_list there.numbers at (sym there.at ∙ ap (slice_get places) e ∙ here) in
          subst (λ (n : ℕ). IsHeard file (shown file order n) given) (sym e) (f.heard place (subst (λ (ns : List ℕ). Stands ns place) numbers there.stands) b given k)

-- The first of several places.

module _ (file : File) (state : State) (aborts : List GivenAbort) where
  pub first_none : (earlier : Option ℕ) → IsFirstOf file state aborts [] earlier earlier
  first_none earlier = record { either = inl refl; up_to = λ place b. b; heard = λ place k b. absurd (nothing k.0 place k.1) }
    where
      nothing : (i n : ℕ) → slice_get [] i ≡ Some n → ⊥
      nothing zero n e = absurd cc
      nothing (suc i) n e = absurd cc

  -- one place more, and what was heard there is right
  pub first_kept : (places : List ℕ) (n : ℕ) (earlier wrong : Option ℕ) → IsFirstOf file state aborts places earlier wrong → IsHeardIn file state aborts n → IsFirstOf file state aborts (places ++ n ∷ []) earlier wrong
  first_kept places n earlier wrong h here = record {
    either = either_by h.either;
    up_to = h.up_to;
    heard = λ place k b. heard_by place b (push_cases places n k.0 place k.1);
  }
    where
      either_by : (wrong ≡ earlier) ⊎ ((place : ℕ) × (wrong ≡ Some place) × Stands places place × IsUnheardIn file state aborts place)
          → (wrong ≡ earlier) ⊎ ((place : ℕ) × (wrong ≡ Some place) × Stands (places ++ n ∷ []) place × IsUnheardIn file state aborts place)
      either_by (inl e) = inl e
      either_by (inr w) = inr (w.0, w.1, ((w.2).0, push_front places n (w.2).0 w.0 (w.2).1), w.3)

      heard_by : (place : ℕ) → IsBeforeOr place wrong → {i : ℕ} → (slice_get places i ≡ Some place) ⊎ ((i ≡ length places) × (place ≡ n)) → IsHeardIn file state aborts place
      heard_by place b {i} (inl k) = h.heard place (i, k) b
      heard_by place b (inr k) = subst (IsHeardIn file state aborts) (sym k.1) here

  -- one place more, and what was heard there is not
  pub first_less : (places : List ℕ) (n : ℕ) (earlier wrong : Option ℕ) (w : ℕ) → IsFirstOf file state aborts places earlier wrong → IsUnheardIn file state aborts n → MatchOption wrong (w ≡ n) (λ other. w ≡ min other n)
      → IsFirstOf file state aborts (places ++ n ∷ []) earlier (Some w)
  first_less places n earlier None w h here is = record {
    either = inr (w, refl, subst (Stands (places ++ n ∷ [])) (sym is) (at_end places n), subst (IsUnheardIn file state aborts) (sym is) here);
    up_to = λ place b. h.up_to place tt;
    heard = λ place k b. heard_by place b (push_cases places n k.0 place k.1);
  }
    where
      heard_by : (place : ℕ) → place < w → {i : ℕ} → (slice_get places i ≡ Some place) ⊎ ((i ≡ length places) × (place ≡ n)) → IsHeardIn file state aborts place
      heard_by place b {i} (inl k) = h.heard place (i, k) tt
      heard_by place b (inr k) = absurd (let e = k.1 in omega (arith, b, e, is))
  first_less places n earlier (Some other) w h here is = record {
    either = either_by (min_or other n) h.either;
    up_to = λ place b. h.up_to place (let l = min-le_left other n in omega (arith, b, is, l));
    heard = λ place k b. heard_by place b (push_cases places n k.0 place k.1);
  }
    where
      le_or : (a b : ℕ) → (a ≤ b) ⊎ (b ≤ a)
      le_or zero b = inl (omega arith)
      le_or (suc a) zero = inr (omega arith)
      le_or (suc a) (suc b) = by (le_or a b)
        where
          by : (a ≤ b) ⊎ (b ≤ a) → (suc a ≤ suc b) ⊎ (suc b ≤ suc a)
          by (inl l) = inl (omega (arith, l))
          by (inr l) = inr (omega (arith, l))

      min_or : (a b : ℕ) → (min a b ≡ a) ⊎ (min a b ≡ b)
      min_or a b = by (le_or a b)
        where
          by : (a ≤ b) ⊎ (b ≤ a) → (min a b ≡ a) ⊎ (min a b ≡ b)
          by (inl l) = inl (min-eq_left l)
          by (inr l) = inr (min_comm a b ∙ min-eq_left l)

      either_by : (min other n ≡ other) ⊎ (min other n ≡ n) → (Some other ≡ earlier) ⊎ ((place : ℕ) × (Some other ≡ Some place) × Stands places place × IsUnheardIn file state aborts place)
          → (Some w ≡ earlier) ⊎ ((place : ℕ) × (Some w ≡ Some place) × Stands (places ++ n ∷ []) place × IsUnheardIn file state aborts place)
      either_by (inr e) old = inr (w, refl, subst (Stands (places ++ n ∷ [])) (sym (is ∙ e)) (at_end places n), subst (IsUnheardIn file state aborts) (sym (is ∙ e)) here)
      either_by (inl e) (inl k) = inl (ap Some (is ∙ e) ∙ k)
      either_by (inl e) (inr k) = inr (k.0, ap Some (is ∙ e) ∙ k.1, ((k.2).0, push_front places n (k.2).0 k.0 (k.2).1), k.3)

      heard_by : (place : ℕ) → place < w → {i : ℕ} → (slice_get places i ≡ Some place) ⊎ ((i ≡ length places) × (place ≡ n)) → IsHeardIn file state aborts place
      heard_by place b {i} (inl k) = h.heard place (i, k) (let l = min-le_left other n in omega (arith, b, is, l))
      heard_by place b (inr k) = absurd (let e = k.1 in let l = min-le_right other n in omega (arith, b, e, is, l))

  -- at an index
  pub heard_there : (st : State) (n : ℕ) (d : GivenAbort) → st ≡ state → n < length aborts → IsHeard file st (get_or aborts n d) → IsHeardIn file state aborts n
  heard_there st n d e l h given at =
      subst (λ (x : State). IsHeard file x given) e
      (subst (IsHeard file st) (same_given (get_or aborts n d) given (sym (slice_get-get_or aborts n d l) ∙ at)) h)

  pub unheard_there : (st : State) (n : ℕ) (d : GivenAbort) → st ≡ state → n < length aborts → (IsHeard file st (get_or aborts n d) → ⊥) → IsUnheardIn file state aborts n
  unheard_there st n d e l h = record { given = get_or aborts n d; stands = slice_get-get_or aborts n d l; unheard = λ k. h (subst (λ (x : State). IsHeard file x (get_or aborts n d)) (sym e) k) }

-- As the code keeps them.

abbrev pub numbers_in : List (Listed ℕ) → List (List ℕ)
numbers_in lists = map (λ (l : Listed ℕ). l.items) lists

module _ (aborts : List GivenAbort) (count writers : ℕ) (lists : List (Listed ℕ)) (h : AreBySeen aborts count writers (numbers_in lists)) where
  pub few_seen : (seen : ℕ) (l : Listed ℕ) → slice_get lists seen ≡ Some l → length l.items ≤ count
  few_seen seen l e = h.few seen l.items (at_mapped lists seen l e)

  pub seen_inside : (seen : ℕ) (l : Listed ℕ) (numbers : List ℕ) → slice_get lists seen ≡ Some l → numbers ≡ l.items → (place : ℕ) → Stands numbers place → place < length aborts
  seen_inside seen l numbers e same place k =
      let there = h.only seen place (record { numbers = l.items; at = at_mapped lists seen l e; stands = subst (λ (ns : List ℕ). Stands ns place) same k }) in
      slice_get_within aborts place there.given there.stands

  pub seen_pushed : (d : GivenAbort) (lent new : Listed ℕ) → count < length aborts → slice_get lists (get_or aborts count d).told.seen ≡ Some lent → new.items ≡ lent.items ++ count ∷ []
      → ((place : ℕ) (given : GivenAbort) → slice_get aborts place ≡ Some given → given.told.seen ≤ writers) → AreBySeen aborts (count + 1) writers (numbers_in (slice_set lists (get_or aborts count d).told.seen new))
  seen_pushed d lent new l e pushed seen =
      let given : GivenAbort = get_or aborts count d in
      let at = slice_get-get_or aborts count d l in
      subst (AreBySeen aborts (count + 1) writers) (sym (set_more lists given.told.seen lent new count e pushed))
      (seen_more aborts count writers (numbers_in lists) given h at (seen count given at))
