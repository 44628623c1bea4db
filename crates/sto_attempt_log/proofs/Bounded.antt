-- The events of a commit are bounded by the parts and the words of the type.
use Rattle.std.proofs.Common.{◌≡◌, ◌≤◌, ◌<◌, ◌+◌, ◌-◌, ◌*◌, ℕ, zero, suc, List, [], ◌∷◌, length, length-append, map, drop, refl, ap, sym, ◌∙◌, subst, arith, inl, inr, slice_index_or}
use Rattle.std.proofs.lemmas.Bool.{cases_Bool}
use Rattle.std.proofs.lemmas.List.{length-map}
use Rattle.sto_part.specs.Listed.{Listed}
use Rattle.sto_part.specs.declared.change.Change.{Change}
use Rattle.sto_item.specs.Pending.{Entry as Update, plain, is_keep, IsRisingFrom}
use Rattle.sto_item.specs.Agreement.{HasWidths}
use Rattle.sto_core.specs.Lists.{Each}
use Rattle.sto_core.specs.Allowed.{Rises, RisesFrom}
use Rattle.sto_type.specs.Known.{Parts}
use Rattle.sto_attempt_log.specs.declared.commit_phase.CommitPhase.TheVariants as S
use Rattle.sto_attempt_log.specs.Bounds.{words_of, round}
use Rattle.sto_attempt_log.specs.Gathering.{places_at, places_in}
use Rattle.sto_attempt_log.specs.CommitPhases.{Deal, IsPlanned, due}
use Rattle.sto_attempt_log.specs.Remaining.{loading, commit_left}
use Rattle.sto_attempt_log.proofs.Gathering.{among_none}
use Rattle.sto_attempt_log.proofs.Loading.{each_but, each_cons}
use Rattle.sto_attempt_log.proofs.Planning.{width_at}

-- parts in rising order, from one on
abbrev pub From : ℕ → List ℕ → Type 0
From n [] = Unit {0}
From n (p ∷ ps) = (n ≤ p) × From (suc p) ps

from_after : (n : ℕ) (ps : List ℕ) → RisesFrom n ps → From (suc n) ps
from_after n [] r = tt
from_after n (p ∷ ps) r = (omega (arith, r.0), from_after p ps r.1)

pub from_rises : (ps : List ℕ) → Rises ps → From 0 ps
from_rises [] r = tt
from_rises (p ∷ ps) r = (omega arith, from_after p ps r)

pub from_updates : (n : ℕ) (es : List Update) → IsRisingFrom n es → From n (map (λ (e : Update). e.0) es)
from_updates n [] r = tt
from_updates n (e ∷ es) r =
    let next : e.0 + 1 ≡ suc e.0 = omega arith in
    (r.0, from_updates (suc e.0) es (subst (λ (k : ℕ). IsRisingFrom k es) next r.1))

-- so many of them are in range
pub few_from : (n long : ℕ) (ps : List ℕ) → From n ps → Each (λ (p : ℕ). p < long) ps → length ps ≤ long - n
few_from n long [] r e = omega arith
few_from n long (p ∷ ps) r e =
    let one : p < long = e 0 p refl in
    let rest = few_from (suc p) long ps r.1 (λ j q s. e (suc j) q s) in
    omega (arith, r.0, one, rest)

-- the words from a part on
words_next : (ws : List ℕ) (p : ℕ) → words_of (drop p ws) ≡ slice_index_or ws p 0 + words_of (drop (suc p) ws)
words_next [] zero = refl
words_next [] (suc p) = refl
words_next (w ∷ ws) zero = refl
words_next (w ∷ ws) (suc p) = words_next ws p

words_fewer : (ws : List ℕ) (k : ℕ) → words_of (drop (suc k) ws) ≤ words_of (drop k ws)
words_fewer ws k = omega (arith, words_next ws k)

words_later : (ws : List ℕ) (n k : ℕ) → words_of (drop (k + n) ws) ≤ words_of (drop n ws)
words_later ws n zero = let same : 0 + n ≡ n = omega arith in subst (λ (j : ℕ). words_of (drop j ws) ≤ words_of (drop n ws)) (sym same) (omega arith)
words_later ws n (suc k) =
    let same : suc k + n ≡ suc (k + n) = omega arith in
    subst (λ (j : ℕ). words_of (drop j ws) ≤ words_of (drop n ws)) (sym same) (omega (arith, words_fewer ws (k + n), words_later ws n k))

words_after : (ws : List ℕ) (n p : ℕ) → n ≤ p → words_of (drop p ws) ≤ words_of (drop n ws)
words_after ws n p l =
    let same : (p - n) + n ≡ p = omega (arith, l) in
    subst (λ (j : ℕ). words_of (drop j ws) ≤ words_of (drop n ws)) same (words_later ws n (p - n))

-- parts in rising order have no more words than there are
pub due_from : (ws : List ℕ) (n : ℕ) (ps : List ℕ) → From n ps → due ws ps ≤ words_of (drop n ws)
due_from ws n [] r = omega arith
due_from ws n (p ∷ ps) r = omega (arith, due_from ws (suc p) ps r.1, words_next ws p, words_after ws n p r.0)

pub loading_due : (ws ps : List ℕ) → loading ws ps ≡ due ws ps + 2 * length ps
loading_due ws [] = refl
loading_due ws (p ∷ ps) = omega (arith, loading_due ws ps)

-- no more words are put than the updates have
places_short : (p i : ℕ) (cs : List Change) → length (places_at p i cs) ≤ length cs
places_short p i [] = omega arith
places_short p i (c ∷ cs) = elim (cases_Bool (is_keep c)) [
  | inl kept ↦ let l = places_short p (suc i) cs in rw kept (omega (arith, l))
  | inr new ↦ let l = places_short p (suc i) cs in rw new (omega (arith, l))
]

pub places_due : (ys : List (ℕ × Listed Change)) (d : Parts) → HasWidths (map plain ys) d → length (places_in ys) ≤ due (map length d) (map (λ (e : Update). e.0) (map plain ys))
places_due [] d h = omega arith
places_due (y ∷ ys) d h =
    omega (arith, length-append (places_at y.0 0 y.1.items) (places_in ys), places_short y.0 0 y.1.items, places_due ys d h.2, h.1, width_at d y.0)

pub updates_within : (es : List Update) (d : Parts) → HasWidths es d → Each (λ (p : ℕ). p < length d) (map (λ (e : Update). e.0) es)
updates_within [] d h = λ j p s. absurd (among_none p (j, s))
updates_within (e ∷ es) d h = each_cons (λ (p : ℕ). p < length d) e.0 (map (λ (x : Update). x.0) es) h.0 (updates_within es d h.2)

-- a commit that begins has no more events left than this
module _ (d : Deal) (xs : List (ℕ × Listed Change)) (c : Parts) (same : map length c ≡ d.m.widths) (us : map plain xs ≡ d.us) (fit : HasWidths d.us c) (planned : IsPlanned d) (places : d.places ≡ places_in xs)
    (checked : Each (λ (p : ℕ). p < length d.m.widths) d.checks) (rising : Rises d.checks) where
  long : length d.m.widths ≡ length c
  long = ap (λ (l : List ℕ). length l) (sym same) ∙ length-map c length

  updates_few : length d.us ≤ length d.m.widths
  updates_few =
      omega (arith, few_from 0 (length c) (map (λ (e : Update). e.0) d.us) (from_updates 0 d.us planned.ordered.0) (updates_within d.us c fit), length-map d.us (λ (e : Update). e.0), long)

  tasks_few : length d.tasks ≤ length d.m.widths
  tasks_few = omega (arith, few_from 0 (length d.m.widths) d.tasks (from_rises d.tasks planned.tasks_rise) (each_but (λ (p : ℕ). (p < length d.m.widths) × (0 < slice_index_or d.m.widths p 0)) (λ (p : ℕ). p < length d.m.widths) (λ p h. h.0) d.tasks planned.in_range))

  checks_few : length d.checks ≤ length d.m.widths
  checks_few = omega (arith, few_from 0 (length d.m.widths) d.checks (from_rises d.checks rising) checked)

  loaded_words_few : due d.m.widths d.tasks ≤ words_of d.m.widths
  loaded_words_few = due_from d.m.widths 0 d.tasks (from_rises d.tasks planned.tasks_rise)

  places_few : length d.places ≤ words_of d.m.widths
  places_few =
      let on : HasWidths (map plain xs) c = subst (λ (l : List Update). HasWidths l c) (sym us) fit in
      let most = places_due xs c on in
      let order : IsRisingFrom 0 (map plain xs) = subst (λ (l : List Update). IsRisingFrom 0 l) (sym us) planned.ordered.0 in
      let most_due = due_from (map length c) 0 (map (λ (e : Update). e.0) (map plain xs)) (from_updates 0 (map plain xs) order) in
      omega (arith, ap (λ (l : List (ℕ × ℕ)). length l) places, most, most_due, ap words_of same)

  pub begins_bounded : commit_left d (S.Locking 0) ≤ 2 * round (length d.m.widths) (words_of d.m.widths)
  begins_bounded = omega (arith, updates_few, tasks_few, checks_few, loaded_words_few, places_few, loading_due d.m.widths d.tasks)
