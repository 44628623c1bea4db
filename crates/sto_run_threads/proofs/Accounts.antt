-- Records account for the starts and commits of their pass.
use Rattle.std.proofs.Common.{◌≡◌, ℕ, zero, suc, ◌+◌, ◌*◌, ◌≤◌, List, [], ◌∷◌, ◌++◌, map, take, drop, length, refl, sym, ap, ap₂, ◌∙◌, subst, arith, Bool}
use Rattle.std.proofs.Math.Nat.{mul-add}
use Rattle.std.proofs.lemmas.List.{length-append, map-append, take-append-drop}
use Rattle.sto_model.specs.Run.{Behaviour}
use Rattle.sto_type.specs.Meaning.{Meaning}
use Rattle.sto_core.specs.declared.view.View.{View}
use Rattle.sto_core.specs.Gathered.{gathered_into}
use Rattle.sto_core.specs.History.{Contents}
use Rattle.sto_core.specs.Opened.{opening_draws}
use Rattle.sto_core.specs.Reopened.{reopened_view}
use Rattle.sto_core.specs.Rule.{total}
use Rattle.sto_table.specs.Openings.{opened_down}
use Rattle.sto_history.specs.Records.{TransactionPlace, Record, times_written}
use Rattle.sto_history.specs.Counted.{times_committed}
use Rattle.sto_history.proofs.Progress.{committed_append}
use Rattle.sto_transaction.specs.Ran.{HasRun}
use Rattle.sto_serializability.proofs.Working.{times_append}
use Rattle.sto_run_threads.specs.Accounts.{AddsUp, HasGathered, HasAll}

pub adds_up_none : (v : View) (rs : List Record) → AddsUp v v rs rs
adds_up_none v rs = record { tickets = λ t. refl; starts = refl }

pub adds_up_through : (u v w : View) (qs rs ss : List Record) → AddsUp u v qs rs → AddsUp v w rs ss → AddsUp u w qs ss
adds_up_through u v w qs rs ss h k = record {
  tickets = λ t. (let a = h.tickets t in let b = k.tickets t in omega (arith, a, b));
  starts = (let a = h.starts in let b = k.starts in omega (arith, a, b));
}

-- a run of a transaction does
pub run_adds_up : (m : Meaning) (sizes : List ℕ) (tries passes : ℕ) (v w : View) (f : Behaviour) (place : TransactionPlace) (before later : List Record) (ended : Bool)
    → HasRun m sizes tries passes v w f place before later ended → AddsUp v w before later
run_adds_up m sizes tries passes v w f place before later ended h =
    subst (λ (l : List Record). AddsUp v w before l) (sym h.whole) (record {
      tickets = λ t. (let a = h.added.entries t in let b = times_append t before h.new in omega (arith, a, b));
      starts = (let a = h.starts in let b = length-append before h.new in omega (arith, a, b));
    })

-- where all records of before were counted, all are
pub all_counted : (v w : View) (rs later : List Record) → AddsUp v w rs later → ((t : ℕ) → times_written t rs ≡ times_committed t v.entries)
    → (t : ℕ) → times_written t later ≡ times_committed t w.entries
all_counted v w rs later h all t = let a = h.tickets t in let b = all t in omega (arith, a, b)

pub all_started : (v w : View) (rs later : List Record) → AddsUp v w rs later → v.starts ≡ length rs → w.starts ≡ length later
all_started v w rs later h all = let a = h.starts in omega (arith, a, all)

total_append : (f : View → ℕ) (xs ys : List View) → total f (xs ++ ys) ≡ total f xs + total f ys
total_append f [] ys = omega arith
total_append f (x ∷ xs) ys = let k = total_append f xs ys in omega (arith, k)

-- one pass
pub one_gathered : (need : ℕ) (v w : View) (rs : List Record) → AddsUp v w [] rs → w.gathered ≡ v.gathered → v.draws ≤ w.draws + need → HasGathered need (v ∷ []) w rs
one_gathered need v w rs h same spent = record {
  gathered = omega (arith, same);
  draws = (let e : need * 1 ≡ need = omega arith in omega (arith, spent, e));
  starts = (let a = h.starts in omega (arith, a));
  tickets = λ t. (let a = h.tickets t in omega (arith, a));
}

-- two passes that were gathered, each of which had gathered others
pub both_gathered : (need : ℕ) (xs ys : List View) (v u : View) (rs ss : List Record)
    → HasGathered need xs v rs → HasGathered need ys u ss → HasGathered need (xs ++ ys) (gathered_into v u) (rs ++ ss)
both_gathered need xs ys v u rs ss h k = record {
  gathered = (let a = h.gathered in let b = k.gathered in let s = total_append (λ x. x.gathered) xs ys in omega (arith, a, b, s));
  draws =
      (let a = h.draws in let b = k.draws in let s = total_append (λ x. x.draws) xs ys in
      let l = ap (λ (n : ℕ). need * n) (length-append xs ys) ∙ mul-add need (length xs) (length ys) in omega (arith, a, b, s, l));
  starts = (let a = h.starts in let b = k.starts in let s = total_append (λ x. x.starts) xs ys in let l = length-append rs ss in omega (arith, a, b, s, l));
  tickets = λ t.
      (let a = h.tickets t in let b = k.tickets t in let s = total_append (λ x. times_committed t x.entries) xs ys in
      let w = times_append t rs ss in let c = committed_append t v.entries u.entries in omega (arith, a, b, s, w, c));
}

-- those of the first items of a list, and those of the others
pub halves_gathered : {X : Type 0} (need : ℕ) (V : X → View) (all : List X) (half : ℕ) (front back : List X) (v u w : View) (rs ss all_records : List Record)
    → front ≡ take half all → back ≡ drop half all → w ≡ gathered_into v u → all_records ≡ rs ++ ss
    → HasGathered need (map V front) v rs → HasGathered need (map V back) u ss → HasGathered need (map V all) w all_records
halves_gathered need V all half front back v u w rs ss records first other view whole h k =
    let parts : map V front ++ map V back ≡ map V all =
    sym (map-append V front back) ∙ ap₂ (λ (x y : List _). map V (x ++ y)) first other ∙ ap (map V) (take-append-drop half all) in
    subst (λ (l : List View). HasGathered need l w records) parts
    (subst (λ (x : View). HasGathered need (map V front ++ map V back) x records) (sym view)
    (subst (λ (l : List Record). HasGathered need (map V front ++ map V back) (gathered_into v u) l) (sym whole)
    (both_gathered need (map V front) (map V back) v u rs ss h k)))

-- the order of the passes does not count
total_moved : (f : View → ℕ) (xs ys : List View) (x : View) → total f ((xs ++ x ∷ []) ++ ys) ≡ total f (xs ++ (ys ++ x ∷ []))
total_moved f xs ys x =
    let a = total_append f (xs ++ x ∷ []) ys in let b = total_append f xs (x ∷ []) in let c = total_append f xs (ys ++ x ∷ []) in let d = total_append f ys (x ∷ []) in
    omega (arith, a, b, c, d)

length_moved : (xs ys : List View) (x : View) → length ((xs ++ x ∷ []) ++ ys) ≡ length (xs ++ (ys ++ x ∷ []))
length_moved xs ys x =
    let a = length-append (xs ++ x ∷ []) ys in let b = length-append xs (x ∷ []) in let c = length-append xs (ys ++ x ∷ []) in let d = length-append ys (x ∷ []) in
    omega (arith, a, b, c, d)

pub gathered_moved : (need : ℕ) (xs ys : List View) (x v : View) (rs : List Record) → HasGathered need ((xs ++ x ∷ []) ++ ys) v rs → HasGathered need (xs ++ (ys ++ x ∷ [])) v rs
gathered_moved need xs ys x v rs h = record {
  gathered = h.gathered ∙ total_moved (λ u. u.gathered) xs ys x;
  draws = (let a = h.draws in let s = total_moved (λ u. u.draws) xs ys x in let l = ap (λ (n : ℕ). need * n) (length_moved xs ys x) in omega (arith, a, s, l));
  starts = (let a = h.starts in let s = total_moved (λ u. u.starts) xs ys x in omega (arith, a, s));
  tickets = λ t. (let a = h.tickets t in let s = total_moved (λ u. times_committed t u.entries) xs ys x in omega (arith, a, s));
}

-- The passes of words that were just opened.
pub record AreNew (passes : ℕ) (before : List View) : Type 0 where
  pub many : length before ≡ passes
  pub gathered : total (λ u. u.gathered) before ≡ passes
  pub draws : total (λ u. u.draws) before ≡ opening_draws * passes
  pub starts : total (λ u. u.starts) before ≡ 0
  pub tickets : (t : ℕ) → total (λ u. times_committed t u.entries) before ≡ 0

pub opened_new : (sizes : List ℕ) (opening : Contents) (passes : ℕ) → AreNew passes (opened_down sizes opening passes)
opened_new sizes opening zero = record { many = refl; gathered = refl; draws = omega arith; starts = refl; tickets = λ t. refl }
opened_new sizes opening (suc n) =
    let k = opened_new sizes opening n in record {
      many = ap suc k.many;
      gathered = (let a = k.gathered in omega (arith, a));
      draws = (let a = k.draws in let e : opening_draws * suc n ≡ opening_draws + opening_draws * n = omega arith in omega (arith, a, e));
      starts = (let a = k.starts in omega (arith, a));
      tickets = λ t. (let a = k.tickets t in omega (arith, a));
    }

-- enough is left where each had twice as much
enough : (need most passes left : ℕ) → 1 ≤ passes → need + need ≤ most → most * passes ≤ left + need * passes → need ≤ left
enough need most zero left some twice all = absurd (omega (arith, some))
enough need most (suc n) left some twice all =
    let k : need * n ≤ most * n = mul-le-mul_right need most n (omega (arith, twice)) in
    let a : most * suc n ≡ most + most * n = omega arith in
    let b : need * suc n ≡ need + need * n = omega arith in omega (arith, twice, all, k, a, b)
  where
    mul-le-mul_right : (a b c : ℕ) → a ≤ b → a * c ≤ b * c
    mul-le-mul_right a b zero l = omega arith
    mul-le-mul_right a b (suc c) l = let k = mul-le-mul_right a b c l in let e : a * suc c ≡ a + a * c = omega arith in let f : b * suc c ≡ b + b * c = omega arith in omega (arith, k, e, f, l)

pub gathered_all : (need passes : ℕ) (before : List View) (v : View) (rs : List Record) → 1 ≤ passes → need + need ≤ opening_draws
    → AreNew passes before → HasGathered need before v rs → HasAll need passes v rs
gathered_all need passes before v rs some twice new h = record {
  gathered = h.gathered ∙ new.gathered;
  draws = enough need opening_draws passes v.draws some twice
      (let a = h.draws in let b = new.draws in let l = ap (λ (n : ℕ). need * n) new.many in omega (arith, a, b, l));
  starts = (let a = h.starts in let b = new.starts in omega (arith, a, b));
  tickets = λ t. (let a = h.tickets t in let b = new.tickets t in omega (arith, a, b));
}

pub opened_all : (need : ℕ) (sizes : List ℕ) (opening : Contents) (passes : ℕ) (before : List View) (v : View) (rs : List Record)
    → before ≡ opened_down sizes opening passes → 1 ≤ passes → need + need ≤ opening_draws → HasGathered need before v rs → HasAll need passes v rs
opened_all need sizes opening passes before v rs is some twice h =
    gathered_all need passes before v rs some twice (subst (AreNew passes) (sym is) (opened_new sizes opening passes)) h

-- the one pass of reopened words
pub reopened_all : (need passes : ℕ) (sizes : List ℕ) (opening : Contents) (v : View) (rs : List Record)
    → HasAll need passes v rs → HasAll need 1 (reopened_view sizes opening (v ∷ [])) rs
reopened_all need passes sizes opening v rs h = record {
  gathered = refl;
  draws = (let a = h.draws in omega (arith, a));
  starts = (let a = h.starts in omega (arith, a));
  tickets = λ t. h.tickets t ∙ sym (committed_append t v.entries [] ∙ nothing (times_committed t v.entries));
}
  where
    nothing : (n : ℕ) → n + 0 ≡ n
    nothing n = omega arith
