-- Counts of the records of one transaction, all aborted but perhaps the last.
use Rattle.std.specs.Prelude.{◌&&◌, ◌==◌, not, if◌then◌else◌, cond}
use Rattle.std.specs.List.{All, filter}
use Rattle.std.proofs.Common.{◌≡◌, ℕ, suc, ◌+◌, List, [], ◌∷◌, ◌++◌, map, length, Bool, true, false, refl, ap, ap₂, ◌∙◌, arith, eq-eqb}
use Rattle.std.proofs.lemmas.List.Elements.{All-head, All-tail}
use Rattle.sto_history.specs.Records.{TransactionPlace, Record, is_abort, is_finished}
use Rattle.sto_history.specs.Counted.{aborted_times, finished_places}
use Rattle.sto_history.specs.Trying.{AreAborted}

-- 1 where a record of the place is aborted
if_hit : TransactionPlace → TransactionPlace → Bool → ℕ
if_hit place q b = if (q.0 == place.0) && ((q.1 == place.1) && b) then 1 else 0

hit : (place q : TransactionPlace) (b : Bool) → q ≡ place → b ≡ true → if_hit place q b ≡ 1
unfolding if_hit
hit place q b same is =
    ap₂ (λ (p : TransactionPlace) (c : Bool). if_hit place p c) same is
    ∙ ap₂ (λ (x y : Bool). if x && (y && true) then 1 else 0) (eq-eqb place.0 place.0 refl) (eq-eqb place.1 place.1 refl)

missed : (x y : Bool) → ◌≡◌ {A = ℕ} (if x && (y && false) then 1 else 0) 0
missed true true = refl
missed true false = refl
missed false y = refl

miss : (place q : TransactionPlace) (b : Bool) → b ≡ false → if_hit place q b ≡ 0
unfolding if_hit
miss place q b is = ap (λ (c : Bool). if_hit place q c) is ∙ missed (q.0 == place.0) (q.1 == place.1)

-- each aborted record of the place is counted
pub all_aborted : (place : TransactionPlace) (rs : List Record) → AreAborted rs → All (λ (r : Record). r.place ≡ place) rs → aborted_times place rs ≡ length rs
unfolding if_hit
all_aborted place [] aborted placed = refl
all_aborted place (r ∷ rs) aborted placed =
    let one : if_hit place r.place (is_abort r.verdict) ≡ 1 =
    hit place r.place (is_abort r.verdict) (All-head (λ (x : Record). x.place ≡ place) r rs placed) (All-head (λ (x : Record). is_abort x.verdict ≡ true) r rs aborted) in
    let rest : aborted_times place rs ≡ length rs =
    all_aborted place rs (All-tail (λ (x : Record). is_abort x.verdict ≡ true) r rs aborted) (All-tail (λ (x : Record). x.place ≡ place) r rs placed) in
    ap₂ (λ (x y : ℕ). x + y) one rest ∙ one_more (length rs)
  where
    one_more : (n : ℕ) → 1 + n ≡ suc n
    one_more n = omega arith

-- the last record is not counted where it is not aborted
pub last_unaborted : (place : TransactionPlace) (rs : List Record) (r : Record) → AreAborted rs → All (λ (x : Record). x.place ≡ place) rs → is_abort r.verdict ≡ false → aborted_times place (rs ++ r ∷ []) ≡ length rs
unfolding if_hit
last_unaborted place [] r aborted placed last = ap (λ (n : ℕ). n + 0) (miss place r.place (is_abort r.verdict) last)
last_unaborted place (x ∷ rs) r aborted placed last =
    let one : if_hit place x.place (is_abort x.verdict) ≡ 1 =
    hit place x.place (is_abort x.verdict) (All-head (λ (y : Record). y.place ≡ place) x rs placed) (All-head (λ (y : Record). is_abort y.verdict ≡ true) x rs aborted) in
    let rest : aborted_times place (rs ++ r ∷ []) ≡ length rs =
    last_unaborted place rs r (All-tail (λ (y : Record). is_abort y.verdict ≡ true) x rs aborted) (All-tail (λ (y : Record). y.place ≡ place) x rs placed) last in
    ap₂ (λ (a b : ℕ). a + b) one rest ∙ one_more (length rs)
  where
    one_more : (n : ℕ) → 1 + n ≡ suc n
    one_more n = omega arith

-- no aborted record has ended its transaction
pub none_finished : (rs : List Record) → AreAborted rs → finished_places rs ≡ []
none_finished [] aborted = refl
none_finished (r ∷ rs) aborted =
    let over : is_finished r ≡ false = ap not (All-head (λ (y : Record). is_abort y.verdict ≡ true) r rs aborted) in
    ap (λ (b : Bool). map (λ (y : Record). y.place) (cond b (r ∷ filter is_finished rs) (filter is_finished rs))) over
    ∙ none_finished rs (All-tail (λ (y : Record). is_abort y.verdict ≡ true) r rs aborted)

pub last_finished : (rs : List Record) (r : Record) → AreAborted rs → is_abort r.verdict ≡ false → finished_places (rs ++ r ∷ []) ≡ r.place ∷ []
last_finished [] r aborted last = ap (λ (b : Bool). map (λ (y : Record). y.place) (cond b (r ∷ []) [])) (ap not last)
last_finished (x ∷ rs) r aborted last =
    let over : is_finished x ≡ false = ap not (All-head (λ (y : Record). is_abort y.verdict ≡ true) x rs aborted) in
    ap (λ (b : Bool). map (λ (y : Record). y.place) (cond b (x ∷ filter is_finished (rs ++ r ∷ [])) (filter is_finished (rs ++ r ∷ [])))) over
    ∙ last_finished rs r (All-tail (λ (y : Record). is_abort y.verdict ≡ true) x rs aborted) last
