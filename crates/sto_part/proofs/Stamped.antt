-- What stamps tell of places.
use Rattle.std.specs.List.{All}
use Rattle.std.specs.Option.{option_map}
use Rattle.std.specs.Map.{lookup}
use Rattle.std.proofs.Common.{◌≡◌, ◌<◌, ◌≤◌, ◌+◌, ℕ, zero, suc, true, false, nat_eq, nat_lt, if◌then◌else◌, Option, Some, None, List, [], ◌∷◌, ◌++◌, length, length-set, map, take, drop, replicate, refl, arith, slice_get, slice_index_or, get_or, IsSome, IfSome, slice_set, unwrap_or, inl, inr, ap, ◌∙◌, sym, subst}
use Rattle.std.proofs.lemmas.Bool.{cases_Bool, false≢true}
use Rattle.std.proofs.lemmas.List.{length-append}
use Rattle.std.proofs.lemmas.Option.{slice_get-map, slice_get-get_or}
use Rattle.std.proofs.lemmas.Bool.Decides.{nat_tests}
use Rattle.sto_part.specs.declared.index.Stamp.{Stamp}
use Rattle.sto_part.specs.Index.{Places, near_end, room_at, place_at, HasRoom}
use Rattle.sto_part.specs.Stamps.{place_of, far_place, IsUpTo, fresh, places_by}

-- the stamp of a part, if it has one
abbrev pub stamp_of : List Stamp → List (ℕ × Stamp) → ℕ → Option Stamp
stamp_of near far part = if nat_lt part near_end then slice_get near part else lookup (nat_eq part) far

-- the place that a stamp tells, if there is a stamp
abbrev pub told : ℕ → Option Stamp → Option ℕ
told t o = unwrap_or (option_map (place_of t) o) None

-- a stamp of this generation tells its place
now_there : (t k : ℕ) → place_of t (record { generation = t; place = k }) ≡ Some k
now_there t k = let hit : nat_eq t t ≡ true = grind (arith, nat_tests) in rw hit refl

-- a stamp of an earlier generation tells nothing
pub not_there : (t : ℕ) (s : Stamp) → s.generation < t → place_of t s ≡ None
not_there t s early = let miss : nat_eq s.generation t ≡ false = grind (arith, nat_tests) in rw miss refl

both_next : (i q : ℕ) → nat_eq (suc i) (suc q) ≡ nat_eq i q
both_next i q = elim (cases_Bool (nat_eq i q)) [
  | inl hit ↦ let next : nat_eq (suc i) (suc q) ≡ true = grind (arith, nat_tests) in next ∙ sym hit
  | inr miss ↦ let next : nat_eq (suc i) (suc q) ≡ false = grind (arith, nat_tests) in next ∙ sym miss
]

put_at : (t : ℕ) (ss : List Stamp) (i k q : ℕ) → i < length ss → told t (slice_get (slice_set ss i (record { generation = t; place = k })) q) ≡ (if nat_eq i q then Some k else told t (slice_get ss q))
put_at t [] i k q within = absurd (omega (arith, within))
put_at t (s ∷ ss) zero k zero within = now_there t k
put_at t (s ∷ ss) zero k (suc q) within = let miss : nat_eq 0 (suc q) ≡ false = grind (arith, nat_tests) in rw miss refl
put_at t (s ∷ ss) (suc i) k zero within = let miss : nat_eq (suc i) 0 ≡ false = grind (arith, nat_tests) in rw miss refl
put_at t (s ∷ ss) (suc i) k (suc q) within = rw (both_next i q) (put_at t ss i k q (omega (arith, within)))

up_to_rest : (t : ℕ) (s : Stamp) (ss : List Stamp) → All (IsUpTo t) (s ∷ ss) → All (IsUpTo t) ss
up_to_rest t s ss all k d within = all (suc k) d (omega (arith, within))

none_past : (t u : ℕ) (ss : List Stamp) → All (IsUpTo t) ss → t < u → (q : ℕ) → told u (slice_get ss q) ≡ None
none_past t u [] all past q = refl
none_past t u (s ∷ ss) all past zero = not_there u s (let first : s.generation ≤ t = all 0 s (omega arith) in omega (arith, first, past))
none_past t u (s ∷ ss) all past (suc q) = none_past t u ss (up_to_rest t s ss all) past q

none_fresh : (t n q : ℕ) → 1 ≤ t → told t (slice_get (replicate n fresh) q) ≡ None
none_fresh t zero q later = refl
none_fresh t (suc n) zero later = not_there t fresh (omega (arith, later))
none_fresh t (suc n) (suc q) later = none_fresh t n q later

longer_same : (t n : ℕ) (ss : List Stamp) → 1 ≤ t → (q : ℕ) → told t (slice_get (ss ++ replicate n fresh) q) ≡ told t (slice_get ss q)
longer_same t n [] later q = none_fresh t n q later
longer_same t n (s ∷ ss) later zero = refl
longer_same t n (s ∷ ss) later (suc q) = longer_same t n ss later q

pub up_to_fresh : (t n : ℕ) → All (IsUpTo t) (replicate n fresh)
up_to_fresh t zero k d within = absurd (omega (arith, within))
up_to_fresh t (suc n) zero d within = omega arith
up_to_fresh t (suc n) (suc k) d within = up_to_fresh t n k d (omega (arith, within))

pub up_to_more : (t u : ℕ) (ss : List Stamp) → All (IsUpTo t) ss → t ≤ u → All (IsUpTo u) ss
up_to_more t u ss all more k d within = let one : (slice_index_or ss k d).generation ≤ t = all k d within in omega (arith, one, more)

far_tells : (t q : ℕ) (es : List (ℕ × Stamp)) → lookup (nat_eq q) (map (far_place t) es) ≡ option_map (place_of t) (lookup (nat_eq q) es)
far_tells t q [] = refl
far_tells t q (e ∷ es) = elim (cases_Bool (nat_eq q e.0)) [
  | inl hit ↦ rw (hit) refl
  | inr miss ↦ rw (miss) (far_tells t q es)
]

-- what stamps tell of a part
pub tells : (t : ℕ) (near : List Stamp) (far : List (ℕ × Stamp)) (q : ℕ) → room_at (places_by t near far) q ≡ option_map (place_of t) (stamp_of near far q)
tells t near far q = elim (cases_Bool (nat_lt q near_end)) [
  | inl low ↦ rw (low) (slice_get-map (place_of t) near q)
  | inr high ↦ rw (high) (far_tells t q far)
]

pub place_told : (t : ℕ) (near : List Stamp) (far : List (ℕ × Stamp)) (q : ℕ) → place_at (places_by t near far) q ≡ told t (stamp_of near far q)
place_told t near far q = ap (λ o. unwrap_or o None) (tells t near far q)

-- Near parts

pub near_put : (t : ℕ) (near : List Stamp) (far : List (ℕ × Stamp)) (i k q : ℕ) → nat_lt i near_end ≡ true → i < length near → told t (stamp_of (slice_set near i (record { generation = t; place = k })) far q) ≡ (if nat_eq i q then Some k else told t (stamp_of near far q))
near_put t near far i k q here within = elim (cases_Bool (nat_lt q near_end)) [
  | inl low ↦ rw (low) (put_at t near i k q within)
  | inr high ↦ let apart : nat_eq i q ≡ false = grind (arith, nat_tests) in rw (high, apart) refl
]

pub near_longer : (t n : ℕ) (near : List Stamp) (far : List (ℕ × Stamp)) (q : ℕ) → 1 ≤ t → told t (stamp_of (near ++ replicate n fresh) far q) ≡ told t (stamp_of near far q)
near_longer t n near far q later = elim (cases_Bool (nat_lt q near_end)) [
  | inl low ↦ rw (low) (longer_same t n near later q)
  | inr high ↦ rw (high) refl
]

is_there : (ss : List Stamp) (i : ℕ) → i < length ss → IsSome (slice_get ss i)
is_there [] i within = absurd (omega (arith, within))
is_there (s ∷ ss) zero within = refl
is_there (s ∷ ss) (suc i) within = is_there ss i (omega (arith, within))

some_map : (t : ℕ) (o : Option Stamp) → IsSome o → IsSome (option_map (place_of t) o)
some_map t (Some s) there = refl
some_map t None there = there

some_back : (t : ℕ) (o : Option Stamp) → IsSome (option_map (place_of t) o) → IsSome o
some_back t (Some s) there = refl
some_back t None there = there

pub near_room : (t : ℕ) (near : List Stamp) (far : List (ℕ × Stamp)) (i : ℕ) → nat_lt i near_end ≡ true → i < length near → HasRoom (places_by t near far) i
near_room t near far i here within = rw (tells t near far i, here) (some_map t (slice_get near i) (is_there near i within))

within_some : (ss : List Stamp) (i : ℕ) → IsSome (slice_get ss i) → i < length ss
within_some [] i there = absurd (false≢true there)
within_some (s ∷ ss) zero there = omega arith
within_some (s ∷ ss) (suc i) there = let rest : i < length ss = within_some ss i there in omega (arith, rest)

pub near_known : (t : ℕ) (near : List Stamp) (far : List (ℕ × Stamp)) (i : ℕ) → nat_lt i near_end ≡ true → HasRoom (places_by t near far) i → i < length near
near_known t near far i here room =
    within_some near i (some_back t (slice_get near i) (subst (λ (o : Option Stamp). IsSome (option_map (place_of t) o)) (ap (λ b. if b then slice_get near i else lookup (nat_eq i) far) here) (subst IsSome (tells t near far i) room)))

set_there : (near : List Stamp) (far : List (ℕ × Stamp)) (i q : ℕ) (s : Stamp) → IsSome (stamp_of near far q) → IsSome (stamp_of (slice_set near i s) far q)
set_there near far i q s = elim (cases_Bool (nat_lt q near_end)) [
  | inl low ↦ rw (low) (λ there. is_there (slice_set near i s) q (omega (arith, length-set near i s, within_some near q there)))
  | inr high ↦ rw (high) (λ there. there)
]

longer_there : (near : List Stamp) (far : List (ℕ × Stamp)) (n q : ℕ) → IsSome (stamp_of near far q) → IsSome (stamp_of (near ++ replicate n fresh) far q)
longer_there near far n q = elim (cases_Bool (nat_lt q near_end)) [
  | inl low ↦ rw (low) (λ there. is_there (near ++ replicate n fresh) q (omega (arith, length-append near (replicate n fresh), within_some near q there)))
  | inr high ↦ rw (high) (λ there. there)
]

-- Far parts

kept_or_fresh : (t : ℕ) (o : Option Stamp) → 1 ≤ t → told t (Some (unwrap_or o fresh)) ≡ told t o
kept_or_fresh t None later = not_there t fresh (omega (arith, later))
kept_or_fresh t (Some s) later = refl

pub far_put :
    (t : ℕ) (near : List Stamp) (far more : List (ℕ × Stamp)) (i k q : ℕ) → nat_lt i near_end ≡ false
    → ((p : ℕ) → lookup (nat_eq p) more ≡ (if nat_eq i p then Some (record { generation = t; place = k }) else lookup (nat_eq p) far))
    → told t (stamp_of near more q) ≡ (if nat_eq i q then Some k else told t (stamp_of near far q))
far_put t near far more i k q there is = elim (cases_Bool (nat_lt q near_end)) [
  | inl low ↦ let apart : nat_eq i q ≡ false = grind (arith, nat_tests) in rw (low, apart) refl
  | inr high ↦ rw (high, is q) (elim (cases_Bool (nat_eq i q)) [
    | inl hit ↦ rw (hit) (now_there t k)
    | inr miss ↦ rw (miss) refl
  ])
]

pub far_added :
    (t : ℕ) (near : List Stamp) (far more : List (ℕ × Stamp)) (i q : ℕ) → 1 ≤ t
    → ((p : ℕ) → lookup (nat_eq p) more ≡ (if nat_eq i p then Some (unwrap_or (lookup (nat_eq i) far) fresh) else lookup (nat_eq p) far))
    → told t (stamp_of near more q) ≡ told t (stamp_of near far q)
far_added t near far more i q later is = elim (cases_Bool (nat_lt q near_end)) [
  | inl low ↦ rw (low) refl
  | inr high ↦ rw (high, is q) (elim (cases_Bool (nat_eq i q)) [
    | inl hit ↦
        let same : i ≡ q = grind (arith, nat_tests) in
        rw (hit) (kept_or_fresh t (lookup (nat_eq i) far) later ∙ ap (λ p. told t (lookup (nat_eq p) far)) same)
    | inr miss ↦ rw (miss) refl
  ])
]

pub far_room : (t : ℕ) (near : List Stamp) (far : List (ℕ × Stamp)) (i : ℕ) → nat_lt i near_end ≡ false → IsSome (lookup (nat_eq i) far) → HasRoom (places_by t near far) i
far_room t near far i there some = rw (tells t near far i, there) (some_map t (lookup (nat_eq i) far) some)

pub far_known : (t : ℕ) (near : List Stamp) (far : List (ℕ × Stamp)) (i : ℕ) → nat_lt i near_end ≡ false → HasRoom (places_by t near far) i → IsSome (lookup (nat_eq i) far)
far_known t near far i there room =
    some_back t (lookup (nat_eq i) far) (subst (λ (o : Option Stamp). IsSome (option_map (place_of t) o)) (ap (λ b. if b then slice_get near i else lookup (nat_eq i) far) there) (subst IsSome (tells t near far i) room))

more_there :
    (near : List Stamp) (far more : List (ℕ × Stamp)) (i q : ℕ) (s : Stamp)
    → ((p : ℕ) → lookup (nat_eq p) more ≡ (if nat_eq i p then Some s else lookup (nat_eq p) far)) → IsSome (stamp_of near far q) → IsSome (stamp_of near more q)
more_there near far more i q s is = elim (cases_Bool (nat_lt q near_end)) [
  | inl low ↦ rw (low) (λ there. there)
  | inr high ↦ rw (high, is q) (λ there. elim (cases_Bool (nat_eq i q)) [ inl hit ↦ rw (hit) refl | inr miss ↦ rw (miss) there ])
]

-- Both

-- room that stays
room_stays : (t : ℕ) (near nears : List Stamp) (far fars : List (ℕ × Stamp)) (q : ℕ) → (IsSome (stamp_of near far q) → IsSome (stamp_of nears fars q)) → HasRoom (places_by t near far) q → HasRoom (places_by t nears fars) q
room_stays t near nears far fars q stays room = rw (tells t nears fars q) (some_map t (stamp_of nears fars q) (stays (some_back t (stamp_of near far q) (subst IsSome (tells t near far q) room))))

pub room_set : (t : ℕ) (near : List Stamp) (far : List (ℕ × Stamp)) (i q : ℕ) (s : Stamp) → HasRoom (places_by t near far) q → HasRoom (places_by t (slice_set near i s) far) q
room_set t near far i q s = room_stays t near (slice_set near i s) far far q (set_there near far i q s)

pub room_longer : (t : ℕ) (near : List Stamp) (far : List (ℕ × Stamp)) (n q : ℕ) → HasRoom (places_by t near far) q → HasRoom (places_by t (near ++ replicate n fresh) far) q
room_longer t near far n q = room_stays t near (near ++ replicate n fresh) far far q (longer_there near far n q)

pub room_more :
    (t : ℕ) (near : List Stamp) (far more : List (ℕ × Stamp)) (i q : ℕ) (s : Stamp)
    → ((p : ℕ) → lookup (nat_eq p) more ≡ (if nat_eq i p then Some s else lookup (nat_eq p) far)) → HasRoom (places_by t near far) q → HasRoom (places_by t near more) q
room_more t near far more i q s is = room_stays t near near far more q (more_there near far more i q s is)

none_from : (t u : ℕ) (o : Option Stamp) → IfSome o (IsUpTo t) → t < u → told u o ≡ None
none_from t u None up past = refl
none_from t u (Some s) up past = not_there u s (let first : s.generation ≤ t = up in omega (arith, first, past))

pub none_next : (t : ℕ) (near : List Stamp) (far : List (ℕ × Stamp)) (q : ℕ) → All (IsUpTo t) near → ((p : ℕ) → IfSome (lookup (nat_eq p) far) (IsUpTo t)) → told (t + 1) (stamp_of near far q) ≡ None
none_next t near far q near_up far_up = elim (cases_Bool (nat_lt q near_end)) [
  | inl low ↦ rw (low) (none_past t (t + 1) near near_up (omega arith) q)
  | inr high ↦ rw (high) (none_from t (t + 1) (lookup (nat_eq q) far) (far_up q) (omega arith))
]

-- a part for which a stamp was added has one
pub there_added : (far more : List (ℕ × Stamp)) (i : ℕ) → ((p : ℕ) → lookup (nat_eq p) more ≡ (if nat_eq i p then Some (unwrap_or (lookup (nat_eq i) far) fresh) else lookup (nat_eq p) far)) → IsSome (lookup (nat_eq i) more)
there_added far more i is = let same : nat_eq i i ≡ true = grind (arith, nat_tests) in rw (is i, same) refl

-- the place that the map of far stamps tells
pub far_told : (t : ℕ) (near : List Stamp) (far : List (ℕ × Stamp)) (i : ℕ) (o : Option Stamp) → nat_lt i near_end ≡ false → o ≡ lookup (nat_eq i) far → told t o ≡ place_at (places_by t near far) i
far_told t near far i o there is = ap (told t) (is ∙ sym (ap (λ b. if b then slice_get near i else lookup (nat_eq i) far) there)) ∙ sym (place_told t near far i)
