-- Each step lowers the number of events left.
use Rattle.std.proofs.Common.{ℤ, mul-le-mul_right, ◌≡◌, ◌≤◌, ◌<◌, ◌+◌, ◌-◌, ◌*◌, ◌⊎◌, ℕ, zero, suc, Bool, true, false, if◌then◌else◌, Option, None, Some, IsSome, List, [], ◌∷◌, ◌++◌, length, map, drop, slice_index_or, refl, ap, sym, ◌∙◌, subst, arith, inl, inr}
use Rattle.std.specs.Prelude.{is_some}
use Rattle.std.specs.List.{AllPairs}
use Rattle.std.specs.List.Sorted.{IsStrictlyIncreasing}
use Rattle.std.proofs.Math.Nat.{add-mul}
use Rattle.std.proofs.Math.Seq.{drop-append_seam}
use Rattle.std.proofs.lemmas.Bool.{cases_Bool}
use Rattle.std.proofs.lemmas.List.{length-map}
use Rattle.std.proofs.lemmas.List.Kept.{AllPairs-from_increasing}
use Rattle.sto_item.specs.Observed.{Watched}
use Rattle.sto_item.specs.Pending.{Entry as Update}
use Rattle.sto_type.specs.Known.{Known}
use Rattle.sto_attempt_log.specs.declared.read_entry.ReadEntry.{ReadEntry}
use Rattle.sto_attempt_log.specs.declared.extension.Extension.{Extension}
use Rattle.sto_attempt_log.specs.declared.read_phase.ReadPhase.{ReadPhase}
use Rattle.sto_attempt_log.specs.declared.verdict.Turn.{Turn}
use Rattle.sto_attempt_log.specs.declared.log.Reached.{Reached}
use Rattle.sto_attempt_log.specs.declared.log.Reached.TheVariants.{Needs, Commits, Cancels}
use Rattle.sto_attempt_log.specs.Every.{AllOf}
use Rattle.sto_attempt_log.specs.ReadSet.{words_in}
use Rattle.sto_attempt_log.specs.Led.{IsLed}
use Rattle.sto_attempt_log.specs.Standing.{IsRenewed, IsNext}
use Rattle.sto_attempt_log.specs.Bounds.{words_of, round, reading, unread, renewing, later, left_opening, left_renewing, left_committing, events_left}
use Rattle.sto_attempt_log.proofs.Claimed.{words_new}
use Rattle.sto_attempt_log.proofs.Reading.{some_more}

-- what is not known can be read with one reading
cost : (o : Option (List ℤ)) (w : ℕ) → (if is_some o then 0 else w + 2) ≤ w + 2
cost None w = omega arith
cost (Some x) w = omega arith

pub unread_most : (widths : List ℕ) (k : ℕ) (base : Known) → unread widths k base ≤ reading (length widths) (words_of widths)
unread_most [] k base = omega arith
unread_most (w ∷ ws) k base = omega (arith, cost (base k) w, unread_most ws (suc k) base)

two_more : (c u : ℕ) → (2 * suc c + 3) * u ≡ (2 * c + 3) * u + 2 * u
two_more c u = let same : 2 * suc c + 3 ≡ (2 * c + 3) + 2 = omega arith in ap (λ k. k * u) same ∙ add-mul (2 * c + 3) 2 u

extension : (b : Bool) (r : ℕ) → (if b then 0 else 1 + 2 * r) ≤ 1 + 2 * r
extension true r = omega arith
extension false r = omega arith

-- a call costs at most two rounds
pub call_cost : (calls : ℕ) (widths : List ℕ) (extended : Bool) (base : Known) → left_opening calls widths extended base < later (suc calls) widths
call_cost calls widths extended base =
    omega (arith, unread_most widths 0 base, extension extended (reading (length widths) (words_of widths)), two_more calls (round (length widths) (words_of widths)))

pub more_calls : (a b : ℕ) (widths : List ℕ) → a ≤ b → later a widths ≤ later b widths
more_calls a b widths l = mul-le-mul_right (round (length widths) (words_of widths)) (omega arith)

-- the commit has room in what is kept
pub commit_cost : (calls : ℕ) (widths : List ℕ) → left_committing widths < later calls widths
commit_cost calls widths =
    let u : ℕ = round (length widths) (words_of widths) in
    let three : 3 * u ≤ (2 * calls + 3) * u = mul-le-mul_right u (omega arith) in
    omega (arith, three)

-- a part that is known then is not read again
fewer_at : (o n : Option (List ℤ)) (w : ℕ) → (IsSome o → IsSome n) → (if is_some n then 0 else w + 2) ≤ (if is_some o then 0 else w + 2)
fewer_at None n w h = cost n w
fewer_at (Some x) None w h = let none = h refl in cc
fewer_at (Some x) (Some y) w h = omega arith

known_cost : (o : Option (List ℤ)) (w : ℕ) → IsSome o → (if is_some o then 0 else w + 2) ≡ 0
known_cost None w h = cc
known_cost (Some x) w h = refl

unknown_cost : (o : Option (List ℤ)) (w : ℕ) → o ≡ None → (if is_some o then 0 else w + 2) ≡ w + 2
unknown_cost None w h = refl
unknown_cost (Some x) w h = cc

unread_fewer : (widths : List ℕ) (k : ℕ) (old new : Known) → ((q : ℕ) → IsSome (old q) → IsSome (new q)) → unread widths k new ≤ unread widths k old
unread_fewer [] k old new h = omega arith
unread_fewer (w ∷ ws) k old new h = omega (arith, fewer_at (old k) (new k) w (h k), unread_fewer ws (suc k) old new h)

unread_one : (widths : List ℕ) (k i p : ℕ) (old new : Known) → p ≡ k + i → i < length widths → old p ≡ None → IsSome (new p) → ((q : ℕ) → IsSome (old q) → IsSome (new q))
    → unread widths k new + (slice_index_or widths i 0 + 2) ≤ unread widths k old
unread_one [] k i p old new at l none some h = absurd (omega (arith, l))
unread_one (w ∷ ws) k zero p old new at l none some h =
    let here : p ≡ k = omega (arith, at) in
    omega (arith, known_cost (new k) w (subst (λ (q : ℕ). IsSome (new q)) here some), unknown_cost (old k) w (subst (λ (q : ℕ). old q ≡ None) here none), unread_fewer ws (suc k) old new h)
unread_one (w ∷ ws) k (suc i) p old new at l none some h =
    omega (arith, fewer_at (old k) (new k) w (h k), unread_one ws (suc k) i p old new (omega (arith, at)) (omega (arith, l)) none some h)

none_read : (widths : List ℕ) (k i p : ℕ) (old : Known) → p ≡ k + i → i < length widths → old p ≡ None → slice_index_or widths i 0 + 2 ≤ unread widths k old
none_read [] k i p old at l none = absurd (omega (arith, l))
none_read (w ∷ ws) k zero p old at l none =
    let here : p ≡ k = omega (arith, at) in
    omega (arith, unknown_cost (old k) w (subst (λ (q : ℕ). old q ≡ None) here none))
none_read (w ∷ ws) k (suc i) p old at l none = omega (arith, none_read ws (suc k) i p old (omega (arith, at)) (omega (arith, l)) none)

-- a part that is needed is among what is left to be read
pub needed_cost : (widths : List ℕ) (p : ℕ) (old : Known) → p < length widths → old p ≡ None → slice_index_or widths p 0 + 2 ≤ unread widths 0 old
needed_cost widths p old l none = none_read widths 0 p p old (omega arith) l none

-- once it was read, it is not
pub read_cost : (widths : List ℕ) (base : List ReadEntry) (x : ReadEntry) → x.part < length widths → words_in base x.part ≡ None
    → unread widths 0 (words_in (base ++ x ∷ [])) + (slice_index_or widths x.part 0 + 2) ≤ unread widths 0 (words_in base)
read_cost widths base x l none =
    let new : IsSome (words_in (base ++ x ∷ []) x.part) = subst (λ (o : Option (List ℤ)). IsSome o) (sym (words_new base x none)) refl in
    unread_one widths 0 x.part x.part (words_in base) (words_in (base ++ x ∷ [])) (omega arith) l none new (some_more base x)

-- where the body's end leads to fewer events, and the next open too, there are fewer
pub led_fewer : (at : ℕ) (es : List Update) (reached : Reached) (read_phase : ReadPhase) (turn : Turn) → IsLed at es reached read_phase turn → (calls : ℕ) (widths : List ℕ) (words : List ℤ) (extension : Extension) (base : List ReadEntry) (most : ℕ)
    → left_committing widths < most → ((p : ℕ) → reached ≡ Needs p → left_opening (calls - 1) widths extension.extended (words_in base) < most) → events_left calls widths read_phase words extension base < most
led_fewer at es (Needs p) read_phase turn l calls widths words extension base most room opens =
    subst (λ (s : ReadPhase). events_left calls widths s words extension base < most) (sym l.0) (opens p refl)
led_fewer at es Commits read_phase turn l calls widths words extension base most room opens = elim l [
  | inl none ↦ subst (λ (s : ReadPhase). events_left calls widths s words extension base < most) (sym none.1) (omega (arith, room))
  | inr wrote ↦ subst (λ (s : ReadPhase). events_left calls widths s words extension base < most) (sym wrote.1) room
]
led_fewer at es Cancels read_phase turn l calls widths words extension base most room opens =
    subst (λ (s : ReadPhase). events_left calls widths s words extension base < most) (sym l.0) (omega (arith, room))

-- with the replies of further calls, the open of the next part has fewer events left than what was kept for them
pub next_call : (before calls : ℕ) (widths : List ℕ) (extended : Bool) (base : Known) → 0 < calls → calls < before → left_opening (calls - 1) widths extended base < later (before - 1) widths
next_call before calls widths extended base some l =
    let at_most : later (suc (calls - 1)) widths ≤ later (before - 1) widths = more_calls (suc (calls - 1)) (before - 1) widths (omega arith) in
    omega (arith, call_cost (calls - 1) widths extended base, at_most)

-- without one, it has what was left, without what was read
pub same_call : (before calls : ℕ) (widths : List ℕ) (extended : Bool) (base : Known) → calls ≤ before
    → left_opening (calls - 1) widths extended base ≤ later (before - 1) widths + (if extended then 0 else 1 + 2 * reading (length widths) (words_of widths)) + unread widths 0 base
same_call before calls widths extended base l = omega (arith, more_calls (calls - 1) (before - 1) widths (omega arith))

-- after the start
pub first_left : (before calls : ℕ) (widths : List ℕ) (extended : Bool) (base : Known) → 0 < calls → calls ≤ before → left_opening (calls - 1) widths extended base < later before widths
first_left before calls widths extended base some l =
    omega (arith, call_cost (calls - 1) widths extended base, more_calls (suc (calls - 1)) before widths (omega arith))

-- a word more
pub less_one : (n k : ℕ) → 1 + k < n → n - (1 + (k + 1)) < n - (1 + k)
less_one n k l = omega (arith, l)

-- a renew in the place of the rest of a reading
pub renew_costs : (calls : ℕ) (widths : List ℕ) (p : ℕ) (base : Known) → p < length widths → base p ≡ None → left_renewing calls widths < left_opening calls widths false base
renew_costs calls widths p base l none = omega (arith, needed_cost widths p base l none)

-- parts from k on, in rising number
abbrev Above : ℕ → List Watched → Type 0
Above k [] = Unit {0}
Above k (w ∷ ws) = (k ≤ w.part) × Above (suc w.part) ws

watch_cost : (widths : List ℕ) (w : Watched) → (if w.seen then 1 else slice_index_or widths w.part 0 + 2) ≤ slice_index_or widths w.part 0 + 2
watch_cost widths w = elim (cases_Bool w.seen) [
  | inl e ↦ rw e (omega arith)
  | inr e ↦ rw e (omega arith)
]

at_or_beyond : (k q : ℕ) → k ≤ q → (q ≡ k) ⊎ (suc k ≤ q)
at_or_beyond k q l = grind arith

renewing_from : (widths left : List ℕ) (k n : ℕ) (ws : List Watched) → Above k ws → AllOf (λ (w : Watched). w.part < n) ws → n ≤ k + length left → ((i : ℕ) → slice_index_or left i 0 ≡ slice_index_or widths (k + i) 0)
    → renewing widths ws ≤ reading (length left) (words_of left)
renewing_from widths left k n [] above below few same = omega arith
renewing_from widths [] k n (w ∷ ws) above below few same = absurd (omega (arith, above.0, below.0, few))
renewing_from widths (x ∷ left) k n (w ∷ ws) above below few same = elim (at_or_beyond k w.part above.0) [
  | inl here ↦
      let rest : renewing widths ws ≤ reading (length left) (words_of left) =
      renewing_from widths left (suc k) n ws (subst (λ (q : ℕ). Above (suc q) ws) here above.1) below.1 (omega (arith, few)) next in
      let width : x ≡ slice_index_or widths w.part 0 = same 0 ∙ ap (λ (q : ℕ). slice_index_or widths q 0) (omega (arith, here)) in
      omega (arith, rest, width, watch_cost widths w)
  | inr beyond ↦
      let rest : renewing widths (w ∷ ws) ≤ reading (length left) (words_of left) = renewing_from widths left (suc k) n (w ∷ ws) (beyond, above.1) below (omega (arith, few)) next in
      omega (arith, rest)
]
  where
    next : (i : ℕ) → slice_index_or left i 0 ≡ slice_index_or widths (suc k + i) 0
    next i = same (suc i) ∙ ap (λ (q : ℕ). slice_index_or widths q 0) (omega arith)

rises_above : (k : ℕ) (ws : List Watched) → AllPairs (λ (x y : ℕ). x < y) (map (λ (w : Watched). w.part) ws) → ((i : ℕ) → i < length (map (λ (w : Watched). w.part) ws) → k ≤ slice_index_or (map (λ (w : Watched). w.part) ws) i 0) → Above k ws
rises_above k [] pairs low = tt
rises_above k (w ∷ ws) pairs low =
    (low 0 (omega arith), rises_above (suc w.part) ws (λ i j d a b. pairs (suc i) (suc j) d (omega (arith, a)) (omega (arith, b))) (λ i l. pairs 0 (suc i) 0 (omega arith) (omega (arith, l))))

-- what is observed can be read anew with one reading
pub renewing_most : (widths : List ℕ) (ws : List Watched) → IsStrictlyIncreasing (map (λ (w : Watched). w.part) ws) → AllOf (λ (w : Watched). w.part < length widths) ws → renewing widths ws ≤ reading (length widths) (words_of widths)
renewing_most widths ws rises below =
    renewing_from widths widths 0 (length widths) ws (rises_above 0 ws (AllPairs-from_increasing (map (λ (w : Watched). w.part) ws) rises) (λ i l. omega arith)) below (omega arith) (λ i. ap (λ (k : ℕ). slice_index_or widths k 0) (omega arith))

-- what is left of the watches
pub left_watches : (n : ℕ) (old : Known) (fresh : List ReadEntry) (watches left : List Watched) → IsRenewed n old fresh watches left → drop (length fresh) watches ≡ left
left_watches n old fresh watches left r =
    let count : length fresh ≡ length r.done = sym (length-map fresh (λ (s : ReadEntry). s.part)) ∙ ap length r.parts ∙ length-map r.done (λ (w : Watched). w.part) in
    ap (λ (k : ℕ). drop k watches) count ∙ ap (drop (length r.done)) r.all ∙ drop-append_seam r.done left

-- the next one costs a recheck
pub recheck_costs : (widths : List ℕ) (old : Known) (fresh : List ReadEntry) (watches : List Watched) (p : ℕ) (n : IsNext (length widths) old fresh watches true p) → renewing widths (drop (length fresh) watches) ≡ 1 + renewing widths n.more
recheck_costs widths old fresh watches p n =
    let left : drop (length fresh) watches ≡ n.next ∷ n.more = left_watches (length widths) old fresh watches (n.next ∷ n.more) n.renewed in
    ap (renewing widths) left ∙ ap (λ (b : Bool). (if b then 1 else slice_index_or widths n.next.part 0 + 2) + renewing widths n.more) n.whole

-- or a new read
pub reread_costs : (widths : List ℕ) (old : Known) (fresh : List ReadEntry) (watches : List Watched) (p : ℕ) (n : IsNext (length widths) old fresh watches false p)
    → renewing widths (drop (length fresh) watches) ≡ slice_index_or widths p 0 + 2 + renewing widths n.more
reread_costs widths old fresh watches p n =
    let left : drop (length fresh) watches ≡ n.next ∷ n.more = left_watches (length widths) old fresh watches (n.next ∷ n.more) n.renewed in
    ap (renewing widths) left ∙ ap (λ (b : Bool). (if b then 1 else slice_index_or widths n.next.part 0 + 2) + renewing widths n.more) n.whole
    ∙ ap (λ (q : ℕ). slice_index_or widths q 0 + 2 + renewing widths n.more) n.on
