-- What every run of a generated file leaves, in whatever order: accounts that hold 64,000 together, a log of 160 pairs and a table of
-- 128 owners.
use Rattle.std.specs.Prelude.{replicate, slice_get, option_and_then, nat_le}
use Rattle.std.specs.Ordering.{int_eq}
use Rattle.std.proofs.Common.{◌≡◌, ◌≤◌, ◌<◌, ◌+◌, ◌*◌, ◌%◌, ◌&&◌, ℕ, zero, suc, ℤ, pos, List, [], ◌∷◌, length, map, refl, ap, sym, ◌∙◌, arith, Bool, true, false, cond, Option, Some, subst, inl, inr, codes}
use Rattle.std.proofs.lemmas.Bool.{cases_lt}
use Rattle.std.proofs.lemmas.Bool.Decides.{nat_tests}
use Rattle.std.proofs.lemmas.Int.{ints, int_rem_euclid_is}
use Rattle.sto_model.specs.Rows.{Row, bucket_of, keys_beside}
use Rattle.sto_model.specs.Run.{State}
use Rattle.sto_lang.specs.Scripts.{Script}
use Rattle.sto_report_spec.specs.Orders.{TransactionPlace, IsOrder, at_position, numbers_from, transaction_at}
use Rattle.sto_report_spec.specs.Replay.{script_run, run_at, opening_state, state_from, final_state}
use Rattle.sto_gen.specs.declared.draws.Transfer.{Transfer}
use Rattle.sto_gen.specs.Draws.{state_after, transfer_after}
use Rattle.sto_gen.specs.Generated.{file_of, transaction, threads}
use Rattle.sto_gen.proofs.Places.{thread_there, transaction_there}
use Rattle.sto_bench.specs.Summary.{rows_named, total_of, HasTotals}
use Rattle.sto_bench.proofs.Balances.{total_is}
use Rattle.sto_bench.proofs.Orders.{tally, count_of, count_is, total_of_kind, AreBelow, head_below, tail_below, past_positions, thread_positions}
use Rattle.sto_bench.proofs.Pairs.{put_there, tally_more, length_more, in_bucket, beside_is}
use Rattle.sto_bench.proofs.Notes.{logs, log_key, owns, owner_key, owns_in, bump, IsNext, runs_next, next_on, IsFresh, fresh_log, fresh_log_put, fresh_owner, fresh_owner_put, log_total, owner_total}
use Rattle.sto_bench.proofs.Transfers.{machines, owners_after, log_after, AreLeft, noted_left}

-- between two transactions: what was noted and what is still to be noted make the whole, and no key comes twice
record IsSoFar (next : ℕ → ℕ) (rest : List TransactionPlace) (st : State) : Type 0 where
  owners : List Row
  log : List Row
  left : AreLeft owners log st
  nexts : (t : ℕ) → IsNext next rest t
  below : AreBelow rest
  log_fresh : IsFresh logs log_key next log
  log_count : length log + count_of logs rest ≡ 160
  owner_fresh : IsFresh owns owner_key next owners
  owner_count : length owners + count_of owns rest ≡ 128
  buckets : (c : ℕ) → c < 16 → tally (in_bucket (pos c)) owners + count_of (owns_in (pos c)) rest ≡ 8

not_full : (room held : ℕ) → held < room → nat_le room held ≡ false
not_full room held l = grind (arith, nat_tests)

-- the log after one more transaction
log_step : (b : Bool) (next : ℕ → ℕ) (rows : List Row) (thread position amount : ℕ) → logs thread position ≡ b → ((t : ℕ) → 1 ≤ next t) → position ≡ next thread → position ≤ 200 → length rows < 256
    → IsFresh logs log_key next rows
    → IsFresh logs log_key (bump thread next) (log_after b (log_key thread position) amount rows) × (length (log_after b (log_key thread position) amount rows) ≡ cond b 1 0 + length rows)
log_step false next rows thread position amount e firsts here last room fresh = (fresh_log next rows thread firsts fresh, omega arith)
log_step true next rows thread position amount e firsts here last room fresh =
    let absent = fresh thread position (firsts thread) (omega (arith, here)) last e in
    let put = put_there (pos (log_key thread position)) (pos amount) rows (nat_le 256 (length rows)) absent (not_full 256 (length rows) room) in (
      subst (λ (l : List Row). IsFresh logs log_key (bump thread next) l) (sym put) (fresh_log_put next rows thread position (pos amount) firsts here last e fresh),
      ap length put ∙ length_more (pos (log_key thread position)) (pos amount) rows absent,
    )

bucket_is : (key : ℕ) → bucket_of 16 (pos key) ≡ pos (key % 16)
bucket_is key = int_rem_euclid_is (pos key) (pos 16) 16 0 key (omega arith) refl (ap pos (let e : key + 0 * 16 ≡ key = omega arith in e))

same_int : (z : ℤ) → int_eq z z ≡ true
same_int z = grind (arith, ints)

each_of : (f : ℕ → ℕ) (first count value : ℕ) → map f (numbers_from first count) ≡ replicate count value → (k at : ℕ) → k ≡ first + at → at < count → f k ≡ value
each_of f first zero value all k at e l = absurd (omega (arith, l))
each_of f first (suc count) value all k zero e l = let here : k ≡ first = omega (arith, e) in let own : f first ≡ value = cc in ap f here ∙ own
each_of f first (suc count) value all k (suc at) e l =
    let rest : map f (numbers_from (suc first) count) ≡ replicate count value = cc in each_of f (suc first) count value rest k at (omega (arith, e)) (omega (arith, l))

-- so many owners of each bucket
bucket_total : (c : ℕ) → c < 16 → total_of_kind (owns_in (pos c)) 16 ≡ 8
bucket_total c l = each_of (λ (k : ℕ). total_of_kind (owns_in (pos k)) 16) 0 16 8 refl c c (omega arith) l

-- the owners after one more transaction
record OwnersGo (b : Bool) (next : ℕ → ℕ) (rows after : List Row) (thread position : ℕ) : Type 0 where
  fresh : IsFresh owns owner_key (bump thread next) after
  count : length after ≡ cond b 1 0 + length rows
  buckets : (c : ℕ) → tally (in_bucket (pos c)) after ≡ cond (owns_in (pos c) thread position) 1 0 + tally (in_bucket (pos c)) rows

owner_step : (b : Bool) (next : ℕ → ℕ) (rows : List Row) (thread position owner : ℕ) → owns thread position ≡ b → ((t : ℕ) → 1 ≤ next t) → position ≡ next thread → position ≤ 200
    → (b ≡ true → tally (in_bucket (pos (owner_key thread position % 16))) rows < 8)
    → IsFresh owns owner_key next rows → OwnersGo b next rows (owners_after b (owner_key thread position) owner rows) thread position
owner_step false next rows thread position owner e firsts here last room fresh = record {
  fresh = fresh_owner next rows thread firsts fresh;
  count = omega arith;
  buckets = λ c. rw e (omega arith);
}
owner_step true next rows thread position owner e firsts here last room fresh =
    let key = owner_key thread position in
    let absent = fresh thread position (firsts thread) (omega (arith, here)) last e in
    let beside : keys_beside rows 16 (pos key) ≡ tally (in_bucket (pos (key % 16))) rows =
    sym (beside_is (pos key) rows) ∙ ap (λ (y : ℤ). tally (in_bucket y) rows) (bucket_is key) in
    let few : keys_beside rows 16 (pos key) < 8 = omega (arith, beside, room refl) in
    let put = put_there (pos key) (pos owner) rows (nat_le 8 (keys_beside rows 16 (pos key))) absent (not_full 8 (keys_beside rows 16 (pos key)) few) in
    record {
      fresh = subst (λ (l : List Row). IsFresh owns owner_key (bump thread next) l) (sym put) (fresh_owner_put next rows thread position (pos owner) firsts here last e fresh);
      count = ap length put ∙ length_more (pos key) (pos owner) rows absent;
      buckets = λ c. rw e (ap (tally (in_bucket (pos c))) put ∙ tally_more (in_bucket (pos c)) (pos key) (pos owner) rows absent);
    }

-- the transaction at a place of an order
at_place : (n : ℕ) (p : TransactionPlace) → p.0 < 16 → 1 ≤ p.1 → p.1 ≤ 200 → (state : ℕ) × (transaction_at (file_of n) p ≡ Some (transaction p.0 p.1 (transfer_after state)))
at_place n p thread from to = by p.1 from to
  where
    by : (position : ℕ) → 1 ≤ position → position ≤ 200
        → (state : ℕ) × (option_and_then (at_position position) (slice_get (threads n 16) p.0) ≡ Some (transaction p.0 position (transfer_after state)))
    by zero from to = absurd (omega (arith, from))
    by (suc earlier) from to =
        let same : earlier + 1 ≡ suc earlier = omega arith in (
          state_after (200 * p.0 + earlier) n,
          ap (option_and_then (at_position (suc earlier))) (thread_there n p.0 thread) ∙ transaction_there n p.0 earlier (omega (arith, to))
              ∙ ap (λ (k : ℕ). Some (transaction p.0 k (transfer_after (state_after (200 * p.0 + earlier) n)))) same,
        )

one_more : (n : ℕ) (next : ℕ → ℕ) (p : TransactionPlace) (rest : List TransactionPlace) (st : State) → IsSoFar next (p ∷ rest) st → IsSoFar (bump p.0 next) rest (run_at (file_of n) st p).after
one_more n next p rest st h =
    let runs = runs_next next p rest (h.nexts p.0) in
    let firsts : (t : ℕ) → 1 ≤ next t = λ t. (h.nexts t).first in
    let there = at_place n p (head_below p rest h.below) (omega (arith, runs.0, firsts p.0)) runs.1 in
    let t : Transfer = transfer_after there.0 in
    let key = owner_key p.0 p.1 in
    let logged = log_step (logs p.0 p.1) next h.log p.0 p.1 t.amount refl firsts runs.0 runs.1 (omega (arith, h.log_count)) h.log_fresh in
    let room : owns p.0 p.1 ≡ true → tally (in_bucket (pos (key % 16))) h.owners < 8 =
    λ e.
    let held = h.buckets (key % 16) (omega arith) in
    let own : owns_in (pos (key % 16)) p.0 p.1 ≡ true =
    ap (λ (b : Bool). b && int_eq (bucket_of 16 (pos key)) (pos (key % 16))) e ∙ ap (λ (z : ℤ). int_eq z (pos (key % 16))) (bucket_is key) ∙ same_int (pos (key % 16)) in
    let counts : count_of (owns_in (pos (key % 16))) (p ∷ rest) ≡ 1 + count_of (owns_in (pos (key % 16))) rest =
    ap (λ (b : Bool). cond b 1 0 + count_of (owns_in (pos (key % 16))) rest) own in omega (arith, held, counts) in
    let owned = owner_step (owns p.0 p.1) next h.owners p.0 p.1 p.0 refl firsts runs.0 runs.1 room h.owner_fresh in
    let P : Option Script → Type 0 = λ s. AreLeft (owners_after (owns p.0 p.1) key p.0 h.owners) (log_after (logs p.0 p.1) (log_key p.0 p.1) t.amount h.log) (script_run machines st s).after in
    record {
      owners = owners_after (owns p.0 p.1) key p.0 h.owners;
      log = log_after (logs p.0 p.1) (log_key p.0 p.1) t.amount h.log;
      left = subst P (sym there.1) (noted_left (logs p.0 p.1) (owns p.0 p.1) (log_key p.0 p.1) key p.0 t.amount t (omega arith) (omega arith) h.owners h.log st h.left);
      nexts = λ u. next_on next p rest u (h.nexts u);
      below = tail_below p rest h.below;
      log_fresh = logged.0;
      log_count = omega (arith, logged.1, h.log_count);
      owner_fresh = owned.fresh;
      owner_count = omega (arith, owned.count, h.owner_count);
      buckets = λ c l. omega (arith, owned.buckets c, h.buckets c l);
    }

all_more : (n : ℕ) (next : ℕ → ℕ) (order : List TransactionPlace) (st : State) → IsSoFar next order st → (last : ℕ → ℕ) × IsSoFar last [] (state_from (file_of n) st order)
all_more n next [] st h = (next, h)
all_more n next (p ∷ order) st h = all_more n (bump p.0 next) order (run_at (file_of n) st p).after (one_more n next p order st h)

nexts_at : (n : ℕ) (order : List TransactionPlace) → IsOrder (file_of n) order → (t : ℕ) → IsNext (λ _. 1) order t
nexts_at n order is t = elim (cases_lt t 16) [
  | inl below ↦ record { left = 200; positions = thread_positions n order is t below; first = omega arith; last = omega arith }
  | inr past ↦ record { left = 0; positions = past_positions n order is t past; first = omega arith; last = omega arith }
]

opened : (n : ℕ) (order : List TransactionPlace) → IsOrder (file_of n) order → IsSoFar (λ _. 1) order (opening_state (file_of n))
opened n order is = record {
  owners = [];
  log = [];
  left = record { balances = replicate 64 1000; many = refl; sum = refl; done = (pos 0, pos 0) ∷ []; is = refl };
  nexts = nexts_at n order is;
  below = past_positions n order is;
  log_fresh = λ t p first from to noted. tt;
  log_count = let all = count_is logs n order is ∙ log_total in omega (arith, all);
  owner_fresh = λ t p first from to noted. tt;
  owner_count = let all = count_is owns n order is ∙ owner_total in omega (arith, all);
  buckets = λ c l. let all = count_is (owns_in (pos c)) n order is ∙ bucket_total c l in omega (arith, all);
}

left_at_end : (n : ℕ) (order : List TransactionPlace) → IsOrder (file_of n) order → (last : ℕ → ℕ) × IsSoFar last [] (final_state (file_of n) order)
left_at_end n order is = all_more n (λ _. 1) order (opening_state (file_of n)) (opened n order is)

-- it leaves rows of four objects
pub four_objects : (n : ℕ) (order : List TransactionPlace) → IsOrder (file_of n) order → length (final_state (file_of n) order) ≡ 4
four_objects n order is = ap (λ (st : State). length st) (left_at_end n order is).1.left.is

pub totals : (n : ℕ) (order : List TransactionPlace) → IsOrder (file_of n) order → HasTotals (final_state (file_of n) order)
totals n order is =
    let h = (left_at_end n order is).1 in
    record {
      accounts = ap (λ (st : State). total_of (rows_named st (codes "acct"))) h.left.is ∙ total_is h.left.balances ∙ ap pos h.left.sum;
      log = ap (λ (st : State). length (rows_named st (codes "log"))) h.left.is ∙ (let all = h.log_count in omega (arith, all));
      owners = ap (λ (st : State). length (rows_named st (codes "owner"))) h.left.is ∙ (let all = h.owner_count in omega (arith, all));
    }
