-- The lines of the generated file are good: their numbers are numbers, and their names are names.
use Rattle.std.proofs.Common.{◌≡◌, ◌≤◌, ◌<◌, ℕ, zero, suc, ◌+◌, ◌*◌, ◌/◌, ◌%◌, ◌==◌, List, [], ◌∷◌, ◌++◌, refl, arith, Bool, true, false, None, Some, ℤ, pos, map, flat_map, subst, sym, ap, ◌∙◌, append-nil}
use Rattle.std.specs.Prelude.{neg_ℤ}
use Rattle.std.proofs.lemmas.Bool.Decides.{nat_tests}
use Rattle.std.proofs.lemmas.Grind.{flat_map-append}
use Rattle.sto_syntax.specs.Words.{is_i64}
use Rattle.sto_syntax.specs.Forms.{Form, Number, ThreadLine}
use Rattle.sto_lang.specs.Scripts.{Script}
use Rattle.sto_lang.specs.Sound.{numbered_from}
use Rattle.sto_write.specs.Texts.{declare_line, script_lines, threads_lines, body_lines}
use Rattle.sto_write.proofs.FormLemmas.{AllGood}
use Rattle.sto_write.proofs.FormLemmas as g
use Rattle.sto_write.proofs.WrittenText.{AllGoodForms}
use Rattle.sto_write.proofs.WrittenText as w
use Rattle.sto_gen.specs.declared.draws.Transfer.{Transfer}
use Rattle.sto_gen.specs.Draws.{transfer_after, state_after}
use Rattle.sto_gen.specs.Generated.{objects, transaction, transactions, state_before, threads, file_of}
use Rattle.sto_gen.proofs.Sound.{noted}
use Rattle.sto_gen.proofs.SaidLines.{threads_more}

-- numbers that are small
pub record IsSmall (log_key owner_key owner amount : ℕ) (t : Transfer) : Type 0 where
  pub log_key_small : log_key < 100000
  pub owner_key_small : owner_key < 100000
  pub owner_small : owner < 100000
  pub amount_small : amount < 100000
  pub from_small : t.from < 100000
  pub to_small : t.to < 100000
  pub moved_small : t.amount < 100000

good_number : (n : ℕ) → n < 100000 → is_i64 (pos n) ≡ true
good_number n h = grind (arith, nat_tests)

good_negative : (n : ℕ) → n < 100000 → is_i64 (neg_ℤ (pos n)) ≡ true
good_negative zero h = refl
good_negative (suc n) h = let below : n < 100000 = omega (arith, h) in good_number n below

both_good : (forms more : List Form) → AllGoodForms 1 forms → AllGoodForms 1 more → AllGoodForms 1 (forms ++ more)
both_good [] more w.none k = k
both_good (form ∷ forms) more (w.more h hs) k = w.more h (both_good forms more hs k)

-- one number, and two
one_good : (a : ℤ) → is_i64 a ≡ true → AllGood (Number (Some a) ∷ [])
one_good a h = g.more h g.none

two_good : (a b : ℤ) → is_i64 a ≡ true → is_i64 b ≡ true → AllGood (Number (Some a) ∷ Number (Some b) ∷ [])
two_good a b h k = g.more h (one_good b k)

script_good : (a b : Bool) (lk ok o am : ℕ) (t : Transfer) → IsSmall lk ok o am t → AllGoodForms 1 (script_lines objects (noted a b lk ok o am t))
script_good true true lk ok o am t h =
    w.more tt (w.more (refl, refl, refl, one_good (pos t.from) (good_number t.from h.from_small), tt)
    (w.more (refl, good_number t.amount h.moved_small)
    (w.more (tt, refl, refl, two_good (pos t.from) (neg_ℤ (pos t.amount)) (good_number t.from h.from_small) (good_negative t.amount h.moved_small), tt)
    (w.more (tt, refl, refl, two_good (pos t.to) (pos t.amount) (good_number t.to h.to_small) (good_number t.amount h.moved_small), tt)
    (w.more (tt, refl, refl, one_good (pos 1) refl, tt)
    (w.more tt
    (w.more (tt, refl, refl, two_good (pos lk) (pos am) (good_number lk h.log_key_small) (good_number am h.amount_small), tt)
    (w.more (tt, refl, refl, two_good (pos ok) (pos o) (good_number ok h.owner_key_small) (good_number o h.owner_small), tt)
    (w.more tt w.none)))))))))
script_good true false lk ok o am t h =
    w.more tt (w.more (refl, refl, refl, one_good (pos t.from) (good_number t.from h.from_small), tt)
    (w.more (refl, good_number t.amount h.moved_small)
    (w.more (tt, refl, refl, two_good (pos t.from) (neg_ℤ (pos t.amount)) (good_number t.from h.from_small) (good_negative t.amount h.moved_small), tt)
    (w.more (tt, refl, refl, two_good (pos t.to) (pos t.amount) (good_number t.to h.to_small) (good_number t.amount h.moved_small), tt)
    (w.more (tt, refl, refl, one_good (pos 1) refl, tt)
    (w.more tt
    (w.more (tt, refl, refl, two_good (pos lk) (pos am) (good_number lk h.log_key_small) (good_number am h.amount_small), tt)
    (w.more tt w.none))))))))
script_good false true lk ok o am t h =
    w.more tt (w.more (refl, refl, refl, one_good (pos t.from) (good_number t.from h.from_small), tt)
    (w.more (refl, good_number t.amount h.moved_small)
    (w.more (tt, refl, refl, two_good (pos t.from) (neg_ℤ (pos t.amount)) (good_number t.from h.from_small) (good_negative t.amount h.moved_small), tt)
    (w.more (tt, refl, refl, two_good (pos t.to) (pos t.amount) (good_number t.to h.to_small) (good_number t.amount h.moved_small), tt)
    (w.more (tt, refl, refl, one_good (pos 1) refl, tt)
    (w.more tt
    (w.more (tt, refl, refl, two_good (pos ok) (pos o) (good_number ok h.owner_key_small) (good_number o h.owner_small), tt)
    (w.more tt w.none))))))))
script_good false false lk ok o am t h =
    w.more tt (w.more (refl, refl, refl, one_good (pos t.from) (good_number t.from h.from_small), tt)
    (w.more (refl, good_number t.amount h.moved_small)
    (w.more (tt, refl, refl, two_good (pos t.from) (neg_ℤ (pos t.amount)) (good_number t.from h.from_small) (good_negative t.amount h.moved_small), tt)
    (w.more (tt, refl, refl, two_good (pos t.to) (pos t.amount) (good_number t.to h.to_small) (good_number t.amount h.moved_small), tt)
    (w.more (tt, refl, refl, one_good (pos 1) refl, tt)
    (w.more tt
    (w.more tt w.none)))))))

-- the numbers of a transaction are small
pub are_small : (thread position state : ℕ) → thread < 16 → position ≤ 200 → IsSmall (1000 * thread + position) (8 * thread + position / 25) thread (transfer_after state).amount (transfer_after state)
are_small thread position state th po = record {
  log_key_small = omega (arith, th, po);
  owner_key_small = omega (arith, th, po);
  owner_small = omega (arith, th);
  amount_small = omega arith;
  from_small = omega arith;
  to_small = omega arith;
  moved_small = omega arith;
}

transaction_good : (thread position state : ℕ) → thread < 16 → position ≤ 200 → AllGoodForms 1 (script_lines objects (transaction thread position (transfer_after state)))
transaction_good thread position state th po =
    let t = transfer_after state in
    script_good (position % 20 == 0) (position % 25 == 0) (1000 * thread + position) (8 * thread + position / 25) thread t.amount t (are_small thread position state th po)

transactions_good : (thread state count : ℕ) → thread < 16 → count ≤ 200 → AllGoodForms 1 (flat_map (script_lines objects) (transactions thread state count))
unfolding transactions
transactions_good thread state zero th most = w.none
transactions_good thread state (suc count) th most =
    let s = transaction thread (count + 1) (transfer_after (state_after count state)) in
    let earlier = transactions thread state count in
    subst (AllGoodForms 1) (ap (λ (l : List Form). flat_map (script_lines objects) earlier ++ l) (sym (append-nil (script_lines objects s))) ∙ sym (flat_map-append (script_lines objects) earlier (s ∷ [])))
    (both_good (flat_map (script_lines objects) earlier) (script_lines objects s) (transactions_good thread state count th (omega (arith, most)))
    (transaction_good thread (count + 1) (state_after count state) th (omega (arith, most))))

-- that of all threads
thread_good : (thread : List Script) → AllGoodForms 1 (flat_map (script_lines objects) thread) → AllGoodForms 1 (ThreadLine None ∷ flat_map (script_lines objects) thread)
thread_good thread h = w.more refl h

threads_good : (n count : ℕ) → count ≤ 16 → AllGoodForms 1 (threads_lines 1 objects (numbered_from 0 count) (threads n count))
unfolding threads
threads_good n zero most = w.none
threads_good n (suc count) most =
    let names = numbered_from 0 count in
    let all = threads n count in
    let last = transactions count (state_before count n) 200 in
    subst (AllGoodForms 1) (sym (threads_more n count))
    (both_good (threads_lines 1 objects names all) (ThreadLine None ∷ flat_map (script_lines objects) last) (threads_good n count (omega (arith, most)))
    (thread_good last (transactions_good count (state_before count n) 200 (omega (arith, most)) (omega arith))))

objects_good : AllGoodForms 1 (map declare_line objects)
objects_good = w.more (refl, (refl, refl)) (w.more (refl, refl) (w.more (refl, (refl, refl)) (w.more (refl, refl) w.none)))

pub file_good : (n : ℕ) → AllGoodForms 1 (body_lines (file_of n))
file_good n =
    let first = map declare_line objects in
    let second = threads_lines 1 objects (numbered_from 0 16) (threads n 16) in
    subst (λ (l : List Form). AllGoodForms 1 (first ++ l)) (sym (append-nil second)) (both_good first second objects_good (threads_good n 16 (omega arith)))
