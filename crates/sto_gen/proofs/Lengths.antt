-- The text of the generated file is no longer than a script may be.
use Rattle.std.specs.Prelude.{neg_ℤ, sum_by}
use Rattle.std.specs.List.{join_with_byte}
use Rattle.std.specs.Fmt.{signed_decimal}
use Rattle.std.proofs.Common.{◌≡◌, ◌≤◌, ◌<◌, ℕ, zero, suc, ◌+◌, ◌*◌, ◌/◌, ◌%◌, ◌==◌, List, [], ◌∷◌, ◌++◌, length, refl, arith, Bool, true, false, None, pos, negsuc, map, flat_map, ap}
use Rattle.std.proofs.lemmas.Fmt.{length_signed_le}
use Rattle.std.proofs.lemmas.Grind.{flat_map-append}
use Rattle.std.proofs.lemmas.List.{length-append}
use Rattle.std.proofs.lemmas.List.Concat.{length-flat_map}
use Rattle.std.proofs.lemmas.List.Sums.{sum_by-append, sum_by-cons}
use Rattle.sto_syntax.specs.Forms.{Form, ThreadLine}
use Rattle.sto_lang.specs.Sound.{numbered_from}
use Rattle.sto_write.specs.Texts.{form_words, line_text, declare_line, script_lines, threads_lines, body_lines, text_of}
use Rattle.sto_gen.specs.declared.draws.Transfer.{Transfer}
use Rattle.sto_gen.specs.Draws.{transfer_after, state_after}
use Rattle.sto_gen.specs.Generated.{objects, transaction, transactions, state_before, threads, file_of}
use Rattle.sto_gen.proofs.Sound.{noted}
use Rattle.sto_gen.proofs.SaidLines.{threads_more}
use Rattle.sto_gen.proofs.GoodLines.{IsSmall, are_small}

-- how long the text of lines is
abbrev long : List Form → ℕ
long forms = sum_by (λ form. length (line_text form)) forms

-- a byte more for each word and each line
abbrev at_most : Form → ℕ
at_most form = 1 + sum_by (λ (word : List ℕ). 1 + length word) (form_words form)

joined_length : (words : List (List ℕ)) → length (join_with_byte 32 words) ≤ sum_by (λ (word : List ℕ). 1 + length word) words
joined_length [] = omega arith
joined_length (x ∷ []) = omega arith
joined_length (x ∷ y ∷ words) =
    let rest = joined_length (y ∷ words) in
    let both = length-append x (32 ∷ join_with_byte 32 (y ∷ words)) in
    let sum = sum_by-cons (λ (word : List ℕ). 1 + length word) x (y ∷ words) in omega (arith, rest, both, sum)

line_length : (form : Form) → length (line_text form) ≤ at_most form
line_length form =
    let joined = joined_length (form_words form) in
    let both = length-append (join_with_byte 32 (form_words form)) (10 ∷ []) in omega (arith, joined, both)

lines_length : (forms : List Form) → long forms ≤ sum_by at_most forms
lines_length [] = omega arith
lines_length (form ∷ forms) =
    let first = line_length form in let rest = lines_length forms in
    let sum = sum_by-cons (λ (f : Form). length (line_text f)) form forms in let most = sum_by-cons at_most form forms in omega (arith, first, rest, sum, most)

long_both : (first second : List Form) → long (first ++ second) ≡ long first + long second
long_both first second = sum_by-append (λ (form : Form). length (line_text form)) first second

number_length : (n : ℕ) → n < 100000 → length (signed_decimal (pos n)) ≤ 7
number_length n h = length_signed_le 6 (pos n) (omega (arith, h)) (omega (arith, h))

negative_length : (n : ℕ) → n < 100000 → length (signed_decimal (neg_ℤ (pos n))) ≤ 7
negative_length zero h = number_length zero h
negative_length (suc n) h = length_signed_le 6 (negsuc n) (omega (arith, h)) (omega (arith, h))

one_length : length (signed_decimal (pos 1)) ≤ 7
one_length = number_length 1 (omega arith)

script_most : (a b : Bool) (lk ok o am : ℕ) (t : Transfer) → IsSmall lk ok o am t → sum_by at_most (script_lines objects (noted a b lk ok o am t)) ≤ 250
script_most true true lk ok o am t h =
    let n1 = number_length t.from h.from_small in let n2 = number_length t.to h.to_small in let n3 = number_length t.amount h.moved_small in
    let n4 = negative_length t.amount h.moved_small in let n5 = number_length lk h.log_key_small in let n6 = number_length am h.amount_small in
    let n7 = number_length ok h.owner_key_small in let n8 = number_length o h.owner_small in omega (arith, n1, n2, n3, n4, n5, n6, n7, n8, one_length)
script_most true false lk ok o am t h =
    let n1 = number_length t.from h.from_small in let n2 = number_length t.to h.to_small in let n3 = number_length t.amount h.moved_small in
    let n4 = negative_length t.amount h.moved_small in let n5 = number_length lk h.log_key_small in let n6 = number_length am h.amount_small in omega (arith, n1, n2, n3, n4, n5, n6, one_length)
script_most false true lk ok o am t h =
    let n1 = number_length t.from h.from_small in let n2 = number_length t.to h.to_small in let n3 = number_length t.amount h.moved_small in
    let n4 = negative_length t.amount h.moved_small in let n7 = number_length ok h.owner_key_small in let n8 = number_length o h.owner_small in omega (arith, n1, n2, n3, n4, n7, n8, one_length)
script_most false false lk ok o am t h =
    let n1 = number_length t.from h.from_small in let n2 = number_length t.to h.to_small in let n3 = number_length t.amount h.moved_small in
    let n4 = negative_length t.amount h.moved_small in omega (arith, n1, n2, n3, n4, one_length)

transaction_length_most : (thread position state : ℕ) → thread < 16 → position ≤ 200 → long (script_lines objects (transaction thread position (transfer_after state))) ≤ 250
transaction_length_most thread position state th po =
    let t = transfer_after state in
    let lines = lines_length (script_lines objects (transaction thread position t)) in
    let most = script_most (position % 20 == 0) (position % 25 == 0) (1000 * thread + position) (8 * thread + position / 25) thread t.amount t (are_small thread position state th po) in omega (arith, lines, most)

transactions_length : (thread state count : ℕ) → thread < 16 → count ≤ 200 → long (flat_map (script_lines objects) (transactions thread state count)) ≤ 250 * count
unfolding transactions
transactions_length thread state zero th most = omega arith
transactions_length thread state (suc count) th most =
    let t = transfer_after (state_after count state) in
    let s = transaction thread (count + 1) t in
    let earlier = transactions thread state count in
    let lines = ap long (flat_map-append (script_lines objects) earlier (s ∷ [])) in
    let both = long_both (flat_map (script_lines objects) earlier) (flat_map (script_lines objects) (s ∷ [])) in
    let one = long_both (script_lines objects s) [] in
    let rest = transactions_length thread state count th (omega (arith, most)) in
    let last = transaction_length_most thread (count + 1) (state_after count state) th (omega (arith, most)) in omega (arith, lines, both, one, rest, last)

threads_length : (n count : ℕ) → count ≤ 16 → long (threads_lines 1 objects (numbered_from 0 count) (threads n count)) ≤ 50010 * count
unfolding threads
threads_length n zero most = omega arith
threads_length n (suc count) most =
    let last = transactions count (state_before count n) 200 in
    let earlier = threads_lines 1 objects (numbered_from 0 count) (threads n count) in
    let lines = ap long (threads_more n count) in
    let both = long_both earlier (ThreadLine None ∷ flat_map (script_lines objects) last) in
    let one = sum_by-cons (λ (form : Form). length (line_text form)) (ThreadLine None) (flat_map (script_lines objects) last) in
    let begins : length (line_text (ThreadLine None)) ≡ 7 = refl in
    let rest = threads_length n count (omega (arith, most)) in
    let more = transactions_length count (state_before count n) 200 (omega (arith, most)) (omega arith) in omega (arith, lines, both, one, begins, rest, more)

objects_length : long (map declare_line objects) ≤ 200
objects_length =
    let lines = lines_length (map declare_line objects) in
    let n0 = number_length 0 (omega arith) in let n8 = number_length 8 (omega arith) in let n16 = number_length 16 (omega arith) in
    let n64 = number_length 64 (omega arith) in let n1000 = number_length 1000 (omega arith) in omega (arith, lines, n0, n8, n16, n64, n1000)

pub text_length : (n : ℕ) → length (text_of (file_of n)) ≤ 1048576
text_length n =
    let first = map declare_line objects in
    let second = threads_lines 1 objects (numbered_from 0 16) (threads n 16) in
    let text = length-flat_map line_text (body_lines (file_of n)) in
    let both = long_both first (second ++ []) in let none = long_both second [] in
    let declared = objects_length in let rest = threads_length n 16 (omega arith) in omega (arith, text, both, none, declared, rest)
