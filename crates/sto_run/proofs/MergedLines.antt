-- The lines of sorted records are those of the definition.
use Rattle.std.specs.Prelude.{filter}
use Rattle.std.specs.List.Sorted.{IsPermutation}
use Rattle.std.proofs.Common.{◌≡◌, ◌≤◌, ℕ, suc, List, [], ◌∷◌, length, map, refl, sym, ap, ◌∙◌, subst, arith, Bool, true, false, cond}
use Rattle.std.proofs.lemmas.List.{length-map}
use Rattle.std.proofs.lemmas.List.Sorted.{length_permutation}
use Rattle.sto_model.specs.PlainReplies.{plain_reply}
use Rattle.sto_report_spec.specs.Replay.{Entry}
use Rattle.sto_transaction.specs.Records.{is_finished, stands_at, writers_up_to}
use Rattle.sto_transaction.specs.Records as plainly
use Rattle.sto_serializability.specs.Merged.{ending_of, line_of, AreInOrder, AreMerged}
use Rattle.sto_transaction.specs.declared.record.Record.{Record}
use Rattle.sto_transaction.specs.Plain.{verdict, plain}
use Rattle.sto_run.specs.Tickets.{up_to}
use Rattle.sto_run.specs.Splits.{has_ended}
use Rattle.sto_run.specs.PlainLines.{line_at, AreLines}

-- parting and then taking as plain data is the same the other way round
ended_plain : (rs : List Record) → map plain (filter has_ended rs) ≡ filter is_finished (map plain rs)
ended_plain [] = refl
ended_plain (r ∷ rs) = by (has_ended r) (ended_plain rs)
  where
    by : (b : Bool) → map plain (filter has_ended rs) ≡ filter is_finished (map plain rs)
        → map plain (cond b (r ∷ filter has_ended rs) (filter has_ended rs)) ≡ cond b (plain r ∷ filter is_finished (map plain rs)) (filter is_finished (map plain rs))
    by true k = ap (λ (l : List plainly.Record). plain r ∷ l) k
    by false k = k

same_lines : (tickets : List ℕ) (all : List plainly.Record) → ((n : ℕ) → up_to n tickets ≡ writers_up_to n all) → (rs : List Record) → map (line_at tickets) rs ≡ map (line_of all) (map plain rs)
same_lines tickets all counts [] = refl
same_lines tickets all counts (r ∷ rs) =
    ap (λ (n : ℕ). entry_with n ∷ map (line_at tickets) rs) (counts (stands_at (verdict r.verdict)))
    ∙ ap (λ (l : List Entry). line_of all (plain r) ∷ l) (same_lines tickets all counts rs)
  where
    entry_with : ℕ → Entry
    entry_with n = record { writers = n; place = (r.thread, r.position); ending = ending_of (verdict r.verdict); replies = map plain_reply r.replies.items }

pub merged_records : (records ended sorted : List Record) → ended ≡ filter has_ended records → IsPermutation (map plain ended) (map plain sorted) → AreInOrder (map plain sorted)
    → AreMerged (map plain records) (map plain sorted)
merged_records records ended sorted parted same rising = record {
  same = subst (λ (l : List plainly.Record). IsPermutation l (map plain sorted)) (ap (map plain) parted ∙ ended_plain records) same;
  rising = rising;
}

pub merged_lines : (records sorted : List Record) (tickets : List ℕ) (entries : List Entry) → AreMerged (map plain records) (map plain sorted)
    → ((n : ℕ) → up_to n tickets ≡ writers_up_to n (map plain records)) → entries ≡ map (line_at tickets) sorted → AreLines (map plain records) entries
merged_lines records sorted tickets entries merged counts lines = record { ordered = map plain sorted; merged = merged; lines = lines ∙ same_lines tickets (map plain records) counts sorted }

-- parting and sorting lose no record and add none
filter_few : (p : Record → Bool) (rs : List Record) → length (filter p rs) ≤ length rs
filter_few p [] = omega arith
filter_few p (r ∷ rs) = by (p r) (filter_few p rs)
  where
    by : (b : Bool) → length (filter p rs) ≤ length rs → length (cond b (r ∷ filter p rs) (filter p rs)) ≤ suc (length rs)
    by true k = omega (arith, k)
    by false k = omega (arith, k)

pub parted_few : (p : Record → Bool) (records parted sorted : List Record) → parted ≡ filter p records → length parted ≡ length sorted → length sorted ≤ length records
parted_few p records parted sorted e same = let few = filter_few p records in let k = ap length e in omega (arith, few, k, same)

pub plain_length : (xs ys : List Record) → IsPermutation (map plain xs) (map plain ys) → length xs ≡ length ys
plain_length xs ys h = sym (length-map xs plain) ∙ sym (length_permutation (map plain xs) (map plain ys) h) ∙ length-map ys plain
