-- The lines of the generated file have no fault one after the other, and say the file.
use Rattle.std.specs.Prelude.{sum_by}
use Rattle.std.proofs.Common.{◌≡◌, ◌≤◌, ℕ, zero, suc, ◌+◌, ◌*◌, ◌/◌, ◌%◌, ◌==◌, List, [], ◌∷◌, ◌++◌, length, refl, ap, sym, ◌∙◌, arith, Bool, true, false, cond, Option, None, Some, Ok, map, flat_map, nat_lt, append-nil, append_assoc, subst}
use Rattle.std.proofs.lemmas.Bool.Decides.{nat_tests}
use Rattle.std.proofs.lemmas.Grind.{flat_map-append}
use Rattle.sto_syntax.specs.Forms.{Form, ThreadLine, CommitLine}
use Rattle.sto_lang.specs.declared.fault.FaultKind.TheVariants.{OutOfLimits}
use Rattle.sto_lang.specs.Scripts.{Script}
use Rattle.sto_lang.specs.Drafts.{Draft, OpenTransaction, begun, opening, with_script, numbered_name, transaction_count, weight_total}
use Rattle.sto_lang.specs.Files.{unless, ◌>>=◌}
use Rattle.sto_lang.specs.Sound.{numbered_from}
use Rattle.sto_lang.proofs.Differing.{numbers_last}
use Rattle.sto_write.specs.Texts.{declare_line, statement_lines, script_lines, threads_lines, body_lines}
use Rattle.sto_write.proofs.WrittenText.{with_forms}
use Rattle.sto_gen.specs.declared.draws.Transfer.{Transfer}
use Rattle.sto_gen.specs.Draws.{state_after, transfer_after}
use Rattle.sto_gen.specs.Generated.{objects, transaction, transactions, state_before, threads, file_of}
use Rattle.sto_gen.proofs.Steps.{length_last}
use Rattle.sto_gen.proofs.Sound.{declared, noted, fold_last, notes_weigh, transactions_weigh, threads_weigh, transaction_length, transactions_of_threads, thread_count}

-- lines of these forms lead from one draft to another, whatever lines follow
abbrev Leads : Draft → List Form → Draft → Type 0
Leads d forms e = (number : ℕ) → (after : ℕ) × ((rest : List Form) → with_forms d number (forms ++ rest) ≡ with_forms e after rest)

leads_then : (d e f : Draft) (first second : List Form) → Leads d first e → Leads e second f → Leads d (first ++ second) f
leads_then d e f first second a b number =
    let p = a number in let q = b p.0 in
    (q.0, λ rest. ap (with_forms d number) (append_assoc first second rest) ∙ p.1 (second ++ rest) ∙ q.1 rest)

-- what lines of such a file say
abbrev pub draft : List (List ℕ) → List (List Script) → Option OpenTransaction → Draft
draft names threads inside = record { version = 1; objects = declared; names = names; threads = threads; inside = inside; schedule = None }

declarations_lead : Leads opening (map declare_line objects) (draft [] [] None)
declarations_lead number = (suc (suc (suc (suc number))), λ rest. refl)

-- one transaction more

script_by : (a b : Bool) (log_key owner_key owner amount : ℕ) (t : Transfer) (names : List (List ℕ)) (first : List Script) (others : List (List Script))
    → nat_lt 10000 (transaction_count (first ∷ others) + 1) ≡ false
    → nat_lt 131072 (weight_total (first ∷ others) + (noted a b log_key owner_key owner amount t).weight) ≡ false
    → Leads (draft names (first ∷ others) None) (script_lines objects (noted a b log_key owner_key owner amount t)) (draft names (with_script (first ∷ others) (noted a b log_key owner_key owner amount t)) None)
script_by true true lk ok o am t names first others few light number =
    let s = noted true true lk ok o am t in let all = first ∷ others in (
      suc (suc (suc (suc (suc (suc (suc (suc (suc (suc number))))))))),
      λ rest.
          ap (λ (c : Bool). unless (draft names all (Some begun)) number (cond c (Some OutOfLimits) None) >>= (λ e. with_forms e (suc number) ((statement_lines objects s.variables s.body ++ CommitLine ∷ []) ++ rest))) few
          ∙ ap (λ (c : Bool). unless (draft names (with_script all s) None) (suc (suc (suc (suc (suc (suc (suc (suc (suc number))))))))) (cond c (Some OutOfLimits) None) >>= (λ e. with_forms e (suc (suc (suc (suc (suc (suc (suc (suc (suc (suc number)))))))))) rest)) light,
    )
script_by true false lk ok o am t names first others few light number =
    let s = noted true false lk ok o am t in let all = first ∷ others in (
      suc (suc (suc (suc (suc (suc (suc (suc (suc number)))))))),
      λ rest.
          ap (λ (c : Bool). unless (draft names all (Some begun)) number (cond c (Some OutOfLimits) None) >>= (λ e. with_forms e (suc number) ((statement_lines objects s.variables s.body ++ CommitLine ∷ []) ++ rest))) few
          ∙ ap (λ (c : Bool). unless (draft names (with_script all s) None) (suc (suc (suc (suc (suc (suc (suc (suc number)))))))) (cond c (Some OutOfLimits) None) >>= (λ e. with_forms e (suc (suc (suc (suc (suc (suc (suc (suc (suc number))))))))) rest)) light,
    )
script_by false true lk ok o am t names first others few light number =
    let s = noted false true lk ok o am t in let all = first ∷ others in (
      suc (suc (suc (suc (suc (suc (suc (suc (suc number)))))))),
      λ rest.
          ap (λ (c : Bool). unless (draft names all (Some begun)) number (cond c (Some OutOfLimits) None) >>= (λ e. with_forms e (suc number) ((statement_lines objects s.variables s.body ++ CommitLine ∷ []) ++ rest))) few
          ∙ ap (λ (c : Bool). unless (draft names (with_script all s) None) (suc (suc (suc (suc (suc (suc (suc (suc number)))))))) (cond c (Some OutOfLimits) None) >>= (λ e. with_forms e (suc (suc (suc (suc (suc (suc (suc (suc (suc number))))))))) rest)) light,
    )
script_by false false lk ok o am t names first others few light number =
    let s = noted false false lk ok o am t in let all = first ∷ others in (
      suc (suc (suc (suc (suc (suc (suc (suc number))))))),
      λ rest.
          ap (λ (c : Bool). unless (draft names all (Some begun)) number (cond c (Some OutOfLimits) None) >>= (λ e. with_forms e (suc number) ((statement_lines objects s.variables s.body ++ CommitLine ∷ []) ++ rest))) few
          ∙ ap (λ (c : Bool). unless (draft names (with_script all s) None) (suc (suc (suc (suc (suc (suc (suc number))))))) (cond c (Some OutOfLimits) None) >>= (λ e. with_forms e (suc (suc (suc (suc (suc (suc (suc (suc number)))))))) rest)) light,
    )

not_above : (most n : ℕ) → n ≤ most → nat_lt most n ≡ false
not_above most n h = grind (arith, nat_tests)

script_last : (before : List (List Script)) (last : List Script) (script : Script) → with_script (before ++ last ∷ []) script ≡ before ++ (last ++ script ∷ []) ∷ []
script_last [] last script = refl
script_last (thread ∷ []) last script = refl
script_last (thread ∷ next ∷ before) last script = ap (λ (all : List (List Script)). thread ∷ all) (script_last (next ∷ before) last script)

-- the same, where the last thread gets it
transaction_leads : (thread position : ℕ) (t : Transfer) (names : List (List ℕ)) (before : List (List Script)) (last : List Script)
    → transaction_count (before ++ last ∷ []) ≤ 9999 → weight_total (before ++ last ∷ []) ≤ 131064
    → Leads (draft names (before ++ last ∷ []) None) (script_lines objects (transaction thread position t)) (draft names (before ++ (last ++ transaction thread position t ∷ []) ∷ []) None)
transaction_leads thread position t names before last few light =
    subst (λ (all : List (List Script)). Leads (draft names (before ++ last ∷ []) None) (script_lines objects (transaction thread position t)) (draft names all None))
    (script_last before last (transaction thread position t)) (by (before ++ last ∷ []) refl few light)
  where
    by : (all : List (List Script)) → all ≡ before ++ last ∷ [] → transaction_count all ≤ 9999 → weight_total all ≤ 131064
        → Leads (draft names all None) (script_lines objects (transaction thread position t)) (draft names (with_script all (transaction thread position t)) None)
    by [] e few light = absurd (let none = ap length e in let some = length_last before last in omega (arith, none, some))
    by (first ∷ others) e few light =
        let weight = notes_weigh (position % 20 == 0) (position % 25 == 0) in
        script_by (position % 20 == 0) (position % 25 == 0) (1000 * thread + position) (8 * thread + position / 25) thread t.amount t names first others
        (not_above 10000 (transaction_count (first ∷ others) + 1) (omega (arith, few)))
        (not_above 131072 (weight_total (first ∷ others) + (transaction thread position t).weight) (omega (arith, light, weight)))

count_last : (before : List (List Script)) (last : List Script) → transaction_count (before ++ last ∷ []) ≡ transaction_count before + length last
count_last before last = fold_last (λ (a : ℕ) (thread : List Script). a + length thread) 0 before last

weight_last : (before : List (List Script)) (last : List Script) → weight_total (before ++ last ∷ []) ≡ weight_total before + sum_by (λ (script : Script). script.weight) last
weight_last before last = fold_last (λ (a : ℕ) (thread : List Script). a + sum_by (λ (script : Script). script.weight) thread) 0 before last

-- the transactions of a thread
transactions_lead : (thread state : ℕ) (names : List (List ℕ)) (before : List (List Script)) (count : ℕ) → count ≤ 200
    → transaction_count before ≤ 3000 → weight_total before ≤ 24000
    → Leads (draft names (before ++ [] ∷ []) None) (flat_map (script_lines objects) (transactions thread state count)) (draft names (before ++ transactions thread state count ∷ []) None)
unfolding transactions
transactions_lead thread state names before zero most few light = λ number. (number, λ rest. refl)
transactions_lead thread state names before (suc count) most few light =
    let s = transaction thread (count + 1) (transfer_after (state_after count state)) in
    let earlier = transactions thread state count in
    let start = draft names (before ++ [] ∷ []) None in
    let middle = draft names (before ++ earlier ∷ []) None in
    let end = draft names (before ++ (earlier ++ s ∷ []) ∷ []) None in
    let counted = count_last before earlier in let long = transaction_length thread state count in
    let weighed = weight_last before earlier in let heavy = transactions_weigh thread state count in
    let last = transaction_leads thread (count + 1) (transfer_after (state_after count state)) names before earlier (omega (arith, counted, long, few, most)) (omega (arith, weighed, heavy, light, most)) in
    subst (λ (l : List Form). Leads start l end)
    (ap (λ (l : List Form). flat_map (script_lines objects) earlier ++ l) (sym (append-nil (script_lines objects s))) ∙ sym (flat_map-append (script_lines objects) earlier (s ∷ [])))
    (leads_then start middle end (flat_map (script_lines objects) earlier) (script_lines objects s) (transactions_lead thread state names before count (omega (arith, most)) few light) last)

-- the line of a thread
thread_begins : (names : List (List ℕ)) (all : List (List Script)) → length all ≤ 15
    → Leads (draft names all None) (ThreadLine None ∷ []) (draft (names ++ numbered_name (length names) ∷ []) (all ++ [] ∷ []) None)
thread_begins names all few number = (
  suc number,
  λ rest. ap (λ (c : Bool). unless (draft (names ++ numbered_name (length names) ∷ []) (all ++ [] ∷ []) None) number (cond c (Some OutOfLimits) None) >>= (λ e. with_forms e (suc number) rest)) (not_above 16 (length all + 1) (omega (arith, few))),
)

-- one thread more, where each has a name
threads_last : (names : List (List ℕ)) (all : List (List Script)) (name : List ℕ) (thread : List Script) → length names ≡ length all
    → threads_lines 1 objects (names ++ name ∷ []) (all ++ thread ∷ []) ≡ threads_lines 1 objects names all ++ ThreadLine None ∷ flat_map (script_lines objects) thread
threads_last [] [] name thread e = append-nil (ThreadLine None ∷ flat_map (script_lines objects) thread)
threads_last [] (x ∷ all) name thread e = absurd (omega (arith, e))
threads_last (x ∷ names) [] name thread e = absurd (omega (arith, e))
threads_last (x ∷ names) (first ∷ all) name thread e =
    ap (λ (l : List Form). (ThreadLine None ∷ flat_map (script_lines objects) first) ++ l) (threads_last names all name thread (omega (arith, e)))
    ∙ sym (append_assoc (ThreadLine None ∷ flat_map (script_lines objects) first) (threads_lines 1 objects names all) (ThreadLine None ∷ flat_map (script_lines objects) thread))

named_length : (first count : ℕ) → length (numbered_from first count) ≡ count
named_length first zero = refl
named_length first (suc count) = let rest = named_length (suc first) count in omega (arith, rest)

-- the lines with one thread more
pub threads_more : (n count : ℕ) → threads_lines 1 objects (numbered_from 0 (suc count)) (threads n (suc count))
    ≡ threads_lines 1 objects (numbered_from 0 count) (threads n count) ++ ThreadLine None ∷ flat_map (script_lines objects) (transactions count (state_before count n) 200)
unfolding threads
threads_more n count =
    let names = numbered_from 0 count in
    let all = threads n count in
    let last = transactions count (state_before count n) 200 in
    let named = named_length 0 count in let long = thread_count n count in
    ap (λ (l : List (List ℕ)). threads_lines 1 objects l (all ++ last ∷ [])) (numbers_last count) ∙ threads_last names all (numbered_name count) last (omega (arith, named, long))

threads_lead : (n count : ℕ) → count ≤ 16
    → Leads (draft [] [] None) (threads_lines 1 objects (numbered_from 0 count) (threads n count)) (draft (numbered_from 0 count) (threads n count) None)
unfolding threads
threads_lead n zero most = λ number. (number, λ rest. refl)
threads_lead n (suc count) most =
    let names = numbered_from 0 count in
    let all = threads n count in
    let last = transactions count (state_before count n) 200 in
    let start = draft [] [] None in
    let middle = draft names all None in
    let begun_one = draft (names ++ numbered_name (length names) ∷ []) (all ++ [] ∷ []) None in
    let end = draft (numbered_from 0 (suc count)) (all ++ last ∷ []) None in
    let named = named_length 0 count in let long = thread_count n count in
    let counted = transactions_of_threads n count in let weighed = threads_weigh n count in
    let lines = flat_map (script_lines objects) last in
    let more : names ++ numbered_name (length names) ∷ [] ≡ numbered_from 0 (suc count) = ap (λ (k : ℕ). names ++ numbered_name k ∷ []) named ∙ sym (numbers_last count) in
    let lead_lines : Leads begun_one lines end =
    subst (λ (l : List (List ℕ)). Leads begun_one lines (draft l (all ++ last ∷ []) None)) more
    (transactions_lead count (state_before count n) (names ++ numbered_name (length names) ∷ []) all 200 (omega arith) (omega (arith, counted, most)) (omega (arith, weighed, most))) in
    let lead_thread = leads_then middle begun_one end (ThreadLine None ∷ []) lines (thread_begins names all (omega (arith, long, most))) lead_lines in
    subst (λ (l : List Form). Leads start l end)
    (sym (threads_more n count))
    (leads_then start middle end (threads_lines 1 objects names all) (ThreadLine None ∷ lines) (threads_lead n count (omega (arith, most))) lead_thread)

-- all lines
pub file_said : (n : ℕ) → with_forms opening 1 (body_lines (file_of n)) ≡ Ok (file_of n)
file_said n =
    let first = map declare_line objects in
    let second = threads_lines 1 objects (numbered_from 0 16) (threads n 16) in
    let end = draft (numbered_from 0 16) (threads n 16) None in
    let leads = leads_then opening (draft [] [] None) end first second declarations_lead (threads_lead n 16 (omega arith)) 1 in
    ap (with_forms opening 1) (sym (append_assoc first second [])) ∙ leads.1 []
