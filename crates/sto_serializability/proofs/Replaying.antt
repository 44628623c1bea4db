-- The replay of records in the order of the journal goes through the history of the contents.
use Rattle.std.specs.Prelude.{if◌then◌else◌}
use Rattle.std.proofs.Common.{◌≡◌, ◌⊎◌, ℕ, zero, suc, ◌+◌, ◌<◌, ◌≤◌, List, [], ◌∷◌, map, length, refl, sym, ap, ◌∙◌, subst, arith, Bool, true, false, cond, Some, inl, inr}
use Rattle.std.proofs.lemmas.Bool.{cases_lt}
use Rattle.std.proofs.lemmas.Bool.Decides.{nat_tests}
use Rattle.sto_item.specs.Pending.{applied_updates}
use Rattle.sto_model.specs.PlainReplies.{PlainReply}
use Rattle.sto_model.specs.Run.{Behaviour, State, IsRun}
use Rattle.sto_model.specs.Serial.{IsSerialRun, is_writer_run}
use Rattle.sto_model.specs.declared.run.End.{End}
use Rattle.sto_model.specs.declared.run.End.TheVariants as ends
use Rattle.sto_lang.specs.Scripts.{Script, File}
use Rattle.sto_lang.specs.Sizes.{calls_of}
use Rattle.sto_script.specs.Meaning.{meaning_of}
use Rattle.sto_type.specs.Known.{Parts}
use Rattle.sto_type.specs.Meaning.{Meaning}
use Rattle.sto_type.specs.Runs.{IsRunOn}
use Rattle.sto_report_spec.specs.Orders.{TransactionPlace, transaction_at}
use Rattle.sto_report_spec.specs.Replay.{Entry, machines_for, run_at, is_writer, ending_by, counted, entry_at, entries_from, state_from, shown_from}
use Rattle.sto_history.specs.Records.{Verdict, Wrote, Read, Cancelled, Locked, Changed, Record, is_abort, is_wrote, stands_at, IsSince, wrote_with, times_written, writers_up_to}
use Rattle.sto_serializability.specs.Merged.{ending_of, line_of}
use Rattle.sto_serializability.proofs.Bodies.{few_replies}
use Rattle.sto_serializability.proofs.Runs.{after_is, replies_are, writer_is, entry_is}
use Rattle.sto_history.proofs.Counts.{writers_next, same_to, writers_rise}
use Rattle.sto_history.proofs.Histories.{IsHistory, WroteAt, ReadAt, CancelledAt, StandsAt, contents_still, same_contents, rank_rises}
use Rattle.sto_serializability.proofs.Stands.{Stands}
use Rattle.sto_serializability.proofs.Chains.{Every, IsChain, chain_above}

-- the transactions of records
abbrev pub places_of : List Record → List TransactionPlace
places_of rs = map (λ r. r.place) rs

-- each transaction asks at most as many calls as it weighs
abbrev pub AreWeighed : File → Type 0
AreWeighed file = (place : TransactionPlace) (s : Script) → transaction_at file place ≡ Some s → calls_of s.body ≤ s.weight

module _ (m : Meaning) (file : File) (same : machines_for file ≡ m.machines) (weighed : AreWeighed file)
    (clock : ℕ) (contents : ℕ → Parts) (wrote : ℕ → ℕ → Bool) (all : List Record) (h : IsHistory m clock contents all) where
  -- what a record that is not aborted did, from the contents after the number n, in the plain model
  pub record Did (n : ℕ) (r : Record) : Type 0 where
    pub within : stands_at r.verdict ≤ clock
    pub entry : entry_at file (writers_up_to n all) (m.rows (contents n)) r.place ≡ line_of all r
    pub after : (run_at file (m.rows (contents n)) r.place).after ≡ m.rows (contents (stands_at r.verdict))

  -- the records that are left are all that stand above the number n
  abbrev pub AreLeft : ℕ → List Record → Type 0
  AreLeft n todo = (u : ℕ) → n < u → times_written u todo ≡ times_written u all

  -- nobody wrote between n and what is left
  pub none_between : (n u : ℕ) (r : Record) (todo : List Record) → AreLeft n (r ∷ todo) → IsChain (stands_at r.verdict) todo → n < u → u ≤ stands_at r.verdict
      → times_written u all ≡ wrote_with u r.verdict
  none_between n u r todo left chain l k =
      sym (left u l) ∙ (let none = chain_above (stands_at r.verdict) u todo chain k in omega (arith, none))

  pub left_after : (n : ℕ) (r : Record) (todo : List Record) → AreLeft n (r ∷ todo) → n ≤ stands_at r.verdict
      → ((u : ℕ) → stands_at r.verdict < u → wrote_with u r.verdict ≡ 0) → AreLeft (stands_at r.verdict) todo
  left_after n r todo left le none u l = (let z = none u l in let e = left u (omega (arith, l, le)) in omega (arith, z, e))

  pub passes : (u : ℕ) (v : Verdict) → stands_at v < u → wrote_with u v ≡ 0
  passes u (Wrote t) l = grind (arith, nat_tests)
  passes u (Read n) l = refl
  passes u (Cancelled n) l = refl
  passes u (Locked n p) l = refl
  passes u (Changed n p t) l = refl

  -- a writer
  module _ (n : ℕ) (place : TransactionPlace) (replies : List PlainReply) (t : ℕ) (s : Script) (at : transaction_at file place ≡ Some s)
      (w : WroteAt m clock contents wrote all (meaning_of s) replies t) (l : n < t)
      (none : (u : ℕ) → n < u → u < t → times_written u all ≡ 0) (one : times_written t all ≡ 1) where
    open w use {before, next, within, updates, runs, leaves}

    pub same_before : contents before ≡ contents n
    same_before = contents_still h n before (omega (arith, l, next)) (omega (arith, within, next)) (λ u a b. none u a (omega (arith, b, next)))

    count_before : writers_up_to before all ≡ writers_up_to n all
    count_before = same_to (λ (i : ℕ). writers_up_to i all) n before (omega (arith, l, next))
        (λ i a b. let up = writers_next i all in let z = none (suc i) (omega (arith, a)) (omega (arith, b, next)) in omega (arith, up, z))

    pub counts_one : writers_up_to t all ≡ suc (writers_up_to n all)
    counts_one =
        let up = writers_next before all in let here = ap (λ i. times_written i all) next in let there = ap (λ i. writers_up_to i all) next in
        let low = count_before in omega (arith, up, here, there, low, one)

    serial : IsSerialRun m.machines (meaning_of s) (m.rows (contents n)) replies ends.Commit (m.rows (contents t))
    serial = subst (λ (c : Parts). IsSerialRun m.machines (meaning_of s) (m.rows c) replies ends.Commit (m.rows (contents t))) same_before (record {
      runs = runs.run;
      ends = w.ends;
      leaves = ap m.rows leaves ∙ runs.state;
    })

    few : length replies ≤ s.weight
    few = let k = few_replies m.machines s (m.rows (contents before)) replies runs.run in let e = weighed place s at in omega (arith, k, e)

    pub writer_does : Did n (record { place = place; replies = replies; verdict = Wrote t })
    writer_does = record {
      within = within;
      entry =
          entry_is file m.machines same place s at (m.rows (contents n)) replies ends.Commit (m.rows (contents t)) serial few true w.writes_some (writers_up_to n all)
          ∙ ap (λ (k : ℕ). let e : Entry = record { writers = k; place = place; ending = ending_of (Wrote t); replies = replies } in e) (sym counts_one);
      after = after_is file m.machines same place s at (m.rows (contents n)) replies ends.Commit (m.rows (contents t)) serial few;
    }

    pub writer_replies : (run_at file (m.rows (contents n)) place).replies ≡ replies
    writer_replies = replies_are file m.machines same place s at (m.rows (contents n)) replies ends.Commit (m.rows (contents t)) serial few

    pub is_writer_true : is_writer (transaction_at file place) (run_at file (m.rows (contents n)) place) ≡ true
    is_writer_true = writer_is file m.machines same place s at (m.rows (contents n)) replies ends.Commit (m.rows (contents t)) serial few true w.writes_some

  -- one that wrote nothing
  module _ (n : ℕ) (place : TransactionPlace) (replies : List PlainReply) (a : ℕ) (le : n ≤ a) (within : a ≤ clock) (s : Script) (at : transaction_at file place ≡ Some s)
      (none : (u : ℕ) → n < u → u ≤ a → times_written u all ≡ 0) where
    pub same_at : contents a ≡ contents n
    same_at = contents_still h n a le within none

    pub counts_same : writers_up_to a all ≡ writers_up_to n all
    counts_same = same_to (λ (i : ℕ). writers_up_to i all) n a le
        (λ i l u. let up = writers_next i all in let z = none (suc i) (omega (arith, l)) (omega (arith, u)) in omega (arith, up, z))

    few_here : (c : Parts) → IsRun m.machines (meaning_of s) (m.rows c) replies → length replies ≤ s.weight
    few_here c run = let k = few_replies m.machines s (m.rows c) replies run in let e = weighed place s at in omega (arith, k, e)

    module _ (end : End) (writes : is_writer_run (meaning_of s) replies end ≡ false)
        (there : IsSerialRun m.machines (meaning_of s) (m.rows (contents a)) replies end (m.rows (contents a))) where
      serial_here : IsSerialRun m.machines (meaning_of s) (m.rows (contents n)) replies end (m.rows (contents a))
      serial_here = subst (λ (c : Parts). IsSerialRun m.machines (meaning_of s) (m.rows c) replies end (m.rows (contents a))) same_at there

      pub reader_entry : entry_at file (writers_up_to n all) (m.rows (contents n)) place ≡ record { writers = writers_up_to a all; place = place; ending = ending_by false end; replies = replies }
      reader_entry =
          entry_is file m.machines same place s at (m.rows (contents n)) replies end (m.rows (contents a)) serial_here (few_here (contents a) there.runs) false writes (writers_up_to n all)
          ∙ ap (λ (k : ℕ). let e : Entry = record { writers = k; place = place; ending = ending_by false end; replies = replies } in e) (sym counts_same)

      pub reader_after : (run_at file (m.rows (contents n)) place).after ≡ m.rows (contents a)
      reader_after = after_is file m.machines same place s at (m.rows (contents n)) replies end (m.rows (contents a)) serial_here (few_here (contents a) there.runs)

      pub is_writer_false : is_writer (transaction_at file place) (run_at file (m.rows (contents n)) place) ≡ false
      is_writer_false = writer_is file m.machines same place s at (m.rows (contents n)) replies end (m.rows (contents a)) serial_here (few_here (contents a) there.runs) false writes

    read_serial : ReadAt m clock contents wrote all (meaning_of s) replies a → IsSerialRun m.machines (meaning_of s) (m.rows (contents a)) replies ends.Commit (m.rows (contents a))
    read_serial r = record { runs = r.runs.run; ends = r.ends; leaves = r.runs.state }

    cancel_serial : CancelledAt m clock contents wrote all (meaning_of s) replies a → IsSerialRun m.machines (meaning_of s) (m.rows (contents a)) replies ends.Cancel (m.rows (contents a))
    cancel_serial r = record { runs = r.runs; ends = r.ends; leaves = refl }

    pub reader_does : ReadAt m clock contents wrote all (meaning_of s) replies a → Did n (record { place = place; replies = replies; verdict = Read a })
    reader_does r = record {
      within = within;
      entry = reader_entry ends.Commit r.writes_none (read_serial r);
      after = reader_after ends.Commit r.writes_none (read_serial r);
    }

    pub reader_not_writer : ReadAt m clock contents wrote all (meaning_of s) replies a → is_writer (transaction_at file place) (run_at file (m.rows (contents n)) place) ≡ false
    reader_not_writer r = is_writer_false ends.Commit r.writes_none (read_serial r)

    pub cancel_does : CancelledAt m clock contents wrote all (meaning_of s) replies a → Did n (record { place = place; replies = replies; verdict = Cancelled a })
    cancel_does r = record {
      within = within;
      entry = reader_entry ends.Cancel refl (cancel_serial r);
      after = reader_after ends.Cancel refl (cancel_serial r);
    }

    pub cancel_not_writer : CancelledAt m clock contents wrote all (meaning_of s) replies a → is_writer (transaction_at file place) (run_at file (m.rows (contents n)) place) ≡ false
    cancel_not_writer r = is_writer_false ends.Cancel refl (cancel_serial r)

  -- what nobody but the record itself wrote with
  pub record Alone (n : ℕ) (v : Verdict) : Type 0 where
    pub none : (u : ℕ) → n < u → u < stands_at v → times_written u all ≡ 0
    pub own : times_written (stands_at v) all ≡ wrote_with (stands_at v) v

  -- what the next record of a chain did, and whether it is a writer
  pub record Next (n : ℕ) (r : Record) : Type 0 where
    pub did : Did n r
    pub up : n ≤ stands_at r.verdict
    pub writer : is_writer (transaction_at file r.place) (run_at file (m.rows (contents n)) r.place) ≡ is_wrote r.verdict
    pub count : writers_up_to (stands_at r.verdict) all ≡ counted (is_wrote r.verdict) (writers_up_to n all)

  next_by : (n : ℕ) (place : TransactionPlace) (replies : List PlainReply) (v : Verdict) (todo : List Record) → is_abort v ≡ false
      → IsSince n v → IsChain (stands_at v) todo → AreLeft n (record { place = place; replies = replies; verdict = v } ∷ todo)
      → (s : Script) → transaction_at file place ≡ Some s → StandsAt m clock contents wrote all (meaning_of s) replies v
      → Next n (record { place = place; replies = replies; verdict = v })
  next_by n place replies (Wrote t) todo a l chain left s at w =
      let r : Record = record { place = place; replies = replies; verdict = Wrote t } in
      let none : (u : ℕ) → n < u → u < t → times_written u all ≡ 0 = λ u i k.
      none_between n u r todo left chain i (omega (arith, k)) ∙ other u t k in
      let one : times_written t all ≡ 1 = none_between n t r todo left chain l (omega arith) ∙ own t in
      record {
        did = writer_does n place replies t s at w l none one;
        up = omega (arith, l);
        writer = is_writer_true n place replies t s at w l none one;
        count = counts_one n place replies t s at w l none one;
      }
    where
      other : (u i : ℕ) → u < i → wrote_with u (Wrote i) ≡ 0
      other u i k = grind (arith, nat_tests)

      own : (i : ℕ) → wrote_with i (Wrote i) ≡ 1
      own i = grind (arith, nat_tests)
  next_by n place replies (Read i) todo a l chain left s at w =
      let r : Record = record { place = place; replies = replies; verdict = Read i } in
      let none : (u : ℕ) → n < u → u ≤ i → times_written u all ≡ 0 = λ u x k. none_between n u r todo left chain x k in
      record {
        did = reader_does n place replies i l w.within s at none w;
        up = l;
        writer = reader_not_writer n place replies i l w.within s at none w;
        count = counts_same n place replies i l w.within s at none;
      }
  next_by n place replies (Cancelled i) todo a l chain left s at w =
      let r : Record = record { place = place; replies = replies; verdict = Cancelled i } in
      let none : (u : ℕ) → n < u → u ≤ i → times_written u all ≡ 0 = λ u x k. none_between n u r todo left chain x k in
      record {
        did = cancel_does n place replies i l w.within s at none w;
        up = l;
        writer = cancel_not_writer n place replies i l w.within s at none w;
        count = counts_same n place replies i l w.within s at none;
      }
  next_by n place replies (Locked i p) todo a l chain left s at w = absurd cc
  next_by n place replies (Changed i p t) todo a l chain left s at w = absurd cc

  -- a record that is not aborted, and what it did
  pub record IsFinal (r : Record) : Type 0 where
    pub ended : is_abort r.verdict ≡ false
    pub stands : Stands m file clock contents wrote all r

  pub next_of : (n : ℕ) (r : Record) (todo : List Record) → IsFinal r → IsChain n (r ∷ todo) → AreLeft n (r ∷ todo) → Next n r
  next_of n r todo f chain left = next_by n r.place r.replies r.verdict todo f.ended chain.0 chain.1 left f.stands.script f.stands.transaction f.stands.at

  pub left_next : (n : ℕ) (r : Record) (todo : List Record) → IsFinal r → IsChain n (r ∷ todo) → AreLeft n (r ∷ todo) → AreLeft (stands_at r.verdict) todo
  left_next n r todo f chain left = left_after n r todo left (next_of n r todo f chain left).up (λ u l. passes u r.verdict l)

  -- The lines are the entries of the replay, and the state that it leaves is that of the contents at the end.
  pub record Replays (n : ℕ) (todo : List Record) : Type 0 where
    pub entries : entries_from file (writers_up_to n all) (m.rows (contents n)) (places_of todo) ≡ map (line_of all) todo
    pub state : state_from file (m.rows (contents n)) (places_of todo) ≡ m.rows (contents clock)

  pub replays : (n : ℕ) (todo : List Record) → n ≤ clock → Every IsFinal todo → IsChain n todo → AreLeft n todo → Replays n todo
  replays n [] le f chain left = record {
    entries = refl;
    state = ap m.rows (sym (contents_still h n clock le (omega arith) (λ u l k. sym (left u l))));
  }
  replays n (r ∷ todo) le f chain left =
      let next = next_of n r todo f.0 chain left in
      let k : ℕ = stands_at r.verdict in
      let rest = replays k todo next.did.within f.1 chain.1 (left_next n r todo f.0 chain left) in
      let st : State = m.rows (contents n) in
      let ps : List TransactionPlace = places_of todo in
      record {
        entries =
            ap (λ (e : Entry). e ∷ entries_from file e.writers (run_at file st r.place).after ps) next.did.entry
            ∙ ap (λ (x : State). line_of all r ∷ entries_from file (writers_up_to k all) x ps) next.did.after
            ∙ ap (λ (es : List Entry). line_of all r ∷ es) rest.entries;
        state = ap (λ (x : State). state_from file x ps) next.did.after ∙ rest.state;
      }

  -- where nobody is left, no number counts more writers
  pub count_left : (n x : ℕ) → AreLeft n [] → writers_up_to x all ≤ writers_up_to n all
  count_left n x left = elim (cases_lt n x) [
    | inl l ↦
        let e = same_to (λ (i : ℕ). writers_up_to i all) n x (omega (arith, l))
        (λ i a b. let up = writers_next i all in let z = left (suc i) (omega (arith, a)) in omega (arith, up, z)) in
        omega (arith, e)
    | inr l ↦ writers_rise all x n l
  ]

  shown_branch : (n k x : ℕ) (r : Record) (todo : List Record) → n ≤ clock → Next n r → (b : Bool) → is_wrote r.verdict ≡ b
      → writers_up_to x all ≡ writers_up_to n all + suc k
      → ((l : ℕ) → writers_up_to x all ≡ writers_up_to (stands_at r.verdict) all + l → shown_from file (m.rows (contents (stands_at r.verdict))) (places_of todo) l ≡ m.rows (contents x))
      → shown_from file (m.rows (contents n)) (r.place ∷ places_of todo) (suc k) ≡ m.rows (contents x)
  shown_branch n k x r todo le next true is e rest =
      let count = next.count ∙ ap (λ (c : Bool). counted c (writers_up_to n all)) is in
      ap (λ (c : Bool). if c then shown_from file (run_at file (m.rows (contents n)) r.place).after (places_of todo) k else shown_from file (m.rows (contents n)) (places_of todo) (suc k))
      (next.writer ∙ is)
      ∙ ap (λ (st : State). shown_from file st (places_of todo) k) next.did.after
      ∙ rest k (omega (arith, count, e))
  shown_branch n k x r todo le next false is e rest =
      let count = next.count ∙ ap (λ (c : Bool). counted c (writers_up_to n all)) is in
      ap (λ (c : Bool). if c then shown_from file (run_at file (m.rows (contents n)) r.place).after (places_of todo) k else shown_from file (m.rows (contents n)) (places_of todo) (suc k))
      (next.writer ∙ is)
      ∙ ap (λ (c : Parts). shown_from file (m.rows c) (places_of todo) (suc k)) (sym (same_contents h n (stands_at r.verdict) le next.did.within count))
      ∙ rest (suc k) (omega (arith, count, e))

  -- The state that is shown after some writers is that of the contents of every number that counts as many.
  pub shows : (n : ℕ) (todo : List Record) (k x : ℕ) → n ≤ clock → x ≤ clock → Every IsFinal todo → IsChain n todo → AreLeft n todo
      → writers_up_to x all ≡ writers_up_to n all + k → shown_from file (m.rows (contents n)) (places_of todo) k ≡ m.rows (contents x)
  shows n todo zero x le within f chain left e = ap m.rows (sym (same_contents h n x le within (omega (arith, e))))
  shows n [] (suc k) x le within f chain left e = absurd (let c = count_left n x left in omega (arith, c, e))
  shows n (r ∷ todo) (suc k) x le within f chain left e =
      let next : Next n r = next_of n r todo f.0 chain left in
      shown_branch n k x r todo le next (is_wrote r.verdict) refl e
      (λ l g. shows (stands_at r.verdict) todo l x next.did.within within f.1 chain.1 (left_next n r todo f.0 chain left) g)
