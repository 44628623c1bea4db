-- What a transaction of the generated file leaves of the accounts.
use Rattle.std.specs.Prelude.{slice_index_or, slice_set, if◌then◌else◌, int_le, neg_ℤ, nat_le}
use Rattle.std.proofs.Common.{◌≡◌, ◌≤◌, ◌<◌, ◌-◌, ℕ, zero, suc, ◌+◌, ℤ, pos, ◌+ℤ◌, List, [], ◌∷◌, length, refl, ap, sym, ◌∙◌, arith, Bool, true, false, Option, Some, subst}
use Rattle.std.proofs.lemmas.Int.{ints}
use Rattle.sto_model.specs.Rows.{Row, value_at, keys_beside}
use Rattle.sto_model.specs.Run.{State}
use Rattle.sto_model.specs.SequentialObjects.{SequentialObject}
use Rattle.sto_model.specs.Objects.{machines_of, added_at, value_or_absent, put_effect}
use Rattle.sto_model.specs.Serial.{SerialRun, run_within, settled}
use Rattle.sto_model.specs.declared.run.End.{End}
use Rattle.sto_model.specs.declared.run.End.TheVariants as ends
use Rattle.sto_lang.specs.Objects.{shapes_of}
use Rattle.sto_lang.specs.Statements.{Statements, ◌then◌}
use Rattle.sto_script.specs.Meaning.{Values, doing, committing, meaning_of, taken}
use Rattle.sto_report_spec.specs.Replay.{script_run}
use Rattle.sto_gen.specs.declared.draws.Transfer.{Transfer}
use Rattle.sto_gen.specs.Generated.{objects, moves}
use Rattle.sto_gen.proofs.Sound.{note_if, noted}
use Rattle.sto_bench.proofs.Balances.{rows_from, sum_of, value_is, added_is, sum_set, one_of}

abbrev pub machines : List SequentialObject
machines = machines_of (shapes_of objects)

-- the rows of the table of owners after a note, where there is one
abbrev pub owners_after : Bool → ℕ → ℕ → List Row → List Row
owners_after b key owner rows = if b then (put_effect (nat_le 8 (keys_beside rows 16 (pos key))) (pos key) (pos owner) rows).after else rows

-- those of the log
abbrev pub log_after : Bool → ℕ → ℕ → List Row → List Row
log_after a key amount rows = if a then (put_effect (nat_le 256 (length rows)) (pos key) (pos amount) rows).after else rows

-- the run commits, and leaves these rows of the last three objects
record Leaves (accounts owners log : List Row) (run : SerialRun) : Type 0 where
  done : List Row
  is : run.after ≡ done ∷ accounts ∷ owners ∷ log ∷ []
  commits : run.end ≡ ends.Commit

-- the accounts hold 64,000 together, with no balance below zero; and these are the rows of the owners and of the log
pub record AreLeft (owners log : List Row) (st : State) : Type 0 where
  pub balances : List ℕ
  pub many : length balances ≡ 64
  pub sum : sum_of balances ≡ 64000
  pub done : List Row
  pub is : st ≡ done ∷ rows_from 0 balances ∷ owners ∷ log ∷ []

notes : (a b : Bool) (log_key amount owner_key owner n : ℕ) (x : Values) (accounts done owners log : List Row)
    → Leaves accounts (owners_after b owner_key owner owners) (log_after a log_key amount log)
    (run_within machines (suc (suc n)) (λ rs. doing (note_if a 3 log_key amount then note_if b 2 owner_key owner) committing x rs) (done ∷ accounts ∷ owners ∷ log ∷ []))
notes true true log_key amount owner_key owner zero x accounts done owners log = record { done = done; is = refl; commits = refl }
notes true true log_key amount owner_key owner (suc n) x accounts done owners log = record { done = done; is = refl; commits = refl }
notes true false log_key amount owner_key owner n x accounts done owners log = record { done = done; is = refl; commits = refl }
notes false true log_key amount owner_key owner n x accounts done owners log = record { done = done; is = refl; commits = refl }
notes false false log_key amount owner_key owner n x accounts done owners log = record { done = done; is = refl; commits = refl }

length_set : (bs : List ℕ) (i new : ℕ) → length (slice_set bs i new) ≡ length bs
length_set [] i new = refl
length_set (b ∷ bs) zero new = refl
length_set (b ∷ bs) (suc i) new = ap suc (length_set bs i new)

lowered : (b a : ℕ) → a ≤ b → pos b +ℤ neg_ℤ (pos a) ≡ pos (b - a)
lowered b a l = grind (arith, ints)

at_most : (a b : ℕ) → int_le (pos a) (pos b) ≡ true → a ≤ b
at_most a b h = grind (arith, ints)

-- One transaction of this transfer, with a note in the log where a holds and one of an owner where b does.
module _ (a b : Bool) (log_key owner_key owner amount : ℕ) (t : Transfer) (from : t.from < 64) (to : t.to < 64)
    (bs : List ℕ) (many : length bs ≡ 64) (sum : sum_of bs ≡ 64000) (done owners log : List Row) where
  abbrev after_moves : Statements
  after_moves = note_if a 3 log_key amount then note_if b 2 owner_key owner

  abbrev here : State
  here = done ∷ rows_from 0 bs ∷ owners ∷ log ∷ []

  abbrev IsDone : SerialRun → Type 0
  IsDone run = AreLeft (owners_after b owner_key owner owners) (log_after a log_key amount log) run.after × (run.end ≡ ends.Commit)

  with_balances : (run : SerialRun) (left : List ℕ) (accounts : List Row) → length left ≡ 64 → sum_of left ≡ 64000 → accounts ≡ rows_from 0 left
      → Leaves accounts (owners_after b owner_key owner owners) (log_after a log_key amount log) run → IsDone run
  with_balances run left accounts long holds rows h = (
    record {
      balances = left;
      many = long;
      sum = holds;
      done = h.done;
      is = h.is ∙ ap (λ (l : List Row). h.done ∷ l ∷ owners_after b owner_key owner owners ∷ log_after a log_key amount log ∷ []) rows;
    },
    h.commits,
  )

  moved : (n : ℕ) (x : Values) → t.amount ≤ slice_index_or bs t.from 0
      → IsDone (run_within machines (suc (suc (suc (suc (suc n))))) (λ rs. doing (moves t) (doing after_moves committing) x rs) here)
  moved n x enough =
      let out : ℕ = slice_index_or bs t.from 0 in
      let fewer : List ℕ = slice_set bs t.from (out - t.amount) in
      let into : ℕ = slice_index_or fewer t.to 0 in
      let more : List ℕ = slice_set fewer t.to (into + t.amount) in
      let from_here : t.from < length bs = omega (arith, from, many) in
      let to_here : t.to < length fewer = omega (arith, to, many, length_set bs t.from (out - t.amount)) in
      let sum_out = sum_set bs t.from (out - t.amount) from_here in
      let sum_in = sum_set fewer t.to (into + t.amount) to_here in
      let first = added_is bs t.from (out - t.amount) (neg_ℤ (pos t.amount)) from_here (lowered out t.amount enough) (omega (arith, one_of bs t.from, sum)) in
      let second = added_is fewer t.to (into + t.amount) (pos t.amount) to_here refl (omega (arith, one_of fewer t.to, sum_out, sum, enough)) in
      let both = ap (λ (rows : List Row). (added_at (value_at rows (pos t.to)) (pos t.to) (pos t.amount) rows).after) first ∙ second in
      let h = notes a b log_key amount owner_key owner n x _ _ owners log in
      with_balances (run_within machines (suc (suc (suc (suc (suc n))))) (λ rs. doing (moves t) (doing after_moves committing) x rs) here) more _
      (length_set fewer t.to (into + t.amount) ∙ length_set bs t.from (out - t.amount) ∙ many) (omega (arith, sum_in, sum_out, sum, enough)) both
      (record { done = h.done; is = h.is; commits = h.commits })

  chosen : (c : Bool) (n : ℕ) (x : Values) → (c ≡ true → t.amount ≤ slice_index_or bs t.from 0)
      → IsDone (run_within machines (suc (suc (suc (suc (suc n))))) (λ rs. if c then doing (moves t) (doing after_moves committing) x rs else doing after_moves committing x rs) here)
  chosen true n x enough = moved n x (enough refl)
  chosen false n x enough =
      with_balances (run_within machines (suc (suc (suc (suc (suc n))))) (λ rs. doing after_moves committing x rs) here) bs (rows_from 0 bs) many sum refl
      (notes a b log_key amount owner_key owner (suc (suc (suc n))) x (rows_from 0 bs) done owners log)

  asked_first : (n : ℕ) → IsDone (run_within machines (suc (suc (suc (suc (suc (suc n)))))) (meaning_of (noted a b log_key owner_key owner amount t)) here)
  asked_first n =
      let balance : ℕ = slice_index_or bs t.from 0 in
      let found = value_is bs t.from (omega (arith, from, many)) in
      let heard : taken (value_or_absent (value_at (rows_from 0 bs) (pos t.from))) ≡ pos balance = ap (λ (o : Option ℤ). taken (value_or_absent o)) found in
      let h =
      chosen (int_le (pos t.amount) (taken (value_or_absent (value_at (rows_from 0 bs) (pos t.from))))) n (taken (value_or_absent (value_at (rows_from 0 bs) (pos t.from))) ∷ [])
      (λ e. at_most t.amount balance (subst (λ (y : ℤ). int_le (pos t.amount) y ≡ true) heard e)) in (h.0, h.1)

settled_left : (end : End) (before along : State) (owners log : List Row) → AreLeft owners log along → end ≡ ends.Commit → AreLeft owners log (settled end before along)
settled_left ends.Commit before along owners log h e = h
settled_left ends.Cancel before along owners log h e = absurd cc

-- what a transaction leaves
pub noted_left : (a b : Bool) (log_key owner_key owner amount : ℕ) (t : Transfer) → t.from < 64 → t.to < 64 → (owners log : List Row) (st : State) → AreLeft owners log st
    → AreLeft (owners_after b owner_key owner owners) (log_after a log_key amount log) (script_run machines st (Some (noted a b log_key owner_key owner amount t))).after
noted_left a b log_key owner_key owner amount t from to owners log st was =
    let here : State = was.done ∷ rows_from 0 was.balances ∷ owners ∷ log ∷ [] in
    let P : State → Type 0 = λ s. AreLeft (owners_after b owner_key owner owners) (log_after a log_key amount log) (script_run machines s (Some (noted a b log_key owner_key owner amount t))).after in
    let run = run_within machines (noted a b log_key owner_key owner amount t).weight (meaning_of (noted a b log_key owner_key owner amount t)) here in
    let h = by_notes a b in subst P (sym was.is) (settled_left run.end here run.after (owners_after b owner_key owner owners) (log_after a log_key amount log) h.0 h.1)
  where
    by_notes : (c d : Bool)
        → AreLeft (owners_after d owner_key owner owners) (log_after c log_key amount log)
        (run_within machines (noted c d log_key owner_key owner amount t).weight (meaning_of (noted c d log_key owner_key owner amount t)) (was.done ∷ rows_from 0 was.balances ∷ owners ∷ log ∷ [])).after
        × ((run_within machines (noted c d log_key owner_key owner amount t).weight (meaning_of (noted c d log_key owner_key owner amount t)) (was.done ∷ rows_from 0 was.balances ∷ owners ∷ log ∷ [])).end ≡ ends.Commit)
    by_notes true true = asked_first true true log_key owner_key owner amount t from to was.balances was.many was.sum was.done owners log 2
    by_notes true false = asked_first true false log_key owner_key owner amount t from to was.balances was.many was.sum was.done owners log 1
    by_notes false true = asked_first false true log_key owner_key owner amount t from to was.balances was.many was.sum was.done owners log 1
    by_notes false false = asked_first false false log_key owner_key owner amount t from to was.balances was.many was.sum was.done owners log 0
