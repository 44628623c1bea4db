-- A run that is no writer's leaves the state as it was.
use Rattle.std.proofs.Common.{◌≡◌, ℕ, zero, suc, ◌*◌, nat_le, length, ℤ, pos, ◌+ℤ◌, ◌-ℤ◌, int_le, List, [], ◌∷◌, map, refl, sym, ap, ◌∙◌, subst, Bool, true, false, cond, not, ◌||◌, ◌&&◌, Option, None, Some}
use Rattle.sto_model.specs.PlainReplies.{PlainReply, Done, Value, Flag, Absent, Full, is_write}
use Rattle.sto_model.specs.Rows.{Row, value_at, has_key, with_row, without, keys_beside}
use Rattle.sto_model.specs.SequentialObjects.{SequentialObject, answered, changed, reply_to, state_after}
use Rattle.sto_model.specs.Objects.{Effect, effect, only_value, with_only, in_range, done_in_range, added_at, put_effect, remove_effect, popped, pop_effect, effect_of, machine_of, machines_of}
use Rattle.sto_model.specs.Run.{Behaviour, State}
use Rattle.sto_model.specs.Serial.{SerialRun, is_written, has_written, is_writer_run, by_next, ended, heard, run_within, settled, serial_run_of}
use Rattle.sto_model.specs.declared.call.Call.{Call}
use Rattle.sto_model.specs.declared.body.Next.{Next}
use Rattle.sto_model.specs.declared.body.Next.TheVariants.{Ask, Commit, Cancel}
use Rattle.sto_model.specs.declared.run.End.{End}
use Rattle.sto_model.specs.declared.run.End.TheVariants as E
use Rattle.sto_model.specs.declared.operation.Operation.{Operation}
use Rattle.sto_model.specs.declared.operation.Operation.TheVariants as O
use Rattle.sto_model.specs.declared.shape.Shape.{Shape}
use Rattle.sto_model.specs.declared.shape.Shape.TheVariants.{Single, Counter, Array, Hash, Tree, Vector}
use Rattle.sto_lang.specs.Objects.{shapes_of}
use Rattle.sto_lang.specs.Scripts.{File}
use Rattle.sto_lang.specs.Scripts as texts
use Rattle.sto_script.specs.Meaning.{meaning_of}
use Rattle.sto_report_spec.specs.Orders.{TransactionPlace, transaction_at}
use Rattle.sto_report_spec.specs.Replay.{machines_for, script_run, run_at, is_writer}

wrote : {A : Type 0} → true ≡ false → A
wrote e = absurd cc

-- the rows stay where nothing was written
abbrev StaysAs : Operation → List Row → Effect → Type 0
StaysAs o rows x = is_write o x.reply ≡ false → x.after ≡ rows

sum_stays : (r : Option ℤ) (done : ℤ → List Row) (rows : List Row) → StaysAs O.Add rows (done_in_range r (λ x. effect Done (done x)) rows)
sum_stays None done rows h = refl
sum_stays (Some x) done rows h = wrote h

added_stays : (v : Option ℤ) (i d : ℤ) (rows : List Row) → StaysAs O.Add rows (added_at v i d rows)
added_stays None i d rows h = refl
added_stays (Some x) i d rows h = sum_stays (in_range (x +ℤ d)) (λ y. with_row rows i y) rows h

popped_stays : (o : Option ℤ) (k : ℤ) (rows : List Row) → StaysAs O.Pop rows (popped o k rows)
popped_stays None k rows h = refl
popped_stays (Some x) k rows h = wrote h

pop_stays : (n : ℕ) (rows : List Row) → StaysAs O.Pop rows (pop_effect n rows)
pop_stays zero rows h = refl
pop_stays (suc n) rows h = popped_stays (value_at rows (pos n)) (pos n) rows h

op_stays : (shape : Shape) (o : Operation) (a b : ℤ) (rows : List Row) → StaysAs o rows (effect_of shape o a b rows)
op_stays (Single v) O.Set a b rows h = wrote h
op_stays (Single v) o a b rows h = refl
op_stays (Counter v) O.Add a b rows h = sum_stays (in_range (only_value rows +ℤ a)) (λ x. with_only rows x) rows h
op_stays (Counter v) O.Take a b rows h = taken (int_le a (only_value rows)) (in_range (only_value rows -ℤ a)) h
  where
    taken : (t : Bool) (r : Option ℤ) → StaysAs O.Take rows (cond t (done_in_range r (λ x. effect (Flag true) (with_only rows x)) rows) (effect (Flag false) rows))
    taken true None h = refl
    taken true (Some x) h = wrote h
    taken false r h = refl
op_stays (Counter v) o a b rows h = refl
op_stays (Array n v) O.Set a b rows h = by (has_key rows a) h
  where
    by : (t : Bool) → StaysAs O.Set rows (cond t (effect Done (with_row rows a b)) (effect Absent rows))
    by true h = wrote h
    by false h = refl
op_stays (Array n v) O.Add a b rows h = added_stays (value_at rows a) a b rows h
op_stays (Array n v) o a b rows h = refl
op_stays (Hash buckets places) O.Put a b rows h = by (not (has_key rows a) && nat_le places (keys_beside rows buckets a)) h
  where
    by : (t : Bool) → StaysAs O.Put rows (cond t (effect Full rows) (effect Done (with_row rows a b)))
    by true h = refl
    by false h = wrote h
op_stays (Hash buckets places) O.Remove a b rows h = by (has_key rows a) h
  where
    by : (t : Bool) → StaysAs O.Remove rows (cond t (effect (Flag true) (without rows a)) (effect (Flag false) rows))
    by true h = wrote h
    by false h = refl
op_stays (Hash buckets places) o a b rows h = refl
op_stays (Tree leaves) O.Put a b rows h = by (not (has_key rows a) && nat_le (4 * leaves) (length rows)) h
  where
    by : (t : Bool) → StaysAs O.Put rows (cond t (effect Full rows) (effect Done (with_row rows a b)))
    by true h = refl
    by false h = wrote h
op_stays (Tree leaves) O.Remove a b rows h = by (has_key rows a) h
  where
    by : (t : Bool) → StaysAs O.Remove rows (cond t (effect (Flag true) (without rows a)) (effect (Flag false) rows))
    by true h = wrote h
    by false h = refl
op_stays (Tree leaves) o a b rows h = refl
op_stays (Vector capacity) O.Push a b rows h = by (nat_le capacity (length rows)) h
  where
    by : (t : Bool) → StaysAs O.Push rows (cond t (effect Full rows) (effect Done (with_row rows (pos (length rows)) a)))
    by true h = refl
    by false h = wrote h
op_stays (Vector capacity) O.Pop a b rows h = pop_stays (length rows) rows h
op_stays (Vector capacity) o a b rows h = refl

call_stays : (shapes : List Shape) (n : ℕ) (call : Call) (st : State) → is_write call.operation (answered (machines_of shapes) n call st) ≡ false → changed (machines_of shapes) n call st ≡ st
call_stays [] n call st h = refl
call_stays (s ∷ shapes) zero call [] h = refl
call_stays (s ∷ shapes) (suc n) call [] h = refl
call_stays (s ∷ shapes) zero call (rows ∷ st) h = ap (λ (r : List Row). r ∷ st) (op_stays s call.operation call.a call.b rows h)
call_stays (s ∷ shapes) (suc n) call (rows ∷ st) h = ap (λ (t : State). rows ∷ t) (call_stays shapes n call st h)

both_false : (a b : Bool) → (a || b) ≡ false → (a ≡ false) × (b ≡ false)
both_false true b e = absurd cc
both_false false b e = (refl, e)

run_stays : (shapes : List Shape) (n : ℕ) (f : Behaviour) (st : State) → has_written f (run_within (machines_of shapes) n f st).replies ≡ false → (run_within (machines_of shapes) n f st).after ≡ st
run_stays shapes zero f st = by (f [])
  where
    by : (z : Next) → has_written f (by_next z (λ call. ended st E.Commit) (ended st)).replies ≡ false → (by_next z (λ call. ended st E.Commit) (ended st)).after ≡ st
    by (Ask call) h = refl
    by Commit h = refl
    by Cancel h = refl
run_stays shapes (suc n) f st = by (f []) refl (λ r s. run_stays shapes n (λ rs. f (r ∷ rs)) s)
  where
    by : (z : Next) → f [] ≡ z → ((r : PlainReply) (s : State) → has_written (λ rs. f (r ∷ rs)) (run_within (machines_of shapes) n (λ rs. f (r ∷ rs)) s).replies ≡ false → (run_within (machines_of shapes) n (λ rs. f (r ∷ rs)) s).after ≡ s)
        → has_written f (by_next z (λ call. heard (reply_to (machines_of shapes) call st) (run_within (machines_of shapes) n (λ rs. f (reply_to (machines_of shapes) call st ∷ rs)) (state_after (machines_of shapes) call st))) (ended st)).replies ≡ false
        → (by_next z (λ call. heard (reply_to (machines_of shapes) call st) (run_within (machines_of shapes) n (λ rs. f (reply_to (machines_of shapes) call st ∷ rs)) (state_after (machines_of shapes) call st))) (ended st)).after ≡ st
    by (Ask call) e more h =
        let r : PlainReply = reply_to (machines_of shapes) call st in
        let s : State = state_after (machines_of shapes) call st in
        let rest : List PlainReply = (run_within (machines_of shapes) n (λ rs. f (r ∷ rs)) s).replies in
        let both = both_false (is_written (Ask call) r) (has_written (λ rs. f (r ∷ rs)) rest) (subst (λ (z : Next). (is_written z r || has_written (λ rs. f (r ∷ rs)) rest) ≡ false) e h) in
        more r s both.1 ∙ call_stays shapes call.object call st both.0
    by Commit e more h = refl
    by Cancel e more h = refl

-- a run that is no writer's leaves the state as it was
pub unwritten : (f : File) (st : State) (place : TransactionPlace) → is_writer (transaction_at f place) (run_at f st place) ≡ false → (run_at f st place).after ≡ st
unwritten f st place = by (transaction_at f place)
  where
    by_end : (s : texts.Script) (run : SerialRun) → ((has_written (meaning_of s) run.replies ≡ false) → run.after ≡ st) → is_writer_run (meaning_of s) run.replies run.end ≡ false → settled run.end st run.after ≡ st
    by_end s run more h = by (run.end) h
      where
        by : (e : End) → is_writer_run (meaning_of s) run.replies e ≡ false → settled e st run.after ≡ st
        by E.Commit h = more h
        by E.Cancel h = refl

    by : (t : Option texts.Script) → is_writer t (script_run (machines_for f) st t) ≡ false → (script_run (machines_for f) st t).after ≡ st
    by None h = refl
    by (Some s) h = by_end s (run_within (machines_for f) s.weight (meaning_of s) st) (run_stays (shapes_of f.declarations) s.weight (meaning_of s) st) h
