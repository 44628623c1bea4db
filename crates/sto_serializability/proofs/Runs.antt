-- What a run that was told gives in a replay.
use Rattle.std.proofs.Common.{◌≡◌, ℕ, zero, suc, ◌≤◌, List, [], ◌∷◌, ◌++◌, length, refl, sym, ap, ◌∙◌, arith, Bool, true, false, Some, Option}
use Rattle.sto_model.specs.PlainReplies.{PlainReply}
use Rattle.sto_model.specs.SequentialObjects.{SequentialObject, reply_to, state_after}
use Rattle.sto_model.specs.Run.{Behaviour, State, IsRun, IsReplyTo, stepped, state_along}
use Rattle.sto_model.specs.Serial.{IsSerialRun, SerialRun, by_next, ended, heard, run_within, settled_run, serial_run_of, is_writer_run}
use Rattle.sto_model.specs.declared.body.Next.{Next}
use Rattle.sto_model.specs.declared.body.Next.TheVariants.{Ask, Commit, Cancel}
use Rattle.sto_model.specs.declared.run.End.{End}
use Rattle.sto_model.specs.declared.run.End.TheVariants as ends
use Rattle.sto_model.proofs.OneRun.{serial_run_of-is}
use Rattle.sto_lang.specs.Scripts.{Script, File}
use Rattle.sto_script.specs.Meaning.{meaning_of}
use Rattle.sto_report_spec.specs.Orders.{TransactionPlace, transaction_at}
use Rattle.sto_report_spec.specs.Replay.{Entry, machines_for, script_run, run_at, is_writer, ending_by, counted, entry_at}
use Rattle.sto_report_spec.specs.LawfulAborts.{IsFront}

-- the first replies of a run are the first ones of the computed run

by_reply :
    (ms : List SequentialObject) (n : ℕ) (f : Behaviour) (st : State) (r : PlainReply) (step : Next) → IsReplyTo ms step st r
    → by_next step (λ call. heard (reply_to ms call st) (run_within ms n (λ xs. f (reply_to ms call st ∷ xs)) (state_after ms call st))) (ended st)
    ≡ heard r (run_within ms n (λ xs. f (r ∷ xs)) (stepped ms step st))
by_reply ms n f st r (Ask call) h =
    ap (λ (z : PlainReply). heard z (run_within ms n (λ xs. f (z ∷ xs)) (state_after ms call st))) h
by_reply ms n f st r Commit h = absurd h
by_reply ms n f st r Cancel h = absurd h

front_within : (ms : List SequentialObject) (n : ℕ) (f : Behaviour) (st : State) (rs : List PlainReply) → IsRun ms f st rs → length rs ≤ n → IsFront rs (run_within ms n f st).replies
front_within ms n f st [] h few = ((run_within ms n f st).replies, refl)
front_within ms zero f st (r ∷ rs) h few = absurd (omega (arith, few))
front_within ms (suc n) f st (r ∷ rs) h few =
    let rest = front_within ms n (λ xs. f (r ∷ xs)) (stepped ms (f []) st) rs h.1 (omega (arith, few)) in (
      rest.0,
      ap (λ (run : SerialRun). run.replies) (by_reply ms n f st r (f []) h.0)
          ∙ ap (λ (ts : List PlainReply). r ∷ ts) rest.1,
    )

module _ (file : File) (ms : List SequentialObject) (same : machines_for file ≡ ms) (place : TransactionPlace) (s : Script) (at : transaction_at file place ≡ Some s) (st : State) where
  pub computed : run_at file st place ≡ serial_run_of ms s.weight (meaning_of s) st
  computed = ap (script_run (machines_for file) st) at ∙ ap (λ (l : List SequentialObject). serial_run_of l s.weight (meaning_of s) st) same

  -- the replies of an attempt are the first ones of the transaction's run
  pub front_at : (rs : List PlainReply) → IsRun ms (meaning_of s) st rs → length rs ≤ s.weight → IsFront rs (run_at file st place).replies
  front_at rs run few =
      let front = front_within ms s.weight (meaning_of s) st rs run few in
      (front.0, ap (λ (r : SerialRun). r.replies) computed ∙ front.1)

  module _ (rs : List PlainReply) (end : End) (after : State) (run : IsSerialRun ms (meaning_of s) st rs end after) (few : length rs ≤ s.weight) where
    done : SerialRun
    done = record { replies = rs; end = end; after = after }

    run_is : run_at file st place ≡ record { replies = rs; end = end; after = after }
    run_is = computed ∙ serial_run_of-is ms s.weight (meaning_of s) st rs end after run few

    pub after_is : (run_at file st place).after ≡ after
    after_is = ap (λ (r : SerialRun). r.after) run_is

    pub replies_are : (run_at file st place).replies ≡ rs
    replies_are = ap (λ (r : SerialRun). r.replies) run_is

    pub writer_is : (writer : Bool) → is_writer_run (meaning_of s) rs end ≡ writer → is_writer (transaction_at file place) (run_at file st place) ≡ writer
    writer_is writer wrote =
        ap (λ (t : Option Script). is_writer t (run_at file st place)) at
        ∙ ap (λ (r : SerialRun). is_writer (Some s) r) run_is
        ∙ wrote

    pub entry_is : (writer : Bool) → is_writer_run (meaning_of s) rs end ≡ writer → (n : ℕ)
        → entry_at file n st place ≡ record { writers = counted writer n; place = place; ending = ending_by writer end; replies = rs }
    entry_is writer wrote n =
        ap (λ (w : Bool). let e : Entry = record { writers = counted w n; place = place; ending = ending_by w (run_at file st place).end; replies = (run_at file st place).replies } in e)
        (writer_is writer wrote)
        ∙ ap (λ (r : SerialRun). let e : Entry = record { writers = counted writer n; place = place; ending = ending_by writer r.end; replies = r.replies } in e) run_is
