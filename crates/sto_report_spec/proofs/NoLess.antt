-- What is lawful by what some types say is so by what others say that say the same of updates and let calls touch no less.
use Rattle.std.proofs.Common.{◌≡◌, ℕ, zero, suc, List, [], ◌∷◌, ◌++◌, refl, sym, ap, ◌∙◌, Bool, true, false, cond, Option, None, Some, inl, inr}
use Rattle.std.proofs.lemmas.List.Elements.{All-weaker}
use Rattle.sto_model.specs.PlainReplies.{PlainReply}
use Rattle.sto_model.specs.Run.{Behaviour, State}
use Rattle.sto_model.specs.Asked.{AsksSuch, HasAskedSuch}
use Rattle.sto_model.specs.declared.call.Call.{Call}
use Rattle.sto_model.specs.declared.body.Next.{Next}
use Rattle.sto_model.specs.declared.body.Next.TheVariants.{Ask, Commit, Cancel}
use Rattle.sto_model.specs.declared.shape.Shape.{Shape}
use Rattle.sto_lang.specs.Objects.{Declaration, shapes_of}
use Rattle.sto_lang.specs.Scripts.{Script, File}
use Rattle.sto_script.specs.Meaning.{meaning_of}
use Rattle.sto_report_spec.specs.Orders.{TransactionPlace, transaction_at}
use Rattle.sto_report_spec.specs.Replay.{run_at, is_writer, opening_state}
use Rattle.sto_report_spec.specs.Aborts.{Cause, Locked, Changed, Abort, part_in}
use Rattle.sto_report_spec.specs.Named.{order_named}
use Rattle.sto_report_spec.specs.NamedAborts.{aborts_named}
use Rattle.sto_report_spec.specs.LawfulAborts.{part_number, IsPartTouched, IsCause, IsLawfulAbort, AreLawful}
use Rattle.sto_report_spec.specs.Lawful.{IsLawful}
use Rattle.sto_report_spec.specs.Updated.{Contents, Updating, Updates, with_next, updates_along, updates_in, updates_at, at_writer, updated_from, updated}

-- both say the same of updates of these shapes, and each part that a call may touch by the first it may touch by the second
pub record SaysNoLess (u w : Updating) (shapes : List Shape) : Type 0 where
  pub opening : u.opening shapes ≡ w.opening shapes
  pub parts : u.parts shapes ≡ w.parts shapes
  pub after : u.after shapes ≡ w.after shapes
  pub touches : (part : ℕ) (call : Call) → u.touches shapes part call → w.touches shapes part call

-- what is so of a call that was asked
module _ (P Q : Call → Type 0) (weaker : (call : Call) → P call → Q call) where
  asks_weaker : (next : Next) → AsksSuch P next → AsksSuch Q next
  asks_weaker (Ask call) h = weaker call h
  asks_weaker Commit h = h
  asks_weaker Cancel h = h

  asked_weaker : (script : Behaviour) (replies : List PlainReply) → HasAskedSuch P script replies → HasAskedSuch Q script replies
  asked_weaker script [] h = asks_weaker (script []) h
  asked_weaker script (r ∷ rs) (inl h) = inl (asks_weaker (script []) h)
  asked_weaker script (r ∷ rs) (inr h) = inr (asked_weaker (λ others. script (r ∷ others)) rs h)

module _ (u w : Updating) (file : File) (same : SaysNoLess u w (shapes_of file.declarations)) where
  abbrev shapes : List Shape
  shapes = shapes_of file.declarations

  next_same : (next : Next) (done : Updates) → with_next u shapes next done ≡ with_next w shapes next done
  next_same (Ask call) done = λ i. record { parts = done.parts ++ same.parts i call done.contents; contents = same.after i call done.contents }
  next_same Commit done = refl
  next_same Cancel done = refl

  along_same : (steps : Behaviour) (replies : List PlainReply) (done : Updates) → updates_along u shapes steps replies done ≡ updates_along w shapes steps replies done
  along_same steps [] done = refl
  along_same steps (r ∷ rs) done =
      along_same (λ others. steps (r ∷ others)) rs (with_next u shapes (steps []) done)
      ∙ ap (updates_along w shapes (λ others. steps (r ∷ others)) rs) (next_same (steps []) done)

  in_same : (script : Option Script) (replies : List PlainReply) (contents : Contents) → updates_in u shapes script replies contents ≡ updates_in w shapes script replies contents
  in_same None replies contents = refl
  in_same (Some script) replies contents = along_same (meaning_of script) replies (record { parts = []; contents = contents })

  at_same : (state : State) (contents : Contents) (place : TransactionPlace) → updates_at u file state contents place ≡ updates_at w file state contents place
  at_same state contents place = in_same (transaction_at file place) (run_at file state place).replies contents

  from_same : (state : State) (contents : Contents) (order : List TransactionPlace) (number : ℕ) → updated_from u file state contents order number ≡ updated_from w file state contents order number
  from_same state contents [] number = refl
  from_same state contents (place ∷ order) zero = refl
  from_same state contents (place ∷ order) (suc earlier) =
      by (is_writer (transaction_at file place) (run_at file state place)) earlier (λ more. from_same (run_at file state place).after (updates_at w file state contents place).contents order (suc more))
      (from_same (run_at file state place).after contents order (suc earlier))
    where
      by : (b : Bool) (earlier : ℕ)
          → ((more : ℕ) → updated_from u file (run_at file state place).after (updates_at w file state contents place).contents order (suc more) ≡ updated_from w file (run_at file state place).after (updates_at w file state contents place).contents order (suc more))
          → updated_from u file (run_at file state place).after contents order (suc earlier) ≡ updated_from w file (run_at file state place).after contents order (suc earlier)
          → cond b (at_writer earlier (updates_at u file state contents place).parts (updated_from u file (run_at file state place).after (updates_at u file state contents place).contents order))
          (updated_from u file (run_at file state place).after contents order (suc earlier))
          ≡ cond b (at_writer earlier (updates_at w file state contents place).parts (updated_from w file (run_at file state place).after (updates_at w file state contents place).contents order))
          (updated_from w file (run_at file state place).after contents order (suc earlier))
      by true zero later skipped = ap (λ (done : Updates). done.parts) (at_same state contents place)
      by true (suc more) later skipped =
          ap (λ (done : Updates). updated_from u file (run_at file state place).after done.contents order (suc more)) (at_same state contents place) ∙ later more
      by false earlier later skipped = skipped

  pub updated_same : (order : List TransactionPlace) (number : ℕ) → updated u file order number ≡ updated w file order number
  updated_same order number =
      ap (λ (contents : Contents). updated_from u file (opening_state file) contents order number) same.opening
      ∙ from_same (opening_state file) (w.opening shapes) order number

  touched_same : (script : Script) (replies : List PlainReply) (part : ℕ) → IsPartTouched u file script replies part → IsPartTouched w file script replies part
  touched_same script replies part h = asked_weaker (u.touches shapes part) (w.touches shapes part) (same.touches part) (meaning_of script) replies h

  cause_same : (order : List TransactionPlace) (a : Abort) (d : Declaration) (c : Cause) → IsCause u file order a d c → IsCause w file order a d c
  cause_same order a d (Locked part) h = tt
  cause_same order a d (Changed part by) h = record {
    later = h.later;
    earlier = h.earlier;
    written = (h.written.0, h.written.1, sym (updated_same order by) ∙ h.written.2);
  }

  abort_same : (order : List TransactionPlace) (a : Abort) → IsLawfulAbort u file order a → IsLawfulAbort w file order a
  abort_same order a h = record {
    script = h.script;
    object = h.object;
    transaction = h.transaction;
    replies = h.replies;
    after_own = h.after_own;
    before = h.before;
    unsettled = h.unsettled;
    part = h.part;
    touched = touched_same h.script a.replies (part_number file.declarations h.object (part_in a.cause).part) h.touched;
    cause = cause_same order a h.object a.cause h.cause;
  }

  pub aborts_same : (tries : ℕ) (order : List TransactionPlace) (aborts : List Abort) → AreLawful u file tries order aborts → AreLawful w file tries order aborts
  aborts_same tries order aborts h = record {
    each = All-weaker (IsLawfulAbort u file order) (IsLawfulAbort w file order) (abort_same order) aborts h.each;
    few = h.few;
    handed = h.handed;
    sorted = h.sorted;
  }

  pub lawful_same : (tries : ℕ) (text : List ℕ) → IsLawful u file tries text → IsLawful w file tries text
  lawful_same tries text h = record {
    order = h.order;
    aborts = aborts_same tries (order_named file.names text) (aborts_named file.names text) h.aborts;
    report = h.report;
  }
