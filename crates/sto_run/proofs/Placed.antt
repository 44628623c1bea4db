-- Records of transactions of a file are of its threads, and of parts of its objects.
use Rattle.std.specs.List.{All}
use Rattle.std.proofs.Common.{◌≡◌, ℕ, ◌<◌, List, [], ◌∷◌, length, map, refl, sym, subst, Option, None, Some, slice_get, option_and_then}
use Rattle.std.proofs.lemmas.List.Elements.{All-nil, All-cons, All-head, All-tail}
use Rattle.std.proofs.lemmas.Option.{slice_get_within}
use Rattle.sto_model.specs.PlainReplies.{PlainReply, plain_reply}
use Rattle.sto_model.specs.Run.{Behaviour}
use Rattle.sto_lang.specs.Scripts.{Script, File}
use Rattle.sto_script.specs.Meaning.{meaning_of}
use Rattle.sto_type.specs.Meaning.{Meaning, IsLawful}
use Rattle.sto_type.specs.Touching.{HasTouched}
use Rattle.sto_type.proofs.Touching.{touched_of}
use Rattle.sto_core.specs.declared.view.View.{View}
use Rattle.sto_report_spec.specs.Orders.{at_position}
use Rattle.sto_history.specs.Told.{IsTold}
use Rattle.sto_history.specs.Records as plainly
use Rattle.sto_serializability.specs.Finished.{IsRecord}
use Rattle.sto_attempt_log.specs.declared.verdict.Verdict.{Verdict}
use Rattle.sto_attempt_log.specs.declared.verdict.Verdict.TheVariants.{Wrote, Read, Cancelled, Locked, Changed}
use Rattle.sto_transaction.specs.declared.record.Record.{Record}
use Rattle.sto_transaction.specs.Plain.{verdict, plain}
use Rattle.sto_run.specs.PlainAborts.{IsPartIn, IsInRange}

-- a transaction is one of a thread
pub has_thread : (threads : List (List Script)) (thread position : ℕ) (s : Script) → option_and_then (at_position position) (slice_get threads thread) ≡ Some s → thread < length threads
has_thread threads thread position s e = by (slice_get threads thread) refl e
  where
    by : (found : Option (List Script)) → slice_get threads thread ≡ found → option_and_then (at_position position) found ≡ Some s → thread < length threads
    by None is h = absurd cc
    by (Some scripts) is h = slice_get_within threads thread scripts is

module _ (m : Meaning) (file : File) (v : View) where
  pub in_threads : (rs : List Record) → All (IsRecord m file v) (map plain rs) → All (λ (r : Record). r.thread < length file.threads) rs
  in_threads [] h = All-nil (λ (r : Record). r.thread < length file.threads)
  in_threads (r ∷ rs) h =
      let here : IsRecord m file v (plain r) = All-head (IsRecord m file v) (plain r) (map plain rs) h in
      All-cons (λ (x : Record). x.thread < length file.threads) r rs (has_thread file.threads r.thread r.position here.script here.transaction)
      (in_threads rs (All-tail (IsRecord m file v) (plain r) (map plain rs) h))

  touched_in : IsLawful m → (f : Behaviour) (replies : List PlainReply) (part : ℕ) → HasTouched m f replies part → part < length m.homes
  touched_in law f replies part h = (touched_of m law f replies part h).owned.in_range

  part_in : IsLawful m → (f : Behaviour) (replies : List PlainReply) (w : Verdict) → IsTold m v f replies (verdict w) → IsPartIn (length m.homes) w
  part_in law f replies (Wrote ticket) h = tt
  part_in law f replies (Read at) h = tt
  part_in law f replies (Cancelled at) h = tt
  part_in law f replies (Locked at part) h = touched_in law f replies part h.touched
  part_in law f replies (Changed at part ticket) h = touched_in law f replies part h.aborted.touched

  pub in_parts : IsLawful m → (count : ℕ) (rs : List Record) → length m.homes ≡ count → All (IsRecord m file v) (map plain rs) → All (IsInRange count) rs
  in_parts law count [] e h = All-nil (IsInRange count)
  in_parts law count (r ∷ rs) e h =
      let here : IsRecord m file v (plain r) = All-head (IsRecord m file v) (plain r) (map plain rs) h in
      All-cons (IsInRange count) r rs
      (subst (λ (n : ℕ). IsPartIn n r.verdict) e (part_in law (meaning_of here.script) (map plain_reply r.replies.items) r.verdict here.told))
      (in_parts law count rs e (All-tail (IsRecord m file v) (plain r) (map plain rs) h))
