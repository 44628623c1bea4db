-- Records of passes that are gathered, and of words that are opened and reopened.
use Rattle.std.specs.Prelude.{◌⊎◌}
use Rattle.std.specs.List.{All}
use Rattle.std.proofs.Common.{◌≡◌, ℕ, ◌+◌, List, [], ◌∷◌, ◌++◌, refl, ap, subst, arith, inl, inr}
use Rattle.std.proofs.lemmas.List.Elements.{All-append, All-weaker}
use Rattle.sto_lang.specs.Scripts.{File}
use Rattle.sto_script.specs.Meaning.{meaning_of}
use Rattle.sto_type.specs.Meaning.{Meaning}
use Rattle.sto_core.specs.declared.view.View.{View}
use Rattle.sto_core.specs.History.{Contents}
use Rattle.sto_core.specs.Gathered.{gathered_into}
use Rattle.sto_core.specs.Opened.{opened_view}
use Rattle.sto_core.specs.Reopened.{reopened_view}
use Rattle.sto_report_spec.specs.Orders.{TransactionPlace, IsOrder}
use Rattle.sto_history.specs.Records.{Record, times_written}
use Rattle.sto_serializability.specs.Finished.{IsRecord, AreFinished}
use Rattle.sto_history.specs.Counted.{times_committed, Follows, InThreads, aborted_times, finished_places}
use Rattle.sto_history.specs.Added.{Grows}
use Rattle.sto_serializability.proofs.Chains.{Every}
use Rattle.sto_serializability.proofs.Pairs.{every_weaker}
use Rattle.sto_serializability.proofs.Working.{AreSoFar, aborted_append, in_threads_append}
use Rattle.sto_history.proofs.Later.{told_later}
use Rattle.sto_history.proofs.Growing.{first_grows, second_grows, reopened_grows}

-- records that a view is told of stay told
pub later_record : (m : Meaning) (file : File) (v w : View) → Grows v w → (rs : List Record) → All (IsRecord m file v) rs → All (IsRecord m file w) rs
later_record m file v w g rs h =
    All-weaker (IsRecord m file v) (IsRecord m file w)
    (λ r k. record { script = k.script; transaction = k.transaction; told = told_later m v w (meaning_of k.script) r.replies r.verdict g k.told }) rs h

-- The records of two passes that ran different script threads are those of the pass that gathers both.
pub gathered_so_far : (m : Meaning) (file : File) (tries : ℕ) (v u : View) (rs ss : List Record)
    → Every (λ (r : Record). Every (λ (s : Record). r.place.0 ≡ s.place.0 → ⊥) ss) rs
    → ((thread : ℕ) → ((position : ℕ) → aborted_times (thread, position) rs ≡ 0) ⊎ ((position : ℕ) → aborted_times (thread, position) ss ≡ 0))
    → AreSoFar m file tries v rs → AreSoFar m file tries u ss → AreSoFar m file tries (gathered_into v u) (rs ++ ss)
gathered_so_far m file tries v u rs ss apart either h k = record {
  threads = in_threads_append rs ss h.threads k.threads
      (every_weaker (λ (r : Record). Every (λ (s : Record). r.place.0 ≡ s.place.0 → ⊥) ss) (λ (r : Record). Every (λ (s : Record). r.place.0 ≡ s.place.0 → Follows r s) ss)
      (λ r a. every_weaker (λ (s : Record). r.place.0 ≡ s.place.0 → ⊥) (λ (s : Record). r.place.0 ≡ s.place.0 → Follows r s) (λ s f e. absurd (f e)) ss a) rs apart);
  few = λ place. elim (either place.0) [
    | inl none ↦ (let s = aborted_append place rs ss in let b = k.few place in let n = none place.1 in omega (arith, s, n, b))
    | inr none ↦ (let s = aborted_append place rs ss in let b = h.few place in let n = none place.1 in omega (arith, s, n, b))
  ];
  handed = λ p q own low used.
      (let a = aborted_append p rs ss in let b = aborted_append q rs ss in elim (either p.0) [
        | inl none ↦ (let n = none p.1 in let o = subst (λ (t : ℕ). aborted_times (t, q.1) rs ≡ 0) own (none q.1) in
            let c = k.handed p q own low (omega (arith, a, n, used)) in omega (arith, b, o, c))
        | inr none ↦ (let n = none p.1 in let o = subst (λ (t : ℕ). aborted_times (t, q.1) ss ≡ 0) own (none q.1) in
            let c = h.handed p q own low (omega (arith, a, n, used)) in omega (arith, b, o, c))
      ]);
  each = All-append (IsRecord m file (gathered_into v u)) rs ss
      (later_record m file v (gathered_into v u) (first_grows v u) rs h.each)
      (later_record m file u (gathered_into v u) (second_grows v u) ss k.each);
}

-- A pass that has made no records yet.
pub none_so_far : (m : Meaning) (file : File) (tries : ℕ) (v : View) → AreSoFar m file tries v []
none_so_far m file tries v = record {
  threads = tt;
  few = λ place. omega arith;
  handed = λ p q own low used. refl;
  each = λ k d l. absurd (omega (arith, l));
}

-- The one pass of reopened words has the records of the closed pass.
pub reopened_so_far : (m : Meaning) (file : File) (tries : ℕ) (sizes : List ℕ) (opening : Contents) (v : View) (rs : List Record)
    → AreSoFar m file tries v rs → AreSoFar m file tries (reopened_view sizes opening (v ∷ [])) rs
reopened_so_far m file tries sizes opening v rs h = record {
  threads = h.threads;
  few = h.few;
  handed = h.handed;
  each = later_record m file v (reopened_view sizes opening (v ∷ [])) (reopened_grows sizes opening v) rs h.each;
}

-- Once each transaction has ended, and the records that wrote are the committed entries, the run is finished.
pub finished_run : (m : Meaning) (file : File) (tries : ℕ) (v : View) (rs : List Record) → AreSoFar m file tries v rs → IsOrder file (finished_places rs)
    → ((t : ℕ) → times_written t rs ≡ times_committed t v.entries) → AreFinished m file tries v rs
finished_run m file tries v rs h order tickets = record { order = order; threads = h.threads; few = h.few; handed = h.handed; tickets = tickets; each = h.each }
