-- The aborted attempts of a finished run are lawful for the replay of its journal.
use Rattle.sto_model.specs.Asked.{HasAsked}
use Rattle.std.specs.Prelude.{filter, ◌+◌, take, sum_by, slice_index_or}
use Rattle.std.specs.List.{All}
use Rattle.std.proofs.Common.{◌≡◌, ℕ, ◌<◌, ◌≤◌, List, [], ◌∷◌, map, refl, sym, ap, ◌∙◌, subst, arith, Bool, true, false, Some, Option, true≢false}
use Rattle.std.proofs.lemmas.Bool.Decides.{nat_tests}
use Rattle.std.proofs.lemmas.List.Elements.{All-filter, All-same, All-map}
use Rattle.std.proofs.lemmas.List.Sorted.{All-permutation}
use Rattle.sto_model.specs.PlainReplies.{PlainReply}
use Rattle.sto_model.specs.Run.{State, IsRun}
use Rattle.sto_model.specs.declared.shape.Shape.{Shape}
use Rattle.sto_lang.specs.Objects.{Declaration, shapes_of, with_number}
use Rattle.sto_model.specs.Sizes.{part_count}
use Rattle.sto_lang.specs.Scripts.{Script, File}
use Rattle.sto_script.specs.Meaning.{meaning_of}
use Rattle.sto_type.specs.Known.{Parts}
use Rattle.sto_type.specs.Meaning.{Meaning}
use Rattle.sto_type.specs.Touching.{HasTouched}
use Rattle.sto_type.proofs.Touching.{IsTouchedOf, touched_of}
use Rattle.sto_core.specs.declared.view.View.{View}
use Rattle.sto_core.specs.History.{Contents, Validity, contents_as_of, writes, committed_updates}
use Rattle.sto_core.specs.Core.{Core}
use Rattle.sto_core.specs.Rule.{Past}
use Rattle.sto_report_spec.specs.Orders.{TransactionPlace, transaction_at}
use Rattle.sto_report_spec.specs.Replay.{Entry, run_at, entries_of, opening_state, shown}
use Rattle.sto_report_spec.specs.Updated.{updated, updated_from}
use Rattle.sto_report_spec.specs.Aborts.{LocalPart, Abort, name_of, part_by_home}
use Rattle.sto_report_spec.specs.Aborts as aborts
use Rattle.sto_report_spec.specs.LawfulAborts.{IsFront, writers_before, IsBefore, IsAfterOwn, declared_as, part_number, IsPartAsked, IsPartTouched, IsLawfulAbort}
use Rattle.sto_history.specs.Records.{Verdict, Wrote, Read, Cancelled, Locked, Changed, Record, is_abort, is_finished, stands_at, known_after, IsSince, wrote_with, times_written, writers_up_to}
use Rattle.sto_serializability.specs.Finished.{AreFinished}
use Rattle.sto_history.specs.Counted.{Follows, InThreads}
use Rattle.sto_serializability.specs.Merged.{ending_of, line_of, part_named, AreMerged}
use Rattle.sto_serializability.specs.Meanings.{updating_by, IsHomeAt, IsTypeOf, IsNamedObject, IsUsable}
use Rattle.sto_serializability.proofs.Bodies.{few_replies}
use Rattle.sto_serializability.proofs.Runs.{front_at}
use Rattle.sto_history.proofs.Counts.{writers_rise, times_ordered}
use Rattle.sto_serializability.proofs.Chains.{Every, every}
use Rattle.sto_history.proofs.Histories.{AbortedAt, ChangedAt, rank_rises}
use Rattle.sto_serializability.proofs.Pairs.{all_of, every_weaker, every_both, Later, all_pairs}
use Rattle.sto_serializability.proofs.Replaying.{places_of}
use Rattle.sto_serializability.proofs.Ordering.{finished_ended}
use Rattle.sto_serializability.proofs.Updating.{Stood}
use Rattle.sto_serializability.proofs.Writing.{writer_updates}
use Rattle.sto_serializability.proofs.Journal as journal
use Rattle.sto_serializability.proofs.Journal.{IsClosed}

-- two records of a thread, of which one is aborted and the other is not

-- what ended in a lower position stands at no higher number; and what ended began after all that an aborted attempt of it knew
pub record Beside (x y : Record) : Type 0 where
  pub earlier : is_abort x.verdict ≡ false → is_abort y.verdict ≡ true → x.place.0 ≡ y.place.0 → x.place.1 < y.place.1 → stands_at x.verdict ≤ stands_at y.verdict
  pub again : is_abort x.verdict ≡ true → is_abort y.verdict ≡ false → x.place.0 ≡ y.place.0 → x.place.1 ≡ y.place.1 → IsSince (known_after x.verdict) y.verdict

known_ended : (v : Verdict) → is_abort v ≡ false → known_after v ≡ stands_at v
known_ended (Wrote t) h = refl
known_ended (Read n) h = refl
known_ended (Cancelled n) h = refl
known_ended (Locked n p) h = refl
known_ended (Changed n p t) h = absurd cc

since_abort : (n : ℕ) (v : Verdict) → is_abort v ≡ true → IsSince n v → n ≤ stands_at v
since_abort n (Wrote t) h l = absurd cc
since_abort n (Read i) h l = absurd cc
since_abort n (Cancelled i) h l = absurd cc
since_abort n (Locked i p) h l = l
since_abort n (Changed i p t) h l = l

pub since_lower : (k n : ℕ) (v : Verdict) → k ≤ n → IsSince n v → IsSince k v
since_lower k n (Wrote t) le l = omega (arith, le, l)
since_lower k n (Read i) le l = omega (arith, le, l)
since_lower k n (Cancelled i) le l = omega (arith, le, l)
since_lower k n (Locked i p) le l = omega (arith, le, l)
since_lower k n (Changed i p t) le l = omega (arith, le, l)

follows_beside : (x y : Record) → (x.place.0 ≡ y.place.0 → Follows x y) → Beside x y × Beside y x
follows_beside x y f = (
  record {
    earlier = λ a b e l. (let k = known_ended x.verdict a in let s = since_abort (known_after x.verdict) y.verdict b (f e).since in omega (arith, k, s));
    again = λ a b e g. (f e).since;
  },
  record {
    earlier = λ a b e l. absurd (let p = (f (sym e)).position in omega (arith, p, l));
    again = λ a b e g. absurd (true≢false (sym ((f (sym e)).again (sym g)) ∙ b));
  },
)

later_beside : (rs : List Record) → InThreads rs → Later (λ x y. (Beside x y × Beside y x) × (Beside y x × Beside x y)) rs
later_beside [] h = tt
later_beside (r ∷ rs) h = (
  every_weaker (λ (s : Record). r.place.0 ≡ s.place.0 → Follows r s) (λ s. (Beside r s × Beside s r) × (Beside s r × Beside r s))
      (λ s f. let b = follows_beside r s f in (b, (b.1, b.0))) rs
      (every (λ (s : Record). r.place.0 ≡ s.place.0 → Follows r s) rs h.0),
  later_beside rs h.1,
)

beside_itself : (x : Record) → Beside x x
beside_itself x = record {
  earlier = λ a b e l. absurd (true≢false (sym b ∙ a));
  again = λ a b e g. absurd (true≢false (sym a ∙ b));
}

pub all_beside : (rs : List Record) → InThreads rs → Every (λ x. Every (λ y. Beside x y × Beside y x) rs) rs
all_beside rs h = all_pairs (λ x y. Beside x y × Beside y x) (λ x. (beside_itself x, beside_itself x)) rs (later_beside rs h)

-- each record is counted among those that wrote
pub each_counted : (rs : List Record) → Every (λ (f : Record). (u : ℕ) → wrote_with u f.verdict ≤ times_written u rs) rs
each_counted [] = tt
each_counted (r ∷ rs) = (
  λ u. omega arith,
  every_weaker (λ (f : Record). (u : ℕ) → wrote_with u f.verdict ≤ times_written u rs) (λ (f : Record). (u : ℕ) → wrote_with u f.verdict ≤ times_written u (r ∷ rs))
      (λ f h u. let k = h u in omega (arith, k)) rs (each_counted rs),
)

module _ {valid : Validity} {sizes : List ℕ} {opening : Contents} {past : Past} {core : Core} {v : View}
    (means : List Shape → Meaning) (file : File) (usable : IsUsable file) (type_of : IsTypeOf (shapes_of file.declarations) (means (shapes_of file.declarations)))
    (closed : IsClosed valid sizes opening past core v (means (shapes_of file.declarations)))
    (tries : ℕ) (rs ordered : List Record)
    (finished : AreFinished (means (shapes_of file.declarations)) file tries v rs) (merged : AreMerged rs ordered) where
  abbrev m : Meaning
  m = means (shapes_of file.declarations)

  abbrev contents : ℕ → Parts
  contents n = contents_as_of opening past.log n

  abbrev wrote : ℕ → ℕ → Bool
  wrote t p = writes (committed_updates (past.log t)) p

  abbrev order : List TransactionPlace
  order = places_of ordered

  abbrev homes : List (ℕ × ℕ)
  homes = m.homes

  -- a record that is not aborted: it is counted where it stands
  counted : Every (λ (f : Record). (u : ℕ) → wrote_with u f.verdict ≤ times_written u rs) ordered
  counted =
      every_weaker (λ (f : Record). (u : ℕ) → wrote_with u f.verdict ≤ times_written u ordered) (λ (f : Record). (u : ℕ) → wrote_with u f.verdict ≤ times_written u rs)
      (λ f h u. let k = h u in let e = times_ordered u rs ordered merged.same in omega (arith, k, e)) ordered (each_counted ordered)

  own_one : (t : ℕ) → 1 ≤ times_written t rs → times_written t rs ≡ 1
  own_one t l = let o = (journal.history means file usable type_of closed tries rs ordered finished merged).once t in omega (arith, l, o)

  -- the count of writers before a transaction's own line
  before_own : (k : ℕ) (w : Verdict) (r : Record) → r.verdict ≡ w → is_abort w ≡ false → ((u : ℕ) → wrote_with u w ≤ times_written u rs) → IsSince k w
      → writers_up_to k rs ≤ writers_before (record { writers = writers_up_to (stands_at w) rs; place = r.place; ending = ending_of w; replies = r.replies }) (ending_of w)
  before_own k (Wrote t) r e a c l =
      let here : wrote_with t (Wrote t) ≡ 1 = own t in let at_least = c t in
      let up = rank_rises (journal.history means file usable type_of closed tries rs ordered finished merged) k t l (own_one t (omega (arith, here, at_least))) in
      omega (arith, up)
    where
      own : (i : ℕ) → wrote_with i (Wrote i) ≡ 1
      own i = grind (arith, nat_tests)
  before_own k (Read n) r e a c l = writers_rise rs k n l
  before_own k (Cancelled n) r e a c l = writers_rise rs k n l
  before_own k (Locked n p) r e a c l = absurd cc
  before_own k (Changed n p t) r e a c l = absurd cc

  -- what is true of each line of the journal
  lines_all : (P : Entry → Type 0) → Every (λ (f : Record). P (line_of rs f)) ordered → All P (entries_of file order)
  lines_all P h =
      All-same P (entries_of file order) (map (line_of rs) ordered) (journal.entries means file usable type_of closed tries rs ordered finished merged)
      (All-map P (line_of rs) ordered (all_of (λ (f : Record). P (line_of rs f)) ordered h))

  ended : Every (λ (f : Record). is_abort f.verdict ≡ false) ordered
  ended = every (λ (f : Record). is_abort f.verdict ≡ false) ordered
      (All-permutation (λ (f : Record). is_abort f.verdict ≡ false) (filter is_finished rs) ordered merged.same (finished_ended rs))

  module _ (r : Record) (aborted : is_abort r.verdict ≡ true) (beside : Every (λ y. Beside r y × Beside y r) rs) where
    beside_ordered : Every (λ y. Beside r y × Beside y r) ordered
    beside_ordered = every (λ y. Beside r y × Beside y r) ordered
        (All-permutation (λ y. Beside r y × Beside y r) (filter is_finished rs) ordered merged.same
        (All-filter is_finished (λ y. Beside r y × Beside y r) rs (all_of (λ y. Beside r y × Beside y r) rs beside)))

    after_own : IsAfterOwn (entries_of file order) r.place (writers_up_to (stands_at r.verdict) rs)
    after_own = lines_all (λ e. e.place.0 ≡ r.place.0 → e.place.1 < r.place.1 → e.writers ≤ writers_up_to (stands_at r.verdict) rs)
        (every_both (λ (f : Record). is_abort f.verdict ≡ false) (λ f. Beside r f × Beside f r)
        (λ (f : Record). f.place.0 ≡ r.place.0 → f.place.1 < r.place.1 → writers_up_to (stands_at f.verdict) rs ≤ writers_up_to (stands_at r.verdict) rs)
        (λ f a b e l. writers_rise rs (stands_at f.verdict) (stands_at r.verdict) (b.1.earlier a aborted e l)) ordered ended beside_ordered)

    is_before : (k : ℕ) → k ≤ known_after r.verdict → IsBefore (entries_of file order) r.place (writers_up_to k rs)
    is_before k le = lines_all (λ e. e.place ≡ r.place → writers_up_to k rs ≤ writers_before e e.ending)
        (every_both (λ (f : Record). is_abort f.verdict ≡ false) (λ f. (Beside r f × Beside f r) × ((u : ℕ) → wrote_with u f.verdict ≤ times_written u rs))
        (λ (f : Record). f.place ≡ r.place → writers_up_to k rs ≤ writers_before (line_of rs f) (ending_of f.verdict))
        (λ f a b e. before_own k f.verdict f refl a b.1
        (since_lower k (known_after r.verdict) f.verdict le (b.0.0.again aborted a (ap (λ (x : TransactionPlace). x.0) (sym e)) (ap (λ (x : TransactionPlace). x.1) (sym e)))))
        ordered ended
        (every_both (λ f. Beside r f × Beside f r) (λ (f : Record). (u : ℕ) → wrote_with u f.verdict ≤ times_written u rs)
        (λ f. (Beside r f × Beside f r) × ((u : ℕ) → wrote_with u f.verdict ≤ times_written u rs)) (λ f b c. (b, c)) ordered beside_ordered counted))

  -- the part that an aborted attempt names
  record Part (p : ℕ) (s : Script) (replies : List PlainReply) : Type 0 where
    object : Declaration
    asked : IsPartAsked file s replies (part_named file.declarations homes p) object
    touched : IsPartTouched (updating_by means) file s replies (part_number file.declarations object (part_named file.declarations homes p).part)
    number : part_number file.declarations object (part_named file.declarations homes p).part ≡ p

  part_is : (p : ℕ) (s : Script) (replies : List PlainReply) → HasTouched m (meaning_of s) replies p → Part p s replies
  part_is p s replies touched =
      let h : IsTouchedOf m (meaning_of s) replies p = touched_of m type_of.lawful (meaning_of s) replies p touched in
      let home : ℕ × ℕ = slice_index_or homes p (0, 0) in
      let at_home : IsHomeAt (shapes_of file.declarations) p home = type_of.homes p h.owned.in_range in
      let found = usable.named home.0 at_home.shape at_home.object in
      let d : Declaration = found.0 in
      let is : IsNamedObject file.declarations home.0 d = found.1 in
      let name_is : name_of (with_number home.0 file.declarations) ≡ d.name = ap name_of is.by_number in
      let shape_is : at_home.shape ≡ d.shape = some_shape at_home.shape d.shape (sym at_home.object ∙ is.shaped) in
      let number : part_number file.declarations d home.1 ≡ p =
      ap (λ (x : ℕ). sum_by part_count (take x (shapes_of file.declarations)) + home.1) is.number ∙ sym at_home.number in
      record {
        object = d;
        asked = record {
          declared = ap (λ (name : List ℕ). find_by name) name_is ∙ is.by_name;
          inside = subst (λ (x : Shape). home.1 < part_count x) shape_is at_home.inside;
          asked = subst (λ (x : ℕ). HasAsked x (meaning_of s) replies) (sym h.owned.owner ∙ sym is.number) h.asked;
        };
        touched = subst (λ (x : ℕ). IsPartTouched (updating_by means) file s replies x) (sym number) touched;
        number = number;
      }
    where
      find_by : List ℕ → Option Declaration
      find_by name = declared_as name file.declarations

      some_shape : (x y : Shape) → Some x ≡ Some y → x ≡ y
      some_shape x y e = cc

  module _ (r : Record) (beside : Every (λ y. Beside r y × Beside y r) rs) (s : Script) (at : transaction_at file r.place ≡ Some s) where
    front : (n : ℕ) → n ≤ core.clock → IsRun m.machines (meaning_of s) (m.rows (contents n)) r.replies
        → IsFront r.replies (run_at file (shown file order (writers_up_to n rs)) r.place).replies
    front n le run = subst (λ (st : State). IsFront r.replies (run_at file st r.place).replies) (sym (journal.shown_is means file usable type_of closed tries rs ordered finished merged n le))
        (front_at file m.machines (journal.same means file usable type_of closed tries rs ordered finished merged) r.place s at (m.rows (contents n)) r.replies run
        (let a = few_replies m.machines s (m.rows (contents n)) r.replies run in let b = usable.weighed r.place s at in omega (arith, a, b)))

    pub locked_lawful : (n p : ℕ) → r.verdict ≡ Locked n p → AbortedAt m core.clock contents wrote rs (meaning_of s) r.replies n p
        → IsLawfulAbort (updating_by means) file order
        (record { place = r.place; seen = writers_up_to n rs; replies = r.replies; cause = aborts.Locked (part_named file.declarations homes p) })
    locked_lawful n p is h =
        let part : Part p s r.replies = part_is p s r.replies h.touched in
        record {
          script = s;
          object = part.object;
          transaction = at;
          replies = front n h.within h.runs;
          after_own = subst (λ (w : Verdict). IsAfterOwn (entries_of file order) r.place (writers_up_to (stands_at w) rs)) is (after_own r (ap is_abort is) beside);
          before = is_before r (ap is_abort is) beside n (let k = ap known_after is in omega (arith, k));
          unsettled = h.unsettled;
          part = part.asked;
          touched = part.touched;
          cause = tt;
        }

    pub changed_lawful : (n p t : ℕ) → r.verdict ≡ Changed n p t → ChangedAt m core.clock contents wrote rs (meaning_of s) r.replies n p t
        → IsLawfulAbort (updating_by means) file order
        (record { place = r.place; seen = writers_up_to n rs; replies = r.replies; cause = aborts.Changed (part_named file.declarations homes p) (writers_up_to t rs) })
    changed_lawful n p t is h =
        let part : Part p s r.replies = part_is p s r.replies h.aborted.touched in
        let hist = journal.history means file usable type_of closed tries rs ordered finished merged in
        let none = journal.none_yet means file usable type_of closed tries rs ordered finished merged in
        let there : Stood p (updated (updating_by means) file order (writers_up_to t rs)) =
        subst (λ (c : Parts). Stood p (updated_from (updating_by means) file (opening_state file) c order (writers_up_to t rs))) hist.opened
        (subst (λ (st : State). Stood p (updated_from (updating_by means) file st (contents 0) order (writers_up_to t rs)))
        (sym (journal.opening_is means file usable type_of closed tries rs ordered finished merged))
        (writer_updates means file type_of.lawful (journal.same means file usable type_of closed tries rs ordered finished merged)
        (journal.weighed means file usable type_of closed tries rs ordered finished merged)
        core.clock contents wrote rs hist 0 ordered (writers_up_to t rs) t p (omega arith)
        (journal.finals means file usable type_of closed tries rs ordered finished merged)
        (journal.chain means file usable type_of closed tries rs ordered finished merged)
        (journal.left means file usable type_of closed tries rs ordered finished merged)
        (let l = h.later in omega (arith, l)) h.written h.by (omega (arith, none)))) in
        record {
          script = s;
          object = part.object;
          transaction = at;
          replies = front n h.aborted.within h.aborted.runs;
          after_own = subst (λ (w : Verdict). IsAfterOwn (entries_of file order) r.place (writers_up_to (stands_at w) rs)) is (after_own r (ap is_abort is) beside);
          before = is_before r (ap is_abort is) beside n (let k = ap known_after is in let l = h.later in omega (arith, k, l));
          unsettled = h.aborted.unsettled;
          part = part.asked;
          touched = part.touched;
          cause = record {
            later = rank_rises hist n t h.later h.written;
            earlier = is_before r (ap is_abort is) beside t (let k = ap known_after is in omega (arith, k));
            written = subst (λ (x : ℕ). Stood x (updated (updating_by means) file order (writers_up_to t rs))) (sym part.number) there;
          };
        }
