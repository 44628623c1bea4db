-- The journal of a finished run is a replay of its file.
use Rattle.std.specs.Prelude.{◌↔◌, filter}
use Rattle.std.specs.List.{All}
use Rattle.std.proofs.Common.{◌≡◌, ℕ, zero, suc, ◌<◌, ◌≤◌, List, [], ◌∷◌, length, map, refl, sym, ap, ◌∙◌, subst, arith, Bool, true, false, Some}
use mathlib.Core.Option.{some}
use lib.ListN.{get_elem?}
use Rattle.std.proofs.lemmas.List.Elements.{All-filter}
use Rattle.std.proofs.lemmas.List.Sorted.{All-permutation}
use Rattle.sto_model.specs.SequentialObjects.{SequentialObject, opening_of}
use Rattle.sto_model.specs.PlainReplies.{PlainReply}
use Rattle.sto_model.specs.Run.{State}
use Rattle.sto_model.specs.declared.shape.Shape.{Shape}
use Rattle.sto_lang.specs.Objects.{shapes_of}
use Rattle.sto_lang.specs.Scripts.{Script, File}
use Rattle.sto_script.specs.Meaning.{meaning_of}
use Rattle.sto_type.specs.Known.{Parts}
use Rattle.sto_type.specs.Meaning.{Meaning}
use Rattle.sto_core.specs.declared.view.View.{View}
use Rattle.sto_core.specs.History.{Contents, Validity, contents_as_of, writes, committed_updates}
use Rattle.sto_core.specs.Core.{Core}
use Rattle.sto_core.specs.Rule.{Past, Rule}
use Rattle.sto_report_spec.specs.Orders.{TransactionPlace, transaction_at, IsOrder}
use Rattle.sto_report_spec.specs.Replay.{Entry, machines_for, opening_state, entries_from, state_from, shown_from, entries_of, final_state, shown}
use Rattle.sto_history.specs.Records.{Record, is_abort, is_finished, times_written, writers_up_to}
use Rattle.sto_serializability.specs.Finished.{IsRecord, AreFinished}
use Rattle.sto_serializability.specs.Merged.{line_of, AreMerged}
use Rattle.sto_serializability.specs.Meanings.{IsTypeOf, IsUsable}
use Rattle.sto_history.proofs.Counts.{none_within_zero, times_ordered}
use Rattle.sto_serializability.proofs.Chains.{Every, every, IsChain, chain_of}
use Rattle.sto_history.proofs.Histories.{IsHistory}
use Rattle.sto_serializability.proofs.Stands.{Stands, record_stands}
use Rattle.sto_serializability.proofs.Pairs.{all_of, every_both}
use Rattle.sto_serializability.proofs.Replaying.{places_of, AreWeighed, AreLeft, IsFinal, Replays, replays, shows}
use Rattle.sto_serializability.proofs.Ordering.{finished_ended, order_is}
use Rattle.sto_history.proofs.Standing as standing

-- the words of a closed run: the rule, the view that has gathered all others, and the type that the words were opened with
pub record IsClosed (valid : Validity) (sizes : List ℕ) (opening : Contents) (past : Past) (core : Core) (v : View) (m : Meaning) : Type 0 where
  pub rule : Rule valid sizes opening past core
  pub seat : ℕ
  pub there : get_elem? core.views seat ≡ some v
  pub whole : v.gathered ≡ length core.statuses
  pub same_valid : (c : Parts) → m.valid c ↔ valid sizes c
  pub same_opening : m.opened ≡ opening

module _ {valid : Validity} {sizes : List ℕ} {opening : Contents} {past : Past} {core : Core} {v : View}
    (means : List Shape → Meaning) (file : File) (usable : IsUsable file) (type_of : IsTypeOf (shapes_of file.declarations) (means (shapes_of file.declarations)))
    (closed : IsClosed valid sizes opening past core v (means (shapes_of file.declarations)))
    (tries : ℕ) (rs ordered : List Record)
    (finished : AreFinished (means (shapes_of file.declarations)) file tries v rs) (merged : AreMerged rs ordered) where
  abbrev m : Meaning
  m = means (shapes_of file.declarations)

  abbrev contents : ℕ → Parts
  contents n = contents_as_of opening past.log n

  abbrev wrote : ℕ → ℕ → Bool
  wrote t p = writes (committed_updates (past.log t)) p

  pub same : machines_for file ≡ m.machines
  same = sym type_of.machines

  pub weighed : AreWeighed file
  weighed = usable.weighed

  pub history : IsHistory m core.clock contents rs
  history = standing.history closed.rule closed.seat v closed.there closed.whole m closed.same_valid closed.same_opening rs finished.tickets

  pub stands : (r : Record) → IsRecord m file v r → Stands m file core.clock contents wrote rs r
  stands r h = record_stands closed.rule closed.seat v closed.there closed.whole m closed.same_valid closed.same_opening rs finished.tickets file r h

  Final : Record → Type 0
  Final r = IsFinal m file same weighed core.clock contents wrote rs history r

  ended : Every (λ (r : Record). is_abort r.verdict ≡ false) ordered
  ended = every (λ (r : Record). is_abort r.verdict ≡ false) ordered
      (All-permutation (λ (r : Record). is_abort r.verdict ≡ false) (filter is_finished rs) ordered merged.same (finished_ended rs))

  pub finals : Every (IsFinal m file same weighed core.clock contents wrote rs history) ordered
  finals =
      every_both (λ (r : Record). is_abort r.verdict ≡ false) (IsRecord m file v) (IsFinal m file same weighed core.clock contents wrote rs history)
      (λ r e k. record { ended = e; stands = stands r k }) ordered ended
      (every (IsRecord m file v) ordered (All-permutation (IsRecord m file v) (filter is_finished rs) ordered merged.same (All-filter is_finished (IsRecord m file v) rs finished.each)))

  times_same : (u : ℕ) → times_written u ordered ≡ times_written u rs
  times_same u = times_ordered u rs ordered merged.same

  pub left : AreLeft m file same weighed core.clock contents wrote rs history 0 ordered
  left u l = times_same u

  pub chain : IsChain 0 ordered
  chain = chain_of ordered ended
      (λ u. (let e = times_same u in let o = history.once u in omega (arith, e, o)))
      (times_same 0 ∙ history.none)
      merged.rising

  pub opening_is : opening_state file ≡ m.rows (contents 0)
  opening_is = ap opening_of same ∙ sym type_of.lawful.opening_rows ∙ ap m.rows (sym history.opened)

  pub none_yet : writers_up_to 0 rs ≡ 0
  none_yet = none_within_zero rs history.none

  replay : Replays m file same weighed core.clock contents wrote rs history 0 ordered
  replay = replays m file same weighed core.clock contents wrote rs history 0 ordered (omega arith) finals chain left

  -- The order is one of the file.
  pub order : IsOrder file (places_of ordered)
  order = order_is file rs ordered finished.threads finished.order merged

  -- The lines are the entries of the replay in this order.
  pub entries : entries_of file (places_of ordered) ≡ map (line_of rs) ordered
  entries =
      ap (λ (st : State). entries_from file 0 st (places_of ordered)) opening_is
      ∙ ap (λ (n : ℕ). entries_from file n (m.rows (contents 0)) (places_of ordered)) (sym none_yet)
      ∙ replay.entries

  -- The state that it leaves is that of the contents after all commits.
  pub final : final_state file (places_of ordered) ≡ m.rows (contents core.clock)
  final = ap (λ (st : State). state_from file st (places_of ordered)) opening_is ∙ replay.state

  -- The state that it shows after the writers up to a number is that of the contents after this number.
  pub shown_is : (n : ℕ) → n ≤ core.clock → shown file (places_of ordered) (writers_up_to n rs) ≡ m.rows (contents n)
  shown_is n le =
      ap (λ (st : State). shown_from file st (places_of ordered) (writers_up_to n rs)) opening_is
      ∙ shows m file same weighed core.clock contents wrote rs history 0 ordered (writers_up_to n rs) n (omega arith) le finals chain left
      (let z = none_yet in omega (arith, z))
