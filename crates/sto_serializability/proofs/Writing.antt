-- The writers of a replay update the parts that they wrote.
use Rattle.std.specs.Prelude.{if◌then◌else◌}
use Rattle.std.proofs.Common.{◌≡◌, ℕ, zero, suc, ◌+◌, ◌<◌, ◌≤◌, List, [], ◌∷◌, refl, sym, ap, ◌∙◌, subst, arith, Bool, true, false, Some, Option, inl, inr}
use Rattle.std.proofs.lemmas.Bool.{cases_lt}
use Rattle.std.proofs.lemmas.Bool.Decides.{nat_tests}
use Rattle.sto_item.specs.Pending.{Entry, applied_updates}
use Rattle.sto_model.specs.PlainReplies.{PlainReply}
use Rattle.sto_model.specs.Run.{State, MayAsk}
use Rattle.sto_model.specs.declared.shape.Shape.{Shape}
use Rattle.sto_lang.specs.Objects.{shapes_of}
use Rattle.sto_lang.specs.Scripts.{Script, File}
use Rattle.sto_script.specs.Meaning.{meaning_of}
use Rattle.sto_type.specs.Known.{Parts}
use Rattle.sto_type.specs.Meaning.{Meaning, IsLawful}
use Rattle.sto_type.specs.Runs.{pending_along}
use Rattle.sto_core.specs.History.{writes}
use Rattle.sto_report_spec.specs.Orders.{TransactionPlace, transaction_at}
use Rattle.sto_report_spec.specs.Replay.{machines_for, run_at, counted}
use Rattle.sto_report_spec.specs.Updated.{Updates, updates_along, updates_in, updates_at, at_writer, updated_from}
use Rattle.sto_history.specs.Records.{Verdict, Wrote, Read, Cancelled, Locked, Changed, Record, is_abort, is_wrote, stands_at, IsSince, wrote_with, times_written, writers_up_to}
use Rattle.sto_serializability.specs.Meanings.{updating_by}
use Rattle.sto_history.proofs.Histories.{IsHistory, WroteAt, StandsAt, same_contents, rank_rises}
use Rattle.sto_serializability.proofs.Chains.{Every, IsChain}
use Rattle.sto_serializability.proofs.Replaying.{places_of, AreWeighed, AreLeft, IsFinal, Next, next_of, left_next, none_between, same_before, writer_replies, count_left}
use Rattle.sto_serializability.proofs.Updating.{Stood, Updated, run_updates}

first_writer : (earlier : ℕ) (here : List ℕ) (others : ℕ → List ℕ) → earlier ≡ 0 → at_writer earlier here others ≡ here
first_writer zero here others e = refl
first_writer (suc more) here others e = absurd (omega (arith, e))

later_writer : (earlier : ℕ) (here : List ℕ) (others : ℕ → List ℕ) → 0 < earlier → at_writer earlier here others ≡ others earlier
later_writer zero here others l = absurd (omega (arith, l))
later_writer (suc more) here others l = refl

-- a ticket that a record wrote with is where it stands
wrote_here : (u : ℕ) (v : Verdict) → wrote_with u v ≡ 1 → u ≡ stands_at v
wrote_here u (Wrote t) h = grind (arith, nat_tests)
wrote_here u (Read n) h = absurd (omega (arith, h))
wrote_here u (Cancelled n) h = absurd (omega (arith, h))
wrote_here u (Locked n p) h = absurd (omega (arith, h))
wrote_here u (Changed n p t) h = absurd (omega (arith, h))

wrote_none : (u : ℕ) (v : Verdict) → is_wrote v ≡ false → wrote_with u v ≡ 0
wrote_none u (Wrote t) h = absurd cc
wrote_none u (Read n) h = refl
wrote_none u (Cancelled n) h = refl
wrote_none u (Locked n p) h = refl
wrote_none u (Changed n p t) h = refl

module _ (means : List Shape → Meaning) (file : File) (law : IsLawful (means (shapes_of file.declarations)))
    (same : machines_for file ≡ (means (shapes_of file.declarations)).machines) (weighed : AreWeighed file)
    (clock : ℕ) (contents : ℕ → Parts) (wrote : ℕ → ℕ → Bool) (all : List Record)
    (h : IsHistory (means (shapes_of file.declarations)) clock contents all) where
  abbrev m : Meaning
  m = means (shapes_of file.declarations)

  -- what the run at a place updates, from the contents after the number n
  abbrev updates_here : ℕ → TransactionPlace → Updates
  updates_here n place = updates_at (updating_by means) file (m.rows (contents n)) (contents n) place

  record Leads (n : ℕ) (place : TransactionPlace) (t : ℕ) : Type 0 where
    leads_to : (updates_here n place).contents ≡ contents t
    parts : (p : ℕ) → wrote t p ≡ true → Stood p (updates_here n place).parts

  writer_leads : (n : ℕ) (place : TransactionPlace) (replies : List PlainReply) (t : ℕ) (s : Script) → n ≤ clock → (at : transaction_at file place ≡ Some s)
      → (w : WroteAt m clock contents wrote all (meaning_of s) replies t) → n < t
      → ((u : ℕ) → n < u → u < t → times_written u all ≡ 0) → times_written t all ≡ 1 → Leads n place t
  writer_leads n place replies t s le at w l none one =
      let up : Updated means (shapes_of file.declarations) law (contents n) (meaning_of s) replies =
      run_updates means (shapes_of file.declarations) law (contents n) (meaning_of s) replies w.runs.taken (h.valid n le) in
      let here : updates_here n place ≡ updates_along (updating_by means) (shapes_of file.declarations) (meaning_of s) replies (record { parts = []; contents = contents n }) =
      ap (λ (o : Option Script). updates_in (updating_by means) (shapes_of file.declarations) o (run_at file (m.rows (contents n)) place).replies (contents n)) at
      ∙ ap (λ (rs : List PlainReply). updates_along (updating_by means) (shapes_of file.declarations) (meaning_of s) rs (record { parts = []; contents = contents n }))
      (writer_replies m file same weighed clock contents wrote all h n place replies t s at w l none one) in
      let before : contents w.before ≡ contents n = same_before m file same weighed clock contents wrote all h n place replies t s at w l none one in
      let pending : w.updates ≡ pending_along m (meaning_of s) (contents n) [] replies =
      w.runs.pending ∙ ap (λ (c : Parts). pending_along m (meaning_of s) c [] replies) before in
      record {
        leads_to =
            ap (λ (x : Updates). x.contents) here
            ∙ up.contents
            ∙ ap (λ (es : List Entry). applied_updates es (contents n)) (sym pending)
            ∙ ap (λ (c : Parts). applied_updates w.updates c) (sym before)
            ∙ sym w.leaves;
        parts = λ p k. subst (λ (x : Updates). Stood p x.parts) (sym here)
            (up.parts p (subst (λ (es : List Entry). writes es p ≡ true) pending (w.named p k)));
      }

  leads_by : (n : ℕ) (place : TransactionPlace) (replies : List PlainReply) (v : Verdict) (todo : List Record) → is_wrote v ≡ true → n ≤ clock
      → IsSince n v → IsChain (stands_at v) todo → AreLeft m file same weighed clock contents wrote all h n (record { place = place; replies = replies; verdict = v } ∷ todo)
      → (s : Script) → transaction_at file place ≡ Some s → StandsAt m clock contents wrote all (meaning_of s) replies v
      → Leads n place (stands_at v)
  leads_by n place replies (Wrote t) todo b le l chain left s at w =
      let r : Record = record { place = place; replies = replies; verdict = Wrote t } in
      writer_leads n place replies t s le at w l
      (λ u i k. none_between m file same weighed clock contents wrote all h n u r todo left chain i (omega (arith, k)) ∙ other u t k)
      (none_between m file same weighed clock contents wrote all h n t r todo left chain l (omega arith) ∙ own t)
    where
      other : (u i : ℕ) → u < i → wrote_with u (Wrote i) ≡ 0
      other u i k = grind (arith, nat_tests)

      own : (i : ℕ) → wrote_with i (Wrote i) ≡ 1
      own i = grind (arith, nat_tests)
  leads_by n place replies (Read i) todo b le l chain left s at w = absurd cc
  leads_by n place replies (Cancelled i) todo b le l chain left s at w = absurd cc
  leads_by n place replies (Locked i p) todo b le l chain left s at w = absurd cc
  leads_by n place replies (Changed i p t) todo b le l chain left s at w = absurd cc

  -- what the replay of the records that are left says of a writer among them
  abbrev Says : ℕ → List Record → ℕ → ℕ → Type 0
  Says n todo k p = Stood p (updated_from (updating_by means) file (m.rows (contents n)) (contents n) (places_of todo) k)

  branch : (n earlier t p : ℕ) (r : Record) (todo : List Record) → n ≤ clock → Every (IsFinal m file same weighed clock contents wrote all h) (r ∷ todo) → IsChain n (r ∷ todo)
      → AreLeft m file same weighed clock contents wrote all h n (r ∷ todo)
      → n < t → times_written t all ≡ 1 → wrote t p ≡ true → writers_up_to t all ≡ writers_up_to n all + suc earlier
      → ((k : ℕ) → stands_at r.verdict < t → writers_up_to t all ≡ writers_up_to (stands_at r.verdict) all + k → Says (stands_at r.verdict) todo k p)
      → (b : Bool) → is_wrote r.verdict ≡ b
      → Stood p (if b
      then at_writer earlier (updates_here n r.place).parts (updated_from (updating_by means) file (run_at file (m.rows (contents n)) r.place).after (updates_here n r.place).contents (places_of todo))
      else updated_from (updating_by means) file (run_at file (m.rows (contents n)) r.place).after (contents n) (places_of todo) (suc earlier))
  branch n earlier t p r todo le f chain left l one by count rest true is =
      let next : Next m file same weighed clock contents wrote all h n r = next_of m file same weighed clock contents wrote all h n r todo f.0 chain left in
      let lead : Leads n r.place (stands_at r.verdict) = leads_by n r.place r.replies r.verdict todo is le chain.0 chain.1 left f.0.stands.script f.0.stands.transaction f.0.stands.at in
      let here : writers_up_to (stands_at r.verdict) all ≡ suc (writers_up_to n all) = next.count ∙ ap (λ (c : Bool). counted c (writers_up_to n all)) is in
      elim (cases_lt (stands_at r.verdict) t) [
        | inl above ↦
            let more = rank_rises h (stands_at r.verdict) t above one in
            subst (Stood p) (sym (later_writer earlier (updates_here n r.place).parts
            (updated_from (updating_by means) file (run_at file (m.rows (contents n)) r.place).after (updates_here n r.place).contents (places_of todo)) (omega (arith, more, here, count))))
            (subst (λ (st : State). Stood p (updated_from (updating_by means) file st (updates_here n r.place).contents (places_of todo) earlier)) (sym next.did.after)
            (subst (λ (c : Parts). Stood p (updated_from (updating_by means) file (m.rows (contents (stands_at r.verdict))) c (places_of todo) earlier)) (sym lead.leads_to)
            (rest earlier above (omega (arith, here, count)))))
        | inr within ↦
            let at_t : t ≡ stands_at r.verdict = wrote_here t r.verdict (sym (none_between m file same weighed clock contents wrote all h n t r todo left chain.1 l within) ∙ one) in
            let same_count = ap (λ (i : ℕ). writers_up_to i all) at_t in
            subst (Stood p) (sym (first_writer earlier (updates_here n r.place).parts
            (updated_from (updating_by means) file (run_at file (m.rows (contents n)) r.place).after (updates_here n r.place).contents (places_of todo)) (omega (arith, same_count, here, count))))
            (lead.parts p (subst (λ (i : ℕ). wrote i p ≡ true) at_t by))
      ]
  branch n earlier t p r todo le f chain left l one by count rest false is =
      let next : Next m file same weighed clock contents wrote all h n r = next_of m file same weighed clock contents wrote all h n r todo f.0 chain left in
      let here : writers_up_to (stands_at r.verdict) all ≡ writers_up_to n all = next.count ∙ ap (λ (c : Bool). counted c (writers_up_to n all)) is in
      let still : contents (stands_at r.verdict) ≡ contents n = same_contents h n (stands_at r.verdict) le next.did.within here in
      elim (cases_lt (stands_at r.verdict) t) [
        | inl above ↦
            subst (λ (st : State). Stood p (updated_from (updating_by means) file st (contents n) (places_of todo) (suc earlier))) (sym next.did.after)
            (subst (λ (c : Parts). Stood p (updated_from (updating_by means) file (m.rows (contents (stands_at r.verdict))) c (places_of todo) (suc earlier))) still
            (rest (suc earlier) above (omega (arith, here, count))))
        | inr within ↦
            absurd (let z = none_between m file same weighed clock contents wrote all h n t r todo left chain.1 l within in let o = wrote_none t r.verdict is in omega (arith, z, o, one))
      ]

  -- The writer that wrote with a ticket updates the parts that the ticket wrote.
  pub writer_updates : (n : ℕ) (todo : List Record) (k t p : ℕ) → n ≤ clock → Every (IsFinal m file same weighed clock contents wrote all h) todo → IsChain n todo
      → AreLeft m file same weighed clock contents wrote all h n todo
      → n < t → times_written t all ≡ 1 → wrote t p ≡ true → writers_up_to t all ≡ writers_up_to n all + k → Says n todo k p
  writer_updates n [] k t p le f chain left l one by count =
      absurd (let c = count_left m file same weighed clock contents wrote all h n t left in let up = rank_rises h n t l one in omega (arith, c, up))
  writer_updates n (r ∷ todo) zero t p le f chain left l one by count = absurd (let up = rank_rises h n t l one in omega (arith, count, up))
  writer_updates n (r ∷ todo) (suc earlier) t p le f chain left l one by count =
      let next : Next m file same weighed clock contents wrote all h n r = next_of m file same weighed clock contents wrote all h n r todo f.0 chain left in
      subst (λ (b : Bool). Stood p (if b
      then at_writer earlier (updates_here n r.place).parts (updated_from (updating_by means) file (run_at file (m.rows (contents n)) r.place).after (updates_here n r.place).contents (places_of todo))
      else updated_from (updating_by means) file (run_at file (m.rows (contents n)) r.place).after (contents n) (places_of todo) (suc earlier)))
      (sym next.writer)
      (branch n earlier t p r todo le f chain left l one by count
      (λ k above e. writer_updates (stands_at r.verdict) todo k t p next.did.within f.1 chain.1 (left_next m file same weighed clock contents wrote all h n r todo f.0 chain left) above one by e)
      (is_wrote r.verdict) refl)
