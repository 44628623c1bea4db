-- A history of contents without passes: the contents after each number of writers' tickets, and what each record did there.
use Rattle.std.proofs.Common.{◌≡◌, ◌⊎◌, ℕ, zero, suc, ◌+◌, ◌<◌, ◌≤◌, List, [], ◌∷◌, refl, sym, ap, ◌∙◌, arith, Bool, true, false, inl, inr}
use Rattle.std.proofs.lemmas.Bool.{cases_lt}
use Rattle.sto_item.specs.Pending.{Entry, applied_updates}
use Rattle.sto_model.specs.PlainReplies.{PlainReply}
use Rattle.sto_model.specs.Run.{Behaviour, State, IsRun}
use Rattle.sto_model.specs.Serial.{has_written}
use Rattle.sto_model.specs.Asked.{IsUnsettled}
use Rattle.sto_model.specs.declared.body.Next.TheVariants.{Commit, Cancel}
use Rattle.sto_type.specs.Known.{Parts}
use Rattle.sto_type.specs.Meaning.{Meaning}
use Rattle.sto_type.specs.Runs.{IsRunOn}
use Rattle.sto_type.specs.Touching.{HasTouched}
use Rattle.sto_core.specs.History.{writes}
use Rattle.sto_history.specs.Records.{Verdict, Wrote, Read, Cancelled, Locked, Changed, Record, times_written, writers_up_to}
use Rattle.sto_history.proofs.Counts.{writers_next, same_to, writers_rise}

-- the contents after each number up to the clock: only the tickets of writers change them, and each is that of one writer
pub record IsHistory (m : Meaning) (clock : ℕ) (contents : ℕ → Parts) (rs : List Record) : Type 0 where
  pub opened : contents 0 ≡ m.opened
  pub valid : (n : ℕ) → n ≤ clock → m.valid (contents n)
  pub still : (n : ℕ) → n < clock → times_written (suc n) rs ≡ 0 → contents (suc n) ≡ contents n
  pub once : (n : ℕ) → times_written n rs ≤ 1
  pub none : times_written 0 rs ≡ 0

module _ (m : Meaning) (clock : ℕ) (contents : ℕ → Parts) (wrote : ℕ → ℕ → Bool) (all : List Record) (f : Behaviour) (replies : List PlainReply) where
  -- a writer: its updates are those of its run on the contents before its ticket, and lead to those after it
  pub record WroteAt (ticket : ℕ) : Type 0 where
    pub before : ℕ
    pub next : ticket ≡ suc before
    pub within : ticket ≤ clock
    pub updates : List Entry
    pub runs : IsRunOn m f (contents before) updates replies
    pub leaves : contents ticket ≡ applied_updates updates (contents before)
    pub named : (p : ℕ) → wrote ticket p ≡ true → writes updates p ≡ true
    pub ends : f replies ≡ Commit
    pub writes_some : has_written f replies ≡ true

  pub record ReadAt (n : ℕ) : Type 0 where
    pub within : n ≤ clock
    pub runs : IsRunOn m f (contents n) [] replies
    pub ends : f replies ≡ Commit
    pub writes_none : has_written f replies ≡ false

  pub record CancelledAt (n : ℕ) : Type 0 where
    pub within : n ≤ clock
    pub runs : IsRun m.machines f (m.rows (contents n)) replies
    pub ends : f replies ≡ Cancel

  pub record AbortedAt (n part : ℕ) : Type 0 where
    pub within : n ≤ clock
    pub runs : IsRun m.machines f (m.rows (contents n)) replies
    pub touched : HasTouched m f replies part
    pub unsettled : IsUnsettled f replies

  pub record ChangedAt (n part ticket : ℕ) : Type 0 where
    pub aborted : AbortedAt n part
    pub later : n < ticket
    pub within : ticket ≤ clock
    pub written : times_written ticket all ≡ 1
    pub by : wrote ticket part ≡ true

  abbrev pub StandsAt : Verdict → Type 0
  StandsAt (Wrote ticket) = WroteAt ticket
  StandsAt (Read n) = ReadAt n
  StandsAt (Cancelled n) = CancelledAt n
  StandsAt (Locked n part) = AbortedAt n part
  StandsAt (Changed n part ticket) = ChangedAt n part ticket

module _ {m : Meaning} {clock : ℕ} {contents : ℕ → Parts} {rs : List Record} (h : IsHistory m clock contents rs) where
  -- where nobody wrote between two numbers, the contents and the count of writers are the same
  pub contents_still : (n k : ℕ) → n ≤ k → k ≤ clock → ((u : ℕ) → n < u → u ≤ k → times_written u rs ≡ 0) → contents k ≡ contents n
  contents_still n k le within none = same_to contents n k le (λ i l u. h.still i (omega (arith, u, within)) (none (suc i) (omega (arith, l)) (omega (arith, u))))

  -- numbers with the same count of writers have the same contents
  rises_at : (n k u : ℕ) → n < u → u ≤ k → times_written u rs ≡ 0 ⊎ (writers_up_to n rs < writers_up_to k rs)
  rises_at n k zero l u = absurd (omega (arith, l))
  rises_at n k (suc i) l u = elim (cases_lt 0 (times_written (suc i) rs)) [
    | inl somebody ↦ inr (let next = writers_next i rs in let low = writers_rise rs n i (omega (arith, l)) in let high = writers_rise rs (suc i) k u in omega (arith, next, low, high, somebody))
    | inr nobody ↦ inl (omega (arith, nobody))
  ]

  same_count : (n k : ℕ) → n ≤ k → k ≤ clock → writers_up_to k rs ≡ writers_up_to n rs → contents k ≡ contents n
  same_count n k le within e = contents_still n k le within (λ u l i. elim (rises_at n k u l i) [
    | inl none ↦ none
    | inr rise ↦ absurd (omega (arith, rise, e))
  ])

  pub same_contents : (n k : ℕ) → n ≤ clock → k ≤ clock → writers_up_to k rs ≡ writers_up_to n rs → contents k ≡ contents n
  same_contents n k u v e = elim (cases_lt n k) [
    | inl l ↦ same_count n k (omega (arith, l)) v e
    | inr l ↦ sym (same_count k n l u (sym e))
  ]

  -- a number that somebody wrote with raises the count
  pub rank_rises : (n t : ℕ) → n < t → times_written t rs ≡ 1 → writers_up_to n rs < writers_up_to t rs
  rank_rises n t l one = elim (rises_at n t t l (omega arith)) [
    | inl none ↦ absurd (omega (arith, none, one))
    | inr rise ↦ rise
  ]
