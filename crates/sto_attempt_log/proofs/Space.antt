-- Room for the words that a commit loads.
use Rattle.std.proofs.Common.{◌≡◌, ◌≤◌, ◌<◌, ◌+◌, ◌-◌, ◌^◌, ℕ, zero, suc, List, [], ◌∷◌, ◌++◌, length, length-append, drop, refl, ap, sym, ◌∙◌, subst, arith, slice_index_or}
use Rattle.sto_part.specs.Listed.{Listed}
use Rattle.sto_item.specs.Pending.{Entry as Update}
use Rattle.sto_attempt_log.specs.declared.commit_phase.CommitPhase.{CommitPhase}
use Rattle.sto_attempt_log.specs.declared.commit_phase.CommitPhase.TheVariants as S
use Rattle.sto_attempt_log.specs.declared.commit_phase.LoadedWord.{LoadedWord}
use Rattle.sto_attempt_log.specs.CommitPhases.{due, HasSpace, SpaceAt, IsAim, IsNextCheck, IsNextPut}

pub due_at : (widths tasks : List ℕ) (n : ℕ) → n < length tasks → due widths (drop n tasks) ≡ slice_index_or widths (slice_index_or tasks n 0) 0 + due widths (drop (suc n) tasks)
due_at widths [] n l = absurd (omega (arith, l))
due_at widths (x ∷ tasks) zero l = refl
due_at widths (x ∷ tasks) (suc n) l = due_at widths tasks n (omega (arith, l))

module _ (widths tasks : List ℕ) (n i : ℕ) (loaded_words : Listed LoadedWord) (h : HasSpace widths tasks n i loaded_words) (below : n < length tasks) (within : i < slice_index_or widths (slice_index_or tasks n 0) 0) where
  whole : due widths (drop n tasks) ≡ slice_index_or widths (slice_index_or tasks n 0) 0 + due widths (drop (suc n) tasks)
  whole = due_at widths tasks n below

  pub one_few : length loaded_words.items + 1 < 2 ^ 32
  one_few = omega (arith, h.few, whole, within)

  pub one_spare : 1 ≤ loaded_words.spare
  one_spare = omega (arith, h.spare, whole, within)

  module _ (x : LoadedWord) (loaded_words' : Listed LoadedWord) (pushed : loaded_words' ≡ record { items = loaded_words.items ++ x ∷ []; spare = loaded_words.spare - 1 }) where
    longer : length loaded_words'.items ≡ length loaded_words.items + 1
    longer = ap (λ (l : Listed LoadedWord). length l.items) pushed ∙ length-append loaded_words.items (x ∷ [])

    less : loaded_words'.spare ≡ loaded_words.spare - 1
    less = ap (λ (l : Listed LoadedWord). l.spare) pushed

    pub space_more : (next : ℕ) → next ≡ suc i → HasSpace widths tasks n next loaded_words'
    space_more next is = record { few = omega (arith, h.few, longer, is); spare = omega (arith, h.spare, less, is, one_spare) }

    space_next : slice_index_or widths (slice_index_or tasks n 0) 0 ≤ suc i → HasSpace widths tasks (suc n) 0 loaded_words'
    space_next last = record { few = omega (arith, h.few, longer, whole, within, last); spare = omega (arith, h.spare, less, whole, within, last) }

    pub space_aimed : (us : List Update) (next : ℕ) → next ≡ suc n → slice_index_or widths (slice_index_or tasks n 0) 0 ≤ suc i → (commit_phase : CommitPhase) → IsAim us tasks next commit_phase → SpaceAt widths tasks loaded_words' commit_phase
    space_aimed us next is last commit_phase a = aimed_by next (subst (λ (k : ℕ). HasSpace widths tasks k 0 loaded_words') (sym is) (space_next last)) commit_phase a
      where
        aimed_by : (k : ℕ) → HasSpace widths tasks k 0 loaded_words' → (commit_phase : CommitPhase) → IsAim us tasks k commit_phase → SpaceAt widths tasks loaded_words' commit_phase
        aimed_by k s S.Drawing a = tt
        aimed_by k s (S.Loading m j) a = subst (λ (q : ℕ). HasSpace widths tasks q j loaded_words') (sym a.0) (subst (λ (q : ℕ). HasSpace widths tasks k q loaded_words') (sym a.1) s)
        aimed_by k s (S.Testing m) a = subst (λ (q : ℕ). HasSpace widths tasks q 0 loaded_words') (sym a.0) s
        aimed_by k s (S.Locking m) a = absurd a
        aimed_by k s (S.Tested m j t) a = absurd a
        aimed_by k s (S.Checking m t) a = tt
        aimed_by k s (S.Deciding t) a = tt
        aimed_by k s (S.Putting m t) a = tt
        aimed_by k s (S.Releasing m t) a = tt
        aimed_by k s (S.Dropping t verdict) a = tt
        aimed_by k s (S.Leaving m e verdict) a = tt
        aimed_by k s S.Over a = tt

-- after the draw no word is loaded
pub space_checks : (widths tasks : List ℕ) (loaded_words : Listed LoadedWord) (checks : List ℕ) (n t : ℕ) (commit_phase : CommitPhase) → IsNextCheck checks n t commit_phase → SpaceAt widths tasks loaded_words commit_phase
space_checks widths tasks loaded_words checks n t (S.Checking m s) a = tt
space_checks widths tasks loaded_words checks n t (S.Deciding s) a = tt
space_checks widths tasks loaded_words checks n t S.Drawing a = absurd a
space_checks widths tasks loaded_words checks n t (S.Loading m i) a = absurd a
space_checks widths tasks loaded_words checks n t (S.Testing m) a = absurd a
space_checks widths tasks loaded_words checks n t (S.Locking m) a = absurd a
space_checks widths tasks loaded_words checks n t (S.Tested m i s) a = absurd a
space_checks widths tasks loaded_words checks n t (S.Putting m s) a = absurd a
space_checks widths tasks loaded_words checks n t (S.Releasing m s) a = absurd a
space_checks widths tasks loaded_words checks n t (S.Dropping s verdict) a = absurd a
space_checks widths tasks loaded_words checks n t (S.Leaving m e verdict) a = absurd a
space_checks widths tasks loaded_words checks n t S.Over a = absurd a

pub space_puts : (widths tasks : List ℕ) (loaded_words : Listed LoadedWord) (places : List (ℕ × ℕ)) (n t : ℕ) (commit_phase : CommitPhase) → IsNextPut places n t commit_phase → SpaceAt widths tasks loaded_words commit_phase
space_puts widths tasks loaded_words places n t (S.Checking m s) a = absurd a
space_puts widths tasks loaded_words places n t (S.Deciding s) a = absurd a
space_puts widths tasks loaded_words places n t S.Drawing a = absurd a
space_puts widths tasks loaded_words places n t (S.Loading m i) a = absurd a
space_puts widths tasks loaded_words places n t (S.Testing m) a = absurd a
space_puts widths tasks loaded_words places n t (S.Locking m) a = absurd a
space_puts widths tasks loaded_words places n t (S.Tested m i s) a = absurd a
space_puts widths tasks loaded_words places n t (S.Putting m s) a = tt
space_puts widths tasks loaded_words places n t (S.Releasing m s) a = tt
space_puts widths tasks loaded_words places n t (S.Dropping s verdict) a = absurd a
space_puts widths tasks loaded_words places n t (S.Leaving m e verdict) a = absurd a
space_puts widths tasks loaded_words places n t S.Over a = absurd a
