-- The value that was loaded of a word.
use Rattle.std.proofs.Common.{◌≡◌, ℕ, ℤ, true, false, nat_eq, List, ◌∷◌, refl, inl, inr, true≢false}
use Rattle.std.proofs.lemmas.Bool.{cases_Bool}
use Rattle.sto_part.specs.declared.change.Change.{Change}
use Rattle.sto_part.specs.declared.change.Change.TheVariants.{Keep, Put, Add}
use Rattle.sto_part.specs.Changes.{applied}
use Rattle.sto_item.specs.Pending.{is_keep}
use Rattle.sto_core.specs.Reads.{Reads, was_read, value_read}
use Rattle.sto_core.specs.Puts.{IsPutOf}
use Rattle.sto_core.proofs.Lists.{both_are}
use Rattle.sto_attempt_log.specs.declared.commit_phase.LoadedWord.{LoadedWord}
use Rattle.sto_attempt_log.specs.CommitPhases.{reads_of, is_load_of}

pub one_on : (x : LoadedWord) (xs : List LoadedWord) (p i : ℕ) → is_load_of p i x ≡ true → value_read (reads_of (x ∷ xs) p) i ≡ x.value
one_on x xs p i e = let b = both_are (nat_eq x.part p) (nat_eq x.word i) e in rw (b.0, b.1) refl

pub one_off : (x : LoadedWord) (xs : List LoadedWord) (p i : ℕ) → is_load_of p i x ≡ false → value_read (reads_of (x ∷ xs) p) i ≡ value_read (reads_of xs p) i
one_off x xs p i e = elim (cases_Bool (nat_eq x.part p)) [
  | inl hit ↦ let miss : nat_eq x.word i ≡ false = rw hit at e in rw (hit, miss) refl
  | inr miss ↦ rw miss refl
]

-- the value that is put
pub put_value : (c : Change) (reads : Reads) (i : ℕ) (value : ℤ) → value ≡ applied c (value_read reads i) → is_keep c ≡ false → ((x : ℤ) → c ≡ Add x → was_read reads i ≡ true) → IsPutOf c reads i value
put_value Keep reads i value is keep read = absurd (true≢false keep)
put_value (Put y) reads i value is keep read = is
put_value (Add y) reads i value is keep read = (read y refl, is)
