-- What an event that is allowed names is there: a part, or a word of one, of the pass's contents and of the state.
use Rattle.std.proofs.Common.{◌≡◌, ◌<◌, ℕ, ℤ, List, length, sym, ap, ◌∙◌, subst}
use mathlib.Core.Option.{some}
use lib.ListN.{get_elem?}
use Rattle.sto_part.specs.Parts.{part_of}
use Rattle.sto_core.specs.declared.view.Phase.{Phase}
use Rattle.sto_core.specs.declared.view.Phase.TheVariants.{Won, Locking, Lost}
use Rattle.sto_core.specs.declared.view.View.{View}
use Rattle.sto_core.specs.History.{Contents, Validity}
use Rattle.sto_core.specs.Views.{width_in}
use Rattle.sto_core.specs.Event.{Event, Open, Word, Close, Lock, Test, Check, Put, Release}
use Rattle.sto_core.specs.Event.{Unlock, Recheck}
use Rattle.sto_core.specs.Allowed.{Allowed, HasPart, HasWord, MayPut, MayRelease, MayUnlock}
use Rattle.sto_core.specs.Places.{LoadsVersion, HasPlace}
use Rattle.sto_core.specs.Core.{Core, part_at}
use Rattle.sto_core.specs.Rule.{Past, Rule, Serves}
use Rattle.sto_core.proofs.Parts.{parts_many, width_is}

put_place : (p i : ℕ) (x : ℤ) (v : View) (h : Phase) → MayPut p i x v h → HasWord v p i
put_place p i x v (Won t puts) may = may.1
put_place p i x v _ may = absurd may

release_place : (p : ℕ) (v : View) (h : Phase) → MayRelease p v h → HasPart v p
release_place p v (Won t puts) may = may.0
release_place p v _ may = absurd may

unlock_place : (p : ℕ) (v : View) (h : Phase) → MayUnlock p v h → HasPart v p
unlock_place p v Locking may = may.0
unlock_place p v (Lost t) may = may.0
unlock_place p v _ may = absurd may

-- what an event names that is allowed
pub has_place : (valid : Validity) (e : Event) (v : View) → Allowed valid e v → HasPlace e v
has_place valid (Open p) v may = may.1
has_place valid (Word p i) v may = may.1
has_place valid (Close p) v may = may.1
has_place valid (Recheck p) v may = may.1
has_place valid (Lock p) v may = may.1
has_place valid (Test p) v may = may.1
has_place valid (Check p) v may = may.1
has_place valid (Put p i x) v may = put_place p i x v v.phase may
has_place valid (Release p) v may = release_place p v v.phase may
has_place valid (Unlock p) v may = unlock_place p v v.phase may
has_place valid _ v may = tt

-- the same of an event that an equation names
module _ (valid : Validity) (e : Event) (v : View) (may : Allowed valid e v) where
  named : (d : Event) → e ≡ d → HasPlace d v
  named d is = subst (λ (f : Event). HasPlace f v) is (has_place valid e v may)

  pub word_named : (p i : ℕ) → e ≡ Word p i → HasWord v p i
  word_named p i is = named (Word p i) is

  pub put_named : (p i : ℕ) (x : ℤ) → e ≡ Put p i x → HasWord v p i
  put_named p i x is = named (Put p i x) is

  pub lock_named : (p : ℕ) → e ≡ Lock p → HasPart v p
  lock_named p is = named (Lock p) is

  pub release_named : (p : ℕ) → e ≡ Release p → HasPart v p
  release_named p is = named (Release p) is

  pub unlock_named : (p : ℕ) → e ≡ Unlock p → HasPart v p
  unlock_named p is = named (Unlock p) is

-- and of one that loads the version of a part
pub version_named : (valid : Validity) (e : Event) (v : View) (p : ℕ) → Allowed valid e v → LoadsVersion e p
    → HasPart v p
version_named valid (Open q) v p may is = subst (HasPart v) is may.1
version_named valid (Close q) v p may is = subst (HasPart v) is may.1
version_named valid (Recheck q) v p may is = subst (HasPart v) is may.1
version_named valid (Test q) v p may is = subst (HasPart v) is may.1
version_named valid (Check q) v p may is = subst (HasPart v) is may.1
version_named valid _ v p may is = absurd is

-- where the rule holds, the parts and words of a pass's contents are those of the state
module _ {valid : Validity} {sizes : List ℕ} {opening : Contents} {past : Past} {core : Core}
    (rule : Rule valid sizes opening past core) (seat : ℕ) (v : View) (at : get_elem? core.views seat ≡ some v)
    (live : 0 < v.gathered) where
  pub serves_at : Serves valid sizes opening (length core.statuses) v
  serves_at = (rule.each seat v at).serves live

  part_listed : (p : ℕ) → HasPart v p → p < length opening
  part_listed p has = subst (λ (c : Contents). p < length c) serves_at.same_opening has

  pub part_in_range : (p : ℕ) → HasPart v p → p < length core.parts
  part_in_range p has = subst (λ (n : ℕ). p < n) (sym (parts_many rule)) (part_listed p has)

  pub word_in_range : (p i : ℕ) → HasWord v p i → i < length (part_at core.parts p).words
  word_in_range p i has =
      let wide : width_in v p ≡ length (part_at core.parts p).words =
      ap (λ (c : Contents). length (part_of c p)) serves_at.same_opening
      ∙ sym (width_is rule p (part_listed p has.0)) in
      subst (λ (n : ℕ). i < n) wide has.1
