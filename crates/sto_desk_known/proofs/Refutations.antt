-- What no cache of an attempt knows.
use Rattle.std.proofs.Common.{◌≡◌, ℕ, ℤ, true, false, Option, Some, None, List, [], length, IsSome, refl, sym, ◌∙◌, ap, subst, arith, inl, inr, true≢false}
use Rattle.sto_item.specs.Pending.{Entry, changes_of}
use Rattle.sto_item.specs.Rebase.{overwrites}
use Rattle.sto_part.specs.declared.change.Change.{Change}
use Rattle.sto_type.specs.Known.{Known}
use Rattle.sto_type.specs.Meaning.{Meaning}
use Rattle.sto_attempt_log.specs.Log.{IsCache}

is_there : (o : Option (List ℤ)) (ws : List ℤ) → o ≡ Some ws → IsSome o
is_there o ws e = subst (λ (x : Option (List ℤ)). IsSome x) (sym e) refl

-- a part past the last
pub known_past_the_last : (m : Meaning) (base : Known) (es : List Entry) (k : Known) (ws : List ℤ) → k (length m.widths) ≡ Some ws → IsCache m base es k → ⊥
known_past_the_last m base es k ws e cache = let low = cache.inside (length m.widths) (is_there (k (length m.widths)) ws e) in omega (arith, low)

-- a part that was neither read nor changed
pub known_without_a_read : (m : Meaning) (base : Known) (es : List Entry) (k : Known) (p : ℕ) (ws : List ℤ) → base p ≡ None → changes_of es p ≡ [] → k p ≡ Some ws → IsCache m base es k → ⊥
known_without_a_read m base es k p ws unread unchanged e cache = elim (cache.from p (is_there (k p) ws e)) [
  | inl read ↦ none_some (subst (λ (o : Option (List ℤ)). IsSome o) unread read)
  | inr whole ↦ true≢false (sym whole ∙ ap (λ (cs : List Change). overwrites cs) unchanged)
] where
  none_some : IsSome {T = List ℤ} None → ⊥
  none_some e = cc
