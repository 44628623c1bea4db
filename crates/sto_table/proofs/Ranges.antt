-- What an event names is in range of the words of a table.
use Rattle.std.proofs.Common.{◌≡◌, ◌<◌, ℕ, ℤ, List, [], ◌∷◌, length, map, get_or, Bool, true, false, sym, refl, ap, ◌∙◌, subst}
use mathlib.Core.Option.{some}
use lib.ListN.{get_elem?}
use Rattle.std.specs.Int.{cast_signed, w64}
use Rattle.sto_core.specs.declared.view.View.{View}
use Rattle.sto_core.specs.History.{Contents, Validity}
use Rattle.sto_core.specs.Event.{Event, Start, Open, Word, Close, Renew, Recheck, Lock, Test, Draw, Check, Decide, Put, Release, Unlock}
use Rattle.sto_core.specs.Allowed.{HasPart, HasWord}
use Rattle.sto_core.specs.Core.{Part}
use Rattle.sto_core.specs.Rule.{Past, Rule}
use Rattle.sto_core.proofs.Lists.{length_of_map}
use Rattle.sto_core.specs.Places.{HasPlace}
use Rattle.sto_core.proofs.Places.{part_in_range, serves_at, word_in_range}
use Rattle.sto_table.specs.Laid.{Laid, part_laid, core_laid}
use Rattle.sto_table.proofs.Flat.{laid_at, widths, part_at_laid}
use Rattle.sto_table.proofs.Moved.{InRange}

module _ {valid : Validity} {sizes : List ℕ} {opening : Contents} {past : Past} (clock : ℕ) (statuses : List ℕ)
    (parts : List Laid) (views : List View)
    (rule : Rule valid sizes opening past (core_laid clock statuses parts views)) where
  -- the widths of the parts are those of the opening
  pub widths_are : widths parts ≡ map length opening
  widths_are = go parts ∙ rule.widths
    where
      go : (ls : List Laid) → widths ls ≡ map (λ (q : Part). length q.words) (map part_laid ls)
      go [] = refl
      go (l ∷ ls) = λ j. sym (length_of_map (cast_signed w64) l.words) j ∷ go ls j

  module _ (id : ℕ) (v : View) (at : get_elem? views id ≡ some v) (live : 0 < v.gathered) where
    in_parts : (p : ℕ) → HasPart v p → p < length parts
    in_parts p has =
        subst (λ (n : ℕ). p < n) (length_of_map part_laid parts) (part_in_range rule id v at live p has)

    in_words : (p i : ℕ) → HasWord v p i → i < length (laid_at parts p).words
    in_words p i has =
        subst (λ (n : ℕ). i < n)
        (ap (λ (q : Part). length q.words) (part_at_laid parts p) ∙ length_of_map (cast_signed w64) (laid_at parts p).words)
        (word_in_range rule id v at live p i has)

    pub in_range : (e : Event) → HasPlace e v → InRange statuses parts v e
    in_range Start has = tt
    in_range (Open p) has = in_parts p has
    in_range (Word p i) has = (in_parts p has.0, in_words p i has)
    in_range (Close p) has = in_parts p has
    in_range (Lock p) has = in_parts p has
    in_range (Test p) has = in_parts p has
    in_range (Draw us seen loaded) has = tt
    in_range (Check p) has = in_parts p has
    in_range Renew has = tt
    in_range (Recheck p) has = in_parts p has
    in_range (Decide b) has = (serves_at rule id v at live).number
    in_range (Put p i x) has = (in_parts p has.0, in_words p i has)
    in_range (Release p) has = in_parts p has
    in_range (Unlock p) has = in_parts p has
