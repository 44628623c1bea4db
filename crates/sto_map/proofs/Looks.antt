-- Steps of a look on what is known.
use Rattle.std.proofs.Common.{◌≡◌, ℕ, suc, ℤ, pos, true, false, Option, Some, None, List, [], ◌∷◌, ◌++◌, slice_index_or, refl, ap, ◌∙◌, subst}
use Rattle.std.specs.Prelude.{if◌then◌else◌}
use Rattle.std.specs.Int.{w64}
use Rattle.std.specs.Int.RustNames.{FitsSigned}
use Rattle.std.proofs.Common.{to_z, of_z}
use Rattle.std.proofs.lemmas.Int.{to_z-of_z}
use Rattle.sto_model.specs.PlainReplies.{Value}
use Rattle.std.specs.Ordering.{int_eq}
use Rattle.sto_item.specs.declared.item.Item.{Item}
use Rattle.sto_item.specs.declared.item.Item.TheVariants.{Seen}
use Rattle.sto_type.specs.Known.{Known, word_known}
use Rattle.sto_type.specs.Plans.{Plan, Ask, Say}
use Rattle.sto_type.specs.Reading.{when_known}
use Rattle.sto_type.specs.Telling.{Telling, Read, plan_of}
use Rattle.sto_type.specs.Words.{word}
use Rattle.sto_container.specs.Places.{next}
use Rattle.sto_map.specs.Mapped.{Sizes, key_part, over_part, value_part, holds, look, get_found}

module _ (z : Sizes) (key : ℤ) (f : ℕ → Telling) (g : List Item → Telling) (k : Known) (left p : ℕ) (seen : List Item) where
  abbrev this : Plan
  this = plan_of (look z key f g (suc left) p seen) k

  abbrev after_over : List ℤ → Telling
  after_over os = if int_eq (word os 0) (pos 0) then g (seen ++ Seen (key_part z p) ∷ Seen (over_part z p) ∷ []) else look z key f g left (next z.places p) (seen ++ Seen (key_part z p) ∷ [])

  abbrev after_key : List ℤ → Telling
  after_key ws = if holds key ws then f p else Read (over_part z p) after_over

  pub asks_key : k (key_part z p) ≡ None → this ≡ Ask (key_part z p)
  asks_key e = ap (λ o. when_known o (Ask (key_part z p)) (λ ws. plan_of (after_key ws) k)) e

  module _ (ws : List ℤ) (e : k (key_part z p) ≡ Some ws) where
    known_key : this ≡ plan_of (after_key ws) k
    known_key = ap (λ o. when_known o (Ask (key_part z p)) (λ ws. plan_of (after_key ws) k)) e

    pub finds : holds key ws ≡ true → this ≡ plan_of (f p) k
    finds h = known_key ∙ ap (λ b. plan_of (if b then f p else Read (over_part z p) after_over) k) h

    passed : holds key ws ≡ false → this ≡ when_known (k (over_part z p)) (Ask (over_part z p)) (λ os. plan_of (after_over os) k)
    passed h = known_key ∙ ap (λ b. plan_of (if b then f p else Read (over_part z p) after_over) k) h

    pub asks_over : holds key ws ≡ false → word_known (k (over_part z p)) ≡ None → this ≡ Ask (over_part z p)
    asks_over h o = passed h ∙ ap (λ x. when_known x (Ask (over_part z p)) (λ os. plan_of (after_over os) k)) (unknown (k (over_part z p)) o)
      where
        unknown : (x : Option (List ℤ)) → word_known x ≡ None → x ≡ None
        unknown None u = refl
        unknown (Some xs) u = cc

    over_known : (x : ℤ) → holds key ws ≡ false → word_known (k (over_part z p)) ≡ Some x
        → this ≡ plan_of (if int_eq x (pos 0) then g (seen ++ Seen (key_part z p) ∷ Seen (over_part z p) ∷ []) else look z key f g left (next z.places p) (seen ++ Seen (key_part z p) ∷ [])) k
    over_known x h o = passed h ∙ by_known (k (over_part z p)) o
      where
        by_known : (y : Option (List ℤ)) → word_known y ≡ Some x
            → when_known y (Ask (over_part z p)) (λ os. plan_of (after_over os) k) ≡ plan_of (if int_eq x (pos 0) then g (seen ++ Seen (key_part z p) ∷ Seen (over_part z p) ∷ []) else look z key f g left (next z.places p) (seen ++ Seen (key_part z p) ∷ [])) k
        by_known None u = cc
        by_known (Some os) u =
            let same : slice_index_or os 0 (pos 0) ≡ x = cc in
            ap (λ w. plan_of (if int_eq w (pos 0) then g (seen ++ Seen (key_part z p) ∷ Seen (over_part z p) ∷ []) else look z key f g left (next z.places p) (seen ++ Seen (key_part z p) ∷ [])) k) same

    pub stops : (x : ℤ) → holds key ws ≡ false → word_known (k (over_part z p)) ≡ Some x → x ≡ pos 0 → this ≡ plan_of (g (seen ++ Seen (key_part z p) ∷ Seen (over_part z p) ∷ [])) k
    stops x h o zero_x = over_known x h o ∙ ap (λ w. plan_of (if int_eq w (pos 0) then g (seen ++ Seen (key_part z p) ∷ Seen (over_part z p) ∷ []) else look z key f g left (next z.places p) (seen ++ Seen (key_part z p) ∷ [])) k) zero_x

    pub goes_on : (x : ℤ) → holds key ws ≡ false → word_known (k (over_part z p)) ≡ Some x → int_eq x (pos 0) ≡ false → this ≡ plan_of (look z key f g left (next z.places p) (seen ++ Seen (key_part z p) ∷ [])) k
    goes_on x h o other = over_known x h o ∙ ap (λ b. plan_of (if b then g (seen ++ Seen (key_part z p) ∷ Seen (over_part z p) ∷ []) else look z key f g left (next z.places p) (seen ++ Seen (key_part z p) ∷ [])) k) other

-- a number that is passed as its bits
pub plainly : {A : Type 0} (x : ℤ) → FitsSigned w64 x → (f g : ℤ → A) → f (to_z w64 (of_z w64 x)) ≡ g (to_z w64 (of_z w64 x)) → f x ≡ g x
plainly x fit f g h = subst (λ y. f y ≡ g y) (to_z-of_z w64 x fit) h

-- a get at the place of its key
module _ (z : Sizes) (k : Known) (p : ℕ) where
  pub get_asks : k (value_part z p) ≡ None → plan_of (get_found z p) k ≡ Ask (value_part z p)
  get_asks e = ap (λ o. when_known o (Ask (value_part z p)) (λ vs. Say (Value (word vs 0)) (Seen (key_part z p) ∷ Seen (value_part z p) ∷ []) [])) e

  pub get_says : (ws : List ℤ) → k (value_part z p) ≡ Some ws → plan_of (get_found z p) k ≡ Say (Value (word ws 0)) (Seen (key_part z p) ∷ Seen (value_part z p) ∷ []) []
  get_says ws e = ap (λ o. when_known o (Ask (value_part z p)) (λ vs. Say (Value (word vs 0)) (Seen (key_part z p) ∷ Seen (value_part z p) ∷ []) [])) e
