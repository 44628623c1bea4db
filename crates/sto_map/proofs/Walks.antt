-- Steps of the walks of a put on what is known.
use Rattle.std.proofs.Common.{◌≡◌, ℕ, suc, ℤ, pos, Bool, true, false, Option, Some, None, List, [], ◌∷◌, ◌++◌, refl, ap, ◌∙◌}
use Rattle.std.specs.Prelude.{if◌then◌else◌, int_lt}
use Rattle.sto_part.specs.declared.pred.Test.TheVariants.{Lt, Ge}
use Rattle.sto_item.specs.declared.item.Item.{Item}
use Rattle.sto_item.specs.declared.item.Item.TheVariants.{Seen}
use Rattle.sto_model.specs.PlainReplies.{Done}
use Rattle.sto_type.specs.Known.{Known, word_known}
use Rattle.sto_type.specs.Plans.{Plan, Ask, Say}
use Rattle.sto_type.specs.Reading.{when_known}
use Rattle.sto_type.specs.Telling.{Telling, Tell, plan_of}
use Rattle.sto_type.specs.Words.{word, compared}
use Rattle.sto_container.specs.Places.{next, is_live}
use Rattle.sto_map.specs.Mapped.{Sizes, key_part, added, place_walk, place_from_home, room_walk}

module _ (z : Sizes) (key x : ℤ) (k : Known) where
  module _ (left s : ℕ) (seen : List Item) where
    abbrev after_room : Bool → Telling
    after_room b = if b then room_walk z key x left (next z.stripes s) (seen ++ compared s 0 Lt (pos 1) ∷ []) else place_from_home z key x s (seen ++ compared s 0 Ge (pos 1) ∷ [])

    abbrev this_room : Plan
    this_room = plan_of (room_walk z key x (suc left) s seen) k

    pub asks_room : word_known (k s) ≡ None → this_room ≡ Ask s
    asks_room e = ap (λ o. when_known o (Ask s) (λ ws. plan_of (after_room (int_lt (word ws 0) (pos 1))) k)) (unknown (k s) e)
      where
        unknown : (y : Option (List ℤ)) → word_known y ≡ None → y ≡ None
        unknown None u = refl
        unknown (Some xs) u = cc

    known_room : (w : ℤ) → word_known (k s) ≡ Some w → this_room ≡ plan_of (after_room (int_lt w (pos 1))) k
    known_room w e = by_known (k s) e
      where
        by_known : (y : Option (List ℤ)) → word_known y ≡ Some w → when_known y (Ask s) (λ ws. plan_of (after_room (int_lt (word ws 0) (pos 1))) k) ≡ plan_of (after_room (int_lt w (pos 1))) k
        by_known None u = cc
        by_known (Some ws) u = let same : word ws 0 ≡ w = cc in ap (λ v. plan_of (after_room (int_lt v (pos 1))) k) same

    pub no_room : (w : ℤ) → word_known (k s) ≡ Some w → int_lt w (pos 1) ≡ true → this_room ≡ plan_of (room_walk z key x left (next z.stripes s) (seen ++ compared s 0 Lt (pos 1) ∷ [])) k
    no_room w e b = known_room w e ∙ ap (λ t. plan_of (after_room t) k) b

    pub has_room : (w : ℤ) → word_known (k s) ≡ Some w → int_lt w (pos 1) ≡ false → this_room ≡ plan_of (place_from_home z key x s (seen ++ compared s 0 Ge (pos 1) ∷ [])) k
    has_room w e b = known_room w e ∙ ap (λ t. plan_of (after_room t) k) b

  module _ (s left p : ℕ) (seen : List Item) where
    abbrev after_place : Bool → Telling
    after_place b = if b then place_walk z key x s left (next z.places p) (seen ++ Seen (key_part z p) ∷ []) else Tell Done (seen ++ Seen (key_part z p) ∷ []) (added z key x s p)

    abbrev this_place : Plan
    this_place = plan_of (place_walk z key x s (suc left) p seen) k

    pub asks_place : k (key_part z p) ≡ None → this_place ≡ Ask (key_part z p)
    asks_place e = ap (λ o. when_known o (Ask (key_part z p)) (λ ws. plan_of (after_place (is_live ws)) k)) e

    known_place : (ws : List ℤ) → k (key_part z p) ≡ Some ws → this_place ≡ plan_of (after_place (is_live ws)) k
    known_place ws e = ap (λ o. when_known o (Ask (key_part z p)) (λ vs. plan_of (after_place (is_live vs)) k)) e

    pub is_taken : (ws : List ℤ) → k (key_part z p) ≡ Some ws → is_live ws ≡ true → this_place ≡ plan_of (place_walk z key x s left (next z.places p) (seen ++ Seen (key_part z p) ∷ [])) k
    is_taken ws e b = known_place ws e ∙ ap (λ t. plan_of (after_place t) k) b

    pub is_free : (ws : List ℤ) → k (key_part z p) ≡ Some ws → is_live ws ≡ false → this_place ≡ Say Done (seen ++ Seen (key_part z p) ∷ []) (added z key x s p)
    is_free ws e b = known_place ws e ∙ ap (λ t. plan_of (after_place t) k) b
