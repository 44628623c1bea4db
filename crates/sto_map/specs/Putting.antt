-- A put of a new key: the first stripe on with room, and the first place on the way that is not live.
use Rattle.std.specs.Prelude.{◌≡◌, ℕ, zero, suc, ℤ, pos, int_lt, Bool, true, false, if◌then◌else◌, Option, Some, None, List, [], ◌∷◌, ◌++◌, refl}
use Rattle.std.proofs.Common.{ap, sym, ◌∙◌, arith, subst}
use Rattle.std.proofs.lemmas.Int.{ints}
use Rattle.sto_part.specs.Parts.{part_of}
use Rattle.sto_part.specs.Preds.{compares}
use Rattle.sto_part.specs.declared.pred.Test.TheVariants.{Lt, Ge}
use Rattle.sto_item.specs.declared.item.Item.{Item}
use Rattle.sto_item.specs.declared.item.Item.TheVariants.{Seen}
use Rattle.sto_item.specs.Agreement.{Agrees}
use Rattle.sto_model.specs.PlainReplies.{Done, Absent, Full}
use Rattle.sto_model.proofs.RowFacts.{by_test}
use Rattle.sto_type.specs.Known.{Parts, ContentsFit}
use Rattle.sto_type.specs.Reading.{items_at, updates_at}
use Rattle.sto_type.specs.Telling.{Telling, Tell, reading_of, told_at}
use Rattle.sto_type.specs.Words.{word, compared, tells}
use Rattle.sto_container.specs.Places.{next, is_live}
use Rattle.sto_map.specs.Mapped.{Sizes, key_part, added, place_walk as walk_places, place_from_home as from_home, room_walk as walk_rooms}
use Rattle.sto_map.specs.Finding.{EndAlike, same_end, then_alike, agrees_both}

module _ (z : Sizes) (k x : ℤ) where
  abbrev pub place_walk : ℕ → ℕ → ℕ → List Item → Telling
  place_walk s left p seen = walk_places z k x s left p seen

  abbrev pub place_from_home : ℕ → List Item → Telling
  place_from_home s seen = from_home z k x s seen

  abbrev pub room_walk : ℕ → ℕ → List Item → Telling
  room_walk left s seen = walk_rooms z k x left s seen

  -- what these walks come to on contents
  abbrev pub place_found : ℕ → ℕ → Parts → Option ℕ
  place_found zero p c = None
  place_found (suc left) p c = if is_live (part_of c (key_part z p)) then place_found left (next z.places p) c else Some p

  abbrev pub place_seen : ℕ → ℕ → List Item → Parts → List Item
  place_seen zero p seen c = seen
  place_seen (suc left) p seen c = if is_live (part_of c (key_part z p)) then place_seen left (next z.places p) (seen ++ Seen (key_part z p) ∷ []) c else seen ++ Seen (key_part z p) ∷ []

  abbrev pub place_end : ℕ → Option ℕ → List Item → Telling
  place_end s None seen = Tell Absent seen []
  place_end s (Some p) seen = Tell Done seen (added z k x s p)

  abbrev pub room_found : ℕ → ℕ → Parts → Option ℕ
  room_found zero s c = None
  room_found (suc left) s c = if int_lt (word (part_of c s) 0) (pos 1) then room_found left (next z.stripes s) c else Some s

  abbrev pub room_seen : ℕ → ℕ → List Item → Parts → List Item
  room_seen zero s seen c = seen
  room_seen (suc left) s seen c = if int_lt (word (part_of c s) 0) (pos 1) then room_seen left (next z.stripes s) (seen ++ compared s 0 Lt (pos 1) ∷ []) c else seen ++ compared s 0 Ge (pos 1) ∷ []

  abbrev pub room_end : Option ℕ → List Item → Telling
  room_end None seen = Tell Full seen []
  room_end (Some s) seen = place_from_home s seen

  module _ (c : Parts) where
    abbrev pub place_by : ℕ → ℕ → ℕ → List Item → Bool → Telling
    place_by s left p seen b = if b then place_walk s left (next z.places p) (seen ++ Seen (key_part z p) ∷ []) else Tell Done (seen ++ Seen (key_part z p) ∷ []) (added z k x s p)

    place_step : (s left p : ℕ) (seen : List Item) (b : Bool) → is_live (part_of c (key_part z p)) ≡ b → EndAlike (place_walk s (suc left) p seen) (place_by s left p seen b) c
    place_step s left p seen b h = record {
      told = ap (λ y. told_at (place_by s left p seen y) c) h;
      items = ap (λ y. items_at (reading_of (place_by s left p seen y)) c) h;
      updates = ap (λ y. updates_at (reading_of (place_by s left p seen y)) c) h;
    }

    pub place_walks : (s left p : ℕ) (seen : List Item) → EndAlike (place_walk s left p seen) (place_end s (place_found left p c) (place_seen left p seen c)) c
    place_walks s zero p seen = same_end (Tell Absent seen []) c
    place_walks s (suc left) p seen =
        by_test (is_live (part_of c (key_part z p)))
        (λ b.
        subst (λ (y : Bool). EndAlike (place_walk s (suc left) p seen) (place_end s (if y then place_found left (next z.places p) c else Some p) (if y then place_seen left (next z.places p) (seen ++ Seen (key_part z p) ∷ []) c else seen ++ Seen (key_part z p) ∷ [])) c) (sym b)
        (then_alike (place_walk s (suc left) p seen) (place_by s left p seen true) (place_end s (place_found left (next z.places p) c) (place_seen left (next z.places p) (seen ++ Seen (key_part z p) ∷ []) c)) c (place_step s left p seen true b)
        (place_walks s left (next z.places p) (seen ++ Seen (key_part z p) ∷ []))))
        (λ b.
        subst (λ (y : Bool). EndAlike (place_walk s (suc left) p seen) (place_end s (if y then place_found left (next z.places p) c else Some p) (if y then place_seen left (next z.places p) (seen ++ Seen (key_part z p) ∷ []) c else seen ++ Seen (key_part z p) ∷ [])) c) (sym b)
        (place_step s left p seen false b))

    abbrev pub room_by : ℕ → ℕ → List Item → Bool → Telling
    room_by left s seen b = if b then room_walk left (next z.stripes s) (seen ++ compared s 0 Lt (pos 1) ∷ []) else place_from_home s (seen ++ compared s 0 Ge (pos 1) ∷ [])

    room_step : (left s : ℕ) (seen : List Item) (b : Bool) → int_lt (word (part_of c s) 0) (pos 1) ≡ b → EndAlike (room_walk (suc left) s seen) (room_by left s seen b) c
    room_step left s seen b h = record {
      told = ap (λ y. told_at (room_by left s seen y) c) h;
      items = ap (λ y. items_at (reading_of (room_by left s seen y)) c) h;
      updates = ap (λ y. updates_at (reading_of (room_by left s seen y)) c) h;
    }

    pub room_walks : (left s : ℕ) (seen : List Item) → EndAlike (room_walk left s seen) (room_end (room_found left s c) (room_seen left s seen c)) c
    room_walks zero s seen = same_end (Tell Full seen []) c
    room_walks (suc left) s seen =
        by_test (int_lt (word (part_of c s) 0) (pos 1))
        (λ b.
        subst (λ (y : Bool). EndAlike (room_walk (suc left) s seen) (room_end (if y then room_found left (next z.stripes s) c else Some s) (if y then room_seen left (next z.stripes s) (seen ++ compared s 0 Lt (pos 1) ∷ []) c else seen ++ compared s 0 Ge (pos 1) ∷ [])) c) (sym b)
        (then_alike (room_walk (suc left) s seen) (room_by left s seen true) (room_end (room_found left (next z.stripes s) c) (room_seen left (next z.stripes s) (seen ++ compared s 0 Lt (pos 1) ∷ []) c)) c (room_step left s seen true b)
        (room_walks left (next z.stripes s) (seen ++ compared s 0 Lt (pos 1) ∷ []))))
        (λ b.
        subst (λ (y : Bool). EndAlike (room_walk (suc left) s seen) (room_end (if y then room_found left (next z.stripes s) c else Some s) (if y then room_seen left (next z.stripes s) (seen ++ compared s 0 Lt (pos 1) ∷ []) c else seen ++ compared s 0 Ge (pos 1) ∷ [])) c) (sym b)
        (room_step left s seen false b))

  -- what agrees with what was seen walks alike
  lt_true : (w : ℤ) → compares Ge w (pos 1) ≡ true → int_lt w (pos 1) ≡ false
  lt_true w e = grind (arith, ints)

  module _ (e c : Parts) (f : ContentsFit e) where
    pub place_keeps : (left p : ℕ) (seen : List Item) → Agrees e (place_seen left p seen c) c → Agrees e seen c
    place_keeps zero p seen g = g
    place_keeps (suc left) p seen g =
        by_test (is_live (part_of c (key_part z p)))
        (λ b. (agrees_both e c seen (Seen (key_part z p) ∷ []) (place_keeps left (next z.places p) (seen ++ Seen (key_part z p) ∷ []) (subst (λ (y : Bool). Agrees e (if y then place_seen left (next z.places p) (seen ++ Seen (key_part z p) ∷ []) c else seen ++ Seen (key_part z p) ∷ []) c) b g))).0)
        (λ b. (agrees_both e c seen (Seen (key_part z p) ∷ []) (subst (λ (y : Bool). Agrees e (if y then place_seen left (next z.places p) (seen ++ Seen (key_part z p) ∷ []) c else seen ++ Seen (key_part z p) ∷ []) c) b g)).0)

    pub place_alike : (left p : ℕ) (seen : List Item) → Agrees e (place_seen left p seen c) c → place_found left p e ≡ place_found left p c
    place_alike zero p seen g = refl
    place_alike (suc left) p seen g =
        by_test (is_live (part_of c (key_part z p)))
        (λ b.
        let h : Agrees e (place_seen left (next z.places p) (seen ++ Seen (key_part z p) ∷ []) c) c = subst (λ (y : Bool). Agrees e (if y then place_seen left (next z.places p) (seen ++ Seen (key_part z p) ∷ []) c else seen ++ Seen (key_part z p) ∷ []) c) b g in
        let same : part_of e (key_part z p) ≡ part_of c (key_part z p) = (agrees_both e c seen (Seen (key_part z p) ∷ []) (place_keeps left (next z.places p) (seen ++ Seen (key_part z p) ∷ []) h)).1.0 in
        ap (λ y. if y then place_found left (next z.places p) e else Some p) (ap is_live same ∙ b) ∙ place_alike left (next z.places p) (seen ++ Seen (key_part z p) ∷ []) h
        ∙ sym (ap (λ y. if y then place_found left (next z.places p) c else Some p) b))
        (λ b.
        let h : Agrees e (seen ++ Seen (key_part z p) ∷ []) c = subst (λ (y : Bool). Agrees e (if y then place_seen left (next z.places p) (seen ++ Seen (key_part z p) ∷ []) c else seen ++ Seen (key_part z p) ∷ []) c) b g in
        let same : part_of e (key_part z p) ≡ part_of c (key_part z p) = (agrees_both e c seen (Seen (key_part z p) ∷ []) h).1.0 in
        ap (λ y. if y then place_found left (next z.places p) e else Some p) (ap is_live same ∙ b) ∙ sym (ap (λ y. if y then place_found left (next z.places p) c else Some p) b))

    pub room_keeps : (left s : ℕ) (seen : List Item) → Agrees e (room_seen left s seen c) c → Agrees e seen c
    room_keeps zero s seen g = g
    room_keeps (suc left) s seen g =
        by_test (int_lt (word (part_of c s) 0) (pos 1))
        (λ b. (agrees_both e c seen (compared s 0 Lt (pos 1) ∷ []) (room_keeps left (next z.stripes s) (seen ++ compared s 0 Lt (pos 1) ∷ []) (subst (λ (y : Bool). Agrees e (if y then room_seen left (next z.stripes s) (seen ++ compared s 0 Lt (pos 1) ∷ []) c else seen ++ compared s 0 Ge (pos 1) ∷ []) c) b g))).0)
        (λ b. (agrees_both e c seen (compared s 0 Ge (pos 1) ∷ []) (subst (λ (y : Bool). Agrees e (if y then room_seen left (next z.stripes s) (seen ++ compared s 0 Lt (pos 1) ∷ []) c else seen ++ compared s 0 Ge (pos 1) ∷ []) c) b g)).0)

    pub room_alike : (left s : ℕ) (seen : List Item) → Agrees e (room_seen left s seen c) c → room_found left s e ≡ room_found left s c
    room_alike zero s seen g = refl
    room_alike (suc left) s seen g =
        by_test (int_lt (word (part_of c s) 0) (pos 1))
        (λ b.
        let h : Agrees e (room_seen left (next z.stripes s) (seen ++ compared s 0 Lt (pos 1) ∷ []) c) c = subst (λ (y : Bool). Agrees e (if y then room_seen left (next z.stripes s) (seen ++ compared s 0 Lt (pos 1) ∷ []) c else seen ++ compared s 0 Ge (pos 1) ∷ []) c) b g in
        let one : Agrees e (compared s 0 Lt (pos 1) ∷ []) c = (agrees_both e c seen (compared s 0 Lt (pos 1) ∷ []) (room_keeps left (next z.stripes s) (seen ++ compared s 0 Lt (pos 1) ∷ []) h)).1 in
        let same : int_lt (word (part_of e s) 0) (pos 1) ≡ true = tells e s 0 Lt (pos 1) f (one.0, tt) in
        ap (λ y. if y then room_found left (next z.stripes s) e else Some s) same ∙ room_alike left (next z.stripes s) (seen ++ compared s 0 Lt (pos 1) ∷ []) h
        ∙ sym (ap (λ y. if y then room_found left (next z.stripes s) c else Some s) b))
        (λ b.
        let h : Agrees e (seen ++ compared s 0 Ge (pos 1) ∷ []) c = subst (λ (y : Bool). Agrees e (if y then room_seen left (next z.stripes s) (seen ++ compared s 0 Lt (pos 1) ∷ []) c else seen ++ compared s 0 Ge (pos 1) ∷ []) c) b g in
        let one : Agrees e (compared s 0 Ge (pos 1) ∷ []) c = (agrees_both e c seen (compared s 0 Ge (pos 1) ∷ []) h).1 in
        let same : int_lt (word (part_of e s) 0) (pos 1) ≡ false = lt_true (word (part_of e s) 0) (tells e s 0 Ge (pos 1) f (one.0, tt)) in
        ap (λ y. if y then room_found left (next z.stripes s) e else Some s) same ∙ sym (ap (λ y. if y then room_found left (next z.stripes s) c else Some s) b))
