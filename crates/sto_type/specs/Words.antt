-- Words of parts: that one compares with a number, and what changes of them keep.
use Rattle.std.specs.Prelude.{◌≡◌, ◌<◌, ℕ, zero, suc, ℤ, pos, true, false, ◌+ℤ◌, List, [], ◌∷◌, map, length, replicate, slice_index_or, slice_set, IsTrue, refl}
use Rattle.std.specs.List.{list_all}
use Rattle.std.specs.Int.{w64, int_wrap}
use Rattle.std.specs.Int.RustNames.{FitsSigned}
use Rattle.std.proofs.Common.{ap, sym, ◌∙◌, arith}
use Rattle.std.proofs.lemmas.Int.{ints, int_wrap_fits, SFits-int_wrap}
use Rattle.sto_part.specs.Parts.{part_of}
use Rattle.sto_part.specs.Changes.{applied, applied_all, wrapped_sum}
use Rattle.sto_part.specs.Preds.{compares, holds_of}
use Rattle.sto_part.specs.declared.change.Change.{Change}
use Rattle.sto_part.specs.declared.change.Change.TheVariants.{Keep, Put, Add}
use Rattle.sto_part.specs.declared.pred.Test.{Test}
use Rattle.sto_part.specs.declared.pred.Test.TheVariants.{Eq}
use Rattle.sto_item.specs.declared.item.Item.{Item}
use Rattle.sto_item.specs.declared.item.Item.TheVariants.{Holds}
use Rattle.sto_item.specs.Pending.{Entry, is_keep, applied_updates}
use Rattle.sto_item.specs.Agreement.{Agrees, AreTrueOf, HasWidths, word_of}
use Rattle.sto_item.proofs.Widths.{length-applied_all}
use Rattle.sto_type.specs.Known.{Parts, WordsFit, ContentsFit}
use Rattle.sto_type.specs.Meaning.{EachOwned}
use Rattle.sto_type.specs.OneObject.{homes_from}
use Rattle.sto_type.specs.OneObjectLaw.{owned_at}

-- a word; 0 past the last
abbrev pub word : List ℤ → ℕ → ℤ
word ws i = slice_index_or ws i (pos 0)

-- that a word compares with a number
abbrev pub compared : ℕ → ℕ → Test → ℤ → Item
compared p w test x = Holds (record { part = p; word = w; shift = pos 0; test = test; bound = x })

-- words of contents fit
zero_fits : FitsSigned w64 (pos 0)
zero_fits = record { sfits = omega arith }

pub word_fits : (ws : List ℤ) (i : ℕ) → WordsFit ws → FitsSigned w64 (word ws i)
word_fits [] i h = zero_fits
word_fits (w ∷ ws) zero h = h.0
word_fits (w ∷ ws) (suc i) h = word_fits ws i h.1

pub part_fits : (c : Parts) (p : ℕ) → ContentsFit c → WordsFit (part_of c p)
part_fits [] p h = tt
part_fits (ws ∷ c) zero h = h.0
part_fits (ws ∷ c) (suc p) h = part_fits c p h.1

pub unshifted : (x : ℤ) → FitsSigned w64 x → wrapped_sum x (pos 0) ≡ x
unshifted x f = let e : x +ℤ pos 0 ≡ x = omega (arith, ints) in ap (int_wrap w64) e ∙ int_wrap_fits w64 x f

-- what agrees with a comparison, and where it is true
pub tells : (e : Parts) (p w : ℕ) (test : Test) (x : ℤ) → ContentsFit e → AreTrueOf e (compared p w test x ∷ []) → compares test (word_of e p w) x ≡ true
tells e p w test x f h = sym (ap (λ y. compares test y x) (unshifted (word_of e p w) (word_fits (part_of e p) w (part_fits e p f)))) ∙ h.0

pub is_true : (e : Parts) (p w : ℕ) (test : Test) (x : ℤ) → ContentsFit e → compares test (word_of e p w) x ≡ true → IsTrue (holds_of (record { part = p; word = w; shift = pos 0; test = test; bound = x }) (word_of e p w))
is_true e p w test x f h = ap (λ y. compares test y x) (unshifted (word_of e p w) (word_fits (part_of e p) w (part_fits e p f))) ∙ h

pub equal_of : (x y : ℤ) → compares Eq x y ≡ true → x ≡ y
equal_of x y e = grind (arith, ints)

pub of_equal : (x y : ℤ) → x ≡ y → compares Eq x y ≡ true
of_equal x y e = grind (arith, ints)

pub tells_equal : (e d : Parts) (p w : ℕ) (x : ℤ) (is : List Item) → ContentsFit e → Agrees e (compared p w Eq x ∷ is) d → word_of e p w ≡ x
tells_equal e d p w x is f h = equal_of (word_of e p w) x (tells e p w Eq x f (h.0, tt))

pub is_equal : (e : Parts) (p w : ℕ) (x : ℤ) → ContentsFit e → word_of e p w ≡ x → IsTrue (holds_of (record { part = p; word = w; shift = pos 0; test = Eq; bound = x }) (word_of e p w))
is_equal e p w x f h = is_true e p w Eq x f (of_equal (word_of e p w) x h)

-- of w words one changes
abbrev pub at_word : ℕ → ℕ → Change → List Change
at_word w i change = slice_set (replicate w Keep) i change

kept_all : (w : ℕ) (ws : List ℤ) → applied_all (replicate w Keep) ws ≡ ws
kept_all zero ws = refl
kept_all (suc w) [] = refl
kept_all (suc w) (x ∷ ws) = ap (λ l. x ∷ l) (kept_all w ws)

pub at_word-applied : (w i : ℕ) (change : Change) (ws : List ℤ) → i < w → applied_all (at_word w i change) ws ≡ slice_set ws i (applied change (word ws i))
at_word-applied zero i change ws l = absurd (omega (arith, l))
at_word-applied (suc w) zero change [] l = refl
at_word-applied (suc w) (suc i) change [] l = refl
at_word-applied (suc w) zero change (x ∷ ws) l = ap (λ l. applied change x ∷ l) (kept_all w ws)
at_word-applied (suc w) (suc i) change (x ∷ ws) l = ap (λ l. x ∷ l) (at_word-applied w i change ws (omega (arith, l)))

pub at_word-changes : (w i : ℕ) (change : Change) → i < w → is_keep change ≡ false → list_all is_keep (at_word w i change) ≡ false
at_word-changes zero i change l e = absurd (omega (arith, l))
at_word-changes (suc w) zero change l e = rw e refl
at_word-changes (suc w) (suc i) change l e = at_word-changes w i change (omega (arith, l)) e

pub at_word-width : (w i : ℕ) (change : Change) → length (at_word w i change) ≡ w
at_word-width zero i change = refl
at_word-width (suc w) zero change = ap suc (length-keeps w)
  where
    length-keeps : (n : ℕ) → length (replicate {A = Change} n Keep) ≡ n
    length-keeps zero = refl
    length-keeps (suc n) = ap suc (length-keeps n)
at_word-width (suc w) (suc i) change = ap suc (at_word-width w i change)

-- what is put fits
abbrev pub ChangeFits : Change → Type 0
ChangeFits Keep = Unit {0}
ChangeFits (Put x) = FitsSigned w64 x
ChangeFits (Add d) = Unit {0}

abbrev pub ChangesFit : List Change → Type 0
ChangesFit [] = Unit {0}
ChangesFit (ch ∷ chs) = ChangeFits ch × ChangesFit chs

abbrev pub UpdatesFit : List Entry → Type 0
UpdatesFit [] = Unit {0}
UpdatesFit (e ∷ es) = ChangesFit e.1 × UpdatesFit es

pub at_word-fits : (w i : ℕ) (change : Change) → ChangeFits change → ChangesFit (at_word w i change)
at_word-fits zero i change f = tt
at_word-fits (suc w) zero change f = (f, keeps_fit w)
  where
    keeps_fit : (n : ℕ) → ChangesFit (replicate n Keep)
    keeps_fit zero = tt
    keeps_fit (suc n) = (tt, keeps_fit n)
at_word-fits (suc w) (suc i) change f = (tt, at_word-fits w i change f)

applied_fits : (change : Change) (x : ℤ) → ChangeFits change → FitsSigned w64 x → FitsSigned w64 (applied change x)
applied_fits Keep x f g = g
applied_fits (Put y) x f g = f
applied_fits (Add d) x f g = SFits-int_wrap w64 (x +ℤ d)

all_fit : (changes : List Change) (ws : List ℤ) → ChangesFit changes → WordsFit ws → WordsFit (applied_all changes ws)
all_fit [] ws f g = g
all_fit (ch ∷ chs) [] f g = tt
all_fit (ch ∷ chs) (x ∷ ws) f g = (applied_fits ch x f.0 g.0, all_fit chs ws f.1 g.1)

set_fits : (c : Parts) (p : ℕ) (ws : List ℤ) → WordsFit ws → ContentsFit c → ContentsFit (slice_set c p ws)
set_fits [] p ws f h = tt
set_fits (x ∷ c) zero ws f h = (f, h.1)
set_fits (x ∷ c) (suc p) ws f h = (h.0, set_fits c p ws f h.1)

-- contents fit after updates
pub fits_after : (es : List Entry) (c : Parts) → UpdatesFit es → ContentsFit c → ContentsFit (applied_updates es c)
fits_after [] c f h = h
fits_after (e ∷ es) c f h = fits_after es (slice_set c e.0 (applied_all e.1 (part_of c e.0))) f.1 (set_fits c e.0 (applied_all e.1 (part_of c e.0)) (all_fit e.1 (part_of c e.0) f.0 (part_fits c e.0 h)) h)

set_widths : (c : Parts) (p : ℕ) (changes : List Change) → map length (slice_set c p (applied_all changes (part_of c p))) ≡ map length c
set_widths [] p changes = refl
set_widths (x ∷ c) zero changes = ap (λ n. n ∷ map length c) (length-applied_all changes x)
set_widths (x ∷ c) (suc p) changes = ap (λ l. length x ∷ l) (set_widths c p changes)

-- the widths stay
pub widths_after : (es : List Entry) (c : Parts) → map length (applied_updates es c) ≡ map length c
widths_after [] c = refl
widths_after (e ∷ es) c = widths_after es (slice_set c e.0 (applied_all e.1 (part_of c e.0))) ∙ set_widths c e.0 e.1

-- updates that have the widths are of the one object
pub owned_all : (widths : List ℕ) (object : ℕ) (es : List Entry) (c : Parts) → object ≡ 0 → map length c ≡ widths → HasWidths es c → EachOwned (homes_from 0 (length widths)) object es
owned_all widths object [] c o w h = tt
owned_all widths object (e ∷ es) c o w h = (owned_at widths object e.0 o (omega (arith, h.0, ap length w, length-lengths c)), owned_all widths object es c o w h.2)
  where
    length-lengths : (d : Parts) → length (map length d) ≡ length d
    length-lengths [] = refl
    length-lengths (x ∷ d) = ap suc (length-lengths d)
