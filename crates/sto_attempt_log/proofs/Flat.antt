-- Parts that were read, kept with the words of all in one list.
use Rattle.std.specs.List.{All, slice_get}
use Rattle.std.specs.Option.{option_map}
use Rattle.std.proofs.Common.{◌≡◌, ◌≤◌, ◌+◌, ◌-◌, ℕ, ℤ, zero, suc, Option, Some, List, [], ◌∷◌, ◌++◌, length, take, drop, refl, arith, ap, ◌∙◌, length-append}
use Rattle.sto_attempt_log.specs.declared.read_entry.ReadEntry.{ReadEntry}
use Rattle.sto_attempt_log.specs.declared.read_entry.ReadHead.{ReadHead}
use Rattle.sto_attempt_log.specs.Flat.{entry_with, entry_of, entries_of, IsWithin}

-- a cut of the front stays where the list becomes longer
cut_longer : (xs ys : List ℤ) (a n : ℕ) → a + n ≤ length xs → take n (drop a (xs ++ ys)) ≡ take n (drop a xs)
cut_longer xs ys zero zero h = refl
cut_longer [] ys zero (suc n) h = absurd (omega (arith, h))
cut_longer (x ∷ xs) ys zero (suc n) h = ap (λ (l : List ℤ). x ∷ l) (cut_longer xs ys zero n (omega (arith, h)))
cut_longer [] ys (suc a) n h = absurd (omega (arith, h))
cut_longer (x ∷ xs) ys (suc a) n h = cut_longer xs ys a n (omega (arith, h))

cut_new : (xs ys : List ℤ) → take (length ys) (drop (length xs) (xs ++ ys)) ≡ ys
cut_new [] [] = refl
cut_new [] (y ∷ ys) = ap (λ (l : List ℤ). y ∷ l) (cut_new [] ys)
cut_new (x ∷ xs) ys = cut_new xs ys

entry_longer : (xs ys : List ℤ) (h : ReadHead) → IsWithin xs h → entry_of (xs ++ ys) h ≡ entry_of xs h
entry_longer xs ys h within =
    let same : (h.start + h.width) - h.start ≡ h.width = omega arith in
    ap (λ (ws : List ℤ). entry_with h.part h.ticket ws) (rw same (cut_longer xs ys h.start h.width within))

rest_within : (xs : List ℤ) (h : ReadHead) (hs : List ReadHead) → All (IsWithin xs) (h ∷ hs) → All (IsWithin xs) hs
rest_within xs h hs all k d l = all (suc k) d (omega (arith, l))

entries_longer : (xs ys : List ℤ) (hs : List ReadHead) → All (IsWithin xs) hs → entries_of (xs ++ ys) hs ≡ entries_of xs hs
entries_longer xs ys [] all = refl
entries_longer xs ys (h ∷ hs) all =
    let first : IsWithin xs h = all 0 h (omega arith) in
    ap (λ (s : ReadEntry). s ∷ entries_of (xs ++ ys) hs) (entry_longer xs ys h first)
    ∙ ap (λ (ss : List ReadEntry). entry_of xs h ∷ ss) (entries_longer xs ys hs (rest_within xs h hs all))

map_last : (xs : List ℤ) (hs : List ReadHead) (h : ReadHead) → entries_of xs (hs ++ h ∷ []) ≡ entries_of xs hs ++ entry_of xs h ∷ []
map_last xs [] h = refl
map_last xs (k ∷ hs) h = ap (λ (ss : List ReadEntry). entry_of xs k ∷ ss) (map_last xs hs h)

-- one more part
pub entries_pushed :
    (xs ys : List ℤ) (hs : List ReadHead) (part ticket start width : ℕ) → start ≡ length xs → width ≡ length ys → All (IsWithin xs) hs
    → entries_of (xs ++ ys) (hs ++ record { part = part; ticket = ticket; start = start; width = width } ∷ []) ≡ entries_of xs hs ++ entry_with part ticket ys ∷ []
entries_pushed xs ys hs part ticket start width at wide all =
    let h : ReadHead = record { part = part; ticket = ticket; start = start; width = width } in
    let same : (start + width) - start ≡ length ys = omega (arith, wide) in
    let cut : take ((start + width) - start) (drop start (xs ++ ys)) ≡ ys = rw (same, at) (cut_new xs ys) in
    map_last (xs ++ ys) hs h ∙ ap (λ (ss : List ReadEntry). ss ++ entry_of (xs ++ ys) h ∷ []) (entries_longer xs ys hs all)
    ∙ ap (λ (ws : List ℤ). entries_of xs hs ++ entry_with part ticket ws ∷ []) cut

within_longer : (xs ys : List ℤ) (h : ReadHead) → IsWithin xs h → IsWithin (xs ++ ys) h
within_longer xs ys h w = omega (arith, w, length-append xs ys)

pub within_pushed :
    (xs ys : List ℤ) (hs : List ReadHead) (h : ReadHead) → h.start ≡ length xs → h.width ≡ length ys → All (IsWithin xs) hs → All (IsWithin (xs ++ ys)) (hs ++ h ∷ [])
within_pushed xs ys [] h at wide all zero d l = omega (arith, at, wide, length-append xs ys)
within_pushed xs ys [] h at wide all (suc k) d l = absurd (omega (arith, l))
within_pushed xs ys (g ∷ hs) h at wide all zero d l = within_longer xs ys g (all 0 g (omega arith))
within_pushed xs ys (g ∷ hs) h at wide all (suc k) d l = within_pushed xs ys hs h at wide (rest_within xs g hs all) k d (omega (arith, l))

-- the part at a place
pub entry_at : (xs : List ℤ) (hs : List ReadHead) (k : ℕ) (h : ReadHead) → slice_get hs k ≡ Some h → slice_get (entries_of xs hs) k ≡ Some (entry_of xs h)
entry_at xs [] k h e = cc
entry_at xs (g ∷ hs) zero h e = ap (λ (o : Option ReadHead). option_map (entry_of xs) o) e
entry_at xs (g ∷ hs) (suc k) h e = entry_at xs hs k h e

pub within_at : (xs : List ℤ) (hs : List ReadHead) (k : ℕ) (h : ReadHead) → All (IsWithin xs) hs → slice_get hs k ≡ Some h → IsWithin xs h
within_at xs [] k h all e = cc
within_at xs (g ∷ hs) zero h all e = subst_within (all 0 g (omega arith)) (ap (λ (o : Option ReadHead). option_map (λ (x : ReadHead). x.start + x.width) o) e)
  where
    subst_within : g.start + g.width ≤ length xs → Some (g.start + g.width) ≡ Some (h.start + h.width) → h.start + h.width ≤ length xs
    subst_within w s = let same : g.start + g.width ≡ h.start + h.width = cc in omega (arith, w, same)
within_at xs (g ∷ hs) (suc k) h all e = within_at xs hs k h (rest_within xs g hs all) e

pub many_entries : (xs : List ℤ) (hs : List ReadHead) → length (entries_of xs hs) ≡ length hs
many_entries xs [] = refl
many_entries xs (h ∷ hs) = ap suc (many_entries xs hs)
