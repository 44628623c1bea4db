-- What words are read as.
use Rattle.std.proofs.Common.{◌≡◌, ℕ, zero, suc, ◌+◌, ◌<◌, ◌≤◌, ◌^◌, List, [], ◌∷◌, length, refl, sym, ap, ◌∙◌, subst, Bool, true, false, cond, Option, None, Some, arith, position, codes}
use Rattle.std.specs.List.{slice_split, count_by}
use Rattle.std.specs.Option.{option_map}
use Rattle.std.specs.Str.{bytes_eq}
use Rattle.std.specs.Str.Parse.{digits_value}
use Rattle.std.proofs.lemmas.List.Splits.{length-slice_split}
use Rattle.sto_report_spec.specs.Orders.{TransactionPlace as Place}
use Rattle.sto_report_spec.specs.Aborts.{LocalPart, Cause, Locked, Changed, Abort}
use Rattle.sto_report_spec.specs.Named.{is_dot, is_space, place_in, place_of_pieces, named_in}
use Rattle.sto_report_spec.specs.NamedAborts.{Heard, reply_in, part_by, locked_in, changed_in, heard_in, abort_by, aborts_in}
use Rattle.sto_checker.specs.declared.transaction.TransactionPlace.{TransactionPlace}
use Rattle.sto_checker.specs.declared.told.ToldCause.{ToldCause}
use Rattle.sto_checker.specs.Reading.{place_of, IsReadAs, begins_with_digit, IsSmallCause, IsSmall, IsCauseRead, IsOnlyCause, IsHeardRead, IsTold}

-- there is at least one piece
pub record Pieces (pieces : List (List ℕ)) : Type 0 where
  pub first : List ℕ
  pub others : List (List ℕ)
  pub are : pieces ≡ first ∷ others

pieces_by : (pieces : List (List ℕ)) → 0 < length pieces → Pieces pieces
pieces_by [] l = absurd (omega (arith, l))
pieces_by (first ∷ others) l = record { first = first; others = others; are = refl }

pub some_pieces : (p : ℕ → Bool) (xs : List ℕ) → Pieces (slice_split p xs)
some_pieces p xs = pieces_by (slice_split p xs) (omega (arith, length-slice_split p xs))

-- Transactions.

same_position : (place other : Place) → place ∷ [] ≡ other ∷ [] → place.1 ≡ other.1
same_position place other e = ap position_in e
  where
    position_in : List Place → ℕ
    position_in [] = 0
    position_in (p ∷ ps) = p.1

module _ (names : List (List ℕ)) where
  no_place : (place : Place) → [] ≡ place ∷ [] → 2 ^ 32 ≤ place.1
  no_place place e = absurd cc

  pub one_piece : (pieces : List (List ℕ)) (a : List ℕ) → pieces ≡ a ∷ [] → IsReadAs (place_of_pieces names pieces) None
  one_piece pieces a e place f = no_place place (ap (place_of_pieces names) (sym e) ∙ f)

  pub more_pieces : (pieces : List (List ℕ)) (a b : List ℕ) (p : ℕ → Bool) (xs : List ℕ) → pieces ≡ a ∷ b ∷ slice_split p xs → IsReadAs (place_of_pieces names pieces) None
  more_pieces pieces a b p xs e place f =
      let more = some_pieces p xs in
      no_place place (sym (ap (place_of_pieces names) e ∙ ap (λ (ps : List (List ℕ)). place_of_pieces names (a ∷ b ∷ ps)) more.are) ∙ f)

  pub unknown : (pieces : List (List ℕ)) (a b : List ℕ) → pieces ≡ a ∷ b ∷ [] → position (bytes_eq a) names ≡ None → IsReadAs (place_of_pieces names pieces) None
  unknown pieces a b e n place f = no_place place (sym (ap (place_of_pieces names) e ∙ ap (λ (t : Option ℕ). place_in t b) n) ∙ f)

  pub too_large : (pieces : List (List ℕ)) (a b : List ℕ) (t : ℕ) → pieces ≡ a ∷ b ∷ [] → position (bytes_eq a) names ≡ Some t → 2 ^ 32 ≤ digits_value 10 b → IsReadAs (place_of_pieces names pieces) None
  too_large pieces a b t e n l place f =
      let here : Place = (t, digits_value 10 b) in
      let named : place_of_pieces names pieces ≡ here ∷ [] = ap (place_of_pieces names) e ∙ ap (λ (o : Option ℕ). place_in o b) n in
      let same = same_position here place (sym named ∙ f) in
      omega (arith, l, same)

  pub read_place : (pieces : List (List ℕ)) (a b : List ℕ) (t n : ℕ) → pieces ≡ a ∷ b ∷ [] → position (bytes_eq a) names ≡ Some t → digits_value 10 b ≡ n
      → place_of_pieces names pieces ≡ (t, n) ∷ []
  read_place pieces a b t n e k d =
      ap (place_of_pieces names) e ∙ ap (λ (o : Option ℕ). place_in o b) k ∙ ap (λ (m : ℕ). let place : Place = (t, m) in place ∷ []) d

  -- journal lines

  lone : (a : List ℕ) → named_in names (a ∷ []) ≡ []
  lone [] = refl
  lone (b ∷ bytes) = refl

  pub one_word : (words : List (List ℕ)) (a : List ℕ) → words ≡ a ∷ [] → IsReadAs (named_in names words) None
  one_word words a e place f = no_place place (sym (ap (named_in names) e ∙ lone a) ∙ f)

  by_digit : (a b : List ℕ) (ws : List (List ℕ)) (t : Bool) → begins_with_digit a ≡ t → named_in names (a ∷ b ∷ ws) ≡ cond t (place_of_pieces names (slice_split is_dot b)) []
  by_digit [] b ws true e = absurd cc
  by_digit [] b ws false e = refl
  by_digit (c ∷ cs) b ws t e = ap (λ (x : Bool). cond x (place_of_pieces names (slice_split is_dot b)) []) e

  pub no_digit : (words : List (List ℕ)) (a b : List ℕ) (ws : List (List ℕ)) → words ≡ a ∷ b ∷ ws → begins_with_digit a ≡ false → IsReadAs (named_in names words) None
  no_digit words a b ws e d place f = no_place place (sym (ap (named_in names) e ∙ by_digit a b ws false d) ∙ f)

  pub second_word : (words : List (List ℕ)) (a b : List ℕ) (ws : List (List ℕ)) → words ≡ a ∷ b ∷ ws → begins_with_digit a ≡ true → named_in names words ≡ place_of_pieces names (slice_split is_dot b)
  second_word words a b ws e d = ap (named_in names) e ∙ by_digit a b ws true d

pub read_same : (places others : List Place) (read : Option TransactionPlace) → places ≡ others → IsReadAs others read → IsReadAs places read
read_same places others read e h = subst (λ (ps : List Place). IsReadAs ps read) (sym e) h

-- Causes.

-- the head of an option
same_heard : (g h : Heard) → Some g ≡ Some h → g ≡ h
same_heard g h e = ap (λ (o : Option Heard). heard_or o) e
  where
    heard_or : Option Heard → Heard
    heard_or None = g
    heard_or (Some x) = x

never : {A : Type 0} (h : Heard) → None ≡ Some h → A
never h e = absurd cc

part_small : (n : ℕ) → 2 ^ 32 ≤ n → n < 2 ^ 32 → ⊥
part_small n l k = absurd (omega (arith, l, k))

made_locked : List ℕ → List ℕ → Heard
made_locked a b = record { replies = []; cause = Locked (part_by a b) }

module _ (words : List (List ℕ)) (a b : List ℕ) (e : words ≡ a ∷ b ∷ []) (h : Heard) (f : locked_in words ≡ Some h) where
  locked_is : record { replies = []; cause = Locked (part_by a b) } ≡ h
  locked_is = same_heard (record { replies = []; cause = Locked (part_by a b) }) h (ap locked_in (sym e) ∙ f)

  pub read_locked : (told : ToldCause) → told.object.now ≡ a → digits_value 10 b ≡ told.part → told.by ≡ None → IsOnlyCause h (Some told)
  read_locked told o d n = subst (λ (x : Heard). IsOnlyCause x (Some told)) locked_is (refl, (o, sym d, n))

  pub large_locked : 2 ^ 32 ≤ digits_value 10 b → IsSmallCause h.cause → ⊥
  large_locked l small = part_small (digits_value 10 b) l (subst (λ (x : Heard). IsSmallCause x.cause) (sym locked_is) small)

pub locked_one : (words : List (List ℕ)) (a : List ℕ) → words ≡ a ∷ [] → (h : Heard) → locked_in words ≡ Some h → ⊥
locked_one words a e h f = never h (ap locked_in (sym e) ∙ f)

pub locked_more : (words : List (List ℕ)) (a b : List ℕ) (p : ℕ → Bool) (xs : List ℕ) → words ≡ a ∷ b ∷ slice_split p xs → (h : Heard) → locked_in words ≡ Some h → ⊥
locked_more words a b p xs e h f =
    let more = some_pieces p xs in
    let is : words ≡ a ∷ b ∷ more.first ∷ more.others = e ∙ ap (λ (ps : List (List ℕ)). a ∷ b ∷ ps) more.are in
    never h (ap locked_in (sym is) ∙ f)

module _ (words : List (List ℕ)) (a b by c : List ℕ) (e : words ≡ a ∷ b ∷ by ∷ c ∷ []) (h : Heard) (f : changed_in words ≡ Some h) where
  changed_is : record { replies = []; cause = Changed (part_by a b) (digits_value 10 c) } ≡ h
  changed_is = same_heard (record { replies = []; cause = Changed (part_by a b) (digits_value 10 c) }) h (ap changed_in (sym e) ∙ f)

  pub read_changed : (told : ToldCause) (n : ℕ) → told.object.now ≡ a → digits_value 10 b ≡ told.part → digits_value 10 c ≡ n → told.by ≡ Some n → IsOnlyCause h (Some told)
  read_changed told n o d k t = subst (λ (x : Heard). IsOnlyCause x (Some told)) changed_is (refl, (o, sym d, t ∙ ap Some (sym k)))

  pub large_part : 2 ^ 32 ≤ digits_value 10 b → IsSmallCause h.cause → ⊥
  large_part l small = part_small (digits_value 10 b) l (subst (λ (x : Heard). IsSmallCause x.cause) (sym changed_is) small).0

  pub large_writer : 2 ^ 32 ≤ digits_value 10 c → IsSmallCause h.cause → ⊥
  large_writer l small = part_small (digits_value 10 c) l (subst (λ (x : Heard). IsSmallCause x.cause) (sym changed_is) small).1

pub changed_one : (words : List (List ℕ)) (a : List ℕ) → words ≡ a ∷ [] → (h : Heard) → changed_in words ≡ Some h → ⊥
changed_one words a e h f = never h (ap changed_in (sym e) ∙ f)

pub changed_two : (words : List (List ℕ)) (a b : List ℕ) → words ≡ a ∷ b ∷ [] → (h : Heard) → changed_in words ≡ Some h → ⊥
changed_two words a b e h f = never h (ap changed_in (sym e) ∙ f)

pub changed_three : (words : List (List ℕ)) (a b c : List ℕ) → words ≡ a ∷ b ∷ c ∷ [] → (h : Heard) → changed_in words ≡ Some h → ⊥
changed_three words a b c e h f = never h (ap changed_in (sym e) ∙ f)

pub changed_more : (words : List (List ℕ)) (a b c d : List ℕ) (p : ℕ → Bool) (xs : List ℕ) → words ≡ a ∷ b ∷ c ∷ d ∷ slice_split p xs → (h : Heard) → changed_in words ≡ Some h → ⊥
changed_more words a b c d p xs e h f =
    let more = some_pieces p xs in
    let is : words ≡ a ∷ b ∷ c ∷ d ∷ more.first ∷ more.others = e ∙ ap (λ (ps : List (List ℕ)). a ∷ b ∷ c ∷ d ∷ ps) more.are in
    never h (ap changed_in (sym is) ∙ f)

-- Replies before a cause.

module _ (words : List (List ℕ)) (w : List ℕ) (ws : List (List ℕ)) (e : words ≡ w ∷ ws) where
  abbrev more_heard : Option Heard
  more_heard = option_map (λ (h : Heard). record { replies = reply_in w ∷ h.replies; cause = h.cause }) (heard_in ws)

  pub heard_locked : bytes_eq w (codes "locked") ≡ true → heard_in words ≡ locked_in ws
  heard_locked l = ap heard_in e ∙ ap (λ (b : Bool). cond b (locked_in ws) (cond (bytes_eq w (codes "changed")) (changed_in ws) more_heard)) l

  pub heard_changed : bytes_eq w (codes "locked") ≡ false → bytes_eq w (codes "changed") ≡ true → heard_in words ≡ changed_in ws
  heard_changed l k =
      ap heard_in e
      ∙ ap (λ (b : Bool). cond b (locked_in ws) (cond (bytes_eq w (codes "changed")) (changed_in ws) more_heard)) l
      ∙ ap (λ (b : Bool). cond b (changed_in ws) more_heard) k

  heard_reply : bytes_eq w (codes "locked") ≡ false → bytes_eq w (codes "changed") ≡ false → heard_in words ≡ more_heard
  heard_reply l k =
      ap heard_in e
      ∙ ap (λ (b : Bool). cond b (locked_in ws) (cond (bytes_eq w (codes "changed")) (changed_in ws) more_heard)) l
      ∙ ap (λ (b : Bool). cond b (changed_in ws) more_heard) k

  pub record OneMore (h : Heard) : Type 0 where
    pub rest : Heard
    pub are : heard_in ws ≡ Some rest
    pub replies : length h.replies ≡ suc (length rest.replies)
    pub cause : h.cause ≡ rest.cause

  unmapped : (o : Option Heard) (h : Heard) → heard_in ws ≡ o → option_map (λ (x : Heard). record { replies = reply_in w ∷ x.replies; cause = x.cause }) o ≡ Some h → OneMore h
  unmapped None h k f = never h f
  unmapped (Some g) h k f =
      let same = same_heard (record { replies = reply_in w ∷ g.replies; cause = g.cause }) h f in
      record { rest = g; are = k; replies = ap (λ (x : Heard). length x.replies) (sym same); cause = ap (λ (x : Heard). x.cause) (sym same) }

  pub one_more_heard : bytes_eq w (codes "locked") ≡ false → bytes_eq w (codes "changed") ≡ false → (h : Heard) → heard_in words ≡ Some h → OneMore h
  one_more_heard l k h f = unmapped (heard_in ws) h refl (sym (heard_reply l k) ∙ f)

-- the last word is no cause
pub last_word : (words : List (List ℕ)) (w : List ℕ) → words ≡ w ∷ [] → (h : Heard) → heard_in words ≡ Some h → ⊥
last_word words w e h f = by (bytes_eq w (codes "locked")) (bytes_eq w (codes "changed")) (ap heard_in (sym e) ∙ f)
  where
    by : (l k : Bool) → cond l (locked_in []) (cond k (changed_in []) (option_map (λ (x : Heard). record { replies = reply_in w ∷ x.replies; cause = x.cause }) (heard_in []))) ≡ Some h → ⊥
    by true k g = never h g
    by false true g = never h g
    by false false g = never h g

-- the replies before, and a cause
pub heard_after : (h g : Heard) (n : ℕ) (told : ToldCause) → length h.replies ≡ n + length g.replies → h.cause ≡ g.cause → IsOnlyCause g (Some told) → IsHeardRead h (Some (n, told))
heard_after h g n told e f only =
    (let none = only.0 in omega (arith, e, none), subst (λ (c : Cause). IsCauseRead c told) (sym f) only.1)

-- Abort lines.

module _ (names : List (List ℕ)) where
  pub few_words : (words : List (List ℕ)) (n : ℕ) → n < 5 → length words ≡ n → aborts_in names words ≡ []
  few_words [] n l e = refl
  few_words (a ∷ []) n l e = refl
  few_words (a ∷ b ∷ []) n l e = refl
  few_words (a ∷ b ∷ c ∷ []) n l e = refl
  few_words (a ∷ b ∷ c ∷ d ∷ []) n l e = refl
  few_words (a ∷ b ∷ c ∷ d ∷ f ∷ ws) n l e = absurd (omega (arith, l, e))

-- what names an aborted attempt, by its parts
pub record Named (places : List Place) (seen : ℕ) (heard : Option Heard) (a : Abort) : Type 0 where
  pub place : places ≡ a.place ∷ []
  pub seen_is : a.seen ≡ seen
  pub heard_is : heard ≡ Some (record { replies = a.replies; cause = a.cause })

no_abort : {A : Type 0} (a : Abort) → [] ≡ a ∷ [] → A
no_abort a e = absurd cc

same_abort : (a b : Abort) → a ∷ [] ≡ b ∷ [] → a ≡ b
same_abort a b e = ap (λ (l : List Abort). first_of l) e
  where
    first_of : List Abort → Abort
    first_of [] = a
    first_of (x ∷ xs) = x

pub named_by : (places : List Place) (seen : ℕ) (heard : Option Heard) (a : Abort) → abort_by places seen heard ≡ a ∷ [] → Named places seen heard a
named_by [] seen None a e = no_abort a e
named_by [] seen (Some h) a e = no_abort a e
named_by (p ∷ q ∷ ps) seen None a e = no_abort a e
named_by (p ∷ q ∷ ps) seen (Some h) a e = no_abort a e
named_by (p ∷ []) seen None a e = no_abort a e
named_by (p ∷ []) seen (Some h) a e =
    let same = same_abort (record { place = p; seen = seen; replies = h.replies; cause = h.cause }) a e in
    record {
      place = ap (λ (x : Abort). x.place ∷ []) same;
      seen_is = ap (λ (x : Abort). x.seen) (sym same);
      heard_is = ap (λ (x : Abort). Some (heard_of x)) same;
    }
  where
    heard_of : Abort → Heard
    heard_of x = record { replies = x.replies; cause = x.cause }

module _ (names : List (List ℕ)) (words : List (List ℕ)) (first place at seen saw : List ℕ) (rest : List (List ℕ)) (e : words ≡ first ∷ place ∷ at ∷ seen ∷ saw ∷ rest) where
  abbrev by_first : Bool → List Abort
  by_first b = cond b (abort_by (place_of_pieces names (slice_split is_dot place)) (digits_value 10 seen) (heard_in rest)) []

  pub no_abort_line : bytes_eq first (codes "abort") ≡ false → (a : Abort) → aborts_in names words ≡ a ∷ [] → ⊥
  no_abort_line b a f = no_abort a (sym (ap (aborts_in names) e ∙ ap by_first b) ∙ f)

  pub abort_parts : bytes_eq first (codes "abort") ≡ true → (a : Abort) → aborts_in names words ≡ a ∷ [] → Named (place_of_pieces names (slice_split is_dot place)) (digits_value 10 seen) (heard_in rest) a
  abort_parts b a f = named_by (place_of_pieces names (slice_split is_dot place)) (digits_value 10 seen) (heard_in rest) a (sym (ap (aborts_in names) e ∙ ap by_first b) ∙ f)
