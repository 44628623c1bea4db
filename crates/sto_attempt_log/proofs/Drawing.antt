-- What an entry looks at, by the view, is what the attempt observed; so the draw may be made.
use Rattle.std.proofs.Common.{◌≡◌, ℕ, zero, suc, ℤ, Bool, true, false, nat_eq, ◌||◌, Option, Some, None, List, [], ◌∷◌, ◌++◌, map, refl, ap, sym, ◌∙◌, subst, eqb-true, eq-eqb, inl, inr, true≢false}
use Rattle.std.proofs.lemmas.Bool.{cases_Bool}
use mathlib.Core.Option.{some, some-ne-none, some-injective}
use lib.ListN.{get_elem?}
use Rattle.sto_part.specs.Parts.{part_of}
use Rattle.sto_item.specs.declared.item.Item.{Item}
use Rattle.sto_item.specs.declared.item.Item.TheVariants.{Seen, Holds}
use Rattle.sto_item.specs.Agreement.{Agrees, AreTrueOf}
use Rattle.std.specs.Prelude.{IsSome, if◌then◌else◌}
use Rattle.sto_attempt_log.proofs.Observing.{WasTrue}
use Rattle.sto_item.specs.Pending.{Entry as Update, applied_updates}
use Rattle.sto_model.specs.PlainReplies.{PlainReply}
use Rattle.sto_model.specs.Run.{Behaviour}
use Rattle.sto_core.specs.declared.view.Claim.{Claim}
use Rattle.sto_core.specs.declared.view.Looked.{Looked}
use Rattle.sto_core.specs.declared.view.View.{View}
use Rattle.sto_core.specs.Lists.{Among}
use Rattle.sto_core.specs.Views.{any_claim, last_claim, no_claim, is_recent, is_standing, seen_part, loaded_part, looked_parts, looked_by_hold, looked_by_claim, hold_of, holds}
use Rattle.sto_core.specs.History.{Validity, KeepsValid}
use Rattle.sto_core.specs.Allowed.{WasSeen}
use Rattle.sto_core.specs.Tells.{ClaimsFit}
use Rattle.sto_core.proofs.Claims.{last_among}
use Rattle.sto_core.proofs.Lists.{both_are}
use Rattle.sto_type.specs.Known.{Parts, Known, IsPartOf}
use Rattle.sto_type.specs.Meaning.{Meaning, IsLawful}
use Rattle.sto_attempt_log.specs.declared.read_entry.ReadEntry.{ReadEntry}
use Rattle.sto_attempt_log.specs.Every.{AllOf}
use Rattle.sto_attempt_log.specs.ReadSet.{IsTrueIn, AreOnly, ticket_in, words_in, claim_of, IsClaimed, AreClaimed}
use Rattle.sto_attempt_log.specs.Log.{IsLog, IsRead}
use Rattle.sto_attempt_log.specs.Looking.{IsLooked, LooksAt, IsCovered}
use Rattle.sto_attempt_log.proofs.Looking.{looked_keeps}

or_right : (a b : Bool) → b ≡ true → (a || b) ≡ true
or_right true b h = refl
or_right false b h = h

or_left : (a b : Bool) → a ≡ true → (a || b) ≡ true
or_left true b h = refl
or_left false b h = absurd (true≢false (sym h))

-- a claim of the list that is of this kind
pub any_at : (f : Claim → Bool) (cs : List Claim) (j : ℕ) (c : Claim) → get_elem? cs j ≡ some c → f c ≡ true → any_claim f cs ≡ true
any_at f [] j c e h = absurd (some-ne-none c (sym e))
any_at f (d ∷ cs) zero c e h = or_left (f d) (any_claim f cs) (ap f (some-injective d c e) ∙ h)
any_at f (d ∷ cs) (suc j) c e h = or_right (f d) (any_claim f cs) (any_at f cs j c e h)

-- the claim of a part that was read
pub read_entry_of : (v : View) (number : ℕ) (ss : List ReadEntry) (p : ℕ) (ws : List ℤ) → AreClaimed v number ss → words_in ss p ≡ Some ws → (s : ReadEntry) × IsClaimed v number s × (s.part ≡ p) × (s.words.items ≡ ws)
read_entry_of v number [] p ws a e = cc
read_entry_of v number (s ∷ ss) p ws a e = elim (cases_Bool (nat_eq s.part p)) [
  | inl hit ↦ let known = rw hit at e in let own : s.words.items ≡ ws = cc in (s, a.0, eqb-true s.part p hit, own)
  | inr miss ↦ read_entry_of v number ss p ws a.1 (rw miss at e)
]

module _ (valid : Validity) (v : View) (at : ℕ) (base : List ReadEntry) (number : v.at ≡ at) (claimed : AreClaimed v at base) (fit : ClaimsFit valid v) (p : ℕ) (ws : List ℤ) (read : words_in base p ≡ Some ws) where
  the_read_entry : (s : ReadEntry) × IsClaimed v at s × (s.part ≡ p) × (s.words.items ≡ ws)
  the_read_entry = read_entry_of v at base p ws claimed read

  stands : is_standing v p (claim_of v at the_read_entry.0) ≡ true
  stands = rw (eq-eqb at v.at (sym number), eq-eqb the_read_entry.0.part p the_read_entry.2, eq-eqb v.starts v.starts refl) refl

  -- a part that was read was seen by the view
  pub was_seen : WasSeen v p
  was_seen = any_at (is_standing v p) v.claims the_read_entry.1.among.0 (claim_of v at the_read_entry.0) the_read_entry.1.among.1 stands

  -- and what the entry looks at are the words that were read
  pub seen_words : (seen_part v p).words ≡ ws
  seen_words =
      let last = last_among (is_standing v p) no_claim v.claims was_seen in
      let c : Claim = last_claim (is_standing v p) no_claim v.claims in
      let both : (nat_eq c.number v.at ≡ true) × (is_recent v p c ≡ true) = both_are (nat_eq c.number v.at) (is_recent v p c) last.2 in
      let of_part : (nat_eq c.part p ≡ true) × (nat_eq c.start v.starts ≡ true) = both_are (nat_eq c.part p) (nat_eq c.start v.starts) both.1 in
      let whole = fit at in
      let there : part_of whole.0 c.part ≡ c.words = whole.2 last.0 c last.1 (eqb-true c.number v.at both.0 ∙ number) in
      let own : part_of whole.0 the_read_entry.0.part ≡ the_read_entry.0.words.items = whole.2 the_read_entry.1.among.0 (claim_of v at the_read_entry.0) the_read_entry.1.among.1 refl in
      sym there ∙ ap (part_of whole.0) (eqb-true c.part p of_part.0 ∙ sym the_read_entry.2) ∙ own ∙ the_read_entry.3

-- and its ticket is the one with which the part was read
pub seen_ticket : (v : View) (at : ℕ) (base : List ReadEntry) (p : ℕ) → v.at ≡ at → AreOnly v at base → WasSeen v p → ticket_in base p ≡ Some (seen_part v p).ticket
seen_ticket v at base p number only seen =
    let last = last_among (is_standing v p) no_claim v.claims seen in
    let c : Claim = last_claim (is_standing v p) no_claim v.claims in
    let both : (nat_eq c.number v.at ≡ true) × (is_recent v p c ≡ true) = both_are (nat_eq c.number v.at) (is_recent v p c) last.2 in
    let of_part : (nat_eq c.part p ≡ true) × (nat_eq c.start v.starts ≡ true) = both_are (nat_eq c.part p) (nat_eq c.start v.starts) both.1 in
    let h : ticket_in base c.part ≡ Some c.ticket = only last.0 c last.1 (eqb-true c.start v.starts of_part.1) (eqb-true c.number v.at both.0 ∙ number) in
    subst (λ (q : ℕ). ticket_in base q ≡ Some c.ticket) (eqb-true c.part p of_part.0) h

-- the draw keeps validity where its looked parts are what the items observe
pub draw_keeps_valid :
    (m : Meaning) (law : IsLawful m) (valid : Validity) (sizes : List ℕ) (f : Behaviour) (base : Known) (items : List Item) (es : List Update) (rs : List PlainReply) (looked : List Looked) (d : Parts)
    → ((c : Parts) → valid sizes c → m.valid c) → ((c : Parts) → m.valid c → valid sizes c) → m.valid d → IsPartOf base d
    → IsLog m f base items es rs → AllOf (LooksAt base looked) items → KeepsValid valid sizes looked es
draw_keeps_valid m law valid sizes f base items es rs looked d here there v part log looks = λ c w shows.
    there (applied_updates es c) (looked_keeps m law f base rs d v part items es looked c log looks (here c w) shows)

among_map : {A B : Type 0} (f : A → B) (l : List A) (x : A) → Among x l → Among (f x) (map f l)
among_map {A} f l x a = (a.0, at l a.0 x a.1)
  where
    at : (l : List A) (j : ℕ) (x : A) → get_elem? l j ≡ some x → get_elem? (map f l) j ≡ some (f x)
    at [] j x e = absurd (some-ne-none x (sym e))
    at (y ∷ l) zero x e = ap (λ z. some (f z)) (some-injective y x e)
    at (y ∷ l) (suc j) x e = at l j x e

among_left : {A : Type 0} (xs ys : List A) (x : A) → Among x xs → Among x (xs ++ ys)
among_left {A} xs ys x a = (a.0, at xs a.0 a.1)
  where
    at : (l : List A) (j : ℕ) → get_elem? l j ≡ some x → get_elem? (l ++ ys) j ≡ some x
    at [] j e = absurd (some-ne-none x (sym e))
    at (y ∷ l) zero e = e
    at (y ∷ l) (suc j) e = at l j e

among_right : {A : Type 0} (xs ys : List A) (x : A) → Among x ys → Among x (xs ++ ys)
among_right [] ys x a = a
among_right (y ∷ xs) ys x a = let r = among_right xs ys x a in (suc r.0, r.1)

pub read_words : (base : List ReadEntry) (p : ℕ) → IsSome (words_in base p) → (ws : List ℤ) × (words_in base p ≡ Some ws)
read_words base p h = by (words_in base p) refl h
  where
    by : (o : Option (List ℤ)) → words_in base p ≡ o → IsSome o → (ws : List ℤ) × (words_in base p ≡ Some ws)
    by None e h = cc
    by (Some ws) e h = (ws, e)

-- the entry of a draw looks at what the items observe, where each is covered by the parts seen and loaded
module _ (valid : Validity) (v : View) (at : ℕ) (base : List ReadEntry) (number : v.at ≡ at) (claimed : AreClaimed v at base) (fit : ClaimsFit valid v) (seen loaded : List ℕ) where
  seen_looked : (p : ℕ) (ws : List ℤ) → Among p seen → words_in base p ≡ Some ws → IsLooked (looked_parts v seen loaded) p ws
  seen_looked p ws a e = record {
    one = seen_part v p;
    among = among_left (map (seen_part v) seen) (map (loaded_part v) loaded) (seen_part v p) (among_map (seen_part v) seen p a);
    of_part = refl;
    with_words = seen_words valid v at base number claimed fit p ws e;
  }

  loaded_is : (b : Bool) (p : ℕ) → (if b then looked_by_hold v p (hold_of p v.held) else looked_by_claim p (last_claim (is_recent v p) no_claim v.claims)).part ≡ p
  loaded_is true p = refl
  loaded_is false p = refl

  pub draw_looks : (items : List Item) → AllOf (IsRead (words_in base)) items → AllOf (WasTrue (words_in base)) items → AllOf (IsCovered v seen loaded) items → AllOf (LooksAt (words_in base) (looked_parts v seen loaded)) items
  draw_looks [] r t c = tt
  draw_looks (Seen p ∷ is) r t c =
      let k : (ws : List ℤ) × (words_in base p ≡ Some ws) = read_words base p r.0 in
      (record { words = k.0; read = k.1; looked_at = seen_looked p k.0 c.0 k.1 }, draw_looks is r.1 t.1 c.1)
  draw_looks (Holds q ∷ is) r t c = (
    elim c.0 [
      | inl there ↦
          let k : (ws : List ℤ) × (words_in base q.part ≡ Some ws) = read_words base q.part r.0 in
          record { words = k.0; looked_at = seen_looked q.part k.0 there k.1; holds = t.0 k.0 k.1 }
      | inr tested ↦ record {
        words = (loaded_part v q.part).words;
        looked_at = record {
          one = loaded_part v q.part;
          among = among_right (map (seen_part v) seen) (map (loaded_part v) loaded) (loaded_part v q.part) (among_map (loaded_part v) loaded q.part tested.0);
          of_part = loaded_is (holds q.part v.held) q.part;
          with_words = refl;
        };
        holds = tested.1;
      }
    ],
    draw_looks is r.1 t.1 c.1,
  )

-- the predicates were true of the words that were read
pub were_true : (m : Meaning) (base : Known) (items : List Item) (d : Parts) → ((p : ℕ) (ws : List ℤ) → base p ≡ Some ws → part_of d p ≡ ws) → AreTrueOf d items → AllOf (WasTrue base) items
were_true m base items d known h = by items h
  where
    by : (is : List Item) → Agrees d is d → AllOf (WasTrue base) is
    by [] h = tt
    by (Seen p ∷ is) h = (tt, by is h.1)
    by (Holds q ∷ is) h = (λ ws e. subst (λ (l : List ℤ). IsTrueIn l q) (known q.part ws e) h.0, by is h.1)
