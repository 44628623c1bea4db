-- What was read is part of all contents that have the claims, and what of the parts is known.
use Rattle.std.proofs.Common.{◌≡◌, ℕ, ℤ, nat_eq, Some, None, List, [], ◌∷◌, ◌++◌, refl, ap, sym, ◌∙◌, subst, eqb-true, eq-eqb, inl, inr}
use Rattle.std.proofs.lemmas.Bool.{cases_Bool}
use Rattle.sto_part.specs.Parts.{part_of}
use Rattle.sto_core.specs.declared.view.Claim.{Claim}
use Rattle.sto_core.specs.declared.view.View.{View}
use Rattle.sto_core.specs.Lists.{Among}
use Rattle.sto_core.specs.History.{Validity}
use Rattle.sto_core.specs.Tells.{ClaimsFit}
use Rattle.sto_type.specs.Known.{Parts, IsPartOf}
use Rattle.sto_attempt_log.specs.declared.read_entry.ReadEntry.{ReadEntry}
use Rattle.sto_attempt_log.specs.ReadSet.{words_in, ticket_in, claim_of, IsClaimed, AreClaimed, HasClaims}

-- the words of a part that was read are those of its claim
pub claimed_words : (v : View) (number : ℕ) (ss : List ReadEntry) (d : Parts) (p : ℕ) (ws : List ℤ) → AreClaimed v number ss → HasClaims v number d → words_in ss p ≡ Some ws → part_of d p ≡ ws
claimed_words v number [] d p ws a h e = cc
claimed_words v number (s ∷ ss) d p ws a h e = elim (cases_Bool (nat_eq s.part p)) [
  | inl hit ↦
      let known = rw hit at e in
      let own : s.words.items ≡ ws = cc in
      ap (part_of d) (sym (eqb-true s.part p hit)) ∙ h a.0.among.0 (claim_of v number s) a.0.among.1 refl refl ∙ own
  | inr miss ↦ claimed_words v number ss d p ws a.1 h (rw miss at e)
]

pub part_of_claims : (v : View) (number : ℕ) (ss : List ReadEntry) (d : Parts) → AreClaimed v number ss → HasClaims v number d → IsPartOf (words_in ss) d
part_of_claims v number ss d a h = record { same = λ p ws below e. claimed_words v number ss d p ws a h e }

-- there are valid contents that have the claims of a number
pub claims_fit : (valid : Validity) (v : View) (number : ℕ) → ClaimsFit valid v → (d : Parts) × valid v.sizes d × HasClaims v number d
claims_fit valid v number fit =
    let f = fit number in
    (f.0, f.1, λ j c there start is. f.2 j c there is)

-- one more part
pub words_more : (ss : List ReadEntry) (s : ReadEntry) (p : ℕ) (ws : List ℤ) → words_in ss p ≡ Some ws → words_in (ss ++ s ∷ []) p ≡ Some ws
words_more [] s p ws e = cc
words_more (t ∷ ss) s p ws e = elim (cases_Bool (nat_eq t.part p)) [
  | inl hit ↦ rw hit (rw hit at e)
  | inr miss ↦ rw miss (words_more ss s p ws (rw miss at e))
]

pub words_new : (ss : List ReadEntry) (s : ReadEntry) → words_in ss s.part ≡ None → words_in (ss ++ s ∷ []) s.part ≡ Some s.words.items
words_new [] s e = rw (eq-eqb s.part s.part refl) refl
words_new (t ∷ ss) s e = elim (cases_Bool (nat_eq t.part s.part)) [
  | inl hit ↦ let known = rw hit at e in cc
  | inr miss ↦ rw miss (words_new ss s (rw miss at e))
]

pub part_of_fewer : (ss : List ReadEntry) (s : ReadEntry) (d : Parts) → IsPartOf (words_in (ss ++ s ∷ [])) d → IsPartOf (words_in ss) d
part_of_fewer ss s d h = record { same = λ p ws below e. h.same p ws below (words_more ss s p ws e) }

-- claims stay while the view keeps its claims, and one more part joins them
pub claimed_still : (v w : View) (number : ℕ) (ss : List ReadEntry) → w.starts ≡ v.starts → ((c : Claim) → Among c v.claims → Among c w.claims) → AreClaimed v number ss → AreClaimed w number ss
claimed_still v w number [] same keeps a = tt
claimed_still v w number (s ∷ ss) same keeps a =
    let there : Among (claim_of v number s) w.claims = keeps (claim_of v number s) a.0.among in
    let is : claim_of v number s ≡ claim_of w number s = ap (λ n. record { start = n; number = number; part = s.part; ticket = s.ticket; words = s.words.items }) (sym same) in
    (record { among = subst (λ (c : Claim). Among c w.claims) is there; early = a.0.early }, claimed_still v w number ss same keeps a.1)

pub claimed_more : (v : View) (number : ℕ) (ss : List ReadEntry) (s : ReadEntry) → AreClaimed v number ss → IsClaimed v number s → AreClaimed v number (ss ++ s ∷ [])
claimed_more v number [] s a h = (h, tt)
claimed_more v number (t ∷ ss) s a h = (a.0, claimed_more v number ss s a.1 h)

-- the tickets
pub ticket_more : (ss : List ReadEntry) (s : ReadEntry) (p t : ℕ) → ticket_in ss p ≡ Some t → ticket_in (ss ++ s ∷ []) p ≡ Some t
ticket_more [] s p t e = cc
ticket_more (x ∷ ss) s p t e = elim (cases_Bool (nat_eq x.part p)) [
  | inl hit ↦ rw hit (rw hit at e)
  | inr miss ↦ rw miss (ticket_more ss s p t (rw miss at e))
]

pub ticket_new : (ss : List ReadEntry) (s : ReadEntry) → words_in ss s.part ≡ None → ticket_in (ss ++ s ∷ []) s.part ≡ Some s.ticket
ticket_new [] s e = rw (eq-eqb s.part s.part refl) refl
ticket_new (x ∷ ss) s e = elim (cases_Bool (nat_eq x.part s.part)) [
  | inl hit ↦ let known = rw hit at e in cc
  | inr miss ↦ rw miss (ticket_new ss s (rw miss at e))
]
