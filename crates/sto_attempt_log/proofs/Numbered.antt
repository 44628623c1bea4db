-- Words that were read in rising place.
use Rattle.std.proofs.Common.{◌≡◌, ◌<◌, ◌+◌, ℕ, zero, suc, ℤ, true, false, nat_eq, Bool, ◌||◌, List, [], ◌∷◌, ◌++◌, length, refl, ap, sym, ◌∙◌, subst, arith, eq-eqb}
use mathlib.Core.Option.{some, some-ne-none, some-injective}
use lib.ListN.{get_elem?}
use Rattle.sto_core.specs.Reads.{was_read, words_read, AllRead, ReadsAgree}
use Rattle.sto_core.proofs.ReadWords.{read_whole}
use Rattle.sto_attempt_log.specs.Standing.{numbered}

pub numbered_more : (k : ℕ) (ws : List ℤ) (x : ℤ) → numbered k (ws ++ x ∷ []) ≡ numbered k ws ++ (k + length ws, x) ∷ []
numbered_more k [] x = let same : k + 0 ≡ k = omega arith in ap (λ n. (n, x) ∷ []) (sym same)
numbered_more k (w ∷ ws) x =
    let same : suc k + length ws ≡ k + suc (length ws) = omega arith in
    ap (λ l. (k, w) ∷ l) (numbered_more (suc k) ws x ∙ ap (λ n. numbered (suc k) ws ++ (n, x) ∷ []) same)

or_right : (a b : Bool) → b ≡ true → (a || b) ≡ true
or_right true b h = refl
or_right false b h = h

or_left : (a b : Bool) → a ≡ true → (a || b) ≡ true
or_left true b h = refl
or_left false b h = absurd (let e : false ≡ true = h in cc)

was_numbered : (k : ℕ) (ws : List ℤ) (j : ℕ) → j < length ws → was_read (numbered k ws) (k + j) ≡ true
was_numbered k [] j h = absurd (omega (arith, h))
was_numbered k (w ∷ ws) zero h = or_left (nat_eq k (k + 0)) (was_read (numbered (suc k) ws) (k + 0)) (eq-eqb k (k + 0) (omega arith))
was_numbered k (w ∷ ws) (suc j) h =
    let same : suc k + j ≡ k + suc j = omega arith in
    or_right (nat_eq k (k + suc j)) (was_read (numbered (suc k) ws) (k + suc j)) (subst (λ (n : ℕ). was_read (numbered (suc k) ws) n ≡ true) same (was_numbered (suc k) ws j (omega (arith, h))))

pub all_numbered : (ws : List ℤ) → AllRead (numbered 0 ws) (length ws)
all_numbered ws i h = let same : 0 + i ≡ i = omega arith in subst (λ (n : ℕ). was_read (numbered 0 ws) n ≡ true) same (was_numbered 0 ws i h)

numbered_at : (k : ℕ) (ws : List ℤ) (j : ℕ) (x : ℕ × ℤ) → get_elem? (numbered k ws) j ≡ some x → (x.0 ≡ k + j) × (get_elem? ws j ≡ some x.1)
numbered_at k [] j x e = absurd (some-ne-none x (sym e))
numbered_at k (w ∷ ws) zero x e =
    let same : (k, w) ≡ x = some-injective (k, w) x e in
    let first : k ≡ x.0 = ap (λ (p : ℕ × ℤ). p.0) same in
    (omega (arith, first), ap (λ (p : ℕ × ℤ). some p.1) same)
numbered_at k (w ∷ ws) (suc j) x e = let h : (x.0 ≡ suc k + j) × (get_elem? ws j ≡ some x.1) = numbered_at (suc k) ws j x e in (omega (arith, h.0), h.1)

numbered_agrees : (ws : List ℤ) → ReadsAgree (numbered 0 ws) ws
numbered_agrees ws j x e =
    let h : (x.0 ≡ 0 + j) × (get_elem? ws j ≡ some x.1) = numbered_at 0 ws j x e in
    let same : j ≡ x.0 = omega (arith, h.0) in
    subst (λ (n : ℕ). get_elem? ws n ≡ some x.1) same h.1

pub words_numbered : (ws : List ℤ) → words_read (numbered 0 ws) (length ws) ≡ ws
words_numbered ws = read_whole (numbered 0 ws) ws (length ws) refl (all_numbered ws) (numbered_agrees ws)
