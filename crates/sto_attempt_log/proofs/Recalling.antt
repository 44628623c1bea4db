-- Steps of the loops over what is known.
use Rattle.std.proofs.Common.{◌≡◌, ◌≤◌, ◌<◌, ◌+◌, ℕ, zero, suc, ℤ, pos, true, false, nat_eq, nat_lt, ◌&&◌, Option, Some, List, [], ◌∷◌, length, take, refl, ap, sym, ◌∙◌, subst, arith, Bool, eqb-true, inl, inr, slice_index_or, slice_set, IsSome}
use Rattle.std.specs.Prelude.{◌⊎◌}
use Rattle.std.specs.List.{list_all}
use Rattle.std.proofs.lemmas.List.{length-map}
use Rattle.std.proofs.lemmas.Bool.{cases_Bool}
use Rattle.std.proofs.lemmas.Bool.Decides.{nat_tests}
use Rattle.sto_part.specs.Parts.{part_of}
use Rattle.sto_part.specs.Changes.{applied, applied_all}
use Rattle.sto_part.specs.declared.change.Change.{Change}
use Rattle.sto_part.specs.declared.change.Change.TheVariants.{Keep}
use Rattle.sto_item.specs.Pending.{Entry, changes_of, applied_updates, is_put}
use Rattle.sto_item.specs.Rebase.{overwrites}
use Rattle.sto_item.specs.Agreement.{HasWidths}
use Rattle.sto_item.proofs.Applied.{part_of-applied, length-changes_of, same_width, applied_all-puts}
use Rattle.sto_type.specs.Known.{Parts, Known, IsPartOf, learnt}
use Rattle.sto_type.specs.Meaning.{Meaning, IsLawful}
use Rattle.sto_type.proofs.Learning.{IsPartOf-learnt}
use Rattle.sto_attempt_log.specs.Log.{IsPending, IsRecalled, IsCache}
use Rattle.sto_attempt_log.proofs.Moving.{width_of}

-- one more change is applied in its place
set_applied : (cs : List Change) (ws : List ℤ) (i : ℕ) → i < length cs → length cs ≤ length ws
    → slice_set (applied_all (take i cs) ws) i (applied (slice_index_or cs i Keep) (slice_index_or (applied_all (take i cs) ws) i (pos 0))) ≡ applied_all (take (suc i) cs) ws
set_applied [] ws i h l = absurd (omega (arith, h))
set_applied (c ∷ cs) [] i h l = absurd (omega (arith, l))
set_applied (c ∷ cs) (x ∷ ws) zero h l = refl
set_applied (c ∷ cs) (x ∷ ws) (suc i) h l = ap (λ ys. applied c x ∷ ys) (set_applied cs ws i (omega (arith, h)) (omega (arith, l)))

pub change_more : (cs : List Change) (ws made : List ℤ) (i : ℕ) (y : ℤ) → i < length cs → length cs ≤ length ws → made ≡ applied_all (take i cs) ws
    → y ≡ applied (slice_index_or cs i Keep) (slice_index_or made i (pos 0)) → slice_set made i y ≡ applied_all (take (i + 1) cs) ws
change_more cs ws made i y h l m e =
    let next : suc i ≡ i + 1 = omega arith in
    rw (e, m) (subst (λ n. slice_set (applied_all (take i cs) ws) i (applied (slice_index_or cs i Keep) (slice_index_or (applied_all (take i cs) ws) i (pos 0))) ≡ applied_all (take n cs) ws) next (set_applied cs ws i h l))

and_right : (a b : Bool) → (a && b) ≡ true → b ≡ true
and_right true b h = h
and_right false b h = cc

module _ (m : Meaning) (law : IsLawful m) (base : Known) (es : List Entry) (h : IsPending m base es) (p : ℕ) where
  there : (d : Parts) → m.valid d → p < length m.widths → p < length d
  there d v range = omega (arith, range, ap length (law.widths d v), length-map d length)

  width_is : (d : Parts) → m.valid d → length (part_of d p) ≡ slice_index_or m.widths p 0
  width_is d v = sym (width_of d p) ∙ ap (λ (l : List ℕ). slice_index_or l p 0) (law.widths d v)

  -- a part that was read
  pub recalled_read : (ws : List ℤ) → p < length m.widths → base p ≡ Some ws → IsRecalled m base es p (applied_all (changes_of es p) ws)
  recalled_read ws range e = record {
    above = λ d v part.
        let fits : HasWidths es d × m.valid (applied_updates es d) = h.fits d v part in
        part_of-applied 0 es d p h.ordered.0 fits.0 ∙ ap (applied_all (changes_of es p)) (part.same p ws (there d v range) e);
    from = inl (subst (λ (o : Option (List ℤ)). IsSome o) (sym e) refl);
    inside = range;
  }

  -- its pending changes are not more than its words
  pub fits_read : (ws : List ℤ) → p < length m.widths → base p ≡ Some ws → length (changes_of es p) ≤ length ws
  fits_read ws range e =
      let fits : HasWidths es h.some.0 × m.valid (applied_updates es h.some.0) = h.fits h.some.0 h.some.1 h.some.2 in
      omega (arith, length-changes_of es h.some.0 p fits.0, ap length (h.some.2.same p ws (there h.some.0 h.some.1 range) e))

  -- a part that is put whole
  pub recalled_whole : (ws : List ℤ) → p < length m.widths → length ws ≡ slice_index_or m.widths p 0 → overwrites (changes_of es p) ≡ true → IsRecalled m base es p (applied_all (changes_of es p) ws)
  recalled_whole ws range long o =
      let some : 0 < length (changes_of es p) = grind (arith, nat_tests) in
      let puts : list_all is_put (changes_of es p) ≡ true = and_right (nat_lt 0 (length (changes_of es p))) (list_all is_put (changes_of es p)) o in
      record {
        above = λ d v part.
            let fits : HasWidths es d × m.valid (applied_updates es d) = h.fits d v part in
            let same : length (part_of d p) ≡ length (changes_of es p) = same_width es d p fits.0 some in
            part_of-applied 0 es d p h.ordered.0 fits.0 ∙ applied_all-puts (changes_of es p) (part_of d p) ws puts same (long ∙ sym (width_is d v) ∙ same);
        from = inr o;
        inside = range;
      }

  pub fits_whole : (ws : List ℤ) → length ws ≡ slice_index_or m.widths p 0 → length (changes_of es p) ≤ length ws
  fits_whole ws long =
      let fits : HasWidths es h.some.0 × m.valid (applied_updates es h.some.0) = h.fits h.some.0 h.some.1 h.some.2 in
      omega (arith, length-changes_of es h.some.0 p fits.0, long, width_is h.some.0 h.some.1)

-- one more part that is known
pub cache_learnt : (m : Meaning) (base : Known) (es : List Entry) (k : Known) (p : ℕ) (ws : List ℤ) → IsCache m base es k → IsRecalled m base es p ws → IsCache m base es (learnt k p ws)
cache_learnt m base es k p ws c r = record {
  above = λ d v part. IsPartOf-learnt p ws k (applied_updates es d) (r.above d v part) (c.above d v part);
  from = λ q some.
      elim (cases_Bool (nat_eq p q)) as (λ _. IsSome (base q) ⊎ (overwrites (changes_of es q) ≡ true)) [
        | inl hit ↦ let P : ℕ → Type 0 = λ n. IsSome (base n) ⊎ (overwrites (changes_of es n) ≡ true) in subst P (eqb-true p q hit) r.from
        | inr miss ↦ c.from q (rw miss at some)
      ];
  inside = λ q some.
      elim (cases_Bool (nat_eq p q)) as (λ _. q < length m.widths) [
        | inl hit ↦ subst (λ (n : ℕ). n < length m.widths) (eqb-true p q hit) r.inside
        | inr miss ↦ c.inside q (rw miss at some)
      ];
}

-- the cache is part of some valid contents
pub cache_part : (m : Meaning) (base : Known) (es : List Entry) (k : Known) → IsPending m base es → IsCache m base es k → (d : Parts) × m.valid d × IsPartOf k d
cache_part m base es k h c = (applied_updates es h.some.0, (h.fits h.some.0 h.some.1 h.some.2).1, c.above h.some.0 h.some.1 h.some.2)
