-- What is recalled from what was read and what is pending is a cache of it.
use Rattle.std.specs.Prelude.{◌⊎◌}
use Rattle.std.specs.List.{list_all}
use Rattle.std.proofs.Common.{◌≡◌, ◌<◌, ℕ, ℤ, pos, Bool, true, false, nat_eq, nat_lt, ◌&&◌, Option, Some, None, List, [], ◌∷◌, length, replicate, IsSome, refl, ap, sym, ◌∙◌, subst, arith, inl, inr, eqb-true}
use Rattle.std.proofs.lemmas.Bool.{cases_Bool}
use Rattle.std.proofs.lemmas.Bool.Decides.{nat_tests}
use Rattle.std.proofs.lemmas.List.{length-replicate, length-map}
use Rattle.sto_part.specs.Parts.{part_of}
use Rattle.sto_part.specs.Changes.{applied_all}
use Rattle.sto_item.specs.Pending.{Entry, changes_of, applied_updates, is_put}
use Rattle.sto_item.specs.Rebase.{overwrites}
use Rattle.sto_item.specs.Agreement.{HasWidths}
use Rattle.sto_item.proofs.Applied.{part_of-applied, same_width, applied_all-puts}
use Rattle.sto_item.proofs.Widths.{length-applied_updates}
use Rattle.sto_type.specs.Known.{Parts, Known}
use Rattle.sto_type.specs.Meaning.{Meaning, IsLawful}
use Rattle.sto_attempt_log.specs.Log.{IsPending, IsCache}
use Rattle.sto_desk.specs.Known.{recalled}

some_same : (x y : List ℤ) → Some x ≡ Some y → x ≡ y
some_same x y e = cc

and_parts : (a b : Bool) → (a && b) ≡ true → (a ≡ true) × (b ≡ true)
and_parts true b h = (refl, h)
and_parts false b h = cc

-- a part with pending changes is one of the contents
written_inside : (es : List Entry) (d : Parts) (p : ℕ) → HasWidths es d → 0 < length (changes_of es p) → p < length d
written_inside [] d p fits some = absurd (omega (arith, some))
written_inside (e ∷ es) d p fits some = elim (cases_Bool (nat_eq e.0 p)) as (λ _. p < length d) [
  | inl hit ↦ let at : e.0 ≡ p = eqb-true e.0 p hit in omega (arith, at, fits.0)
  | inr miss ↦ written_inside es d p fits.2 (rw miss at some)
]

module _ (m : Meaning) (law : IsLawful m) (base : Known) (es : List Entry) (k : Known) (pending : IsPending m base es) (inside : (p : ℕ) → IsSome (base p) → p < length m.widths) (told : (p : ℕ) → k p ≡ recalled (base p) (changes_of es p)) where
  one : (d : Parts) (p : ℕ) (o : Option (List ℤ)) (ws : List ℤ) → HasWidths es d → (((xs : List ℤ) → o ≡ Some xs → part_of d p ≡ xs)) → recalled o (changes_of es p) ≡ Some ws → part_of (applied_updates es d) p ≡ ws
  one d p (Some xs) ws fits same e = part_of-applied 0 es d p pending.ordered.0 fits ∙ ap (applied_all (changes_of es p)) (same xs refl) ∙ some_same (applied_all (changes_of es p) xs) ws e
  one d p None ws fits same e = elim (cases_Bool (overwrites (changes_of es p))) as (λ _. part_of (applied_updates es d) p ≡ ws) [
    | inl whole ↦
        let cs = changes_of es p in
        let both : (nat_lt 0 (length cs) ≡ true) × (list_all is_put cs ≡ true) = and_parts (nat_lt 0 (length cs)) (list_all is_put cs) whole in
        let some : 0 < length cs = grind (arith, nat_tests) in
        let zeros : applied_all cs (replicate (length cs) (pos 0)) ≡ ws = some_same (applied_all cs (replicate (length cs) (pos 0))) ws (rw whole at e) in
        part_of-applied 0 es d p pending.ordered.0 fits
        ∙ applied_all-puts cs (part_of d p) (replicate (length cs) (pos 0)) both.1 (same_width es d p fits some) (length-replicate (length cs) (pos 0)) ∙ zeros
    | inr partly ↦ let clash : None ≡ Some ws = rw partly at e in cc
  ]

  from : (p : ℕ) (o : Option (List ℤ)) → base p ≡ o → IsSome (recalled o (changes_of es p)) → IsSome (base p) ⊎ (overwrites (changes_of es p) ≡ true)
  from p (Some xs) is some = inl (subst (λ (o : Option (List ℤ)). IsSome o) (sym is) refl)
  from p None is some = elim (cases_Bool (overwrites (changes_of es p))) as (λ _. IsSome (base p) ⊎ (overwrites (changes_of es p) ≡ true)) [
    | inl whole ↦ inr whole
    | inr partly ↦ let nothing = rw partly at some in absurd (none_some nothing)
  ] where
    none_some : IsSome {T = List ℤ} None → ⊥
    none_some e = cc

  range : (p : ℕ) → IsSome (base p) ⊎ (overwrites (changes_of es p) ≡ true) → p < length m.widths
  range p (inl read) = inside p read
  range p (inr whole) =
      let d = pending.some.0 in
      let fits : HasWidths es d = (pending.fits d pending.some.1 pending.some.2).0 in
      let some : 0 < length (changes_of es p) = grind (arith, nat_tests) in
      omega (arith, written_inside es d p fits some, ap length (law.widths d pending.some.1), length-map d length)

  pub cached : IsCache m base es k
  cached = record {
    above = λ d valid part. record {
      same = λ p ws within is.
          let fits = (pending.fits d valid part).0 in
          one d p (base p) ws fits (λ xs has. part.same p xs (omega (arith, within, length-applied_updates es d)) has) (sym (told p) ∙ is);
    };
    from = λ p some. from p (base p) refl (subst (λ (o : Option (List ℤ)). IsSome o) (told p) some);
    inside = λ p some. range p (from p (base p) refl (subst (λ (o : Option (List ℤ)). IsSome o) (told p) some));
  }
