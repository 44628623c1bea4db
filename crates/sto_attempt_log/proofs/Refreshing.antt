-- What is known after the updates of a call.
use Rattle.std.proofs.Common.{◌≡◌, ◌<◌, ℕ, ℤ, true, false, nat_eq, nat_lt, Option, Some, None, List, [], ◌∷◌, length, refl, ap, sym, ◌∙◌, subst, arith, inl, inr, IsSome}
use Rattle.std.specs.Prelude.{◌⊎◌}
use Rattle.std.specs.List.{list_all}
use Rattle.std.proofs.lemmas.Bool.{cases_Bool}
use Rattle.std.proofs.lemmas.Bool.Decides.{nat_tests}
use Rattle.sto_part.specs.Parts.{part_of}
use Rattle.sto_part.specs.Changes.{applied_all}
use Rattle.sto_part.specs.declared.change.Change.{Change}
use Rattle.sto_item.specs.Pending.{Entry, AreUpdates, changes_of, applied_updates, inserted, with_update, with_updates, is_keep}
use Rattle.sto_item.specs.Rebase.{overwrites}
use Rattle.sto_item.specs.Agreement.{HasWidths}
use Rattle.sto_item.proofs.Applied.{part_of-applied}
use Rattle.sto_item.proofs.Widths.{length-applied_updates, HasWidths-above, applied_updates-with_updates}
use Rattle.sto_type.specs.Known.{Parts, Known, learnt, IsPartOf}
use Rattle.sto_type.specs.Meaning.{Meaning}
use Rattle.sto_attempt_log.specs.Every.{AllOf}
use Rattle.sto_attempt_log.specs.Log.{IsCache}
use Rattle.sto_attempt_log.specs.Refreshed.{outside, IsLearntAnew}
use Rattle.sto_attempt_log.proofs.Recalling.{cache_learnt}

-- updates that do not name the part
abbrev AreBeside : List Entry → ℕ → Type 0
AreBeside us p = AllOf (λ (u : Entry). nat_eq u.0 p ≡ false) us

-- what is known outside of updates is known, and they do not name its part
outside_known : (us : List Entry) (k : Known) (p : ℕ) (ws : List ℤ) → outside us k p ≡ Some ws → AreBeside us p × (k p ≡ Some ws)
outside_known [] k p ws h = (tt, h)
outside_known (u ∷ us) k p ws h =
    elim (cases_Bool (nat_eq u.0 p)) [
      | inl hit ↦ let none = rw hit at h in cc
      | inr miss ↦ let rest = outside_known us k p ws (rw miss at h) in ((miss, rest.0), rest.1)
    ]

-- they change nothing of it
none_of : (us : List Entry) (p : ℕ) → AreBeside us p → changes_of us p ≡ []
none_of [] p h = refl
none_of (u ∷ us) p h = rw h.0 (none_of us p h.1)

-- an update of another part leaves the pending changes of this one
changes_inserted : (es : List Entry) (q : ℕ) (u : List Change) (p : ℕ) → nat_eq q p ≡ false → changes_of (inserted es q u) p ≡ changes_of es p
changes_inserted [] q u p h = rw h refl
changes_inserted (e ∷ es) q u p h =
    elim (cases_Bool (nat_lt e.0 q)) [
      | inl below ↦ rw below (elim (cases_Bool (nat_eq e.0 p)) [
        | inl here ↦ rw here refl
        | inr there ↦ rw there (changes_inserted es q u p h)
      ])
      | inr above ↦ elim (cases_Bool (nat_eq e.0 q)) [
        | inl same ↦ let other : nat_eq e.0 p ≡ false = grind (arith, nat_tests) in rw (above, same, h, other) refl
        | inr before ↦ rw (above, before, h) refl
      ]
    ]

changes_with : (es us : List Entry) (p : ℕ) → AreBeside us p → changes_of (with_updates es us) p ≡ changes_of es p
changes_with es [] p h = refl
changes_with es (u ∷ us) p h = changes_with (with_update es u.0 u.1) us p h.1 ∙ one
  where
    one : changes_of (with_update es u.0 u.1) p ≡ changes_of es p
    one = elim (cases_Bool (list_all is_keep u.1)) [
      | inl kept ↦ rw kept refl
      | inr changes ↦ rw changes (changes_inserted es u.0 u.1 p h.0)
    ]

-- with more updates pending, what is known of the parts that they do not name stays
pub cache_outside : (m : Meaning) (base : Known) (es us : List Entry) (k : Known) → AreUpdates es → AreUpdates us
    → ((d : Parts) → m.valid d → IsPartOf base d → HasWidths es d × HasWidths us d) → IsCache m base es k → IsCache m base (with_updates es us) (outside us k)
cache_outside m base es us k ordered more fits c = record {
  above = λ d v part. record {
    same = λ p ws range is.
        let out : AreBeside us p × (k p ≡ Some ws) = outside_known us k p ws is in
        let fit : HasWidths es d × HasWidths us d = fits d v part in
        let there : p < length (applied_updates es d) = omega (arith, range, length-applied_updates (with_updates es us) d, length-applied_updates es d) in
        ap (λ (c : Parts). part_of c p) (applied_updates-with_updates es us d fit.0 fit.1 ordered)
        ∙ part_of-applied 0 us (applied_updates es d) p more.0 (HasWidths-above es us d fit.1)
        ∙ ap (λ (cs : List Change). applied_all cs (part_of (applied_updates es d) p)) (none_of us p out.0)
        ∙ (c.above d v part).same p ws there out.1;
  };
  from = λ p some. from_case p (outside us k p) refl some;
  inside = λ p some. inside_case p (outside us k p) refl some;
}
  where
    inside_case : (p : ℕ) (o : Option (List ℤ)) → outside us k p ≡ o → IsSome o → p < length m.widths
    inside_case p None is some = cc
    inside_case p (Some ws) is some = c.inside p (subst (λ (o : Option (List ℤ)). IsSome o) (sym (outside_known us k p ws is).1) refl)

    from_case : (p : ℕ) (o : Option (List ℤ)) → outside us k p ≡ o → IsSome o → IsSome (base p) ⊎ (overwrites (changes_of (with_updates es us) p) ≡ true)
    from_case p None is some = cc
    from_case p (Some ws) is some =
        let out : AreBeside us p × (k p ≡ Some ws) = outside_known us k p ws is in
        let here : IsSome (k p) = subst (λ (o : Option (List ℤ)). IsSome o) (sym out.1) refl in
        subst (λ (cs : List Change). IsSome (base p) ⊎ (overwrites cs ≡ true)) (sym (changes_with es us p out.0)) (c.from p here)

-- to know less, of no part anything else
cache_less : (m : Meaning) (base : Known) (es : List Entry) (k less : Known) → ((p : ℕ) → (less p ≡ None) ⊎ (less p ≡ k p)) → IsCache m base es k → IsCache m base es less
cache_less m base es k less h c = record {
  above = λ d v part. record {
    same = λ p ws range is. elim (h p) as (λ _. part_of (applied_updates es d) p ≡ ws) [
      | inl none ↦ let no = sym none ∙ is in cc
      | inr same ↦ (c.above d v part).same p ws range (sym same ∙ is)
    ];
  };
  from = λ p some. elim (h p) as (λ _. IsSome (base p) ⊎ (overwrites (changes_of es p) ≡ true)) [
    | inl none ↦ let no = rw none at some in cc
    | inr same ↦ c.from p (subst (λ (o : Option (List ℤ)). IsSome o) same some)
  ];
  inside = λ p some. elim (h p) as (λ _. p < length m.widths) [
    | inl none ↦ let no = rw none at some in cc
    | inr same ↦ c.inside p (subst (λ (o : Option (List ℤ)). IsSome o) same some)
  ];
}

outside_learnt : (u : Entry) (us : List Entry) (k : Known) (ws : List ℤ) (q : ℕ)
    → (outside us (learnt k u.0 ws) q ≡ None) ⊎ (outside us (learnt k u.0 ws) q ≡ learnt (outside (u ∷ us) k) u.0 ws q)
outside_learnt u [] k ws q =
    elim (cases_Bool (nat_eq u.0 q)) [
      | inl hit ↦ rw hit (inr refl)
      | inr miss ↦ rw miss (inr refl)
    ]
outside_learnt u (e ∷ us) k ws q =
    elim (cases_Bool (nat_eq e.0 q)) [
      | inl hit ↦ rw hit (inl refl)
      | inr miss ↦ rw miss (outside_learnt u us k ws q)
    ]

outside_nothing : (us : List Entry) (k : Known) (q : ℕ) → k q ≡ None → outside us k q ≡ None
outside_nothing [] k q h = h
outside_nothing (u ∷ us) k q h =
    elim (cases_Bool (nat_eq u.0 q)) [
      | inl hit ↦ rw hit refl
      | inr miss ↦ rw miss (outside_nothing us k q h)
    ]

-- the part of the first update is known again
pub outside_less : (m : Meaning) (base : Known) (es : List Entry) (u : Entry) (us : List Entry) (old new : Known)
    → IsCache m base es (outside (u ∷ us) old) → IsLearntAnew m base es u.0 old new → IsCache m base es (outside us new)
outside_less m base es u us old new c h =
    elim h [
      | inl anew ↦ subst (λ (k : Known). IsCache m base es (outside us k)) (sym anew.2)
          (cache_less m base es (learnt (outside (u ∷ us) old) u.0 anew.0) (outside us (learnt old u.0 anew.0)) (outside_learnt u us old anew.0) (cache_learnt m base es (outside (u ∷ us) old) u.0 anew.0 c anew.1))
      | inr none ↦ cache_less m base es (outside (u ∷ us) old) (outside us new) (λ q. inl (outside_nothing us new q (none q))) c
    ]
