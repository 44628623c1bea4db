-- The tests' type is lawful.
use Rattle.std.specs.Prelude.{◌≡◌, ℕ, ℤ, pos, Bool, true, false, Option, Some, None, List, [], ◌∷◌, map, length, IsSome, IsTrue, refl}
use Rattle.std.specs.Int.{w64}
use Rattle.std.specs.Int.RustNames.{FitsSigned}
use Rattle.std.proofs.Common.{ap, sym, ◌∙◌, arith, inl, inr, subst}
use Rattle.sto_item.specs.Agreement.{Agrees}
use Rattle.sto_model.specs.declared.call.Call.{Call}
use Rattle.sto_model.specs.declared.operation.Operation.{Operation}
use Rattle.sto_model.specs.declared.operation.Operation.TheVariants.{Get, Set, Add, Test as TestWord, Take, Put, Remove, Has, Len, Next, Count, Scan, Push, Pop}
use Rattle.sto_model.specs.declared.shape.Shape.TheVariants.{Single}
use Rattle.sto_model.specs.Calls.{call_of}
use Rattle.sto_model.specs.Objects.{takes}
use Rattle.sto_model.specs.SequentialObjects.{reply_to}
use Rattle.sto_type.specs.Known.{Parts, Known, IsWithin}
use Rattle.sto_type.specs.SteadyLaw.{by_known, no_part, same_part}
use Rattle.sto_type.specs.Meaning.{Meaning, IsLawful, IsSteady, IsNeed, IsUpdated, IsPartOfObject, EachKnown, EachInside}
use Rattle.sto_test_alone.specs.Split.{split_meaning, is_get, split_asked, split_rows, SplitTakes}

by_operation : {P : Type 0} (o : Operation) (a : ℤ) → IsTrue (takes (Single (pos 0)) o a) → (o ≡ Get → P) → (o ≡ Set → P) → P
by_operation Get a h get set = get refl
by_operation Set a h get set = set refl
by_operation Add a h get set = cc
by_operation TestWord a h get set = cc
by_operation Take a h get set = cc
by_operation Put a h get set = cc
by_operation Remove a h get set = cc
by_operation Has a h get set = cc
by_operation Len a h get set = cc
by_operation Next a h get set = cc
by_operation Count a h get set = cc
by_operation Scan a h get set = cc
by_operation Push a h get set = cc
by_operation Pop a h get set = cc

-- what is so of both is so of each call that is taken
by_call : (P : Call → Type 0) → ((a b : ℤ) → P (call_of 0 Get a b)) → ((a b : ℤ) → FitsSigned w64 a → FitsSigned w64 b → P (call_of 0 Set a b)) → (call : Call) → SplitTakes call → P call
by_call P get set call t =
    let same : (o : Operation) → call.operation ≡ o → call ≡ call_of 0 o call.a call.b = λ o e i. record { object = t.object i; operation = e i; a = call.a; b = call.b; c = t.third i } in
    by_operation call.operation call.a t.taken
    (λ e. subst P (sym (same Get e)) (get call.a call.b))
    (λ e. subst P (sym (same Set e)) (set call.a call.b t.fits t.fits_too))

-- both parts belong to the one object
first_own : IsPartOfObject ((0, 0) ∷ (0, 1) ∷ []) 0 0
first_own = record { in_range = omega arith; owner = refl }

second_own : IsPartOfObject ((0, 0) ∷ (0, 1) ∷ []) 0 1
second_own = record { in_range = omega arith; owner = refl }

-- what a get needs
get_needs : (first second : ℤ) (a b : ℤ) (k : Known) (p : ℕ) (o v : Option (List ℤ)) → k 0 ≡ o → k 1 ≡ v → split_asked true o v ≡ Some p → IsNeed (split_meaning first second) (call_of 0 Get a b) k p
get_needs first second a b k p None v e f h =
    let same : 0 ≡ p = cc in
    subst (λ (q : ℕ). IsNeed (split_meaning first second) (call_of 0 Get a b) k q) same (record { unknown = e; owned = first_own })
get_needs first second a b k p (Some ws) None e f h =
    let same : 1 ≡ p = cc in
    subst (λ (q : ℕ). IsNeed (split_meaning first second) (call_of 0 Get a b) k q) same (record { unknown = f; owned = second_own })
get_needs first second a b k p (Some ws) (Some vs) e f h = cc

get_knows : (o v : Option (List ℤ)) → split_asked true o v ≡ None → IsSome o × IsSome v
get_knows None v h = cc
get_knows (Some ws) None h = cc
get_knows (Some ws) (Some vs) h = (refl, refl)

heads : (x y : ℕ) (xs ys : List ℕ) → x ∷ xs ≡ y ∷ ys → (x ≡ y) × (xs ≡ ys)
heads x y xs ys e = (cc, cc)

one_word : (ws : List ℤ) → length ws ≡ 1 → (x : ℤ) × (ws ≡ x ∷ [])
one_word [] e = cc
one_word (x ∷ []) e = (x, refl)
one_word (x ∷ y ∷ ws) e = absurd (omega (arith, e))

two_parts : (c : Parts) → map length c ≡ 1 ∷ 1 ∷ [] → (x : ℤ) × (y : ℤ) × (c ≡ (x ∷ []) ∷ (y ∷ []) ∷ [])
two_parts [] e = cc
two_parts (ws ∷ []) e = cc
two_parts (ws ∷ vs ∷ []) e =
    let h : (length ws ≡ 1) × (length vs ∷ [] ≡ 1 ∷ []) = heads (length ws) 1 (length vs ∷ []) (1 ∷ []) e in
    let x : (x : ℤ) × (ws ≡ x ∷ []) = one_word ws h.0 in
    let y : (y : ℤ) × (vs ≡ y ∷ []) = one_word vs (heads (length vs) 1 [] [] h.1).0 in
    (x.0, y.0, λ i. x.1 i ∷ y.1 i ∷ [])
two_parts (ws ∷ vs ∷ us ∷ c) e = cc

-- a get needs its parts however much more is known
split_on : (b : Bool) (k more : Known) (p : ℕ) → IsWithin k more → more p ≡ None → split_asked b (k 0) (k 1) ≡ Some p → split_asked b (more 0) (more 1) ≡ Some p
split_on false k more p w none e = cc
split_on true k more p w none e = elim (by_known (k 0)) [
  | inl unknown ↦
      let it : Some 0 ≡ Some p = rw unknown at e in
      let here : more 0 ≡ None = ap more (same_part 0 p it) ∙ none in rw here it
  | inr known ↦ elim (by_known (k 1)) [
    | inl unknown ↦
        let it : Some 1 ≡ Some p = rw (known.1, unknown) at e in
        let here : more 1 ≡ None = ap more (same_part 1 p it) ∙ none in rw (w 0 known.0 known.1, here) it
    | inr other ↦ let no : None ≡ Some p = rw (known.1, other.1) at e in no_part p (sym no)
  ]
]

split_off : (b : Bool) (k more : Known) → IsWithin k more → split_asked b (k 0) (k 1) ≡ None → split_asked b (more 0) (more 1) ≡ None
split_off false k more w e = refl
split_off true k more w e = elim (by_known (k 0)) [
  | inl unknown ↦ let no : Some 0 ≡ None = rw unknown at e in no_part 0 no
  | inr known ↦ elim (by_known (k 1)) [
    | inl unknown ↦ let no : Some 1 ≡ None = rw (known.1, unknown) at e in no_part 1 no
    | inr other ↦ rw (w 0 known.0 known.1, w 1 other.0 other.1) refl
  ]
]

split_steady : (first second : ℤ) → IsSteady (split_meaning first second)
split_steady first second = record {
  steady = λ call k more p w none e. split_on (is_get call.operation) k more p w none e;
  done = λ call k more w e. (split_off (is_get call.operation) k more w e, refl);
}

module _ (first second : ℤ) where
  abbrev m : Meaning
  m = split_meaning first second

  set_both : (a b x y : ℤ) → FitsSigned w64 a → FitsSigned w64 b → IsUpdated m (call_of 0 Set a b) ((x ∷ []) ∷ (y ∷ []) ∷ []) (m.updates (call_of 0 Set a b) ((x ∷ []) ∷ (y ∷ []) ∷ []))
  set_both a b x y f g = record {
    ordered = ((omega arith, (omega arith, tt)), (refl, (refl, tt)));
    owned = (first_own, (second_own, tt));
    widths = (omega arith, refl, (omega arith, refl, tt));
    valid = record { widths = refl; fits = ((f, tt), ((g, tt), tt)) };
    rows = refl;
    writes = refl;
  }

  pub split_lawful : FitsSigned w64 first → FitsSigned w64 second → IsLawful m
  split_lawful f g = record {
    homes = refl;
    owners = (omega arith, (omega arith, tt));
    opening = record { widths = refl; fits = ((f, tt), ((g, tt), tt)) };
    opening_rows = refl;
    widths = λ c h. h.widths;
    fits = λ c h. h.fits;
    states = λ c h. refl;
    object = λ call t. omega (arith, t.object);
    needs = λ call k d p t v part.
        by_call (λ c. m.need c k ≡ Some p → IsNeed m c k p) (λ a b h. get_needs first second a b k p (k 0) (k 1) refl refl h) (λ a b x y h. cc) call t;
    steady = split_steady first second;
    inside = λ call k d r. by_call (λ c. EachInside m.widths (m.items c k)) (λ a b. tt) (λ a b x y. tt) call r.takes;
    knows = λ call k d r.
        by_call (λ c. m.need c k ≡ None → EachKnown m.homes c.object k (m.items c k))
        (λ a b h. let both : IsSome (k 0) × IsSome (k 1) = get_knows (k 0) (k 1) h in (first_own, both.0, (second_own, both.1, tt)))
        (λ a b x y h. tt) call r.takes r.done;
    holds = λ call k d r. by_call (λ c. Agrees d (m.items c k) d) (λ a b. (refl, (refl, tt))) (λ a b x y. tt) call r.takes;
    same_reply = λ call k d e r v a.
        by_call (λ c. Agrees e (m.items c k) d → reply_to m.machines c (m.rows e) ≡ reply_to m.machines c (m.rows d))
        (λ a b h. ap (λ (ps : List ℤ × List ℤ). reply_to m.machines (call_of 0 Get a b) (split_rows (ps.0 ∷ ps.1 ∷ []) ∷ [])) (λ i. (h.0 i, h.1.0 i)))
        (λ a b x y h. refl) call r.takes a;
    same_updates = λ call k d e r v a. refl;
    updated = λ call c t v.
        by_call (λ u. IsUpdated m u c (m.updates u c))
        (λ a b. record { ordered = (tt, tt); owned = tt; widths = tt; valid = v; rows = refl; writes = refl })
        (λ a b x y.
        let parts : (x : ℤ) × (y : ℤ) × (c ≡ (x ∷ []) ∷ (y ∷ []) ∷ []) = two_parts c v.widths in
        subst (λ (d : Parts). IsUpdated m (call_of 0 Set a b) d (m.updates (call_of 0 Set a b) d)) (sym parts.2) (set_both a b parts.0 parts.1 x y))
        call t;
  }
