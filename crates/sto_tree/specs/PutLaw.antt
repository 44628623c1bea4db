-- put k v, but for the case of a full leaf
use Rattle.std.proofs.Common.{◌≡◌, ◌<◌, ◌*◌, ◌^◌, ℕ, ℤ, pos, Bool, Option, Some, None, List, [], ◌∷◌, length, refl, sym, ◌∙◌, ap, subst, arith, inl, inr, true, false, int_le, int_lt, ◌⊎◌}
use Rattle.std.specs.Int.{w64}
use Rattle.std.specs.Int.RustNames.{FitsSigned}
use Rattle.std.specs.Prelude.{nat_le, not}
use Rattle.std.proofs.lemmas.Bool.Decides.{nat_tests}
use Rattle.std.proofs.lemmas.Int.{ints}
use Rattle.sto_item.specs.declared.item.Item.TheVariants.{Seen}
use Rattle.sto_item.specs.Pending.{Entry}
use Rattle.sto_item.specs.Agreement.{Agrees}
use Rattle.sto_model.specs.declared.operation.Operation.TheVariants.{Put}
use Rattle.sto_model.specs.Calls.{call_of}
use Rattle.sto_model.specs.Objects.{effect, put_effect}
use Rattle.sto_model.specs.PlainReplies.{is_write, Done, Full}
use Rattle.sto_model.specs.Rows.{Row, value_at, has_key, with_row}
use Rattle.sto_model.proofs.RowFacts.{by_test}
use Rattle.sto_type.specs.Known.{Parts}
use Rattle.sto_type.specs.Meaning.{IsUpdated}
use Rattle.sto_type.specs.Reading.{Reading, items_at, updates_at, IsRead}
use Rattle.sto_tree.specs.Layout.{directory, keys, value, size, covers, leaf_of, place_of, free_place, is_present, holds_key, key_part, parts_of, tree_rows, count_present}
use Rattle.sto_tree.specs.Said.{cover, here, has_room, is_full}
use Rattle.sto_tree.specs.Put.{put_there, put_new, put_free, put_reading}
use Rattle.sto_tree.specs.Valid.{IsShaped, IsTree}
use Rattle.sto_tree.specs.Meaning.{tree_meaning}
use Rattle.sto_tree.specs.Searches.{first_some}
use Rattle.sto_tree.specs.Tests.{by_option}
use Rattle.sto_tree.specs.Lookup.{leaf_there, leaf_has}
use Rattle.sto_tree.specs.CallLaw.{IsCallLawful}
use Rattle.sto_tree.specs.Agreeing.{agrees_cover, agrees_here, agrees_ge, agrees_lt, ge_agrees, lt_agrees, at_leaf_items, at_leaf_updates, at_leaf_within, at_leaf_reads, at_leaf_reads_directory, at_leaf_reads_keys}
use Rattle.sto_tree.specs.Insides.{inside_cover, inside_here, in_size}
use Rattle.sto_tree.specs.Observing.{observation_by, seen_leaf, here_leaf, value_found, value_absent}
use Rattle.sto_tree.specs.Updating.{new_widths, new_ordered, new_owned, new_rows, new_tree}
use Rattle.sto_tree.specs.Overwriting.{over_widths, over_ordered, over_owned, over_rows, over_tree}
use Rattle.sto_tree.specs.LenLaw.{size_is}

-- what a put comes to
pub put_over : (full : Bool) (rows : List Row) (k v x : ℤ) → value_at rows k ≡ Some x → put_effect full k v rows ≡ effect Done (with_row rows k v)
put_over full rows k v x e = rw e refl

pub put_more : (rows : List Row) (k v : ℤ) → put_effect false k v rows ≡ effect Done (with_row rows k v)
put_more rows k v = by_test (has_key rows k) (λ e. rw e refl) (λ e. rw e refl)

pub put_full : (rows : List Row) (k v : ℤ) → value_at rows k ≡ None → put_effect true k v rows ≡ effect Full rows
put_full rows k v e = rw e refl

-- the model's test of room is that of the size
nat_le_is : (a b : ℕ) → nat_le a b ≡ int_le (pos a) (pos b)
nat_le_is a b = refl

pub full_is : (leaves : ℕ) (c : Parts) → IsTree leaves c → nat_le (4 * leaves) (length (tree_rows leaves c)) ≡ int_le (pos (4 * leaves)) (size c)
full_is leaves c t = nat_le_is (4 * leaves) (length (tree_rows leaves c)) ∙ ap (int_le (pos (4 * leaves))) (sym (size_is leaves c t))

pub less_of : (a b : ℕ) → int_le (pos a) (pos b) ≡ false → b < a
less_of a b e = let f : nat_le a b ≡ false = e in grind (arith, nat_tests)

pub lt_of : (a b : ℤ) → int_le a b ≡ false → int_lt b a ≡ true
lt_of a b e = grind (arith, ints)

pub not_le : (a b : ℤ) → int_lt b a ≡ true → int_le a b ≡ false
not_le a b e = grind (arith, ints)

pub not_true : (b : Bool) → not b ≡ true → b ≡ false
not_true true e = cc
not_true false e = refl

-- the law where the leaf of k has no free place
abbrev pub CrowdedLaw : ℕ → Parts → ℤ → ℤ → Type 0
CrowdedLaw leaves c k w =
    (l : ℕ) → leaf_of leaves (directory c) k ≡ Some l → place_of (keys c l) k ≡ None → int_le (pos (4 * leaves)) (size c) ≡ false → free_place (keys c l) ≡ None
    → IsCallLawful leaves (call_of 0 Put k w) c

module _ (leaves : ℕ) (c : Parts) (t : IsTree leaves c) (few : parts_of leaves < 2 ^ 32) (k w : ℤ) (fits_k : FitsSigned w64 k) (fits_w : FitsSigned w64 w) (l : ℕ) (there : leaf_of leaves (directory c) k ≡ Some l) where
  abbrev f : List ℤ → ℕ → List ℤ → Reading
  f dir m ks = put_there leaves k w dir m ks (place_of ks k)

  abbrev r : Reading
  r = put_reading leaves k w

  abbrev pub full : Parts → Bool
  full e = int_le (pos (4 * leaves)) (size e)

  v : IsShaped leaves c
  v = t.shaped

  leaf_in : l < leaves
  leaf_in = (leaf_has leaves c v l k there).0

  leaf_covers : covers (directory c) k k l ≡ true
  leaf_covers = (leaf_has leaves c v l k there).1

  pub model_full : (e : Parts) → IsTree leaves e → (b : Bool) → full e ≡ b → put_effect (nat_le (4 * leaves) (length (tree_rows leaves e))) k w (tree_rows leaves e) ≡ put_effect b k w (tree_rows leaves e)
  model_full e te b h = ap (λ x. put_effect x k w (tree_rows leaves e)) (full_is leaves e te ∙ h)

  present : (i : ℕ) → place_of (keys c l) k ≡ Some i → IsCallLawful leaves (call_of 0 Put k w) c
  present i some =
      let g : (i < 8) × (holds_key (keys c l) k i ≡ true) = first_some (holds_key (keys c l) k) 8 i some in
      let es : List Entry = updates_at (put_there leaves k w (directory c) l (keys c l) (Some i)) c in
      let items : items_at r c ≡ cover l k k (here l i k []) = at_leaf_items leaves c v k f l there ∙ ap (λ o. items_at (put_there leaves k w (directory c) l (keys c l) o) c) some in
      let updates : updates_at r c ≡ es = at_leaf_updates leaves c v k f l there ∙ ap (λ o. updates_at (put_there leaves k w (directory c) l (keys c l) o) c) some in
      let done : (e : Parts) → IsTree leaves e → leaf_of leaves (directory e) k ≡ Some l → place_of (keys e l) k ≡ Some i → put_effect (nat_le (4 * leaves) (length (tree_rows leaves e))) k w (tree_rows leaves e) ≡ effect Done (with_row (tree_rows leaves e) k w) =
      λ e te leaf place. put_over (nat_le (4 * leaves) (length (tree_rows leaves e))) (tree_rows leaves e) k w (value e l i) (value_found leaves e l i k te.shaped leaf place) in
      record {
        observation =
            observation_by leaves (call_of 0 Put k w) r c (cover l k k (here l i k [])) es items updates
            (at_leaf_within leaves c v k f l there (λ q h. absurd (subst (λ (o : Option ℕ). IsRead (put_there leaves k w (directory c) l (keys c l) o) c q) some h)))
            (at_leaf_reads_directory leaves c v k f l there, (at_leaf_reads_directory leaves c v k f l there, (at_leaf_reads_directory leaves c v k f l there, (at_leaf_reads_keys leaves c v k f l there, (at_leaf_reads_keys leaves c v k f l there, tt)))))
            (inside_cover leaves l k k (here l i k []) leaf_in (inside_here leaves l i k [] leaf_in g.0 tt))
            (agrees_cover c c l k k (here l i k []) v.fits leaf_covers (agrees_here c c l i k [] v.fits g.1 tt))
            (λ e te a.
            let s : (leaf_of leaves (directory e) k ≡ Some l) × (place_of (keys e l) k ≡ Some i) × Agrees e [] c = here_leaf leaves c e l i k [] te.shaped leaf_in g.0 a in (
              ap (λ x. x.reply) (done e te s.0 s.1) ∙ sym (ap (λ x. x.reply) (done c t there some)),
              at_leaf_updates leaves e te.shaped k f l s.0 ∙ ap (λ o. updates_at (put_there leaves k w (directory e) l (keys e l) o) e) s.1,
            ));
        updated = subst (λ x. IsUpdated (tree_meaning leaves) (call_of 0 Put k w) c x) (sym updates)
            (record {
              ordered = over_ordered leaves c t k w l i fits_w there some;
              owned = over_owned leaves c t k w l i fits_w there some;
              widths = over_widths leaves c t k w l i fits_w there some;
              valid = over_tree leaves c t k w l i fits_w there some;
              rows = ap (λ x. x ∷ []) (over_rows leaves c t k w l i fits_w there some) ∙ ap (λ x. x.after ∷ []) (sym (done c t there some));
              writes = ap (λ x. is_write Put x.reply) (done c t there some);
            });
      }

  -- what a put comes to in the leaf, once its key is not there
  pub items_new : (e : Parts) → place_of (keys e l) k ≡ None → (b : Bool) → full e ≡ b → items_at (f (directory e) l (keys e l)) e ≡ items_at (put_new leaves k w (directory e) l (keys e l) b) e
  items_new e none b h = ap (λ o. items_at (put_there leaves k w (directory e) l (keys e l) o) e) none ∙ ap (λ x. items_at (put_new leaves k w (directory e) l (keys e l) x) e) h

  pub updates_new : (e : Parts) → place_of (keys e l) k ≡ None → (b : Bool) → full e ≡ b → updates_at (f (directory e) l (keys e l)) e ≡ updates_at (put_new leaves k w (directory e) l (keys e l) b) e
  updates_new e none b h = ap (λ o. updates_at (put_there leaves k w (directory e) l (keys e l) o) e) none ∙ ap (λ x. updates_at (put_new leaves k w (directory e) l (keys e l) x) e) h

  pub reads_size : place_of (keys c l) k ≡ None → IsRead r c 0
  reads_size none = at_leaf_reads leaves c v k f l there 0 (subst (λ (o : Option ℕ). IsRead (put_there leaves k w (directory c) l (keys c l) o) c 0) (sym none) (inl refl))

  pub reads_new : place_of (keys c l) k ≡ None → (b : Bool) → full c ≡ b → (q : ℕ) → IsRead (f (directory c) l (keys c l)) c q → (0 ≡ q) ⊎ IsRead (put_new leaves k w (directory c) l (keys c l) b) c q
  reads_new none b h q m =
      let n : (0 ≡ q) ⊎ IsRead (put_new leaves k w (directory c) l (keys c l) (full c)) c q = subst (λ (o : Option ℕ). IsRead (put_there leaves k w (directory c) l (keys c l) o) c q) none m in
      elim n [ inl a ↦ inl a | inr a ↦ inr (subst (λ (x : Bool). IsRead (put_new leaves k w (directory c) l (keys c l) x) c q) h a) ]

  is_full_case : place_of (keys c l) k ≡ None → full c ≡ true → IsCallLawful leaves (call_of 0 Put k w) c
  is_full_case none h =
      let items : items_at r c ≡ cover l k k (Seen (key_part l) ∷ is_full leaves ∷ []) = at_leaf_items leaves c v k f l there ∙ items_new c none true h in
      let updates : updates_at r c ≡ [] = at_leaf_updates leaves c v k f l there ∙ updates_new c none true h in
      let done : (e : Parts) → IsTree leaves e → leaf_of leaves (directory e) k ≡ Some l → place_of (keys e l) k ≡ None → full e ≡ true → put_effect (nat_le (4 * leaves) (length (tree_rows leaves e))) k w (tree_rows leaves e) ≡ effect Full (tree_rows leaves e) =
      λ e te leaf place g. model_full e te true g ∙ put_full (tree_rows leaves e) k w (value_absent leaves e l k te.shaped leaf place) in
      record {
        observation =
            observation_by leaves (call_of 0 Put k w) r c (cover l k k (Seen (key_part l) ∷ is_full leaves ∷ [])) [] items updates
            (at_leaf_within leaves c v k f l there (λ q m. elim (reads_new none true h q m) [ inl at ↦ omega (arith, at) | inr bad ↦ absurd bad ]))
            (at_leaf_reads_directory leaves c v k f l there, (at_leaf_reads_directory leaves c v k f l there, (at_leaf_reads_directory leaves c v k f l there, (at_leaf_reads_keys leaves c v k f l there, (reads_size none, tt)))))
            (inside_cover leaves l k k (Seen (key_part l) ∷ is_full leaves ∷ []) leaf_in (in_size leaves, tt))
            (agrees_cover c c l k k (Seen (key_part l) ∷ is_full leaves ∷ []) v.fits leaf_covers (refl, agrees_ge c c 0 0 (pos (4 * leaves)) [] v.fits h tt))
            (λ e te a.
            let s : (leaf_of leaves (directory e) k ≡ Some l) × (keys e l ≡ keys c l) × Agrees e (is_full leaves ∷ []) c = seen_leaf leaves c e l k (is_full leaves ∷ []) te.shaped leaf_in a in
            let place : place_of (keys e l) k ≡ None = ap (λ ks. place_of ks k) s.1 ∙ none in
            let g : full e ≡ true = (ge_agrees e c 0 0 (pos (4 * leaves)) [] te.shaped.fits s.2).0 in (
              ap (λ x. x.reply) (done e te s.0 place g) ∙ sym (ap (λ x. x.reply) (done c t there none h)),
              at_leaf_updates leaves e te.shaped k f l s.0 ∙ updates_new e place true g,
            ));
        updated = subst (λ x. IsUpdated (tree_meaning leaves) (call_of 0 Put k w) c x) (sym updates)
            (record { ordered = (tt, tt); owned = tt; widths = tt; valid = t; rows = ap (λ x. x.after ∷ []) (sym (done c t there none h)); writes = ap (λ x. is_write Put x.reply) (done c t there none h) });
      }

  is_free_case : place_of (keys c l) k ≡ None → full c ≡ false → (i : ℕ) → free_place (keys c l) ≡ Some i → IsCallLawful leaves (call_of 0 Put k w) c
  is_free_case none h i free =
      let fp : (i < 8) × (not (is_present (keys c l) i) ≡ true) = first_some (λ j. not (is_present (keys c l) j)) 8 i free in
      let unused : is_present (keys c l) i ≡ false = not_true (is_present (keys c l) i) fp.1 in
      let room : count_present leaves c < 4 * leaves = less_of (4 * leaves) (count_present leaves c) (ap (int_le (pos (4 * leaves))) (sym t.counted) ∙ h) in
      let es : List Entry = updates_at (put_free leaves k w (directory c) l (keys c l) (Some i)) c in
      let items : items_at r c ≡ cover l k k (Seen (key_part l) ∷ has_room leaves ∷ []) = at_leaf_items leaves c v k f l there ∙ items_new c none false h ∙ ap (λ o. items_at (put_free leaves k w (directory c) l (keys c l) o) c) free in
      let updates_on : (e : Parts) → place_of (keys e l) k ≡ None → full e ≡ false → free_place (keys e l) ≡ Some i → updates_at (f (directory e) l (keys e l)) e ≡ es =
      λ e place g fr. updates_new e place false g ∙ ap (λ o. updates_at (put_free leaves k w (directory e) l (keys e l) o) e) fr in
      let updates : updates_at r c ≡ es = at_leaf_updates leaves c v k f l there ∙ updates_on c none h free in
      let done : (e : Parts) → IsTree leaves e → full e ≡ false → put_effect (nat_le (4 * leaves) (length (tree_rows leaves e))) k w (tree_rows leaves e) ≡ effect Done (with_row (tree_rows leaves e) k w) =
      λ e te g. model_full e te false g ∙ put_more (tree_rows leaves e) k w in
      record {
        observation =
            observation_by leaves (call_of 0 Put k w) r c (cover l k k (Seen (key_part l) ∷ has_room leaves ∷ [])) es items updates
            (at_leaf_within leaves c v k f l there (λ q m. elim (reads_new none false h q m) [
              | inl at ↦ omega (arith, at)
              | inr a ↦ absurd (subst (λ (o : Option ℕ). IsRead (put_free leaves k w (directory c) l (keys c l) o) c q) free a)
            ]))
            (at_leaf_reads_directory leaves c v k f l there, (at_leaf_reads_directory leaves c v k f l there, (at_leaf_reads_directory leaves c v k f l there, (at_leaf_reads_keys leaves c v k f l there, (reads_size none, tt)))))
            (inside_cover leaves l k k (Seen (key_part l) ∷ has_room leaves ∷ []) leaf_in (in_size leaves, tt))
            (agrees_cover c c l k k (Seen (key_part l) ∷ has_room leaves ∷ []) v.fits leaf_covers (refl, agrees_lt c c 0 0 (pos (4 * leaves)) [] v.fits (lt_of (pos (4 * leaves)) (size c) h) tt))
            (λ e te a.
            let s : (leaf_of leaves (directory e) k ≡ Some l) × (keys e l ≡ keys c l) × Agrees e (has_room leaves ∷ []) c = seen_leaf leaves c e l k (has_room leaves ∷ []) te.shaped leaf_in a in
            let place : place_of (keys e l) k ≡ None = ap (λ ks. place_of ks k) s.1 ∙ none in
            let g : full e ≡ false = not_le (pos (4 * leaves)) (size e) (lt_agrees e c 0 0 (pos (4 * leaves)) [] te.shaped.fits s.2).0 in (
              ap (λ x. x.reply) (done e te g) ∙ sym (ap (λ x. x.reply) (done c t h)),
              at_leaf_updates leaves e te.shaped k f l s.0 ∙ updates_on e place g (ap free_place s.1 ∙ free),
            ));
        updated = subst (λ x. IsUpdated (tree_meaning leaves) (call_of 0 Put k w) c x) (sym updates)
            (record {
              ordered = new_ordered leaves c t few k w l i fits_k fits_w there none fp.0 unused room;
              owned = new_owned leaves c t few k w l i fits_k fits_w there none fp.0 unused room;
              widths = new_widths leaves c t few k w l i fits_k fits_w there none fp.0 unused room;
              valid = new_tree leaves c t few k w l i fits_k fits_w there none fp.0 unused room;
              rows = ap (λ x. x ∷ []) (new_rows leaves c t few k w l i fits_k fits_w there none fp.0 unused room) ∙ ap (λ x. x.after ∷ []) (sym (done c t h));
              writes = ap (λ x. is_write Put x.reply) (done c t h);
            });
      }

  pub put_lawful_in : CrowdedLaw leaves c k w → IsCallLawful leaves (call_of 0 Put k w) c
  put_lawful_in crowded =
      by_option (IsCallLawful leaves (call_of 0 Put k w) c) (place_of (keys c l) k)
      (λ none. by_test (full c) (is_full_case none) (λ h.
      by_option (IsCallLawful leaves (call_of 0 Put k w) c) (free_place (keys c l)) (λ g. crowded l there none h g) (is_free_case none h)))
      present

pub put_lawful : (leaves : ℕ) (c : Parts) → IsTree leaves c → parts_of leaves < 2 ^ 32 → (k w : ℤ) → FitsSigned w64 k → FitsSigned w64 w → CrowdedLaw leaves c k w → IsCallLawful leaves (call_of 0 Put k w) c
put_lawful leaves c t few k w fits_k fits_w crowded =
    let s : (l : ℕ) × (leaf_of leaves (directory c) k ≡ Some l) = leaf_there leaves c t.shaped k fits_k in
    put_lawful_in leaves c t few k w fits_k fits_w s.0 s.1 crowded
