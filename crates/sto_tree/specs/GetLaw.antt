-- get k
use Rattle.std.proofs.Common.{◌≡◌, ◌<◌, ℕ, ℤ, Option, Some, None, List, [], ◌∷◌, refl, sym, ◌∙◌, ap, subst, arith, inl, inr, true, false}
use Rattle.std.specs.Int.{w64}
use Rattle.std.specs.Int.RustNames.{FitsSigned}
use Rattle.sto_item.specs.declared.item.Item.TheVariants.{Seen}
use Rattle.sto_item.specs.Agreement.{Agrees}
use Rattle.sto_model.specs.declared.operation.Operation.TheVariants.{Get}
use Rattle.sto_model.specs.Calls.{call_of}
use Rattle.sto_model.specs.Objects.{value_or_absent}
use Rattle.sto_model.specs.PlainReplies.{is_write}
use Rattle.sto_model.specs.Rows.{value_at}
use Rattle.sto_type.specs.Known.{Parts}
use Rattle.sto_type.specs.Meaning.{IsUpdated}
use Rattle.sto_type.specs.Reading.{Reading, items_at, updates_at, IsRead}
use Rattle.sto_tree.specs.Layout.{directory, keys, value, covers, leaf_of, place_of, holds_key, key_part, value_part, tree_rows, word}
use Rattle.sto_tree.specs.Said.{cover, here}
use Rattle.sto_tree.specs.Get.{get_there, get_reading}
use Rattle.sto_tree.specs.Valid.{IsShaped, IsTree}
use Rattle.sto_tree.specs.Meaning.{tree_meaning}
use Rattle.sto_tree.specs.Searches.{first_some}
use Rattle.sto_tree.specs.Tests.{by_option}
use Rattle.sto_tree.specs.Lookup.{leaf_there, leaf_has}
use Rattle.sto_tree.specs.CallLaw.{IsObservation, IsCallLawful}
use Rattle.sto_tree.specs.Agreeing.{agrees_cover, agrees_here, at_leaf_items, at_leaf_updates, at_leaf_within, at_leaf_reads_directory, at_leaf_reads_keys, at_leaf_reads}
use Rattle.sto_tree.specs.Insides.{inside_cover, inside_here}
use Rattle.sto_tree.specs.Observing.{observation_by, seen_leaf, here_leaf, value_found, value_absent}

module _ (leaves : ℕ) (c : Parts) (t : IsTree leaves c) (k b : ℤ) (l : ℕ) (there : leaf_of leaves (directory c) k ≡ Some l) where
  abbrev f : List ℤ → ℕ → List ℤ → Reading
  f dir m ks = get_there k m (place_of ks k)

  v : IsShaped leaves c
  v = t.shaped

  leaf_in : l < leaves
  leaf_in = (leaf_has leaves c v l k there).0

  leaf_covers : covers (directory c) k k l ≡ true
  leaf_covers = (leaf_has leaves c v l k there).1

  -- nothing is written
  pub get_updates : (e : Parts) (m : ℕ) (o : Option ℕ) → updates_at (get_there k m o) e ≡ []
  get_updates e m (Some i) = refl
  get_updates e m None = refl

  absent : place_of (keys c l) k ≡ None → IsObservation leaves (call_of 0 Get k b) (get_reading leaves k) c
  absent none =
      observation_by leaves (call_of 0 Get k b) (get_reading leaves k) c (cover l k k (Seen (key_part l) ∷ [])) []
      (at_leaf_items leaves c v k f l there ∙ ap (λ o. items_at (get_there k l o) c) none)
      (at_leaf_updates leaves c v k f l there ∙ get_updates c l (place_of (keys c l) k))
      (at_leaf_within leaves c v k f l there (λ q h. absurd (subst (λ (o : Option ℕ). IsRead (get_there k l o) c q) none h)))
      (at_leaf_reads_directory leaves c v k f l there, (at_leaf_reads_directory leaves c v k f l there, (at_leaf_reads_directory leaves c v k f l there, (at_leaf_reads_keys leaves c v k f l there, tt))))
      (inside_cover leaves l k k (Seen (key_part l) ∷ []) leaf_in tt)
      (agrees_cover c c l k k (Seen (key_part l) ∷ []) v.fits leaf_covers (refl, tt))
      (λ e te a.
      let s : (leaf_of leaves (directory e) k ≡ Some l) × (keys e l ≡ keys c l) × Agrees e [] c = seen_leaf leaves c e l k [] te.shaped leaf_in a in
      let place : place_of (keys e l) k ≡ None = ap (λ ks. place_of ks k) s.1 ∙ none in (
        ap value_or_absent (value_absent leaves e l k te.shaped s.0 place ∙ sym (value_absent leaves c l k v there none)),
        at_leaf_updates leaves e te.shaped k f l s.0 ∙ get_updates e l (place_of (keys e l) k),
      ))

  present : (i : ℕ) → place_of (keys c l) k ≡ Some i → IsObservation leaves (call_of 0 Get k b) (get_reading leaves k) c
  present i some =
      let g : (i < 8) × (holds_key (keys c l) k i ≡ true) = first_some (holds_key (keys c l) k) 8 i some in
      let value_read : IsRead (get_there k l (place_of (keys c l) k)) c (value_part l i) = subst (λ (o : Option ℕ). IsRead (get_there k l o) c (value_part l i)) (sym some) (inl refl) in
      observation_by leaves (call_of 0 Get k b) (get_reading leaves k) c (cover l k k (here l i k (Seen (value_part l i) ∷ []))) []
      (at_leaf_items leaves c v k f l there ∙ ap (λ o. items_at (get_there k l o) c) some)
      (at_leaf_updates leaves c v k f l there ∙ get_updates c l (place_of (keys c l) k))
      (at_leaf_within leaves c v k f l there (λ q h. elim (subst (λ (o : Option ℕ). IsRead (get_there k l o) c q) some h) [
        | inl at ↦ omega (arith, at, leaf_in, g.0)
        | inr bad ↦ absurd bad
      ]))
      (at_leaf_reads_directory leaves c v k f l there, (at_leaf_reads_directory leaves c v k f l there, (at_leaf_reads_directory leaves c v k f l there, (at_leaf_reads_keys leaves c v k f l there, (at_leaf_reads_keys leaves c v k f l there, (at_leaf_reads leaves c v k f l there (value_part l i) value_read, tt))))))
      (inside_cover leaves l k k (here l i k (Seen (value_part l i) ∷ [])) leaf_in (inside_here leaves l i k (Seen (value_part l i) ∷ []) leaf_in g.0 tt))
      (agrees_cover c c l k k (here l i k (Seen (value_part l i) ∷ [])) v.fits leaf_covers (agrees_here c c l i k (Seen (value_part l i) ∷ []) v.fits g.1 (refl, tt)))
      (λ e te a.
      let s : (leaf_of leaves (directory e) k ≡ Some l) × (place_of (keys e l) k ≡ Some i) × Agrees e (Seen (value_part l i) ∷ []) c = here_leaf leaves c e l i k (Seen (value_part l i) ∷ []) te.shaped leaf_in g.0 a in
      let same : value e l i ≡ value c l i = ap (λ ws. word ws 0) s.2.0 in (
        ap value_or_absent (value_found leaves e l i k te.shaped s.0 s.1 ∙ ap Some same ∙ sym (value_found leaves c l i k v there some)),
        at_leaf_updates leaves e te.shaped k f l s.0 ∙ get_updates e l (place_of (keys e l) k),
      ))

  get_observation : IsObservation leaves (call_of 0 Get k b) (get_reading leaves k) c
  get_observation = by_option (IsObservation leaves (call_of 0 Get k b) (get_reading leaves k) c) (place_of (keys c l) k) absent present

  pub get_lawful_in : IsCallLawful leaves (call_of 0 Get k b) c
  get_lawful_in = record {
    observation = get_observation;
    updated = subst (λ es. IsUpdated (tree_meaning leaves) (call_of 0 Get k b) c es) (sym (at_leaf_updates leaves c v k f l there ∙ get_updates c l (place_of (keys c l) k)))
        (record { ordered = (tt, tt); owned = tt; widths = tt; valid = t; rows = refl; writes = writes_none (value_at (tree_rows leaves c) k) });
  } where
    writes_none : (o : Option ℤ) → is_write Get (value_or_absent o) ≡ false
    writes_none None = refl
    writes_none (Some x) = refl

pub get_lawful : (leaves : ℕ) (c : Parts) → IsTree leaves c → (k b : ℤ) → FitsSigned w64 k → IsCallLawful leaves (call_of 0 Get k b) c
get_lawful leaves c t k b fits =
    let w : (l : ℕ) × (leaf_of leaves (directory c) k ≡ Some l) = leaf_there leaves c t.shaped k fits in
    get_lawful_in leaves c t k b w.0 w.1
