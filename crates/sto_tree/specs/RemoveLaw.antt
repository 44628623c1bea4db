-- remove k
use Rattle.std.proofs.Common.{◌≡◌, ◌<◌, ◌^◌, ℕ, ℤ, Option, Some, None, List, [], ◌∷◌, refl, sym, ◌∙◌, ap, subst, true, false}
use Rattle.std.specs.Int.{w64}
use Rattle.std.specs.Int.RustNames.{FitsSigned}
use Rattle.sto_item.specs.declared.item.Item.TheVariants.{Seen}
use Rattle.sto_item.specs.Pending.{Entry}
use Rattle.sto_item.specs.Agreement.{Agrees}
use Rattle.sto_model.specs.declared.operation.Operation.TheVariants.{Remove}
use Rattle.sto_model.specs.Calls.{call_of}
use Rattle.sto_model.specs.Objects.{effect, remove_effect}
use Rattle.sto_model.specs.PlainReplies.{is_write, Flag}
use Rattle.sto_model.specs.Rows.{Row, value_at, without}
use Rattle.sto_type.specs.Known.{Parts}
use Rattle.sto_type.specs.Meaning.{IsUpdated}
use Rattle.sto_type.specs.Reading.{Reading, items_at, updates_at, IsRead}
use Rattle.sto_tree.specs.Layout.{directory, keys, value, covers, leaf_of, place_of, holds_key, key_part, parts_of, tree_rows}
use Rattle.sto_tree.specs.Said.{cover, here}
use Rattle.sto_tree.specs.Remove.{remove_there, remove_reading}
use Rattle.sto_tree.specs.Valid.{IsShaped, IsTree}
use Rattle.sto_tree.specs.Meaning.{tree_meaning}
use Rattle.sto_tree.specs.Searches.{first_some}
use Rattle.sto_tree.specs.Tests.{by_option}
use Rattle.sto_tree.specs.Lookup.{leaf_there, leaf_has}
use Rattle.sto_tree.specs.CallLaw.{IsCallLawful}
use Rattle.sto_tree.specs.Agreeing.{agrees_cover, agrees_here, at_leaf_items, at_leaf_updates, at_leaf_within, at_leaf_reads_directory, at_leaf_reads_keys}
use Rattle.sto_tree.specs.Insides.{inside_cover, inside_here}
use Rattle.sto_tree.specs.Observing.{observation_by, seen_leaf, here_leaf, value_found, value_absent}
use Rattle.sto_tree.specs.Removing.{gone_widths, gone_ordered, gone_owned, gone_rows, gone_tree}

pub removed_none : (rows : List Row) (k : ℤ) → value_at rows k ≡ None → remove_effect k rows ≡ effect (Flag false) rows
removed_none rows k e = rw e refl

pub removed_some : (rows : List Row) (k x : ℤ) → value_at rows k ≡ Some x → remove_effect k rows ≡ effect (Flag true) (without rows k)
removed_some rows k x e = rw e refl

module _ (leaves : ℕ) (c : Parts) (t : IsTree leaves c) (few : parts_of leaves < 2 ^ 32) (k b : ℤ) (l : ℕ) (there : leaf_of leaves (directory c) k ≡ Some l) where
  abbrev f : List ℤ → ℕ → List ℤ → Reading
  f dir m ks = remove_there k m (place_of ks k)

  abbrev r : Reading
  r = remove_reading leaves k

  v : IsShaped leaves c
  v = t.shaped

  leaf_in : l < leaves
  leaf_in = (leaf_has leaves c v l k there).0

  leaf_covers : covers (directory c) k k l ≡ true
  leaf_covers = (leaf_has leaves c v l k there).1

  -- nothing more is read
  reads_none : (e : Parts) (m : ℕ) (o : Option ℕ) (q : ℕ) → IsRead (remove_there k m o) e q → ⊥
  reads_none e m (Some i) q h = h
  reads_none e m None q h = h

  within : (q : ℕ) → IsRead r c q → q < parts_of leaves
  within = at_leaf_within leaves c v k f l there (λ q h. absurd (reads_none c l (place_of (keys c l) k) q h))

  absent : place_of (keys c l) k ≡ None → IsCallLawful leaves (call_of 0 Remove k b) c
  absent none =
      let items : items_at r c ≡ cover l k k (Seen (key_part l) ∷ []) = at_leaf_items leaves c v k f l there ∙ ap (λ o. items_at (remove_there k l o) c) none in
      let updates : updates_at r c ≡ [] = at_leaf_updates leaves c v k f l there ∙ ap (λ o. updates_at (remove_there k l o) c) none in
      let gone : value_at (tree_rows leaves c) k ≡ None = value_absent leaves c l k v there none in
      let done : remove_effect k (tree_rows leaves c) ≡ effect (Flag false) (tree_rows leaves c) = removed_none (tree_rows leaves c) k gone in
      record {
        observation =
            observation_by leaves (call_of 0 Remove k b) r c (cover l k k (Seen (key_part l) ∷ [])) [] items updates within
            (at_leaf_reads_directory leaves c v k f l there, (at_leaf_reads_directory leaves c v k f l there, (at_leaf_reads_directory leaves c v k f l there, (at_leaf_reads_keys leaves c v k f l there, tt))))
            (inside_cover leaves l k k (Seen (key_part l) ∷ []) leaf_in tt)
            (agrees_cover c c l k k (Seen (key_part l) ∷ []) v.fits leaf_covers (refl, tt))
            (λ e te a.
            let s : (leaf_of leaves (directory e) k ≡ Some l) × (keys e l ≡ keys c l) × Agrees e [] c = seen_leaf leaves c e l k [] te.shaped leaf_in a in
            let place : place_of (keys e l) k ≡ None = ap (λ ks. place_of ks k) s.1 ∙ none in (
              ap (λ x. x.reply) (removed_none (tree_rows leaves e) k (value_absent leaves e l k te.shaped s.0 place)) ∙ sym (ap (λ x. x.reply) done),
              at_leaf_updates leaves e te.shaped k f l s.0 ∙ ap (λ o. updates_at (remove_there k l o) e) place,
            ));
        updated = subst (λ es. IsUpdated (tree_meaning leaves) (call_of 0 Remove k b) c es) (sym updates)
            (record { ordered = (tt, tt); owned = tt; widths = tt; valid = t; rows = ap (λ x. x.after ∷ []) (sym done); writes = ap (λ x. is_write Remove x.reply) done });
      }

  present : (i : ℕ) → place_of (keys c l) k ≡ Some i → IsCallLawful leaves (call_of 0 Remove k b) c
  present i some =
      let g : (i < 8) × (holds_key (keys c l) k i ≡ true) = first_some (holds_key (keys c l) k) 8 i some in
      let es : List Entry = updates_at (remove_there k l (Some i)) c in
      let items : items_at r c ≡ cover l k k (here l i k []) = at_leaf_items leaves c v k f l there ∙ ap (λ o. items_at (remove_there k l o) c) some in
      let updates : updates_at r c ≡ es = at_leaf_updates leaves c v k f l there ∙ ap (λ o. updates_at (remove_there k l o) c) some in
      let was : value_at (tree_rows leaves c) k ≡ Some (value c l i) = value_found leaves c l i k v there some in
      let done : remove_effect k (tree_rows leaves c) ≡ effect (Flag true) (without (tree_rows leaves c) k) = removed_some (tree_rows leaves c) k (value c l i) was in
      record {
        observation =
            observation_by leaves (call_of 0 Remove k b) r c (cover l k k (here l i k [])) es items updates within
            (at_leaf_reads_directory leaves c v k f l there, (at_leaf_reads_directory leaves c v k f l there, (at_leaf_reads_directory leaves c v k f l there, (at_leaf_reads_keys leaves c v k f l there, (at_leaf_reads_keys leaves c v k f l there, tt)))))
            (inside_cover leaves l k k (here l i k []) leaf_in (inside_here leaves l i k [] leaf_in g.0 tt))
            (agrees_cover c c l k k (here l i k []) v.fits leaf_covers (agrees_here c c l i k [] v.fits g.1 tt))
            (λ e te a.
            let s : (leaf_of leaves (directory e) k ≡ Some l) × (place_of (keys e l) k ≡ Some i) × Agrees e [] c = here_leaf leaves c e l i k [] te.shaped leaf_in g.0 a in (
              ap (λ x. x.reply) (removed_some (tree_rows leaves e) k (value e l i) (value_found leaves e l i k te.shaped s.0 s.1)) ∙ sym (ap (λ x. x.reply) done),
              at_leaf_updates leaves e te.shaped k f l s.0 ∙ ap (λ o. updates_at (remove_there k l o) e) s.1,
            ));
        updated = subst (λ x. IsUpdated (tree_meaning leaves) (call_of 0 Remove k b) c x) (sym updates)
            (record {
              ordered = gone_ordered leaves c t few k l i there some;
              owned = gone_owned leaves c t few k l i there some;
              widths = gone_widths leaves c t few k l i there some;
              valid = gone_tree leaves c t few k l i there some;
              rows = ap (λ x. x ∷ []) (gone_rows leaves c t few k l i there some) ∙ ap (λ x. x.after ∷ []) (sym done);
              writes = ap (λ x. is_write Remove x.reply) done;
            });
      }

  pub remove_lawful_in : IsCallLawful leaves (call_of 0 Remove k b) c
  remove_lawful_in = by_option (IsCallLawful leaves (call_of 0 Remove k b) c) (place_of (keys c l) k) absent present

pub remove_lawful : (leaves : ℕ) (c : Parts) → IsTree leaves c → parts_of leaves < 2 ^ 32 → (k b : ℤ) → FitsSigned w64 k → IsCallLawful leaves (call_of 0 Remove k b) c
remove_lawful leaves c t few k b fits =
    let w : (l : ℕ) × (leaf_of leaves (directory c) k ≡ Some l) = leaf_there leaves c t.shaped k fits in
    remove_lawful_in leaves c t few k b w.0 w.1
