-- What a put comes to, on what is known.
use Rattle.std.proofs.Common.{◌≡◌, ◌*◌, ℕ, ℤ, pos, int_le, Bool, Option, Some, None, List, [], ◌∷◌, length, refl, sym, ◌∙◌, ap, arith, true, false}
use Rattle.std.specs.Prelude.{nat_le}
use Rattle.sto_part.specs.Parts.{part_of}
use Rattle.sto_item.specs.declared.item.Item.{Item}
use Rattle.sto_item.specs.declared.item.Item.TheVariants.{Seen}
use Rattle.sto_item.specs.Pending.{Entry}
use Rattle.sto_model.specs.declared.call.Call.{Call}
use Rattle.sto_model.specs.declared.operation.Operation.TheVariants.{Put}
use Rattle.sto_model.specs.Calls.{call_of}
use Rattle.sto_model.specs.Objects.{put_effect}
use Rattle.sto_model.specs.PlainReplies.{Done, Full}
use Rattle.sto_type.specs.Known.{Parts, Known, IsPartOf}
use Rattle.sto_type.specs.Plans.{Ask, Say, IsPlan}
use Rattle.sto_type.specs.Reading.{Reading, need_of, items_of, updates_at, when_known}
use Rattle.sto_tree.specs.Layout.{value, size, tree_rows, key_part, place_of, free_place, word}
use Rattle.sto_tree.specs.Said.{cover, here, value_is, new_row, has_room, is_full}
use Rattle.sto_tree.specs.Put.{put_there, put_new, put_free, put_crowded, free_leaf}
use Rattle.sto_tree.specs.Valid.{IsTree}
use Rattle.sto_tree.specs.Found.{IsAtLeaf, NeedsFirst}
use Rattle.sto_tree.specs.Meaning.{tree_meaning}
use Rattle.sto_tree.specs.Observing.{value_found, value_absent}
use Rattle.sto_tree.specs.PutLaw.{put_over, put_more, put_full, full_is}
use Rattle.sto_tree.proofs.Parts.{known_part}
use Rattle.sto_tree.proofs.Leaves.{leaf_says, leaf_asks, plan_as}

module _ (leaves : ℕ) (k : Known) (call : Call) (object : call.object ≡ 0) (third : call.c ≡ pos 0) (operation : call.operation ≡ Put) where
  abbrev f : List ℤ → ℕ → List ℤ → Reading
  f dir l ks = put_there leaves call.a call.b dir l ks (place_of ks call.a)

  pub put_first : (p : ℕ) → NeedsFirst leaves k call.a p → IsPlan (tree_meaning leaves) call k (Ask p)
  put_first p h = plan_as leaves Put call k (Ask p) object third operation (h f)

  module _ (dir : List ℤ) (l : ℕ) (ks : List ℤ) (at : IsAtLeaf leaves k call.a dir l ks) where
    -- the key is there
    pub says_over : (is : List Item) (us : List Entry) (i : ℕ) → place_of ks call.a ≡ Some i → is ≡ cover l call.a call.a (here l i call.a []) → us ≡ value_is l i call.b ∷ [] → IsPlan (tree_meaning leaves) call k (Say Done is us)
    says_over is us i some items updates =
        plan_as leaves Put call k (Say Done is us) object third operation
        (leaf_says leaves k call.a dir l ks at (call_of 0 Put call.a call.b) f refl Done is us
        (ap (λ o. need_of (put_there leaves call.a call.b dir l ks o) k) some)
        (items ∙ sym (ap (λ o. items_of (put_there leaves call.a call.b dir l ks o) k) some))
        (λ d t part leaf same. (
          ap (λ x. x.reply) (sym (put_over (nat_le (4 * leaves) (length (tree_rows leaves d))) (tree_rows leaves d) call.a call.b (value d l i) (value_found leaves d l i call.a t.shaped leaf (ap (λ xs. place_of xs call.a) same ∙ some)))),
          updates ∙ ap (λ o. updates_at (put_there leaves call.a call.b dir l ks o) d) (sym some),
        )))

    module _ (none : place_of ks call.a ≡ None) where
      pub needs_size : k 0 ≡ None → IsPlan (tree_meaning leaves) call k (Ask 0)
      needs_size e =
          plan_as leaves Put call k (Ask 0) object third operation
          (leaf_asks leaves k call.a dir l ks at (call_of 0 Put call.a call.b) f refl 0
          (ap (λ o. need_of (put_there leaves call.a call.b dir l ks o) k) none
          ∙ ap (λ o. when_known o (Some 0) (λ ws. need_of (put_new leaves call.a call.b dir l ks (int_le (pos (4 * leaves)) (word ws 0))) k)) e))

      -- the key is not there, and the size is known
      module _ (ws : List ℤ) (known_size : k 0 ≡ Some ws) (b : Bool) (full : int_le (pos (4 * leaves)) (word ws 0) ≡ b) where
        pub new_need : need_of (f dir l ks) k ≡ need_of (put_new leaves call.a call.b dir l ks b) k
        new_need =
            ap (λ o. need_of (put_there leaves call.a call.b dir l ks o) k) none
            ∙ ap (λ o. when_known o (Some 0) (λ xs. need_of (put_new leaves call.a call.b dir l ks (int_le (pos (4 * leaves)) (word xs 0))) k)) known_size
            ∙ ap (λ x. need_of (put_new leaves call.a call.b dir l ks x) k) full

        pub new_items : items_of (f dir l ks) k ≡ items_of (put_new leaves call.a call.b dir l ks b) k
        new_items =
            ap (λ o. items_of (put_there leaves call.a call.b dir l ks o) k) none
            ∙ ap (λ o. when_known o [] (λ xs. items_of (put_new leaves call.a call.b dir l ks (int_le (pos (4 * leaves)) (word xs 0))) k)) known_size
            ∙ ap (λ x. items_of (put_new leaves call.a call.b dir l ks x) k) full

        module _ (d : Parts) (t : IsTree leaves d) (part : IsPartOf k d) where
          full_there : int_le (pos (4 * leaves)) (size d) ≡ b
          full_there =
              let same : part_of d 0 ≡ ws = known_part leaves k d 0 ws t part (omega arith) known_size in
              ap (λ xs. int_le (pos (4 * leaves)) (word xs 0)) same ∙ full

          pub new_updates : updates_at (f dir l ks) d ≡ updates_at (put_new leaves call.a call.b dir l ks b) d
          new_updates =
              ap (λ o. updates_at (put_there leaves call.a call.b dir l ks o) d) none
              ∙ ap (λ x. updates_at (put_new leaves call.a call.b dir l ks x) d) full_there

          pub new_effect : put_effect (nat_le (4 * leaves) (length (tree_rows leaves d))) call.a call.b (tree_rows leaves d) ≡ put_effect b call.a call.b (tree_rows leaves d)
          new_effect = ap (λ x. put_effect x call.a call.b (tree_rows leaves d)) (full_is leaves d t ∙ full_there)

      module _ (ws : List ℤ) (known_size : k 0 ≡ Some ws) where
        pub says_full : (is : List Item) (us : List Entry) → int_le (pos (4 * leaves)) (word ws 0) ≡ true → is ≡ cover l call.a call.a (Seen (key_part l) ∷ is_full leaves ∷ []) → us ≡ [] → IsPlan (tree_meaning leaves) call k (Say Full is us)
        says_full is us full items updates =
            plan_as leaves Put call k (Say Full is us) object third operation
            (leaf_says leaves k call.a dir l ks at (call_of 0 Put call.a call.b) f refl Full is us (new_need ws known_size true full)
            (items ∙ sym (new_items ws known_size true full))
            (λ d t part leaf same. (
              sym (ap (λ x. x.reply) (new_effect ws known_size true full d t part ∙ put_full (tree_rows leaves d) call.a call.b (value_absent leaves d l call.a t.shaped leaf (ap (λ xs. place_of xs call.a) same ∙ none)))),
              updates ∙ sym (new_updates ws known_size true full d t part),
            )))

        pub says_new : (is : List Item) (us : List Entry) (i : ℕ) → int_le (pos (4 * leaves)) (word ws 0) ≡ false → free_place ks ≡ Some i → is ≡ cover l call.a call.a (Seen (key_part l) ∷ has_room leaves ∷ []) → us ≡ new_row l i call.a call.b
            → IsPlan (tree_meaning leaves) call k (Say Done is us)
        says_new is us i full free items updates =
            plan_as leaves Put call k (Say Done is us) object third operation
            (leaf_says leaves k call.a dir l ks at (call_of 0 Put call.a call.b) f refl Done is us
            (new_need ws known_size false full ∙ ap (λ o. need_of (put_free leaves call.a call.b dir l ks o) k) free)
            (items ∙ sym (new_items ws known_size false full ∙ ap (λ o. items_of (put_free leaves call.a call.b dir l ks o) k) free))
            (λ d t part leaf same. (
              sym (ap (λ x. x.reply) (new_effect ws known_size false full d t part ∙ put_more (tree_rows leaves d) call.a call.b)),
              updates ∙ sym (new_updates ws known_size false full d t part ∙ ap (λ o. updates_at (put_free leaves call.a call.b dir l ks o) d) free),
            )))

        -- the leaf has no free place
        module _ (full : int_le (pos (4 * leaves)) (word ws 0) ≡ false) (crowded : free_place ks ≡ None) (o : Option ℕ) (other : free_leaf leaves dir ≡ o) where
          abbrev g : Reading
          g = put_crowded leaves call.a call.b dir l ks o

          crowded_need : need_of (f dir l ks) k ≡ need_of g k
          crowded_need = new_need ws known_size false full ∙ ap (λ u. need_of (put_free leaves call.a call.b dir l ks u) k) crowded ∙ ap (λ u. need_of (put_crowded leaves call.a call.b dir l ks u) k) other

          crowded_items : items_of (f dir l ks) k ≡ items_of g k
          crowded_items = new_items ws known_size false full ∙ ap (λ u. items_of (put_free leaves call.a call.b dir l ks u) k) crowded ∙ ap (λ u. items_of (put_crowded leaves call.a call.b dir l ks u) k) other

          pub crowded_asks : (p : ℕ) → need_of g k ≡ Some p → IsPlan (tree_meaning leaves) call k (Ask p)
          crowded_asks p e = plan_as leaves Put call k (Ask p) object third operation (leaf_asks leaves k call.a dir l ks at (call_of 0 Put call.a call.b) f refl p (crowded_need ∙ e))

          pub crowded_says : (is : List Item) (us : List Entry) → need_of g k ≡ None → is ≡ items_of g k → ((d : Parts) → IsTree leaves d → IsPartOf k d → us ≡ updates_at g d) → IsPlan (tree_meaning leaves) call k (Say Done is us)
          crowded_says is us need items updates =
              plan_as leaves Put call k (Say Done is us) object third operation
              (leaf_says leaves k call.a dir l ks at (call_of 0 Put call.a call.b) f refl Done is us (crowded_need ∙ need) (items ∙ sym crowded_items)
              (λ d t part leaf same. (
                sym (ap (λ x. x.reply) (new_effect ws known_size false full d t part ∙ put_more (tree_rows leaves d) call.a call.b)),
                updates d t part
                    ∙ sym (new_updates ws known_size false full d t part ∙ ap (λ u. updates_at (put_free leaves call.a call.b dir l ks u) d) crowded ∙ ap (λ u. updates_at (put_crowded leaves call.a call.b dir l ks u) d) other),
              )))
