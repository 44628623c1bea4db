-- What a get comes to, on what is known.
use Rattle.std.proofs.Common.{◌≡◌, ◌<◌, ℕ, ℤ, pos, Some, None, List, [], ◌∷◌, refl, sym, ◌∙◌, ap, arith}
use Rattle.sto_part.specs.Parts.{part_of}
use Rattle.sto_item.specs.declared.item.Item.{Item}
use Rattle.sto_item.specs.declared.item.Item.TheVariants.{Seen}
use Rattle.sto_item.specs.Pending.{Entry}
use Rattle.sto_model.specs.declared.call.Call.{Call}
use Rattle.sto_model.specs.declared.operation.Operation.TheVariants.{Get}
use Rattle.sto_model.specs.Calls.{call_of}
use Rattle.sto_model.specs.Objects.{value_or_absent}
use Rattle.sto_model.specs.PlainReplies.{Value, Absent}
use Rattle.sto_type.specs.Known.{Known}
use Rattle.sto_type.specs.Plans.{Ask, Say, IsPlan}
use Rattle.sto_type.specs.Reading.{Reading, need_of, items_of, updates_at, when_known}
use Rattle.sto_tree.specs.Layout.{key_part, value_part, place_of, word}
use Rattle.sto_tree.specs.Said.{cover, here}
use Rattle.sto_tree.specs.Get.{get_there}
use Rattle.sto_tree.specs.Found.{IsAtLeaf, NeedsFirst}
use Rattle.sto_tree.specs.Meaning.{tree_meaning}
use Rattle.sto_tree.specs.Observing.{value_found, value_absent}
use Rattle.sto_tree.proofs.Parts.{known_part}
use Rattle.sto_tree.proofs.Leaves.{leaf_in, leaf_says, leaf_asks, plan_as, place_below}

module _ (leaves : ℕ) (k : Known) (call : Call) (object : call.object ≡ 0) (third : call.c ≡ pos 0) (operation : call.operation ≡ Get) where
  abbrev f : List ℤ → ℕ → List ℤ → Reading
  f dir l ks = get_there call.a l (place_of ks call.a)

  pub get_first : (p : ℕ) → NeedsFirst leaves k call.a p → IsPlan (tree_meaning leaves) call k (Ask p)
  get_first p h = plan_as leaves Get call k (Ask p) object third operation (h f)

  module _ (dir : List ℤ) (l : ℕ) (ks : List ℤ) (at : IsAtLeaf leaves k call.a dir l ks) where
    pub says_absent : (is : List Item) (us : List Entry) → place_of ks call.a ≡ None → is ≡ cover l call.a call.a (Seen (key_part l) ∷ []) → us ≡ [] → IsPlan (tree_meaning leaves) call k (Say Absent is us)
    says_absent is us none items updates =
        plan_as leaves Get call k (Say Absent is us) object third operation
        (leaf_says leaves k call.a dir l ks at (call_of 0 Get call.a call.b) f refl Absent is us
        (ap (λ o. need_of (get_there call.a l o) k) none)
        (items ∙ sym (ap (λ o. items_of (get_there call.a l o) k) none))
        (λ d t part leaf same. (
          ap value_or_absent (sym (value_absent leaves d l call.a t.shaped leaf (ap (λ xs. place_of xs call.a) same ∙ none))),
          updates ∙ ap (λ o. updates_at (get_there call.a l o) d) (sym none),
        )))

    pub needs_value : (i : ℕ) → place_of ks call.a ≡ Some i → k (value_part l i) ≡ None → IsPlan (tree_meaning leaves) call k (Ask (value_part l i))
    needs_value i some e =
        plan_as leaves Get call k (Ask (value_part l i)) object third operation
        (leaf_asks leaves k call.a dir l ks at (call_of 0 Get call.a call.b) f refl (value_part l i)
        (ap (λ o. need_of (get_there call.a l o) k) some ∙ ap (λ o. when_known o (Some (value_part l i)) (λ ws. None)) e))

    pub says_value : (is : List Item) (us : List Entry) (i : ℕ) (ws : List ℤ) (x : ℤ) → x ≡ word ws 0 → place_of ks call.a ≡ Some i → k (value_part l i) ≡ Some ws → is ≡ cover l call.a call.a (here l i call.a (Seen (value_part l i) ∷ [])) → us ≡ []
        → IsPlan (tree_meaning leaves) call k (Say (Value x) is us)
    says_value is us i ws x said some e items updates =
        plan_as leaves Get call k (Say (Value x) is us) object third operation
        (leaf_says leaves k call.a dir l ks at (call_of 0 Get call.a call.b) f refl (Value x) is us
        (ap (λ o. need_of (get_there call.a l o) k) some ∙ ap (λ o. when_known o (Some (value_part l i)) (λ xs. None)) e)
        (items ∙ sym (ap (λ o. items_of (get_there call.a l o) k) some ∙ ap (λ o. when_known o [] (λ xs. cover l call.a call.a (here l i call.a (Seen (value_part l i) ∷ [])))) e))
        (λ d t part leaf same.
        let b : l < leaves = leaf_in leaves k call.a dir l ks at in
        let g : i < 8 = place_below ks call.a i some in
        let v : part_of d (value_part l i) ≡ ws = known_part leaves k d (value_part l i) ws t part (omega (arith, b, g)) e in (
          ap Value said ∙ sym (ap value_or_absent (value_found leaves d l i call.a t.shaped leaf (ap (λ xs. place_of xs call.a) same ∙ some) ∙ ap (λ xs. Some (word xs 0)) v)),
          updates ∙ ap (λ o. updates_at (get_there call.a l o) d) (sym some),
        )))
