-- What a remove comes to, on what is known.
use Rattle.std.proofs.Common.{◌≡◌, ℕ, ℤ, pos, negsuc, Some, None, List, [], ◌∷◌, refl, sym, ◌∙◌, ap, true, false}
use Rattle.sto_part.specs.declared.change.Change.TheVariants.{Keep, Put}
use Rattle.sto_item.specs.declared.item.Item.{Item}
use Rattle.sto_item.specs.declared.item.Item.TheVariants.{Seen}
use Rattle.sto_item.specs.Pending.{Entry}
use Rattle.sto_model.specs.declared.call.Call.{Call}
use Rattle.sto_model.specs.declared.operation.Operation.TheVariants.{Remove}
use Rattle.sto_model.specs.Calls.{call_of}
use Rattle.sto_model.specs.PlainReplies.{Flag}
use Rattle.sto_type.specs.Known.{Known}
use Rattle.sto_type.specs.Plans.{Ask, Say, IsPlan}
use Rattle.sto_type.specs.Reading.{Reading, need_of, items_of, updates_at}
use Rattle.sto_tree.specs.Layout.{value, tree_rows, key_part, place_of}
use Rattle.sto_tree.specs.Said.{cover, here, size_grows, key_changes, at_place}
use Rattle.sto_tree.specs.Remove.{remove_there}
use Rattle.sto_tree.specs.Found.{IsAtLeaf, NeedsFirst}
use Rattle.sto_tree.specs.Meaning.{tree_meaning}
use Rattle.sto_tree.specs.Observing.{value_found, value_absent}
use Rattle.sto_tree.specs.RemoveLaw.{removed_none, removed_some}
use Rattle.sto_tree.proofs.Leaves.{leaf_says, plan_as}

module _ (leaves : ℕ) (k : Known) (call : Call) (object : call.object ≡ 0) (third : call.c ≡ pos 0) (operation : call.operation ≡ Remove) where
  abbrev f : List ℤ → ℕ → List ℤ → Reading
  f dir l ks = remove_there call.a l (place_of ks call.a)

  pub remove_first : (p : ℕ) → NeedsFirst leaves k call.a p → IsPlan (tree_meaning leaves) call k (Ask p)
  remove_first p h = plan_as leaves Remove call k (Ask p) object third operation (h f)

  module _ (dir : List ℤ) (l : ℕ) (ks : List ℤ) (at : IsAtLeaf leaves k call.a dir l ks) where
    pub says_not_there : (is : List Item) (us : List Entry) → place_of ks call.a ≡ None → is ≡ cover l call.a call.a (Seen (key_part l) ∷ []) → us ≡ [] → IsPlan (tree_meaning leaves) call k (Say (Flag false) is us)
    says_not_there is us none items updates =
        plan_as leaves Remove call k (Say (Flag false) is us) object third operation
        (leaf_says leaves k call.a dir l ks at (call_of 0 Remove call.a call.b) f refl (Flag false) is us
        (ap (λ o. need_of (remove_there call.a l o) k) none)
        (items ∙ sym (ap (λ o. items_of (remove_there call.a l o) k) none))
        (λ d t part leaf same. (
          ap (λ x. x.reply) (sym (removed_none (tree_rows leaves d) call.a (value_absent leaves d l call.a t.shaped leaf (ap (λ xs. place_of xs call.a) same ∙ none)))),
          updates ∙ ap (λ o. updates_at (remove_there call.a l o) d) (sym none),
        )))

    abbrev pub removed_at : ℕ → List Entry
    removed_at i = size_grows (negsuc 0) ∷ (key_part l, key_changes (at_place i (Put (pos 0)) Keep)) ∷ []

    pub says_removed : (is : List Item) (us : List Entry) (i : ℕ) → place_of ks call.a ≡ Some i → is ≡ cover l call.a call.a (here l i call.a []) → us ≡ removed_at i → IsPlan (tree_meaning leaves) call k (Say (Flag true) is us)
    says_removed is us i some items updates =
        plan_as leaves Remove call k (Say (Flag true) is us) object third operation
        (leaf_says leaves k call.a dir l ks at (call_of 0 Remove call.a call.b) f refl (Flag true) is us
        (ap (λ o. need_of (remove_there call.a l o) k) some)
        (items ∙ sym (ap (λ o. items_of (remove_there call.a l o) k) some))
        (λ d t part leaf same. (
          ap (λ x. x.reply) (sym (removed_some (tree_rows leaves d) call.a (value d l i) (value_found leaves d l i call.a t.shaped leaf (ap (λ xs. place_of xs call.a) same ∙ some)))),
          updates ∙ ap (λ o. updates_at (remove_there call.a l o) d) (sym some),
        )))
