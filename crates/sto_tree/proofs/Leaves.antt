-- Calls that read in the leaf of a key, on what is known.
use Rattle.std.proofs.Common.{◌≡◌, ◌<◌, ◌*◌, ℕ, ℤ, pos, Some, None, List, [], length, sym, ◌∙◌, ap, subst, arith}
use Rattle.std.specs.Int.{w64}
use Rattle.std.specs.Int.RustNames.{FitsSigned}
use Rattle.sto_item.specs.declared.item.Item.{Item}
use Rattle.sto_item.specs.Pending.{Entry}
use Rattle.sto_model.specs.declared.call.Call.{Call}
use Rattle.sto_model.specs.declared.operation.Operation.{Operation}
use Rattle.sto_model.specs.Calls.{call_of}
use Rattle.sto_model.specs.PlainReplies.{PlainReply}
use Rattle.sto_model.specs.SequentialObjects.{reply_to}
use Rattle.sto_type.specs.Known.{Parts, Known, IsPartOf}
use Rattle.sto_type.specs.Plans.{Plan, Ask, Say, IsPlan}
use Rattle.sto_type.specs.Reading.{Reading, need_of, items_of, updates_at, when_known}
use Rattle.sto_tree.specs.Layout.{directory, keys, key_part, value_part, leaf_of, place_of, holds_key, covers}
use Rattle.sto_tree.specs.Said.{in_leaf, at_leaf}
use Rattle.sto_tree.specs.Valid.{IsTree}
use Rattle.sto_tree.specs.Found.{IsAtLeaf, NeedsFirst}
use Rattle.sto_tree.specs.Meaning.{tree_meaning, reading}
use Rattle.sto_tree.specs.Searches.{first_some}
use Rattle.sto_tree.specs.Lookup.{leaf_there}
use Rattle.sto_tree.specs.Sized.{tree_length, key_width, value_width}
use Rattle.sto_tree.proofs.Parts.{known_part, known_width}

-- the leaf of a key is there, and its parts are wide enough
pub no_leaf : (leaves : ℕ) (k : Known) (key : ℤ) (dir : List ℤ) → FitsSigned w64 key → (d : Parts) × IsTree leaves d × IsPartOf k d → k 1 ≡ Some dir → leaf_of leaves dir key ≡ None → ⊥
no_leaf leaves k key dir fits w known_dir none =
    let same : directory w.0 ≡ dir = w.2.same 1 dir (omega (arith, tree_length leaves w.0 w.1.shaped.widths)) known_dir in
    let l : (l : ℕ) × (leaf_of leaves (directory w.0) key ≡ Some l) = leaf_there leaves w.0 w.1.shaped key fits in
    let z : None ≡ Some l.0 = sym none ∙ ap (λ x. leaf_of leaves x key) (sym same) ∙ l.1 in absurd (cc)

pub directory_wide : (leaves : ℕ) (k : Known) (dir : List ℤ) → (d : Parts) × IsTree leaves d × IsPartOf k d → k 1 ≡ Some dir → length dir ≡ 3 * leaves
directory_wide leaves k dir w e = known_width leaves k w.0 1 dir w.1 w.2 (omega arith) e

pub keys_wide : (leaves : ℕ) (k : Known) (l : ℕ) (ks : List ℤ) → l < leaves → (d : Parts) × IsTree leaves d × IsPartOf k d → k (key_part l) ≡ Some ks → length ks ≡ 16
keys_wide leaves k l ks h w e = known_width leaves k w.0 (key_part l) ks w.1 w.2 (omega (arith, h)) e ∙ key_width leaves l

pub value_wide : (leaves : ℕ) (k : Known) (l i : ℕ) (ws : List ℤ) → l < leaves → i < 8 → (d : Parts) × IsTree leaves d × IsPartOf k d → k (value_part l i) ≡ Some ws → length ws ≡ 1
value_wide leaves k l i ws h b w e = known_width leaves k w.0 (value_part l i) ws w.1 w.2 (omega (arith, h, b)) e ∙ value_width leaves l i b

pub size_wide : (leaves : ℕ) (k : Known) (ws : List ℤ) → (d : Parts) × IsTree leaves d × IsPartOf k d → k 0 ≡ Some ws → length ws ≡ 1
size_wide leaves k ws w e = known_width leaves k w.0 0 ws w.1 w.2 (omega arith) e

pub leaf_below : (leaves : ℕ) (dir : List ℤ) (key : ℤ) (l : ℕ) → leaf_of leaves dir key ≡ Some l → l < leaves
leaf_below leaves dir key l e = (first_some (covers dir key key) leaves l e).0

pub place_below : (ks : List ℤ) (key : ℤ) (i : ℕ) → place_of ks key ≡ Some i → i < 8
place_below ks key i e = (first_some (holds_key ks key) 8 i e).0

-- what is needed to tell the leaf
pub needs_directory : (leaves : ℕ) (k : Known) (key : ℤ) → k 1 ≡ None → NeedsFirst leaves k key 1
needs_directory leaves k key e f = ap (λ o. when_known o (Some 1) (λ dir. need_of (in_leaf (leaf_of leaves dir key) (f dir)) k)) e

-- once the leaf is told
module _ (leaves : ℕ) (k : Known) (key : ℤ) (dir : List ℤ) (l : ℕ) (ks : List ℤ) (at : IsAtLeaf leaves k key dir l ks) where
  pub leaf_in : l < leaves
  leaf_in = leaf_below leaves dir key l at.leaf

  module _ (f : List ℤ → ℕ → List ℤ → Reading) where
    pub leaf_need : need_of (at_leaf leaves key f) k ≡ need_of (f dir l ks) k
    leaf_need =
        ap (λ o. when_known o (Some 1) (λ d. need_of (in_leaf (leaf_of leaves d key) (f d)) k)) at.directory
        ∙ ap (λ o. need_of (in_leaf o (f dir)) k) at.leaf
        ∙ ap (λ o. when_known o (Some (key_part l)) (λ xs. need_of (f dir l xs) k)) at.keys

    pub leaf_items : items_of (at_leaf leaves key f) k ≡ items_of (f dir l ks) k
    leaf_items =
        ap (λ o. when_known o [] (λ d. items_of (in_leaf (leaf_of leaves d key) (f d)) k)) at.directory
        ∙ ap (λ o. items_of (in_leaf o (f dir)) k) at.leaf
        ∙ ap (λ o. when_known o [] (λ xs. items_of (f dir l xs) k)) at.keys

  module _ (d : Parts) (t : IsTree leaves d) (part : IsPartOf k d) where
    pub same_directory : directory d ≡ dir
    same_directory = part.same 1 dir (omega (arith, tree_length leaves d t.shaped.widths)) at.directory

    pub same_leaf : leaf_of leaves (directory d) key ≡ Some l
    same_leaf = ap (λ x. leaf_of leaves x key) same_directory ∙ at.leaf

    pub same_keys : keys d l ≡ ks
    same_keys = known_part leaves k d (key_part l) ks t part (omega (arith, leaf_in)) at.keys

    pub leaf_updates : (f : List ℤ → ℕ → List ℤ → Reading) → updates_at (at_leaf leaves key f) d ≡ updates_at (f dir l ks) d
    leaf_updates f =
        ap (λ x. updates_at (in_leaf (leaf_of leaves x key) (f x)) d) same_directory
        ∙ ap (λ o. updates_at (in_leaf o (f dir)) d) at.leaf
        ∙ ap (λ xs. updates_at (f dir l xs) d) same_keys

  -- the plan of a call that reads there
  pub leaf_says :
      (call : Call) (f : List ℤ → ℕ → List ℤ → Reading) → reading leaves call ≡ at_leaf leaves key f → (t : PlainReply) (is : List Item) (es : List Entry)
      → need_of (f dir l ks) k ≡ None → is ≡ items_of (f dir l ks) k
      → ((d : Parts) → IsTree leaves d → IsPartOf k d → leaf_of leaves (directory d) key ≡ Some l → keys d l ≡ ks → (t ≡ reply_to (tree_meaning leaves).machines call ((tree_meaning leaves).rows d)) × (es ≡ updates_at (f dir l ks) d))
      → IsPlan (tree_meaning leaves) call k (Say t is es)
  leaf_says call f e t is es need items on = (
    ap (λ r. need_of r k) e ∙ leaf_need f ∙ need,
    items ∙ sym (ap (λ r. items_of r k) e ∙ leaf_items f),
    λ d td part. let g = on d td part (same_leaf d td part) (same_keys d td part) in (g.0, g.1 ∙ sym (ap (λ r. updates_at r d) e ∙ leaf_updates d td part f)),
  )

  pub leaf_asks : (call : Call) (f : List ℤ → ℕ → List ℤ → Reading) → reading leaves call ≡ at_leaf leaves key f → (p : ℕ) → need_of (f dir l ks) k ≡ Some p → IsPlan (tree_meaning leaves) call k (Ask p)
  leaf_asks call f e p need = ap (λ r. need_of r k) e ∙ leaf_need f ∙ need

-- a call of the one object
pub as_call : (o : Operation) (call : Call) → call.object ≡ 0 → call.c ≡ pos 0 → call.operation ≡ o → call_of 0 o call.a call.b ≡ call
as_call o call z third e = λ i. record { object = sym z i; operation = sym e i; a = call.a; b = call.b; c = sym third i }

pub plan_as :
    (leaves : ℕ) (o : Operation) (call : Call) (k : Known) (p : Plan) → call.object ≡ 0 → call.c ≡ pos 0 → call.operation ≡ o → IsPlan (tree_meaning leaves) (call_of 0 o call.a call.b) k p
    → IsPlan (tree_meaning leaves) call k p
plan_as leaves o call k p z third e h = subst (λ (x : Call). IsPlan (tree_meaning leaves) x k p) (as_call o call z third e) h
