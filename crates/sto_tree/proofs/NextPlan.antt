-- What a next comes to, on what is known.
use Rattle.std.proofs.Common.{◌≡◌, ◌<◌, ℕ, ℤ, pos, Option, Some, None, List, [], ◌∷◌, refl, sym, ◌∙◌, ap, subst, arith, inl, inr}
use Rattle.std.specs.Int.{w64}
use Rattle.std.specs.Int.RustNames.{FitsSigned}
use Rattle.sto_item.specs.declared.item.Item.{Item}
use Rattle.sto_item.specs.Pending.{Entry}
use Rattle.sto_model.specs.declared.call.Call.{Call}
use Rattle.sto_model.specs.declared.operation.Operation.TheVariants.{Next}
use Rattle.sto_model.specs.Objects.{value_or_absent}
use Rattle.sto_model.specs.Rows.{least_from}
use Rattle.sto_model.specs.PlainReplies.{PlainReply}
use Rattle.sto_type.specs.Known.{Parts, Known, IsPartOf}
use Rattle.sto_type.specs.Plans.{Ask, Say, IsPlan}
use Rattle.sto_type.specs.Reading.{need_of, items_of, when_known}
use Rattle.sto_tree.specs.Layout.{directory, keys, key_part, greatest, tree_rows}
use Rattle.sto_tree.specs.Valid.{IsTree}
use Rattle.sto_tree.specs.Meaning.{tree_meaning}
use Rattle.sto_tree.specs.Between.{leaves_between, key_rows}
use Rattle.sto_tree.specs.LeavesBetween.{listed_meets}
use Rattle.sto_tree.specs.Members.{IsIn}
use Rattle.sto_tree.specs.Next.{all_between, next_each}
use Rattle.sto_tree.specs.NextLaw.{found_first, first_in, next_is, next_updates}
use Rattle.sto_tree.specs.Tests.{by_option}
use Rattle.sto_tree.specs.Walked.{next_need, next_found}
use Rattle.sto_tree.proofs.Parts.{known_part}
use Rattle.sto_tree.proofs.Leaves.{plan_as}
use Rattle.sto_tree.proofs.Walks.{next_stops, next_need_past, next_found_past, need_next, items_next, end_of}

module _ (leaves : ℕ) (k : Known) (call : Call) (object : call.object ≡ 0) (third : call.c ≡ pos 0) (operation : call.operation ≡ Next) (fits : FitsSigned w64 call.a) where
  pub next_directory : k 1 ≡ None → IsPlan (tree_meaning leaves) call k (Ask 1)
  next_directory e =
      plan_as leaves Next call k (Ask 1) object third operation
      (ap (λ o. when_known o (Some 1) (λ x. need_of (next_each leaves x call.a (leaves_between leaves x call.a greatest)) k)) e)

  module _ (dir : List ℤ) (known_dir : k 1 ≡ Some dir) where
    abbrev listed : List ℕ
    listed = leaves_between leaves dir call.a greatest

    whole_need : need_of (next_each leaves dir call.a listed) k ≡ next_need k call.a listed
    whole_need = need_next k leaves dir call.a listed

    pub next_needs : (p : ℕ) → next_need k call.a listed ≡ Some p → IsPlan (tree_meaning leaves) call k (Ask p)
    next_needs p e =
        plan_as leaves Next call k (Ask p) object third operation
        (ap (λ o. when_known o (Some 1) (λ x. need_of (next_each leaves x call.a (leaves_between leaves x call.a greatest)) k)) known_dir ∙ whole_need ∙ e)

    module _ (d : Parts) (t : IsTree leaves d) (part : IsPartOf k d) where
      same : directory d ≡ dir
      same = known_part leaves k d 1 dir t part (omega arith) known_dir

      -- what is found in what is known is found in the contents
      found_there : (ls : List ℕ) → ((l : ℕ) → IsIn l ls → l < leaves) → next_need k call.a ls ≡ None → next_found k call.a ls ≡ first_in leaves d t call.a fits ls
      found_there [] below e = refl
      found_there (l ∷ ls) below e =
          by_option (next_found k call.a (l ∷ ls) ≡ first_in leaves d t call.a fits (l ∷ ls)) (k (key_part l))
          (λ none. let z : Some (key_part l) ≡ None = sym (next_stops k call.a l ls none) ∙ e in absurd (cc))
          (λ ks some.
          let low : l < leaves = below l (inl refl) in
          let keys_same : keys d l ≡ ks = known_part leaves k d (key_part l) ks t part (omega (arith, low)) some in
          by_option (next_found k call.a (l ∷ ls) ≡ first_in leaves d t call.a fits (l ∷ ls)) (least_from (key_rows ks) call.a)
          (λ none.
          let needed : next_need k call.a ls ≡ None = sym (next_need_past k call.a l ls ks some None none) ∙ e in
          next_found_past k call.a l ls ks some None none ∙ found_there ls (λ m i. below m (inr i)) needed
          ∙ sym (ap (λ xs. found_first (least_from (key_rows xs) call.a) (first_in leaves d t call.a fits ls)) keys_same ∙ ap (λ o. found_first o (first_in leaves d t call.a fits ls)) none))
          (λ y found.
          next_found_past k call.a l ls ks some (Some y) found
          ∙ sym (ap (λ xs. found_first (least_from (key_rows xs) call.a) (first_in leaves d t call.a fits ls)) keys_same ∙ ap (λ o. found_first o (first_in leaves d t call.a fits ls)) found)))

      next_told : next_need k call.a listed ≡ None → next_found k call.a listed ≡ least_from (tree_rows leaves d) call.a
      next_told e =
          found_there listed (λ l i. (listed_meets leaves (directory d) t.shaped.ranges call.a greatest l (subst (λ (x : List ℤ). IsIn l (leaves_between leaves x call.a greatest)) (sym same) i)).0) e
          ∙ ap (λ x. first_in leaves d t call.a fits (leaves_between leaves x call.a greatest)) (sym same) ∙ sym (next_is leaves d t call.a fits)

    pub says_next :
        (o : Option ℤ) (t : PlainReply) (is : List Item) (us : List Entry) → next_need k call.a listed ≡ None → o ≡ next_found k call.a listed → t ≡ value_or_absent o → is ≡ all_between leaves dir call.a (end_of o) → us ≡ []
        → IsPlan (tree_meaning leaves) call k (Say t is us)
    says_next o t is us need found told items updates =
        plan_as leaves Next call k (Say t is us) object third operation (
          ap (λ u. when_known u (Some 1) (λ x. need_of (next_each leaves x call.a (leaves_between leaves x call.a greatest)) k)) known_dir ∙ whole_need ∙ need,
          items ∙ ap (λ u. all_between leaves dir call.a (end_of u)) found ∙ sym (items_next k leaves dir call.a listed need)
              ∙ sym (ap (λ u. when_known u [] (λ x. items_of (next_each leaves x call.a (leaves_between leaves x call.a greatest)) k)) known_dir),
          λ d v part. (
            told ∙ ap value_or_absent (found ∙ next_told d v part need),
            updates ∙ sym (next_updates leaves d v call.a fits (directory d) (leaves_between leaves (directory d) call.a greatest) d),
          ),
        )
