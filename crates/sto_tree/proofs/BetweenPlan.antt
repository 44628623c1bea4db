-- What a count and a scan come to, on what is known.
use Rattle.std.proofs.Common.{◌≡◌, ◌<◌, ℕ, ℤ, pos, Bool, true, false, int_le, Option, Some, None, List, [], refl, sym, ◌∙◌, ap, subst, arith, inr}
use Rattle.std.specs.Prelude.{unwrap_or, if◌then◌else◌, IsSome}
use Rattle.std.specs.Int.{w64}
use Rattle.std.specs.Int.RustNames.{FitsSigned}
use Rattle.std.specs.Ordering.{int_eq}
use Rattle.sto_item.specs.declared.item.Item.{Item}
use Rattle.sto_item.specs.Pending.{Entry}
use Rattle.sto_model.specs.declared.call.Call.{Call}
use Rattle.sto_model.specs.declared.operation.Operation.{Operation}
use Rattle.sto_model.specs.declared.operation.Operation.TheVariants.{Count, Scan}
use Rattle.sto_model.specs.Calls.{call_of}
use Rattle.sto_model.specs.SequentialObjects.{reply_to}
use Rattle.sto_model.specs.Rows.{value_at, rows_between}
use Rattle.sto_model.specs.PlainReplies.{PlainReply}
use Rattle.sto_type.specs.Known.{Parts, Known, IsPartOf}
use Rattle.sto_type.specs.Plans.{Ask, Say, IsPlan}
use Rattle.sto_type.specs.Reading.{Reading, Read, Say as Nothing, need_of, items_of, updates_at, IsRead, when_known}
use Rattle.sto_type.specs.Readings.{ReadsWithin, read_is_known}
use Rattle.sto_tree.specs.Layout.{directory, keys, key, key_part, value_part, parts_of, is_live, is_present, covers, place_of, tree_rows}
use Rattle.sto_tree.specs.Valid.{IsTree}
use Rattle.sto_tree.specs.Meaning.{tree_meaning, reading}
use Rattle.sto_tree.specs.Between.{meets, leaves_between, from_in, to_in, key_rows, value_part_of, values_between, leaf_values, between_each, between_reading}
use Rattle.sto_tree.specs.BetweenLaw.{none_between, key_row_there, reads_keys, reads_values, within, between_true, between_false, between_updates}
use Rattle.sto_tree.specs.LeavesBetween.{lies_in_part, listed_meets, meets_listed}
use Rattle.sto_tree.specs.Lookup.{place_is}
use Rattle.sto_tree.specs.Members.{IsIn, key_in}
use Rattle.sto_tree.specs.RowsBetween.{lies, value_at-between}
use Rattle.sto_tree.specs.Sized.{tree_length}
use Rattle.sto_tree.specs.Tests.{and_true, true_equal}
use Rattle.sto_tree.specs.KnownRows.{known_rows}
use Rattle.sto_tree.specs.KnownCount.{known_told}
use Rattle.sto_tree.specs.Walked.{IsSaid, told_of}
use Rattle.sto_tree.proofs.Parts.{known_part}
use Rattle.sto_tree.proofs.KnownRange.{AreKnown, same_range}
use Rattle.sto_tree.proofs.Counting.{told_known}
use Rattle.sto_tree.proofs.Leaves.{plan_as}

pub some_words : (o : Option (List ℤ)) → IsSome o → (ws : List ℤ) × (o ≡ Some ws)
some_words None e = absurd (none e) where
  none : IsSome {T = List ℤ} None → ⊥
  none e = cc
some_words (Some ws) e = (ws, refl)

module _ (leaves : ℕ) (k : Known) (scans : Bool) (a b : ℤ) (fits_a : FitsSigned w64 a) (fits_b : FitsSigned w64 b) (dir : List ℤ) (known_dir : k 1 ≡ Some dir) where
  abbrev listed : List ℕ
  listed = leaves_between leaves dir a b

  abbrev each : Reading
  each = between_each scans dir a b listed []

  abbrev whole : Reading
  whole = Read 1 (λ x. between_each scans x a b (leaves_between leaves x a b) [])

  whole_need : need_of whole k ≡ need_of each k
  whole_need = ap (λ o. when_known o (Some 1) (λ x. need_of (between_each scans x a b (leaves_between leaves x a b) []) k)) known_dir

  whole_items : items_of whole k ≡ items_of each k
  whole_items = ap (λ o. when_known o [] (λ x. items_of (between_each scans x a b (leaves_between leaves x a b) []) k)) known_dir

  module _ (need : need_of each k ≡ None) (d : Parts) (t : IsTree leaves d) (part : IsPartOf k d) where
    same : directory d ≡ dir
    same = known_part leaves k d 1 dir t part (omega arith) known_dir

    reads_within : ReadsWithin whole d
    reads_within q h = let w : q < parts_of leaves = within leaves d t scans a b fits_a fits_b q h in omega (arith, w, tree_length leaves d t.shaped.widths)

    read_known : (p : ℕ) → IsRead whole d p → (ws : List ℤ) × (k p ≡ Some ws)
    read_known p h = some_words (k p) (read_is_known whole k d p part reads_within (whole_need ∙ need) h)

    there : (l : ℕ) → l < leaves → meets dir a b l ≡ true → IsIn l (leaves_between leaves (directory d) a b)
    there l h e = meets_listed leaves (directory d) t.shaped.ranges a b l h (ap (λ x. meets x a b l) same ∙ e)

    -- each key of a leaf that lies in the range is listed
    key_listed : (l i : ℕ) (ks : List ℤ) → l < leaves → i < 8 → meets dir a b l ≡ true → k (key_part l) ≡ Some ks → is_present ks i ≡ true → lies a b (key ks i) ≡ true → IsIn (value_part l i) (leaf_values true (directory d) a b (keys d l) l)
    key_listed l i ks h g e known p y =
        let keys_same : keys d l ≡ ks = known_part leaves k d (key_part l) ks t part (omega (arith, h)) known in
        let q : ℤ = key ks i in
        let live : is_live (directory d) l ≡ true = (listed_meets leaves (directory d) t.shaped.ranges a b l (there l h e)).1 in
        let present : is_present (keys d l) i ≡ true = ap (λ x. is_present x i) keys_same ∙ p in
        let at : key (keys d l) i ≡ q = ap (λ x. key x i) keys_same in
        let has : covers (directory d) q q l ≡ true = subst (λ (x : ℤ). covers (directory d) x x l ≡ true) at (t.shaped.inside l i h g live present) in
        let place : place_of (keys d l) q ≡ Some i = place_is leaves d t.shaped l i q h live g (and_true (is_present (keys d l) i) (int_eq (key (keys d l) i) q) present (true_equal (key (keys d l) i) q at)) in
        let from : ℤ = from_in (directory d) a l in
        let to : ℤ = to_in (directory d) b l in
        let row : value_at (rows_between (key_rows (keys d l)) from to) q ≡ Some (pos 0) =
        value_at-between (key_rows (keys d l)) from to q (lies_in_part (directory d) a b q l y has) ∙ key_row_there leaves d t.shaped l i q h live place in
        let here : IsIn (value_part_of l (keys d l) q) (values_between l (keys d l) from to) = key_in (value_part_of l (keys d l)) (rows_between (key_rows (keys d l)) from to) q (pos 0) row in
        subst (λ (x : ℕ). IsIn x (values_between l (keys d l) from to)) (ap (λ o. value_part l (unwrap_or o 0)) place) here

    all_known : AreKnown leaves k dir a b scans
    all_known = record {
      directory = known_dir;
      keys = λ l h e. read_known (key_part l) (inr (reads_keys leaves d t scans a b fits_a fits_b (leaves_between leaves (directory d) a b) [] l (there l h e)));
      values = λ l i ks s h g e known p y.
          let here : IsIn (value_part l i) (leaf_values scans (directory d) a b (keys d l) l) = subst (λ (x : Bool). IsIn (value_part l i) (leaf_values x (directory d) a b (keys d l) l)) (sym s) (key_listed l i ks h g e known p y) in
          read_known (value_part l i) (inr (reads_values leaves d t scans a b fits_a fits_b (leaves_between leaves (directory d) a b) [] l (value_part l i) (there l h e) here));
    }

    pub range_told : told_of scans (rows_between (known_rows leaves k dir a b) a b) ≡ told_of scans (rows_between (tree_rows leaves d) a b)
    range_told = same_range leaves k dir a b scans all_known d t part

    pub known_is_told : known_told scans leaves k dir a b ≡ told_of scans (rows_between (known_rows leaves k dir a b) a b)
    known_is_told = told_known scans leaves k dir a b all_known d t part

-- the operation of a scan, or of a count
abbrev pub between_operation : Bool → Operation
between_operation scans = if scans then Scan else Count

reading_is : (leaves : ℕ) (scans : Bool) (a b : ℤ) → reading leaves (call_of 0 (between_operation scans) a b) ≡ between_reading leaves scans a b
reading_is leaves true a b = refl
reading_is leaves false a b = refl

reply_is : (leaves : ℕ) (scans : Bool) (a b : ℤ) (d : Parts) → reply_to (tree_meaning leaves).machines (call_of 0 (between_operation scans) a b) ((tree_meaning leaves).rows d) ≡ told_of scans (rows_between (tree_rows leaves d) a b)
reply_is leaves true a b d = refl
reply_is leaves false a b d = refl

module _ (leaves : ℕ) (k : Known) (scans : Bool) (call : Call) (object : call.object ≡ 0) (third : call.c ≡ pos 0) (operation : call.operation ≡ between_operation scans)
    (fits_a : FitsSigned w64 call.a) (fits_b : FitsSigned w64 call.b) where
  -- nothing where the range is empty
  pub says_empty : (t : PlainReply) (is : List Item) (us : List Entry) → int_le call.a call.b ≡ false → t ≡ told_of scans [] → is ≡ [] → us ≡ [] → IsPlan (tree_meaning leaves) call k (Say t is us)
  says_empty t is us none told items updates =
      let r : reading leaves (call_of 0 (between_operation scans) call.a call.b) ≡ between_reading leaves scans call.a call.b = reading_is leaves scans call.a call.b in
      let e : between_reading leaves scans call.a call.b ≡ Nothing [] [] = between_false leaves scans call.a call.b none in
      plan_as leaves (between_operation scans) call k (Say t is us) object third operation (
        ap (λ x. need_of x k) (r ∙ e),
        items ∙ sym (ap (λ x. items_of x k) (r ∙ e)),
        λ d v part. (told ∙ ap (told_of scans) (sym (none_between (tree_rows leaves d) call.a call.b none)) ∙ sym (reply_is leaves scans call.a call.b d), updates ∙ sym (ap (λ x. updates_at x d) (r ∙ e))),
      )

  module _ (some : int_le call.a call.b ≡ true) where
    read_is : reading leaves (call_of 0 (between_operation scans) call.a call.b) ≡ Read 1 (λ x. between_each scans x call.a call.b (leaves_between leaves x call.a call.b) [])
    read_is = reading_is leaves scans call.a call.b ∙ between_true leaves scans call.a call.b some

    pub needs_directory : k 1 ≡ None → IsPlan (tree_meaning leaves) call k (Ask 1)
    needs_directory e =
        plan_as leaves (between_operation scans) call k (Ask 1) object third operation
        (ap (λ x. need_of x k) read_is ∙ ap (λ o. when_known o (Some 1) (λ x. need_of (between_each scans x call.a call.b (leaves_between leaves x call.a call.b) []) k)) e)

    module _ (dir : List ℤ) (known_dir : k 1 ≡ Some dir) where
      abbrev seen : Reading
      seen = between_each scans dir call.a call.b (leaves_between leaves dir call.a call.b) []

      pub needs_part : (p : ℕ) → need_of seen k ≡ Some p → IsPlan (tree_meaning leaves) call k (Ask p)
      needs_part p e =
          plan_as leaves (between_operation scans) call k (Ask p) object third operation
          (ap (λ x. need_of x k) read_is ∙ whole_need leaves k scans call.a call.b fits_a fits_b dir known_dir ∙ e)

      pub says_range :
          (t : PlainReply) (is : List Item) (us : List Entry) → IsSaid seen k is → t ≡ told_of scans (rows_between (known_rows leaves k dir call.a call.b) call.a call.b) → us ≡ [] → IsPlan (tree_meaning leaves) call k (Say t is us)
      says_range t is us said told updates =
          plan_as leaves (between_operation scans) call k (Say t is us) object third operation (
            ap (λ x. need_of x k) read_is ∙ whole_need leaves k scans call.a call.b fits_a fits_b dir known_dir ∙ said.0,
            said.1 ∙ sym (ap (λ x. items_of x k) read_is ∙ whole_items leaves k scans call.a call.b fits_a fits_b dir known_dir),
            λ d v part. (
              told ∙ range_told leaves k scans call.a call.b fits_a fits_b dir known_dir said.0 d v part ∙ sym (reply_is leaves scans call.a call.b d),
              updates ∙ sym (ap (λ x. updates_at x d) (reading_is leaves scans call.a call.b) ∙ between_updates leaves d v scans call.a call.b fits_a fits_b),
            ),
          )
