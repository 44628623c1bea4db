-- The steps of walks over parts and leaves, on what is known.
use Rattle.std.proofs.Common.{◌≡◌, ◌++◌, ℕ, ℤ, pos, Bool, Option, Some, None, List, [], ◌∷◌, nat_eq, refl, sym, ◌∙◌, ap, subst, inl, inr}
use Rattle.std.specs.Prelude.{if◌then◌else◌}
use Rattle.sto_item.specs.declared.item.Item.{Item}
use Rattle.sto_model.specs.Rows.{least_from}
use Rattle.sto_type.specs.Known.{Parts, Known}
use Rattle.sto_tree.specs.Slots.{gathered}
use Rattle.sto_tree.specs.Tests.{by_option, slot_some}
use Rattle.sto_type.specs.Reading.{Reading, need_of, items_of, read_all, read_each, when_known}
use Rattle.sto_tree.specs.Layout.{key_part, low, greatest}
use Rattle.sto_tree.specs.Members.{IsIn, AllRows, all_gathered}
use Rattle.sto_tree.specs.Threes.{words_on}
use Rattle.sto_part.specs.Parts.{part_of}
use Rattle.sto_tree.specs.Between.{key_rows, leaf_slots, leaf_values, leaf_items, between_each, meets}
use Rattle.sto_tree.specs.Next.{all_between, next_in, next_each}
use Rattle.sto_tree.specs.NextLaw.{found_first}
use Rattle.sto_tree.specs.Walked.{first_unknown, leaf_need, leaf_observed, needed_after, next_need, next_found, IsNumbered}

-- rows that stand for leaves
pub leaf_rows_numbered : (leaves : ℕ) (dir : List ℤ) (a b : ℤ) → AllRows (IsNumbered leaves) (gathered (leaf_slots dir a b) leaves)
leaf_rows_numbered leaves dir a b = all_gathered (IsNumbered leaves) (leaf_slots dir a b) leaves (λ l r h e. (l, sym (slot_some (meets dir a b l) (low dir l) (pos l) r e).2, h))

-- what is known of a part, as functions of it
pub known_same : {A : Type 0} (o : Option (List ℤ)) (a : A) (f g : List ℤ → A) → ((ws : List ℤ) → f ws ≡ g ws) → when_known o a f ≡ when_known o a g
known_same None a f g h = refl
known_same (Some ws) a f g h = h ws

-- where a search ends
abbrev pub end_of : Option ℤ → ℤ
end_of (Some y) = y
end_of None = greatest

module _ (k : Known) where
  pub unknown_here : (p : ℕ) (ps : List ℕ) → k p ≡ None → first_unknown k (p ∷ ps) ≡ Some p
  unknown_here p ps e = ap (λ o. when_known o (Some p) (λ ws. first_unknown k ps)) e

  pub unknown_past : (p : ℕ) (ps : List ℕ) (ws : List ℤ) → k p ≡ Some ws → first_unknown k (p ∷ ps) ≡ first_unknown k ps
  unknown_past p ps ws e = ap (λ o. when_known o (Some p) (λ xs. first_unknown k ps)) e

  need_all : (ps : List ℕ) (r : Reading) → first_unknown k ps ≡ None → need_of (read_all ps r) k ≡ need_of r k
  need_all [] r e = refl
  need_all (p ∷ ps) r e =
      by_option (need_of (read_all (p ∷ ps) r) k ≡ need_of r k) (k p)
      (λ none. let z : Some p ≡ None = sym (unknown_here p ps none) ∙ e in absurd (cc))
      (λ ws some. ap (λ o. when_known o (Some p) (λ xs. need_of (read_all ps r) k)) some ∙ need_all ps r (sym (unknown_past p ps ws some) ∙ e))

  need_all_some : (ps : List ℕ) (r : Reading) (q : ℕ) → first_unknown k ps ≡ Some q → need_of (read_all ps r) k ≡ Some q
  need_all_some [] r q e = cc
  need_all_some (p ∷ ps) r q e =
      by_option (need_of (read_all (p ∷ ps) r) k ≡ Some q) (k p)
      (λ none. ap (λ o. when_known o (Some p) (λ xs. need_of (read_all ps r) k)) none ∙ sym (unknown_here p ps none) ∙ e)
      (λ ws some. ap (λ o. when_known o (Some p) (λ xs. need_of (read_all ps r) k)) some ∙ need_all_some ps r q (sym (unknown_past p ps ws some) ∙ e))

  items_all : (ps : List ℕ) (r : Reading) → first_unknown k ps ≡ None → items_of (read_all ps r) k ≡ items_of r k
  items_all [] r e = refl
  items_all (p ∷ ps) r e =
      by_option (items_of (read_all (p ∷ ps) r) k ≡ items_of r k) (k p)
      (λ none. let z : Some p ≡ None = sym (unknown_here p ps none) ∙ e in absurd (cc))
      (λ ws some. ap (λ o. when_known o [] (λ xs. items_of (read_all ps r) k)) some ∙ items_all ps r (sym (unknown_past p ps ws some) ∙ e))

  -- each part that is read, where none is unknown
  pub each_known : (ps : List ℕ) → first_unknown k ps ≡ None → (p : ℕ) → IsIn p ps → (ws : List ℤ) × (k p ≡ Some ws)
  each_known [] e p i = absurd i
  each_known (q ∷ ps) e p i =
      by_option ((ws : List ℤ) × (k p ≡ Some ws)) (k q)
      (λ none. let z : Some q ≡ None = sym (unknown_here q ps none) ∙ e in absurd (cc))
      (λ ws some. elim i [
        | inl at ↦ (ws, subst (λ (x : ℕ). k x ≡ Some ws) at some)
        | inr later ↦ each_known ps (sym (unknown_past q ps ws some) ∙ e) p later
      ])

  -- parts whose words are told on
  pub need_each : (ps : List ℕ) (f : (ℕ → List ℤ) → Reading) → ((words : ℕ → List ℤ) → need_of (f words) k ≡ None) → need_of (read_each ps f) k ≡ first_unknown k ps
  need_each [] f h = h (λ q. [])
  need_each (p ∷ ps) f h =
      known_same (k p) (Some p) (λ ws. need_of (read_each ps (λ words. f (λ q. if nat_eq q p then ws else words q))) k) (λ ws. first_unknown k ps)
      (λ ws. need_each ps (λ words. f (λ q. if nat_eq q p then ws else words q)) (λ words. h (λ q. if nat_eq q p then ws else words q)))

  pub items_each : (ps : List ℕ) (f : (ℕ → List ℤ) → Reading) (is : List Item) → ((words : ℕ → List ℤ) → items_of (f words) k ≡ is) → first_unknown k ps ≡ None → items_of (read_each ps f) k ≡ is
  items_each [] f is h e = h (λ q. [])
  items_each (p ∷ ps) f is h e =
      by_option (items_of (read_each (p ∷ ps) f) k ≡ is) (k p)
      (λ none. let z : Some p ≡ None = sym (unknown_here p ps none) ∙ e in absurd (cc))
      (λ ws some. ap (λ o. when_known o [] (λ xs. items_of (read_each ps (λ words. f (λ q. if nat_eq q p then xs else words q))) k)) some
      ∙ items_each ps (λ words. f (λ q. if nat_eq q p then ws else words q)) is (λ words. h (λ q. if nat_eq q p then ws else words q)) (sym (unknown_past p ps ws some) ∙ e))

  pub need_each_some : (ps : List ℕ) (f : (ℕ → List ℤ) → Reading) (p : ℕ) → first_unknown k ps ≡ Some p → need_of (read_each ps f) k ≡ Some p
  need_each_some [] f p e = cc
  need_each_some (q ∷ ps) f p e =
      by_option (need_of (read_each (q ∷ ps) f) k ≡ Some p) (k q)
      (λ none. ap (λ o. when_known o (Some q) (λ xs. need_of (read_each ps (λ words. f (λ x. if nat_eq x q then xs else words x))) k)) none ∙ sym (unknown_here q ps none) ∙ e)
      (λ ws some. ap (λ o. when_known o (Some q) (λ xs. need_of (read_each ps (λ words. f (λ x. if nat_eq x q then xs else words x))) k)) some
      ∙ need_each_some ps (λ words. f (λ x. if nat_eq x q then ws else words x)) p (sym (unknown_past q ps ws some) ∙ e))

  -- the same with the words of contents
  pub need_each_on : (d : Parts) (ps : List ℕ) (f : (ℕ → List ℤ) → Reading) → ((p : ℕ) (ws : List ℤ) → IsIn p ps → k p ≡ Some ws → part_of d p ≡ ws) → first_unknown k ps ≡ None → need_of (read_each ps f) k ≡ need_of (f (words_on ps d)) k
  need_each_on d [] f h e = refl
  need_each_on d (p ∷ ps) f h e =
      by_option (need_of (read_each (p ∷ ps) f) k ≡ need_of (f (words_on (p ∷ ps) d)) k) (k p)
      (λ none. let z : Some p ≡ None = sym (unknown_here p ps none) ∙ e in absurd (cc))
      (λ ws some. ap (λ o. when_known o (Some p) (λ xs. need_of (read_each ps (λ words. f (λ q. if nat_eq q p then xs else words q))) k)) some
      ∙ need_each_on d ps (λ words. f (λ q. if nat_eq q p then ws else words q)) (λ q xs i. h q xs (inr i)) (sym (unknown_past p ps ws some) ∙ e)
      ∙ ap (λ xs. need_of (f (λ q. if nat_eq q p then xs else words_on ps d q)) k) (sym (h p ws (inl refl) some)))

  pub items_each_on : (d : Parts) (ps : List ℕ) (f : (ℕ → List ℤ) → Reading) → ((p : ℕ) (ws : List ℤ) → IsIn p ps → k p ≡ Some ws → part_of d p ≡ ws) → first_unknown k ps ≡ None → items_of (read_each ps f) k ≡ items_of (f (words_on ps d)) k
  items_each_on d [] f h e = refl
  items_each_on d (p ∷ ps) f h e =
      by_option (items_of (read_each (p ∷ ps) f) k ≡ items_of (f (words_on (p ∷ ps) d)) k) (k p)
      (λ none. let z : Some p ≡ None = sym (unknown_here p ps none) ∙ e in absurd (cc))
      (λ ws some. ap (λ o. when_known o [] (λ xs. items_of (read_each ps (λ words. f (λ q. if nat_eq q p then xs else words q))) k)) some
      ∙ items_each_on d ps (λ words. f (λ q. if nat_eq q p then ws else words q)) (λ q xs i. h q xs (inr i)) (sym (unknown_past p ps ws some) ∙ e)
      ∙ ap (λ xs. items_of (f (λ q. if nat_eq q p then xs else words_on ps d q)) k) (sym (h p ws (inl refl) some)))

  -- one leaf of a count or a scan
  module _ (s : Bool) (dir : List ℤ) (a b : ℤ) (l : ℕ) (ls : List ℕ) (is : List Item) where
    abbrev rest : List Item → Reading
    rest js = between_each s dir a b ls js

    abbrev more : List ℤ → Reading
    more ks = read_all (leaf_values s dir a b ks l) (rest (is ++ leaf_items s dir a b ks l))

    pub leaf_stops : (p : ℕ) → Some p ≡ leaf_need k s dir a b l → need_of (between_each s dir a b (l ∷ ls) is) k ≡ Some p
    leaf_stops p e =
        by_option (need_of (between_each s dir a b (l ∷ ls) is) k ≡ Some p) (k (key_part l))
        (λ none.
        ap (λ o. when_known o (Some (key_part l)) (λ ks. need_of (more ks) k)) none ∙ sym (ap (λ o. when_known o (Some (key_part l)) (λ ks. first_unknown k (leaf_values s dir a b ks l))) none) ∙ sym e)
        (λ ks some.
        let u : first_unknown k (leaf_values s dir a b ks l) ≡ Some p = sym (ap (λ o. when_known o (Some (key_part l)) (λ xs. first_unknown k (leaf_values s dir a b xs l))) some) ∙ sym e in
        ap (λ o. when_known o (Some (key_part l)) (λ xs. need_of (more xs) k)) some ∙ need_all_some (leaf_values s dir a b ks l) (rest (is ++ leaf_items s dir a b ks l)) p u)

    pub leaf_none : need_of (between_each s dir a b (l ∷ ls) is) k ≡ None → None ≡ leaf_need k s dir a b l
    leaf_none e = cut (leaf_need k s dir a b l) refl where
      cut : (o : Option ℕ) → o ≡ leaf_need k s dir a b l → None ≡ leaf_need k s dir a b l
      cut None h = h
      cut (Some p) h = let z : Some p ≡ None = sym (leaf_stops p h) ∙ e in absurd (cc)

    module _ (e : None ≡ leaf_need k s dir a b l) where
      leaf_known : (ks : List ℤ) × (k (key_part l) ≡ Some ks) × (first_unknown k (leaf_values s dir a b ks l) ≡ None)
      leaf_known =
          by_option ((ks : List ℤ) × (k (key_part l) ≡ Some ks) × (first_unknown k (leaf_values s dir a b ks l) ≡ None)) (k (key_part l))
          (λ none. let z : Some (key_part l) ≡ None = sym (ap (λ o. when_known o (Some (key_part l)) (λ ks. first_unknown k (leaf_values s dir a b ks l))) none) ∙ sym e in absurd (cc))
          (λ ks some. (ks, some, sym (ap (λ o. when_known o (Some (key_part l)) (λ xs. first_unknown k (leaf_values s dir a b xs l))) some) ∙ sym e))

      leaf_said : leaf_items s dir a b leaf_known.0 l ≡ leaf_observed k s dir a b l
      leaf_said = sym (ap (λ o. when_known o [] (λ xs. leaf_items s dir a b xs l)) leaf_known.1)

      pub leaf_need_past : need_of (between_each s dir a b (l ∷ ls) is) k ≡ need_of (between_each s dir a b ls (is ++ leaf_observed k s dir a b l)) k
      leaf_need_past =
          ap (λ o. when_known o (Some (key_part l)) (λ xs. need_of (more xs) k)) leaf_known.1
          ∙ need_all (leaf_values s dir a b leaf_known.0 l) (rest (is ++ leaf_items s dir a b leaf_known.0 l)) leaf_known.2
          ∙ ap (λ js. need_of (rest (is ++ js)) k) leaf_said

      pub leaf_items_past : items_of (between_each s dir a b (l ∷ ls) is) k ≡ items_of (between_each s dir a b ls (is ++ leaf_observed k s dir a b l)) k
      leaf_items_past =
          ap (λ o. when_known o [] (λ xs. items_of (more xs) k)) leaf_known.1
          ∙ items_all (leaf_values s dir a b leaf_known.0 l) (rest (is ++ leaf_items s dir a b leaf_known.0 l)) leaf_known.2
          ∙ ap (λ js. items_of (rest (is ++ js)) k) leaf_said

  -- one leaf of a next
  module _ (x : ℤ) (l : ℕ) (ls : List ℕ) where
    pub next_stops : k (key_part l) ≡ None → next_need k x (l ∷ ls) ≡ Some (key_part l)
    next_stops e = ap (λ o. when_known o (Some (key_part l)) (λ ks. needed_after (least_from (key_rows ks) x) (next_need k x ls))) e

    module _ (ks : List ℤ) (e : k (key_part l) ≡ Some ks) where
      pub next_need_past : (o : Option ℤ) → least_from (key_rows ks) x ≡ o → next_need k x (l ∷ ls) ≡ needed_after o (next_need k x ls)
      next_need_past o h = ap (λ u. when_known u (Some (key_part l)) (λ xs. needed_after (least_from (key_rows xs) x) (next_need k x ls))) e ∙ ap (λ u. needed_after u (next_need k x ls)) h

      pub next_found_past : (o : Option ℤ) → least_from (key_rows ks) x ≡ o → next_found k x (l ∷ ls) ≡ found_first o (next_found k x ls)
      next_found_past o h = ap (λ u. when_known u None (λ xs. found_first (least_from (key_rows xs) x) (next_found k x ls))) e ∙ ap (λ u. found_first u (next_found k x ls)) h

  -- all leaves of a next
  module _ (leaves : ℕ) (dir : List ℤ) (x : ℤ) where
    in_need : (r : Reading) (n : Option ℕ) → need_of r k ≡ n → (o : Option ℤ) → need_of (next_in leaves dir x r o) k ≡ needed_after o n
    in_need r n h (Some y) = refl
    in_need r n h None = h

    pub need_next : (ls : List ℕ) → need_of (next_each leaves dir x ls) k ≡ next_need k x ls
    need_next [] = refl
    need_next (l ∷ ls) =
        known_same (k (key_part l)) (Some (key_part l)) (λ ks. need_of (next_in leaves dir x (next_each leaves dir x ls) (least_from (key_rows ks) x)) k) (λ ks. needed_after (least_from (key_rows ks) x) (next_need k x ls))
        (λ ks. in_need (next_each leaves dir x ls) (next_need k x ls) (need_next ls) (least_from (key_rows ks) x))

    in_items : (ls : List ℕ) → (next_need k x ls ≡ None → items_of (next_each leaves dir x ls) k ≡ all_between leaves dir x (end_of (next_found k x ls)))
        → (o : Option ℤ) → needed_after o (next_need k x ls) ≡ None → items_of (next_in leaves dir x (next_each leaves dir x ls) o) k ≡ all_between leaves dir x (end_of (found_first o (next_found k x ls)))
    in_items ls h (Some y) e = refl
    in_items ls h None e = h e

    pub items_next : (ls : List ℕ) → next_need k x ls ≡ None → items_of (next_each leaves dir x ls) k ≡ all_between leaves dir x (end_of (next_found k x ls))
    items_next [] e = refl
    items_next (l ∷ ls) e =
        by_option (items_of (next_each leaves dir x (l ∷ ls)) k ≡ all_between leaves dir x (end_of (next_found k x (l ∷ ls)))) (k (key_part l))
        (λ none. let z : Some (key_part l) ≡ None = sym (next_stops x l ls none) ∙ e in absurd (cc))
        (λ ks some.
        ap (λ o. when_known o [] (λ xs. items_of (next_in leaves dir x (next_each leaves dir x ls) (least_from (key_rows xs) x)) k)) some
        ∙ in_items ls (items_next ls) (least_from (key_rows ks) x) (sym (next_need_past x l ls ks some (least_from (key_rows ks) x) refl) ∙ e)
        ∙ ap (λ o. all_between leaves dir x (end_of o)) (sym (next_found_past x l ls ks some (least_from (key_rows ks) x) refl)))
