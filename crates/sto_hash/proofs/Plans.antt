-- The answers on the key part that is known.
use Rattle.std.proofs.Common.{◌≡◌, ◌<◌, ◌+◌, ◌*◌, ℕ, ℤ, Option, Some, None, MatchOption, is_some, List, [], ◌∷◌, pos, slice_index_or, length, ap, sym, ◌∙◌, subst, arith}
use Rattle.sto_model.specs.declared.call.Call.{Call}
use Rattle.sto_model.specs.declared.operation.Operation.TheVariants.{Get, Has, Remove, Put}
use Rattle.sto_item.specs.declared.item.Item.TheVariants.{Seen}
use Rattle.sto_model.specs.PlainReplies as T
use Rattle.sto_type.specs.Known.{Parts, Known, IsPartOf}
use Rattle.sto_type.specs.Plans.{IsSaid, IsPlan, planned}
use Rattle.sto_type.specs.declared.answer.Answer.{Answer}
use Rattle.sto_block.specs.Blocks.{find, free}
use Rattle.sto_type.specs.Known.{word_known}
use Rattle.sto_type.proofs.FirstWords.{known_word, unknown_word}
use Rattle.sto_hash.specs.Hashed.{key_part, value_part, get_items, find_items, put_told, put_updates, remove_updates, hash_meaning, IsHash}
use Rattle.sto_hash.specs.HashedLaw.{plan_has, plan_remove, plan_put, plan_absent, plan_present, plan_needs_value, known_width, key_room}

pub doubled : (n places : ℕ) (o : Option ℕ) → 2 * places < n → MatchOption o (Unit {0}) (λ i. i < places) → MatchOption o (Unit {0}) (λ i. 2 * i + 1 < n)
doubled n places None l h = tt
doubled n places (Some i) l h = omega (arith, l, h)

module _ (buckets places : ℕ) (some : 0 < buckets) (call : Call) (k : Known) (p : ℕ) (is : p ≡ key_part buckets places call.a) (ws : List ℤ) (known : k p ≡ Some ws) where
  there : k (key_part buckets places call.a) ≡ Some ws
  there = ap k (sym is) ∙ known

  pub wide : (d : Parts) → IsHash buckets places d → IsPartOf k d → length ws ≡ 2 * places
  wide d v part = known_width buckets places some k d call.a ws v part there

  pub room_for : (n : ℕ) → buckets * (1 + places) < n → p + 1 + places < n
  room_for n l = let h = key_room buckets places some call.a in omega (arith, h, l, is)

  module _ (o : Option ℕ) (found : o ≡ find ws call.a) (answer : Answer) (z : call.object ≡ 0) where
    pub has_on : call.operation ≡ Has → IsSaid (T.Flag (is_some o)) (find_items p call.a o) [] answer → IsPlan (hash_meaning buckets places) call k (planned answer)
    has_on e h =
        plan_has buckets places some call k ws answer z e there
        (subst (λ x. IsSaid (T.Flag (is_some x)) (find_items (key_part buckets places call.a) call.a x) [] answer) found (subst (λ q. IsSaid (T.Flag (is_some o)) (find_items q call.a o) [] answer) is h))

    pub remove_on : call.operation ≡ Remove → IsSaid (T.Flag (is_some o)) (find_items p call.a o) (remove_updates places p o) answer → IsPlan (hash_meaning buckets places) call k (planned answer)
    remove_on e h =
        plan_remove buckets places some call k ws answer z e there
        (subst (λ x. IsSaid (T.Flag (is_some x)) (find_items (key_part buckets places call.a) call.a x) (remove_updates places (key_part buckets places call.a) x) answer) found
        (subst (λ q. IsSaid (T.Flag (is_some o)) (find_items q call.a o) (remove_updates places q o) answer) is h))

    pub put_on :
        (r : Option ℕ) → r ≡ free ws → call.operation ≡ Put → IsSaid (put_told o r) (find_items p call.a o) (put_updates places p call.a call.b o r) answer
        → IsPlan (hash_meaning buckets places) call k (planned answer)
    put_on r room e h =
        plan_put buckets places some call k ws answer z e there
        (subst (λ y. IsSaid (put_told (find ws call.a) y) (find_items (key_part buckets places call.a) call.a (find ws call.a)) (put_updates places (key_part buckets places call.a) call.a call.b (find ws call.a) y) answer) room
        (subst (λ x. IsSaid (put_told x r) (find_items (key_part buckets places call.a) call.a x) (put_updates places (key_part buckets places call.a) call.a call.b x r) answer) found
        (subst (λ q. IsSaid (put_told o r) (find_items q call.a o) (put_updates places q call.a call.b o r) answer) is h)))

  module _ (z : call.object ≡ 0) (e : call.operation ≡ Get) where
    pub absent_on : (answer : Answer) → None ≡ find ws call.a → IsSaid T.Absent (Seen p ∷ []) [] answer → IsPlan (hash_meaning buckets places) call k (planned answer)
    absent_on answer f h = plan_absent buckets places some call k ws answer z e there (sym f) (subst (λ q. IsSaid T.Absent (Seen q ∷ []) [] answer) is h)

    pub present_on :
        (i : ℕ) (x : ℤ) (answer : Answer) → Some i ≡ find ws call.a → word_known (k (p + 1 + i)) ≡ Some x → IsSaid (T.Value x) (get_items p call.a (Some i)) [] answer
        → IsPlan (hash_meaning buckets places) call k (planned answer)
    present_on i x answer f s h =
        let w : (vs : List ℤ) × (k (p + 1 + i) ≡ Some vs) × (slice_index_or vs 0 (pos 0) ≡ x) = known_word (k (p + 1 + i)) x s in
        plan_present buckets places some call k ws w.0 i answer z e there (sym f) (subst (λ q. k (q + 1 + i) ≡ Some w.0) is w.1)
        (subst (λ y. IsSaid (T.Value y) (get_items (key_part buckets places call.a) call.a (Some i)) [] answer) (sym w.2) (subst (λ q. IsSaid (T.Value x) (get_items q call.a (Some i)) [] answer) is h))

    pub value_needed : (i : ℕ) → Some i ≡ find ws call.a → word_known (k (p + 1 + i)) ≡ None → (hash_meaning buckets places).need call k ≡ Some (p + 1 + i)
    value_needed i f s =
        let n : k (value_part (key_part buckets places call.a) i) ≡ None = subst (λ q. k (q + 1 + i) ≡ None) is (unknown_word (k (p + 1 + i)) s) in
        plan_needs_value buckets places some call k ws i e there (sym f) n ∙ ap (λ q. Some (q + 1 + i)) (sym is)

pub some_below : (o : Option ℕ) (i n : ℕ) → Some i ≡ o → MatchOption o (Unit {0}) (λ j. j < n) → i < n
some_below o i n e h = subst (λ x. MatchOption x (Unit {0}) (λ j. j < n)) (sym e) h
