-- What a sort of records gives.
use Rattle.std.specs.Prelude.{slice_index_or, ◌+◌}
use Rattle.std.specs.List.{All}
use Rattle.std.specs.List.Sorted.{IsSortedBy}
use Rattle.std.specs.Cmp.{IsStrictWeakOrder}
use Rattle.std.proofs.Common.{◌≡◌, ℕ, suc, List, [], ◌∷◌, map, subst, arith, Bool, false}
use Rattle.std.proofs.lemmas.List.Elements.{All-from_get_or, All-map}
use Rattle.std.proofs.lemmas.List.Sorted.{sorted_far}
use Rattle.sto_serializability.specs.Merged.{is_before, AreInOrder}
use Rattle.sto_serializability.proofs.Sorting.{before_order}
use Rattle.sto_transaction.specs.declared.record.Record.{Record}
use Rattle.sto_transaction.specs.Plain.{plain}

abbrev pub comes : Record → Record → Bool
comes x y = is_before (plain x) (plain y)

pub comes_order : IsStrictWeakOrder comes
comes_order = record {
  one_way = λ x y h. before_order.one_way (plain x) (plain y) h;
  chain = λ x y z h k. before_order.chain (plain x) (plain y) (plain z) h k;
}

tail_sorted : (r : Record) (rs : List Record) → IsSortedBy comes (r ∷ rs) → IsSortedBy comes rs
tail_sorted r rs h k d l u =
    let e : suc k + 1 ≡ suc (k + 1) = omega arith in
    subst (λ (i : ℕ). comes (slice_index_or (r ∷ rs) i d) (slice_index_or (r ∷ rs) (suc k) d) ≡ false) e (h (suc k) d (omega arith) (omega (arith, u)))

pub sorted_records : (rs : List Record) → IsSortedBy comes rs → AreInOrder (map plain rs)
sorted_records [] h = tt
sorted_records (r ∷ rs) h = (
  All-map (λ s. is_before s (plain r) ≡ false) plain rs
      (All-from_get_or (λ s. comes s r ≡ false) rs r (λ i l. sorted_far comes comes_order (r ∷ rs) h 0 (suc i) r (omega arith) (omega (arith, l)))),
  sorted_records rs (tail_sorted r rs h),
)
