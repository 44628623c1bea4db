-- A set with several items more.
use Rattle.std.proofs.Common.{List, [], ◌∷◌, ◌++◌, sym, subst, inl, inr}
use Rattle.sto_item.specs.declared.item.Item.{Item}
use Rattle.sto_item.specs.Recorded.{Recorded, AddsItem}
use Rattle.sto_item.specs.Agreement.{Agrees}
use Rattle.sto_item.proofs.Agreeing.{Agrees-append, Agrees-split, Agrees-added, Agrees-before}
use Rattle.sto_type.specs.Known.{Parts}
use Rattle.sto_attempt_log.specs.Every.{AllOf}
use Rattle.sto_item.specs.Recorded.{AddsItems}
use Rattle.sto_attempt_log.proofs.Every.{all_append}

first_and_rest : (e d : Parts) (i : Item) (is : List Item) → Agrees e (i ∷ is) d → Agrees e (i ∷ []) d × Agrees e is d
first_and_rest e d i is a = Agrees-split e d (i ∷ []) is a

both_join : (e d : Parts) (i : Item) (is : List Item) → Agrees e (i ∷ []) d → Agrees e is d → Agrees e (i ∷ is) d
both_join e d i is a b = Agrees-append e d (i ∷ []) is a b

-- what agrees with the set and the items agrees with the set that has them, and the other way round
pub agrees_added : (e d : Parts) (old : Recorded) (is : List Item) (new : Recorded) → AddsItems old is new → Agrees e (old.items ++ is) d → Agrees e new.items d
agrees_added e d old [] new adds a = subst (λ (s : Recorded). Agrees e s.items d) (sym adds) (Agrees-split e d old.items [] a).0
agrees_added e d old (i ∷ is) new adds a =
    let both : Agrees e old.items d × Agrees e (i ∷ is) d = Agrees-split e d old.items (i ∷ is) a in
    let more : Agrees e (i ∷ []) d × Agrees e is d = first_and_rest e d i is both.1 in
    let between : Agrees e adds.0.items d = Agrees-added e d old i adds.0 adds.1 both.0 more.0 in
    agrees_added e d adds.0 is new adds.2 (Agrees-append e d adds.0.items is between more.1)

pub agrees_before : (e d : Parts) (old : Recorded) (is : List Item) (new : Recorded) → AddsItems old is new → Agrees e new.items d → Agrees e (old.items ++ is) d
agrees_before e d old [] new adds a = Agrees-append e d old.items [] (subst (λ (s : Recorded). Agrees e s.items d) adds a) tt
agrees_before e d old (i ∷ is) new adds a =
    let rest : Agrees e (adds.0.items ++ is) d = agrees_before e d adds.0 is new adds.2 a in
    let both : Agrees e adds.0.items d × Agrees e is d = Agrees-split e d adds.0.items is rest in
    let first : Agrees e old.items d × Agrees e (i ∷ []) d = Agrees-before e d old i adds.0 adds.1 both.0 in
    Agrees-append e d old.items (i ∷ is) first.0 (both_join e d i is first.1 both.1)

-- what is true of each item of the set and of each further one is true of each item of the new set
one_added : (P : Item → Type 0) (old : Recorded) (i : Item) (new : Recorded) → AddsItem old i new → AllOf P old.items → P i → AllOf P new.items
one_added P old i new adds a h = elim adds [
  | inl there ↦ subst (λ (s : Recorded). AllOf P s.items) (sym there.1) a
  | inr more ↦ subst (λ (s : Recorded). AllOf P s.items) (sym more.1) (all_append P old.items (i ∷ []) a (h, tt))
]

pub all_added : (P : Item → Type 0) (old : Recorded) (is : List Item) (new : Recorded) → AddsItems old is new → AllOf P old.items → AllOf P is → AllOf P new.items
all_added P old [] new adds a h = subst (λ (s : Recorded). AllOf P s.items) (sym adds) a
all_added P old (i ∷ is) new adds a h = all_added P adds.0 is new adds.2 (one_added P old i adds.0 adds.1 a h.0) h.1
