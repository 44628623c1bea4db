-- Where no part stands before those of a member, its answer is as it is.
use Rattle.std.proofs.Common.{◌≡◌, ◌+◌, ℕ, List, [], ◌∷◌, map, refl, ap, ◌∙◌, arith}
use Rattle.sto_item.specs.declared.item.Item.{Item}
use Rattle.sto_item.specs.declared.item.Item.TheVariants.{Seen, Holds}
use Rattle.sto_item.specs.Pending.{Entry, renumbered}
use Rattle.sto_type.specs.Joined.{item_moved, plan_moved}
use Rattle.sto_type.specs.Plans.{Plan, Ask, Say}

none_before : (n : ℕ) → 0 + n ≡ n
none_before n = omega arith

item_unmoved : (item : Item) → item_moved 0 item ≡ item
item_unmoved (Seen p) = ap Seen (none_before p)
item_unmoved (Holds p) = ap (λ (n : ℕ). Holds (record p { part = n })) (none_before p.part)

entry_unmoved : (e : Entry) → renumbered 0 e ≡ e
entry_unmoved e = ap (λ (n : ℕ). (n, e.1)) (none_before e.0)

all_unmoved : {A : Type 0} (f : A → A) → ((x : A) → f x ≡ x) → (xs : List A) → map f xs ≡ xs
all_unmoved f same [] = refl
all_unmoved f same (x ∷ xs) = ap (λ y. y ∷ map f xs) (same x) ∙ ap (λ ys. x ∷ ys) (all_unmoved f same xs)

pub plan_unmoved : (p : Plan) → plan_moved 0 p ≡ p
plan_unmoved (Ask p) = ap Ask (none_before p)
plan_unmoved (Say t is es) = ap (λ l. Say t l (map (renumbered 0) es)) (all_unmoved (item_moved 0) item_unmoved is) ∙ ap (λ l. Say t is l) (all_unmoved (renumbered 0) entry_unmoved es)
