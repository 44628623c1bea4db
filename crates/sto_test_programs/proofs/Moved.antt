-- What is said of three things is said of equal ones.
use Rattle.std.proofs.Common.{◌≡◌, subst}

pub moved : {A B C : Type 0} (P : A → B → C → Type 0) {a d : A} {b e : B} {c f : C} → a ≡ d → b ≡ e → c ≡ f → P a b c → P d e f
moved P {a} {d} {b} {e} {c} {f} p q r h = subst (λ x. P x e f) p (subst (λ y. P a y f) q (subst (λ z. P a b z) r h))
