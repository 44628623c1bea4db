-- What clauses on a result tell once it is known which one it is.
use Rattle.std.proofs.Common.{◌≡◌, Result, Ok, Err, IfOk, OnErr, subst}

pub at_ok : {T E : Type 0} {r : Result T E} {x : T} (P : T → Type 0) → r ≡ Ok x → IfOk r P → P x
at_ok {T} {E} {r} {x} P e h = subst (λ (s : Result T E). IfOk s P) e h

pub at_err : {T E : Type 0} {r : Result T E} {x : E} {Q : Type 0} → r ≡ Err x → OnErr r Q → Q
at_err {T} {E} {r} {x} {Q} e h = subst (λ (s : Result T E). OnErr s Q) e h

pub all_ok : {T E : Type 0} (r : Result T E) (P Q S R : T → Type 0) → ((x : T) → P x → Q x → S x → R x) → IfOk r P → IfOk r Q → IfOk r S → IfOk r R
all_ok (Ok x) P Q S R f p q s = f x p q s
all_ok (Err e) P Q S R f p q s = tt
