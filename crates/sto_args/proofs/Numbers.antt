-- Numbers as they are read.
use Rattle.std.proofs.Common.{◌≡◌, ◌∙◌, ◌<◌, ◌^◌, ◌&&◌, ℕ, Bool, true, false, refl, sym, ap, List, Some, None}
use Rattle.std.specs.Prelude.{nat_lt, decimal, if◌then◌else◌}
use Rattle.std.specs.Str.{bytes_eq}
use Rattle.std.specs.Str.Parse.{digits_value}
use Rattle.std.proofs.lemmas.Bool.{ltb-true, lt-ltb}
use Rattle.std.proofs.lemmas.Fmt.{decimal_is_IsNumeral}
use Rattle.std.proofs.lemmas.Slice.Eq.{bytes_eq-Decides}
use Rattle.sto_args.specs.Commands.{decimal_of}

pub refused : (text : List ℕ) → ((n : ℕ) → n < 2 ^ 64 → text ≡ decimal n → ⊥) → None ≡ decimal_of text
refused text never = sym (go _ _ refl refl)
  where
    go : (a b : Bool) → bytes_eq (decimal (digits_value 10 text)) text ≡ a → nat_lt (digits_value 10 text) (2 ^ 64) ≡ b
        → (if a && b then Some (digits_value 10 text) else None) ≡ None
    go true true e f = absurd (never (digits_value 10 text) (ltb-true (digits_value 10 text) (2 ^ 64) f) (sym ((bytes_eq-Decides (decimal (digits_value 10 text)) text).0 e)))
    go true false e f = refl
    go false b e f = refl

pub accepted : (v : ℕ) (text : List ℕ) → v < 2 ^ 64 → decimal v ≡ text → Some v ≡ decimal_of text
accepted v text small e =
    let same : digits_value 10 text ≡ v = ap (digits_value 10) (sym e) ∙ (decimal_is_IsNumeral v small).1 in
    sym (ap (λ n. if bytes_eq (decimal n) text && nat_lt n (2 ^ 64) then Some n else None) same
    ∙ ap (λ b. if b && nat_lt v (2 ^ 64) then Some v else None) ((bytes_eq-Decides (decimal v) text).1 e)
    ∙ ap (λ b. if b then Some v else None) (lt-ltb v (2 ^ 64) small))
