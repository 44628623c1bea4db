-- What is true of the form of a line, found branch by branch.
use Rattle.std.proofs.Common.{◌≡◌, refl, Bool, true, false, not, Option, None, Some, cond, option_and_then}
use Rattle.std.specs.Option.{option_map}
use Rattle.sto_syntax.specs.Forms.{Form}

-- no form, or one of which this is true
abbrev pub Where : (Form → Type 0) → Option Form → Type 0
Where P None = Unit {0}
Where P (Some form) = P form

pub either : (P : Form → Type 0) (b : Bool) (x y : Option Form) → Where P x → Where P y → Where P (cond b x y)
either P true x y h k = h
either P false x y h k = k

pub where_true : (P : Form → Type 0) (b : Bool) (x : Option Form) → (b ≡ true → Where P x) → Where P (cond b x None)
where_true P true x h = h refl
where_true P false x h = tt

pub where_false : (P : Form → Type 0) (b : Bool) (x : Option Form) → (b ≡ true → Where P x) → Where P (cond (not b) None x)
where_false P true x h = h refl
where_false P false x h = tt

pub after : {Y : Type 0} (P : Form → Type 0) (o : Option Y) (f : Y → Option Form) → ((y : Y) → Where P (f y)) → Where P (option_and_then f o)
after P None f h = tt
after P (Some y) f h = h y

pub made : {Y : Type 0} (P : Form → Type 0) (o : Option Y) (f : Y → Form) → ((y : Y) → P (f y)) → Where P (option_map f o)
made P None f h = tt
made P (Some y) f h = h y
