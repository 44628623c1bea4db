-- With one pass no read finds a part locked or newer.
use Rattle.std.proofs.Common.{◌≡◌, ◌≢◌, ◌≤◌, ◌<◌, ℕ, ℤ, Bool, true, false, ◌||◌, [], refl, ap, sym, ◌∙◌, subst, arith}
use Rattle.sto_core.specs.declared.view.OpenRead.{OpenRead}
use Rattle.sto_core.specs.declared.view.Phase.{Phase}
use Rattle.sto_core.specs.declared.view.Phase.TheVariants as P
use Rattle.sto_core.specs.declared.view.View.{View}
use Rattle.sto_core.specs.Versions.{ticket_of, is_free}
use Rattle.sto_core.specs.Views.{holds}
use Rattle.sto_core.specs.History.{Validity}
use Rattle.sto_core.specs.Event.{Open, Close}
use Rattle.sto_core.specs.Tells.{Tells, Closes, FoundAlone}

or_false : (a b : Bool) → b ≡ false → (a || b) ≡ true → a ≡ true
or_false true b e h = refl
or_false false b e h = let both : false ≡ true = sym e ∙ h in cc

not_above : (t at s : ℕ) → t ≤ at → (t ≢ s → at < t) → t ≡ s
not_above t at s l f = grind arith

-- a pass that holds nothing finds a part free, with a ticket of at most `at`
found_free : (v : View) (p n : ℕ) → v.held ≡ [] → FoundAlone v p n → (is_free n ≡ true) × (ticket_of n ≤ v.at)
found_free v p n none h = (or_false (is_free n) (holds p v.held) (ap (holds p) none) h.0, h.1)

pub open_alone : (valid : Validity) (passes : ℕ) (v w : View) (p n : ℕ) (x : ℤ) → v.held ≡ [] → Tells valid passes (Open p) v n x w → passes ≡ 1 → (is_free n ≡ true) × (ticket_of n ≤ v.at)
open_alone valid passes v w p n x none t one = found_free v p n none (t.learns.alone one)

-- and finds it at the end of its read as at the beginning
pub close_alone : (valid : Validity) (passes : ℕ) (v w : View) (p n : ℕ) (x : ℤ) (r : OpenRead) → v.held ≡ [] → v.phase ≡ P.Looking r → Tells valid passes (Close p) v n x w → passes ≡ 1 → (is_free n ≡ true) × (ticket_of n ≡ r.ticket)
close_alone valid passes v w p n x r none e t one =
    let h : (is_free n ≡ true) × (ticket_of n ≤ v.at) = found_free v p n none (t.learns.0.alone one) in
    let closes : Closes (P.Looking r) v p n = subst (λ (g : Phase). Closes g v p n) e t.learns.1 in
    (h.0, not_above (ticket_of n) v.at r.ticket h.1 (λ ne. (closes.0 h.0 ne).1))
