use Rattle.std.proofs.Common.{◌≡◌, ℕ, Bool, true, false, int_lt, ap, sym, ◌∙◌, w64}
use Rattle.std.specs.Prelude.{if◌then◌else◌, unwrap_or}
use Rattle.std.specs.Int.RustNames.{FitsSigned}
use Rattle.std.proofs.lemmas.Int.{to_z-of_z}
use Rattle.sto_tree.specs.Search.{first_below}
use Rattle.sto_tree.specs.Split.{middle, moves}
use Rattle.sto_tree.proofs.split.place_after.Goals as goal

pub returns-then-key-middle : goal.returns-then-key-middle
returns-then-key-middle c =
    let fk : FitsSigned w64 c.args.key = c.ranges.key in
    let fm : FitsSigned w64 c.args.middle = c.ranges.middle in
    let below = simp to_z-of_z at c.if-key-middle.true in
    let test : int_lt c.args.key (middle c.args.found.keys.now) ≡ true = ap (int_lt c.args.key) (sym c.requires.middle) ∙ below in
    let place : c.unwrap_or.result ≡ unwrap_or (first_below (moves c.args.found.keys.now) 8) 0 = c.unwrap_or.ensures ∙ ap (λ o. unwrap_or o 0) c.first_moved.ensures in
    ap {B = ℕ × ℕ} (λ (p : ℕ). (c.args.found.number, p)) place
    ∙ sym (ap {B = ℕ × ℕ} (λ (b : Bool). if b then (c.args.found.number, unwrap_or (first_below (moves c.args.found.keys.now) 8) 0) else (c.args.free, 4)) test)

pub returns-else-key-middle : goal.returns-else-key-middle
returns-else-key-middle c =
    let fk : FitsSigned w64 c.args.key = c.ranges.key in
    let fm : FitsSigned w64 c.args.middle = c.ranges.middle in
    let above = simp to_z-of_z at c.if-key-middle.false in
    let test : int_lt c.args.key (middle c.args.found.keys.now) ≡ false = ap (int_lt c.args.key) (sym c.requires.middle) ∙ above in
    sym (ap {B = ℕ × ℕ} (λ (b : Bool). if b then (c.args.found.number, unwrap_or (first_below (moves c.args.found.keys.now) 8) 0) else (c.args.free, 4)) test)
