use Rattle.std.proofs.Common.{◌≡◌, ◌<◌, ℕ, List, length, ap, sym, ◌∙◌, subst, w64}
use Rattle.std.specs.Int.RustNames.{FitsSigned}
use Rattle.std.proofs.lemmas.Int.{to_z-of_z}
use Rattle.sto_part.specs.Parts.{part_of}
use Rattle.sto_item.specs.Agreement.{HasWidths}
use Rattle.sto_item.specs.Pending.{Entry}
use Rattle.sto_item.proofs.Widths.{IsWidthOf-fits, HasWidths-with_update}
use Rattle.sto_tree.proofs.split.compose_row.Goals as goal

pub compose-requires : goal.compose-requires
compose-requires c =
    let w = c.requires.widths in
    IsWidthOf-fits c.args.updates.now.items 0 c.in_ok-size.size.items w.0 w.1 (w.2.1 ∙ sym (ap length c.in_ok-size.ensures))

pub compose-requires-2 : goal.compose-requires-2
compose-requires-2 c =
    let w = c.requires.widths in
    let f : FitsSigned w64 c.args.key = c.ranges.key in
    let keys = simp to_z-of_z at c.in_ok-keys.ensures in
    let first : HasWidths c.compose.new.self.items w.0 =
    subst (λ (es : List Entry). HasWidths es w.0) (sym c.in_ok-compose.ensures.ok) (HasWidths-with_update c.args.updates.now.items 0 c.in_ok-size.size.items w.0 w.1 w.2.0 (w.2.1 ∙ sym (ap length c.in_ok-size.ensures))) in
    IsWidthOf-fits c.compose.new.self.items c.key_part.result c.in_ok-keys.keys.items w.0 first
    (ap (λ (p : ℕ). length (part_of w.0 p)) c.key_part.ensures ∙ w.2.2.1 ∙ sym (ap length keys))

pub compose-requires-3 : goal.compose-requires-3
compose-requires-3 c =
    let w = c.requires.widths in
    let f : FitsSigned w64 c.args.key = c.ranges.key in
    let keys = simp to_z-of_z at c.in_ok-keys.ensures in
    let first : HasWidths c.compose.new.self.items w.0 =
    subst (λ (es : List Entry). HasWidths es w.0) (sym c.in_ok-compose.ensures.ok) (HasWidths-with_update c.args.updates.now.items 0 c.in_ok-size.size.items w.0 w.1 w.2.0 (w.2.1 ∙ sym (ap length c.in_ok-size.ensures))) in
    let wide : length (part_of w.0 c.key_part.result) ≡ length c.in_ok-keys.keys.items = ap (λ (p : ℕ). length (part_of w.0 p)) c.key_part.ensures ∙ w.2.2.1 ∙ sym (ap length keys) in
    let there : c.key_part.result < length w.0 = subst (λ (p : ℕ). p < length w.0) (sym c.key_part.ensures) w.2.2.0 in
    let second : HasWidths c.compose-2.new.self.items w.0 =
    subst (λ (es : List Entry). HasWidths es w.0) (sym c.in_ok-compose-2.ensures.ok) (HasWidths-with_update c.compose.new.self.items c.key_part.result c.in_ok-keys.keys.items w.0 first there wide) in
    IsWidthOf-fits c.compose-2.new.self.items c.value_part.result c.in_ok-word.word.items w.0 second
    (ap (λ (p : ℕ). length (part_of w.0 p)) c.value_part.ensures ∙ w.2.2.2.1 ∙ sym (ap length c.in_ok-word.ensures))
