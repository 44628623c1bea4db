use Rattle.std.proofs.Common.{◌≡◌, ◌+◌, ℕ, ℤ, pos, [], ◌∷◌, ◌++◌, length, nat_eq, refl, ap, sym, ◌∙◌, subst, arith, length-append, rules, w64}
use Rattle.std.specs.Prelude.{if◌then◌else◌, ◌-ℤ◌}
use Rattle.sto_part.specs.declared.change.Change.{Change}
use Rattle.sto_part.specs.declared.change.Change.TheVariants.{Put, Keep}
use Rattle.sto_tree.specs.Split.{in_threes, split_ranges}
use Rattle.sto_tree.proofs.Adding.{in_threes_more}
use Rattle.std.specs.Int.RustNames.{FitsSigned}
use Rattle.std.proofs.lemmas.Int.{to_z-of_z}
use Rattle.sto_tree.proofs.split.split_directory.Goals as goal

pub loop-other-preserved : goal.loop-other-preserved
loop-other-preserved c =
    let f : ℕ → Change × Change × Change = split_ranges c.args.leaves c.args.found.directory.now c.args.found.number c.args.found.keys.now c.args.free in
    let i : ℕ = c.loop-other.other in
    let fm : FitsSigned w64 c.args.middle = c.ranges.middle in
    let fb : FitsSigned w64 (c.args.middle -ℤ pos 1) = subst (λ (x : ℤ). FitsSigned w64 (x -ℤ pos 1)) (sym c.requires.middle) c.requires.fits in
    let fe : FitsSigned w64 c.high-end.result = search rules in
    let range = simp to_z-of_z at c.range_after.ensures in
    let three : c.range_after.result ≡ f i = range ∙ (λ j. if nat_eq i c.args.found.number then (Keep, Keep, Put (c.requires.middle j -ℤ pos 1)) else if nat_eq i c.args.free then (Put (pos 1), Put (c.requires.middle j), Put (c.high-end.ensures j)) else (Keep, Keep, Keep)) in
    let g : i ≡ 0 + i = omega arith in
    let pushed : c.push_three.new.update.items ≡ c.loop-other.update.items ++ (c.range_after.result.0 ∷ c.range_after.result.1 ∷ c.range_after.result.2 ∷ []) = c.in_ok-push_three.ensures in
    record {
      items =
          pushed ∙ ap (λ l. l ++ (c.range_after.result.0 ∷ c.range_after.result.1 ∷ c.range_after.result.2 ∷ [])) c.loop-other.invariant.items
          ∙ ap (λ (u : Change × Change × Change). in_threes f 0 i ++ (u.0 ∷ u.1 ∷ u.2 ∷ [])) three
          ∙ ap (λ (x : ℕ). in_threes f 0 i ++ ((f x).0 ∷ (f x).1 ∷ (f x).2 ∷ [])) g
          ∙ sym (in_threes_more f 0 i (i + 1) refl);
      few = omega (arith, ap length pushed, length-append c.loop-other.update.items (c.range_after.result.0 ∷ c.range_after.result.1 ∷ c.range_after.result.2 ∷ []), c.loop-other.invariant.few);
    }
