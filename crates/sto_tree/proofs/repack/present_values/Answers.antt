use Rattle.std.proofs.Common.{◌≡◌, ◌+◌, ℕ, suc, ℤ, Option, Some, None, List, [], ◌++◌, ap, sym, ◌∙◌, subst, arith}
use Rattle.std.proofs.lemmas.List.{append-nil}
use Rattle.sto_type.specs.Known.{Known, known}
use Rattle.sto_type.specs.Reading.{when_known}
use Rattle.sto_tree.specs.Layout.{key_part}
use Rattle.sto_tree.specs.Repack.{present_values_in, present_values}
use Rattle.sto_tree.specs.Walked.{known_words}
use Rattle.sto_tree.proofs.Leaves.{keys_wide}
use Rattle.sto_tree.proofs.repack.present_values.Goals.{in-Some+in_ok-add_present, in_default}
use Rattle.sto_tree.proofs.repack.present_values.Goals as goal

pub add_present-requires-clause-keys : goal.add_present-requires-clause-keys
add_present-requires-clause-keys c =
    let k : Known = known c.args.cache.now in
    keys_wide c.args.leaves k c.loop-leaf.leaf c.in-Some.keys.now (omega (arith, c.loop-leaf-test.true)) c.requires.part (subst (λ (p : ℕ). k p ≡ Some c.in-Some.keys.now) c.key_part.ensures c.in-Some.ensures)

pub loop-leaf-preserved : goal.loop-leaf-preserved
loop-leaf-preserved c =
    let k : Known = known c.args.cache.now in
    let n : ℕ = c.loop-leaf.leaf in
    let e : n + 1 ≡ suc n = omega arith in
    let before : List ℕ = present_values (known_words k) n in
    elim c.match-get.branch [
      | in-Some+in_ok-add_present w ↦
          let there : k (key_part n) ≡ Some w.in-Some.keys.now = subst (λ (p : ℕ). k p ≡ Some w.in-Some.keys.now) c.key_part.ensures w.in-Some.ensures in
          let words : known_words k (key_part n) ≡ w.in-Some.keys.now = ap (λ (o : Option (List ℤ)). when_known {A = List ℤ} o [] (λ ws. ws)) there in
          ap (λ p. p.items) w.parts-is ∙ w.in_ok-add_present.ensures ∙ ap (λ (ps : List ℕ). ps ++ present_values_in n w.in-Some.keys.now 8) c.loop-leaf.invariant
          ∙ ap (λ (ws : List ℤ). before ++ present_values_in n ws 8) (sym words) ∙ ap (present_values (known_words k)) (sym e)
      | in_default w ↦
          let none : k (key_part n) ≡ None = subst (λ (p : ℕ). k p ≡ None) c.key_part.ensures w.in_default.ensures in
          let words : known_words k (key_part n) ≡ [] = ap (λ (o : Option (List ℤ)). when_known {A = List ℤ} o [] (λ ws. ws)) none in
          ap (λ p. p.items) w.parts-is ∙ c.loop-leaf.invariant
          ∙ sym (ap (λ (ws : List ℤ). before ++ present_values_in n ws 8) words ∙ append-nil before) ∙ ap (present_values (known_words k)) (sym e)
    ]
