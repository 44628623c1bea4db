use Rattle.std.proofs.Common.{◌≡◌, ◌++◌, ℕ, flat_map, refl, ap, sym, ◌∙◌, codes}
use Rattle.std.specs.Fmt.{digits}
use Rattle.sto_write.specs.Texts.{version_lines, line_text}
use Rattle.sto_write.proofs.TextLemmas.{on_ok}
use Rattle.sto_write.proofs.whole.push_version.Goals as goal

-- the line of version 2
second_text : flat_map line_text (version_lines 2) ≡ codes "sto 2\n"
unfolding digits
second_text = refl

pub returns-then-version-eq2 : goal.returns-then-version-eq2
returns-then-version-eq2 c =
    on_ok c.append.result _ _ (λ e. e ∙ ap (λ l. c.args.out.now.items ++ l) (sym second_text ∙ ap (λ (v : ℕ). flat_map line_text (version_lines v)) (sym c.if-version-eq2.true))) c.append.ensures.ok
