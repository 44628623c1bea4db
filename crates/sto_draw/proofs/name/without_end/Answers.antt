use Rattle.std.proofs.Common.{◌≡◌, List, ℕ, true, subst, sym, ◌-◌, length, rules}
use Rattle.std.specs.List.{list_all}
use Rattle.std.proofs.lemmas.Str.{IsAscii-take}
use Rattle.sto_lang.specs.Ascii.{is_ascii}
use Rattle.sto_lang.proofs.AsciiLemmas.{tested}
use Rattle.sto_draw.specs.Scenes.{without_end}
use Rattle.sto_draw.proofs.name.without_end.Goals as goal

pub append-requires : goal.append-requires
append-requires c =
    let line : List ℕ = c.args.line.now in
    let is : c.range.result.now ≡ without_end line = search rules in
    subst (λ (l : List ℕ). list_all is_ascii l ≡ true) (sym is) (tested (without_end line) (IsAscii-take line (length line - 1) c.requires))
