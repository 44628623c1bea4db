use Rattle.std.proofs.Common.{◌≡◌, List, ℕ, true, subst, sym, ◌-◌, length, rules}
use Rattle.std.specs.List.{list_all}
use Rattle.std.proofs.lemmas.Str.{IsAscii-take}
use Rattle.sto_lang.specs.Ascii.{is_ascii}
use Rattle.sto_lang.proofs.AsciiLemmas.{tested}
use Rattle.sto_run_orders.specs.Texts.{without_end}
use Rattle.sto_run_orders.proofs.words.push_without_end.Goals as goal

pub append-requires : goal.append-requires
append-requires c =
    let report : List ℕ = c.args.report.now in
    let is : c.range.result.now ≡ without_end report = search rules in
    subst (λ (l : List ℕ). list_all is_ascii l ≡ true) (sym is) (tested (without_end report) (IsAscii-take report (length report - 1) c.if-is_ascii.ensures.cases))
