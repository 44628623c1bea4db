use Rattle.std.proofs.Common.{◌≡◌, ℕ, List, position, ap, subst, sym, ◌∙◌}
use Rattle.std.specs.Str.{bytes_eq}
use Rattle.sto_lang.specs.NameTables.{AreApart}
use Rattle.sto_lang.specs.HeldNames.{names_held, AreHeld}
use Rattle.sto_lang.proofs.NameTables.{apart_more}
use Rattle.sto_lang.proofs.variables.Variables.add.Goals as goal

pub invariant_of-self-then-take_next : goal.invariant_of-self-then-take_next
invariant_of-self-then-take_next c =
    let name : List ℕ = c.args.name.now.bytes.now in
    let names : List (List ℕ) = c.in-Shared.names in
    let apart : AreApart names = subst AreHeld c.in-Shared.is c.self.invariant in
    let all : names ≡ c.args.self.now = sym (ap names_held c.in-Shared.is) ∙ c.self.view_is in
    subst AreApart (sym (c.take_next.ensures.taken c.if-take_next.true)) (apart_more names name apart (ap (position (bytes_eq name)) all ∙ c.requires.absent))
