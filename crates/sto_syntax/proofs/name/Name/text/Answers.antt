use Rattle.std.proofs.Common.{ℕ, List, sym, subst}
use Rattle.std.specs.Str.{IsAscii}
use Rattle.sto_syntax.proofs.Names.{name_ascii, name_utf8}
use Rattle.sto_syntax.proofs.name.Name.text.Goals as goal

pub unreachable-requires : goal.unreachable-requires
unreachable-requires c = c.in-Err.ensures.cases.0 (name_utf8 c.args.self.now.bytes.now c.args.self.now.valid)

pub returns-clause-ascii : goal.returns-clause-ascii
returns-clause-ascii c =
    let P : List ℕ → Type 0 = λ bytes. IsAscii bytes in
    subst P (sym c.in-Ok.ensures.cases.0) (name_ascii c.args.self.now.bytes.now c.args.self.now.valid)
