use Rattle.std.proofs.Common.{◌≡◌, ◌∷◌, [], ◌++◌, List, length, ap, sym, subst, ◌∙◌, append_assoc}
use Rattle.sto_part.specs.Listed.{Listed}
use Rattle.sto_lang.specs.Statements.{Nothing, Repeat, ◌then◌}
use Rattle.sto_lang.specs.declared.stmt.Stmt.{Stmt}
use Rattle.sto_lang.specs.declared.stmt.Stmt.TheVariants as stmts
use Rattle.sto_lang.specs.Written.{statements_of, IsWhole}
use Rattle.sto_lang.proofs.WrittenLemmas.{whole_then, still_whole, repetition_written}
use Rattle.sto_lang.proofs.stmt.Stmts.push_repetition.Goals as goal
use Rattle.sto_lang.proofs.stmt.Stmts.push_repetition.Goals.{After-extend_spare}

abbrev items : Listed Stmt → List Stmt
items l = l.items

all : (c : After-extend_spare) → c.extend_spare.new.self.items ≡ c.self.inside.list.items ++ (stmts.Repeat c.args.times (length c.body.inside.list.items) ∷ c.body.inside.list.items)
all c =
    let xs : List Stmt = c.body.inside.list.items in
    let head = stmts.Repeat c.args.times (length xs) in
    ap items c.extend_spare.ensures
    ∙ (λ i. ap items c.push_spare.ensures i ++ c.as_slice.ensures.items i)
    ∙ (λ i. (c.reserve.ensures.items i ++ stmts.Repeat c.args.times (c.len-own.ensures i) ∷ []) ++ xs)
    ∙ append_assoc c.self.inside.list.items (head ∷ []) xs

pub returns-clause-ok : goal.returns-clause-ok
returns-clause-ok c =
    let xs : List Stmt = c.body.inside.list.items in
    ap statements_of (all c)
    ∙ whole_then c.self.inside.list.items _ (Repeat c.args.times (statements_of xs) Nothing) c.self.invariant (repetition_written c.args.times xs c.body.invariant)
    ∙ (λ i. c.self.view_is i then Repeat c.args.times (c.body.view_is i) Nothing)

pub invariant_of-self-2 : goal.invariant_of-self-2
invariant_of-self-2 c =
    let xs : List Stmt = c.body.inside.list.items in
    subst IsWhole (sym (all c)) (still_whole c.self.inside.list.items _ (Repeat c.args.times (statements_of xs) Nothing) c.self.invariant (repetition_written c.args.times xs c.body.invariant))
