use Rattle.std.proofs.Common.{◌≡◌, ◌∷◌, [], ◌++◌, List, length, ap, sym, subst, ◌∙◌}
use Rattle.sto_part.specs.Listed.{Listed}
use Rattle.sto_lang.specs.Statements.{Statements, Nothing, Choose, ◌then◌}
use Rattle.sto_lang.specs.declared.stmt.Stmt.{Stmt}
use Rattle.sto_lang.specs.declared.stmt.Stmt.TheVariants as stmts
use Rattle.sto_lang.specs.Written.{statements_of, IsWhole}
use Rattle.sto_lang.proofs.WrittenLemmas.{whole_then, still_whole, choice_written, seam}
use Rattle.sto_lang.proofs.stmt.Stmts.push_choice.Goals as goal
use Rattle.sto_lang.proofs.stmt.Stmts.push_choice.Goals.{After-extend_spare-2}

abbrev items : Listed Stmt → List Stmt
items l = l.items

all : (c : After-extend_spare-2) → c.extend_spare-2.new.self.items ≡ c.self.inside.list.items
    ++ (stmts.Choose c.args.a c.args.test c.args.b (length c.first.inside.list.items) (length c.second.inside.list.items) ∷ (c.first.inside.list.items ++ c.second.inside.list.items))
all c =
    let xs : List Stmt = c.first.inside.list.items in
    let ys : List Stmt = c.second.inside.list.items in
    let head = stmts.Choose c.args.a c.args.test c.args.b (length xs) (length ys) in
    ap items c.extend_spare-2.ensures
    ∙ (λ i. ap items c.extend_spare.ensures i ++ c.as_slice-2.ensures.items i)
    ∙ ap (λ l. l ++ ys) (λ i. ap items c.push_spare.ensures i ++ c.as_slice.ensures.items i)
    ∙ (λ i. ((c.reserve.ensures.items i ++ stmts.Choose c.args.a c.args.test c.args.b (c.len-yes.ensures i) (c.len-no.ensures i) ∷ []) ++ xs) ++ ys)
    ∙ seam c.self.inside.list.items xs ys head

pub returns-clause-ok : goal.returns-clause-ok
returns-clause-ok c =
    let xs : List Stmt = c.first.inside.list.items in
    let ys : List Stmt = c.second.inside.list.items in
    let choice : Statements = Choose c.args.a c.args.test c.args.b (statements_of xs) (statements_of ys) Nothing in
    ap statements_of (all c)
    ∙ whole_then c.self.inside.list.items _ choice c.self.invariant (choice_written c.args.a c.args.test c.args.b xs ys c.first.invariant c.second.invariant)
    ∙ (λ i. c.self.view_is i then Choose c.args.a c.args.test c.args.b (c.first.view_is i) (c.second.view_is i) Nothing)

pub invariant_of-self-2 : goal.invariant_of-self-2
invariant_of-self-2 c =
    let xs : List Stmt = c.first.inside.list.items in
    let ys : List Stmt = c.second.inside.list.items in
    let choice : Statements = Choose c.args.a c.args.test c.args.b (statements_of xs) (statements_of ys) Nothing in
    subst IsWhole (sym (all c))
    (still_whole c.self.inside.list.items _ choice c.self.invariant (choice_written c.args.a c.args.test c.args.b xs ys c.first.invariant c.second.invariant))
