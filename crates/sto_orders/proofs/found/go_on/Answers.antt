use Rattle.std.proofs.Common.{ℕ, suc, ◌++◌, [], ◌∷◌, ◌∙◌, refl, sym, subst, arith}
use Rattle.sto_lang.specs.Views.{file as view}
use Rattle.sto_report_spec.specs.Orders.{TransactionPlace as Place}
use Rattle.sto_checker.specs.Reading.{place_of}
use Rattle.sto_checker.proofs.Places.{length-threads}
use Rattle.sto_orders.specs.Levels.{HasFound}
use Rattle.sto_orders.proofs.Adding.{found_more, keeps_more, found_here}
use Rattle.sto_orders.proofs.Nexts.{node_long}
use Rattle.sto_orders.proofs.found.go_on.Goals as goal

pub next_at-requires-clause-done : goal.next_at-requires-clause-done
next_at-requires-clause-done c =
    node_long c.args.by (view c.args.file.now) c.requires.node.count c.args.node.now.key c.args.node.now.ways c.requires.node.ways ∙ length-threads c.args.file.now.threads.items

pub make_step-requires-clause-next : goal.make_step-requires-clause-next
make_step-requires-clause-next c = c.in-Some.ensures.some c.args.by

pub returns-in-None-clause-next : goal.returns-in-None-clause-next
returns-in-None-clause-next c = λ order is left. absurd (let none = c.in-None.ensures.none refl c.args.by order is in omega (arith, none, left))

pub returns-in_ok-add-in-Some-clause-found : goal.returns-in_ok-add-in-Some-clause-found
returns-in_ok-add-in-Some-clause-found c = λ count ways h.
    found_more c.args.by (view c.args.file.now) (suc count) c.args.found.now c.add.new.found c.in_ok-onward-in-Some.onward.key c.in_ok-onward-in-Some.onward.way c.in_ok-add-in-Some.ensures h (c.in_ok-onward-in-Some.ensures.way count ways)

pub returns-in_ok-add-in-Some-clause-keeps : goal.returns-in_ok-add-in-Some-clause-keeps
returns-in_ok-add-in-Some-clause-keeps c =
    keeps_more c.args.by (view c.args.file.now) 0 c.args.found.now c.add.new.found c.in_ok-onward-in-Some.onward.key c.in_ok-onward-in-Some.onward.way c.in_ok-add-in-Some.ensures

pub returns-in_ok-add-in-Some-clause-next : goal.returns-in_ok-add-in-Some-clause-next
returns-in_ok-add-in-Some-clause-next c = λ order is left.
    subst (λ (p : Place). HasFound c.args.by (view c.args.file.now) c.add.new.found (order ++ p ∷ [])) (sym (c.in-Some.ensures.some c.args.by order is).0)
    (found_here c.args.by (view c.args.file.now) 0 c.args.found.now c.add.new.found c.in_ok-onward-in-Some.onward.key c.in_ok-onward-in-Some.onward.way c.in_ok-add-in-Some.ensures (order ++ place_of c.in-Some.at ∷ []) (c.in_ok-onward-in-Some.ensures.leads order is))
