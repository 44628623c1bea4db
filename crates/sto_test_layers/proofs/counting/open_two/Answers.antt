use Rattle.std.proofs.Common.{◌≡◌, ◌≤◌, ◌^◌, ◌++◌, pos, [], ◌∷◌, refl, ap, arith}
use Rattle.sto_core.specs.History.{Contents}
use Rattle.sto_core.specs.Opened.{opened_view}
use Rattle.sto_table.specs.Rests.{IsOf}
use Rattle.sto_test_layers.specs.Counter.{IsCounter}
use Rattle.sto_test_layers.proofs.Ended.{last_two, fresh}
use Rattle.sto_test_layers.proofs.counting.open_two.Goals as goal

pub returns-clause-first : goal.returns-clause-first
returns-clause-first c =
    let o = c.in_ok-shared.field-0 in
    let contents : Contents = c.in_ok-contents.contents.items in
    let counter : IsCounter contents = (pos 0, c.in_ok-contents.ensures) in
    let first = c.in_ok-first.first in
    let other = c.in_ok-first.other in
    let left = c.two_of.new.rests.items in
    let k = last_two (λ p. p.seat.me.0.view) (λ p. IsOf o.shared p.seat) o.rests.items (left ++ other ∷ []) left first other
    (opened_view [] contents 1) (opened_view [] contents 0) c.in_ok-first.ensures refl c.in_ok-shared.ensures.views
    c.in_ok-shared.ensures.of in
    (k.2, fresh [] contents 0 6400 first.seat.me.0.view k.0 counter (omega arith), ap (λ v. v.gathered) k.0)

pub returns-clause-other : goal.returns-clause-other
returns-clause-other c =
    let o = c.in_ok-shared.field-0 in
    let contents : Contents = c.in_ok-contents.contents.items in
    let counter : IsCounter contents = (pos 0, c.in_ok-contents.ensures) in
    let first = c.in_ok-first.first in
    let other = c.in_ok-first.other in
    let left = c.two_of.new.rests.items in
    let k = last_two (λ p. p.seat.me.0.view) (λ p. IsOf o.shared p.seat) o.rests.items (left ++ other ∷ []) left first other
    (opened_view [] contents 1) (opened_view [] contents 0) c.in_ok-first.ensures refl c.in_ok-shared.ensures.views
    c.in_ok-shared.ensures.of in
    (k.3, fresh [] contents 1 6400 other.seat.me.0.view k.1 counter (omega arith), ap (λ v. v.gathered) k.1)
