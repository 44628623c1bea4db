use Rattle.std.proofs.Common.{◌≡◌, ℕ, List, [], ◌∷◌, ◌++◌, map, sym, ap, ◌∙◌, rules, arith}
use Rattle.sto_report_spec.specs.Orders.{numbers_from}
use Rattle.sto_journal.specs.Journals.{places}
use Rattle.sto_orders.specs.Keys.{done_in}
use Rattle.sto_orders.proofs.Filling.{threads_more}
use Rattle.sto_orders.proofs.key.all_done.Goals as goal

pub loop-thread-preserved : goal.loop-thread-preserved
loop-thread-preserved c =
    let lines = places c.args.lines.now in
    let old : List ℕ = c.loop-thread.done.items in
    let added : c.push.new.self.items ≡ old ++ c.done_in.result ∷ [] = search rules in
    added
    ∙ ap (λ (n : ℕ). old ++ n ∷ []) c.done_in.ensures
    ∙ ap (λ (ns : List ℕ). ns ++ done_in lines c.loop-thread.thread ∷ []) c.loop-thread.invariant
    ∙ sym (threads_more (done_in lines) c.loop-thread.thread)

pub returns : goal.returns
returns c =
    let all : c.loop-thread.thread ≡ c.args.threads = omega (arith, c.loop-thread-test.false, c.loop-thread.auto.thread-end) in
    c.loop-thread.invariant ∙ ap (λ (n : ℕ). map (done_in (places c.args.lines.now)) (numbers_from 0 n)) all
