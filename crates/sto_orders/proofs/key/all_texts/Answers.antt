use Rattle.std.proofs.Common.{◌≡◌, ℕ, List, [], ◌∷◌, ◌++◌, length, map, sym, ap, ◌∙◌, rules, arith, String, Global}
use Rattle.std.specs.Prelude.{string_bytes}
use Rattle.std.proofs.lemmas.List.{map-append}
use Rattle.sto_lang.specs.Views.{names_of}
use Rattle.sto_report_spec.specs.Orders.{numbers_from}
use Rattle.sto_journal.specs.Journals.{entry}
use Rattle.sto_orders.specs.Outcomes.{thread_text}
use Rattle.sto_orders.proofs.Filling.{threads_more}
use Rattle.sto_orders.proofs.key.all_texts.Goals as goal

pub loop-thread-preserved : goal.loop-thread-preserved
loop-thread-preserved c =
    let text = thread_text c.args.by (names_of c.args.threads.now) (map entry c.args.lines.now) in
    let old : List (String Global) = c.loop-thread.texts.items in
    let added : c.push.new.self.items ≡ old ++ c.in-Ok.text ∷ [] = search rules in
    ap (map string_bytes) added
    ∙ map-append string_bytes old (c.in-Ok.text ∷ [])
    ∙ ap (λ (bs : List ℕ). map string_bytes old ++ bs ∷ []) c.in-Ok.ensures
    ∙ ap (λ (bs : List (List ℕ)). bs ++ text c.loop-thread.thread ∷ []) c.loop-thread.invariant
    ∙ sym (threads_more text c.loop-thread.thread)
