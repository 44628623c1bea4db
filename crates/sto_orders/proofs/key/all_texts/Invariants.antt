use Rattle.std.proofs.Common.{◌≡◌, map}
use Rattle.std.specs.Prelude.{string_bytes}
use Rattle.sto_lang.specs.Views.{names_of}
use Rattle.sto_report_spec.specs.Orders.{numbers_from}
use Rattle.sto_journal.specs.Journals.{entry}
use Rattle.sto_orders.specs.Outcomes.{thread_text}
use Rattle.sto_orders.proofs.key.all_texts.Given as goal

abbrev pub invariant-loop-thread : goal.invariant-loop-thread
invariant-loop-thread l = map string_bytes l.texts.items ≡ map (thread_text l.by (names_of l.threads) (map entry l.lines)) (numbers_from 0 l.thread)
