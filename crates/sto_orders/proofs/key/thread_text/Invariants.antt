use Rattle.std.proofs.Common.{◌≡◌, map, take}
use Rattle.std.specs.Prelude.{string_bytes}
use Rattle.sto_lang.specs.Views.{names_of}
use Rattle.sto_journal.specs.Journals.{entry}
use Rattle.sto_orders.specs.Outcomes.{thread_text}
use Rattle.sto_orders.proofs.key.thread_text.Given as goal

abbrev pub invariant-loop-line : goal.invariant-loop-line
invariant-loop-line l = string_bytes l.text ≡ thread_text l.by (names_of l.threads) (map entry (take l.line-index l.lines)) l.thread
