use Rattle.std.proofs.Common.{◌≡◌, length, is_some}
use Rattle.sto_syntax.specs.Lines.{words_of}
use Rattle.sto_syntax.specs.Forms.{all_of, entry_of}
use Rattle.sto_syntax.proofs.entries.all_entries.Given as goal

abbrev pub invariant-loop-word : goal.invariant-loop-word
invariant-loop-word l = is_some (all_of (entry_of l.version) (words_of l.rest)) ≡ is_some (all_of (entry_of l.version) (words_of l.initial.rest))

abbrev pub decreases-loop-word : goal.decreases-loop-word
decreases-loop-word l = length l.rest
