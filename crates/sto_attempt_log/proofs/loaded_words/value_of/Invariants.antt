use Rattle.std.proofs.Common.{◌≡◌, drop}
use Rattle.sto_core.specs.Reads.{value_read}
use Rattle.sto_attempt_log.specs.CommitPhases.{reads_of}
use Rattle.sto_attempt_log.proofs.loaded_words.value_of.Given as goal

-- what was passed over is no read of the word
abbrev pub invariant-loop-load : goal.invariant-loop-load
invariant-loop-load l = value_read (reads_of l.loaded_words l.part) l.word ≡ value_read (reads_of (drop l.load-index l.loaded_words) l.part) l.word
