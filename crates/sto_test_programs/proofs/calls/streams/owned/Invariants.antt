use Rattle.std.proofs.Common.{◌≡◌, map, take, string_bytes}
use Rattle.sto_test_programs.proofs.calls.streams.owned.Given as goal

abbrev pub invariant-loop-word : goal.invariant-loop-word
invariant-loop-word l = map (λ word. string_bytes word) l.given.items ≡ map (λ word. word.now) (take l.word-index l.words)
