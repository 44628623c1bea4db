use Rattle.std.proofs.Common.{◌≡◌, map, take, string_bytes}
use Rattle.sto_args.specs.Given.{as_option}
use Rattle.sto_args.proofs.word.as_options.Given as goal

abbrev pub invariant-loop-word : goal.invariant-loop-word
invariant-loop-word l = map (λ word. word.now) l.options.items ≡ map as_option (map (λ word. string_bytes word) (take l.word-index l.words))
