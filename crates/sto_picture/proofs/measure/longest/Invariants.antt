use Rattle.std.proofs.Common.{◌≡◌, take}
use Rattle.sto_picture.specs.Views.{bytes_of}
use Rattle.sto_picture.specs.Places.{longest}
use Rattle.sto_picture.proofs.measure.longest.Given as goal

abbrev pub invariant-loop-text : goal.invariant-loop-text
invariant-loop-text l = l.most ≡ longest (bytes_of (take l.text-index l.texts))
