use Rattle.std.proofs.Common.{◌≡◌, take, length}
use Rattle.sto_lang.specs.Views.{names_of}
use Rattle.sto_picture.specs.Views.{bytes_of}
use Rattle.sto_draw.proofs.scene.thread_names.Given as goal

abbrev pub invariant-loop-thread : goal.invariant-loop-thread
invariant-loop-thread l = (bytes_of l.names.items ≡ names_of (take l.thread-index l.threads)) × (length l.names.items ≡ l.thread-index)
