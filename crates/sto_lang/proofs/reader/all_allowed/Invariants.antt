use Rattle.std.proofs.Common.{◌≡◌, ◌&&◌, drop}
use Rattle.std.specs.List.{list_all}
use Rattle.sto_lang.specs.Files.{is_allowed}
use Rattle.sto_lang.proofs.reader.all_allowed.Given as goal

abbrev pub invariant-loop-byte : goal.invariant-loop-byte
invariant-loop-byte l = (l.allowed && list_all is_allowed (drop l.byte-index l.bytes)) ≡ list_all is_allowed l.bytes
