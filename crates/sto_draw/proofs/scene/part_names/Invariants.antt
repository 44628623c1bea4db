use Rattle.std.proofs.Common.{◌≡◌, take, length, map}
use Rattle.sto_lang.specs.Views.{declaration}
use Rattle.sto_journal.specs.Journals.{home_pair}
use Rattle.sto_picture.specs.Views.{bytes_of}
use Rattle.sto_draw.specs.Scenes.{name_of_part}
use Rattle.sto_draw.proofs.scene.part_names.Given as goal

abbrev pub invariant-loop-home : goal.invariant-loop-home
invariant-loop-home l =
    (bytes_of l.names.items ≡ map (name_of_part (map declaration l.decls)) (map home_pair (take l.home-index l.homes))) × (length l.names.items ≡ l.home-index)
