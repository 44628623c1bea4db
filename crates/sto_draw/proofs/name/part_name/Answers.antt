use Rattle.std.proofs.Common.{map}
use Rattle.sto_lang.specs.Views.{declaration}
use Rattle.sto_journal.specs.Journals.{home_pair}
use Rattle.sto_draw.proofs.Named.{part_ascii}
use Rattle.sto_draw.proofs.name.part_name.Goals as goal

pub of_string-requires : goal.of_string-requires
of_string-requires c =
    rw (c.in-Ok.ensures.text, c.new-name.ensures.bytes)
    (part_ascii (map declaration c.args.decls.now) (home_pair c.args.home) c.requires)
