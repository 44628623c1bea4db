-- The names that a text is made with, as plain data.
use Rattle.std.specs.Prelude.{map}
use Rattle.sto_lang.specs.Views.{file}
use Rattle.sto_journal.specs.Journals.{home_pair}
use Rattle.sto_trace_text.specs.Texts as texts
use Rattle.sto_trace_text.specs.declared.names.Names.{Names}

abbrev pub named : Names → texts.Names
named names = record { file = file names.file.now; homes = map home_pair names.homes.now }
