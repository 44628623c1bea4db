-- len
use Rattle.std.specs.Prelude.{[], ◌∷◌}
use Rattle.sto_item.specs.declared.item.Item.TheVariants.{Seen}
use Rattle.sto_type.specs.Reading.{Reading, Read, Say}

-- the size
abbrev pub len_reading : Reading
len_reading = Read 0 (λ ws. Say (Seen 0 ∷ []) [])
