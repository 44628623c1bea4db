-- The first word of a part that is known, and whether there are updates at all.
use Rattle.std.proofs.Common.{◌≡◌, ℤ, pos, Option, Some, None, List, slice_index_or, refl}
use Rattle.sto_type.specs.Known.{word_known}

pub known_word : (o : Option (List ℤ)) (x : ℤ) → word_known o ≡ Some x → (ws : List ℤ) × (o ≡ Some ws) × (slice_index_or ws 0 (pos 0) ≡ x)
known_word None x e = cc
known_word (Some ws) x e = (ws, refl, cc)

pub unknown_word : (o : Option (List ℤ)) → word_known o ≡ None → o ≡ None
unknown_word None e = refl
unknown_word (Some ws) e = cc
