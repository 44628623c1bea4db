-- Desks after calls that went wrong: none of them is what the definitions of the calls say.
use Rattle.std.proofs.Common.{◌≡◌, ℕ, ℤ, pos, Bool, true, false, Option, Some, None, List, [], ◌∷◌, refl, sym, ◌∙◌, ap, arith, true≢false}
use Rattle.sto_part.specs.declared.change.Change.TheVariants.{Put}
use Rattle.sto_desk.specs.Reads.{entry_with}
use Rattle.sto_desk.specs.Laid.{Laid, Recalls}
use Rattle.sto_desk.specs.Changing.{Writes}
use Rattle.sto_desk.specs.Ordering.{ArePartsOf}
use Rattle.sto_desk.specs.declared.order.Which.TheVariants.{Written}

-- the first word that is known, where there is one
abbrev first_word : Option (List ℤ) → ℕ
first_word (Some (pos n ∷ ws)) = n
first_word o = 0

-- parts 1 and 2 were read
abbrev both_read : Laid
both_read = record {
  reads = entry_with 1 4 (pos 5 ∷ []) ∷ entry_with 2 4 (pos 7 ∷ []) ∷ [];
  fresh = [];
  set = record { items = []; updates = [] };
  known = (1, pos 5 ∷ []) ∷ (2, pos 7 ∷ []) ∷ [];
  found = [];
  loaded = [];
}

-- part 1 is to become 6, and part 2 is known as 8
abbrev other_changed : Laid
other_changed = record both_read { set = record { items = []; updates = (1, Put (pos 6) ∷ []) ∷ [] }; known = (1, pos 6 ∷ []) ∷ (2, pos 8 ∷ []) ∷ [] }

-- a change of a word leaves what is known of other parts
pub change_of_another_part : Writes both_read other_changed 1 1 0 (Put (pos 6)) → ⊥
change_of_another_part w = let same : 8 ≡ 7 = ap first_word (w.others 2 refl) in omega (arith, same)

-- part 1 is to become 6, and is known as it was read
abbrev forgetful : Laid
forgetful = record both_read { set = record { items = []; updates = (1, Put (pos 6) ∷ []) ∷ [] } }

-- what is pending is known
pub pending_change_forgotten : Recalls forgetful → ⊥
pending_change_forgotten h = let same : 5 ≡ 6 = ap first_word (h 1) in omega (arith, same)

-- and such a desk is not where the change leads
pub change_that_is_not_known : Writes both_read forgetful 1 1 0 (Put (pos 6)) → ⊥
change_that_is_not_known w = pending_change_forgotten w.recalls

-- a commit goes over each part that is written
pub written_part_left_out : ArePartsOf forgetful Written [] → ⊥
written_part_left_out a = true≢false (sym (a.each 1))
