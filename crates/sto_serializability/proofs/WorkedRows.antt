-- The journals of worked cases, computed on the definitions.
use Rattle.std.specs.Prelude.{filter}
use Rattle.std.proofs.Common.{◌≡◌, ℕ, List, [], ◌∷◌, map, refl, pos, codes}
use Rattle.sto_model.specs.PlainReplies.{PlainReply, Value, Done}
use Rattle.sto_model.specs.declared.shape.Shape.{Shape}
use Rattle.sto_model.specs.declared.shape.Shape.TheVariants.{Single}
use Rattle.sto_lang.specs.Objects.{Declaration}
use Rattle.sto_report_spec.specs.Replay.{Entry}
use Rattle.sto_report_spec.specs.declared.ending.Ending.TheVariants as endings
use Rattle.sto_report_spec.specs.Aborts.{Abort}
use Rattle.sto_report_spec.specs.Aborts as aborts
use Rattle.sto_history.specs.Records.{Record, Wrote, Read, Locked, Changed, is_finished}
use Rattle.sto_serializability.specs.Merged.{line_of, aborts_from, is_before}

-- Two transactions read a box and write it. The first one's attempt with ticket 2 finds the other's ticket 1 and is dropped; its
-- second attempt writes with ticket 3. The dropped ticket is not counted.
lost_update : List Record
lost_update =
    record { place = (1, 1); replies = Value (pos 0) ∷ Done ∷ []; verdict = Wrote 1 }
    ∷ record { place = (0, 1); replies = Value (pos 0) ∷ Done ∷ []; verdict = Changed 0 0 1 }
    ∷ record { place = (0, 1); replies = Value (pos 1) ∷ Done ∷ []; verdict = Wrote 3 }
    ∷ []

box_a : List Declaration
box_a = record { name = codes "a"; shape = Single (pos 0); number = 0 } ∷ []

lines_of_lost_update : map (line_of lost_update) (filter is_finished lost_update)
    ≡ record { writers = 1; place = (1, 1); ending = endings.Commit; replies = Value (pos 0) ∷ Done ∷ [] }
    ∷ record { writers = 2; place = (0, 1); ending = endings.Commit; replies = Value (pos 1) ∷ Done ∷ [] } ∷ []
unfolding lost_update
lines_of_lost_update = refl

aborts_of_lost_update : aborts_from box_a ((0, 0) ∷ []) lost_update 0 2
    ≡ record { place = (0, 1); seen = 0; replies = Value (pos 0) ∷ Done ∷ []; cause = aborts.Changed (record { object = codes "a"; part = 0 }) 1 } ∷ []
unfolding lost_update box_a
aborts_of_lost_update = refl

-- a read that ends late stands where it read
late_read : List Record
late_read =
    record { place = (1, 1); replies = Done ∷ []; verdict = Wrote 1 }
    ∷ record { place = (0, 1); replies = Value (pos 5) ∷ []; verdict = Read 0 }
    ∷ []

lines_of_late_read : map (line_of late_read) late_read
    ≡ record { writers = 1; place = (1, 1); ending = endings.Commit; replies = Done ∷ [] }
    ∷ record { writers = 0; place = (0, 1); ending = endings.Read; replies = Value (pos 5) ∷ [] } ∷ []
unfolding late_read
lines_of_late_read = refl
