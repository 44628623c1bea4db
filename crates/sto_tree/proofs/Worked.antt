-- Worked cases, computed on the definitions.
use Rattle.std.proofs.Common.{◌≡◌, ◌*◌, ℕ, pos, true, List, [], ◌∷◌, refl}
use Rattle.std.specs.Int.{int_wrap}
use Rattle.sto_part.specs.declared.change.Change.TheVariants.{Keep, Put, Add}
use Rattle.sto_part.specs.declared.pred.Test.TheVariants.{Eq, Lt, Le, Ge}
use Rattle.sto_item.specs.declared.item.Item.TheVariants.{Seen}
use Rattle.sto_item.specs.Pending.{applied_updates}
use Rattle.sto_type.specs.Known.{Parts}
use Rattle.sto_type.specs.Reading.{Reading, items_at, updates_at}
use Rattle.sto_tree.specs.Layout.{opening, greatest, least, tree_rows}
use Rattle.sto_tree.specs.Said.{compared}
use Rattle.sto_tree.specs.Remove.{remove_reading}
use Rattle.sto_tree.specs.Put.{put_reading}
use Rattle.sto_tree.specs.Between.{between_reading}
use Rattle.sto_tree.specs.Next.{next_reading}

abbrev after : Reading → Parts → Parts
after r c = applied_updates (updates_at r c) c

abbrev puts : List ℕ → Parts → Parts
puts [] c = c
puts (k ∷ ks) c = puts ks (after (put_reading 3 (pos k) (pos (k * 10))) c)

abbrev removes : List ℕ → Parts → Parts
removes [] c = c
removes (k ∷ ks) c = removes ks (after (remove_reading 3 (pos k)) c)

abbrev eight : Parts
eight = puts (10 ∷ 20 ∷ 30 ∷ 40 ∷ 50 ∷ 60 ∷ 70 ∷ 80 ∷ []) (opening 3)

-- a put of 35 splits leaf 0: 50, 60, 70 and 80 go to leaf 1
split_says : updates_at (put_reading 3 (pos 35) (pos 350)) eight
    ≡ (0, Add (pos 1) ∷ []) ∷ (1, Keep ∷ Keep ∷ Put (pos 49) ∷ Put (pos 1) ∷ Put (pos 50) ∷ Put greatest ∷ Keep ∷ Keep ∷ Keep ∷ [])
    ∷ (2, Keep ∷ Keep ∷ Keep ∷ Keep ∷ Keep ∷ Keep ∷ Keep ∷ Keep ∷ Put (pos 1) ∷ Put (pos 35) ∷ Put (pos 0) ∷ Keep ∷ Put (pos 0) ∷ Keep ∷ Put (pos 0) ∷ Keep ∷ [])
    ∷ (7, Put (pos 350) ∷ [])
    ∷ (11, Put (pos 1) ∷ Put (pos 50) ∷ Put (pos 1) ∷ Put (pos 60) ∷ Put (pos 1) ∷ Put (pos 70) ∷ Put (pos 1) ∷ Put (pos 80) ∷ Put (pos 0) ∷ Keep ∷ Put (pos 0) ∷ Keep ∷ Put (pos 0) ∷ Keep ∷ Put (pos 0) ∷ Keep ∷ [])
    ∷ (12, Put (pos 500) ∷ []) ∷ (13, Put (pos 600) ∷ []) ∷ (14, Put (pos 700) ∷ []) ∷ (15, Put (pos 800) ∷ []) ∷ []
unfolding int_wrap
split_says = refl

split_observes : items_at (put_reading 3 (pos 35) (pos 350)) eight
    ≡ compared 1 0 Eq (pos 1) ∷ compared 1 1 Le (pos 35) ∷ compared 1 2 Eq greatest ∷ compared 1 0 Eq (pos 1) ∷ compared 1 3 Eq (pos 0)
    ∷ Seen 2 ∷ Seen 7 ∷ Seen 8 ∷ Seen 9 ∷ Seen 10 ∷ compared 0 0 Lt (pos 12) ∷ []
unfolding int_wrap
split_observes = refl

-- the rows after it, and what a count, a scan and a next then observe
abbrev nine : Parts
nine = puts (35 ∷ []) eight

split_rows : tree_rows 3 nine ≡ (pos 10, pos 100) ∷ (pos 20, pos 200) ∷ (pos 30, pos 300) ∷ (pos 35, pos 350) ∷ (pos 40, pos 400) ∷ (pos 50, pos 500) ∷ (pos 60, pos 600) ∷ (pos 70, pos 700) ∷ (pos 80, pos 800) ∷ []
unfolding int_wrap
split_rows = refl

scan_observes : items_at (between_reading 3 true (pos 38) (pos 55)) nine
    ≡ compared 1 0 Eq (pos 1) ∷ compared 1 1 Le (pos 38) ∷ compared 1 2 Ge (pos 49) ∷ Seen 2 ∷ Seen 6
    ∷ compared 1 3 Eq (pos 1) ∷ compared 1 4 Le (pos 50) ∷ compared 1 5 Ge (pos 55) ∷ Seen 11 ∷ Seen 12 ∷ []
unfolding int_wrap
scan_observes = refl

next_observes : items_at (next_reading 3 (pos 41)) nine
    ≡ compared 1 0 Eq (pos 1) ∷ compared 1 1 Le (pos 41) ∷ compared 1 2 Ge (pos 49) ∷ Seen 2
    ∷ compared 1 3 Eq (pos 1) ∷ compared 1 4 Le (pos 50) ∷ compared 1 5 Ge (pos 50) ∷ Seen 11 ∷ []
unfolding int_wrap
next_observes = refl

next_none_observes : items_at (next_reading 3 (pos 81)) nine
    ≡ compared 1 3 Eq (pos 1) ∷ compared 1 4 Le (pos 81) ∷ compared 1 5 Ge greatest ∷ Seen 11 ∷ []
unfolding int_wrap
next_none_observes = refl

-- all three leaves live, and leaf 0 full; a put of 4 packs the ten rows anew
abbrev crowded : Parts
crowded = (pos 9 ∷ [])
    ∷ (pos 1 ∷ least ∷ pos 9 ∷ pos 1 ∷ pos 10 ∷ pos 19 ∷ pos 1 ∷ pos 20 ∷ greatest ∷ [])
    ∷ (pos 1 ∷ pos 1 ∷ pos 1 ∷ pos 2 ∷ pos 1 ∷ pos 3 ∷ pos 1 ∷ pos 5 ∷ pos 1 ∷ pos 6 ∷ pos 1 ∷ pos 7 ∷ pos 1 ∷ pos 8 ∷ pos 1 ∷ pos 9 ∷ [])
    ∷ (pos 10 ∷ [])
    ∷ (pos 20 ∷ [])
    ∷ (pos 30 ∷ [])
    ∷ (pos 50 ∷ [])
    ∷ (pos 60 ∷ [])
    ∷ (pos 70 ∷ [])
    ∷ (pos 80 ∷ [])
    ∷ (pos 90 ∷ [])
    ∷ (pos 0 ∷ pos 12 ∷ pos 0 ∷ pos 12 ∷ pos 0 ∷ pos 12 ∷ pos 0 ∷ pos 12 ∷ pos 0 ∷ pos 12 ∷ pos 0 ∷ pos 12 ∷ pos 0 ∷ pos 12 ∷ pos 0 ∷ pos 12 ∷ [])
    ∷ (pos 7 ∷ [])
    ∷ (pos 7 ∷ [])
    ∷ (pos 7 ∷ [])
    ∷ (pos 7 ∷ [])
    ∷ (pos 7 ∷ [])
    ∷ (pos 7 ∷ [])
    ∷ (pos 7 ∷ [])
    ∷ (pos 7 ∷ [])
    ∷ (pos 0 ∷ pos 0 ∷ pos 0 ∷ pos 0 ∷ pos 0 ∷ pos 0 ∷ pos 1 ∷ pos 80 ∷ pos 0 ∷ pos 0 ∷ pos 0 ∷ pos 0 ∷ pos 0 ∷ pos 0 ∷ pos 0 ∷ pos 0 ∷ [])
    ∷ (pos 0 ∷ [])
    ∷ (pos 0 ∷ [])
    ∷ (pos 0 ∷ [])
    ∷ (pos 800 ∷ [])
    ∷ (pos 0 ∷ [])
    ∷ (pos 0 ∷ [])
    ∷ (pos 0 ∷ [])
    ∷ (pos 0 ∷ []) ∷ []

repack_says : updates_at (put_reading 3 (pos 4) (pos 40)) crowded
    ≡ (0, Add (pos 1) ∷ [])
    ∷ (1, Put (pos 1) ∷ Put least ∷ Put (pos 4) ∷ Put (pos 1) ∷ Put (pos 5) ∷ Put (pos 8) ∷ Put (pos 1) ∷ Put (pos 9) ∷ Put greatest ∷ [])
    ∷ (2, Put (pos 1) ∷ Put (pos 1) ∷ Put (pos 1) ∷ Put (pos 2) ∷ Put (pos 1) ∷ Put (pos 3) ∷ Put (pos 1) ∷ Put (pos 4) ∷ Put (pos 0) ∷ Keep ∷ Put (pos 0) ∷ Keep ∷ Put (pos 0) ∷ Keep ∷ Put (pos 0) ∷ Keep ∷ [])
    ∷ (3, Put (pos 10) ∷ [])
    ∷ (4, Put (pos 20) ∷ [])
    ∷ (5, Put (pos 30) ∷ [])
    ∷ (6, Put (pos 40) ∷ [])
    ∷ (11, Put (pos 1) ∷ Put (pos 5) ∷ Put (pos 1) ∷ Put (pos 6) ∷ Put (pos 1) ∷ Put (pos 7) ∷ Put (pos 1) ∷ Put (pos 8) ∷ Put (pos 0) ∷ Keep ∷ Put (pos 0) ∷ Keep ∷ Put (pos 0) ∷ Keep ∷ Put (pos 0) ∷ Keep ∷ [])
    ∷ (12, Put (pos 50) ∷ [])
    ∷ (13, Put (pos 60) ∷ [])
    ∷ (14, Put (pos 70) ∷ [])
    ∷ (15, Put (pos 80) ∷ [])
    ∷ (20, Put (pos 1) ∷ Put (pos 9) ∷ Put (pos 1) ∷ Put (pos 80) ∷ Put (pos 0) ∷ Keep ∷ Put (pos 0) ∷ Keep ∷ Put (pos 0) ∷ Keep ∷ Put (pos 0) ∷ Keep ∷ Put (pos 0) ∷ Keep ∷ Put (pos 0) ∷ Keep ∷ [])
    ∷ (21, Put (pos 90) ∷ [])
    ∷ (22, Put (pos 800) ∷ []) ∷ []
unfolding int_wrap
repack_says = refl

repack_observes : items_at (put_reading 3 (pos 4) (pos 40)) crowded ≡ Seen 1 ∷ Seen 2 ∷ Seen 11 ∷ Seen 20 ∷ Seen 3 ∷ Seen 4 ∷ Seen 5 ∷ Seen 6 ∷ Seen 7 ∷ Seen 8 ∷ Seen 9 ∷ Seen 10 ∷ Seen 24 ∷ compared 0 0 Lt (pos 12) ∷ []
unfolding int_wrap
repack_observes = refl
