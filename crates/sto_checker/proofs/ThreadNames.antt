-- Threads by their names.
use Rattle.std.proofs.Common.{◌≡◌, ℕ, ◌+◌, List, [], ◌∷◌, length, map, refl, sym, ap, ◌∙◌, Bool, cond, not, nat_lt, Option, None, Some, position}
use Rattle.std.specs.List.{position_or_len}
use Rattle.std.specs.Str.{bytes_eq}
use Rattle.std.proofs.lemmas.List.{length-map}
use Rattle.sto_lang.specs.declared.file.Thread.{Thread}
use Rattle.sto_lang.specs.Views.{names_of}

place_or_len : (threads : List Thread) (name : List ℕ) → position_or_len (bytes_eq name) (names_of threads) ≡ position_or_len (λ (t : Thread). bytes_eq name t.name.items) threads
place_or_len [] name = refl
place_or_len (t ∷ threads) name = ap (λ (n : ℕ). cond (not (bytes_eq name t.name.items)) (1 + n) 0) (place_or_len threads name)

pub position_named : (threads : List Thread) (name : List ℕ) → position (bytes_eq name) (names_of threads) ≡ position (λ (t : Thread). bytes_eq name t.name.items) threads
position_named threads name =
    ap (λ (k : ℕ). cond (nat_lt k (length (names_of threads))) (Some k) None) (place_or_len threads name)
    ∙ ap (λ (k : ℕ). cond (nat_lt (position_or_len (λ (t : Thread). bytes_eq name t.name.items) threads) k) (Some (position_or_len (λ (t : Thread). bytes_eq name t.name.items) threads)) None) (length-map threads (λ (t : Thread). t.name.items))
