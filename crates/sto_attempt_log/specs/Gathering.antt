-- The lists that a commit is led by, as they are gathered from items and updates.
use Rattle.sto_core.specs.Lists.{Each}
use Rattle.std.specs.Prelude.{◌≡◌, ◌<◌, length, map, ℕ, suc, Bool, true, false, if◌then◌else◌, Option, Some, None, List, [], ◌∷◌, ◌++◌, slice_index_or}
use Rattle.std.specs.List.{list_any}
use Rattle.sto_part.specs.Listed.{Listed}
use Rattle.sto_part.specs.declared.change.Change.{Change}
use Rattle.sto_part.specs.declared.change.Change.TheVariants.{Keep, Put, Add}
use Rattle.sto_item.specs.declared.item.Item.{Item}
use Rattle.sto_item.specs.declared.item.Item.TheVariants.{Seen, Holds}
use Rattle.sto_item.specs.Pending.{Entry as Update, plain, is_keep}
use Rattle.sto_item.specs.Places.{with_part}
use Rattle.sto_attempt_log.specs.CommitPhases.{is_of_part, is_same_part}

-- part numbers with one more, if there is one
abbrev pub with_maybe : List ℕ → Option ℕ → List ℕ
with_maybe ps None = ps
with_maybe ps (Some p) = with_part ps p

-- part numbers with those that f gives of a list, each once, in rising order
abbrev pub gathered : {A : Type 0} → (A → Option ℕ) → List ℕ → List A → List ℕ
gathered f ps [] = ps
gathered f ps (x ∷ xs) = gathered f (with_maybe ps (f x)) xs

-- the part that an item sees
abbrev pub seen_part : Item → Option ℕ
seen_part (Seen p) = Some p
seen_part (Holds q) = None

-- the part, if it is none of these
abbrev pub not_in : List ℕ → ℕ → Option ℕ
not_in ps p = if list_any (is_same_part p) ps then None else Some p

-- the part of a predicate, if it is none of these
abbrev pub other_part : List ℕ → Item → Option ℕ
other_part ps (Seen p) = None
other_part ps (Holds q) = not_in ps q.part

-- whether a change adds
abbrev pub is_add : Change → Bool
is_add Keep = false
is_add (Put x) = false
is_add (Add x) = true

-- the part of an update that adds
abbrev pub adding_part : ℕ × Listed Change → Option ℕ
adding_part u = if list_any is_add u.1.items then Some u.0 else None

-- the part, if no update is of it
abbrev pub unwritten_part : List (ℕ × Listed Change) → ℕ → Option ℕ
unwritten_part us p = if list_any (is_of_part p) us then None else Some p

-- the words that changes of a part change, from word i on
abbrev pub places_at : ℕ → ℕ → List Change → List (ℕ × ℕ)
places_at p i [] = []
places_at p i (c ∷ cs) = if is_keep c then places_at p (suc i) cs else (p, i) ∷ places_at p (suc i) cs

-- the words that updates change
abbrev pub places_in : List (ℕ × Listed Change) → List (ℕ × ℕ)
places_in [] = []
places_in (u ∷ us) = places_at u.0 0 u.1.items ++ places_in us

-- the lists of a commit are gathered from the items and the updates
pub record AreGathered (items : List Item) (us : List Update) (seen loaded tasks checks : List ℕ) (places : List (ℕ × ℕ)) : Type 0 where
  pub xs : List (ℕ × Listed Change)
  pub updates : map plain xs ≡ us
  pub seen_are : seen ≡ gathered seen_part [] items
  pub loaded_are : loaded ≡ gathered (other_part seen) [] items
  pub tasks_are : tasks ≡ gathered adding_part loaded xs
  pub checks_are : checks ≡ gathered (unwritten_part xs) seen loaded
  pub places_are : places ≡ places_in xs

-- each part is one of these widths
abbrev pub InRange : List ℕ → List ℕ → Type 0
InRange widths ps = Each (λ (p : ℕ). (p < length widths) × (0 < slice_index_or widths p 0)) ps
