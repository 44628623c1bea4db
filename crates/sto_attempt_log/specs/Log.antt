-- What an attempt has found out, with no word of views: parts that it has read, items, pending updates, replies, and the cache that its type plans on.
use Rattle.std.specs.Prelude.{◌≡◌, ◌⊎◌, ◌<◌, ◌+◌, ◌^◌, ℕ, ℤ, true, not, None, List, ◌++◌, length, map, IsSome, slice_index_or, false}
use Rattle.sto_item.specs.declared.item.Item.{Item}
use Rattle.sto_item.specs.declared.item.Item.TheVariants.{Seen, Holds}
use Rattle.sto_item.specs.Pending.{Entry, AreUpdates, changes_of, applied_updates}
use Rattle.sto_item.specs.Observed.{part_of_item}
use Rattle.sto_item.specs.Rebase.{overwrites}
use Rattle.sto_model.specs.declared.call.Call.{Call}
use Rattle.sto_model.specs.declared.body.Next.{Next}
use Rattle.sto_model.specs.PlainReplies.{PlainReply, plain_reply}
use Rattle.sto_model.specs.Run.{Behaviour}
use Rattle.sto_model.specs.Serial.{has_written}
use Rattle.sto_type.specs.Known.{Parts, Known, known, IsPartOf}
use Rattle.sto_type.specs.Meaning.{Meaning, is_empty}
use Rattle.sto_type.specs.Runs.{IsCarried}
use Rattle.sto_attempt_log.specs.Every.{AllOf}
use Rattle.sto_type.specs.Touching.{NextTouches, HasTouched}
use Rattle.sto_attempt_log.specs.ReadSet.{words_in}
use Rattle.sto_attempt_log.specs.declared.read_entry.ReadEntry.{ReadEntry}
use Rattle.sto_part.specs.Listed.{Listed}
use Rattle.sto_part.specs.Parts.{part_of}
use Rattle.sto_item.specs.Recorded.{Recorded}
use Rattle.sto_item.specs.Agreement.{HasWidths}
use Rattle.sto_model.specs.declared.reply.Reply.{Reply}

-- the item is of a part that was read
abbrev pub IsRead : Known → Item → Type 0
IsRead base i = IsSome (base (part_of_item i))

-- a predicate names a word of its part
abbrev pub IsInside : List ℕ → Item → Type 0
IsInside widths (Seen p) = Unit {0}
IsInside widths (Holds p) = p.word < slice_index_or widths p.part 0

-- the items and updates carry the replies; each item names a word of a part that was read; the calls may touch the parts of items and updates;
-- there are updates exactly where a call has written
pub record IsLog (m : Meaning) (f : Behaviour) (base : Known) (items : List Item) (es : List Entry) (rs : List PlainReply) : Type 0 where
  pub carried : IsCarried m f base items es rs
  pub read : AllOf (IsRead base) items
  pub inside : AllOf (IsInside m.widths) items
  pub touched_items : AllOf (λ (i : Item). HasTouched m f rs (part_of_item i)) items
  pub touched_updates : AllOf (λ (e : Entry). HasTouched m f rs e.0) es
  pub written : has_written f rs ≡ not (is_empty es)

-- what is known with the pending updates applied: of all contents that what was read is part of, and of no other part than those read and those that the updates put whole, and of none past the last
pub record IsCache (m : Meaning) (base : Known) (es : List Entry) (k : Known) : Type 0 where
  pub above : (d : Parts) → m.valid d → IsPartOf base d → IsPartOf k (applied_updates es d)
  pub from : (p : ℕ) → IsSome (k p) → IsSome (base p) ⊎ (overwrites (changes_of es p) ≡ true)
  pub inside : (p : ℕ) → IsSome (k p) → p < length m.widths

-- the pending updates are in order, and fit all valid contents that what was read is part of; there are such contents
pub record IsPending (m : Meaning) (base : Known) (es : List Entry) : Type 0 where
  pub ordered : AreUpdates es
  pub fits : (d : Parts) → m.valid d → IsPartOf base d → HasWidths es d × m.valid (applied_updates es d)
  pub some : (d : Parts) × m.valid d × IsPartOf base d

-- the words are those of the part, with the pending updates applied, in all valid contents that what was read is part of
pub record IsRecalled (m : Meaning) (base : Known) (es : List Entry) (p : ℕ) (ws : List ℤ) : Type 0 where
  pub above : (d : Parts) → m.valid d → IsPartOf base d → part_of (applied_updates es d) p ≡ ws
  pub from : IsSome (base p) ⊎ (overwrites (changes_of es p) ≡ true)
  pub inside : p < length m.widths

-- all that is kept between two events: f is the script of the body, which waits where the replies have led it
pub record IsOnLog (m : Meaning) (next : List PlainReply → Next) (f : Behaviour) (left : ℕ) (may : Call → Type 0) (base : List ReadEntry) (set : Recorded) (cache : List (ℕ × List ℤ)) (replies : List Reply) : Type 0 where
  pub then : (xs : List PlainReply) → next xs ≡ f (map plain_reply replies ++ xs)
  pub taken : (call : Call) → may call → m.takes call
  pub few : length replies + left < 2 ^ 32
  pub log : IsLog m f (words_in base) set.items set.updates (map plain_reply replies)
  pub known_above : IsCache m (words_in base) set.updates (known cache)

-- the part is needed by the call that is next, was not read, and is not put whole by the pending updates
pub record IsNeeded (m : Meaning) (next : Next) (base : Known) (es : List Entry) (p : ℕ) : Type 0 where
  pub unread : base p ≡ None
  pub unput : overwrites (changes_of es p) ≡ false
  pub by_next : NextTouches m next p

-- the part was not read, and the pending updates do not put it whole
abbrev pub IsUnknown : Listed ReadEntry → Recorded → ℕ → Type 0
IsUnknown base set p = (words_in base.items p ≡ None) × (overwrites (changes_of set.updates p) ≡ false)

-- the same of the parts read and the set of an attempt
module _ (m : Meaning) (base : Listed ReadEntry) (set : Recorded) where
  abbrev pub ArePending : Type 0
  ArePending = IsPending m (words_in base.items) set.updates

  abbrev pub Knows : List (ℕ × List ℤ) → Type 0
  Knows cache = IsCache m (words_in base.items) set.updates (known cache)
