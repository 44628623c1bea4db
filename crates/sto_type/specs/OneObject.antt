-- A type of one object, by its tellings.
use Rattle.std.specs.Prelude.{◌≡◌, ◌<◌, ℕ, zero, suc, List, [], ◌∷◌, map, length}
use Rattle.sto_model.specs.declared.call.Call.{Call}
use Rattle.sto_model.specs.declared.operation.Operation.{Operation}
use Rattle.sto_model.specs.Rows.{Row}
use Rattle.sto_model.specs.SequentialObjects.{SequentialObject}
use Rattle.sto_item.specs.Agreement.{Agrees, AreTrueOf}
use Rattle.sto_model.specs.SequentialObjects.{reply_to}
use Rattle.sto_type.specs.Known.{Parts, ContentsFit}
use Rattle.sto_type.specs.Meaning.{Meaning, IsUpdated, EachInside}
use Rattle.sto_type.specs.Reading.{need_of, items_of, items_at, updates_at, IsRead}
use Rattle.sto_type.specs.Observing.{EachRead}
use Rattle.sto_type.specs.Telling.{Telling, reading_of, told_at}

-- each of n parts is of the one object
abbrev pub homes_from : ℕ → ℕ → List (ℕ × ℕ)
homes_from i zero = []
homes_from i (suc n) = (0, i) ∷ homes_from (suc i) n

abbrev pub meaning_of : SequentialObject → List ℕ → Parts → (Parts → Type 0) → (Parts → List Row) → (Call → Type 0) → (Call → Telling) → Meaning
meaning_of machine widths opened valid rows takes telling = record {
  machines = machine ∷ [];
  widths = widths;
  homes = homes_from 0 (length widths);
  opened = opened;
  valid = valid;
  rows = λ c. rows c ∷ [];
  takes = takes;
  need = λ call k. need_of (reading_of (telling call)) k;
  items = λ call k. items_of (reading_of (telling call)) k;
  updates = λ call c. updates_at (reading_of (telling call)) c;
}

-- the law of one call on valid contents
pub record IsTold (m : Meaning) (call : Call) (r : Telling) (c : Parts) : Type 0 where
  -- the parts that are read are the type's, the items are of these, and their predicates are of words that are there
  pub within : (q : ℕ) → IsRead (reading_of r) c q → q < length m.widths
  pub observed : EachRead (reading_of r) c (items_at (reading_of r) c)
  pub inside : EachInside m.widths (items_at (reading_of r) c)
  -- the items are true, and what agrees with them is told the same and updated the same
  pub holds : AreTrueOf c (items_at (reading_of r) c)
  pub same_told : (e : Parts) → m.valid e → Agrees e (items_at (reading_of r) c) c → told_at r e ≡ told_at r c
  pub same_updates : (e : Parts) → m.valid e → Agrees e (items_at (reading_of r) c) c → updates_at (reading_of r) e ≡ updates_at (reading_of r) c
  -- what is told is the model's reply, and the updates do what the model says
  pub tells : told_at r c ≡ reply_to m.machines call (m.rows c)
  pub updated : IsUpdated m call c (updates_at (reading_of r) c)

-- a call of this operation of the one object, with the numbers of another
abbrev pub asked_as : Operation → Call → Call
asked_as operation call = record call { object = 0; operation = operation }

-- a type of one object whose calls are lawful
pub record IsType (m : Meaning) (telling : Call → Telling) : Type 0 where
  pub opening : m.valid m.opened
  pub widths : (c : Parts) → m.valid c → map length c ≡ m.widths
  pub fits : (c : Parts) → m.valid c → ContentsFit c
  pub object : (call : Call) → m.takes call → call.object ≡ 0
  pub calls : (call : Call) (c : Parts) → m.takes call → m.valid c → IsTold m call (telling call) c
