-- What many objects hold at one time.
use Rattle.std.specs.Prelude.{◌≡◌, ◌<◌, ℕ, ℤ, pos, List, [], ◌∷◌, ◌++◌, map, length, slice_index_or, Result, Ok, Err}
use Rattle.sto_model.specs.Calls.{call_of}
use Rattle.sto_model.specs.declared.operation.Operation.TheVariants.{Get}
use Rattle.sto_action.specs.Calls.{number}
use Rattle.sto_action.specs.Progs.{Prog, Gives}
use Rattle.sto_action.specs.Steps.{box_get, counter_get}
use Rattle.sto_action.specs.declared.handles.BoxId.{BoxId}
use Rattle.sto_action.specs.declared.handles.CounterId.{CounterId}
use Rattle.sto_action.specs.declared.short_reply.ShortReply.{ShortReply}
use Rattle.sto_action.specs.declared.snapshot.SnapshotValues.{SnapshotValues}
use Rattle.sto_action.specs.declared.tx.Stop.{Stop}
use Rattle.sto_action.specs.declared.tx.Stop.TheVariants.{Asks}

-- it gets these objects, one after the other
abbrev pub each_got : {X E A : Type 0} → (X → (ℤ → Prog E A) → Prog E A) → List X → (List ℤ → Prog E A) → Prog E A
each_got get [] then = then []
each_got get (x ∷ xs) then = get x (λ v. each_got get xs (λ vs. then (v ∷ vs)))

-- it gives what boxes and counters hold
abbrev pub snapshot : {E : Type 0} {b c : ℕ} → List BoxId → List CounterId → Prog E (SnapshotValues b c)
snapshot boxes counters =
    each_got box_get boxes (λ xs. each_got counter_get counters (λ ys. Gives (record { boxes = xs; counters = ys })))

-- the objects with these numbers were got, by the first of what is heard; or that does not reach, and the code asks the next of them
abbrev pub HasGot : {E : Type 0} → List ℕ → (old new : List ShortReply) → Result (List ℤ) (Stop E) → Type 0
HasGot objects old new (Ok xs) = (hs : List ShortReply) × (old ≡ hs ++ new) × (length hs ≡ length objects) × (xs ≡ map number hs)
HasGot objects old new (Err stop) = (length old < length objects) × (stop ≡ Asks (call_of (slice_index_or objects (length old) 0) Get (pos 0) (pos 0)))
