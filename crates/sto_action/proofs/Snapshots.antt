-- A snapshot gets one object after the other.
use Rattle.std.proofs.Common.{◌≡◌, ◌<◌, ◌+◌, ℕ, ℤ, pos, List, [], ◌∷◌, ◌++◌, map, length, take, set, Result, Ok, Err, refl, sym, ap, ◌∙◌, subst, arith, append-nil, append_assoc, length-append}
use Rattle.std.specs.Prelude.{slice_index_or}
use Rattle.std.proofs.lemmas.List.{map-append, length-map, take_all, take_more_set}
use Rattle.sto_model.specs.Calls.{call_of}
use Rattle.sto_model.specs.declared.operation.Operation.TheVariants.{Get}
use Rattle.sto_action.specs.Calls.{number}
use Rattle.sto_action.specs.Progs.{Prog, Asks, Gives, IsAsked, Follows}
use Rattle.sto_action.specs.Snapshots.{each_got, HasGot}
use Rattle.sto_model.specs.declared.call.Call.{Call}
use Rattle.sto_action.specs.declared.short_reply.ShortReply.{ShortReply}
use Rattle.sto_action.specs.declared.tx.Stop.{Stop}
use Rattle.sto_action.specs.declared.tx.Stop.TheVariants as stops
use Rattle.sto_action.proofs.Following.{asks_on, follows_asked}

-- the first n were got
pub record IsSoFar (n : ℕ) (held : List ℤ) (old new : List ShortReply) : Type 0 where
  pub heard : List ShortReply
  pub first : old ≡ heard ++ new
  pub many : length heard ≡ n
  pub are : take n held ≡ map number heard

pub none_so_far : (held : List ℤ) (old : List ShortReply) → IsSoFar 0 held old old
none_so_far held old = record { heard = []; first = refl; many = refl; are = refl }

-- one more
pub one_more : (E : Type 0) (n : ℕ) (held : List ℤ) (old mid new : List ShortReply) (object : ℕ) (x : ℤ) → n < length held → IsSoFar n held old mid → Follows {E = E} {A = ℤ} (Asks (call_of object Get (pos 0) (pos 0)) (λ h. Gives (number h))) mid new (Ok x)
    → IsSoFar (n + 1) (set held n x) old new
one_more E n held old mid new object x few so f = let asked = follows_asked {E = E} (call_of object Get (pos 0) (pos 0)) number mid new (Ok x) f in record {
  heard = so.heard ++ asked.0 ∷ [];
  first = so.first ∙ ap (λ l. so.heard ++ l) asked.1 ∙ sym (append_assoc so.heard (asked.0 ∷ []) new);
  many = (let a = so.many in let b = length-append so.heard (asked.0 ∷ []) in omega (arith, a, b));
  are = take_more_set held n x few ∙ ap (λ l. l ++ x ∷ []) so.are ∙ ap (λ y. map number so.heard ++ y ∷ []) asked.2 ∙ sym (map-append number so.heard (asked.0 ∷ []));
}

-- all were got
pub all_got : (E : Type 0) (objects : List ℕ) (n : ℕ) (held : List ℤ) (old new : List ShortReply) → length objects ≡ n → length held ≡ n → IsSoFar n held old new → HasGot {E = E} objects old new (Ok held)
all_got E objects n held old new e f so = (so.heard, so.first, so.many ∙ sym e, sym (take_all n held (omega (arith, f))) ∙ so.are)

-- the next one was not answered
pub not_reached : {E : Type 0} (objects : List ℕ) (n : ℕ) (held : List ℤ) (old mid new : List ShortReply) (object : ℕ) (s : Stop E) → n < length objects → slice_index_or objects n 0 ≡ object → IsSoFar n held old mid
    → Follows {E = E} {A = ℤ} (Asks (call_of object Get (pos 0) (pos 0)) (λ h. Gives (number h))) mid new (Err s) → HasGot objects old new (Err s)
not_reached {E} objects n held old mid new object s few is so f =
    let asked = follows_asked {E = E} (call_of object Get (pos 0) (pos 0)) number mid new (Err s) f in
    let reached : length old ≡ n = ap length so.first ∙ ap (λ l. length (so.heard ++ l)) asked.0 ∙ ap length (append-nil so.heard) ∙ so.many in (
      omega (arith, few, reached),
      asked.1 ∙ ap (λ o. stops.Asks (call_of o Get (pos 0) (pos 0))) (sym is ∙ ap (λ i. slice_index_or objects i 0) (sym reached)),
    )

module _ {X E A : Type 0} (get : X → (ℤ → Prog E A) → Prog E A) (object : X → ℕ)
    (asks : (x : X) (then : ℤ → Prog E A) → get x then ≡ Asks (call_of (object x) Get (pos 0) (pos 0)) (λ h. then (number h))) where
  heard_on : (xs : List X) (then : List ℤ → Prog E A) (hs mid new : List ShortReply) (r : Result A (Stop E)) → length hs ≡ length xs → Follows (then (map number hs)) mid new r
      → Follows (each_got get xs then) (hs ++ mid) new r
  heard_on [] then [] mid new r e g = g
  heard_on [] then (h ∷ hs) mid new r e g = absurd (omega (arith, e))
  heard_on (x ∷ xs) then [] mid new r e g = absurd (omega (arith, e))
  heard_on (x ∷ xs) then (h ∷ hs) mid new r e g =
      subst (λ (p : Prog E A). Follows p (h ∷ (hs ++ mid)) new r) (sym (asks x (λ v. each_got get xs (λ vs. then (v ∷ vs)))))
      (asks_on (call_of (object x) Get (pos 0) (pos 0)) (λ h. each_got get xs (λ vs. then (number h ∷ vs))) h (hs ++ mid) new r
      (heard_on xs (λ vs. then (number h ∷ vs)) hs mid new r (omega (arith, e)) g))

  next_asked : (xs : List X) (then : List ℤ → Prog E A) (hs : List ShortReply) → length hs < length (map object xs)
      → IsAsked (each_got get xs then) hs (call_of (slice_index_or (map object xs) (length hs) 0) Get (pos 0) (pos 0))
  next_asked [] then hs few = absurd (omega (arith, few))
  next_asked (x ∷ xs) then [] few =
      subst (λ (p : Prog E A). IsAsked p [] (call_of (object x) Get (pos 0) (pos 0))) (sym (asks x (λ v. each_got get xs (λ vs. then (v ∷ vs))))) refl
  next_asked (x ∷ xs) then (h ∷ hs) few =
      subst (λ (p : Prog E A). IsAsked p (h ∷ hs) (call_of (slice_index_or (map object xs) (length hs) 0) Get (pos 0) (pos 0))) (sym (asks x (λ v. each_got get xs (λ vs. then (v ∷ vs)))))
      (next_asked xs (λ vs. then (number h ∷ vs)) hs (omega (arith, few)))

  -- code that gets these objects goes on with what they hold
  pub got_on : (xs : List X) (then : List ℤ → Prog E A) (old mid new : List ShortReply) (held : List ℤ) (r : Result A (Stop E)) → HasGot {E = E} (map object xs) old mid (Ok held) → Follows (then held) mid new r
      → Follows (each_got get xs then) old new r
  got_on xs then old mid new held r got g =
      subst (λ (l : List ShortReply). Follows (each_got get xs then) l new r) (sym got.1)
      (heard_on xs then got.0 mid new r (got.2 ∙ length-map xs object) (subst (λ (vs : List ℤ). Follows (then vs) mid new r) got.3 g))

  -- or asks the next of them
  pub got_stop : (xs : List X) (then : List ℤ → Prog E A) (old mid new : List ShortReply) (s : Stop E) → HasGot (map object xs) old mid (Err s) → Follows (each_got get xs then) old new (Err s)
  got_stop xs then old mid new s got = subst (λ (y : Stop E). Follows (each_got get xs then) old new (Err y)) (sym got.1) (next_asked xs then old got.0)
