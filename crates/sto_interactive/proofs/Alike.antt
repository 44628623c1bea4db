-- What is carried depends on what the script does before its replies, and on nothing else of it.
use Rattle.std.proofs.Common.{◌≡◌, ℕ, List, [], ◌∷◌, refl, ap, sym, ◌∙◌, subst, inl, inr}
use Rattle.sto_item.specs.Pending.{Entry}
use Rattle.sto_item.specs.declared.item.Item.{Item}
use Rattle.sto_item.specs.Observed.{part_of_item}
use Rattle.sto_model.specs.PlainReplies.{PlainReply}
use Rattle.sto_model.specs.SequentialObjects.{SequentialObject}
use Rattle.sto_model.specs.Serial.{has_written}
use Rattle.sto_model.specs.Run.{Behaviour, State, IsRun, IsReplyTo, stepped, state_along, MayAsk}
use Rattle.sto_model.specs.declared.body.Next.{Next}
use Rattle.sto_type.specs.Known.{Parts, Known}
use Rattle.sto_type.specs.Meaning.{Meaning}
use Rattle.sto_type.specs.Runs.{pending_after, pending_along, contents_after, contents_along, AreTaken, IsRunOn, IsCarried}
use Rattle.sto_type.specs.Touching.{NextTouches, HasTouched}
use Rattle.sto_attempt_log.specs.Log.{IsLog}
use Rattle.sto_attempt_log.proofs.Every.{all_map}

-- they do the same before each of the replies
abbrev pub AreAlike : Behaviour → Behaviour → List PlainReply → Type 0
AreAlike f g [] = Unit {0}
AreAlike f g (r ∷ rs) = (f [] ≡ g []) × AreAlike (λ xs. f (r ∷ xs)) (λ xs. g (r ∷ xs)) rs

-- runs
pub run_alike : (ms : List SequentialObject) (f g : Behaviour) (st : State) (rs : List PlainReply) → AreAlike f g rs → IsRun ms f st rs → IsRun ms g st rs
run_alike ms f g st [] a h = tt
run_alike ms f g st (r ∷ rs) a h = (
  subst (λ (n : Next). IsReplyTo ms n st r) a.0 h.0,
  run_alike ms (λ xs. f (r ∷ xs)) (λ xs. g (r ∷ xs)) (stepped ms (g []) st) rs a.1 (subst (λ (n : Next). IsRun ms (λ xs. f (r ∷ xs)) (stepped ms n st) rs) a.0 h.1),
)

pub state_alike : (ms : List SequentialObject) (f g : Behaviour) (st : State) (rs : List PlainReply) → AreAlike f g rs → state_along ms f st rs ≡ state_along ms g st rs
state_alike ms f g st [] a = refl
state_alike ms f g st (r ∷ rs) a =
    ap (λ (n : Next). state_along ms (λ xs. f (r ∷ xs)) (stepped ms n st) rs) a.0
    ∙ state_alike ms (λ xs. f (r ∷ xs)) (λ xs. g (r ∷ xs)) (stepped ms (g []) st) rs a.1

pub pending_alike : (m : Meaning) (f g : Behaviour) (c : Parts) (es : List Entry) (rs : List PlainReply) → AreAlike f g rs → pending_along m f c es rs ≡ pending_along m g c es rs
pending_alike m f g c es [] a = refl
pending_alike m f g c es (r ∷ rs) a =
    ap (λ (n : Next). pending_along m (λ xs. f (r ∷ xs)) c (pending_after m c n es) rs) a.0
    ∙ pending_alike m (λ xs. f (r ∷ xs)) (λ xs. g (r ∷ xs)) c (pending_after m c (g []) es) rs a.1

pub contents_alike : (m : Meaning) (f g : Behaviour) (c : Parts) (rs : List PlainReply) → AreAlike f g rs → contents_along m f c rs ≡ contents_along m g c rs
contents_alike m f g c [] a = refl
contents_alike m f g c (r ∷ rs) a =
    ap (λ (n : Next). contents_along m (λ xs. f (r ∷ xs)) (contents_after m n c) rs) a.0
    ∙ contents_alike m (λ xs. f (r ∷ xs)) (λ xs. g (r ∷ xs)) (contents_after m (g []) c) rs a.1

pub taken_alike : (m : Meaning) (f g : Behaviour) (rs : List PlainReply) → AreAlike f g rs → AreTaken m f rs → AreTaken m g rs
taken_alike m f g [] a h = tt
taken_alike m f g (r ∷ rs) a h = (subst (λ (n : Next). MayAsk m.takes n) a.0 h.0, taken_alike m (λ xs. f (r ∷ xs)) (λ xs. g (r ∷ xs)) rs a.1 h.1)

pub written_alike : (f g : Behaviour) (rs : List PlainReply) → AreAlike f g rs → has_written f rs ≡ has_written g rs
written_alike f g [] a = refl
written_alike f g (r ∷ rs) a = rw a.0 (rw (written_alike (λ xs. f (r ∷ xs)) (λ xs. g (r ∷ xs)) rs a.1) refl)

-- what the first script does after the replies asks nothing, or the second does the same
abbrev pub NoFurther : Meaning → Next → Next → Type 0
NoFurther m n k = (p : ℕ) → NextTouches m n p → NextTouches m k p

pub touched_alike : (m : Meaning) (f g : Behaviour) (rs : List PlainReply) (p : ℕ) → AreAlike f g rs → NoFurther m (f rs) (g rs) → HasTouched m f rs p → HasTouched m g rs p
touched_alike m f g [] p a n h = n p h
touched_alike m f g (r ∷ rs) p a n h = elim h [
  | inl here ↦ inl (subst (λ (k : Next). NextTouches m k p) a.0 here)
  | inr later ↦ inr (touched_alike m (λ xs. f (r ∷ xs)) (λ xs. g (r ∷ xs)) rs p a.1 n later)
]

pub run_on_alike : (m : Meaning) (f g : Behaviour) (c : Parts) (es : List Entry) (rs : List PlainReply) → AreAlike f g rs → IsRunOn m f c es rs → IsRunOn m g c es rs
run_on_alike m f g c es rs a on =
    record {
      ordered = on.ordered;
      widths = on.widths;
      valid = on.valid;
      run = run_alike m.machines f g (m.rows c) rs a on.run;
      state = on.state ∙ state_alike m.machines f g (m.rows c) rs a;
      pending = on.pending ∙ pending_alike m f g c [] rs a;
      contents = on.contents ∙ contents_alike m f g c rs a;
      taken = taken_alike m f g rs a on.taken;
    }

-- The key lemma: what carries the replies of one script carries those of each that is alike up to them.
pub IsCarried-alike : (m : Meaning) (f g : Behaviour) (base : Known) (items : List Item) (es : List Entry) (rs : List PlainReply) → AreAlike f g rs → IsCarried m f base items es rs → IsCarried m g base items es rs
IsCarried-alike m f g base items es rs a k = record { holds = k.holds; runs = λ d e v p w s. run_on_alike m f g e es rs a (k.runs d e v p w s) }

pub IsLog-alike : (m : Meaning) (f g : Behaviour) (base : Known) (items : List Item) (es : List Entry) (rs : List PlainReply) → AreAlike f g rs → NoFurther m (f rs) (g rs) → IsLog m f base items es rs → IsLog m g base items es rs
IsLog-alike m f g base items es rs a n k =
    record {
      carried = IsCarried-alike m f g base items es rs a k.carried;
      read = k.read;
      inside = k.inside;
      touched_items = all_map _ _ (λ (i : Item) h. touched_alike m f g rs (part_of_item i) a n h) items k.touched_items;
      touched_updates = all_map _ _ (λ (e : Entry) h. touched_alike m f g rs e.0 a n h) es k.touched_updates;
      written = sym (written_alike f g rs a) ∙ k.written;
    }
