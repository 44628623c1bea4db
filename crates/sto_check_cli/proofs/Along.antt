-- A run updates only parts of objects that one of its calls wrote, and what it leads to stands for what the plain objects hold.
use Rattle.std.proofs.Common.{◌≡◌, ◌⊎◌, ℕ, zero, suc, List, [], ◌∷◌, map, refl, sym, ap, ◌∙◌, subst, Bool, true, false, cond, not, arith, inl, inr}
use Rattle.std.specs.List.{Contains}
use Rattle.std.proofs.lemmas.List.Elements.{Contains-append_cases}
use Rattle.sto_type.specs.Pending.{Entry}
use Rattle.sto_model.specs.PlainReplies.{PlainReply, is_write}
use Rattle.sto_model.specs.SequentialObjects.{reply_to, state_after}
use Rattle.sto_model.specs.Run.{Behaviour, State, MayAsk}
use Rattle.sto_model.specs.Serial.{SerialRun, by_next, ended, heard, run_within}
use Rattle.sto_model.specs.declared.call.Call.{Call}
use Rattle.sto_model.specs.declared.body.Next.{Next}
use Rattle.sto_model.specs.declared.body.Next.TheVariants.{Ask, Commit, Cancel}
use Rattle.sto_model.specs.declared.run.End.TheVariants as E
use Rattle.sto_model.specs.declared.shape.Shape.{Shape}
use Rattle.sto_type.specs.Meaning.{Meaning, IsLawful, IsUpdated, IsPartOfObject, EachOwned, is_empty}
use Rattle.sto_type.specs.Runs.{AreTaken}
use Rattle.sto_checker.specs.Updated.{Updates, with_next, updates_along}
use Rattle.sto_run.specs.Meanings.{updating_by}
use Rattle.sto_checker.specs.Written.{onto_objects, objects_along}

-- Elements.

pub here : {X : Type 0} (x : X) (xs : List X) → Contains (x ∷ xs) x
here x xs = (0, omega arith, refl)

pub there : {X : Type 0} (y x : X) (xs : List X) → Contains xs x → Contains (y ∷ xs) x
there y x xs (k, l, e) = (suc k, omega (arith, l), e)

names_owned : (homes : List (ℕ × ℕ)) (object : ℕ) (es : List Entry) (p : ℕ) → EachOwned homes object es → Contains (map (λ (e : Entry). e.0) es) p → IsPartOfObject homes object p
names_owned homes object [] p o (k, l, e) = absurd (omega (arith, l))
names_owned homes object (x ∷ es) p o (zero, l, e) = subst (IsPartOfObject homes object) e o.0
names_owned homes object (x ∷ es) p o (suc k, l, e) = names_owned homes object es p o.1 (k, omega (arith, l), e)

some_named : (es : List Entry) (p : ℕ) → Contains (map (λ (e : Entry). e.0) es) p → not (is_empty es) ≡ true
some_named [] p (k, l, e) = absurd (omega (arith, l))
some_named (x ∷ es) p h = refl

-- the part is one of an object that is among these
pub record IsOwned (homes : List (ℕ × ℕ)) (objects : List ℕ) (p : ℕ) : Type 0 where
  pub object : ℕ
  pub part : IsPartOfObject homes object p
  pub among : Contains objects object

module _ (means : List Shape → Meaning) (shapes : List Shape) (law : IsLawful (means shapes)) where
  abbrev m : Meaning
  m = means shapes

  -- from some updates to more, with these objects written in between, and then this state
  pub record Ran (old new : Updates) (objects : List ℕ) (st : State) : Type 0 where
    pub valid : m.valid new.contents
    pub rows : m.rows new.contents ≡ st
    pub parts : (p : ℕ) → Contains new.parts p → Contains old.parts p ⊎ IsOwned m.homes objects p

  more_owned : (b : Bool) (object : ℕ) (objects : List ℕ) (p : ℕ) → IsOwned m.homes objects p → IsOwned m.homes (cond b (object ∷ objects) objects) p
  more_owned true object objects p h = record { object = h.object; part = h.part; among = there object h.object objects h.among }
  more_owned false object objects p h = h

  -- one call before others
  asked_first : (call : Call) (st : State) (done : Updates) (rest : List ℕ) (new : Updates) (after : State)
      → m.takes call → m.valid done.contents → m.rows done.contents ≡ st → Ran (with_next (updating_by means) shapes (Ask call) done) new rest after
      → Ran done new (onto_objects (Ask call) (reply_to m.machines call st) rest) after
  asked_first call st done rest new after t v r more =
      let es : List Entry = m.updates call done.contents in
      let up : IsUpdated m call done.contents es = law.updated call done.contents t v in
      let reply : PlainReply = reply_to m.machines call st in
      let wrote : is_write call.operation reply ≡ not (is_empty es) = ap (λ (s : State). is_write call.operation (reply_to m.machines call s)) (sym r) ∙ up.writes in
      record {
        valid = more.valid;
        rows = more.rows;
        parts = λ p k. elim (more.parts p k) [
          | inl x ↦ elim (Contains-append_cases done.parts (map (λ (e : Entry). e.0) es) p x) [
            | inl y ↦ inl y
            | inr y ↦ inr (subst (λ (b : Bool). IsOwned m.homes (cond b (call.object ∷ rest) rest) p) (sym (wrote ∙ some_named es p y))
                (record { object = call.object; part = names_owned m.homes call.object es p up.owned y; among = here call.object rest }))
          ]
          | inr x ↦ inr (more_owned (is_write call.operation reply) call.object rest p x)
        ];
      }

  -- a whole run
  pub ran : (n : ℕ) (f : Behaviour) (st : State) (done : Updates) → m.valid done.contents → m.rows done.contents ≡ st → AreTaken m f (run_within m.machines n f st).replies
      → Ran done (updates_along (updating_by means) shapes f (run_within m.machines n f st).replies done) (objects_along f (run_within m.machines n f st).replies) (run_within m.machines n f st).after
  ran zero f st done v r t = by (f [])
    where
      still : Ran done done [] st
      still = record { valid = v; rows = r; parts = λ p k. inl k }

      by : (z : Next) → Ran done (updates_along (updating_by means) shapes f (by_next z (λ call. ended st E.Commit) (ended st)).replies done)
          (objects_along f (by_next z (λ call. ended st E.Commit) (ended st)).replies) (by_next z (λ call. ended st E.Commit) (ended st)).after
      by (Ask call) = still
      by Commit = still
      by Cancel = still
  ran (suc n) f st done v r t = by (f []) refl t (λ x s d. ran n (λ rs. f (x ∷ rs)) s d)
    where
      still : Ran done done [] st
      still = record { valid = v; rows = r; parts = λ p k. inl k }

      by : (z : Next) → f [] ≡ z → AreTaken m f (by_next z (λ call. heard (reply_to m.machines call st) (run_within m.machines n (λ rs. f (reply_to m.machines call st ∷ rs)) (state_after m.machines call st))) (ended st)).replies
          → ((x : PlainReply) (s : State) (d : Updates) → m.valid d.contents → m.rows d.contents ≡ s → AreTaken m (λ rs. f (x ∷ rs)) (run_within m.machines n (λ rs. f (x ∷ rs)) s).replies
          → Ran d (updates_along (updating_by means) shapes (λ rs. f (x ∷ rs)) (run_within m.machines n (λ rs. f (x ∷ rs)) s).replies d) (objects_along (λ rs. f (x ∷ rs)) (run_within m.machines n (λ rs. f (x ∷ rs)) s).replies) (run_within m.machines n (λ rs. f (x ∷ rs)) s).after)
          → Ran done (updates_along (updating_by means) shapes f (by_next z (λ call. heard (reply_to m.machines call st) (run_within m.machines n (λ rs. f (reply_to m.machines call st ∷ rs)) (state_after m.machines call st))) (ended st)).replies done)
          (objects_along f (by_next z (λ call. heard (reply_to m.machines call st) (run_within m.machines n (λ rs. f (reply_to m.machines call st ∷ rs)) (state_after m.machines call st))) (ended st)).replies)
          (by_next z (λ call. heard (reply_to m.machines call st) (run_within m.machines n (λ rs. f (reply_to m.machines call st ∷ rs)) (state_after m.machines call st))) (ended st)).after
      by (Ask call) e h more =
          let x : PlainReply = reply_to m.machines call st in
          let s : State = state_after m.machines call st in
          let rest : SerialRun = run_within m.machines n (λ rs. f (x ∷ rs)) s in
          let takes : m.takes call = subst (MayAsk m.takes) e h.0 in
          let up : IsUpdated m call done.contents (m.updates call done.contents) = law.updated call done.contents takes v in
          let next : Updates = with_next (updating_by means) shapes (Ask call) done in
          let tail = more x s next up.valid (up.rows ∙ ap (state_after m.machines call) r) h.1 in
          subst (λ (z : Next). Ran done (updates_along (updating_by means) shapes (λ rs. f (x ∷ rs)) rest.replies (with_next (updating_by means) shapes z done)) (onto_objects z x (objects_along (λ rs. f (x ∷ rs)) rest.replies)) rest.after)
          (sym e)
          (asked_first call st done (objects_along (λ rs. f (x ∷ rs)) rest.replies) (updates_along (updating_by means) shapes (λ rs. f (x ∷ rs)) rest.replies next) rest.after takes v r tail)
      by Commit e h more = still
      by Cancel e h more = still
