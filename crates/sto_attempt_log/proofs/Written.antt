-- There are pending updates exactly where a call has written.
use Rattle.std.proofs.Common.{◌≡◌, ℕ, true, false, Bool, not, ◌||◌, nat_eq, nat_lt, List, [], ◌∷◌, ◌++◌, refl, ap, sym, ◌∙◌, inl, inr}
use Rattle.std.specs.List.{list_all}
use Rattle.std.proofs.lemmas.Bool.{cases_Bool}
use Rattle.sto_part.specs.declared.change.Change.{Change}
use Rattle.sto_item.specs.Pending.{Entry, EachChanges, inserted, with_update, with_updates, is_keep}
use Rattle.sto_model.specs.PlainReplies.{PlainReply}
use Rattle.sto_model.specs.Run.{Behaviour}
use Rattle.sto_model.specs.Serial.{is_written, has_written}
use Rattle.sto_type.specs.Meaning.{is_empty}
use Rattle.sto_attempt_log.specs.Every.{AllOf}

or_assoc : (a b c : Bool) → (a || (b || c)) ≡ ((a || b) || c)
or_assoc true b c = refl
or_assoc false b c = refl

or_false : (a : Bool) → (a || false) ≡ a
or_false true = refl
or_false false = refl

pub written_more : (f : Behaviour) (rs : List PlainReply) (r : PlainReply) → has_written f (rs ++ r ∷ []) ≡ (has_written f rs || is_written (f rs) r)
written_more f [] r = or_false (is_written (f []) r)
written_more f (x ∷ rs) r =
    ap (λ b. is_written (f []) x || b) (written_more (λ xs. f (x ∷ xs)) rs r)
    ∙ or_assoc (is_written (f []) x) (has_written (λ xs. f (x ∷ xs)) rs) (is_written (f (x ∷ rs)) r)

-- an update put among others leaves some
inserted_some : (es : List Entry) (p : ℕ) (u : List Change) → is_empty (inserted es p u) ≡ false
inserted_some [] p u = refl
inserted_some (e ∷ es) p u = elim (cases_Bool (nat_lt e.0 p)) [
  | inl below ↦ rw below refl
  | inr above ↦ elim (cases_Bool (nat_eq e.0 p)) [
    | inl same ↦ rw (above, same) refl
    | inr other ↦ rw (above, other) refl
  ]
]

with_update_some : (es : List Entry) (p : ℕ) (u : List Change) → is_empty es ≡ false → is_empty (with_update es p u) ≡ false
with_update_some es p u h = elim (cases_Bool (list_all is_keep u)) [
  | inl kept ↦ rw kept h
  | inr changes ↦ rw changes (inserted_some es p u)
]

with_some : (es us : List Entry) → is_empty es ≡ false → is_empty (with_updates es us) ≡ false
with_some es [] h = h
with_some es (u ∷ us) h = with_some (with_update es u.0 u.1) us (with_update_some es u.0 u.1 h)

pub empty_with : (es us : List Entry) → EachChanges us → not (is_empty (with_updates es us)) ≡ (not (is_empty es) || not (is_empty us))
empty_with es [] c = sym (or_false (not (is_empty es)))
empty_with es (u ∷ us) c =
    let changed : with_update es u.0 u.1 ≡ inserted es u.0 u.1 = rw c.0 refl in
    let some : is_empty (with_updates (with_update es u.0 u.1) us) ≡ false = with_some (with_update es u.0 u.1) us (ap is_empty changed ∙ inserted_some es u.0 u.1) in
    ap not some ∙ sym (or_true (not (is_empty es)))
  where
    or_true : (a : Bool) → (a || true) ≡ true
    or_true true = refl
    or_true false = refl

-- the parts of the updates are those of the one or of the other
inserted_parts : (P : ℕ → Type 0) (es : List Entry) (p : ℕ) (u : List Change) → AllOf (λ (e : Entry). P e.0) es → P p → AllOf (λ (e : Entry). P e.0) (inserted es p u)
inserted_parts P [] p u a h = (h, tt)
inserted_parts P (e ∷ es) p u a h = elim (cases_Bool (nat_lt e.0 p)) [
  | inl below ↦ rw below (a.0, inserted_parts P es p u a.1 h)
  | inr above ↦ elim (cases_Bool (nat_eq e.0 p)) [
    | inl same ↦ rw (above, same) (h, a.1)
    | inr other ↦ rw (above, other) (h, a)
  ]
]

with_update_parts : (P : ℕ → Type 0) (es : List Entry) (p : ℕ) (u : List Change) → AllOf (λ (e : Entry). P e.0) es → P p → AllOf (λ (e : Entry). P e.0) (with_update es p u)
with_update_parts P es p u a h = elim (cases_Bool (list_all is_keep u)) [
  | inl kept ↦ rw kept a
  | inr changes ↦ rw changes (inserted_parts P es p u a h)
]

pub with_parts : (P : ℕ → Type 0) (es us : List Entry) → AllOf (λ (e : Entry). P e.0) es → AllOf (λ (e : Entry). P e.0) us → AllOf (λ (e : Entry). P e.0) (with_updates es us)
with_parts P es [] a b = a
with_parts P es (u ∷ us) a b = with_parts P (with_update es u.0 u.1) us (with_update_parts P es u.0 u.1 a b.0) b.1
