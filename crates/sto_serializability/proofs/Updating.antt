-- What a run updates call by call has every part that its updates write, and leads to the same contents.
use Rattle.std.specs.Prelude.{if◌then◌else◌}
use Rattle.std.specs.List.{list_all}
use Rattle.std.proofs.Common.{◌≡◌, ◌⊎◌, ℕ, List, [], ◌∷◌, ◌++◌, map, refl, sym, ap, ◌∙◌, subst, Bool, true, false, cond, ◌||◌, nat_eq, nat_lt, inl, inr, append_assoc, eqb-true, true≢false}
use Rattle.std.proofs.lemmas.Bool.{cases_Bool}
use Rattle.sto_part.specs.declared.change.Change.{Change}
use Rattle.sto_part.specs.Changes.{composed_all}
use Rattle.sto_item.specs.Pending.{Entry, AreUpdates, is_keep, applied_updates, inserted, with_update, with_updates}
use Rattle.sto_item.specs.Agreement.{HasWidths}
use Rattle.sto_item.proofs.Widths.{HasWidths-below, AreUpdates-with_updates, HasWidths-with_updates, applied_updates-with_updates}
use Rattle.sto_model.specs.PlainReplies.{PlainReply}
use Rattle.sto_model.specs.Run.{Behaviour, MayAsk}
use Rattle.sto_model.specs.declared.call.Call.{Call}
use Rattle.sto_model.specs.declared.body.Next.{Next}
use Rattle.sto_model.specs.declared.body.Next.TheVariants.{Ask, Commit, Cancel}
use Rattle.sto_model.specs.declared.shape.Shape.{Shape}
use Rattle.sto_type.specs.Known.{Parts}
use Rattle.sto_type.specs.Meaning.{Meaning, IsLawful, IsUpdated}
use Rattle.sto_type.specs.Runs.{AreTaken, pending_after, pending_along}
use Rattle.sto_core.specs.History.{writes}
use Rattle.sto_report_spec.specs.Updated.{Updating, Updates, with_next, updates_along}
use Rattle.sto_serializability.specs.Meanings.{updating_by}

-- a part stands in a list
abbrev pub Stood : ℕ → List ℕ → Type 0
Stood p ps = (before after : List ℕ) × (ps ≡ before ++ p ∷ after)

stood_first : (p : ℕ) (xs ys : List ℕ) → Stood p xs → Stood p (xs ++ ys)
stood_first p xs ys h = (h.0, h.1 ++ ys, ap (λ (l : List ℕ). l ++ ys) h.2 ∙ append_assoc h.0 (p ∷ h.1) ys)

stood_second : (p : ℕ) (xs ys : List ℕ) → Stood p ys → Stood p (xs ++ ys)
stood_second p xs ys h = (xs ++ h.0, h.1, ap (λ (l : List ℕ). xs ++ l) h.2 ∙ sym (append_assoc xs h.0 (p ∷ h.1)))

stood_more : (p x : ℕ) (xs : List ℕ) → Stood p xs → Stood p (x ∷ xs)
stood_more p x xs h = (x ∷ h.0, h.1, ap (λ (l : List ℕ). x ∷ l) h.2)

or_cases : (a b : Bool) → a || b ≡ true → (a ≡ true) ⊎ (b ≡ true)
or_cases true b h = inl refl
or_cases false b h = inr h

-- the parts that updates write are those that they name
writes_named : (es : List Entry) (p : ℕ) → writes es p ≡ true → Stood p (map (λ (e : Entry). e.0) es)
writes_named [] p h = absurd (true≢false (sym h))
writes_named (e ∷ es) p h = elim (or_cases (nat_eq e.0 p) (writes es p) h) [
  | inl here ↦ ([], map (λ (x : Entry). x.0) es, ap (λ (n : ℕ). n ∷ map (λ (x : Entry). x.0) es) (eqb-true e.0 p here))
  | inr there ↦ stood_more p e.0 (map (λ (x : Entry). x.0) es) (writes_named es p there)
]

or_left : (a b : Bool) → a ≡ true → a || b ≡ true
or_left true b h = refl
or_left false b h = absurd (true≢false (sym h))

or_right : (a b : Bool) → b ≡ true → a || b ≡ true
or_right true b h = refl
or_right false b h = h

-- one update more
same_part_writes : (e : Entry) (es : List Entry) (q : ℕ) (u : List Change) (p : ℕ) (b : Bool)
    → writes (cond b ((q, composed_all e.1 u) ∷ es) ((q, u) ∷ e ∷ es)) p ≡ true → (writes (e ∷ es) p ≡ true) ⊎ (nat_eq q p ≡ true)
same_part_writes e es q u p true k = elim (or_cases (nat_eq q p) (writes es p) k) [ inl x ↦ inr x | inr x ↦ inl (or_right (nat_eq e.0 p) (writes es p) x) ]
same_part_writes e es q u p false k = elim (or_cases (nat_eq q p) (writes (e ∷ es) p) k) [ inl x ↦ inr x | inr x ↦ inl x ]

earlier_writes : (e : Entry) (es : List Entry) (q : ℕ) (u : List Change) (p : ℕ) (b : Bool)
    → writes (cond b (e ∷ inserted es q u) (cond (nat_eq e.0 q) ((q, composed_all e.1 u) ∷ es) ((q, u) ∷ e ∷ es))) p ≡ true
    → (writes (inserted es q u) p ≡ true → (writes es p ≡ true) ⊎ (nat_eq q p ≡ true))
    → (writes (e ∷ es) p ≡ true) ⊎ (nat_eq q p ≡ true)
earlier_writes e es q u p true k rest = elim (or_cases (nat_eq e.0 p) (writes (inserted es q u) p) k) [
  | inl x ↦ inl (or_left (nat_eq e.0 p) (writes es p) x)
  | inr x ↦ elim (rest x) [ inl y ↦ inl (or_right (nat_eq e.0 p) (writes es p) y) | inr y ↦ inr y ]
]
earlier_writes e es q u p false k rest = same_part_writes e es q u p (nat_eq e.0 q) k

inserted_writes : (es : List Entry) (q : ℕ) (u : List Change) (p : ℕ) → writes (inserted es q u) p ≡ true → (writes es p ≡ true) ⊎ (nat_eq q p ≡ true)
inserted_writes [] q u p h = elim (or_cases (nat_eq q p) false h) [ inl k ↦ inr k | inr k ↦ inl k ]
inserted_writes (e ∷ es) q u p h = earlier_writes e es q u p (nat_lt e.0 q) h (inserted_writes es q u p)

update_writes : (es : List Entry) (q : ℕ) (u : List Change) (p : ℕ) → writes (with_update es q u) p ≡ true → (writes es p ≡ true) ⊎ (nat_eq q p ≡ true)
update_writes es q u p h = by (list_all is_keep u) h
  where
    by : (b : Bool) → writes (cond b es (inserted es q u)) p ≡ true → (writes es p ≡ true) ⊎ (nat_eq q p ≡ true)
    by true k = inl k
    by false k = inserted_writes es q u p k

updates_write : (es us : List Entry) (p : ℕ) → writes (with_updates es us) p ≡ true → (writes es p ≡ true) ⊎ (writes us p ≡ true)
updates_write es [] p h = inl h
updates_write es (u ∷ us) p h = elim (updates_write (with_update es u.0 u.1) us p h) [
  | inl k ↦ elim (update_writes es u.0 u.1 p k) [ inl x ↦ inl x | inr x ↦ inr (or_left (nat_eq u.0 p) (writes us p) x) ]
  | inr k ↦ inr (or_right (nat_eq u.0 p) (writes us p) k)
]

module _ (means : List Shape → Meaning) (shapes : List Shape) (law : IsLawful (means shapes)) (c : Parts) where
  -- pending updates of a run, and what the replay has of them
  record IsPending (es : List Entry) (done : Updates) : Type 0 where
    ordered : AreUpdates es
    widths : HasWidths es c
    valid : (means shapes).valid (applied_updates es c)
    contents : done.contents ≡ applied_updates es c
    parts : (p : ℕ) → writes es p ≡ true → Stood p done.parts

  pending_next : (n : Next) → MayAsk (means shapes).takes n → (es : List Entry) (done : Updates) → IsPending es done
      → IsPending (pending_after (means shapes) c n es) (with_next (updating_by means) shapes n done)
  pending_next Commit t es done h = h
  pending_next Cancel t es done h = h
  pending_next (Ask call) t es done h =
      let now : Parts = applied_updates es c in
      let us : List Entry = (means shapes).updates call now in
      let up : IsUpdated (means shapes) call now us = law.updated call now t h.valid in
      let widths : HasWidths us c = HasWidths-below es us c up.widths in
      let same : applied_updates (with_updates es us) c ≡ applied_updates us now = applied_updates-with_updates es us c h.widths widths h.ordered in
      record {
        ordered = AreUpdates-with_updates es us c h.widths widths h.ordered;
        widths = HasWidths-with_updates es us c h.widths widths;
        valid = subst (means shapes).valid (sym same) up.valid;
        contents = ap (λ (d : Parts). applied_updates ((means shapes).updates call d) d) h.contents ∙ sym same;
        parts = λ p k. elim (updates_write es us p k) [
          | inl x ↦ stood_first p done.parts (map (λ (e : Entry). e.0) ((means shapes).updates call done.contents)) (h.parts p x)
          | inr x ↦ stood_second p done.parts (map (λ (e : Entry). e.0) ((means shapes).updates call done.contents))
              (subst (λ (d : Parts). Stood p (map (λ (e : Entry). e.0) ((means shapes).updates call d))) (sym h.contents) (writes_named us p x))
        ];
      }

  pending_runs : (f : Behaviour) (rs : List PlainReply) → AreTaken (means shapes) f rs → (es : List Entry) (done : Updates) → IsPending es done
      → IsPending (pending_along (means shapes) f c es rs) (updates_along (updating_by means) shapes f rs done)
  pending_runs f [] t es done h = h
  pending_runs f (r ∷ rs) t es done h =
      pending_runs (λ xs. f (r ∷ xs)) rs t.1 (pending_after (means shapes) c (f []) es) (with_next (updating_by means) shapes (f []) done)
      (pending_next (f []) t.0 es done h)

  -- a whole run
  pub record Updated (f : Behaviour) (rs : List PlainReply) : Type 0 where
    pub contents : (updates_along (updating_by means) shapes f rs (record { parts = []; contents = c })).contents ≡ applied_updates (pending_along (means shapes) f c [] rs) c
    pub parts : (p : ℕ) → writes (pending_along (means shapes) f c [] rs) p ≡ true → Stood p (updates_along (updating_by means) shapes f rs (record { parts = []; contents = c })).parts

  pub run_updates : (f : Behaviour) (rs : List PlainReply) → AreTaken (means shapes) f rs → (means shapes).valid c → Updated f rs
  run_updates f rs t v =
      let all = pending_runs f rs t [] (record { parts = []; contents = c }) (record {
        ordered = (tt, tt);
        widths = tt;
        valid = v;
        contents = refl;
        parts = λ p k. absurd (true≢false (sym k));
      }) in
      record { contents = all.contents; parts = all.parts }
