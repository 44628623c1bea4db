-- A call that is taken and needs nothing that is not known is answered: nothing of what an attempt does next is left open.
use Rattle.std.specs.Prelude.{Option, Some, None}
use Rattle.std.specs.List.{Contains}
use Rattle.std.proofs.Common.{◌≡◌, ◌<◌, ◌⊎◌, ℕ, ℤ, pos, true, false, List, [], ◌∷◌, ◌++◌, length, replicate, slice_index_or, IsSome, refl, ap, sym, ◌∙◌, subst, arith, inl, inr, ◌+◌, zero, suc, negsuc, length-append}
use Rattle.std.proofs.lemmas.List.{length-map, length-replicate}
use Rattle.std.proofs.lemmas.Bool.{cases_Bool, cases_eq}
use Rattle.sto_part.specs.Changes.{applied_all}
use Rattle.sto_part.specs.declared.pred.Pred.{Pred}
use Rattle.sto_part.specs.declared.pred.Test.{Test}
use Rattle.sto_part.specs.declared.pred.Test.TheVariants.{Eq, Ne, Lt, Le, Gt, Ge}
use Rattle.sto_item.specs.declared.item.Item.{Item}
use Rattle.sto_item.specs.declared.item.Item.TheVariants.{Seen, Holds}
use Rattle.sto_item.specs.Pending.{Entry as Update, changes_of, applied_updates, with_updates}
use Rattle.sto_item.specs.Rebase.{overwrites, rebased}
use Rattle.sto_item.specs.Recorded.{Recorded, AddsItems}
use Rattle.sto_item.specs.Agreement.{Agrees, AreTrueOf, HasWidths}
use Rattle.sto_item.proofs.Widths.{length-applied_updates, HasWidths-below, HasWidths-with_updates, AreUpdates-with_updates, applied_updates-with_updates}
use Rattle.sto_model.specs.declared.call.Call.{Call}
use Rattle.sto_model.specs.declared.body.Next.TheVariants.{Ask, Commit, Cancel}
use Rattle.sto_model.specs.declared.body.Next.{Next}
use Rattle.sto_model.specs.PlainReplies.{PlainReply}
use Rattle.sto_model.specs.SequentialObjects.{reply_to}
use Rattle.sto_model.specs.Run.{Behaviour, IsAsk, MayAsk}
use Rattle.sto_type.specs.Known.{Parts, Known, IsPartOf}
use Rattle.sto_type.specs.Meaning.{Meaning, IsLawful, IsReady, IsUpdated, EachKnown}
use Rattle.sto_attempt_log.specs.declared.log.Reached.{Reached}
use Rattle.sto_attempt_log.specs.declared.log.Reached.TheVariants.{Needs, Commits, Cancels}
use Rattle.sto_attempt_log.specs.declared.read_entry.ReadEntry.{ReadEntry}
use Rattle.sto_attempt_log.specs.ReadSet.{words_in}
use Rattle.sto_attempt_log.specs.Log.{IsPending, IsRecalled, IsCache}
use Rattle.sto_attempt_log.proofs.Recalling.{recalled_read, recalled_whole}
use Rattle.sto_attempt_log.specs.Doing.{Reader, Answers, RunsOn, known_by, known_now}

pub same_words : (xs ys : List ℤ) → Some xs ≡ Some ys → xs ≡ ys
same_words xs ys e = cc

same_call : (x y : Call) → Ask x ≡ Ask y → x ≡ y
same_call x y e = cc

pub some_of : (o : Option (List ℤ)) → IsSome o → (ws : List ℤ) × (o ≡ Some ws)
some_of None s = cc
some_of (Some ws) s = (ws, refl)

-- contents that have all that is known agree on items of known parts
agrees_known : (homes : List (ℕ × ℕ)) (object : ℕ) (k : Known) (a b : Parts) → IsPartOf k a → IsPartOf k b → ((p : ℕ) → p < length homes → (p < length a) × (p < length b))
    → (is : List Item) → EachKnown homes object k is → AreTrueOf b is → Agrees b is a
agrees_known homes object k a b in_a in_b range [] known true_of = tt
agrees_known homes object k a b in_a in_b range (Seen p ∷ is) known true_of =
    let ws = some_of (k p) known.1 in
    let there = range p known.0.in_range in
    (in_b.same p ws.0 there.1 ws.1 ∙ sym (in_a.same p ws.0 there.0 ws.1), agrees_known homes object k a b in_a in_b range is known.2 true_of.1)
agrees_known homes object k a b in_a in_b range (Holds p ∷ is) known true_of =
    (true_of.0, agrees_known homes object k a b in_a in_b range is known.2 true_of.1)

module _ (m : Meaning) (law : IsLawful m) (base : List ReadEntry) (us : List Update) (h : IsPending m (words_in base) us) where
  pub known_is : (p : ℕ) (ws : List ℤ) (o : Option (List ℤ)) → words_in base p ≡ o → p < length m.widths → known_by o (changes_of us p) (slice_index_or m.widths p 0) ≡ Some ws
      → IsRecalled m (words_in base) us p ws
  known_is p ws (Some read) e range is =
      subst (IsRecalled m (words_in base) us p) (same_words (applied_all (changes_of us p) read) ws is) (recalled_read m law (words_in base) us h p read range e)
  known_is p ws None e range is =
      elim (cases_Bool (overwrites (changes_of us p))) [
        | inl whole ↦
            let zeros = replicate (slice_index_or m.widths p 0) (pos 0) in
            let it : Some (applied_all (changes_of us p) zeros) ≡ Some ws = rw whole at is in
            subst (IsRecalled m (words_in base) us p) (same_words (applied_all (changes_of us p) zeros) ws it)
            (recalled_whole m law (words_in base) us h p zeros range (length-replicate (slice_index_or m.widths p 0) (pos 0)) whole)
        | inr part ↦ let no : None ≡ Some ws = rw part at is in cc
      ]

  in_range : (d : Parts) → m.valid d → (p : ℕ) → p < length (applied_updates us d) → p < length m.widths
  in_range d v p range = omega (arith, range, length-applied_updates us d, ap (λ (l : List ℕ). length l) (law.widths d v), length-map d length)

  -- what is known without an event is so in all valid contents that have what was read
  pub known_above : (d : Parts) → m.valid d → IsPartOf (words_in base) d → IsPartOf (known_now m base us) (applied_updates us d)
  known_above d v part = record { same = λ p ws range is. (known_is p ws (words_in base p) refl (in_range d v p range) is).above d v part }

  module _ (call : Call) (takes : m.takes call) (needless : m.need call (known_now m base us) ≡ None) where
    ready : (d : Parts) → m.valid d → IsPartOf (words_in base) d → IsReady m call (known_now m base us) (applied_updates us d)
    ready d v part = record { takes = takes; valid = (h.fits d v part).1; part = known_above d v part; done = needless }

    pub alike : (d e : Parts) → m.valid d → m.valid e → IsPartOf (words_in base) d → IsPartOf (words_in base) e
        → Agrees (applied_updates us e) (m.items call (known_now m base us)) (applied_updates us d)
    alike d e v w part too =
        let k = known_now m base us in
        agrees_known m.homes call.object k (applied_updates us d) (applied_updates us e) (known_above d v part) (known_above e w too)
        (λ p l. (
          omega (arith, l, law.homes, length-applied_updates us d, ap (λ (x : List ℕ). length x) (law.widths d v), length-map d length),
          omega (arith, l, law.homes, length-applied_updates us e, ap (λ (x : List ℕ). length x) (law.widths e w), length-map e length),
        ))
        (m.items call k) (law.knows call k (applied_updates us d) (ready d v part)) (law.holds call k (applied_updates us e) (ready e w too))

-- the call that the body asks is answered
pub answers_now : (m : Meaning) → IsLawful m → (f : Behaviour) (r : Reader) → IsPending m (words_in r.base) r.set.updates → (call : Call) → f r.heard ≡ Ask call → m.takes call
    → m.need call (known_now m r.base r.set.updates) ≡ None → (observed : Recorded) → AddsItems r.set (rebased r.set.updates (m.items call (known_now m r.base r.set.updates))) observed
    → (s : Reader) × Answers m f r s
answers_now m law f r h call asks takes needless observed adds =
    let us = r.set.updates in
    let d = h.some.0 in
    let k = known_now m r.base us in
    let new : Reader = record r {
      set = record { items = observed.items; updates = with_updates us (m.updates call (applied_updates us d)) };
      heard = r.heard ++ reply_to m.machines call (m.rows (applied_updates us d)) ∷ [];
      extended = false;
    } in (
      new,
      record {
        call = call;
        asks = asks;
        needless = needless;
        reply = reply_to m.machines call (m.rows (applied_updates us d));
        updates = m.updates call (applied_updates us d);
        some = h.some;
        says = λ e v part.
            let there = ready m law r.base us h call takes needless e v part in
            let same = alike m law r.base us h call takes needless e d v h.some.1 part h.some.2 in
            let valid = (h.fits d h.some.1 h.some.2).1 in
            (law.same_reply call k (applied_updates us e) (applied_updates us d) there valid same, law.same_updates call k (applied_updates us e) (applied_updates us d) there valid same);
        observed = observed;
        adds = adds;
        after = refl;
      },
    )

-- an item is among others, or is not

abbrev test_code : Test → ℕ
test_code Eq = 0
test_code Ne = 1
test_code Lt = 2
test_code Le = 3
test_code Gt = 4
test_code Ge = 5

same_test : (s t : Test) → test_code s ≡ test_code t → s ≡ t
same_test s t e = sym (there s) ∙ ap of_code e ∙ there t
  where
    of_code : ℕ → Test
    of_code zero = Eq
    of_code (suc zero) = Ne
    of_code (suc (suc zero)) = Lt
    of_code (suc (suc (suc zero))) = Le
    of_code (suc (suc (suc (suc zero)))) = Gt
    of_code (suc (suc (suc (suc (suc n))))) = Ge

    there : (t : Test) → of_code (test_code t) ≡ t
    there Eq = refl
    there Ne = refl
    there Lt = refl
    there Le = refl
    there Gt = refl
    there Ge = refl

both : {A B : Type 0} → A ⊎ (A → ⊥) → B ⊎ (B → ⊥) → (A × B) ⊎ (A × B → ⊥)
both a b = elim a [
  | inl x ↦ elim b [ inl y ↦ inl (x, y) | inr n ↦ inr (λ h. n h.1) ]
  | inr n ↦ inr (λ h. n h.0)
]

int_same : (x y : ℤ) → (x ≡ y) ⊎ (x ≡ y → ⊥)
int_same (pos m) (pos n) = elim (cases_eq m n) [ inl e ↦ inl (ap (λ (k : ℕ). pos k) e) | inr d ↦ inr (λ e. d cc) ]
int_same (pos m) (negsuc n) = inr (λ e. cc)
int_same (negsuc m) (pos n) = inr (λ e. cc)
int_same (negsuc m) (negsuc n) = elim (cases_eq m n) [ inl e ↦ inl (ap (λ (k : ℕ). negsuc k) e) | inr d ↦ inr (λ e. d cc) ]

pred_same : (p q : Pred) → (p ≡ q) ⊎ (p ≡ q → ⊥)
pred_same p q =
    let tests : (p.test ≡ q.test) ⊎ (p.test ≡ q.test → ⊥) = elim (cases_eq (test_code p.test) (test_code q.test)) [ inl e ↦ inl (same_test p.test q.test e) | inr d ↦ inr (λ e. d (ap test_code e)) ] in
    elim (both (both (cases_eq p.part q.part) (cases_eq p.word q.word)) (both (both (int_same p.shift q.shift) tests) (int_same p.bound q.bound))) [
      | inl e ↦ inl (λ i. record { part = e.0.0 i; word = e.0.1 i; shift = e.1.0.0 i; test = e.1.0.1 i; bound = e.1.1 i })
      | inr d ↦ inr (λ e. d ((ap (λ (x : Pred). x.part) e, ap (λ (x : Pred). x.word) e), ((ap (λ (x : Pred). x.shift) e, ap (λ (x : Pred). x.test) e), ap (λ (x : Pred). x.bound) e)))
    ]

item_same : (x y : Item) → (x ≡ y) ⊎ (x ≡ y → ⊥)
item_same (Seen p) (Seen q) = elim (cases_eq p q) [ inl e ↦ inl (ap (λ (k : ℕ). Seen k) e) | inr d ↦ inr (λ e. d cc) ]
item_same (Seen p) (Holds q) = inr (λ e. cc)
item_same (Holds p) (Seen q) = inr (λ e. cc)
item_same (Holds p) (Holds q) = elim (pred_same p q) [ inl e ↦ inl (ap (λ (k : Pred). Holds k) e) | inr d ↦ inr (λ e. d cc) ]

is_among : (xs : List Item) (x : Item) → Contains xs x ⊎ (Contains xs x → ⊥)
is_among [] x = inr (λ h. omega (arith, h.1))
is_among (y ∷ xs) x = elim (item_same y x) [
  | inl e ↦ inl (0, omega arith, e)
  | inr d ↦ elim (is_among xs x) [
    | inl h ↦ inl (suc h.0, omega (arith, h.1), h.2)
    | inr n ↦ inr (λ h. not_there h.0 h.1 h.2 d n)
  ]
]
  where
    not_there : (i : ℕ) → i < suc (length xs) → slice_index_or (y ∷ xs) i x ≡ x → (y ≡ x → ⊥) → (Contains xs x → ⊥) → ⊥
    not_there zero l e d n = d e
    not_there (suc i) l e d n = n (i, omega (arith, l), e)

adds_all : (old : Recorded) (is : List Item) → (new : Recorded) × AddsItems old is new
adds_all old [] = (old, refl)
adds_all old (i ∷ is) = elim (is_among old.items i) [
  | inl there ↦ let rest = adds_all old is in (rest.0, (old, inl (there, refl), rest.1))
  | inr new ↦
      let with_it : Recorded = record old { items = old.items ++ i ∷ [] } in
      let rest = adds_all with_it is in (rest.0, (with_it, inr (new, refl), rest.1))
]

-- the pending updates of the next reader are such again
pending_next : (m : Meaning) → IsLawful m → (base : Known) (us v : List Update) → IsPending m base us → (call : Call) → m.takes call
    → ((d : Parts) → m.valid d → IsPartOf base d → v ≡ m.updates call (applied_updates us d)) → IsPending m base (with_updates us v)
pending_next m law base us v h call takes is = record {
  ordered = let d = h.some in AreUpdates-with_updates us v d.0 (h.fits d.0 d.1 d.2).0 (fit d.0 d.1 d.2) h.ordered;
  fits = λ d w part. (
    HasWidths-with_updates us v d (h.fits d w part).0 (fit d w part),
    subst m.valid (ap (λ (l : List Update). applied_updates l (applied_updates us d)) (sym (is d w part)) ∙ sym (applied_updates-with_updates us v d (h.fits d w part).0 (fit d w part) h.ordered)) (now d w part).valid,
  );
  some = h.some;
}
  where
    now : (d : Parts) (w : m.valid d) (part : IsPartOf base d) → IsUpdated m call (applied_updates us d) (m.updates call (applied_updates us d))
    now d w part = law.updated call (applied_updates us d) takes (h.fits d w part).1

    fit : (d : Parts) → m.valid d → IsPartOf base d → HasWidths v d
    fit d w part = HasWidths-below us v d (subst (λ (l : List Update). HasWidths l (applied_updates us d)) (sym (is d w part)) (now d w part).widths)

abbrev HasRun : Meaning → Behaviour → Reader → Type 0
HasRun m f r = (k : ℕ) × (s : Reader) × (reached : Reached) × RunsOn m f k r s reached

module _ (m : Meaning) (law : IsLawful m) (f : Behaviour) (may : (rs : List PlainReply) → MayAsk m.takes (f rs)) where
  by_need : (r : Reader) → IsPending m (words_in r.base) r.set.updates → (call : Call) → f r.heard ≡ Ask call
      → ((s : Reader) → IsPending m (words_in s.base) s.set.updates → length s.heard ≡ length r.heard + 1 → HasRun m f s)
      → (o : Option ℕ) → m.need call (known_now m r.base r.set.updates) ≡ o → HasRun m f r
  by_need r h call e on (Some p) is = (0, r, Needs p, (refl, (call, e, is)))
  by_need r h call e on None is =
      let takes : m.takes call = subst (MayAsk m.takes) e (may r.heard) in
      let observed = adds_all r.set (rebased r.set.updates (m.items call (known_now m r.base r.set.updates))) in
      let next = answers_now m law f r h call e takes is observed.0 observed.1 in
      let a = next.1 in
      let same : a.call ≡ call = same_call a.call call (sym a.asks ∙ e) in
      let pending : IsPending m (words_in next.0.base) next.0.set.updates =
      subst (λ (s : Reader). IsPending m (words_in s.base) s.set.updates) (sym a.after)
      (pending_next m law (words_in r.base) r.set.updates a.updates h call takes (λ d w part. (a.says d w part).1 ∙ ap (λ (x : Call). m.updates x (applied_updates r.set.updates d)) same)) in
      let more : length next.0.heard ≡ length r.heard + 1 = ap (λ (s : Reader). length s.heard) a.after ∙ length-append r.heard (a.reply ∷ []) in
      let rest = on next.0 pending more in
      (suc rest.0, rest.1, rest.2, (next.0, a, rest.3))

  by_next : (r : Reader) → IsPending m (words_in r.base) r.set.updates → (x : Next) → f r.heard ≡ x
      → (IsAsk x → (s : Reader) → IsPending m (words_in s.base) s.set.updates → length s.heard ≡ length r.heard + 1 → HasRun m f s) → HasRun m f r
  by_next r h Commit e on = (0, r, Commits, (refl, e))
  by_next r h Cancel e on = (0, r, Cancels, (refl, e))
  by_next r h (Ask call) e on = by_need r h call e (on tt) (m.need call (known_now m r.base r.set.updates)) refl

  -- a body that asks only what the type takes, and at most n calls more, runs on to a part that it needs or to its end
  pub runs_now : (n : ℕ) (r : Reader) → IsPending m (words_in r.base) r.set.updates → ((rs : List PlainReply) → length rs ≡ length r.heard + n → IsAsk (f rs) → ⊥) → HasRun m f r
  runs_now zero r h ends = by_next r h (f r.heard) refl (λ a s p l. absurd (ends r.heard (omega arith) a))
  runs_now (suc n) r h ends = by_next r h (f r.heard) refl (λ a s p l. runs_now n s p (λ rs k. ends rs (omega (arith, k, l))))
