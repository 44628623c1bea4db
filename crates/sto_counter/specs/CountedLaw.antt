-- A counter is lawful.
use Rattle.std.specs.Prelude.{◌≡◌, ◌<◌, ◌↔◌, ◌+ℤ◌, ◌-ℤ◌, ℕ, suc, ℤ, pos, Bool, true, false, not, int_le, if◌then◌else◌, Option, Some, None, List, [], ◌∷◌, map, length, slice_index_or, IsSome, IsTrue, is_some, refl}
use Rattle.std.specs.Int.{w64}
use Rattle.std.specs.Int.RustNames.{FitsSigned}
use Rattle.std.proofs.Common.{ap, sym, ◌∙◌, arith, subst}
use Rattle.std.proofs.lemmas.Int.{SFits-int_wrap, ints}
use Rattle.sto_part.specs.Changes.{wrapped_sum}
use Rattle.sto_part.specs.Preds.{compares, negated, holds_of}
use Rattle.sto_part.specs.declared.change.Change.TheVariants as C
use Rattle.sto_part.specs.declared.pred.Test.{Test}
use Rattle.sto_part.specs.declared.pred.Test.TheVariants.{Lt, Le, Gt, Ge}
use Rattle.sto_item.specs.declared.item.Item.{Item}
use Rattle.sto_item.specs.declared.item.Item.TheVariants.{Seen, Holds}
use Rattle.sto_item.specs.Pending.{Entry}
use Rattle.sto_item.specs.Agreement.{Agrees, AreTrueOf, word_of}
use Rattle.sto_model.specs.declared.call.Call.{Call}
use Rattle.sto_model.specs.declared.operation.Operation.{Operation}
use Rattle.sto_model.specs.declared.operation.Operation.TheVariants.{Get, Set, Add, Test as TestWord, Take, Put, Remove, Has, Len, Next, Count, Scan, Push, Pop}
use Rattle.sto_model.specs.declared.shape.Shape.TheVariants.{Counter}
use Rattle.sto_model.specs.PlainReplies.{PlainReply, is_write}
use Rattle.sto_model.specs.PlainReplies as T
use Rattle.sto_model.specs.Operations.{test_of}
use Rattle.sto_model.specs.Calls.{call_of}
use Rattle.sto_model.specs.Objects.{compared, effect_of, greatest, in_range, takes}
use Rattle.sto_model.specs.Rows.{Row}
use Rattle.sto_type.specs.Plans.{IsSaid, IsPlan, planned, said_is_plan}
use Rattle.sto_type.specs.declared.answer.Answer.{Answer}
use Rattle.sto_model.specs.SequentialObjects.{reply_to, state_after}
use Rattle.sto_type.specs.Known.{Parts, Known, IsPartOf, ContentsFit}
use Rattle.sto_type.specs.Meaning.{Meaning, IsLawful, IsUpdated, IsPartOfObject, EachKnown, EachInside}
use Rattle.sto_counter.specs.Sums.{word_pred_of, grows, falls, add_updates, enough_items, take_items, take_updates, less}
use Rattle.sto_counter.specs.SumsLaw.{holds_plain, compares-negated, add_observed, grown, not_grown, fallen, not_fallen, falls-up, falls-down}
use Rattle.sto_counter.specs.CountedSteady.{counter_steady}
use Rattle.sto_counter.specs.Counted.{counter_items, counter_updates, counter_meaning, test_items, asked, value_known, only_row, IsCounter, CounterTakes}

heads : (x y : ℕ) (xs ys : List ℕ) → x ∷ xs ≡ y ∷ ys → x ≡ y
heads x y xs ys e = cc

pub one_part : (c : Parts) → map length c ≡ 1 ∷ [] → (w : ℤ) × (c ≡ (w ∷ []) ∷ [])
one_part [] e = cc
one_part ([] ∷ cs) e = absurd (omega (arith, heads 0 1 (map length cs) [] e))
one_part ((w ∷ []) ∷ []) e = (w, refl)
one_part ((w ∷ []) ∷ d ∷ cs) e = cc
one_part ((w ∷ v ∷ ws) ∷ cs) e = absurd (omega (arith, heads (suc (suc (length ws))) 1 (map length cs) [] e))

here : (p object : ℕ) → p ≡ 0 → object ≡ 0 → IsPartOfObject ((0, 0) ∷ []) object p
here p object e f = record { in_range = omega (arith, e); owner = rw e (sym f) }

pub there : (c : Parts) → IsCounter c → 0 < length c
there [] v = cc
there (x ∷ xs) v = omega arith

-- what is asked for
asked_some : (o : Option (List ℤ)) (p : ℕ) → asked o ≡ Some p → (o ≡ None) × (p ≡ 0)
asked_some None p e = (refl, cc)
asked_some (Some ws) p e = cc

asked_none : (o : Option (List ℤ)) → asked o ≡ None → (ws : List ℤ) × (o ≡ Some ws)
asked_none None e = cc
asked_none (Some ws) e = (ws, refl)

-- the value is known as it is
pub value_same : (k : Known) (d : Parts) → IsCounter d → IsPartOf k d → asked (k 0) ≡ None → value_known (k 0) ≡ word_of d 0 0
value_same k d v part n =
    let s : (ws : List ℤ) × (k 0 ≡ Some ws) = asked_none (k 0) n in
    ap value_known s.1 ∙ sym (ap (λ (l : List ℤ). slice_index_or l 0 (pos 0)) (part.same 0 s.0 (there d v) s.1))

-- each item is of the one part, and each predicate of its one word
abbrev AllHere : List Item → Type 0
AllHere [] = Unit {0}
AllHere (Seen p ∷ is) = (p ≡ 0) × AllHere is
AllHere (Holds p ∷ is) = (p.part ≡ 0) × (p.word ≡ 0) × AllHere is

known_here : (object : ℕ) (k : Known) (is : List Item) → object ≡ 0 → IsSome (k 0) → AllHere is → EachKnown ((0, 0) ∷ []) object k is
known_here object k [] o s h = tt
known_here object k (Seen p ∷ is) o s h = (here p object h.0 o, subst (λ (q : ℕ). IsSome (k q)) (sym h.0) s, known_here object k is o s h.1)
known_here object k (Holds p ∷ is) o s h = (here p.part object h.0 o, subst (λ (q : ℕ). IsSome (k q)) (sym h.0) s, known_here object k is o s h.2)

inside_here : (is : List Item) → AllHere is → EachInside (1 ∷ []) is
inside_here [] h = tt
inside_here (Seen p ∷ is) h = inside_here is h.1
inside_here (Holds p ∷ is) h = (rw (h.0, h.1) (omega arith), inside_here is h.2)

enough_here : (d : ℤ) (b : Bool) → int_le (pos 0) d ≡ b → AllHere (enough_items 0 d)
enough_here d true e = rw e (refl, refl, tt)
enough_here d false e = rw e (refl, refl, (refl, refl, tt))

take_here : (d x : ℤ) (b r : Bool) → int_le d x ≡ b → falls d x ≡ r → AllHere (take_items 0 d x)
take_here d x true true e f = rw (e, f) (enough_here d (int_le (pos 0) d) refl)
take_here d x true false e f = rw (e, f) (refl, refl, tt)
take_here d x false r e f = rw e (refl, refl, tt)

test_here : (t : Option Test) (k x : ℤ) → AllHere (test_items t k x)
test_here (Some t) k x = (refl, refl, tt)
test_here None k x = tt

all_here : (o : Operation) (a b x : ℤ) → AllHere (counter_items o a b x)
all_here Get a b x = (refl, tt)
all_here Add a b x = (refl, refl, tt)
all_here TestWord a b x = test_here (test_of a) b x
all_here Take a b x = take_here a x (int_le a x) (falls a x) refl refl
all_here Set a b x = tt
all_here Put a b x = tt
all_here Remove a b x = tt
all_here Has a b x = tt
all_here Len a b x = tt
all_here Next a b x = tt
all_here Count a b x = tt
all_here Scan a b x = tt
all_here Push a b x = tt
all_here Pop a b x = tt

-- what a test observes
pub test_observed : (t : Test) (k v x : ℤ) (b : Bool) → compares t v k ≡ b → FitsSigned w64 x → IsTrue (holds_of (word_pred_of 0 (if compares t v k then t else negated t) k) x) ↔ (compares t x k ≡ compares t v k)
test_observed t k v x true e f = rw e (λ h. sym (holds_plain 0 t k x f) ∙ h, λ h. holds_plain 0 t k x f ∙ h)
test_observed t k v x false e f =
    let z : holds_of (word_pred_of 0 (negated t) k) x ≡ not (compares t x k) = holds_plain 0 (negated t) k x f ∙ compares-negated t x k in
    rw e (λ h. not_not (compares t x k) ∙ ap not (sym z ∙ h), λ h. z ∙ ap not h)
  where
    not_not : (b : Bool) → b ≡ not (not b)
    not_not true = refl
    not_not false = refl

by_test : {P : Type 0} (b : Bool) → (b ≡ true → P) → (b ≡ false → P) → P
by_test true f g = f refl
by_test false f g = g refl

differ : {P : Type 0} (b : Bool) → b ≡ true → b ≡ false → P
differ b e f = let z : true ≡ false = sym e ∙ f in cc

-- how a take comes out: there is not enough, or whether the difference is in range
abbrev take_outcome : ℤ → ℤ → Option Bool
take_outcome d x = if int_le d x then Some (falls d x) else None

not_enough : (d x : ℤ) (p : ℕ) → FitsSigned w64 x → holds_of (word_pred_of p Lt d) x ≡ not (int_le d x)
not_enough d x p f = holds_plain p Lt d x f ∙ compares-negated Ge x d

too_great : (d x : ℤ) (p : ℕ) → FitsSigned w64 x → holds_of (word_pred_of p Gt (greatest +ℤ d)) x ≡ not (int_le x (greatest +ℤ d))
too_great d x p f = holds_plain p Gt (greatest +ℤ d) x f ∙ compares-negated Le x (greatest +ℤ d)

not_is : (b : Bool) → not b ≡ true → b ≡ false
not_is true e = sym e
not_is false e = refl

-- above that bound there is enough
above_is_enough : (d x : ℤ) → int_le x (greatest +ℤ d) ≡ false → int_le d x ≡ true
above_is_enough d x e = grind (arith, ints)

module _ (a : ℤ) (f : FitsSigned w64 a) where
  enough_true : (c : Parts) → FitsSigned w64 (word_of c 0 0) → int_le a (word_of c 0 0) ≡ true → falls a (word_of c 0 0) ≡ true → AreTrueOf c (enough_items 0 a)
  enough_true c g e h =
      by_test (int_le (pos 0) a)
      (λ u. rw u (holds_plain 0 Ge a (word_of c 0 0) g ∙ e, tt))
      (λ u. rw u (holds_plain 0 Ge a (word_of c 0 0) g ∙ e, (holds_plain 0 Le (greatest +ℤ a) (word_of c 0 0) g ∙ falls-down a (word_of c 0 0) f g u e ∙ h, tt)))

  take_true : (c : Parts) → FitsSigned w64 (word_of c 0 0) → AreTrueOf c (take_items 0 a (word_of c 0 0))
  take_true c g =
      let x : ℤ = word_of c 0 0 in
      by_test (int_le a x)
      (λ e. by_test (falls a x)
      (λ h. rw (e, h) (enough_true c g e h))
      (λ h. by_test (int_le (pos 0) a)
      (λ u. differ (falls a x) (falls-up a x f g u e) h)
      (λ u. rw (e, h) (too_great a x 0 g ∙ ap not (falls-down a x f g u e ∙ h), tt))))
      (λ e. rw e (not_enough a x 0 g ∙ ap not e, tt))

  enough_same : (c d : Parts) → FitsSigned w64 (word_of c 0 0) → Agrees c (enough_items 0 a) d → take_outcome a (word_of c 0 0) ≡ Some true
  enough_same c d g h =
      let y : ℤ = word_of c 0 0 in
      by_test (int_le (pos 0) a)
      (λ u.
      let k = rw u at h in
      let e : int_le a y ≡ true = sym (holds_plain 0 Ge a y g) ∙ k.0 in
      rw (e, falls-up a y f g u e) refl)
      (λ u.
      let k = rw u at h in
      let e : int_le a y ≡ true = sym (holds_plain 0 Ge a y g) ∙ k.0 in
      let r : falls a y ≡ true = sym (falls-down a y f g u e) ∙ sym (holds_plain 0 Le (greatest +ℤ a) y g) ∙ k.1.0 in
      rw (e, r) refl)

  take_same : (c d : Parts) → FitsSigned w64 (word_of c 0 0) → FitsSigned w64 (word_of d 0 0) → Agrees c (take_items 0 a (word_of d 0 0)) d → take_outcome a (word_of c 0 0) ≡ take_outcome a (word_of d 0 0)
  take_same c d g gd h =
      let x : ℤ = word_of d 0 0 in
      let y : ℤ = word_of c 0 0 in
      by_test (int_le a x)
      (λ e. by_test (falls a x)
      (λ r.
      let k = rw (e, r) at h in
      enough_same c d g k ∙ sym (rw (e, r) refl))
      (λ r. by_test (int_le (pos 0) a)
      (λ u. differ (falls a x) (falls-up a x f gd u e) r)
      (λ u.
      let k = rw (e, r) at h in
      let above : int_le y (greatest +ℤ a) ≡ false = not_is (int_le y (greatest +ℤ a)) (sym (too_great a y 0 g) ∙ k.0) in
      let enough : int_le a y ≡ true = above_is_enough a y above in
      let out : falls a y ≡ false = sym (falls-down a y f g u enough) ∙ above in
      rw (e, r, enough, out) refl)))
      (λ e.
      let k = rw e at h in
      let not_there : int_le a y ≡ false = not_is (int_le a y) (sym (not_enough a y 0 g) ∙ k.0) in
      rw (e, not_there) refl)

some_test : (o : Option Test) → is_some o ≡ true → (t : Test) × (o ≡ Some t)
some_test None e = cc
some_test (Some t) e = (t, refl)

by_operation :
    {P : Type 0} (o : Operation) (a : ℤ) → IsTrue (takes (Counter (pos 0)) o a)
    → (o ≡ Get → P) → (o ≡ Add → P) → (o ≡ TestWord → (t : Test) → test_of a ≡ Some t → P) → (o ≡ Take → P) → P
by_operation Get a h get add test take = get refl
by_operation Set a h get add test take = cc
by_operation Add a h get add test take = add refl
by_operation TestWord a h get add test take = let t : (t : Test) × (test_of a ≡ Some t) = some_test (test_of a) h in test refl t.0 t.1
by_operation Take a h get add test take = take refl
by_operation Put a h get add test take = cc
by_operation Remove a h get add test take = cc
by_operation Has a h get add test take = cc
by_operation Len a h get add test take = cc
by_operation Next a h get add test take = cc
by_operation Count a h get add test take = cc
by_operation Scan a h get add test take = cc
by_operation Push a h get add test take = cc
by_operation Pop a h get add test take = cc

-- what is so of the four calls is so of each call that is taken
pub by_call :
    (P : Call → Type 0) → ((a b : ℤ) → P (call_of 0 Get a b)) → ((a b : ℤ) → FitsSigned w64 a → P (call_of 0 Add a b)) → ((a b : ℤ) (t : Test) → test_of a ≡ Some t → P (call_of 0 TestWord a b))
    → ((a b : ℤ) → FitsSigned w64 a → P (call_of 0 Take a b)) → (call : Call) → CounterTakes call → P call
by_call P get add test take call t =
    let same : (o : Operation) → call.operation ≡ o → call ≡ call_of 0 o call.a call.b = λ o e i. record { object = t.object i; operation = e i; a = call.a; b = call.b; c = t.third i } in
    by_operation call.operation call.a t.taken
    (λ e. subst P (sym (same Get e)) (get call.a call.b))
    (λ e. subst P (sym (same Add e)) (add call.a call.b t.fits))
    (λ e s q. subst P (sym (same TestWord e)) (test call.a call.b s q))
    (λ e. subst P (sym (same Take e)) (take call.a call.b t.fits))

module _ (first : ℤ) where
  abbrev m : Meaning
  m = counter_meaning first

  -- the reply does not hang on the declared number
  reply_any : (o : Operation) (a b : ℤ) (rows : List Row) → (effect_of (Counter (pos 0)) o a b rows).reply ≡ (effect_of (Counter first) o a b rows).reply
  reply_any o a b rows = refl

  -- the replies
  pub add_reply : (a b x : ℤ) → reply_to m.machines (call_of 0 Add a b) (only_row x ∷ []) ≡ (if grows a x then T.Done else T.Range)
  add_reply a b x = by_test (grows a x) (λ e. rw (grown a x e).0 refl) (λ e. rw (not_grown a x e) refl)

  abbrev outcome_reply : Option Bool → PlainReply
  outcome_reply None = T.Flag false
  outcome_reply (Some b) = if b then T.Flag true else T.Range

  pub take_reply : (a b x : ℤ) → reply_to m.machines (call_of 0 Take a b) (only_row x ∷ []) ≡ outcome_reply (take_outcome a x)
  take_reply a b x =
      by_test (int_le a x)
      (λ e. by_test (falls a x) (λ r. rw (e, (fallen a x r).0) refl) (λ r. rw (e, not_fallen a x r) refl))
      (λ e. rw e refl)

  test_reply : (a b x : ℤ) (t : Test) → test_of a ≡ Some t → reply_to m.machines (call_of 0 TestWord a b) (only_row x ∷ []) ≡ T.Flag (compares t x b)
  test_reply a b x t e = ap (λ o. T.Flag (compared o x b)) e

  abbrev outcome_updates : ℤ → Option Bool → List Entry
  outcome_updates a None = []
  outcome_updates a (Some b) = if b then (0, C.Add (less a) ∷ []) ∷ [] else []

  take_updates-is : (a x : ℤ) → take_updates 0 a x ≡ outcome_updates a (take_outcome a x)
  take_updates-is a x = by_test (int_le a x) (λ e. rw e refl) (λ e. rw e refl)

  test_items-is : (a b x : ℤ) (t : Test) → test_of a ≡ Some t → test_items (test_of a) b x ≡ Holds (word_pred_of 0 (if compares t x b then t else negated t) b) ∷ []
  test_items-is a b x t e = ap (λ o. test_items o b x) e

  -- the items by the call alone
  abbrev own_items : Call → ℤ → List Item
  own_items call x = counter_items call.operation call.a call.b x

  abbrev HoldsAt : Call → Type 0
  HoldsAt call = (d : Parts) → IsCounter d → AreTrueOf d (own_items call (word_of d 0 0))

  holds_at : (call : Call) → CounterTakes call → HoldsAt call
  holds_at = by_call HoldsAt
      (λ a b d v. (refl, tt))
      (λ a b f d v. ((add_observed 0 a (word_of d 0 0) (grows a (word_of d 0 0)) f v.fits).1 refl, tt))
      (λ a b t e d v. subst (λ (is : List Item). AreTrueOf d is) (sym (test_items-is a b (word_of d 0 0) t e)) ((test_observed t b (word_of d 0 0) (word_of d 0 0) (compares t (word_of d 0 0) b) refl v.fits).1 refl, tt))
      (λ a b f d v. take_true a f d v.fits)

  abbrev SameReply : Call → Type 0
  SameReply call = (d e : Parts) → IsCounter d → IsCounter e → Agrees e (own_items call (word_of d 0 0)) d → reply_to m.machines call (m.rows e) ≡ reply_to m.machines call (m.rows d)

  same_reply : (call : Call) → CounterTakes call → SameReply call
  same_reply = by_call SameReply
      (λ a b d e v w g. ap (λ (ws : List ℤ). T.Value (slice_index_or ws 0 (pos 0))) g.0)
      (λ a b f d e v w g.
      add_reply a b (word_of e 0 0) ∙ ap (λ z. if z then T.Done else T.Range) ((add_observed 0 a (word_of e 0 0) (grows a (word_of d 0 0)) f w.fits).0 g.0) ∙ sym (add_reply a b (word_of d 0 0)))
      (λ a b t q d e v w g.
      let k : Agrees e (Holds (word_pred_of 0 (if compares t (word_of d 0 0) b then t else negated t) b) ∷ []) d = subst (λ (is : List Item). Agrees e is d) (test_items-is a b (word_of d 0 0) t q) g in
      test_reply a b (word_of e 0 0) t q ∙ ap T.Flag ((test_observed t b (word_of d 0 0) (word_of e 0 0) (compares t (word_of d 0 0) b) refl w.fits).0 k.0) ∙ sym (test_reply a b (word_of d 0 0) t q))
      (λ a b f d e v w g. take_reply a b (word_of e 0 0) ∙ ap outcome_reply (take_same a f e d w.fits v.fits g) ∙ sym (take_reply a b (word_of d 0 0)))

  abbrev SameUpdates : Call → Type 0
  SameUpdates call = (d e : Parts) → IsCounter d → IsCounter e → Agrees e (own_items call (word_of d 0 0)) d → m.updates call e ≡ m.updates call d

  same_updates : (call : Call) → CounterTakes call → SameUpdates call
  same_updates = by_call SameUpdates
      (λ a b d e v w g. refl)
      (λ a b f d e v w g. ap (λ z. if z then (0, C.Add a ∷ []) ∷ [] else []) ((add_observed 0 a (word_of e 0 0) (grows a (word_of d 0 0)) f w.fits).0 g.0))
      (λ a b t q d e v w g. refl)
      (λ a b f d e v w g. take_updates-is a (word_of e 0 0) ∙ ap (outcome_updates a) (take_same a f e d w.fits v.fits g) ∙ sym (take_updates-is a (word_of d 0 0)))

  -- the updates
  changed_by : (call : Call) (w x y : ℤ) → call.object ≡ 0 → wrapped_sum w x ≡ y → m.rows ((y ∷ []) ∷ []) ≡ state_after m.machines call (only_row w ∷ [])
      → is_write call.operation (reply_to m.machines call (only_row w ∷ [])) ≡ true
      → IsUpdated m call ((w ∷ []) ∷ []) ((0, C.Add x ∷ []) ∷ [])
  changed_by call w x y o s r z = record {
    ordered = ((omega arith, tt), (refl, tt));
    owned = (here 0 call.object refl o, tt);
    widths = (omega arith, refl, tt);
    valid = record { widths = refl; fits = SFits-int_wrap w64 (w +ℤ x) };
    rows = ap (λ v. only_row v ∷ []) s ∙ r;
    writes = z;
  }

  left_alone : (call : Call) (w : ℤ) → IsCounter ((w ∷ []) ∷ []) → only_row w ∷ [] ≡ state_after m.machines call (only_row w ∷ [])
      → is_write call.operation (reply_to m.machines call (only_row w ∷ [])) ≡ false
      → IsUpdated m call ((w ∷ []) ∷ []) []
  left_alone call w v r z = record { ordered = (tt, tt); owned = tt; widths = tt; valid = v; rows = r; writes = z }

  abbrev Updated : Call → Type 0
  Updated call = (w : ℤ) → IsCounter ((w ∷ []) ∷ []) → IsUpdated m call ((w ∷ []) ∷ []) (m.updates call ((w ∷ []) ∷ []))

  updated_add : (a b w : ℤ) → IsCounter ((w ∷ []) ∷ []) → IsUpdated m (call_of 0 Add a b) ((w ∷ []) ∷ []) (add_updates 0 a w)
  updated_add a b w v =
      by_test (grows a w)
      (λ e.
      let g : (in_range (w +ℤ a) ≡ Some (w +ℤ a)) × (wrapped_sum w a ≡ w +ℤ a) = grown a w e in
      let u : IsUpdated m (call_of 0 Add a b) ((w ∷ []) ∷ []) ((0, C.Add a ∷ []) ∷ []) = changed_by (call_of 0 Add a b) w a (w +ℤ a) refl g.1 (rw g.0 refl) (rw g.0 refl) in
      subst (λ z. IsUpdated m (call_of 0 Add a b) ((w ∷ []) ∷ []) (if z then (0, C.Add a ∷ []) ∷ [] else [])) (sym e) u)
      (λ e.
      let g : in_range (w +ℤ a) ≡ None = not_grown a w e in
      let u : IsUpdated m (call_of 0 Add a b) ((w ∷ []) ∷ []) [] = left_alone (call_of 0 Add a b) w v (rw g refl) (rw g refl) in
      subst (λ z. IsUpdated m (call_of 0 Add a b) ((w ∷ []) ∷ []) (if z then (0, C.Add a ∷ []) ∷ [] else [])) (sym e) u)

  updated_take : (a b w : ℤ) → IsCounter ((w ∷ []) ∷ []) → IsUpdated m (call_of 0 Take a b) ((w ∷ []) ∷ []) (take_updates 0 a w)
  updated_take a b w v =
      let P : List Entry → Type 0 = IsUpdated m (call_of 0 Take a b) ((w ∷ []) ∷ []) in
      by_test (int_le a w)
      (λ e. by_test (falls a w)
      (λ r.
      let g : (in_range (w -ℤ a) ≡ Some (w -ℤ a)) × (wrapped_sum w (less a) ≡ w -ℤ a) = fallen a w r in
      let u : P ((0, C.Add (less a) ∷ []) ∷ []) = changed_by (call_of 0 Take a b) w (less a) (w -ℤ a) refl g.1 (rw (e, g.0) refl) (rw (e, g.0) refl) in
      let es : take_updates 0 a w ≡ (0, C.Add (less a) ∷ []) ∷ [] = rw (e, r) refl in
      subst P (sym es) u)
      (λ r.
      let g : in_range (w -ℤ a) ≡ None = not_fallen a w r in
      let u : P [] = left_alone (call_of 0 Take a b) w v (rw (e, g) refl) (rw (e, g) refl) in
      let es : take_updates 0 a w ≡ [] = rw (e, r) refl in
      subst P (sym es) u))
      (λ e.
      let u : P [] = left_alone (call_of 0 Take a b) w v (rw e refl) (rw e refl) in
      let es : take_updates 0 a w ≡ [] = rw e refl in
      subst P (sym es) u)

  updated : (call : Call) → CounterTakes call → Updated call
  updated = by_call Updated
      (λ a b w v. left_alone (call_of 0 Get a b) w v refl refl)
      (λ a b f w v. updated_add a b w v)
      (λ a b t e w v. left_alone (call_of 0 TestWord a b) w v refl refl)
      (λ a b f w v. updated_take a b w v)

  pub counter_lawful : FitsSigned w64 first → IsLawful m
  counter_lawful f = record {
    homes = refl;
    owners = (omega arith, tt);
    opening = record { widths = refl; fits = f };
    opening_rows = refl;
    widths = λ c v. v.widths;
    fits = λ c v.
        let one : (w : ℤ) × (c ≡ (w ∷ []) ∷ []) = one_part c v.widths in
        subst ContentsFit (sym one.1) ((subst (λ (d : Parts). FitsSigned w64 (word_of d 0 0)) one.1 v.fits, tt), tt);
    states = λ c v. refl;
    object = λ call t. omega (arith, t.object);
    needs = λ call k d p t v part e.
        let h : (k 0 ≡ None) × (p ≡ 0) = asked_some (k 0) p e in
        record { unknown = rw h.1 h.0; owned = here p call.object h.1 t.object };
    steady = counter_steady first;
    knows = λ call k d r.
        let s : (ws : List ℤ) × (k 0 ≡ Some ws) = asked_none (k 0) r.done in
        known_here call.object k (m.items call k) r.takes.object (rw s.1 refl) (all_here call.operation call.a call.b (value_known (k 0)));
    inside = λ call k d r. inside_here (m.items call k) (all_here call.operation call.a call.b (value_known (k 0)));
    holds = λ call k d r.
        subst (λ (x : ℤ). AreTrueOf d (own_items call x)) (sym (value_same k d r.valid r.part r.done)) (holds_at call r.takes d r.valid);
    same_reply = λ call k d e r v a.
        same_reply call r.takes d e r.valid v (subst (λ (x : ℤ). Agrees e (own_items call x) d) (value_same k d r.valid r.part r.done) a);
    same_updates = λ call k d e r v a.
        same_updates call r.takes d e r.valid v (subst (λ (x : ℤ). Agrees e (own_items call x) d) (value_same k d r.valid r.part r.done) a);
    updated = λ call c t v.
        let one : (w : ℤ) × (c ≡ (w ∷ []) ∷ []) = one_part c v.widths in
        let P : Parts → Type 0 = λ d. IsCounter d → IsUpdated m call d (m.updates call d) in
        subst P (sym one.1) (updated call t one.0) v;
  }

  -- the answer where the value is known is the one that the meaning says
  pub known_plan :
      (call : Call) (k : Known) (ws : List ℤ) (answer : Answer) → CounterTakes call → k 0 ≡ Some ws
      → IsSaid
      (effect_of (Counter (pos 0)) call.operation call.a call.b (only_row (slice_index_or ws 0 (pos 0)))).reply
      (own_items call (slice_index_or ws 0 (pos 0)))
      (counter_updates call.operation call.a (slice_index_or ws 0 (pos 0)))
      answer
      → IsPlan m call k (planned answer)
  known_plan call k ws answer t s h =
      said_is_plan m call k
      (effect_of (Counter (pos 0)) call.operation call.a call.b (only_row (slice_index_or ws 0 (pos 0)))).reply
      (own_items call (slice_index_or ws 0 (pos 0)))
      (counter_updates call.operation call.a (slice_index_or ws 0 (pos 0)))
      answer h (rw s refl) (rw s refl)
      (λ d v part.
      let x : word_of d 0 0 ≡ slice_index_or ws 0 (pos 0) = ap (λ (l : List ℤ). slice_index_or l 0 (pos 0)) (part.same 0 ws (there d v) s) in
      (rw (t.object, x) (reply_any call.operation call.a call.b (only_row (slice_index_or ws 0 (pos 0)))), rw x refl))
