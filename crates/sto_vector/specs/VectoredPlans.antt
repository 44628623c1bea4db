-- What a vector answers to a call, and that it is what its meaning says.
use Rattle.std.specs.Prelude.{◌≡◌, ◌<◌, ◌+◌, ◌^◌, ℕ, zero, suc, ℤ, pos, nat_lt, Bool, true, false, if◌then◌else◌, Option, Some, None, unwrap_or, List, [], ◌∷◌, slice_index_or, refl}
use Rattle.std.specs.Option.{option_map}
use Rattle.std.proofs.Common.{ap, sym, ◌∙◌, arith, subst}
use Rattle.sto_item.specs.declared.item.Item.TheVariants.{Seen}
use Rattle.sto_item.specs.Pending.{Entry}
use Rattle.sto_item.specs.Agreement.{word_of}
use Rattle.sto_model.specs.declared.call.Call.{Call}
use Rattle.sto_model.specs.declared.operation.Operation.{Operation}
use Rattle.sto_model.specs.declared.operation.Operation.TheVariants.{Get, Test as TestWord, Len, Push, Pop}
use Rattle.sto_model.specs.PlainReplies.{PlainReply}
use Rattle.sto_model.specs.PlainReplies as T
use Rattle.sto_model.specs.Calls.{call_of}
use Rattle.sto_model.specs.Operations.{test_of}
use Rattle.sto_model.specs.Objects.{compared, value_or_absent}
use Rattle.sto_model.specs.SequentialObjects.{reply_to}
use Rattle.sto_model.proofs.RowFacts.{by_test}
use Rattle.sto_type.specs.Known.{Parts, Known, IsPartOf, word_known}
use Rattle.sto_type.specs.Meaning.{Meaning}
use Rattle.sto_type.specs.Plans.{Plan, Ask, Say, IsPlan}
use Rattle.sto_counter.specs.Counted.{test_items}
use Rattle.sto_array.specs.Arrayed.{place_of, asked}
use Rattle.sto_vector.specs.Vectored.{size_of, size_known, place_need, after_size, get_items, push_items, pop_items, vector_items, push_updates, pop_updates, vector_need, IsVector, VectorTakes, vector_meaning}
use Rattle.sto_vector.specs.VectoredRows.{value_in, lt_of}
use Rattle.sto_vector.specs.VectoredLaw.{by_call, sized, apart, get_replies, test_replies, len_replies, push_replies, pop_replies, push_reply, small, many}

-- where the size is not known: a get of an index that is no place is answered, and all else asks for the size
abbrev pub first_plan : Operation → Option ℕ → Plan
first_plan Get None = Say T.Absent [] []
first_plan o q = Ask 0

-- the answer of place i with this size, by its word where that is known
abbrev pub place_plan : ℕ → ℕ → Option ℤ → Plan
place_plan i n None = Ask (suc i)
place_plan i n (Some x) = Say (T.Value x) (get_items i n) []

abbrev pub get_plan : ℕ → ℕ → Option ℤ → Plan
get_plan i n value = if nat_lt i n then place_plan i n value else Say T.Absent (get_items i n) []

-- the answer of a pop with this size, by the word of the last place where that is known
abbrev pub pop_plan : ℕ → Option ℤ → Plan
pop_plan zero value = Say T.Absent (pop_items zero) []
pop_plan (suc n) None = Ask (suc n)
pop_plan (suc n) (Some x) = Say (T.Value x) (pop_items (suc n)) (pop_updates (suc n))

-- the answer with this size, where the places' words are known or not
abbrev pub vector_plan : ℕ → Operation → Option ℕ → ℤ → ℤ → ℕ → (ℕ → Option ℤ) → Plan
vector_plan capacity Get None a b n words = Say T.Absent [] []
vector_plan capacity Get (Some i) a b n words = get_plan i n (words (suc i))
vector_plan capacity TestWord q cmp k n words = Say (T.Flag (compared (test_of cmp) (pos n) k)) (test_items (test_of cmp) k (pos n)) []
vector_plan capacity Len q a b n words = Say (T.Value (pos n)) (Seen 0 ∷ []) []
vector_plan capacity Push q v b n words = Say (if nat_lt n capacity then T.Done else T.Full) (push_items capacity n) (push_updates capacity v n)
vector_plan capacity Pop q a b n words = pop_plan n (words n)
vector_plan capacity o q a b n words = Say T.Absent [] []

module _ (capacity : ℕ) (few : 1 + capacity < 2 ^ 32) where
  abbrev m : Meaning
  m = vector_meaning capacity

  -- the size of all valid contents that what is known is part of
  same_some : (p q : ℕ) → Some p ≡ Some q → p ≡ q
  same_some p q e = cc

  size_of_part : (k : Known) (n x : ℕ) (places : Parts) (o : Option (List ℤ)) → k 0 ≡ o → IsPartOf k (sized x places) → option_map size_of (word_known o) ≡ Some n → x ≡ n
  size_of_part k n x places None e part s = cc
  size_of_part k n x places (Some ws) e part s = ap (λ (l : List ℤ). size_of (slice_index_or l 0 (pos 0))) (part.same 0 ws (omega arith) e) ∙ same_some (size_of (slice_index_or ws 0 (pos 0))) n s

  -- what is so of all contents of the size is so of all valid contents that what is known is part of
  abbrev Said : Call → PlainReply → List Entry → Parts → Type 0
  Said call t es c = (t ≡ reply_to m.machines call (m.rows c)) × (es ≡ m.updates call c)

  on_all :
      (call : Call) (k : Known) (n : ℕ) (t : PlainReply) (es : List Entry) → size_known k ≡ Some n
      → ((places : Parts) → IsVector capacity (sized n places) → IsPartOf k (sized n places) → Said call t es (sized n places))
      → (d : Parts) → m.valid d → IsPartOf k d → Said call t es d
  on_all call k n t es s each d v part =
      let a : (x : ℕ) × (places : Parts) × (d ≡ sized x places) = apart capacity d v in
      let w : IsVector capacity (sized a.0 a.1) = subst (IsVector capacity) a.2 v in
      let p : IsPartOf k (sized a.0 a.1) = subst (IsPartOf k) a.2 part in
      let e : a.0 ≡ n = size_of_part k n a.0 a.1 (k 0) refl p s in
      let P : ℕ → Type 0 = λ x. IsVector capacity (sized x a.1) → IsPartOf k (sized x a.1) → Said call t es (sized x a.1) in
      subst (Said call t es) (sym a.2) (subst P (sym e) (each a.1) w p)

  same_size : (k : Known) (n : ℕ) → size_known k ≡ Some n → n ≡ unwrap_or (size_known k) 0
  same_size k n s = sym (ap (λ o. unwrap_or o 0) s)

  -- a place that is known
  place_is : (k : Known) (n i : ℕ) (places : Parts) (ws : List ℤ) → IsVector capacity (sized n places) → IsPartOf k (sized n places) → i < n → k (suc i) ≡ Some ws → word_of places i 0 ≡ slice_index_or ws 0 (pos 0)
  place_is k n i places ws v part l e =
      ap (λ (x : List ℤ). slice_index_or x 0 (pos 0)) (part.same (suc i) ws (omega (arith, l, many capacity few n places v, small capacity few n places v)) e)

  -- a get of an index that is no place
  get_none : (a b : ℤ) (k : Known) → place_of capacity a ≡ None → IsPlan m (call_of 0 Get a b) k (Say T.Absent [] [])
  get_none a b k e = (
    ap (λ q. vector_need Get q k) e,
    sym (ap (λ q. vector_items capacity Get q a b (unwrap_or (size_known k) 0)) e),
    λ d v part.
        let x : (n : ℕ) × (places : Parts) × (d ≡ sized n places) = apart capacity d v in
        let w : IsVector capacity (sized x.0 x.1) = subst (IsVector capacity) x.2 v in
        subst (Said (call_of 0 Get a b) T.Absent []) (sym x.2) (sym (get_replies capacity few a b x.0 x.1 w ∙ ap (λ q. value_or_absent (value_in q x.0 x.1)) e), refl),
  )

  module _ (k : Known) (n : ℕ) (s : size_known k ≡ Some n) where
    -- a get of a place below the size
    get_below :
        (a b : ℤ) (i : ℕ) (o : Option (List ℤ)) → place_of capacity a ≡ Some i → nat_lt i n ≡ true → k (suc i) ≡ o → IsPlan m (call_of 0 Get a b) k (place_plan i n (word_known o))
    get_below a b i None e t w =
        ap (λ q. vector_need Get q k) e ∙ ap (λ x. after_size x (place_need Get (Some i) k)) s ∙ ap (λ z. if z then asked (suc i) (k (suc i)) else None) t ∙ ap (asked (suc i)) w
    get_below a b i (Some ws) e t w = (
      ap (λ q. vector_need Get q k) e ∙ ap (λ x. after_size x (place_need Get (Some i) k)) s ∙ ap (λ z. if z then asked (suc i) (k (suc i)) else None) t ∙ ap (asked (suc i)) w,
      ap (get_items i) (same_size k n s) ∙ sym (ap (λ q. vector_items capacity Get q a b (unwrap_or (size_known k) 0)) e),
      on_all (call_of 0 Get a b) k n (T.Value (slice_index_or ws 0 (pos 0))) [] s
          (λ places v part. (
            sym
                (get_replies capacity few a b n places v ∙ ap (λ q. value_or_absent (value_in q n places)) e ∙ ap (λ z. value_or_absent (if z then Some (word_of places i 0) else None)) t
                ∙ ap T.Value (place_is k n i places ws v part (lt_of i n t) w)),
            refl,
          )),
    )

    get_past : (a b : ℤ) (i : ℕ) → place_of capacity a ≡ Some i → nat_lt i n ≡ false → IsPlan m (call_of 0 Get a b) k (Say T.Absent (get_items i n) [])
    get_past a b i e t = (
      ap (λ q. vector_need Get q k) e ∙ ap (λ x. after_size x (place_need Get (Some i) k)) s ∙ ap (λ z. if z then asked (suc i) (k (suc i)) else None) t,
      ap (get_items i) (same_size k n s) ∙ sym (ap (λ q. vector_items capacity Get q a b (unwrap_or (size_known k) 0)) e),
      on_all (call_of 0 Get a b) k n T.Absent [] s
          (λ places v part. (
            sym (get_replies capacity few a b n places v ∙ ap (λ q. value_or_absent (value_in q n places)) e ∙ ap (λ z. value_or_absent (if z then Some (word_of places i 0) else None)) t),
            refl,
          )),
    )

    get_at : (a b : ℤ) (q : Option ℕ) → place_of capacity a ≡ q → IsPlan m (call_of 0 Get a b) k (vector_plan capacity Get q a b n (λ p. word_known (k p)))
    get_at a b None e = get_none a b k e
    get_at a b (Some i) e =
        let P : Bool → Type 0 = λ z. IsPlan m (call_of 0 Get a b) k (if z then place_plan i n (word_known (k (suc i))) else Say T.Absent (get_items i n) []) in
        by_test (nat_lt i n) (λ t. subst P (sym t) (get_below a b i (k (suc i)) e t refl)) (λ t. subst P (sym t) (get_past a b i e t))

    pop_some : (a b : ℤ) (i : ℕ) (o : Option (List ℤ)) → n ≡ suc i → k (suc i) ≡ o → IsPlan m (call_of 0 Pop a b) k (pop_plan (suc i) (word_known o))
    pop_some a b i None e w = ap (λ x. after_size x (place_need Pop (place_of capacity a) k)) (s ∙ ap Some e) ∙ ap (asked (suc i)) w
    pop_some a b i (Some ws) e w = (
      ap (λ x. after_size x (place_need Pop (place_of capacity a) k)) (s ∙ ap Some e) ∙ ap (asked (suc i)) w,
      ap pop_items (sym e ∙ same_size k n s),
      on_all (call_of 0 Pop a b) k (suc i) (T.Value (slice_index_or ws 0 (pos 0))) (pop_updates (suc i)) (s ∙ ap Some e)
          (λ places v part. (
            sym (pop_replies capacity few a b (suc i) places v ∙ ap T.Value (place_is k (suc i) i places ws v part (omega arith) w)),
            refl,
          )),
    )

    pop_none : (a b : ℤ) → n ≡ 0 → IsPlan m (call_of 0 Pop a b) k (Say T.Absent (pop_items 0) [])
    pop_none a b e = (
      ap (λ x. after_size x (place_need Pop (place_of capacity a) k)) (s ∙ ap Some e),
      ap pop_items (sym e ∙ same_size k n s),
      on_all (call_of 0 Pop a b) k 0 T.Absent [] (s ∙ ap Some e) (λ places v part. (sym (pop_replies capacity few a b 0 places v), refl)),
    )

    pop_at : (a b : ℤ) (x : ℕ) → n ≡ x → IsPlan m (call_of 0 Pop a b) k (pop_plan x (word_known (k x)))
    pop_at a b zero e = pop_none a b e
    pop_at a b (suc i) e = pop_some a b i (k (suc i)) e refl

    abbrev PlanAt : Call → Type 0
    PlanAt call = IsPlan m call k (vector_plan capacity call.operation (place_of capacity call.a) call.a call.b n (λ p. word_known (k p)))

    -- with the size known the answer is what the meaning says
    pub plan_is : (call : Call) → VectorTakes call → PlanAt call
    plan_is = by_call PlanAt
        (λ a b. get_at a b (place_of capacity a) refl)
        (λ a b t e. (
          ap (λ x. after_size x (place_need TestWord (place_of capacity a) k)) s,
          ap (λ x. test_items (test_of a) b (pos x)) (same_size k n s),
          on_all (call_of 0 TestWord a b) k n (T.Flag (compared (test_of a) (pos n) b)) [] s (λ places v part. (sym (test_replies capacity few a b n places v), refl)),
        ))
        (λ a b. (
          ap (λ x. after_size x (place_need Len (place_of capacity a) k)) s,
          refl,
          on_all (call_of 0 Len a b) k n (T.Value (pos n)) [] s (λ places v part. (sym (len_replies capacity few a b n places v), refl)),
        ))
        (λ a b f. (
          ap (λ x. after_size x (place_need Push (place_of capacity a) k)) s,
          ap (push_items capacity) (same_size k n s),
          on_all (call_of 0 Push a b) k n (push_reply capacity few n) (push_updates capacity a n) s (λ places v part. (sym (push_replies capacity few a b n places v), refl)),
        ))
        (λ a b. pop_at a b n refl)

  abbrev FirstAt : Known → Call → Type 0
  FirstAt k call = IsPlan m call k (first_plan call.operation (place_of capacity call.a))

  first_get : (k : Known) (a b : ℤ) (q : Option ℕ) → size_known k ≡ None → place_of capacity a ≡ q → IsPlan m (call_of 0 Get a b) k (first_plan Get q)
  first_get k a b None s e = get_none a b k e
  first_get k a b (Some i) s e = ap (λ q. vector_need Get q k) e ∙ ap (λ x. after_size x (place_need Get (Some i) k)) s

  -- so is the answer where the size is not known
  pub first_is : (k : Known) → size_known k ≡ None → (call : Call) → VectorTakes call → FirstAt k call
  first_is k s = by_call (FirstAt k)
      (λ a b. first_get k a b (place_of capacity a) s refl)
      (λ a b t e. ap (λ x. after_size x (place_need TestWord (place_of capacity a) k)) s)
      (λ a b. ap (λ x. after_size x (place_need Len (place_of capacity a) k)) s)
      (λ a b f. ap (λ x. after_size x (place_need Push (place_of capacity a) k)) s)
      (λ a b. ap (λ x. after_size x (place_need Pop (place_of capacity a) k)) s)
