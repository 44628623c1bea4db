-- Orders that lead to the same node lead on alike.
use Rattle.std.proofs.Common.{◌≡◌, ℕ, suc, ◌+◌, List, [], ◌∷◌, ◌++◌, length, map, refl, sym, ap, ◌∙◌, Bool, true, false, cond, ◌==◌, append-nil}
use Rattle.std.specs.Prelude.{string_bytes}
use Rattle.std.specs.List.{flat_map}
use Rattle.std.proofs.lemmas.List.{flat_map_more}
use Rattle.sto_model.specs.Run.{State}
use Rattle.sto_lang.specs.Scripts.{File}
use Rattle.sto_report_spec.specs.Orders.{TransactionPlace, positions_of}
use Rattle.sto_report_spec.specs.Replay.{Entry, run_at, entry_at, entries_from, entries_of, state_from, opening_state, final_state}
use Rattle.sto_checker.specs.Runs.{writers_from}
use Rattle.sto_checker.proofs.Kept.{positions_of-more}
use Rattle.sto_checker.proofs.OneMore.{entries_from-more, writers_from-more, state_from-more}
use Rattle.sto_orders.specs.declared.same_by.SameBy.{SameBy}
use Rattle.sto_orders.specs.declared.same_by.SameBy.TheVariants as compare
use Rattle.sto_orders.specs.declared.key.Key.{Key}
use Rattle.sto_orders.specs.Outcomes.{own_text, thread_text, counted_by, threads_in, end_of}
use Rattle.sto_orders.specs.Keys.{done_in, IsKeyOf}

-- Lists of numbers, item by item.

map_same : {A : Type 0} (f g : ℕ → A) (ts : List ℕ) → ((t : ℕ) → f t ≡ g t) → map f ts ≡ map g ts
map_same f g [] h = refl
map_same {A} f g (t ∷ ts) h = ap (λ (x : A). x ∷ map f ts) (h t) ∙ ap (λ (xs : List A). g t ∷ xs) (map_same f g ts h)

first_of_map : {A : Type 0} (x y : A) (xs ys : List A) → x ∷ xs ≡ y ∷ ys → x ≡ y
first_of_map x y xs ys e = cc

rest_of_map : {A : Type 0} (x y : A) (xs ys : List A) → x ∷ xs ≡ y ∷ ys → xs ≡ ys
rest_of_map x y xs ys e = cc

-- what follows from each item alone is the same for the same items
along_map : {A : Type 0} (h : ℕ → A → A) (f g : ℕ → A) (ts : List ℕ) → map f ts ≡ map g ts → map (λ t. h t (f t)) ts ≡ map (λ t. h t (g t)) ts
along_map h f g [] e = refl
along_map {A} h f g (t ∷ ts) e =
    ap (λ (x : A). h t x ∷ map (λ s. h s (f s)) ts) (first_of_map (f t) (g t) (map f ts) (map g ts) e)
    ∙ ap (λ (xs : List A). h t (g t) ∷ xs) (along_map h f g ts (rest_of_map (f t) (g t) (map f ts) (map g ts) e))

-- One more transaction.

longer : (ns : List ℕ) (n : ℕ) → length (ns ++ n ∷ []) ≡ suc (length ns)
longer [] n = refl
longer (m ∷ ns) n = ap suc (longer ns n)

step : TransactionPlace → ℕ → ℕ → ℕ
step p t n = cond (p.0 == t) (suc n) n

pub done_more : (order : List TransactionPlace) (p : TransactionPlace) (t : ℕ) → done_in (order ++ p ∷ []) t ≡ cond (p.0 == t) (suc (done_in order t)) (done_in order t)
done_more order p t = ap length (positions_of-more t order p) ∙ by (p.0 == t)
  where
    by : (b : Bool) → length (positions_of t order ++ cond b (p.1 ∷ []) []) ≡ cond b (suc (length (positions_of t order))) (length (positions_of t order))
    by true = longer (positions_of t order) p.1
    by false = ap length (append-nil (positions_of t order))

text_more : (by : SameBy) (f : File) (order : List TransactionPlace) (p : TransactionPlace) (t : ℕ)
    → thread_text by f.names (entries_of f (order ++ p ∷ [])) t ≡ thread_text by f.names (entries_of f order) t
    ++ own_text by f.names t (entry_at f (writers_from f 0 (opening_state f) order) (final_state f order) p)
text_more by f order p t =
    ap (λ (es : List Entry). thread_text by f.names es t) (entries_from-more f 0 (opening_state f) order p)
    ∙ sym (flat_map_more (own_text by f.names t) [] (entries_of f order) (entry_at f (writers_from f 0 (opening_state f) order) (final_state f order) p))

-- what is compared of a transaction is the same, where as many writers are counted before
own_same : (by : SameBy) (f : File) (t w v : ℕ) (st : State) (p : TransactionPlace) → counted_by by w ≡ counted_by by v
    → own_text by f.names t (entry_at f w st p) ≡ own_text by f.names t (entry_at f v st p)
own_same compare.State f t w v st p e = refl
own_same compare.Answers f t w v st p e = refl
own_same compare.Order f t w v st p e = ap (λ (n : ℕ). own_text compare.Order f.names t (entry_at f n st p)) e

writers_same : (by : SameBy) (f : File) (w v : ℕ) (st : State) (p : TransactionPlace) → counted_by by w ≡ counted_by by v
    → counted_by by (entry_at f w st p).writers ≡ counted_by by (entry_at f v st p).writers
writers_same compare.State f w v st p e = refl
writers_same compare.Answers f w v st p e = refl
writers_same compare.Order f w v st p e = ap (λ (n : ℕ). (entry_at f n st p).writers) e

-- two orders lead to the same
pub record SameLead (by : SameBy) (f : File) (a b : List TransactionPlace) : Type 0 where
  pub done : map (done_in a) (threads_in f) ≡ map (done_in b) (threads_in f)
  pub threads : (end_of by f a).threads ≡ (end_of by f b).threads
  pub writers : (end_of by f a).writers ≡ (end_of by f b).writers
  pub state : (end_of by f a).state ≡ (end_of by f b).state

pub lead_by_key : (by : SameBy) (f : File) (a b : List TransactionPlace) (key : Key) → IsKeyOf by f a key → IsKeyOf by f b key → SameLead by f a b
lead_by_key by f a b key h k = record {
  done = sym h.done ∙ k.done;
  threads = sym h.threads ∙ k.threads;
  writers = sym h.writers ∙ k.writers;
  state = sym h.rows ∙ k.rows;
}

pub key_along : (by : SameBy) (f : File) (a b : List TransactionPlace) (key : Key) → SameLead by f a b → IsKeyOf by f a key → IsKeyOf by f b key
key_along by f a b key s h = record {
  done = h.done ∙ s.done;
  threads = h.threads ∙ s.threads;
  writers = h.writers ∙ s.writers;
  rows = h.rows ∙ s.state;
}

module _ (by : SameBy) (f : File) (a b : List TransactionPlace) (p : TransactionPlace) (s : SameLead by f a b) where
  wa : ℕ
  wa = writers_from f 0 (opening_state f) a

  wb : ℕ
  wb = writers_from f 0 (opening_state f) b

  done_lead : map (done_in (a ++ p ∷ [])) (threads_in f) ≡ map (done_in (b ++ p ∷ [])) (threads_in f)
  unfolding step
  done_lead =
      map_same (done_in (a ++ p ∷ [])) (λ t. step p t (done_in a t)) (threads_in f) (done_more a p)
      ∙ along_map (step p) (done_in a) (done_in b) (threads_in f) s.done
      ∙ sym (map_same (done_in (b ++ p ∷ [])) (λ t. step p t (done_in b t)) (threads_in f) (done_more b p))

  writers_lead : (end_of by f (a ++ p ∷ [])).writers ≡ (end_of by f (b ++ p ∷ [])).writers
  unfolding wa wb
  writers_lead =
      ap (counted_by by) (writers_from-more f 0 (opening_state f) a p)
      ∙ ap (λ (st : State). counted_by by (entry_at f wa st p).writers) s.state
      ∙ writers_same by f wa wb (final_state f b) p s.writers
      ∙ sym (ap (counted_by by) (writers_from-more f 0 (opening_state f) b p))

  state_lead : (end_of by f (a ++ p ∷ [])).state ≡ (end_of by f (b ++ p ∷ [])).state
  state_lead =
      state_from-more f (opening_state f) a p
      ∙ ap (λ (st : State). (run_at f st p).after) s.state
      ∙ sym (state_from-more f (opening_state f) b p)

  own_lead : (t : ℕ) → own_text by f.names t (entry_at f wa (final_state f a) p) ≡ own_text by f.names t (entry_at f wb (final_state f b) p)
  unfolding wa wb
  own_lead t =
      ap (λ (st : State). own_text by f.names t (entry_at f wa st p)) s.state
      ∙ own_same by f t wa wb (final_state f b) p s.writers

  texts_lead : (end_of by f (a ++ p ∷ [])).threads ≡ (end_of by f (b ++ p ∷ [])).threads
  unfolding wa wb
  texts_lead =
      map_same (thread_text by f.names (entries_of f (a ++ p ∷ [])))
      (λ t. thread_text by f.names (entries_of f a) t ++ own_text by f.names t (entry_at f wa (final_state f a) p)) (threads_in f) (text_more by f a p)
      ∙ along_map (λ (t : ℕ) (xs : List ℕ). xs ++ own_text by f.names t (entry_at f wa (final_state f a) p))
      (thread_text by f.names (entries_of f a)) (thread_text by f.names (entries_of f b)) (threads_in f) s.threads
      ∙ map_same (λ t. thread_text by f.names (entries_of f b) t ++ own_text by f.names t (entry_at f wa (final_state f a) p))
      (λ t. thread_text by f.names (entries_of f b) t ++ own_text by f.names t (entry_at f wb (final_state f b) p)) (threads_in f)
      (λ t. ap (λ (xs : List ℕ). thread_text by f.names (entries_of f b) t ++ xs) (own_lead t))
      ∙ sym (map_same (thread_text by f.names (entries_of f (b ++ p ∷ [])))
      (λ t. thread_text by f.names (entries_of f b) t ++ own_text by f.names t (entry_at f wb (final_state f b) p)) (threads_in f) (text_more by f b p))

  -- with the same transaction more they lead to the same again
  pub lead_more : SameLead by f (a ++ p ∷ []) (b ++ p ∷ [])
  lead_more = record { done = done_lead; threads = texts_lead; writers = writers_lead; state = state_lead }
