-- A node, and one transaction more.
use Rattle.std.proofs.Common.{◌≡◌, ℕ, zero, suc, ◌+◌, ◌<◌, ◌≤◌, List, [], ◌∷◌, ◌++◌, length, map, refl, sym, ap, ◌∙◌, subst, Option, None, Some, slice_get, arith}
use Rattle.std.specs.Option.{option_map}
use Rattle.std.proofs.lemmas.List.{map-append}
use Rattle.std.proofs.lemmas.Option.{slice_get-map}
use Rattle.sto_lang.specs.Scripts.{File}
use Rattle.sto_report_spec.specs.Orders.{TransactionPlace as Place, count_in, numbers_from}
use Rattle.sto_checker.specs.declared.transaction.TransactionPlace.{TransactionPlace}
use Rattle.sto_checker.specs.Reading.{place_of}
use Rattle.sto_orders.specs.declared.same_by.SameBy.{SameBy}
use Rattle.sto_orders.specs.declared.key.Key.{Key}
use Rattle.sto_orders.specs.declared.way.Way.{Way}
use Rattle.sto_orders.specs.Outcomes.{threads_in}
use Rattle.sto_orders.specs.Keys.{done_in, IsKeyOf}
use Rattle.sto_orders.specs.Ways.{along, next_of, IsBeginning, IsWay, IsNextAt, LeadsOn}
use Rattle.sto_orders.proofs.Leading.{lead_by_key, lead_more, key_along}
use Rattle.sto_orders.proofs.Beginnings.{begins_on}

number_at : (first n t : ℕ) → t < n → slice_get (numbers_from first n) t ≡ Some (first + t)
number_at first zero t l = absurd (omega (arith, l))
number_at first (suc n) zero l = let same : first ≡ first + 0 = omega arith in ap (λ (k : ℕ). Some k) same
number_at first (suc n) (suc t) l = let same : suc first + t ≡ first + suc t = omega arith in number_at (suc first) n t (omega (arith, l)) ∙ ap (λ (k : ℕ). Some k) same

-- a key has how many transactions of each thread are done
pub done_at : (by : SameBy) (f : File) (order : List Place) (key : Key) (t : ℕ) → IsKeyOf by f order key → t < length f.threads → slice_get key.done.items t ≡ Some (done_in order t)
done_at by f order key t h l =
    ap (λ (ns : List ℕ). slice_get ns t) h.done
    ∙ slice_get-map (done_in order) (threads_in f) t
    ∙ ap (option_map (done_in order)) (number_at 0 (length f.threads) t l)
    ∙ (let same : 0 + t ≡ t = omega arith in ap (λ (k : ℕ). Some (done_in order k)) same)

long_map : {A : Type 0} (f : ℕ → A) (first n : ℕ) → length (map f (numbers_from first n)) ≡ n
long_map f first zero = refl
long_map f first (suc n) = ap suc (long_map f (suc first) n)

pub done_long : (by : SameBy) (f : File) (order : List Place) (key : Key) → IsKeyOf by f order key → length key.done.items ≡ length f.threads
done_long by f order key h = ap length h.done ∙ long_map (done_in order) 0 (length f.threads)

module _ (by : SameBy) (f : File) (count : ℕ) (key : Key) (w : Way) (at : TransactionPlace) (thread : ℕ) (is : IsWay by f count key w) (next : IsNextAt by f key thread at)
    (order : List TransactionPlace) (more : order ≡ w.order.items ++ at ∷ []) where
  pub along_new : along order ≡ along w.order.items ++ place_of at ∷ []
  along_new = ap along more ∙ map-append place_of w.order.items (at ∷ [])

  pub new_begins : IsBeginning f (suc count) (along order)
  new_begins =
      let n = next (along w.order.items) is.leads in
      subst (IsBeginning f (suc count)) (ap (λ (p : Place). along w.order.items ++ p ∷ []) n.0 ∙ sym along_new)
      (begins_on f count (along w.order.items) thread is.beginning n.1)

  pub leads_on : (new : Key) → IsKeyOf by f (along order) new → LeadsOn by f key at new
  leads_on new leads = λ o h.
      key_along by f (along w.order.items ++ place_of at ∷ []) (o ++ place_of at ∷ []) new
      (lead_more by f (along w.order.items) o (place_of at) (lead_by_key by f (along w.order.items) o key is.leads h))
      (subst (λ (ps : List Place). IsKeyOf by f ps new) along_new leads)
