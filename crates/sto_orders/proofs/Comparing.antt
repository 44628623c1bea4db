-- Keys that are compared.
use Rattle.std.proofs.Common.{◌≡◌, ℕ, ℤ, List, [], ◌∷◌, map, refl, sym, ap, ◌∙◌, subst}
use Rattle.std.specs.Prelude.{string_bytes}
use Rattle.std.specs.String.{string_cmp, string_cmp_total}
use Rattle.std.specs.declared.string.String.{String}
use Rattle.std.specs.declared.vec.Vec.{Vec}
use Rattle.std.specs.declared.alloc.Global.{Global}
use Rattle.std.specs.declared.cmp.Ordering.{Ordering}
use Rattle.std.specs.declared.cmp.Ordering.TheVariants.{Less, Equal, Greater}
use Rattle.std.specs.Ordering.{nat_cmp, int_cmp, ordering_then}
use Rattle.std.specs.Cmp.{IsTotalOrder}
use Rattle.std.specs.Cmp.Lexicographic.{slice_cmp}
use Rattle.std.proofs.lemmas.Cmp.{tied_itself, nat_cmp_total, int_cmp_total, on_total, then_total, nat_list_cmp_total, lists_total}
use Rattle.std.proofs.lemmas.Map.Lookups.{exact_unsigned, exact_signed, exact_bytes, exact_pairs}
use Rattle.sto_lang.specs.Scripts.{File}
use Rattle.sto_report_spec.specs.Orders.{TransactionPlace}
use Rattle.sto_orders.specs.declared.same_by.SameBy.{SameBy}
use Rattle.sto_orders.specs.declared.key.Key.{Key}
use Rattle.sto_orders.specs.Outcomes.{OrderEnd, end_of}
use Rattle.sto_orders.specs.Keys.{key_cmp, IsKeyOf}
use Rattle.sto_orders.proofs.Leading.{SameLead}

-- Lists that are compared item by item.

both_equal : (a b : Ordering) → ordering_then a b ≡ Equal → (a ≡ Equal) × (b ≡ Equal)
both_equal Less b e = absurd cc
both_equal Equal b e = (refl, e)
both_equal Greater b e = absurd cc

then_equal : (a b : Ordering) → a ≡ Equal → b ≡ Equal → ordering_then a b ≡ Equal
then_equal a b p q = ap (λ (o : Ordering). ordering_then o b) p ∙ q

equal_lists : {A B : Type 0} (R : A → A → Ordering) (f : A → B) → ((x y : A) → R x y ≡ Equal → f x ≡ f y) → (xs ys : List A) → slice_cmp R xs ys ≡ Equal → map f xs ≡ map f ys
equal_lists R f h [] [] e = refl
equal_lists R f h [] (y ∷ ys) e = absurd cc
equal_lists R f h (x ∷ xs) [] e = absurd cc
equal_lists {A} {B} R f h (x ∷ xs) (y ∷ ys) e =
    let k = both_equal (R x y) (slice_cmp R xs ys) e in
    ap (λ (b : B). b ∷ map f xs) (h x y k.0) ∙ ap (λ (bs : List B). f y ∷ bs) (equal_lists R f h xs ys k.1)

exact_list : {A : Type 0} (R : A → A → Ordering) → ((x y : A) → R x y ≡ Equal → x ≡ y) → (xs ys : List A) → slice_cmp R xs ys ≡ Equal → xs ≡ ys
exact_list R h [] [] e = refl
exact_list R h [] (y ∷ ys) e = absurd cc
exact_list R h (x ∷ xs) [] e = absurd cc
exact_list {A} R h (x ∷ xs) (y ∷ ys) e =
    let k = both_equal (R x y) (slice_cmp R xs ys) e in
    ap (λ (a : A). a ∷ xs) (h x y k.0) ∙ ap (λ (zs : List A). y ∷ zs) (exact_list R h xs ys k.1)

tied_lists : {A B : Type 0} (R : A → A → Ordering) (f : A → B) → ((x y : A) → f x ≡ f y → R x y ≡ Equal) → (xs ys : List A) → map f xs ≡ map f ys → slice_cmp R xs ys ≡ Equal
tied_lists R f h [] [] e = refl
tied_lists R f h [] (y ∷ ys) e = absurd cc
tied_lists R f h (x ∷ xs) [] e = absurd cc
tied_lists R f h (x ∷ xs) (y ∷ ys) e =
    let first : f x ≡ f y = cc in
    let rest : map f xs ≡ map f ys = cc in
    then_equal (R x y) (slice_cmp R xs ys) (h x y first) (tied_lists R f h xs ys rest)

tied_eq : {A : Type 0} (R : A → A → Ordering) → IsTotalOrder R → (x y : A) → x ≡ y → R x y ≡ Equal
tied_eq {A} R o x y e = subst (λ (z : A). R x z ≡ Equal) e (tied_itself o x)

-- Rows.

abbrev pair_cmp : ℤ × ℤ → ℤ × ℤ → Ordering
pair_cmp p q = ordering_then (int_cmp p.0 q.0) (int_cmp p.1 q.1)

abbrev Rows : Type 0
Rows = Vec (ℤ × ℤ) Global

pair_total : IsTotalOrder pair_cmp
pair_total = then_total (on_total (λ (p : ℤ × ℤ). p.0) int_cmp_total) (on_total (λ (p : ℤ × ℤ). p.1) int_cmp_total)

rows_total : IsTotalOrder (slice_cmp pair_cmp)
rows_total = lists_total pair_total

-- Keys, part by part.

abbrev cmp_done : Key → Key → Ordering
cmp_done x y = slice_cmp nat_cmp x.done.items y.done.items

abbrev cmp_threads : Key → Key → Ordering
cmp_threads x y = slice_cmp string_cmp x.threads.items y.threads.items

abbrev cmp_writers : Key → Key → Ordering
cmp_writers x y = nat_cmp x.writers y.writers

abbrev rows_cmp : Rows → Rows → Ordering
rows_cmp a b = slice_cmp pair_cmp a.items b.items

abbrev cmp_rows : Key → Key → Ordering
cmp_rows x y = slice_cmp rows_cmp x.rows.items y.rows.items

by_parts : (x y : Key) → key_cmp x y ≡ ordering_then (cmp_done x y) (ordering_then (cmp_threads x y) (ordering_then (cmp_writers x y) (cmp_rows x y)))
by_parts x y = refl

pub key_total : IsTotalOrder key_cmp
key_total =
    then_total (on_total (λ (k : Key). k.done.items) nat_list_cmp_total)
    (then_total (on_total (λ (k : Key). k.threads.items) (lists_total string_cmp_total))
    (then_total (on_total (λ (k : Key). k.writers) nat_cmp_total)
    (on_total (λ (k : Key). k.rows.items) (lists_total (on_total (λ (v : Rows). v.items) rows_total)))))

-- the parts of two keys are the same
pub record Agree (x y : Key) : Type 0 where
  pub done : x.done.items ≡ y.done.items
  pub threads : map string_bytes x.threads.items ≡ map string_bytes y.threads.items
  pub writers : x.writers ≡ y.writers
  pub rows : map (λ (v : Rows). v.items) x.rows.items ≡ map (λ (v : Rows). v.items) y.rows.items

pub agree_by_cmp : (x y : Key) → key_cmp x y ≡ Equal → Agree x y
agree_by_cmp x y e =
    let one = both_equal (cmp_done x y) (ordering_then (cmp_threads x y) (ordering_then (cmp_writers x y) (cmp_rows x y))) (sym (by_parts x y) ∙ e) in
    let two = both_equal (cmp_threads x y) (ordering_then (cmp_writers x y) (cmp_rows x y)) one.1 in
    let three = both_equal (cmp_writers x y) (cmp_rows x y) two.1 in
    record {
      done = exact_bytes x.done.items y.done.items one.0;
      threads = equal_lists string_cmp string_bytes (λ (a b : String Global) h. exact_bytes (string_bytes a) (string_bytes b) h) x.threads.items y.threads.items two.0;
      writers = exact_unsigned x.writers y.writers three.0;
      rows = equal_lists rows_cmp (λ (v : Rows). v.items)
          (λ (a b : Rows) h. exact_list pair_cmp (exact_pairs int_cmp int_cmp exact_signed exact_signed) a.items b.items h) x.rows.items y.rows.items three.1;
    }

pub cmp_by_agree : (x y : Key) → Agree x y → key_cmp x y ≡ Equal
cmp_by_agree x y h =
    by_parts x y
    ∙ then_equal (cmp_done x y) (ordering_then (cmp_threads x y) (ordering_then (cmp_writers x y) (cmp_rows x y)))
    (tied_eq (slice_cmp nat_cmp) nat_list_cmp_total x.done.items y.done.items h.done)
    (then_equal (cmp_threads x y) (ordering_then (cmp_writers x y) (cmp_rows x y))
    (tied_lists string_cmp string_bytes (λ (a b : String Global) e. tied_eq (slice_cmp nat_cmp) nat_list_cmp_total (string_bytes a) (string_bytes b) e) x.threads.items y.threads.items h.threads)
    (then_equal (cmp_writers x y) (cmp_rows x y)
    (tied_eq nat_cmp nat_cmp_total x.writers y.writers h.writers)
    (tied_lists rows_cmp (λ (v : Rows). v.items) (λ (a b : Rows) e. tied_eq (slice_cmp pair_cmp) rows_total a.items b.items e) x.rows.items y.rows.items h.rows)))

-- Keys of orders.

pub key_agree : (by : SameBy) (f : File) (order : List TransactionPlace) (x y : Key) → Agree x y → IsKeyOf by f order x → IsKeyOf by f order y
key_agree by f order x y a h = record {
  done = sym a.done ∙ h.done;
  threads = sym a.threads ∙ h.threads;
  writers = sym a.writers ∙ h.writers;
  rows = sym a.rows ∙ h.rows;
}

pub agree_by_lead : (by : SameBy) (f : File) (a b : List TransactionPlace) (x y : Key) → SameLead by f a b → IsKeyOf by f a x → IsKeyOf by f b y → Agree x y
agree_by_lead by f a b x y s h k = record {
  done = h.done ∙ s.done ∙ sym k.done;
  threads = h.threads ∙ s.threads ∙ sym k.threads;
  writers = h.writers ∙ s.writers ∙ sym k.writers;
  rows = h.rows ∙ s.state ∙ sym k.rows;
}
