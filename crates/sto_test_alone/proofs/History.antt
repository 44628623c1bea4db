-- What happened between two states of words with one pass, by what the pass knows.
use Rattle.std.specs.Prelude.{if◌then◌else◌, nat_eq}
use mathlib.Core.Option.{some, some-ne-none, some-injective}
use lib.ListN.{get_elem?}
use Rattle.std.proofs.Common.{◌≡◌, ◌≤◌, ◌<◌, ◌+◌, ℕ, zero, suc, List, [], ◌∷◌, refl, sym, ap, ◌∙◌, subst, arith, inl, inr, Bool, true, false, eq-eqb}
use Rattle.std.proofs.lemmas.Bool.{cases_eq, cases_lt}
use Rattle.std.proofs.lemmas.Bool.Decides.{nat_tests}
use Rattle.sto_item.specs.Pending.{applied_updates}
use Rattle.sto_core.specs.declared.view.Entry.{Entry}
use Rattle.sto_core.specs.declared.view.Fate.{Fate}
use Rattle.sto_core.specs.declared.view.Fate.TheVariants.{Pending, Committed, Dropped}
use Rattle.sto_core.specs.declared.view.View.{View}
use Rattle.sto_core.specs.Core.{Core}
use Rattle.sto_core.specs.Lists.{Each, Among}
use Rattle.sto_core.specs.History.{Contents, Validity, Updates, Log, if_committed, committed_updates, contents_as_of}
use Rattle.sto_core.specs.Views.{times}
use Rattle.sto_core.specs.Rule.{Past, Rule, IsLogged, total}
use Rattle.sto_core.proofs.Entries.{time_at, once_within}
use Rattle.sto_history.specs.Counted.{if_won, times_committed}

-- a committed entry is counted
count_one : (e : Entry) → e.fate ≡ Committed → (t : ℕ) → e.ticket ≡ t → (if nat_eq t e.ticket then if_won e.fate else 0) ≡ 1
count_one e won t is = ap (λ (b : Bool). if b then if_won e.fate else 0) (eq-eqb t e.ticket (sym is)) ∙ ap if_won won

pub counted_at : (t : ℕ) (es : List Entry) (e : Entry) (j : ℕ) → get_elem? es j ≡ some e → e.ticket ≡ t → e.fate ≡ Committed → 0 < times_committed t es
counted_at t [] e j at is won = absurd (some-ne-none e (sym at))
counted_at t (x ∷ es) e zero at is won =
    let same : x ≡ e = some-injective x e at in
    let one : (if nat_eq t x.ticket then if_won x.fate else 0) ≡ 1 = subst (λ (y : Entry). (if nat_eq t y.ticket then if_won y.fate else 0) ≡ 1) (sym same) (count_one e won t is) in
    omega (arith, one)
counted_at t (x ∷ es) e (suc j) at is won = let rest = counted_at t es e j at is won in omega (arith, rest)

-- what is counted is there
pub record IsWon (t : ℕ) (es : List Entry) : Type 0 where
  pub entry : Entry
  pub there : Among entry es
  pub ticket : entry.ticket ≡ t
  pub won : entry.fate ≡ Committed

won_later : (t : ℕ) (x : Entry) (es : List Entry) → IsWon t es → IsWon t (x ∷ es)
won_later t x es h = record { entry = h.entry; there = (suc h.there.0, h.there.1); ticket = h.ticket; won = h.won }

is_eq : (a b : ℕ) → nat_eq a b ≡ true → a ≡ b
is_eq a b h = elim (cases_eq a b) [
  | inl same ↦ same
  | inr other ↦ absurd (let no : nat_eq a b ≡ false = grind (arith, nat_tests) in let e = sym h ∙ no in cc)
]

pub won_at : (t : ℕ) (es : List Entry) → 0 < times_committed t es → IsWon t es
won_at t [] h = absurd (omega (arith, h))
won_at t (x ∷ es) h = by (nat_eq t x.ticket) x.fate refl refl (won_at t es)
  where
    by : (b : Bool) (f : Fate) → nat_eq t x.ticket ≡ b → x.fate ≡ f → (0 < times_committed t es → IsWon t es) → IsWon t (x ∷ es)
    by true Committed same won later = record { entry = x; there = (0, refl); ticket = sym (is_eq t x.ticket same); won = won }
    by true Pending same fate later = won_later t x es (later (let none : (if nat_eq t x.ticket then if_won x.fate else 0) ≡ 0 = ap (λ (c : Bool). if c then if_won x.fate else 0) same ∙ ap if_won fate in omega (arith, h, none)))
    by true Dropped same fate later = won_later t x es (later (let none : (if nat_eq t x.ticket then if_won x.fate else 0) ≡ 0 = ap (λ (c : Bool). if c then if_won x.fate else 0) same ∙ ap if_won fate in omega (arith, h, none)))
    by false f other fate later = won_later t x es (later (let none : (if nat_eq t x.ticket then if_won x.fate else 0) ≡ 0 = ap (λ (c : Bool). if c then if_won x.fate else 0) other in omega (arith, h, none)))

-- nothing is installed by what is not committed
nothing_by : (f : Fate) (us : Updates) → (f ≡ Committed → ⊥) → if_committed f us ≡ []
nothing_by Pending us h = refl
nothing_by Committed us h = absurd (h refl)
nothing_by Dropped us h = refl

-- The words of one pass, by a past that meets the rule.
module _ {valid : Validity} {sizes : List ℕ} {opening : Contents} {past : Past} {core : Core} (rule : Rule valid sizes opening past core) (v : View) (one : core.views ≡ v ∷ []) where
  seat : get_elem? core.views 0 ≡ some v
  seat = ap (λ (l : List View). get_elem? l 0) one

  pub entries_logged : Each (IsLogged valid sizes opening past.log core.clock) v.entries
  entries_logged = (rule.each 0 v seat).entries

  -- each ticket has its entry in the view
  pub entry_there : (t : ℕ) → 0 < t → t ≤ core.clock → (j : ℕ) × (e : Entry) × (get_elem? v.entries j ≡ some e) × (e.ticket ≡ t)
  entry_there t above within =
      let all : total (λ view. times t view.entries) core.views ≡ times t v.entries + 0 = ap (total (λ view. times t view.entries)) one in
      let some_one : 0 < times t v.entries = (let o = rule.once_each t in let k = once_within t core.clock above within in omega (arith, all, o, k)) in
      time_at t v.entries some_one

  -- what a ticket installed
  pub installed : (t : ℕ) → 0 < t → t ≤ core.clock → (h : IsWon t v.entries) → committed_updates (past.log t) ≡ h.entry.updates
  installed t above within h =
      let logged : past.log h.entry.ticket ≡ h.entry = (entries_logged h.there.0 h.entry h.there.1).logged in
      ap (λ (n : ℕ). committed_updates (past.log n)) (sym h.ticket) ∙ ap committed_updates logged ∙ ap (λ (f : Fate). if_committed f h.entry.updates) h.won

  pub nothing : (t : ℕ) → 0 < t → t ≤ core.clock → times_committed t v.entries ≡ 0 → committed_updates (past.log t) ≡ []
  nothing t above within none =
      let e = entry_there t above within in
      let logged : past.log e.1.ticket ≡ e.1 = (entries_logged e.0 e.1 e.2).logged in
      ap (λ (n : ℕ). committed_updates (past.log n)) (sym e.3) ∙ ap committed_updates logged
      ∙ nothing_by e.1.fate e.1.updates (λ won. absurd (let some = counted_at t v.entries e.1 e.0 e.2 e.3 won in omega (arith, some, none)))

  pub none_above : (t : ℕ) → core.clock < t → times_committed t v.entries ≡ 0
  none_above t past_it = elim (cases_lt 0 (times_committed t v.entries)) [
    | inl held ↦ absurd (let h = won_at t v.entries held in let within = (entries_logged h.there.0 h.entry h.there.1).within in let is = h.ticket in omega (arith, within, is, past_it))
    | inr none ↦ omega (arith, none)
  ]

-- Two histories that install the same up to a number have the same contents.
pub same_contents : (opening : Contents) (a b : Log) (n : ℕ) → ((t : ℕ) → 0 < t → t ≤ n → committed_updates (a t) ≡ committed_updates (b t)) → contents_as_of opening a n ≡ contents_as_of opening b n
same_contents opening a b zero h = refl
same_contents opening a b (suc n) h =
    let before = same_contents opening a b n (λ t above within. h t above (omega (arith, within))) in
    ap (λ (us : Updates). applied_updates us (contents_as_of opening a n)) (h (suc n) (omega arith) (omega arith))
    ∙ ap (λ (c : Contents). applied_updates (committed_updates (b (suc n))) c) before

-- where nothing is installed, they stay
pub still_contents : (opening : Contents) (log : Log) (n more : ℕ) → ((t : ℕ) → n < t → t ≤ n + more → committed_updates (log t) ≡ []) → contents_as_of opening log (n + more) ≡ contents_as_of opening log n
still_contents opening log n zero h = let same : n + 0 ≡ n = omega arith in ap (contents_as_of opening log) same
still_contents opening log n (suc more) h =
    let next : n + suc more ≡ suc (n + more) = omega arith in
    let none : committed_updates (log (suc (n + more))) ≡ [] = h (suc (n + more)) (omega arith) (omega arith) in
    ap (contents_as_of opening log) next ∙ ap (λ (us : Updates). applied_updates us (contents_as_of opening log (n + more))) none
    ∙ still_contents opening log n more (λ t above within. h t above (omega (arith, within)))
