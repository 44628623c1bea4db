-- A store of one box whose worker has added 1 to it is not closed with the rows that it was opened with.
use Rattle.std.specs.Prelude.{slice_index_or}
use Rattle.std.specs.Int.{int_wrap}
use Rattle.std.proofs.Common.{◌≡◌, ℕ, zero, suc, ℤ, pos, ◌<◌, ◌≤◌, List, [], ◌∷◌, ◌++◌, length, refl, sym, ap, ◌∙◌, subst, arith}
use Rattle.std.proofs.lemmas.Bool.Decides.{nat_tests}
use Rattle.std.proofs.lemmas.List.Elements.{All-from_recursion, All-head}
use Rattle.sto_model.specs.Run.{State, state_along}
use Rattle.sto_script.specs.Meaning.{meaning_of}
use Rattle.sto_item.specs.Pending.{applied_updates}
use Rattle.sto_core.specs.declared.view.Entry.{Entry}
use Rattle.sto_core.specs.declared.view.View.{View}
use Rattle.sto_core.specs.Lists.{Each}
use Rattle.sto_core.specs.History.{Contents, Log, committed_updates, contents_as_of}
use Rattle.sto_core.specs.Views.{times}
use Rattle.sto_core.specs.Rule.{Fits, Settled, once, total, world_of}
use Rattle.sto_core.specs.Reopened.{reopened_view}
use Rattle.sto_history.specs.Records.{Wrote}
use Rattle.sto_history.specs.Counted.{times_committed}
use Rattle.sto_history.specs.History.{Transaction, times_numbered, StandsIn, IsStep, IsSerialHistory, LeadTo}
use Rattle.sto_history.specs.Done.{IsToldOf, AreDoneBy, HaveHistory}
use Rattle.sto_shared_store.specs.Working.{gathered_onto, AreLastRows, AreRowsAfter}
use Rattle.sto_test_premises.specs.Adding.{adding, box, valid, heard}
use Rattle.sto_test_premises.proofs.Adding.{committed, has_written, run_on_0}
use Rattle.sto_test_refusals.specs.Runs.{has_added, opening_rows, rows_with}
use Rattle.sto_test_refusals.proofs.Lists.{none_behind, one_is}

-- By the history of what it did

-- its transaction, by its ticket
abbrev added : Transaction
added = record { steps = meaning_of adding; replies = heard (pos 0); verdict = Wrote 1 }

-- the value of the box
abbrev value : State → ℤ
value rows = (slice_index_or (slice_index_or rows 0 []) 0 (pos 0, pos 0)).1

after_is_no_opening : opening_rows ≡ rows_with 1 → ⊥
after_is_no_opening e = let same : pos 0 ≡ pos 1 = ap value e in absurd cc

counted : (n : ℕ) → times_committed n has_added.entries ≡ times_numbered n (added ∷ [])
counted zero = refl
counted (suc zero) = refl
counted (suc (suc n)) = grind (arith, nat_tests)

told : IsToldOf box has_added added
told = record { ended = refl; told = has_written has_added 1 0 0 (pos 0) (pos 1) run_on_0 (0, refl) }

all_done : AreDoneBy box (has_added ∷ []) (added ∷ [])
all_done = (added ∷ [], [], refl, record { entries = counted; each = All-from_recursion (IsToldOf box has_added) (added ∷ []) (told, tt) }, refl)

module _ (clock : ℕ) (states : ℕ → State) (h : IsSerialHistory box.machines clock states (added ∷ [])) where
  step : IsStep box.machines clock states (meaning_of adding) (heard (pos 0)) 1
  step = All-head (λ (t : Transaction). StandsIn box.machines clock states t.steps t.replies t.verdict) added [] h.each

  at_first : states 1 ≡ rows_with 1
  unfolding int_wrap
  at_first =
      let first : step.before ≡ 0 = let n = step.next in omega (arith, n) in
      step.run.leaves ∙ ap (λ (st : State). state_along box.machines (meaning_of adding) st (heard (pos 0))) (ap states first ∙ h.opened)

  numbered : (k : ℕ) → times_numbered (suc (suc k)) (added ∷ []) ≡ 0
  numbered k = grind (arith, nat_tests)

  at_later : (k : ℕ) → suc k ≤ clock → states (suc k) ≡ rows_with 1
  at_later zero within = at_first
  at_later (suc k) within = h.still (suc k) (omega (arith, within)) (numbered k) ∙ at_later k (omega (arith, within))

  at_end : (n : ℕ) → clock ≡ n → states clock ≡ rows_with 1
  at_end zero same = let within = step.within in absurd (omega (arith, within, same))
  at_end (suc k) same = ap states same ∙ at_later k (omega (arith, same))

pub no_opening_history : HaveHistory box (has_added ∷ []) opening_rows → ⊥
no_opening_history h =
    let l : LeadTo box.machines (added ∷ []) opening_rows = h (added ∷ []) all_done in
    after_is_no_opening (l.ends ∙ at_end l.clock l.states l.history l.clock refl)

-- By the words after all commits

abbrev entry : Entry
entry = committed 1 0 0 (pos 0) (pos 1)

abbrev closed : View
closed = reopened_view has_added.sizes has_added.opening (has_added ∷ [])

-- more than one ticket was not drawn
second_once : (n : ℕ) → 1 ≤ once 2 (suc (suc n))
second_once zero = omega arith
second_once (suc n) = let before = second_once n in omega (arith, before)

one_ticket : (clock : ℕ) → once 1 clock ≡ 1 → once 2 clock ≡ 0 → clock ≡ 1
one_ticket zero first second = absurd (omega (arith, first))
one_ticket (suc zero) first second = refl
one_ticket (suc (suc n)) first second = let some_more = second_once n in absurd (omega (arith, some_more, second))

added_to : (opening : Contents) (log : Log) → box.opened ≡ opening → log 1 ≡ entry → contents_as_of opening log 1 ≡ (pos 1 ∷ []) ∷ []
added_to opening log same logged =
    ap (λ (e : Entry). applied_updates (committed_updates e) opening) logged ∙ ap (λ (c : Contents). applied_updates (committed_updates entry) c) (sym same)

-- the rows after all commits are those with 1
rows_are : (rows : State) → AreLastRows valid box has_added rows → rows ≡ rows_with 1
rows_are rows a =
    let rule = a.now.rule in
    let tickets : (t : ℕ) → total (λ (v : View). times t v.entries) (closed ∷ []) ≡ once t a.core.clock =
    λ t. subst (λ (vs : List View). total (λ (v : View). times t v.entries) vs ≡ once t a.core.clock) a.one_view (rule.once_each t) in
    let once_1 : 1 ≡ once 1 a.core.clock = tickets 1 in let once_2 : 0 ≡ once 2 a.core.clock = tickets 2 in
    let clock = one_ticket a.core.clock (sym once_1) (sym once_2) in
    let each : Each (Fits valid a.now.sizes a.now.opening (world_of a.now.past a.core) (Settled a.core.views)) (closed ∷ []) =
    subst (λ (vs : List View). Each (Fits valid a.now.sizes a.now.opening (world_of a.now.past a.core) (Settled a.core.views)) vs) a.one_view rule.each in
    let fits : Fits valid a.now.sizes a.now.opening (world_of a.now.past a.core) (Settled a.core.views) closed = each 0 closed refl in
    let live : 0 < 1 = omega arith in
    let same = (fits.serves live).same_opening in
    let logged : a.now.past.log 1 ≡ entry = (fits.entries 0 entry refl).logged in
    a.stand_for
    ∙ ap box.rows (a.now.are ∙ ap (contents_as_of a.now.opening a.now.past.log) clock ∙ added_to a.now.opening a.now.past.log same logged)

last_is : (others : List View) (last : View) → has_added ∷ [] ≡ others ++ last ∷ [] → gathered_onto others last ≡ has_added
last_is [] last e = sym (one_is has_added last e)
last_is (v ∷ others) last e =
    let rest : [] ≡ others ++ last ∷ [] = cc in let n : 0 ≡ 1 = ap length (none_behind others (last ∷ []) rest) in absurd (omega (arith, n))

pub added_rows : (rows : State) → AreRowsAfter valid box (has_added ∷ []) rows → rows ≡ rows_with 1
added_rows rows a = rows_are rows (subst (λ (v : View). AreLastRows valid box v rows) (last_is a.others a.last a.all) a.leave)

pub no_opening_rows : AreRowsAfter valid box (has_added ∷ []) opening_rows → ⊥
no_opening_rows a = after_is_no_opening (added_rows opening_rows a)
