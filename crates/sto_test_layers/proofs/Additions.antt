-- An addition to the one word of a counter, call by call.
use Rattle.std.proofs.Common.{◌≡◌, ◌<◌, ◌≤◌, ◌+◌, ◌||◌, ℕ, ℤ, pos, zero, suc, List, [], ◌∷◌, ◌++◌, map, length, true, false, Bool, eqb, sym, refl, ap, ◌∙◌, subst, arith}
use Rattle.std.specs.Prelude.{if◌then◌else◌, nat_eq}
use Rattle.std.proofs.lemmas.Bool.{eq-eqb, ne_eqb}
use mathlib.Core.Option.{some, some-ne-none}
use lib.ListN.{get_elem?}
use Rattle.sto_part.specs.Parts.{part_of}
use Rattle.sto_part.specs.Changes.{wrapped_sum}
use Rattle.sto_part.specs.declared.change.Change.{Change}
use Rattle.sto_item.specs.Pending.{change_at}
use Rattle.sto_core.specs.Puts.{IsPutOf}
use Rattle.sto_core.specs.declared.view.Entry.{Entry}
use Rattle.sto_core.specs.declared.view.Looked.{Looked}
use Rattle.sto_core.specs.declared.view.Held.{Held}
use Rattle.sto_core.specs.declared.view.Phase.{Phase}
use Rattle.sto_core.specs.declared.view.Phase.TheVariants.{Reading, Locking, Drawn, Won}
use Rattle.sto_core.specs.declared.view.View.{View}
use Rattle.sto_core.specs.History.{Contents}
use Rattle.sto_core.proofs.Lasting.{lasts}
use Rattle.sto_core.specs.Lists.{Each}
use Rattle.sto_core.specs.Reads.{was_read, value_read}
use Rattle.sto_core.specs.Views.{width_in, holds, hold_of, own_entry, own_ticket, entry_of, no_entry, drawn_entry}
use Rattle.sto_core.specs.Versions.{ticket_of, is_free}
use Rattle.sto_core.specs.Event.{Event, Start, Draw, Decide, Lock, Word, after, settle_entry, found, locked_by, read_by, with_held_read}
use Rattle.sto_core.specs.Allowed.{HasPart, HasWord, MayDecide, MayPut, IsConfirmed}
use Rattle.sto_test_layers.specs.Counter.{IsCounter, Rests, one_more}

pub has_part : (v : View) → IsCounter v.opening → HasPart v 0
has_part v counter = let l : length v.opening ≡ 1 = ap length counter.1 in omega arith

pub width_one : (v : View) → IsCounter v.opening → width_in v 0 ≡ 1
width_one v counter = ap (λ (c : Contents). length (part_of c 0)) counter.1

pub has_word : (v : View) → IsCounter v.opening → HasWord v 0 0
has_word v counter = (has_part v counter, (let w = width_one v counter in omega arith))

pub counter_after : (e : Event) (v : View) (n : ℕ) (x : ℤ) (w : View) → w ≡ after e v n x → IsCounter v.opening → IsCounter w.opening
counter_after e v n x w is counter =
    subst IsCounter (sym (ap (λ (u : View). u.opening) is ∙ (lasts e v n x).opening)) counter

-- after the start
module _ (v w : View) (n : ℕ) (is : w ≡ after Start v n (pos 0)) (least : ℕ) (r : Rests least v) where
  pub started_phase : w.phase ≡ Reading
  started_phase = ap (λ (u : View). u.phase) is

  pub started_at : w.at ≡ n
  started_at = ap (λ (u : View). u.at) is

  pub started_held : w.held ≡ []
  started_held = ap (λ (u : View). u.held) is ∙ r.held

  pub started_draws : w.draws ≡ v.draws
  started_draws = ap (λ (u : View). u.draws) is

  pub started_counter : IsCounter w.opening
  started_counter = counter_after Start v n (pos 0) w is r.counter

each_none : {A : Type 0} (P : A → Type 0) (l : List A) → l ≡ [] → Each P l
each_none P l none j x at = absurd (some-ne-none x (sym at ∙ ap (λ k. get_elem? k j) none))

-- what is held after the lock and the word
pub held_after : (v w u : View) (n : ℕ) (x : ℤ) → w ≡ after (Lock 0) v n (pos 0) → is_free n ≡ true → v.held ≡ []
    → u ≡ after (Word 0 0) w 0 x → u.held ≡ record { part = 0; ticket = ticket_of n; reads = (0, x) ∷ [] } ∷ []
held_after v w u n x locked free none read =
    let w_is : w ≡ locked_by true (found v 0 n) 0 n = locked ∙ ap (λ (b : Bool). locked_by b (found v 0 n) 0 n) free in
    let held : w.held ≡ record { part = 0; ticket = ticket_of n; reads = [] } ∷ [] =
    ap (λ (z : View). z.held) w_is ∙ ap (λ (l : List Held). l ++ record { part = 0; ticket = ticket_of n; reads = [] } ∷ []) none in
    let u_is : u ≡ read_by Locking w 0 0 x = read ∙ ap (λ (h : Phase). read_by h w 0 0 x) (ap (λ (z : View). z.phase) w_is) in
    ap (λ (z : View). z.held) u_is ∙ ap (map (with_held_read 0 0 x)) held

-- the entry of a ticket above all others is the last
pub entry_last : (n : ℕ) (es : List Entry) (e : Entry) → Each (λ (x : Entry). x.ticket ≤ n) es → e.ticket ≡ suc n
    → entry_of (suc n) (es ++ e ∷ []) ≡ e
entry_last n [] e below is = ap (λ (b : Bool). if b then e else no_entry) (eq-eqb (suc n) e.ticket (sym is))
entry_last n (x ∷ xs) e below is =
    let le = below 0 x refl in
    ap (λ (b : Bool). if b then x else entry_of (suc n) (xs ++ e ∷ [])) (ne_eqb (suc n) x.ticket (λ q. omega arith))
    ∙ entry_last n xs e (λ j y at. below (suc j) y at) is

-- a decision leaves the updates of each entry
settled_updates : (b : Bool) (t : ℕ) (es : List Entry)
    → (entry_of t (map (settle_entry b) es)).updates ≡ (entry_of t es).updates
settled_updates b t [] = refl
settled_updates b t (x ∷ xs) = by_test (nat_eq t x.ticket) (settled_updates b t xs)
  where
    by_test : (c : Bool) → (entry_of t (map (settle_entry b) xs)).updates ≡ (entry_of t xs).updates
        → (if c then settle_entry b x else entry_of t (map (settle_entry b) xs)).updates
        ≡ (if c then x else entry_of t xs).updates
    by_test true rest = refl
    by_test false rest = rest

module _ (v w : View) (n : ℕ) (is : w ≡ after (Draw one_more [] []) v n (pos 0))
    (below : Each (λ (e : Entry). e.ticket ≤ n) v.entries) where
  pub drawn_phase : w.phase ≡ Drawn (suc n)
  drawn_phase = ap (λ (u : View). u.phase) is

  pub drawn_held : w.held ≡ v.held
  drawn_held = ap (λ (u : View). u.held) is

  pub own_is : own_entry w ≡ drawn_entry v (suc n) one_more [] []
  own_is =
      (λ j. entry_of (own_ticket (drawn_phase j)) (is j).entries)
      ∙ entry_last n v.entries (drawn_entry v (suc n) one_more [] []) below refl

  pub may_decide : MayDecide true w
  may_decide = ((suc n, drawn_phase), each_none (IsConfirmed w) (own_entry w).looked (ap (λ (e : Entry). e.looked) own_is))

  module _ (u : View) (decided_is : u ≡ after (Decide true) w 0 (pos 0)) where
    pub won_phase : u.phase ≡ Won (suc n) []
    won_phase = ap (λ (z : View). z.phase) decided_is ∙ ap (λ (h : Phase). Rattle.sto_core.specs.Event.decided true (own_ticket h)) drawn_phase

    pub won_held : u.held ≡ v.held
    won_held = ap (λ (z : View). z.held) decided_is ∙ drawn_held

    pub updates_are : (own_entry u).updates ≡ one_more
    updates_are =
        (λ j. (entry_of (own_ticket (won_phase j)) (decided_is j).entries).updates)
        ∙ (settled_updates true (suc n) w.entries
        ∙ ((λ j. (entry_of (own_ticket (sym drawn_phase j)) w.entries).updates) ∙ ap (λ (e : Entry). e.updates) own_is))

    pub may_put : (t : ℕ) (x y : ℤ) → v.held ≡ record { part = 0; ticket = t; reads = (0, x) ∷ [] } ∷ []
        → IsCounter u.opening → y ≡ wrapped_sum x (pos 1) → MayPut 0 0 y u u.phase
    may_put t x y held counter sum =
        let now = won_held ∙ held in
        subst (MayPut 0 0 y u) (sym won_phase) (
          ap (holds 0) now,
          has_word u counter,
          subst (λ (z : List (ℕ × List Change) × List Held). IsPutOf (change_at z.0 0 0) (hold_of 0 z.1).reads 0 y)
              (λ j. (sym updates_are j, sym now j)) (refl, sum),
        )
