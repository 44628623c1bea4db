-- Two events that lead from one view to the same are told alike, but for which load of a version that led no further it was.
use Rattle.std.specs.Prelude.{nat_eq}
use Rattle.std.proofs.Common.{◌≡◌, ◌+◌, ◌*◌, ℕ, ℤ, List, [], ◌∷◌, ◌++◌, length, length-append, Option, None, Some, Bool, true, false, refl, sym, ap, ◌∙◌, arith, inl, inr, zero, suc, if◌then◌else◌}
use Rattle.std.proofs.lemmas.List.{length-map}
use Rattle.std.proofs.lemmas.Bool.{cases_Bool}
use Rattle.sto_core.specs.declared.view.Finding.{Finding}
use Rattle.sto_core.specs.declared.view.OpenRead.{OpenRead}
use Rattle.sto_core.specs.declared.view.Phase.{Phase}
use Rattle.sto_core.specs.declared.view.Phase.TheVariants.{Idle, Reading, Looking, Locking, Testing, Drawn, Won, Lost}
use Rattle.sto_core.specs.declared.view.View.{View}
use Rattle.sto_core.specs.Views.{holds}
use Rattle.sto_core.specs.Event.{Event, Start, Open, Word, Close, Renew, Recheck, Lock, Test, Draw, Check, Decide, Put, Release, Unlock, after, found, read_by, closed_by, claimed, rechecked_by, locked_by, checked_by, is_claimed_still, passes_check}
use Rattle.sto_core.specs.Versions.{is_free}
use Rattle.sto_trace.specs.declared.Deed.{Deed}
use Rattle.sto_trace.specs.declared.Deed.TheVariants as deeds
use Rattle.sto_trace.specs.Deeds.{deed_of, version_with}
use Rattle.sto_test_refusals.proofs.Lists.{last_same}
use Rattle.sto_test_program_refusals.specs.Told.{plain, version_told, start_told, ticket_told}

-- What is found

-- the findings with one more, where a version was found
abbrev found_after : View → Option (ℕ × ℕ) → List Finding
found_after v None = v.findings
found_after v (Some at) = v.findings ++ record { start = v.starts; part = at.0; version = at.1; held = holds at.0 v.held } ∷ []

read_finds : (h : Phase) (v : View) (p i : ℕ) (x : ℤ) → (read_by h v p i x).findings ≡ v.findings
read_finds Idle v p i x = refl
read_finds Reading v p i x = refl
read_finds (Looking r) v p i x = refl
read_finds Locking v p i x = refl
read_finds (Testing r) v p i x = refl
read_finds (Drawn t) v p i x = refl
read_finds (Won t puts) v p i x = refl
read_finds (Lost t) v p i x = refl

-- a claim is no finding, no start and no entry
claims_no_more : (v : View) (number : ℕ) (r : OpenRead) (n : ℕ)
    → ((claimed v number r n).findings ≡ v.findings) × ((claimed v number r n).starts ≡ v.starts) × ((claimed v number r n).entries ≡ v.entries)
claims_no_more v number r n = elim (cases_Bool (nat_eq n (2 * r.ticket))) [
  | inl hit ↦ rw hit (refl, refl, refl)
  | inr miss ↦ rw miss (refl, refl, refl)
]

close_adds : (h : Phase) (v : View) (n : ℕ) → ((closed_by h v n).findings ≡ v.findings) × ((closed_by h v n).starts ≡ v.starts) × ((closed_by h v n).entries ≡ v.entries)
close_adds Idle v n = (refl, refl, refl)
close_adds Reading v n = (refl, refl, refl)
close_adds (Looking r) v n = claims_no_more v v.at r n
close_adds Locking v n = (refl, refl, refl)
close_adds (Testing r) v n = claims_no_more v r.ticket r n
close_adds (Drawn t) v n = (refl, refl, refl)
close_adds (Won t puts) v n = (refl, refl, refl)
close_adds (Lost t) v n = (refl, refl, refl)

recheck_adds : (b : Bool) (v : View) (p n : ℕ) → ((rechecked_by b v p n).findings ≡ v.findings) × ((rechecked_by b v p n).starts ≡ v.starts) × ((rechecked_by b v p n).entries ≡ v.entries)
recheck_adds true v p n = (refl, refl, refl)
recheck_adds false v p n = (refl, refl, refl)

lock_adds : (b : Bool) (v : View) (p n : ℕ) → ((locked_by b v p n).findings ≡ v.findings) × ((locked_by b v p n).starts ≡ v.starts) × ((locked_by b v p n).entries ≡ v.entries)
lock_adds true v p n = (refl, refl, refl)
lock_adds false v p n = (refl, refl, refl)

check_adds : (b : Bool) (v : View) (p n : ℕ) → ((checked_by b v p n).findings ≡ v.findings) × ((checked_by b v p n).starts ≡ v.starts) × ((checked_by b v p n).entries ≡ v.entries)
check_adds true v p n = (refl, refl, refl)
check_adds false v p n = (refl, refl, refl)

read_starts : (h : Phase) (v : View) (p i : ℕ) (x : ℤ) → ((read_by h v p i x).starts ≡ v.starts) × ((read_by h v p i x).entries ≡ v.entries)
read_starts Idle v p i x = (refl, refl)
read_starts Reading v p i x = (refl, refl)
read_starts (Looking r) v p i x = (refl, refl)
read_starts Locking v p i x = (refl, refl)
read_starts (Testing r) v p i x = (refl, refl)
read_starts (Drawn t) v p i x = (refl, refl)
read_starts (Won t puts) v p i x = (refl, refl)
read_starts (Lost t) v p i x = (refl, refl)

finds : (e : Event) (v : View) (n : ℕ) (x : ℤ) → (after e v n x).findings ≡ found_after v (version_told (deed_of e n x))
finds Start v n x = refl
finds (Open p) v n x = refl
finds (Word p i) v n x = read_finds v.phase v p i x
finds (Close p) v n x = (close_adds v.phase (found v p n) n).0
finds Renew v n x = refl
finds (Recheck p) v n x = (recheck_adds (is_claimed_still v p n) (found v p n) p n).0
finds (Lock p) v n x = (lock_adds (is_free n) (found v p n) p n).0
finds (Test p) v n x = refl
finds (Draw us seen loaded) v n x = refl
finds (Check p) v n x = (check_adds (passes_check v p n) (found v p n) p n).0
finds (Decide commit) v n x = refl
finds (Put p i y) v n x = refl
finds (Release p) v n x = refl
finds (Unlock p) v n x = refl

more_found : (v : View) (at : ℕ × ℕ) → found_after v None ≡ found_after v (Some at) → ⊥
more_found v at e =
    let many : length v.findings ≡ length (found_after v (Some at)) = ap length e in
    let one : length (found_after v (Some at)) ≡ length v.findings + 1 = length-append v.findings _ in omega (arith, many, one)

same_found : (v : View) (o q : Option (ℕ × ℕ)) → found_after v o ≡ found_after v q → o ≡ q
same_found v None None e = refl
same_found v None (Some at) e = absurd (more_found v at e)
same_found v (Some at) None e = absurd (more_found v at (sym e))
same_found v (Some at) (Some other) e = ap (λ (f : Finding). Some (f.part, f.version)) (last_same v.findings _ _ e)

pub some_same : {X : Type 0} {x y : X} → Some x ≡ Some y → x ≡ y
some_same e = cc

-- A start

abbrev started : View → Option ℕ → ℕ
started v None = v.starts
started v (Some clock) = v.starts + 1

starts : (e : Event) (v : View) (n : ℕ) (x : ℤ) → (after e v n x).starts ≡ started v (start_told (deed_of e n x))
starts Start v n x = refl
starts (Open p) v n x = refl
starts (Word p i) v n x = (read_starts v.phase v p i x).0
starts (Close p) v n x = (close_adds v.phase (found v p n) n).1
starts Renew v n x = refl
starts (Recheck p) v n x = (recheck_adds (is_claimed_still v p n) (found v p n) p n).1
starts (Lock p) v n x = (lock_adds (is_free n) (found v p n) p n).1
starts (Test p) v n x = refl
starts (Draw us seen loaded) v n x = refl
starts (Check p) v n x = (check_adds (passes_check v p n) (found v p n) p n).1
starts (Decide commit) v n x = refl
starts (Put p i y) v n x = refl
starts (Release p) v n x = refl
starts (Unlock p) v n x = refl

start_clock : (e : Event) (v : View) (n : ℕ) (x : ℤ) (clock : ℕ) → start_told (deed_of e n x) ≡ Some clock → (after e v n x).at ≡ clock
start_clock Start v n x clock told = some_same told
start_clock (Open p) v n x clock told = cc
start_clock (Word p i) v n x clock told = cc
start_clock (Close p) v n x clock told = cc
start_clock Renew v n x clock told = cc
start_clock (Recheck p) v n x clock told = cc
start_clock (Lock p) v n x clock told = cc
start_clock (Test p) v n x clock told = cc
start_clock (Draw us seen loaded) v n x clock told = cc
start_clock (Check p) v n x clock told = cc
start_clock (Decide commit) v n x clock told = cc
start_clock (Put p i y) v n x clock told = cc
start_clock (Release p) v n x clock told = cc
start_clock (Unlock p) v n x clock told = cc

-- A draw

abbrev drawn_after : View → Option ℕ → ℕ
drawn_after v None = length v.entries
drawn_after v (Some ticket) = length v.entries + 1

draws : (e : Event) (v : View) (n : ℕ) (x : ℤ) → length (after e v n x).entries ≡ drawn_after v (ticket_told (deed_of e n x))
draws Start v n x = refl
draws (Open p) v n x = refl
draws (Word p i) v n x = ap length (read_starts v.phase v p i x).1
draws (Close p) v n x = ap length (close_adds v.phase (found v p n) n).2
draws Renew v n x = refl
draws (Recheck p) v n x = ap length (recheck_adds (is_claimed_still v p n) (found v p n) p n).2
draws (Lock p) v n x = ap length (lock_adds (is_free n) (found v p n) p n).2
draws (Test p) v n x = refl
draws (Draw us seen loaded) v n x = length-append v.entries _
draws (Check p) v n x = ap length (check_adds (passes_check v p n) (found v p n) p n).2
draws (Decide commit) v n x = length-map v.entries _
draws (Put p i y) v n x = refl
draws (Release p) v n x = refl
draws (Unlock p) v n x = refl

draw_ticket : (e : Event) (v : View) (n : ℕ) (x : ℤ) (ticket : ℕ) → ticket_told (deed_of e n x) ≡ Some ticket → (after e v n x).phase ≡ Drawn ticket
draw_ticket Start v n x ticket told = cc
draw_ticket (Open p) v n x ticket told = cc
draw_ticket (Word p i) v n x ticket told = cc
draw_ticket (Close p) v n x ticket told = cc
draw_ticket Renew v n x ticket told = cc
draw_ticket (Recheck p) v n x ticket told = cc
draw_ticket (Lock p) v n x ticket told = cc
draw_ticket (Test p) v n x ticket told = cc
draw_ticket (Draw us seen loaded) v n x ticket told = ap Drawn (some_same told)
draw_ticket (Check p) v n x ticket told = cc
draw_ticket (Decide commit) v n x ticket told = cc
draw_ticket (Put p i y) v n x ticket told = cc
draw_ticket (Release p) v n x ticket told = cc
draw_ticket (Unlock p) v n x ticket told = cc

abbrev ticket_in : Phase → ℕ
ticket_in (Drawn t) = t
ticket_in other = 0

-- What the deed is, by what it tells

-- which load of a version it was
abbrev pub load : Deed → ℕ
load (deeds.Close part version) = 1
load (deeds.Check part version) = 2
load (deeds.Lock part version) = if is_free version.0 then 3 else 0
load deed = 0

-- the plain deed of a load
abbrev pub loading : ℕ → ℕ × ℕ → Deed
loading zero at = deeds.Open at.0 (version_with at.1)
loading (suc zero) at = deeds.Close at.0 (version_with at.1)
loading (suc (suc zero)) at = deeds.Check at.0 (version_with at.1)
loading (suc (suc (suc more))) at = deeds.Lock at.0 (version_with at.1)

pub version_is : (e : Event) (n : ℕ) (x : ℤ) (at : ℕ × ℕ) → version_told (deed_of e n x) ≡ Some at → plain (deed_of e n x) ≡ loading (load (deed_of e n x)) at
version_is Start n x at told = cc
version_is (Open p) n x at told = ap (loading 0) (some_same told)
version_is (Word p i) n x at told = cc
version_is (Close p) n x at told = ap (loading 1) (some_same told)
version_is Renew n x at told = cc
version_is (Recheck p) n x at told = ap (loading 0) (some_same told)
version_is (Lock p) n x at told = elim (cases_Bool (is_free n)) [
  | inl free ↦ rw free (ap (loading 3) (some_same told))
  | inr locked ↦ rw locked (ap (loading 0) (some_same told))
]
version_is (Test p) n x at told = ap (loading 0) (some_same told)
version_is (Draw us seen loaded) n x at told = cc
version_is (Check p) n x at told = ap (loading 2) (some_same told)
version_is (Decide commit) n x at told = cc
version_is (Put p i y) n x at told = cc
version_is (Release p) n x at told = cc
version_is (Unlock p) n x at told = cc

pub start_is : (e : Event) (n : ℕ) (x : ℤ) (clock : ℕ) → start_told (deed_of e n x) ≡ Some clock → plain (deed_of e n x) ≡ deeds.Start clock
start_is Start n x clock told = ap deeds.Start (some_same told)
start_is (Open p) n x clock told = cc
start_is (Word p i) n x clock told = cc
start_is (Close p) n x clock told = cc
start_is Renew n x clock told = cc
start_is (Recheck p) n x clock told = cc
start_is (Lock p) n x clock told = cc
start_is (Test p) n x clock told = cc
start_is (Draw us seen loaded) n x clock told = cc
start_is (Check p) n x clock told = cc
start_is (Decide commit) n x clock told = cc
start_is (Put p i y) n x clock told = cc
start_is (Release p) n x clock told = cc
start_is (Unlock p) n x clock told = cc

pub ticket_is : (e : Event) (n : ℕ) (x : ℤ) (ticket : ℕ) → ticket_told (deed_of e n x) ≡ Some ticket → plain (deed_of e n x) ≡ deeds.Draw ticket
ticket_is Start n x ticket told = cc
ticket_is (Open p) n x ticket told = cc
ticket_is (Word p i) n x ticket told = cc
ticket_is (Close p) n x ticket told = cc
ticket_is Renew n x ticket told = cc
ticket_is (Recheck p) n x ticket told = cc
ticket_is (Lock p) n x ticket told = cc
ticket_is (Test p) n x ticket told = cc
ticket_is (Draw us seen loaded) n x ticket told = ap deeds.Draw (some_same told)
ticket_is (Check p) n x ticket told = cc
ticket_is (Decide commit) n x ticket told = cc
ticket_is (Put p i y) n x ticket told = cc
ticket_is (Release p) n x ticket told = cc
ticket_is (Unlock p) n x ticket told = cc

-- Two events that lead from one view to the same tell the same of versions, starts and tickets
module _ (v : View) (e f : Event) (n m : ℕ) (x y : ℤ) (same : after e v n x ≡ after f v m y) where
  pub same_version : version_told (deed_of e n x) ≡ version_told (deed_of f m y)
  same_version = same_found v _ _ (sym (finds e v n x) ∙ ap (λ (w : View). w.findings) same ∙ finds f v m y)

  start_by : (o q : Option ℕ) → start_told (deed_of e n x) ≡ o → start_told (deed_of f m y) ≡ q → o ≡ q
  start_by None None p r = refl
  start_by (Some k) (Some l) p r = ap Some (sym (start_clock e v n x k p) ∙ ap (λ (w : View). w.at) same ∙ start_clock f v m y l r)
  start_by None (Some l) p r =
      let first : (after e v n x).starts ≡ v.starts = starts e v n x ∙ ap (started v) p in
      let second : (after f v m y).starts ≡ v.starts + 1 = starts f v m y ∙ ap (started v) r in
      let one : (after e v n x).starts ≡ (after f v m y).starts = ap (λ (w : View). w.starts) same in absurd (omega (arith, first, second, one))
  start_by (Some k) None p r =
      let first : (after e v n x).starts ≡ v.starts + 1 = starts e v n x ∙ ap (started v) p in
      let second : (after f v m y).starts ≡ v.starts = starts f v m y ∙ ap (started v) r in
      let one : (after e v n x).starts ≡ (after f v m y).starts = ap (λ (w : View). w.starts) same in absurd (omega (arith, first, second, one))

  pub same_start : start_told (deed_of e n x) ≡ start_told (deed_of f m y)
  same_start = start_by _ _ refl refl

  ticket_by : (o q : Option ℕ) → ticket_told (deed_of e n x) ≡ o → ticket_told (deed_of f m y) ≡ q → o ≡ q
  ticket_by None None p r = refl
  ticket_by (Some k) (Some l) p r = ap (λ (h : Phase). Some (ticket_in h)) (sym (draw_ticket e v n x k p) ∙ ap (λ (w : View). w.phase) same ∙ draw_ticket f v m y l r)
  ticket_by None (Some l) p r =
      let first : length (after e v n x).entries ≡ length v.entries = draws e v n x ∙ ap (drawn_after v) p in
      let second : length (after f v m y).entries ≡ length v.entries + 1 = draws f v m y ∙ ap (drawn_after v) r in
      let one : length (after e v n x).entries ≡ length (after f v m y).entries = ap (λ (w : View). length w.entries) same in absurd (omega (arith, first, second, one))
  ticket_by (Some k) None p r =
      let first : length (after e v n x).entries ≡ length v.entries + 1 = draws e v n x ∙ ap (drawn_after v) p in
      let second : length (after f v m y).entries ≡ length v.entries = draws f v m y ∙ ap (drawn_after v) r in
      let one : length (after e v n x).entries ≡ length (after f v m y).entries = ap (λ (w : View). length w.entries) same in absurd (omega (arith, first, second, one))

  pub same_ticket : ticket_told (deed_of e n x) ≡ ticket_told (deed_of f m y)
  same_ticket = ticket_by _ _ refl refl
