-- The run in which the second transaction finds the box locked meets all premises of the headline: each of its events is allowed, the
-- words may be opened again, and its records are told of the view at the end.
use Rattle.std.proofs.Common.{◌≡◌, ℕ, zero, suc, pos, ◌≤◌, [], ◌∷◌, refl, arith, Bool, true, false, if◌then◌else◌, ◌==◌, ◌&&◌, inl}
use Rattle.std.proofs.lemmas.Bool.Decides.{nat_tests}
use Rattle.std.proofs.lemmas.List.Elements.{All-from_recursion}
use Rattle.std.proofs.lemmas.List.Sorted.{IsPermutation-refl}
use Rattle.sto_script.specs.Meaning.{meaning_of}
use Rattle.sto_core.specs.declared.view.View.{View}
use Rattle.sto_core.specs.Lists.{Each}
use Rattle.sto_core.specs.Allowed.{IsIdle}
use Rattle.sto_core.specs.Rule.{Holds}
use Rattle.sto_core.proofs.Lists.{each_one, each_append}
use Rattle.sto_core.proofs.Opened.{opened_holds}
use Rattle.sto_core.proofs.Reopening.{reopened_past, reopen_keeps}
use Rattle.sto_report_spec.specs.Orders.{TransactionPlace, IsOrder}
use Rattle.sto_history.specs.Records.{Record, times_written}
use Rattle.sto_history.specs.Counted.{Follows, InThreads, aborted_times, finished_places, times_committed}
use Rattle.sto_history.specs.Told.{WasAborted}
use Rattle.sto_serializability.specs.Finished.{IsRecord, HandsBack, AreFinished}
use Rattle.sto_serializability.specs.Merged.{is_before, AreMerged}
use Rattle.sto_serializability.specs.Headline.{IsShortRecord, AreShortRecords}
use Rattle.sto_serializability.proofs.Journal.{IsClosed}
use Rattle.sto_test_premises.specs.Premises.{Premises}
use Rattle.sto_test_premises.specs.Turns.{view_at}
use Rattle.sto_test_premises.specs.Adding.{adding, file, box, valid, opened}
use Rattle.sto_test_premises.specs.LockedOut.{first_turns, second_turns, third_turns, first_core, second_core, reopened, closed, view, won, locked_out, again, records, ordered}
use Rattle.sto_test_premises.proofs.Turning.{AreTurns, may, turns_keep}
use Rattle.sto_test_premises.proofs.Adding.{usable, box_opened, type_is, one, fits_1, fits_2, one_read, one_put, may_draw, get_touches, run_on_0, run_on_1, has_written, at_most}

-- Every turn is allowed, and the words may be closed and opened between them, so those at the end meet the rule, and their pass knows all

first_allowed : AreTurns valid opened first_turns
first_allowed = (
  may refl one tt,
  (
    may refl one (refl, one),
    (
      may refl one (refl, (one, one)),
      (
        may refl one ((refl, one_read (pos 0)), one),
        (may refl one (tt, one), (may refl one tt, (may refl one (refl, one), tt))),
      ),
    ),
  ),
)

second_allowed : AreTurns valid first_core second_turns
second_allowed = (
  may refl one (may_draw (pos 1) fits_1 _ refl (omega arith) refl (λ p. refl) refl),
  (
    may refl one ((_, refl), one),
    (
      may refl one ((_, refl), each_one _ _ (inl (0, refl))),
      (
        may refl one (refl, (one, one), refl),
        (may refl one (one, refl, λ i l changed. one_put i l), tt),
      ),
    ),
  ),
)

third_allowed : AreTurns valid reopened third_turns
third_allowed = (
  may refl one tt,
  (
    may refl one (refl, one),
    (
      may refl one (refl, (one, one)),
      (
        may refl one ((refl, one_read (pos 1)), one),
        (
          may refl one (tt, one),
          (
            may refl one (may_draw (pos 2) fits_2 _ refl (omega arith) refl (λ p. refl) refl),
            (
              may refl one ((_, refl), one),
              (
                may refl one ((_, refl), each_one _ _ (inl (0, refl))),
                (
                  may refl one (refl, (one, one), refl),
                  (may refl one (one, refl, λ i l changed. one_put i l), tt),
                ),
              ),
            ),
          ),
        ),
      ),
    ),
  ),
)

second_holds : Holds valid [] box.opened second_core
second_holds =
    turns_keep valid [] box.opened second_turns first_core second_allowed
    (turns_keep valid [] box.opened first_turns opened first_allowed
    (opened_holds [] box.opened valid 2 box_opened (omega arith)))

-- no pass is under way
idle : Each (λ (v : View). IsIdle v.phase) second_core.views
idle =
    each_append (λ (v : View). IsIdle v.phase) (view_at second_core 0 ∷ []) (view_at second_core 1 ∷ [])
    (each_one _ _ tt)
    (each_one _ _ tt)

-- the words at the end meet the rule
closed_holds : Holds valid [] box.opened closed
closed_holds =
    turns_keep valid [] box.opened third_turns reopened third_allowed (reopened_past second_holds.1 idle, reopen_keeps second_holds.1 idle)

are_closed : IsClosed valid [] box.opened closed_holds.0 closed view box
are_closed = record {
  rule = closed_holds.1;
  seat = 0;
  there = refl;
  whole = refl;
  same_valid = λ c. (λ v. v, λ v. v);
  same_opening = refl;
}

-- What the records tell of the view at the end

-- it had heard nothing, and its next call may touch the part
locked_told : WasAborted box view (meaning_of adding) [] 0 0
locked_told = record { known = omega arith; runs = λ c v claims. tt; touched = get_touches; unsettled = tt }

won_is : IsRecord box file view won
won_is = record { script = adding; transaction = refl; told = has_written view 1 0 0 (pos 0) (pos 1) run_on_0 (0, refl) }

locked_is : IsRecord box file view locked_out
locked_is = record { script = adding; transaction = refl; told = locked_told }

again_is : IsRecord box file view again
again_is = record { script = adding; transaction = refl; told = has_written view 2 0 1 (pos 1) (pos 2) run_on_1 (1, refl) }

-- They are those of a finished run

is_order : IsOrder file (finished_places records)
is_order zero = refl
is_order (suc zero) = refl
is_order (suc (suc thread)) = grind arith

in_threads : InThreads records
in_threads = (
  All-from_recursion (λ (s : Record). won.place.0 ≡ s.place.0 → Follows won s) (locked_out ∷ again ∷ [])
      (λ same. absurd (omega (arith, same)), (λ same. absurd (omega (arith, same)), tt)),
  (
    All-from_recursion (λ (s : Record). locked_out.place.0 ≡ s.place.0 → Follows locked_out s) (again ∷ [])
        (λ same. record { position = omega arith; again = λ e. refl; since = omega arith }, tt),
    (All-from_recursion (λ (s : Record). again.place.0 ≡ s.place.0 → Follows again s) [] tt, tt),
  ),
)

none_if : (a b : Bool) → ◌≡◌ {A = ℕ} (if a && (b && false) then 1 else 0) 0
none_if true true = refl
none_if true false = refl
none_if false b = refl

-- one transaction alone has an aborted attempt
few_of : (place : TransactionPlace) → aborted_times place records ≤ 1
few_of place =
    let a = none_if (0 == place.0) (1 == place.1) in
    let b = at_most ((1 == place.0) && ((1 == place.1) && true)) in
    let c = none_if (1 == place.0) (1 == place.1) in
    omega (arith, a, b, c)

-- it is the first of its thread, and none comes after it
are_handed : HandsBack 1 records
are_handed p q own low used = grind (arith, nat_tests)

are_tickets : (t : ℕ) → times_written t records ≡ times_committed t view.entries
are_tickets zero = refl
are_tickets (suc zero) = refl
are_tickets (suc (suc zero)) = refl
are_tickets (suc (suc (suc t))) = grind (arith, nat_tests)

are_finished : AreFinished box file 1 view records
are_finished = record {
  order = is_order;
  threads = in_threads;
  few = few_of;
  handed = are_handed;
  tickets = are_tickets;
  each = All-from_recursion (IsRecord box file view) records (won_is, (locked_is, (again_is, tt)));
}

are_merged : AreMerged records ordered
are_merged = record {
  same = IsPermutation-refl ordered;
  rising = (All-from_recursion (λ (s : Record). is_before s won ≡ false) (again ∷ []) (refl, tt), (All-from_recursion (λ (s : Record). is_before s again ≡ false) [] tt, tt));
}

short_won : IsShortRecord won
short_won = record { position = omega arith; replies = (omega arith, (tt, tt)) }

short_locked : IsShortRecord locked_out
short_locked = record { position = omega arith; replies = tt }

short_again : IsShortRecord again
short_again = record { position = omega arith; replies = (omega arith, (tt, tt)) }

are_short : AreShortRecords records
are_short = record {
  each = All-from_recursion IsShortRecord records (short_won, (short_locked, (short_again, tt)));
  few = omega arith;
}

pub premises : Premises valid [] box.opened box file 1 closed view records ordered
premises = record {
  usable = usable;
  type_of = type_is;
  past = closed_holds.0;
  closed = are_closed;
  finished = are_finished;
  merged = are_merged;
  short = are_short;
  few_parts = omega arith;
}
