-- The run in which the first to read loses meets all premises of the headline: each of its events is allowed, and its records are told
-- of the view at the end.
use Rattle.std.specs.Prelude.{filter}
use Rattle.std.proofs.Common.{◌≡◌, ℕ, zero, suc, pos, ◌≤◌, [], ◌∷◌, refl, subst, arith, true, false, ◌==◌, ◌&&◌, inl}
use Rattle.std.proofs.lemmas.Bool.Decides.{nat_tests}
use Rattle.std.proofs.lemmas.List.Elements.{All-from_recursion}
use Rattle.std.proofs.lemmas.List.Sorted.{IsPermutation-swap}
use Rattle.sto_model.specs.Run.{IsRun}
use Rattle.sto_script.specs.Meaning.{meaning_of}
use Rattle.sto_type.specs.Known.{Parts}
use Rattle.sto_core.specs.Rule.{Holds}
use Rattle.sto_core.proofs.Gathering.{gather_keeps}
use Rattle.sto_core.proofs.Lists.{each_one}
use Rattle.sto_core.proofs.Opened.{opened_holds}
use Rattle.sto_report_spec.specs.Orders.{TransactionPlace, IsOrder}
use Rattle.sto_history.specs.Records.{Record, is_finished, times_written}
use Rattle.sto_history.specs.Counted.{Follows, InThreads, aborted_times, finished_places, times_committed}
use Rattle.sto_history.specs.Told.{WasChanged}
use Rattle.sto_serializability.specs.Finished.{IsRecord, AreFinished}
use Rattle.sto_serializability.specs.Merged.{is_before, AreMerged}
use Rattle.sto_serializability.specs.Headline.{IsShortRecord, AreShortRecords}
use Rattle.sto_serializability.proofs.Journal.{IsClosed}
use Rattle.sto_test_premises.specs.Premises.{Premises}
use Rattle.sto_test_premises.specs.Turns.{view_at}
use Rattle.sto_test_premises.specs.Adding.{adding, file, box, valid, opened}
use Rattle.sto_test_premises.specs.LostUpdate.{first_turns, second_turns, third_turns, first_core, second_core, third_core, closed, view, lost, again, won, records, ordered}
use Rattle.sto_test_premises.proofs.Turning.{AreTurns, may, turns_keep}
use Rattle.sto_test_premises.proofs.Adding.{usable, box_opened, type_is, one, fits_1, fits_2, one_read, one_put, may_draw, get_touches, run_on_0, run_on_1, shown, has_written, at_most}

-- Every turn is allowed, so the words at the end meet the rule, and one pass knows all

first_allowed : AreTurns valid opened first_turns
first_allowed = (
  may refl one tt,
  (
    may refl one (refl, one),
    (
      may refl one (refl, (one, one)),
      (
        may refl one ((refl, one_read (pos 0)), one),
        (
          may refl one tt,
          (
            may refl one (refl, one),
            (
              may refl one (refl, (one, one)),
              (
                may refl one ((refl, one_read (pos 0)), one),
                (
                  may refl one (tt, one),
                  (
                    may refl one (may_draw (pos 1) fits_1 _ refl (omega arith) refl (λ p. refl) refl),
                    (
                      may refl one ((_, refl), one),
                      (
                        may refl one ((_, refl), each_one _ _ (inl (0, refl))),
                        (
                          may refl one (refl, (one, one), refl),
                          (may refl one (one, refl, λ i l changed. one_put i l), tt),
                        ),
                      ),
                    ),
                  ),
                ),
              ),
            ),
          ),
        ),
      ),
    ),
  ),
)

second_allowed : AreTurns valid first_core second_turns
second_allowed = (
  may refl one (tt, one),
  (
    may refl one (may_draw (pos 1) fits_1 _ refl (omega arith) refl (λ p. refl) refl),
    (
      may refl one ((_, refl), one),
      (may refl one (_, refl), (may refl one (one, refl), tt)),
    ),
  ),
)

third_allowed : AreTurns valid second_core third_turns
third_allowed = (
  may refl one tt,
  (
    may refl one (refl, one),
    (
      may refl one (refl, (one, one)),
      (
        may refl one ((refl, one_read (pos 1)), one),
        (
          may refl one (tt, one),
          (
            may refl one (may_draw (pos 2) fits_2 _ refl (omega arith) refl (λ p. refl) refl),
            (
              may refl one ((_, refl), one),
              (
                may refl one ((_, refl), each_one _ _ (inl (0, refl))),
                (
                  may refl one (refl, (one, one), refl),
                  (may refl one (one, refl, λ i l changed. one_put i l), tt),
                ),
              ),
            ),
          ),
        ),
      ),
    ),
  ),
)

third_holds : Holds valid [] box.opened third_core
third_holds =
    turns_keep valid [] box.opened third_turns second_core third_allowed
    (turns_keep valid [] box.opened second_turns first_core second_allowed
    (turns_keep valid [] box.opened first_turns opened first_allowed
    (opened_holds [] box.opened valid 2 box_opened (omega arith))))

-- the words at the end meet the rule
closed_holds : Holds valid [] box.opened closed
closed_holds = (third_holds.0, gather_keeps third_holds.1 0 1 (view_at third_core 0) (view_at third_core 1) (λ same. absurd (omega (arith, same))) refl refl tt tt one)

are_closed : IsClosed valid [] box.opened closed_holds.0 closed view box
are_closed = record {
  rule = closed_holds.1;
  seat = 0;
  there = refl;
  whole = refl;
  same_valid = λ c. (λ v. v, λ v. v);
  same_opening = refl;
}

-- What the records tell of the view at the end

lost_told : WasChanged box view (meaning_of adding) lost.replies 0 0 1
lost_told = record {
  aborted = record {
    known = omega arith;
    runs = λ c v claims. subst (λ (d : Parts). IsRun box.machines (meaning_of adding) (box.rows d) lost.replies) (shown (pos 0) c v (claims 0 _ refl refl)) run_on_0.run;
    touched = inl get_touches;
    unsettled = refl;
  };
  later = omega arith;
  wrote = record { claim = record { start = 1; ticket = 1; part = 0 }; there = (0, refl); by = refl; on = refl };
}

lost_is : IsRecord box file view lost
lost_is = record { script = adding; transaction = refl; told = lost_told }

again_is : IsRecord box file view again
again_is = record { script = adding; transaction = refl; told = has_written view 3 0 1 (pos 1) (pos 2) run_on_1 (1, refl) }

won_is : IsRecord box file view won
won_is = record { script = adding; transaction = refl; told = has_written view 1 1 0 (pos 0) (pos 1) run_on_0 (2, refl) }

-- They are those of a finished run

is_order : IsOrder file (finished_places records)
is_order zero = refl
is_order (suc zero) = refl
is_order (suc (suc thread)) = grind arith

in_threads : InThreads records
in_threads = (
  All-from_recursion (λ (s : Record). lost.place.0 ≡ s.place.0 → Follows lost s) (again ∷ won ∷ [])
      (λ same. record { position = omega arith; again = λ e. refl; since = omega arith }, (λ same. absurd (omega (arith, same)), tt)),
  (
    All-from_recursion (λ (s : Record). again.place.0 ≡ s.place.0 → Follows again s) (won ∷ []) (λ same. absurd (omega (arith, same)), tt),
    (All-from_recursion (λ (s : Record). won.place.0 ≡ s.place.0 → Follows won s) [] tt, tt),
  ),
)

few_of : (place : TransactionPlace) → aborted_times place records ≤ 3
few_of place =
    let a = at_most ((0 == place.0) && ((1 == place.1) && true)) in
    let b = at_most ((0 == place.0) && ((1 == place.1) && false)) in
    let c = at_most ((1 == place.0) && ((1 == place.1) && false)) in
    omega (arith, a, b, c)

are_few : (place : TransactionPlace) → aborted_times place records ≤ 64
are_few place = let k = few_of place in omega (arith, k)

are_tickets : (t : ℕ) → times_written t records ≡ times_committed t view.entries
are_tickets zero = refl
are_tickets (suc zero) = refl
are_tickets (suc (suc zero)) = refl
are_tickets (suc (suc (suc zero))) = refl
are_tickets (suc (suc (suc (suc t)))) = grind (arith, nat_tests)

are_finished : AreFinished box file 64 view records
are_finished = record {
  order = is_order;
  threads = in_threads;
  few = are_few;
  handed = λ p q own low used. absurd (let k = few_of p in omega (arith, k, used));
  tickets = are_tickets;
  each = All-from_recursion (IsRecord box file view) records (lost_is, (again_is, (won_is, tt)));
}

are_merged : AreMerged records ordered
are_merged = record {
  same = IsPermutation-swap (filter is_finished records) ordered 0 1 (omega arith) (omega arith) refl;
  rising = (All-from_recursion (λ (s : Record). is_before s won ≡ false) (again ∷ []) (refl, tt), (All-from_recursion (λ (s : Record). is_before s again ≡ false) [] tt, tt));
}

short_lost : IsShortRecord lost
short_lost = record { position = omega arith; replies = (omega arith, (tt, tt)) }

short_again : IsShortRecord again
short_again = record { position = omega arith; replies = (omega arith, (tt, tt)) }

short_won : IsShortRecord won
short_won = record { position = omega arith; replies = (omega arith, (tt, tt)) }

are_short : AreShortRecords records
are_short = record {
  each = All-from_recursion IsShortRecord records (short_lost, (short_again, (short_won, tt)));
  few = omega arith;
}

pub premises : Premises valid [] box.opened box file 64 closed view records ordered
premises = record {
  usable = usable;
  type_of = type_is;
  past = closed_holds.0;
  closed = are_closed;
  finished = are_finished;
  merged = are_merged;
  short = are_short;
  few_parts = omega arith;
}
