-- Abort lines are right up to the first that was not heard, and with that one the report goes wrong.
use Rattle.std.proofs.Common.{◌≡◌, ◌⊎◌, ℕ, zero, suc, ◌+◌, ◌<◌, ◌≤◌, List, length, sym, subst, Option, None, Some, slice_get, arith, inl, inr}
use Rattle.std.proofs.lemmas.Option.{slice_get_within}
use Rattle.sto_lang.specs.Scripts.{File}
use Rattle.sto_report_spec.specs.Orders.{TransactionPlace, IsOrder}
use Rattle.sto_report_spec.specs.Replay.{opening_state, shown}
use Rattle.sto_checker.specs.Runs.{writers_from}
use Rattle.sto_checker.specs.declared.past.Past.{Past}
use Rattle.sto_checker.specs.declared.found.Found.TheVariants.{Not}
use Rattle.sto_checker.specs.Reading.{place_of}
use Rattle.sto_checker.specs.Right.{total}
use Rattle.sto_checker.specs.Answer.{IsRightAt, AreRight, IsAnswer}
use Rattle.sto_checker.specs.Reached.{AreObjectsRead, IsWrongOr}
use Rattle.sto_checker.specs.declared.abort.GivenAbort.{GivenAbort}
use Rattle.sto_checker.specs.Given.{IsPlaced, IsHeard}
use Rattle.sto_checker.specs.Gathered.{AreGathered, IsEnded}
use Rattle.sto_checker.specs.Seen.{IsFirstUnheard}
use Rattle.sto_checker.proofs.Lists.{some_at}
use Rattle.sto_checker.proofs.AbortWalk.{below_or}
use Rattle.sto_checker.proofs.Replays.{seen_within}

-- how they ended
pub ended_so : (file : File) (tries : ℕ) (lines : List (List ℕ)) (past : Past) (gathered read : ℕ) (wrong : Option ℕ) → IsEnded file tries lines past gathered read wrong → AreRight file tries lines gathered
    → IsWrongOr file tries lines (AreObjectsRead file tries lines past read 0) wrong
ended_so file tries lines past gathered read None h right = h right
ended_so file tries lines past gathered read (Some number) h right = (gathered, h.0, right, h.1 right)

module _ (file : File) (tries : ℕ) (lines : List (List ℕ)) (order : List TransactionPlace) (aborts : List GivenAbort) (h : AreGathered file tries lines order aborts (total file + length aborts)) where
  pub placed_there : (place : ℕ) (given : GivenAbort) → slice_get aborts place ≡ Some given → IsPlaced file given
  placed_there place given at = (h.judged place given at).given_is.placed

  -- none saw more writers than there are
  pub seen_few : IsOrder file order → (writers : ℕ) → writers ≡ writers_from file 0 (opening_state file) order → (place : ℕ) (given : GivenAbort) → slice_get aborts place ≡ Some given → given.told.seen ≤ writers
  seen_few whole writers e place given at =
      let is = (h.judged place given at).given_is in
      let s = seen_within file order (place_of given.told.place) is.placed.script given.told.seen whole is.placed.transaction is.earlier in
      omega (arith, s, e)

  module _ (journal : AreRight file tries lines (total file)) where
    right_up_to : (count : ℕ) → count ≤ length aborts → ((place : ℕ) (given : GivenAbort) → place < count → slice_get aborts place ≡ Some given → IsHeard file (shown file order given.told.seen) given) → AreRight file tries lines (total file + count)
    right_up_to zero l heard = λ place k. journal place (omega (arith, k))
    right_up_to (suc count) l heard = λ place k. by (right_up_to count (omega (arith, l)) (λ other given m at. heard other given (omega (arith, m)) at)) place (below_or place (total file + count) (omega (arith, k)))
      where
        here : AreRight file tries lines (total file + count) → IsRightAt file tries lines (total file + count)
        here before = let g = some_at aborts count (omega (arith, l)) in (h.judged count g.0 g.1).right before (heard count g.0 (omega arith) g.1)

        by : AreRight file tries lines (total file + count) → (place : ℕ) → (place < total file + count) ⊎ (place ≡ total file + count) → IsRightAt file tries lines place
        by before place (inl k) = before place k
        by before place (inr e) = subst (IsRightAt file tries lines) (sym e) (here before)

    module _ (writers : ℕ) (seen : (place : ℕ) (given : GivenAbort) → slice_get aborts place ≡ Some given → given.told.seen ≤ writers) where
      pub all_right : IsFirstUnheard file order aborts (writers + 1) None → AreRight file tries lines (total file + length aborts)
      all_right f = right_up_to (length aborts) (omega arith) (λ place given k at. f.heard place given at (let s = seen place given at in omega (arith, s)) tt)

      module _ (place : ℕ) (f : IsFirstUnheard file order aborts (writers + 1) (Some place)) where
        pub stands_there : place < length aborts
        stands_there = slice_get_within aborts place f.unheard.given f.unheard.stands

        right_before : AreRight file tries lines (total file + place)
        right_before = right_up_to place (let l = stands_there in omega (arith, l)) (λ other given k at. f.heard other given at (let s = seen other given at in omega (arith, s)) k)

        pub goes_wrong : (number : ℕ) → number ≡ suc (total file + place) → IsAnswer file tries lines (Not number)
        goes_wrong number e =
            let judged = h.judged place f.unheard.given f.unheard.stands in
            (total file + place, e, right_before, inl ((let l = stands_there in let w = h.within in omega (arith, l, w)), (λ at. f.unheard.unheard (judged.heard right_before at))))
