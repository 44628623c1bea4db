use Rattle.std.proofs.Common.{sym, ap, ◌∙◌, subst, rules, FitsSigned, pos, slice_index_or}
use Rattle.std.specs.Int.{w64}
use Rattle.std.proofs.lemmas.Int.{to_z-of_z}
use Rattle.sto_model.specs.Objects.{effect_of}
use Rattle.sto_model.specs.declared.shape.Shape.TheVariants.{Counter}
use Rattle.sto_type.specs.Known.{known, beyond}
use Rattle.sto_type.specs.Plans.{Ask}
use Rattle.sto_type.specs.Saying.{IsSaidFrom}
use Rattle.sto_counter.specs.Counted.{counter_meaning, counter_items, counter_updates, only_row, asked}
use Rattle.sto_counter.specs.CountedLaw.{known_plan}
use Rattle.sto_counter.proofs.Saying.{none_more, said_from}
use Rattle.sto_counter.proofs.counter.TCounterTxType.say.Goals as goal

pub returns-in-None : goal.returns-in-None
returns-in-None c =
    let k = known c.args.cache.now in
    let same = none_more c.args.first in
    record { own = Ask 0; is = ap asked (ap k same ∙ c.in-None.ensures); moved = ap Ask (sym same) }

pub returns-in_ok-answer-in-Some : goal.returns-in_ok-answer-in-Some
returns-in_ok-answer-in-Some c =
    let first = c.args.self.now.first in
    let m = counter_meaning first in
    let call = c.args.call.now in
    let p = c.args.first in
    let k = known c.args.cache.now in
    let ws = c.in-Some.words.now in
    let x = slice_index_or ws 0 (pos 0) in
    let f : FitsSigned w64 (slice_index_or c.in-Some.words.now 0 (pos 0)) = search rules in
    let done = simp to_z-of_z at c.in_ok-answer-in-Some.ensures in
    let here = ap k (none_more p) ∙ c.in-Some.ensures in
    subst (IsSaidFrom m p call k) (sym c.pour.ensures)
    (said_from m call k p (effect_of (Counter (pos 0)) call.operation call.a call.b (only_row x)).reply (counter_items call.operation call.a call.b x) (counter_updates call.operation call.a x) c.in_ok-answer-in-Some.answer done
    (λ own said. known_plan first call (beyond p k) ws own c.requires.takes here said))
