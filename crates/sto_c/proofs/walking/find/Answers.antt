-- The key is the one that was answered first, the value the one that was answered then.
use Rattle.std.proofs.Common.{rules, w64, FitsSigned, sym}
use Rattle.std.proofs.lemmas.Int.{to_z-of_z}
use Rattle.sto_c.proofs.Walked.{found_pair, found_no_value}
use Rattle.sto_c.proofs.walking.find.Goals as goal

pub returns-in-Ok-ask-clause-some : goal.returns-in-Ok-ask-clause-some
returns-in-Ok-ask-clause-some c =
    let from_fits = c.ranges.from in
    let key_fits : FitsSigned w64 c.in-Some.key = search rules in
    let value_fits : FitsSigned w64 c.ask-2.new.reply.value = search rules in
    found_pair c.args.object c.args.from c.in-Some.key c.ask.new.reply c.ask-2.new.reply c.call_at.result c.call_at-2.result c.args.held.now c.ask.new.held c.ask-2.new.held
    (simp to_z-of_z at c.call_at.ensures) (simp to_z-of_z at c.call_at-2.ensures) c.in-Ok.ensures.asked (sym c.in-Some.ensures)
    _ (to_z-of_z w64 c.in-Some.key key_fits) (to_z-of_z w64 c.ask-2.new.reply.value value_fits) c.in-Ok-ask.ensures.asked

pub returns-in-Err-ask-clause-failed : goal.returns-in-Err-ask-clause-failed
returns-in-Err-ask-clause-failed c =
    let from_fits = c.ranges.from in
    let key_fits : FitsSigned w64 c.in-Some.key = search rules in
    found_no_value c.args.object c.args.from c.in-Some.key c.ask.new.reply c.ask-2.new.reply c.call_at.result c.call_at-2.result c.args.held.now c.ask.new.held c.ask-2.new.held
    (simp to_z-of_z at c.call_at.ensures) (simp to_z-of_z at c.call_at-2.ensures) c.in-Ok.ensures.asked (sym c.in-Some.ensures) c.in-Err-ask.status c.in-Err-ask.ensures.asked.0
