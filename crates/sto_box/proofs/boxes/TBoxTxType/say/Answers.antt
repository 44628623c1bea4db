use Rattle.std.proofs.Common.{◌∷◌, [], sym, subst, take}
use Rattle.std.proofs.lemmas.Int.{to_z-of_z}
use Rattle.sto_type.specs.Known.{known}
use Rattle.sto_type.specs.Saying.{IsSaidFrom}
use Rattle.sto_box.specs.Boxed.{box_meaning}
use Rattle.sto_box.proofs.Saying.{said_need, said_known, said_set}
use Rattle.sto_box.proofs.boxes.TBoxTxType.say.Goals as goal

pub returns-in-None : goal.returns-in-None
returns-in-None g c =
    let vs = take g.W.Words.WORDS (c.args.self.now.first ∷ c.args.self.now.second ∷ []) in
    said_need g.W.Words.WORDS g.W.Words.IsCode vs c.args.call.now (known c.args.cache.now) c.args.first c.in-Get.is c.in-None.ensures

pub returns-in_ok-items-in-Some : goal.returns-in_ok-items-in-Some
returns-in_ok-items-in-Some g c =
    let n = g.W.Words.WORDS in
    let call = c.args.call.now in
    let k = known c.args.cache.now in
    let p = c.args.first in
    let vs = take n (c.args.self.now.first ∷ c.args.self.now.second ∷ []) in
    subst (IsSaidFrom (box_meaning n g.W.Words.IsCode vs) p call k) (sym c.pour.ensures)
    (said_known n g.W.Words.IsCode vs call k p g.met.W.Words.one_or_two c.in-Some.words.now c.in_ok-reply-in-Some.reply c.in_ok-items-in-Some.items c.updates-updates.result c.requires.takes.object c.requires.takes.third c.in-Get.is
    c.in-Some.ensures c.in_ok-reply-in-Some.ensures c.in_ok-items-in-Some.ensures c.updates-updates.ensures)

pub returns-in_ok-updates-in_default : goal.returns-in_ok-updates-in_default
returns-in_ok-updates-in_default g c =
    let f = c.requires.takes.fits in
    let h = c.requires.takes.fits_too in
    let raw = simp to_z-of_z at c.in_ok-updates-in_default.ensures in
    let puts = rw c.WORDS.ensures at raw in
    let n = g.W.Words.WORDS in
    let call = c.args.call.now in
    let k = known c.args.cache.now in
    let p = c.args.first in
    let vs = take n (c.args.self.now.first ∷ c.args.self.now.second ∷ []) in
    subst (IsSaidFrom (box_meaning n g.W.Words.IsCode vs) p call k) (sym c.pour-in_default.ensures)
    (said_set n g.W.Words.IsCode g.met.W.Words.one_or_two vs call k p c.items-items.result c.in_ok-updates-in_default.updates c.requires.takes c.in_default.not-Get c.items-items.ensures puts)
