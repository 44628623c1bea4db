use Rattle.std.proofs.Common.{sym, ◌∙◌, ◌≡◌, ◌≤◌, pos, length, replicate, slice_index_or}
use Rattle.std.proofs.lemmas.List.{length-replicate}
use Rattle.std.proofs.lemmas.Option.{get_or_from_slice_get}
use Rattle.sto_part.specs.Changes.{applied_all}
use Rattle.sto_item.specs.Pending.{changes_of}
use Rattle.sto_attempt_log.specs.ReadSet.{words_in}
use Rattle.sto_attempt_log.proofs.Recalling.{fits_read, recalled_read, fits_whole, recalled_whole}
use Rattle.sto_attempt_log.proofs.recall.recall.Goals as goal

pub learn_updated-requires-clause-fits : goal.learn_updated-requires-clause-fits
learn_updated-requires-clause-fits g c =
    let m = g.T.TxType.meaning c.args.ty.now in
    let law = g.met.T.TxType.lawful c.args.ty.now in
    let ws = c.in-Some.read_entry.words.now in
    let f : length (changes_of c.args.set.now.updates c.args.part) ≤ length ws =
    fits_read m law (words_in c.args.base.now.items) c.args.set.now.updates c.requires.pending c.args.part ws c.requires.range c.in-Some.ensures.words in
    f

pub returns-in-Some-clause-known : goal.returns-in-Some-clause-known
returns-in-Some-clause-known g c is =
    let m = g.T.TxType.meaning c.args.ty.now in
    let law = g.met.T.TxType.lawful c.args.ty.now in
    let base = words_in c.args.base.now.items in
    let es = c.args.set.now.updates in
    let ws = c.in-Some.read_entry.words.now in
    let cs = changes_of es c.args.part in
    (applied_all cs ws, recalled_read m law base es c.requires.pending c.args.part ws c.requires.range c.in-Some.ensures.words, c.in_ok-learn_updated.ensures)

pub learn_put-requires : goal.learn_put-requires
learn_put-requires g c =
    let m = g.T.TxType.meaning c.args.ty.now in
    let law = g.met.T.TxType.lawful c.args.ty.now in
    let w = c.width.result in
    let width : slice_index_or m.widths c.args.part 0 ≡ w = get_or_from_slice_get m.widths c.args.part w 0 c.width.ensures in
    let all = length-replicate w (pos 0) in
    rw all at (fits_whole m law (words_in c.args.base.now.items) c.args.set.now.updates c.requires.pending c.args.part (replicate w (pos 0)) (all ∙ sym width))

pub returns-then-overwrites-clause-known : goal.returns-then-overwrites-clause-known
returns-then-overwrites-clause-known g c is =
    let m = g.T.TxType.meaning c.args.ty.now in
    let law = g.met.T.TxType.lawful c.args.ty.now in
    let base = words_in c.args.base.now.items in
    let es = c.args.set.now.updates in
    let w = c.width.result in
    let ws = replicate w (pos 0) in
    let width : slice_index_or m.widths c.args.part 0 ≡ w = get_or_from_slice_get m.widths c.args.part w 0 c.width.ensures in (
      applied_all (changes_of es c.args.part) ws,
      recalled_whole m law base es c.requires.pending c.args.part ws c.requires.range (length-replicate w (pos 0) ∙ sym width) (sym c.overwrites.ensures ∙ c.if-overwrites.true),
      c.in_ok-learn_put.ensures,
    )
