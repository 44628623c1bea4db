use Rattle.std.proofs.Common.{◌≡◌, ◌≤◌, ◌+◌, ◌-◌, ◌*◌, ◌∙◌, ap, sym, arith, length, slice_get, List, Some}
use Rattle.sto_gen.specs.declared.draws.Transfer.{Transfer}
use Rattle.sto_gen.specs.Draws.{transfer_after, state_after}
use Rattle.sto_gen.specs.Generated.{transaction}
use Rattle.sto_gen.proofs.Places.{transfer_there, transfers_length}
use Rattle.sto_bench.proofs.Places.{is_within, made_there, some_same}
use Rattle.sto_bench.proofs.file.GeneratedFileWorkload.transaction.Goals as goal

pub overflow_mul-thread : goal.overflow_mul-thread
overflow_mul-thread c =
    let w = is_within c.args.self.now.number (c.args.thread, c.args.position) c.requires.there.script c.requires.there.there in
    let t = w.thread in omega (arith, t)

pub overflow_add-thread : goal.overflow_add-thread
overflow_add-thread c =
    let w = is_within c.args.self.now.number (c.args.thread, c.args.position) c.requires.there.script c.requires.there.there in
    let t = w.thread in let p = w.position in omega (arith, t, p)

pub get-transfer-requires : goal.get-transfer-requires
get-transfer-requires c =
    let n = c.args.self.now.number in
    let w = is_within n (c.args.thread, c.args.position) c.requires.there.script c.requires.there.there in
    let t = w.thread in let p = w.position in let f = w.first in
    let all = ap length c.args.self.now.drawn ∙ transfers_length n 3200 in omega (arith, t, p, f, all)

pub new-requires : goal.new-requires
new-requires c =
    let w = is_within c.args.self.now.number (c.args.thread, c.args.position) c.requires.there.script c.requires.there.there in
    (w.thread, w.position)

pub returns : goal.returns
returns c =
    let n = c.args.self.now.number in
    let thread = c.args.thread in let position = c.args.position in
    let w = is_within n (thread, position) c.requires.there.script c.requires.there.there in
    let t = w.thread in let p = w.position in let f = w.first in
    let earlier = 200 * thread + (position - 1) in
    let drawn : c.get-transfer.result.now ≡ transfer_after (state_after earlier n) =
    some_same _ _ (sym c.get-transfer.ensures ∙ ap (λ (l : List Transfer). slice_get l earlier) c.args.self.now.drawn ∙ transfer_there n earlier (omega (arith, t, p, f))) in
    record {
      made = record {
        script = transaction thread position c.get-transfer.result.now;
        there = made_there n thread position w ∙ ap (λ (x : Transfer). Some (transaction thread position x)) (sym drawn);
        does = c.new.ensures.script;
        asks = c.new.ensures.may;
        few = omega arith;
      };
    }
