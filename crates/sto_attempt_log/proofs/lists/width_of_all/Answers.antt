use Rattle.std.proofs.Common.{◌≡◌, ◌<◌, ◌+◌, ◌∙◌, ℕ, suc, ap, subst, arith, length, drop, slice_index_or}
use Rattle.std.proofs.lemmas.Option.{get_or_from_slice_get}
use Rattle.sto_attempt_log.specs.CommitPhases.{due}
use Rattle.sto_attempt_log.proofs.Checks.{each_get}
use Rattle.sto_attempt_log.proofs.Space.{due_at}
use Rattle.sto_attempt_log.proofs.lists.width_of_all.Goals as goal

pub width-requires : goal.width-requires
width-requires g c =
    let widths = (g.T.TxType.meaning c.args.ty.now).widths in
    (each_get (λ (p : ℕ). (p < length widths) × (0 < slice_index_or widths p 0)) c.args.parts.now.items c.loop-place.place c.get.result.now c.get.ensures c.requires).0

pub loop-place-preserved : goal.loop-place-preserved
loop-place-preserved g c =
    let widths = (g.T.TxType.meaning c.args.ty.now).widths in
    let parts = c.args.parts.now.items in
    let k = c.loop-place.place in
    let p = c.get.result.now in
    let wide : slice_index_or widths (slice_index_or parts k 0) 0 ≡ c.width.result = ap (λ (q : ℕ). slice_index_or widths q 0) (get_or_from_slice_get parts k p 0 c.get.ensures) ∙ get_or_from_slice_get widths p c.width.result 0 c.width.ensures in
    let next : suc k ≡ k + 1 = omega arith in
    let in_list : k < length parts = omega (arith, c.loop-place-test.true, c.len-place-end.ensures) in
    let rest : due widths (drop k parts) ≡ slice_index_or widths (slice_index_or parts k 0) 0 + due widths (drop (k + 1) parts) =
    subst (λ (n : ℕ). due widths (drop k parts) ≡ slice_index_or widths (slice_index_or parts k 0) 0 + due widths (drop n parts)) next (due_at widths parts k in_list) in
    let sum : c.in-Some.more ≡ c.loop-place.words + c.width.result = (c.in-Some.ensures {u = tt}).1 in
    let was : c.loop-place.words + due widths (drop k parts) ≡ due widths parts = c.loop-place.invariant in
    omega (arith, rest, wide, sum, was)
