use Rattle.std.proofs.Common.{ℤ, subst, w64}
use Rattle.std.specs.Int.RustNames.{FitsSigned}
use Rattle.std.proofs.lemmas.Int.{to_z-of_z}
use Rattle.sto_type.specs.Known.{known}
use Rattle.sto_tree.specs.Found.{NeedsFirst}
use Rattle.sto_tree.proofs.PutPlan.{put_first}
use Rattle.sto_tree.proofs.put.plan_put.Goals as goal

pub returns-in-Err : goal.returns-in-Err
returns-in-Err c =
    let f : FitsSigned w64 c.args.call.now.a = c.requires.takes.fits in
    let first : NeedsFirst c.args.leaves (known c.args.cache.now) c.args.call.now.a c.in-Err.part = subst (λ (x : ℤ). NeedsFirst c.args.leaves (known c.args.cache.now) x c.in-Err.part) (to_z-of_z w64 c.args.call.now.a f) c.in-Err.ensures.needs in
    put_first c.args.leaves (known c.args.cache.now) c.args.call.now c.requires.takes.object c.requires.takes.third c.requires.put c.in-Err.part first
