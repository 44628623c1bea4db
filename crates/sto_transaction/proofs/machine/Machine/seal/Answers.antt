-- The commit goes on from the attempt that is sealed.
use Rattle.std.proofs.Common.{◌≡◌, sym, ap, ◌∙◌, subst, arith}
use Rattle.sto_attempt_log.specs.declared.log.Log.{Log}
use Rattle.sto_attempt_log.specs.declared.read_phase.ReadPhase.{ReadPhase}
use Rattle.sto_attempt_log.specs.Bounds.{events_left}
use Rattle.sto_transaction.specs.declared.machine.Machine.{Machine}
use Rattle.sto_transaction.specs.declared.machine.Machine.TheVariants.{Running}
use Rattle.sto_transaction.specs.Machines.{Proceeds, IsAtSeal, machine_left, calls_of}
use Rattle.sto_transaction.proofs.Steps.{seals}
use Rattle.sto_transaction.proofs.machine.Machine.seal.Goals as goal

pub returns-in-Ok-clause-proceeds : goal.returns-in-Ok-clause-proceeds
returns-in-Ok-clause-proceeds g c passes ty f begun v h =
    let under = subst (λ (t : Machine g.row.T.Denot g.row.B.Denot). IsAtSeal g.T.TxType.meaning g.T.Naming.valid g.T.Naming.sizes g.B.Body.script g.B.Body.then g.B.Body.left g.B.Body.may_ask ty f t begun v) (sym c.replace.ensures.value ∙ c.in-Running.is) h in
    let s = c.in-Ok.ensures in
    let before = s.before v under.1.fits in
    subst (λ (t : Machine g.row.T.Denot g.row.B.Denot). Proceeds g.T.TxType.meaning g.T.Naming.valid g.T.Naming.sizes g.B.Body.script g.B.Body.then g.B.Body.left g.B.Body.may_ask passes ty f t begun v) (sym c.replace-in-Ok.ensures.after)
    (under.0, seals g.T.TxType.meaning g.T.Naming.valid g.T.Naming.sizes g.B.Body.script g.B.Body.then g.B.Body.left g.B.Body.may_ask passes ty f c.in-Running.attempt c.in-Ok.ready begun v under.1 s.log s.at before.stands before.space before.copy s.undisturbed)

pub returns-in-Ok-clause-left : goal.returns-in-Ok-clause-left
returns-in-Ok-clause-left g c =
    let is = sym c.replace.ensures.value ∙ c.in-Running.is in
    let r = c.requires in
    let under = subst (λ (t : Machine g.row.T.Denot g.row.B.Denot). IsAtSeal g.T.TxType.meaning g.T.Naming.valid g.T.Naming.sizes g.B.Body.script g.B.Body.then g.B.Body.left g.B.Body.may_ask r.0 r.1 t r.2 r.3) is r.4 in
    let a = c.in-Running.attempt in
    let whole : machine_left g.T.TxType.meaning g.T.Naming.valid g.T.Naming.sizes g.B.Body.script g.B.Body.then g.B.Body.left g.B.Body.may_ask c.args.self.now ≡ machine_left g.T.TxType.meaning g.T.Naming.valid g.T.Naming.sizes g.B.Body.script g.B.Body.then g.B.Body.left g.B.Body.may_ask (Running a) = ap (machine_left g.T.TxType.meaning g.T.Naming.valid g.T.Naming.sizes g.B.Body.script g.B.Body.then g.B.Body.left g.B.Body.may_ask) is in
    let committing = ap (λ (s : ReadPhase). events_left (g.B.Body.left a.log.body) (g.T.TxType.meaning a.log.ty.now).widths s a.log.table.words.items a.log.table.extension a.log.table.base.items) under.1.committing in
    let fewer = c.in-Ok.ensures.left in
    let now = ap (machine_left g.T.TxType.meaning g.T.Naming.valid g.T.Naming.sizes g.B.Body.script g.B.Body.then g.B.Body.left g.B.Body.may_ask) c.replace-in-Ok.ensures.after in
    omega (arith, whole, committing, fewer, now)

pub returns-in-Ok-clause-calls : goal.returns-in-Ok-clause-calls
returns-in-Ok-clause-calls g c =
    let is = sym c.replace.ensures.value ∙ c.in-Running.is in
    ap (calls_of g.B.Body.left_at_reset) c.replace-in-Ok.ensures.after
    ∙ ap (λ (l : Log g.row.T.Denot g.row.B.Denot). g.B.Body.left_at_reset l.body) c.in-Ok.ensures.log
    ∙ sym (ap (calls_of g.B.Body.left_at_reset) is)
