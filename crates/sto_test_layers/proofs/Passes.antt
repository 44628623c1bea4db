-- What a pass knows, where it is known another way.
use Rattle.std.proofs.Common.{◌≡◌, ℕ, List, sym, subst, ◌+◌, Some, slice_get}
use Rattle.sto_run_feed.specs.declared.job.Job.{Job}
use Rattle.sto_run_feed.specs.declared.known.Known.{Known}
use Rattle.sto_run_feed.specs.declared.pass.JobQueue.{JobQueue}
use Rattle.sto_run_feed.specs.declared.pass.JobPass.{JobPass}
use Rattle.sto_run_feed.specs.Queues.{feeding, working}
use Rattle.sto_run_feed.specs.Passes.{IsPass, known}

pub taking : (q : JobQueue) (p : JobPass) (jobs : List Job) (taken : ℕ) → IsPass q p (working jobs taken) → IsPass q p (working (known p).jobs (known p).taken)
taking q p jobs taken h = subst (λ (v : Known). IsPass q p (working v.jobs v.taken)) (sym h.known) h

pub still : (q : JobQueue) (p r : JobPass) → IsPass q p (working (known p).jobs (known p).taken) → IsPass q r (known p) → IsPass q r (working (known r).jobs (known r).taken)
still q p r h k = taking q r (known p).jobs (known p).taken (subst (IsPass q r) h.known k)

pub may_send : (q : JobQueue) (p : JobPass) (jobs : List Job) (sent : ℕ) → IsPass q p (feeding jobs sent) → IsPass q p (feeding (known p).jobs (known p).sent)
may_send q p jobs sent h = subst (λ (v : Known). IsPass q p (feeding v.jobs v.sent)) (sym h.known) h

pub comes : (q : JobQueue) (p : JobPass) (jobs : List Job) (sent : ℕ) (job : Job) → IsPass q p (feeding jobs sent) → slice_get jobs sent ≡ Some job → slice_get (known p).jobs (known p).sent ≡ Some job
comes q p jobs sent job h at = subst (λ (v : Known). slice_get v.jobs v.sent ≡ Some job) (sym h.known) at

pub has_sent : (q : JobQueue) (p r : JobPass) (jobs : List Job) (sent : ℕ) → IsPass q p (feeding jobs sent) → IsPass q r (feeding (known p).jobs ((known p).sent + 1)) → IsPass q r (feeding jobs (sent + 1))
has_sent q p r jobs sent h k = subst (λ (v : Known). IsPass q r (feeding v.jobs (v.sent + 1))) h.known k
