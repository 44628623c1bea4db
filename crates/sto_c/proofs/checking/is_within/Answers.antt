-- It is in one where there are replies of one.
use Rattle.sto_shared_store.specs.Owned.{replies_of}
use Rattle.sto_c.proofs.Asking.{is_there}
use Rattle.sto_c.proofs.checking.is_within.Goals as goal

pub returns : goal.returns
returns c = is_there (λ r. r.now) c.replies.result (replies_of c.args.held.now.worker) c.is_some.result c.replies.ensures c.is_some.ensures
