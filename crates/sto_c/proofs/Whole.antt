-- The calls of a whole transaction, one after the other.
use Rattle.std.proofs.Common.{◌≡◌, ℕ, List, [], ◌∷◌, ◌++◌, length, take, Result, Ok, Err, refl, arith, subst, inr}
use Rattle.sto_c.specs.declared.crossing.CallIn.{CallIn}
use Rattle.sto_c.specs.declared.crossing.ReplyOut.{ReplyOut}
use Rattle.sto_c.specs.declared.content.WorkerHandle.{WorkerHandle}
use Rattle.sto_c.specs.declared.status.Status.{Status}
use Rattle.sto_c.specs.Steps.{HasBegun, HasAsked, HasCommitted}
use Rattle.sto_c.specs.Whole.{HaveAsked, HasTriedWhole}

-- one more call was asked
pub have_asked_more : (calls : List CallIn) (replies : List ReplyOut) (call : CallIn) (reply : ReplyOut) (h m k : WorkerHandle)
    → length replies ≡ length calls → HaveAsked calls replies h m → HasAsked call reply m (Ok tt) k → HaveAsked (calls ++ call ∷ []) (replies ++ reply ∷ []) h k
have_asked_more [] [] call reply h m k same asked next = (k, subst (λ (x : WorkerHandle). HasAsked call reply x (Ok tt) k) asked next, refl)
have_asked_more [] (r ∷ rs) call reply h m k same asked next = absurd (omega (arith, same))
have_asked_more (c ∷ cs) [] call reply h m k same asked next = absurd (omega (arith, same))
have_asked_more (c ∷ cs) (r ∷ rs) call reply h m k same asked next =
    (asked.0, asked.1, have_asked_more cs rs call reply asked.0 m k (omega (arith, same)) asked.2 next)

-- replies that stand behind those of the calls change nothing
pub have_asked_all : (calls : List CallIn) (replies : List ReplyOut) (h k : WorkerHandle) → HaveAsked calls (take (length calls) replies) h k → HaveAsked calls replies h k
have_asked_all [] replies h k asked = asked
have_asked_all (c ∷ cs) [] h k asked = asked
have_asked_all (c ∷ cs) (r ∷ rs) h k asked = (asked.0, asked.1, have_asked_all cs rs asked.0 k asked.2)

-- a commit ends the try
pub tried_by_commit : (calls : List CallIn) (replies : List ReplyOut) (place : ℕ) (h begun asked : WorkerHandle) (done : Result (Unit {0}) Status) (k : WorkerHandle)
    → HasBegun h (Ok tt) begun → HaveAsked calls replies begun asked → HasCommitted place asked done k → HasTriedWhole calls replies place h done k
tried_by_commit calls replies place h begun asked (Ok done) k begins asks commits = record { begun = begun; asked = asked; begins = begins; asks = asks; commits = commits }
tried_by_commit calls replies place h begun asked (Err why) k begins asks fails =
    inr (inr (record { replies = replies; place = place; begun = begun; asked = asked; begins = begins; asks = asks; fails = fails }))
