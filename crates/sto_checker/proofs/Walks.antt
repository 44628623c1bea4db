-- What a walk along replies sees.
use Rattle.std.proofs.Common.{◌≡◌, List, [], ◌∷◌, ◌||◌, ◌∙◌, subst}
use Rattle.sto_model.specs.PlainReplies.{PlainReply}
use Rattle.sto_model.specs.SequentialObjects.{SequentialObject}
use Rattle.sto_model.specs.Run.{Behaviour, State, IsAsk, IsRun, IsReplyTo, stepped}
use Rattle.sto_model.specs.declared.body.Next.{Next}
use Rattle.sto_model.specs.declared.body.Next.TheVariants.{Ask, Commit, Cancel}
use Rattle.sto_checker.specs.Heard.{AreHeard}

pub heard-same : (f g : Behaviour) → ((rs : List PlainReply) → f rs ≡ g rs) → (rs : List PlainReply) → AreHeard f rs → AreHeard g rs
heard-same f g e [] h = tt
heard-same f g e (r ∷ rs) h = (subst IsAsk (e []) h.0, heard-same (λ xs. f (r ∷ xs)) (λ xs. g (r ∷ xs)) (λ xs. e (r ∷ xs)) rs h.1)

is_asked : (ms : List SequentialObject) (n : Next) (st : State) (r : PlainReply) → IsReplyTo ms n st r → IsAsk n
is_asked ms (Ask call) st r h = tt
is_asked ms Commit st r h = absurd h
is_asked ms Cancel st r h = absurd h

-- the replies of a run answer its calls
pub run_heard : (ms : List SequentialObject) (f : Behaviour) (st : State) (rs : List PlainReply) → IsRun ms f st rs → AreHeard f rs
run_heard ms f st [] h = tt
run_heard ms f st (r ∷ rs) h = (is_asked ms (f []) st r h.0, run_heard ms (λ xs. f (r ∷ xs)) (stepped ms (f []) st) rs h.1)
