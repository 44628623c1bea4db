-- What C is told of the last reply.
use Rattle.std.proofs.Common.{◌≡◌, ◌<◌, ◌-◌, List, [], ◌∷◌, length, get_or, Option, Some, Ok, sym, ap, ◌∙◌, arith}
use Rattle.std.specs.Prelude.{option_map, option_and_then, unwrap_or}
use Rattle.std.proofs.lemmas.Option.{slice_get-get_or}
use Rattle.sto_part.specs.Listed.{Listed}
use Rattle.sto_model.specs.declared.call.Call.{Call}
use Rattle.sto_model.specs.declared.reply.Reply.{Reply}
use Rattle.sto_shared_store.proofs.Answered.{answered_last}
use Rattle.sto_c.specs.declared.content.WorkerHandle.{WorkerHandle}
use Rattle.sto_c.specs.declared.crossing.ReplyOut.{ReplyOut}
use Rattle.sto_c.specs.Content.{objects, IsWorker}
use Rattle.sto_c.specs.Crossing.{reply_out, last_of}
use Rattle.sto_c.specs.Steps.{Asks, HasHeard, last_reply_of}

last_there : {X : Type 0} (xs : List X) → 0 < length xs → (x : X) × (last_of xs ≡ Some x)
last_there [] less = absurd (omega arith)
last_there (y ∷ ys) less = (get_or (y ∷ ys) (length (y ∷ ys) - 1) y, slice_get-get_or (y ∷ ys) (length (y ∷ ys) - 1) y (omega arith))

pub has_heard : (h k : WorkerHandle) (call : Call) (old new : ReplyOut) → IsWorker h → Asks h k call (Ok tt) → new ≡ unwrap_or (option_map reply_out (last_reply_of k)) old → HasHeard new k
has_heard h k call old new is asked same =
    let a = answered_last objects h.worker k.worker call is asked.1 in
    let z = last_there a.0.items a.2 in
    let last : last_reply_of k ≡ Some z.0 = ap (λ (o : Option (Listed Reply)). option_and_then (λ rs. last_of rs.items) o) a.1 ∙ z.1 in
    let told : option_map reply_out (last_reply_of k) ≡ Some (reply_out z.0) = ap (λ (o : Option Reply). option_map reply_out o) last in
    told ∙ ap (λ (r : ReplyOut). Some r) (sym (same ∙ ap (λ (o : Option ReplyOut). unwrap_or o old) told))
