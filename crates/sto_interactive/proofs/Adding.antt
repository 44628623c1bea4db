-- An attempt that waits, waits still where its body is given more calls, or another end.
use Rattle.std.proofs.Common.{◌≡◌, ◌≤◌, ℕ, List, [], ◌++◌, length, length-append, drop, ap, sym, ◌∙◌, subst, arith}
use Rattle.std.proofs.lemmas.List.{length-map}
use Rattle.std.specs.List.{Contains}
use Rattle.sto_model.specs.PlainReplies.{plain_reply}
use Rattle.sto_model.specs.Run.{Behaviour, IsAsk}
use Rattle.sto_model.specs.declared.call.Call.{Call}
use Rattle.sto_model.specs.declared.run.End.{End}
use Rattle.sto_type.specs.Traits.{OfType}
use Rattle.sto_core.specs.declared.view.View.{View}
use Rattle.sto_attempt_log.specs.ReadSet.{words_in}
use Rattle.sto_attempt_log.specs.Log.{IsLog}
use Rattle.sto_attempt.specs.declared.attempt.Attempt.{Attempt}
use Rattle.sto_attempt.specs.Attempts.{Waits, heard}
use Rattle.sto_transaction.specs.Machines.{IsOwnLog}
use Rattle.sto_interactive.specs.declared.asked_calls.AskedCalls.{AskedCalls}
use Rattle.sto_interactive.specs.Scripts.{script_of}
use Rattle.sto_interactive.specs.Bodies.{next_of, script_in, left_of, MayAskOf, asked}
use Rattle.sto_interactive.specs.Waiting.{IsWaiting}
use Rattle.sto_interactive.proofs.Alike.{IsLog-alike}
use Rattle.sto_interactive.proofs.Extending.{AreSame, same_script, more_alike, more_asked, at_end, end_asks, all_heard, skip_heard}

-- a body that does these calls and then ends so has them, and this end
pub same_body : (b : AskedCalls) (calls : List Call) (end : End) → script_in b ≡ script_of calls end → AreSame b.calls.items calls b.end end
same_body b calls end e = same_script b.calls.items calls b.end end (λ rs. ap (λ (f : Behaviour). f rs) e)

module _ {T : Type 0} (t : OfType T) (ty : T) (a : Attempt T AskedCalls) (calls : List Call) (end : End)
    (own : IsOwnLog t.meaning t.valid t.sizes script_in next_of left_of MayAskOf ty (script_of calls end) a) where
  -- as many replies as calls: its body has heard them all
  pub heard_all : length (heard a) ≡ length calls → a.log.body.heard ≡ length (heard a)
  heard_all all =
      let b = a.log.body in
      let same = same_body b calls end own.same_script in
      let rs = heard a in
      let long : length b.calls.items ≡ length calls = ap (λ (l : List Call). length l) same.same_calls in
      let none : IsAsk (script_of (drop b.heard b.calls.items) b.end []) → ⊥ = λ asks.
      let there : script_of (drop b.heard b.calls.items) b.end [] ≡ script_of b.calls.items b.end (rs ++ []) = own.log.then [] in
      let enough : length b.calls.items ≤ length (rs ++ []) = (let l = length-append rs [] in omega (arith, l, long, all)) in
      end_asks b.end (subst IsAsk (there ∙ at_end b.calls.items b.end (rs ++ []) enough) asks) in
      let most = all_heard b.calls.items b.heard b.end none in
      let least = b.within in
      omega (arith, most, least, long, all)

  module _ (begun v : View) (waiting : IsWaiting t asked ty (script_of calls end) a begun v) (all : length (heard a) ≡ length calls)
      (more : List Call) (other : End) (taken : (call : Call) → Contains (calls ++ more) call → (t.meaning ty).takes call)
      (b : AskedCalls) (has : b.calls.items ≡ calls ++ more) (ends : b.end ≡ other) (at : b.heard ≡ a.log.body.heard) where
    abbrev now : Attempt T AskedCalls
    now = record a { log = record a.log { body = b } }

    script_now : script_in b ≡ script_of (calls ++ more) other
    script_now = ap (λ (l : List Call). script_of l b.end) has ∙ ap (λ (e : End). script_of (calls ++ more) e) ends

    log_now : IsLog (t.meaning a.log.ty.now) (script_in b) (words_in a.log.table.base.items) a.log.table.set.items a.log.table.set.updates (heard a)
    log_now =
        let m = t.meaning a.log.ty.now in
        let rs = heard a in
        let before : IsLog m (script_of calls end) (words_in a.log.table.base.items) a.log.table.set.items a.log.table.set.updates rs =
        subst (λ (g : Behaviour). IsLog m g (words_in a.log.table.base.items) a.log.table.set.items a.log.table.set.updates rs) own.same_script own.log.log in
        subst (λ (g : Behaviour). IsLog m g (words_in a.log.table.base.items) a.log.table.set.items a.log.table.set.updates rs) (sym script_now)
        (IsLog-alike m (script_of calls end) (script_of (calls ++ more) other) (words_in a.log.table.base.items) a.log.table.set.items a.log.table.set.updates rs
        (more_alike calls more end other rs all) (more_asked m calls more end other rs all) before)

    own_now : IsOwnLog t.meaning t.valid t.sizes script_in next_of left_of MayAskOf ty (script_of (calls ++ more) other) now
    own_now =
        let rs = heard a in
        let so_many : b.heard ≡ length rs = at ∙ heard_all all in
        let long = length-map a.log.table.replies.items plain_reply in
        let few = b.few in
        let within = b.within in
        record {
          same_type = own.same_type;
          same_script = script_now;
          log = record {
            then = λ xs. subst (λ (n : ℕ). script_of (drop n b.calls.items) b.end xs ≡ script_of b.calls.items b.end (rs ++ xs)) (sym so_many) (skip_heard b.calls.items b.end rs xs);
            taken = λ call there.
                subst (λ (ty : T). (t.meaning ty).takes call) (sym own.same_type) (taken call (subst (λ (l : List Call). Contains l call) has there));
            few = omega (arith, few, within, so_many, long);
            log = log_now;
            known_above = own.log.known_above;
          };
        }

    waits_now : Waits t asked now v
    waits_now =
        let h = waiting.waits.0 in (
          record {
            own = h.own;
            unheld = h.unheld;
            decided = h.decided;
            draws = h.draws;
            number = h.number;
            claimed = h.claimed;
            only = h.only;
            below = h.below;
            fit = h.fit;
            stands = h.stands;
            awaits = tt;
          },
          waiting.waits.1,
        )

    pub waits_more : IsWaiting t asked ty (script_of (calls ++ more) other) now begun v
    waits_more = record { own = own_now; waits = waits_now; in_body = waiting.in_body }

    -- the same of the attempt that was given the body
    pub waits_given : (k : Attempt T AskedCalls) → k ≡ now → IsWaiting t asked ty (script_of (calls ++ more) other) k begun v
    waits_given k e = subst (λ (x : Attempt T AskedCalls). IsWaiting t asked ty (script_of (calls ++ more) other) x begun v) (sym e) waits_more

  -- the calls so far are taken
  pub taken_so_far : (call : Call) → Contains calls call → (t.meaning ty).takes call
  taken_so_far call there =
      subst (λ (y : T). (t.meaning y).takes call) own.same_type
      (own.log.taken call (subst (λ (l : List Call). Contains l call) (sym (same_body a.log.body calls end own.same_script).same_calls) there))
