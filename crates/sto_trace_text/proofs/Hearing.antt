-- The calls that replies answer, as a body hears them.
use Rattle.std.proofs.Common.{◌≡◌, List, [], ◌∷◌, ◌++◌, refl, sym, ap, ◌∙◌, subst, append-nil, append_assoc, map, true, false, Bool, cond, Option, None, Some}
use Rattle.std.specs.Option.{option_map}
use Rattle.sto_model.specs.PlainReplies.{PlainReply, plain_reply}
use Rattle.sto_model.specs.declared.call.Call.{Call}
use Rattle.sto_model.specs.declared.body.Next.{Next}
use Rattle.sto_model.specs.declared.body.Next.TheVariants as next
use Rattle.sto_lang.specs.Scripts.{File, Script}
use Rattle.sto_script.specs.Meaning.{meaning_of}
use Rattle.sto_script.specs.Bodies.{then_of}
use Rattle.sto_script.specs.declared.body.ScriptBody.{ScriptBody}
use Rattle.sto_report_spec.specs.Orders.{transaction_at}
use Rattle.sto_trace.specs.declared.Step.{Step}
use Rattle.sto_trace_text.specs.Events.{Attempt, Answer, begun, hearing, asked_in, asked_by, answers, is_start, making}
use Rattle.sto_trace_text.specs.Bodies.{IsBodyOf, HearsReply, HearsReplies, GoesThrough}
use Rattle.sto_trace_text.proofs.Silent.{stays}

-- no attempt hears nothing
pub none_hears : (reply : PlainReply) → HearsReply reply None None None
none_hears reply None h = (refl, tt)
none_hears reply (Some attempt) h = absurd h

-- a body that asks a call, and hears its reply
pub call_hears : (reply : PlainReply) (before after : ScriptBody) (call : Call) → next.Ask call ≡ then_of before []
    → ((replies : List PlainReply) → then_of after replies ≡ then_of before (reply ∷ replies)) → HearsReply reply (Some before) (Some call) (Some after)
call_hears reply before after call asks hears None h = absurd h
call_hears reply before after call asks hears (Some attempt) h = (
  ap asked_in (asks ∙ h [] ∙ ap (meaning_of attempt.script) (append-nil attempt.heard)),
  λ replies. hears replies ∙ h (reply ∷ replies) ∙ ap (meaning_of attempt.script) (sym (append_assoc attempt.heard (reply ∷ []) replies)),
)

-- a body that asks nothing
pub silent_hears : (reply : PlainReply) (body : ScriptBody) (does : Next) → does ≡ then_of body [] → asked_in does ≡ None → HearsReply reply (Some body) None (Some body)
silent_hears reply body does is none None h = absurd h
silent_hears reply body does is none (Some attempt) h =
    let script = attempt.script in
    let asks : asked_in (meaning_of script attempt.heard) ≡ None = sym (ap asked_in (is ∙ h [] ∙ ap (meaning_of script) (append-nil attempt.heard))) ∙ none in (
      sym asks,
      λ replies. h replies ∙ stays script attempt.heard replies asks ∙ sym (stays script attempt.heard (reply ∷ replies) asks)
          ∙ ap (meaning_of script) (sym (append_assoc attempt.heard (reply ∷ []) replies)),
    )

same_with : (attempt : Option Attempt) → option_map (hearing []) attempt ≡ attempt
same_with None = refl
same_with (Some attempt) = ap (λ (heard : List PlainReply). Some (record attempt { heard = heard })) (append-nil attempt.heard)

hearing_more : (first second : List PlainReply) (attempt : Option Attempt) → option_map (hearing second) (option_map (hearing first) attempt) ≡ option_map (hearing (first ++ second)) attempt
hearing_more first second None = refl
hearing_more first second (Some attempt) = ap (λ (heard : List PlainReply). Some (record attempt { heard = heard })) (append_assoc attempt.heard first second)

answers_more : (first second : List PlainReply) (attempt : Option Attempt) → answers attempt (first ++ second) ≡ answers attempt first ++ answers (option_map (hearing first) attempt) second
answers_more [] second attempt = ap (λ (a : Option Attempt). answers a second) (sym (same_with attempt))
answers_more (reply ∷ first) second attempt =
    ap (λ (l : List Answer). record { call = asked_by attempt; reply = reply } ∷ l)
    (answers_more first second (option_map (hearing (reply ∷ [])) attempt)
    ∙ ap (λ (a : Option Attempt). answers (option_map (hearing (reply ∷ [])) attempt) first ++ answers a second) (hearing_more (reply ∷ []) first attempt))

pub no_replies : (body : Option ScriptBody) → HearsReplies [] body [] body
no_replies body attempt h = (refl, subst (IsBodyOf body) (sym (same_with attempt)) h)

pub one_more : (replies : List PlainReply) (reply : PlainReply) (before mid after : Option ScriptBody) (heard : List Answer) (call : Option Call)
    → HearsReplies replies before heard mid → HearsReply reply mid call after → HearsReplies (replies ++ reply ∷ []) before (heard ++ record { call = call; reply = reply } ∷ []) after
one_more replies reply before mid after heard call h k attempt is =
    let one = h attempt is in
    let two = k (option_map (hearing replies) attempt) one.1 in (
      ap (λ (l : List Answer). l ++ record { call = call; reply = reply } ∷ []) one.0
          ∙ ap (λ (c : Option Call). answers attempt replies ++ record { call = c; reply = reply } ∷ []) two.0
          ∙ sym (answers_more replies (reply ∷ []) attempt),
      subst (IsBodyOf after) (hearing_more replies (reply ∷ []) attempt) two.1,
    )

-- a body of a new attempt
pub new_body : (script : Script) (body : ScriptBody) → then_of body ≡ meaning_of script → IsBodyOf (Some body) (Some (begun script))
new_body script body e replies = ap (λ (f : List PlainReply → Next). f replies) e

module _ (file : File) (step : Step) where
  abbrev making_by : Bool → Option Attempt → Option Attempt
  making_by start attempt = cond start (option_map begun (transaction_at file (step.thread, step.position))) attempt

  -- a start, with the body of a new attempt
  pub started : (before mid after : Option ScriptBody) (heard : List Answer) → is_start step.deed ≡ true
      → IsBodyOf mid (option_map begun (transaction_at file (step.thread, step.position))) → HearsReplies (map plain_reply step.replies.items) mid heard after → GoesThrough file step before heard after
  started before mid after heard start new h attempt is =
      let same : making file attempt step ≡ option_map begun (transaction_at file (step.thread, step.position)) = ap (λ (b : Bool). making_by b attempt) start in
      h (making file attempt step) (subst (IsBodyOf mid) (sym same) new)

  -- any other step
  pub went_on : (before after : Option ScriptBody) (heard : List Answer) → is_start step.deed ≡ false → HearsReplies (map plain_reply step.replies.items) before heard after → GoesThrough file step before heard after
  went_on before after heard start h attempt is =
      let same : making file attempt step ≡ attempt = ap (λ (b : Bool). making_by b attempt) start in
      h (making file attempt step) (subst (IsBodyOf before) (sym same) is)
