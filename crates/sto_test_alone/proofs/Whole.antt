-- A run over contents that are known as a whole.
use Rattle.std.proofs.Common.{◌≡◌, None, List, [], ◌∷◌, ◌++◌, length, refl, ap, sym, ◌∙◌, subst}
use Rattle.std.proofs.lemmas.List.{ext_get_or, length-map}
use Rattle.sto_part.specs.Parts.{part_of}
use Rattle.sto_item.specs.declared.item.Item.{Item}
use Rattle.sto_item.specs.Pending.{Entry, applied_updates, with_updates}
use Rattle.sto_item.specs.Agreement.{AreTrueOf, HasWidths}
use Rattle.sto_item.specs.Rebase.{rebased}
use Rattle.sto_model.specs.declared.call.Call.{Call}
use Rattle.sto_model.specs.declared.body.Next.TheVariants.{Ask}
use Rattle.sto_model.specs.PlainReplies.{PlainReply}
use Rattle.sto_model.specs.SequentialObjects.{reply_to}
use Rattle.sto_model.specs.Run.{Behaviour}
use Rattle.sto_model.specs.Serial.{end_step}
use Rattle.sto_model.specs.declared.run.End.{End}
use Rattle.sto_type.specs.Known.{Parts, Known, IsPartOf}
use Rattle.sto_type.specs.Meaning.{Meaning, IsLawful}
use Rattle.sto_type.specs.Runs.{IsRunOn, IsCarried, Answered, IsAnswer, items_along}
use Rattle.sto_type.proofs.Steps.{step_widths}
use Rattle.sto_type.proofs.Carrying.{IsCarried-more}
use Rattle.sto_type.proofs.Growing.{AreAnswers-more, AreFoundIn-more, items_along-more, updates_along-more}
use Rattle.sto_test_alone.specs.Trials.{whole, IsTrial, ObservesCalls}

-- the whole of contents is part of these contents, and of no other valid ones
pub IsPartOf-whole : (c : Parts) → IsPartOf (whole c) c
IsPartOf-whole c = record { same = λ p ws l e. cc }

pub whole_only : (m : Meaning) → IsLawful m → (c d : Parts) → m.valid c → m.valid d → IsPartOf (whole c) d → d ≡ c
whole_only m law c d v w h =
    let long : length d ≡ length c = sym (length-map d length) ∙ ap length (law.widths d w) ∙ ap length (sym (law.widths c v)) ∙ length-map c length in
    ext_get_or [] d c long (λ i l. h.same i (part_of c i) l refl)

-- the run on these contents
pub run_here : (m : Meaning) (f : Behaviour) (c : Parts) (items : List Item) (es : List Entry) (rs : List PlainReply) → m.valid c → IsCarried m f (whole c) items es rs → IsRunOn m f c es rs
run_here m f c items es rs v h = h.runs c c v (IsPartOf-whole c) v (h.holds c v (IsPartOf-whole c))

pub call_true_here :
    (m : Meaning) (law : IsLawful m) (f : Behaviour) (c : Parts) (es : List Entry) (rs : List PlainReply) (call : Call) (k : Known) → IsRunOn m f c es rs → m.takes call → IsPartOf k (applied_updates es c) → m.need call k ≡ None
    → AreTrueOf (applied_updates es c) (m.items call k)
call_true_here m law f c es rs call k on t part done = law.holds call k (applied_updates es c) (record { takes = t; valid = on.valid; part = part; done = done })

pub updates_fit : (m : Meaning) (law : IsLawful m) (f : Behaviour) (c : Parts) (es : List Entry) (rs : List PlainReply) (call : Call) → IsRunOn m f c es rs → m.takes call → HasWidths (m.updates call (applied_updates es c)) c
updates_fit m law f c es rs call on t = step_widths m law f c es rs call on t

-- one more call
pub carried_more :
    (m : Meaning) (law : IsLawful m) (f : Behaviour) (c : Parts) (items : List Item) (es : List Entry) (rs : List PlainReply) (call : Call) (k : Known)
    → m.valid c → IsCarried m f (whole c) items es rs → m.takes call → IsPartOf k (applied_updates es c) → m.need call k ≡ None
    → (reply : PlainReply) (v : List Entry)
    → ((d : Parts) → m.valid d → IsPartOf k d → (reply ≡ reply_to m.machines call (m.rows d)) × (v ≡ m.updates call d))
    → f rs ≡ Ask call → IsCarried m f (whole c) (items ++ rebased es (m.items call k)) (with_updates es v) (rs ++ reply ∷ [])
carried_more m law f c items es rs call k valid was t part done reply v says asks =
    let above : (d : Parts) → m.valid d → IsPartOf (whole c) d → IsRunOn m f d es rs → IsPartOf k (applied_updates es d) =
    λ d w h on. subst (λ (e : Parts). IsPartOf k (applied_updates es e)) (sym (whole_only m law c d valid w h)) part in
    IsCarried-more m law f (whole c) (whole c) items es rs call k was t (λ d h. h) above done reply v says asks

pub observes_more :
    (m : Meaning) (f : Behaviour) (c : Parts) (items : List Item) (es : List Entry) (rs : List PlainReply) (reply : PlainReply) (a : Answered) (v : List Entry)
    → ObservesCalls m f c rs items es → IsAnswer m f rs reply a → a.found ≡ applied_updates es c → v ≡ m.updates a.call a.found
    → ObservesCalls m f c (rs ++ reply ∷ []) (items ++ rebased es (m.items a.call a.known)) (with_updates es v)
observes_more m f c items es rs reply a v was answer here says = record {
  calls = was.calls ++ a ∷ [];
  answers = AreAnswers-more m f [] rs was.calls reply a was.answers answer;
  found = AreFoundIn-more m c [] was.calls a was.found (here ∙ ap (λ (l : List Entry). applied_updates l c) was.written);
  observed =
      ap (λ (l : List Item). l ++ rebased es (m.items a.call a.known)) was.observed
      ∙ ap (λ (l : List Entry). items_along m [] was.calls ++ rebased l (m.items a.call a.known)) was.written
      ∙ sym (items_along-more m [] was.calls a);
  written = ap (with_updates es) says ∙ ap (λ (l : List Entry). with_updates l (m.updates a.call a.found)) was.written ∙ sym (updates_along-more m [] was.calls a);
}

-- the end
pub trial_of :
    (m : Meaning) (f : Behaviour) (c : Parts) (items : List Item) (es : List Entry) (rs : List PlainReply) (end : End)
    → m.valid c → IsCarried m f (whole c) items es rs → ObservesCalls m f c rs items es → f rs ≡ end_step end → IsTrial m f c rs end items es
trial_of m f c items es rs end v h observes e = record {
  observes = observes;
  holds = h.holds c v (IsPartOf-whole c);
  runs = λ d w a. h.runs c d v (IsPartOf-whole c) w a;
  ends = e;
}
