-- One call more in a run, for what it observed and wrote.
use Rattle.std.proofs.Common.{◌≡◌, List, [], ◌∷◌, ◌++◌, refl, ap, sym, ◌∙◌, subst, append_assoc, append-nil}
use Rattle.sto_item.specs.declared.item.Item.{Item}
use Rattle.sto_item.specs.Pending.{Entry, with_updates, applied_updates}
use Rattle.sto_item.specs.Rebase.{rebased}
use Rattle.sto_item.specs.Recorded.{Recorded, AddsItems}
use Rattle.sto_item.proofs.Added.{AddsItems-append, AddsItems-beside}
use Rattle.sto_model.specs.PlainReplies.{PlainReply}
use Rattle.sto_model.specs.Run.{Behaviour}
use Rattle.sto_type.specs.Known.{Parts}
use Rattle.sto_type.specs.Meaning.{Meaning}
use Rattle.sto_type.specs.Runs.{Answered, IsAnswer, AreAnswers, updates_along, items_along, AreFoundIn}
use Rattle.sto_type.specs.Growing.{HasGrown}

pub AreAnswers-more : (m : Meaning) (f : Behaviour) (rs ts : List PlainReply) (calls : List Answered) (t : PlainReply) (a : Answered) → AreAnswers m f rs ts calls → IsAnswer m f (rs ++ ts) t a → AreAnswers m f rs (ts ++ t ∷ []) (calls ++ a ∷ [])
AreAnswers-more m f rs [] [] t a h e = (subst (λ (l : List PlainReply). IsAnswer m f l t a) (append-nil rs) e, tt)
AreAnswers-more m f rs [] (b ∷ bs) t a h e = absurd h
AreAnswers-more m f rs (x ∷ ts) [] t a h e = absurd h
AreAnswers-more m f rs (x ∷ ts) (b ∷ bs) t a h e = (h.0, AreAnswers-more m f (rs ++ x ∷ []) ts bs t a h.1 (subst (λ (l : List PlainReply). IsAnswer m f l t a) (sym (append_assoc rs (x ∷ []) ts)) e))

pub updates_along-more : (m : Meaning) (es : List Entry) (calls : List Answered) (a : Answered) → updates_along m es (calls ++ a ∷ []) ≡ with_updates (updates_along m es calls) (m.updates a.call a.found)
updates_along-more m es [] a = refl
updates_along-more m es (b ∷ bs) a = updates_along-more m (with_updates es (m.updates b.call b.found)) bs a

pub items_along-more : (m : Meaning) (es : List Entry) (calls : List Answered) (a : Answered) → items_along m es (calls ++ a ∷ []) ≡ items_along m es calls ++ rebased (updates_along m es calls) (m.items a.call a.known)
items_along-more m es [] a = append-nil (rebased es (m.items a.call a.known))
items_along-more m es (b ∷ bs) a =
    let us : List Entry = with_updates es (m.updates b.call b.found) in
    let own : List Item = rebased es (m.items b.call b.known) in
    ap (λ (l : List Item). own ++ l) (items_along-more m us bs a) ∙ sym (append_assoc own (items_along m us bs) (rebased (updates_along m us bs) (m.items a.call a.known)))

pub AreFoundIn-more : (m : Meaning) (c : Parts) (es : List Entry) (calls : List Answered) (a : Answered) → AreFoundIn m c es calls → a.found ≡ applied_updates (updates_along m es calls) c → AreFoundIn m c es (calls ++ a ∷ [])
AreFoundIn-more m c es [] a h e = (e, tt)
AreFoundIn-more m c es (b ∷ bs) a h e = (h.0, AreFoundIn-more m c (with_updates es (m.updates b.call b.found)) bs a h.1 e)

abbrev pub HasGrown-none : (m : Meaning) (f : Behaviour) (rs : List PlainReply) (old : Recorded) → HasGrown m f rs old rs old
HasGrown-none m f rs old = record { more = []; calls = []; replies = sym (append-nil rs); answers = tt; items = refl; updates = refl }

-- a set grows by one call more
abbrev pub HasGrown-more :
    (m : Meaning) (f : Behaviour) (rs : List PlainReply) (old : Recorded) (all : List PlainReply) (mid : Recorded) (t : PlainReply) (a : Answered) (new : Recorded)
    → HasGrown m f rs old all mid → IsAnswer m f all t a → AddsItems mid (rebased mid.updates (m.items a.call a.known)) (record new { updates = mid.updates })
    → new.updates ≡ with_updates mid.updates (m.updates a.call a.found) → HasGrown m f rs old (all ++ t ∷ []) new
HasGrown-more m f rs old all mid t a new g answer adds after =
    let own : Recorded → List Item = λ s. rebased s.updates (m.items a.call a.known) in
    let left : List Item = rebased (updates_along m old.updates g.calls) (m.items a.call a.known) in
    let beside : AddsItems (record mid { updates = old.updates }) (own mid) (record new { updates = old.updates }) = AddsItems-beside old.updates mid (own mid) (record new { updates = mid.updates }) adds in
    let same : own mid ≡ left = ap (λ (l : List Entry). rebased l (m.items a.call a.known)) g.updates in
    let second : AddsItems (record mid { updates = old.updates }) left (record new { updates = old.updates }) =
    subst (λ (l : List Item). AddsItems (record mid { updates = old.updates }) l (record new { updates = old.updates })) same beside in
    record {
      more = g.more ++ t ∷ [];
      calls = g.calls ++ a ∷ [];
      replies = ap (λ l. l ++ t ∷ []) g.replies ∙ append_assoc rs g.more (t ∷ []);
      answers = AreAnswers-more m f rs g.more g.calls t a g.answers (subst (λ (l : List PlainReply). IsAnswer m f l t a) g.replies answer);
      items =
          subst (λ (l : List Item). AddsItems old l (record new { updates = old.updates })) (sym (items_along-more m old.updates g.calls a))
          (AddsItems-append old (items_along m old.updates g.calls) (record mid { updates = old.updates }) left (record new { updates = old.updates }) g.items second);
      updates = after ∙ ap (λ (l : List Entry). with_updates l (m.updates a.call a.found)) g.updates ∙ sym (updates_along-more m old.updates g.calls a);
    }
