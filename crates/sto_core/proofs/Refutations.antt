-- What a draw does not answer.
use Rattle.std.proofs.Common.{◌≡◌, ◌∙◌, ℕ, suc, List, ap, sym}
use Rattle.sto_core.specs.declared.view.Phase.TheVariants.{Drawn}
use Rattle.sto_core.specs.declared.view.View.{View}
use Rattle.sto_core.specs.History.{Updates, Validity}
use Rattle.sto_core.specs.Event.{Event, Draw}
use Rattle.sto_core.specs.Calls.{TellsTicket}

-- The clock as it was at the opening

pub no_ticket_0 : (valid : Validity) (passes : ℕ) (e : Event) (v w : View) → TellsTicket valid passes e v 0 w → ⊥
no_ticket_0 valid passes e v w tells = let e : 0 ≡ suc tells.0 = tells.1 in cc

-- Another ticket than the one that the pass has drawn

pub no_other_ticket : (valid : Validity) (passes : ℕ) (us : Updates) (seen loaded : List ℕ) (v w : View) (ticket other : ℕ)
    → TellsTicket valid passes (Draw us seen loaded) v ticket w → w.phase ≡ Drawn other → (other ≡ ticket → ⊥) → ⊥
no_other_ticket valid passes us seen loaded v w ticket other tells drawn differs =
    let phase : Drawn other ≡ Drawn (suc tells.0) = sym drawn ∙ ap (λ (x : View). x.phase) tells.2.after in
    let same : other ≡ suc tells.0 = cc in
    differs (same ∙ sym tells.1)
