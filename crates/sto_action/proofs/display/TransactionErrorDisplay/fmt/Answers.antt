-- That several tries were all in vain is one line.
use Rattle.std.specs.Fmt.{HasWritten}
use Rattle.std.specs.Prelude.{◌==◌, if◌then◌else◌, codes, decimal}
use Rattle.std.proofs.Common.{◌≡◌, ◌++◌, ℕ, List, Bool, false, sym, ap, ◌∙◌, subst, ne_eqb}
use Rattle.sto_action.specs.ErrorTexts.{cause_text, busy_text, transaction_error_text}
use Rattle.sto_action.specs.declared.cause.AbortCause.{AbortCause}
use Rattle.sto_action.proofs.display.TransactionErrorDisplay.fmt.Goals as goal

long_text : (tries : ℕ) (last : AbortCause) → (tries == 1) ≡ false
    → codes "busy: all " ++ (decimal tries ++ (codes " tries met another transaction; the last found " ++ cause_text last)) ≡ busy_text tries last
long_text tries last more = sym (ap (λ (one : Bool).
    if one
    then codes "busy: its only try met another transaction; it found " ++ cause_text last
    else codes "busy: all " ++ (decimal tries ++ (codes " tries met another transaction; the last found " ++ cause_text last))) more)

pub returns-else-tries-eq1-clause-writes : goal.returns-else-tries-eq1-clause-writes
returns-else-tries-eq1-clause-writes g c plain ok =
    subst (λ (text : List ℕ). HasWritten {W = g.row.W.Denot} g.W.Write.write_str_gives c.args.f.now text c.write-else-tries-eq1.new.self)
    (long_text c.in-Busy.tries c.in-Busy.last (ne_eqb c.in-Busy.tries 1 c.if-tries-eq1.false) ∙ sym (ap transaction_error_text c.in-Busy.is))
    (c.write-else-tries-eq1.ensures.writes plain ok)
