use Rattle.std.proofs.Common.{◌<◌, ◌≤◌, ◌-◌, ℕ, List, length, Option, None, Some, Bor}
use Rattle.std.specs.Prelude.{MatchOption}
use Rattle.sto_lang.specs.declared.file.Script.{Script}
use Rattle.sto_trace_text.proofs.Places.{found_at}
use Rattle.sto_trace_text.proofs.attempts.at_position.Goals as goal

within : (scripts : List Script) (place : ℕ) (P : Bor Script → Type 0) (found : Option (Bor Script)) → MatchOption found (length scripts ≤ place) (λ x. (place < length scripts) × P x)
    → MatchOption found (length scripts ≤ place) (λ x. place < length scripts)
within scripts place P None h = h
within scripts place P (Some x) h = h.0

pub returns : goal.returns
returns c =
    let look = c.get.ensures.lookup in
    found_at c.args.position c.args.scripts.now c.get.result c.if-position-eq0.false look.1 (within c.args.scripts.now (c.args.position - 1) _ c.get.result look.3)
