-- The transaction at a place, as the code looks it up.
use Rattle.std.proofs.Common.{◌≡◌, ◌<◌, ◌≤◌, ℕ, zero, suc, ◌-◌, List, length, get_or, refl, sym, ap, ◌∙◌, arith, map, Option, None, Some, slice_get, Bor}
use Rattle.std.specs.Prelude.{MatchOption, option_and_then}
use Rattle.std.specs.Option.{option_map, option_copied, IfSome}
use Rattle.std.proofs.lemmas.Option.{slice_get_past, slice_get-map, slice_get-get_or}
use Rattle.sto_lang.specs.Scripts.{Script, File}
use Rattle.sto_lang.specs.Objects.{shapes_of}
use Rattle.sto_lang.specs.Sizes.{calls_of}
use Rattle.sto_lang.specs.Sound.{IsSound}
use Rattle.sto_lang.proofs.SoundFiles.{calls_within, script_at}
use Rattle.sto_lang.specs.declared.file.Script as code
use Rattle.sto_lang.specs.Views.{script}
use Rattle.sto_report_spec.specs.Orders.{at_position, transaction_at}

-- what `get` finds
looked_up : (scripts : List code.Script) (place : ℕ) (found : Option (Bor code.Script)) → IfSome found (λ x. x.now ≡ get_or scripts place x.now)
    → MatchOption found (length scripts ≤ place) (λ x. place < length scripts) → option_copied found ≡ slice_get scripts place
looked_up scripts place None h k = sym (slice_get_past scripts place k)
looked_up scripts place (Some x) h k = sym (slice_get-get_or scripts place x.now k ∙ ap Some (sym h))

-- positions count from 1
from_one : (position : ℕ) (scripts : List Script) → (position ≡ 0 → ⊥) → slice_get scripts (position - 1) ≡ at_position position scripts
from_one zero scripts h = absurd (h refl)
from_one (suc place) scripts h = ap (slice_get scripts) (let e : suc place - 1 ≡ place = omega arith in e)

pub found_at : (position : ℕ) (scripts : List code.Script) (found : Option (Bor code.Script)) → (position ≡ 0 → ⊥) → IfSome found (λ x. x.now ≡ get_or scripts (position - 1) x.now)
    → MatchOption found (length scripts ≤ position - 1) (λ x. position - 1 < length scripts) → option_map script (option_copied found) ≡ at_position position (map script scripts)
found_at position scripts found nonzero h k =
    ap (option_map script) (looked_up scripts (position - 1) found h k) ∙ sym (slice_get-map script scripts (position - 1)) ∙ from_one position (map script scripts) nonzero

-- a transaction of a sound file weighs as much as the calls that it may ask
pub place_weighs : (file : File) (thread position : ℕ) (one : Script) → IsSound file → transaction_at file (thread, position) ≡ Some one → calls_of one.body ≤ one.weight
place_weighs file thread position one sound at = by (slice_get file.threads thread) refl at
  where
    in_thread : (scripts : List Script) (position : ℕ) → slice_get file.threads thread ≡ Some scripts → at_position position scripts ≡ Some one → calls_of one.body ≤ one.weight
    in_thread scripts zero e f = absurd cc
    in_thread scripts (suc place) e f = calls_within (shapes_of file.declarations) one (script_at file thread place scripts one sound e f)

    by : (found : Option (List Script)) → slice_get file.threads thread ≡ found → option_and_then (at_position position) found ≡ Some one → calls_of one.body ≤ one.weight
    by None e f = absurd cc
    by (Some scripts) e f = in_thread scripts position e f
