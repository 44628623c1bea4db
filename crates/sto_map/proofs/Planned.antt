-- The answer is what the meaning says.
use Rattle.std.proofs.Common.{◌≡◌, ◌<◌, ◌≤◌, ◌+◌, ◌*◌, ◌^◌, ℕ, sym, subst}
use Rattle.sto_model.specs.declared.call.Call.{Call}
use Rattle.sto_type.specs.Known.{Parts, Known, IsPartOf}
use Rattle.sto_type.specs.Plans.{IsPlan, planned}
use Rattle.sto_type.specs.declared.answer.Answer.{Answer}
use Rattle.sto_type.specs.Telling.{plan_of}
use Rattle.sto_type.specs.OneObjectLaw.{planned_as}
use Rattle.sto_map.specs.Mapped.{map_machine, map_widths, map_rows, telling, IsMap, MapTakes}
use Rattle.sto_map.specs.Sized.{sizes_of, opening_of, meaning_by, type_is}

pub answered :
    (keys places stripes seed : ℕ) (enough : keys ≤ places) (some : 0 < places) (striped : 0 < stripes) (few : stripes + 3 * places < 2 ^ 32) (call : Call) (k : Known) (d : Parts) (t : MapTakes call)
    (v : IsMap (sizes_of keys places stripes seed) d) (part : IsPartOf k d) (answer : Answer) → planned answer ≡ plan_of (telling (sizes_of keys places stripes seed) call) k
    → IsPlan (meaning_by keys places stripes seed) call k (planned answer)
answered keys places stripes seed enough some striped few call k d t v part answer h =
    let z = sizes_of keys places stripes seed in
    subst (IsPlan (meaning_by keys places stripes seed) call k) (sym h)
    (planned_as (map_machine keys) (map_widths z) (opening_of keys places stripes seed) (IsMap z) (map_rows z) MapTakes (telling z) (type_is keys places stripes seed enough some striped few) call k d t v part)
