-- What is left of one word, and passes at rest.
use Rattle.std.proofs.Common.{◌≡◌, ◌<◌, ◌≤◌, ◌+◌, ◌^◌, ◌++◌, ℕ, ℤ, zero, suc, List, [], ◌∷◌, length, map, get_or, All, sym, refl, ap, ◌∙◌, subst, arith}
use Rattle.std.proofs.lemmas.List.{length-append}
use Rattle.sto_core.proofs.Lists.{length_of_map}
use Rattle.sto_part.specs.Parts.{part_of}
use Rattle.sto_version.specs.declared.Version.{Version}
use Rattle.sto_core.specs.declared.view.View.{View}
use Rattle.sto_core.specs.Closed.{ClosedWords}
use Rattle.sto_core.specs.History.{Contents, Validity}
use Rattle.sto_core.specs.Core.{Core, Part, part_at}
use Rattle.sto_core.specs.Gathered.{gathered_into}
use Rattle.sto_core.specs.Opened.{opened_view, opening_draws}
use Rattle.sto_core.specs.Rule.{Past, Rule}
use Rattle.sto_core.specs.Words.{parts_shown}
use Rattle.sto_core.proofs.Parts.{parts_many, width_is}
use Rattle.sto_table.specs.Closings.{IsClosedBy}
use Rattle.sto_test_layers.specs.Counter.{Rests, IsCounter}

pub weaker : (k : ℕ) (v w : View) → w ≡ v → Rests k v → Rests 0 w
weaker k v w is r =
    subst (Rests 0) (sym is) (record { idle = r.idle; held = r.held; counter = r.counter; draws = omega arith })

pub enough : (k : ℕ) (v w : View) → w ≡ v → Rests k v → k ≤ w.draws + 0
enough k v w is r = let d = ap (λ (u : View). u.draws) is in let e = r.draws in omega arith

-- a pass that was just opened
pub fresh : (sizes : List ℕ) (opening : Contents) (n k : ℕ) (v : View) → v ≡ opened_view sizes opening n
    → IsCounter opening → k ≤ 2 ^ 40 → Rests k v
fresh sizes opening n k v is counter few =
    subst (Rests k) (sym is) (record { idle = tt; held = refl; counter = counter; draws = few })

in_parts : (versions : List Version) (contents : List (List ℤ)) → length (parts_shown versions contents) ≡ 1
    → length (part_at (parts_shown versions contents) 0).words ≡ 1
    → (0 < length versions) × (0 < length (part_of contents 0))
in_parts [] contents one width = absurd (omega arith)
in_parts (n ∷ ns) [] one width = absurd (omega arith)
in_parts (n ∷ ns) (ws ∷ cs) one width = ((omega arith), (omega arith))

pub one_left : (valid : Validity) (passes : ℕ) (v : View) (w : ClosedWords) → IsClosedBy valid passes v w → IsCounter v.opening
    → (0 < length w.versions) × (0 < length (part_of w.contents 0))
one_left valid passes v w closed counter =
    let long : length v.opening ≡ 1 = ap length counter.1 in
    let width : length (part_of v.opening 0) ≡ 1 = ap (λ (c : Contents). length (part_of c 0)) counter.1 in
    in_parts w.versions w.contents (parts_many closed.rule.1 ∙ long)
    (width_is closed.rule.1 0 (omega arith) ∙ width)

-- the last two of a list of two
pub last_two : {X : Type 0} (view : X → View) (P : X → Type 0) (items xs ys : List X) (first other : X) (a b : View)
    → items ≡ xs ++ first ∷ [] → xs ≡ ys ++ other ∷ [] → map view items ≡ a ∷ b ∷ [] → All P items
    → (view first ≡ b) × (view other ≡ a) × P first × P other
last_two view P items xs [] first other a b is was views all =
    let whole = is ∙ ap (λ l. l ++ first ∷ []) was in
    let both = sym (ap (map view) whole) ∙ views in (
      ap (λ l. get_or l 1 b) both,
      ap (λ l. get_or l 0 a) both,
      subst (All P) whole all 1 first (omega arith),
      subst (All P) whole all 0 first (omega arith),
    )
last_two view P items xs (y ∷ ys) first other a b is was views all =
    let m = length_of_map view items in
    let l = ap length views in let k = ap length is in let n = length-append xs (first ∷ []) in
    let j = ap length was in let q = length-append ys (other ∷ []) in absurd (omega arith)
