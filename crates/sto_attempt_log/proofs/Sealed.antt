-- The lists that are gathered for a commit are those of the plain data `sealed`.
use Rattle.std.specs.Prelude.{if◌then◌else◌, Option, Some, None}
use Rattle.std.proofs.Common.{◌≡◌, ℕ, Bool, List, [], ◌∷◌, ◌++◌, map, refl, ap, ◌∙◌}
use Rattle.sto_part.specs.Listed.{Listed}
use Rattle.sto_part.specs.declared.change.Change.{Change}
use Rattle.sto_item.specs.Pending.{Entry as Update, plain}
use Rattle.sto_attempt_log.specs.declared.commit_phase.CommitPhase.TheVariants.{Locking}
use Rattle.sto_attempt_log.specs.Gathering.{gathered, with_maybe, other_part, adding_part, unwritten_part, places_in, places_at, AreGathered}
use Rattle.sto_attempt_log.specs.Doing.{Reader, Committer, sealed, part_added, part_unwritten, places_of, seen_of, loaded_of}
use Rattle.sto_attempt_log.proofs.Aiming.{any_writes}

adding_same : (xs : List (ℕ × Listed Change)) (ps : List ℕ) → gathered adding_part ps xs ≡ gathered part_added ps (map plain xs)
adding_same [] ps = refl
adding_same (x ∷ xs) ps = adding_same xs (with_maybe ps (adding_part x))

unwritten_one : (xs : List (ℕ × Listed Change)) (p : ℕ) → unwritten_part xs p ≡ part_unwritten (map plain xs) p
unwritten_one xs p = ap (λ (b : Bool). if b then None else Some p) (any_writes xs p)

unwritten_same : (xs : List (ℕ × Listed Change)) (ls ps : List ℕ) → gathered (unwritten_part xs) ps ls ≡ gathered (part_unwritten (map plain xs)) ps ls
unwritten_same xs [] ps = refl
unwritten_same xs (l ∷ ls) ps =
    ap (λ (o : Option ℕ). gathered (unwritten_part xs) (with_maybe ps o) ls) (unwritten_one xs l) ∙ unwritten_same xs ls (with_maybe ps (part_unwritten (map plain xs) l))

places_same : (xs : List (ℕ × Listed Change)) → places_in xs ≡ places_of (map plain xs)
places_same [] = refl
places_same (x ∷ xs) = ap (λ (l : List (ℕ × ℕ)). places_at x.0 0 x.1.items ++ l) (places_same xs)

-- a commit whose lists are gathered from the items and updates of a reader, which has found and loaded nothing, is its seal
pub gathered_sealed : (r : Reader) (c : Committer) → AreGathered r.set.items r.set.updates c.seen c.loaded c.tasks c.checks c.places
    → c.at ≡ r.at → c.base ≡ r.base → c.items ≡ r.set.items → c.us ≡ r.set.updates → c.heard ≡ r.heard → c.tickets ≡ [] → c.loads ≡ [] → c.phase ≡ Locking 0 → c ≡ sealed r
gathered_sealed r c g at base items us heard tickets loads phase =
    let seen : c.seen ≡ seen_of r.set.items = g.seen_are in
    let loaded : c.loaded ≡ loaded_of r.set.items = g.loaded_are ∙ ap (λ (l : List ℕ). gathered (other_part l) [] r.set.items) seen in
    let tasks : c.tasks ≡ gathered part_added (loaded_of r.set.items) r.set.updates =
    g.tasks_are ∙ adding_same g.xs c.loaded ∙ ap (λ (l : List ℕ). gathered part_added l (map plain g.xs)) loaded ∙ ap (gathered part_added (loaded_of r.set.items)) g.updates in
    let checks : c.checks ≡ gathered (part_unwritten r.set.updates) (seen_of r.set.items) (loaded_of r.set.items) =
    g.checks_are ∙ unwritten_same g.xs c.loaded c.seen ∙ ap (λ (l : List Update). gathered (part_unwritten l) c.seen c.loaded) g.updates
    ∙ ap (λ (l : List ℕ). gathered (part_unwritten r.set.updates) l c.loaded) seen ∙ ap (gathered (part_unwritten r.set.updates) (seen_of r.set.items)) loaded in
    let places : c.places ≡ places_of r.set.updates = g.places_are ∙ places_same g.xs ∙ ap places_of g.updates in
    λ i. record {
      at = at i;
      base = base i;
      items = items i;
      us = us i;
      heard = heard i;
      seen = seen i;
      loaded = loaded i;
      tasks = tasks i;
      checks = checks i;
      places = places i;
      tickets = tickets i;
      loads = loads i;
      phase = phase i;
    }
