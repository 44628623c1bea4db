-- What tasks of two kinds gave.
use Rattle.std.specs.List.{All, AllZip, filter_map}
use Rattle.std.proofs.Common.{◌≡◌, suc, List, [], ◌∷◌, length, refl, ap}
use Rattle.std.proofs.lemmas.List.Elements.{All-nil, All-cons}
use Rattle.either.specs.declared.Either.{Either}
use Rattle.either.specs.declared.Either.TheVariants.{Left, Right}
use Rattle.either.specs.Either.{left, right}
use Rattle.sto_library.specs.Kinds.{IsGoodEither}
use Rattle.sto_library.proofs.Keeping.{AreGood}

rights_by : {A B X Y : Type 0} (F : A → X → Type 0) (G : Y → Type 0) (tasks : List (Either A B)) (outs : List (Either X Y)) → AllZip (IsGoodEither F (λ b. G)) tasks outs
    → (length (filter_map right outs) ≡ length (filter_map right tasks)) × All G (filter_map right outs)
rights_by F G [] [] h = (refl, All-nil G)
rights_by F G [] (out ∷ outs) h = absurd h
rights_by F G (task ∷ tasks) [] h = absurd h
rights_by F G (Left a ∷ tasks) (Left x ∷ outs) h = rights_by F G tasks outs h.1
rights_by F G (Left a ∷ tasks) (Right y ∷ outs) h = absurd h.0
rights_by F G (Right b ∷ tasks) (Left x ∷ outs) h = absurd h.0
rights_by F G (Right b ∷ tasks) (Right y ∷ outs) h = let rest = rights_by F G tasks outs h.1 in (ap suc rest.0, All-cons G y (filter_map right outs) h.0 rest.1)

lefts_by : {A B X Y : Type 0} (F : X → Type 0) (G : B → Y → Type 0) (tasks : List (Either A B)) (outs : List (Either X Y)) → AllZip (IsGoodEither (λ a. F) G) tasks outs
    → (length (filter_map left outs) ≡ length (filter_map left tasks)) × All F (filter_map left outs)
lefts_by F G [] [] h = (refl, All-nil F)
lefts_by F G [] (out ∷ outs) h = absurd h
lefts_by F G (task ∷ tasks) [] h = absurd h
lefts_by F G (Left a ∷ tasks) (Left x ∷ outs) h = let rest = lefts_by F G tasks outs h.1 in (ap suc rest.0, All-cons F x (filter_map left outs) h.0 rest.1)
lefts_by F G (Left a ∷ tasks) (Right y ∷ outs) h = absurd h.0
lefts_by F G (Right b ∷ tasks) (Left x ∷ outs) h = absurd h.0
lefts_by F G (Right b ∷ tasks) (Right y ∷ outs) h = lefts_by F G tasks outs h.1

-- those of the first kind gave as many things as there are such tasks, and each is good
pub lefts_good : {A B X Y : Type 0} {F : X → Type 0} {G : B → Y → Type 0} {tasks : List (Either A B)} {outs : List (Either X Y)} → AreGood (IsGoodEither (λ a. F) G) tasks outs
    → (length (filter_map left outs) ≡ length (filter_map left tasks)) × All F (filter_map left outs)
lefts_good {F = F} {G = G} {tasks = tasks} {outs = outs} h = lefts_by F G tasks outs h.each

-- those of the second kind gave as many things as there are such tasks, and each is good
pub rights_good : {A B X Y : Type 0} {F : A → X → Type 0} {G : Y → Type 0} {tasks : List (Either A B)} {outs : List (Either X Y)} → AreGood (IsGoodEither F (λ b. G)) tasks outs
    → (length (filter_map right outs) ≡ length (filter_map right tasks)) × All G (filter_map right outs)
rights_good {F = F} {G = G} {tasks = tasks} {outs = outs} h = rights_by F G tasks outs h.each
