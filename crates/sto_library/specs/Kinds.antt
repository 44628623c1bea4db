-- Tasks of two kinds.
use Rattle.either.specs.declared.Either.{Either}
use Rattle.either.specs.declared.Either.TheVariants.{Left, Right}
use Rattle.either.specs.Either.{IsLeftAnd, IsRightAnd}

-- what a task of one of two kinds gives: something of its kind, as that says
abbrev pub GivesEither : {A B W X Y : Type 0} → (A → W → W → X → Type 0) → (B → W → W → Y → Type 0) → Either A B → W → W → Either X Y → Type 0
GivesEither f g (Left a) before after out = IsLeftAnd out (f a before after)
GivesEither f g (Right b) before after out = IsRightAnd out (g b before after)

-- what a task of one of two kinds gave is of its kind, and good
abbrev pub IsGoodEither : {A B X Y : Type 0} → (A → X → Type 0) → (B → Y → Type 0) → Either A B → Either X Y → Type 0
IsGoodEither F G (Left a) out = IsLeftAnd out (F a)
IsGoodEither F G (Right b) out = IsRightAnd out (G b)
