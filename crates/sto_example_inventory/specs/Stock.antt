-- What the transactions of the inventory do, and what they keep.
use Rattle.std.specs.List.{All, filter_map}
use Rattle.std.specs.Prelude.{◌≡◌, ℤ, pos, ◌≤ℤ◌, ℕ, List, [], ◌∷◌, length, codes, Option, Result, if◌then◌else◌, unwrap_or}
use Rattle.std.specs.declared.convert.Infallible.{Infallible}
use Rattle.either.specs.Either.{right}
use Rattle.either.specs.declared.Either.{Either}
use Rattle.sto_part.specs.Changes.{wrapped_sum}
use Rattle.sto_model.specs.declared.shape.Shape.{Shape}
use Rattle.sto_model.specs.declared.shape.Shape.TheVariants.{Counter, Hash}
use Rattle.sto_model.specs.Rows.{Row}
use Rattle.sto_model.specs.Run.{State}
use Rattle.sto_action.specs.declared.handles.CounterId.{CounterId}
use Rattle.sto_action.specs.declared.handles.HashId.{HashId}
use Rattle.sto_action.specs.Progs.{Prog, Gives, Cancels}
use Rattle.sto_action.specs.Steps.{counter_get, counter_take, hash_get, hash_put}
use Rattle.sto_action.specs.declared.outcome.Done.{Done}
use Rattle.sto_action.specs.declared.outcome.TransactionError.{TransactionError}
use Rattle.sto_library.specs.Keeping.{IfGave}
use Rattle.sto_example_inventory.specs.declared.NoSale.{NoSale}
use Rattle.sto_example_inventory.specs.declared.NoSale.TheVariants.{SoldOut, BookFull}

-- how a reason prints itself
abbrev pub no_sale_text : NoSale → List ℕ
no_sale_text SoldOut = codes "not enough is in stock"
no_sale_text BookFull = codes "the book is full"

-- it makes the line of a customer say so many pieces more, where it says this or nothing; it gives what it says then
abbrev pub noted : HashId → ℤ → ℤ → Option ℤ → Prog NoSale ℤ
noted book customer pieces line =
    hash_put book customer (wrapped_sum (unwrap_or line (pos 0)) pieces) (λ put. if put then Gives (wrapped_sum (unwrap_or line (pos 0)) pieces) else Cancels BookFull)

-- it adds pieces to the line of a customer
abbrev pub note : HashId → ℤ → ℤ → Prog NoSale ℤ
note book customer pieces = hash_get book customer (noted book customer pieces)

-- it takes pieces from the stock, where they are there, and notes them
abbrev pub sale : CounterId → HashId → ℤ → ℤ → Prog NoSale ℤ
sale stock book customer pieces = counter_take stock pieces (λ taken. if taken then note book customer pieces else Cancels SoldOut)

-- it gives what is in stock, and what two customers have bought
abbrev pub count : CounterId → HashId → ℤ → ℤ → Prog Infallible (ℤ × ℤ)
count stock book one other =
    counter_get stock (λ left. hash_get book one (λ x. hash_get book other (λ y. Gives (left, wrapped_sum (unwrap_or x (pos 0)) (unwrap_or y (pos 0))))))

-- the stock and the book at the opening
abbrev pub objects : List Shape
objects = Counter (pos 50) ∷ Hash 4 2 ∷ []

-- what is in stock, and the lines of the book
abbrev pub holding : ℤ → List Row → State
holding left lines = ((pos 0, left) ∷ []) ∷ lines ∷ []

-- what is in stock is not below zero
pub record IsStocked (state : State) : Type 0 where
  pub left : ℤ
  pub lines : List Row
  pub are : state ≡ holding left lines
  pub some : pos 0 ≤ℤ left

-- what a sale and a count led to, and what somebody in the shop tells: a seller of a sale, or a clerk of a count
abbrev pub Sold : Type 0
Sold = Result (Done ℤ NoSale) TransactionError

abbrev pub Counted : Type 0
Counted = Result (Done (ℤ × ℤ) Infallible) TransactionError

abbrev pub Told : Type 0
Told = Either Sold Counted

-- what was counted in stock is not below zero
abbrev pub IsCount : ℤ × ℤ → Type 0
IsCount count = pos 0 ≤ℤ count.0

-- what the clerks counted, among all that was told
abbrev pub all_counts : List Told → List Counted
all_counts told = filter_map right told

-- what both clerks counted in stock is not below zero, and what is left at the end is not
abbrev pub IsDay : List Told → State → Type 0
IsDay told rows = (length (all_counts told) ≡ 2) × All (IfGave IsCount) (all_counts told) × IsStocked rows
