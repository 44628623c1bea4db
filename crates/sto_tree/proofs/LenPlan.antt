-- What a len comes to, on what is known.
use Rattle.std.proofs.Common.{◌≡◌, ℕ, ℤ, pos, Option, Some, None, List, [], ◌∷◌, refl, sym, ◌∙◌, ap, arith}
use Rattle.sto_part.specs.Parts.{part_of}
use Rattle.sto_item.specs.declared.item.Item.{Item}
use Rattle.sto_item.specs.declared.item.Item.TheVariants.{Seen}
use Rattle.sto_model.specs.declared.call.Call.{Call}
use Rattle.sto_model.specs.declared.operation.Operation.TheVariants.{Len}
use Rattle.sto_model.specs.Calls.{call_of}
use Rattle.sto_model.specs.PlainReplies.{Value}
use Rattle.sto_type.specs.Known.{Known}
use Rattle.sto_type.specs.Plans.{Say, IsPlan}
use Rattle.sto_type.specs.Reading.{when_known}
use Rattle.sto_tree.specs.Layout.{word}
use Rattle.sto_tree.specs.Meaning.{tree_meaning}
use Rattle.sto_tree.specs.LenLaw.{size_is}
use Rattle.sto_tree.proofs.Parts.{known_part}

pub says_size :
    (leaves : ℕ) (k : Known) (a b : ℤ) (is : List Item) (ws : List ℤ) → k 0 ≡ Some ws → is ≡ Seen 0 ∷ []
    → IsPlan (tree_meaning leaves) (call_of 0 Len a b) k (Say (Value (word ws 0)) is [])
says_size leaves k a b is ws known items = (
  ap (λ o. when_known {A = Option ℕ} o (Some 0) (λ xs. None)) known,
  items ∙ sym (ap (λ o. when_known {A = List Item} o [] (λ xs. Seen 0 ∷ [])) known),
  λ d t part.
      let same : part_of d 0 ≡ ws = known_part leaves k d 0 ws t part (omega arith) known in
      (ap Value (ap (λ xs. word xs 0) (sym same) ∙ size_is leaves d t), refl),
)

-- a len of the one object
pub as_len : (call : Call) → call.object ≡ 0 → call.c ≡ pos 0 → call.operation ≡ Len → call_of 0 Len call.a call.b ≡ call
as_len call o third e = λ i. record { object = sym o i; operation = sym e i; a = call.a; b = call.b; c = sym third i }
