-- len
use Rattle.std.proofs.Common.{◌≡◌, ℕ, ℤ, pos, [], ◌∷◌, length, refl, sym, ◌∙◌, ap, arith, inl, inr}
use Rattle.sto_item.specs.declared.item.Item.TheVariants.{Seen}
use Rattle.sto_model.specs.declared.operation.Operation.TheVariants.{Len}
use Rattle.sto_model.specs.Calls.{call_of}
use Rattle.sto_model.specs.PlainReplies.{Value}
use Rattle.sto_type.specs.Known.{Parts}
use Rattle.sto_tree.specs.Layout.{tree_rows, word, size}
use Rattle.sto_tree.specs.Len.{len_reading}
use Rattle.sto_tree.specs.Valid.{IsTree}
use Rattle.sto_tree.specs.CallLaw.{IsCallLawful}
use Rattle.sto_tree.specs.Observing.{observation_by}
use Rattle.sto_tree.specs.Updating.{count_is}

-- the size is the number of rows
pub size_is : (leaves : ℕ) (c : Parts) → IsTree leaves c → size c ≡ pos (length (tree_rows leaves c))
size_is leaves c t = t.counted ∙ ap pos (sym (count_is leaves c t.shaped))

pub len_lawful : (leaves : ℕ) (c : Parts) → IsTree leaves c → (a b : ℤ) → IsCallLawful leaves (call_of 0 Len a b) c
len_lawful leaves c t a b = record {
  observation =
      observation_by leaves (call_of 0 Len a b) len_reading c (Seen 0 ∷ []) [] refl refl
      (λ q h. elim h [ inl at ↦ omega (arith, at) | inr bad ↦ absurd bad ])
      (inl refl, tt)
      tt
      (refl, tt)
      (λ e te h.
      let same : size e ≡ size c = ap (λ ws. word ws 0) h.0 in
      (ap Value (sym (size_is leaves e te) ∙ same ∙ size_is leaves c t), refl));
  updated = record { ordered = (tt, tt); owned = tt; widths = tt; valid = t; rows = refl; writes = refl };
}
