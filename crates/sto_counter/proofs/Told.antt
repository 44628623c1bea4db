-- What an add and a take answer is what the effect of the call says.
use Rattle.std.proofs.Common.{◌≡◌, ℤ, pos, inl, inr, int_le, sym}
use Rattle.std.proofs.lemmas.Bool.{cases_Bool}
use Rattle.sto_model.specs.declared.operation.Operation.TheVariants.{Add, Take}
use Rattle.sto_model.specs.declared.shape.Shape.TheVariants.{Counter}
use Rattle.sto_model.specs.Objects.{effect_of}
use Rattle.sto_counter.specs.Counted.{only_row}
use Rattle.sto_counter.specs.Replies.{add_reply, take_reply}
use Rattle.sto_counter.specs.CountedLaw as Law

module _ (d b x : ℤ) where
  pub add_told : add_reply d x ≡ (effect_of (Counter (pos 0)) Add d b (only_row x)).reply
  add_told = sym (Law.add_reply (pos 0) d b x)

  pub take_told : take_reply d x ≡ (effect_of (Counter (pos 0)) Take d b (only_row x)).reply
  take_told = elim (cases_Bool (int_le d x)) [
    | inl e ↦ rw e (sym (rw e at (Law.take_reply (pos 0) d b x)))
    | inr e ↦ rw e (sym (rw e at (Law.take_reply (pos 0) d b x)))
  ]
