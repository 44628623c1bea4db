-- What the table of an attempt is not, and what running a body does not do.
use Rattle.std.proofs.Common.{◌≡◌, ◌≢◌, ℤ, true, List, [], ◌∷◌, sym, ap, ◌∙◌}
use Rattle.sto_part.specs.Listed.{Listed}
use Rattle.sto_model.specs.declared.reply.Reply.{Reply}
use Rattle.sto_attempt_log.specs.declared.log.Log.{Log}
use Rattle.sto_attempt_log.specs.declared.read_entry.ReadEntry.{ReadEntry}
use Rattle.sto_attempt_log.specs.declared.table.Table.{Table}
use Rattle.sto_attempt_log.specs.Tables.{IsClear, run_to}

-- a table on which a part stands as read is not clear
pub read_not_clear : (t : Table) (e : ReadEntry) (es : List ReadEntry) → t.base.items ≡ e ∷ es → IsClear t → ⊥
read_not_clear t e es is h = let no = sym is ∙ h.base in cc

-- nor one whose extension was begun
pub extended_not_clear : (t : Table) → t.extension.extended ≡ true → IsClear t → ⊥
extended_not_clear t is h = let no = sym is ∙ h.extended in cc

-- replies that are kept back are not those of the table
pub kept_back : (t : Table) (r : Reply) (rs : List Reply) (result : Listed Reply) → t.replies.items ≡ r ∷ rs → result.items ≡ [] → result ≡ t.replies → ⊥
kept_back t r rs result some none h = let no = sym none ∙ ap (λ (l : Listed Reply). l.items) h ∙ some in cc

module _ {T B : Type 0} (old new : Log T B) where
  -- a run that loses a word of the open read
  pub word_lost : (w : ℤ) (ws : List ℤ) → old.table.words.items ≡ w ∷ ws → new.table.words.items ≡ [] → new ≡ run_to old new → ⊥
  word_lost w ws some none h = let no = sym none ∙ ap (λ (l : Log T B). l.table.words.items) h ∙ some in cc

  -- a run that reads a part
  pub part_invented : (e : ReadEntry) (es : List ReadEntry) → old.table.base.items ≡ [] → new.table.base.items ≡ e ∷ es → new ≡ run_to old new → ⊥
  part_invented e es none some h = let no = sym some ∙ ap (λ (l : Log T B). l.table.base.items) h ∙ none in cc
