-- A part that was read is known at once, with the pending updates applied.
use Rattle.std.proofs.Common.{◌<◌, ◌≤◌, List, [], ◌∷◌, ◌++◌, length, arith}
use Rattle.sto_part.specs.Changes.{applied_all}
use Rattle.sto_item.specs.declared.item.Item.{Item}
use Rattle.sto_item.specs.Pending.{Entry, changes_of}
use Rattle.sto_model.specs.PlainReplies.{PlainReply}
use Rattle.sto_model.specs.Run.{Behaviour}
use Rattle.sto_type.specs.Known.{Parts, Known, IsPartOf, learnt}
use Rattle.sto_type.specs.Meaning.{Meaning, IsLawful}
use Rattle.sto_attempt_log.specs.declared.read_entry.ReadEntry.{ReadEntry}
use Rattle.sto_attempt_log.specs.Log.{IsLog, IsCache, IsNeeded, IsPending}
use Rattle.sto_attempt_log.specs.ReadSet.{words_in}
use Rattle.sto_attempt_log.proofs.Touched.{touched_next, touched_range}
use Rattle.sto_attempt_log.proofs.Claimed.{words_new}
use Rattle.sto_attempt_log.proofs.Onward.{pending_of}
use Rattle.sto_attempt_log.proofs.Reading.{log_wider, cache_wider}
use Rattle.sto_attempt_log.proofs.Recalling.{cache_learnt, fits_read, recalled_read}

module _ (m : Meaning) (law : IsLawful m) (f : Behaviour) (base : List ReadEntry) (x : ReadEntry) (items : List Item) (es : List Entry) (rs : List PlainReply)
    (was : IsLog m f (words_in base) items es rs) (awaits : IsNeeded m (f rs) (words_in base) es x.part)
    (some : (d : Parts) × m.valid d × IsPartOf (words_in (base ++ x ∷ [])) d) where
  pending : IsPending m (words_in (base ++ x ∷ [])) es
  pending = pending_of m f (words_in (base ++ x ∷ [])) items es rs (log_wider m f base x items es rs was) some

  range : x.part < length m.widths
  range = omega (arith, touched_range m law f rs x.part (touched_next m f rs x.part awaits.by_next), law.homes)

  -- its pending changes are not more than its words
  pub fits_new : length (changes_of es x.part) ≤ length x.words.items
  fits_new = fits_read m law (words_in (base ++ x ∷ [])) es pending x.part x.words.items range (words_new base x awaits.unread)

  -- what is known with it
  pub cache_new : (k : Known) → IsCache m (words_in base) es k → IsCache m (words_in (base ++ x ∷ [])) es (learnt k x.part (applied_all (changes_of es x.part) x.words.items))
  cache_new k cache =
      cache_learnt m (words_in (base ++ x ∷ [])) es k x.part (applied_all (changes_of es x.part) x.words.items) (cache_wider m base x es k cache)
      (recalled_read m law (words_in (base ++ x ∷ [])) es pending x.part x.words.items range (words_new base x awaits.unread))
