-- How a commit stands to the view of its pass between two events. us: the updates; items: what was observed; base: the parts as they were read as of `at`.
use Rattle.std.specs.Prelude.{◌≡◌, ℕ, false, List, map, take}
use Rattle.sto_item.specs.declared.item.Item.{Item}
use Rattle.sto_item.specs.Pending.{Entry as Update}
use Rattle.sto_model.specs.declared.body.Next.TheVariants.{Commit}
use Rattle.sto_model.specs.PlainReplies.{PlainReply}
use Rattle.sto_model.specs.Run.{Behaviour}
use Rattle.sto_core.specs.declared.view.Held.{Held}
use Rattle.sto_core.specs.declared.view.View.{View}
use Rattle.sto_core.specs.History.{Validity}
use Rattle.sto_core.specs.Tells.{ClaimsFit}
use Rattle.sto_type.specs.Meaning.{Meaning, is_empty}
use Rattle.sto_attempt_log.specs.declared.read_entry.ReadEntry.{ReadEntry}
use Rattle.sto_attempt_log.specs.ReadSet.{words_in, AreClaimed, AreOnly}
use Rattle.sto_attempt_log.specs.Log.{IsLog}
use Rattle.sto_attempt_log.specs.Standing.{IsOwn}

-- the parts of the updates
abbrev pub written : List Update → List ℕ
written us = map (λ (u : Update). u.0) us

-- what stays so from the first lock to the last event: what was read, and that it carries the replies
pub record IsSealed (m : Meaning) (valid : Validity) (sizes : List ℕ) (f : Behaviour) (at : ℕ) (base : List ReadEntry) (items : List Item) (us : List Update) (rs : List PlainReply) (v : View) : Type 0 where
  pub own : IsOwn m sizes v
  pub number : v.at ≡ at
  pub claimed : AreClaimed v at base
  pub only : AreOnly v at base
  pub fit : ClaimsFit valid v
  pub log : IsLog m f (words_in base) items us rs
  pub ends : f rs ≡ Commit
  pub some : is_empty us ≡ false

-- the pass holds the first n of the written parts, in their order
pub record HoldsFirst (us : List Update) (n : ℕ) (v : View) : Type 0 where
  pub held : map (λ (h : Held). h.part) v.held ≡ take n (written us)
