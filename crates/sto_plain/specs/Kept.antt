-- What is kept between any two calls.
use Rattle.std.specs.Prelude.{◌≡◌, ◌<◌, ℕ, suc, List, length, slice_set, slice_index_or}
use mathlib.Core.Option.{some}
use lib.ListN.{get_elem?}
use Rattle.sto_core.specs.declared.view.View.{View}
use Rattle.sto_core.specs.History.{Contents, Validity, contents_as_of}
use Rattle.sto_core.specs.Event.{Event, Draw}
use Rattle.sto_core.specs.Remembered.{Remembers}
use Rattle.sto_core.specs.Core.{Core}
use Rattle.sto_core.specs.Rule.{Past, Rule, Holds}

-- the tickets of all passes after an event of one of them
abbrev pub all_remembered : Event → ℕ → List ℕ → ℕ → List ℕ
all_remembered (Draw us seen loaded) n tickets pass = slice_set tickets pass (suc n)
all_remembered e n tickets pass = tickets

-- the view of a pass at its place, beside the ticket that the pass remembers
pub record IsSeated (pass ticket : ℕ) (v : View) : Type 0 where
  pub number : v.number ≡ pass
  pub live : 0 < v.gathered
  pub remembers : Remembers ticket v.phase

-- the rule, that there is a pass, and that each pass stands at its place and remembers its ticket
pub record Kept (valid : Validity) (tickets : List ℕ) (c : Core) : Type 0 where
  pub sizes : List ℕ
  pub opening : Contents
  pub rule : Holds valid sizes opening c
  pub some_pass : 0 < length c.views
  pub tickets_of_all : length tickets ≡ length c.views
  pub seated : (pass : ℕ) (v : View) → get_elem? c.views pass ≡ some v
      → IsSeated pass (slice_index_or tickets pass 0) v

-- the contents after all commits, by a past that meets the rule
pub record AreUpToDate (valid : Validity) (c : Core) (contents : Contents) : Type 0 where
  pub sizes : List ℕ
  pub opening : Contents
  pub past : Past
  pub rule : Rule valid sizes opening past c
  pub are : contents ≡ contents_as_of opening past.log c.clock
