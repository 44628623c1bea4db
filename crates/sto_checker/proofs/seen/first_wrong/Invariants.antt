use Rattle.std.proofs.Common.{◌≡◌, take}
use Rattle.sto_lang.specs.Views.{file as view}
use Rattle.sto_checker.specs.Seen.{IsFirstOf}
use Rattle.sto_checker.proofs.seen.first_wrong.Given as goal

abbrev pub invariant-loop-place : goal.invariant-loop-place
invariant-loop-place l = record {
  first : IsFirstOf (view l.file) l.fn.state.items l.aborts (take l.place-index l.places) l.fn.earlier l.wrong;
  state : l.state ≡ l.fn.state;
}
