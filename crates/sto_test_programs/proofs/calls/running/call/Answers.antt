use Rattle.std.specs.Prelude.{drop}
use Rattle.std.proofs.Common.{◌∙◌, ℕ, List, Option, Some, string_bytes, map, ap, sym}
use Rattle.sto_args.specs.Commands.{command_of}
use Rattle.sto_console.specs.Ends.{Ends}
use Rattle.sto_cli.specs.Programs.{program}
use Rattle.sto_test_programs.proofs.Moved.{moved}
use Rattle.sto_test_programs.proofs.calls.running.call.Goals as goal

pub returns : goal.returns
returns g c =
    let e = c.sto-status.ensures.ends in
    let told = c.in_ok-called_with.ensures in
    let words_are = ap command_of (ap (map (λ word. string_bytes word)) c.as_slice.ensures.value ∙ c.in_ok-given.ensures) in
    let left_is = ap Some (c.in_ok-source.ensures ∙ c.as_bytes.ensures.value) in
    let now_is = ap Some (sym told.bytes) in
    let rest : Option (List ℕ) = Some (drop c.sto-status.new.source.at c.sto-status.new.source.bytes.items) in
    let held : Option (List ℕ) = Some c.in_ok-source.field-0.out.bytes.items in
    record { ends = (e.0, told.status ∙ e.1, (rest, held, moved (λ w l n. Ends program e.0 w l rest held n) words_are left_is now_is e.2.0)) }
