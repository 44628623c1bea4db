use Rattle.std.proofs.Common.{◌≡◌, ◌+◌, ℕ, suc, List, length, sym, ap, ◌∙◌, subst, Option, None, Some, arith}
use Rattle.std.proofs.lemmas.Option.{slice_get_within}
use Rattle.sto_lang.specs.Views.{file as view}
use Rattle.sto_journal.specs.declared.journal.Line.{Line}
use Rattle.sto_journal.specs.Journals.{places}
use Rattle.sto_checker.specs.Answer.{AreRight}
use Rattle.sto_checker.specs.Lines.{lines_of}
use Rattle.sto_checker.specs.Reached.{AreObjectsRead, IsWrongOr}
use Rattle.sto_checker.specs.Right.{total}
use Rattle.sto_checker.proofs.Lines.{few_lines}
use Rattle.sto_checker.specs.declared.abort.GivenAbort.{GivenAbort}
use Rattle.sto_checker.specs.Seen.{IsFirstUnheard}
use Rattle.sto_checker.proofs.Sound.{journal_long}
use Rattle.sto_checker.proofs.Taken.{places_long}
use Rattle.sto_checker.proofs.Unheard.{ended_so, placed_there, seen_few, all_right, goes_wrong}
use Rattle.sto_checker.proofs.check.read_aborts.Goals as goal

pub first_unheard-requires-clause-few_lines : goal.first_unheard-requires-clause-few_lines
first_unheard-requires-clause-few_lines c =
    let read = c.requires.taken.journal.lines_are in
    let long = journal_long (view c.args.file.now) c.args.tries (lines_of c.args.reader.now.bytes.now) c.args.reader.now.read (omega (arith, c.requires.taken.count)) read.within read.right in
    let named = ap length read.order in
    let all = places_long c.args.replayed.now.past.run.lines.items in
    let items = ap length c.as_slice.ensures.items in
    omega (arith, long, named, all, items, c.requires.taken.count, c.requires.sound.few_transactions)

pub first_unheard-requires-clause-seen : goal.first_unheard-requires-clause-seen
first_unheard-requires-clause-seen c = λ place given at.
    seen_few (view c.args.file.now) c.args.tries (lines_of c.args.reader.now.bytes.now) (places c.args.replayed.now.past.run.lines.items) c.in_ok-aborts.field-0.aborts.items c.in_ok-aborts.ensures.gathered c.requires.taken.order
    c.args.replayed.now.past.run.writers c.requires.taken.replayed_is.past.run.writers_are place given (rw c.as_slice-2.ensures.items at at)

pub first_unheard-requires-clause-placed : goal.first_unheard-requires-clause-placed
first_unheard-requires-clause-placed c = λ place given at.
    placed_there (view c.args.file.now) c.args.tries (lines_of c.args.reader.now.bytes.now) (places c.args.replayed.now.past.run.lines.items) c.in_ok-aborts.field-0.aborts.items c.in_ok-aborts.ensures.gathered place given
    (rw c.as_slice-2.ensures.items at at)

pub overflow_add-result : goal.overflow_add-result
overflow_add-result c =
    let order = places c.args.replayed.now.past.run.lines.items in
    let aborts = c.in_ok-aborts.field-0.aborts.items in
    let writers = c.args.replayed.now.past.run.writers in
    let first = rw c.in-Some.is at c.in_ok-place.ensures in
    let inside = slice_get_within c.as_slice-2.result.now c.in-Some.place first.unheard.given first.unheard.stands in
    let items = ap length c.as_slice-2.ensures.items in
    let within = c.in_ok-aborts.ensures.gathered.within in
    let few = few_lines c.args.reader.now.bytes.now in
    omega (arith, inside, items, within, few, c.args.reader.now.few, c.number-before.ensures, c.requires.taken.count)

pub returns-in-Some-clause-read : goal.returns-in-Some-clause-read
returns-in-Some-clause-read c =
    let file = view c.args.file.now in
    let tries = c.args.tries in
    let lines = lines_of c.args.reader.now.bytes.now in
    let order = places c.args.replayed.now.past.run.lines.items in
    let aborts = c.in_ok-aborts.field-0.aborts.items in
    let writers = c.args.replayed.now.past.run.writers in
    let gathered = c.in_ok-aborts.ensures.gathered in
    let seen = seen_few file tries lines order aborts gathered c.requires.taken.order writers c.requires.taken.replayed_is.past.run.writers_are in
    let journal = subst (AreRight file tries lines) c.requires.taken.count c.requires.taken.journal.lines_are.right in
    let first = rw c.in-Some.is at c.in_ok-place.ensures in
    let whole = subst (λ (ls : List Line). IsFirstUnheard file (places ls) c.as_slice-2.result.now (writers + 1) (Some c.in-Some.place)) c.as_slice.ensures.items first in
    let found = subst (λ (gs : List GivenAbort). IsFirstUnheard file order gs (writers + 1) (Some c.in-Some.place)) c.as_slice-2.ensures.items whole in
    let number : c.number-before.result + c.in-Some.place ≡ suc (total file + c.in-Some.place) = omega (arith, c.number-before.ensures, c.requires.taken.count) in
    goes_wrong file tries lines order aborts gathered journal writers seen c.in-Some.place found (c.number-before.result + c.in-Some.place) number

pub returns-clause-read : goal.returns-clause-read
returns-clause-read c =
    let file = view c.args.file.now in
    let tries = c.args.tries in
    let lines = lines_of c.args.reader.now.bytes.now in
    let order = places c.args.replayed.now.past.run.lines.items in
    let aborts = c.in_ok-aborts.field-0.aborts.items in
    let writers = c.args.replayed.now.past.run.writers in
    let gathered = c.in_ok-aborts.ensures.gathered in
    let seen = seen_few file tries lines order aborts gathered c.requires.taken.order writers c.requires.taken.replayed_is.past.run.writers_are in
    let journal = subst (AreRight file tries lines) c.requires.taken.count c.requires.taken.journal.lines_are.right in
    let first = rw c.in-None.is at c.in_ok-place.ensures in
    let whole = subst (λ (ls : List Line). IsFirstUnheard file (places ls) c.as_slice-2.result.now (writers + 1) None) c.as_slice.ensures.items first in
    let found = subst (λ (gs : List GivenAbort). IsFirstUnheard file order gs (writers + 1) None) c.as_slice-2.ensures.items whole in
    let right = all_right file tries lines order aborts gathered journal writers seen found in
    ended_so file tries lines c.args.replayed.now.past (total file + length aborts) c.gather.new.reader.read c.in_ok-aborts.field-0.wrong c.in_ok-aborts.ensures.ended right
