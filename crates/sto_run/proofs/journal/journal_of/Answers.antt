use Rattle.std.proofs.Common.{◌≡◌, ℕ, List, length, map, sym, ap, ◌∙◌, subst, arith}
use Rattle.std.proofs.lemmas.List.{length-map}
use Rattle.sto_lang.specs.Scripts.{File}
use Rattle.sto_model.specs.declared.state.State.{State}
use Rattle.sto_history.specs.Records as plainly
use Rattle.sto_type.specs.Meaning.{Meaning}
use Rattle.sto_type.specs.declared.answer.Home.{Home}
use Rattle.sto_plain.specs.Passes.{view_of}
use Rattle.sto_journal.specs.Journals.{home_pair}
use Rattle.sto_serializability.specs.Merged.{aborts_from}
use Rattle.sto_transaction.specs.Plain.{plain}
use Rattle.sto_run.proofs.Few.{few_records, have_scripts}
use Rattle.sto_run.proofs.Closing.{none_held, closed_words}
use Rattle.sto_run.proofs.Placed.{in_threads, in_parts}
use Rattle.sto_run.proofs.Merged.{valid_at_end, lawful_journal}
use Rattle.sto_run.proofs.Turns.{journal_order}
use Rattle.sto_run.proofs.journal.journal_of.Goals as goal

pub contents-requires : goal.contents-requires
contents-requires g c = none_held c.args.words.now.views c.requires.one.0 c.requires.rests.held

pub rows_of-requires : goal.rows_of-requires
rows_of-requires g c =
    let m : Meaning = g.T.TxType.meaning c.args.ty.now in
    let v = view_of c.args.words.now 0 in
    let now = c.in_ok-contents.ensures.commits in
    let closed = closed_words (g.T.Naming.valid) m (g.T.Naming.sizes c.args.ty.now) c.args.words.now c.in_ok-contents.contents.items (g.met.T.TxType.valid_is c.args.ty.now) c.requires.one.0 c.requires.one.1 c.requires.rests now in
    let valid = valid_at_end m (g.F.Workload.file c.args.file.now) c.requires.sound c.requires.type_of closed c.requires.finished.0 (map plain c.args.records.items) c.requires.finished.2 in
    subst m.valid (sym now.are) valid

pub merge-requires-clause-parts : goal.merge-requires-clause-parts
merge-requires-clause-parts g c =
    let m : Meaning = g.T.TxType.meaning c.args.ty.now in
    in_parts m (g.F.Workload.file c.args.file.now) (view_of c.args.words.now 0) c.requires.type_of.lawful (length c.deref.result.now) c.args.records.items
    (ap (λ (l : List (ℕ × ℕ)). length l) (sym c.in_ok-homes.ensures) ∙ length-map c.in_ok-homes.homes.items home_pair ∙ ap (λ (l : List Home). length l) (sym c.deref.ensures.value))
    c.requires.finished.2.each

pub merge-requires-clause-few : goal.merge-requires-clause-few
merge-requires-clause-few g c =
    let rs : List plainly.Record = map plain c.args.records.items in
    let file : File = g.F.Workload.file c.args.file.now in
    let few = few_records file c.requires.finished.0 rs (have_scripts (g.T.TxType.meaning c.args.ty.now) file (view_of c.args.words.now 0) rs c.requires.finished.2.each) c.requires.finished.2.few c.requires.finished.2.order c.requires.finished.1 in
    let same = length-map c.args.records.items plain in
    let all = c.requires.sound.few_transactions in
    omega (arith, few, same, all)

pub returns-clause-state : goal.returns-clause-state
returns-clause-state g c =
    ap (λ (s : State). s.items) c.in_ok-merge.ensures.state ∙ c.in_ok-state.ensures
    ∙ ap (g.T.TxType.meaning c.args.ty.now).rows c.in_ok-contents.ensures.words

pub returns-clause-lawful : goal.returns-clause-lawful
returns-clause-lawful g c = λ tries finished.
    let m : Meaning = g.T.TxType.meaning c.args.ty.now in
    let file : File = g.F.Workload.file c.args.file.now in
    let rs : List plainly.Record = map plain c.args.records.items in
    let count : ℕ = length file.threads in
    let now = c.in_ok-contents.ensures.commits in
    let closed = closed_words (g.T.Naming.valid) m (g.T.Naming.sizes c.args.ty.now) c.args.words.now c.in_ok-contents.contents.items (g.met.T.TxType.valid_is c.args.ty.now) c.requires.one.0 c.requires.one.1 c.requires.rests now in
    let homes : map home_pair c.deref.result.now ≡ m.homes = ap (map home_pair) c.deref.ensures.value ∙ c.in_ok-homes.ensures in
    let low = in_threads m file (view_of c.args.words.now 0) c.args.records.items c.requires.finished.2.each in
    lawful_journal m file c.requires.sound c.requires.type_of closed tries rs finished c.in_ok-merge.field-0 c.in_ok-contents.contents.items
    c.in_ok-merge.ensures.lines
    (c.in_ok-merge.ensures.aborts file.declarations count low ∙ ap (λ (hs : List (ℕ × ℕ)). aborts_from file.declarations hs rs 0 count) homes)
    (ap (λ (s : State). s.items) c.in_ok-merge.ensures.state ∙ c.in_ok-state.ensures)
    now.are

pub returns-clause-in_turn : goal.returns-clause-in_turn
returns-clause-in_turn g c = λ from to turn.
    let finished = c.requires.finished.2 in
    journal_order (g.F.Workload.file c.args.file.now) c.in_ok-merge.field-0 (map plain c.args.records.items) finished.threads finished.order c.in_ok-merge.ensures.lines from to turn

pub returns-clause-of_records : goal.returns-clause-of_records
returns-clause-of_records g c =
    let m : Meaning = g.T.TxType.meaning c.args.ty.now in
    let file : File = g.F.Workload.file c.args.file.now in
    let rs : List plainly.Record = map plain c.args.records.items in
    let count : ℕ = length file.threads in
    let homes : map home_pair c.deref.result.now ≡ m.homes = ap (map home_pair) c.deref.ensures.value ∙ c.in_ok-homes.ensures in
    let low = in_threads m file (view_of c.args.words.now 0) c.args.records.items c.requires.finished.2.each in
    record {
      lines = c.in_ok-merge.ensures.lines;
      aborts = c.in_ok-merge.ensures.aborts file.declarations count low ∙ ap (λ (hs : List (ℕ × ℕ)). aborts_from file.declarations hs rs 0 count) homes;
    }
