use Rattle.std.proofs.Common.{◌≡◌, ℕ, List, map, length, sym, ap, ◌∙◌, subst}
use Rattle.sto_lang.specs.declared.file.Thread.{Thread}
use Rattle.sto_lang.specs.Views.{file as view, names_of}
use Rattle.sto_report_spec.specs.Orders.{numbers_from}
use Rattle.sto_report_spec.specs.Replay.{Entry, entries_of, opening_state}
use Rattle.sto_journal.specs.declared.journal.Line.{Line}
use Rattle.sto_journal.specs.Journals.{entry, places, HaveThreads}
use Rattle.sto_checker.proofs.Places.{length-threads}
use Rattle.sto_orders.specs.Outcomes.{thread_text, counted_by}
use Rattle.sto_orders.specs.Keys.{done_in, last_writers}
use Rattle.sto_orders.proofs.Filling.{replay_writers}
use Rattle.sto_orders.proofs.key.key_of.Goals as goal

pub all_texts-requires-clause-lines : goal.all_texts-requires-clause-lines
all_texts-requires-clause-lines c =
    subst (λ (ts : List Thread). HaveThreads (length ts) c.args.lines.now) (sym c.as_slice-threads.ensures.items) c.requires.lines

pub returns : goal.returns
returns c =
    let by = c.args.by in
    let f = view c.args.file.now in
    let ts : List Thread = c.args.file.now.threads.items in
    let lines : List Line = c.args.lines.now in
    let long : length f.threads ≡ length ts = length-threads ts in
    record {
      done = c.in_ok-done.ensures ∙ ap (λ (n : ℕ). map (done_in (places lines)) (numbers_from 0 n)) (c.len.ensures ∙ sym long);
      threads = c.in_ok-texts.ensures
          ∙ ap (λ (xs : List Thread). map (thread_text by (names_of xs) (map entry lines)) (numbers_from 0 (length xs))) c.as_slice-threads.ensures.items
          ∙ ap (λ (es : List Entry). map (thread_text by (names_of ts) es) (numbers_from 0 (length ts))) c.requires.replayed.entries
          ∙ ap (λ (n : ℕ). map (thread_text by (names_of ts) (entries_of f (places lines))) (numbers_from 0 n)) (sym long);
      writers = c.counted_by.ensures
          ∙ ap (counted_by by) (c.writers_in.ensures ∙ ap (last_writers 0) c.requires.replayed.entries ∙ replay_writers f 0 (opening_state f) (places lines));
      rows = c.in_ok-rows.ensures ∙ c.requires.replayed.final;
    }
