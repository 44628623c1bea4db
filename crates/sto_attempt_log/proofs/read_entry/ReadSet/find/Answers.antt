use Rattle.std.proofs.Common.{◌∙◌, sym, arith}
use Rattle.sto_attempt_log.specs.Flat.{entry_of, entries_of}
use Rattle.sto_attempt_log.proofs.Placed.{place_of, no_words, no_ticket, stands_there}
use Rattle.sto_attempt_log.proofs.Flat.{entry_at, within_at, many_entries}
use Rattle.sto_attempt_log.proofs.read_entry.ReadSet.find.Goals as goal

pub get-head-requires : goal.get-head-requires
get-head-requires c =
    let hs = c.self.inside.heads.items in
    let ws = c.self.inside.words.items in
    let there = place_of (entries_of ws hs) c.args.part c.in-Some.place (sym (c.self.invariant.0 c.args.part) ∙ sym c.get.ensures ∙ c.in-Some.is) in
    omega (arith, there.within, many_entries ws hs)

pub cut-requires : goal.cut-requires
cut-requires c =
    let hs = c.self.inside.heads.items in
    let ws = c.self.inside.words.items in
    rw c.as_slice.ensures.items (within_at ws hs c.in-Some.place c.get-head.result.now c.self.invariant.1 c.get-head.ensures)

pub returns-in-Some-clause-words : goal.returns-in-Some-clause-words
returns-in-Some-clause-words c =
    let hs = c.self.inside.heads.items in
    let ws = c.self.inside.words.items in
    let there = place_of (entries_of ws hs) c.args.part c.in-Some.place (sym (c.self.invariant.0 c.args.part) ∙ sym c.get.ensures ∙ c.in-Some.is) in
    let read = there.words (entry_of ws c.get-head.result.now) (entry_at ws hs c.in-Some.place c.get-head.result.now c.get-head.ensures) in
    rw (← c.self.view_is, c.cut.ensures.words, c.as_slice.ensures.items) read

pub returns-in-Some-clause-ticket : goal.returns-in-Some-clause-ticket
returns-in-Some-clause-ticket c =
    let hs = c.self.inside.heads.items in
    let ws = c.self.inside.words.items in
    let there = place_of (entries_of ws hs) c.args.part c.in-Some.place (sym (c.self.invariant.0 c.args.part) ∙ sym c.get.ensures ∙ c.in-Some.is) in
    rw (← c.self.view_is) (there.ticket (entry_of ws c.get-head.result.now) (entry_at ws hs c.in-Some.place c.get-head.result.now c.get-head.ensures))

pub returns-in-Some-clause-part : goal.returns-in-Some-clause-part
returns-in-Some-clause-part c =
    let hs = c.self.inside.heads.items in
    let ws = c.self.inside.words.items in
    let there = place_of (entries_of ws hs) c.args.part c.in-Some.place (sym (c.self.invariant.0 c.args.part) ∙ sym c.get.ensures ∙ c.in-Some.is) in
    there.part (entry_of ws c.get-head.result.now) (entry_at ws hs c.in-Some.place c.get-head.result.now c.get-head.ensures)

pub returns-in-Some-clause-among : goal.returns-in-Some-clause-among
returns-in-Some-clause-among c =
    let hs = c.self.inside.heads.items in
    let ws = c.self.inside.words.items in
    let there = place_of (entries_of ws hs) c.args.part c.in-Some.place (sym (c.self.invariant.0 c.args.part) ∙ sym c.get.ensures ∙ c.in-Some.is) in
    rw (← c.self.view_is, c.cut.ensures.words, c.as_slice.ensures.items)
    (stands_there (entries_of ws hs) c.in-Some.place (entry_of ws c.get-head.result.now) there.within (entry_at ws hs c.in-Some.place c.get-head.result.now c.get-head.ensures))

pub returns-in-None-clause-words : goal.returns-in-None-clause-words
returns-in-None-clause-words c =
    rw (← c.self.view_is) (no_words (entries_of c.self.inside.words.items c.self.inside.heads.items) c.args.part (sym (c.self.invariant.0 c.args.part) ∙ sym c.get.ensures ∙ c.in-None.is))

pub returns-in-None-clause-ticket : goal.returns-in-None-clause-ticket
returns-in-None-clause-ticket c =
    rw (← c.self.view_is) (no_ticket (entries_of c.self.inside.words.items c.self.inside.heads.items) c.args.part (sym (c.self.invariant.0 c.args.part) ∙ sym c.get.ensures ∙ c.in-None.is))
