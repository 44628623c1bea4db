use Rattle.std.proofs.Common.{◌≡◌, ◌∷◌, ◌++◌, [], ap, ◌∙◌, sym, List, ℤ, length, refl}
use Rattle.sto_part.specs.Index.{place_at}
use Rattle.sto_attempt_log.specs.declared.read_entry.ReadEntry.{ReadEntry}
use Rattle.sto_attempt_log.specs.declared.read_entry.ReadHead.{ReadHead}
use Rattle.sto_attempt_log.specs.Flat.{entry_with, entries_of}
use Rattle.sto_attempt_log.proofs.Placed.{pushed_places}
use Rattle.sto_attempt_log.proofs.Flat.{entries_pushed, within_pushed, many_entries}
use Rattle.sto_attempt_log.proofs.read_entry.ReadSet.push.Goals as goal

pub invariant_of-self-2 : goal.invariant_of-self-2
invariant_of-self-2 c =
    let hs = c.self.inside.heads.items in
    let ws = c.self.inside.words.items in
    let ys = c.args.words.now in
    let h : ReadHead = record { part = c.args.part; ticket = c.args.ticket; start = c.len-start.result; width = length ys } in
    let x : ReadEntry = entry_with c.args.part c.args.ticket ys in
    let heads : c.push_spare.new.self.items ≡ hs ++ h ∷ [] = ap (λ l. l.items) c.push_spare.ensures ∙ ap (λ (l : List ReadHead). l ++ h ∷ []) c.in_ok-make_room.ensures.heads in
    let words : c.extend_spare.new.self.items ≡ ws ++ ys = ap (λ l. l.items) c.extend_spare.ensures ∙ ap (λ (l : List ℤ). l ++ ys) c.in_ok-make_room.ensures.words in
    let longer : entries_of c.extend_spare.new.self.items c.push_spare.new.self.items ≡ entries_of ws hs ++ x ∷ [] =
    rw (heads, words) (entries_pushed ws ys hs c.args.part c.args.ticket c.len-start.result (length ys) c.len-start.ensures refl c.self.invariant.1) in
    let last : c.len-place.result ≡ length (entries_of ws hs) = c.len-place.ensures ∙ ap length c.in_ok-make_room.ensures.heads ∙ sym (many_entries ws hs) in (
      pushed_places (place_at c.make_room.new.places) (place_at c.place_first.new.places) (entries_of ws hs) (entries_of c.extend_spare.new.self.items c.push_spare.new.self.items) x c.len-place.result
          (λ q. c.in_ok-make_room.ensures.places q ∙ c.self.invariant.0 q) c.place_first.ensures last longer,
      rw (heads, words) (within_pushed ws ys hs h c.len-start.ensures refl c.self.invariant.1),
    )

pub returns-clause-ok : goal.returns-clause-ok
returns-clause-ok c =
    let hs = c.self.inside.heads.items in
    let ws = c.self.inside.words.items in
    let ys = c.args.words.now in
    let h : ReadHead = record { part = c.args.part; ticket = c.args.ticket; start = c.len-start.result; width = length ys } in
    let heads : c.push_spare.new.self.items ≡ hs ++ h ∷ [] = ap (λ l. l.items) c.push_spare.ensures ∙ ap (λ (l : List ReadHead). l ++ h ∷ []) c.in_ok-make_room.ensures.heads in
    let words : c.extend_spare.new.self.items ≡ ws ++ ys = ap (λ l. l.items) c.extend_spare.ensures ∙ ap (λ (l : List ℤ). l ++ ys) c.in_ok-make_room.ensures.words in
    rw (heads, words, ← c.self.view_is) (entries_pushed ws ys hs c.args.part c.args.ticket c.len-start.result (length ys) c.len-start.ensures refl c.self.invariant.1)
