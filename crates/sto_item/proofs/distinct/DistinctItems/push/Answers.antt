use Rattle.std.proofs.Common.{◌≡◌, [], ◌∷◌, ◌++◌, ap, sym, subst, ◌∙◌, List}
use Rattle.sto_item.specs.declared.item.Item.{Item}
use Rattle.sto_item.specs.Known.{IsKnown}
use Rattle.sto_item.proofs.distinct.DistinctItems.push.Goals as goal

pub invariant_of-self : goal.invariant_of-self
invariant_of-self c = rw c.reserve.ensures.items c.self.invariant

pub note-requires-clause-known : goal.note-requires-clause-known
note-requires-clause-known c = rw (c.as_slice.ensures.items, c.reserve.ensures.items) c.self.invariant

pub invariant_of-self-in_err-note : goal.invariant_of-self-in_err-note
invariant_of-self-in_err-note c = rw (← c.as_slice.ensures.items) c.in_err-note.ensures.err

pub invariant_of-self-2 : goal.invariant_of-self-2
invariant_of-self-2 c =
    let longer : c.push_spare.new.self.items ≡ c.as_slice.result.now ++ c.args.item ∷ [] =
    ap (λ l. l.items) c.push_spare.ensures ∙ ap (λ (l : List Item). l ++ c.args.item ∷ []) (sym c.as_slice.ensures.items) in
    subst (λ (l : List Item). IsKnown l c.note.new.known.keys) (sym longer) c.in_ok-note.ensures.ok
