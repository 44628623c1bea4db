use Rattle.sto_item.proofs.distinct.DistinctItems.contains.Goals as goal

pub is_among-requires : goal.is_among-requires
is_among-requires c = rw c.as_slice.ensures.items c.self.invariant
