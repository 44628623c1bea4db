-- What was told of a record stays true of later views.
use Rattle.std.proofs.Common.{◌≡◌, ℕ, ◌≤◌, List, arith, inl, inr}
use Rattle.sto_model.specs.PlainReplies.{PlainReply}
use Rattle.sto_model.specs.Run.{Behaviour}
use Rattle.sto_type.specs.Known.{Parts}
use Rattle.sto_type.specs.Meaning.{Meaning}
use Rattle.sto_core.specs.declared.view.View.{View}
use Rattle.sto_history.specs.Records.{Verdict, Wrote, Read, Cancelled, Locked, Changed, known_after}
use Rattle.sto_history.specs.Told.{HasClaimed, IsTold}
use Rattle.sto_history.specs.Added.{Grows, IsKnown}

-- what contents have of more claims, they have of fewer
fewer_claims : (v w : View) → Grows v w → (n : ℕ) (c : Parts) → HasClaimed w n c → HasClaimed v n c
fewer_claims v w g n c h j k at is = let there = g.claims k (j, at) in h there.0 k there.1 is

-- what was told of a record of the view v is told of the view w
pub told_later : (m : Meaning) (v w : View) (f : Behaviour) (replies : List PlainReply) (verdict : Verdict) → Grows v w → IsTold m v f replies verdict → IsTold m w f replies verdict
told_later m v w f replies (Wrote t) g h = record {
  entry = h.entry;
  there = g.entries h.entry h.there h.committed;
  drawn = h.drawn;
  committed = h.committed;
  runs = h.runs;
  ends = h.ends;
  writes = h.writes;
}
told_later m v w f replies (Read n) g h = record {
  known = (let a = g.at in let b = h.known in omega (arith, a, b));
  runs = λ c valid k. h.runs c valid (fewer_claims v w g n c k);
  ends = h.ends;
  writes = h.writes;
}
told_later m v w f replies (Cancelled n) g h = record {
  known = (let a = g.at in let b = h.known in omega (arith, a, b));
  runs = λ c valid k. h.runs c valid (fewer_claims v w g n c k);
  ends = h.ends;
}
told_later m v w f replies (Locked n p) g h = record {
  known = (let a = g.at in let b = h.known in omega (arith, a, b));
  runs = λ c valid k. h.runs c valid (fewer_claims v w g n c k);
  touched = h.touched;
  unsettled = h.unsettled;
}
told_later m v w f replies (Changed n p t) g h = record {
  aborted = record {
    known = (let a = g.at in let b = h.aborted.known in omega (arith, a, b));
    runs = λ c valid k. h.aborted.runs c valid (fewer_claims v w g n c k);
    touched = h.aborted.touched;
    unsettled = h.aborted.unsettled;
  };
  later = h.later;
  wrote = record { claim = h.wrote.claim; there = g.wrote h.wrote.claim h.wrote.there; by = h.wrote.by; on = h.wrote.on };
}

-- a view that was told of a record knows what the record knows
pub told_known : (m : Meaning) (v : View) (f : Behaviour) (replies : List PlainReply) (verdict : Verdict) → IsTold m v f replies verdict → IsKnown v (known_after verdict)
told_known m v f replies (Wrote t) h = inr (inl (record { entry = h.entry; there = h.there; ticket = h.drawn }))
told_known m v f replies (Read n) h = inl h.known
told_known m v f replies (Cancelled n) h = inl h.known
told_known m v f replies (Locked n p) h = inl h.known
told_known m v f replies (Changed n p t) h = inr (inr (record { claim = h.wrote.claim; there = h.wrote.there; ticket = h.wrote.by }))
