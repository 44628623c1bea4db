use Rattle.sto_test_containers.proofs.worked.last_answer.Given as goal

abbrev pub invariant-loop-call : goal.invariant-loop-call
invariant-loop-call g l = (g.T.TxType.meaning l.ty).valid l.contents.items
