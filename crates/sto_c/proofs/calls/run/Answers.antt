-- A try that is not aborted ends the call; after eight aborted ones it is busy.
use Rattle.std.proofs.Common.{rules, ◌≡◌, ℕ, ◌+◌, suc, refl, ◌∙◌, subst, arith, inl, inr}
use Rattle.sto_c.specs.declared.status.Status.{Status}
use Rattle.sto_c.specs.Whole.{HaveAborted, HasFailedWhole}
use Rattle.sto_c.proofs.calls.run.Goals as goal

pub loop-aborted-init : goal.loop-aborted-init
loop-aborted-init c = record { worker = c.requires; store = (refl, refl); long = refl; aborted = refl; behind = refl; place = refl }

pub try_once-requires-clause-worker : goal.try_once-requires-clause-worker
try_once-requires-clause-worker c = c.loop-aborted.invariant.worker

pub try_once-requires-clause-room : goal.try_once-requires-clause-room
try_once-requires-clause-room c = omega (arith, c.if-replies-calls.false, c.loop-aborted.invariant.long)

pub loop-aborted-preserved : goal.loop-aborted-preserved
loop-aborted-preserved c =
    let i = c.loop-aborted.invariant in
    let next : suc c.loop-aborted.aborted ≡ c.loop-aborted.aborted + 1 = omega arith in
    record {
      worker = c.try_once.ensures.worker;
      store = (c.try_once.ensures.store.0 ∙ i.store.0, c.try_once.ensures.store.1 ∙ i.store.1);
      long = c.try_once.auto.replies ∙ i.long;
      aborted =
          subst (λ (n : ℕ). HaveAborted n c.args.calls.now c.args.held.now c.try_once.new.held) next
          (c.loop-aborted.held, i.aborted, subst (λ (s : Status). HasFailedWhole c.args.calls.now c.loop-aborted.held s c.try_once.new.held) c.in-Err-Aborted.field-0-is c.in-Err-Aborted.ensures.tried);
      behind = c.try_once.ensures.behind ∙ i.behind;
      place = c.in-Err-Aborted.ensures.kept ∙ i.place;
    }

pub returns-in_default-clause-ran : goal.returns-in_default-clause-ran
returns-in_default-clause-ran c =
    let i = c.loop-aborted.invariant in (
      (c.try_once.ensures.store.0 ∙ i.store.0, c.try_once.ensures.store.1 ∙ i.store.1),
      inr (
        omega (arith, c.if-replies-calls.false),
        inl (record {
          aborted = c.loop-aborted.aborted;
          few = omega (arith, c.loop-aborted-test.true);
          at = c.loop-aborted.held;
          before = i.aborted;
          last = c.in_default.ensures.tried;
          unaborted = search rules;
        }),
      ),
    )

pub returns-in_default-2-clause-ran : goal.returns-in_default-2-clause-ran
returns-in_default-2-clause-ran c =
    let i = c.loop-aborted.invariant in (
      (c.try_once.ensures.store.0 ∙ i.store.0, c.try_once.ensures.store.1 ∙ i.store.1),
      inr (
        omega (arith, c.if-replies-calls.false),
        inl (record {
          aborted = c.loop-aborted.aborted;
          few = omega (arith, c.loop-aborted-test.true);
          at = c.loop-aborted.held;
          before = i.aborted;
          last = c.try_once.ensures.tried;
          unaborted = search rules;
        }),
      ),
    )

pub returns-clause-ran : goal.returns-clause-ran
returns-clause-ran c =
    let i = c.loop-aborted.invariant in
    let all : c.loop-aborted.aborted ≡ 8 = omega (arith, c.loop-aborted.auto.aborted-end, c.loop-aborted-test.false) in (
      i.store,
      inr (
        omega (arith, c.if-replies-calls.false),
        inr (refl, subst (λ (n : ℕ). HaveAborted n c.args.calls.now c.args.held.now c.loop-aborted.held) all i.aborted),
      ),
    )
