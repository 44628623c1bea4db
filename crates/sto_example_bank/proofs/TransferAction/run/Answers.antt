-- It withdraws, and then deposits.
use Rattle.std.specs.Int.{w64}
use Rattle.std.proofs.Common.{rules, ◌≡◌, ℤ, Err, Result, to_z, of_z, sym, subst}
use Rattle.std.proofs.lemmas.Int.{to_z-of_z}
use Rattle.sto_action.specs.Progs.{Gives, Runs, Leaves, Follows, chain}
use Rattle.sto_action.specs.declared.tx.Stop.{Stop}
use Rattle.sto_action.proofs.Following.{then_follows, stop_follows}
use Rattle.sto_example_bank.specs.declared.NoTransfer.{NoTransfer}
use Rattle.sto_example_bank.specs.Accounts.{withdraw, deposit, transfer}
use Rattle.sto_example_bank.proofs.TransferAction.run.Goals as goal

pub returns-in_err-x : goal.returns-in_err-x
returns-in_err-x c =
    let t = c.args.self.now in
    let stop = c.in_err-x.field-0.0 in
    let amount : to_z w64 (of_z w64 t.amount) ≡ t.amount = to_z-of_z w64 t.amount (search rules) in
    let same : c.from_residual.result ≡ Err stop = search rules in
    let stopped = subst (λ (n : ℤ). Runs {E = NoTransfer} {A = ℤ} (withdraw t.from n) c.args.tx.now (Err stop)) amount c.in_err-x.ensures in
    subst (λ (r : Result ℤ (Stop NoTransfer)). Follows (transfer t.from t.to t.amount) c.args.tx.now c.withdraw.new.tx r) (sym same)
    (stop_follows (withdraw t.from t.amount) (λ x. chain (deposit t.to t.amount) (λ _. Gives x)) c.args.tx.now c.withdraw.new.tx c.withdraw.new.tx stop stopped)

pub returns-in_err-deposit : goal.returns-in_err-deposit
returns-in_err-deposit c =
    let t = c.args.self.now in
    let stop = c.in_err-deposit.field-0.0 in
    let x = c.in_ok-x.x in
    let amount : to_z w64 (of_z w64 t.amount) ≡ t.amount = to_z-of_z w64 t.amount (search rules) in
    let same : c.from_residual-in_err-deposit.result ≡ Err stop = search rules in
    let withdrawn = subst (λ (n : ℤ). Leaves (withdraw t.from n) c.args.tx.now c.withdraw.new.tx x) amount c.in_ok-x.ensures in
    let stopped = subst (λ (n : ℤ). Runs {E = NoTransfer} {A = Unit {0}} (deposit t.to n) c.withdraw.new.tx (Err stop)) amount c.in_err-deposit.ensures in
    subst (λ (r : Result ℤ (Stop NoTransfer)). Follows (transfer t.from t.to t.amount) c.args.tx.now c.deposit.new.tx r) (sym same)
    (then_follows (withdraw t.from t.amount) (λ y. chain (deposit t.to t.amount) (λ _. Gives y)) c.args.tx.now c.withdraw.new.tx c.deposit.new.tx x (Err stop) withdrawn
    (stop_follows (deposit t.to t.amount) (λ _. Gives x) c.withdraw.new.tx c.deposit.new.tx c.deposit.new.tx stop stopped))
