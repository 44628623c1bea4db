-- The record of the attempt and what it leaves, from what the run of the transaction tells.
use Rattle.std.specs.List.{All}
use Rattle.std.specs.Prelude.{if◌then◌else◌}
use Rattle.std.proofs.Common.{◌≡◌, ◌++◌, ◌∷◌, [], ◌+◌, ℕ, List, Bool, map, false, refl, sym, ap, ◌∙◌, subst, rules, arith, length}
use Rattle.std.proofs.lemmas.List.Elements.{All-weaker, All-head}
use Rattle.sto_model.specs.PlainReplies.{plain_reply}
use Rattle.sto_core.specs.Core.{Core}
use Rattle.sto_core.specs.declared.view.View.{View}
use Rattle.sto_plain.specs.Passes.{view_of}
use Rattle.sto_history.specs.Records as plainly
use Rattle.sto_history.specs.Records.{TransactionPlace, is_abort, wrote_with, times_written}
use Rattle.sto_history.specs.Counted.{times_committed}
use Rattle.sto_history.specs.Added.{IsAdded}
use Rattle.sto_transaction.specs.declared.record.Record.{Record}
use Rattle.sto_transaction.specs.Plain.{plain, verdict}
use Rattle.sto_transaction.specs.Ran.{HasRun}
use Rattle.sto_test_alone.proofs.Records.{single, last_is}
use Rattle.sto_test_alone.proofs.WholeAttempt.{one_pass, runs_alone}
use Rattle.sto_test_alone.proofs.alone.run_transaction_alone.Goals as goal

pub returns-in-Some-clause-alone : goal.returns-in-Some-clause-alone
returns-in-Some-clause-alone g c before after up_before up_after =
    let ty = c.args.ty.now in
    let m = g.T.TxType.meaning ty in
    let sizes = g.T.Naming.sizes ty in
    let f = g.B.Body.script c.args.body in
    let x = c.in-Some.record in
    let core : Core = c.args.words in
    let later : Core = c.back-words.result in
    let v : View = view_of core 0 in
    let w : View = view_of later 0 in
    let begun = c.at-pass.result in
    let left = c.run-ran.new.cells in
    let same = c.in-Ok.ensures.same.0 in
    let from_v : view_of begun.plain begun.pass ≡ v = ap (λ (p : Core). view_of p begun.pass) c.at-pass.ensures.plain ∙ ap (view_of core) c.at-pass.ensures.pass in
    let at_zero : left.pass ≡ 0 = same.0 ∙ c.at-pass.ensures.pass in
    let to_w : view_of left.plain left.pass ≡ w = ap (view_of left.plain) at_zero ∙ ap (λ (p : Core). view_of p 0) (sym c.back-words.ensures) in
    let passes : length begun.plain.statuses ≡ 1 = ap (λ (p : Core). length p.statuses) c.at-pass.ensures.plain ∙ c.requires.one.0 in
    let place : TransactionPlace = (0, 1) in
    let ended = c.in-Ok._transacted.ended in
    let rs = c.run-ran.new.records.items in
    let told_ran = c.in-Ok.ensures.ran in
    let ran : HasRun m sizes 1 1 v w f place [] (map plain rs) ended =
    subst (λ (old : List Record). HasRun m sizes 1 1 v w f place (map plain old) (map plain rs) ended) c.new-records.ensures.items
    (subst (λ (n : ℕ). HasRun m sizes 1 n v w f place (map plain c.new-records.result.items) (map plain rs) ended) passes
    (subst (λ (u : View). HasRun m sizes 1 (length begun.plain.statuses) v u f place (map plain c.new-records.result.items) (map plain rs) ended) to_w
    (subst (λ (u : View). HasRun m sizes 1 (length begun.plain.statuses) u (view_of left.plain left.pass) f place (map plain c.new-records.result.items) (map plain rs) ended) from_v told_ran))) in
    let quiet = ran.alone refl in
    let P : plainly.Record → Type 0 = IsAdded m v w f place in
    let placed = All-weaker P (λ (r : plainly.Record). r.place ≡ place) (λ r h. h.placed) ran.new ran.added.each in
    let ends = ran.ends ∙ ap (λ (b : Bool). if b then place ∷ [] else []) quiet.0 in
    let one = single place ran.new placed quiet.1 ends in
    let all : rs ≡ c.pop.new.self.items ++ x ∷ [] = search rules in
    let last : plain x ≡ one.only = last_is c.pop.new.self.items x one.only (sym (ap (map plain) all) ∙ ran.whole ∙ one.all) in
    let added : P (plain x) = subst P (sym last) (All-head P one.only [] (subst (All P) one.all ran.added.each)) in
    let here : IsAdded m v w f place (record { place = place; replies = map plain_reply x.replies.items; verdict = verdict x.verdict }) = record { placed = refl; told = added.told; since = added.since; above = added.above } in
    let entries : (t : ℕ) → times_committed t w.entries ≡ times_committed t v.entries + wrote_with t (verdict x.verdict) =
    λ t.
    let e = ran.added.entries t in
    let n = ap (times_written t) one.all in
    let k = ap (λ (r : plainly.Record). wrote_with t r.verdict) last in omega (arith, e, n, k) in
    let quietly : is_abort (verdict x.verdict) ≡ false = ap (λ (r : plainly.Record). is_abort r.verdict) last ∙ one.ended in
    let statuses : length later.statuses ≡ 1 = ap (λ (p : Core). length p.statuses) c.back-words.ensures ∙ same.1 ∙ passes in
    let views : length later.views ≡ 1 = ap (λ (p : Core). length p.views) c.back-words.ensures ∙ same.2 ∙ ap (λ (p : Core). length p.views) c.at-pass.ensures.plain ∙ c.requires.one.1 in
    let was = one_pass g.T.Naming.valid m sizes core before c.requires.one.0 c.requires.one.1 c.requires.rests up_before in
    let now = one_pass g.T.Naming.valid m sizes later after statuses views ran.rests up_after in
    runs_alone m sizes (λ d h. (g.met.T.TxType.valid_is ty d).1 h) core later v w before after was now f place (map plain_reply x.replies.items) ran.added.grows (verdict x.verdict) here entries quietly
