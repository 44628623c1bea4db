use Rattle.std.proofs.Common.{◌≤◌, ℕ, refl, subst}
use Rattle.std.specs.Prelude.{Result, Ok, Err, IfOk, map}
use Rattle.sto_part.specs.Listed.{Listed}
use Rattle.sto_part.specs.declared.NoMemory.{NoMemory}
use Rattle.sto_lang.specs.Views.{file}
use Rattle.sto_trace_text.specs.Bodies.{answer_of}
use Rattle.sto_trace_text.specs.declared.attempts.Answer.{Answer}
use Rattle.sto_trace_text.proofs.Led.{own_goes, none_goes}
use Rattle.sto_trace_text.proofs.attempts.answers.Goals as goal

if_ok : (r : Result (Listed Answer) NoMemory) (P Q : Listed Answer → Type 0) → ((x : Listed Answer) → P x → Q x) → IfOk r P → IfOk r Q
if_ok (Ok x) P Q f h = f x h
if_ok (Err e) P Q f h = h

pub returns-then-step-len : goal.returns-then-step-len
returns-then-step-len c =
    if_ok c.answered_with.result _ _
    (λ x h. own_goes (file c.args.file.now) c.args.step.now c.args.attempts.now.items (map answer_of x.items) _ c.get_mut.result.now c.answered_with.new.attempt c.get_mut.ensures.value h refl)
    c.answered_with.ensures

pub returns-else-step-len : goal.returns-else-step-len
returns-else-step-len c =
    if_ok c.answered_with-else-step-len.result _ _
    (λ x h. none_goes (file c.args.file.now) c.args.step.now c.args.attempts.now.items (map answer_of x.items) c.answered_with-else-step-len.new.attempt
    (subst (λ (n : ℕ). n ≤ c.args.step.now.thread) c.len.ensures c.if-step-len.false) h)
    c.answered_with-else-step-len.ensures
