use Rattle.std.proofs.Common.{◌≡◌, ℕ, List, ◌∷◌, ◌∙◌, sym, ap, subst, map}
use Rattle.sto_syntax.specs.Lines.{words_of}
use Rattle.sto_lang.specs.Views.{declaration}
use Rattle.sto_question.specs.Questions.{Draft, with_link, question_from}
use Rattle.sto_question.specs.Readings.{draft}
use Rattle.sto_question.proofs.Pieces.{read_on}
use Rattle.sto_question.proofs.read.question_in.Goals as goal

pub loop-word-preserved : goal.loop-word-preserved
loop-word-preserved c =
    let ds = map declaration c.args.decls.now in
    let word = c.in-Some.word.now in
    let link = c.in-Some-next_word.link.now in
    let words = words_of c.in-Some-next_word.more.now in
    let e = draft c.in_ok-draft.draft in
    let linked = ap (λ (d : Draft). with_link d link) (sym c.in_ok-longer.ensures) ∙ c.in_ok-draft.ensures.draft in
    sym (ap (question_from ds (draft c.loop-word.draft)) (c.in-Some.ensures.found ∙ ap (λ (ws : List (List ℕ)). word ∷ ws) c.in-Some-next_word.ensures.found)
    ∙ read_on ds (draft c.loop-word.draft) e word link words c.in_ok-amount.amount c.in_ok-amount.ensures.amount linked)
    ∙ c.loop-word.invariant
