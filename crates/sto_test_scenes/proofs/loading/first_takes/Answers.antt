use Rattle.std.proofs.Common.{◌≡◌, ℕ, [], ◌∷◌, negsuc, pos, true, sym, refl, subst, ◌∙◌}
use Rattle.sto_core.specs.Event.{Event, Draw, Check, Decide, Put}
use Rattle.sto_core.specs.Core.{Core}
use Rattle.sto_core.specs.Allowed.{Allowed}
use Rattle.sto_plain.specs.Passes.{view_of, stepped}
use Rattle.sto_test_scenes.specs.Scenes.{always, one_add, both_loaded, first_drew}
use Rattle.sto_test_scenes.proofs.Scenes.{may_take, may_put_rest}
use Rattle.sto_test_scenes.proofs.loading.first_takes.Goals as goal

stepped_is : (e d : Event) (c b later : Core) (p q : ℕ) → later ≡ stepped e c p → e ≡ d → c ≡ b → p ≡ q
    → later ≡ stepped d b q
stepped_is e d c b later p q is event before pass = is ∙ (λ j. stepped (event j) (before j) (pass j))

pub decide-requires : goal.decide-requires
decide-requires c =
    let at = c.at-taker.ensures in let drawn = c.draw-ticket.ensures in let seen = c.check.ensures in
    let drew = stepped_is _ (Draw (one_add 0 (negsuc 1)) [] (0 ∷ 1 ∷ [])) _ both_loaded _ _ 0 drawn.event.core
    (λ j. Draw (c.requires.updates j) (c.requires.none j) (c.requires.loaded j)) (at.plain ∙ c.requires.plain) at.pass in
    let is = stepped_is _ (Check 1) _ (stepped (Draw (one_add 0 (negsuc 1)) [] (0 ∷ 1 ∷ [])) both_loaded 0) _ _ 0 seen.event.core refl drew (drawn.pass ∙ at.pass) in
    subst (λ (z : Core × ℕ). Allowed always (Decide true) (view_of z.0 z.1))
    (λ j. (sym is j, sym (seen.pass ∙ drawn.pass ∙ at.pass) j)) may_take

pub put-requires : goal.put-requires
put-requires c =
    let at = c.at-taker.ensures in let drawn = c.draw-ticket.ensures in let seen = c.check.ensures in
    let drew = stepped_is _ (Draw (one_add 0 (negsuc 1)) [] (0 ∷ 1 ∷ [])) _ both_loaded _ _ 0 drawn.event.core
    (λ j. Draw (c.requires.updates j) (c.requires.none j) (c.requires.loaded j)) (at.plain ∙ c.requires.plain) at.pass in
    let is = stepped_is _ (Check 1) _ (stepped (Draw (one_add 0 (negsuc 1)) [] (0 ∷ 1 ∷ [])) both_loaded 0) _ _ 0 seen.event.core refl drew (drawn.pass ∙ at.pass) in
    let won = stepped_is _ (Decide true) _ first_drew _ _ 0 c.decide.ensures.event.core refl is (seen.pass ∙ drawn.pass ∙ at.pass) in
    subst (λ (z : Core × ℕ). Allowed always (Put 0 0 (pos 3)) (view_of z.0 z.1))
    (λ j. (sym won j, sym (c.decide.ensures.pass ∙ seen.pass ∙ drawn.pass ∙ at.pass) j)) may_put_rest
