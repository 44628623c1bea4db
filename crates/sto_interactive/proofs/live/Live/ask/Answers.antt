-- Its body has one call more, and goes on to its end.
use Rattle.std.proofs.Common.{List, [], ◌∷◌, ◌++◌, refl, ap, sym, ◌∙◌, subst}
use denote.Bor.{Bor}
use Rattle.sto_model.specs.PlainReplies.{PlainReply}
use Rattle.sto_model.specs.declared.run.End.TheVariants as E
use Rattle.sto_type.specs.Traits.{of_type}
use Rattle.sto_attempt.specs.Attempts.{heard}
use Rattle.sto_interactive.specs.Scripts.{script_of}
use Rattle.sto_interactive.specs.Waiting.{HearsMore}
use Rattle.sto_interactive.proofs.Lasting.{goes_on, aborts, answered}
use Rattle.sto_interactive.proofs.live.Live.ask.Goals as goal

pub run_on-requires : goal.run_on-requires
run_on-requires g c =
    let r = c.requires in
    let takes = subst (λ (y : g.row.T.Denot). (g.T.TxType.meaning y).takes c.args.call) r.4.same_type (c.if-not-takes.ensures.0 refl) in (
      r.0,
      script_of (r.1 ++ c.args.call ∷ []) E.Commit,
      r.3,
      r.4.rests,
      c.in_default.ensures.added r.0 r.1 r.2 r.3 (g.C.Cells.view c.args.cells.now) r.4 takes,
    )

pub returns-in-Some-clause-asked : goal.returns-in-Some-clause-asked
returns-in-Some-clause-asked g c ty calls rs begun live =
    let t = of_type g.T.Naming g.T.TxType in
    let f = script_of (calls ++ c.args.call ∷ []) E.Commit in
    let takes = subst (λ (y : g.row.T.Denot). (g.T.TxType.meaning y).takes c.args.call) live.same_type (c.if-not-takes.ensures.0 refl) in
    let come = c.in-Ok.ensures.come ty f begun live.rests (c.in_default.ensures.added ty calls rs begun (g.C.Cells.view c.args.cells.now) live takes) in
    aborts t (g.C.Cells.passes c.args.cells.now) ty f c.run_on.new.attempt begun (g.C.Cells.view c.run_on.new.cells) c.in-Ok.turn c.in-Some.verdict (sym c.abort_of.ensures ∙ c.in-Some.is) come

pub returns-in-None-clause-asked : goal.returns-in-None-clause-asked
returns-in-None-clause-asked g c ty calls rs begun live =
    let t = of_type g.T.Naming g.T.TxType in
    let passes = g.C.Cells.passes c.args.cells.now in
    let more = calls ++ c.args.call ∷ [] in
    let now = c.run_on.new.attempt in
    let w = g.C.Cells.view c.run_on.new.cells in
    let takes = subst (λ (y : g.row.T.Denot). (g.T.TxType.meaning y).takes c.args.call) live.same_type (c.if-not-takes.ensures.0 refl) in
    let come = c.in-Ok.ensures.come ty (script_of more E.Commit) begun live.rests (c.in_default.ensures.added ty calls rs begun (g.C.Cells.view c.args.cells.now) live takes) in
    let on = goes_on t passes ty more now begun w c.in-Ok.turn (sym c.abort_of.ensures ∙ c.in-None.is) c.in-Ok.ensures.end come in
    let hears = subst (λ (ss : List PlainReply). HearsMore ss (heard now)) (c.add.ensures.heard ∙ live.replies) c.in-Ok.ensures.heard in
    answered t ty calls c.args.call rs (record { ty = c.add.new.self.ty; attempt = now }) begun w live.rests (ap (λ (r : Bor g.row.T.Denot). r.now) c.add.ensures.ty ∙ live.same_type) on.0 on.1 live.all hears
    (λ d h. (g.met.T.TxType.valid_is now.log.ty.now d).1 h)

pub returns-in-Err-run_on-clause-asked : goal.returns-in-Err-run_on-clause-asked
returns-in-Err-run_on-clause-asked g c ty calls rs begun live =
    let takes = subst (λ (y : g.row.T.Denot). (g.T.TxType.meaning y).takes c.args.call) live.same_type (c.if-not-takes.ensures.0 refl) in
    c.in-Err-run_on.ensures.come ty (script_of (calls ++ c.args.call ∷ []) E.Commit) begun live.rests (c.in_default.ensures.added ty calls rs begun (g.C.Cells.view c.args.cells.now) live takes)
