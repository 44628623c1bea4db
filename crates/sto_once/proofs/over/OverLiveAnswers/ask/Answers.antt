-- A call is asked of the transaction, and its answer is the last of its replies.
use Rattle.std.proofs.Common.{rules, ◌≡◌, List, [], ◌∷◌, ◌++◌, Option, None, sym, ap, ◌∙◌, subst}
use Rattle.std.proofs.Common.{length, ◌-◌}
use Rattle.std.specs.Prelude.{slice_get}
use Rattle.std.specs.Option.{option_copied}
use Rattle.sto_part.specs.Listed.{Listed}
use Rattle.sto_model.specs.declared.reply.Reply.{Reply}
use Rattle.sto_action.specs.declared.short_reply.ShortReply.{ShortReply}
use Rattle.std.specs.Int.{w64}
use Rattle.std.specs.Int.RustNames.{FitsSigned}
use Rattle.sto_model.specs.declared.shape.Shape.{Shape}
use Rattle.sto_type.specs.Traits.{of_type}
use Rattle.sto_interactive.specs.declared.live.StepError.{StepError}
use Rattle.sto_action.specs.Shortened.{short_of}
use Rattle.sto_action.specs.Progs.{is_taken}
use Rattle.sto_once.specs.Over.{StandsBy, heard_of}
use Rattle.sto_once.proofs.Waited.{all_taken_more, heard_more, last_told, some_told, stop_stands, stopped_some}
use Rattle.sto_once.proofs.over.OverLiveAnswers.ask.Goals as goal

pub unreachable-requires : goal.unreachable-requires
unreachable-requires g c =
    let t = of_type g.T.Naming g.T.TxType in
    let x = c.args.self.now in
    let k = c.requires.0 in let s = c.requires.1 in
    let none : x.stopped ≡ None = search rules in
    let so = subst (λ (o : Option StepError). StandsBy t g.C.Cells k o x.live (g.C.Cells.view x.cells)) none s.so in
    let a = c.in-Ok.ensures.asked k.ty so.0 so.1 k.begun so.2 in
    let items = c.as_slice.ensures.items ∙ ap (λ (l : Listed Reply). l.items) c.replies.ensures in
    some_told c.ask.new.self.attempt.log.table.replies.items so.1 a.reply a.live.replies
    (sym (ap option_copied c.in-None.is) ∙ c.last.ensures.value ∙ ap (λ (l : List Reply). slice_get l (length l - 1)) items)

pub returns-in-Some : goal.returns-in-Some
returns-in-Some g c =
    let t = of_type g.T.Naming g.T.TxType in
    let x = c.args.self.now in
    let new = c.ask.new.self in
    let w = g.C.Cells.view c.ask.new.cells in
    let none : x.stopped ≡ None = search rules in
    let items = c.as_slice.ensures.items ∙ ap (λ (l : Listed Reply). l.items) c.replies.ensures in
    let value = sym (ap option_copied c.in-Some.is) ∙ c.last.ensures.value ∙ ap (λ (l : List Reply). slice_get l (length l - 1)) items in
    let k = c.requires.0 in let s = c.requires.1 in
    let n = subst (λ (o : Option StepError). StandsBy t g.C.Cells k o x.live (g.C.Cells.view x.cells)) none s.so in
    let a = c.in-Ok.ensures.asked k.ty n.0 n.1 k.begun n.2 in
    let told_is = last_told new.attempt.log.table.replies.items n.1 a.reply c.in-Some.reply.now a.live.replies value in (
      (λ k s.
          let n = subst (λ (o : Option StepError). StandsBy t g.C.Cells k o x.live (g.C.Cells.view x.cells)) none s.so in
          let a = c.in-Ok.ensures.asked k.ty n.0 n.1 k.begun n.2 in
          let taken = sym (ap (λ (ss : List Shape). is_taken ss c.args.call) s.shapes) ∙ sym (c.if-not-is_taken.ensures) in record {
            same = g.met.C.Cells.same_through k.start x.cells c.ask.new.cells s.same c.ask.ensures.same;
            shapes = s.shapes;
            takes = s.takes;
            so = subst (λ (o : Option StepError). StandsBy t g.C.Cells k o new w) (sym none)
                (n.0 ++ c.args.call ∷ [], n.1 ++ a.reply ∷ [], a.live, all_taken_more k.shapes n.0 c.args.call n.3 taken);
          }),
      heard_more t k.ty n.0 n.1 c.args.call a.reply x.live new k.begun (g.C.Cells.view x.cells) w n.2 a.live
          ∙ ap (λ (h : ShortReply). heard_of x.live ++ (c.args.call, h) ∷ []) (sym (c.shortened.ensures ∙ ap short_of told_is)),
    )

pub returns-in-Err : goal.returns-in-Err
returns-in-Err g c =
    let t = of_type g.T.Naming g.T.TxType in
    let x = c.args.self.now in
    let new = c.ask.new.self in
    let w = g.C.Cells.view c.ask.new.cells in
    let none : x.stopped ≡ None = search rules in
    let first : FitsSigned w64 c.args.call.a = search rules in
    let second : FitsSigned w64 c.args.call.b = search rules in (
      (λ k s.
          let n = subst (λ (o : Option StepError). StandsBy t g.C.Cells k o x.live (g.C.Cells.view x.cells)) none s.so in
          let taken = sym (ap (λ (ss : List Shape). is_taken ss c.args.call) s.shapes) ∙ sym (c.if-not-is_taken.ensures) in
          let takes = s.takes c.args.call (record { taken = taken; first = first; second = second }) in record {
            same = g.met.C.Cells.same_through k.start x.cells c.ask.new.cells s.same c.ask.ensures.same;
            shapes = s.shapes;
            takes = s.takes;
            so = stop_stands t g.C.Cells k (g.C.Cells.passes x.cells) n.0 n.1 c.args.call c.in-Err.stop x.live new (g.C.Cells.view x.cells) w
                (g.met.C.Cells.same_passes k.start x.cells s.same) takes (c.in-Err.ensures.asked k.ty n.0 n.1 k.begun n.2);
          }),
      λ e. stopped_some c.in-Err.stop e,
    )
