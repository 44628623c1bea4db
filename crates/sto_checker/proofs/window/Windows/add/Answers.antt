use Rattle.std.proofs.Common.{◌≡◌, ◌++◌, [], ◌∷◌, List, map, sym, ap, ◌∙◌, Some}
use Rattle.sto_part.specs.Listed.{Listed}
use Rattle.sto_journal.specs.Journals.{entry}
use Rattle.sto_checker.specs.declared.window.Window.{Window}
use Rattle.sto_checker.specs.Windows.{window_after, with_more}
use Rattle.sto_checker.proofs.Lists.{set_more, same_listed}
use Rattle.sto_checker.proofs.window.Windows.add.Goals as goal

pub returns : goal.returns
returns c = λ l e.
    let lent = c.get_mut-windows.result.now in
    let lists = c.args.self.now.threads.items in
    let at = c.args.line.now.thread in
    let pushed : c.push.new.self.items ≡ lent.items ++ window_after lent.items (entry c.args.line.now) ∷ [] =
    c.in_ok-push.ensures.ok ∙ ap (λ (w : Window). lent.items ++ w ∷ []) (c.window_after-next.ensures ∙ ap (λ (ws : List Window). window_after ws (entry c.args.line.now)) c.as_slice.ensures.items) in
    let same = same_listed lent l (sym c.get_mut-windows.ensures.value ∙ e) in
    set_more lists at lent c.push.new.self (window_after lent.items (entry c.args.line.now)) c.get_mut-windows.ensures.value pushed
    ∙ ap (λ (k : Listed Window). with_more (map (λ (m : Listed Window). m.items) lists) at (window_after k.items (entry c.args.line.now))) same
