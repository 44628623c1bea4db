use Rattle.std.proofs.Common.{ℕ, List, ◌++◌, map, flat_map, ap, sym, ◌∙◌, append_assoc}
use Rattle.sto_syntax.specs.Forms.{ThreadLine}
use Rattle.sto_lang.specs.declared.file.Script as code
use Rattle.sto_lang.specs.Objects.{Declaration}
use Rattle.sto_lang.specs.Views.{declaration, script}
use Rattle.sto_write.specs.Texts.{script_lines, name_on_line, line_text}
use Rattle.sto_write.proofs.TextLemmas.{each_text, on_ok}
use Rattle.sto_write.proofs.whole.push_thread.Goals as goal

pub returns : goal.returns
returns c =
    let out : List ℕ = c.args.out.now.items in
    let ds : List Declaration = map declaration c.args.decls.now in
    let scripts : List code.Script = c.args.thread.now.scripts.items in
    let line : List ℕ = line_text (ThreadLine (name_on_line c.args.version c.args.thread.now.name.items)) in
    let text = λ (scripts : List code.Script). flat_map (λ s. flat_map line_text (script_lines ds (script s))) scripts in
    on_ok c.push_scripts.result _ _ (λ e. e
    ∙ (λ i. c.in_ok-push_thread_line.ensures i ++ text (c.as_slice.ensures.items i))
    ∙ append_assoc out line (text scripts)
    ∙ ap (λ l. out ++ (line ++ l)) (sym (each_text (script_lines ds) script scripts))) c.push_scripts.ensures
