use Rattle.std.proofs.Common.{◌≡◌, ◌∷◌, [], ◌++◌, List, ℕ, ap, sym, ◌∙◌, map}
use Rattle.std.specs.Option.{option_map}
use Rattle.std.proofs.lemmas.List.{map-append}
use Rattle.sto_lang.specs.Scripts.{Script}
use Rattle.sto_lang.specs.Drafts.{Draft, with_script}
use Rattle.sto_lang.specs.BegunViews.{begun_of}
use Rattle.sto_lang.specs.Views.{script, threads_of, names_of}
use Rattle.sto_lang.proofs.ThreadLemmas.{threads_push, names_push, script_last}
use Rattle.sto_lang.proofs.draft.Draft.add_script.Goals as goal

pub returns : goal.returns
returns c =
    let rest = c.pop.new.self.items in
    let scripts = c.in-Some.field-0.scripts in
    let one : Script = script c.args.script in
    let now : threads_of c.push_spare.new.self.items ≡ threads_of rest ++ (map script scripts.items ++ one ∷ []) ∷ [] =
    ap (λ all. threads_of all.items) c.push_spare.ensures
    ∙ threads_push rest (record { name = c.in-Some.field-0.name; scripts = c.push-added.new.self })
    ∙ ap (λ l. threads_of rest ++ l ∷ []) (ap (map script) c.in_ok-added.ensures.ok ∙ map-append script scripts.items (c.args.script ∷ [])) in
    let before : threads_of c.args.self.now.threads.items ≡ threads_of rest ++ map script scripts.items ∷ [] = ap (λ l. threads_of l.items) (sym c.replace-threads.ensures.value) ∙ ap threads_of c.in-Some.ensures.0 ∙ threads_push rest (record { name = c.in-Some.field-0.name; scripts = scripts }) in
    let threads : threads_of c.push_spare.new.self.items ≡ with_script (threads_of c.args.self.now.threads.items) one =
    now ∙ sym (ap (λ all. with_script all one) before ∙ script_last (threads_of rest) (map script scripts.items) one) in
    let names : names_of c.push_spare.new.self.items ≡ names_of c.args.self.now.threads.items =
    ap (λ all. names_of all.items) c.push_spare.ensures
    ∙ names_push rest (record { name = c.in-Some.field-0.name; scripts = c.push-added.new.self })
    ∙ sym (ap (λ l. names_of l.items) (sym c.replace-threads.ensures.value) ∙ ap names_of c.in-Some.ensures.0 ∙ names_push rest (record { name = c.in-Some.field-0.name; scripts = scripts })) in
    let whole = λ (ns : List (List ℕ)) (all : List (List Script)). let d : Draft = record { version = c.args.self.now.version; objects = c.args.self.now.objects; names = ns; threads = all; inside = option_map begun_of c.args.self.now.begun; schedule = option_map (λ s. s.items) c.args.self.now.schedule } in d in
    (λ i. whole (names i) (threads i))
