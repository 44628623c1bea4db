use Rattle.std.proofs.Common.{ap, sym, subst, refl, arith, ◌∙◌, ◌≡◌}
use Rattle.sto_core.specs.Event.{Open, Close, Word}
use Rattle.sto_core.specs.Core.{Core}
use Rattle.sto_plain.specs.Passes.{Can, stepped}
use Rattle.sto_test_scenes.specs.Scenes.{always, fourth_reads}
use Rattle.sto_test_scenes.proofs.Scenes.{one_read}
use Rattle.sto_test_parts.proofs.scenes.read_fifth.Goals as goal

pub closes-requires : goal.closes-requires
closes-requires g c =
    let opened : c.opens-plain.result ≡ stepped (Open 1) fourth_reads 2 = c.opens-plain.ensures ∙ ap (λ (d : Core). stepped (Open 1) d 2) c.requires in
    let closed : c.closes-plain.result ≡ stepped (Close 0) (stepped (Open 1) fourth_reads 2) 1 = c.closes-plain.ensures ∙ ap (λ (d : Core). stepped (Close 0) d 1) opened in
    let read : c.reads-plain.result ≡ stepped (Word 1 0) (stepped (Close 0) (stepped (Open 1) fourth_reads 2) 1) 2 = c.reads-plain.ensures ∙ ap (λ (d : Core). stepped (Word 1 0) d 2) closed in
    subst (λ (d : Core). Can always (Close 1) d 2) (sym read) ((omega arith), ((refl, one_read), (omega arith)))
