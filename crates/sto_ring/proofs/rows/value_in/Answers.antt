use Rattle.std.proofs.Common.{◌∙◌, ap, rules, FitsSigned}
use Rattle.std.specs.Int.{w64}
use Rattle.std.proofs.lemmas.Int.{to_z-of_z}
use Rattle.sto_type.specs.Words.{word}
use Rattle.sto_ring.proofs.Among.{value_is}
use Rattle.sto_ring.proofs.rows.value_in.Goals as goal

pub returns : goal.returns
returns c =
    let f : FitsSigned w64 c.word_at.result = search rules in
    to_z-of_z w64 c.word_at.result f ∙ c.word_at.ensures ∙ ap (λ ws. word ws 1) c.as_slice.ensures.items ∙ value_is c.args.first c.args.place c.args.contents.now.items c.get.result.now.items c.get.ensures
