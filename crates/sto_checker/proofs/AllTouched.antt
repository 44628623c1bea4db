-- What is lawful by some types is so by those that say the same of updates, and by which every call may touch every part.
use Rattle.std.proofs.Common.{ℕ, List, refl, ◌∙◌}
use Rattle.sto_lang.specs.Objects.{shapes_of}
use Rattle.sto_lang.specs.Scripts.{File}
use Rattle.sto_report_spec.specs.Lawful.{IsLawful}
use Rattle.sto_report_spec.specs.Updated.{Updating}
use Rattle.sto_report_spec.proofs.NoLess.{SaysNoLess, updated_same, lawful_same}
use Rattle.sto_checker.specs.Exact.{UpdatesAlone, touching_all, UpdatesWritten}

abbrev pub updates_alone : Updating → UpdatesAlone
updates_alone u = record { opening = u.opening; parts = u.parts; after = u.after }

module _ (u : Updating) (file : File) where
  abbrev all : Updating
  all = touching_all (updates_alone u)

  no_less : SaysNoLess u all (shapes_of file.declarations)
  no_less = record { opening = refl; parts = refl; after = refl; touches = λ part call h. tt }

  pub written_all : UpdatesWritten u file → UpdatesWritten (touching_all (updates_alone u)) file
  written_all written order is_order name d declared part inside by first before after e =
      written order is_order name d declared part inside by first before after (updated_same u all file no_less order by ∙ e)

  pub lawful_all : (tries : ℕ) (text : List ℕ) → IsLawful u file tries text → IsLawful (touching_all (updates_alone u)) file tries text
  lawful_all tries text h = lawful_same u all file no_less tries text h
