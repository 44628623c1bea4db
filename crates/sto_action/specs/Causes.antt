-- Why an attempt was aborted, by its verdict.
use Rattle.std.specs.Prelude.{◌<◌, length}
use Rattle.sto_type.specs.Meaning.{Meaning, IsPartOfObject}
use Rattle.sto_history.specs.Records.{Verdict, Locked, Changed}
use Rattle.sto_action.specs.declared.cause.AbortCause.{AbortCause}
use Rattle.sto_action.specs.declared.cause.AbortCause.TheVariants as causes

-- it is the verdict of an abort by this cause: it names a part of this object, which was locked, or had been changed
abbrev pub IsCauseOf : Meaning → Verdict → AbortCause → Type 0
IsCauseOf m (Locked at part) (causes.Locked object) = IsPartOfObject m.homes object part
IsCauseOf m (Changed at part ticket) (causes.Changed object) = IsPartOfObject m.homes object part
IsCauseOf m verdict cause = ⊥

-- the part that it names, if it names one, is one of the type
abbrev pub NamesPart : Meaning → Verdict → Type 0
NamesPart m (Locked at part) = part < length m.widths
NamesPart m (Changed at part ticket) = part < length m.widths
NamesPart m verdict = Unit {0}
