-- A pass knows what it knew; a gathered one what both knew, and that of reopened words what the closed one knew.
use Rattle.std.specs.Prelude.{max}
use Rattle.std.proofs.Common.{ℕ, List, [], ◌∷◌, arith, le_refl}
use Rattle.sto_core.specs.declared.view.View.{View}
use Rattle.sto_core.specs.History.{Contents}
use Rattle.sto_core.specs.Gathered.{gathered_into}
use Rattle.sto_core.specs.Reopened.{greatest_at, reopened_view}
use Rattle.sto_history.specs.Added.{Grows}
use Rattle.sto_history.proofs.Among.{among_first, among_second}

pub grows_same : (v : View) → Grows v v
grows_same v = record { at = le_refl v.at; entries = λ e h c. h; claims = λ c h. h; wrote = λ c h. h; findings = λ f h. h }

-- a gathered pass knows what both knew
pub first_grows : (v u : View) → Grows v (gathered_into v u)
first_grows v u = record {
  at = omega arith;
  entries = λ e h c. among_first v.entries u.entries e h;
  claims = λ c h. among_first v.claims u.claims c h;
  wrote = λ c h. among_first v.wrote u.wrote c h;
  findings = λ f h. among_first v.findings u.findings f h;
}

pub second_grows : (v u : View) → Grows u (gathered_into v u)
second_grows v u = record {
  at = omega arith;
  entries = λ e h c. among_second v.entries u.entries e h;
  claims = λ c h. among_second v.claims u.claims c h;
  wrote = λ c h. among_second v.wrote u.wrote c h;
  findings = λ f h. among_second v.findings u.findings f h;
}

-- the one pass of reopened words knows what the closed pass knew
pub reopened_grows : (sizes : List ℕ) (opening : Contents) (v : View) → Grows v (reopened_view sizes opening (v ∷ []))
reopened_grows sizes opening v = record {
  at = omega arith;
  entries = λ e h c. among_first v.entries [] e h;
  claims = λ c h. among_first v.claims [] c h;
  wrote = λ c h. among_first v.wrote [] c h;
  findings = λ f h. among_first v.findings [] f h;
}
