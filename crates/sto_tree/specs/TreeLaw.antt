-- A tree is lawful, where its puts into full leaves are.
use Rattle.std.proofs.Common.{◌≡◌, ◌<◌, ◌≤◌, ◌^◌, ℕ, zero, suc, ℤ, Some, None, List, [], ◌∷◌, length, map, IsTrue, refl, sym, ◌∙◌, ap, subst, arith}
use Rattle.std.specs.Int.{w64}
use Rattle.std.specs.Int.RustNames.{FitsSigned}
use Rattle.sto_item.specs.declared.item.Item.{Item}
use Rattle.sto_item.specs.Observed.{part_of_item}
use Rattle.sto_item.specs.Agreement.{Agrees, AreTrueOf}
use Rattle.sto_model.specs.declared.call.Call.{Call}
use Rattle.sto_model.specs.declared.operation.Operation.{Operation}
use Rattle.sto_model.specs.declared.operation.Operation.TheVariants.{Get, Set, Add, Test as TestWord, Take, Put, Remove, Has, Len, Next, Count, Scan, Push, Pop}
use Rattle.sto_model.specs.declared.shape.Shape.TheVariants.{Tree}
use Rattle.sto_model.specs.Calls.{call_of}
use Rattle.sto_model.specs.Objects.{takes}
use Rattle.sto_type.specs.Known.{Parts, Known, IsPartOf}
use Rattle.sto_type.specs.SteadyLaw.{reading_steady, reading_done}
use Rattle.sto_type.specs.Meaning.{Meaning, IsLawful, IsReady, IsNeed, IsPartOfObject, EachKnown, EachInside, EachOwner}
use Rattle.sto_tree.specs.Layout.{listed, parts_of, width_of}
use Rattle.sto_tree.specs.Valid.{IsTree}
use Rattle.sto_tree.specs.Meaning.{TreeTakes, tree_meaning, reading}
use Rattle.sto_tree.specs.Sized.{length-listed, tree_length}
use Rattle.sto_tree.specs.CallLaw.{IsCallLawful}
use Rattle.sto_type.specs.Observing.{IsReading, reading_needs, reading_knows, reading_inside, reading_holds, reading_reply, reading_updates, reading_updated}
use Rattle.sto_tree.specs.Updating.{owned_at}
use Rattle.sto_tree.specs.GetLaw.{get_lawful}
use Rattle.sto_tree.specs.RemoveLaw.{remove_lawful}
use Rattle.sto_tree.specs.LenLaw.{len_lawful}
use Rattle.sto_tree.specs.PutLaw.{CrowdedLaw, put_lawful}
use Rattle.sto_tree.specs.BetweenLaw.{count_lawful, scan_lawful}
use Rattle.sto_tree.specs.NextLaw.{next_lawful}
use Rattle.sto_tree.specs.Opened.{opened_tree, opened_rows}

-- what is so of each operation of a tree is so of each call that is taken
pub by_operation :
    (leaves : ℕ) (P : Call → Type 0) (a b : ℤ)
    → P (call_of 0 Get a b) → P (call_of 0 Put a b) → P (call_of 0 Remove a b) → P (call_of 0 Len a b) → P (call_of 0 Next a b) → P (call_of 0 Count a b) → P (call_of 0 Scan a b)
    → (o : Operation) → IsTrue (takes (Tree leaves) o a) → P (call_of 0 o a b)
by_operation leaves P a b get put remove len next count scan Get t = get
by_operation leaves P a b get put remove len next count scan Set t = cc
by_operation leaves P a b get put remove len next count scan Add t = cc
by_operation leaves P a b get put remove len next count scan TestWord t = cc
by_operation leaves P a b get put remove len next count scan Take t = cc
by_operation leaves P a b get put remove len next count scan Put t = put
by_operation leaves P a b get put remove len next count scan Remove t = remove
by_operation leaves P a b get put remove len next count scan Has t = cc
by_operation leaves P a b get put remove len next count scan Len t = len
by_operation leaves P a b get put remove len next count scan Next t = next
by_operation leaves P a b get put remove len next count scan Count t = count
by_operation leaves P a b get put remove len next count scan Scan t = scan
by_operation leaves P a b get put remove len next count scan Push t = cc
by_operation leaves P a b get put remove len next count scan Pop t = cc

-- each home is the one object
homes_owned : (i n : ℕ) → EachOwner 1 (listed (λ (q : ℕ). (0, q)) i n)
homes_owned i zero = tt
homes_owned i (suc n) = (omega arith, homes_owned (suc i) n)

-- the law of puts into full leaves
abbrev pub CrowdedPuts : ℕ → Type 0
CrowdedPuts leaves = (c : Parts) → IsTree leaves c → (k w : ℤ) → FitsSigned w64 k → FitsSigned w64 w → CrowdedLaw leaves c k w

module _ (leaves : ℕ) (some : 1 ≤ leaves) (few : parts_of leaves < 2 ^ 32) (crowded : CrowdedPuts leaves) where
  abbrev m : Meaning
  m = tree_meaning leaves

  -- each call that is taken is lawful
  pub call_lawful : (call : Call) (c : Parts) → TreeTakes leaves call → IsTree leaves c → IsCallLawful leaves call c
  call_lawful call c t v =
      let same : call_of 0 call.operation call.a call.b ≡ call = λ i. record { object = sym t.object i; operation = call.operation; a = call.a; b = call.b; c = sym t.third i } in
      subst (λ (x : Call). IsCallLawful leaves x c) same
      (by_operation leaves (λ x. IsCallLawful leaves x c) call.a call.b
      (get_lawful leaves c v call.a call.b t.fits)
      (put_lawful leaves c v few call.a call.b t.fits t.fits_too (crowded c v call.a call.b t.fits t.fits_too))
      (remove_lawful leaves c v few call.a call.b t.fits)
      (len_lawful leaves c v call.a call.b)
      (next_lawful leaves c v call.a call.b t.fits)
      (count_lawful leaves c v call.a call.b t.fits t.fits_too)
      (scan_lawful leaves c v call.a call.b t.fits t.fits_too)
      call.operation t.operation)

  owned : (call : Call) → TreeTakes leaves call → (p : ℕ) → p < length m.widths → IsPartOfObject m.homes call.object p
  owned call t p h =
      let below : p < parts_of leaves = subst (λ (n : ℕ). p < n) (length-listed (width_of leaves) 0 (parts_of leaves)) h in
      subst (λ (o : ℕ). IsPartOfObject m.homes o p) (sym t.object) (owned_at leaves p below)

  is_reading : (call : Call) → IsReading m call (reading leaves call)
  is_reading call = record { need = λ k. refl; items = λ k. refl; updates = λ c. refl }

  widths_are : (c : Parts) → IsTree leaves c → map length c ≡ m.widths
  widths_are c v = v.shaped.widths

  lawful_on : (call : Call) → TreeTakes leaves call → (c : Parts) → IsTree leaves c → IsCallLawful leaves call c
  lawful_on call t c v = call_lawful call c t v

  pub tree_lawful : IsLawful m
  tree_lawful = record {
    homes = length-listed {A = ℕ × ℕ} (λ (q : ℕ). (0, q)) 0 (parts_of leaves) ∙ sym (length-listed (width_of leaves) 0 (parts_of leaves));
    owners = homes_owned 0 (parts_of leaves);
    opening = opened_tree leaves some;
    opening_rows = ap (λ rows. rows ∷ []) (opened_rows leaves some);
    widths = λ c v. v.shaped.widths;
    fits = λ c v. v.shaped.fits;
    states = λ c v. refl;
    object = λ call t. omega (arith, t.object);
    needs = λ call k d p t v part e. reading_needs m call (reading leaves call) (is_reading call) widths_are (owned call t) (lawful_on call t) k d p v part e;
    steady = record {
      steady = λ call k more p. reading_steady (reading leaves call) k more p;
      done = λ call k more. reading_done (reading leaves call) k more;
    };
    knows = λ call k d r. reading_knows m call (reading leaves call) (is_reading call) widths_are (owned call r.takes) (lawful_on call r.takes) k d r;
    inside = λ call k d r. reading_inside m call (reading leaves call) (is_reading call) widths_are (owned call r.takes) (lawful_on call r.takes) k d r;
    holds = λ call k d r. reading_holds m call (reading leaves call) (is_reading call) widths_are (owned call r.takes) (lawful_on call r.takes) k d r;
    same_reply = λ call k d e r v a. reading_reply m call (reading leaves call) (is_reading call) widths_are (owned call r.takes) (lawful_on call r.takes) k d e r v a;
    same_updates = λ call k d e r v a. reading_updates m call (reading leaves call) (is_reading call) widths_are (owned call r.takes) (lawful_on call r.takes) k d e r v a;
    updated = λ call c t v. reading_updated m call (reading leaves call) (is_reading call) widths_are (owned call t) (lawful_on call t) c v;
  }
