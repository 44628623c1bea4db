-- A type of one object is lawful, and answers as planned, where its calls are.
use Rattle.std.proofs.Common.{◌≡◌, ◌<◌, ◌+◌, ℕ, zero, suc, Some, List, [], ◌∷◌, length, slice_get, slice_index_or, refl, sym, ◌∙◌, ap, arith}
use Rattle.std.proofs.lemmas.List.{length-map}
use Rattle.sto_model.specs.declared.call.Call.{Call}
use Rattle.sto_model.specs.Rows.{Row}
use Rattle.sto_model.specs.SequentialObjects.{SequentialObject}
use Rattle.sto_type.specs.Known.{Parts, Known, IsPartOf}
use Rattle.sto_type.specs.Meaning.{Meaning, IsLawful, IsPartOfObject, EachOwner}
use Rattle.sto_type.specs.Plans.{Plan, IsPlan}
use Rattle.sto_type.specs.Plans as P
use Rattle.sto_type.specs.Readings.{ReadsWithin}
use Rattle.sto_type.specs.SteadyLaw.{reading_steady, reading_done}
use Rattle.sto_type.specs.Observing.{IsReading, IsCallLawful, reading_needs, reading_knows, reading_inside, reading_holds, reading_reply, reading_updates, reading_updated}
use Rattle.sto_type.specs.Telling.{Telling, reading_of, plan_of}
use Rattle.sto_type.specs.Tellings.{IsPlanned, plan_is}
use Rattle.sto_type.specs.OneObject.{homes_from, meaning_of, IsTold, IsType}

pub length-homes : (j n : ℕ) → length (homes_from j n) ≡ n
length-homes j zero = refl
length-homes j (suc n) = ap suc (length-homes (suc j) n)

pub home_there : (j n i : ℕ) → i < n → slice_get (homes_from j n) i ≡ Some (0, j + i)
home_there j zero i l = absurd (omega (arith, l))
home_there j (suc n) zero l = let e : j + 0 ≡ j = omega arith in ap (λ x. Some (0, x)) (sym e)
home_there j (suc n) (suc i) l = let e : suc j + i ≡ j + suc i = omega arith in home_there (suc j) n i (omega (arith, l)) ∙ ap (λ x. Some (0, x)) e

home_owner : (j n i : ℕ) → i < n → (slice_index_or (homes_from j n) i (0, 0)).0 ≡ 0
home_owner j zero i l = absurd (omega (arith, l))
home_owner j (suc n) zero l = refl
home_owner j (suc n) (suc i) l = home_owner (suc j) n i (omega (arith, l))

-- a part of the one object
pub owned_at : (widths : List ℕ) (object p : ℕ) → object ≡ 0 → p < length widths → IsPartOfObject (homes_from 0 (length widths)) object p
owned_at widths object p o l = record { in_range = omega (arith, l, length-homes 0 (length widths)); owner = home_owner 0 (length widths) p l ∙ sym o }

owners_from : (j n : ℕ) → EachOwner 1 (homes_from j n)
owners_from j zero = tt
owners_from j (suc n) = (omega arith, owners_from (suc j) n)

module _ (machine : SequentialObject) (widths : List ℕ) (opened : Parts) (valid : Parts → Type 0) (rows : Parts → List Row) (takes : Call → Type 0) (telling : Call → Telling) where
  abbrev m : Meaning
  m = meaning_of machine widths opened valid rows takes telling

  module _ (t : IsType m telling) where
    lawful_on : (call : Call) → takes call → (c : Parts) → valid c → IsCallLawful m call (reading_of (telling call)) c
    lawful_on call s c v =
        let h : IsTold m call (telling call) c = t.calls call c s v in
        record {
          observation = record {
            within = h.within;
            observed = h.observed;
            inside = h.inside;
            holds = h.holds;
            same_reply = λ e w a. sym (t.calls call e s w).tells ∙ h.same_told e w a ∙ h.tells;
            same_updates = h.same_updates;
          };
          updated = h.updated;
        }

    is_reading : (call : Call) → IsReading m call (reading_of (telling call))
    is_reading call = record { need = λ k. refl; items = λ k. refl; updates = λ c. refl }

    owned : (call : Call) → takes call → (p : ℕ) → p < length widths → IsPartOfObject m.homes call.object p
    owned call s p l = owned_at widths call.object p (t.object call s) l

    pub one_object_lawful : rows opened ≡ machine.opening → IsLawful m
    one_object_lawful o = record {
      homes = length-homes 0 (length widths);
      owners = owners_from 0 (length widths);
      opening = t.opening;
      opening_rows = ap (λ r. r ∷ []) o;
      widths = t.widths;
      fits = t.fits;
      states = λ c v. refl;
      object = λ call s. omega (arith, t.object call s);
      needs = λ call k d p s v part e. reading_needs m call (reading_of (telling call)) (is_reading call) t.widths (owned call s) (lawful_on call s) k d p v part e;
      steady = record {
        steady = λ call k more p. reading_steady (reading_of (telling call)) k more p;
        done = λ call k more. reading_done (reading_of (telling call)) k more;
      };
      knows = λ call k d r. reading_knows m call (reading_of (telling call)) (is_reading call) t.widths (owned call r.takes) (lawful_on call r.takes) k d r;
      inside = λ call k d r. reading_inside m call (reading_of (telling call)) (is_reading call) t.widths (owned call r.takes) (lawful_on call r.takes) k d r;
      holds = λ call k d r. reading_holds m call (reading_of (telling call)) (is_reading call) t.widths (owned call r.takes) (lawful_on call r.takes) k d r;
      same_reply = λ call k d e r v a. reading_reply m call (reading_of (telling call)) (is_reading call) t.widths (owned call r.takes) (lawful_on call r.takes) k d e r v a;
      same_updates = λ call k d e r v a. reading_updates m call (reading_of (telling call)) (is_reading call) t.widths (owned call r.takes) (lawful_on call r.takes) k d e r v a;
      updated = λ call c s v. reading_updated m call (reading_of (telling call)) (is_reading call) t.widths (owned call s) (lawful_on call s) c v;
    }

    -- the plan of what is known is what the meaning says
    long : (c d : Parts) → valid c → valid d → length c ≡ length d
    long c d v w = sym (length-map c length) ∙ ap length (t.widths c v ∙ sym (t.widths d w)) ∙ length-map d length

    plan_as : (call : Call) (k : Known) (s : takes call) (plan : Plan) → IsPlanned (telling call) k valid plan → IsPlan m call k plan
    plan_as call k s (P.Ask p) h = h
    plan_as call k s (P.Say r is es) h = (h.0, h.1, λ d v part. ((h.2 d v part).0 ∙ (t.calls call d s v).tells, (h.2 d v part).1))

    pub planned_as : (call : Call) (k : Known) (d : Parts) → takes call → valid d → IsPartOf k d → IsPlan m call k (plan_of (telling call) k)
    planned_as call k d s v part =
        let within : ReadsWithin (reading_of (telling call)) d = λ q h. let w : q < length widths = (t.calls call d s v).within q h in omega (arith, w, length-map d length, ap length (t.widths d v)) in
        plan_as call k s (plan_of (telling call) k) (plan_is (telling call) k d valid v part (λ e w. long e d w v) within)
