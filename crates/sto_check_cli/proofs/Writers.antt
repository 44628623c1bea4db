-- The writers of a replay update only parts of objects that their calls wrote.
use Rattle.std.proofs.Common.{◌≡◌, ◌⊎◌, ℕ, zero, suc, ◌+◌, ◌-◌, ◌*◌, ◌≤◌, ◌<◌, ◌^◌, List, [], ◌∷◌, length, refl, sym, ap, ◌∙◌, subst, Bool, true, false, cond, arith, inl, inr, Option, None, Some, slice_get}
use Rattle.std.specs.List.{All, Contains}
use Rattle.std.proofs.lemmas.List.Elements.{All-nil}
use Rattle.sto_model.specs.SequentialObjects.{SequentialObject}
use Rattle.sto_model.specs.Run.{Behaviour, State}
use Rattle.sto_model.specs.Serial.{SerialRun, is_writer_run, run_within, settled}
use Rattle.sto_model.specs.declared.call.Call.{Call}
use Rattle.sto_model.specs.declared.run.End.{End}
use Rattle.sto_model.specs.declared.run.End.TheVariants as E
use Rattle.sto_model.specs.declared.shape.Shape.{Shape}
use Rattle.sto_lang.specs.Objects.{shapes_of}
use Rattle.sto_lang.specs.Scripts.{Script, File}
use Rattle.sto_script.specs.Asks.{Asks}
use Rattle.sto_script.specs.Meaning.{meaning_of}
use Rattle.sto_checker.specs.Orders.{TransactionPlace, transaction_at}
use Rattle.sto_checker.specs.Replay.{machines_for, script_run, run_at, is_writer}
use Rattle.sto_checker.specs.Updated.{Updates, updates_along, updates_in, updates_at, at_writer, updated_from}
use Rattle.sto_type.specs.Known.{Parts}
use Rattle.sto_type.specs.Meaning.{Meaning, IsLawful, IsPartOfObject}
use Rattle.sto_type.specs.Runs.{AreTaken}
use Rattle.sto_run.specs.Meanings.{updating_by}
use Rattle.sto_checker.specs.Written.{objects_along, objects_in, written_from}
use Rattle.sto_checker.specs.Right.{WroteAt}
use Rattle.sto_checker.proofs.Unwritten.{unwritten}
use Rattle.sto_check_cli.proofs.Numbers.{ToldFits}
use Rattle.sto_check_cli.proofs.Asking.{HaveNumbers, StepsOf, script_asks, taken_along}
use Rattle.sto_check_cli.proofs.Runs.{AreFew, few_more, RunFits, run_fits}
use Rattle.sto_check_cli.proofs.Along.{IsOwned, Ran, ran}

-- a transaction has numbers of 64 bits, and asks no more than 4,096 calls
pub record IsSmall (script : Script) : Type 0 where
  pub numbers : HaveNumbers script.body
  pub light : script.weight ≤ 4096

-- the writer with a number wrote an object of which this is a part
pub record IsWriterOf (homes : List (ℕ × ℕ)) (written : List (List ℕ)) (by p : ℕ) : Type 0 where
  pub object : ℕ
  pub part : IsPartOfObject homes object p
  pub wrote : WroteAt written by object

first_wrote : (homes : List (ℕ × ℕ)) (objects : List ℕ) (others : List (List ℕ)) (p : ℕ) → IsOwned homes objects p → IsWriterOf homes (objects ∷ others) 1 p
first_wrote homes objects others p h =
    let first : 1 - 1 ≡ 0 = omega arith in
    record { object = h.object; part = h.part; wrote = record { objects = objects; writer = ap (slice_get (objects ∷ others)) first; wrote = h.among } }

later_wrote : (homes : List (ℕ × ℕ)) (objects : List ℕ) (others : List (List ℕ)) (more p : ℕ) → IsWriterOf homes others (suc more) p → IsWriterOf homes (objects ∷ others) (suc (suc more)) p
later_wrote homes objects others more p h =
    let here : suc more - 1 ≡ more = omega arith in
    let next : suc (suc more) - 1 ≡ suc more = omega arith in
    record {
      object = h.object;
      part = h.part;
      wrote = record {
        objects = h.wrote.objects;
        writer = ap (slice_get (objects ∷ others)) next ∙ ap (slice_get others) (sym here) ∙ h.wrote.writer;
        wrote = h.wrote.wrote;
      };
    }

none_in : (p : ℕ) → Contains [] p → ⊥
none_in p (k, l, e) = omega (arith, l)

module _ (means : List Shape → Meaning) (file : File) (law : IsLawful (means (shapes_of file.declarations)))
    (same : machines_for file ≡ (means (shapes_of file.declarations)).machines)
    (takes : (place : TransactionPlace) (s : Script) → transaction_at file place ≡ Some s → (call : Call) → Asks s.body call → (means (shapes_of file.declarations)).takes call)
    (small : (place : TransactionPlace) (s : Script) → transaction_at file place ≡ Some s → IsSmall s) where
  abbrev m : Meaning
  m = means (shapes_of file.declarations)

  asks : (place : TransactionPlace) (s : Script) → transaction_at file place ≡ Some s → StepsOf m.takes (meaning_of s)
  asks place s at = script_asks m.takes s (small place s at).numbers (takes place s at)

  settled_few : (n : ℕ) (end : End) (before along : State) → AreFew n before → AreFew n along → AreFew n (settled end before along)
  settled_few n E.Commit before along h k = k
  settled_few n E.Cancel before along h k = h

  -- the run of a transaction keeps to numbers of 64 bits
  one_fits : (n : ℕ) (st : State) (place : TransactionPlace) → n + 4096 < 2 ^ 63 → AreFew n st → RunFits (n + 4096) (run_at file st place)
  one_fits n st place l h = by (transaction_at file place) refl
    where
      more : AreFew (n + 4096) st
      more = few_more n (n + 4096) (omega arith) st h

      by : (t : Option Script) → transaction_at file place ≡ t → RunFits (n + 4096) (script_run (machines_for file) st t)
      by None e = record { replies = All-nil ToldFits; after = more }
      by (Some s) e =
          let run : SerialRun = run_within (machines_for file) s.weight (meaning_of s) st in
          let light : s.weight ≤ 4096 = (small place s e).light in
          let fits : RunFits (n + 4096) run = run_fits m.takes (shapes_of file.declarations) (n + 4096) s.weight n (meaning_of s) st (omega (arith, light)) l (asks place s e) h in
          record { replies = fits.replies; after = settled_few (n + 4096) run.end st run.after more fits.after }

  abbrev none_yet : Parts → Updates
  none_yet c = record { parts = []; contents = c }

  abbrev HasRun : State → Parts → Option Script → SerialRun → Type 0
  HasRun st c t run = Ran means (shapes_of file.declarations) law (none_yet c) (updates_in (updating_by means) (shapes_of file.declarations) t run.replies c) (objects_in t run) run.after

  within : (ms : List SequentialObject) → ms ≡ m.machines → (n : ℕ) (f : Behaviour) (st : State) (c : Parts) → m.valid c → m.rows c ≡ st → AreTaken m f (run_within ms n f st).replies
      → Ran means (shapes_of file.declarations) law (none_yet c) (updates_along (updating_by means) (shapes_of file.declarations) f (run_within ms n f st).replies (none_yet c)) (objects_along f (run_within ms n f st).replies) (run_within ms n f st).after
  within ms e n f st c v r =
      subst (λ (xs : List SequentialObject). AreTaken m f (run_within xs n f st).replies
      → Ran means (shapes_of file.declarations) law (none_yet c) (updates_along (updating_by means) (shapes_of file.declarations) f (run_within xs n f st).replies (none_yet c)) (objects_along f (run_within xs n f st).replies) (run_within xs n f st).after)
      (sym e) (ran means (shapes_of file.declarations) law n f st (none_yet c) v r)

  -- a writer's run leads to contents that stand for the state after it
  writer_ran : (place : TransactionPlace) (st : State) (c : Parts) → m.valid c → m.rows c ≡ st → (t : Option Script) → transaction_at file place ≡ t
      → is_writer t (script_run (machines_for file) st t) ≡ true → All ToldFits (script_run (machines_for file) st t).replies → HasRun st c t (script_run (machines_for file) st t)
  writer_ran place st c v r None at w f = absurd cc
  writer_ran place st c v r (Some s) at w f =
      let run : SerialRun = run_within (machines_for file) s.weight (meaning_of s) st in
      let taken : AreTaken m (meaning_of s) run.replies = taken_along m (meaning_of s) run.replies (asks place s at) f in
      by run.end run.after w (within (machines_for file) same s.weight (meaning_of s) st c v r taken)
    where
      by : (end : End) (after : State) → is_writer_run (meaning_of s) (run_within (machines_for file) s.weight (meaning_of s) st).replies end ≡ true
          → Ran means (shapes_of file.declarations) law (none_yet c) (updates_along (updating_by means) (shapes_of file.declarations) (meaning_of s) (run_within (machines_for file) s.weight (meaning_of s) st).replies (none_yet c)) (objects_along (meaning_of s) (run_within (machines_for file) s.weight (meaning_of s) st).replies) after
          → Ran means (shapes_of file.declarations) law (none_yet c) (updates_along (updating_by means) (shapes_of file.declarations) (meaning_of s) (run_within (machines_for file) s.weight (meaning_of s) st).replies (none_yet c)) (objects_along (meaning_of s) (run_within (machines_for file) s.weight (meaning_of s) st).replies) (settled end st after)
      by E.Commit after w h = h
      by E.Cancel after w h = absurd cc

  -- one of the first writer and of later ones
  at_one : (earlier p : ℕ) (here objects : List ℕ) (others : ℕ → List ℕ) (written : List (List ℕ))
      → ((q : ℕ) → Contains here q → Contains [] q ⊎ IsOwned m.homes objects q) → ((more : ℕ) → Contains (others (suc more)) p → IsWriterOf m.homes written (suc more) p)
      → Contains (at_writer earlier here others) p → IsWriterOf m.homes (objects ∷ written) (suc earlier) p
  at_one zero p here objects others written own rest k = elim (own p k) [ inl x ↦ absurd (none_in p x) | inr x ↦ first_wrote m.homes objects written p x ]
  at_one (suc more) p here objects others written own rest k = later_wrote m.homes objects written more p (rest more k)

  pub writers_own : (order : List TransactionPlace) (st : State) (c : Parts) → m.valid c → m.rows c ≡ st → (n : ℕ) → n + 4096 * length order < 2 ^ 63 → AreFew n st
      → (by p : ℕ) → Contains (updated_from (updating_by means) file st c order by) p → IsWriterOf m.homes (written_from file st order) by p
  writers_own [] st c v r n l f number p k = absurd (none_in p k)
  writers_own (place ∷ order) st c v r n l f zero p k = absurd (none_in p k)
  writers_own (place ∷ order) st c v r n l f (suc earlier) p k =
      branch (is_writer (transaction_at file place) (run_at file st place)) refl k
      (λ d w e more. writers_own order (run_at file st place).after d w e (n + 4096) (omega (arith, l)) here.after more p)
    where
      here : RunFits (n + 4096) (run_at file st place)
      here = one_fits n st place (omega (arith, l)) f

      branch : (b : Bool) → is_writer (transaction_at file place) (run_at file st place) ≡ b
          → Contains (cond b (at_writer earlier (updates_at (updating_by means) file st c place).parts (updated_from (updating_by means) file (run_at file st place).after (updates_at (updating_by means) file st c place).contents order))
          (updated_from (updating_by means) file (run_at file st place).after c order (suc earlier))) p
          → ((d : Parts) → m.valid d → m.rows d ≡ (run_at file st place).after → (more : ℕ) → Contains (updated_from (updating_by means) file (run_at file st place).after d order more) p → IsWriterOf m.homes (written_from file (run_at file st place).after order) more p)
          → IsWriterOf m.homes (cond b (objects_in (transaction_at file place) (run_at file st place) ∷ written_from file (run_at file st place).after order) (written_from file (run_at file st place).after order)) (suc earlier) p
      branch true e h rest =
          let run = writer_ran place st c v r (transaction_at file place) refl e here.replies in
          at_one earlier p (updates_at (updating_by means) file st c place).parts (objects_in (transaction_at file place) (run_at file st place))
          (updated_from (updating_by means) file (run_at file st place).after (updates_at (updating_by means) file st c place).contents order) (written_from file (run_at file st place).after order)
          run.parts (λ more. rest (updates_at (updating_by means) file st c place).contents run.valid run.rows (suc more)) h
      branch false e h rest = rest c v (r ∙ sym (unwritten file st place e)) (suc earlier) h
