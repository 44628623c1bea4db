-- Each report that is lawful by the types of a file's objects is found lawful.
use Rattle.std.proofs.Common.{◌≡◌, ℕ, zero, suc, ◌+◌, ◌*◌, ◌<◌, ◌^◌, List, [], ◌∷◌, length, map, refl, sym, ap, ◌∙◌, subst, arith, Option, None, Some, Ok, option_and_then, Bool, true, false, cond, slice_get, sum_by, take, find}
use Rattle.std.specs.Prelude.{slice_index_or}
use Rattle.std.specs.List.{All, Contains}
use Rattle.std.specs.Str.{bytes_eq}
use Rattle.std.proofs.lemmas.List.Elements.{All-head, All-tail, All-map, Contains-append_right}
use Rattle.std.proofs.lemmas.List.Sums.{sum_by-cons}
use Rattle.sto_model.specs.declared.call.Call.{Call}
use Rattle.sto_model.specs.declared.shape.Shape.{Shape}
use Rattle.sto_model.specs.Sizes.{part_count}
use Rattle.sto_lang.specs.Objects.{Declaration, shapes_of}
use Rattle.sto_lang.specs.Scripts.{Script, File}
use Rattle.sto_lang.specs.Files.{file_of}
use Rattle.sto_lang.specs.Sound.{IsNumbered, HasRanges, IsSound}
use Rattle.sto_lang.proofs.SoundFiles.{readable_sound}
use Rattle.sto_lang.proofs.SoundLines.{all_get}
use Rattle.sto_script.specs.Asks.{Asks}
use Rattle.sto_checker.specs.Orders.{TransactionPlace, IsOrder, at_position, transaction_at}
use Rattle.sto_checker.specs.Replay.{opening_state}
use Rattle.sto_checker.specs.LawfulAborts.{declared_as, part_number}
use Rattle.sto_checker.specs.Updated.{updated}
use Rattle.sto_type.specs.Meaning.{Meaning, IsPartOfObject}
use Rattle.sto_run.specs.Meanings.{updating_by, IsHomeAt, IsTypeOf}
use Rattle.sto_checker.specs.Written.{written_of}
use Rattle.sto_checker.specs.Right.{WroteAt}
use Rattle.sto_checker.specs.Exact.{UpdatesWritten}
use Rattle.sto_check_cli.proofs.Readable.{FileFits, in_order_all, readable_fits}
use Rattle.sto_check_cli.proofs.Runs.{AreFew, opening_few}
use Rattle.sto_check_cli.proofs.Orders.{order_few}
use Rattle.sto_check_cli.proofs.Along.{here}
use Rattle.sto_check_cli.proofs.Writers.{IsSmall, IsWriterOf, writers_own}

-- a part is at home in one object
one_home : (shapes : List Shape) (i j x y : ℕ) (s t : Shape) → slice_get shapes i ≡ Some s → slice_get shapes j ≡ Some t → x < part_count s → y < part_count t
    → sum_by part_count (take i shapes) + x ≡ sum_by part_count (take j shapes) + y → i ≡ j
one_home [] zero j x y s t a b k l e = absurd cc
one_home [] (suc i) j x y s t a b k l e = absurd cc
one_home (z ∷ shapes) zero zero x y s t a b k l e = refl
one_home (z ∷ shapes) zero (suc j) x y s t a b k l e =
    let same : z ≡ s = cc in
    let small : x < part_count z = subst (λ (q : Shape). x < part_count q) (sym same) k in
    let cons = sum_by-cons part_count z (take j shapes) in
    absurd (omega (arith, small, cons, e))
one_home (z ∷ shapes) (suc i) zero x y s t a b k l e =
    let same : z ≡ t = cc in
    let small : y < part_count z = subst (λ (q : Shape). y < part_count q) (sym same) l in
    let cons = sum_by-cons part_count z (take i shapes) in
    absurd (omega (arith, small, cons, e))
one_home (z ∷ shapes) (suc i) (suc j) x y s t a b k l e =
    let left = sum_by-cons part_count z (take i shapes) in
    let right = sum_by-cons part_count z (take j shapes) in
    ap suc (one_home shapes i j x y s t a b k l (omega (arith, left, right, e)))

-- what is found is one of them
found_among : (P : Declaration → Type 0) (p : Declaration → Bool) (ds : List Declaration) (d : Declaration) → All P ds → find p ds ≡ Some d → P d
found_among P p [] d h e = absurd cc
found_among P p (x ∷ ds) d h e = by (p x) e (All-head P x ds h) (found_among P p ds d (All-tail P x ds h))
  where
    by : (b : Bool) → cond b (Some x) (find p ds) ≡ Some d → P x → (find p ds ≡ Some d → P d) → P d
    by true e h more = let same : x ≡ d = cc in subst P same h
    by false e h more = more e

-- what is true of each transaction
transaction_is : (P : Script → Type 0) (file : File) → All (All P) file.threads → (place : TransactionPlace) (s : Script) → transaction_at file place ≡ Some s → P s
transaction_is P file h place s = by (slice_get file.threads place.0) refl place.1
  where
    by : (o : Option (List Script)) → slice_get file.threads place.0 ≡ o → (position : ℕ) → option_and_then (at_position position) o ≡ Some s → P s
    by None e position k = absurd cc
    by (Some scripts) e zero k = absurd cc
    by (Some scripts) e (suc position) k = all_get P scripts position s (all_get (All P) file.threads place.0 scripts h e) k

module _ (means : List Shape → Meaning) (bytes : List ℕ) (file : File) (reads : file_of bytes ≡ Ok file) (type_of : IsTypeOf (shapes_of file.declarations) (means (shapes_of file.declarations)))
    (takes : (place : TransactionPlace) (s : Script) → transaction_at file place ≡ Some s → (call : Call) → Asks s.body call → (means (shapes_of file.declarations)).takes call) where
  abbrev m : Meaning
  m = means (shapes_of file.declarations)

  sound : IsSound file
  sound = readable_sound bytes file reads

  fits : FileFits file
  fits = readable_fits bytes file reads

  small : (place : TransactionPlace) (s : Script) → transaction_at file place ≡ Some s → IsSmall s
  small = transaction_is IsSmall file (λ k d l i e m. record { numbers = fits.scripts k d l i e m; light = (sound.sound_scripts k d l i e m).light })

  opened : AreFew 16384 (opening_state file)
  opened =
      let ranges : All (HasRanges file.version) (shapes_of file.declarations) =
      in_order_all (HasRanges file.version) (map (λ d. d.shape) file.declarations) (All-map (HasRanges file.version) (λ (d : Declaration). d.shape) file.declarations sound.in_ranges) in
      opening_few file.version (shapes_of file.declarations) (λ k d l. (fits.shapes k d l, ranges k d l))

  short : (order : List TransactionPlace) → IsOrder file order → 16384 + 4096 * length order < 2 ^ 63
  short order is = let few = order_few file order sound is in omega (arith, few)

  -- the object of a part is the one that was declared by the name
  home_is : (name : List ℕ) (d : Declaration) → declared_as name file.declarations ≡ Some d → (part object p : ℕ) → part < part_count d.shape
      → p ≡ part_number file.declarations d part → IsPartOfObject m.homes object p → object ≡ d.number
  home_is name d declared part object p l e h =
      let numbered : IsNumbered file.declarations d = found_among (IsNumbered file.declarations) (λ x. bytes_eq name x.name) file.declarations d sound.numbered declared in
      let home : ℕ × ℕ = slice_index_or m.homes p (0, 0) in
      let at : IsHomeAt (shapes_of file.declarations) p home = type_of.homes p h.in_range in
      sym h.owner ∙ one_home (shapes_of file.declarations) home.0 d.number home.1 part at.shape d.shape at.object numbered.shaped at.inside l (sym at.number ∙ e)

  pub updates_written : UpdatesWritten (updating_by means) file
  updates_written order is name d declared part l by some before after e =
      let p : ℕ = part_number file.declarations d part in
      let among : Contains (updated (updating_by means) file order by) p =
      subst (λ (ps : List ℕ). Contains ps p) (sym e) (Contains-append_right before (p ∷ after) p (here p after)) in
      let opening = type_of.lawful.opening_rows ∙ ap (λ ms. Rattle.sto_model.specs.SequentialObjects.opening_of ms) type_of.machines in
      let w : IsWriterOf m.homes (written_of file order) by p =
      writers_own means file type_of.lawful (sym type_of.machines) takes small order (opening_state file) m.opened type_of.lawful.opening opening 16384 (short order is) opened by p among in
      subst (WroteAt (written_of file order) by) (home_is name d declared part w.object p l refl w.part) w.wrote
