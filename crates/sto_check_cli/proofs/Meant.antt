-- The types of the objects of a script that can be read update only parts of objects that were written.
use Rattle.std.proofs.Common.{◌≡◌, ℕ, List, map, Some, Ok, map-id}
use Rattle.sto_model.specs.declared.call.Call.{Call}
use Rattle.sto_model.specs.declared.shape.Shape.{Shape}
use Rattle.sto_lang.specs.Objects.{shapes_of}
use Rattle.sto_lang.specs.Scripts.{Script, File}
use Rattle.sto_lang.specs.Files.{file_of}
use Rattle.sto_lang.specs.Sound.{IsSound}
use Rattle.sto_lang.proofs.SoundFiles.{readable_sound}
use Rattle.sto_script.specs.Asks.{Asks}
use Rattle.sto_checker.specs.Orders.{TransactionPlace, transaction_at}
use Rattle.sto_checker.specs.Exact.{UpdatesWritten}
use Rattle.sto_store.specs.Stores.{of_kind, means, AreKinds}
use Rattle.sto_store.proofs.Meant.{fit_lawful}
use Rattle.sto_run.specs.Meanings.{updating_by}
use Rattle.sto_run.proofs.Asking.{store_takes}
use Rattle.sto_run.proofs.Fitting.{sound_fit}
use Rattle.sto_run.proofs.Sound.{sound_in_order, sound_runnable, is_type_of}
use Rattle.sto_check_cli.proofs.Exact.{updates_written}
use Rattle.sto_check_cli.proofs.Readable.{readable_fits}

-- shapes are of the kinds that they are of
kinds_of : (ss : List Shape) → AreKinds (map (λ x. x) (of_kind 0 ss)) (map (λ x. x) (of_kind 1 ss)) (map (λ x. x) (of_kind 2 ss)) (map (λ x. x) (of_kind 3 ss)) (map (λ x. x) (of_kind 4 ss)) (map (λ x. x) (of_kind 5 ss)) ss
kinds_of ss = record {
  boxes_are = map-id (of_kind 0 ss);
  counters_are = map-id (of_kind 1 ss);
  wide = record {
    arrays_are = map-id (of_kind 2 ss);
    hashes_are = map-id (of_kind 3 ss);
    sized = record { trees_are = map-id (of_kind 4 ss); vectors_are = map-id (of_kind 5 ss) };
  };
}

-- what the objects of a sound file mean takes each call of its transactions
means_take : (file : File) → IsSound file → (place : TransactionPlace) (script : Script) → transaction_at file place ≡ Some script → (call : Call) → Asks script.body call
    → (means (shapes_of file.declarations)).takes call
means_take file sound place script at call asks =
    let ss : List Shape = shapes_of file.declarations in
    store_takes (λ (x : Shape). x) (λ (x : Shape). x) (λ (x : Shape). x) (λ (x : Shape). x) (λ (x : Shape). x) (λ (x : Shape). x)
    (of_kind 0 ss) (of_kind 1 ss) (of_kind 2 ss) (of_kind 3 ss) (of_kind 4 ss) (of_kind 5 ss) ss
    (sound_in_order file) (kinds_of ss) script.body (sound_runnable file sound place script at).taken call asks

pub means_written : (bytes : List ℕ) (file : File) → file_of bytes ≡ Ok file → UpdatesWritten (updating_by means) file
means_written bytes file reads =
    let sound : IsSound file = readable_sound bytes file reads in
    let ss : List Shape = shapes_of file.declarations in
    let law = fit_lawful ss (sound_fit file sound) (readable_fits bytes file reads).shapes in
    updates_written means bytes file reads (is_type_of ss (sound_in_order file) law) (means_take file sound)
