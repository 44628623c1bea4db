-- A store and a worker that own their parts may go to another thread. What a `&` to a pass at rest lends is the whole of it, and says the
-- same to every thread.
use denote.RattleType.{RattleType}
use denote.Struct.Declared.{shape}
use denote.Param.Send.{IsSend, IsSync, part_keyless, struct_send, sendable}
use Rattle.std.proofs.Crossing as heap
use Rattle.std.proofs.option.Option.TheSendSync as option_crosses
use Rattle.std.specs.contracts.alloc.Global as Global
use Rattle.std.specs.contracts.impls.GlobalAllocator.TheImpl.{ghosts}
use Rattle.std.specs.contracts.option.Option as Option
use Rattle.std.specs.contracts.sync.Arc as Arc
use Rattle.atomic_table.specs.contracts.shared.Seat as Seat
use Rattle.atomic_table.proofs.shared.Seat.TheSendSync as seat_crosses
use Rattle.counted_slot.specs.declared.Fits as fits
use Rattle.counted_slot.specs.contracts.Counted as Counted
use Rattle.counted_slot.specs.contracts.OptionFits.TheImpl as option_fits
use Rattle.counted_slot.proofs.Counted.TheSendSync as counted_crosses
use Rattle.sto_part.specs.declared.naming.Naming as naming
use Rattle.sto_part.proofs.list.List.TheSendSync as list_crosses
use Rattle.sto_type.specs.declared.tx_type.TxType as tx_type
use Rattle.sto_table.specs.contracts.shared.Rest as Rest
use Rattle.sto_shared_store.specs.contracts.store.Store as Store
use Rattle.sto_shared_store.proofs.store.Store.TheSendSync as store_crosses
use Rattle.sto_shared_store.specs.contracts.worker.CountedRest as CountedRest
use Rattle.sto_shared_store.proofs.worker.CountedRest.TheSendSync as idle_crosses
use Rattle.sto_interactive.specs.contracts.session.Session as Session
use Rattle.sto_interactive.proofs.session.Session.TheSendSync as session_crosses
use Rattle.sto_shared_store.specs.contracts.given.Hired as Hired
use Rattle.sto_shared_store.specs.contracts.given.GivenBack as GivenBack
use Rattle.sto_shared_store.specs.contracts.given.GivenBackFits.TheImpl as given_fits
use Rattle.sto_shared_store.proofs.given.GivenBack.TheSendSync as given_crosses
use Rattle.sto_shared_store.specs.contracts.owned_store.OwnedStore as OwnedStore
use Rattle.sto_shared_store.specs.contracts.owned_worker.OwnedWorker as OwnedWorker

seat_sync : (S V : RattleType) → IsSend S → IsSync (Seat.the_row S V)
seat_sync S V s = record { shared = λ x b o κ q. part_keyless (Seat.the_row S V) (seat_crosses.the_send S V s) q x b o }

module _ (T : RattleType) (g : naming.Ghosts T.Denot) where
  rest_sync : IsSync (Rest.the_field T g).row
  rest_sync = search (sendable, seat_sync) depth 20

  idle_sync : IsSync (CountedRest.the_field T g).row
  idle_sync = let r : IsSync (Rest.the_field T g).row = rest_sync in search sendable depth 20

  given_sync : IsSync (GivenBack.the_row T g)
  given_sync = let w : IsSync (CountedRest.the_field T g).row = idle_sync in search sendable depth 20

  module _ (t : tx_type.Ghosts T.Denot) where
    abbrev Given : RattleType
    Given = Option.the_row (GivenBack.the_row T g)

    abbrev slot_fits : fits.Ghosts Given.Denot (Hired.the_row T g).Denot
    slot_fits = option_fits.ghosts (GivenBack.the_row T g) (Hired.the_row T g) (given_fits.ghosts T t given_fits.no_dict g given_fits.no_dict) option_fits.no_dict

    abbrev Slot : RattleType
    Slot = Arc.the_row (Counted.the_row Given (Hired.the_row T g) slot_fits) Global.the_row ghosts

    slot_send : IsSend Slot
    slot_send =
        let s : IsSend Given = option_crosses.the_send (GivenBack.the_row T g) (given_crosses.the_send T g) in
        let y : IsSync Given = option_crosses.the_sync (GivenBack.the_row T g) given_sync in
        heap.Arc-send (Counted.the_row Given (Hired.the_row T g) slot_fits) (counted_crosses.the_send Given (Hired.the_row T g) slot_fits s) (counted_crosses.the_sync Given (Hired.the_row T g) slot_fits s y)

    module _ (s : IsSend T) (y : IsSync T) where
      store_send : IsSend (Arc.the_row (Store.the_row T g) Global.the_row ghosts)
      store_send = heap.Arc-send (Store.the_row T g) (store_crosses.the_send T g s) (store_crosses.the_sync T g y)

      pub owned_store_send : IsSend (OwnedStore.the_field T g t).row
      owned_store_send = struct_send (shape (OwnedStore.the_type T g t))
          (store_send, (list_crosses.the_send (CountedRest.the_row T g) (idle_crosses.the_send T g), (list_crosses.the_send Slot slot_send, tt)))

      pub owned_worker_send : IsSend (OwnedWorker.the_field T g t).row
      owned_worker_send = struct_send (shape (OwnedWorker.the_type T g t))
          (store_send, (slot_send, (option_crosses.the_field_send (Session.the_row T g) (session_crosses.the_send T g), tt)))
