-- What a handle holds may go to another thread.
use denote.Struct.Declared.{shape}
use denote.Enum.Declared as enum
use denote.Param.Send.{IsSend, EachSend, recorded_send, struct_send, enum_send, sendable}
use Rattle.sto_part.proofs.list.List.TheSendSync as list_crosses
use Rattle.sto_store.specs.contracts.objects.Objects as Objects
use Rattle.sto_store.specs.contracts.objects.ObjectsNaming.TheImpl.{ghosts as naming_ghosts}
use Rattle.sto_store.specs.contracts.objects.ObjectsTxType.TheImpl.{ghosts as type_ghosts}
use Rattle.sto_store.proofs.objects.Objects.TheSendSync as objects_cross
use Rattle.sto_c.specs.contracts.content.HandleContent as HandleContent
use Rattle.sto_c.specs.contracts.content.StoreHandle as StoreHandle
use Rattle.sto_c.specs.contracts.content.WorkerHandle as WorkerHandle
use Rattle.sto_c.specs.contracts.crossing.RowOut as RowOut
use Rattle.sto_shared_store.proofs.Sending.{owned_store_send, owned_worker_send}

held_store_send : IsSend StoreHandle.the_field.row
held_store_send = struct_send (shape StoreHandle.the_type)
    (owned_store_send Objects.the_row naming_ghosts type_ghosts objects_cross.the_send objects_cross.the_sync, (search sendable, tt))

held_worker_send : IsSend WorkerHandle.the_field.row
held_worker_send = struct_send (shape WorkerHandle.the_type)
    (owned_worker_send Objects.the_row naming_ghosts type_ghosts objects_cross.the_send objects_cross.the_sync, (search sendable, tt))

row_send : IsSend RowOut.the_row
row_send = search sendable depth 20

pub content_send : IsSend HandleContent.the_row
content_send =
    let fields : EachSend (enum.shape HandleContent.the_type).variants =
    (tt, ((held_store_send, tt), ((held_worker_send, tt), ((list_crosses.the_send RowOut.the_row row_send, tt), tt)))) in
    recorded_send HandleContent.the_field.row _ _ HandleContent.the_type.to_one (enum_send (enum.shape HandleContent.the_type) fields)
