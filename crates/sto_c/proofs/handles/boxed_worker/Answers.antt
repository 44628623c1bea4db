-- What a handle holds may go to another thread.
use denote.Exit.{no}
use denote.Param.Send.{param_send, arg_send}
use Rattle.sto_c.specs.contracts.content.HandleContent.{the_row}
use Rattle.sto_c.proofs.Sending.{content_send}
use Rattle.sto_c.proofs.handles.boxed_worker.Goals as goal

pub sent-requires-send-T : goal.sent-requires-send-T
sent-requires-send-T c κs = param_send 0 _ (arg_send _ no the_row content_send)
