use Rattle.std.proofs.Common.{◌∙◌, sym}
use Rattle.sto_lang.proofs.ThreadLemmas.{place_of_thread}
use Rattle.sto_schedule.proofs.entry.place_of.Goals as goal

pub returns : goal.returns
returns c = c.thread_at.ensures ∙ sym (place_of_thread c.args.name.bytes.now c.args.threads.now)
