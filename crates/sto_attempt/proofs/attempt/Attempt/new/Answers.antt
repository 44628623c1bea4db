use Rattle.std.proofs.Common.{rules}
use Rattle.sto_attempt.proofs.attempt.Attempt.new.Goals as goal

pub returns : goal.returns
returns g c =
    record {
      ty = search rules;
      script = search rules;
      left_at_reset = search rules;
      left = search rules;
      none = search rules;
      fresh = search rules;
      read_phase = search rules;
      events = search rules;
      log = search rules;
    }
