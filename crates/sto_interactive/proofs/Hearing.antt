-- Replies come last.
use Rattle.std.proofs.Common.{◌≡◌, List, [], ◌++◌, append_assoc, append-nil, sym, ap, ◌∙◌}
use Rattle.sto_model.specs.PlainReplies.{PlainReply}
use Rattle.sto_interactive.specs.Waiting.{HearsMore}

pub hears_none : (rs : List PlainReply) → HearsMore rs rs
hears_none rs = record { more = []; all = sym (append-nil rs) }

pub hears_on : (rs ss all more : List PlainReply) → HearsMore rs ss → all ≡ ss ++ more → HearsMore rs all
hears_on rs ss all more h e = record { more = h.more ++ more; all = e ∙ ap (λ (l : List PlainReply). l ++ more) h.all ∙ append_assoc rs h.more more }

pub hears_both : (rs ss all : List PlainReply) → HearsMore rs ss → HearsMore ss all → HearsMore rs all
hears_both rs ss all h k = hears_on rs ss all k.more h k.all
