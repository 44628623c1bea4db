use Rattle.std.proofs.Common.{◌≡◌, ◌-◌, List, map, take, drop, length, IfOk, sym, ap, ◌∙◌, subst, arith}
use Rattle.std.proofs.lemmas.List.{drop-map, take_all, length-drop}
use Rattle.sto_model.specs.PlainReplies.{PlainReply, plain_reply}
use Rattle.sto_model.specs.declared.reply.Reply.{Reply}
use Rattle.sto_part.specs.Listed.{Listed}
use Rattle.sto_trace.proofs.replies.replies_past.Goals as goal

pub returns-then-heard-len : goal.returns-then-heard-len
returns-then-heard-len c =
    let all : List Reply = c.as_slice.result.now in
    let n = c.args.heard in
    let long : length (drop n all) ≡ length all - n = length-drop n all in
    let whole : take (length all - n) (drop n all) ≡ drop n all = take_all (length all - n) (drop n all) (omega (arith, long)) in
    let same : map plain_reply (take (length all - n) (drop n all)) ≡ drop n (map plain_reply c.args.replies.now.items) =
    ap (map plain_reply) whole ∙ sym (drop-map plain_reply n all) ∙ ap (λ (l : List Reply). drop n (map plain_reply l)) c.as_slice.ensures.items in
    subst (λ (l : List PlainReply). IfOk c.all_copied.result (λ (copies : Listed Reply). map plain_reply copies.items ≡ l)) same c.all_copied.ensures.copied
