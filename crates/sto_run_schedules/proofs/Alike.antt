-- Records that `==` finds equal have the same plain data.
use Rattle.std.specs.Prelude.{map, ◌&&◌}
use Rattle.std.specs.Ordering.{int_eq}
use Rattle.std.specs.Cmp.Lexicographic.{pointwise}
use Rattle.std.proofs.Common.{rules, ◌≡◌, ℤ, Bool, List, [], ◌∷◌, true, ap, refl}
use Rattle.sto_model.specs.PlainReplies.{plain_reply, Value, Flag, Pairs}
use Rattle.sto_model.specs.declared.reply.Reply.{Reply}
use Rattle.sto_model.specs.declared.reply.Reply.TheVariants as V
use Rattle.sto_model.specs.contracts.reply.ReplyPartialEq.TheImpl.{eq-value as reply-value}
use Rattle.sto_attempt_log.specs.declared.verdict.Verdict.{Verdict}
use Rattle.sto_attempt_log.specs.contracts.verdict.VerdictPartialEq.TheImpl.{eq-value as verdict-value}
use Rattle.sto_transaction.specs.Plain.{plain, verdict}
use Rattle.sto_transaction.specs.declared.record.Record.{Record}
use Rattle.sto_transaction.specs.contracts.record.RecordPartialEq.TheImpl.{eq-value}

-- where f of two that a test finds equal is the same, it is so along two lists
mapped_same : {X Y : Type 0} (E : X → X → Bool) (f : X → Y) → ((x y : X) → E x y ≡ true → f x ≡ f y)
    → (xs ys : List X) → pointwise E xs ys ≡ true → map f xs ≡ map f ys
mapped_same E f same [] [] e = refl
mapped_same E f same (x ∷ xs) (y ∷ ys) e =
    let first : f x ≡ f y = same x y (search (rules, e)) in
    let others : map f xs ≡ map f ys = mapped_same E f same xs ys (search (rules, e)) in
    λ i. first i ∷ others i
mapped_same E f same xs ys e = search (rules, e)

row_same : (p q : ℤ × ℤ) → (int_eq p.0 q.0 && int_eq p.1 q.1) ≡ true → p ≡ q
row_same p q e = let key : p.0 ≡ q.0 = search (rules, e) in let value : p.1 ≡ q.1 = search (rules, e) in λ i. (key i, value i)

rows_same : (ps qs : List (ℤ × ℤ)) → pointwise (λ p q. int_eq p.0 q.0 && int_eq p.1 q.1) ps qs ≡ true → ps ≡ qs
rows_same [] [] e = refl
rows_same (p ∷ ps) (q ∷ qs) e =
    let first : p ≡ q = row_same p q (search (rules, e)) in
    let others : ps ≡ qs = rows_same ps qs (search (rules, e)) in
    λ i. first i ∷ others i
rows_same ps qs e = search (rules, e)

reply_same : (a b : Reply) → reply-value.it a b ≡ true → plain_reply a ≡ plain_reply b
reply_same (V.Value x) (V.Value y) e = let same : x ≡ y = search (rules, e) in ap Value same
reply_same (V.Flag x) (V.Flag y) e = let same : x ≡ y = search (rules, e) in ap Flag same
reply_same (V.Pairs ps) (V.Pairs qs) e = ap Pairs (rows_same ps.items qs.items e)
reply_same a b e = search (rules, e)

verdict_same : (v w : Verdict) → verdict-value.it v w ≡ true → v ≡ w
verdict_same v w e = search (rules, e)

record_same : (r s : Record) → eq-value.it r s ≡ true → plain r ≡ plain s
record_same r s e =
    let thread : r.thread ≡ s.thread = search (rules, e) in
    let position : r.position ≡ s.position = search (rules, e) in
    let replies : map plain_reply r.replies.items ≡ map plain_reply s.replies.items = mapped_same reply-value.it plain_reply reply_same r.replies.items s.replies.items (search (rules, e)) in
    let same : r.verdict ≡ s.verdict = verdict_same r.verdict s.verdict (search (rules, e)) in
    λ i. record { place = (thread i, position i); replies = replies i; verdict = verdict (same i) }

pub records_same : (rs ss : List Record) → pointwise eq-value.it rs ss ≡ true → map plain rs ≡ map plain ss
records_same = mapped_same eq-value.it plain record_same
