-- The text of a summary, piece by piece.
use Rattle.std.proofs.Common.{◌≡◌, ℕ, List, [], ◌∷◌, ◌++◌, length, refl, ap, ◌∙◌, subst, append_assoc, codes, decimal}
use Rattle.std.specs.Fmt.{signed_decimal}
use Rattle.std.specs.Str.{IsAscii}
use Rattle.std.proofs.lemmas.Str.{IsAscii-append}
use Rattle.sto_model.specs.Run.{State}
use Rattle.sto_report_spec.proofs.Printable.{IsPrintable, printable_append, printable_decimal, printable_signed}
use Rattle.sto_report_spec.proofs.Naming.{line_ascii}
use Rattle.sto_bench.specs.Summary.{rows_named, total_of, line_of, summary_of}

pub joined : (old a b c d e s1 s2 s3 s4 s5 : List ℕ) → s1 ≡ old ++ a → s2 ≡ s1 ++ b → s3 ≡ s2 ++ c → s4 ≡ s3 ++ d → s5 ≡ s4 ++ e
    → s5 ≡ old ++ (a ++ (b ++ (c ++ (d ++ e))))
joined old a b c d e s1 s2 s3 s4 s5 e1 e2 e3 e4 e5 =
    e5
    ∙ ap (λ (s : List ℕ). s ++ e) (e4 ∙ ap (λ (s : List ℕ). s ++ d) (e3 ∙ ap (λ (s : List ℕ). s ++ c) (e2 ∙ ap (λ (s : List ℕ). s ++ b) e1)))
    ∙ regroup
  where
    regroup : ((((old ++ a) ++ b) ++ c) ++ d) ++ e ≡ old ++ (a ++ (b ++ (c ++ (d ++ e))))
    regroup = simp append_assoc

one_line : (word number : List ℕ) → IsPrintable word → IsPrintable number → IsAscii (line_of word number)
one_line word number h k = subst IsAscii (append_assoc word (32 ∷ number) (10 ∷ [])) (line_ascii (word ++ 32 ∷ number) (printable_append word (32 ∷ number) h (refl, k)))

pub summary_ascii : (number transactions : ℕ) (state : State) → IsAscii (summary_of number transactions state)
summary_ascii number transactions state =
    let acct : List ℕ = signed_decimal (total_of (rows_named state (codes "acct"))) in
    let log : ℕ = length (rows_named state (codes "log")) in
    let owner : ℕ = length (rows_named state (codes "owner")) in
    let bench_line : List ℕ = line_of (codes "bench") (decimal number) in
    let transactions_line : List ℕ = line_of (codes "transactions") (decimal transactions) in
    let acct_line : List ℕ = line_of (codes "acct") acct in
    let log_line : List ℕ = line_of (codes "log") (decimal log) in
    let owner_line : List ℕ = line_of (codes "owner") (decimal owner) in
    IsAscii-append bench_line (transactions_line ++ (acct_line ++ (log_line ++ owner_line)))
    (one_line (codes "bench") (decimal number) (refl, (refl, (refl, (refl, (refl, tt))))) (printable_decimal number))
    (IsAscii-append transactions_line (acct_line ++ (log_line ++ owner_line))
    (one_line (codes "transactions") (decimal transactions) (refl, (refl, (refl, (refl, (refl, (refl, (refl, (refl, (refl, (refl, (refl, (refl, tt)))))))))))) (printable_decimal transactions))
    (IsAscii-append acct_line (log_line ++ owner_line)
    (one_line (codes "acct") acct (refl, (refl, (refl, (refl, tt)))) (printable_signed (total_of (rows_named state (codes "acct")))))
    (IsAscii-append log_line owner_line
    (one_line (codes "log") (decimal log) (refl, (refl, (refl, tt))) (printable_decimal log))
    (one_line (codes "owner") (decimal owner) (refl, (refl, (refl, (refl, (refl, tt))))) (printable_decimal owner)))))
