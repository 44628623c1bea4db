-- A transaction that asks nothing more stays as it ended, whatever it hears.
use Rattle.std.proofs.Common.{◌≡◌, ℕ, zero, suc, List, [], ◌∷◌, ◌++◌, length, refl, Bool, true, false, cond, None, replicate, pos}
use Rattle.sto_part.specs.Preds.{compares}
use Rattle.sto_model.specs.PlainReplies.{PlainReply}
use Rattle.sto_lang.specs.Scripts.{Script}
use Rattle.sto_lang.specs.Statements.{Statements, Nothing, Ask, Sum, Diff, Choose, Repeat, Cancel}
use Rattle.sto_script.specs.Meaning.{Values, Doing, value_of, with_reply, times_over, doing, committing, meaning_of}
use Rattle.sto_trace_text.specs.Events.{asked_in}

-- where nothing is asked, further replies change nothing
abbrev IsSilent : Doing → Type 0
IsSilent does = (values : Values) (heard more : List PlainReply) → asked_in (does values heard) ≡ None → does values (heard ++ more) ≡ does values heard

silent_times : (times : ℕ) (body : Doing → Doing) (others : Doing) → ((does : Doing) → IsSilent does → IsSilent (body does)) → IsSilent others → IsSilent (times_over times body others)
silent_times zero body others inner after = after
silent_times (suc times) body others inner after = inner (times_over times body others) (silent_times times body others inner after)

silent_branch : (first : Bool) (one two : Doing) → IsSilent one → IsSilent two → (values : Values) (heard more : List PlainReply)
    → asked_in (cond first (one values heard) (two values heard)) ≡ None → cond first (one values (heard ++ more)) (two values (heard ++ more)) ≡ cond first (one values heard) (two values heard)
silent_branch true one two h k values heard more e = h values heard more e
silent_branch false one two h k values heard more e = k values heard more e

silent : (s : Statements) (others : Doing) → IsSilent others → IsSilent (doing s others)
silent Nothing others h values heard more e = h values heard more e
silent (Ask to object code a b rest) others h values [] more e = absurd cc
silent (Ask to object code a b rest) others h values (r ∷ heard) more e = silent rest others h (with_reply values to r) heard more e
silent (Sum to a b rest) others h values heard more e = silent rest others h _ heard more e
silent (Diff to a b rest) others h values heard more e = silent rest others h _ heard more e
silent (Choose a test b first second rest) others h values heard more e =
    silent_branch (compares test (value_of values a) (value_of values b)) (doing first (doing rest others)) (doing second (doing rest others))
    (silent first (doing rest others) (silent rest others h)) (silent second (doing rest others) (silent rest others h)) values heard more e
silent (Repeat times body rest) others h values heard more e =
    silent_times times (doing body) (doing rest others) (λ does k. silent body does k) (silent rest others h) values heard more e
silent (Cancel rest) others h values heard more e = refl

pub stays : (script : Script) (heard more : List PlainReply) → asked_in (meaning_of script heard) ≡ None → meaning_of script (heard ++ more) ≡ meaning_of script heard
stays script heard more e = silent script.body committing (λ values replies later same. refl) (replicate (length script.variables) (pos 0)) heard more e
