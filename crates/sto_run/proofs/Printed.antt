-- A lawful journal of a sound file can be printed.
use Rattle.std.specs.List.{All}
use Rattle.std.specs.Str.{bytes_eq}
use Rattle.std.proofs.Common.{◌≡◌, ℕ, zero, suc, ◌<◌, ◌≤◌, List, [], ◌∷◌, length, map, refl, sym, ap, ◌∙◌, subst, arith, Bool, true, false, cond, ◌==◌, Option, None, Some, is_some, inl, inr}
use Rattle.std.proofs.lemmas.Bool.{cases_lt}
use Rattle.std.proofs.lemmas.Bool.Decides.{nat_tests}
use Rattle.std.proofs.lemmas.List.{length-map}
use Rattle.std.proofs.lemmas.List.Elements.{All-nil, All-cons, All-head, All-tail}
use Rattle.sto_model.specs.SequentialObjects.{SequentialObject, opening_of, reply_to, state_after}
use Rattle.sto_model.specs.Run.{Behaviour, State}
use Rattle.sto_model.specs.Serial.{SerialRun, by_next, ended, heard, run_within, settled}
use Rattle.sto_model.specs.Objects.{machine_of}
use Rattle.sto_model.specs.declared.body.Next.{Next}
use Rattle.sto_model.specs.declared.body.Next.TheVariants.{Ask, Commit, Cancel}
use Rattle.sto_model.specs.declared.run.End.{End}
use Rattle.sto_model.specs.declared.run.End.TheVariants as ends
use Rattle.sto_model.proofs.Answering.{length-changed}
use Rattle.sto_syntax.specs.Words.{is_name}
use Rattle.sto_lang.specs.Objects.{Declaration, HaveNames, shapes_of, with_number}
use Rattle.sto_lang.specs.Scripts.{Script, File}
use Rattle.sto_lang.specs.Sound.{IsNumbered, IsSound}
use Rattle.sto_lang.specs.declared.file.Decl.{Decl}
use Rattle.sto_lang.specs.Views.{declaration}
use Rattle.sto_lang.proofs.SoundObjects.{order_count}
use Rattle.sto_script.specs.Meaning.{meaning_of}
use Rattle.sto_report_spec.specs.Orders.{TransactionPlace, transaction_at, count_in, positions_of, numbers_from, IsOrder}
use Rattle.sto_report_spec.specs.Replay.{opening_state, run_at, script_run, machines_for, state_from, final_state}
use Rattle.sto_report_spec.specs.Aborts.{name_of, part_in}
use Rattle.sto_report_spec.specs.Named.{AreNames}
use Rattle.sto_report_spec.specs.LawfulAborts.{declared_as, IsLawfulAbort}
use Rattle.sto_report_spec.specs.Updated.{Updating}
use Rattle.sto_journal.specs.declared.journal.Line.{Line}
use Rattle.sto_journal.specs.declared.journal.AbortLine.{AbortLine}
use Rattle.sto_journal.specs.declared.journal.Cause as causes
use Rattle.sto_journal.specs.declared.journal.Cause.TheVariants as kinds
use Rattle.sto_journal.specs.declared.journal.Journal.{Journal}
use Rattle.sto_journal.specs.Journals.{places, abort, cause, home_in, HaveRows, HaveThreads, IsAbortOf, AreAbortsOf}
use Rattle.sto_run.specs.Lawful.{IsLawfulJournal}
use Rattle.sto_run.proofs.Placed.{has_thread}

-- the threads of the lines

no_more : (threads : List (List Script)) (thread : ℕ) → length threads ≤ thread → count_in threads thread ≡ 0
no_more [] thread l = refl
no_more (scripts ∷ threads) zero l = absurd (omega (arith, l))
no_more (scripts ∷ threads) (suc thread) l = no_more threads thread (omega (arith, l))

-- no position of a thread past the first n stands in the order
abbrev HasNonePast : ℕ → List TransactionPlace → Type 0
HasNonePast n order = (thread : ℕ) → n ≤ thread → positions_of thread order ≡ []

order_none : (file : File) (order : List TransactionPlace) → IsOrder file order → HasNonePast (length file.threads) order
order_none file order h thread l = h thread ∙ ap (numbers_from 1) (no_more file.threads thread l)

is_itself : (n : ℕ) → (n == n) ≡ true
is_itself n = grind (arith, nat_tests)

within : (n : ℕ) (p : TransactionPlace) (order : List TransactionPlace) → HasNonePast n (p ∷ order) → p.0 < n
within n p order h = elim (cases_lt p.0 n) [
  | inl l ↦ l
  | inr l ↦
      let e : positions_of p.0 (p ∷ order) ≡ p.1 ∷ positions_of p.0 order =
      ap (λ (b : Bool). cond b (p.1 ∷ positions_of p.0 order) (positions_of p.0 order)) (is_itself p.0) in
      let none : p.1 ∷ positions_of p.0 order ≡ [] = sym e ∙ h p.0 l in
      absurd cc
]

none_after : (n : ℕ) (p : TransactionPlace) (order : List TransactionPlace) → HasNonePast n (p ∷ order) → HasNonePast n order
none_after n p order h thread l = by (p.0 == thread) (h thread l)
  where
    by : (b : Bool) → cond b (p.1 ∷ positions_of thread order) (positions_of thread order) ≡ [] → positions_of thread order ≡ []
    by true e = absurd cc
    by false e = e

lines_within : (n : ℕ) (lines : List Line) → HasNonePast n (places lines) → HaveThreads n lines
lines_within n [] h = All-nil (λ (l : Line). l.thread < n)
lines_within n (l ∷ lines) h =
    All-cons (λ (x : Line). x.thread < n) l lines (within n (l.thread, l.position) (places lines) h) (lines_within n lines (none_after n (l.thread, l.position) (places lines) h))

-- the objects that aborts name

unnamed : (declarations : List Declaration) → HaveNames declarations → declared_as [] declarations ≡ None
unnamed [] h = refl
unnamed (d ∷ declarations) h = by d.name h.0 (unnamed declarations h.1)
  where
    by : (name : List ℕ) → is_name name ≡ true → declared_as [] declarations ≡ None → cond (bytes_eq [] name) (Some d) (declared_as [] declarations) ≡ None
    by [] e rest = absurd cc
    by (x ∷ name) e rest = rest

is_declared : (declarations : List Declaration) (found : Option Declaration) (d : Declaration) → HaveNames declarations → declared_as (name_of found) declarations ≡ Some d → is_some found ≡ true
is_declared declarations None d h e = let none = unnamed declarations h in absurd cc
is_declared declarations (Some x) d h e = refl

same_home : (declarations : List Declaration) (c : causes.Cause) → (part_in (cause declarations c)).object ≡ name_of (with_number (home_in c).object declarations)
same_home declarations (kinds.Locked home) = refl
same_home declarations (kinds.Changed home by) = refl

aborts_within : (u : Updating) (file : File) (order : List TransactionPlace) (aborts : List AbortLine) → HaveNames file.declarations
    → All (IsLawfulAbort u file order) (map (abort file.declarations) aborts) → AreAbortsOf (length file.threads) file.declarations aborts
aborts_within u file order [] names h = All-nil (IsAbortOf (length file.threads) file.declarations)
aborts_within u file order (a ∷ aborts) names h =
    let here : IsLawfulAbort u file order (abort file.declarations a) = All-head (IsLawfulAbort u file order) (abort file.declarations a) (map (abort file.declarations) aborts) h in
    All-cons (IsAbortOf (length file.threads) file.declarations) a aborts (
      has_thread file.threads a.thread a.position here.script here.transaction,
      is_declared file.declarations (with_number (home_in a.cause).object file.declarations) here.object names
          (subst (λ (name : List ℕ). declared_as name file.declarations ≡ Some here.object) (same_home file.declarations a.cause) here.part.declared),
    )
    (aborts_within u file order aborts names (All-tail (IsLawfulAbort u file order) (abort file.declarations a) (map (abort file.declarations) aborts) h))

-- the rows that are left

length-run_within : (ms : List SequentialObject) (n : ℕ) (f : Behaviour) (st : State) → length (run_within ms n f st).after ≡ length st
length-run_within ms zero f st = by (f [])
  where
    by : (next : Next) → length (by_next {A = SerialRun} next (λ call. ended st ends.Commit) (ended st)).after ≡ length st
    by (Ask call) = refl
    by Commit = refl
    by Cancel = refl
length-run_within ms (suc n) f st = by (λ rs state. length-run_within ms n rs state) (f [])
  where
    by : ((g : Behaviour) (state : State) → length (run_within ms n g state).after ≡ length state) → (next : Next) → length (by_next {A = SerialRun} next (λ call. heard (reply_to ms call st) (run_within ms n (λ rs. f (reply_to ms call st ∷ rs)) (state_after ms call st))) (ended st)).after ≡ length st
    by rest (Ask call) = rest (λ rs. f (reply_to ms call st ∷ rs)) (state_after ms call st) ∙ length-changed ms call.object call st
    by rest Commit = refl
    by rest Cancel = refl

length-settled : (st : State) (run : SerialRun) → length run.after ≡ length st → length (settled run.end st run.after) ≡ length st
length-settled st run e = by run.end
  where
    by : (end : End) → length (settled end st run.after) ≡ length st
    by ends.Commit = e
    by ends.Cancel = refl

length-script_run : (ms : List SequentialObject) (st : State) (script : Option Script) → length (script_run ms st script).after ≡ length st
length-script_run ms st None = refl
length-script_run ms st (Some script) =
    length-settled st (run_within ms script.weight (meaning_of script) st) (length-run_within ms script.weight (meaning_of script) st)

length-state_from : (file : File) (st : State) (order : List TransactionPlace) → length (state_from file st order) ≡ length st
length-state_from file st [] = refl
length-state_from file st (p ∷ order) =
    length-state_from file (run_at file st p).after order ∙ length-script_run (machines_for file) st (transaction_at file p)

length-final : (file : File) (order : List TransactionPlace) → length (final_state file order) ≡ length file.declarations
length-final file order =
    length-state_from file (opening_state file) order
    ∙ length-map (machines_for file) (λ (m : SequentialObject). m.opening)
    ∙ length-map (shapes_of file.declarations) machine_of
    ∙ order_count (map (λ (d : Declaration). d.shape) file.declarations)
    ∙ length-map file.declarations (λ (d : Declaration). d.shape)

rows_within : (decls : List Decl) (all : List Declaration) (state : State) → length state ≡ length all → All (IsNumbered all) (map declaration decls) → HaveRows state decls
rows_within [] all state e h = All-nil (λ (d : Decl). d.number < length state)
rows_within (d ∷ decls) all state e h =
    let here : IsNumbered all (declaration d) = All-head (IsNumbered all) (declaration d) (map declaration decls) h in
    let below = here.below in
    All-cons (λ (x : Decl). x.number < length state) d decls (omega (arith, below, e))
    (rows_within decls all state e (All-tail (IsNumbered all) (declaration d) (map declaration decls) h))

-- the names of a sound file are those of a report
pub names_of_sound : (file : File) → IsSound file → AreNames file.names
names_of_sound file sound = record { each = sound.thread_names.are_names; differ = sound.thread_names.differ }

module _ (u : Updating) (file : File) (tries : ℕ) (journal : Journal) (sound : IsSound file) (lawful : IsLawfulJournal u file tries journal) where
  pub lawful_threads : HaveThreads (length file.threads) journal.lines.items
  lawful_threads = lines_within (length file.threads) journal.lines.items (order_none file (places journal.lines.items) lawful.order)

  pub lawful_aborts : AreAbortsOf (length file.threads) file.declarations journal.aborts.items
  lawful_aborts = aborts_within u file (places journal.lines.items) journal.aborts.items sound.named lawful.aborts.each

  pub lawful_rows : (decls : List Decl) → map declaration decls ≡ file.declarations → HaveRows journal.state.items decls
  lawful_rows decls e =
      rows_within decls file.declarations journal.state.items
      (ap (λ (st : State). length st) lawful.final ∙ length-final file (places journal.lines.items))
      (subst (All (IsNumbered file.declarations)) (sym e) sound.numbered)
