-- One more abort line.
use Rattle.std.specs.Prelude.{slice_index_or}
use Rattle.std.specs.List.{flat_map}
use Rattle.std.proofs.Common.{◌≡◌, ℕ, zero, suc, ◌+◌, ◌<◌, ◌≤◌, List, [], ◌∷◌, ◌++◌, length, map, refl, sym, ap, ◌∙◌, subst, arith, append-nil, append_assoc, length-append}
use Rattle.std.proofs.lemmas.List.{map-append}
use Rattle.sto_model.specs.PlainReplies.{plain_reply}
use Rattle.sto_type.specs.declared.answer.Home.{Home}
use Rattle.sto_lang.specs.Objects.{Declaration}
use Rattle.sto_report_spec.specs.Aborts.{Abort, part_by_home}
use Rattle.sto_report_spec.specs.Aborts as aborts
use Rattle.sto_transaction.specs.declared.record.Record.{Record}
use Rattle.sto_attempt_log.specs.declared.verdict.Verdict.{Verdict}
use Rattle.sto_attempt_log.specs.declared.verdict.Verdict.TheVariants.{Locked, Changed}
use Rattle.sto_journal.specs.declared.journal.AbortLine.{AbortLine}
use Rattle.sto_journal.specs.declared.journal.Cause.TheVariants as causes
use Rattle.sto_journal.specs.Journals.{home_pair, abort}
use Rattle.sto_run.specs.Tickets.{up_to}
use Rattle.sto_run.specs.PlainAborts.{aborts_by, aborts_at}

flat_more : {X : Type 0} (f : X → List Abort) (xs : List X) (x : X) → flat_map f (xs ++ x ∷ []) ≡ flat_map f xs ++ f x
flat_more f [] x = append-nil (f x)
flat_more f (y ∷ xs) x = ap (λ (l : List Abort). f y ++ l) (flat_more f xs x) ∙ sym (append_assoc (f y) (flat_map f xs) (f x))

-- stands for a home where there is none
abbrev pub no_home : Home
no_home = record { object = 0; local = 0 }

home_at : (hs : List Home) (p : ℕ) → slice_index_or (map home_pair hs) p (0, 0) ≡ home_pair (slice_index_or hs p no_home)
home_at [] zero = refl
home_at [] (suc p) = refl
home_at (h ∷ hs) zero = refl
home_at (h ∷ hs) (suc p) = home_at hs p

-- the line of a record whose part was locked
pub locked_line : (ds : List Declaration) (hs : List Home) (ts : List ℕ) (r : Record) (at part k : ℕ) (home : Home)
    → r.verdict ≡ Locked at part → k ≡ up_to at ts → home ≡ slice_index_or hs part no_home
    → abort ds (record { thread = r.thread; position = r.position; at = k; replies = r.replies; cause = causes.Locked home }) ∷ [] ≡ aborts_at ds (map home_pair hs) ts r
locked_line ds hs ts r at part k home is count e =
    ap (λ (n : ℕ). abort_with n (home_pair home)) count
    ∙ ap (abort_with (up_to at ts)) (ap home_pair e ∙ sym (home_at hs part))
    ∙ ap (aborts_by ds (map home_pair hs) ts r) (sym is)
  where
    abort_with : ℕ → ℕ × ℕ → List Abort
    abort_with n h = record { place = (r.thread, r.position); seen = n; replies = map plain_reply r.replies.items; cause = aborts.Locked (part_by_home ds h) } ∷ []

-- the line of a record whose part was changed
pub changed_line : (ds : List Declaration) (hs : List Home) (ts : List ℕ) (r : Record) (at part ticket k by' : ℕ) (home : Home)
    → r.verdict ≡ Changed at part ticket → k ≡ up_to at ts → by' ≡ up_to ticket ts → home ≡ slice_index_or hs part no_home
    → abort ds (record { thread = r.thread; position = r.position; at = k; replies = r.replies; cause = causes.Changed home by' }) ∷ [] ≡ aborts_at ds (map home_pair hs) ts r
changed_line ds hs ts r at part ticket k by' home is count number e =
    ap (λ (n : ℕ). abort_with n by' (home_pair home)) count
    ∙ ap (λ (n : ℕ). abort_with (up_to at ts) n (home_pair home)) number
    ∙ ap (abort_with (up_to at ts) (up_to ticket ts)) (ap home_pair e ∙ sym (home_at hs part))
    ∙ ap (aborts_by ds (map home_pair hs) ts r) (sym is)
  where
    abort_with : ℕ → ℕ → ℕ × ℕ → List Abort
    abort_with n x h = record { place = (r.thread, r.position); seen = n; replies = map plain_reply r.replies.items; cause = aborts.Changed (part_by_home ds h) x } ∷ []

-- one more line
pub one_more : (ds : List Declaration) (hs : List (ℕ × ℕ)) (ts : List ℕ) (lines new : List AbortLine) (line : AbortLine) (rs : List Record) (r : Record)
    → new ≡ lines ++ line ∷ [] → map (abort ds) lines ≡ flat_map (aborts_at ds hs ts) rs → abort ds line ∷ [] ≡ aborts_at ds hs ts r
    → map (abort ds) new ≡ flat_map (aborts_at ds hs ts) (rs ++ r ∷ [])
one_more ds hs ts lines new line rs r e so_far is =
    ap (map (abort ds)) e
    ∙ map-append (abort ds) lines (line ∷ [])
    ∙ ap (λ (l : List Abort). l ++ abort ds line ∷ []) so_far
    ∙ ap (λ (l : List Abort). flat_map (aborts_at ds hs ts) rs ++ l) is
    ∙ sym (flat_more (aborts_at ds hs ts) rs r)

-- there are no more lines than records
pub room_more : (lines new : List AbortLine) (line : AbortLine) (rs : List Record) (r : Record) → new ≡ lines ++ line ∷ [] → length lines ≤ length rs → length new ≤ length (rs ++ r ∷ [])
room_more lines new line rs r e h =
    let a = ap length e in let b = length-append lines (line ∷ []) in let d = length-append rs (r ∷ []) in omega (arith, a, b, d, h)
