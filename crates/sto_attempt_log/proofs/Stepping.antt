-- What holds after every step: the replies are a prefix.
use Rattle.std.proofs.Common.{ap, ◌∙◌, true, false, length, nat_lt, ◌≡◌, ◌≤◌, ◌<◌, ℕ, ℤ, List, Some, Result, Ok, Err, IfOk, OnOk, OnErr, refl, sym, subst, arith, slice_index_or, inl, inr}
use Rattle.std.specs.List.{slice_get}
use Rattle.std.proofs.lemmas.Option.{get_or_from_slice_get}
use Rattle.sto_part.specs.declared.NoMemory.{NoMemory}
use Rattle.sto_item.specs.declared.item.Item.{Item}
use Rattle.sto_item.specs.Pending.{Entry as Update}
use Rattle.sto_model.specs.PlainReplies.{PlainReply}
use Rattle.sto_model.specs.Run.{Behaviour}
use Rattle.sto_core.specs.declared.view.View.{View}
use Rattle.sto_core.specs.History.{Validity}
use Rattle.sto_type.specs.Meaning.{Meaning}
use Rattle.sto_attempt_log.specs.declared.read_entry.ReadEntry.{ReadEntry}
use Rattle.sto_attempt_log.specs.declared.extension.Extension.{Extension}
use Rattle.sto_attempt_log.specs.declared.read_phase.ReadPhase.{ReadPhase}
use Rattle.sto_attempt_log.specs.declared.read_phase.ReadPhase.TheVariants.{Unstarted, Opening, Reading, Renewing, Rechecking, Reopening, Rereading, Committing, Over}
use Rattle.sto_attempt_log.specs.declared.verdict.Turn.{Turn}
use Rattle.sto_attempt_log.specs.declared.verdict.Turn.TheVariants.{More, Ready, Ended}
use Rattle.sto_attempt_log.specs.declared.verdict.Verdict.{Verdict}
use Rattle.sto_attempt_log.specs.declared.verdict.Verdict.TheVariants.{Wrote, Read, Cancelled, Locked, Changed}
use Rattle.sto_attempt_log.specs.ReadSet.{words_in, AreClaimed}
use Rattle.sto_attempt_log.specs.Log.{IsLog}
use Rattle.sto_attempt_log.specs.Answers.{IsPrefix}
use Rattle.std.proofs.lemmas.Bool.Decides.{nat_tests}
use Rattle.sto_core.specs.Event.{Event, Word, Close}
use Rattle.sto_attempt_log.specs.Standing.{Goes, Ends, EndsAs, Turned, HasBegun, KeepsExtension, Moves, IsFirst, IsUnaborted, reading_event}
use Rattle.sto_attempt_log.specs.Reasons.{IsCaused}
use Rattle.sto_attempt_log.specs.declared.log.Reached.{Reached}
use Rattle.sto_attempt_log.specs.declared.log.Reached.TheVariants.{Needs, Commits, Cancels}
use Rattle.sto_attempt_log.specs.Led.{IsLed}
use Rattle.sto_attempt_log.proofs.Prefix.{prefix}

-- what a turn tells of its verdict
pub ends_of : (m : Meaning) (valid : Validity) (sizes : List ℕ) (f : Behaviour) (at : ℕ) (ws : List ℤ) (base : List ReadEntry) (es : List Update) (rs : List PlainReply) (v : View) (verdict : Verdict)
    → EndsAs m valid sizes f at ws base es rs v verdict → Ends m f v at rs verdict
ends_of m valid sizes f at ws base es rs v (Wrote t) h = h
ends_of m valid sizes f at ws base es rs v (Read n) h = h.0
ends_of m valid sizes f at ws base es rs v (Cancelled n) h = h
ends_of m valid sizes f at ws base es rs v (Locked n p) h = h
ends_of m valid sizes f at ws base es rs v (Changed n p t) h = h

module _ (m : Meaning) (valid : Validity) (sizes : List ℕ) (f : Behaviour) (at : ℕ) (ws : List ℤ) (extension : Extension) (base : List ReadEntry) (items : List Item) (es : List Update) (rs : List PlainReply) (v : View) where
  goes_prefix : (read_phase : ReadPhase) → Goes m valid sizes f at read_phase ws extension base items es rs v → IsLog m f (words_in base) items es rs → IsPrefix m f v at rs
  goes_prefix Unstarted h log =
      let claimed : AreClaimed v at base = subst (λ (l : List ReadEntry). AreClaimed v at l) (sym h.3) tt in
      prefix m f v at base items es rs log claimed
  goes_prefix (Opening p) h log = prefix m f v at base items es rs log h.0.claimed
  goes_prefix (Reading p t) h log = prefix m f v at base items es rs log h.0.claimed
  goes_prefix (Renewing p t) h log = prefix m f v at base items es rs log h.claimed
  goes_prefix (Rechecking p) h log = prefix m f v at base items es rs log h.spans.claimed
  goes_prefix (Reopening p) h log = prefix m f v at base items es rs log h.spans.claimed
  goes_prefix (Rereading p t) h log = prefix m f v at base items es rs log h.spans.claimed
  goes_prefix Committing h log = absurd h
  goes_prefix Over h log = absurd h

  ends_prefix : (verdict : Verdict) → Ends m f v at rs verdict → IsPrefix m f v at rs
  ends_prefix (Wrote t) h = absurd h
  ends_prefix (Read n) h = λ d val c. (h.1.runs d val c).run
  ends_prefix (Cancelled n) h = h.1.runs
  ends_prefix (Locked n p) h = h.1.runs
  ends_prefix (Changed n p t) h = h.1.runs

  pub turned_prefix : (read_phase : ReadPhase) (turn : Turn) → Turned m valid sizes f at read_phase ws extension base items es rs v turn → IsLog m f (words_in base) items es rs → IsPrefix m f v at rs
  turned_prefix read_phase More h log = goes_prefix read_phase h log
  turned_prefix read_phase Ready h log = prefix m f v at base items es rs log h.0.claimed
  turned_prefix read_phase (Ended verdict) h log = ends_prefix verdict (ends_of m valid sizes f at ws base es rs v verdict h.3)

  -- also where memory is wanting
  pub any_prefix : (read_phase : ReadPhase) (r : Result Turn NoMemory) (P : Type 0) → IfOk r (λ turn. Turned m valid sizes f at read_phase ws extension base items es rs v turn) → OnOk r (IsLog m f (words_in base) items es rs)
      → OnErr r (P × IsPrefix m f v at rs) → IsPrefix m f v at rs
  any_prefix read_phase (Ok turn) P h log stopped = turned_prefix read_phase turn h log
  any_prefix read_phase (Err e) P h log stopped = stopped.1

-- from a log and more
pub ok_map : {T E : Type 0} (r : Result T E) (P Q : Type 0) → (P → Q) → OnOk r P → OnOk r Q
ok_map (Ok x) P Q f h = f h
ok_map (Err e) P Q f h = tt

pub ok_always : {T E : Type 0} (r : Result T E) (P : Type 0) → P → OnOk r P
ok_always (Ok x) P h = h
ok_always (Err e) P h = tt

-- the width of a part that is in range
pub width_got : (widths : List ℕ) (p n : ℕ) → slice_get widths p ≡ Some n → slice_index_or widths p 0 ≡ n
width_got widths p n e = get_or_from_slice_get widths p n 0 e

-- where the body leads, there is no abort
pub led_alone : (at : ℕ) (es : List Update) (reached : Reached) (read_phase : ReadPhase) (turn : Turn) → IsLed at es reached read_phase turn → IsFirst read_phase × IsUnaborted turn
led_alone at es (Needs p) read_phase turn l = (subst IsFirst (sym l.0) tt, subst IsUnaborted (sym l.1) tt)
led_alone at es Commits read_phase turn l = elim l [
  | inl none ↦ (subst IsFirst (sym none.1) tt, subst IsUnaborted (sym none.2) tt)
  | inr wrote ↦ (subst IsFirst (sym wrote.1) tt, subst IsUnaborted (sym wrote.2) tt)
]
led_alone at es Cancels read_phase turn l = (subst IsFirst (sym l.0) tt, subst IsUnaborted (sym l.1) tt)

-- where the body leads, the attempt has begun
pub led_begun : (at : ℕ) (es : List Update) (reached : Reached) (read_phase : ReadPhase) (turn : Turn) → IsLed at es reached read_phase turn → HasBegun read_phase
led_begun at es (Needs p) read_phase turn l = subst HasBegun (sym l.0) tt
led_begun at es Commits read_phase turn l = elim l [
  | inl none ↦ subst HasBegun (sym none.1) tt
  | inr wrote ↦ subst HasBegun (sym wrote.1) tt
]
led_begun at es Cancels read_phase turn l = subst HasBegun (sym l.0) tt

-- the event within a read
pub word_next : (widths : List ℕ) (p : ℕ) (ws : List ℤ) → length ws < slice_index_or widths p 0 → reading_event widths p ws ≡ Word p (length ws)
word_next widths p ws l =
    let more : nat_lt (length ws) (slice_index_or widths p 0) ≡ true = grind (arith, nat_tests) in
    rw more refl

pub close_next : (widths : List ℕ) (p : ℕ) (ws : List ℤ) → slice_index_or widths p 0 ≤ length ws → reading_event widths p ws ≡ Close p
close_next widths p ws l =
    let all : nat_lt (length ws) (slice_index_or widths p 0) ≡ false = grind (arith, nat_tests) in
    rw all refl

-- how a later step moves the number
pub moves_on : (read_phase : ReadPhase) → HasBegun read_phase → (old : ℕ) (new : ReadPhase) (at : ℕ) (v : View) → HasBegun new × (old ≤ at) → Moves read_phase old new at v
moves_on Unstarted begun old new at v h = absurd begun
moves_on (Opening p) begun old new at v h = h
moves_on (Reading p t) begun old new at v h = h
moves_on (Renewing p t) begun old new at v h = h
moves_on (Rechecking p) begun old new at v h = h
moves_on (Reopening p) begun old new at v h = h
moves_on (Rereading p t) begun old new at v h = h
moves_on Committing begun old new at v h = h
moves_on Over begun old new at v h = h

pub moves_ok : (r : Result Turn NoMemory) (read_phase : ReadPhase) → HasBegun read_phase → (old : ℕ) (new : ReadPhase) (at : ℕ) (v : View) → OnOk r (HasBegun new × (old ≤ at)) → OnOk r (Moves read_phase old new at v)
moves_ok r read_phase begun old new at v h = ok_map r (HasBegun new × (old ≤ at)) (Moves read_phase old new at v) (moves_on read_phase begun old new at v) h

pub moves_same : (r : Result Turn NoMemory) (read_phase : ReadPhase) → HasBegun read_phase → (old : ℕ) (new : ReadPhase) (at : ℕ) (v : View) → OnOk r (HasBegun new × (at ≡ old)) → OnOk r (Moves read_phase old new at v)
moves_same r read_phase begun old new at v h =
    ok_map r (HasBegun new × (at ≡ old)) (Moves read_phase old new at v) (λ k. moves_on read_phase begun old new at v (k.0, omega (arith, k.1))) h

-- from what an answer tells to what follows
pub if_ok : {T E : Type 0} (r : Result T E) (P Q : T → Type 0) → ((x : T) → P x → Q x) → IfOk r P → IfOk r Q
if_ok (Ok x) P Q f h = f x h
if_ok (Err e) P Q f h = tt

pub err_map : {T E : Type 0} (r : Result T E) (P Q : Type 0) → (P → Q) → OnErr r P → OnErr r Q
err_map (Ok x) P Q f h = tt
err_map (Err e) P Q f h = f h

-- a turn that is no abort needs no reason
pub unaborted_caused : (e : Event) (items : List Item) (v : View) (extension : Extension) (turn : Turn) → IsUnaborted turn → IsCaused e items v extension turn
unaborted_caused e items v extension More h = tt
unaborted_caused e items v extension Ready h = tt
unaborted_caused e items v extension (Ended (Wrote t)) h = tt
unaborted_caused e items v extension (Ended (Read n)) h = tt
unaborted_caused e items v extension (Ended (Cancelled n)) h = tt
unaborted_caused e items v extension (Ended (Locked n p)) h = tt
unaborted_caused e items v extension (Ended (Changed n p t)) h = absurd h

fresh_not : (old new : Extension) → new ≡ old → old.extended ≡ false → new.extended ≡ true → ⊥
fresh_not old new e fresh x = let h : true ≡ false = sym x ∙ (ap (λ (r : Extension). r.extended) e ∙ fresh) in cc

-- an extension that stays tells truly whether the running call has extended
pub keeps_fresh : (w : View) (old new : Extension) (rs now : List PlainReply) → new ≡ old → old.extended ≡ false → KeepsExtension Unstarted w old rs new now
keeps_fresh w old new rs now e fresh = (ap (λ (r : Extension). r.bound) e, λ x. absurd (fresh_not old new e fresh x))

pub keeps_same : (old new : Extension) (rs now : List PlainReply) → new ≡ old → now ≡ rs → (new.bound ≡ old.bound) × (new.extended ≡ true → (old.extended ≡ true) × (now ≡ rs))
keeps_same old new rs now e same = (ap (λ (r : Extension). r.bound) e, λ x. (sym (ap (λ (r : Extension). r.extended) e) ∙ x, same))
