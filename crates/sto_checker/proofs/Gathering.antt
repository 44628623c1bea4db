-- Abort lines with one more, and how they end.
use Rattle.std.proofs.Common.{◌≡◌, ◌⊎◌, ℕ, zero, suc, ◌+◌, ◌<◌, ◌≤◌, List, [], ◌∷◌, ◌++◌, length, take, refl, sym, ap, ◌∙◌, subst, Bool, true, false, cond, Option, None, Some, slice_get, codes, arith, inl, inr}
use Rattle.std.specs.List.{list_any, slice_split, onto_first}
use Rattle.std.specs.Str.{bytes_eq}
use Rattle.std.proofs.lemmas.Slice.Eq.{bytes_eq-Decides}
use Rattle.std.proofs.lemmas.Option.{slice_get_within}
use Rattle.sto_lang.specs.Scripts.{File}
use Rattle.sto_report_spec.specs.Orders.{TransactionPlace as Place}
use Rattle.sto_report_spec.specs.Replay.{shown}
use Rattle.sto_report_spec.specs.Aborts.{LocalPart, Cause, Locked, Changed, Abort}
use Rattle.sto_report_spec.specs.NamedAborts.{aborts_named}
use Rattle.sto_report_spec.specs.LawfulAborts.{IsSorted, count_at, known_by, known_at_end}
use Rattle.sto_journal.specs.Journals.{places}
use Rattle.sto_checker.specs.declared.past.Past.{Past}
use Rattle.sto_checker.specs.declared.last.LastAbort.{LastAbort}
use Rattle.sto_checker.specs.declared.told.ToldAbort.{ToldAbort}
use Rattle.sto_checker.specs.declared.transaction.TransactionPlace.{TransactionPlace}
use Rattle.sto_checker.specs.Lines.{is_line_feed, onto_line, lines_of, HasContent, is_state_line, beyond_state}
use Rattle.sto_checker.specs.Reading.{place_of, known_of, IsCauseRead, IsTold}
use Rattle.sto_checker.specs.Last.{IsLast, IsLastOf, IsFollowed}
use Rattle.sto_checker.specs.Right.{total, order_in, behind, aborts_in, IsRightAlone, IsAbortLine, IsRightBehind}
use Rattle.sto_checker.specs.Answer.{IsRightAt, AreRight, IsWhole, GoesWrong}
use Rattle.sto_checker.specs.Past.{IsPast}
use Rattle.sto_checker.specs.Reached.{AreRead, IsJournalRead, AreObjectsRead}
use Rattle.sto_checker.proofs.Stages.{take_next, length_front, order_stays, abort_right, right_abort, still_none, aborts_grow, state_comes, no_object_yet, none_behind, no_aborts_behind, right_at, right_after, right_more}
use Rattle.sto_checker.proofs.Ends.{no_state}
use Rattle.sto_checker.specs.declared.abort.GivenAbort.{GivenAbort}
use Rattle.sto_checker.specs.Given.{abort_of, cause_by, IsPlaced, IsGiven, TellsAbort, IsHeard}
use Rattle.sto_checker.specs.Gathered.{IsJudged, AreJudged, AreGathered, IsEnded}
use Rattle.sto_checker.proofs.Lists.{push_cases}
use Rattle.sto_checker.proofs.Judged.{right_heard, heard_right}

-- A line is not longer than the bytes.

line_within : (bytes : List ℕ) (i : ℕ) (line : List ℕ) → slice_get (lines_of bytes) i ≡ Some line → length line ≤ length bytes
line_within [] zero line e = absurd cc
line_within [] (suc i) line e = absurd cc
line_within (b ∷ bytes) i line e = by (is_line_feed b) i (lines_of bytes) (λ j l k. line_within bytes j l k) e
  where
    first : (l : List ℕ) → length l ≤ length bytes → Some (b ∷ l) ≡ Some line → length line ≤ length (b ∷ bytes)
    first l k f = let same : b ∷ l ≡ line = cc in let long = ap length same in omega (arith, k, long)

    by : (t : Bool) (i : ℕ) (lines : List (List ℕ)) → ((j : ℕ) (l : List ℕ) → slice_get lines j ≡ Some l → length l ≤ length bytes)
        → slice_get (cond t ((b ∷ []) ∷ lines) (onto_line b lines)) i ≡ Some line → length line ≤ length (b ∷ bytes)
    by true zero lines h f = first [] (omega arith) f
    by true (suc i) lines h f = let k = h i line f in omega (arith, k)
    by false zero [] h f = first [] (omega arith) f
    by false (suc i) [] h f = absurd cc
    by false zero (l ∷ lines) h f = first l (h 0 l refl) f
    by false (suc i) (l ∷ lines) h f = let k = h (suc i) line f in omega (arith, k)

first_within : (p : ℕ → Bool) (bytes first : List ℕ) (rest : List (List ℕ)) → slice_split p bytes ≡ first ∷ rest → length first ≤ length bytes
first_within p [] first rest e = let same : [] ≡ first = cc in let long = ap length same in omega (arith, long)
first_within p (b ∷ bytes) first rest e = by (p b) (slice_split p bytes) (λ l ls k. first_within p bytes l ls k) e
  where
    by : (t : Bool) (parts : List (List ℕ)) → ((l : List ℕ) (ls : List (List ℕ)) → parts ≡ l ∷ ls → length l ≤ length bytes) → cond t ([] ∷ parts) (onto_first b parts) ≡ first ∷ rest
        → length first ≤ length (b ∷ bytes)
    by true parts h f = let same : [] ≡ first = cc in let long = ap length same in omega (arith, long)
    by false [] h f = let same : b ∷ [] ≡ first = cc in let long = ap length same in omega (arith, long)
    by false (part ∷ parts) h f = let same : b ∷ part ≡ first = cc in let long = ap length same in let k = h part parts refl in omega (arith, long, k)

pub content_within : (bytes : List ℕ) (i : ℕ) (line content : List ℕ) → slice_get (lines_of bytes) i ≡ Some line → HasContent line content → length content ≤ length bytes
content_within bytes i line content e (inl k) = let l = line_within bytes i line e in let m = first_within is_line_feed line content ([] ∷ []) k in omega (arith, l, m)
content_within bytes i line content e (inr k) = let l = line_within bytes i line e in let m = first_within is_line_feed line content [] k in omega (arith, l, m)

-- what an attempt that was read knew of at its end
known_read_by : (c : Cause) (seen : ℕ) (told : ToldAbort) → IsCauseRead c told.cause → seen ≡ told.seen → known_by c seen ≡ known_of told.cause.by told.seen
known_read_by (Locked part) seen told h s = s ∙ ap (λ (o : Option ℕ). known_of o told.seen) (sym h.2)
known_read_by (Changed part by) seen told h s = ap (λ (o : Option ℕ). known_of o told.seen) (sym h.2)

known_read : (a : Abort) (told : ToldAbort) → IsTold a told → known_at_end a ≡ known_of told.cause.by told.seen
known_read a told t = known_read_by a.cause a.seen told t.cause t.seen

known_made : (part : LocalPart) (o : Option ℕ) (seen : ℕ) → known_by (cause_by part o) seen ≡ known_of o seen
known_made part None seen = refl
known_made part (Some by) seen = refl

-- the last of the abort lines that were read, where all of them are right
abbrev pub IsLastRead : File → ℕ → List (List ℕ) → ℕ → Option LastAbort → Type 0
IsLastRead file tries lines read last = AreRight file tries lines read → IsLastOf tries (aborts_in file (take read lines)) last

fewer : {P : ℕ → Type 0} (n m : ℕ) → n ≤ m → ((place : ℕ) → place < m → P place) → (place : ℕ) → place < n → P place
fewer n m l h place k = h place (omega (arith, l, k))

state_line : (line : List ℕ) → is_state_line line ≡ true → line ≡ codes "state\n"
state_line line e = (bytes_eq-Decides line (codes "state\n")).0 e

module _ (file : File) (tries : ℕ) (lines : List (List ℕ)) (order : List Place) where
  -- none yet
  pub none_gathered : (read : ℕ) → read ≡ total file → read ≤ length lines → order ≡ order_in file (take read lines) → AreGathered file tries lines order [] read
  none_gathered read e within named =
      let long : length (take read lines) ≡ total file = length_front lines read within ∙ e in
      record {
        judged = λ place given k. absurd (nothing place given k);
        count = omega (arith, e);
        within = within;
        named = named;
        none = none_behind file tries (take read lines) [] long;
      }
    where
      nothing : (i : ℕ) (g : GivenAbort) → slice_get [] i ≡ Some g → ⊥
      nothing zero g e = absurd cc
      nothing (suc i) g e = absurd cc

  pub no_last : (read : ℕ) → read ≡ total file → read ≤ length lines → IsLastRead file tries lines read None
  no_last read e within right = no_aborts_behind file tries (take read lines) [] (length_front lines read within ∙ e)

  module _ (aborts : List GivenAbort) (read : ℕ) (h : AreGathered file tries lines order aborts read) where
    abbrev front : List (List ℕ)
    front = take read lines

    long : length front ≡ read
    long = length_front lines read h.within

    past : total file ≤ length front
    past = let c = h.count in omega (arith, long, c)

    -- the report ends there
    pub ends_there : length lines ≡ read → AreRight file tries lines read → GoesWrong file tries lines read
    ends_there e right = inr (sym e, no_state file tries lines read e h.none)

    module _ (line : List ℕ) (stands : slice_get lines read ≡ Some line) where
      here : read < length lines
      here = slice_get_within lines read line stands

      next : take (read + 1) lines ≡ front ++ line ∷ []
      next = take_next lines read line stands

      -- the line `state` comes
      pub state_there : (kept : Past) → IsPast file kept → places kept.run.lines.items ≡ order → is_state_line line ≡ true → AreRight file tries lines read → AreObjectsRead file tries lines kept (read + 1) 0
      state_there kept is placed state_true right = record {
        journal = record {
          lines_are = record {
            past = is;
            order = placed ∙ h.named ∙ sym (order_stays file tries front line past) ∙ ap (order_in file) (sym next);
            right = right_more file tries lines read right (right_at file tries lines read line stands (abort_right file tries front line past h.none (inl (state_line line state_true))));
            within = omega (arith, here);
          };
          all = let c = h.count in omega (arith, c);
        };
        state = ap (λ (l : List (List ℕ)). list_any is_state_line (behind file l)) next ∙ state_comes file tries front line past h.none state_true;
        count = ap (λ (l : List (List ℕ)). length (beyond_state (behind file l))) next ∙ no_object_yet file tries front line past h.none;
      }

      -- a right line is an abort line
      module _ (state_false : is_state_line line ≡ false) where
        abort_line : IsRightAt file tries lines read → IsAbortLine file tries order (aborts_in file front) line
        abort_line at = by (right_abort file tries front line past h.none (right_after file tries lines read line stands at))
          where
            by : (line ≡ codes "state\n") ⊎ IsAbortLine file tries (order_in file front) (aborts_in file front) line → IsAbortLine file tries order (aborts_in file front) line
            by (inl e) = absurd (let state_true = (bytes_eq-Decides line (codes "state\n")).1 e in let clash : true ≡ false = sym state_true ∙ state_false in cc)
            by (inr k) = subst (λ (o : List Place). IsAbortLine file tries o (aborts_in file front) line) (sym h.named) k

        right_line : IsAbortLine file tries order (aborts_in file front) line → IsRightAt file tries lines read
        right_line k =
            right_at file tries lines read line stands
            (abort_right file tries front line past h.none (inr (subst (λ (o : List Place). IsAbortLine file tries o (aborts_in file front) line) h.named k)))

        -- the line goes wrong by itself
        pub wrong_there : ((t : ℕ) (before : List Abort) → IsAbortLine file t order before line → ⊥) → AreRight file tries lines read → GoesWrong file tries lines read
        wrong_there wrong right = inl (here, λ at. wrong tries (aborts_in file front) (abort_line at))

        module _ (given : GivenAbort) (text : given.text.now ≡ line) (is : IsGiven file order given) (tells : TellsAbort file order line given.told) (last : Option LastAbort) (read_last : IsLastRead file tries lines read last) where
          told : (k : IsAbortLine file tries order (aborts_in file front) line) → IsTold k.abort given.told
          told k = tells k.abort k.named k.right.alone

          -- or by its place among the others
          pub unfollowed : ((before : List Abort) (a : Abort) → IsLastOf tries before last → a.place ≡ place_of given.told.place → a.seen ≡ given.told.seen → known_at_end a ≡ known_of given.told.cause.by given.told.seen → IsFollowed before a tries None)
              → AreRight file tries lines read → GoesWrong file tries lines read
          unfollowed none right =
              inl (here, λ at. (let k = abort_line at in let t = told k in none (aborts_in file front) k.abort (read_last right) t.place t.seen (known_read k.abort given.told t) k.right.few k.right.handed k.right.sorted))

          -- one more is gathered
          module _ (more : LastAbort) (follows : (before : List Abort) (a : Abort) → IsLastOf tries before last → a.place ≡ place_of given.told.place → a.seen ≡ given.told.seen → known_at_end a ≡ known_of given.told.cause.by given.told.seen → IsFollowed before a tries (Some more)) where
            judged : IsJudged file tries lines order read given
            judged = record {
              given_is = is;
              right = λ right heard.
                  let f = follows (aborts_in file front) (abort_of file (shown file order given.told.seen) given.told) (read_last right) refl refl (known_made (record { object = given.told.cause.object.now; part = given.told.cause.part }) given.told.cause.by given.told.seen) in
                  right_line (subst (IsAbortLine file tries order (aborts_in file front)) text (heard_right file order given tries (aborts_in file front) is heard f.0 f.2.handed f.1));
              heard = λ right at. right_heard file order given tries (aborts_in file front) line text is.placed tells (abort_line at);
            }

            pub gathered_more : AreGathered file tries lines order (aborts ++ given ∷ []) (read + 1)
            gathered_more = record {
              judged = λ place other k. by place other (push_cases aborts given place other k);
              count = let c = h.count in let l = longer aborts given in omega (arith, c, l);
              within = omega (arith, here);
              named = h.named ∙ sym (order_stays file tries front line past) ∙ ap (order_in file) (sym next);
              none = ap (λ (l : List (List ℕ)). list_any is_state_line (behind file l)) next ∙ still_none file tries front line past h.none state_false;
            }
              where
                longer : (xs : List GivenAbort) (x : GivenAbort) → length (xs ++ x ∷ []) ≡ suc (length xs)
                longer [] x = refl
                longer (y ∷ xs) x = ap suc (longer xs x)

                by : (place : ℕ) (other : GivenAbort) → (slice_get aborts place ≡ Some other) ⊎ ((place ≡ length aborts) × (other ≡ given)) → IsJudged file tries lines order (total file + place) other
                by place other (inl k) = h.judged place other k
                by place other (inr k) =
                    let there : read ≡ total file + place = h.count ∙ ap (λ (n : ℕ). total file + n) (sym k.0) in
                    subst (λ (n : ℕ). IsJudged file tries lines order n other) there (subst (IsJudged file tries lines order read) (sym k.1) judged)

            pub last_more : IsLastRead file tries lines (read + 1) (Some more)
            last_more right =
                let before : AreRight file tries lines read = fewer read (read + 1) (omega arith) right in
                let k = abort_line (right read (omega arith)) in
                let t = told k in
                let f = follows (aborts_in file front) k.abort (read_last before) t.place t.seen (known_read k.abort given.told t) in
                subst (λ (listed : List Abort). IsLast tries listed more)
                (sym (ap (aborts_in file) next ∙ aborts_grow file tries front line past h.none state_false ∙ ap (λ (listed : List Abort). aborts_in file front ++ listed) k.named)) f.2
