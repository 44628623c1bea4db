-- An abort line is right where all but its replies is, and its attempt heard these.
use Rattle.std.proofs.Common.{◌≡◌, ℕ, zero, suc, ◌<◌, ◌≤◌, List, [], ◌∷◌, ◌++◌, length, take, drop, refl, sym, ap, ◌∙◌, subst, Option, None, Some, slice_get, arith}
use Rattle.sto_model.specs.PlainReplies.{PlainReply}
use Rattle.sto_model.specs.Run.{State}
use Rattle.sto_model.specs.Sizes.{part_count}
use Rattle.sto_lang.specs.Objects.{Declaration}
use Rattle.sto_lang.specs.Scripts.{Script, File}
use Rattle.sto_script.specs.Meaning.{meaning_of}
use Rattle.sto_report_spec.specs.Orders.{TransactionPlace, transaction_at}
use Rattle.sto_report_spec.specs.Replay.{entries_of, run_at, shown}
use Rattle.sto_report_spec.specs.Report.{abort_text}
use Rattle.sto_report_spec.specs.Aborts.{LocalPart, Cause, Locked, Changed, Abort, part_in}
use Rattle.sto_report_spec.specs.NamedAborts.{aborts_named}
use Rattle.sto_report_spec.specs.LawfulAborts.{IsFront, IsBefore, IsAfterOwn, IsSorted, HandsBack, count_at, declared_as, IsPartAsked}
use Rattle.sto_checker.specs.declared.told.ToldCause.{ToldCause}
use Rattle.sto_checker.specs.declared.told.ToldAbort.{ToldAbort}
use Rattle.sto_checker.specs.Reading.{place_of, IsCauseRead, IsTold}
use Rattle.sto_checker.specs.Right.{IsCauseOf, IsWrittenBy, IsRightAlone, IsAbortLine}
use Rattle.sto_checker.specs.declared.abort.GivenAbort.{GivenAbort}
use Rattle.sto_checker.specs.Given.{cause_by, cause_in, hears, abort_of, IsWriterOr, IsPlaced, IsGiven, TellsAbort, MayBeAborted, IsHeard}

pub part_by : (part : LocalPart) (o : Option ℕ) → part_in (cause_by part o) ≡ part
part_by part None = refl
part_by part (Some by) = refl

pub same_object : (a b : Declaration) → Some a ≡ Some b → a ≡ b
same_object a b e = cc

pub same_script : (a b : Script) → Some a ≡ Some b → a ≡ b
same_script a b e = cc

pub front_taken : (n : ℕ) (front others all : List PlainReply) → all ≡ front ++ others → length front ≡ n → take n all ≡ front
front_taken n front others all e l = ap (take n) e ∙ by n front others l
  where
    by : (n : ℕ) (front others : List PlainReply) → length front ≡ n → take n (front ++ others) ≡ front
    by zero [] others l = refl
    by (suc n) [] others l = absurd (omega (arith, l))
    by zero (x ∷ front) others l = absurd (omega (arith, l))
    by (suc n) (x ∷ front) others l = ap (λ (rs : List PlainReply). x ∷ rs) (by n front others (omega (arith, l)))

pub front_long : (n : ℕ) (front others all : List PlainReply) → all ≡ front ++ others → length front ≡ n → n ≤ length all
front_long n front others all e l = let all_is = ap length e in let long = both front others in omega (arith, all_is, long, l)
  where
    both : (xs ys : List PlainReply) → length xs ≤ length (xs ++ ys)
    both [] ys = omega arith
    both (x ∷ xs) ys = let h = both xs ys in omega (arith, h)

take_drop : (n : ℕ) (all : List PlainReply) → all ≡ take n all ++ drop n all
take_drop zero [] = refl
take_drop (suc n) [] = refl
take_drop zero (x ∷ all) = refl
take_drop (suc n) (x ∷ all) = ap (λ (rs : List PlainReply). x ∷ rs) (take_drop n all)

pub cause_is : (c : Cause) (t : ToldCause) → IsCauseRead c t → c ≡ cause_in t
cause_is (Locked part) t h =
    ap (λ (n : List ℕ). Locked (record { object = n; part = part.part })) (sym h.0)
    ∙ ap (λ (p : ℕ). Locked (record { object = t.object.now; part = p })) (sym h.1)
    ∙ ap (cause_by (record { object = t.object.now; part = t.part })) (sym h.2)
cause_is (Changed part by) t h =
    ap (λ (n : List ℕ). Changed (record { object = n; part = part.part }) by) (sym h.0)
    ∙ ap (λ (p : ℕ). Changed (record { object = t.object.now; part = p }) by) (sym h.1)
    ∙ ap (cause_by (record { object = t.object.now; part = t.part })) (sym h.2)

abbrev pub made : TransactionPlace → ℕ → List PlainReply → Cause → Abort
made place seen replies cause = record { place = place; seen = seen; replies = replies; cause = cause }

module _ (file : File) (order : List TransactionPlace) (given : GivenAbort) where
  abbrev seen_state : State
  seen_state = shown file order given.told.seen

  abbrev all_heard : List PlainReply
  all_heard = hears file seen_state given.told

  -- the attempt that a right line tells is the one that was read
  module _ (a : Abort) (told : IsTold a given.told) (alone : IsRightAlone file order a) where
    replies_at : (run_at file (shown file order a.seen) a.place).replies ≡ all_heard
    replies_at = ap (λ (n : ℕ). (run_at file (shown file order n) a.place).replies) told.seen ∙ ap (λ (p : TransactionPlace). (run_at file seen_state p).replies) told.place

    front : IsFront a.replies all_heard
    front = (alone.replies.0, sym replies_at ∙ alone.replies.1)

    pub enough : given.told.heard ≤ length all_heard
    enough = front_long given.told.heard a.replies front.0 all_heard front.1 told.heard

    pub abort_is : a ≡ abort_of file seen_state given.told
    abort_is =
        ap (λ (p : TransactionPlace). made p a.seen a.replies a.cause) told.place
        ∙ ap (λ (n : ℕ). made (place_of given.told.place) n a.replies a.cause) told.seen
        ∙ ap (λ (rs : List PlainReply). made (place_of given.told.place) given.told.seen rs a.cause) (sym (front_taken given.told.heard a.replies front.0 all_heard front.1 told.heard))
        ∙ ap (made (place_of given.told.place) given.told.seen (take given.told.heard all_heard)) (cause_is a.cause given.told.cause told.cause)

  -- a right line was heard
  pub right_heard : (tries : ℕ) (before : List Abort) (line : List ℕ) → given.text.now ≡ line → IsPlaced file given → TellsAbort file order line given.told → IsAbortLine file tries order before line → IsHeard file seen_state given
  right_heard tries before line text placed tells h =
      let a = h.abort in
      let alone = h.right.alone in
      let told : IsTold a given.told = tells a h.named alone in
      let is : a ≡ abort_of file seen_state given.told = abort_is a told alone in
      let object_named : declared_as given.told.cause.object.now file.declarations ≡ Some alone.object =
      ap (λ (p : LocalPart). declared_as p.object file.declarations) (sym (ap (λ (x : Abort). part_in x.cause) is ∙ part_by (record { object = given.told.cause.object.now; part = given.told.cause.part }) given.told.cause.by))
      ∙ alone.part.declared in
      let same : placed.object ≡ alone.object = same_object placed.object alone.object (sym placed.declared ∙ object_named) in
      record {
        script = alone.script;
        object = alone.object;
        transaction = ap (transaction_at file) (sym told.place) ∙ alone.transaction;
        stands = placed.stands ∙ ap Some same;
        enough = enough a told alone;
        may_abort = subst (λ (x : Abort). MayBeAborted alone.object.number (meaning_of alone.script) x.replies) is (alone.part.asked, alone.unsettled);
        named = ap (aborts_named file.names) text ∙ h.named ∙ ap (λ (x : Abort). x ∷ []) is;
        text = text ∙ h.text ∙ ap (abort_text file.names) is;
      }

  cause_right : (object : Declaration) (o : Option ℕ) (part : LocalPart) → IsWriterOr file order given.told object.number o → IsCauseOf file order (abort_of file seen_state given.told) object (cause_by part o)
  cause_right object None part h = tt
  cause_right object (Some by) part h = h

  -- and a line that was heard is right
  pub heard_right : (tries : ℕ) (before : List Abort) → IsGiven file order given → IsHeard file seen_state given
      → count_at (place_of given.told.place) (before ++ abort_of file seen_state given.told ∷ []) ≤ tries → HandsBack tries (before ++ abort_of file seen_state given.told ∷ [])
      → IsSorted (before ++ abort_of file seen_state given.told ∷ [])
      → IsAbortLine file tries order before given.text.now
  heard_right tries before g h few handed sorted =
      let part : LocalPart = record { object = given.told.cause.object.now; part = given.told.cause.part } in
      let same : g.placed.object ≡ h.object = same_object g.placed.object h.object (sym g.placed.stands ∙ h.stands) in
      let part_is : part_in (cause_in given.told.cause) ≡ part = part_by part given.told.cause.by in
      record {
        abort = abort_of file seen_state given.told;
        named = h.named;
        right = record {
          alone = record {
            script = h.script;
            object = h.object;
            transaction = h.transaction;
            replies = (drop given.told.heard all_heard, take_drop given.told.heard all_heard);
            after_own = g.after_own;
            earlier = g.earlier;
            unsettled = h.may_abort.1;
            part = subst (λ (p : LocalPart). IsPartAsked file h.script (take given.told.heard all_heard) p h.object) (sym part_is) (record {
              declared = g.placed.declared ∙ ap Some same;
              inside = subst (λ (d : Declaration). given.told.cause.part < part_count d.shape) same g.placed.inside;
              asked = h.may_abort.0;
            });
            cause = cause_right h.object given.told.cause.by part (subst (λ (d : Declaration). IsWriterOr file order given.told d.number given.told.cause.by) same g.cause);
          };
          few = few;
          handed = handed;
          sorted = sorted;
        };
        text = h.text;
      }
