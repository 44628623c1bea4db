-- What a transaction hears first, and what an abort line tells of it.
use Rattle.std.proofs.Common.{◌≡◌, ◌↔◌, ℕ, zero, suc, ◌-◌, ◌<◌, ◌≤◌, List, [], ◌∷◌, ◌++◌, length, map, take, refl, sym, ap, ◌∙◌, subst, Option, None, Some, Bool, true, is_some, IsTrue, Result, Ok, Err, IfOk, slice_get, arith}
use Rattle.std.specs.Option.{option_map}
use Rattle.std.proofs.lemmas.List.{length-map, map-append}
use Rattle.std.proofs.lemmas.Option.{slice_get-map}
use Rattle.sto_model.specs.PlainReplies.{PlainReply, plain_reply}
use Rattle.sto_model.specs.SequentialObjects.{SequentialObject, reply_to, state_after}
use Rattle.sto_model.specs.Objects.{machines_of}
use Rattle.sto_model.specs.Run.{Behaviour, State, IsAsk}
use Rattle.sto_model.specs.Serial.{by_next, ended, heard, run_within, serial_run_of}
use Rattle.sto_model.specs.declared.body.Next.{Next}
use Rattle.sto_model.specs.declared.body.Next.TheVariants.{Ask, Commit, Cancel}
use Rattle.sto_model.specs.declared.reply.Reply.{Reply}
use Rattle.sto_model.specs.declared.run.End.TheVariants as E
use Rattle.sto_model.specs.declared.shape.Shape.{Shape}
use Rattle.sto_lang.specs.declared.file.Decl.{Decl}
use Rattle.sto_lang.specs.declared.file.File as code
use Rattle.sto_lang.specs.declared.file.Script.{Script as Text}
use Rattle.sto_lang.specs.declared.file.Thread.{Thread}
use Rattle.sto_lang.specs.Objects.{Declaration, shapes_of, with_number}
use Rattle.sto_lang.specs.Scripts.{Script, File}
use Rattle.sto_lang.specs.Sound.{IsSound}
use Rattle.sto_lang.specs.Views.{file as view, script, declaration}
use Rattle.sto_script.specs.Meaning.{meaning_of}
use Rattle.sto_report_spec.specs.LawfulAborts.{declared_as}
use Rattle.sto_report_spec.specs.Orders.{TransactionPlace, transaction_at}
use Rattle.sto_report_spec.specs.Replay.{machines_for, script_run}
use Rattle.sto_report_spec.specs.Report.{abort_text}
use Rattle.sto_report_spec.specs.Aborts.{LocalPart, Cause, Locked, Changed, Abort}
use Rattle.sto_report_spec.specs.NamedAborts.{aborts_named}
use Rattle.sto_report_spec.specs.Short.{IsShortAbort}
use Rattle.sto_journal.specs.declared.journal.Cause as lines
use Rattle.sto_journal.specs.Journals.{cause, home_in}
use Rattle.sto_checker.specs.Heard.{AreHeard}
use Rattle.sto_checker.proofs.Places.{at_place, length-threads}
use Rattle.sto_checker.specs.Shown.{IsInside}
use Rattle.sto_checker.proofs.Declared.{part_named, is_declared}
use Rattle.sto_checker.proofs.Kept.{is_inside}
use Rattle.sto_checker.specs.Reading.{place_of}
use Rattle.sto_checker.specs.declared.abort.GivenAbort.{GivenAbort}
use Rattle.sto_checker.specs.Given.{cause_by, cause_in, hears, abort_of, TellsCause, IsPlaced, MayBeAborted, IsHeard}
use Rattle.sto_checker.proofs.Judged.{front_taken, front_long, same_script, same_object, made}
use Rattle.sto_checker.proofs.Named.{text_names}

-- all that it hears was kept
module _ (all_told : List PlainReply) (all : List Reply) (count : ℕ) (kept : map plain_reply all ≡ all_told) where
  long : length all_told ≡ length all
  long = sym (ap length kept) ∙ length-map all plain_reply

  pub too_few : length all < count → length all_told < count
  too_few l = omega (arith, l, long)

  -- and the first of it are these
  pub first_heard : (replies others : List Reply) → all ≡ replies ++ others → length replies ≡ count → (count ≤ length all_told) × (map plain_reply replies ≡ take count all_told)
  first_heard replies others e l =
      let split : all_told ≡ map plain_reply replies ++ map plain_reply others = sym kept ∙ ap (map plain_reply) e ∙ map-append plain_reply replies others in
      let count_is : length (map plain_reply replies) ≡ count = length-map replies plain_reply ∙ l in (
        front_long count (map plain_reply replies) (map plain_reply others) all_told split count_is,
        sym (front_taken count (map plain_reply replies) (map plain_reply others) all_told split count_is),
      )

-- what a transaction hears answers its calls, and so does the first of it
heard_within : (ms : List SequentialObject) (n : ℕ) (f : Behaviour) (st : State) → AreHeard f (run_within ms n f st).replies
heard_within ms zero f st = by (f [])
  where
    by : (z : Next) → AreHeard f (by_next z (λ call. ended st E.Commit) (ended st)).replies
    by (Ask call) = tt
    by Commit = tt
    by Cancel = tt
heard_within ms (suc n) f st = by (f []) refl (λ r s. heard_within ms n (λ rs. f (r ∷ rs)) s)
  where
    by : (z : Next) → f [] ≡ z → ((r : PlainReply) (s : State) → AreHeard (λ rs. f (r ∷ rs)) (run_within ms n (λ rs. f (r ∷ rs)) s).replies)
        → AreHeard f (by_next z (λ call. heard (reply_to ms call st) (run_within ms n (λ rs. f (reply_to ms call st ∷ rs)) (state_after ms call st))) (ended st)).replies
    by (Ask call) e more = (subst IsAsk (sym e) tt, more (reply_to ms call st) (state_after ms call st))
    by Commit e more = tt
    by Cancel e more = tt

heard_first : (n : ℕ) (f : Behaviour) (rs : List PlainReply) → AreHeard f rs → AreHeard f (take n rs)
heard_first zero f [] h = tt
heard_first zero f (r ∷ rs) h = tt
heard_first (suc n) f [] h = tt
heard_first (suc n) f (r ∷ rs) h = (h.0, heard_first n (λ xs. f (r ∷ xs)) rs h.1)

-- what a transaction hears from a state
abbrev pub heard_from : List Shape → Script → State → List PlainReply
heard_from shapes s st = (serial_run_of (machines_of shapes) s.weight (meaning_of s) st).replies

pub heard_all : (shapes : List Shape) (s : Script) (st : State) (n : ℕ) → AreHeard (meaning_of s) (take n (heard_from shapes s st))
heard_all shapes s st n = heard_first n (meaning_of s) (heard_from shapes s st) (heard_within (machines_of shapes) s.weight (meaning_of s) st)

-- An abort line whose transaction and object are these.

module _ (file : File) (shapes : List Shape) (st : State) (given : GivenAbort) (s : Script) (d : Declaration) (shapes_are : shapes ≡ shapes_of file.declarations)
    (at : transaction_at file (place_of given.told.place) ≡ Some s) (stands : slice_get file.declarations given.object ≡ Some d) where
  hears_is : heard_from shapes s st ≡ hears file st given.told
  hears_is = ap (λ (ss : List Shape). heard_from ss s st) shapes_are ∙ ap (λ (o : Option Script). (script_run (machines_for file) st o).replies) (sym at)

  pub not_enough : length (heard_from shapes s st) < given.told.heard → IsHeard file st given → ⊥
  not_enough l h = let e = h.enough in let same = ap length hears_is in omega (arith, l, e, same)

  module _ (replies : List PlainReply) (enough : given.told.heard ≤ length (heard_from shapes s st)) (first : replies ≡ take given.told.heard (heard_from shapes s st)) where
    replies_are : replies ≡ take given.told.heard (hears file st given.told)
    replies_are = first ∙ ap (take given.told.heard) hears_is

    may_abort_in : IsHeard file st given → MayBeAborted d.number (meaning_of s) replies
    may_abort_in h =
        subst (MayBeAborted d.number (meaning_of s)) (sym replies_are)
        (subst (λ (x : Script). MayBeAborted d.number (meaning_of x) (take given.told.heard (hears file st given.told))) (same_script h.script s (sym h.transaction ∙ at))
        (subst (λ (x : Declaration). MayBeAborted x.number (meaning_of h.script) (take given.told.heard (hears file st given.told))) (same_object h.object d (sym h.stands ∙ stands)) h.may_abort))

    pub not_aborted : (MayBeAborted d.number (meaning_of s) replies → ⊥) → IsHeard file st given → ⊥
    not_aborted n h = n (may_abort_in h)

    -- its text decides
    pub heard_by_text : (c : Cause) → c ≡ cause_in given.told.cause → IsSound file → MayBeAborted d.number (meaning_of s) replies → IsShortAbort file.names (made (place_of given.told.place) given.told.seen replies c)
        → given.text.now ≡ abort_text file.names (made (place_of given.told.place) given.told.seen replies c) ↔ IsHeard file st given
    heard_by_text c same sound may_abort short =
        let place : TransactionPlace = place_of given.told.place in
        let seen : ℕ = given.told.seen in
        let a : Abort = made place seen replies c in
        let is : a ≡ abort_of file st given.told = ap (λ (rs : List PlainReply). made place seen rs c) replies_are ∙ ap (made place seen (take given.told.heard (hears file st given.told))) same in (
          (λ text. record {
            script = s;
            object = d;
            transaction = at;
            stands = stands;
            enough = subst (λ (rs : List PlainReply). given.told.heard ≤ length rs) hears_is enough;
            may_abort = subst (MayBeAborted d.number (meaning_of s)) replies_are may_abort;
            named =
                ap (aborts_named file.names) text
                ∙ text_names file.names a (record { each = sound.thread_names.are_names; differ = sound.thread_names.differ }) short
                ∙ ap (λ (x : Abort). x ∷ []) is;
            text = text ∙ ap (abort_text file.names) is;
          }),
          (λ h. h.text ∙ sym (ap (abort_text file.names) is)),
        )

pub decided : {T : Type 0} (r : Result Bool T) (P Q S : Type 0) → (S → P ↔ Q) → IfOk r (λ yes. IsTrue yes ↔ P) → IfOk r (λ yes. S) → IfOk r (λ yes. IsTrue yes ↔ Q)
decided (Ok y) P Q S f h short = ((λ t. (f short).0 (h.0 t)), (λ q. h.1 ((f short).1 q)))
decided (Err e) P Q S f h short = tt

-- As the code reaches it.

module _ (file : code.File) (given : GivenAbort) (placed : IsPlaced (view file) given) where
  abbrev at : TransactionPlace
  at = place_of given.told.place

  inside : IsInside (view file).threads at
  inside = is_inside (view file) at placed.script placed.transaction

  pub thread_inside : given.told.place.thread < length file.threads.items
  thread_inside = let l = inside.thread in let k = length-threads file.threads.items in omega (arith, l, k)

  pub first_position : 1 ≤ given.told.place.position
  first_position = inside.first

  pub script_at : (thread : Thread) (s : Text) → slice_get file.threads.items given.told.place.thread ≡ Some thread → slice_get thread.scripts.items (given.told.place.position - 1) ≡ Some s
      → transaction_at (view file) (place_of given.told.place) ≡ Some (script s)
  script_at thread s e f =
      let next : given.told.place.position ≡ suc (given.told.place.position - 1) = let l = inside.first in omega (arith, l) in
      at_place file given.told.place.thread given.told.place.position (given.told.place.position - 1) thread s next e f

  module _ (decl : Decl) (e : slice_get file.decls.items given.object ≡ Some decl) where
    pub object_at : slice_get (view file).declarations given.object ≡ Some (declaration decl)
    object_at = slice_get-map declaration file.decls.items given.object ∙ ap (option_map declaration) e

    declared : declared_as given.told.cause.object.now (view file).declarations ≡ Some (declaration decl)
    declared = placed.declared ∙ sym placed.stands ∙ object_at

    module _ (sound : IsSound (view file)) where
      named : (o : Option ℕ) (c : lines.Cause) → TellsCause given.told.cause.part decl.number o c → cause (view file).declarations c ≡ cause_by (record { object = given.told.cause.object.now; part = given.told.cause.part }) o
      named None c is = ap (cause (view file).declarations) is ∙ ap Locked (part_named (view file).declarations sound.own_numbers given.told.cause.object.now (declaration decl) declared given.told.cause.part)
      named (Some by) c is =
          ap (cause (view file).declarations) is
          ∙ ap (λ (p : LocalPart). Changed p by) (part_named (view file).declarations sound.own_numbers given.told.cause.object.now (declaration decl) declared given.told.cause.part)

      pub cause_named : (c : lines.Cause) → TellsCause given.told.cause.part decl.number given.told.cause.by c → cause (view file).declarations c ≡ cause_in given.told.cause
      cause_named c is = named given.told.cause.by c is

      is_home : (o : Option ℕ) (c : lines.Cause) → TellsCause given.told.cause.part decl.number o c → (home_in c).object ≡ decl.number
      is_home None c is = ap (λ (x : lines.Cause). (home_in x).object) is
      is_home (Some by) c is = ap (λ (x : lines.Cause). (home_in x).object) is

      pub home_declared : (c : lines.Cause) → TellsCause given.told.cause.part decl.number given.told.cause.by c → is_some (with_number (home_in c).object (view file).declarations) ≡ true
      home_declared c is =
          ap (λ (n : ℕ). is_some (with_number n (view file).declarations)) (is_home given.told.cause.by c is)
          ∙ is_declared (view file).declarations sound.own_numbers given.told.cause.object.now (declaration decl) declared
