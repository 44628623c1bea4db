-- The end of a test: its part is claimed, or the commit gives up.
use Rattle.std.proofs.Common.{◌≡◌, ◌≢◌, ◌≤◌, ◌<◌, ◌+◌, ◌*◌, ℕ, zero, suc, ℤ, true, false, Bool, nat_eq, nat_le, if◌then◌else◌, Option, Some, None, List, [], ◌∷◌, ◌++◌, length, take, drop, refl, ap, sym, ◌∙◌, subst, arith, inl, inr, slice_index_or, slice_get, eq-eqb, eqb-true}
use Rattle.std.proofs.lemmas.Bool.{cases_Bool}
use Rattle.std.proofs.lemmas.Bool.Decides.{nat_tests}
use Rattle.std.specs.List.{Contains}
use Rattle.sto_part.specs.Listed.{Listed}
use Rattle.sto_part.specs.declared.pred.Pred.{Pred}
use Rattle.sto_item.specs.declared.item.Item.TheVariants.{Holds}
use Rattle.sto_core.specs.declared.view.Claim.{Claim}
use Rattle.sto_core.specs.declared.view.Finding.{Finding}
use Rattle.sto_core.specs.declared.view.OpenRead.{OpenRead}
use Rattle.sto_core.specs.declared.view.Phase.{Phase}
use Rattle.sto_core.specs.declared.view.Phase.TheVariants as P
use Rattle.sto_core.specs.declared.view.View.{View}
use Rattle.sto_core.specs.Lists.{Each, Among}
use Rattle.sto_core.specs.Versions.{ticket_of, is_free}
use Rattle.sto_core.specs.Reads.{AllRead}
use Rattle.sto_core.specs.Views.{holds, width_in, any_claim, last_claim, no_claim, is_recent}
use Rattle.sto_core.specs.Event.{Close, found, claimed, closed_by, is_own_or_free}
use Rattle.sto_core.specs.Allowed.{Allowed, MayClose}
use Rattle.sto_core.specs.Tells.{Tells, ClaimsFit, Closes}
use Rattle.sto_core.proofs.Lists.{among_snoc, each_snoc}
use Rattle.sto_type.specs.Meaning.{IsLawful}
use Rattle.sto_attempt_log.specs.declared.commit_phase.FoundTicket.{FoundTicket}
use Rattle.sto_attempt_log.specs.declared.commit_phase.LoadedWord.{LoadedWord}
use Rattle.sto_attempt_log.specs.declared.verdict.Verdict.{Verdict}
use Rattle.sto_attempt_log.specs.declared.verdict.Verdict.TheVariants.{Locked, Changed}
use Rattle.sto_attempt_log.specs.Every.{AllOf}
use Rattle.sto_type.specs.Touching.{HasTouched}
use Rattle.sto_attempt_log.specs.ReadSet.{words_in, ticket_in, claim_of, IsTrueIn, HasClaims}
use Rattle.sto_attempt_log.specs.CommitPhases.{Deal, task, ticket_from, reads_of, IsDone, IsTrueOn, WasFound, IsLeaving, IsLoadingAt, IsTestedWord, words_loaded, due, HasSpace, SpaceAt, IsAim}
use Rattle.sto_attempt_log.proofs.Every.{all_contained}
use Rattle.sto_attempt_log.proofs.Prefix.{prefix}
use Rattle.sto_attempt_log.proofs.Reading.{own_still, among_front}
use Rattle.sto_attempt_log.proofs.Ticketing.{held_written}
use Rattle.sto_attempt_log.proofs.Leaving.{Sealed, sealed_still, some_update}
use Rattle.sto_attempt_log.proofs.Locking.{found_still, wrote_kept}
use Rattle.sto_attempt_log.proofs.Loading.{before_below}
use Rattle.std.proofs.lemmas.Option.{slice_get-get_or}
use Rattle.sto_type.proofs.Answering.{take_get}
use Rattle.sto_type.specs.Known.{Parts}
use Rattle.sto_part.specs.Parts.{part_of}
use Rattle.sto_item.specs.Pending.{Entry as Update}
use Rattle.sto_attempt_log.specs.declared.commit_phase.CommitPhase.{CommitPhase}
use Rattle.sto_attempt_log.specs.declared.commit_phase.CommitPhase.TheVariants as S
use Rattle.sto_attempt_log.proofs.Claimed.{claimed_still, claims_fit, part_of_claims, claimed_words}
use Rattle.sto_attempt_log.proofs.Drawing.{were_true}
use Rattle.sto_attempt_log.proofs.Observing.{WasTrue}
use Rattle.sto_attempt_log.specs.Reasons.{WasReadUnder, IsByPredicate, IsByTest}
use Rattle.sto_attempt_log.proofs.SeenParts.{loaded_unseen}
use Rattle.sto_attempt_log.proofs.Unheld.{task_loaded, task_touched, task_read_entry, task_read, part_there, part_wide}
use Rattle.sto_attempt_log.proofs.Unsettled.{unsettled_sealed}

pub odd_version : (n s : ℕ) → is_free n ≡ false → nat_eq n (2 * s) ≡ false
odd_version n s e = grind (arith, nat_tests)

pub other_version : (n s : ℕ) → ticket_of n ≢ s → nat_eq n (2 * s) ≡ false
other_version n s ne = grind (arith, nat_tests)

pub same_version : (n s : ℕ) → is_free n ≡ true → ticket_of n ≡ s → nat_eq n (2 * s) ≡ true
same_version n s e same = grind (arith, nat_tests)

last_other : (f : Claim → Bool) (b : Claim) (cs : List Claim) (c : Claim) → f c ≡ false → last_claim f b (cs ++ c ∷ []) ≡ last_claim f b cs
last_other f b [] c e = rw e refl
last_other f b (x ∷ cs) c e = last_other f (if f x then x else b) cs c e

last_own : (f : Claim → Bool) (b : Claim) (cs : List Claim) (c : Claim) → f c ≡ true → last_claim f b (cs ++ c ∷ []) ≡ c
last_own f b [] c e = rw e refl
last_own f b (x ∷ cs) c e = last_own f (if f x then x else b) cs c e

any_front : (f : Claim → Bool) (cs : List Claim) (c : Claim) → any_claim f cs ≡ true → any_claim f (cs ++ c ∷ []) ≡ true
any_front f [] c e = cc
any_front f (x ∷ cs) c e = elim (cases_Bool (f x)) [
  | inl hit ↦ rw hit refl
  | inr miss ↦ rw miss (any_front f cs c (rw miss at e))
]

any_own : (f : Claim → Bool) (cs : List Claim) (c : Claim) → f c ≡ true → any_claim f (cs ++ c ∷ []) ≡ true
any_own f [] c e = rw e refl
any_own f (x ∷ cs) c e = elim (cases_Bool (f x)) [
  | inl hit ↦ rw hit refl
  | inr miss ↦ rw miss (any_own f cs c e)
]

module _ (d : Deal) (law : IsLawful d.m) (n i t : ℕ) (found_tickets : Listed FoundTicket) (loaded_words : List LoadedWord) (v : View) (h : IsTestedWord d n i t found_tickets loaded_words v) (all : slice_index_or d.m.widths (task d n) 0 ≤ i) where
  abbrev r : ℕ
  r = task d n

  abbrev o : OpenRead
  o = record { part = r; ticket = t; reads = reads_of loaded_words r }

  touched : HasTouched d.m d.f d.rs r
  touched = task_touched d law n v h.going.sealed h.going.planned h.below h.unwritten

  unheld : holds r v.held ≡ false
  unheld = sym (held_written d.us v r (record { held = h.holding.held })) ∙ h.unwritten

  whole : AllRead (reads_of loaded_words r) (width_in v r)
  whole = subst (AllRead (reads_of loaded_words r)) width h.words
    where
      width : i ≡ width_in v r
      width = omega (arith, all, h.within, part_wide d law n v h.going.sealed h.going.planned h.below h.unwritten)

  pub end_unheld : holds (task d n) v.held ≡ false
  end_unheld = unheld

  pub may_end : Allowed d.valid (Close (task d n)) v
  may_end = (subst (MayClose v r) (sym h.phase) (refl, whole), part_there d law n v h.going.sealed h.going.planned h.below h.unwritten)

  module _ (w : View) (passes m : ℕ) (x : ℤ) (tells : Tells d.valid passes (Close (task d n)) v m x w) where
    is_closed : w ≡ record (claimed (found v r m) t o m) { phase = P.Locking }
    is_closed = tells.after ∙ ap (λ (k : Phase). closed_by k (found v r m) m) h.phase

    learned : Closes (P.Testing o) v r m
    learned = subst (λ (k : Phase). Closes k v r m) h.phase tells.learns.1

    abbrev one : Claim
    one = record { start = v.starts; number = t; part = r; ticket = t; words = words_loaded loaded_words v r }

    -- it found another version
    module _ (other : nat_eq m (2 * t) ≡ false) where
      abbrev left : View
      left = record (found v r m) { phase = P.Locking }

      is_left : w ≡ left
      is_left = is_closed ∙ ap (λ (b : Bool). record (if b then record (found v r m) { claims = v.claims ++ one ∷ [] } else found v r m) { phase = P.Locking }) other

      sealed_left : Sealed d left
      sealed_left = sealed_still d v left refl refl refl refl refl (subst (ClaimsFit d.valid) is_left tells.fit) h.going.sealed

      pub end_locked : is_free m ≡ false → IsLeaving d 0 (length d.us) (Locked d.at (task d n)) w
      end_locked busy =
          let it : Finding = record { start = v.starts; part = r; version = m; held = false } in
          let there : Among it left.findings =
          subst (λ (b : Bool). Among it (v.findings ++ record { start = v.starts; part = r; version = m; held = b } ∷ [])) (sym unheld) (among_snoc v.findings it) in
          let is : IsLeaving d 0 (length d.us) (Locked d.at r) left = record {
            below = (some_update d h.going.sealed.some, omega arith);
            sealed = sealed_left;
            phase = inl refl;
            holding = record { held = h.holding.held };
            planned = h.going.planned;
            decided = h.going.decided;
            ends = (
              refl,
              record {
                runs = prefix d.m d.f left d.at d.base d.items d.us d.rs sealed_left.log sealed_left.claimed;
                touched = touched;
                unsettled = unsettled_sealed d.m d.valid d.sizes d.f d.at d.base d.items d.us d.rs v h.going.sealed;
                found = record { version = m; among = there; locked = busy };
              },
            );
          } in
          subst (λ (y : View). IsLeaving d 0 (length d.us) (Locked d.at r) y) (sym is_left) is

      pub end_newer : is_free m ≡ true → ticket_of m ≢ t → IsLeaving d 0 (length d.us) (Changed d.at (task d n) (ticket_of m)) w
      end_newer free differs =
          let own : is_own_or_free v r m ≡ true = rw free refl in
          let finding : Finding = record { start = v.starts; part = r; version = m; held = holds r v.held } in
          let late : d.at < ticket_of m = let l = learned.0 free differs in omega (arith, l.1, h.going.sealed.number) in
          let is : IsLeaving d 0 (length d.us) (Changed d.at r (ticket_of m)) left = record {
            below = (some_update d h.going.sealed.some, omega arith);
            sealed = sealed_left;
            phase = inl refl;
            holding = record { held = h.holding.held };
            planned = h.going.planned;
            decided = h.going.decided;
            ends = (
              refl,
              record {
                runs = prefix d.m d.f left d.at d.base d.items d.us d.rs sealed_left.log sealed_left.claimed;
                touched = touched;
                unsettled = unsettled_sealed d.m d.valid d.sizes d.f d.at d.base d.items d.us d.rs v h.going.sealed;
                found = record { finding = finding; among = among_snoc v.findings finding; start = refl; on = refl; is = refl; own = inl free };
                later = late;
                wrote = subst (λ (y : View). Among (record { start = v.starts; ticket = ticket_of m; part = r }) y.wrote) is_left (tells.learns.0.wrote own (omega (arith, late)));
              },
            );
          } in
          subst (λ (y : View). IsLeaving d 0 (length d.us) (Changed d.at r (ticket_of m)) y) (sym is_left) is

      pub newer_reason : ticket_of m ≢ t → IsByTest d.items w (task d n) (ticket_of m)
      newer_reason differs =
          let k = found_still v left refl (λ z a. among_front v.findings _ z a) (wrote_kept v r m) r t h.known in
          let it : IsByTest d.items left (task d n) (ticket_of m) = record { unseen = loaded_unseen d h.going.planned r (task_loaded d law n v h.going.sealed h.going.planned h.below h.unwritten); before = t; found = k.found; other = λ e. differs (sym e) } in
          subst (λ (y : View). IsByTest d.items y (task d n) (ticket_of m)) (sym is_left) it

    -- it found the version of its beginning
    module _ (again : nat_eq m (2 * t) ≡ true) where
      abbrev made : View
      made = record (found v r m) { phase = P.Locking; claims = v.claims ++ one ∷ [] }

      is_made : w ≡ made
      is_made = is_closed ∙ ap (λ (b : Bool). record (if b then record (found v r m) { claims = v.claims ++ one ∷ [] } else found v r m) { phase = P.Locking }) again

      sealed_made : Sealed d made
      sealed_made =
          let old = h.going.sealed in
          record {
            own = own_still d.m d.sizes v made refl refl old.own;
            number = old.number;
            claimed = claimed_still v made d.at d.base refl (λ c a. among_front v.claims one c a) old.claimed;
            only = each_snoc (λ (c : Claim). c.start ≡ v.starts → c.number ≡ d.at → ticket_in d.base c.part ≡ Some c.ticket) v.claims one old.only (λ start number. h.early (omega (arith, number)));
            fit = subst (ClaimsFit d.valid) is_made tells.fit;
            log = old.log;
            ends = old.ends;
            some = old.some;
          }

      known_made : (p s : ℕ) → WasFound v p s → WasFound made p s
      known_made p s k = found_still v made refl (λ z a. among_front v.findings _ z a) (wrote_kept v r m) p s k

      recent : is_recent v r one ≡ true
      recent = rw (eq-eqb r r refl, eq-eqb v.starts v.starts refl) refl

      done_made : Each (IsDone d found_tickets.items loaded_words made) (take n d.tasks)
      done_made = λ j q e.
          let below : q < r = before_below d.tasks n h.going.planned.tasks_rise h.below j q e in
          one_of q (apart q below) (h.done j q e)
        where
          apart : (q : ℕ) → q < r → nat_eq r q ≡ false
          apart q l = grind (arith, nat_tests, l)

          one_of : (q : ℕ) → nat_eq r q ≡ false → IsDone d found_tickets.items loaded_words v q → IsDone d found_tickets.items loaded_words made q
          one_of q other was =
              let not : is_recent v q one ≡ false = rw other refl in
              let last : last_claim (is_recent v q) no_claim (v.claims ++ one ∷ []) ≡ last_claim (is_recent v q) no_claim v.claims = last_other (is_recent v q) no_claim v.claims one not in
              record {
                read = was.read;
                tested = λ free. let old = was.tested free in (any_front (is_recent v q) v.claims one old.0, ap (λ (c : Claim). c.words) last ∙ old.1, ap (λ (c : Claim). c.ticket) last ∙ old.2, old.3, known_made q (ticket_from 0 found_tickets.items q) old.4);
                true_on = was.true_on;
              }

      pub end_done : AllOf (IsTrueOn (task d n) (words_loaded loaded_words v (task d n))) d.items → (next : ℕ) → next ≡ suc n → IsLoadingAt d next found_tickets loaded_words w
      end_done true_all next to =
          let last : last_claim (is_recent v r) no_claim (v.claims ++ one ∷ []) ≡ one = last_own (is_recent v r) no_claim v.claims one recent in
          let this : IsDone d found_tickets.items loaded_words made r = record {
            read = whole;
            tested = λ free. (any_own (is_recent v r) v.claims one recent, ap (λ (c : Claim). c.words) last, ap (λ (c : Claim). c.ticket) last ∙ sym h.ticket, λ s e. subst (λ (k : ℕ). s ≤ k) (sym h.ticket) (h.not_before s e), subst (λ (k : ℕ). WasFound made r k) (sym h.ticket) (known_made r t h.known));
            true_on = λ unseen. true_all;
          } in
          let at : slice_get d.tasks n ≡ Some r = slice_get-get_or d.tasks n 0 h.below in
          let it : IsLoadingAt d (suc n) found_tickets loaded_words made = record {
            going = record { sealed = sealed_made; planned = h.going.planned; draws = h.going.draws; decided = h.going.decided };
            phase = refl;
            holding = record { held = h.holding.held };
            found = record { tickets = h.found.tickets; reads = h.found.reads; known = λ j y e. known_made y.part y.ticket (h.found.known j y e) };
            room = h.room;
            done = subst (λ (l : List ℕ). Each (IsDone d found_tickets.items loaded_words made) l) (sym (take_get d.tasks n r at)) (each_snoc (IsDone d found_tickets.items loaded_words made) (take n d.tasks) r done_made this);
            same = h.same;
            fresh = h.fresh;
          } in
          subst (λ (k : ℕ). IsLoadingAt d k found_tickets loaded_words w) (sym to) (subst (λ (y : View). IsLoadingAt d (suc n) found_tickets loaded_words y) (sym is_made) it)

      module _ (here : (c : Parts) → d.valid v.sizes c → d.m.valid c) (q : Pred) (there : Contains d.items (Holds q)) (on : q.part ≡ task d n) (fails : IsTrueIn (words_loaded loaded_words v (task d n)) q → ⊥) where
        not_early : t ≤ d.at → ⊥
        not_early early =
            let old = h.going.sealed in
            let s = task_read_entry d law n v old h.going.planned h.below h.unwritten in
            let k = task_read d law n v old h.going.planned h.below h.unwritten in
            let c : (y : Parts) × d.valid v.sizes y × HasClaims v d.at y = claims_fit d.valid v d.at old.fit in
            let ok : d.m.valid c.0 = here c.0 c.1 in
            let part = part_of_claims v d.at d.base c.0 old.claimed c.2 in
            let known : (y : ℕ) (ws : List ℤ) → words_in d.base y ≡ Some ws → part_of c.0 y ≡ ws = λ y ws e. claimed_words v d.at d.base c.0 y ws old.claimed c.2 e in
            let were : AllOf (WasTrue (words_in d.base)) d.items = were_true d.m (words_in d.base) d.items c.0 known (old.log.carried.holds c.0 ok part) in
            let read_q : words_in d.base q.part ≡ Some k.0 = subst (λ (y : ℕ). words_in d.base y ≡ Some k.0) (sym on) k.1 in
            let true_of : IsTrueIn k.0 q = all_contained (WasTrue (words_in d.base)) d.items (Holds q) there were k.0 read_q in
            let same : words_loaded loaded_words v r ≡ s.0.words.items = learned.1 (eqb-true m (2 * t) again) s.1.among.0 (claim_of v d.at s.0) s.1.among.1 s.2 early in
            fails (subst (λ (ws : List ℤ). IsTrueIn ws q) (sym (same ∙ s.3)) true_of)

        later : d.at < t
        later = elim (cases_Bool (nat_le t d.at)) [
          | inl low ↦ absurd (not_early (below_is low))
          | inr high ↦ above_is high
        ]
          where
            below_is : nat_le t d.at ≡ true → t ≤ d.at
            below_is e = grind (arith, nat_tests, e)

            above_is : nat_le t d.at ≡ false → d.at < t
            above_is e = grind (arith, nat_tests, e)

        pub fails_reason : IsByPredicate d.items w (task d n) t
        fails_reason =
            let claimed : WasReadUnder made r t (words_loaded loaded_words v r) = record { claim = one; among = among_snoc v.claims one; start = refl; on = refl; with_ticket = refl; with_words = refl } in
            let it : IsByPredicate d.items made r t =
            record { unseen = loaded_unseen d h.going.planned r (task_loaded d law n v h.going.sealed h.going.planned h.below h.unwritten); pred = q; among = there; on = on; words = words_loaded loaded_words v r; were_read = inl claimed; fails = fails } in
            subst (λ (y : View). IsByPredicate d.items y (task d n) t) (sym is_made) it

        pub end_fails : IsLeaving d 0 (length d.us) (Changed d.at (task d n) t) w
        end_fails =
            let k : WasFound made r t = known_made r t h.known in
            let it : IsLeaving d 0 (length d.us) (Changed d.at r t) made = record {
              below = (some_update d h.going.sealed.some, omega arith);
              sealed = sealed_made;
              phase = inl refl;
              holding = record { held = h.holding.held };
              planned = h.going.planned;
              decided = h.going.decided;
              ends = (
                refl,
                record {
                  runs = prefix d.m d.f made d.at d.base d.items d.us d.rs sealed_made.log sealed_made.claimed;
                  touched = touched;
                  unsettled = unsettled_sealed d.m d.valid d.sizes d.f d.at d.base d.items d.us d.rs v h.going.sealed;
                  found = k.found;
                  later = later;
                  wrote = k.wrote (omega (arith, later));
                },
              );
            } in
            subst (λ (y : View). IsLeaving d 0 (length d.us) (Changed d.at (task d n) t) y) (sym is_made) it

-- room after a test
due_at : (widths tasks : List ℕ) (n : ℕ) → n < length tasks → due widths (drop n tasks) ≡ slice_index_or widths (slice_index_or tasks n 0) 0 + due widths (drop (suc n) tasks)
due_at widths [] n l = absurd (omega (arith, l))
due_at widths (x ∷ tasks) zero l = refl
due_at widths (x ∷ tasks) (suc n) l = due_at widths tasks n (omega (arith, l))

pub space_ended : (widths tasks : List ℕ) (n i : ℕ) (loaded_words : Listed LoadedWord) → HasSpace widths tasks n i loaded_words → n < length tasks → i ≤ slice_index_or widths (slice_index_or tasks n 0) 0
    → (us : List Update) (next : ℕ) → next ≡ suc n → (commit_phase : CommitPhase) → IsAim us tasks next commit_phase → SpaceAt widths tasks loaded_words commit_phase
space_ended widths tasks n i loaded_words h below within us next is commit_phase a = aimed_by next (subst (λ (k : ℕ). HasSpace widths tasks k 0 loaded_words) (sym is) after_it) commit_phase a
  where
    all_due : due widths (drop n tasks) ≡ slice_index_or widths (slice_index_or tasks n 0) 0 + due widths (drop (suc n) tasks)
    all_due = due_at widths tasks n below

    after_it : HasSpace widths tasks (suc n) 0 loaded_words
    after_it = record { few = omega (arith, h.few, all_due, within); spare = omega (arith, h.spare, all_due, within) }

    aimed_by : (k : ℕ) → HasSpace widths tasks k 0 loaded_words → (commit_phase : CommitPhase) → IsAim us tasks k commit_phase → SpaceAt widths tasks loaded_words commit_phase
    aimed_by k s S.Drawing a = tt
    aimed_by k s (S.Loading m j) a = subst (λ (q : ℕ). HasSpace widths tasks q j loaded_words) (sym a.0) (subst (λ (q : ℕ). HasSpace widths tasks k q loaded_words) (sym a.1) s)
    aimed_by k s (S.Testing m) a = subst (λ (q : ℕ). HasSpace widths tasks q 0 loaded_words) (sym a.0) s
    aimed_by k s (S.Tested m j t) a = absurd a
    aimed_by k s (S.Locking m) a = absurd a
    aimed_by k s (S.Checking m t) a = tt
    aimed_by k s (S.Deciding t) a = tt
    aimed_by k s (S.Putting m t) a = tt
    aimed_by k s (S.Releasing m t) a = tt
    aimed_by k s (S.Dropping t verdict) a = tt
    aimed_by k s (S.Leaving m e verdict) a = tt
    aimed_by k s S.Over a = tt

pub space_begun : (widths tasks : List ℕ) (loaded_words : Listed LoadedWord) → HasSpace widths tasks 0 0 loaded_words → (us : List Update) (commit_phase : CommitPhase) → IsAim us tasks 0 commit_phase → SpaceAt widths tasks loaded_words commit_phase
space_begun widths tasks loaded_words s us S.Drawing a = tt
space_begun widths tasks loaded_words s us (S.Loading m j) a = subst (λ (q : ℕ). HasSpace widths tasks q j loaded_words) (sym a.0) (subst (λ (q : ℕ). HasSpace widths tasks 0 q loaded_words) (sym a.1) s)
space_begun widths tasks loaded_words s us (S.Testing m) a = subst (λ (q : ℕ). HasSpace widths tasks q 0 loaded_words) (sym a.0) s
space_begun widths tasks loaded_words s us (S.Tested m j t) a = absurd a
space_begun widths tasks loaded_words s us (S.Locking m) a = absurd a
space_begun widths tasks loaded_words s us (S.Checking m t) a = tt
space_begun widths tasks loaded_words s us (S.Deciding t) a = tt
space_begun widths tasks loaded_words s us (S.Putting m t) a = tt
space_begun widths tasks loaded_words s us (S.Releasing m t) a = tt
space_begun widths tasks loaded_words s us (S.Dropping t verdict) a = tt
space_begun widths tasks loaded_words s us (S.Leaving m e verdict) a = tt
space_begun widths tasks loaded_words s us S.Over a = tt

pub space_left : (widths tasks : List ℕ) (loaded_words : Listed LoadedWord) (n : ℕ) (verdict : Verdict) (commit_phase : CommitPhase) (result : Option Verdict)
    → (n ≡ 0 → (result ≡ Some verdict) × (commit_phase ≡ S.Over)) → (0 < n → (result ≡ None) × (commit_phase ≡ S.Leaving 0 n verdict)) → SpaceAt widths tasks loaded_words commit_phase
space_left widths tasks loaded_words zero verdict commit_phase result over more = let o = over refl in subst (λ (x : CommitPhase). SpaceAt widths tasks loaded_words x) (sym o.1) tt
space_left widths tasks loaded_words (suc n) verdict commit_phase result over more = let o = more (omega arith) in subst (λ (x : CommitPhase). SpaceAt widths tasks loaded_words x) (sym o.1) tt
