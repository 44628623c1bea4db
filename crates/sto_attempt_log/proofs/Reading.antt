-- The events of a first reading, by what they tell.
use Rattle.std.proofs.Common.{◌≡◌, ◌≢◌, ◌≤◌, ◌<◌, ◌+◌, ◌*◌, ℕ, zero, suc, ℤ, pos, true, false, Bool, nat_eq, nat_le, Option, Some, None, List, [], ◌∷◌, ◌++◌, length, length-append, Result, Ok, Err, OnErr, IsSome, refl, ap, sym, ◌∙◌, subst, arith, inl, inr, slice_index_or}
use Rattle.std.proofs.lemmas.Bool.{cases_Bool}
use Rattle.std.proofs.lemmas.Bool.Decides.{nat_tests}
use mathlib.Core.Option.{some, some-ne-none}
use lib.ListN.{get_elem?}
use Rattle.sto_item.specs.declared.item.Item.{Item}
use Rattle.sto_item.specs.Pending.{Entry as Update}
use Rattle.sto_model.specs.PlainReplies.{PlainReply}
use Rattle.sto_model.specs.Run.{Behaviour}
use Rattle.sto_core.specs.declared.view.Claim.{Claim}
use Rattle.sto_core.specs.declared.view.Finding.{Finding}
use Rattle.sto_core.specs.declared.view.OpenRead.{OpenRead}
use Rattle.sto_core.specs.declared.view.Phase.{Phase}
use Rattle.sto_core.specs.declared.view.Phase.TheVariants as P
use Rattle.sto_core.specs.declared.view.View.{View}
use Rattle.sto_core.specs.Lists.{Among}
use Rattle.sto_core.specs.Versions.{ticket_of, is_free}
use Rattle.sto_core.specs.Views.{holds, width_in}
use Rattle.sto_core.specs.Reads.{Reads, words_read, AllRead}
use Rattle.sto_core.specs.History.{Validity}
use Rattle.sto_core.specs.Event.{Start, Open, Word, Close, after, found, is_own_or_free, claimed, closed_by, read_by, with_read}
use Rattle.sto_core.specs.Allowed.{IsIdle, HasPart, MayRead, MayClose, Allowed}
use Rattle.sto_core.specs.Tells.{Tells, ClaimsFit, Closes}
use Rattle.sto_core.proofs.Lists.{among_snoc, each_snoc}
use Rattle.sto_type.specs.Known.{Parts, Known}
use Rattle.sto_type.specs.Meaning.{Meaning, IsLawful}
use Rattle.sto_attempt_log.specs.declared.read_entry.ReadEntry.{ReadEntry}
use Rattle.sto_attempt_log.specs.declared.extension.Extension.{Extension}
use Rattle.sto_attempt_log.specs.declared.log.Reached.{Reached}
use Rattle.sto_attempt_log.specs.declared.log.Reached.TheVariants.{Needs, Commits, Cancels}
use Rattle.sto_attempt_log.specs.declared.read_phase.ReadPhase.{ReadPhase}
use Rattle.sto_attempt_log.specs.declared.read_phase.ReadPhase.TheVariants as S
use Rattle.sto_attempt_log.specs.declared.verdict.Turn.{Turn}
use Rattle.sto_attempt_log.specs.declared.verdict.Turn.TheVariants.{More, Ready, Ended}
use Rattle.sto_attempt_log.specs.declared.verdict.Verdict.TheVariants.{Read, Cancelled}
use Rattle.sto_attempt_log.specs.ReadSet.{words_in, claim_of, IsClaimed, AreClaimed, AreOnly, AreBelow, ticket_in}
use Rattle.sto_type.specs.Touching.{HasTouched}
use Rattle.sto_attempt_log.specs.Log.{IsLog, IsCache, IsRead}
use Rattle.sto_attempt_log.specs.Answers.{IsPrefix, HasFound, WasLocked, WasChanged}
use Rattle.sto_attempt_log.specs.Reached.{IsReached}
use Rattle.sto_attempt_log.specs.Led.{IsLed}
use Rattle.sto_attempt_log.specs.Standing.{numbered, AreDecided, IsOwn, IsAsOf, Fits, MayGoOn, Turned, IsLeft}
use Rattle.sto_attempt_log.proofs.Touched.{touched_next, touched_there}
use Rattle.sto_attempt_log.proofs.Every.{all_map}
use Rattle.sto_attempt_log.proofs.Claimed.{words_more, ticket_more, ticket_new, part_of_fewer, claimed_still, claimed_more}
use Rattle.sto_item.specs.Observed.{part_of_item}
use Rattle.sto_attempt_log.proofs.Moving.{width_of}
use Rattle.sto_attempt_log.proofs.Numbered.{numbered_more, all_numbered, words_numbered}
use Rattle.sto_attempt_log.proofs.Prefix.{prefix, prefix_on, has_read, has_cancelled}
use Rattle.sto_attempt_log.proofs.Unsettled.{calling, unsettled_calling}
use Rattle.sto_model.specs.Asked.{IsUnsettled}

-- the view of an attempt between two reads, with no word of its log
pub record AtRest (m : Meaning) (valid : Validity) (sizes : List ℕ) (at : ℕ) (v : View) : Type 0 where
  pub own : IsOwn m sizes v
  pub unheld : v.held ≡ []
  pub decided : AreDecided v
  pub draws : 0 < v.draws
  pub number : v.at ≡ at
  pub fit : ClaimsFit valid v
  pub phase : v.phase ≡ P.Reading

pub own_still : (m : Meaning) (sizes : List ℕ) (v w : View) → w.sizes ≡ v.sizes → w.opening ≡ v.opening → IsOwn m sizes v → IsOwn m sizes w
own_still m sizes v w s o h = record { same_sizes = s ∙ h.same_sizes; opening = subst m.valid (sym o) h.opening }

pub idle_reading : (v : View) → v.phase ≡ P.Reading → IsIdle v.phase
idle_reading v e = subst IsIdle (sym e) tt

-- which versions are those of a ticket
pub odd_other : (n s : ℕ) → is_free n ≡ false → nat_eq n (2 * s) ≡ false
odd_other n s e = grind (arith, nat_tests)

pub ticket_other : (n s : ℕ) → ticket_of n ≢ s → nat_eq n (2 * s) ≡ false
ticket_other n s ne = grind (arith, nat_tests)

pub even_same : (n s : ℕ) → is_free n ≡ true → ticket_of n ≡ s → nat_eq n (2 * s) ≡ true
even_same n s e same = grind (arith, nat_tests)

-- the front of a list with one more
pub among_front : {A : Type 0} (l : List A) (y x : A) → Among x l → Among x (l ++ y ∷ [])
among_front l y x h = (h.0, get_front l y h.0 x h.1)
  where
    get_front : {A : Type 0} (l : List A) (y : A) (j : ℕ) (x : A) → get_elem? l j ≡ some x → get_elem? (l ++ y ∷ []) j ≡ some x
    get_front [] y j x e = absurd (some-ne-none x (sym e))
    get_front (z ∷ l) y zero x e = e
    get_front (z ∷ l) y (suc j) x e = get_front l y j x e

-- a part that was read stays so
pub some_more : (base : List ReadEntry) (x : ReadEntry) (p : ℕ) → IsSome (words_in base p) → IsSome (words_in (base ++ x ∷ []) p)
some_more base x p h = by (words_in base p) refl h
  where
    by : (o : Option (List ℤ)) → words_in base p ≡ o → IsSome o → IsSome (words_in (base ++ x ∷ []) p)
    by None e h = cc
    by (Some ws) e h = subst (λ (o : Option (List ℤ)). IsSome o) (sym (words_more base x p ws e)) refl

-- a start
pub start_rests : (m : Meaning) (valid : Validity) (sizes : List ℕ) (is : (d : Parts) → valid sizes d → m.valid d) (passes : ℕ) (v w : View) (n : ℕ) → v.sizes ≡ sizes → 0 < v.draws → Tells valid passes Start v n (pos 0) w → AtRest m valid sizes n w
start_rests m valid sizes is passes v w n sizes_are draws t =
    let begins = t.learns.1 in
    let phase : w.phase ≡ P.Reading = ap (λ (x : View). x.phase) t.after in
    let same : w.sizes ≡ sizes = ap (λ (x : View). x.sizes) t.after ∙ sizes_are in
    let left : w.draws ≡ v.draws = ap (λ (x : View). x.draws) t.after in
    let number : w.at ≡ n = ap (λ (x : View). x.at) t.after in
    record {
      own = record { same_sizes = same; opening = is w.opening (subst (λ (l : List ℕ). valid l w.opening) same begins.opened) };
      unheld = begins.held;
      decided = begins.decided;
      draws = omega (arith, draws, left);
      number = number;
      fit = t.fit;
      phase = phase;
    }

-- where the body's end, or the part that it needs, leads
module _ (m : Meaning) (valid : Validity) (sizes : List ℕ) (f : Behaviour) (at : ℕ) (ws : List ℤ) (base : List ReadEntry) (items : List Item) (es : List Update) (rs : List PlainReply) (v : View)
    (rest : AtRest m valid sizes at v) (claimed : AreClaimed v at base) (only : AreOnly v at base) (below : AreBelow v at) (extension : Extension) (as_of : IsAsOf at extension) (log : IsLog m f (words_in base) items es rs) where
  abbrev To : ReadPhase → Turn → Type 0
  To read_phase turn = Turned m valid sizes f at read_phase ws extension base items es rs v turn

  moved_to : (read_phase read_phase' : ReadPhase) (turn turn' : Turn) → read_phase ≡ read_phase' → turn ≡ turn' → To read_phase' turn' → To read_phase turn
  moved_to read_phase read_phase' turn turn' s t h = subst (λ (x : ReadPhase). To x turn) (sym s) (subst (λ (x : Turn). To read_phase' x) (sym t) h)

  left : IsLeft v
  left = record { idle = idle_reading v rest.phase; unheld = rest.unheld; decided = rest.decided }

  within : at ≤ v.at
  within = omega (arith, rest.number)

  may_go_on : MayGoOn m valid sizes f at ws base es rs v
  may_go_on =
      (record { own = rest.own; unheld = rest.unheld; decided = rest.decided; draws = rest.draws; number = rest.number; claimed = claimed; only = only; below = below; fit = rest.fit; stands = idle_reading v rest.phase; awaits = tt }, rest.phase)

  pub turned : (reached : Reached) (read_phase : ReadPhase) (turn : Turn) → IsReached m f base es rs reached → IsLed at es reached read_phase turn → To read_phase turn
  turned (Needs p) read_phase turn r l =
      moved_to read_phase (S.Opening p) turn More l.0 l.1
      (record { own = rest.own; unheld = rest.unheld; decided = rest.decided; draws = rest.draws; number = rest.number; claimed = claimed; only = only; below = below; fit = rest.fit; stands = rest.phase; awaits = r }, as_of)
  turned Commits read_phase turn r l = elim l [
    | inl none ↦ moved_to read_phase S.Over turn (Ended (Read at)) none.1 none.2 (refl, left, within, ((refl, has_read m f v at base items es rs log claimed none.0 r), may_go_on))
    | inr found ↦
        moved_to read_phase S.Committing turn Ready found.1 found.2
        (record { own = rest.own; unheld = rest.unheld; decided = rest.decided; draws = rest.draws; number = rest.number; claimed = claimed; only = only; below = below; fit = rest.fit; stands = rest.phase; awaits = (r, found.0) }, refl)
  ]
  turned Cancels read_phase turn r l = moved_to read_phase S.Over turn (Ended (Cancelled at)) l.0 l.1 (refl, left, within, (refl, has_cancelled m f v at base items es rs log claimed r))

-- An open of a needed part
module _ (m : Meaning) (valid : Validity) (sizes : List ℕ) (f : Behaviour) (at p : ℕ) (ws : List ℤ) (base : List ReadEntry) (items : List Item) (es : List Update) (rs : List PlainReply) (v w : View) (passes n : ℕ)
    (fits : Fits m valid sizes f at (S.Opening p) ws base es rs v) (log : IsLog m f (words_in base) items es rs) (t : Tells valid passes (Open p) v n (pos 0) w) where
  abbrev u : View
  u = after (Open p) v n (pos 0)

  touched : HasTouched m f rs p
  touched = touched_next m f rs p fits.awaits.by_next

  unsettled : IsUnsettled f rs
  unsettled = unsettled_calling f rs (calling m (f rs) p fits.awaits.by_next)

  runs : IsPrefix m f u at rs
  runs = prefix m f v at base items es rs log fits.claimed

  held_none : holds p v.held ≡ false
  held_none = ap (holds p) fits.unheld

  -- a version that is locked
  stopped : is_free n ≡ false → u.phase ≡ P.Reading
  stopped e = rw e refl

  pub open_within : at ≤ w.at
  open_within = let same : w.at ≡ v.at = ap (λ (x : View). x.at) t.after in omega (arith, same, fits.number)

  pub open_left : u.phase ≡ P.Reading → IsLeft w
  open_left e = subst IsLeft (sym t.after) (record { idle = idle_reading u e; unheld = fits.unheld; decided = fits.decided })

  pub open_locked : is_free n ≡ false → IsLeft w × WasLocked m f w at p rs
  open_locked e =
      let finding : Among (record { start = v.starts; part = p; version = n; held = false }) u.findings =
      subst (λ (b : Bool). Among (record { start = v.starts; part = p; version = n; held = false }) (v.findings ++ record { start = v.starts; part = p; version = n; held = b } ∷ [])) (sym held_none) (among_snoc v.findings (record { start = v.starts; part = p; version = n; held = false })) in
      let h : WasLocked m f u at p rs = record { runs = runs; touched = touched; unsettled = unsettled; found = record { version = n; among = finding; locked = e } } in
      (open_left (stopped e), subst (λ (x : View). WasLocked m f x at p rs) (sym t.after) h)

  -- a free one that is newer
  later : is_free n ≡ true → at < ticket_of n → u.phase ≡ P.Reading
  later e l =
      let over : nat_le (ticket_of n) v.at ≡ false = grind (arith, nat_tests, fits.number) in
      rw (e, over) refl

  -- the ticket that was found wrote the part
  later_wrote : is_free n ≡ true → at < ticket_of n → Among (record { start = w.starts; ticket = ticket_of n; part = p }) w.wrote
  later_wrote e l =
      let own : is_own_or_free v p n ≡ true = rw e refl in
      let same : w.starts ≡ v.starts = ap (λ (x : View). x.starts) t.after in
      subst (λ (k : ℕ). Among (record { start = k; ticket = ticket_of n; part = p }) w.wrote) (sym same) (t.learns.wrote own (omega (arith, l)))

  pub open_renews : is_free n ≡ true → at < ticket_of n → Fits m valid sizes f at (S.Renewing p (ticket_of n)) ws base es rs w
  open_renews e l =
      let wrote : Among (record { start = u.starts; ticket = ticket_of n; part = p }) u.wrote = subst (λ (x : View). Among (record { start = x.starts; ticket = ticket_of n; part = p }) x.wrote) t.after (later_wrote e l) in
      let h : Fits m valid sizes f at (S.Renewing p (ticket_of n)) ws base es rs u = record {
        own = own_still m sizes v u refl refl fits.own;
        unheld = fits.unheld;
        decided = fits.decided;
        draws = fits.draws;
        number = fits.number;
        claimed = claimed_u;
        only = fits.only;
        below = fits.below;
        fit = subst (ClaimsFit valid) t.after t.fit;
        stands = (later e l, l, wrote);
        awaits = fits.awaits;
      } in
      subst (λ (x : View). Fits m valid sizes f at (S.Renewing p (ticket_of n)) ws base es rs x) (sym t.after) h
    where
      claimed_u : AreClaimed u at base
      claimed_u = claimed_still v u at base refl (λ c h. h) fits.claimed

  pub open_changed : is_free n ≡ true → at < ticket_of n → IsLeft w × WasChanged m f w at p (ticket_of n) rs
  open_changed e l =
      let own : is_own_or_free v p n ≡ true = rw e refl in
      let finding : Finding = record { start = v.starts; part = p; version = n; held = holds p v.held } in
      let there : HasFound u p (ticket_of n) = record { finding = finding; among = among_snoc v.findings finding; start = refl; on = refl; is = refl; own = inl e } in (
        open_left (later e l),
        record {
          runs = subst (λ (x : View). IsPrefix m f x at rs) (sym t.after) runs;
          touched = touched;
          unsettled = unsettled;
          found = subst (λ (x : View). HasFound x p (ticket_of n)) (sym t.after) there;
          later = l;
          wrote = later_wrote e l;
        },
      )

  -- a free one that is not
  pub open_goes : is_free n ≡ true → ticket_of n ≤ at → Fits m valid sizes f at (S.Reading p (ticket_of n)) [] base es rs w
  open_goes e l =
      let within : nat_le (ticket_of n) v.at ≡ true = grind (arith, nat_tests, fits.number) in
      let phase : u.phase ≡ P.Looking (record { part = p; ticket = ticket_of n; reads = [] }) = rw (e, within) refl in
      let h : Fits m valid sizes f at (S.Reading p (ticket_of n)) [] base es rs u = record {
        own = own_still m sizes v u refl refl fits.own;
        unheld = fits.unheld;
        decided = fits.decided;
        draws = fits.draws;
        number = fits.number;
        claimed = claimed_u;
        only = fits.only;
        below = fits.below;
        fit = subst (ClaimsFit valid) t.after t.fit;
        stands = (phase, l, omega arith);
        awaits = fits.awaits;
      } in
      subst (λ (x : View). Fits m valid sizes f at (S.Reading p (ticket_of n)) [] base es rs x) (sym t.after) h
    where
      claimed_u : AreClaimed u at base
      claimed_u = claimed_still v u at base refl (λ c h. h) fits.claimed

-- what a part that is needed asks of the view
module _ (m : Meaning) (law : IsLawful m) (valid : Validity) (sizes : List ℕ) (f : Behaviour) (at p : ℕ) (rs : List PlainReply) (v : View) (own : IsOwn m sizes v) (touched : HasTouched m f rs p) where
  pub has_part : HasPart v p
  has_part = touched_there m law f rs p v.opening own.opening touched

  pub width_is : width_in v p ≡ slice_index_or m.widths p 0
  width_is = sym (width_of v.opening p) ∙ ap (λ (l : List ℕ). slice_index_or l p 0) (law.widths v.opening own.opening)

-- A word of an open read
module _ (m : Meaning) (valid : Validity) (sizes : List ℕ) (f : Behaviour) (at p s : ℕ) (ws : List ℤ) (base : List ReadEntry) (items : List Item) (es : List Update) (rs : List PlainReply) (v : View)
    (fits : Fits m valid sizes f at (S.Reading p s) ws base es rs v) where
  abbrev pub the_read : OpenRead
  the_read = record { part = p; ticket = s; reads = numbered 0 ws }

  pub may_read : (law : IsLawful m) → length ws < slice_index_or m.widths p 0 → Allowed valid (Word p (length ws)) v
  may_read law l =
      let touched : HasTouched m f rs p = touched_next m f rs p fits.awaits.by_next in
      let range : HasPart v p = has_part m law valid sizes f at p rs v fits.own touched in
      (subst (MayRead v p) (sym fits.stands.0) refl, (range, omega (arith, l, width_is m law valid sizes f at p rs v fits.own touched)))

  module _ (w : View) (passes n : ℕ) (x : ℤ) (t : Tells valid passes (Word p (length ws)) v n x w) (l : length ws < slice_index_or m.widths p 0) where
    abbrev with_word : View
    with_word = record v { steps = v.steps + 1; phase = P.Looking (with_read the_read (length ws) x) }

    pub word_goes : Fits m valid sizes f at (S.Reading p s) (ws ++ x ∷ []) base es rs w
    word_goes =
        let is : w ≡ with_word = t.after ∙ ap (λ h. read_by h v p (length ws) x) fits.stands.0 in
        let zero_first : 0 + length ws ≡ length ws = omega arith in
        let reads : numbered 0 ws ++ (length ws, x) ∷ [] ≡ numbered 0 (ws ++ x ∷ []) = sym (numbered_more 0 ws x ∙ ap (λ (k : ℕ). numbered 0 ws ++ (k, x) ∷ []) zero_first) in
        let phase : with_word.phase ≡ P.Looking (record { part = p; ticket = s; reads = numbered 0 (ws ++ x ∷ []) }) = ap (λ (r : Reads). P.Looking (record { part = p; ticket = s; reads = r })) reads in
        let claimed : AreClaimed with_word at base = claimed_still v with_word at base refl (λ c h. h) fits.claimed in
        let h : Fits m valid sizes f at (S.Reading p s) (ws ++ x ∷ []) base es rs with_word = record {
          own = own_still m sizes v with_word refl refl fits.own;
          unheld = fits.unheld;
          decided = fits.decided;
          draws = fits.draws;
          number = fits.number;
          claimed = claimed;
          only = fits.only;
          below = fits.below;
          fit = subst (ClaimsFit valid) is t.fit;
          stands = (phase, fits.stands.1, omega (arith, l, length-append ws (x ∷ [])));
          awaits = fits.awaits;
        } in
        subst (λ (y : View). Fits m valid sizes f at (S.Reading p s) (ws ++ x ∷ []) base es rs y) (sym is) h

    pub word_stops : IsLog m f (words_in base) items es rs → IsLeft w × IsPrefix m f w at rs
    word_stops log =
        let is : w ≡ with_word = t.after ∙ ap (λ h. read_by h v p (length ws) x) fits.stands.0 in
        let left : IsLeft with_word = record { idle = tt; unheld = fits.unheld; decided = fits.decided } in
        let runs : IsPrefix m f with_word at rs = prefix m f v at base items es rs log fits.claimed in
        subst (λ (y : View). IsLeft y × IsPrefix m f y at rs) (sym is) (left, runs)

  -- The end of an open read
  pub may_close : (law : IsLawful m) → length ws ≡ slice_index_or m.widths p 0 → Allowed valid (Close p) v
  may_close law l =
      let touched : HasTouched m f rs p = touched_next m f rs p fits.awaits.by_next in
      let long : length ws ≡ width_in v p = l ∙ sym (width_is m law valid sizes f at p rs v fits.own touched) in
      (subst (MayClose v p) (sym fits.stands.0) (refl, subst (AllRead (numbered 0 ws)) long (all_numbered ws)), has_part m law valid sizes f at p rs v fits.own touched)

  module _ (w : View) (passes n : ℕ) (t : Tells valid passes (Close p) v n (pos 0) w) (log : IsLog m f (words_in base) items es rs) where
    abbrev ended : View
    ended = record (claimed (found v p n) v.at the_read n) { phase = P.Reading }

    is_ended : w ≡ ended
    is_ended = t.after ∙ ap (λ h. closed_by h (found v p n) n) fits.stands.0

    touched_part : HasTouched m f rs p
    touched_part = touched_next m f rs p fits.awaits.by_next

    unsettled_here : IsUnsettled f rs
    unsettled_here = unsettled_calling f rs (calling m (f rs) p fits.awaits.by_next)

    runs_on : IsPrefix m f v at rs
    runs_on = prefix m f v at base items es rs log fits.claimed

    -- the version is not the one of the beginning
    abbrev unclaimed : View
    unclaimed = record (found v p n) { phase = P.Reading }

    is_unclaimed : nat_eq n (2 * s) ≡ false → w ≡ unclaimed
    is_unclaimed e = is_ended ∙ (rw e refl)

    left_unclaimed : nat_eq n (2 * s) ≡ false → IsLeft w
    left_unclaimed e = subst IsLeft (sym (is_unclaimed e)) (record { idle = tt; unheld = fits.unheld; decided = fits.decided })

    abbrev claimed_now : View
    claimed_now = record (found v p n) {
      claims = v.claims ++ record { start = v.starts; number = v.at; part = p; ticket = s; words = words_read (numbered 0 ws) (width_in v p) } ∷ [];
      phase = P.Reading;
    }

    is_claimed_now : nat_eq n (2 * s) ≡ true → w ≡ claimed_now
    is_claimed_now e = is_ended ∙ (rw e refl)

    pub close_within : at ≤ w.at
    close_within = elim (cases_Bool (nat_eq n (2 * s))) [
      | inl e ↦ let same : w.at ≡ v.at = ap (λ (x : View). x.at) (is_claimed_now e) in omega (arith, same, fits.number)
      | inr e ↦ let same : w.at ≡ v.at = ap (λ (x : View). x.at) (is_unclaimed e) in omega (arith, same, fits.number)
    ]

    pub close_left : IsLeft w
    close_left = elim (cases_Bool (nat_eq n (2 * s))) [
      | inl e ↦ subst IsLeft (sym (is_claimed_now e)) (record { idle = tt; unheld = fits.unheld; decided = fits.decided })
      | inr e ↦ left_unclaimed e
    ]

    pub close_stops : IsLeft w × IsPrefix m f w at rs
    close_stops = elim (cases_Bool (nat_eq n (2 * s))) [
      | inl e ↦
          let runs : IsPrefix m f claimed_now at rs = prefix_on m f v claimed_now at rs refl (λ c h. among_front v.claims (record { start = v.starts; number = v.at; part = p; ticket = s; words = words_read (numbered 0 ws) (width_in v p) }) c h) runs_on in
          (close_left, subst (λ (y : View). IsPrefix m f y at rs) (sym (is_claimed_now e)) runs)
      | inr e ↦
          let runs : IsPrefix m f unclaimed at rs = runs_on in
          (close_left, subst (λ (y : View). IsPrefix m f y at rs) (sym (is_unclaimed e)) runs)
    ]

    pub close_locked : is_free n ≡ false → IsLeft w × WasLocked m f w at p rs
    close_locked e =
        let other : nat_eq n (2 * s) ≡ false = odd_other n s e in
        let held_none : holds p v.held ≡ false = ap (holds p) fits.unheld in
        let one : Finding = record { start = v.starts; part = p; version = n; held = false } in
        let there : Among one unclaimed.findings =
        subst (λ (b : Bool). Among one (v.findings ++ record { start = v.starts; part = p; version = n; held = b } ∷ [])) (sym held_none) (among_snoc v.findings one) in
        let runs : IsPrefix m f unclaimed at rs = runs_on in
        let h : WasLocked m f unclaimed at p rs = record { runs = runs; touched = touched_part; unsettled = unsettled_here; found = record { version = n; among = there; locked = e } } in
        (left_unclaimed other, subst (λ (y : View). WasLocked m f y at p rs) (sym (is_unclaimed other)) h)

    pub close_changed : is_free n ≡ true → ticket_of n ≢ s → IsLeft w × WasChanged m f w at p (ticket_of n) rs
    close_changed e ne =
        let other : nat_eq n (2 * s) ≡ false = ticket_other n s ne in
        let closes : Closes (P.Looking the_read) v p n = subst (λ (h : Phase). Closes h v p n) fits.stands.0 t.learns.1 in
        let newer : (s < ticket_of n) × (v.at < ticket_of n) = closes.0 e ne in
        let later : at < ticket_of n = omega (arith, newer.1, fits.number) in
        let own : is_own_or_free v p n ≡ true = rw e refl in
        let finding : Finding = record { start = v.starts; part = p; version = n; held = holds p v.held } in
        let there : HasFound unclaimed p (ticket_of n) = record { finding = finding; among = among_snoc v.findings finding; start = refl; on = refl; is = refl; own = inl e } in
        let same : w.starts ≡ v.starts = ap (λ (y : View). y.starts) (is_unclaimed other) in
        let runs : IsPrefix m f unclaimed at rs = runs_on in (
          left_unclaimed other,
          record {
            runs = subst (λ (y : View). IsPrefix m f y at rs) (sym (is_unclaimed other)) runs;
            touched = touched_part;
            unsettled = unsettled_here;
            found = subst (λ (y : View). HasFound y p (ticket_of n)) (sym (is_unclaimed other)) there;
            later = later;
            wrote = subst (λ (k : ℕ). Among (record { start = k; ticket = ticket_of n; part = p }) w.wrote) (sym same) (t.learns.0.wrote own (omega (arith, newer.0)));
          },
        )

    -- it is the same: the part is claimed as of `at`
    module _ (law : IsLawful m) (e : is_free n ≡ true) (same : ticket_of n ≡ s) (long : length ws ≡ slice_index_or m.widths p 0) (x : ReadEntry) (part : x.part ≡ p) (ticket : x.ticket ≡ s) (words : x.words.items ≡ ws) where
      again : nat_eq n (2 * s) ≡ true
      again = even_same n s e same

      abbrev new_claim : Claim
      new_claim = record { start = v.starts; number = v.at; part = p; ticket = s; words = words_read (numbered 0 ws) (width_in v p) }

      abbrev claimed_view : View
      claimed_view = record (found v p n) { claims = v.claims ++ new_claim ∷ []; phase = P.Reading }

      is_claimed : w ≡ claimed_view
      is_claimed = is_ended ∙ (rw again refl)

      pub close_rests : AtRest m valid sizes at w
      close_rests =
          let h : AtRest m valid sizes at claimed_view = record {
            own = own_still m sizes v claimed_view refl refl fits.own;
            unheld = fits.unheld;
            decided = fits.decided;
            draws = fits.draws;
            number = fits.number;
            fit = subst (ClaimsFit valid) is_claimed t.fit;
            phase = refl;
          } in
          subst (λ (y : View). AtRest m valid sizes at y) (sym is_claimed) h

      own_claim : claim_of claimed_view at x ≡ new_claim
      own_claim =
          let width : length ws ≡ width_in v p = long ∙ sym (width_is m law valid sizes f at p rs v fits.own touched_part) in
          let read : words_read (numbered 0 ws) (width_in v p) ≡ ws = ap (words_read (numbered 0 ws)) (sym width) ∙ words_numbered ws in
          λ i. record { start = v.starts; number = sym fits.number i; part = part i; ticket = ticket i; words = (words ∙ sym read) i }

      pub close_claims : AreClaimed w at (base ++ x ∷ [])
      close_claims =
          let there : Among (claim_of claimed_view at x) claimed_view.claims = subst (λ (c : Claim). Among c claimed_view.claims) (sym own_claim) (among_snoc v.claims new_claim) in
          let one : IsClaimed claimed_view at x = record { among = there; early = omega (arith, fits.stands.1, ticket) } in
          let old : AreClaimed claimed_view at base = claimed_still v claimed_view at base refl (λ c h. among_front v.claims new_claim c h) fits.claimed in
          subst (λ (y : View). AreClaimed y at (base ++ x ∷ [])) (sym is_claimed) (claimed_more claimed_view at base x old one)

      pub close_only : AreOnly w at (base ++ x ∷ [])
      close_only =
          let P : Claim → Type 0 = λ c. c.start ≡ v.starts → c.number ≡ at → ticket_in (base ++ x ∷ []) c.part ≡ Some c.ticket in
          let unread : words_in base x.part ≡ None = ap (words_in base) part ∙ fits.awaits.unread in
          let own : ticket_in (base ++ x ∷ []) p ≡ Some s = subst (λ (q : ℕ). ticket_in (base ++ x ∷ []) q ≡ Some s) part (ticket_new base x unread ∙ ap (λ (k : ℕ). Some k) ticket) in
          let all : AreOnly claimed_view at (base ++ x ∷ []) =
          each_snoc P v.claims new_claim (λ j c there start number. ticket_more base x c.part c.ticket (fits.only j c there start number)) (λ start number. own) in
          subst (λ (y : View). AreOnly y at (base ++ x ∷ [])) (sym is_claimed) all

      pub close_below : AreBelow w at
      close_below =
          let P : Claim → Type 0 = λ c. c.start ≡ v.starts → c.number ≤ at in
          let all : AreBelow claimed_view at = each_snoc P v.claims new_claim fits.below (λ start. omega (arith, fits.number)) in
          subst (λ (y : View). AreBelow y at) (sym is_claimed) all

-- after a start the attempt has no claims
pub start_below : (valid : Validity) (passes : ℕ) (v w : View) (n : ℕ) → Tells valid passes Start v n (pos 0) w → AreBelow w n
start_below valid passes v w n t j c there start = absurd (omega (arith, t.learns.1.claims j c there, start))

pub start_only : (valid : Validity) (passes : ℕ) (v w : View) (n : ℕ) → Tells valid passes Start v n (pos 0) w → AreOnly w n []
start_only valid passes v w n t j c there start number = absurd (omega (arith, t.learns.1.claims j c there, start))

-- one more part that was read leaves the log
pub log_wider : (m : Meaning) (f : Behaviour) (base : List ReadEntry) (x : ReadEntry) (items : List Item) (es : List Update) (rs : List PlainReply) → IsLog m f (words_in base) items es rs → IsLog m f (words_in (base ++ x ∷ [])) items es rs
log_wider m f base x items es rs h = record {
  carried = record {
    holds = λ d v p. h.carried.holds d v (part_of_fewer base x d p);
    runs = λ d e v p w a. h.carried.runs d e v (part_of_fewer base x d p) w a;
  };
  read = all_map (IsRead (words_in base)) (IsRead (words_in (base ++ x ∷ []))) (λ i h. some_more base x (part_of_item i) h) items h.read;
  inside = h.inside;
  touched_items = h.touched_items;
  touched_updates = h.touched_updates;
  written = h.written;
}

pub cache_wider : (m : Meaning) (base : List ReadEntry) (x : ReadEntry) (es : List Update) (k : Known) → IsCache m (words_in base) es k → IsCache m (words_in (base ++ x ∷ [])) es k
cache_wider m base x es k h = record {
  above = λ d v p. h.above d v (part_of_fewer base x d p);
  from = λ p known. elim (h.from p known) [
    | inl read ↦ inl (some_more base x p read)
    | inr put ↦ inr put
  ];
  inside = h.inside;
}

pub always_err : {T E : Type 0} (r : Result T E) (P : Type 0) → P → OnErr r P
always_err (Ok x) P p = tt
always_err (Err e) P p = p
