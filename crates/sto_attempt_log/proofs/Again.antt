-- The steps of an extension: the recheck of a part that was seen, and the new read of one with predicates.
use Rattle.std.proofs.Common.{◌≡◌, ◌≢◌, ◌≤◌, ◌<◌, ◌+◌, ◌*◌, ℕ, zero, suc, ℤ, pos, true, false, Bool, nat_eq, nat_le, Option, Some, None, IsSome, List, [], ◌∷◌, ◌++◌, length, length-append, refl, ap, sym, ◌∙◌, subst, arith, inl, inr, slice_index_or, eqb-true}
use Rattle.std.proofs.lemmas.Bool.{cases_Bool}
use Rattle.std.proofs.lemmas.Bool.Decides.{nat_tests}
use Rattle.std.proofs.lemmas.List.{length-map}
use Rattle.std.specs.List.{Contains, slice_get}
use Rattle.sto_part.specs.declared.pred.Pred.{Pred}
use Rattle.sto_item.specs.declared.item.Item.{Item}
use Rattle.sto_item.specs.Observed.{Watched, IsObserved, watch_at, sees, preds_on, parts_of_items}
use Rattle.sto_item.specs.Pending.{Entry as Update}
use Rattle.sto_model.specs.PlainReplies.{PlainReply}
use Rattle.sto_model.specs.Run.{Behaviour}
use Rattle.sto_core.specs.declared.view.Claim.{Claim}
use Rattle.sto_core.specs.declared.view.Finding.{Finding}
use Rattle.sto_core.specs.declared.view.OpenRead.{OpenRead}
use Rattle.sto_core.specs.declared.view.Phase.{Phase}
use Rattle.sto_core.specs.declared.view.Phase.TheVariants as P
use Rattle.sto_core.specs.declared.view.View.{View}
use Rattle.sto_core.specs.Lists.{Among}
use Rattle.sto_core.specs.Versions.{ticket_of, is_free}
use Rattle.sto_core.specs.Views.{holds, width_in}
use Rattle.sto_core.specs.Reads.{Reads, words_read, AllRead}
use Rattle.sto_core.specs.History.{Validity}
use Rattle.sto_core.specs.Event.{Recheck, Open, Word, Close, after, found, is_own_or_free, claimed, closed_by, read_by, with_read}
use Rattle.sto_core.specs.Allowed.{IsIdle, HasPart, MayRead, MayClose, Allowed}
use Rattle.sto_core.specs.Tells.{Tells, ClaimsFit, Closes}
use Rattle.sto_core.proofs.Lists.{among_snoc}
use Rattle.sto_type.specs.Known.{Parts, Known, IsPartOf}
use Rattle.sto_type.specs.Meaning.{Meaning, IsLawful}
use Rattle.sto_attempt_log.specs.declared.read_entry.ReadEntry.{ReadEntry}
use Rattle.sto_type.specs.Touching.{HasTouched}
use Rattle.sto_attempt_log.specs.ReadSet.{words_in, claim_of, IsClaimed, AreClaimed, AllTrueIn}
use Rattle.sto_attempt_log.specs.Log.{IsLog}
use Rattle.sto_attempt_log.specs.Answers.{IsPrefix, HasFound, WasLocked, WasChanged}
use Rattle.sto_attempt_log.specs.Standing.{numbered, Spans, IsRenewed, IsNext, IsLeft}
use Rattle.sto_attempt_log.proofs.Claimed.{words_new}
use Rattle.sto_attempt_log.proofs.Touched.{touched_range}
use Rattle.sto_attempt_log.proofs.Numbered.{numbered_more, all_numbered, words_numbered}
use Rattle.sto_attempt_log.specs.Reasons.{WasReadUnder}
use Rattle.sto_attempt_log.proofs.Prefix.{prefix, prefix_on, some_contents}
use Rattle.sto_attempt_log.proofs.Drawing.{read_entry_of}
use Rattle.sto_attempt_log.proofs.Reading.{odd_other, ticket_other, even_same, idle_reading, among_front, has_part, width_is}
use Rattle.sto_attempt_log.proofs.Renewing.{recheck_locked, recheck_changed, recheck_left, recheck_keeps, recheck_number}
use Rattle.sto_attempt_log.proofs.Anew.{next_observed, next_is, next_unread, renewed_more, watch_read, watch_touched, watch_true}
use Rattle.sto_attempt_log.proofs.Spanning.{spans_quiet, spans_more, rests, may_recheck, recheck_spans}
use Rattle.sto_model.specs.Asked.{IsUnsettled}

-- a part that was read is claimed
pub claimed_in : (v : View) (number : ℕ) (ss : List ReadEntry) (s : ReadEntry) → Contains ss s → AreClaimed v number ss → IsClaimed v number s
claimed_in v number ss s c a = by ss c.0 c.1 c.2 a
  where
    by : (ss : List ReadEntry) (k : ℕ) → k < length ss → slice_index_or ss k s ≡ s → AreClaimed v number ss → IsClaimed v number s
    by [] k l e a = absurd (omega (arith, l))
    by (x ∷ ss) zero l e a = subst (λ (y : ReadEntry). IsClaimed v number y) e a.0
    by (x ∷ ss) (suc k) l e a = by ss k (omega (arith, l)) e a.1

-- so is a copy of it
pub claimed_as : (v : View) (number : ℕ) (s x : ReadEntry) → x.part ≡ s.part → x.ticket ≡ s.ticket → x.words.items ≡ s.words.items → IsClaimed v number s → IsClaimed v number x
claimed_as v number s x part ticket words c =
    let same : claim_of v number s ≡ claim_of v number x = λ i. record { start = v.starts; number = number; part = sym part i; ticket = sym ticket i; words = sym words i } in
    record { among = subst (λ (d : Claim). Among d v.claims) same c.among; early = omega (arith, ticket, c.early) }

not_early : (s at : ℕ) → (s ≤ at → ⊥) → at < s
not_early s at late = grind arith

pub some_none : (o : Option (List ℤ)) → IsSome o → o ≡ None → ⊥
some_none None h e = cc
some_none (Some ws) h e = cc

module _ (m : Meaning) (law : IsLawful m) (valid : Validity) (sizes : List ℕ) (is : (d : Parts) → valid sizes d → m.valid d) (f : Behaviour) (at bound p : ℕ) (seen : Bool) (base fresh : List ReadEntry) (items : List Item) (watches : List Watched) (es : List Update) (rs : List PlainReply) (v : View)
    (spans : Spans m valid sizes at bound base fresh v) (observed : IsObserved items watches) (next : IsNext (length m.widths) (words_in base) fresh watches seen p) (log : IsLog m f (words_in base) items es rs) where
  abbrev long : ℕ
  long = length m.widths

  is_valid : (w : View) → w.sizes ≡ sizes → (d : Parts) → valid w.sizes d → m.valid d
  is_valid w e d h = is d (subst (λ (l : List ℕ). valid l d) e h)

  pub some_old : (d : Parts) × m.valid d × IsPartOf (words_in base) d
  some_old = some_contents m valid v at base (is_valid v spans.own.same_sizes) spans.fit spans.claimed

  pub some_anew : (w : View) (ss : List ReadEntry) → Spans m valid sizes at bound base ss w → (d : Parts) × m.valid d × IsPartOf (words_in ss) d
  some_anew w ss h = some_contents m valid w bound ss (is_valid w h.own.same_sizes) h.fit h.renewed

  of_item : Contains (parts_of_items items) p
  of_item = next_observed long (words_in base) fresh watches seen p next items observed

  pub was_read : IsSome (words_in base p)
  was_read = watch_read m law f base items es rs log some_old.0 some_old.1 some_old.2 p of_item

  pub touched : HasTouched m f rs p
  touched = watch_touched m law f base items es rs log some_old.0 some_old.1 some_old.2 p of_item

  runs : IsPrefix m f v at rs
  runs = prefix m f v at base items es rs log spans.claimed

  range : HasPart v p
  range = has_part m law valid sizes f at p rs v spans.own touched

  pub below_long : p < long
  below_long = omega (arith, touched_range m law f rs p touched, law.homes)

  unread : words_in fresh p ≡ None
  unread = next_unread long (words_in base) fresh watches seen p next observed.parts.rising

  held_none : holds p v.held ≡ false
  held_none = ap (holds p) spans.unheld

  -- the recheck
  module _ (phase : v.phase ≡ P.Reading) (s : ReadEntry) (there : Contains base s) (part : s.part ≡ p) where
    claim : IsClaimed v at s
    claim = claimed_in v at base s there spans.claimed

    pub recheck_allowed : Allowed valid (Recheck p) v
    recheck_allowed = subst (λ (q : ℕ). Allowed valid (Recheck q) v) part (may_recheck m valid sizes at bound base fresh f rs v spans phase s claim (subst (HasPart v) (sym part) range))

    module _ (w : View) (passes n : ℕ) (x : ℤ) (t : Tells valid passes (Recheck p) v n x w) where
      own_told : Tells valid passes (Recheck s.part) v n x w
      own_told = subst (λ (q : ℕ). Tells valid passes (Recheck q) v n x w) (sym part) t

      pub rechecked_left : IsLeft w
      rechecked_left = recheck_left m valid sizes f at bound rs v (rests m valid sizes at bound base fresh f rs v spans phase) s claim passes n x w own_told

      pub rechecked_prefix : IsPrefix m f w at rs
      rechecked_prefix = recheck_keeps m valid sizes f at bound rs v (rests m valid sizes at bound base fresh f rs v spans phase) s claim passes n x w own_told at runs

      pub rechecked_within : at ≤ w.at
      rechecked_within = omega (arith, recheck_number m valid sizes f at bound rs v (rests m valid sizes at bound base fresh f rs v spans phase) s claim passes n x w own_told, spans.number, spans.above)

      pub rechecked_locked : IsUnsettled f rs → is_free n ≡ false → WasLocked m f w at p rs
      rechecked_locked unsettled e =
          subst (λ (q : ℕ). WasLocked m f w at q rs) part
          (recheck_locked m valid sizes f at bound rs v (rests m valid sizes at bound base fresh f rs v spans phase) s claim passes n x w own_told runs (subst (HasTouched m f rs) (sym part) touched) unsettled e).1

      pub rechecked_changed : IsUnsettled f rs → is_free n ≡ true → ticket_of n ≢ s.ticket → WasChanged m f w at p (ticket_of n) rs
      rechecked_changed unsettled e ne =
          subst (λ (q : ℕ). WasChanged m f w at q (ticket_of n) rs) part
          (recheck_changed m valid sizes f at bound rs v (rests m valid sizes at bound base fresh f rs v spans phase) s claim passes n x w own_told runs (subst (HasTouched m f rs) (sym part) touched) unsettled e ne)

      -- read anew, with the same words
      module _ (e : is_free n ≡ true) (same : ticket_of n ≡ s.ticket) (y : ReadEntry) (of_part : y.part ≡ p) (ticket : y.ticket ≡ s.ticket) (words : y.words.items ≡ s.words.items) (known : words_in base p ≡ Some s.words.items) where
        unread_y : words_in fresh y.part ≡ None
        unread_y = ap (words_in fresh) of_part ∙ unread

        pub rechecked_spans : Spans m valid sizes at bound base (fresh ++ y ∷ []) w × (w.phase ≡ P.Reading)
        rechecked_spans =
            recheck_spans m valid sizes at bound base fresh f rs v spans phase y (claimed_as v at s y (of_part ∙ sym part) ticket words claim) passes n x w (subst (λ (q : ℕ). Tells valid passes (Recheck q) v n x w) (sym of_part) t) e (same ∙ sym ticket) unread_y

        pub rechecked_renewed : seen ≡ true → IsRenewed long (words_in base) (fresh ++ y ∷ []) watches next.more
        rechecked_renewed whole =
            let now : words_in (fresh ++ y ∷ []) p ≡ Some y.words.items = ap (words_in (fresh ++ y ∷ [])) (sym of_part) ∙ words_new fresh y unread_y in
            let before : words_in base p ≡ Some y.words.items = known ∙ ap (λ (ws : List ℤ). Some ws) (sym words) in
            renewed_more long (words_in base) fresh watches seen p next y of_part
            (rw whole (record { range = below_long; words = y.words.items; before = before; now = now }))

  -- the open of a new read
  module _ (phase : v.phase ≡ P.Reading) where
    pub reopen_allowed : Allowed valid (Open p) v
    reopen_allowed = (phase, range)

    module _ (w : View) (passes n : ℕ) (t : Tells valid passes (Open p) v n (pos 0) w) where
      abbrev u : View
      u = after (Open p) v n (pos 0)

      pub reopened_within : at ≤ w.at
      reopened_within = let same : w.at ≡ v.at = ap (λ (x : View). x.at) t.after in omega (arith, same, spans.number, spans.above)

      reopened_left : u.phase ≡ P.Reading → IsLeft w
      reopened_left e = subst IsLeft (sym t.after) (record { idle = idle_reading u e; unheld = spans.unheld; decided = spans.decided })

      pub reopened_locked : IsUnsettled f rs → is_free n ≡ false → IsLeft w × WasLocked m f w at p rs
      reopened_locked unsettled e =
          let stop : u.phase ≡ P.Reading = rw e refl in
          let one : Finding = record { start = v.starts; part = p; version = n; held = false } in
          let there : Among one u.findings = subst (λ (b : Bool). Among one (v.findings ++ record { start = v.starts; part = p; version = n; held = b } ∷ [])) (sym held_none) (among_snoc v.findings one) in
          let runs_u : IsPrefix m f u at rs = runs in
          let h : WasLocked m f u at p rs = record { runs = runs_u; touched = touched; unsettled = unsettled; found = record { version = n; among = there; locked = e } } in
          (reopened_left stop, subst (λ (y : View). WasLocked m f y at p rs) (sym t.after) h)

      pub reopened_changed : IsUnsettled f rs → is_free n ≡ true → bound < ticket_of n → IsLeft w × WasChanged m f w at p (ticket_of n) rs
      reopened_changed unsettled e l =
          let over : nat_le (ticket_of n) v.at ≡ false = grind (arith, nat_tests, spans.number) in
          let stop : u.phase ≡ P.Reading = rw (e, over) refl in
          let own : is_own_or_free v p n ≡ true = rw e refl in
          let one : Finding = record { start = v.starts; part = p; version = n; held = holds p v.held } in
          let there : HasFound u p (ticket_of n) = record { finding = one; among = among_snoc v.findings one; start = refl; on = refl; is = refl; own = inl e } in
          let same : w.starts ≡ v.starts = ap (λ (x : View). x.starts) t.after in
          let runs_u : IsPrefix m f u at rs = runs in (
            reopened_left stop,
            record {
              runs = subst (λ (y : View). IsPrefix m f y at rs) (sym t.after) runs_u;
              touched = touched;
              unsettled = unsettled;
              found = subst (λ (y : View). HasFound y p (ticket_of n)) (sym t.after) there;
              later = omega (arith, spans.above, l);
              wrote = subst (λ (k : ℕ). Among (record { start = k; ticket = ticket_of n; part = p }) w.wrote) (sym same) (t.learns.wrote own (omega (arith, l)));
            },
          )

      pub reopened_goes : is_free n ≡ true → ticket_of n ≤ bound → Spans m valid sizes at bound base fresh w × (w.phase ≡ P.Looking (record { part = p; ticket = ticket_of n; reads = [] }))
      reopened_goes e l =
          let within : nat_le (ticket_of n) v.at ≡ true = grind (arith, nat_tests, spans.number) in
          let phase_u : u.phase ≡ P.Looking (record { part = p; ticket = ticket_of n; reads = [] }) = rw (e, within) refl in
          let h : Spans m valid sizes at bound base fresh u = spans_quiet m valid sizes at bound base fresh v u.findings u.wrote u.phase (subst (ClaimsFit valid) t.after t.fit) spans in
          (subst (λ (y : View). Spans m valid sizes at bound base fresh y) (sym t.after) h, subst (λ (y : View). y.phase ≡ P.Looking (record { part = p; ticket = ticket_of n; reads = [] })) (sym t.after) phase_u)

  -- the words and the end of a new read
  module _ (s : ℕ) (ws : List ℤ) (phase : v.phase ≡ P.Looking (record { part = p; ticket = s; reads = numbered 0 ws })) (early : s ≤ bound) where
    abbrev the_read : OpenRead
    the_read = record { part = p; ticket = s; reads = numbered 0 ws }

    width_here : width_in v p ≡ slice_index_or m.widths p 0
    width_here = width_is m law valid sizes f at p rs v spans.own touched

    pub reread_allowed : length ws < slice_index_or m.widths p 0 → Allowed valid (Word p (length ws)) v
    reread_allowed l = (subst (MayRead v p) (sym phase) refl, (range, omega (arith, l, width_here)))

    pub reread_goes : (w : View) (passes n : ℕ) (x : ℤ) → Tells valid passes (Word p (length ws)) v n x w
        → Spans m valid sizes at bound base fresh w × (w.phase ≡ P.Looking (record { part = p; ticket = s; reads = numbered 0 (ws ++ x ∷ []) }))
    reread_goes w passes n x t =
        let next_phase : Phase = P.Looking (with_read the_read (length ws) x) in
        let there : View = record v { steps = v.steps + 1; phase = next_phase } in
        let to : w ≡ there = t.after ∙ ap (λ h. read_by h v p (length ws) x) phase in
        let zero_first : 0 + length ws ≡ length ws = omega arith in
        let reads : numbered 0 ws ++ (length ws, x) ∷ [] ≡ numbered 0 (ws ++ x ∷ []) = sym (numbered_more 0 ws x ∙ ap (λ (k : ℕ). numbered 0 ws ++ (k, x) ∷ []) zero_first) in
        let now : there.phase ≡ P.Looking (record { part = p; ticket = s; reads = numbered 0 (ws ++ x ∷ []) }) = ap (λ (r : Reads). P.Looking (record { part = p; ticket = s; reads = r })) reads in
        let h : Spans m valid sizes at bound base fresh there = spans_quiet m valid sizes at bound base fresh v v.findings v.wrote next_phase (subst (ClaimsFit valid) to t.fit) spans in
        (subst (λ (y : View). Spans m valid sizes at bound base fresh y) (sym to) h, subst (λ (y : View). y.phase ≡ P.Looking (record { part = p; ticket = s; reads = numbered 0 (ws ++ x ∷ []) })) (sym to) now)

    pub reread_left : IsLeft v
    reread_left = record { idle = subst IsIdle (sym phase) tt; unheld = spans.unheld; decided = spans.decided }

    module _ (all : length ws ≡ slice_index_or m.widths p 0) where
      width_all : length ws ≡ width_in v p
      width_all = all ∙ sym width_here

      pub reclose_allowed : Allowed valid (Close p) v
      reclose_allowed = (subst (MayClose v p) (sym phase) (refl, subst (AllRead (numbered 0 ws)) width_all (all_numbered ws)), range)

      read_words : words_read (numbered 0 ws) (width_in v p) ≡ ws
      read_words = ap (words_read (numbered 0 ws)) (sym width_all) ∙ words_numbered ws

      module _ (w : View) (passes n : ℕ) (t : Tells valid passes (Close p) v n (pos 0) w) where
        abbrev ended : View
        ended = record (claimed (found v p n) v.at the_read n) { phase = P.Reading }

        to_ended : w ≡ ended
        to_ended = t.after ∙ ap (λ h. closed_by h (found v p n) n) phase

        abbrev unclaimed : View
        unclaimed = record (found v p n) { phase = P.Reading }

        abbrev new_claim : Claim
        new_claim = record { start = v.starts; number = v.at; part = p; ticket = s; words = words_read (numbered 0 ws) (width_in v p) }

        abbrev claimed_view : View
        claimed_view = record (found v p n) { claims = v.claims ++ new_claim ∷ []; phase = P.Reading }

        to_unclaimed : nat_eq n (2 * s) ≡ false → w ≡ unclaimed
        to_unclaimed e = to_ended ∙ (rw e refl)

        to_claimed : nat_eq n (2 * s) ≡ true → w ≡ claimed_view
        to_claimed e = to_ended ∙ (rw e refl)

        pub reclosed_left : IsLeft w
        reclosed_left = elim (cases_Bool (nat_eq n (2 * s))) [
          | inl e ↦ subst IsLeft (sym (to_claimed e)) (record { idle = tt; unheld = spans.unheld; decided = spans.decided })
          | inr e ↦ subst IsLeft (sym (to_unclaimed e)) (record { idle = tt; unheld = spans.unheld; decided = spans.decided })
        ]

        pub reclosed_prefix : IsPrefix m f w at rs
        reclosed_prefix = elim (cases_Bool (nat_eq n (2 * s))) [
          | inl e ↦
              let here : IsPrefix m f claimed_view at rs = prefix_on m f v claimed_view at rs refl (λ c there. among_front v.claims new_claim c there) runs in
              subst (λ (y : View). IsPrefix m f y at rs) (sym (to_claimed e)) here
          | inr e ↦
              let here : IsPrefix m f unclaimed at rs = runs in
              subst (λ (y : View). IsPrefix m f y at rs) (sym (to_unclaimed e)) here
        ]

        pub reclosed_within : at ≤ w.at
        reclosed_within = elim (cases_Bool (nat_eq n (2 * s))) [
          | inl e ↦ let same : w.at ≡ v.at = ap (λ (x : View). x.at) (to_claimed e) in omega (arith, same, spans.number, spans.above)
          | inr e ↦ let same : w.at ≡ v.at = ap (λ (x : View). x.at) (to_unclaimed e) in omega (arith, same, spans.number, spans.above)
        ]

        pub reclosed_locked : IsUnsettled f rs → is_free n ≡ false → WasLocked m f w at p rs
        reclosed_locked unsettled e =
            let to : w ≡ unclaimed = to_unclaimed (odd_other n s e) in
            let one : Finding = record { start = v.starts; part = p; version = n; held = false } in
            let there : Among one unclaimed.findings = subst (λ (b : Bool). Among one (v.findings ++ record { start = v.starts; part = p; version = n; held = b } ∷ [])) (sym held_none) (among_snoc v.findings one) in
            let runs_u : IsPrefix m f unclaimed at rs = runs in
            let h : WasLocked m f unclaimed at p rs = record { runs = runs_u; touched = touched; unsettled = unsettled; found = record { version = n; among = there; locked = e } } in
            subst (λ (y : View). WasLocked m f y at p rs) (sym to) h

        closes_here : Closes (P.Looking the_read) v p n
        closes_here = subst (λ (h : Phase). Closes h v p n) phase t.learns.1

        abbrev finding : Finding
        finding = record { start = v.starts; part = p; version = n; held = holds p v.held }

        pub reclosed_changed : IsUnsettled f rs → is_free n ≡ true → ticket_of n ≢ s → WasChanged m f w at p (ticket_of n) rs
        reclosed_changed unsettled e ne =
            let to : w ≡ unclaimed = to_unclaimed (ticket_other n s ne) in
            let newer : (s < ticket_of n) × (v.at < ticket_of n) = closes_here.0 e ne in
            let own : is_own_or_free v p n ≡ true = rw e refl in
            let there : HasFound unclaimed p (ticket_of n) = record { finding = finding; among = among_snoc v.findings finding; start = refl; on = refl; is = refl; own = inl e } in
            let same : w.starts ≡ v.starts = ap (λ (y : View). y.starts) to in
            let runs_u : IsPrefix m f unclaimed at rs = runs in
            record {
              runs = subst (λ (y : View). IsPrefix m f y at rs) (sym to) runs_u;
              touched = touched;
              unsettled = unsettled;
              found = subst (λ (y : View). HasFound y p (ticket_of n)) (sym to) there;
              later = omega (arith, newer.1, spans.number, spans.above);
              wrote = subst (λ (k : ℕ). Among (record { start = k; ticket = ticket_of n; part = p }) w.wrote) (sym same) (t.learns.0.wrote own (omega (arith, newer.0)));
            }

        module _ (e : is_free n ≡ true) (same : ticket_of n ≡ s) where
          again : nat_eq n (2 * s) ≡ true
          again = even_same n s e same

          -- the words were read under the ticket
          pub reclosed_read : WasReadUnder w p s ws
          reclosed_read =
              let here : WasReadUnder claimed_view p s ws = record { claim = new_claim; among = among_snoc v.claims new_claim; start = refl; on = refl; with_ticket = refl; with_words = read_words } in
              subst (λ (y : View). WasReadUnder y p s ws) (sym (to_claimed again)) here

          -- a predicate is false: the ticket is later than the claims, of whose words it is true
          pub reclosed_false : IsUnsettled f rs → (preds : List Pred) → preds ≡ preds_on p items → (AllTrueIn ws preds → ⊥) → WasChanged m f w at p s rs
          reclosed_false unsettled preds are fails =
              let to : w ≡ claimed_view = to_claimed again in
              let own : is_own_or_free v p n ≡ true = rw e refl in
              let there : HasFound claimed_view p s = record { finding = finding; among = among_snoc v.findings finding; start = refl; on = refl; is = same; own = inl e } in
              let starts : w.starts ≡ v.starts = ap (λ (y : View). y.starts) to in
              let runs_c : IsPrefix m f claimed_view at rs = λ d valid_d c. runs d valid_d (λ j k there. let a : Among k claimed_view.claims = among_front v.claims new_claim k (j, there) in c a.0 k a.1) in
              let later : at < s = not_early s at (λ l. by (words_in base p) refl was_read l) in
              record {
                runs = subst (λ (y : View). IsPrefix m f y at rs) (sym to) runs_c;
                touched = touched;
                unsettled = unsettled;
                found = subst (λ (y : View). HasFound y p s) (sym to) there;
                later = later;
                wrote = subst (λ (k : ℕ). Among (record { start = k; ticket = s; part = p }) w.wrote) (sym starts) (subst (λ (k : ℕ). Among (record { start = v.starts; ticket = k; part = p }) w.wrote) same (t.learns.0.wrote own (omega (arith, same, later))));
              }
            where
              by : (o : Option (List ℤ)) → words_in base p ≡ o → IsSome o → s ≤ at → ⊥
              by None known h l = cc
              by (Some old) known h l =
                  let x = read_entry_of v at base p old spans.claimed known in
                  let version : n ≡ 2 * s = eqb-true n (2 * s) again in
                  let words : words_read (numbered 0 ws) (width_in v p) ≡ x.0.words.items = closes_here.1 version x.1.among.0 (claim_of v at x.0) x.1.among.1 x.2 l in
                  let are_old : ws ≡ old = sym read_words ∙ words ∙ x.3 in
                  let hold : AllTrueIn old (preds_on p items) = watch_true m law f base items es rs log some_old.0 some_old.1 some_old.2 p old known in
                  fails (subst (AllTrueIn ws) (sym are) (subst (λ (l : List ℤ). AllTrueIn l (preds_on p items)) (sym are_old) hold))

          -- they are true: the part is read anew
          module _ (y : ReadEntry) (of_part : y.part ≡ p) (ticket : y.ticket ≡ s) (words : y.words.items ≡ ws) where
            own_claim : new_claim ≡ claim_of v bound y
            own_claim = λ i. record { start = v.starts; number = spans.number i; part = sym of_part i; ticket = sym ticket i; words = (read_words ∙ sym words) i }

            unread_again : words_in fresh y.part ≡ None
            unread_again = ap (words_in fresh) of_part ∙ unread

            pub reclosed_spans : Spans m valid sizes at bound base (fresh ++ y ∷ []) w × (w.phase ≡ P.Reading)
            reclosed_spans =
                let there : View = record (found v p n) { claims = v.claims ++ claim_of v bound y ∷ []; phase = P.Reading } in
                let to : w ≡ there = to_claimed again ∙ ap (λ (c : Claim). record (found v p n) { claims = v.claims ++ c ∷ []; phase = P.Reading }) own_claim in
                let h : Spans m valid sizes at bound base (fresh ++ y ∷ []) there =
                spans_more m valid sizes at bound base fresh v (found v p n).findings (found v p n).wrote P.Reading y (subst (ClaimsFit valid) to t.fit) (omega (arith, ticket, early)) unread_again spans in
                let rest : there.phase ≡ P.Reading = refl in
                (subst (λ (z : View). Spans m valid sizes at bound base (fresh ++ y ∷ []) z) (sym to) h, subst (λ (z : View). z.phase ≡ P.Reading) (sym to) rest)

            pub reclosed_renewed : seen ≡ false → AllTrueIn ws next.next.preds → IsRenewed long (words_in base) (fresh ++ y ∷ []) watches next.more
            reclosed_renewed part_only hold =
                let now : words_in (fresh ++ y ∷ []) p ≡ Some y.words.items = ap (words_in (fresh ++ y ∷ [])) (sym of_part) ∙ words_new fresh y unread_again in
                let held : AllTrueIn y.words.items next.next.preds = subst (λ (l : List ℤ). AllTrueIn l next.next.preds) (sym words) hold in
                renewed_more long (words_in base) fresh watches seen p next y of_part (rw part_only (record { words = y.words.items; now = now; hold = held }))

-- the next watch stands at its place
pub next_place : (n : ℕ) (old : Known) (fresh : List ReadEntry) (watches : List Watched) (seen : Bool) (p : ℕ) (next : IsNext n old fresh watches seen p) → slice_get watches (length fresh) ≡ Some next.next
next_place n old fresh watches seen p next =
    let count : length fresh ≡ length next.renewed.done = sym (length-map fresh (λ (s : ReadEntry). s.part)) ∙ ap length next.renewed.parts ∙ length-map next.renewed.done (λ (w : Watched). w.part) in
    ap (slice_get watches) count ∙ ap (λ (l : List Watched). slice_get l (length next.renewed.done)) next.renewed.all ∙ at_end next.renewed.done
  where
    at_end : (done : List Watched) → slice_get (done ++ next.next ∷ next.more) (length done) ≡ Some next.next
    at_end [] = refl
    at_end (d ∷ done) = at_end done

pub next_short : (n : ℕ) (old : Known) (fresh : List ReadEntry) (watches : List Watched) (seen : Bool) (p : ℕ) (next : IsNext n old fresh watches seen p) → length fresh < length watches
next_short n old fresh watches seen p next =
    let count : length fresh ≡ length next.renewed.done = sym (length-map fresh (λ (s : ReadEntry). s.part)) ∙ ap length next.renewed.parts ∙ length-map next.renewed.done (λ (w : Watched). w.part) in
    omega (arith, count, ap length next.renewed.all, length-append next.renewed.done (next.next ∷ next.more))

-- and has the predicates of the items on its part, where that was not seen
pub next_unseen : (n : ℕ) (old : Known) (fresh : List ReadEntry) (watches : List Watched) (p : ℕ) (items : List Item) (o : IsObserved items watches) (next : IsNext n old fresh watches false p) → sees p items ≡ false
next_unseen n old fresh watches p items o next =
    let is : next.next ≡ watch_at items p = next_is n old fresh watches false p next items o in
    sym (ap (λ (w : Watched). w.seen) is) ∙ next.whole

pub next_preds : (n : ℕ) (old : Known) (fresh : List ReadEntry) (watches : List Watched) (p : ℕ) (items : List Item) (o : IsObserved items watches) (next : IsNext n old fresh watches false p) → next.next.preds ≡ preds_on p items
next_preds n old fresh watches p items o next =
    let is : next.next ≡ watch_at items p = next_is n old fresh watches false p next items o in
    ap (λ (w : Watched). w.preds) is ∙ (rw (next_unseen n old fresh watches p items o next) refl)

-- a part that is rechecked was seen
pub next_seen : (n : ℕ) (old : Known) (fresh : List ReadEntry) (watches : List Watched) (p : ℕ) (items : List Item) (o : IsObserved items watches) (next : IsNext n old fresh watches true p) → sees p items ≡ true
next_seen n old fresh watches p items o next =
    let is : next.next ≡ watch_at items p = next_is n old fresh watches true p next items o in
    sym (ap (λ (w : Watched). w.seen) is) ∙ next.whole
