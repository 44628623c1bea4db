-- The events of an extension, by what they tell: a renew, and the recheck of a part that was seen.
use Rattle.std.proofs.Common.{◌≡◌, ◌≢◌, ◌≤◌, ◌<◌, ℕ, ℤ, Bool, true, false, nat_eq, List, [], ◌∷◌, ◌++◌, refl, ap, sym, ◌∙◌, subst, arith, eq-eqb, inl, inr}
use Rattle.std.proofs.lemmas.Bool.{cases_Bool}
use Rattle.sto_core.specs.declared.view.Claim.{Claim}
use Rattle.sto_core.specs.declared.view.Finding.{Finding}
use Rattle.sto_core.specs.declared.view.View.{View}
use Rattle.sto_core.specs.Lists.{Among}
use Rattle.sto_core.specs.Versions.{ticket_of, is_free}
use Rattle.sto_core.specs.Views.{holds, any_claim, is_claimed, is_recent}
use Rattle.sto_core.specs.History.{Validity}
use Rattle.sto_core.specs.Event.{Recheck, found, is_own_or_free, is_claimed_still, words_claimed, rechecked_by}
use Rattle.sto_core.specs.Allowed.{WasClaimed}
use Rattle.sto_core.specs.Tells.{Tells, ClaimsFit}
use Rattle.sto_core.proofs.Lists.{among_snoc, both_true}
use Rattle.sto_model.specs.PlainReplies.{PlainReply}
use Rattle.sto_model.specs.Run.{Behaviour}
use Rattle.sto_type.specs.Meaning.{Meaning}
use Rattle.sto_attempt_log.specs.declared.read_entry.ReadEntry.{ReadEntry}
use Rattle.sto_attempt_log.specs.ReadSet.{claim_of, IsClaimed}
use Rattle.sto_type.specs.Touching.{HasTouched}
use Rattle.sto_attempt_log.specs.Answers.{IsPrefix, HasFound, WasLocked, WasChanged}
use Rattle.sto_attempt_log.specs.Standing.{IsLeft}
use Rattle.sto_attempt_log.proofs.Prefix.{prefix_on}
use Rattle.sto_attempt_log.proofs.Drawing.{any_at}
use Rattle.sto_attempt_log.proofs.Reading.{AtRest, own_still, idle_reading, among_front}
use Rattle.sto_model.specs.Asked.{IsUnsettled}

-- The recheck of a part that was seen as of the number `at`, while the view has the number `now`
module _ (m : Meaning) (valid : Validity) (sizes : List ℕ) (f : Behaviour) (at now : ℕ) (rs : List PlainReply) (v : View) (rest : AtRest m valid sizes now v) (s : ReadEntry) (claim : IsClaimed v at s) where
  recent : is_recent v s.part (claim_of v at s) ≡ true
  recent = both_true (nat_eq s.part s.part) (nat_eq v.starts v.starts) (eq-eqb s.part s.part refl) (eq-eqb v.starts v.starts refl)

  pub was_claimed : WasClaimed v s.part
  was_claimed = any_at (is_recent v s.part) v.claims claim.among.0 (claim_of v at s) claim.among.1 recent

  module _ (passes n : ℕ) (x : ℤ) (w : View) (t : Tells valid passes (Recheck s.part) v n x w) where
    abbrev plain_view : View
    plain_view = found v s.part n

    abbrev claimed_view : View
    claimed_view = rechecked_by true plain_view s.part n

    -- found free with the ticket: it is claimed as of the new number, with the same words
    still : is_free n ≡ true → ticket_of n ≡ s.ticket → is_claimed_still v s.part n ≡ true
    still e same =
        let kind : is_claimed v s.part (ticket_of n) (claim_of v at s) ≡ true = both_true (nat_eq s.ticket (ticket_of n)) (is_recent v s.part (claim_of v at s)) (eq-eqb s.ticket (ticket_of n) (sym same)) recent in
        both_true (is_free n) (any_claim (is_claimed v s.part (ticket_of n)) v.claims) e
        (any_at (is_claimed v s.part (ticket_of n)) v.claims claim.among.0 (claim_of v at s) claim.among.1 kind)

    pub recheck_claims : is_free n ≡ true → ticket_of n ≡ s.ticket → (at ≤ now) → AtRest m valid sizes now w × IsClaimed w now s
    recheck_claims e same l =
        let is : w ≡ claimed_view = t.after ∙ ap (λ (b : Bool). rechecked_by b plain_view s.part n) (still e same) in
        let words : words_claimed v s.part n ≡ s.words.items = t.learns.1 (still e same) claim.among.0 (claim_of v at s) claim.among.1 refl (subst (λ (k : ℕ). k ≤ at) (sym same) claim.early) in
        let new : Claim = record { start = v.starts; number = v.at; part = s.part; ticket = ticket_of n; words = words_claimed v s.part n } in
        let own : claim_of claimed_view now s ≡ new = λ i. record { start = v.starts; number = sym rest.number i; part = s.part; ticket = sym same i; words = sym words i } in
        let there : Among (claim_of claimed_view now s) claimed_view.claims = subst (λ (c : Claim). Among c claimed_view.claims) (sym own) (among_snoc v.claims new) in
        let here : AtRest m valid sizes now claimed_view = record { own = own_still m sizes v claimed_view refl refl rest.own; unheld = rest.unheld; decided = rest.decided; draws = rest.draws; number = rest.number; fit = subst (ClaimsFit valid) is t.fit; phase = rest.phase } in
        let one : IsClaimed claimed_view now s = record { among = there; early = omega (arith, claim.early, l) } in
        (subst (λ (y : View). AtRest m valid sizes now y) (sym is) here, subst (λ (y : View). IsClaimed y now s) (sym is) one)

    pub recheck_words : is_free n ≡ true → ticket_of n ≡ s.ticket
        → w ≡ record plain_view { claims = v.claims ++ claim_of v now s ∷ []; phase = v.phase }
    recheck_words e same =
        let words : words_claimed v s.part n ≡ s.words.items = t.learns.1 (still e same) claim.among.0 (claim_of v at s) claim.among.1 refl (subst (λ (k : ℕ). k ≤ at) (sym same) claim.early) in
        t.after ∙ ap (λ (b : Bool). rechecked_by b plain_view s.part n) (still e same)
        ∙ (λ i. record plain_view { claims = v.claims ++ record { start = v.starts; number = rest.number i; part = s.part; ticket = same i; words = words i } ∷ []; phase = v.phase })

    pub recheck_left : IsLeft w
    recheck_left = elim (cases_Bool (is_claimed_still v s.part n)) [
      | inl on ↦
          let is : w ≡ claimed_view = t.after ∙ ap (λ (b : Bool). rechecked_by b plain_view s.part n) on in
          let here : IsLeft claimed_view = record { idle = idle_reading claimed_view rest.phase; unheld = rest.unheld; decided = rest.decided } in
          subst IsLeft (sym is) here
      | inr off ↦
          let is : w ≡ plain_view = t.after ∙ ap (λ (b : Bool). rechecked_by b plain_view s.part n) off in
          let here : IsLeft plain_view = record { idle = idle_reading plain_view rest.phase; unheld = rest.unheld; decided = rest.decided } in
          subst IsLeft (sym is) here
    ]

    -- the replies are a prefix still, as of any number
    pub recheck_keeps : (number : ℕ) → IsPrefix m f v number rs → IsPrefix m f w number rs
    recheck_keeps number h = elim (cases_Bool (is_claimed_still v s.part n)) [
      | inl on ↦
          let is : w ≡ claimed_view = t.after ∙ ap (λ (b : Bool). rechecked_by b plain_view s.part n) on in
          let more : Claim = record { start = v.starts; number = v.at; part = s.part; ticket = ticket_of n; words = words_claimed v s.part n } in
          let here : IsPrefix m f claimed_view number rs = prefix_on m f v claimed_view number rs refl (λ c there. among_front v.claims more c there) h in
          subst (λ (y : View). IsPrefix m f y number rs) (sym is) here
      | inr off ↦
          let is : w ≡ plain_view = t.after ∙ ap (λ (b : Bool). rechecked_by b plain_view s.part n) off in
          let here : IsPrefix m f plain_view number rs = h in
          subst (λ (y : View). IsPrefix m f y number rs) (sym is) here
    ]

    pub recheck_number : w.at ≡ v.at
    recheck_number = elim (cases_Bool (is_claimed_still v s.part n)) [
      | inl on ↦ ap (λ (y : View). y.at) (t.after ∙ ap (λ (b : Bool). rechecked_by b plain_view s.part n) on)
      | inr off ↦ ap (λ (y : View). y.at) (t.after ∙ ap (λ (b : Bool). rechecked_by b plain_view s.part n) off)
    ]

    module _ (runs : IsPrefix m f v at rs) (touched : HasTouched m f rs s.part) (unsettled : IsUnsettled f rs) where
      held_none : holds s.part v.held ≡ false
      held_none = ap (holds s.part) rest.unheld

      -- found locked
      pub recheck_locked : is_free n ≡ false → IsLeft w × WasLocked m f w at s.part rs
      recheck_locked e =
          let off : is_claimed_still v s.part n ≡ false = rw e refl in
          let is : w ≡ plain_view = t.after ∙ ap (λ (b : Bool). rechecked_by b plain_view s.part n) off in
          let one : Finding = record { start = v.starts; part = s.part; version = n; held = false } in
          let there : Among one plain_view.findings = subst (λ (b : Bool). Among one (v.findings ++ record { start = v.starts; part = s.part; version = n; held = b } ∷ [])) (sym held_none) (among_snoc v.findings one) in
          let prefix_now : IsPrefix m f plain_view at rs = runs in
          let left : IsLeft plain_view = record { idle = idle_reading plain_view rest.phase; unheld = rest.unheld; decided = rest.decided } in
          let h : WasLocked m f plain_view at s.part rs = record { runs = prefix_now; touched = touched; unsettled = unsettled; found = record { version = n; among = there; locked = e } } in
          (subst IsLeft (sym is) left, subst (λ (y : View). WasLocked m f y at s.part rs) (sym is) h)

      -- found free with another ticket, which is later
      pub recheck_later : is_free n ≡ true → ticket_of n ≢ s.ticket → at < ticket_of n
      recheck_later e ne =
          let own : is_own_or_free v s.part n ≡ true = rw e refl in
          let same : ticket_of n ≤ at → ticket_of n ≡ s.ticket = λ l. (t.learns.0.fresh own).same claim.among.0 (claim_of v at s) claim.among.1 refl l in
          above (ticket_of n) at s.ticket same ne
        where
          above : (a b c : ℕ) → (a ≤ b → a ≡ c) → a ≢ c → b < a
          above a b c same ne = grind arith

      pub recheck_wrote : is_free n ≡ true → ticket_of n ≢ s.ticket → Among (record { start = v.starts; ticket = ticket_of n; part = s.part }) w.wrote
      recheck_wrote e ne =
          let own : is_own_or_free v s.part n ≡ true = rw e refl in
          t.learns.0.wrote own (omega (arith, recheck_later e ne))

      pub recheck_found : is_free n ≡ true → HasFound w s.part (ticket_of n)
      recheck_found e =
          let one : Finding = record { start = v.starts; part = s.part; version = n; held = holds s.part v.held } in
          elim (cases_Bool (is_claimed_still v s.part n)) [
            | inl on ↦
                let is : w ≡ claimed_view = t.after ∙ ap (λ (b : Bool). rechecked_by b plain_view s.part n) on in
                let h : HasFound claimed_view s.part (ticket_of n) = record { finding = one; among = among_snoc v.findings one; start = refl; on = refl; is = refl; own = inl e } in
                subst (λ (y : View). HasFound y s.part (ticket_of n)) (sym is) h
            | inr off ↦
                let is : w ≡ plain_view = t.after ∙ ap (λ (b : Bool). rechecked_by b plain_view s.part n) off in
                let h : HasFound plain_view s.part (ticket_of n) = record { finding = one; among = among_snoc v.findings one; start = refl; on = refl; is = refl; own = inl e } in
                subst (λ (y : View). HasFound y s.part (ticket_of n)) (sym is) h
          ]

      -- the replies are still a prefix, as no claim is lost
      pub recheck_runs : IsPrefix m f w at rs
      recheck_runs = elim (cases_Bool (is_claimed_still v s.part n)) [
        | inl on ↦
            let is : w ≡ claimed_view = t.after ∙ ap (λ (b : Bool). rechecked_by b plain_view s.part n) on in
            let new : Claim = record { start = v.starts; number = v.at; part = s.part; ticket = ticket_of n; words = words_claimed v s.part n } in
            let h : IsPrefix m f claimed_view at rs = λ d valid_d c. runs d valid_d (λ j k there. let a : Among k claimed_view.claims = among_front v.claims new k (j, there) in c a.0 k a.1) in
            subst (λ (y : View). IsPrefix m f y at rs) (sym is) h
        | inr off ↦
            let is : w ≡ plain_view = t.after ∙ ap (λ (b : Bool). rechecked_by b plain_view s.part n) off in
            let h : IsPrefix m f plain_view at rs = runs in
            subst (λ (y : View). IsPrefix m f y at rs) (sym is) h
      ]

      pub recheck_changed : is_free n ≡ true → ticket_of n ≢ s.ticket → WasChanged m f w at s.part (ticket_of n) rs
      recheck_changed e ne =
          let start : w.starts ≡ v.starts = elim (cases_Bool (is_claimed_still v s.part n)) [
            | inl on ↦ ap (λ (y : View). y.starts) (t.after ∙ ap (λ (b : Bool). rechecked_by b plain_view s.part n) on)
            | inr off ↦ ap (λ (y : View). y.starts) (t.after ∙ ap (λ (b : Bool). rechecked_by b plain_view s.part n) off)
          ] in
          record {
            runs = recheck_runs;
            touched = touched;
            unsettled = unsettled;
            found = recheck_found e;
            later = recheck_later e ne;
            wrote = subst (λ (k : ℕ). Among (record { start = k; ticket = ticket_of n; part = s.part }) w.wrote) (sym start) (recheck_wrote e ne);
          }
