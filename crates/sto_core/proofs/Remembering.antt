-- The ticket that is kept beside a pass is its own through every event.
use Rattle.std.proofs.Common.{◌≡◌, ℕ, ℤ, List, [], ◌∷◌, Bool, true, false, sym, refl, subst}
use Rattle.std.specs.Prelude.{if◌then◌else◌}
use Rattle.sto_version.specs.Versions.{is_free}
use Rattle.sto_core.specs.declared.view.Phase.{Phase}
use Rattle.sto_core.specs.declared.view.Phase.TheVariants.{Idle, Reading, Looking, Locking, Testing, Drawn, Won, Lost}
use Rattle.sto_core.specs.declared.view.Held.{Held}
use Rattle.sto_core.specs.declared.view.View.{View}
use Rattle.sto_core.specs.History.{Validity}
use Rattle.sto_core.specs.Views.{without, own_ticket}
use Rattle.sto_core.specs.Event.{Event, Start, Open, Word, Close, Renew, Recheck, Lock, Test, Draw, Check, Decide, Put, Release, Unlock, after, found, read_by, closed_by, rechecked_by, locked_by, checked_by, decided, put_by, phase_left}
use Rattle.sto_core.specs.Allowed.{Allowed, MayDecide, IsDrawn}
use Rattle.sto_core.specs.Remembered.{Remembers, remembered}

module _ (ticket : ℕ) where
  -- event by event, as far as it changes the phase
  through_read : (h : Phase) (v : View) (p i : ℕ) (x : ℤ) → v.phase ≡ h → Remembers ticket h
      → Remembers ticket (read_by h v p i x).phase
  through_read Idle v p i x is r = subst (Remembers ticket) (sym is) r
  through_read Reading v p i x is r = subst (Remembers ticket) (sym is) r
  through_read (Looking o) v p i x is r = refl
  through_read Locking v p i x is r = subst (Remembers ticket) (sym is) r
  through_read (Testing o) v p i x is r = refl
  through_read (Drawn t) v p i x is r = subst (Remembers ticket) (sym is) r
  through_read (Won t puts) v p i x is r = subst (Remembers ticket) (sym is) r
  through_read (Lost t) v p i x is r = subst (Remembers ticket) (sym is) r

  through_close : (h : Phase) (v : View) (n : ℕ) → v.phase ≡ h → Remembers ticket h
      → Remembers ticket (closed_by h v n).phase
  through_close Idle v n is r = subst (Remembers ticket) (sym is) r
  through_close Reading v n is r = subst (Remembers ticket) (sym is) r
  through_close (Looking o) v n is r = refl
  through_close Locking v n is r = subst (Remembers ticket) (sym is) r
  through_close (Testing o) v n is r = refl
  through_close (Drawn t) v n is r = subst (Remembers ticket) (sym is) r
  through_close (Won t puts) v n is r = subst (Remembers ticket) (sym is) r
  through_close (Lost t) v n is r = subst (Remembers ticket) (sym is) r

  through_recheck : (b : Bool) (v : View) (p n : ℕ) → Remembers ticket v.phase
      → Remembers ticket (rechecked_by b v p n).phase
  through_recheck true v p n r = r
  through_recheck false v p n r = r

  through_lock : (b : Bool) (v : View) (p n : ℕ) → Remembers ticket v.phase
      → Remembers ticket (locked_by b v p n).phase
  through_lock true v p n r = refl
  through_lock false v p n r = r

  through_check : (b : Bool) (v : View) (p n : ℕ) → Remembers ticket v.phase
      → Remembers ticket (checked_by b v p n).phase
  through_check true v p n r = r
  through_check false v p n r = r

  of_two : (b : Bool) (h g : Phase) → Remembers ticket h → Remembers ticket g
      → Remembers ticket (if b then h else g)
  of_two true h g r s = r
  of_two false h g r s = s

  through_put : (h : Phase) (p i : ℕ) → Remembers ticket h → Remembers ticket (put_by h p i)
  through_put Idle p i r = r
  through_put Reading p i r = r
  through_put (Looking o) p i r = r
  through_put Locking p i r = r
  through_put (Testing o) p i r = r
  through_put (Drawn t) p i r = r
  through_put (Won t puts) p i r = r
  through_put (Lost t) p i r = r

  through_release : (held : List Held) (h : Phase) → Remembers ticket h
      → Remembers ticket (phase_left held h)
  through_release [] h r = refl
  through_release (x ∷ xs) h r = r

  decided_by : (b : Bool) (t : ℕ) → t ≡ ticket → Remembers ticket (decided b t)
  decided_by true t r = r
  decided_by false t r = refl

  through_decision : (h : Phase) (b : Bool) → IsDrawn h → Remembers ticket h
      → Remembers ticket (decided b (own_ticket h))
  through_decision h b d r =
      subst (λ (g : Phase). Remembers ticket g → Remembers ticket (decided b (own_ticket g))) (sym d.1)
      (decided_by b d.0) r

  is_drawn : (valid : Validity) (b : Bool) (v : View) → MayDecide b v → IsDrawn v.phase
  is_drawn valid true v may = may.0
  is_drawn valid false v may = may

  -- after an event that is allowed the pass remembers its ticket still, or the one that it drew
  pub remembers_after : (valid : Validity) (e : Event) (v : View) (n : ℕ) (x : ℤ) → Allowed valid e v
      → Remembers ticket v.phase
      → Remembers (remembered e n ticket) (after e v n x).phase
  remembers_after valid Start v n x may r = refl
  remembers_after valid (Open p) v n x may r = of_two _ (Looking _) Reading refl refl
  remembers_after valid (Word p i) v n x may r = through_read v.phase v p i x refl r
  remembers_after valid (Close p) v n x may r = through_close v.phase (found v p n) n refl r
  remembers_after valid Renew v n x may r = r
  remembers_after valid (Recheck p) v n x may r = through_recheck _ (found v p n) p n r
  remembers_after valid (Lock p) v n x may r = through_lock (is_free n) (found v p n) p n r
  remembers_after valid (Test p) v n x may r = of_two (is_free n) (Testing _) v.phase refl r
  remembers_after valid (Draw us seen loaded) v n x may r = refl
  remembers_after valid (Check p) v n x may r = through_check _ (found v p n) p n r
  remembers_after valid (Decide b) v n x may r = through_decision v.phase b (is_drawn valid b v may) r
  remembers_after valid (Put p i y) v n x may r = through_put v.phase p i r
  remembers_after valid (Release p) v n x may r = through_release (without p v.held) v.phase r
  remembers_after valid (Unlock p) v n x may r = through_release (without p v.held) v.phase r
