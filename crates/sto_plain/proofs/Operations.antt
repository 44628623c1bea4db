-- Each operation on one word is its event: the words after it are those of the core state after the event.
use Rattle.std.proofs.Common.{◌≡◌, ◌<◌, ◌≤◌, ◌^◌, ℕ, suc, ℤ, pos, List, length, set, get_or, Bool, true, false, not, sym, refl, ap, ◌∙◌, subst, arith}
use Rattle.std.specs.Prelude.{Some, slice_get}
use Rattle.std.proofs.Math.Bool.{not-not}
use Rattle.std.proofs.lemmas.Option.{slice_get-get_or, get_or_from_slice_get}
use Rattle.sto_part.specs.Parts.{part_of, with_word}
use Rattle.sto_version.specs.declared.Version.{Version}
use Rattle.sto_version.specs.Versions.{ticket_of, is_free, version_of}
use Rattle.sto_core.specs.declared.view.View.{View}
use Rattle.sto_core.specs.History.{Updates, Validity}
use Rattle.sto_core.specs.Views.{own_ticket}
use Rattle.sto_core.specs.Event.{Event, Start, Open, Word, Close, Renew, Recheck, Lock, Test, Draw, Check, Decide, Put, Release, Unlock}
use Rattle.sto_core.specs.Allowed.{Allowed, HasPart, HasWord}
use Rattle.sto_core.specs.Places.{LoadsClock, LoadsVersion}
use Rattle.sto_core.specs.Core.{Part, Core, part_at, version_at, status_word, with_lock, with_ticket, with_value, edited}
use Rattle.sto_core.specs.Rule.{world_of, Settled}
use Rattle.sto_core.proofs.Parts.{ticket_is, free_is, at_place}
use Rattle.sto_core.proofs.Places.{part_in_range, word_in_range}
use Rattle.sto_core.specs.Words.{part_shown, parts_shown, core_shown}
use Rattle.sto_core.specs.Gathered.{spent_view}
use Rattle.sto_plain.specs.Passes.{view_at, view_of, noted}
use Rattle.sto_plain.specs.Kept.{IsSeated, Kept}
use Rattle.sto_plain.proofs.Calls.{Made, call}
use Rattle.sto_plain.proofs.Shown.{length_shown, part_is, version_is, set_version, set_words}
use Rattle.sto_plain.proofs.Asked.{HasTicket, own_is, own_within}

module _
    (valid : Validity) (clock : ℕ) (statuses : List ℕ) (versions : List Version) (contents : List (List ℤ))
    (book : List View) (tickets : List ℕ)
    (kept : Kept valid tickets (core_shown clock statuses versions contents book))
    (long : length versions ≡ length contents)
    (now : Core) (same : core_shown clock statuses versions contents book ≡ now) (pass : ℕ)
    (inside : pass < length now.views) where
  abbrev before : Core
  before = core_shown clock statuses versions contents book

  abbrev parts : List Part
  parts = parts_shown versions contents

  -- the pass, and its seat
  inside_book : pass < length book
  inside_book = subst (λ (c : Core). pass < length c.views) (sym same) inside

  seat : IsSeated pass (get_or tickets pass 0) (view_at book pass)
  seat = kept.seated pass (view_at book pass) (at_place spent_view book pass inside_book)

  -- where a part, a word or a status word is in range
  pub version_there : (p : ℕ) → HasPart (view_of now pass) p → p < length versions
  version_there p has =
      let has' = subst (λ (c : Core). HasPart (view_of c pass) p) (sym same) has in
      subst (λ (n : ℕ). p < n) (length_shown versions contents long)
      (part_in_range kept.rule.1 pass (view_at book pass) (at_place spent_view book pass inside_book) seat.live p has')

  pub word_there : (p i : ℕ) → HasWord (view_of now pass) p i → i < length (part_of contents p)
  word_there p i has =
      let has' = subst (λ (c : Core). HasWord (view_of c pass) p i) (sym same) has in
      let there = slice_get-get_or versions p (record { 0 = 0 }) (version_there p has.0) in
      subst (λ (q : Part). i < length q.words) (part_is versions contents p _ long there)
      (word_in_range kept.rule.1 pass (view_at book pass) (at_place spent_view book pass inside_book) seat.live p i has')

  pub status_there : pass < length statuses
  status_there =
      subst (λ (n : ℕ). n < length statuses) seat.number
      ((kept.rule.1.each pass (view_at book pass) (at_place spent_view book pass inside_book)).serves
      seat.live).number

  pub ticket_there : pass < length tickets
  ticket_there = subst (λ (n : ℕ). pass < n) (sym kept.tickets_of_all) inside_book

  -- the ticket of a pass that has one
  own : HasTicket (view_of now pass).phase → own_ticket (view_at book pass).phase ≡ get_or tickets pass 0
  own has = own_is (get_or tickets pass 0) (view_at book pass).phase
      (subst (λ (c : Core). HasTicket (view_of c pass).phase) (sym same) has) seat.remembers

  -- which is small
  pub own_small : (t : ℕ) → slice_get tickets pass ≡ Some t → HasTicket (view_of now pass).phase
      → t ≤ 2 ^ 56
  own_small t is has =
      let fits = kept.rule.1.each pass (view_at book pass) (at_place spent_view book pass inside_book) in
      let within =
      own_within kept.opening (world_of kept.rule.0 before) (Settled book) (view_at book pass).phase
      (view_at book pass) (subst (λ (c : Core). HasTicket (view_of c pass).phase) (sym same) has)
      fits.knows in
      let room = kept.rule.1.room in
      let e = own has in
      let g = get_or_from_slice_get tickets pass t 0 is in
      omega arith

  module _ (e : Event) (may : Allowed valid e (view_of now pass)) (views : List View) where
    -- the load of the clock
    clock_read : (d : Event) → e ≡ d → LoadsClock d → views ≡ noted e book pass clock (pos 0)
        → Made valid e now (core_shown clock statuses versions contents views) tickets pass clock (pos 0)
    clock_read Start told is are =
        call valid tickets before pass kept e Start now same told inside may clock (pos 0) refl refl clock
        statuses parts views refl refl refl are
    clock_read Renew told is are =
        call valid tickets before pass kept e Renew now same told inside may clock (pos 0) refl refl clock
        statuses parts views refl refl refl are
    clock_read (Open q) told is are = absurd is
    clock_read (Word q i) told is are = absurd is
    clock_read (Close q) told is are = absurd is
    clock_read (Recheck q) told is are = absurd is
    clock_read (Lock q) told is are = absurd is
    clock_read (Test q) told is are = absurd is
    clock_read (Draw us seen looked) told is are = absurd is
    clock_read (Check q) told is are = absurd is
    clock_read (Decide b) told is are = absurd is
    clock_read (Put q i x) told is are = absurd is
    clock_read (Release q) told is are = absurd is
    clock_read (Unlock q) told is are = absurd is

    pub clock_loaded : LoadsClock e → views ≡ noted e book pass clock (pos 0)
        → Made valid e now (core_shown clock statuses versions contents views) tickets pass clock (pos 0)
    clock_loaded is are = clock_read e refl is are

    module _ (p : ℕ) (n : Version) (got : slice_get versions p ≡ Some n) where
      -- the load of a version
      loaded : (d : Event) → e ≡ d → LoadsVersion d p → views ≡ noted e book pass n.0 (pos 0)
          → Made valid e now (core_shown clock statuses versions contents views) tickets pass n.0 (pos 0)
      loaded (Open q) told is are =
          call valid tickets before pass kept e (Open q) now same told inside may n.0 (pos 0)
          (ap (version_at before) is ∙ version_is versions contents p n long got clock statuses book)
          refl clock statuses parts views refl refl refl are
      loaded (Close q) told is are =
          call valid tickets before pass kept e (Close q) now same told inside may n.0 (pos 0)
          (ap (version_at before) is ∙ version_is versions contents p n long got clock statuses book)
          refl clock statuses parts views refl refl refl are
      loaded (Recheck q) told is are =
          call valid tickets before pass kept e (Recheck q) now same told inside may n.0 (pos 0)
          (ap (version_at before) is ∙ version_is versions contents p n long got clock statuses book)
          refl clock statuses parts views refl refl refl are
      loaded (Test q) told is are =
          call valid tickets before pass kept e (Test q) now same told inside may n.0 (pos 0)
          (ap (version_at before) is ∙ version_is versions contents p n long got clock statuses book)
          refl clock statuses parts views refl refl refl are
      loaded (Check q) told is are =
          call valid tickets before pass kept e (Check q) now same told inside may n.0 (pos 0)
          (ap (version_at before) is ∙ version_is versions contents p n long got clock statuses book)
          refl clock statuses parts views refl refl refl are
      loaded Start told is are = absurd is
      loaded Renew told is are = absurd is
      loaded (Word q i) told is are = absurd is
      loaded (Lock q) told is are = absurd is
      loaded (Draw us seen looked) told is are = absurd is
      loaded (Decide b) told is are = absurd is
      loaded (Put q i x) told is are = absurd is
      loaded (Release q) told is are = absurd is
      loaded (Unlock q) told is are = absurd is

      pub version_loaded : LoadsVersion e p → views ≡ noted e book pass n.0 (pos 0)
          → Made valid e now (core_shown clock statuses versions contents views) tickets pass n.0 (pos 0)
      version_loaded is are = loaded e refl is are

      -- the part before
      part_now : part_at parts p ≡ part_shown n (part_of contents p)
      part_now = part_is versions contents p n long got

      -- the parts after the version m was stored, whose ticket and bit are those of the event
      stored : (f : Part → Part) (m : Version) (later : List Version) → later ≡ set versions p m
          → f (part_shown n (part_of contents p)) ≡ part_shown m (part_of contents p)
          → parts_shown later contents ≡ edited f parts p
      stored f m later later_is is =
          ap (λ (l : List Version). parts_shown l contents) later_is
          ∙ (set_version versions contents p m long ∙ ap (set parts p) (sym (ap f part_now ∙ is)))

      -- a version word shows its ticket and its bit
      shows : (t : ℕ) (b : Bool) (m : Version) → m ≡ record { 0 = version_of t b }
          → record { ticket = t; locked = b; words = part_of contents p } ≡ part_shown m
          (part_of contents p)
      shows t b m is =
          let bit : not (is_free (version_of t b)) ≡ b = ap not (free_is t b) ∙ not-not b in
          let whole : part_shown (record { 0 = version_of t b }) (part_of contents p) ≡ record
          { ticket = t; locked = b; words = part_of contents p } =
          λ j. record { ticket = ticket_is t b j; locked = bit j; words = part_of contents p } in
          sym (ap (λ (k : Version). part_shown k (part_of contents p)) is ∙ whole)

      -- the lock bit set
      pub lock_set : (m : Version) (later : List Version) → later ≡ set versions p m
          → m ≡ record { 0 = version_of (ticket_of n.0) true } → e ≡ Lock p
          → views ≡ noted e book pass n.0 (pos 0)
          → Made valid e now (core_shown clock statuses later contents views) tickets pass n.0 (pos 0)
      lock_set m later later_is is told are =
          call valid tickets before pass kept e (Lock p) now same told inside may n.0 (pos 0)
          (version_is versions contents p n long got clock statuses book) refl
          clock statuses (parts_shown later contents) views refl refl
          (stored (with_lock true) m later later_is (shows (ticket_of n.0) true m is)) are

      -- the lock bit cleared
      pub lock_cleared : (m : Version) (later : List Version) → later ≡ set versions p m
          → m ≡ record { 0 = version_of (ticket_of n.0) false } → e ≡ Unlock p
          → views ≡ noted e book pass 0 (pos 0)
          → Made valid e now (core_shown clock statuses later contents views) tickets pass 0 (pos 0)
      lock_cleared m later later_is is told are =
          call valid tickets before pass kept e (Unlock p) now same told inside may 0 (pos 0) refl refl
          clock statuses (parts_shown later contents) views refl refl
          (stored (with_lock false) m later later_is (shows (ticket_of n.0) false m is)) are

    module _ (p : ℕ) (has : HasPart (view_of now pass) p) where
      -- the version of a part in range
      some_version : Version
      some_version = get_or versions p (record { 0 = 0 })

      got_some : slice_get versions p ≡ Some some_version
      unfolding some_version
      got_some = slice_get-get_or versions p (record { 0 = 0 }) (version_there p has)

      -- the load of a content word
      pub word_loaded : (i : ℕ) (x y : ℤ) → slice_get (part_of contents p) i ≡ Some x → y ≡ x
          → e ≡ Word p i → views ≡ noted e book pass 0 y
          → Made valid e now (core_shown clock statuses versions contents views) tickets pass 0 y
      word_loaded i x y is y_is told are =
          let value : get_or (part_at parts p).words i (pos 0) ≡ y =
          ap (λ (q : Part). get_or q.words i (pos 0))
          (part_is versions contents p some_version long got_some)
          ∙ (get_or_from_slice_get (part_of contents p) i x (pos 0) is ∙ sym y_is) in
          call valid tickets before pass kept e (Word p i) now same told inside may 0 y refl value clock
          statuses parts views refl refl refl are

      -- a content word stored
      pub word_stored : (i : ℕ) (x y : ℤ) (later : List (List ℤ)) → later ≡ with_word contents p i y
          → y ≡ x → e ≡ Put p i x → views ≡ noted e book pass 0 (pos 0)
          → Made valid e now (core_shown clock statuses versions later views) tickets pass 0 (pos 0)
      word_stored i x y later later_is y_is told are =
          let words = set (part_of contents p) i x in
          let stored : parts_shown versions later ≡ edited (with_value i x) parts p =
          ap (parts_shown versions) (later_is ∙ ap (with_word contents p i) y_is)
          ∙ (set_words versions contents p some_version words got_some
          ∙ ap (set parts p)
          (sym (ap (with_value i x) (part_is versions contents p some_version long got_some)))) in
          call valid tickets before pass kept e (Put p i x) now same told inside may 0 (pos 0) refl refl
          clock statuses (parts_shown versions later) views refl refl stored are

      -- the version stored with the ticket of the pass
      pub version_stored : (t : ℕ) (m : Version) (later : List Version) → later ≡ set versions p m
          → slice_get tickets pass ≡ Some t → HasTicket (view_of now pass).phase
          → m ≡ record { 0 = version_of t false } → e ≡ Release p → views ≡ noted e book pass 0 (pos 0)
          → Made valid e now (core_shown clock statuses later contents views) tickets pass 0 (pos 0)
      version_stored t m later later_is remembered has is told are =
          let own_is : own_ticket (view_at book pass).phase ≡ t =
          own has ∙ get_or_from_slice_get tickets pass t 0 remembered in
          call valid tickets before pass kept e (Release p) now same told inside may 0 (pos 0) refl refl
          clock statuses (parts_shown later contents) views refl refl
          (stored p some_version got_some (with_ticket (own_ticket (view_at book pass).phase)) m later
          later_is (ap (λ (k : ℕ). with_ticket k (part_shown some_version (part_of contents p)))
          own_is ∙ shows p some_version got_some t false m is)) are

    -- the clock raised
    pub clock_raised : (us : Updates) (seen looked : List ℕ) (ticket : ℕ) (later : List ℕ)
        → ticket ≡ suc clock → later ≡ set tickets pass ticket
        → e ≡ Draw us seen looked → views ≡ noted e book pass clock (pos 0)
        → Made valid e now (core_shown ticket statuses versions contents views) later pass clock (pos 0)
    clock_raised us seen looked ticket later ticket_is later_is told are =
        subst (λ (l : List ℕ). Made valid e now (core_shown ticket statuses versions contents views) l pass
        clock (pos 0)) (sym (later_is ∙ ap (set tickets pass) ticket_is))
        (call valid tickets before pass kept e (Draw us seen looked) now same told inside may clock (pos 0)
        refl refl ticket statuses parts views ticket_is refl refl are)

    -- the status word stored
    pub status_stored : (t : ℕ) (b : Bool) (word : ℕ) (later : List ℕ) → later ≡ set statuses pass word
        → slice_get tickets pass ≡ Some t → HasTicket (view_of now pass).phase → word ≡ status_word b t
        → e ≡ Decide b → views ≡ noted e book pass 0 (pos 0)
        → Made valid e now (core_shown clock later versions contents views) tickets pass 0 (pos 0)
    status_stored t b word later later_is remembered has is told are =
        let own_is : own_ticket (view_at book pass).phase ≡ t =
        own has ∙ get_or_from_slice_get tickets pass t 0 remembered in
        call valid tickets before pass kept e (Decide b) now same told inside may 0 (pos 0) refl refl clock
        later parts views refl
        (later_is ∙ λ j. set statuses (sym seat.number j) ((is ∙ ap (status_word b) (sym own_is)) j)) refl
        are
