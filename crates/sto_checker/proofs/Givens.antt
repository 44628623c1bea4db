-- What is right of an abort line that was read, but for its replies and its place among the others.
use Rattle.std.proofs.Common.{◌≡◌, ◌⊎◌, ℕ, zero, suc, ◌+◌, ◌<◌, ◌≤◌, ◌^◌, List, [], ◌∷◌, length, map, refl, sym, ap, ◌∙◌, subst, Bool, true, false, cond, nat_lt, Option, None, Some, slice_get, option_and_then, position, find, arith, inl, inr}
use Rattle.std.specs.List.{slice_split, position_or_len}
use Rattle.std.specs.Str.{bytes_eq}
use Rattle.std.proofs.lemmas.Bool.Decides.{nat_tests}
use Rattle.std.proofs.lemmas.List.Folds.{find_at}
use Rattle.std.proofs.lemmas.Option.{slice_get_within}
use Rattle.sto_model.specs.Sizes.{part_count}
use Rattle.sto_lang.specs.declared.file.Decl.{Decl}
use Rattle.sto_lang.specs.Objects.{Declaration}
use Rattle.sto_lang.specs.Scripts.{Script, File}
use Rattle.sto_lang.specs.Sound.{IsSound}
use Rattle.sto_lang.specs.Views.{declaration}
use Rattle.sto_report_spec.specs.Orders.{TransactionPlace, transaction_at, count_in, numbers_from, IsOrder}
use Rattle.sto_report_spec.specs.Orders as orders
use Rattle.sto_report_spec.specs.Replay.{Entry, entries_of}
use Rattle.sto_report_spec.specs.Aborts.{LocalPart, Cause, Locked, Changed, Abort, part_in}
use Rattle.sto_report_spec.specs.Named.{is_space}
use Rattle.sto_report_spec.specs.NamedAborts.{aborts_in, aborts_named}
use Rattle.sto_report_spec.specs.LawfulAborts.{IsBefore, IsAfterOwn, declared_as}
use Rattle.sto_journal.specs.Journals.{entry, places}
use Rattle.sto_checker.specs.declared.told.ToldAbort.{ToldAbort}
use Rattle.sto_checker.specs.Lines.{HasContent}
use Rattle.sto_checker.specs.Written.{written_of}
use Rattle.sto_checker.specs.Reading.{place_of, IsSmall, IsCauseRead, IsAbortRead, IsTold}
use Rattle.sto_checker.specs.Right.{WroteAt, IsCauseOf, IsRightAlone, IsAbortLine}
use Rattle.sto_checker.proofs.Kept.{is_inside}
use Rattle.sto_checker.proofs.Bounds.{right_small}
use Rattle.sto_checker.proofs.Complete.{order_count}
use Rattle.sto_checker.proofs.Declared.{named_found, not_found}
use Rattle.sto_checker.specs.declared.window.Window.{Window}
use Rattle.sto_checker.specs.declared.replayed.Replayed.{Replayed}
use Rattle.sto_checker.specs.declared.abort.GivenAbort.{GivenAbort}
use Rattle.sto_checker.specs.Windows.{at_position, window_at, IsWindow}
use Rattle.sto_checker.specs.Replayed.{windows_of, IsReplayed}
use Rattle.sto_checker.specs.Given.{MayBe, IsWriterOr, IsPlaced, IsGiven, TellsAbort}
use Rattle.sto_checker.proofs.Lists.{some_at}
use Rattle.sto_checker.proofs.Named.{abort_once}
use Rattle.sto_checker.proofs.Judged.{part_by, cause_is}

-- Transactions.

has_thread : (threads : List (List Script)) (t : ℕ) → 1 ≤ count_in threads t → t < length threads
has_thread [] t l = absurd (omega (arith, l))
has_thread (scripts ∷ threads) zero l = omega arith
has_thread (scripts ∷ threads) (suc t) l = let more = has_thread threads t l in omega (arith, more)

at_place : (scripts : List Script) (position : ℕ) → 1 ≤ position → position ≤ length scripts → (s : Script) × (orders.at_position position scripts ≡ Some s)
at_place [] zero l m = absurd (omega (arith, l))
at_place [] (suc position) l m = absurd (omega (arith, m))
at_place (s ∷ scripts) zero l m = absurd (omega (arith, l))
at_place (s ∷ scripts) (suc zero) l m = (s, refl)
at_place (s ∷ scripts) (suc (suc position)) l m = at_place scripts (suc position) (omega arith) (omega (arith, m))

pub has_transaction : (threads : List (List Script)) (t position : ℕ) → 1 ≤ position → position ≤ count_in threads t → (s : Script) × (option_and_then (orders.at_position position) (slice_get threads t) ≡ Some s)
has_transaction [] t position l m = absurd (omega (arith, l, m))
has_transaction (scripts ∷ threads) zero position l m = at_place scripts position l m
has_transaction (scripts ∷ threads) (suc t) position l m = has_transaction threads t position l m

numbers_long : (first count : ℕ) → length (numbers_from first count) ≡ count
numbers_long first zero = refl
numbers_long first (suc count) = ap suc (numbers_long (suc first) count)

same_object : (a b : Declaration) → Some a ≡ Some b → a ≡ b
same_object a b e = cc

no_window_is : {A : Type 0} (w : Window) → None ≡ Some w → A
no_window_is w e = absurd cc

-- Objects by the places at which they are declared.

none_past : {X : Type 0} (xs : List X) (n : ℕ) → length xs ≤ n → slice_get xs n ≡ None
none_past [] zero l = refl
none_past [] (suc n) l = refl
none_past (x ∷ xs) zero l = absurd (omega (arith, l))
none_past (x ∷ xs) (suc n) l = none_past xs n (omega (arith, l))

first_at : {X : Type 0} (p : X → Bool) (xs : List X) (i : ℕ) → position p xs ≡ Some i → position_or_len p xs ≡ i
first_at p xs i e = by (nat_lt (position_or_len p xs) (length xs)) e
  where
    by : (b : Bool) → cond b (Some (position_or_len p xs)) None ≡ Some i → position_or_len p xs ≡ i
    by true f = cc
    by false f = absurd cc

none_first : {X : Type 0} (p : X → Bool) (xs : List X) → position p xs ≡ None → find p xs ≡ None
none_first p xs e = find_at p xs ∙ by (nat_lt (position_or_len p xs) (length xs)) refl e
  where
    past : (n m : ℕ) → nat_lt n m ≡ false → m ≤ n
    past n m f = grind (arith, nat_tests)

    by : (b : Bool) → nat_lt (position_or_len p xs) (length xs) ≡ b → cond b (Some (position_or_len p xs)) None ≡ None → slice_get xs (position_or_len p xs) ≡ None
    by true k f = absurd cc
    by false k f = none_past xs (position_or_len p xs) (past (position_or_len p xs) (length xs) k)

pub object_at : (decls : List Decl) (name : List ℕ) (i : ℕ) (d : Decl) → position (λ decl. bytes_eq name decl.name.items) decls ≡ Some i → slice_get decls i ≡ Some d
    → declared_as name (map declaration decls) ≡ Some (declaration d)
object_at decls name i d e at =
    named_found decls name d (find_at (λ (decl : Decl). bytes_eq name decl.name.items) decls ∙ ap (slice_get decls) (first_at (λ (decl : Decl). bytes_eq name decl.name.items) decls i e) ∙ at)

pub no_object : (decls : List Decl) (name : List ℕ) → position (λ decl. bytes_eq name decl.name.items) decls ≡ None → declared_as name (map declaration decls) ≡ None
no_object decls name e = not_found decls name (none_first (λ (decl : Decl). bytes_eq name decl.name.items) decls e)

-- Windows of a whole order.

module _ (file : File) (replayed : Replayed) (is : IsReplayed file replayed) (whole : IsOrder file (places replayed.past.run.lines.items)) where
  abbrev order : List TransactionPlace
  order = places replayed.past.run.lines.items

  abbrev rows : List (List Window)
  rows = windows_of replayed.windows

  -- a window is that of a transaction of the file
  pub record HasWindow (place : TransactionPlace) (w : Window) : Type 0 where
    pub window : IsWindow (entries_of file order) place w
    pub script : Script
    pub transaction : transaction_at file place ≡ Some script

  pub window_is : (place : TransactionPlace) (w : Window) → window_at rows place ≡ Some w → HasWindow place w
  window_is place w e = by (slice_get rows place.0) refl place.1 refl e
    where
      by : (o : Option (List Window)) → slice_get rows place.0 ≡ o → (p : ℕ) → place.1 ≡ p → at_position p o ≡ Some w → HasWindow place w
      by None k p q f = absurd (no_window_is w f)
      by (Some row) k zero q f = absurd (no_window_is w f)
      by (Some row) k (suc earlier) q f =
          let of_thread = is.windows.each place.0 row k in
          let l = slice_get_within row earlier w f in
          let count : length row ≡ count_in file.threads place.0 = of_thread.count ∙ ap length (whole place.0) ∙ numbers_long 1 (count_in file.threads place.0) in
          let script = has_transaction file.threads place.0 place.1 (omega (arith, q)) (omega (arith, q, l, count)) in
          let here : IsWindow (map entry replayed.past.run.lines.items) (place.0, suc earlier) w = of_thread.each earlier w f in
          record {
            window = subst (λ (es : List Entry). IsWindow es place w) is.past.run.entries (subst (λ (n : ℕ). IsWindow (map entry replayed.past.run.lines.items) (place.0, n) w) (sym q) here);
            script = script.0;
            transaction = script.1;
          }

  -- each of its transactions has one
  pub no_window : (place : TransactionPlace) (s : Script) → transaction_at file place ≡ Some s → window_at rows place ≡ None → ⊥
  no_window place s at none =
      let i = is_inside file place s at in
      let row = some_at rows place.0 (let l = i.thread in let c = is.windows.count in omega (arith, l, c)) in
      by row.0 row.1 place.1 refl i.first i.last none
    where
      by : (row : List Window) → slice_get rows place.0 ≡ Some row → (p : ℕ) → place.1 ≡ p → 1 ≤ place.1 → place.1 ≤ count_in file.threads place.0 → at_position place.1 (slice_get rows place.0) ≡ None → ⊥
      by row k zero q l m f = absurd (omega (arith, q, l))
      by row k (suc earlier) q l m f =
          let of_thread = is.windows.each place.0 row k in
          let count : length row ≡ count_in file.threads place.0 = of_thread.count ∙ ap length (whole place.0) ∙ numbers_long 1 (count_in file.threads place.0) in
          let w = some_at row earlier (omega (arith, q, m, count)) in
          let here : at_position place.1 (slice_get rows place.0) ≡ Some w.0 = ap (at_position place.1) k ∙ ap (λ (n : ℕ). at_position n (Some row)) q ∙ w.1 in
          absurd (no_window_is w.0 (sym f ∙ here))

  pub few_places : IsSound file → length order < 2 ^ 32
  few_places sound = let e = order_count file order whole is.past.inside in let l = sound.few_transactions in omega (arith, e, l)

  -- what is told of a line
  module _ (sound : IsSound file) (few : length order < 2 ^ 32) (line content : List ℕ) (text : HasContent line content) where
    named_content : (a : Abort) → aborts_named file.names line ≡ a ∷ [] → aborts_in file.names (slice_split is_space content) ≡ a ∷ []
    named_content a e = sym (abort_once file.names line content text) ∙ e

    small : (a : Abort) → IsRightAlone file order a → IsSmall a
    small a alone = right_small file order a sound whole few alone

    abbrev Reads : Option ToldAbort → Type 0
    Reads told = (a : Abort) → aborts_in file.names (slice_split is_space content) ≡ a ∷ [] → IsSmall a → IsAbortRead a told

    pub not_read : Reads None → (tries : ℕ) (before : List Abort) → IsAbortLine file tries order before line → ⊥
    not_read reads tries before h = reads h.abort (named_content h.abort h.named) (small h.abort h.right.alone)

    module _ (told : ToldAbort) (reads : Reads (Some told)) where
      pub tells : TellsAbort file order line told
      tells a e alone = reads a (named_content a e) (small a alone)

      told_is : (tries : ℕ) (before : List Abort) (h : IsAbortLine file tries order before line) → IsTold h.abort told
      told_is tries before h = tells h.abort h.named h.right.alone

      pub unknown_transaction : window_at rows (place_of told.place) ≡ None → (tries : ℕ) (before : List Abort) → IsAbortLine file tries order before line → ⊥
      unknown_transaction none tries before h =
          let t = told_is tries before h in
          no_window (place_of told.place) h.right.alone.script (ap (transaction_at file) (sym t.place) ∙ h.right.alone.transaction) none

      module _ (w : Window) (has : HasWindow (place_of told.place) w) where
        after : (tries : ℕ) (before : List Abort) (h : IsAbortLine file tries order before line) → w.least ≤ told.seen
        after tries before h =
            let t = told_is tries before h in
            let l = has.window.not_below h.abort.seen (subst (λ (p : TransactionPlace). IsAfterOwn (entries_of file order) p h.abort.seen) t.place h.right.alone.after_own) in
            let s = t.seen in
            omega (arith, l, s)

        upto : (tries : ℕ) (before : List Abort) (h : IsAbortLine file tries order before line) → told.seen ≤ w.most
        upto tries before h =
            let t = told_is tries before h in
            let l = has.window.not_above h.abort.seen (subst (λ (p : TransactionPlace). IsBefore (entries_of file order) p h.abort.seen) t.place h.right.alone.earlier) in
            let s = t.seen in
            omega (arith, l, s)

        pub too_early : told.seen < w.least → (tries : ℕ) (before : List Abort) → IsAbortLine file tries order before line → ⊥
        too_early l tries before h = let k = after tries before h in absurd (omega (arith, l, k))

        pub too_late : w.most < told.seen → (tries : ℕ) (before : List Abort) → IsAbortLine file tries order before line → ⊥
        too_late l tries before h = let k = upto tries before h in absurd (omega (arith, l, k))

        pub outside : (told.seen < w.least) ⊎ ((w.least ≤ told.seen) × (w.most < told.seen)) → (tries : ℕ) (before : List Abort) → IsAbortLine file tries order before line → ⊥
        outside (inl l) = too_early l
        outside (inr h) = too_late h.1

        -- the part that was read
        part_told : (tries : ℕ) (before : List Abort) (h : IsAbortLine file tries order before line) → part_in h.abort.cause ≡ record { object = told.cause.object.now; part = told.cause.part }
        part_told tries before h =
            ap part_in (cause_is h.abort.cause told.cause (told_is tries before h).cause) ∙ part_by (record { object = told.cause.object.now; part = told.cause.part }) told.cause.by

        named_object : (tries : ℕ) (before : List Abort) (h : IsAbortLine file tries order before line) → declared_as told.cause.object.now file.declarations ≡ Some h.right.alone.object
        named_object tries before h = ap (λ (p : LocalPart). declared_as p.object file.declarations) (sym (part_told tries before h)) ∙ h.right.alone.part.declared

        pub unknown_object : declared_as told.cause.object.now file.declarations ≡ None → (tries : ℕ) (before : List Abort) → IsAbortLine file tries order before line → ⊥
        unknown_object none tries before h = absurd (let clash : None ≡ Some h.right.alone.object = sym none ∙ named_object tries before h in cc)

        module _ (d : Declaration) (declared : declared_as told.cause.object.now file.declarations ≡ Some d) where
          same_d : (tries : ℕ) (before : List Abort) (h : IsAbortLine file tries order before line) → h.right.alone.object ≡ d
          same_d tries before h = same_object h.right.alone.object d (sym (named_object tries before h) ∙ declared)

          pub unknown_part : (told.cause.part < part_count d.shape → ⊥) → (tries : ℕ) (before : List Abort) → IsAbortLine file tries order before line → ⊥
          unknown_part wrong tries before h =
              wrong (subst (λ (x : Declaration). told.cause.part < part_count x.shape) (same_d tries before h)
              (subst (λ (p : LocalPart). p.part < part_count h.right.alone.object.shape) (part_told tries before h) h.right.alone.part.inside))

          written_is : map (λ objects. objects.items) replayed.past.written.items ≡ written_of file order
          written_is = is.past.written

          writer_read : (o : Option ℕ) → MayBe told.seen w.most (map (λ objects. objects.items) replayed.past.written.items) d.number o → IsWriterOr file order told d.number o
          writer_read None h = tt
          writer_read (Some by) h = record { later = h.later; earlier = has.window.most by h.within; written = subst (λ (l : List (List ℕ)). WroteAt l by d.number) written_is h.wrote }

          cause_read : (tries : ℕ) (before : List Abort) (h : IsAbortLine file tries order before line) → (c : Cause) → IsCauseRead c told.cause → IsCauseOf file order h.abort h.right.alone.object c
              → MayBe told.seen w.most (map (λ objects. objects.items) replayed.past.written.items) d.number told.cause.by
          cause_read tries before h (Locked part) r k = subst (MayBe told.seen w.most (map (λ objects. objects.items) replayed.past.written.items) d.number) (sym r.2) tt
          cause_read tries before h (Changed part by) r k =
              let t = told_is tries before h in
              subst (MayBe told.seen w.most (map (λ objects. objects.items) replayed.past.written.items) d.number) (sym r.2) (record {
                later = let l = k.later in let s = t.seen in omega (arith, l, s);
                within = has.window.not_above by (subst (λ (p : TransactionPlace). IsBefore (entries_of file order) p by) t.place k.earlier);
                wrote = subst (λ (l : List (List ℕ)). WroteAt l by d.number) (sym written_is) (subst (λ (x : Declaration). WroteAt (written_of file order) by x.number) (same_d tries before h) k.written);
              })

          pub wrong_writer : (MayBe told.seen w.most (map (λ objects. objects.items) replayed.past.written.items) d.number told.cause.by → ⊥) → (tries : ℕ) (before : List Abort) → IsAbortLine file tries order before line → ⊥
          wrong_writer wrong tries before h = wrong (cause_read tries before h h.abort.cause (told_is tries before h).cause h.right.alone.cause)

          -- all is right
          pub is_given : (given : GivenAbort) → given.told ≡ told → slice_get file.declarations given.object ≡ Some d → w.least ≤ told.seen → told.seen ≤ w.most → told.cause.part < part_count d.shape
              → MayBe told.seen w.most (map (λ objects. objects.items) replayed.past.written.items) d.number told.cause.by → IsGiven file order given
          is_given given same stands low high inside may =
              let placed : IsPlaced file given = record {
                script = has.script;
                object = d;
                transaction = ap (λ (x : ToldAbort). transaction_at file (place_of x.place)) same ∙ has.transaction;
                stands = stands;
                declared = ap (λ (x : ToldAbort). declared_as x.cause.object.now file.declarations) same ∙ declared;
                inside = subst (λ (x : ToldAbort). x.cause.part < part_count d.shape) (sym same) inside;
              } in
              record {
                placed = placed;
                after_own = subst (λ (x : ToldAbort). IsAfterOwn (entries_of file order) (place_of x.place) x.seen) (sym same) (has.window.least told.seen low);
                earlier = subst (λ (x : ToldAbort). IsBefore (entries_of file order) (place_of x.place) x.seen) (sym same) (has.window.most told.seen high);
                cause = subst (λ (x : ToldAbort). IsWriterOr file order x d.number x.cause.by) (sym same) (writer_read told.cause.by may);
              }
