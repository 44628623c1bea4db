-- A record is lawful.
use Rattle.std.specs.Prelude.{◌≡◌, ◌<◌, ℕ, zero, suc, ℤ, pos, true, false, Option, Some, None, List, [], ◌∷◌, map, length, replicate, slice_set, IsTrue, refl}
use Rattle.std.specs.Int.{w64}
use Rattle.std.specs.Int.RustNames.{FitsSigned}
use Rattle.std.proofs.Common.{ap, sym, ◌∙◌, arith, subst, inl, inr}
use Rattle.sto_part.specs.Parts.{part_of}
use Rattle.sto_part.specs.Changes.{wrapped_sum, applied}
use Rattle.sto_part.specs.declared.change.Change.{Change}
use Rattle.sto_part.specs.declared.change.Change.TheVariants as C
use Rattle.sto_item.specs.Pending.{is_keep}
use Rattle.sto_model.specs.declared.call.Call.{Call}
use Rattle.sto_model.specs.declared.operation.Operation.{Operation}
use Rattle.sto_model.specs.declared.operation.Operation.TheVariants.{Get, Set, Add, Test as TestWord, Take, Put, Remove, Has, Len, Next, Count, Scan, Push, Pop}
use Rattle.sto_model.specs.Calls.{call_of}
use Rattle.sto_model.specs.Rows.{value_at, with_row}
use Rattle.sto_model.specs.PlainReplies.{is_write}
use Rattle.sto_model.specs.PlainReplies as T
use Rattle.sto_model.specs.Objects.{value_or_absent}
use Rattle.sto_model.specs.SequentialObjects.{reply_to, state_after}
use Rattle.sto_type.specs.Known.{Parts, WordsFit}
use Rattle.sto_type.specs.Meaning.{Meaning, IsLawful, IsUpdated}
use Rattle.sto_type.specs.Telling.{Tell}
use Rattle.sto_type.specs.OneObject.{IsTold, IsType}
use Rattle.sto_type.specs.OneObjectLaw.{one_object_lawful}
use Rattle.sto_type.specs.Numbered.{numbered, index_of, at_index, value_numbered, index_some, with_numbered}
use Rattle.sto_type.specs.Words.{word, is_equal, tells_equal, at_word, at_word-applied, at_word-changes, at_word-width, at_word-fits, ChangeFits, fits_after, widths_after, owned_all}
use Rattle.sto_record.specs.Recorded.{record_machine, set_at, add_at, record_telling, takes_by, IsRecord, RecordTakes, telling, record_meaning}

-- the operations that a record takes
by_operation :
    {P : Type 0} (operation : Operation) → IsTrue (takes_by operation) → (operation ≡ Get → P) → (operation ≡ Set → P) → (operation ≡ Add → P) → (operation ≡ Scan → P) → P
by_operation Get h get set add scan = get refl
by_operation Set h get set add scan = set refl
by_operation Add h get set add scan = add refl
by_operation TestWord h get set add scan = cc
by_operation Take h get set add scan = cc
by_operation Put h get set add scan = cc
by_operation Remove h get set add scan = cc
by_operation Has h get set add scan = cc
by_operation Len h get set add scan = cc
by_operation Next h get set add scan = cc
by_operation Count h get set add scan = cc
by_operation Scan h get set add scan = scan refl
by_operation Push h get set add scan = cc
by_operation Pop h get set add scan = cc

by_call :
    (P : Call → Type 0) → ((a b : ℤ) → P (call_of 0 Get a b)) → ((a b : ℤ) → FitsSigned w64 b → P (call_of 0 Set a b)) → ((a b : ℤ) → P (call_of 0 Add a b)) → ((a b : ℤ) → P (call_of 0 Scan a b))
    → (call : Call) → RecordTakes call → P call
by_call P get set add scan call t =
    let same : (o : Operation) → call.operation ≡ o → call ≡ call_of 0 o call.a call.b = λ o e i. record { object = t.object i; operation = e i; a = call.a; b = call.b; c = t.third i } in
    by_operation call.operation t.taken
    (λ e. subst P (sym (same Get e)) (get call.a call.b))
    (λ e. subst P (sym (same Set e)) (set call.a call.b t.fits_too))
    (λ e. subst P (sym (same Add e)) (add call.a call.b))
    (λ e. subst P (sym (same Scan e)) (scan call.a call.b))

-- contents of one part
heads : (x y : ℕ) (xs ys : List ℕ) → x ∷ xs ≡ y ∷ ys → (x ≡ y) × (xs ≡ ys)
heads x y xs ys e = (cc, cc)

apart : (w : ℕ) (c : Parts) → IsRecord w c → (ws : List ℤ) × (length ws ≡ w) × (c ≡ ws ∷ [])
apart w [] v = let e = v.widths in cc
apart w (ws ∷ []) v = (ws, (heads (length ws) w [] [] v.widths).0, refl)
apart w (ws ∷ us ∷ c) v = let e : length us ∷ map length c ≡ [] = (heads (length ws) w (length us ∷ map length c) [] v.widths).1 in cc

module _ (w : ℕ) (first : ℤ) where
  abbrev m : Meaning
  m = record_meaning w first

  module _ (ws : List ℤ) (l : length ws ≡ w) (v : IsRecord w (ws ∷ [])) where
    abbrev c : Parts
    c = ws ∷ []

    value : (a : ℤ) → value_at (numbered 0 ws) a ≡ at_index (index_of w a) ws
    value a = value_numbered ws a ∙ ap (λ n. at_index (index_of n a) ws) l

    left_alone : (call : Call) → numbered 0 ws ∷ [] ≡ state_after m.machines call (numbered 0 ws ∷ [])
        → is_write call.operation (reply_to m.machines call (numbered 0 ws ∷ [])) ≡ false → IsUpdated m call c []
    left_alone call r z = record { ordered = (tt, tt); owned = tt; widths = tt; valid = v; rows = r; writes = z }

    -- one word changes
    changed : (call : Call) (i : ℕ) (ch : Change) → call.object ≡ 0 → i < w → is_keep ch ≡ false → ChangeFits ch
        → numbered 0 (slice_set ws i (applied ch (word ws i))) ∷ [] ≡ state_after m.machines call (numbered 0 ws ∷ [])
        → is_write call.operation (reply_to m.machines call (numbered 0 ws ∷ [])) ≡ true
        → IsUpdated m call c ((0, at_word w i ch) ∷ [])
    changed call i ch o s k f r z =
        let fitting : length ws ≡ length (at_word w i ch) = l ∙ sym (at_word-width w i ch) in
        record {
          ordered = ((omega arith, tt), (at_word-changes w i ch s k, tt));
          owned = owned_all (w ∷ []) call.object ((0, at_word w i ch) ∷ []) c o v.widths (omega arith, fitting, tt);
          widths = (omega arith, fitting, tt);
          valid = record { widths = widths_after ((0, at_word w i ch) ∷ []) c ∙ v.widths; fits = fits_after ((0, at_word w i ch) ∷ []) c (at_word-fits w i ch f, tt) v.fits };
          rows = ap (λ xs. numbered 0 xs ∷ []) (at_word-applied w i ch ws s) ∙ r;
          writes = z;
        }

    -- outside
    absent : (call : Call) → IsUpdated m call c [] → T.Absent ≡ reply_to m.machines call (numbered 0 ws ∷ []) → IsTold m call (Tell T.Absent [] []) c
    absent call u e = record {
      within = λ q h. absurd h;
      observed = tt;
      inside = tt;
      holds = tt;
      same_told = λ d x a. refl;
      same_updates = λ d x a. refl;
      tells = e;
      updated = u;
    }

    get_told : (a b : ℤ) (q : Option ℕ) → index_of w a ≡ q → IsTold m (call_of 0 Get a b) (record_telling w Get q b) c
    get_told a b None e =
        absent (call_of 0 Get a b)
        (left_alone (call_of 0 Get a b) refl (ap (λ o. is_write Get (value_or_absent o)) (value a ∙ ap (λ o. at_index o ws) e)))
        (sym (ap value_or_absent (value a ∙ ap (λ o. at_index o ws) e)))
    get_told a b (Some i) e =
        let s : i < w = (index_some w a i e).1 in
        let x : value_at (numbered 0 ws) a ≡ Some (word ws i) = value a ∙ ap (λ o. at_index o ws) e in
        record {
          within = λ q h. elim h [ inl z ↦ omega (arith, z) | inr z ↦ absurd z ];
          observed = (inl refl, tt);
          inside = (s, tt);
          holds = (is_equal c 0 i (word ws i) v.fits refl, tt);
          same_told = λ d y a. ap T.Value (tells_equal d c 0 i (word ws i) [] y.fits a);
          same_updates = λ d y a. refl;
          tells = sym (ap value_or_absent x);
          updated = left_alone (call_of 0 Get a b) refl (ap (λ o. is_write Get (value_or_absent o)) x);
        }

    set_told : (a b : ℤ) (q : Option ℕ) → FitsSigned w64 b → index_of w a ≡ q → IsTold m (call_of 0 Set a b) (record_telling w Set q b) c
    set_told a b None f e =
        let x : value_at (numbered 0 ws) a ≡ None = value a ∙ ap (λ o. at_index o ws) e in
        absent (call_of 0 Set a b)
        (left_alone (call_of 0 Set a b) (sym (ap (λ o. (set_at o a b (numbered 0 ws)).after ∷ []) x)) (ap (λ o. is_write Set (set_at o a b (numbered 0 ws)).reply) x))
        (sym (ap (λ o. (set_at o a b (numbered 0 ws)).reply) x))
    set_told a b (Some i) f e =
        let p : (a ≡ pos i) × (i < w) = index_some w a i e in
        let x : value_at (numbered 0 ws) a ≡ Some (word ws i) = value a ∙ ap (λ o. at_index o ws) e in
        let rows : with_row (numbered 0 ws) a b ≡ numbered 0 (slice_set ws i b) = ap (λ k. with_row (numbered 0 ws) k b) p.0 ∙ with_numbered ws i b (omega (arith, l, p.1)) in
        record {
          within = λ q h. absurd h;
          observed = tt;
          inside = tt;
          holds = tt;
          same_told = λ d y a. refl;
          same_updates = λ d y a. refl;
          tells = sym (ap (λ o. (set_at o a b (numbered 0 ws)).reply) x);
          updated = changed (call_of 0 Set a b) i (C.Put b) refl p.1 refl f
              (sym (ap (λ o. (set_at o a b (numbered 0 ws)).after ∷ []) x ∙ ap (λ r. r ∷ []) rows)) (ap (λ o. is_write Set (set_at o a b (numbered 0 ws)).reply) x);
        }

    add_told : (a b : ℤ) (q : Option ℕ) → index_of w a ≡ q → IsTold m (call_of 0 Add a b) (record_telling w Add q b) c
    add_told a b None e =
        let x : value_at (numbered 0 ws) a ≡ None = value a ∙ ap (λ o. at_index o ws) e in
        absent (call_of 0 Add a b)
        (left_alone (call_of 0 Add a b) (sym (ap (λ o. (add_at o a b (numbered 0 ws)).after ∷ []) x)) (ap (λ o. is_write Add (add_at o a b (numbered 0 ws)).reply) x))
        (sym (ap (λ o. (add_at o a b (numbered 0 ws)).reply) x))
    add_told a b (Some i) e =
        let p : (a ≡ pos i) × (i < w) = index_some w a i e in
        let x : value_at (numbered 0 ws) a ≡ Some (word ws i) = value a ∙ ap (λ o. at_index o ws) e in
        let y : ℤ = wrapped_sum (word ws i) b in
        let rows : with_row (numbered 0 ws) a y ≡ numbered 0 (slice_set ws i y) = ap (λ k. with_row (numbered 0 ws) k y) p.0 ∙ with_numbered ws i y (omega (arith, l, p.1)) in
        record {
          within = λ q h. absurd h;
          observed = tt;
          inside = tt;
          holds = tt;
          same_told = λ d z a. refl;
          same_updates = λ d z a. refl;
          tells = sym (ap (λ o. (add_at o a b (numbered 0 ws)).reply) x);
          updated = changed (call_of 0 Add a b) i (C.Add b) refl p.1 refl tt
              (sym (ap (λ o. (add_at o a b (numbered 0 ws)).after ∷ []) x ∙ ap (λ r. r ∷ []) rows)) (ap (λ o. is_write Add (add_at o a b (numbered 0 ws)).reply) x);
        }

    scan_told : (a b : ℤ) → IsTold m (call_of 0 Scan a b) (record_telling w Scan (index_of w a) b) c
    scan_told a b = record {
      within = λ q h. elim h [ inl z ↦ omega (arith, z) | inr z ↦ absurd z ];
      observed = (inl refl, tt);
      inside = tt;
      holds = (refl, tt);
      same_told = λ d y a. ap (λ xs. T.Pairs (numbered 0 xs)) a.0;
      same_updates = λ d y a. refl;
      tells = refl;
      updated = left_alone (call_of 0 Scan a b) refl refl;
    }

  abbrev ToldAt : Call → Type 0
  ToldAt call = (c : Parts) → IsRecord w c → IsTold m call (telling w call) c

  on_parts : (call : Call) → ((ws : List ℤ) → length ws ≡ w → IsRecord w (ws ∷ []) → IsTold m call (telling w call) (ws ∷ [])) → ToldAt call
  on_parts call each c v =
      let s : (ws : List ℤ) × (length ws ≡ w) × (c ≡ ws ∷ []) = apart w c v in
      subst (λ (d : Parts). IsTold m call (telling w call) d) (sym s.2) (each s.0 s.1 (subst (IsRecord w) s.2 v))

  told : (call : Call) → RecordTakes call → ToldAt call
  told = by_call ToldAt
      (λ a b. on_parts (call_of 0 Get a b) (λ ws l v. get_told ws l v a b (index_of w a) refl))
      (λ a b f. on_parts (call_of 0 Set a b) (λ ws l v. set_told ws l v a b (index_of w a) f refl))
      (λ a b. on_parts (call_of 0 Add a b) (λ ws l v. add_told ws l v a b (index_of w a) refl))
      (λ a b. on_parts (call_of 0 Scan a b) (λ ws l v. scan_told ws l v a b))

  length_opened : (n : ℕ) → length (replicate {A = ℤ} n first) ≡ n
  length_opened zero = refl
  length_opened (suc n) = ap suc (length_opened n)

  opened_fits : FitsSigned w64 first → (n : ℕ) → WordsFit (replicate n first)
  opened_fits f zero = tt
  opened_fits f (suc n) = (f, opened_fits f n)

  pub record_type : FitsSigned w64 first → IsType m (telling w)
  record_type f = record {
    opening = record { widths = ap (λ n. n ∷ []) (length_opened w); fits = (opened_fits f w, tt) };
    widths = λ c v. v.widths;
    fits = λ c v. v.fits;
    object = λ call t. t.object;
    calls = λ call c t v. told call t c v;
  }

  pub record_lawful : FitsSigned w64 first → IsLawful m
  record_lawful f = one_object_lawful (record_machine w first) (w ∷ []) (replicate w first ∷ []) (IsRecord w) (λ c. numbered 0 (part_of c 0)) RecordTakes (telling w) (record_type f) refl
