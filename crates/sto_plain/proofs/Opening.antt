-- What opens words, and what tells their contents.
use Rattle.std.proofs.Common.{◌≡◌, ◌<◌, ◌≤◌, ◌+◌, ℕ, zero, suc, ℤ, List, [], ◌∷◌, ◌++◌, length, map, take, get_or, replicate, sym, refl, ap, ◌∙◌, subst, arith}
use Rattle.std.specs.Prelude.{Some, slice_get}
use Rattle.std.proofs.lemmas.Option.{slice_get_within, get_or_from_slice_get}
use Rattle.std.proofs.lemmas.List.{ext_get_or, length-replicate}
use Rattle.std.proofs.Math.Seq.{take-suc}
use mathlib.Core.Option.{some, some-injective, some-ne-none}
use lib.ListN.{get_elem?, get_or-map}
use Rattle.sto_version.specs.declared.Version.{Version}
use Rattle.sto_core.specs.declared.view.Held.{Held}
use Rattle.sto_core.specs.declared.view.Phase.{Phase}
use Rattle.sto_core.specs.declared.view.Phase.TheVariants.{Idle, Reading, Looking, Locking, Testing, Drawn, Won, Lost}
use Rattle.sto_core.specs.declared.view.View.{View}
use Rattle.sto_core.specs.Lists.{Each}
use Rattle.sto_core.specs.History.{Contents, Validity, Log, contents_as_of}
use Rattle.sto_core.specs.Views.{count, if_won}
use Rattle.sto_core.specs.Core.{Part, Core, no_part}
use Rattle.sto_core.specs.Opened.{opened_view, opened_views, opened_part, opened_core}
use Rattle.sto_core.specs.Rule.{Settled}
use Rattle.sto_core.proofs.Parts.{at_place, length_of_map, parts_many}
use Rattle.sto_core.proofs.Opened.{opened_holds}
use Rattle.sto_core.proofs.Valid.{part_after, widths_after}
use Rattle.sto_core.specs.Words.{parts_shown, core_shown}
use Rattle.sto_plain.specs.Kept.{IsSeated, Kept, AreUpToDate}

-- one more part is copied
pub one_more : (made contents : List (List ℤ)) (p : ℕ) (words copy : List ℤ) → made ≡ take p contents
    → slice_get contents p ≡ Some words → copy ≡ words
    → made ++ copy ∷ [] ≡ take (p + 1) contents
one_more made contents p words copy so_far is same =
    let first : made ++ copy ∷ [] ≡ take p contents ++ get_or contents p [] ∷ [] =
    λ j. so_far j ++ (same ∙ sym (get_or_from_slice_get contents p words [] is)) j ∷ [] in
    let next : take (suc p) contents ≡ take p contents ++ get_or contents p [] ∷ [] =
    take-suc contents p [] (slice_get_within contents p words is) in
    let plus : p + 1 ≡ suc p = omega arith in
    first ∙ (sym next ∙ ap (λ (n : ℕ). take n contents) (sym plus))

-- versions that are all free with ticket 0 show the opening parts
pub opening_shown : (contents : List (List ℤ))
    → parts_shown (replicate (length contents) (record { 0 = 0 })) contents ≡ map opened_part contents
opening_shown [] = refl
opening_shown (ws ∷ cs) = ap (λ (l : List Part). opened_part ws ∷ l) (opening_shown cs)

-- the core state of words that were just opened
pub opening_is : (sizes : List ℕ) (opening : Contents) (passes many : ℕ) (statuses : List ℕ)
    (versions : List Version) (contents : Contents) (views : List View)
    → statuses ≡ replicate passes 0 → versions ≡ replicate many (record { 0 = 0 }) → many ≡ length opening
    → contents ≡ opening → views ≡ opened_views sizes opening 0 passes
    → core_shown 0 statuses versions contents views ≡ opened_core sizes opening passes
opening_is sizes opening passes many statuses versions contents views statuses_are versions_are many_is
    contents_are views_are =
    let same : versions ≡ replicate (length opening) (record { 0 = 0 }) =
    versions_are ∙ ap (λ (n : ℕ). replicate n (record { 0 = 0 })) many_is in
    let parts : parts_shown versions contents ≡ map opened_part opening =
    (λ j. parts_shown (same j) (contents_are j)) ∙ opening_shown opening in
    λ j. record { clock = 0; statuses = statuses_are j; parts = parts j; views = views_are j }

module _ (sizes : List ℕ) (opening : Contents) where
  -- the passes of words that were just opened
  views_many : (k n : ℕ) → length (opened_views sizes opening k n) ≡ n
  views_many k zero = refl
  views_many k (suc n) = ap suc (views_many (suc k) n)

  seated_from : (k n j : ℕ) (v : View) (ticket : ℕ) → get_elem? (opened_views sizes opening k n) j ≡ some v
      → IsSeated (k + j) ticket v
  seated_from k zero j v ticket is = absurd (some-ne-none v (sym is))
  seated_from k (suc n) zero v ticket is =
      subst (IsSeated (k + 0) ticket) (some-injective (opened_view sizes opening k) v is)
      (record { number = (omega arith); live = (omega arith); remembers = refl })
  seated_from k (suc n) (suc j) v ticket is =
      let same : suc k + j ≡ k + suc j =
      omega arith in subst (λ (m : ℕ). IsSeated m ticket v) same (seated_from (suc k) n j v ticket is)

  -- what is kept holds of them
  pub opening_kept : (valid : Validity) (passes : ℕ) → valid sizes opening → 1 ≤ passes → passes ≤ 65536
      → Kept valid (replicate passes 0) (opened_core sizes opening passes)
  opening_kept valid passes ok some_pass few = record {
    sizes = sizes;
    opening = opening;
    rule = opened_holds sizes opening valid passes ok few;
    some_pass = subst (λ (n : ℕ). 0 < n) (sym (views_many 0 passes)) some_pass;
    tickets_of_all = length-replicate passes 0 ∙ sym (views_many 0 passes);
    seated = λ pass v is. let same : 0 + pass ≡ pass =
        omega arith in
        subst (λ (m : ℕ). IsSeated m (get_or (replicate {A = ℕ} passes 0) pass 0) v) same
        (seated_from 0 passes pass v (get_or (replicate passes 0) pass 0) is);
  }

-- where nobody holds a part, every part is settled
unheld_won : (h : Phase) → if_won h 0 ≡ 0
unheld_won Idle = refl
unheld_won Reading = refl
unheld_won (Looking r) = refl
unheld_won Locking = refl
unheld_won (Testing r) = refl
unheld_won (Drawn t) = refl
unheld_won (Won t puts) = refl
unheld_won (Lost t) = refl

none_won : (views : List View) (p : ℕ) → Each (λ (v : View). v.held ≡ []) views → Settled views p
none_won [] p none = refl
none_won (v ∷ vs) p none =
    let here : if_won v.phase (count p v.held) ≡ 0 =
    ap (λ (l : List Held). if_won v.phase (count p l)) (none zero v refl) ∙ unheld_won v.phase in
    let rest = none_won vs p (λ j u is. none (suc j) u is) in
    omega (arith, here, rest)

-- the words of the parts that contents show
pub words_shown : (versions : List Version) (contents : List (List ℤ)) → length versions ≡ length contents
    → map (λ (q : Part). q.words) (parts_shown versions contents) ≡ contents
words_shown [] [] same = refl
words_shown [] (ws ∷ cs) same = absurd (omega (arith, same))
words_shown (n ∷ ns) [] same = absurd (omega (arith, same))
words_shown (n ∷ ns) (ws ∷ cs) same =
    ap (λ (l : List (List ℤ)). ws ∷ l) (words_shown ns cs (omega (arith, same)))

module _ (valid : Validity) (tickets : List ℕ) (core : Core) (kept : Kept valid tickets core)
    (none : Each (λ (v : View). v.held ≡ []) core.views) where
  abbrev log : Log
  log = kept.rule.0.log

  abbrev words : List (List ℤ)
  words = map (λ (q : Part). q.words) core.parts

  abbrev all : List (List ℤ)
  all = contents_as_of kept.opening log core.clock

  many_words : length words ≡ length core.parts
  many_words = length_of_map (λ (q : Part). q.words) core.parts

  many : length words ≡ length all
  many =
      let widths = widths_after kept.rule.1 core.clock in
      let long : length all ≡ length kept.opening =
      sym (length_of_map (λ (ws : List ℤ). length ws) all)
      ∙ (ap length widths ∙ length_of_map (λ (ws : List ℤ). length ws) kept.opening) in
      many_words ∙ (parts_many kept.rule.1 ∙ sym long)

  each_part : (p : ℕ) → p < length words → get_or words p [] ≡ get_or all p []
  each_part p lt =
      let there : p < length core.parts = subst (λ (n : ℕ). p < n) many_words lt in
      let settled =
      kept.rule.1.settled p _ (at_place no_part core.parts p there) (none_won core.views p none) in
      get_or-map (λ (q : Part). q.words) core.parts p no_part
      ∙ (settled.1 ∙ sym (part_after kept.rule.1 p core.clock (omega arith)))

  -- the words of all parts are those after all commits
  pub up_to_date : AreUpToDate valid core words
  up_to_date = record {
    sizes = kept.sizes;
    opening = kept.opening;
    past = kept.rule.0;
    rule = kept.rule.1;
    are = ext_get_or [] words all many each_part;
  }
