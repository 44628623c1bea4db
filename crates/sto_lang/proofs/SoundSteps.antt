-- A line without a fault keeps what holds of the lines before it.
use Rattle.std.proofs.Common.{◌≡◌, ◌+◌, ◌≤◌, ℕ, suc, List, [], ◌∷◌, ◌++◌, length, refl, ap, sym, ◌∙◌, arith, Bool, true, false, not, ◌&&◌, ◌||◌, Option, None, Some, is_some, is_none, nat_lt, subst, cond, map, get_or, ℤ, inl, inr, ◌<◌}
use Rattle.std.specs.Prelude.{◌==◌, ◌⊎◌}
use Rattle.std.specs.Prelude.{All}
use Rattle.std.specs.Option.{option_map}
use Rattle.std.specs.List.{list_all, sum_by}
use Rattle.std.proofs.lemmas.List.{length_push}
use Rattle.std.proofs.lemmas.List.Elements.{All-nil, All-cons, All-head, All-tail, All-push, All-map, All-weaker}
use Rattle.std.proofs.lemmas.List.Sums.{AllPass-from_list_all, sum_by-cons, sum_by_push}
use Rattle.std.proofs.lemmas.Bool.Decides.{nat_tests}
use Rattle.sto_model.specs.declared.shape.Shape.{Shape}
use Rattle.sto_model.specs.declared.shape.Shape.TheVariants as shapes
use Rattle.sto_syntax.specs.declared.declared.Declared.{Declared}
use Rattle.sto_syntax.specs.declared.declared.Declared.TheVariants as declares
use Rattle.sto_syntax.specs.Words.{is_name}
use Rattle.sto_syntax.specs.Numbers.{operands_of, has_bad_number}
use Rattle.sto_syntax.specs.Forms.{ThreadWord, Numbered, Named, ScheduleEntry, Form, VersionLine, DeclareLine, ThreadLine, BeginLine, CallLine, SumLine, DiffLine, IfLine, ElseLine, RepeatLine, EndLine, CancelLine, CommitLine, ScheduleLine, is_empty}
use Rattle.sto_lang.specs.declared.file.Turns.{Turns}
use Rattle.sto_lang.specs.declared.fault.FaultKind.TheVariants.{BadNumber, WrongPlace, TakenName, UnknownName, WrongKind, OutOfLimits}
use Rattle.sto_lang.specs.Scripts.{Script}
use Rattle.sto_model.specs.Sizes.{part_count, word_count}
use Rattle.sto_lang.specs.Shapes.{natural, in_range, in_order, most_length, is_in_ranges, shape_of}
use Rattle.sto_lang.specs.Objects.{Object, shapes_in, object_place, part_total, word_total}
use Rattle.std.specs.Str.{bytes_eq}
use Rattle.std.specs.List.{list_any}
use Rattle.std.proofs.lemmas.List.{map-append}
use Rattle.sto_lang.specs.Drafts.{Draft, OpenTransaction, variables_in, blocks_in, with_inner, script_of, with_script, with_commit, thread_number, numbered_name, name_or, turns_of, with_form, transaction_count, weight_total}
use Rattle.sto_lang.specs.Places.{has_place}
use Rattle.sto_lang.specs.Uses.{is_taken, is_unknown, asks_unknown, is_known, is_known_thread, has_wrong_kind}
use Rattle.sto_lang.specs.Limits.{is_beyond, is_heavy, is_turn, has_range, has_thread, is_in_range}
use Rattle.sto_lang.specs.Faults.{fault_of}
use Rattle.sto_lang.specs.Sound.{HasRanges, AllDiffer, numbered_from, NameThreads, IsSoundScript, IsTurnOf, IsSchedule}
use Rattle.sto_lang.proofs.FittingLemmas.{fits, declared, few_threads, threads_fit, second}
use Rattle.sto_lang.proofs.LimitLemmas.{length_most}
use Rattle.sto_lang.proofs.ObjectLemmas as rooms
use Rattle.sto_lang.proofs.SoundForms.{NamesWell, IsOfVersion}
use Rattle.sto_lang.proofs.SoundDrafts.{IsSoundBegun, IsSoundInside, count_inside, IsSoundDraft}
use Rattle.sto_lang.proofs.SoundPlaces.{both, place_within}
use Rattle.sto_lang.proofs.Differing.{list_any_map, differ_push, fresh, numbers_name, numbers_last, numbers_differ}
use Rattle.sto_lang.proofs.SoundLines.{natural_in_range, CallsWell, inner_sound}

-- a line without a fault, by its tests
pub record HasNoFault (d : Draft) (later : List (List ℕ)) (form : Form) : Type 0 where
  pub placed : has_place d later form ≡ true
  pub free : is_taken d form ≡ false
  pub known : is_unknown d form ≡ false
  pub fitting : has_wrong_kind d form ≡ false
  pub within : is_beyond d form ≡ false

by_tests : (d : Draft) (later : List (List ℕ)) (form : Form) (number place taken unknown wrong beyond : Bool) → has_place d later form ≡ place → is_taken d form ≡ taken → is_unknown d form ≡ unknown → has_wrong_kind d form ≡ wrong → is_beyond d form ≡ beyond
    → cond number (Some BadNumber) (cond (not place) (Some WrongPlace) (cond taken (Some TakenName) (cond unknown (Some UnknownName) (cond wrong (Some WrongKind) (cond beyond (Some OutOfLimits) None))))) ≡ None
    → HasNoFault d later form
by_tests d later form true place taken unknown wrong beyond p t u w b e = absurd cc
by_tests d later form false false taken unknown wrong beyond p t u w b e = absurd cc
by_tests d later form false true true unknown wrong beyond p t u w b e = absurd cc
by_tests d later form false true false true wrong beyond p t u w b e = absurd cc
by_tests d later form false true false false true beyond p t u w b e = absurd cc
by_tests d later form false true false false false true p t u w b e = absurd cc
by_tests d later form false true false false false false p t u w b e = record { placed = p; free = t; known = u; fitting = w; within = b }

pub no_fault : (d : Draft) (later : List (List ℕ)) (form : Form) → fault_of d later form ≡ None → HasNoFault d later form
no_fault d later form e =
    by_tests d later form (has_bad_number form) (has_place d later form) (is_taken d form) (is_unknown d form) (has_wrong_kind d form) (is_beyond d form) refl refl refl refl refl e

pub neither : (a b : Bool) → (a || b) ≡ false → (a ≡ false) × (b ≡ false)
neither true b e = absurd cc
neither false b e = (refl, e)

pub denied : (b : Bool) → not b ≡ false → b ≡ true
denied true e = refl
denied false e = absurd cc

not_above : (m n : ℕ) → nat_lt m n ≡ false → n ≤ m
not_above m n e = grind (arith, nat_tests)

-- outside a transaction
pub nothing_begun : (o : Option OpenTransaction) → is_none o ≡ true → o ≡ None
nothing_begun None e = refl
nothing_begun (Some t) e = absurd cc

nothing_inside : (shapes : List Shape) (o : Option OpenTransaction) → o ≡ None → IsSoundInside shapes o
nothing_inside shapes None e = tt
nothing_inside shapes (Some t) e = absurd cc

no_scripts : (P : Script → Type 0) (threads : List (List Script)) → is_empty threads ≡ true → All (All P) threads
no_scripts P [] e = All-nil (All P)
no_scripts P (thread ∷ threads) e = absurd cc

ranges_2 : (v : ℕ) (shape : Shape) → HasRanges v shape → HasRanges 2 shape
ranges_2 v (shapes.Single value) h = tt
ranges_2 v (shapes.Counter value) h = tt
ranges_2 v (shapes.Array len value) h = (h.0, omega (arith, h.1, length_most v))
ranges_2 v (shapes.Hash buckets places) h = h
ranges_2 v (shapes.Tree leaves) h = h
ranges_2 v (shapes.Vector capacity) h = (refl, h.1)

first_of : (v : ℕ) → (v ≡ 1) ⊎ (v ≡ 2) → (v == 2) ≡ false → v ≡ 1
first_of v (inl e) h = e
first_of v (inr e) h = absurd (let same : (v == 2) ≡ true = ap (λ w. w == 2) e in cc)

is_second : (v : ℕ) → (v == 2) ≡ true → v ≡ 2
is_second v e = grind (arith, nat_tests)

declared_ranges : (v : ℕ) (declared : Declared) → IsOfVersion v declared → is_in_ranges v declared ≡ true → HasRanges v (shape_of declared)
declared_ranges v (declares.Box value) k e = tt
declared_ranges v (declares.Counter value) k e = tt
declared_ranges v (declares.Array len value) k e = natural_in_range 1 (most_length v) len e
declared_ranges v (declares.Hash buckets places) k e =
    let parts = both (in_range 1 1024 buckets) (in_range 1 64 places) e in
    (natural_in_range 1 1024 buckets parts.0, natural_in_range 1 64 places parts.1)
declared_ranges v (declares.Tree leaves) k e = natural_in_range 1 256 leaves e
declared_ranges v (declares.Vector capacity) k e = (is_second v k, natural_in_range 1 4096 capacity e)

free_name : (name : List ℕ) (objects : List Object) → is_some (object_place name objects) ≡ false → list_any (bytes_eq name) (map (λ o. o.name) objects) ≡ false
free_name name objects e = list_any_map (bytes_eq name) (λ o. o.name) objects ∙ fresh (λ o. bytes_eq name o.name) objects e

declare_sound : (d : Draft) (later : List (List ℕ)) (name : List ℕ) (what : Declared) → IsSoundDraft d → NamesWell d.version (DeclareLine name what) → HasNoFault d later (DeclareLine name what) → IsSoundDraft (with_form d (DeclareLine name what))
declare_sound d later name what s named n =
    let o : Object = record { name = name; shape = shape_of what } in
    let room = declared d name what n.within in
    let space = rooms.fits d.version d.objects (shape_of what) room.1 in
    let shapes = in_order (shapes_in (d.objects ++ o ∷ [])) in
    record {
      versioned = s.versioned;
      named = All-push (λ o. is_name o.name ≡ true) d.objects o s.named named.0;
      own_names = subst AllDiffer (sym (map-append (λ o. o.name) d.objects (o ∷ []))) (differ_push (map (λ o. o.name) d.objects) name (free_name name d.objects n.free) s.own_names);
      thread_names = s.thread_names;
      few_objects = omega (arith, length_push d.objects o, space.few);
      in_ranges = All-push (λ o. HasRanges d.version o.shape) d.objects o s.in_ranges (declared_ranges d.version what named.1 room.0);
      few_parts = omega (arith, sum_by_push (λ object. part_count object.shape) d.objects o, space.few_parts);
      few_words = omega (arith, sum_by_push (λ object. word_count object.shape) d.objects o, space.few_words);
      few_threads = s.few_threads;
      few_transactions = s.few_transactions;
      light = s.light;
      sound_scripts = no_scripts (IsSoundScript shapes) d.threads n.placed;
      sound_inside = nothing_inside shapes d.inside (s.begun_after n.placed);
      begun_after = s.begun_after;
      scheduled = s.scheduled;
    }

turn_more : (n m : ℕ) → n ≤ m → (turns : Turns) → IsTurnOf n turns → IsTurnOf m turns
turn_more n m l turns h = record { has_thread = omega (arith, h.has_thread, l); has_steps = h.has_steps }

schedule_more : (n m : ℕ) → n ≤ m → (schedule : Option (List Turns)) → IsSchedule n schedule → IsSchedule m schedule
schedule_more n m l None h = tt
schedule_more n m l (Some schedule) h = All-weaker (IsTurnOf n) (IsTurnOf m) (turn_more n m l) schedule h

-- a thread's name differs from those before it
named_more : (d : Draft) (later : List (List ℕ)) (name : Option (List ℕ)) → IsSoundDraft d → NamesWell d.version (ThreadLine name) → HasNoFault d later (ThreadLine name)
    → NameThreads d.version (length (d.threads ++ [] ∷ [])) (d.names ++ name_or name (length d.names) ∷ [])
named_more d later (Some name) s named n =
    let t = s.thread_names in
    record {
      each = omega (arith, length_push d.names name, length_push d.threads [], t.each);
      are_names = All-push (λ n. is_name n ≡ true) d.names name t.are_names named.1;
      differ = differ_push d.names name (fresh (bytes_eq name) d.names n.free) t.differ;
      numbered = λ e. absurd (let first : (d.version == 2) ≡ false = ap (λ v. v == 2) e in let second : (d.version == 2) ≡ true = named.0 in cc);
    }
named_more d later None s named n =
    let t = s.thread_names in
    let count = length d.names in
    let one : d.version ≡ 1 = first_of d.version s.versioned named in
    let few : count + 1 ≤ 64 = omega (arith, t.each, threads_fit d None n.within) in
    let as_numbered : d.version ≡ 1 → d.names ≡ numbered_from 0 count = λ e. t.numbered e ∙ ap (numbered_from 0) (sym t.each) in
    let longer : suc count ≡ length (d.threads ++ [] ∷ []) = omega (arith, t.each, length_push d.threads []) in
    record {
      each = omega (arith, length_push d.names (numbered_name count), longer);
      are_names = All-push (λ n. is_name n ≡ true) d.names (numbered_name count) t.are_names (numbers_name count few);
      differ = differ_push d.names (numbered_name count) (ap (list_any (bytes_eq (numbered_name count))) (as_numbered one) ∙ numbers_differ count few) t.differ;
      numbered = λ e. ap (λ l. l ++ numbered_name count ∷ []) (as_numbered e) ∙ sym (numbers_last count) ∙ ap (numbered_from 0) longer;
    }

thread_sound : (d : Draft) (later : List (List ℕ)) (name : Option (List ℕ)) → IsSoundDraft d → NamesWell d.version (ThreadLine name) → HasNoFault d later (ThreadLine name) → IsSoundDraft (with_form d (ThreadLine name))
thread_sound d later name s named n =
    let none : d.inside ≡ None = nothing_begun d.inside n.placed in
    record {
      versioned = s.versioned;
      own_names = s.own_names;
      thread_names = named_more d later name s named n;
      named = s.named;
      few_objects = s.few_objects;
      in_ranges = s.in_ranges;
      few_parts = s.few_parts;
      few_words = s.few_words;
      few_threads = omega (arith, length_push d.threads [], few_threads d name n.within);
      few_transactions = omega (arith, s.few_transactions, sum_by_push (λ (thread : List Script). length thread) d.threads []);
      light = omega (arith, s.light, sum_by_push (λ (thread : List Script). sum_by (λ script. script.weight) thread) d.threads []);
      sound_scripts = All-push (All (IsSoundScript (in_order (shapes_in d.objects)))) d.threads [] s.sound_scripts (All-nil (IsSoundScript (in_order (shapes_in d.objects))));
      sound_inside = s.sound_inside;
      begun_after = λ e. none;
      scheduled = schedule_more (length d.threads) (length (d.threads ++ [] ∷ [])) (omega (arith, length_push d.threads [])) d.schedule s.scheduled;
    }

begin_sound : (d : Draft) (later : List (List ℕ)) → IsSoundDraft d → HasNoFault d later BeginLine → IsSoundDraft (with_form d BeginLine)
begin_sound d later s n =
    let place = both (is_none d.inside) (not (is_empty d.threads)) n.placed in
    record {
      versioned = s.versioned;
      own_names = s.own_names;
      thread_names = s.thread_names;
      named = s.named;
      few_objects = s.few_objects;
      in_ranges = s.in_ranges;
      few_parts = s.few_parts;
      few_words = s.few_words;
      few_threads = s.few_threads;
      few_transactions = not_above 10000 (transaction_count d.threads + 1) n.within;
      light = s.light;
      sound_scripts = s.sound_scripts;
      sound_inside = record { named = All-nil (λ name. is_name name ≡ true); few_variables = omega arith; sound_blocks = tt; sound_statements = record { taken = refl; placed = tt; shallow = omega arith } };
      begun_after = λ e. absurd (cc);
      scheduled = s.scheduled;
    }

script_threads : (threads : List (List Script)) (script : Script) → length (with_script threads script) ≡ length threads
script_threads [] script = refl
script_threads (thread ∷ []) script = refl
script_threads (thread ∷ next ∷ threads) script = ap suc (script_threads (next ∷ threads) script)

-- one transaction more adds no more than what it counts
script_adds : (f : Script → ℕ) (threads : List (List Script)) (script : Script) → sum_by (λ thread. sum_by f thread) (with_script threads script) ≤ sum_by (λ thread. sum_by f thread) threads + f script
script_adds f [] script = omega arith
script_adds f (thread ∷ []) script = omega (arith, sum_by_push f thread script, sum_by-cons (λ thread. sum_by f thread) thread [], sum_by-cons (λ thread. sum_by f thread) (thread ++ script ∷ []) [])
script_adds f (thread ∷ next ∷ threads) script =
    omega (arith, script_adds f (next ∷ threads) script, sum_by-cons (λ thread. sum_by f thread) thread (next ∷ threads), sum_by-cons (λ thread. sum_by f thread) thread (with_script (next ∷ threads) script))

script_counts : (threads : List (List Script)) (script : Script) → transaction_count (with_script threads script) ≤ transaction_count threads + 1
script_counts [] script = omega arith
script_counts (thread ∷ []) script = omega (arith, length_push thread script, sum_by-cons (λ (thread : List Script). length thread) thread [], sum_by-cons (λ (thread : List Script). length thread) (thread ++ script ∷ []) [])
script_counts (thread ∷ next ∷ threads) script =
    omega (arith, script_counts (next ∷ threads) script, sum_by-cons (λ (thread : List Script). length thread) thread (next ∷ threads), sum_by-cons (λ (thread : List Script). length thread) thread (with_script (next ∷ threads) script))

scripts_with : (P : Script → Type 0) (threads : List (List Script)) (script : Script) → All (All P) threads → P script → All (All P) (with_script threads script)
scripts_with P [] script h p = h
scripts_with P (thread ∷ []) script h p = All-cons (All P) (thread ++ script ∷ []) [] (All-push P thread script (All-head (All P) thread [] h) p) (All-nil (All P))
scripts_with P (thread ∷ next ∷ threads) script h p =
    All-cons (All P) thread (with_script (next ∷ threads) script) (All-head (All P) thread (next ∷ threads) h) (scripts_with P (next ∷ threads) script (All-tail (All P) thread (next ∷ threads) h) p)

none_open : (t : OpenTransaction) (o : Option OpenTransaction) → o ≡ Some t → is_some o && is_empty (blocks_in o) ≡ true → is_empty t.blocks ≡ true
none_open t None e h = absurd cc
none_open t (Some u) e h =
    let same : u ≡ t = cc in ap (λ x. is_empty x.blocks) (sym same) ∙ h

no_block : {X : Type 0} (blocks : List X) → is_empty blocks ≡ true → length blocks ≡ 0
no_block [] h = refl
no_block (block ∷ blocks) h = absurd cc

script_sound : (objects : List Object) (t : OpenTransaction) → IsSoundBegun (in_order (shapes_in objects)) t → length t.blocks ≡ 0 → (script_of objects t).weight ≤ 4096 → IsSoundScript (in_order (shapes_in objects)) (script_of objects t)
script_sound objects t s none light =
    record {
      weighed = refl;
      light = light;
      named = s.named;
      few_variables = s.few_variables;
      placed = s.sound_statements.placed;
      shallow = omega (arith, none, s.sound_statements.shallow);
      taken = s.sound_statements.taken;
    }

inside_is : (shapes : List Shape) (o : Option OpenTransaction) (t : OpenTransaction) → o ≡ Some t → IsSoundInside shapes o → IsSoundBegun shapes t
inside_is shapes None t e h = absurd cc
inside_is shapes (Some u) t e h = let same : u ≡ t = cc in subst (IsSoundBegun shapes) same h

committed : (d : Draft) (later : List (List ℕ)) (o : Option OpenTransaction) → d.inside ≡ o → IsSoundDraft d → HasNoFault d later CommitLine → IsSoundDraft (with_commit d o)
committed d later None e s n = s
committed d later (Some t) e s n =
    let shapes = in_order (shapes_in d.objects) in
    let script = script_of d.objects t in
    let light = neither (nat_lt 4096 script.weight) (nat_lt 131072 (weight_total d.threads + script.weight)) (ap (is_heavy d) (sym e) ∙ n.within) in
    let one : count_inside d.inside ≡ 1 = ap count_inside e in
    record {
      versioned = s.versioned;
      own_names = s.own_names;
      thread_names = subst (λ count. NameThreads d.version count d.names) (sym (script_threads d.threads script)) s.thread_names;
      named = s.named;
      few_objects = s.few_objects;
      in_ranges = s.in_ranges;
      few_parts = s.few_parts;
      few_words = s.few_words;
      few_threads = omega (arith, script_threads d.threads script, s.few_threads);
      few_transactions = omega (arith, script_counts d.threads script, s.few_transactions, one);
      light = omega (arith, script_adds (λ script. script.weight) d.threads script, not_above 131072 (weight_total d.threads + script.weight) light.1);
      sound_scripts = scripts_with (IsSoundScript shapes) d.threads script s.sound_scripts
          (script_sound d.objects t (inside_is shapes d.inside t e s.sound_inside) (no_block t.blocks (none_open t d.inside e n.placed)) (not_above 4096 script.weight light.0));
      sound_inside = tt;
      begun_after = λ h. refl;
      scheduled = schedule_more (length d.threads) (length (with_script d.threads script)) (omega (arith, script_threads d.threads script)) d.schedule s.scheduled;
    }

thread_is : (names : List (List ℕ)) (threads : ℕ) (word : ThreadWord) → length names ≡ threads → has_thread threads word ≡ true → is_known_thread names word ≡ true → thread_number names word < threads
thread_is names threads (Numbered value) e h k = grind (arith, nat_tests)
thread_is names threads (Named name) e h k = omega (arith, place_within names name k, e)

turn_is : (names : List (List ℕ)) (threads : ℕ) → length names ≡ threads → (entry : ScheduleEntry) → (is_known_thread names entry.thread ≡ true) × (is_turn threads entry ≡ true) → IsTurnOf threads (turns_of names entry)
turn_is names threads e entry h =
    let parts = both (is_in_range entry) (has_thread threads entry.thread) h.1 in
    let ranges = both (has_range entry.thread) (in_range 1 1000000 entry.steps) parts.0 in
    record { has_thread = thread_is names threads entry.thread e parts.1 h.0; has_steps = natural_in_range 1 1000000 entry.steps ranges.1 }

schedule_sound : (d : Draft) (later : List (List ℕ)) (entries : List ScheduleEntry) → IsSoundDraft d → HasNoFault d later (ScheduleLine entries) → IsSoundDraft (with_form d (ScheduleLine entries))
schedule_sound d later entries s n =
    let threads = length d.threads in
    let known = denied (list_all (λ entry. is_known_thread d.names entry.thread) entries) (neither (not (list_all (λ entry. is_known_thread d.names entry.thread) entries)) (not (list_all (is_known (variables_in d.inside)) [])) n.known).0 in
    record {
      versioned = s.versioned;
      own_names = s.own_names;
      thread_names = s.thread_names;
      named = s.named;
      few_objects = s.few_objects;
      in_ranges = s.in_ranges;
      few_parts = s.few_parts;
      few_words = s.few_words;
      few_threads = s.few_threads;
      few_transactions = s.few_transactions;
      light = s.light;
      sound_scripts = s.sound_scripts;
      sound_inside = s.sound_inside;
      begun_after = s.begun_after;
      scheduled = All-map (IsTurnOf threads) (turns_of d.names) entries (λ k e l. turn_is d.names threads s.thread_names.each (get_or entries k e) (AllPass-from_list_all (λ entry. is_known_thread d.names entry.thread) entries known k e l, AllPass-from_list_all (is_turn threads) entries (denied (list_all (is_turn threads) entries) n.within) k e l));
    }

calls_well : (d : Draft) (form : Form) → asks_unknown d form ≡ false → has_wrong_kind d form ≡ false → CallsWell d.objects form
calls_well d (CallLine to operation object operands) u w = record { declared = u; has = w }
calls_well d (DeclareLine name what) u w = tt
calls_well d (VersionLine version) u w = tt
calls_well d (ThreadLine name) u w = tt
calls_well d BeginLine u w = tt
calls_well d (SumLine to a b) u w = tt
calls_well d (DiffLine to a b) u w = tt
calls_well d (IfLine a test b) u w = tt
calls_well d ElseLine u w = tt
calls_well d (RepeatLine times) u w = tt
calls_well d EndLine u w = tt
calls_well d CancelLine u w = tt
calls_well d CommitLine u w = tt
calls_well d (ScheduleLine entries) u w = tt

same_count : (f : OpenTransaction → OpenTransaction) (o : Option OpenTransaction) → count_inside (option_map f o) ≡ count_inside o
same_count f None = refl
same_count f (Some t) = refl

inside_sound : (d : Draft) (later : List (List ℕ)) (form : Form) (o : Option OpenTransaction) → d.inside ≡ o → IsSoundDraft d → NamesWell d.version form → HasNoFault d later form
    → IsSoundInside (in_order (shapes_in d.objects)) (option_map (λ t. with_inner d.objects t form) o)
inside_sound d later form None e s named n = tt
inside_sound d later form (Some t) e s named n =
    let known = neither (asks_unknown d form) (not (list_all (is_known (variables_in d.inside)) (operands_of form))) n.known in
    inner_sound d.version d.objects t form (All-weaker (λ o. HasRanges d.version o.shape) (λ o. HasRanges 2 o.shape) (λ o h. ranges_2 d.version o.shape h) d.objects s.in_ranges) (inside_is (in_order (shapes_in d.objects)) d.inside t e s.sound_inside) named (fits d t later form e n.placed n.within)
    (ap (λ o. list_all (is_known (variables_in o)) (operands_of form)) (sym e) ∙ denied (list_all (is_known (variables_in d.inside)) (operands_of form)) known.1) (calls_well d form known.0 n.fitting)

within_sound : (d : Draft) (later : List (List ℕ)) (form : Form) → IsSoundDraft d → NamesWell d.version form → HasNoFault d later form → IsSoundDraft (record d { inside = option_map (λ t. with_inner d.objects t form) d.inside })
within_sound d later form s named n =
    let f : OpenTransaction → OpenTransaction = λ t. with_inner d.objects t form in
    record {
      versioned = s.versioned;
      own_names = s.own_names;
      thread_names = s.thread_names;
      named = s.named;
      few_objects = s.few_objects;
      in_ranges = s.in_ranges;
      few_parts = s.few_parts;
      few_words = s.few_words;
      few_threads = s.few_threads;
      few_transactions = omega (arith, s.few_transactions, same_count f d.inside);
      light = s.light;
      sound_scripts = s.sound_scripts;
      sound_inside = inside_sound d later form d.inside refl s named n;
      begun_after = λ e. ap (option_map f) (s.begun_after e);
      scheduled = s.scheduled;
    }

no_objects : (P : Object → Type 0) (objects : List Object) → is_empty objects ≡ true → All P objects
no_objects P [] e = All-nil P
no_objects P (o ∷ objects) e = absurd cc

nothing_in : {X : Type 0} (xs : List X) → is_empty xs ≡ true → xs ≡ []
nothing_in [] e = refl
nothing_in (x ∷ xs) e = absurd cc

two : (value : Option ℤ) → in_range 2 2 value ≡ true → natural value ≡ 2
two value e = let r = natural_in_range 2 2 value e in omega (arith, r.0, r.1)

-- the line of the version comes first
version_sound : (d : Draft) (later : List (List ℕ)) (version : Option ℤ) → IsSoundDraft d → HasNoFault d later (VersionLine version) → IsSoundDraft (with_form d (VersionLine version))
version_sound d later version s n =
    let blank = both ((d.version == 1) && is_empty d.objects) (is_empty d.threads) n.placed in
    let bare = (both (d.version == 1) (is_empty d.objects) blank.0).1 in
    let objects : d.objects ≡ [] = nothing_in d.objects bare in
    let threads : d.threads ≡ [] = nothing_in d.threads blank.1 in
    let is_two : natural version ≡ 2 = two version (second d version n.within) in
    let t = s.thread_names in
    record {
      versioned = inr is_two;
      named = s.named;
      own_names = s.own_names;
      thread_names = record { each = t.each; are_names = t.are_names; differ = t.differ; numbered = λ e. absurd (omega (arith, e, is_two)) };
      few_objects = s.few_objects;
      in_ranges = no_objects (λ o. HasRanges (natural version) o.shape) d.objects bare;
      few_parts = omega (arith, ap part_total objects);
      few_words = omega (arith, ap word_total objects);
      few_threads = omega (arith, ap length threads);
      few_transactions = s.few_transactions;
      light = s.light;
      sound_scripts = s.sound_scripts;
      sound_inside = s.sound_inside;
      begun_after = s.begun_after;
      scheduled = s.scheduled;
    }

-- the lines with one of this form
pub form_sound : (d : Draft) (later : List (List ℕ)) (form : Form) → IsSoundDraft d → NamesWell d.version form → HasNoFault d later form → IsSoundDraft (with_form d form)
form_sound d later (DeclareLine name what) s named n = declare_sound d later name what s named n
form_sound d later (VersionLine version) s named n = version_sound d later version s n
form_sound d later (ThreadLine name) s named n = thread_sound d later name s named n
form_sound d later BeginLine s named n = begin_sound d later s n
form_sound d later CommitLine s named n = committed d later d.inside refl s n
form_sound d later (ScheduleLine entries) s named n = schedule_sound d later entries s n
form_sound d later (CallLine to operation object operands) s named n = within_sound d later (CallLine to operation object operands) s named n
form_sound d later (SumLine to a b) s named n = within_sound d later (SumLine to a b) s named n
form_sound d later (DiffLine to a b) s named n = within_sound d later (DiffLine to a b) s named n
form_sound d later (IfLine a test b) s named n = within_sound d later (IfLine a test b) s named n
form_sound d later ElseLine s named n = within_sound d later ElseLine s named n
form_sound d later (RepeatLine times) s named n = within_sound d later (RepeatLine times) s named n
form_sound d later EndLine s named n = within_sound d later EndLine s named n
form_sound d later CancelLine s named n = within_sound d later CancelLine s named n
