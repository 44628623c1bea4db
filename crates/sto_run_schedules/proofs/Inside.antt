-- Entries of a schedule, one more, and that they are those of threads of the file.
use Rattle.std.specs.Prelude.{map}
use Rattle.std.specs.List.{All, AllByRecursion, flat_map}
use Rattle.std.proofs.Common.{◌≡◌, ℕ, ◌+◌, ◌<◌, List, [], ◌∷◌, ◌++◌, length, get_or, take, replicate, sym, ap, ◌∙◌, subst, append-nil, append_assoc}
use Rattle.std.proofs.lemmas.List.{map-append, take_more}
use Rattle.std.proofs.lemmas.List.Concat.{flat_map-append}
use Rattle.std.proofs.lemmas.List.Elements.{All-from_recursion}
use Rattle.sto_lang.specs.declared.file.Turns.{Turns}
use Rattle.sto_run_steps.specs.Turning.{entry_turns}
use Rattle.sto_explore.specs.Legs.{IsAmong, schedule_of}
use Rattle.sto_explore.specs.declared.leg.Leg.{Leg}
use Rattle.sto_explore.proofs.Among.{schedule_more}
use Rattle.sto_run_schedules.specs.Parted.{turns_to_ends}

-- the turns of entries with one more
pub entries_more : (entries : List Turns) (entry : Turns) → flat_map entry_turns (entries ++ entry ∷ []) ≡ flat_map entry_turns entries ++ replicate entry.steps entry.thread
entries_more entries entry =
    flat_map-append entry_turns entries (entry ∷ []) ∙ ap (λ (l : List ℕ). flat_map entry_turns entries ++ l) (append-nil (entry_turns entry))

all_weaker : {X : Type 0} (P Q : X → Type 0) → ((x : X) → P x → Q x) → (xs : List X) → AllByRecursion P xs → AllByRecursion Q xs
all_weaker P Q f [] h = tt
all_weaker P Q f (x ∷ xs) h = (f x h.0, all_weaker P Q f xs h.1)

threads_below : (count : ℕ) (entries : List Turns) (threads : List ℕ) → map (λ (e : Turns). e.thread) entries ≡ threads → AllByRecursion (λ (n : ℕ). n < count) threads
    → AllByRecursion (λ (e : Turns). e.thread < count) entries
threads_below count [] threads is h = tt
threads_below count (e ∷ entries) [] is h = cc
threads_below count (e ∷ entries) (n ∷ threads) is h =
    let heads : e.thread ≡ n = cc in
    let rest : map (λ (x : Turns). x.thread) entries ≡ threads = cc in
    (subst (λ (m : ℕ). m < count) (sym heads) h.0, threads_below count entries threads rest h.1)

both_below : (count : ℕ) (xs ys : List ℕ) → AllByRecursion (λ (n : ℕ). n < count) xs → AllByRecursion (λ (n : ℕ). n < count) ys → AllByRecursion (λ (n : ℕ). n < count) (xs ++ ys)
both_below count [] ys h k = k
both_below count (x ∷ xs) ys h k = (h.0, both_below count xs ys h.1 k)

legs_below : (count : ℕ) (legs : List Leg) → AllByRecursion (λ (leg : Leg). leg.thread < count) legs → AllByRecursion (λ (n : ℕ). n < count) (map (λ (leg : Leg). leg.thread) legs)
legs_below count [] h = tt
legs_below count (leg ∷ legs) h = (h.0, legs_below count legs h.1)

-- entries of legs and of an order of threads of the file
pub entries_inside : (count : ℕ) (busy : List ℕ) → ((n : ℕ) → IsAmong busy n → n < count) → (entries : List Turns) (decided : List Leg) (order : List ℕ)
    → map (λ (e : Turns). e.thread) entries ≡ map (λ (leg : Leg). leg.thread) decided ++ order → AllByRecursion (λ (leg : Leg). IsAmong busy leg.thread) decided → AllByRecursion (IsAmong busy) order
    → All (λ (e : Turns). e.thread < count) entries
entries_inside count busy inside entries decided order is legs threads =
    All-from_recursion (λ (e : Turns). e.thread < count) entries
    (threads_below count entries (map (λ (leg : Leg). leg.thread) decided ++ order) is
    (both_below count (map (λ (leg : Leg). leg.thread) decided) order
    (legs_below count decided (all_weaker (λ (leg : Leg). IsAmong busy leg.thread) (λ (leg : Leg). leg.thread < count) (λ leg h. inside leg.thread h) decided legs))
    (all_weaker (IsAmong busy) (λ (n : ℕ). n < count) inside order threads)))

-- the turns of entries of legs, one more
pub legs_more : (entries next : List Turns) (legs : List Leg) (i : ℕ) (none : Leg) (entry : Turns) → i < length legs → next ≡ entries ++ entry ∷ []
    → entry.thread ≡ (get_or legs i none).thread → entry.steps ≡ (get_or legs i none).turns → flat_map entry_turns entries ≡ schedule_of (take i legs)
    → flat_map entry_turns next ≡ schedule_of (take (i + 1) legs)
legs_more entries next legs i none entry inside added thread turns so_far =
    ap (flat_map entry_turns) added ∙ entries_more entries entry ∙ (λ k. so_far k ++ replicate (turns k) (thread k)) ∙ sym (schedule_more (take i legs) (get_or legs i none))
    ∙ ap schedule_of (sym (take_more legs i none inside))

pub threads_more : (entries next : List Turns) (threads : List ℕ) (entry : Turns) → next ≡ entries ++ entry ∷ [] → map (λ (e : Turns). e.thread) entries ≡ threads
    → map (λ (e : Turns). e.thread) next ≡ threads ++ entry.thread ∷ []
threads_more entries next threads entry added so_far =
    ap (map (λ (e : Turns). e.thread)) added ∙ map-append (λ (e : Turns). e.thread) entries (entry ∷ []) ∙ ap (λ (l : List ℕ). l ++ entry.thread ∷ []) so_far

-- those of legs and of an order, one more
pub order_more : (entries next : List Turns) (decided : List Leg) (most : ℕ) (order : List ℕ) (i none : ℕ) (entry : Turns) → i < length order → next ≡ entries ++ entry ∷ []
    → entry.thread ≡ get_or order i none → entry.steps ≡ most → flat_map entry_turns entries ≡ turns_to_ends decided most (take i order)
    → flat_map entry_turns next ≡ turns_to_ends decided most (take (i + 1) order)
order_more entries next decided most order i none entry inside added thread turns so_far =
    let own = get_or order i none in
    ap (flat_map entry_turns) added ∙ entries_more entries entry ∙ (λ k. so_far k ++ replicate (turns k) (thread k))
    ∙ append_assoc (schedule_of decided) (flat_map (replicate most) (take i order)) (replicate most own)
    ∙ ap (λ (l : List ℕ). schedule_of decided ++ l) (sym (ap (flat_map (replicate most)) (take_more order i none inside) ∙ flat_map-append (replicate most) (take i order) (own ∷ [])
    ∙ ap (λ (l : List ℕ). flat_map (replicate most) (take i order) ++ l) (append-nil (replicate most own))))
