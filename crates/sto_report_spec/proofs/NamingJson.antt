-- A JSON report names the order that it replays and the aborted attempts that it tells.
use Rattle.std.proofs.Common.{◌≡◌, ℕ, suc, ◌<◌, ◌≤◌, ◌^◌, max, List, [], ◌∷◌, ◌++◌, map, refl, sym, ap, ◌∙◌, Bool, true, false, cond, ◌||◌, arith, decimal, codes, Option, Some, unwrap_or, position}
use Rattle.std.specs.List.{flat_map}
use Rattle.std.specs.Str.{bytes_eq}
use Rattle.std.specs.Str.Parse.{digits_value}
use Rattle.json.specs.Json as json
use Rattle.json.specs.Json.{Json, document}
use Rattle.json.specs.Print.{print, IsNumber}
use Rattle.json.specs.Tree.{json_tokens, HasNumbers, ItemsHaveNumbers, MembersHaveNumbers}
use Rattle.json.specs.Tree as tree
use Rattle.json.proofs.Printed.Decimals.{IsNumber-decimal}
use Rattle.json.proofs.Printed.Trees.{document-print}
use Rattle.serde_json.specs.Data.{Data, Items, no_items, item}
use Rattle.serde_json.specs.View.{items_of}
use Rattle.serde_json.specs.Written.{outline, items_outline, compact_text, has_float, items_have_float}
use Rattle.serde_json.proofs.Texts.{print-outline}
use Rattle.sto_model.specs.PlainReplies.{PlainReply}
use Rattle.sto_model.specs.Run.{State}
use Rattle.sto_lang.specs.Objects.{Declaration}
use Rattle.sto_report_spec.specs.Orders.{TransactionPlace}
use Rattle.sto_report_spec.specs.Aborts.{LocalPart, Cause, Locked, Changed, Abort, part_in}
use Rattle.sto_report_spec.specs.Replay.{Entry}
use Rattle.sto_report_spec.specs.Report.{name_at, reply_text}
use Rattle.sto_report_spec.specs.Named.{place_in, AreNames}
use Rattle.sto_report_spec.specs.NamedAborts.{without_last, reply_in, Heard, abort_by}
use Rattle.sto_report_spec.specs.NamedJson.{items_in, word_of, place_of, part_of, cause_of, abort_of, value_of, json_order_named, json_aborts_named}
use Rattle.sto_report_spec.specs.NamedJson as named
use Rattle.sto_report_spec.specs.Json.{listed, reply_data, entry_data, abort_data, object_data, report_data, json_text}
use Rattle.sto_report_spec.specs.Short.{AreShortReplies, IsShortCause, IsShortAbort, AreShortAborts, IsShortEntry, AreShortEntries}
use Rattle.sto_report_spec.proofs.Naming.{HasWord, has_word}
use Rattle.sto_report_spec.proofs.NamingReplies.{last_dropped, reply_read}
use Rattle.sto_report_spec.proofs.NamingReplies as numbers

-- Lists of items.

module _ {X : Type 0} (f : X → Data) where
  listed_items : (xs : List X) → items_in (items_outline (items_of (map f xs))) ≡ map (λ x. outline (f x)) xs
  listed_items [] = refl
  listed_items (x ∷ xs) = ap (λ (js : List Json). outline (f x) ∷ js) (listed_items xs)

  listed_depth : (n : ℕ) (xs : List X) → ((x : X) → tree.depth (outline (f x)) ≤ n) → tree.items_depth (items_outline (items_of (map f xs))) ≤ n
  listed_depth n [] h = omega arith
  listed_depth n (x ∷ xs) h = let head = h x in let rest = listed_depth n xs h in omega (arith, head, rest)

  listed_floats : (xs : List X) → ((x : X) → has_float (f x) ≡ false) → items_have_float (items_of (map f xs)) ≡ false
  listed_floats [] h = refl
  listed_floats (x ∷ xs) h = ap (λ (b : Bool). b || items_have_float (items_of (map f xs))) (h x) ∙ listed_floats xs h

replies_number : (replies : List PlainReply) → ItemsHaveNumbers (items_outline (items_of (map reply_data replies)))
replies_number [] = tt
replies_number (r ∷ replies) = (tt, replies_number replies)

replies_depth : (replies : List PlainReply) → tree.items_depth (items_outline (items_of (map reply_data replies))) ≤ 0
replies_depth replies = listed_depth reply_data 0 replies (λ r. omega arith)

replies_no_float : (replies : List PlainReply) → items_have_float (items_of (map reply_data replies)) ≡ false
replies_no_float replies = listed_floats reply_data replies (λ r. refl)

-- the texts of a list of replies are read as the replies
abbrev read_replies : List Json → List PlainReply
read_replies texts = map (λ (r : Json). reply_in (word_of r)) texts

replies_are : (replies : List PlainReply) → AreShortReplies replies → read_replies (items_in (items_outline (items_of (map reply_data replies)))) ≡ replies
replies_are [] h = refl
replies_are (r ∷ replies) h =
    ap (λ (t : PlainReply). t ∷ read_replies (items_in (items_outline (items_of (map reply_data replies))))) (reply_read r h.0)
    ∙ ap (λ (ts : List PlainReply). r ∷ ts) (replies_are replies h.1)

-- What is written is read again: its numbers are digits, it nests little, and it has no float.

module _ (names : List (List ℕ)) where
  entry_numbers : (e : Entry) → IsShortEntry names e → HasNumbers (outline (entry_data names e))
  entry_numbers e h = (tt, (IsNumber-decimal e.writers h.writers, (IsNumber-decimal e.place.1 h.place.position, (replies_number e.replies, (tt, tt)))))

  entries_number : (entries : List Entry) → AreShortEntries names entries → ItemsHaveNumbers (items_outline (items_of (map (entry_data names) entries)))
  entries_number [] h = tt
  entries_number (e ∷ entries) h = (entry_numbers e h.0, entries_number entries h.1)

  entry_depth : (e : Entry) → tree.depth (outline (entry_data names e)) ≤ 2
  entry_depth e = let replies = replies_depth e.replies in omega (arith, replies)

  entry_no_float : (e : Entry) → has_float (entry_data names e) ≡ false
  entry_no_float e = ap (λ (b : Bool). b || false) (replies_no_float e.replies)

  abort_numbers : (place : TransactionPlace) (seen : ℕ) (replies : List PlainReply) (c : Cause) → place.1 < 2 ^ 64 → seen < 2 ^ 64 → IsShortCause c
      → HasNumbers (outline (abort_data names (record { place = place; seen = seen; replies = replies; cause = c })))
  abort_numbers place seen replies (Locked part) p s h =
      (IsNumber-decimal seen s, (tt, (tt, (IsNumber-decimal part.part h.1, (IsNumber-decimal place.1 p, (replies_number replies, (tt, tt)))))))
  abort_numbers place seen replies (Changed part by) p s h =
      (IsNumber-decimal seen s, (IsNumber-decimal by h.2, (tt, (tt, (IsNumber-decimal part.part h.1, (IsNumber-decimal place.1 p, (replies_number replies, (tt, tt))))))))

  aborts_number : (aborts : List Abort) → AreShortAborts names aborts → ItemsHaveNumbers (items_outline (items_of (map (abort_data names) aborts)))
  aborts_number [] h = tt
  aborts_number (a ∷ aborts) h = (abort_numbers a.place a.seen a.replies a.cause h.0.place.position h.0.seen h.0.cause, aborts_number aborts h.1)

  abort_depth : (place : TransactionPlace) (seen : ℕ) (replies : List PlainReply) (c : Cause) → tree.depth (outline (abort_data names (record { place = place; seen = seen; replies = replies; cause = c }))) ≤ 2
  abort_depth place seen replies (Locked part) = let told = replies_depth replies in omega (arith, told)
  abort_depth place seen replies (Changed part by) = let told = replies_depth replies in omega (arith, told)

  abort_no_float : (place : TransactionPlace) (seen : ℕ) (replies : List PlainReply) (c : Cause) → has_float (abort_data names (record { place = place; seen = seen; replies = replies; cause = c })) ≡ false
  abort_no_float place seen replies (Locked part) = ap (λ (b : Bool). b || false) (replies_no_float replies)
  abort_no_float place seen replies (Changed part by) = ap (λ (b : Bool). b || false) (replies_no_float replies)

objects_number : (state : State) (ds : List Declaration) → ItemsHaveNumbers (items_outline (items_of (map (object_data state) ds)))
objects_number state [] = tt
objects_number state (d ∷ ds) = ((tt, (tt, tt)), objects_number state ds)

objects_depth : (state : State) (ds : List Declaration) → tree.items_depth (items_outline (items_of (map (object_data state) ds))) ≤ 2
objects_depth state ds = listed_depth (object_data state) 2 ds (λ d. omega arith)

-- What is read names what was written.

module _ (names : List (List ℕ)) where
  place_is : (place : TransactionPlace) → HasWord names place → place_in (position (bytes_eq (name_at names place.0)) names) (decimal place.1) ≡ place ∷ []
  place_is place h =
      ap (λ (t : Option ℕ). place_in t (decimal place.1)) h.thread.found
      ∙ ap (λ (n : ℕ). let p : TransactionPlace = (place.0, n) in p ∷ []) (numbers.value_of place.1 h.position)

  made : TransactionPlace → ℕ → List PlainReply → Cause → List Abort
  made place seen replies cause = record { place = place; seen = seen; replies = replies; cause = cause } ∷ []

  heard : List PlainReply → Cause → Option Heard
  heard replies cause = Some (record { replies = replies; cause = cause })

  by_parts : (place : TransactionPlace) (seen : ℕ) (replies : List PlainReply) (c d : Cause) → HasWord names place → seen < 2 ^ 64 → AreShortReplies replies → d ≡ c
      → abort_by (place_in (position (bytes_eq (name_at names place.0)) names) (decimal place.1)) (digits_value 10 (decimal seen))
      (Some (record { replies = read_replies (items_in (items_outline (items_of (map reply_data replies)))); cause = d }))
      ≡ record { place = place; seen = seen; replies = replies; cause = c } ∷ []
  by_parts place seen replies c d word s h e =
      ap (λ (ps : List TransactionPlace). abort_by ps (digits_value 10 (decimal seen)) (Some (record { replies = read_replies (items_in (items_outline (items_of (map reply_data replies)))); cause = d }))) (place_is place word)
      ∙ ap (λ (n : ℕ). let x : Abort = record { place = place; seen = n; replies = read_replies (items_in (items_outline (items_of (map reply_data replies)))); cause = d } in x ∷ []) (numbers.value_of seen s)
      ∙ ap (λ (rs : List PlainReply). let x : Abort = record { place = place; seen = seen; replies = rs; cause = d } in x ∷ []) (replies_are replies h)
      ∙ ap (λ (k : Cause). let x : Abort = record { place = place; seen = seen; replies = replies; cause = k } in x ∷ []) e

  locked_is : (part : LocalPart) → part.part < 2 ^ 64 → (let p : LocalPart = record { object = part.object; part = digits_value 10 (decimal part.part) } in Locked p ≡ Locked part)
  locked_is part h = ap (λ (n : ℕ). let p : LocalPart = record { object = part.object; part = n } in Locked p) (numbers.value_of part.part h)

  changed_is : (part : LocalPart) (by : ℕ) → part.part < 2 ^ 64 → by < 2 ^ 64
      → (let p : LocalPart = record { object = part.object; part = digits_value 10 (decimal part.part) } in Changed p (digits_value 10 (decimal by)) ≡ Changed part by)
  changed_is part by h k =
      ap (λ (n : ℕ). let p : LocalPart = record { object = part.object; part = n } in Changed p (digits_value 10 (decimal by))) (numbers.value_of part.part h)
      ∙ ap (λ (n : ℕ). Changed part n) (numbers.value_of by k)

  abort_is : (place : TransactionPlace) (seen : ℕ) (replies : List PlainReply) (c : Cause) → HasWord names place → seen < 2 ^ 64 → AreShortReplies replies → IsShortCause c
      → abort_of names (outline (abort_data names (record { place = place; seen = seen; replies = replies; cause = c }))) ≡ record { place = place; seen = seen; replies = replies; cause = c } ∷ []
  abort_is place seen replies (Locked part) word s h k =
      by_parts place seen replies (Locked part) (Locked (record { object = part.object; part = digits_value 10 (decimal part.part) })) word s h (locked_is part k.1)
  abort_is place seen replies (Changed part by) word s h k =
      by_parts place seen replies (Changed part by) (Changed (record { object = part.object; part = digits_value 10 (decimal part.part) }) (digits_value 10 (decimal by))) word s h (changed_is part by k.1 k.2)

  module _ (known : AreNames names) where
    entries_name : (entries : List Entry) → AreShortEntries names entries → flat_map (place_of names) (map (λ e. outline (entry_data names e)) entries) ≡ map (λ e. e.place) entries
    entries_name [] h = refl
    entries_name (e ∷ entries) h =
        ap (λ (ps : List TransactionPlace). ps ++ flat_map (place_of names) (map (λ x. outline (entry_data names x)) entries)) (place_is e.place (has_word names e.place known h.0.place))
        ∙ ap (λ (ps : List TransactionPlace). e.place ∷ ps) (entries_name entries h.1)

    aborts_are : (aborts : List Abort) → AreShortAborts names aborts → flat_map (abort_of names) (map (λ a. outline (abort_data names a)) aborts) ≡ aborts
    aborts_are [] h = refl
    aborts_are (a ∷ aborts) h =
        ap (λ (l : List Abort). l ++ flat_map (abort_of names) (map (λ x. outline (abort_data names x)) aborts))
        (abort_is a.place a.seen a.replies a.cause (has_word names a.place known h.0.place) h.0.seen h.0.replies h.0.cause)
        ∙ ap (λ (l : List Abort). a ∷ l) (aborts_are aborts h.1)

module _ (names : List (List ℕ)) (ds : List Declaration) (entries : List Entry) (aborts : List Abort) (state : State) where
  abbrev whole : Data
  whole = report_data names ds entries aborts state

  whole_depth : tree.depth (outline whole) ≤ 128
  whole_depth =
      let a = listed_depth (abort_data names) 2 aborts (λ a. abort_depth names a.place a.seen a.replies a.cause) in
      let e = listed_depth (entry_data names) 2 entries (entry_depth names) in
      let s = objects_depth state ds in
      omega (arith, a, e, s)

  or_none : (a b c : Bool) → a ≡ false → b ≡ false → c ≡ false → (a || (b || (c || false))) ≡ false
  or_none false false false f g h = refl
  or_none false false true f g h = h
  or_none false true c f g h = g
  or_none true b c f g h = f

  -- it has no float, so its text is known byte for byte
  pub whole_no_float : has_float whole ≡ false
  whole_no_float =
      or_none (items_have_float (items_of (map (abort_data names) aborts))) (items_have_float (items_of (map (entry_data names) entries))) (items_have_float (items_of (map (object_data state) ds)))
      (listed_floats (abort_data names) aborts (λ a. abort_no_float names a.place a.seen a.replies a.cause))
      (listed_floats (entry_data names) entries (entry_no_float names))
      (listed_floats (object_data state) ds (λ d. refl))

  module _ (known : AreNames names) (short : AreShortEntries names entries) (readable : AreShortAborts names aborts) where
    whole_read : value_of (json_text names ds entries aborts state) ≡ outline whole
    whole_read =
        ap (λ (t : List ℕ). unwrap_or (document t) json.null) (last_dropped (compact_text whole) 10)
        ∙ ap (λ (t : List ℕ). unwrap_or (document t) json.null) (sym (print-outline whole))
        ∙ ap (λ (o : Option Json). unwrap_or o json.null)
        (document-print (outline whole) (aborts_number names aborts readable, (entries_number names entries short, (objects_number state ds, tt))) whole_depth)

    -- it names the places of its entries
    pub json_names_order : json_order_named names (json_text names ds entries aborts state) ≡ map (λ e. e.place) entries
    json_names_order =
        ap (λ (j : Json). flat_map (place_of names) (named.items_of (named.member_of (codes "journal") j))) whole_read
        ∙ ap (flat_map (place_of names)) (listed_items (entry_data names) entries)
        ∙ entries_name names known entries short

    -- it names its aborts
    pub json_names_aborts : json_aborts_named names (json_text names ds entries aborts state) ≡ aborts
    json_names_aborts =
        ap (λ (j : Json). flat_map (abort_of names) (named.items_of (named.member_of (codes "aborts") j))) whole_read
        ∙ ap (flat_map (abort_of names)) (listed_items (abort_data names) aborts)
        ∙ aborts_are names known aborts readable
