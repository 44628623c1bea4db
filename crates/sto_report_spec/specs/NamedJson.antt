-- The order and the aborted attempts that a JSON report names.
use Rattle.std.specs.Prelude.{ℕ, List, [], ◌∷◌, if◌then◌else◌, map, Option, None, Some, unwrap_or, codes, position}
use Rattle.std.specs.List.{flat_map}
use Rattle.std.specs.Str.{bytes_eq}
use Rattle.std.specs.Str.Parse.{digits_value}
use Rattle.json.specs.Json.{Json, null, boolean, number, string, array, object, Items, no_items, item, Members, no_members, member, document}
use Rattle.sto_report_spec.specs.Orders.{TransactionPlace}
use Rattle.sto_report_spec.specs.Aborts.{LocalPart, Cause, Locked, Changed, Abort}
use Rattle.sto_report_spec.specs.Named.{place_in}
use Rattle.sto_report_spec.specs.NamedAborts.{without_last, reply_in, abort_by}

-- the value of the first member with a key; without one, null
abbrev pub member_in : List ℕ → Members → Json
member_in key no_members = null
member_in key (member k value others) = if bytes_eq k key then value else member_in key others

abbrev pub member_of : List ℕ → Json → Json
member_of key null = null
member_of key (boolean b) = null
member_of key (number n) = null
member_of key (string s) = null
member_of key (array items) = null
member_of key (object found) = member_in key found

-- the items of a list; what is no list has none
abbrev pub items_in : Items → List Json
items_in no_items = []
items_in (item value others) = value ∷ items_in others

abbrev pub items_of : Json → List Json
items_of null = []
items_of (boolean b) = []
items_of (number n) = []
items_of (string s) = []
items_of (array items) = items_in items
items_of (object _) = []

-- the bytes of a text, or the digits of a number
abbrev pub word_of : Json → List ℕ
word_of null = []
word_of (boolean b) = []
word_of (number digits) = digits
word_of (string text) = text
word_of (array items) = []
word_of (object _) = []

-- the place that an entry names, by the names of the threads of a file
abbrev pub place_of : List (List ℕ) → Json → List TransactionPlace
place_of names entry = place_in (position (bytes_eq (word_of (member_of (codes "thread") entry))) names) (word_of (member_of (codes "position") entry))

-- the cause that an aborted attempt names
abbrev pub part_of : Json → LocalPart
part_of abort = record { object = word_of (member_of (codes "object") abort); part = digits_value 10 (word_of (member_of (codes "part") abort)) }

abbrev pub cause_of : Json → Cause
cause_of abort =
    if bytes_eq (word_of (member_of (codes "cause") abort)) (codes "locked")
    then Locked (part_of abort)
    else Changed (part_of abort) (digits_value 10 (word_of (member_of (codes "by") abort)))

-- the aborted attempt that an entry names
abbrev pub abort_of : List (List ℕ) → Json → List Abort
abort_of names abort =
    abort_by (place_of names abort) (digits_value 10 (word_of (member_of (codes "at") abort)))
    (Some (record { replies = map (λ reply. reply_in (word_of reply)) (items_of (member_of (codes "saw") abort)); cause = cause_of abort }))

-- the value that a line is, which its line feed ends
abbrev pub value_of : List ℕ → Json
value_of text = unwrap_or (document (without_last text)) null

-- the order that a JSON report names
abbrev pub json_order_named : List (List ℕ) → List ℕ → List TransactionPlace
json_order_named names text = flat_map (place_of names) (items_of (member_of (codes "journal") (value_of text)))

-- the aborted attempts that it names
abbrev pub json_aborts_named : List (List ℕ) → List ℕ → List Abort
json_aborts_named names text = flat_map (abort_of names) (items_of (member_of (codes "aborts") (value_of text)))
