-- Texts and replies as values.
use Rattle.std.proofs.Common.{◌≡◌, List, [], ◌∷◌, map, refl, ap, rules, string_bytes}
use Rattle.std.specs.Prelude.{String}
use Rattle.std.specs.declared.alloc.Global.{Global}
use Rattle.serde_json.specs.Data.{Data, string, array}
use Rattle.serde_json.specs.View.{view, items_of}
use Rattle.serde_json.specs.declared.value.Value as value
use Rattle.serde_json.specs.declared.value.Value.{the_lemmas}
use Rattle.sto_model.specs.declared.reply.Reply.{Reply}
use Rattle.sto_model.specs.PlainReplies.{plain_reply}
use Rattle.sto_report_spec.specs.Json.{listed, reply_data}
use Rattle.sto_journal.specs.Journals.{told_data}

pub view-String : (s : String Global) → view (value.String s) ≡ string (string_bytes s)
view-String s = search (rules, the_lemmas)

pub told_is : (r : Reply) → told_data r ≡ reply_data (plain_reply r)
unfolding told_data
told_is r = refl

all_told : (rs : List Reply) → map told_data rs ≡ map reply_data (map plain_reply rs)
unfolding told_data
all_told [] = refl
all_told (r ∷ rs) = ap (λ (ds : List Data). reply_data (plain_reply r) ∷ ds) (all_told rs)

pub listed_told : (rs : List Reply) → array (items_of (map told_data rs)) ≡ listed reply_data (map plain_reply rs)
listed_told rs = ap (λ (ds : List Data). array (items_of ds)) (all_told rs)
