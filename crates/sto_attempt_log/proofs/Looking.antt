-- An entry that looks at what the items observe keeps validity, and tells what the attempt has written.
use Rattle.std.proofs.Common.{◌≡◌, ℕ, ℤ, pos, false, not, List, [], ◌∷◌, ap, sym, ◌∙◌, subst, slice_index_or, IsTrue}
use Rattle.sto_part.specs.Parts.{part_of}
use Rattle.sto_part.specs.Preds.{holds_of}
use Rattle.sto_item.specs.declared.item.Item.{Item}
use Rattle.sto_item.specs.declared.item.Item.TheVariants.{Seen, Holds}
use Rattle.sto_item.specs.Pending.{Entry as Update, applied_updates}
use Rattle.sto_item.specs.Agreement.{Agrees}
use Rattle.sto_model.specs.PlainReplies.{PlainReply}
use Rattle.sto_model.specs.Run.{Behaviour}
use Rattle.sto_core.specs.declared.view.Looked.{Looked}
use Rattle.sto_core.specs.Lists.{Each, Among}
use Rattle.sto_core.specs.History.{Shows}
use Rattle.sto_type.specs.Known.{Parts, Known, IsPartOf}
use Rattle.sto_type.specs.Meaning.{Meaning, IsLawful, is_empty}
use Rattle.sto_model.specs.declared.body.Next.TheVariants.{Commit}
use Rattle.sto_core.specs.declared.view.Entry.{Entry}
use Rattle.sto_core.specs.declared.view.Fate.TheVariants.{Committed}
use Rattle.sto_core.specs.declared.view.View.{View}
use Rattle.sto_attempt_log.specs.Answers.{HasWritten}
use Rattle.sto_type.specs.Runs.{IsRunOn}
use Rattle.sto_item.specs.Observed.{part_of_item}
use Rattle.sto_attempt_log.specs.Every.{AllOf}
use Rattle.sto_type.specs.Touching.{HasTouched}
use Rattle.sto_attempt_log.specs.Log.{IsLog}
use Rattle.sto_attempt_log.proofs.Touched.{touched_there}
use Rattle.sto_attempt_log.specs.Looking.{IsLooked, LooksAt}

-- contents that have what was looked at have the words with which a part was looked at
pub shown : (looked : List Looked) (p : ℕ) (ws : List ℤ) (c : Parts) → IsLooked looked p ws → Each (Shows c) looked → part_of c p ≡ ws
shown looked p ws c l h = ap (part_of c) (sym l.of_part) ∙ h l.among.0 l.one l.among.1 ∙ l.with_words

module _ (m : Meaning) (law : IsLawful m) (f : Behaviour) (base : Known) (rs : List PlainReply) (d : Parts) (v : m.valid d) (part : IsPartOf base d) where
  -- they agree with the items relative to what was read
  looked_agrees : (looked : List Looked) (c : Parts) (is : List Item) → Each (Shows c) looked → AllOf (λ (i : Item). HasTouched m f rs (part_of_item i)) is → AllOf (LooksAt base looked) is → Agrees c is d
  looked_agrees looked c [] h r l = tt
  looked_agrees looked c (Seen p ∷ is) h r l = (
    shown looked p l.0.words c l.0.looked_at h ∙ sym (part.same p l.0.words (touched_there m law f rs p d v r.0) l.0.read),
    looked_agrees looked c is h r.1 l.1,
  )
  looked_agrees looked c (Holds q ∷ is) h r l = (
    subst (λ (ws : List ℤ). IsTrue (holds_of q (slice_index_or ws q.word (pos 0)))) (sym (shown looked q.part l.0.words c l.0.looked_at h)) l.0.holds,
    looked_agrees looked c is h r.1 l.1,
  )

  -- so on all valid contents that have what was looked at, the run is that of the attempt, and its updates lead to valid contents
  pub looked_runs : (items : List Item) (es : List Update) (looked : List Looked) (c : Parts) → IsLog m f base items es rs → AllOf (LooksAt base looked) items → m.valid c → Each (Shows c) looked → IsRunOn m f c es rs
  looked_runs items es looked c is l w h = is.carried.runs d c v part w (looked_agrees looked c items h is.touched_items l)

  pub looked_keeps : (items : List Item) (es : List Update) (looked : List Looked) (c : Parts) → IsLog m f base items es rs → AllOf (LooksAt base looked) items → m.valid c → Each (Shows c) looked → m.valid (applied_updates es c)
  looked_keeps items es looked c is l w h = (looked_runs items es looked c is l w h).valid

-- what a committed entry tells, which looks at what the items observe
pub has_written_of :
    (m : Meaning) (law : IsLawful m) (f : Behaviour) (base : Known) (items : List Item) (us : List Update) (rs : List PlainReply) (v : View) (ticket : ℕ) (e : Entry) (d : Parts) → m.valid d → IsPartOf base d
    → IsLog m f base items us rs → AllOf (LooksAt base e.looked) items → Among e v.entries → e.ticket ≡ ticket → e.fate ≡ Committed → e.updates ≡ us → f rs ≡ Commit → is_empty us ≡ false → HasWritten m f v ticket rs
has_written_of m law f base items us rs v ticket e d w part log looks among drawn fate same ends some = record {
  entry = e;
  among = among;
  drawn = drawn;
  fate = fate;
  runs = λ c h shows. subst (λ (l : List Update). IsRunOn m f c l rs) (sym same) (looked_runs m law f base rs d w part items us e.looked c log looks h shows);
  ends = ends;
  writes = log.written ∙ ap not some;
}
