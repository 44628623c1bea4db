-- What the log tells of the replies on contents that have the claims.
use Rattle.std.proofs.Common.{◌≡◌, ℕ, not, List, [], ap, sym, ◌∙◌, subst}
use Rattle.sto_item.specs.declared.item.Item.{Item}
use Rattle.sto_item.specs.Pending.{Entry}
use Rattle.sto_model.specs.declared.body.Next.TheVariants.{Commit, Cancel}
use Rattle.sto_model.specs.PlainReplies.{PlainReply}
use Rattle.sto_model.specs.Run.{Behaviour, IsRun}
use Rattle.sto_core.specs.declared.view.Claim.{Claim}
use Rattle.sto_core.specs.declared.view.View.{View}
use Rattle.sto_core.specs.Lists.{Among}
use Rattle.sto_core.specs.History.{Validity}
use Rattle.sto_core.specs.Tells.{ClaimsFit}
use Rattle.sto_type.specs.Known.{Parts, IsPartOf}
use Rattle.sto_type.specs.Meaning.{Meaning, is_empty}
use Rattle.sto_type.specs.Runs.{IsRunOn}
use Rattle.sto_attempt_log.specs.declared.read_entry.ReadEntry.{ReadEntry}
use Rattle.sto_attempt_log.specs.ReadSet.{words_in, AreClaimed, HasClaims}
use Rattle.sto_attempt_log.specs.Log.{IsLog}
use Rattle.sto_attempt_log.specs.Answers.{IsPrefix, HasRead, HasCancelled}
use Rattle.sto_attempt_log.proofs.OneReply.{run_on}
use Rattle.sto_attempt_log.proofs.Claimed.{part_of_claims, claims_fit}

module _ (m : Meaning) (f : Behaviour) (v : View) (at : ℕ) (base : List ReadEntry) (items : List Item) (es : List Entry) (rs : List PlainReply) (h : IsLog m f (words_in base) items es rs) (a : AreClaimed v at base) where
  on_claims : (d : Parts) → m.valid d → HasClaims v at d → IsRunOn m f d es rs
  on_claims d w c = run_on m f (words_in base) items es rs d h.carried w (part_of_claims v at base d a c)

  pub prefix : IsPrefix m f v at rs
  prefix d w c = (on_claims d w c).run

  pub has_read : es ≡ [] → f rs ≡ Commit → HasRead m f v at rs
  has_read none ends = record {
    runs = λ d w c. subst (λ (l : List Entry). IsRunOn m f d l rs) none (on_claims d w c);
    ends = ends;
    writes = h.written ∙ ap (λ (l : List Entry). not (is_empty l)) none;
  }

  pub has_cancelled : f rs ≡ Cancel → HasCancelled m f v at rs
  has_cancelled ends = record { runs = prefix; ends = ends }

-- there are valid contents that what was read is part of
pub some_contents : (m : Meaning) (valid : Validity) (v : View) (at : ℕ) (base : List ReadEntry) → ((d : Parts) → valid v.sizes d → m.valid d) → ClaimsFit valid v → AreClaimed v at base → (d : Parts) × m.valid d × IsPartOf (words_in base) d
some_contents m valid v at base is fit a =
    let f : (d : Parts) × valid v.sizes d × HasClaims v at d = claims_fit valid v at fit in
    (f.0, is f.0 f.1, part_of_claims v at base f.0 a f.2)

-- the replies that run on all that was read, on contents that have the claims
pub prefix_of : (m : Meaning) (f : Behaviour) (v : View) (at : ℕ) (base : List ReadEntry) (rs : List PlainReply) → ((d : Parts) → m.valid d → IsPartOf (words_in base) d → IsRun m.machines f (m.rows d) rs) → AreClaimed v at base → IsPrefix m f v at rs
prefix_of m f v at base rs runs a d valid c = runs d valid (part_of_claims v at base d a c)

-- with more claims they are a prefix still
pub prefix_on : (m : Meaning) (f : Behaviour) (v w : View) (at : ℕ) (rs : List PlainReply) → w.starts ≡ v.starts → ((c : Claim) → Among c v.claims → Among c w.claims) → IsPrefix m f v at rs → IsPrefix m f w at rs
prefix_on m f v w at rs starts more h d valid c =
    h d valid (λ j k there start number. let a : Among k w.claims = more k (j, there) in c a.0 k a.1 (start ∙ sym starts) number)
