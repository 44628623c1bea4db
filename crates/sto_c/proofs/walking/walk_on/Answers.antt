-- Each pair is written behind those before it.
use Rattle.std.proofs.Common.{◌≡◌, ◌+◌, ◌<◌, ◌≤◌, ℤ, rules, w64, to_z, of_z, FitsSigned, List, length, take, Option, Some, None, Ok, Err, refl, sym, ◌∙◌, subst, arith, inl, inr}
use Rattle.std.specs.Prelude.{slice_set, IfSome, IfNone}
use Rattle.std.proofs.lemmas.Int.{to_z-of_z}
use Rattle.std.proofs.lemmas.List.{take_more_set, length-take-le, length-set}
use Rattle.sto_c.specs.declared.crossing.PairOut.{PairOut}
use Rattle.sto_c.specs.Walks.{key_after, HaveFound, HasFound, HasNone, HasNotFound}
use Rattle.sto_c.proofs.Walked.{have_found_more, left_behind, has_walked_on}
use Rattle.sto_c.proofs.walking.walk_on.Goals as goal

pub loop-place-init : goal.loop-place-init
loop-place-init c = record { worker = c.requires; store = (refl, refl); long = refl; found = (refl, refl); behind = refl; count = refl }

pub loop-place-preserved : goal.loop-place-preserved
loop-place-preserved c =
    let i = c.loop-place.invariant in
    let n = c.loop-place.place in
    let pairs = c.loop-place.pairs in
    let pair = c.in-Ok-Some.pair in
    let object = c.args.object in
    let from = c.args.from in
    let h = c.args.held.now in
    let from_fits = c.ranges.from in
    let key_fits : FitsSigned w64 c.in-Some.key = search rules in
    let pair_fits : FitsSigned w64 pair.key = search rules in
    let room : n < length pairs = omega (arith, c.loop-place-test.true, i.long) in
    let found = simp to_z-of_z at i.found in
    let one : HasFound object c.in-Some.key pair c.loop-place.held c.find.new.held =
    subst (λ (f : ℤ). HasFound object f pair c.loop-place.held c.find.new.held) (to_z-of_z w64 c.in-Some.key key_fits)
    (subst (λ (o : Option PairOut). IfSome o (λ p. HasFound object (to_z w64 (of_z w64 c.in-Some.key)) p c.loop-place.held c.find.new.held)) c.in-Ok-Some.field-0-is c.in-Ok-Some.ensures.some) in
    let after : c.key_after-next.result ≡ key_after pair.key = simp to_z-of_z at c.key_after-next.ensures in
    let before = subst (λ (next : Option ℤ). HaveFound object (Some from) (take n pairs) next h c.loop-place.held) c.in-Some.is found in
    let more = have_found_more object (Some from) (take n pairs) c.in-Some.key pair h c.loop-place.held c.find.new.held before one in
    record {
      worker = c.find.ensures.worker;
      store = (c.find.ensures.store.0 ∙ i.store.0, c.find.ensures.store.1 ∙ i.store.1);
      long = length-set pairs n pair ∙ i.long;
      found =
          subst (λ (f : ℤ). HaveFound object (Some f) (take (n + 1) (slice_set pairs n pair)) c.key_after-next.result h c.find.new.held) (sym (to_z-of_z w64 from from_fits))
          (subst (λ (next : Option ℤ). HaveFound object (Some from) (take (n + 1) (slice_set pairs n pair)) next h c.find.new.held) (sym after)
          (subst (λ (l : List PairOut). HaveFound object (Some from) l (key_after pair.key) h c.find.new.held) (sym (take_more_set pairs n pair room)) more));
      behind = left_behind n pairs c.args.pairs.now pair room i.behind;
      count = i.count;
    }

pub returns-in_default-clause-walked : goal.returns-in_default-clause-walked
returns-in_default-clause-walked c =
    let i = c.loop-place.invariant in
    let n = c.loop-place.place in
    let pairs = c.loop-place.pairs in
    let from_fits = c.ranges.from in
    let within : n ≤ length pairs = omega (arith, c.loop-place-test.true, i.long) in
    let found = simp to_z-of_z at i.found in
    has_walked_on c.args.object c.args.from c.args.pairs.now pairs n i.long within i.behind c.args.held.now c.loop-place.held None
    (subst (λ (next : Option ℤ). HaveFound c.args.object (Some c.args.from) (take n pairs) next c.args.held.now c.loop-place.held) c.in_default.is found)
    n (Ok tt) c.loop-place.held (sym (length-take-le n pairs within), inr refl)

pub returns-in-Ok-None-clause-walked : goal.returns-in-Ok-None-clause-walked
returns-in-Ok-None-clause-walked c =
    let i = c.loop-place.invariant in
    let n = c.loop-place.place in
    let pairs = c.loop-place.pairs in
    let from_fits = c.ranges.from in
    let key_fits : FitsSigned w64 c.in-Some.key = search rules in
    let within : n ≤ length pairs = omega (arith, c.loop-place-test.true, i.long) in
    let found = simp to_z-of_z at i.found in
    let none : HasNone c.args.object (Some c.in-Some.key) c.loop-place.held c.find.new.held =
    subst (λ (f : ℤ). HasNone c.args.object (Some f) c.loop-place.held c.find.new.held) (to_z-of_z w64 c.in-Some.key key_fits)
    (subst (λ (o : Option PairOut). IfNone o (HasNone c.args.object (Some (to_z w64 (of_z w64 c.in-Some.key))) c.loop-place.held c.find.new.held)) c.in-Ok-None.field-0-is c.in-Ok-None.ensures.none) in
    has_walked_on c.args.object c.args.from c.args.pairs.now pairs n i.long within i.behind c.args.held.now c.loop-place.held (Some c.in-Some.key)
    (subst (λ (next : Option ℤ). HaveFound c.args.object (Some c.args.from) (take n pairs) next c.args.held.now c.loop-place.held) c.in-Some.is found)
    n (Ok tt) c.find.new.held (sym (length-take-le n pairs within), inr none)

pub returns-in-Err-clause-walked : goal.returns-in-Err-clause-walked
returns-in-Err-clause-walked c =
    let i = c.loop-place.invariant in
    let n = c.loop-place.place in
    let pairs = c.loop-place.pairs in
    let from_fits = c.ranges.from in
    let key_fits : FitsSigned w64 c.in-Some.key = search rules in
    let within : n ≤ length pairs = omega (arith, c.loop-place-test.true, i.long) in
    let found = simp to_z-of_z at i.found in
    let failed = subst (λ (f : ℤ). HasNotFound c.args.object f c.loop-place.held c.in-Err.status c.find.new.held) (to_z-of_z w64 c.in-Some.key key_fits) c.in-Err.ensures.failed in
    has_walked_on c.args.object c.args.from c.args.pairs.now pairs n i.long within i.behind c.args.held.now c.loop-place.held (Some c.in-Some.key)
    (subst (λ (next : Option ℤ). HaveFound c.args.object (Some c.args.from) (take n pairs) next c.args.held.now c.loop-place.held) c.in-Some.is found)
    _ (Err c.in-Err.status) c.find.new.held failed

pub returns-clause-walked : goal.returns-clause-walked
returns-clause-walked c =
    let i = c.loop-place.invariant in
    let n = c.loop-place.place in
    let pairs = c.loop-place.pairs in
    let from_fits = c.ranges.from in
    let all : n ≡ length pairs = omega (arith, c.loop-place.auto.place-end, c.loop-place-test.false, i.long) in
    let within : n ≤ length pairs = omega (arith, all) in
    let many = length-take-le n pairs within in
    let found = simp to_z-of_z at i.found in
    has_walked_on c.args.object c.args.from c.args.pairs.now pairs n i.long within i.behind c.args.held.now c.loop-place.held c.loop-place.next found
    (length pairs) (Ok tt) c.loop-place.held (sym all ∙ sym many, inl (many ∙ all ∙ i.long, refl))
