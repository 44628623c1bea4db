use Rattle.std.proofs.Common.{◌≡◌, ◌<◌, ap, sym, ◌∙◌, subst, map, length, arith, slice_index_or}
use Rattle.sto_model.specs.PlainReplies.{plain_reply}
use Rattle.sto_attempt_log.specs.declared.log.Log.{Log}
use Rattle.sto_attempt_log.specs.declared.read_phase.ReadPhase.{ReadPhase}
use Rattle.sto_attempt_log.specs.declared.read_phase.ReadPhase.TheVariants.{Reading, Rereading}
use Rattle.sto_attempt_log.specs.ReadSet.{words_in}
use Rattle.sto_attempt_log.specs.Log.{IsOnLog, IsLog}
use Rattle.sto_attempt_log.specs.Standing.{IsLeft}
use Rattle.sto_attempt_log.proofs.Stepping.{any_prefix, ok_always}
use Rattle.sto_attempt_log.specs.Standing.{IsFirst}
use Rattle.std.proofs.Common.{OnOk}
use Rattle.sto_core.specs.Event.{Event, Word}
use Rattle.sto_attempt_log.specs.Answers.{OneEvent}
use Rattle.sto_attempt_log.specs.Growing.{HasHeard}
use Rattle.sto_attempt_log.specs.Reasons.{IsCaused}
use Rattle.sto_attempt_log.specs.Standing.{next_event, KeepsExtension}
use Rattle.sto_attempt_log.proofs.Onward.{heard_none}
use Rattle.sto_attempt_log.proofs.Stepping.{word_next}
use Rattle.sto_attempt_log.specs.Standing.{HasBegun}
use Rattle.sto_attempt_log.proofs.Stepping.{moves_same}
use Rattle.sto_attempt_log.specs.Answers.{IsPrefix}
use Rattle.sto_attempt_log.specs.Bounds.{events_left}
use Rattle.sto_attempt_log.specs.Standing.{IsUnaborted}
use Rattle.sto_attempt_log.proofs.Stepping.{if_ok, err_map, unaborted_caused, keeps_same}
use Rattle.sto_type.specs.Traits.{of_type}
use Rattle.sto_attempt.specs.Attempts.{unread}
use Rattle.sto_attempt.proofs.Attempts.{under_way_at}
use Rattle.sto_attempt.proofs.attempt.Attempt.read_word.Goals as goal

pub reread-requires : goal.reread-requires
reread-requires g c =
    let a = c.args.self.now in
    let m = g.T.TxType.meaning a.log.ty.now in
    let more = subst (λ (s : ReadPhase). 0 < unread m.widths s a.log.table.words.items) c.in-Rereading.is c.requires.more in
    record {
      before = under_way_at (of_type g.T.Naming g.T.TxType) g.B.Body a (g.C.Cells.view c.args.cells.now) a.read_phase _ c.in-Rereading.is c.requires.before;
      read_phase = c.in-Rereading.is;
      more = omega (arith, more);
      few = c.requires.few;
    }

pub word-requires : goal.word-requires
word-requires g c =
    let a = c.args.self.now in
    let m = g.T.TxType.meaning a.log.ty.now in
    let more = subst (λ (s : ReadPhase). 0 < unread m.widths s a.log.table.words.items) c.in-Reading.is c.requires.more in
    record {
      before = under_way_at (of_type g.T.Naming g.T.TxType) g.B.Body a (g.C.Cells.view c.args.cells.now) a.read_phase _ c.in-Reading.is c.requires.before;
      read_phase = c.in-Reading.is;
      more = omega (arith, more);
      few = c.requires.few;
    }

pub returns-in-Reading : goal.returns-in-Reading
returns-in-Reading g c =
    let a = c.args.self.now in
    let m = g.T.TxType.meaning a.log.ty.now in
    let v = g.C.Cells.view c.args.cells.now in
    let passes = g.C.Cells.passes c.args.cells.now in
    let valid = g.T.Naming.valid in
    let more = subst (λ (s : ReadPhase). 0 < unread m.widths s a.log.table.words.items) c.in-Reading.is c.requires.more in
    let short : length a.log.table.words.items < slice_index_or m.widths c.in-Reading.part 0 = omega (arith, more) in
    let to : next_event m.widths a.read_phase a.log.table.words.items ≡ Word c.in-Reading.part (length a.log.table.words.items) = ap (λ (s : ReadPhase). next_event m.widths s a.log.table.words.items) c.in-Reading.is ∙ word_next m.widths c.in-Reading.part a.log.table.words.items short in
    let f = g.B.Body.script a.log.body in
    let b = c.word.new.self in
    let rs = map plain_reply a.log.table.replies.items in
    let k = c.word.new.self.log in
    let w = g.C.Cells.view c.word.new.cells in
    let now = map plain_reply b.log.table.replies.items in
    let sizes = g.T.Naming.sizes a.log.ty.now in
    let log : IsLog m f (words_in b.log.table.base.items) b.log.table.set.items b.log.table.set.updates now = subst (λ (k : Log g.row.T.Denot g.row.B.Denot). IsLog m f (words_in k.table.base.items) k.table.set.items k.table.set.updates (map plain_reply k.table.replies.items)) (sym c.word.ensures.log) c.requires.before.log.log in
    record {
      steps = record {
        event = subst (λ (x : Event). OneEvent (λ e. e ≡ x) valid passes v (g.C.Cells.view c.word.new.cells)) (sym to) c.word.ensures.event;
        log = ok_always c.word.result (IsOnLog m (g.B.Body.then b.log.body) f (g.B.Body.left b.log.body) (g.B.Body.may_ask b.log.body) b.log.table.base.items b.log.table.set b.log.table.cache b.log.table.replies.items) (subst (λ (k : Log g.row.T.Denot g.row.B.Denot). IsOnLog m (g.B.Body.then k.body) f (g.B.Body.left k.body) (g.B.Body.may_ask k.body) k.table.base.items k.table.set k.table.cache k.table.replies.items) (sym c.word.ensures.log) c.requires.before.log);
        turned = c.word.ensures.turned;
        grown = ok_always c.word.result (HasHeard m f (words_in k.table.base.items) rs a.log.table.set (map plain_reply k.table.replies.items) k.table.set)
            (subst (λ (h : Log g.row.T.Denot g.row.B.Denot). HasHeard m f (words_in h.table.base.items) rs a.log.table.set (map plain_reply h.table.replies.items) h.table.set) (sym c.word.ensures.log) (heard_none m f (words_in a.log.table.base.items) rs a.log.table.set));
        alone = λ one first. if_ok c.word.result (λ turn. (IsFirst (Reading c.in-Reading.part c.in-Reading.ticket) → IsFirst b.read_phase) × IsUnaborted turn) (λ turn. IsFirst b.read_phase × IsUnaborted turn) (λ turn h. (h.0 tt, h.1)) c.word.ensures.alone;
        reason = if_ok c.word.result (λ turn. (IsFirst (Reading c.in-Reading.part c.in-Reading.ticket) → IsFirst b.read_phase) × IsUnaborted turn) (λ turn. IsCaused (next_event m.widths a.read_phase a.log.table.words.items) b.log.table.set.items w a.log.table.extension turn) (λ turn h. unaborted_caused (next_event m.widths a.read_phase a.log.table.words.items) b.log.table.set.items w a.log.table.extension turn h.1) c.word.ensures.alone;
        renewed = ok_always c.word.result (KeepsExtension a.read_phase w a.log.table.extension rs b.log.table.extension now) (subst (λ (s : ReadPhase). KeepsExtension s w a.log.table.extension rs b.log.table.extension now) (sym c.in-Reading.is) (keeps_same a.log.table.extension b.log.table.extension rs now c.word.ensures.extension (ap (λ (k : Log g.row.T.Denot g.row.B.Denot). map plain_reply k.table.replies.items) c.word.ensures.log)));
        moves = moves_same c.word.result a.read_phase (subst HasBegun (sym c.in-Reading.is) tt) a.at b.read_phase b.at w c.word.ensures.moves;
        left = subst (λ (s : ReadPhase). OnOk c.word.result (events_left (g.B.Body.left b.log.body) m.widths b.read_phase b.log.table.words.items b.log.table.extension b.log.table.base.items < events_left (g.B.Body.left a.log.body) m.widths s a.log.table.words.items a.log.table.extension a.log.table.base.items)) (sym c.in-Reading.is) c.word.ensures.left;
        err = err_map c.word.result (IsLeft w × IsPrefix m f w b.at now) (IsLeft w) (λ h. h.0) c.word.ensures.err;
        script = ap (λ (k : Log g.row.T.Denot g.row.B.Denot). g.B.Body.script k.body) c.word.ensures.log;
        left_at_reset = ap (λ (k : Log g.row.T.Denot g.row.B.Denot). g.B.Body.left_at_reset k.body) c.word.ensures.log;
        ty = ap (λ (k : Log g.row.T.Denot g.row.B.Denot). k.ty) c.word.ensures.log;
      };
      prefix = any_prefix m valid sizes f b.at b.log.table.words.items b.log.table.extension b.log.table.base.items b.log.table.set.items b.log.table.set.updates now w b.read_phase c.word.result (IsLeft w) c.word.ensures.turned (ok_always c.word.result (IsLog m f (words_in b.log.table.base.items) b.log.table.set.items b.log.table.set.updates now) log) c.word.ensures.err;
      one = c.word.ensures.one;
      longer = c.word.ensures.longer;
      same = c.word.ensures.same;
    }

pub returns-in-Rereading : goal.returns-in-Rereading
returns-in-Rereading g c =
    let a = c.args.self.now in
    let m = g.T.TxType.meaning a.log.ty.now in
    let v = g.C.Cells.view c.args.cells.now in
    let passes = g.C.Cells.passes c.args.cells.now in
    let valid = g.T.Naming.valid in
    let more = subst (λ (s : ReadPhase). 0 < unread m.widths s a.log.table.words.items) c.in-Rereading.is c.requires.more in
    let short : length a.log.table.words.items < slice_index_or m.widths c.in-Rereading.part 0 = omega (arith, more) in
    let to : next_event m.widths a.read_phase a.log.table.words.items ≡ Word c.in-Rereading.part (length a.log.table.words.items) = ap (λ (s : ReadPhase). next_event m.widths s a.log.table.words.items) c.in-Rereading.is ∙ word_next m.widths c.in-Rereading.part a.log.table.words.items short in
    let f = g.B.Body.script a.log.body in
    let b = c.reread.new.self in
    let rs = map plain_reply a.log.table.replies.items in
    let k = c.reread.new.self.log in
    let w = g.C.Cells.view c.reread.new.cells in
    let now = map plain_reply b.log.table.replies.items in
    let sizes = g.T.Naming.sizes a.log.ty.now in
    let log : IsLog m f (words_in b.log.table.base.items) b.log.table.set.items b.log.table.set.updates now = subst (λ (k : Log g.row.T.Denot g.row.B.Denot). IsLog m f (words_in k.table.base.items) k.table.set.items k.table.set.updates (map plain_reply k.table.replies.items)) (sym c.reread.ensures.log) c.requires.before.log.log in
    record {
      steps = record {
        event = subst (λ (x : Event). OneEvent (λ e. e ≡ x) valid passes v (g.C.Cells.view c.reread.new.cells)) (sym to) c.reread.ensures.event;
        log = ok_always c.reread.result (IsOnLog m (g.B.Body.then b.log.body) f (g.B.Body.left b.log.body) (g.B.Body.may_ask b.log.body) b.log.table.base.items b.log.table.set b.log.table.cache b.log.table.replies.items) (subst (λ (k : Log g.row.T.Denot g.row.B.Denot). IsOnLog m (g.B.Body.then k.body) f (g.B.Body.left k.body) (g.B.Body.may_ask k.body) k.table.base.items k.table.set k.table.cache k.table.replies.items) (sym c.reread.ensures.log) c.requires.before.log);
        turned = c.reread.ensures.turned;
        grown = ok_always c.reread.result (HasHeard m f (words_in k.table.base.items) rs a.log.table.set (map plain_reply k.table.replies.items) k.table.set)
            (subst (λ (h : Log g.row.T.Denot g.row.B.Denot). HasHeard m f (words_in h.table.base.items) rs a.log.table.set (map plain_reply h.table.replies.items) h.table.set) (sym c.reread.ensures.log) (heard_none m f (words_in a.log.table.base.items) rs a.log.table.set));
        alone = λ one first. absurd (subst IsFirst c.in-Rereading.is first);
        reason = if_ok c.reread.result (λ turn. (IsFirst (Rereading c.in-Rereading.part c.in-Rereading.ticket) → IsFirst b.read_phase) × IsUnaborted turn) (λ turn. IsCaused (next_event m.widths a.read_phase a.log.table.words.items) b.log.table.set.items w a.log.table.extension turn) (λ turn h. unaborted_caused (next_event m.widths a.read_phase a.log.table.words.items) b.log.table.set.items w a.log.table.extension turn h.1) c.reread.ensures.alone;
        renewed = ok_always c.reread.result (KeepsExtension a.read_phase w a.log.table.extension rs b.log.table.extension now) (subst (λ (s : ReadPhase). KeepsExtension s w a.log.table.extension rs b.log.table.extension now) (sym c.in-Rereading.is) (keeps_same a.log.table.extension b.log.table.extension rs now c.reread.ensures.extension (ap (λ (k : Log g.row.T.Denot g.row.B.Denot). map plain_reply k.table.replies.items) c.reread.ensures.log)));
        moves = moves_same c.reread.result a.read_phase (subst HasBegun (sym c.in-Rereading.is) tt) a.at b.read_phase b.at w c.reread.ensures.moves;
        left = subst (λ (s : ReadPhase). OnOk c.reread.result (events_left (g.B.Body.left b.log.body) m.widths b.read_phase b.log.table.words.items b.log.table.extension b.log.table.base.items < events_left (g.B.Body.left a.log.body) m.widths s a.log.table.words.items a.log.table.extension a.log.table.base.items)) (sym c.in-Rereading.is) c.reread.ensures.left;
        err = err_map c.reread.result (IsLeft w × IsPrefix m f w b.at now) (IsLeft w) (λ h. h.0) c.reread.ensures.err;
        script = ap (λ (k : Log g.row.T.Denot g.row.B.Denot). g.B.Body.script k.body) c.reread.ensures.log;
        left_at_reset = ap (λ (k : Log g.row.T.Denot g.row.B.Denot). g.B.Body.left_at_reset k.body) c.reread.ensures.log;
        ty = ap (λ (k : Log g.row.T.Denot g.row.B.Denot). k.ty) c.reread.ensures.log;
      };
      prefix = any_prefix m valid sizes f b.at b.log.table.words.items b.log.table.extension b.log.table.base.items b.log.table.set.items b.log.table.set.updates now w b.read_phase c.reread.result (IsLeft w) c.reread.ensures.turned (ok_always c.reread.result (IsLog m f (words_in b.log.table.base.items) b.log.table.set.items b.log.table.set.updates now) log) c.reread.ensures.err;
      one = c.reread.ensures.one;
      longer = c.reread.ensures.longer;
      same = c.reread.ensures.same;
    }
