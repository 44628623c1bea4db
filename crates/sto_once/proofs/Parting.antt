-- Parts of code over a history, one after the other.
use Rattle.std.proofs.Common.{◌≡◌, List, [], ◌∷◌, ◌++◌, Result, Ok, Err, refl, sym, ap, ◌∙◌, subst, append_assoc, append-nil}
use Rattle.sto_model.specs.declared.call.Call.{Call}
use Rattle.sto_action.specs.declared.short_reply.ShortReply.{ShortReply}
use Rattle.sto_action.specs.Progs.{Prog, Asks, Gives, Cancels, chain}
use Rattle.sto_once.specs.declared.code.Halt.{Halt}
use Rattle.sto_once.specs.declared.code.Halt.TheVariants as halts
use Rattle.sto_once.specs.Once.{Heard, Answering, Ready, Leads, Adds, Goes, Gave, GaveUp, Wants}

gave_more : {E A B : Type 0} (p : Prog E A) (q : A → Prog E B) (hs ks : List Heard) (a : A) (b : B) → Gave p hs a → Gave (q a) ks b → Gave (chain p q) (hs ++ ks) b
gave_more (Asks call k) q [] ks a b l g = absurd l
gave_more (Asks call k) q (h ∷ hs) ks a b l g = (l.0, gave_more (k h.1) q hs ks a b l.1 g)
gave_more {E} {A} {B} (Gives c) q hs ks a b l g = subst (λ (l : List Heard). Gave (q c) (l ++ ks) b) (sym l.1) (subst (λ (x : A). Gave (q x) ks b) l.0 g)
gave_more (Cancels e) q hs ks a b l g = absurd l

gave_up_more : {E A B : Type 0} (p : Prog E A) (q : A → Prog E B) (hs ks : List Heard) (a : A) (e : E) → Gave p hs a → GaveUp (q a) ks e → GaveUp (chain p q) (hs ++ ks) e
gave_up_more (Asks call k) q [] ks a e l g = absurd l
gave_up_more (Asks call k) q (h ∷ hs) ks a e l g = (l.0, gave_up_more (k h.1) q hs ks a e l.1 g)
gave_up_more {E} {A} {B} (Gives c) q hs ks a e l g = subst (λ (l : List Heard). GaveUp (q c) (l ++ ks) e) (sym l.1) (subst (λ (x : A). GaveUp (q x) ks e) l.0 g)
gave_up_more (Cancels r) q hs ks a e l g = absurd l

wants_more : {E A B : Type 0} (p : Prog E A) (q : A → Prog E B) (hs ks : List Heard) (a : A) (c : Call) → Gave p hs a → Wants (q a) ks c → Wants (chain p q) (hs ++ ks) c
wants_more (Asks call k) q [] ks a c l g = absurd l
wants_more (Asks call k) q (h ∷ hs) ks a c l g = (l.0, wants_more (k h.1) q hs ks a c l.1 g)
wants_more {E} {A} {B} (Gives b) q hs ks a c l g = subst (λ (l : List Heard). Wants (q b) (l ++ ks) c) (sym l.1) (subst (λ (x : A). Wants (q x) ks c) l.0 g)
wants_more (Cancels e) q hs ks a c l g = absurd l

gave_up_first : {E A B : Type 0} (p : Prog E A) (q : A → Prog E B) (hs : List Heard) (e : E) → GaveUp p hs e → GaveUp (chain p q) hs e
gave_up_first (Asks call k) q [] e g = absurd g
gave_up_first (Asks call k) q (h ∷ hs) e g = (g.0, gave_up_first (k h.1) q hs e g.1)
gave_up_first (Gives b) q hs e g = absurd g
gave_up_first (Cancels r) q hs e g = g

wants_first : {E A B : Type 0} (p : Prog E A) (q : A → Prog E B) (hs : List Heard) (c : Call) → Wants p hs c → Wants (chain p q) hs c
wants_first (Asks call k) q [] c g = g
wants_first (Asks call k) q (h ∷ hs) c g = (g.0, wants_first (k h.1) q hs c g.1)
wants_first (Gives b) q hs c g = absurd g
wants_first (Cancels e) q hs c g = absurd g

module _ {X : Type 0} (x : Answering X) where
  both_heard : (old mid new : X) (hs ks : List Heard) → x.heard mid ≡ x.heard old ++ hs → x.heard new ≡ x.heard mid ++ ks → x.heard new ≡ x.heard old ++ (hs ++ ks)
  both_heard old mid new hs ks e f = f ∙ ap (λ (l : List Heard). l ++ ks) e ∙ append_assoc (x.heard old) hs ks

  -- a value, where nothing was asked
  pub gives_goes : (E : Type 0) {A : Type 0} (a : A) (old : X) → Goes x {E = E} (Gives a) old old (Ok a)
  gives_goes E a old = ((λ k h. h), ([], sym (append-nil (x.heard old)), (refl, refl)))

  -- a call
  pub asked_goes : {E : Type 0} (call : Call) (old new : X) (r : Result ShortReply (Halt E)) → Adds x call old new r → Goes x (Asks call Gives) old new r
  asked_goes call old new (Ok h) e = (e.0, ((call, h) ∷ [], e.1, (refl, (refl, refl))))
  asked_goes call old new (Err halts.Over) e = e
  asked_goes call old new (Err (halts.Untaken c)) e = (e.0, ([], e.1 ∙ sym (append-nil (x.heard old)), e.2), e.3)
  asked_goes call old new (Err (halts.Cancels r)) e = absurd e

  -- a call whose answer is a value of what was heard
  pub answered_goes : (E : Type 0) {A : Type 0} (call : Call) (f : ShortReply → A) (old new : X) (h : ShortReply) → Adds x {E = E} call old new (Ok h) → Goes x {E = E} (Asks call (λ h. Gives (f h))) old new (Ok (f h))
  answered_goes E call f old new h e = (e.0, ((call, h) ∷ [], e.1, (refl, (refl, refl))))

  pub unanswered_goes : {E A : Type 0} (call : Call) (f : ShortReply → A) (old new : X) (e : Halt E) → Adds x call old new (Err e) → Goes x (Asks call (λ h. Gives (f h))) old new (Err e)
  unanswered_goes call f old new halts.Over e = e
  unanswered_goes call f old new (halts.Untaken c) e = (e.0, ([], e.1 ∙ sym (append-nil (x.heard old)), e.2), e.3)
  unanswered_goes call f old new (halts.Cancels r) e = absurd e

  -- two parts
  pub then_goes : {E A B : Type 0} (p : Prog E A) (q : A → Prog E B) (old mid new : X) (a : A) (r : Result B (Halt E)) → Goes x p old mid (Ok a) → Goes x (q a) mid new r
      → Goes x (chain p q) old new r
  then_goes p q old mid new a (Ok b) l g =
      ((λ k h. g.0 k (l.0 k h)), (l.1.0 ++ g.1.0, both_heard old mid new l.1.0 g.1.0 l.1.1 g.1.1, gave_more p q l.1.0 g.1.0 a b l.1.2 g.1.2))
  then_goes p q old mid new a (Err halts.Over) l g = ((λ k h. g.0 k (l.0 k h)), g.1)
  then_goes p q old mid new a (Err (halts.Untaken c)) l g =
      ((λ k h. g.0 k (l.0 k h)), (l.1.0 ++ g.1.0, both_heard old mid new l.1.0 g.1.0 l.1.1 g.1.1, wants_more p q l.1.0 g.1.0 a c l.1.2 g.1.2), g.2)
  then_goes p q old mid new a (Err (halts.Cancels r)) l g =
      ((λ k h. g.0 k (l.0 k h)), (l.1.0 ++ g.1.0, both_heard old mid new l.1.0 g.1.0 l.1.1 g.1.1, gave_up_more p q l.1.0 g.1.0 a r l.1.2 g.1.2))

  -- the first of two parts stops
  pub stop_goes : {E A B : Type 0} (p : Prog E A) (q : A → Prog E B) (old new : X) (e : Halt E) → Goes x p old new (Err e) → Goes x (chain p q) old new (Err e)
  stop_goes p q old new halts.Over g = g
  stop_goes p q old new (halts.Untaken c) g = (g.0, (g.1.0, g.1.1, wants_first p q g.1.0 c g.1.2), g.2)
  stop_goes p q old new (halts.Cancels r) g = (g.0, (g.1.0, g.1.1, gave_up_first p q g.1.0 r g.1.2))

  -- after each part it may be asked again
  pub goes_ready : {E A : Type 0} (p : Prog E A) (old new : X) (r : Result A (Halt E)) → Goes x p old new r → Ready x old → Ready x new
  goes_ready p old new (Ok a) g h = (h.0, g.0 h.0 h.1)
  goes_ready p old new (Err halts.Over) g h = (h.0, g.0 h.0 h.1)
  goes_ready p old new (Err (halts.Untaken c)) g h = (h.0, g.0 h.0 h.1)
  goes_ready p old new (Err (halts.Cancels r)) g h = (h.0, g.0 h.0 h.1)

  pub goes_leads : {E A : Type 0} (p : Prog E A) (old new : X) (r : Result A (Halt E)) → Goes x p old new r → Leads x old new
  goes_leads p old new (Ok a) g = g.0
  goes_leads p old new (Err halts.Over) g = g.0
  goes_leads p old new (Err (halts.Untaken c)) g = g.0
  goes_leads p old new (Err (halts.Cancels r)) g = g.0
