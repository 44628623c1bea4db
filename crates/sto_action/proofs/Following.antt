-- Parts of code, one after the other.
use Rattle.std.proofs.Common.{◌≡◌, List, [], ◌∷◌, Result, Ok, Err, refl, sym, ap, subst}
use Rattle.sto_model.specs.declared.call.Call.{Call}
use Rattle.sto_action.specs.declared.short_reply.ShortReply.{ShortReply}
use Rattle.sto_action.specs.declared.tx.Stop.{Stop}
use Rattle.sto_action.specs.declared.tx.Stop.TheVariants as stops
use Rattle.sto_action.specs.Progs.{Prog, Asks, Gives, Cancels, Runs, IsGiven, HasAsked, chain, Leaves, Follows}

given_of : {E A : Type 0} (p : Prog E A) (old new : List ShortReply) (a : A) → Leaves p old new a → IsGiven p old a
given_of (Asks call k) [] new a l = absurd l
given_of (Asks call k) (h ∷ hs) new a l = given_of (k h) hs new a l
given_of (Gives b) hs new a l = l.0
given_of (Cancels e) hs new a l = absurd l

-- a part of code is a run of it
pub runs_of : {E A : Type 0} (p : Prog E A) (old new : List ShortReply) (r : Result A (Stop E)) → Follows p old new r → Runs p old r
runs_of p old new (Ok a) f = given_of p old new a f
runs_of p old new (Err s) f = f

-- a call, and what code makes of its answer, is a part
pub asked_follows : {E R : Type 0} (call : Call) (answer : ShortReply → R) (old new : List ShortReply) (r : Result R (Stop E)) → HasAsked call answer old new r
    → Follows (Asks call (λ h. Gives (answer h))) old new r
asked_follows {E} call answer old new (Ok x) asked = subst (λ (l : List ShortReply). Leaves {E = E} (Asks call (λ h. Gives (answer h))) l new x) (sym asked.1) (asked.2, refl)
asked_follows {E} {R} call answer old new (Err s) asked =
    subst (λ (l : List ShortReply). Runs {E = E} {A = R} (Asks call (λ h. Gives (answer h))) l (Err s)) (sym asked.0)
    (subst (λ (y : Stop E). Runs {E = E} {A = R} (Asks call (λ h. Gives (answer h))) [] (Err y)) (sym asked.1) refl)

-- and such a part is the call
pub follows_asked : {E R : Type 0} (call : Call) (answer : ShortReply → R) (old new : List ShortReply) (r : Result R (Stop E)) → Follows (Asks call (λ h. Gives (answer h))) old new r
    → HasAsked call answer old new r
follows_asked call answer [] new (Ok x) f = absurd f
follows_asked call answer (h ∷ hs) new (Ok x) f = (h, ap (λ l. h ∷ l) (sym f.1), f.0)
follows_asked call answer [] new (Err (stops.Asks c)) f = (refl, ap stops.Asks f)
follows_asked call answer [] new (Err (stops.Cancels e)) f = absurd f
follows_asked call answer (h ∷ hs) new (Err (stops.Asks c)) f = absurd f
follows_asked call answer (h ∷ hs) new (Err (stops.Cancels e)) f = absurd f

-- a part that asks a call goes on with what is heard first
pub asks_on : {E A : Type 0} (call : Call) (k : ShortReply → Prog E A) (h : ShortReply) (hs new : List ShortReply) (r : Result A (Stop E)) → Follows (k h) hs new r → Follows (Asks call k) (h ∷ hs) new r
asks_on call k h hs new (Ok a) g = g
asks_on call k h hs new (Err (stops.Asks c)) g = g
asks_on call k h hs new (Err (stops.Cancels e)) g = g

asked_of : {E A : Type 0} (call : Call) (k : ShortReply → Prog E A) (h : ShortReply) (hs : List ShortReply) (s : Stop E) → Runs (Asks call k) (h ∷ hs) (Err s) → Runs (k h) hs (Err s)
asked_of call k h hs (stops.Asks c) g = g
asked_of call k h hs (stops.Cancels e) g = g

-- two parts, one after the other
pub then_follows : {E A B : Type 0} (p : Prog E A) (q : A → Prog E B) (old mid new : List ShortReply) (a : A) (r : Result B (Stop E)) → Follows p old mid (Ok a) → Follows (q a) mid new r
    → Follows (chain p q) old new r
then_follows (Asks call k) q [] mid new a r l g = absurd l
then_follows (Asks call k) q (h ∷ hs) mid new a r l g = asks_on call (λ h. chain (k h) q) h hs new r (then_follows (k h) q hs mid new a r l g)
then_follows (Gives b) q hs mid new a r l g = subst (λ (l : List ShortReply). Follows (q b) l new r) l.1 (subst (λ x. Follows (q x) mid new r) l.0 g)
then_follows (Cancels e) q hs mid new a r l g = absurd l

-- the first part stops, and so the whole does
pub stop_follows : {E A B : Type 0} (p : Prog E A) (q : A → Prog E B) (old mid new : List ShortReply) (s : Stop E) → Follows p old mid (Err s) → Follows (chain p q) old new (Err s)
stop_follows (Asks call k) q [] mid new (stops.Asks c) g = g
stop_follows (Asks call k) q [] mid new (stops.Cancels e) g = absurd g
stop_follows (Asks call k) q (h ∷ hs) mid new s g = asks_on call (λ h. chain (k h) q) h hs new (Err s) (stop_follows (k h) q hs mid new s (asked_of call k h hs s g))
stop_follows (Gives b) q hs mid new (stops.Asks c) g = absurd g
stop_follows (Gives b) q hs mid new (stops.Cancels e) g = absurd g
stop_follows (Cancels r) q hs mid new (stops.Asks c) g = absurd g
stop_follows (Cancels r) q hs mid new (stops.Cancels e) g = g
