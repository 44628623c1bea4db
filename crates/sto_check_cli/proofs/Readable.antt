-- The numbers of each file that can be read are of 64 bits.
use Rattle.std.proofs.Common.{◌≡◌, ℕ, suc, pos, ℤ, List, [], ◌∷◌, ◌++◌, Bool, true, false, cond, Option, None, Some, Result, Ok, Err, IfOk, IfSome, map, arith, sym, subst, length, nat_lt, ◌==◌}
use Rattle.std.specs.Option.{option_map}
use Rattle.std.specs.List.{All, list_all}
use Rattle.std.proofs.lemmas.List.Elements.{All-nil, All-cons, All-head, All-tail, All-push, All-append, All-map, All-filter, All-weaker}
use Rattle.sto_part.specs.declared.pred.Test.{Test}
use Rattle.sto_part.specs.declared.pred.Test.TheVariants.{Eq, Ne, Lt, Le, Gt, Ge}
use Rattle.sto_model.specs.declared.shape.Shape.{Shape}
use Rattle.sto_model.specs.declared.shape.Shape.TheVariants.{Single, Counter, Array}
use Rattle.sto_syntax.specs.Lines.{lines_of, words_of}
use Rattle.sto_syntax.specs.Forms.{Operand, Number, Variable, Form, VersionLine, DeclareLine, ThreadLine, BeginLine, CallLine, SumLine, DiffLine, IfLine, ElseLine, RepeatLine, EndLine, CancelLine, CommitLine, ScheduleLine, form_of}
use Rattle.sto_syntax.specs.declared.declared.Declared.{Declared}
use Rattle.sto_syntax.specs.declared.declared.Declared.TheVariants as declares
use Rattle.sto_syntax.specs.declared.operation.OperationWord.{OperationWord}
use Rattle.sto_syntax.specs.declared.operation.OperationWord.TheVariants.{Compare}
use Rattle.sto_model.specs.Operations.{test_number}
use Rattle.sto_lang.specs.declared.arg.Arg.{Arg}
use Rattle.sto_lang.specs.declared.fault.ScriptFault.{ScriptFault}
use Rattle.sto_lang.specs.declared.fault.FaultKind.{FaultKind}
use Rattle.sto_lang.specs.declared.fault.FaultKind.TheVariants.{TooLarge, BadByte}
use Rattle.sto_lang.specs.Statements.{Statements, Nothing, Ask, Sum, Diff, Choose, Repeat, Cancel, ◌then◌}
use Rattle.sto_lang.specs.Scripts.{Script, File}
use Rattle.sto_lang.specs.Shapes.{integer, shape_of, rank_of, of_rank, in_order}
use Rattle.sto_lang.specs.Objects.{Object, shapes_in, declarations_of, shapes_of}
use Rattle.sto_lang.specs.Drafts.{Draft, OpenTransaction, OpenBlock, FirstBranch, SecondBranch, Repetition, opening, argument, ask, object_of, closed, with_else, with_end, with_inner, script_of, with_script, with_commit, with_form}
use Rattle.sto_lang.specs.Faults.{fault_of}
use Rattle.sto_lang.specs.Files.{fault, is_allowed, unless, with_line_of, with_words, with_line, whole, ◌>>=◌, with_lines, file_of}
use Rattle.sto_lang.proofs.Branches.{Where}
use Rattle.sto_lang.proofs.SoundObjects.{shapes_are}
use Rattle.sto_store.proofs.Meant.{OpensFit}
use Rattle.sto_check_cli.proofs.Numbers.{Fits, count_fits, zero_fits}
use Rattle.sto_check_cli.proofs.Asking.{ArgFits, HaveNumbers}
use Rattle.sto_check_cli.proofs.Forms.{IfFits, OperandFits, FormFits, ValueFits, form_fits}

-- the numbers of what is open are
abbrev BlockFits : OpenBlock → Type 0
BlockFits (FirstBranch before a test b) = HaveNumbers before × ArgFits a × ArgFits b
BlockFits (SecondBranch before a test b first) = HaveNumbers before × ArgFits a × ArgFits b × HaveNumbers first
BlockFits (Repetition before times) = HaveNumbers before

abbrev BlocksFit : List OpenBlock → Type 0
BlocksFit [] = Unit {0}
BlocksFit (block ∷ blocks) = BlockFits block × BlocksFit blocks

record BegunFits (t : OpenTransaction) : Type 0 where
  blocks : BlocksFit t.blocks
  statements : HaveNumbers t.statements

abbrev InsideFits : Option OpenTransaction → Type 0
InsideFits inside = IfSome inside BegunFits

abbrev ScriptFits : Script → Type 0
ScriptFits script = HaveNumbers script.body

-- those of the lines so far are
record DraftFits (d : Draft) : Type 0 where
  objects : All (λ o. OpensFit o.shape) d.objects
  scripts : All (All ScriptFits) d.threads
  inside : InsideFits d.inside

-- those of a file are
pub record FileFits (file : File) : Type 0 where
  pub shapes : All OpensFit (shapes_of file.declarations)
  pub scripts : All (All ScriptFits) file.threads

-- Statements.

then_fits : (s more : Statements) → HaveNumbers s → HaveNumbers more → HaveNumbers (s then more)
then_fits Nothing more h k = k
then_fits (Ask to object operation a b rest) more h k = (h.0, h.1, then_fits rest more h.2 k)
then_fits (Sum to a b rest) more h k = (h.0, h.1, then_fits rest more h.2 k)
then_fits (Diff to a b rest) more h k = (h.0, h.1, then_fits rest more h.2 k)
then_fits (Choose a test b first second rest) more h k = (h.0, h.1, h.2, h.3, then_fits rest more h.4 k)
then_fits (Repeat times body rest) more h k = (h.0, then_fits rest more h.1 k)
then_fits (Cancel rest) more h k = then_fits rest more h k

integer_fits : (value : Option ℤ) → IfFits value → Fits (integer value)
integer_fits None f = zero_fits
integer_fits (Some x) f = f

argument_fits : (variables : List (List ℕ)) (operand : Operand) → OperandFits operand → ArgFits (argument variables operand)
argument_fits variables (Number value) f = integer_fits value f
argument_fits variables (Variable name) f = tt

-- the number of a comparison
test_fits : (test : Test) → Fits (pos (test_number test))
test_fits Eq = zero_fits
test_fits Ne = count_fits 1 (omega arith)
test_fits Lt = count_fits 2 (omega arith)
test_fits Le = count_fits 3 (omega arith)
test_fits Gt = count_fits 4 (omega arith)
test_fits Ge = count_fits 5 (omega arith)

ask_fits : (to : Option ℕ) (object : ℕ) (operation : OperationWord) (args : List Arg) → All ArgFits args → HaveNumbers (ask to object operation args)
ask_fits to object (Compare test) (k ∷ []) h = (test_fits test, h 0 k (omega arith), tt)
ask_fits to object operation [] h = (zero_fits, zero_fits, tt)
ask_fits to object operation (a ∷ []) h = (h 0 a (omega arith), zero_fits, tt)
ask_fits to object operation (a ∷ b ∷ more) h = (h 0 a (omega arith), h 1 b (omega arith), tt)

-- Lines of a transaction.

closed_fits : (block : OpenBlock) (inner : Statements) → BlockFits block → HaveNumbers inner → HaveNumbers (closed block inner)
closed_fits (FirstBranch before a test b) inner h k = then_fits before (Choose a test b inner Nothing Nothing) h.0 (h.1, h.2, k, tt, tt)
closed_fits (SecondBranch before a test b first) inner h k = then_fits before (Choose a test b first inner Nothing) h.0 (h.1, h.2, h.3, k, tt)
closed_fits (Repetition before times) inner h k = then_fits before (Repeat times inner Nothing) h (k, tt)

else_fits : (t : OpenTransaction) (blocks : List OpenBlock) → BlocksFit blocks → BegunFits t → BegunFits (with_else t blocks)
else_fits t [] b h = h
else_fits t (FirstBranch before a test c ∷ blocks) b h = record { blocks = ((b.0.0, b.0.1, b.0.2, h.statements), b.1); statements = tt }
else_fits t (SecondBranch before a test c first ∷ blocks) b h = h
else_fits t (Repetition before times ∷ blocks) b h = h

end_fits : (t : OpenTransaction) (blocks : List OpenBlock) → BlocksFit blocks → BegunFits t → BegunFits (with_end t blocks)
end_fits t [] b h = h
end_fits t (block ∷ blocks) b h = record { blocks = b.1; statements = closed_fits block t.statements b.0 h.statements }

inner_fits : (objects : List Object) (t : OpenTransaction) (form : Form) → FormFits form → BegunFits t → BegunFits (with_inner objects t form)
inner_fits objects t (CallLine to operation object operands) f h =
    record {
      blocks = h.blocks;
      statements = then_fits t.statements _ h.statements
          (ask_fits _ (object_of objects object) operation (map (argument t.variables) operands)
          (All-map ArgFits (argument t.variables) operands (All-weaker OperandFits (λ o. ArgFits (argument t.variables o)) (argument_fits t.variables) operands f)));
    }
inner_fits objects t (SumLine to a b) f h =
    record { blocks = h.blocks; statements = then_fits t.statements _ h.statements (argument_fits t.variables a f.0, argument_fits t.variables b f.1, tt) }
inner_fits objects t (DiffLine to a b) f h =
    record { blocks = h.blocks; statements = then_fits t.statements _ h.statements (argument_fits t.variables a f.0, argument_fits t.variables b f.1, tt) }
inner_fits objects t CancelLine f h = record { blocks = h.blocks; statements = then_fits t.statements (Cancel Nothing) h.statements tt }
inner_fits objects t (IfLine a test b) f h =
    record { blocks = ((h.statements, argument_fits t.variables a f.0, argument_fits t.variables b f.1), h.blocks); statements = tt }
inner_fits objects t (RepeatLine times) f h = record { blocks = (h.statements, h.blocks); statements = tt }
inner_fits objects t ElseLine f h = else_fits t t.blocks h.blocks h
inner_fits objects t EndLine f h = end_fits t t.blocks h.blocks h
inner_fits objects t (DeclareLine name declared) f h = h
inner_fits objects t (VersionLine version) f h = h
inner_fits objects t (ThreadLine name) f h = h
inner_fits objects t BeginLine f h = h
inner_fits objects t CommitLine f h = h
inner_fits objects t (ScheduleLine entries) f h = h

-- Lines.

shape_fits : (declared : Declared) → ValueFits declared → OpensFit (shape_of declared)
shape_fits (declares.Box value) f = integer_fits value f
shape_fits (declares.Counter value) f = integer_fits value f
shape_fits (declares.Array len value) f = integer_fits value f
shape_fits (declares.Hash buckets places) f = tt
shape_fits (declares.Tree leaves) f = tt
shape_fits (declares.Vector capacity) f = tt

scripts_fit : (threads : List (List Script)) (script : Script) → All (All ScriptFits) threads → ScriptFits script → All (All ScriptFits) (with_script threads script)
scripts_fit [] script h p = h
scripts_fit (thread ∷ []) script h p = All-cons (All ScriptFits) (thread ++ script ∷ []) [] (All-push ScriptFits thread script (All-head (All ScriptFits) thread [] h) p) (All-nil (All ScriptFits))
scripts_fit (thread ∷ next ∷ threads) script h p =
    All-cons (All ScriptFits) thread (with_script (next ∷ threads) script) (All-head (All ScriptFits) thread (next ∷ threads) h) (scripts_fit (next ∷ threads) script (All-tail (All ScriptFits) thread (next ∷ threads) h) p)

commit_fits : (d : Draft) (inside : Option OpenTransaction) → InsideFits inside → DraftFits d → DraftFits (with_commit d inside)
commit_fits d None i h = h
commit_fits d (Some t) i h = record { objects = h.objects; scripts = scripts_fit d.threads (script_of d.objects t) h.scripts i.statements; inside = tt }

within_fits : (objects : List Object) (form : Form) (inside : Option OpenTransaction) → FormFits form → InsideFits inside → InsideFits (option_map (λ t. with_inner objects t form) inside)
within_fits objects form None f h = tt
within_fits objects form (Some t) f h = inner_fits objects t form f h

inside_fits : (d : Draft) (form : Form) → FormFits form → DraftFits d → DraftFits (record d { inside = option_map (λ t. with_inner d.objects t form) d.inside })
inside_fits d form f h = record { objects = h.objects; scripts = h.scripts; inside = within_fits d.objects form d.inside f h.inside }

draft_fits : (d : Draft) (form : Form) → FormFits form → DraftFits d → DraftFits (with_form d form)
draft_fits d (DeclareLine name declared) f h =
    record { objects = All-push (λ o. OpensFit o.shape) d.objects _ h.objects (shape_fits declared f); scripts = h.scripts; inside = h.inside }
draft_fits d (VersionLine version) f h = record { objects = h.objects; scripts = h.scripts; inside = h.inside }
draft_fits d (ThreadLine name) f h = record { objects = h.objects; scripts = All-push (All ScriptFits) d.threads [] h.scripts (All-nil ScriptFits); inside = h.inside }
draft_fits d BeginLine f h = record { objects = h.objects; scripts = h.scripts; inside = record { blocks = tt; statements = tt } }
draft_fits d CommitLine f h = commit_fits d d.inside h.inside h
draft_fits d (ScheduleLine entries) f h = record { objects = h.objects; scripts = h.scripts; inside = h.inside }
draft_fits d (CallLine to operation object operands) f h = inside_fits d (CallLine to operation object operands) f h
draft_fits d (SumLine to a b) f h = inside_fits d (SumLine to a b) f h
draft_fits d (DiffLine to a b) f h = inside_fits d (DiffLine to a b) f h
draft_fits d (IfLine a test b) f h = inside_fits d (IfLine a test b) f h
draft_fits d ElseLine f h = inside_fits d ElseLine f h
draft_fits d (RepeatLine times) f h = inside_fits d (RepeatLine times) f h
draft_fits d EndLine f h = inside_fits d EndLine f h
draft_fits d CancelLine f h = inside_fits d CancelLine f h

-- Whole files.

line_fits : (d : Draft) (number : ℕ) (later : List (List ℕ)) (line : List ℕ) → DraftFits d → IfOk (with_line d number later line) DraftFits
line_fits d number later line h = by_bytes (list_all is_allowed line) (words (words_of line))
  where
    by_fault : (form : Form) (found : Option FaultKind) → FormFits form → IfOk (unless (with_form d form) number found) DraftFits
    by_fault form None f = draft_fits d form f h
    by_fault form (Some kind) f = tt

    by_form : (form : Option Form) → Where FormFits form → IfOk (with_line_of d number later form) DraftFits
    by_form None f = tt
    by_form (Some form) f = by_fault form (fault_of d later form) f

    words : (ws : List (List ℕ)) → IfOk (with_words d number later ws) DraftFits
    words [] = h
    words (word ∷ ws) = by_form (form_of d.version word ws) (form_fits d.version word ws)

    by_bytes : (allowed : Bool) → IfOk (with_words d number later (words_of line)) DraftFits → IfOk (cond allowed (with_words d number later (words_of line)) (fault number BadByte)) DraftFits
    by_bytes true k = k
    by_bytes false k = tt

-- shapes in the order of objects
pub in_order_all : (P : Shape → Type 0) (shapes : List Shape) → All P shapes → All P (in_order shapes)
in_order_all P shapes h = more _ 5 (more _ 4 (more _ 3 (more _ 2 (more _ 1 (kept 0)))))
  where
    kept : (r : ℕ) → All P (of_rank r shapes)
    kept r = All-filter (λ s. rank_of s == r) P shapes h

    more : (front : List Shape) (r : ℕ) → All P front → All P (front ++ of_rank r shapes)
    more front r k = All-append P front (of_rank r shapes) k (kept r)

whole_fits : (d : Draft) (number : ℕ) (inside : Option OpenTransaction) (file : File) → DraftFits d → whole d number inside ≡ Ok file → FileFits file
whole_fits d number None file h e =
    let same : record { version = d.version; declarations = declarations_of d.objects; names = d.names; threads = d.threads; schedule = d.schedule } ≡ file = cc in
    subst FileFits same (record {
      shapes = subst (All OpensFit) (sym (shapes_are d.objects)) (in_order_all OpensFit (shapes_in d.objects) (All-map OpensFit (λ o. o.shape) d.objects h.objects));
      scripts = h.scripts;
    })
whole_fits d number (Some t) file h e = absurd cc

lines_fit : (d : Draft) (number : ℕ) (lines : List (List ℕ)) (file : File) → DraftFits d → with_lines d number lines ≡ Ok file → FileFits file
lines_fit d number [] file h e = whole_fits d number d.inside file h e
lines_fit d number (line ∷ lines) file h e = by (with_line d number lines line) (line_fits d number lines line h) e (λ x. lines_fit x (suc number) lines file)
  where
    by : (r : Result Draft ScriptFault) → IfOk r DraftFits → r >>= (λ x. with_lines x (suc number) lines) ≡ Ok file → ((x : Draft) → DraftFits x → with_lines x (suc number) lines ≡ Ok file → FileFits file) → FileFits file
    by (Ok x) k e more = more x k e
    by (Err x) k e more = absurd cc

by_size : (large : Bool) (bytes : List ℕ) (file : File) → cond large (fault 0 TooLarge) (with_lines opening 1 (lines_of bytes)) ≡ Ok file → FileFits file
by_size true bytes file e = absurd cc
by_size false bytes file e =
    lines_fit opening 1 (lines_of bytes) file (record { objects = All-nil (λ (o : Object). OpensFit o.shape); scripts = All-nil (All ScriptFits); inside = tt }) e

-- each file that can be read
pub readable_fits : (bytes : List ℕ) (file : File) → file_of bytes ≡ Ok file → FileFits file
readable_fits bytes file e = by_size (nat_lt 1048576 (length bytes)) bytes file e
