-- The operation that a word of a line names.
use Rattle.sto_model.specs.declared.operation.Operation.{Operation}
use Rattle.sto_model.specs.declared.operation.Operation.TheVariants.{Get, Set, Add, Test, Take, Put, Remove, Has, Len, Next, Count, Scan, Push, Pop}
use Rattle.sto_syntax.specs.declared.operation.OperationWord.{OperationWord}
use Rattle.sto_syntax.specs.declared.operation.OperationWord.TheVariants as word

abbrev pub operation_named : OperationWord → Operation
operation_named word.Get = Get
operation_named word.Set = Set
operation_named word.Add = Add
operation_named (word.Compare test) = Test
operation_named word.Take = Take
operation_named word.Put = Put
operation_named word.Remove = Remove
operation_named word.Has = Has
operation_named word.Len = Len
operation_named word.Next = Next
operation_named word.Count = Count
operation_named word.Scan = Scan
operation_named word.Push = Push
operation_named word.Pop = Pop
