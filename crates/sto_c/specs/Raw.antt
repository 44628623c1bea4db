-- What the pointer of a handle owns: a box of what is held, or nothing.
use base.Fml.{Fml, ftrue, fex}
use denote.RawPtr.{Ptr}
use Rattle.std.specs.declared.alloc.Global.{Global}
use Rattle.std.specs.contracts.impls.GlobalAllocator.TheImpl.{ghosts}
use Rattle.std.specs.Box.Ownership.{box_owns}
use Rattle.sto_c.specs.declared.content.HandleContent.{HandleContent}
use Rattle.sto_c.specs.declared.content.HandleContent.TheVariants.{Nothing}
use Rattle.sto_c.specs.contracts.content.HandleContent.{the_row}
use Rattle.sto_c.specs.Content.{IsHeld}

abbrev pub raw_owns : Ptr → HandleContent → Fml
raw_owns p Nothing = ftrue
raw_owns p x = fex (IsHeld x × Global) (λ h. box_owns (ghosts.dealloc_token h.1) the_row p x)
