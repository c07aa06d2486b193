-- What a handle owns.
use Rattle.std.specs.Prelude.{Bool, true, false, Option, Some, None}
use base.Fml.{Fml, ftrue, ffalse}
use denote.RawPtr.{Ptr}
use Rattle.std.specs.declared.alloc.Global.{Global}
use Rattle.std.specs.contracts.impls.GlobalAllocator.TheImpl.{ghosts}
use Rattle.std_alloc.specs.Box.Ownership.{box_owns}
use Rattle.laspidru.specs.contracts.object.Object.{the_row}

-- The object at a pointer, and the right to free its block.
abbrev pub object_at : Global → Ptr → the_row.Denot → Fml
object_at alloc p object = box_owns (ghosts.dealloc_token alloc) the_row p object

-- The same of a full handle. An empty one owns nothing.
abbrev pub object_if : Bool → Global → Ptr → Option (the_row.Denot) → Fml
object_if true alloc p (Some object) = object_at alloc p object
object_if true alloc p None = ffalse
object_if false alloc p (Some object) = ffalse
object_if false alloc p None = ftrue
