-- A handle is `Send`: it owns an object, which is, and the right to free its block. Assumes `Logic`.
use Rattle.laspidru.proofs.Prelude.{Bool, true, false, lone, Ptr, exits_of, shape, fields, to, Option, Some, None, Global, object_if}
use mir.Raw.{raw}
use base.Shift.{Keyless}
use denote.Param.Send.{IsSend, AllSend, owning_send, struct_send, sendable}
use Rattle.std.proofs.Crossing.{frees}
use Rattle.std_alloc.proofs.SendSync.{lies, quiet, crosses}
use Rattle.std.proofs.alloc.Global.TheSendSync as global
use Rattle.laspidru.specs.contracts.object.Object as object
use Rattle.laspidru.proofs.object.Object.TheSendSync as inner
use Rattle.laspidru.specs.contracts.handle.Handle as handle

what_it_owns : (full : Bool) (a : Global) (p : Ptr) (value : Option ((object.the_row).Denot))
    → Keyless (object_if full a p value)
what_it_owns true a p (Some x) = (
  lies object.the_row inner.the_send p x,
  frees.frees a (raw (lone (object.the_row).mir)) p,
)
what_it_owns true a p None = tt
what_it_owns false a p (Some x) = tt
what_it_owns false a p None = tt

its_fields : AllSend (fields handle.the_type)
its_fields = search (sendable, crosses, global.the_field_send)

pub send : IsSend handle.the_row
send = owning_send handle.the_type its_fields (λ h. what_it_owns h.is_full h.alloc h.pointer h.value)
    (λ k. quiet (to handle.the_type) (exits_of k (fields handle.the_type))
    ((struct_send (shape handle.the_type) its_fields).leaving k))
