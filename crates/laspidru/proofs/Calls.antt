-- What a call of a client sends, and the code of its refusal, by the tables of its steps.
use Rattle.laspidru.proofs.Prelude.{◌≡◌, ℕ, List, length, Option, Some, Result, Ok, Err, inl, inr, ap, subst, ◌∙◌, ClientFault, IsSent, IsFaultOf, ClientData, Sending, OK, Object, End, Client, FaultAt, Stream, IsCallReport, call_code, IsCalled, IsWritten}
use Rattle.lsp_client.specs.declared.fault.ClientFault.TheVariants as client

-- A call that sends a frame is accepted.
pub accepted : (stream : Stream) (r : Result Sending ClientFault) (bytes : List ℕ) (new : ClientData) (code len : ℕ)
    (stored : Option Object) → IsSent r bytes new → code ≡ OK
    → stored ≡ Some (End (record { party = Client new; frame = bytes; stream = stream }))
    → len ≡ length bytes
    → IsCalled stream r code stored len
accepted stream (Ok sending) bytes new code len stored sent done held counted =
    inr (record {
      done = done;
      client = held ∙ (λ i. Some (End (record { party = Client (sent.1 i); frame = sent.0 i; stream = stream })));
      frame_len = counted ∙ ap length sent.0;
    })
accepted stream (Err refusal) bytes new code len stored sent done held counted = absurd sent

-- A call with a fault is refused, as the code of the fault says, or out of memory.
pub call_refused : (stream : Stream) (r : Result Sending ClientFault) (fault : ClientFault) (code len : ℕ)
    (stored : Option Object) → IsFaultOf r fault → code ≡ call_code fault → IsCalled stream r code stored len
call_refused stream (Ok sending) fault code len stored why is = inl (is ∙ ap call_code why)
call_refused stream (Err (client.Store refusal)) fault code len stored (inl none) is = inl (is ∙ ap call_code none)
call_refused stream (Err (client.Store refusal)) fault code len stored (inr why) is = inr (is ∙ ap call_code why)
call_refused stream (Err _) fault code len stored why is = is ∙ ap call_code why

-- What its report writes is of the refusal.
pub report_written : (r : Result Sending ClientFault) (fault : ClientFault) (code : ℕ) (out : FaultAt)
    → IsFaultOf r fault → code ≡ call_code fault → IsCallReport fault out → IsWritten r code out
report_written (Err (client.Store refusal)) fault code out (inl none) is written = inl (is ∙ ap call_code none)
report_written (Err (client.Store refusal)) fault code out (inr why) is written =
    inr (subst (λ f. IsCallReport f out) why written)
report_written _ fault code out why is written = tt

-- An accepted call writes no fault.
pub none_written : (r : Result Sending ClientFault) (bytes : List ℕ) (new : ClientData) (code : ℕ) (out : FaultAt)
    → IsSent r bytes new → IsWritten r code out
none_written (Ok sending) bytes new code out sent = tt
none_written (Err refusal) bytes new code out sent = absurd sent
