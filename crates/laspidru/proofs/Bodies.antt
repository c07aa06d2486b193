-- What an end does with a body, and with a piece of its stream.
use Rattle.laspidru.proofs.Prelude.{◌≡◌, ◌≢◌, Bool, true, false, ℕ, List, Option, Some, None, Result, Ok, Err, IsOkAnd, inl, inr, ap, arith, refl, subst, sym, ◌∙◌, none-some, if◌then◌else◌, ClientFault, IsDelivered, IsFaultOf, ClientData, Delivery, DeliveredData, delivery_of, delivery_result, is_listening, OK, OUT_OF_MEMORY, WRONG_PHASE, Object, End, Client, Taken, delivered_out, sent_frame, HasNoBody, IsBodyOf, IsFedTo, EndData, call_code, Stream}
use Rattle.lsp_message.specs.Message.{reading}
use Rattle.laspidru.specs.declared.answers.Answer.{Answer}
use Rattle.laspidru.specs.declared.party.Party.{Party}
use Rattle.laspidru.specs.Codes.{IsAnswerOrNoMemory, IsRefusedOr, OnRefused, unless}
use Rattle.laspidru.specs.Ends.{Handling, IsHandled, IsHandledBy, IsTaken, as_end, closed, handling_by, handling_of, heard_out, listening}
use Rattle.lsp_client.specs.declared.fault.ClientFault.TheVariants as client

-- ---- a client's delivery

-- What a client does with a body, by whether it listens.
abbrev heard_if : Bool → Delivery → Result Handling ℕ
heard_if b it = unless (if b then None else Some WRONG_PHASE) (Ok (heard_out it))

abbrev result_if : Bool → ClientData → Delivery → Result Delivery ClientFault
result_if b s it = if b then Ok it else Err (client.WrongPhase s.phase)

delivered_if : (b : Bool) (s : ClientData) (it : Delivery) (given : DeliveredData (List ℕ)) (new : ClientData)
    (frame : List ℕ) (code : ℕ) (out : Answer)
    → IsDelivered (result_if b s it) given new → code ≡ OK → frame ≡ sent_frame given → out ≡ delivered_out given
    → IsAnswerOrNoMemory (heard_if b it) code (IsHandledBy (Client new) frame code out)
delivered_if true s it given new frame code out is done framed answered =
    inr (record {
      done = done;
      party_after = ap Client is.1;
      frame_after = framed ∙ ap sent_frame is.0;
      answer = answered ∙ ap delivered_out is.0;
    })
delivered_if false s it given new frame code out is done framed answered = absurd is

-- A body that a client accepts.
pub delivered : (s : ClientData) (body : List ℕ) (given : DeliveredData (List ℕ)) (new : ClientData)
    (frame : List ℕ) (code : ℕ) (out : Answer)
    → IsDelivered (delivery_result s (reading body)) given new → code ≡ OK → frame ≡ sent_frame given
    → out ≡ delivered_out given
    → IsAnswerOrNoMemory (handling_of (Client s) body) code (IsHandledBy (Client new) frame code out)
delivered s body given new frame code out =
    delivered_if (is_listening s.phase) s (delivery_of s (reading body)) given new frame code out

refused_if : (b : Bool) (s : ClientData) (it : Delivery) (fault : ClientFault) (code : ℕ) (Fact : Handling → Type 0)
    → IsFaultOf (result_if b s it) fault → code ≡ call_code fault → IsAnswerOrNoMemory (heard_if b it) code Fact
refused_if true s it fault code Fact why is = inl (is ∙ ap call_code why)
refused_if false s it fault code Fact why is = is ∙ ap call_code why

-- A body that a client refuses.
pub delivery_refused : (s : ClientData) (body : List ℕ) (fault : ClientFault) (new : ClientData) (frame : List ℕ)
    (code : ℕ) (out : Answer) → IsFaultOf (delivery_result s (reading body)) fault → code ≡ call_code fault
    → IsAnswerOrNoMemory (handling_of (Client s) body) code (IsHandledBy (Client new) frame code out)
delivery_refused s body fault new frame code out =
    refused_if (is_listening s.phase) s (delivery_of s (reading body)) fault code
    (IsHandledBy (Client new) frame code out)

-- ---- an end in an object

-- What the party of an end does is what the end does.
pub handled_in : (asked : Result Handling ℕ) (held : EndData) (party : Party) (frame : List ℕ) (code : ℕ)
    (stored : Option Object) (out : Answer) → IsAnswerOrNoMemory asked code (IsHandledBy party frame code out)
    → stored ≡ Some (End (record { party = party; frame = frame; stream = held.stream }))
    → IsAnswerOrNoMemory asked code (IsHandled held code stored out)
handled_in (Err refusal) held party frame code stored out is left = is
handled_in (Ok it) held party frame code stored out (inl none) left = inl none
handled_in (Ok it) held party frame code stored out (inr is) left =
    inr (record {
      done = is.done;
      end_after = left ∙ (λ i. Some (End (record {
        party = is.party_after i;
        frame = is.frame_after i;
        stream = held.stream;
      })));
      answer = is.answer;
    })

-- ---- a piece of a stream

-- The same with the code `OK`.
fed_well : (old new : Stream) (piece : List ℕ) (code : ℕ) (taken : Taken) → code ≡ OK
    → IsFedTo old piece code new taken → IsFedTo old piece OK new taken
fed_well old new piece code taken is fed = subst (λ c. IsFedTo old piece c new taken) is fed

-- There is a fault, and no byte was taken.
pub untaken : (old new : EndData) (piece : List ℕ) (code : ℕ) (taken : Taken) (before after : Answer)
    → IsFedTo old.stream piece code new.stream taken → code ≢ OK
    → new ≡ record old { stream = new.stream } → after ≡ before → IsTaken old piece code new taken before after
untaken old new piece code taken before after fed bad rest same =
    inl (rest, same, inl (record { fed = fed; none = λ is. absurd (bad is) }))

-- No message is whole.
pub none_taken : (old new : EndData) (piece : List ℕ) (code : ℕ) (taken : Taken) (before after : Answer)
    → IsFedTo old.stream piece code new.stream taken → code ≡ OK → HasNoBody new.stream.framing
    → new ≡ record old { stream = new.stream } → after ≡ before → IsTaken old piece OK new taken before after
none_taken old new piece code taken before after fed is no_body rest same =
    let well = fed_well old.stream new.stream piece code taken is fed in
    inl (rest, same, inl (record { fed = well; none = λ _. no_body }))

-- A message is whole, and out of memory.
pub waits : (old new : EndData) (piece body : List ℕ) (code : ℕ) (taken : Taken) (before after : Answer)
    → IsFedTo old.stream piece code new.stream taken → code ≡ OK → IsBodyOf new.stream.framing body
    → new ≡ record old { stream = new.stream } → after ≡ before → IsTaken old piece OUT_OF_MEMORY new taken before after
waits old new piece body code taken before after fed is whole rest same =
    let well = fed_well old.stream new.stream piece code taken is fed in
    inl (rest, same, inr (refl, (body, record { fed = well; is = whole })))

apart : OK ≡ OUT_OF_MEMORY → ⊥
apart same = omega arith

-- What an end that isn't refused did, where the call is done.
done_by : (refusal : Option ℕ) (it : Handling) (Fact : Handling → Type 0) → refusal ≡ None
    → IsAnswerOrNoMemory (unless refusal (Ok it)) OK Fact → Fact it
done_by (Some code) it Fact none is = absurd (none-some code (sym none))
done_by None it Fact none (inl memory) = absurd (apart memory)
done_by None it Fact none (inr fact) = fact

-- A message is whole, and was handled.
pub one_taken : (old new : EndData) (stream : Stream) (piece body frame : List ℕ) (party : Party) (code did : ℕ)
    (taken : Taken) (before after : Answer)
    → IsFedTo old.stream piece code stream taken → code ≡ OK → IsBodyOf stream.framing body
    → closed old.party ≡ None → did ≡ OK
    → IsAnswerOrNoMemory (handling_of old.party body) did (IsHandledBy party frame did after)
    → new ≡ record { party = party; frame = frame; stream = record stream { is_handled = true } }
    → IsTaken old piece OK new taken before after
one_taken old new stream piece body frame party code did taken before after fed is whole listens done handled left =
    let it : Handling = handling_by old.party body in
    let by : IsHandledBy party frame OK after it =
    done_by (closed old.party) it (IsHandledBy party frame OK after) listens
    (subst (λ c. IsAnswerOrNoMemory (handling_of old.party body) c (IsHandledBy party frame c after)) done handled) in
    inr (record {
      stream = stream;
      body = body;
      message = record { fed = fed_well old.stream stream piece code taken is fed; is = whole };
      done = refl;
      end_after = left ∙ (λ i. record {
        party = by.party_after i;
        frame = by.frame_after i;
        stream = record stream { is_handled = true };
      });
      answer = by.answer;
    })

-- The end of an object takes a piece.
pub taken_in : (object stored : Object) (held new : EndData) (piece : List ℕ) (code : ℕ) (taken : Taken)
    (before after : Answer) → object ≡ End held → closed held.party ≡ None → stored ≡ End new
    → IsTaken held piece code new taken before after → IsRefusedOr (listening (as_end object)) code
    (λ h. IsOkAnd (as_end stored) (λ t. IsTaken h piece code t taken before after))
taken_in object stored held new piece code taken before after is listens left took =
    subst (λ (o : Object). IsRefusedOr (listening (as_end o)) code
    (λ h. IsOkAnd (as_end stored) (λ t. IsTaken h piece code t taken before after))) (sym is)
    (subst (λ (o : Option ℕ). IsRefusedOr (unless o (Ok held)) code
    (λ h. IsOkAnd (as_end stored) (λ t. IsTaken h piece code t taken before after))) (sym listens)
    (subst (λ (o : Object). IsOkAnd (as_end o) (λ t. IsTaken held piece code t taken before after)) (sym left) took))

-- It isn't refused.
pub unrefused : (object : Object) (held : EndData) (Fact : Type 0) → object ≡ End held → closed held.party ≡ None
    → OnRefused (listening (as_end object)) Fact
unrefused object held Fact is listens =
    subst (λ (o : Object). OnRefused (listening (as_end o)) Fact) (sym is)
    (subst (λ (o : Option ℕ). OnRefused (unless o (Ok held)) Fact) (sym listens) tt)
