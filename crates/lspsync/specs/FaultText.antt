-- The text of a fault's line.
use Rattle.std.specs.Prelude.{◌++◌}
use Rattle.lspsync.specs.Prelude.{ℕ, List, codes, decimal, Option, Some, None, EngineFault}
use Rattle.lsp_frame.specs.declared.fault.FrameFault.{FrameFault}
use Rattle.lsp_frame.specs.declared.fault.FrameFault.TheVariants as frame
use Rattle.lsp_stream.specs.declared.fault.EngineFault.TheVariants as engine

-- A fault of a frame: its number, and the byte offset at which it is certain.
abbrev pub frame_text : FrameFault → List ℕ
frame_text (frame.BadHeader place) = codes "frame fault F1 at " ++ decimal place
frame_text (frame.HeaderTooLong place) = codes "frame fault F2 at " ++ decimal place
frame_text (frame.MissingLength place) = codes "frame fault F3 at " ++ decimal place
frame_text (frame.RepeatedHeader place) = codes "frame fault F4 at " ++ decimal place
frame_text (frame.BadLength place) = codes "frame fault F5 at " ++ decimal place
frame_text (frame.BodyTooLong place) = codes "frame fault F6 at " ++ decimal place
frame_text (frame.BadCharset place) = codes "frame fault F7 at " ++ decimal place
frame_text frame.Failed = codes "frame fault F8"
frame_text frame.NoMemory = codes "out of memory"

-- A fault of a run, with its byte offset in the input if it has one.
abbrev pub fault_text : EngineFault → List ℕ
fault_text engine.Read = codes "read fault"
fault_text engine.Write = codes "write fault"
fault_text (engine.Frame fault) = frame_text fault
fault_text (engine.Truncated place) = codes "truncated at " ++ decimal place
fault_text (engine.BodyTooLong place) = codes "body too long at " ++ decimal place
fault_text engine.NoMemory = codes "out of memory"
fault_text engine.TooManyTurns = codes "too many turns"
fault_text (engine.BadLog place) = codes "bad log at " ++ decimal place

-- The cause of a fault of a frame.
abbrev pub frame_cause : FrameFault → Option (List ℕ)
frame_cause (frame.BadHeader place) = Some (codes "no header can have this byte here")
frame_cause (frame.HeaderTooLong place) = Some (codes "the header has over 8192 bytes")
frame_cause (frame.MissingLength place) = Some (codes "the header has no Content-Length")
frame_cause (frame.RepeatedHeader place) = Some (codes "a line of the header comes twice")
frame_cause (frame.BadLength place) = Some (codes "the Content-Length is no number")
frame_cause (frame.BodyTooLong place) = Some (codes "the Content-Length is over --max-body")
frame_cause (frame.BadCharset place) = Some (codes "the charset is not utf-8")
frame_cause fault = None

-- The cause of a fault of the log. Other faults have none.
abbrev pub fault_cause : EngineFault → Option (List ℕ)
fault_cause (engine.Frame fault) = frame_cause fault
fault_cause (engine.Truncated place) = Some (codes "the log ends inside a message")
fault_cause (engine.BodyTooLong place) = Some (codes "the message to write is over --max-body")
fault_cause (engine.BadLog place) = Some (codes "this record can't come here")
fault_cause fault = None

-- The text of a fault of a file with its cause, and the page that has its code.
abbrev pub blame_text : List ℕ → List ℕ → List ℕ
blame_text text cause = text ++ (codes ": " ++ (cause ++ codes " (docs/PROTOCOL.md#codes)"))
