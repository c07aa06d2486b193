-- Which fault of a run each fault of a frame is, and the codes of faults.
use Rattle.std.specs.Prelude.{ℕ, List, codes}
use Rattle.lsp_frame.specs.declared.fault.FrameFault.{FrameFault}
use Rattle.lsp_frame.specs.declared.fault.FrameFault.TheVariants as frame
use Rattle.lsp_frame.specs.Faults.{frame_fault_code}
use Rattle.lsp_stream.specs.declared.fault.EngineFault.{EngineFault}
use Rattle.lsp_stream.specs.declared.fault.EngineFault.TheVariants as engine

-- F1 to F7 are P3 with the same byte offset; out of memory is a fault of its own, P6.
abbrev pub engine_fault : FrameFault → EngineFault
engine_fault frame.NoMemory = engine.NoMemory
engine_fault fault = engine.Frame fault

-- The code of a fault, as docs/LSPSYNC.md lists them. That of P3 is its cause.
abbrev pub engine_fault_code : EngineFault → List ℕ
engine_fault_code engine.Read = codes "P1"
engine_fault_code engine.Write = codes "P2"
engine_fault_code (engine.Frame fault) = frame_fault_code fault
engine_fault_code (engine.Truncated place) = codes "P4"
engine_fault_code (engine.BodyTooLong place) = codes "P5"
engine_fault_code engine.NoMemory = codes "P6"
engine_fault_code engine.TooManyTurns = codes "P7"
engine_fault_code (engine.BadLog place) = codes "P8"
