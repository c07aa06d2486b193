-- On which byte a fault of a header is decided, and the codes of faults.
use Rattle.std.specs.Prelude.{ℕ, ◌≡◌, ◌<◌, ◌+◌, ◌-◌, ◌^◌, List, length, take, min, Err, codes}
use Rattle.lsp_frame.specs.Header.{Line, AreLines, header_of, IsHeader, BeginsHeader}
use Rattle.lsp_frame.specs.Verdict.{judge_header}
use Rattle.lsp_frame.specs.declared.fault.HeaderFault.{HeaderFault}
use Rattle.lsp_frame.specs.declared.fault.HeaderFault.TheVariants as header
use Rattle.lsp_frame.specs.declared.fault.FrameFault.{FrameFault}
use Rattle.lsp_frame.specs.declared.fault.FrameFault.TheVariants.{BadHeader, HeaderTooLong, MissingLength, RepeatedHeader, BadLength, BodyTooLong, BadCharset, Failed, NoMemory}

-- The bytes before byte k begin some header, and with byte k they begin none.
pub record IsBadHeaderAt (bytes : List ℕ) (k : ℕ) : Type 0 where
  pub there : k < length bytes
  pub within : k < 8192
  pub before : BeginsHeader (take k bytes)
  pub not_on : BeginsHeader (take (k + 1) bytes) → ⊥
  pub not_whole : IsHeader (take (k + 1) bytes) → ⊥

-- Byte k is the 8,192nd of the header, and the header continues after it.
pub record IsHeaderTooLongAt (bytes : List ℕ) (k : ℕ) : Type 0 where
  pub there : k < length bytes
  pub place : k + 1 ≡ 8192
  pub on : BeginsHeader (take (k + 1) bytes)

-- Byte k is the last of a header, and the fault is the first that this header has.
pub record IsJudgedAt (max_body : ℕ) (bytes : List ℕ) (k : ℕ) (fault : HeaderFault) : Type 0 where
  pub lines : List Line
  pub each : AreLines lines
  pub is : take (k + 1) bytes ≡ header_of lines
  pub there : k < length bytes
  pub within : k < 8192
  pub judged : judge_header max_body lines ≡ Err fault

-- Of a frame that begins with these bytes: the fault is decided on byte k.
abbrev pub IsDecidedAt : ℕ → List ℕ → ℕ → HeaderFault → Type 0
IsDecidedAt max_body bytes k header.BadHeader = IsBadHeaderAt bytes k
IsDecidedAt max_body bytes k header.HeaderTooLong = IsHeaderTooLongAt bytes k
IsDecidedAt max_body bytes k fault = IsJudgedAt max_body bytes k fault

-- The fault with the offset of its byte in the stream.
abbrev pub header_fault_at : HeaderFault → ℕ → FrameFault
header_fault_at header.BadHeader place = BadHeader place
header_fault_at header.HeaderTooLong place = HeaderTooLong place
header_fault_at header.MissingLength place = MissingLength place
header_fault_at header.RepeatedHeader place = RepeatedHeader place
header_fault_at header.BadLength place = BadLength place
header_fault_at header.BodyTooLong place = BodyTooLong place
header_fault_at header.BadCharset place = BadCharset place

-- The code of a fault, as docs/PROTOCOL.md lists them.
abbrev pub frame_fault_code : FrameFault → List ℕ
frame_fault_code (BadHeader place) = codes "F1"
frame_fault_code (HeaderTooLong place) = codes "F2"
frame_fault_code (MissingLength place) = codes "F3"
frame_fault_code (RepeatedHeader place) = codes "F4"
frame_fault_code (BadLength place) = codes "F5"
frame_fault_code (BodyTooLong place) = codes "F6"
frame_fault_code (BadCharset place) = codes "F7"
frame_fault_code Failed = codes "F8"
frame_fault_code NoMemory = codes "F9"

-- The offset that is n bytes after another. It saturates at `u64::MAX`.
abbrev pub place_after : ℕ → ℕ → ℕ
place_after place n = min (place + n) (2 ^ 64 - 1)

-- The fault was decided on a byte of a frame, whose first byte has the offset `start` in the
-- stream.
pub record IsDecided (max_body start : ℕ) (bytes : List ℕ) (fault : FrameFault) : Type 0 where
  pub kind : HeaderFault
  pub k : ℕ
  pub decided : IsDecidedAt max_body bytes k kind
  pub is : fault ≡ header_fault_at kind (place_after start k)
