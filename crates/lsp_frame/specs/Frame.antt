-- Frames, as they are written and as they may be read. (LSP 3.17, Base Protocol)
use Rattle.std.specs.Prelude.{ℕ, ◌≡◌, ◌≢◌, ◌≤◌, List, ◌++◌, length, codes, decimal, Ok}
use Rattle.lsp_frame.specs.Header.{Line, AreLines, header_of}
use Rattle.lsp_frame.specs.Verdict.{judge_header}

-- The frame of a body as it is written: the header `Content-Length: N`, an empty line, and the
-- body. N is the body's length in bytes. (LSP 3.17, Base Protocol)
unfoldable pub frame : List ℕ → List ℕ
frame body = codes "Content-Length: " ++ decimal (length body) ++ codes "\r\n\r\n" ++ body

-- The bytes are a frame of this body, as it may be read: a good header of at most 8,192 bytes, and
-- then the body. The header states the body's length.
pub record IsFrameOf (max_body : ℕ) (raw body : List ℕ) : Type 0 where
  pub lines : List Line
  pub each : AreLines lines
  pub is : raw ≡ header_of lines ++ body
  pub short : length (header_of lines) ≤ 8192
  pub good : judge_header max_body lines ≡ Ok (length body)

-- The bytes begin with no whole frame.
abbrev pub HasNoFrame : ℕ → List ℕ → Type 0
HasNoFrame max_body bytes = (raw body more : List ℕ) → IsFrameOf max_body raw body →
    bytes ≢ raw ++ more

-- The bytes begin with no whole frame, whatever may follow them.
abbrev pub IsHopeless : ℕ → List ℕ → Type 0
IsHopeless max_body bytes = (more : List ℕ) → HasNoFrame max_body (bytes ++ more)
