-- What is counted of a text, and of two texts together.
use Rattle.std.specs.Prelude.{ℕ, ◌+◌, ◌<◌, ◌^◌}
use Rattle.lsp_text.specs.declared.encoding.Encoding.{Encoding}
use Rattle.lsp_text.specs.declared.encoding.Encoding.TheVariants.{Utf8, Utf16, Utf32}
use Rattle.lsp_buffer.specs.declared.counts.Counts.{Counts}
use Rattle.lsp_buffer.specs.Blocks.{carried}

-- The units of the last line in one encoding.
abbrev pub head_in : Counts → Encoding → ℕ
head_in counts Utf8 = counts.utf8
head_in counts Utf16 = counts.utf16
head_in counts Utf32 = counts.utf32

-- What two texts count, one after the other.
abbrev pub counts_sum : Counts → Counts → Counts
counts_sum front next = record {
  len = front.len + next.len;
  ends = front.ends + next.ends;
  utf8 = carried next.ends front.utf8 + next.utf8;
  utf16 = carried next.ends front.utf16 + next.utf16;
  utf32 = carried next.ends front.utf32 + next.utf32;
}

-- The sums have room.
pub record HaveRoom (front next : Counts) : Type 0 where
  pub len : front.len + next.len < 2 ^ 32
  pub ends : front.ends + next.ends < 2 ^ 32
  pub utf8 : front.utf8 + next.utf8 < 2 ^ 32
  pub utf16 : front.utf16 + next.utf16 < 2 ^ 32
  pub utf32 : front.utf32 + next.utf32 < 2 ^ 32
