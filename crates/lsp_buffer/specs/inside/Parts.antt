-- A text in three parts: what comes before a block, the block, and what comes after it.
use Rattle.std.specs.Prelude.{ℕ, ◌≡◌, ◌+◌, ◌<◌, ◌≤◌, ◌⊎◌, List, [], ◌++◌, length, take}
use Rattle.std.specs.List.{concat}
use Rattle.std.specs.Str.{IsUtf8}
use Rattle.lsp_buffer.specs.declared.counts.Counts.{Counts}
use Rattle.lsp_buffer.specs.declared.find.Found.{Found}
use Rattle.lsp_buffer.specs.declared.find.Target.{Target}
use Rattle.lsp_buffer.specs.declared.find.Target.TheVariants.{Denoted, Offset}
use Rattle.lsp_buffer.specs.Blocks.{EndsClear, block_ends, counts_of}
use Rattle.lsp_buffer.specs.inside.Counts.{head_in}
use Rattle.lsp_buffer.specs.inside.Seams.{IsAtOrAfter}

-- Nothing, or it ends with no carriage return.
abbrev pub Closes : List ℕ → Type 0
Closes bytes = (bytes ≡ []) ⊎ EndsClear bytes

-- Nothing comes after a part, or it ends with no carriage return.
abbrev pub IsClearSeam : List ℕ → List ℕ → Type 0
IsClearSeam block rest = (rest ≡ []) ⊎ EndsClear block

-- Bytes in three parts.
pub record AreThree (bytes front block rest : List ℕ) : Type 0 where
  pub whole : bytes ≡ front ++ (block ++ rest)
  pub front_utf8 : IsUtf8 front
  pub block_utf8 : IsUtf8 block
  pub closes : Closes front
  pub after : IsClearSeam block rest

-- What begins after a text that counts so much, begins at the target or before it.
abbrev pub Reaches : Target → Counts → Type 0
Reaches (Offset offset) before = before.len ≤ offset
Reaches (Denoted encoding position) before =
    IsAtOrAfter before.ends (head_in before encoding) position

-- A block that begins at the target or before it, and what comes before the block.
pub record BeginsBefore (blocks : List (List ℕ)) (target : Target) (found : Found) : Type 0 where
  pub within : found.index < length blocks
  pub before : found.before ≡ counts_of (concat (take found.index blocks))
  pub low : Reaches target found.before

-- A block that begins at the target or before it, and how many bytes and line ends come before it.
pub record IsPassed (blocks : List (List ℕ)) (target : Target) (index len ends : ℕ) : Type 0 where
  pub within : index < length blocks
  pub low : Reaches target (counts_of (concat (take index blocks)))
  pub len_is : len ≡ length (concat (take index blocks))
  pub ends_are : ends ≡ block_ends (concat (take index blocks))

-- The last block that begins at the target or before it.
pub record IsFound (blocks : List (List ℕ)) (target : Target) (found : Found) : Type 0 where
  pub begins : BeginsBefore blocks target found
  pub last : found.index + 1 < length blocks
      → Reaches target (counts_of (concat (take (found.index + 1) blocks))) → ⊥

-- A block of a text in three parts, which the target is in.
pub record IsPartAt (bytes front block rest : List ℕ) (target : Target) (before : Counts) : Type 0
  where
    pub parts : AreThree bytes front block rest
    pub before_is : before ≡ counts_of front
    pub low : Reaches target before
    pub last : (rest ≡ []) ⊎ (Reaches target (counts_of (front ++ block)) → ⊥)
    pub utf8 : IsUtf8 bytes
    pub size : length bytes ≤ 2147483648

-- A block of a text, which the target is in, and what comes before the block.
pub record IsPart (bytes : List ℕ) (target : Target) (block : List ℕ) (before : Counts) : Type 0
  where
    pub front : List ℕ
    pub rest : List ℕ
    pub at : IsPartAt bytes front block rest target before
