-- How a record is written with squash, and which batches are open after it.
use Rattle.std.specs.Prelude.{◌≡◌, ◌≤◌, ◌<◌}
use Rattle.log_rewrite.specs.Prelude.{ℕ, ⊤, true, false, List, length, Option, Some, None, bytes_eq, frame, DocumentItem, ChangeData, SquashData, HasReached, squash_of, entry_at, changed, ServerData, session_encoding}
use Rattle.log_rewrite.specs.declared.joining.Writing.{Writing}
use Rattle.log_rewrite.specs.declared.joining.Writing.TheVariants.{TooLong, Continues, Begins}
use Rattle.log_session.specs.Canonical.{canonical_if, canonical_change_body}
use Rattle.log_session.specs.Session.{Verdict, answered}
use Rattle.log_session.specs.inside.Taken.{joined_by, server_after}

-- The batches of a series lead to the document that is open now, with the server's limits and
-- encoding.
pub record IsOpenIn (server : ServerData) (squash : SquashData) : Type 0 where
  pub entry : DocumentItem
  pub is_open : entry_at server.table squash.uri ≡ Some entry
  pub reached : HasReached squash entry
  pub limits : squash.limits ≡ server.config.limits
  pub encoding : squash.encoding ≡ session_encoding server

-- No batches are open, or they lead to the document that is open now.
abbrev pub MayBeOpenIn : ServerData → Option SquashData → Type 0
MayBeOpenIn server None = ⊤
MayBeOpenIn server (Some squash) = IsOpenIn server squash

-- ---- a record

-- The canonical body of a change is within the limit, and this is its frame.
pub record IsFramed (server : ServerData) (p : ChangeData) (canonical : List ℕ) : Type 0 where
  pub is : canonical ≡ frame (canonical_change_body server p)
  pub within : length (canonical_change_body server p) ≤ server.config.limits.max_body

-- A record is an accepted change with this canonical frame.
pub record IsChange (server : ServerData) (change : Option ChangeData) (verdict : Verdict)
    (canonical : List ℕ) : Type 0 where
  pub params : ChangeData
  pub is : change ≡ Some params
  pub accepted : verdict ≡ answered changed
  pub framed : IsFramed server params canonical

-- The open series is of the same document, and the change joins it.
pub record IsLonger (series : Option SquashData) (p : ChangeData) (batches : SquashData) :
    Type 0 where
  pub before : SquashData
  pub open_one : series ≡ Some before
  pub same : bytes_eq p.uri before.uri ≡ true
  pub joined : batches ≡ joined_by p before

-- No series is open, or the open series is of another document.
abbrev pub IsOther : Option SquashData → ChangeData → Type 0
IsOther None p = ⊤
IsOther (Some squash) p = bytes_eq p.uri squash.uri ≡ false

-- These batches begin with a change of a document that is open.
pub record IsBegun (server : ServerData) (p : ChangeData) (batches : SquashData) : Type 0 where
  pub entry : DocumentItem
  pub is_open : entry_at server.table p.uri ≡ Some entry
  pub joined : batches ≡ joined_by p (squash_of server.config.limits (session_encoding server)
      entry)

-- How a record is written: as it is, as part of the open series, or as the first of a new one.
abbrev pub IsWriting : ServerData → Option SquashData → Option ChangeData → Verdict
    → Option Writing → Type 0
IsWriting server series change verdict None = canonical_if server change verdict ≡ None
IsWriting server series change verdict (Some TooLong) =
    (p : ChangeData) × (change ≡ Some p) × (verdict ≡ answered changed)
    × (server.config.limits.max_body < length (canonical_change_body server p))
IsWriting server series change verdict (Some (Continues canonical batches)) =
    (is : IsChange server change verdict canonical.items) × IsLonger series is.params batches
IsWriting server series change verdict (Some (Begins canonical ended batches)) =
    (is : IsChange server change verdict canonical.items) × IsOther series is.params
    × (ended ≡ series) × IsBegun server is.params batches

-- The batches that are open afterwards lead to the document that is open then.
abbrev pub IsOpenAfter : ServerData → Writing → Type 0
IsOpenAfter server TooLong = ⊤
IsOpenAfter server (Continues canonical batches) = IsOpenIn server batches
IsOpenAfter server (Begins canonical ended batches) = IsOpenIn server batches

-- ---- the same of a change that a running server accepts

-- How the change is written.
abbrev pub IsChangeWriting : ServerData → Option SquashData → ChangeData → Writing → Type 0
IsChangeWriting server series p TooLong =
    server.config.limits.max_body < length (canonical_change_body server p)
IsChangeWriting server series p (Continues canonical batches) =
    IsFramed server p canonical.items × IsLonger series p batches
    × IsOpenIn (server_after server p) batches
IsChangeWriting server series p (Begins canonical ended batches) =
    IsFramed server p canonical.items × IsOther series p × (ended ≡ series)
    × IsBegun server p batches × IsOpenIn (server_after server p) batches

-- The change was joined.
abbrev pub IsJoined : ServerData → Option SquashData → ChangeData → Option Writing → Type 0
IsJoined server series p None = ⊥
IsJoined server series p (Some writing) = IsChangeWriting server series p writing
