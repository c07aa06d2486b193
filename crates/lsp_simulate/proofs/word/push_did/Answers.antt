use Rattle.lsp_simulate.proofs.WordLemmas.{appended}
use Rattle.lsp_simulate.proofs.word.push_did.Goals as goal

pub returns-in-Changed : goal.returns-in-Changed
returns-in-Changed c =
    rw c.in-Changed.is (appended _ _ c.extend_from_slice.result c.extend_from_slice.ensures.items)

pub returns-in-Dropped : goal.returns-in-Dropped
returns-in-Dropped c =
    rw c.in-Dropped.is
    (appended _ _ c.extend_from_slice-in-Dropped.result c.extend_from_slice-in-Dropped.ensures.items)

pub returns-in-Ignored : goal.returns-in-Ignored
returns-in-Ignored c =
    rw c.in-Ignored.is
    (appended _ _ c.extend_from_slice-in-Ignored.result c.extend_from_slice-in-Ignored.ensures.items)
