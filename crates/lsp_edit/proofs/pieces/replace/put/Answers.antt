use Rattle.lsp_edit.proofs.Parts.PartLemmas.{put_joined, put_apart}
use Rattle.lsp_edit.proofs.pieces.replace.put.Goals as goal

pub returns-in_ok-push-in-Some-joined : goal.returns-in_ok-push-in-Some-joined
returns-in_ok-push-in-Some-joined c =
    rw (
      c.in_ok-push-in-Some-joined.ensures.items,
      c.in-Some.ensures.items,
    ) (put_joined _ _ _ _ c.in-Some-joined.ensures)

pub returns-in_ok-push-in-None-joined-2 : goal.returns-in_ok-push-in-None-joined-2
returns-in_ok-push-in-None-joined-2 c =
    rw (c.in_ok-push-in-None-joined-2.ensures.items, c.in_ok-push-in-None-joined.ensures.items, c.in-Some.ensures.items)
    (put_apart _ _ _ c.in-None-joined.ensures)
