use Rattle.lsp_message.proofs.Prelude.{◌≡◌, codes, refl, ap, ◌∙◌, object, view, members_view, view-Object}
use Rattle.lsp_message.proofs.MemberLemmas.{message_of_object}
use Rattle.lsp_message.proofs.message.message_of.Goals as goal

pub returns : goal.returns
returns c =
    let members = c.in-Object.members in
    let is : view c.args.value ≡ object (members_view members.entries) = ap view c.in-Object.is ∙ view-Object members in
    let version = c.take-version.ensures in
    let method = c.take-method.ensures in
    let id = c.take-id.ensures in
    let params = c.take-params.ensures in
    let error = c.take-error.ensures in
    rw (
      is,
      message_of_object (members_view members.entries),
      ← version.value,
      ← (method.value ∙ version.others (codes "method") refl),
      ← (id.value ∙ method.others (codes "id") refl ∙ version.others (codes "id") refl),
      ← (params.value ∙ id.others (codes "params") refl ∙ method.others (codes "params") refl
          ∙ version.others (codes "params") refl),
      ← (error.value ∙ params.others (codes "error") refl ∙ id.others (codes "error") refl
          ∙ method.others (codes "error") refl ∙ version.others (codes "error") refl),
      ← (c.take-outcome.ensures.value ∙ error.others (codes "result") refl ∙ params.others (codes "result") refl
          ∙ id.others (codes "result") refl ∙ method.others (codes "result") refl
          ∙ version.others (codes "result") refl),
    ) c.message_by.ensures
