use Rattle.lsp_client.proofs.Prelude.{◌≡◌, ◌∙◌, ap, sym, None, string_bytes, rules, w32, to_z, of_z, inr, refl, to_z-of_z, err_from_is_err_and, Takes, Command, command_refusal, ClientData, agreement}
use Rattle.lsp_message.specs.declared.params.OpenParams.{OpenParams}
use Rattle.lsp_client.proofs.OrderLemmas.{some_same}
use Rattle.lsp_store.proofs.Messages.MessageLemmas.{first_told}
use Rattle.lsp_client.proofs.SentLemmas.{order_sent, open_sent, long_refused, body_framed, document_of}
use Rattle.lsp_store.specs.Table as documents
use Rattle.lsp_client.proofs.client.Client.send_open.Goals as goal

pub returns-in_err-check_open-clause-error : goal.returns-in_err-check_open-clause-error
returns-in_err-check_open-clause-error c =
    let s : ClientData = c.args.self.now in
    let entry = document_of c.args.uri c.args.language c.args.version c.args.text in
    let p = err_from_is_err_and c.from_residual.result c.from_residual.ensures.1 in
    rw (p.1, p.2)
    (first_told (command_refusal s.limits s.table (documents.opens entry)) _ _
    (inr (rw (
      c.deref.ensures,
      c.deref-2.ensures,
      ap (λ (x : ClientData). x.limits) c.self.view_is,
      ap (λ (x : ClientData). x.table) c.self.view_is,
    ) at (c.in_err-check_open.ensures.error entry.language entry.version))))

pub returns-in_err-frame-clause-error : goal.returns-in_err-frame-clause-error
returns-in_err-frame-clause-error c =
    let s : ClientData = c.args.self.now in
    let version : to_z w32 (of_z w32 c.args.version) ≡ c.args.version = to_z-of_z w32 c.args.version (search rules) in
    let params = document_of c.args.uri c.args.language c.args.version c.args.text in
    let command : Command = documents.opens params in
    let limits : c.limits.result ≡ s.limits = c.limits.ensures ∙ ap (λ (x : ClientData). x.limits) c.self.view_is in
    let may : command_refusal s.limits s.table command ≡ None =
    rw (
      c.deref.ensures,
      c.deref-2.ensures,
      ap (λ (x : ClientData). x.limits) c.self.view_is,
      ap (λ (x : ClientData). x.table) c.self.view_is,
    ) at (c.in_ok-check_open.ensures.may params.language params.version) in
    let p = err_from_is_err_and c.from_residual-in_err-frame.result c.from_residual-in_err-frame.ensures.1 in
    rw (p.1, p.2)
    (long_refused c.limits.result s (agreement s).kind command _ c.in_err-frame.field-0.0 limits may
    (open_sent (agreement s).kind s.table params) (rw version at c.in_err-frame.ensures.error))

pub returns-clause-ok : goal.returns-clause-ok
returns-clause-ok c =
    let s : ClientData = c.args.self.now in
    let version : to_z w32 (of_z w32 c.args.version) ≡ c.args.version = to_z-of_z w32 c.args.version (search rules) in
    let params = document_of c.args.uri c.args.language c.args.version c.args.text in
    let command : Command = documents.opens params in
    let limits : c.limits.result ≡ s.limits = c.limits.ensures ∙ ap (λ (x : ClientData). x.limits) c.self.view_is in
    let body = open_sent (agreement s).kind s.table params in
    let is = some_same _ _ (sym c.in-Some.is ∙ c.open_params.ensures _ refl) in
    let uri : string_bytes c.in-Some.params.uri ≡ string_bytes c.args.uri =
    ap (λ (p : OpenParams). string_bytes p.uri) is in
    let language : string_bytes c.in-Some.params.language ≡ string_bytes c.args.language =
    ap (λ (p : OpenParams). string_bytes p.language) is in
    let text : string_bytes c.in-Some.params.text ≡ string_bytes c.args.text =
    ap (λ (p : OpenParams). string_bytes p.text) is in
    let given : c.in-Some.params.version ≡ c.args.version = ap (λ (p : OpenParams). p.version) is ∙ version in
    let taken : Takes c.self.inside.store command c.open.new.self =
    rw (uri, language, text, given, version) at c.in_ok-open.ensures.taken in
    order_sent c.self.inside.offers c.self.inside.phase c.self.inside.agreed c.self.inside.store c.open.new.self s
    (agreement s).kind command _
    c.self.view_is taken
    (body_framed s (agreement s).kind command c.limits.result _ _ limits body
    (rw version at c.in_ok-frame.ensures.within) (rw version at c.in_ok-frame.ensures.ok))

pub returns-in_err-frame-clause-memory : goal.returns-in_err-frame-clause-memory
returns-in_err-frame-clause-memory c = λ e.
    rw (
      c.deref.ensures,
      c.deref-2.ensures,
      ap (λ (x : ClientData). x.limits) c.self.view_is,
      ap (λ (x : ClientData). x.table) c.self.view_is,
    ) at (c.in_ok-check_open.ensures.may (string_bytes c.args.language) c.args.version)
