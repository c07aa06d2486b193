use Rattle.lsp_client.proofs.Prelude.{◌≡◌, ◌≢◌, ◌∙◌, ap, map, sym, rules, w32, to_z, of_z, None, to_z-of_z, err_from_is_err_and, content_change, command_refusal, ClientData, Full, agreement}
use Rattle.lsp_store.proofs.Messages.MessageLemmas.{first_told}
use Rattle.lsp_client.proofs.OrderLemmas.{not_full}
use Rattle.lsp_client.proofs.SentLemmas.{IsFramed, body_framed, canonical_framed, canonical_refused, change_of, long_refused, order_sent, planned_whole, whole_sent}
use Rattle.lsp_client.proofs.client.Client.send_edit.Goals as goal
use Rattle.lsp_client.proofs.client.Client.send_edit.Goals.{in-Full+in_ok-text-in-Full+in_ok-changes-in-Full+in_ok-frame-in-Full, in-Incremental+in_ok-frame-in-Incremental}

pub returns-in_err-plan-clause-error : goal.returns-in_err-plan-clause-error
returns-in_err-plan-clause-error c =
    let version : to_z w32 (of_z w32 c.args.version) ≡ c.args.version = to_z-of_z w32 c.args.version (search rules) in
    let limits = ap (λ (x : ClientData). x.limits) c.self.view_is in
    let table = ap (λ (x : ClientData). x.table) c.self.view_is in
    let p = err_from_is_err_and c.from_residual.result c.from_residual.ensures.1 in
    rw (p.1, p.2)
    (first_told _ _ _ (rw (version, c.agreement-agreed.ensures, limits, table) at c.in_err-plan.ensures.error))

pub returns-in_err-frame-in-Full-clause-error : goal.returns-in_err-frame-in-Full-clause-error
returns-in_err-frame-in-Full-clause-error c =
    let s : ClientData = c.args.self.now in
    let batch = map content_change c.args.changes.now in
    let version : to_z w32 (of_z w32 c.args.version) ≡ c.args.version = to_z-of_z w32 c.args.version (search rules) in
    let limits = ap (λ (x : ClientData). x.limits) c.self.view_is in
    let table = ap (λ (x : ClientData). x.table) c.self.view_is in
    let planned = rw version at c.in_ok-plan.ensures.planned in
    let may : command_refusal s.limits s.table (change_of s c.args.uri.now c.args.version batch) ≡ None =
    rw (c.agreement-agreed.ensures, limits, table) at planned.accepted in
    let left = rw (c.agreement-agreed.ensures, table) at
    (planned_whole _ _ _ _ _ _ planned _ (c.in_ok-text-in-Full.ensures planned.on)) in
    let full : (agreement s).kind ≡ Full = rw c.agreement-agreed.ensures at c.in-Full.is in
    let body = whole_sent s c.args.uri.now c.args.version batch _ full
    (left ∙ sym (ap (map content_change) c.in_ok-changes-in-Full.ensures.items)) in
    let p = err_from_is_err_and c.from_residual-in_err-frame-in-Full.result
    c.from_residual-in_err-frame-in-Full.ensures.1 in
    rw (p.1, p.2)
    (long_refused c.limits.result s (agreement s).kind (change_of s c.args.uri.now c.args.version batch) _
    c.in_err-frame-in-Full.field-0.0 (c.limits.ensures ∙ limits) may body
    (rw version at c.in_err-frame-in-Full.ensures.error))

pub returns-in_err-frame-in-Incremental-clause-error : goal.returns-in_err-frame-in-Incremental-clause-error
returns-in_err-frame-in-Incremental-clause-error c =
    let s : ClientData = c.args.self.now in
    let batch = map content_change c.args.changes.now in
    let version : to_z w32 (of_z w32 c.args.version) ≡ c.args.version = to_z-of_z w32 c.args.version (search rules) in
    let limits = ap (λ (x : ClientData). x.limits) c.self.view_is in
    let table = ap (λ (x : ClientData). x.table) c.self.view_is in
    let planned = rw version at c.in_ok-plan.ensures.planned in
    let not : (agreement s).kind ≢ Full = rw c.agreement-agreed.ensures at (not_full _ c.in-Incremental.is) in
    let p = err_from_is_err_and c.from_residual-in_err-frame-in-Incremental.result
    c.from_residual-in_err-frame-in-Incremental.ensures.1 in
    rw (p.1, p.2)
    (canonical_refused s c.args.uri.now c.args.version batch not c.in_err-frame-in-Incremental.field-0.0
    (rw (c.agreement-agreed.ensures, limits, table) at
    (c.in_err-frame-in-Incremental.ensures.error c.args.uri.now c.args.version c.agreement-agreed.result.encoding batch
    planned)))

pub returns-clause-ok : goal.returns-clause-ok
returns-clause-ok c =
    let s : ClientData = c.args.self.now in
    let batch = map content_change c.args.changes.now in
    let version : to_z w32 (of_z w32 c.args.version) ≡ c.args.version = to_z-of_z w32 c.args.version (search rules) in
    let limits = ap (λ (x : ClientData). x.limits) c.self.view_is in
    let table = ap (λ (x : ClientData). x.table) c.self.view_is in
    let planned = rw version at c.in_ok-plan.ensures.planned in
    let taken = c.in_ok-apply.ensures.taken c.args.uri.now c.args.version c.agreement-agreed.result.encoding batch
    planned in
    let framed : IsFramed s (agreement s).kind (change_of s c.args.uri.now c.args.version batch)
    c.match-agreed.frame.items =
    elim c.match-agreed.branch [
      | in-Full+in_ok-text-in-Full+in_ok-changes-in-Full+in_ok-frame-in-Full w ↦
          let left = rw (c.agreement-agreed.ensures, table) at
          (planned_whole _ _ _ _ _ _ planned _ (w.in_ok-text-in-Full.ensures planned.on)) in
          let full : (agreement s).kind ≡ Full = rw c.agreement-agreed.ensures at w.in-Full.is in
          let body = whole_sent s c.args.uri.now c.args.version batch _ full
          (left ∙ sym (ap (map content_change) w.in_ok-changes-in-Full.ensures.items)) in
          rw w.frame-is
          (body_framed s (agreement s).kind (change_of s c.args.uri.now c.args.version batch) w.limits.result _ _
          (w.limits.ensures ∙ limits) body (rw version at w.in_ok-frame-in-Full.ensures.within)
          (rw version at w.in_ok-frame-in-Full.ensures.framed))
      | in-Incremental+in_ok-frame-in-Incremental w ↦
          let not : (agreement s).kind ≢ Full = rw c.agreement-agreed.ensures at (not_full _ w.in-Incremental.is) in
          let sent = rw (c.agreement-agreed.ensures, limits, table) at
          (w.in_ok-frame-in-Incremental.ensures.framed c.args.uri.now c.args.version
          c.agreement-agreed.result.encoding batch planned) in
          rw w.frame-is (canonical_framed s c.args.uri.now c.args.version batch not _ sent.0 sent.1)
    ] in
    order_sent c.self.inside.offers c.self.inside.phase c.self.inside.agreed c.self.inside.store c.apply.new.self s
    (agreement s).kind (change_of s c.args.uri.now c.args.version batch) _ c.self.view_is
    (rw c.agreement-agreed.ensures at taken) framed
