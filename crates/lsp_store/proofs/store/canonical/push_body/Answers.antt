use Rattle.lsp_store.proofs.Prelude.{◌≡◌, ◌+◌, ◌-◌, ◌++◌, ap, ◌∙◌, arith, length, length-append, map, w32, to_z-of_z, on_ok_weaker, IfErr-weaker, content_change, change_body, common_steps}
use Rattle.lsp_store.proofs.Messages.MessageLemmas.{body_pushed, body_within, encode_refused}
use Rattle.lsp_frame.specs.declared.written.EncodeFault.TheVariants as encode
use Rattle.lsp_store.proofs.store.canonical.push_body.Goals as goal

pub returns : goal.returns
returns c =
    let body = change_body c.args.uri.now c.args.version (map content_change c.args.changes.items) in
    let pushed : c.push_change.new.bytes.items ≡ c.args.bytes.now.items ++ body =
    body_pushed c.args.bytes.now.items c.push_change.new.bytes.items c.args.uri.now c.args.version _
    c.args.changes.items (rw c.deref.ensures.value at c.in_ok-push_change.ensures.ok) (to_z-of_z w32 _
    c.ranges.version) in
    let added : length c.push_change.new.bytes.items ≡ length c.args.bytes.now.items + length body =
    ap length pushed ∙ length-append c.args.bytes.now.items body in
    record {
      body = on_ok_weaker c.keep_within.result (λ same. same ∙ pushed) c.keep_within.ensures.kept;
      within =
          on_ok_weaker c.keep_within.result (λ short. body_within c.args.limits.now body (omega (arith, added, short)))
          c.keep_within.ensures.within;
      error =
          IfErr-weaker c.keep_within.result _ _
          (λ fault is.
          rw is.0 (encode_refused c.args.limits.now body
          (encode.BodyTooLong (length c.push_change.new.bytes.items - c.len-start.result)) (
            omega (arith, added, is.1),
            omega (arith, added),
          )))
          c.keep_within.ensures.error;
      unchanged = grind (arith, common_steps);
    }
