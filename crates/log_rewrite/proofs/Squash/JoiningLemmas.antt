-- A change that is accepted is joined to the batches of the open series, or begins batches of its own.
use Rattle.log_rewrite.proofs.Prelude.{List, None, Some, [], ap, arith, bytes_eq, false, map, refl, subst, sym, ℕ, ◌∙◌, ◌∷◌, ◌≡◌, ◌≢◌, cases_Bool, common_steps, bytes_eq-Decides, Version, ChangeData, DocumentItem, Session, judge_client, IsBegun, IsLonger, IsOpenIn, server_after, accepted_if, did_change, ServerData, content_change_from_data, session_encoding, Running, after_is, HasReached, IsSquashAfter, SquashData, squash_of, units_in, Encoding}
use Rattle.lsp_store.specs.Table.{changed as changed_entry, entry_at}
use Rattle.lsp_store.proofs.LawLemmas.{found_changed}

-- URIs that aren't equal
pub not_same : (a b : List ℕ) → b ≢ a → bytes_eq a b ≡ false
not_same a b not = grind (arith, common_steps, cases_Bool, bytes_eq-Decides)

-- a change that is not accepted for the phase or for its encoding
module _ (s : Session) (version : Version) (p : ChangeData) where
  pub idle : s.server.phase ≢ Running
      → accepted_if (Some p) (judge_client s version (did_change (Some p))).verdict ≡ None
  idle not = grind (arith, common_steps)

  pub early : s.expected ≢ None → accepted_if (Some p) (judge_client s version (did_change (Some p))).verdict ≡ None
  early some = grind (arith, common_steps)

-- ---- the batches that are open afterwards

pub uri_at : (table : List DocumentItem) (uri : List ℕ) (entry : DocumentItem) → entry_at table uri ≡ Some entry
    → entry.uri ≡ uri
uri_at [] uri entry found = absurd (let wrong : None ≡ Some entry = found in cc)
uri_at (first ∷ table) uri entry found =
    grind (arith, common_steps, cases_Bool, bytes_eq-Decides, (uri_at table uri entry))

module _ (server : ServerData) (p : ChangeData) (entry : DocumentItem)
    (found : entry_at server.table p.uri ≡ Some entry) where
  -- the document that is open then
  left : (squash next : SquashData) → squash.uri ≡ p.uri → squash.limits ≡ server.config.limits → squash.encoding
      ≡ session_encoding server → IsSquashAfter squash p.version (map content_change_from_data p.changes) next
      → HasReached next (changed_entry (units_in squash.encoding) entry p.version
      (map content_change_from_data p.changes)) → IsOpenIn (server_after server p) next
  left squash next uri limits encoding adds reached = record {
    entry = changed_entry (units_in (session_encoding server)) entry p.version (map content_change_from_data p.changes);
    is_open =
        ap (λ (u : List ℕ). entry_at (server_after server p).table u) (ap (λ (k : SquashData). k.uri) adds.is ∙ uri)
        ∙ found_changed (units_in (session_encoding server)) server.table p.uri p.version
        (map content_change_from_data p.changes)
        entry found;
    reached = subst (λ (e : Encoding). HasReached next
        (changed_entry (units_in e) entry p.version (map content_change_from_data p.changes))) encoding reached;
    limits = ap (λ (k : SquashData). k.limits) adds.is ∙ limits;
    encoding = ap (λ (k : SquashData). k.encoding) adds.is ∙ encoding;
  }

  pub longer_open : (squash next : SquashData) → IsOpenIn server squash → p.uri ≡ squash.uri
      → IsSquashAfter squash p.version (map content_change_from_data p.changes) next
      → HasReached next (changed_entry (units_in squash.encoding) entry p.version
      (map content_change_from_data p.changes)) → IsOpenIn (server_after server p) next
  longer_open squash next at same adds reached = left squash next (sym same) at.limits at.encoding adds reached

  pub is_longer : (squash next : SquashData) → p.uri ≡ squash.uri
      → IsSquashAfter squash p.version (map content_change_from_data p.changes) next → IsLonger (Some squash) p next
  is_longer squash next same adds = record {
    before = squash;
    open_one = refl;
    same = (bytes_eq-Decides p.uri squash.uri).1 same;
    joined = after_is squash p.version (map content_change_from_data p.changes) next adds;
  }

  pub begun_open : (next : SquashData) → IsSquashAfter (squash_of server.config.limits (session_encoding server) entry)
      p.version (map content_change_from_data p.changes) next
      → HasReached next (changed_entry (units_in (session_encoding server)) entry p.version
      (map content_change_from_data p.changes)) → IsOpenIn (server_after server p) next
  begun_open next adds reached = left (squash_of server.config.limits (session_encoding server) entry) next
      (uri_at server.table p.uri entry found) refl refl adds reached

  pub is_begun : (next : SquashData) → IsSquashAfter (squash_of server.config.limits (session_encoding server) entry)
      p.version (map content_change_from_data p.changes) next → IsBegun server p next
  is_begun next adds = record {
    entry = entry;
    is_open = found;
    joined = after_is (squash_of server.config.limits (session_encoding server) entry) p.version
        (map content_change_from_data p.changes) next adds;
  }

-- the open document of a series is the one that is found
pub same_entry : (server : ServerData) (squash : SquashData) (uri : List ℕ) (entry : DocumentItem)
    → (at : IsOpenIn server squash) → uri ≡ squash.uri → entry_at server.table uri ≡ Some entry → at.entry ≡ entry
same_entry server squash uri entry at same found =
    let both : Some at.entry ≡ Some entry = sym at.is_open ∙ ap (λ (u : List ℕ). entry_at server.table u) (sym same)
    ∙ found in cc
