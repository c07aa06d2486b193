-- What the definitions read on a table of bodies.
use Rattle.std.specs.Prelude.{◌≡◌, ◌∷◌, ◌++◌}
use Rattle.lsp_message.specs.Prelude.{ℕ, pos, negsuc, List, [], Option, Some, None, option_and_then, codes, null, number, unsigned, negative}
use Rattle.lsp_message.specs.Message.{whole, given, failed, request, response, not_json, not_a_message, message, json_of, reading}
use Rattle.lsp_message.specs.Outgoing.{body_of, did_change}
use Rattle.lsp_message.specs.Params.{ContentChangeData, version_in, coordinate_in, content_change_in}

-- The change that a body of JSON is.
abbrev pub content_change_read : List ℕ → Option ContentChangeData
content_change_read body = option_and_then content_change_in (json_of body)

-- The rows of the table.
pub record HoldsOnExamples : Type 0 where
  -- neither a call nor a response
  pub an_id_alone : reading (codes "{\"id\":1,\"jsonrpc\":\"2.0\"}")
      ≡ not_a_message (Some (whole (pos 1)))
  pub a_result_alone : reading (codes "{\"jsonrpc\":\"2.0\",\"result\":1}") ≡ not_a_message None
  pub a_method_of_no_text : reading (codes "{\"id\":5,\"jsonrpc\":\"2.0\",\"method\":1}")
      ≡ not_a_message (Some (whole (pos 5)))
  -- responses
  pub a_null_error :
      reading (codes "{\"error\":null,\"id\":1,\"jsonrpc\":\"2.0\",\"result\":null}")
      ≡ message (response (Some (whole (pos 1))) (given null))
  pub an_error_and_a_result :
      reading (codes "{\"error\":{},\"id\":1,\"jsonrpc\":\"2.0\",\"result\":1}")
      ≡ message (response (Some (whole (pos 1))) failed)
  pub an_error_without_id : reading (codes "{\"error\":{},\"id\":null,\"jsonrpc\":\"2.0\"}")
      ≡ message (response None failed)
  -- the greatest id
  pub the_greatest_id :
      reading (codes "{\"id\":9223372036854775807,\"jsonrpc\":\"2.0\",\"method\":\"x\"}")
      ≡ message (request (whole (pos 9223372036854775807)) (codes "x") None)
  pub an_id_above : reading
      (codes "{\"id\":9223372036854775808,\"jsonrpc\":\"2.0\",\"method\":\"x\"}")
      ≡ not_a_message None
  pub a_cut_body : reading (codes "{\"id\":1,") ≡ not_json
  -- the greatest version and character, and a line below zero
  pub the_greatest_version : version_in (Some (number (unsigned 2147483647)))
      ≡ Some (pos 2147483647)
  pub a_version_above : version_in (Some (number (unsigned 2147483648))) ≡ None
  pub the_greatest_character : coordinate_in (Some (number (unsigned 4294967295))) ≡ Some 4294967295
  pub a_character_above : coordinate_in (Some (number (unsigned 4294967296))) ≡ None
  pub a_line_below : coordinate_in (Some (number (negative (negsuc 0)))) ≡ None
  -- the whole text, and a member that is ignored
  pub a_null_range : content_change_read (codes "{\"range\":null,\"text\":\"a\"}")
      ≡ Some (record { range = None; text = codes "a" })
  pub a_range_length : content_change_read (codes "{\"rangeLength\":\"x\",\"text\":\"a\"}")
      ≡ Some (record { range = None; text = codes "a" })
  -- a body, byte for byte
  pub a_written_change :
      body_of (did_change (record {
        uri = codes "a";
        version = pos 2;
        changes = record {
          range = Some (record {
            start = record { line = 0; character = 1 };
            stop = record { line = 3; character = 4 };
          });
          text = codes "b";
        } ∷ [];
      })) ≡ codes "{\"jsonrpc\":\"2.0\",\"method\":\"textDocument/didChange\",\"params\":"
      ++ codes "{\"contentChanges\":[{\"range\":{\"end\":{\"character\":4,\"line\":3},"
      ++ codes "\"start\":{\"character\":1,\"line\":0}},\"text\":\"b\"}],"
      ++ codes "\"textDocument\":{\"uri\":\"a\",\"version\":2}}}"
