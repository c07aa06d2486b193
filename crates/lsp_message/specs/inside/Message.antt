-- What only proofs and private contracts use of `Message`: what an object is read as, one member of
-- it after another. `message_of_object` in `proofs/MemberLemmas.antt` shows that `message_of` reads
-- the same.
use Rattle.std.specs.Prelude.{if◌then◌else◌}
use Rattle.lsp_message.specs.Prelude.{ℕ, List, Option, Some, None, codes, option_map, option_map_or, as_str, Data, Members, get_member}
use Rattle.lsp_message.specs.Values.{is_null, is_missing}
use Rattle.lsp_message.specs.Message.{IdData, given, failed, request, notification, response, Reading, not_a_message, message, id_in, id_found, is_version_two}

-- A call, by its id, method and params. A notification has no member `id`; that of a request is a
-- whole number or a string.
abbrev pub call_of : Option Data → List ℕ → Option Data → Reading
call_of None method params = message (notification method params)
call_of (Some id) method params
    = option_map_or (λ i. message (request i method params)) (id_in id) (not_a_message None)

-- A response, by its id, error and result. An error that isn't null is a failure, whatever the
-- result is.
abbrev pub outcome_of : Option IdData → Option Data → Option Data → Reading
outcome_of id error result =
    if is_missing error then
    option_map_or (λ r. message (response id (given r))) result (not_a_message id)
    else message (response id failed)

-- A response, by its member `id`, which may be null, its error and its result.
abbrev pub answer_of : Option Data → Option Data → Option Data → Reading
answer_of None error result = not_a_message None
answer_of (Some id) error result =
    if is_null id then outcome_of None error result
    else option_map_or (λ i. outcome_of (Some i) error result) (id_in id) (not_a_message None)

-- A message of version 2.0: a call where there is a member `method`, which has to be a string, else
-- a response.
abbrev pub reading_with : Option (Option (List ℕ)) → Option Data → Option Data → Option Data →
    Option Data → Reading
reading_with None id params error result = answer_of id error result
reading_with (Some None) id params error result = not_a_message (id_found id)
reading_with (Some (Some method)) id params error result = call_of id method params

-- A message, by the members `jsonrpc`, `method`, `id`, `params`, `error` and `result`.
abbrev pub reading_by : Option Data → Option Data → Option Data → Option Data → Option Data →
    Option Data → Reading
reading_by version method id params error result =
    if is_version_two version then reading_with (option_map as_str method) id params error result
    else not_a_message (id_found id)

-- What the members of an object are read as.
abbrev pub reading_of_members : Members → Reading
reading_of_members ms =
    reading_by (get_member (codes "jsonrpc") ms) (get_member (codes "method") ms)
    (get_member (codes "id") ms) (get_member (codes "params") ms)
    (get_member (codes "error") ms) (get_member (codes "result") ms)
