-- What these definitions import from below, so that each names it by one line.
pub use Rattle.std.specs.List.{join_by, list_any}
pub use Rattle.std.specs.Option.{option_map_or}
pub use Rattle.std.specs.Prelude.{All, Bool, Err, FitsSigned, IfSome, IsSomeAnd, List, None, Ok, Option, Result, Some, [], codes, decimal, false, filter, if◌then◌else◌, int_lt, is_some, length, map, nat_lt, negsuc, not, option_and_then, option_map, pos, slice_index, string_bytes, true, ℕ, ℤ, ⊤, ◌++◌, ◌<◌, ◌==◌, ◌^◌, ◌||◌, ◌↔◌, ◌∷◌, ◌≡◌, ◌≢◌}
pub use Rattle.std.specs.Str.{bytes_eq, is_utf8}
pub use Rattle.json.specs.Token.{Token, begin_array, begin_object, end_array, end_object}
pub use Rattle.lsp_message.specs.declared.agreement.Announced.{Announced}
pub use Rattle.lsp_message.specs.declared.agreement.Offers.{Offers}
pub use Rattle.lsp_message.specs.declared.agreement.SyncKind.{SyncKind}
pub use Rattle.lsp_message.specs.declared.agreement.SyncKind.TheVariants.{Full, Incremental, Off}
pub use Rattle.lsp_message.specs.declared.message.Message.{Message}
pub use Rattle.lsp_message.specs.declared.message.ReadFault.{ReadFault}
pub use Rattle.lsp_message.specs.declared.message.ReadFault.TheVariants.{NoMemory, NotAMessage, NotJson}
pub use Rattle.lsp_message.specs.declared.outgoing.ErrorCode.{ErrorCode}
pub use Rattle.lsp_message.specs.declared.reader.scalar.Scalar.{Scalar}
pub use Rattle.lsp_text.specs.Units.{encoding_named, name_of}
pub use Rattle.lsp_text.specs.declared.encoding.Encoding.{Encoding}
pub use Rattle.lsp_text.specs.declared.encoding.Encoding.TheVariants.{Utf16, Utf32, Utf8}
pub use Rattle.lsp_text.specs.declared.position.Position.{Position}
pub use Rattle.lsp_text.specs.declared.position.Range.{Range}
pub use Rattle.serde_json.specs.Data.{Data, Items, Members, Num, array, boolean, float, item, member, negative, no_items, no_members, null, number, object, unsigned}
pub use Rattle.serde_json.specs.Find.{as_array, as_bool, as_i64, as_null, as_number, as_object, as_str, as_u64, get, get_member, of_integer}
pub use Rattle.serde_json.specs.Read.{converted, number_of, of_items, of_json, of_members, read}
pub use Rattle.serde_json.specs.View.{items_of, view}
