-- What these definitions import from below, so that each names it by one line.
pub use Rattle.std.specs.Prelude.{Bool, Err, IsSomeAnd, IsTrue, IsUtf8, List, None, Ok, Option, Result, Some, String, [], codes, encode_utf8_all, if◌then◌else◌, int_le, is_some, length, map, nat_le, nat_lt, not, option_map, slice_get, string_bytes, suc, sum_by, true, zero, ℕ, ℤ, ⊤, ◌&&◌, ◌++◌, ◌||◌, ◌∷◌, ◌≡◌, ◌≤◌, ◌⊎◌}
pub use Rattle.std.specs.Str.{all_scalars, bytes_eq, chars}
pub use Rattle.lsp_edit.specs.Batch.{ContentChange, Fault, meaning}
pub use Rattle.lsp_edit.specs.Canonical.{DoTheSame, canonical}
pub use Rattle.lsp_edit.specs.Indexed.{bytes_left, one_change}
pub use Rattle.lsp_edit.specs.Items.{Item, plain, text_of}
pub use Rattle.lsp_frame.specs.Frame.{frame}
pub use Rattle.lsp_frame.specs.Limits.{AreInRange, LimitsData}
pub use Rattle.lsp_message.specs.Params.{ContentChangeData, DocumentItem, IsChangeRead}
pub use Rattle.lsp_store.specs.declared.fault.StoreFault.{StoreFault}
pub use Rattle.lsp_store.specs.declared.store.plan.Plan.{Plan}
pub use Rattle.lsp_text.specs.Units.{units_between, units_in}
pub use Rattle.lsp_text.specs.declared.encoding.Encoding.{Encoding}
