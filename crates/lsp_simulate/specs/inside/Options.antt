-- The program while it is put together.
use Rattle.lsp_simulate.specs.Prelude.{[], true, codes, new_shape}
use Rattle.clap.specs.Words.{App}

-- The program without its options.
abbrev pub top_app : App
top_app = record {
  top = record (new_shape (codes "lsp_simulate")) { has_version = true };
  subs = [];
}
