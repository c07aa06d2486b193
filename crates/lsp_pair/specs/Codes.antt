-- The codes of settings that a pair refuses, as docs/PROTOCOL.md lists them.
use Rattle.std.specs.Prelude.{ℕ, List, codes}
use Rattle.lsp_pair.specs.declared.setting.PairFault.{PairFault}
use Rattle.lsp_pair.specs.declared.setting.PairFault.TheVariants.{LimitsTooSmall, NotUtf16}

-- The code of a fault.
abbrev pub pair_fault_code : PairFault → List ℕ
pair_fault_code NotUtf16 = codes "Q1"
pair_fault_code LimitsTooSmall = codes "Q2"
