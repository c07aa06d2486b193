use Rattle.lspsync.proofs.Prelude.{rules}
use Rattle.lspsync.proofs.command_line.is_explained.Goals as goal

pub returns : goal.returns
returns c = record {
  explain = c.get_flag-explain.result;
  brief = c.get_flag-brief.result;
  all = c.get_flag-all.result;
  is_explain = search rules;
  is_brief = search rules;
  is_all = search rules;
  value = c.is_any.ensures;
}
