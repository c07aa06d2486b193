use Rattle.lspsync.proofs.Prelude.{◌≡◌, ◌∙◌, Some, ap, sym, option_map, string_bytes, false, true}
use Rattle.lspsync.proofs.command_line.part_of.Goals.{in-Some, in-None, in-Some-get_str+in_ok-from_str-in-Some-get_str, in-None-get_str}
use Rattle.lspsync.proofs.command_line.part_of.Goals as goal

pub returns : goal.returns
returns c = record {
  at = elim c.match-number_of.branch [
    | in-Some w ↦ rw w.at-is w.in-Some.ensures.some
    | in-None w ↦ rw w.at-is (λ n has. let bad : false ≡ true = w.in-None.ensures.none n has in cc)
  ];
  uri = elim c.match-get_str.branch [
    | in-Some-get_str+in_ok-from_str-in-Some-get_str w ↦ ap (option_map string_bytes) w.uri-is
        ∙ ap Some w.in_ok-from_str-in-Some-get_str.ensures.ok
        ∙ sym (ap (option_map (λ s. s.now)) w.in-Some-get_str.is) ∙ c.get_str.ensures
    | in-None-get_str w ↦ ap (option_map string_bytes) w.uri-is
        ∙ sym (ap (option_map (λ s. s.now)) w.in-None-get_str.is) ∙ c.get_str.ensures
  ];
}
