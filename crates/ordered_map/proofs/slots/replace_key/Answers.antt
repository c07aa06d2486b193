use Rattle.ordered_map.proofs.Prelude.{◌≡◌, ◌∙◌, ◌++◌, [], ◌∷◌, None, string_bytes, insert_entry-new, is_key}
use Rattle.ordered_map.proofs.KeyLemmas.{absent, key_fails, replaced}
use Rattle.ordered_map.proofs.slots.replace_key.Goals as goal

pub returns-clause-slots : goal.returns-clause-slots
returns-clause-slots g c =
    let slots = c.args.map.now.entries in
    let put : c.insert.new.self.entries ≡ slots ++ (c.args.text, None) ∷ [] =
    (rw c.unwrap.ensures at c.insert.ensures.entries) ∙ insert_entry-new _ c.args.map.now c.args.text None
    (absent (is_key (string_bytes c.args.text)) slots (key_fails (string_bytes c.args.text) slots c.requires.free)) in
    replaced slots c.insert.new.self.entries c.swap_remove_index.new.self.entries c.args.slot c.args.text
    c.swap_remove_index.result c.requires.within put c.swap_remove_index.ensures.entry
    c.swap_remove_index.ensures.entries
