use Rattle.lsp_message.proofs.Prelude.{◌≡◌, ◌||◌, drop, option_map, as_str, items_view, Offers, each_of, offers_named}
use Rattle.lsp_message.proofs.agreement.offers_named.Given as goal

-- the offers so far, and those of the rest
abbrev pub invariant-loop-name : goal.invariant-loop-name
invariant-loop-name l =
    option_map (λ rest. let more = offers_named rest in let both : Offers = record {
      utf8 = l.offers.utf8 || more.utf8;
      utf32 = l.offers.utf32 || more.utf32;
    } in both) (each_of as_str (items_view (drop l.name-index l.names)))
    ≡ option_map offers_named (each_of as_str (items_view l.names))
