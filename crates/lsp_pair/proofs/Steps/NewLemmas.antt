-- A new pair.
use Rattle.lsp_pair.proofs.Prelude.{◌≡◌, Bool, true, false, true≢false, not, IsTrue, nat_le, sym, ◌||◌, and_parts, leb-true, LimitsData, AreInRange, Offers, AreWithin, Setting, IsFitting, can_choose_utf16, are_within, arith, common_steps}
use Rattle.lsp_server.specs.declared.config.Config.{Config}

lenient_from : (small great : Bool) → (not small || great) ≡ true → IsTrue small → IsTrue great
lenient_from true great e is = e
lenient_from false great e is = absurd (true≢false (sym is))

pub within_from : (small great : LimitsData) → are_within small great ≡ true → AreWithin small great
within_from small great e = grind (arith, common_steps, nat_le, and_parts, leb-true, lenient_from)

pub sound_from : (limits : LimitsData) (offers : Offers) (config : Config) → AreInRange limits
    → AreInRange config.limits → are_within limits config.limits ≡ true → can_choose_utf16 config.choice ≡ true
    → IsFitting (record { limits = limits; offers = offers; config = config })
sound_from limits offers config ranges great within choice = record {
  ranges = ranges;
  great = great;
  within = within_from limits config.limits within;
  choice = choice;
}
