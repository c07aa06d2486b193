-- What strict limits refuse and lenient ones don't.
use Rattle.lsp_store.proofs.Prelude.{◌≡◌, ℕ, ℤ, Bool, true, false, true≢false, not, ◌&&◌, IsTrue, int_le, List, is_some, refl, sym, LimitsData, DocumentItem, entry_at, is_stale, is_taken}

-- what strict limits would refuse, and these don't, others that are lenient where these are don't
still_false : (small great found : Bool) → (IsTrue small → IsTrue great) → (not small && found) ≡ false
    → (not great && found) ≡ false
still_false small true found more e = refl
still_false false false found more e = e
still_false true false found more e = absurd (true≢false (sym (more refl)))

module _ (small great : LimitsData) (more : IsTrue small.lenient → IsTrue great.lenient) where
  pub still_new : (version current : ℤ) → is_stale small version current ≡ false → is_stale great version current
      ≡ false
  still_new version current e = still_false small.lenient great.lenient (int_le version current) more e

  pub still_free : (table : List DocumentItem) (uri : List ℕ) → is_taken small table uri ≡ false
      → is_taken great table uri ≡ false
  still_free table uri e = still_false small.lenient great.lenient (is_some (entry_at table uri)) more e
