-- The table of documents as an ordered map keeps it.
use Rattle.lsp_store.proofs.Prelude.{◌≡◌, ◌≤◌, ◌+◌, ℕ, Bool, true, false, List, [], ◌∷◌, ◌++◌, length, map, Option, Some, None, option_map, is_some, String, string_bytes, bytes_eq, refl, ap, ◌∙◌, arith, cases_Bool, bytes_eq-Decides, map-append, lookup, lookup_key, remove_entry, Global, Stored, DocumentItem, entry_at, after_close, after_open, entry_under, entry_of, common_steps}

-- whether a key is this URI
abbrev pub at_uri : List ℕ → String Global → Bool
at_uri uri key = bytes_eq uri (string_bytes key)

-- a document is open where the map has its URI
pub entry_at-lookup : (uri : List ℕ) (es : List (String Global × Stored)) → entry_at (map entry_of es) uri
    ≡ option_map (entry_under uri) (lookup (at_uri uri) es)
entry_at-lookup uri [] = refl
entry_at-lookup uri (e ∷ es) =
    grind (arith, common_steps, bytes_eq, string_bytes, bytes_eq-Decides, cases_Bool, (entry_at-lookup uri es))

pub is_some-entry_at : (uri : List ℕ) (es : List (String Global × Stored)) → is_some (entry_at (map entry_of es) uri)
    ≡ is_some (lookup (at_uri uri) es)
is_some-entry_at uri es = ap is_some (entry_at-lookup uri es) ∙ by (lookup (at_uri uri) es)
  where
    by : (found : Option Stored) → is_some (option_map (entry_under uri) found) ≡ is_some found
    by None = refl
    by (Some e) = refl

-- the document of the key that was found, and of what was found there
pub entry_found : (uri : List ℕ) (es : List (String Global × Stored)) (key : String Global) (stored : Stored) → Some key
    ≡ lookup_key (at_uri uri) es → Some stored ≡ lookup (at_uri uri) es
    → Some (entry_under (string_bytes key) stored) ≡ entry_at (map entry_of es) uri
entry_found uri [] key stored at found = absurd (cc)
entry_found uri (e ∷ es) key stored at found =
    grind (arith, common_steps, bytes_eq, string_bytes, cases_Bool, (entry_found uri es key stored))

-- a URI that is taken out is closed
pub table-remove_entry : (uri : List ℕ) (es : List (String Global × Stored))
    → map entry_of (remove_entry (at_uri uri) es) ≡ after_close (map entry_of es) uri
table-remove_entry uri [] = refl
table-remove_entry uri (first ∷ es) =
    grind (arith, common_steps, bytes_eq, string_bytes, cases_Bool, (table-remove_entry uri es))

pub remove_entry-few : {K X : Type 0} (test : K → Bool) (es : List (K × X)) → length (remove_entry test es) ≤ length es
remove_entry-few test [] = omega arith
remove_entry-few test (first ∷ es) = grind (arith, common_steps, cases_Bool, (remove_entry-few test es))

-- ---- a document that is opened

-- what is put in goes last, whether or not its URI was there
pub table-opened : (es : List (String Global × Stored)) (key : String Global) (stored : Stored)
    → map entry_of (remove_entry (at_uri (string_bytes key)) es ++ (key, stored) ∷ []) ≡ after_open (map entry_of es)
    (entry_of (key, stored))
table-opened es key stored =
    map-append entry_of (remove_entry (at_uri (string_bytes key)) es) ((key, stored) ∷ [])
    ∙ ap (λ (table : List DocumentItem). table ++ entry_of (key, stored) ∷ [])
    (table-remove_entry (string_bytes key) es)

-- ---- how many others there are

pub others_all : (table : List DocumentItem) (uri : List ℕ) → is_some (entry_at table uri) ≡ false
    → after_close table uri ≡ table
others_all [] uri absent = refl
others_all (first ∷ table) uri absent = grind (arith, common_steps, bytes_eq, cases_Bool, (others_all table uri))

pub others_but_one : (table : List DocumentItem) (uri : List ℕ) → is_some (entry_at table uri) ≡ true
    → length (after_close table uri) + 1 ≡ length table
others_but_one [] uri found = absurd (let bad : false ≡ true = found in cc)
others_but_one (first ∷ table) uri found =
    grind (arith, common_steps, bytes_eq, cases_Bool, (others_but_one table uri))
