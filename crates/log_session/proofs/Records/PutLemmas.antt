-- The table of documents with another text and version of one of them.
use Rattle.log_session.proofs.Prelude.{◌≡◌, ℕ, ℤ, List, [], ◌∷◌, Some, None, bytes_eq, refl, if◌then◌else◌, chars, ContentChange, meaning, DocumentItem, after_change, entry_at, meant_text, arith, common_steps}

abbrev pub put : List DocumentItem → List ℕ → ℤ → List ℕ → List DocumentItem
put [] uri version text = []
put (entry ∷ table) uri version text =
    if bytes_eq uri entry.uri then record entry {
      version = version;
      text = text;
    } ∷ table else entry ∷ put table uri version text

pub change_puts : (units : ℕ → ℕ) (table : List DocumentItem) (uri : List ℕ) (version : ℤ) (batch : List ContentChange)
    (entry : DocumentItem) → entry_at table uri ≡ Some entry → after_change units table uri version batch
    ≡ put table uri version (meant_text entry.text (meaning units (chars entry.text) batch))
change_puts units [] uri version batch entry found = refl
change_puts units (first ∷ table) uri version batch entry found =
    grind (arith, common_steps, (change_puts units table uri version batch entry))

pub put_twice : (table : List DocumentItem) (uri : List ℕ) (version next : ℤ) (text last : List ℕ)
    → put (put table uri version text) uri next last ≡ put table uri next last
put_twice [] uri version next text last = refl
put_twice (first ∷ table) uri version next text last =
    grind (arith, common_steps, (put_twice table uri version next text last))

pub put_at : (table : List DocumentItem) (uri : List ℕ) (version : ℤ) (text : List ℕ) (entry : DocumentItem)
    → entry_at table uri ≡ Some entry
    → entry_at (put table uri version text) uri ≡ Some (record entry { version = version; text = text })
put_at [] uri version text entry found = absurd (let wrong : None ≡ Some entry = found in cc)
put_at (first ∷ table) uri version text entry found =
    grind (arith, common_steps, (put_at table uri version text entry))
