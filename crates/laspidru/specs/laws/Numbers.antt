-- The numbers of the codes for C, and of the kinds of an answer, as include/laspidru.h has them.
use Rattle.std.specs.Prelude.{◌≡◌, ◌+◌, ◌∷◌}
use Rattle.laspidru.specs.Prelude.{ℕ, List, [], ALREADY_OPEN, BAD_ENCODING, BAD_FRAME, BAD_LENGTH, BAD_LOG, BAD_MAX_BODY, BAD_MAX_CHANGES, BAD_MAX_DOCS, BAD_MAX_TEXT, BAD_SERVER, BODY_TOO_LONG, CHANGED, CUT, DROPPED, EMPTY, ENDED, ERROR_ANSWER, EXITED, FAILED, IGNORED, INSIDE_CHARACTER, INVALID_PARAMS, IN_USE, NOTED, NOT_AN_ANSWER, NOT_OPEN, NOT_UTF8, NO_DOCUMENT, NO_MESSAGE, NO_SYNC, OK, OTHER_KIND, OUT_OF_MEMORY, OUT_OF_RANGE, OVERLAP, REFUSED, REPLIED, REVERSED_RANGE, STALE_VERSION, TOO_LONG, TOO_MANY_CHANGES, TOO_MANY_DOCUMENTS, TOO_MANY_TURNS, WRONG_PHASE}

-- All codes: the number of each is its place in this list, from 0.
abbrev pub codes : List ℕ
codes =
    OK ∷ NOT_UTF8 ∷ OUT_OF_MEMORY ∷ IN_USE ∷ EMPTY ∷ TOO_LONG ∷ INSIDE_CHARACTER ∷
    REVERSED_RANGE ∷ BAD_ENCODING ∷ BAD_LENGTH ∷ OTHER_KIND ∷ OUT_OF_RANGE ∷ BAD_MAX_BODY ∷ ENDED ∷
    NOT_OPEN ∷ ALREADY_OPEN ∷ TOO_MANY_DOCUMENTS ∷ STALE_VERSION ∷ TOO_MANY_CHANGES ∷
    INVALID_PARAMS ∷ CUT ∷ BAD_FRAME ∷ BODY_TOO_LONG ∷ BAD_LOG ∷ TOO_MANY_TURNS ∷ OVERLAP ∷
    FAILED ∷ NO_MESSAGE ∷ WRONG_PHASE ∷ NOT_AN_ANSWER ∷ ERROR_ANSWER ∷ NO_SYNC ∷
    BAD_MAX_TEXT ∷ BAD_MAX_DOCS ∷ BAD_MAX_CHANGES ∷ NO_DOCUMENT ∷ []

-- All kinds of an answer: the number of each is its place, from 0.
abbrev pub kinds : List ℕ
kinds =
    REPLIED ∷ CHANGED ∷ DROPPED ∷ IGNORED ∷ REFUSED ∷ EXITED ∷ NOTED ∷ BAD_SERVER ∷ []

-- Each number is one more than the one before it, so no two are equal; the first is `number`.
abbrev pub CountFrom : ℕ → List ℕ → Type 0
CountFrom number [] = Unit {0}
CountFrom number (first ∷ rest) = (first ≡ number) × CountFrom (number + 1) rest
