-- The shapes of a session: the phases of both ends, and which messages wait.
use Rattle.lsp_pair.proofs.Prelude.{ℕ, ◌≡◌, ◌≤◌, List, [], ◌∷◌, ◌++◌, length, map, take, drop, Option, Some, None, sym, subst, arith, ⊤, take-append-drop, Encoding, SyncKind, OutgoingData, DocumentItem, Command, opens, changes, closes, table_after, AllWithin, HasTexts, within_law, encoding_chosen, announced_kind, Agreed, Setting, ClientMessage, commands, lifecycle, World, waiting_out, waiting_back, table_with, agreed_of}
use Rattle.lsp_pair.proofs.Worlds.SaidLemmas.{IsProperCommand, IsSaid, may_command}
use Rattle.lsp_pair.proofs.Worlds.LifeLemmas.{first_result, last_result}
use Rattle.lsp_pair.proofs.Worlds.ListLemmas.{table_after_all}
use Rattle.lsp_message.specs.Outgoing as outgoing
use Rattle.lsp_server.specs.declared.phase.Phase as server_phase
use Rattle.lsp_server.specs.declared.phase.Phase.TheVariants as server_phases
use Rattle.lsp_client.specs.declared.phase.Phase as client_phase
use Rattle.lsp_client.specs.declared.phase.Phase.TheVariants as client_phases

-- ---- what was said

abbrev pub the_encoding : Setting → Encoding
the_encoding setting = encoding_chosen setting.config.choice setting.offers

abbrev pub the_kind : Setting → SyncKind
the_kind setting = announced_kind setting.config.sync

abbrev pub IsSaidOn : Setting → List DocumentItem → ClientMessage → Type 0
IsSaidOn setting table (commands command) = IsSaid setting.limits (the_encoding setting) (the_kind setting) table
    command
IsSaidOn setting table (lifecycle m) = ⊤

abbrev pub AreSaid : Setting → List DocumentItem → List ClientMessage → Type 0
AreSaid setting table [] = ⊤
AreSaid setting table (said ∷ rest) = IsSaidOn setting table said × AreSaid setting (table_with table said) rest

pub said-append : (setting : Setting) (table : List DocumentItem) (xs ys : List ClientMessage)
    → AreSaid setting table xs → AreSaid setting (table_after_all table xs) ys → AreSaid setting table (xs ++ ys)
said-append setting table [] ys p q = q
said-append setting table (commands command ∷ xs) ys p q =
    (p.0, said-append setting (table_after table command) xs ys p.1 q)
said-append setting table (lifecycle m ∷ xs) ys p q = (p.0, said-append setting table xs ys p.1 q)

pub said_quiet : (setting : Setting) (table : List DocumentItem) (ms : List OutgoingData)
    → AreSaid setting table (map lifecycle ms)
said_quiet setting table [] = tt
said_quiet setting table (m ∷ ms) = (tt, said_quiet setting table ms)

-- what was said is said up to each message, and after it
pub said_parts : (setting : Setting) (table : List DocumentItem) (n : ℕ) (xs : List ClientMessage)
    → AreSaid setting table xs
    → AreSaid setting table (take n xs) × AreSaid setting (table_after_all table (take n xs)) (drop n xs)
said_parts setting table n xs p =
    by table (take n xs) (drop n xs) (subst (AreSaid setting table) (sym (take-append-drop n xs)) p)
  where
    by : (table : List DocumentItem) (front back : List ClientMessage) → AreSaid setting table (front ++ back)
        → AreSaid setting table front × AreSaid setting (table_after_all table front) back
    by table [] back p = (tt, p)
    by table (commands command ∷ front) back p = let rest = by (table_after table command) front back p.1 in
        ((p.0, rest.0), rest.1)
    by table (lifecycle m ∷ front) back p = let rest = by table front back p.1 in ((p.0, rest.0), rest.1)

has_texts : (encoding : Encoding) (command : Command) → IsProperCommand encoding command → HasTexts command
has_texts encoding (opens entry) p = p.text
has_texts encoding (changes uri version other batch) p = p.0.texts
has_texts encoding (closes uri) p = tt

-- the documents after what was said are texts within the limit
said_kept : (setting : Setting) (table : List DocumentItem) (xs : List ClientMessage) → AllWithin setting.limits table
    → length table ≤ setting.limits.max_docs → AreSaid setting table xs
    → AllWithin setting.limits (table_after_all table xs)
said_kept setting table [] kept many p = kept
said_kept setting table (commands command ∷ xs) kept many p =
    let next = within_law setting.limits table command kept many (has_texts (the_encoding setting) command p.0.proper)
    (may_command setting.limits (the_kind setting) table command p.0.may) in
    said_kept setting (table_after table command) xs next.0 next.1 p.1
said_kept setting table (lifecycle m ∷ xs) kept many p = said_kept setting table xs kept many p.1

pub said_within : (setting : Setting) (xs : List ClientMessage) → AreSaid setting [] xs
    → AllWithin setting.limits (table_after_all [] xs)
said_within setting xs p = said_kept setting [] xs tt (omega arith) p

-- ---- the phases of both ends

-- Nothing was said; `initialize` waits; its result waits; documents are sent; `shutdown` waits after them; its result
-- waits; it came;
-- `exit` waits; it came.
pub data Shape : Type 0 where
  fresh asking answered down closed leaving left : Shape
  working closing : List ClientMessage → Shape

-- The phases of both ends, what each agreed on, and what waits for each.
pub record Row : Type 0 where
  pub client : client_phase.Phase
  pub agreed : Option Agreed
  pub server : server_phase.Phase
  pub encoding : Option Encoding
  pub there : List ClientMessage
  pub here : List OutgoingData

abbrev pub row_of : World → Row
row_of w = record {
  client = w.client_phase;
  agreed = w.agreed;
  server = w.server_phase;
  encoding = w.encoding;
  there = waiting_out w;
  here = waiting_back w;
}

-- before both ends agreed, and after
abbrev row : client_phase.Phase → server_phase.Phase → Option Encoding → List ClientMessage → List OutgoingData → Row
row client server encoding there here =
    record { client = client; agreed = None; server = server; encoding = encoding; there = there; here = here }

abbrev agreed_row : Setting → client_phase.Phase → server_phase.Phase → List ClientMessage → List OutgoingData → Row
agreed_row setting client server there here =
    record (row client server (Some (the_encoding setting)) there here) { agreed = Some (agreed_of setting) }

abbrev pub row_at : Setting → Shape → Row
row_at setting fresh = row client_phases.New server_phases.New None [] []
row_at setting asking =
    row client_phases.Asked server_phases.New None (lifecycle (outgoing.initialize setting.offers) ∷ []) []
row_at setting answered =
    row client_phases.Asked server_phases.Running (Some (the_encoding setting)) []
    (first_result (the_encoding setting) (the_kind setting) ∷ [])
row_at setting (working busy) = agreed_row setting client_phases.Ready server_phases.Running busy []
row_at setting (closing busy) =
    agreed_row setting client_phases.Closing server_phases.Running (busy ++ lifecycle outgoing.shutdown ∷ []) []
row_at setting down = agreed_row setting client_phases.Closing server_phases.Down [] (last_result ∷ [])
row_at setting closed = agreed_row setting client_phases.Closed server_phases.Down [] []
row_at setting leaving =
    agreed_row setting client_phases.Done server_phases.Down (lifecycle outgoing.exit ∷ []) []
row_at setting left = agreed_row setting client_phases.Done server_phases.Ended [] []

-- `initialized` and commands
abbrev pub IsBusy : ClientMessage → Type 0
IsBusy (commands command) = ⊤
IsBusy (lifecycle outgoing.initialized) = ⊤
IsBusy (lifecycle m) = ⊥

abbrev pub AreBusy : List ClientMessage → Type 0
AreBusy [] = ⊤
AreBusy (said ∷ rest) = IsBusy said × AreBusy rest

pub busy_last : (xs : List ClientMessage) (x : ClientMessage) → AreBusy xs → IsBusy x → AreBusy (xs ++ x ∷ [])
busy_last [] x p q = (q, tt)
busy_last (y ∷ ys) x p q = (p.0, busy_last ys x p.1 q)

abbrev pub IsBusyShape : Shape → Type 0
IsBusyShape (working busy) = AreBusy busy
IsBusyShape (closing busy) = AreBusy busy
IsBusyShape shape = ⊤

pub record AtShape (setting : Setting) (w : World) (shape : Shape) : Type 0 where
  pub busy : IsBusyShape shape
  pub is : row_of w ≡ row_at setting shape
  pub arrived : w.out_delivered ≤ length w.out
  pub returned : w.back_delivered ≤ length w.back
  pub said : AreSaid setting [] w.out

pub record WorldSound (setting : Setting) (w : World) : Type 0 where
  pub shape : Shape
  pub at : AtShape setting w shape
