-- What `normalise` writes of the records that stay: a log of which `replay` reports the same.
use Rattle.log_rewrite.proofs.Prelude.{Bool, List, None, Option, [], ap, false, length, refl, subst, sym, true, ℕ, ◌++◌, ◌||◌, ◌∙◌, ◌≡◌, IfOk, Result, AreInRange, IsReadAs, Log, Record, is_line_due, line_of, together, Version, One, RanOver, as_log, canonical_log, log_config, normalising, report, KeepsDocuments, Kept, documents, kept_records, nothing_selected, PortState, all_of, RunOutput, Session, opened, normalised_if, squashed, Settings, Outcome, squash_view, IsCanonicalLog, IsSquashed, LeavesAlike, EngineFault, Wrote}
use Rattle.lsp_log.proofs.LogLemmas.{due_now}
use Rattle.log_rewrite.specs.laws.Documents.{DocumentsLaw, DocumentsStopAlike}
use Rattle.log_session.proofs.CourseLemmas.{IsReportedAs, reads_back}
use Rattle.log_rewrite.proofs.Documents.KeptLogLemmas.{IsKeptLog, each_placeless, kept_log, located_all, located_due, located_output, squash_placeless}
use Rattle.log_rewrite.proofs.NormaliseLog.NormaliseLemmas.{canonical_log_law}
use Rattle.log_session.proofs.Records.NumberedLemmas.{alike_self}
use Rattle.log_rewrite.proofs.Squash.StopLemmas.{stops_alike}
use Rattle.log_rewrite.proofs.Squash.SeriesLemmas.{squashed_at}
use Rattle.log_rewrite.proofs.Squash.SquashLogLemmas.{squashed_law}
use Rattle.log_rewrite.proofs.WroteLemmas.{IsNotOk, at_the_end, normal_not_ok}

-- ---- where the run ends

stop_if : (settings : Settings) (b : Bool) (rs : List Record) → (normalised_if b settings rs).stop
    ≡ (canonical_log settings rs).stop
stop_if settings true rs = (stops_alike settings rs).0
stop_if settings false rs = refl

pub documents_stop : DocumentsStopAlike
documents_stop settings records =
    stop_if settings settings.squash (kept_records settings records).records
    ∙ (kept_log 0 0 0 One false (opened (log_config settings)) records (opened (log_config settings)) nothing_selected
    (alike_self (opened (log_config settings)))).stop

-- ---- where the records lie changes nothing

squashed_located : (settings : Settings) (rs : List Record) (at : ℕ) (version : Version)
    → (squashed settings rs).stop ≡ None → squashed settings (located_all at version rs) ≡ squashed settings rs
squashed_located settings rs at version on =
    squashed_at settings (located_all at version rs)
    ∙ located_output squash_view squash_placeless None (opened (log_config settings)) rs at version
    (sym (ap (λ (c : RunOutput). c.stop) (squashed_at settings rs)) ∙ on)
    ∙ sym (squashed_at settings rs)

-- ---- the records that stay, as a log

module _ (settings : Settings) (ranges : AreInRange settings.limits) (input : List ℕ) (log : Log)
    (reads : IsReadAs (as_log settings) input log) where
  abbrev s : Session
  s = opened (log_config settings)

  abbrev start : ℕ
  start = length (line_of log.version)

  abbrev due : Bool
  due = is_line_due log.version []

  abbrev k : Kept
  k = kept_records settings log.records

  kept : IsKeptLog settings.limits.max_body start start log.version due s log.records s nothing_selected k
  kept = kept_log settings.limits.max_body start start log.version due s log.records s nothing_selected (alike_self s)

  abbrev ks : List Record
  ks = located_all start log.version k.records

  abbrev bytes : List ℕ
  bytes = line_of log.version ++ together log.version ks []

  abbrev short_log : Log
  short_log = record { version = log.version; records = ks; rest = [] }

  kept_reads : IsReadAs (as_log settings) bytes short_log
  kept_reads = reads_back settings log.version ks bytes (kept.are reads.each) refl

  abbrev due_at_end : Bool
  due_at_end = k.due || is_line_due log.version log.records

  same_due : due_at_end ≡ is_line_due log.version ks
  same_due =
      ap (λ b. k.due || b) (sym (due_now log.version log.records)) ∙ kept.same_due reads.each
      ∙ sym (located_due log.version start due k.records) ∙ due_now log.version ks

  all_same : (g : List Record → RunOutput) → g ks ≡ g k.records → all_of g short_log ≡ (g k.records).out
      ++ (g k.records).last due_at_end
  all_same g same =
      ap (λ (c : RunOutput). c.out ++ c.last (is_line_due log.version ks)) same
      ∙ ap (λ b. (g k.records).out ++ (g k.records).last b) (sym same_due)

  module _ (goes : (canonical_log settings log.records).stop ≡ None) where
    told : IsReportedAs (report settings ks) (report settings log.records)
    told = kept.reported goes

    -- what an output of the records that stay is, by a law of that output
    leaves_by : (g : List Record → RunOutput) → g ks ≡ g k.records → (g ks).outcome ≡ (report settings ks).outcome
        → LeavesAlike settings ks (all_of g short_log)
        → KeepsDocuments settings log.records (g k.records).outcome ((g k.records).out ++ (g k.records).last due_at_end)
    leaves_by g same outcome leaves =
        let reports = sym (ap (λ (c : RunOutput). c.outcome) same) ∙ outcome in
        record {
          status = ap (λ (o : Outcome). o.status) reports ∙ told.status;
          refused = ap (λ (o : Outcome). o.refused) reports ∙ told.refused;
          leaves = subst (LeavesAlike settings log.records) (all_same g same) (record {
            log = leaves.log;
            reads = leaves.reads;
            whole = leaves.whole;
            to_end = leaves.to_end;
            documents = λ line_due. leaves.documents line_due ∙ told.documents line_due;
            status = leaves.status ∙ told.status;
            refused = leaves.refused ∙ told.refused;
          });
        }

    canonical_leaves : (b : List ℕ) → IsCanonicalLog settings ks b → LeavesAlike settings ks b
    canonical_leaves b law = record {
      log = law.reports.log;
      reads = law.reports.reads;
      whole = law.reports.whole;
      to_end = law.reports.to_end;
      documents = λ line_due. ap (λ (c : RunOutput). c.last line_due) law.reports.alike;
      status = ap (λ (c : RunOutput). c.outcome.status) law.reports.alike;
      refused = ap (λ (c : RunOutput). c.outcome.refused) law.reports.alike;
    }

    keeps_if : (b : Bool) → (normalised_if b settings k.records).stop ≡ None
        → KeepsDocuments settings log.records (normalised_if b settings k.records).outcome
        ((normalised_if b settings k.records).out ++ (normalised_if b settings k.records).last due_at_end)
    keeps_if false on =
        let same = located_output normalising each_placeless tt s k.records start log.version on in
        let law : IsCanonicalLog settings ks (all_of (canonical_log settings) short_log) =
        canonical_log_law settings ranges bytes short_log kept_reads refl (ap (λ (c : RunOutput). c.stop) same ∙ on) in
        leaves_by (canonical_log settings) same law.outcome (canonical_leaves _ law)
    keeps_if true on =
        let same = squashed_located settings k.records start log.version on in
        let law : IsSquashed settings ks (all_of (squashed settings) short_log) =
        squashed_law settings ranges bytes short_log kept_reads refl (ap (λ (c : RunOutput). c.stop) same ∙ on) in
        leaves_by (squashed settings) same law.outcome law.leaves

pub documents_law : DocumentsLaw
documents_law settings ranges input log reads whole goes =
    keeps_if settings ranges input log reads (sym (documents_stop settings log.records) ∙ goes) settings.squash goes

-- ---- what the engine wrote

documents_not_ok : (settings : Settings) (rs : List Record) → IsNotOk (documents settings rs).stop
documents_not_ok settings rs =
    subst IsNotOk (sym (documents_stop settings rs)) (normal_not_ok (opened (log_config settings)) rs)

pub wrote_documents : (settings : Settings) (ranges : AreInRange settings.limits) {state : PortState}
    {left_old left_new received_old received_new : Option (List ℕ)} (result : Result Outcome EngineFault)
    → RanOver (as_log settings) (documents settings) state left_old left_new received_old received_new result
    → IfOk result (Wrote settings (KeepsDocuments settings) left_old left_new received_old received_new)
wrote_documents settings ranges {state} {left_old} {left_new} {received_old} {received_new} =
    at_the_end (as_log settings) (documents settings) (documents_not_ok settings)
    (Wrote settings (KeepsDocuments settings) left_old left_new received_old received_new)
    (λ outcome end. record {
      input = end.input;
      read = end.read;
      log = end.log;
      reads = end.reads;
      whole = end.whole;
      bytes = all_of (documents settings) end.log;
      wrote = end.wrote;
      holds = subst (λ (o : Outcome). KeepsDocuments settings end.log.records o (all_of (documents settings) end.log))
          (sym end.reports)
          (documents_law settings ranges end.input end.log end.reads end.whole end.continues);
    })
