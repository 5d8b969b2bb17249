-- What a report says of true counts, where weights count up to a top.
use Rattle.std.proofs.Common.{◌≡◌, ℕ, ◌-◌, ◌<◌, List, [], ◌∷◌, ◌++◌, length, take, drop, flat_map, map, Result, Ok, Err, sym, ◌∙◌, ap, subst, inl, inr}
use Rattle.std.proofs.lemmas.List.Folds.{flat_map-map}
use Rattle.std.proofs.Math.Seq.{take-append_seam}
use Rattle.kinds.specs.Capped.{capped}
use Rattle.kinds.specs.Counting.{whole_numbers, CountsTo}
use Rattle.kinds.specs.declared.performance.Performance
use Rattle.kinds.specs.declared.weight.Weight
use Rattle.terms.specs.declared.term.Term.{Term}
use Rattle.terms.specs.Sums.{total_of}
use Rattle.terms.specs.Counted.{reweighed}
use Rattle.kinds.proofs.Lawful.{Kind, Weighing}
use Rattle.kinds.proofs.PartsLaws.{parts_count}
use Rattle.terms.proofs.Counting.{CountSame, total_counted, met_counted, true_row, terms_unstopped, total_unstopped, met_unstopped}
use Rattle.diagram.specs.Histories.{drawing_of, states_of}
use Rattle.diagram.specs.RightAnswers.{RowOfNode}
use Rattle.files.specs.declared.words.FilePerformance
use Rattle.files.specs.declared.words.FileWeight
use Rattle.files.specs.declared.fault.Fault.{Fault}
use Rattle.files.specs.Analyses.{AnalysedAs, AnalysedOver}
use Rattle.files.specs.Contents.{Contents}
use Rattle.files.specs.Counted.{stopped, unstopped, ReportCounts, TrueCounts, AnalysedCounts}
use Rattle.diagram.specs.Makings.{drawn}
use Rattle.files.specs.Reports.{need_line, term_line, report_of}
use Rattle.files.specs.ByModel.{ModelCounts, ReportsCountTruly}
use Rattle.files.specs.Models.{each_model}
use Rattle.files.proofs.ByModel.{one_more, last}
use Rattle.diagram.proofs.RunGoesOn.{ok_not_err}

-- the lines of terms, and the same where their weights change first
module _ {P : Type 0} (file_kind : FilePerformance.Ghosts P) where
  abbrev one_line : Term P ℕ → List ℕ
  one_line t = term_line (file_kind.high t.performance) (file_kind.low t.performance) t.weight

  abbrev term_lines : List (Term P ℕ) → List ℕ
  term_lines = flat_map one_line

  lines_reweighed : {W : Type 0} (f : W → ℕ) (row : List (Term P W)) →
      term_lines (map (reweighed f) row) ≡ flat_map (λ t. term_line (file_kind.high t.performance) (file_kind.low t.performance) (f t.weight)) row
  lines_reweighed f row = flat_map-map one_line (reweighed f) row

module _ {P W : Type 0} (kind : Performance.Ghosts P) (weights : Weight.Ghosts W) (file_kind : FilePerformance.Ghosts P) (file_weights : FileWeight.Ghosts W) (top : ℕ) (demands : List P) where
  report_stopped : CountsTo top weights file_weights.word → (row : List (Term P W)) (truth : List (Term P ℕ)) → CountSame top file_weights.word row truth →
      report_of kind weights file_kind file_weights demands row ≡ report_of kind whole_numbers file_kind (stopped top) demands truth
  report_stopped counts row truth same =
      let lines = sym (lines_reweighed file_kind file_weights.word row) ∙ ap (term_lines file_kind) same ∙ lines_reweighed file_kind (capped top) truth in
      λ i. flat_map (λ d. need_line (file_kind.high d) (file_kind.low d) (met_counted kind counts d row truth same i) (total_counted counts row truth same i)) demands ++ lines i

  report_unstopped : (truth : List (Term P ℕ)) → capped top (total_of whole_numbers truth) < top →
      report_of kind whole_numbers file_kind (stopped top) demands truth ≡ report_of kind whole_numbers file_kind unstopped demands truth
  report_unstopped truth below =
      let lines = sym (lines_reweighed file_kind (capped top) truth) ∙ ap (term_lines file_kind) (terms_unstopped top truth below) in
      λ i. flat_map (λ d. need_line (file_kind.high d) (file_kind.low d) (met_unstopped top truth below kind d i) (total_unstopped top truth below i)) demands ++ lines i

module _ {P W : Type 0} (kind : Performance.Ghosts P) (weights : Weight.Ghosts W) (file_kind : FilePerformance.Ghosts P) (file_weights : FileWeight.Ghosts W)
    (laws : Kind kind) (weigh : Weighing weights) where
  report_counts : (top : ℕ) → CountsTo top weights file_weights.word → (c : Contents P W) (row : List (Term P W)) → RowOfNode kind weights (drawn c.nodes) (length c.nodes - 1) row →
      ReportCounts kind weights file_kind file_weights top c (report_of kind weights file_kind file_weights c.demands row)
  report_counts top counts c row is =
      let h = drawn c.nodes in
      let truth = true_row kind counts laws weigh (states_of h) (drawing_of h (length c.nodes - 1)) row is in
      let stop = report_stopped kind weights file_kind file_weights top c.demands counts row truth.0 truth.2 in
      (truth.0, truth.1, stop, λ below. stop ∙ report_unstopped kind weights file_kind file_weights top c.demands truth.0 below)

  -- the report that is put first is told by the answer
  put_first : (out : List ℕ) {report out' : List ℕ} {n : ℕ} → ◌≡◌ {A = Result ℕ Fault} (Ok n) (Ok (length report)) → out' ≡ report ++ drop (length report) out → take n out' ≡ report
  put_first out {report} {out'} {n} e put = let long : n ≡ length report = cc in ap (λ z. take z out') long ∙ ap (take (length report)) put ∙ take-append_seam report (drop (length report) out)

  pub analysed_counts : (out : List ℕ) (r : Result ℕ Fault) (out' bytes : List ℕ) → AnalysedAs kind weights file_kind file_weights out r out' bytes → TrueCounts kind weights file_kind file_weights bytes r out'
  analysed_counts out (Err why) out' bytes x top counts = tt
  analysed_counts out (Ok n) out' bytes (Err f, read, gone) top counts = absurd (ok_not_err gone.answer)
  analysed_counts out (Ok n) out' bytes (Ok c, read, inl (k, why, below, shorts, long, gone)) top counts = absurd (ok_not_err gone.answer)
  analysed_counts out (Ok n) out' bytes (Ok c, read, inr (shorts, (row, is, short, inr (full, gone)))) top counts = absurd (ok_not_err gone.answer)
  analysed_counts out (Ok n) out' bytes (Ok c, read, inr (shorts, (row, is, short, inl (fits, (e, put))))) top counts =
      (c, read, subst (ReportCounts kind weights file_kind file_weights top c) (sym (put_first out e put)) (report_counts top counts c row is))

  pub over_counts : (s : List (Term P W)) (out : List ℕ) (r : Result ℕ Fault) (out' bytes : List ℕ) → AnalysedOver kind weights file_kind file_weights out r out' s bytes → TrueCounts kind weights file_kind file_weights bytes r out'
  over_counts s out r out' bytes (inl (roomy, x)) top counts = analysed_counts out r out' bytes x top counts
  over_counts s out (Ok n) out' bytes (inr (few, gone)) top counts = absurd (ok_not_err gone.answer)
  over_counts s out (Err why) out' bytes (inr (few, gone)) top counts = tt

-- whatever is analysed as a report counts truly, if it does for each kind and weight
pub listed_counts : each_model (λ number P W kind weights file_kind file_weights. AnalysedCounts kind weights file_kind file_weights) → ReportsCountTruly
listed_counts counts [] out r out' x = tt
listed_counts counts (model ∷ rest) out r out' (inr (none, gone)) =
    (parts_count, subst (λ z. ModelCounts z out' model rest) (sym gone.answer) (λ e top up. tt, (λ e top up. tt, (λ e top up. tt, (λ e top up. tt, (λ e top up. tt, (λ e top up. tt, λ e top up. tt)))))))
listed_counts (first, (second, (third, (fourth, (fifth, (sixth, seventh)))))) (model ∷ rest) out r out' (inl (listed, x)) =
    let all =
    one_more model 1 (first out r out' rest) (one_more model 2 (second out r out' rest) (one_more model 3 (third out r out' rest) (one_more model 4 (fourth out r out' rest)
    (one_more model 5 (fifth out r out' rest) (one_more model 6 (sixth out r out' rest) (last model 7 (seventh out r out' rest))))))) in
    (parts_count, all.each x)
