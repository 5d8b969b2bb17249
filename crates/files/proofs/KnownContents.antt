-- What a file comes to whose contents are known, and short enough.
use Rattle.std.proofs.Common.{◌≡◌, ◌↔◌, ℕ, ◌-◌, ◌<◌, ◌≤◌, List, [], ◌∷◌, ◌++◌, length, drop, replicate, Option, Result, Ok, Err, sym, ◌∙◌, refl, subst, inl, inr, arith}
use Rattle.std.proofs.Math.Seq.{take-append_seam}
use Rattle.std.proofs.lemmas.List.{length-replicate}
use Rattle.std.specs.Io.KnownBytes.{Appends}
use Rattle.kinds.specs.declared.performance.Performance
use Rattle.kinds.specs.declared.weight.Weight
use Rattle.kinds.proofs.Lawful.{Kind, Weighing}
use Rattle.terms.specs.declared.term.Term.{Term}
use Rattle.terms.proofs.Canonical.{row_unique}
use Rattle.diagram.specs.Histories.{History, made}
use Rattle.diagram.specs.InTurn.{Short, NotShort}
use Rattle.diagram.specs.RightAnswers.{RowOfNode}
use Rattle.files.specs.declared.words.FilePerformance
use Rattle.files.specs.declared.words.FileWeight
use Rattle.files.specs.declared.fault.Fault.{Fault}
use Rattle.files.specs.Contents.{Contents, contents_bytes}
use Rattle.diagram.specs.Makings.{drawn}
use Rattle.files.specs.Reading.{ValidContents}
use Rattle.files.specs.Analyses.{Reported, ReportedOr, AnalysedAs}
use Rattle.files.specs.Faults.{fault_text}
use Rattle.files.specs.ByModel.{Analysed}
use Rattle.files.specs.Printed.{printed, PrintsAnswer}
use Rattle.files.specs.declared.limits.TheConstants.{LONGEST_REPORT}
use Rattle.files.specs.Reports.{report_of, Unreported, Put}
use Rattle.diagram.proofs.Asking.{yes}
use Rattle.files.proofs.Bytes.{FileKind, FileWeighing}
use Rattle.files.proofs.Reading.{writing_read, reads_back}
use Rattle.diagram.proofs.RunGoesOn.{granted}

module _
    {P W : Type 0} {kind : Performance.Ghosts P} {weights : Weight.Ghosts W} (laws : Kind kind) (weigh : Weighing weights)
    {file_kind : FilePerformance.Ghosts P} {file_weights : FileWeight.Ghosts W} (words : FileKind file_kind) (weighing : FileWeighing file_weights)
    (c : Contents P W) (valid : ValidContents kind weights file_kind file_weights c) where
  abbrev h : History P W
  h = drawn c.nodes

  module _ (short : (k : ℕ) → k < made h → Short kind weights h k) (row : List (Term P W)) (is : RowOfNode kind weights h (length c.nodes - 1) row) where
    abbrev report : List ℕ
    report = report_of kind weights file_kind file_weights c.demands row

    module _ (few : length report ≤ LONGEST_REPORT) (out : List ℕ) (r : Result ℕ Fault) (out' : List ℕ) where
      not_long : (k : ℕ) → k < made h → (why : _) → NotShort kind weights h k why → ⊥
      not_long k l why (inl (arms, e)) = arms (short k l).0
      not_long k l why (inr (arms, results, e)) = results (short k l).1

      reported : Reported kind weights file_kind file_weights out r out' c → Put report out r out'
      reported (inl (k, why, l, below, long, gone)) = absurd (not_long k l why long)
      reported (inr (all, (other, is', few', put))) =
          subst (λ z. Put (report_of kind weights file_kind file_weights c.demands z) out r out') (row_unique laws weigh _ other row is' is) put

      -- the report is that on the row of the last node
      pub known_report : AnalysedAs kind weights file_kind file_weights out r out' (contents_bytes file_kind file_weights c) ↔ Put report out r out'
      known_report = (
        λ x.
            let same = (reads_back kind weights file_kind file_weights words weighing _ x.0 x.1 c).1 (refl, valid) in
            reported (subst (ReportedOr kind weights file_kind file_weights out r out') same x.2),
        λ put. (Ok c, writing_read kind weights file_kind file_weights c valid, inr (short, (row, is, few, put))),
      )

-- an output that has room for every report
empty : List ℕ
empty = replicate LONGEST_REPORT 0

empty_long : length empty ≡ LONGEST_REPORT
unfolding empty
empty_long = length-replicate {A = ℕ} LONGEST_REPORT 0

module _ (bytes : List ℕ) (old new : Option (List ℕ)) where
  -- what is printed of a file with this report
  pub report_printed : (report : List ℕ) → length report ≤ LONGEST_REPORT →
      ((out : List ℕ) (r : Result ℕ Fault) (out' : List ℕ) → Analysed bytes out r out' ↔ Put report out r out') → PrintsAnswer bytes old new ↔ Appends old new report
  report_printed report few is = (
    λ (out, r, out', long, x, appends).
        let put = granted (omega (arith, few, long)) ((is out r out').0 x) in
        let same : printed r out' ≡ report = (λ i. printed (put.0 i) (put.1 i)) ∙ take-append_seam report (drop (length report) out) in
        subst (Appends old new) same appends,
    λ appends.
        let long = empty_long in
        let out' = report ++ drop (length report) empty in (
          empty,
          Ok (length report),
          out',
          long,
          (is empty (Ok (length report)) out').1 (yes (omega (arith, few, long)) (refl, refl)),
          subst (Appends old new) (sym (take-append_seam report (drop (length report) empty))) appends,
        ),
  )

  -- what is printed of a file with this fault
  pub fault_printed : (why : Fault) → ((out : List ℕ) (r : Result ℕ Fault) (out' : List ℕ) → Analysed bytes out r out' ↔ Unreported out r out' why) → PrintsAnswer bytes old new ↔ Appends old new (fault_text why ++ 10 ∷ [])
  fault_printed why is = (
    λ (out, r, out', long, x, appends).
        let gone = (is out r out').0 x in
        subst (λ z. Appends old new (printed z out')) gone.answer appends,
    λ appends. (empty, Err why, empty, empty_long, (is empty (Err why) empty).1 (record { answer = refl; output = refl }), appends),
  )
