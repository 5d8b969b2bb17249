use Rattle.std.proofs.Common.{◌≡◌, ◌↔◌, ℕ, ◌<◌, ◌≤◌, List, [], ◌∷◌, ◌++◌, length, Result, Err, codes, refl, ap, ◌∙◌, subst, inl, inr, arith}
use Rattle.std.specs.Fmt.{digits}
use Rattle.std.specs.Io.KnownBytes.{Appends}
use Rattle.files.specs.declared.limits.TheConstants.{LONGEST_REPORT}
use Rattle.files.specs.declared.fault.Fault.{Fault}
use Rattle.files.specs.declared.fault.Fault.TheVariants.{Model, Room}
use Rattle.files.specs.Faults.{fault_text, answer_for_c}
use Rattle.files.specs.ByModel.{Listed, Analysed}
use Rattle.files.specs.Printed.{PrintsAnswer}
use Rattle.files.specs.Reports.{Unreported, Put}
use Rattle.files.proofs.KnownContents.{report_printed, fault_printed}
use Rattle.worked.specs.Examples.{plant_file, plant_report, unlisted_file}
use Rattle.diagram.proofs.RunGoesOn.{yes, granted}
use Rattle.worked.proofs.PlantFile.{plant_reported}
use Rattle.worked.proofs.examples.file_examples_hold.Goals as goal

not_listed : ¬ Listed unlisted_file
not_listed (inl e) = omega (arith, e)
not_listed (inr (inl e)) = omega (arith, e)
not_listed (inr (inr (inl e))) = omega (arith, e)
not_listed (inr (inr (inr (inl e)))) = omega (arith, e)
not_listed (inr (inr (inr (inr (inl e))))) = omega (arith, e)
not_listed (inr (inr (inr (inr (inr (inl e)))))) = omega (arith, e)
not_listed (inr (inr (inr (inr (inr (inr e)))))) = omega (arith, e)

unlisted : (out : List ℕ) (r : Result ℕ Fault) (out' : List ℕ) → Analysed unlisted_file out r out' ↔ Unreported out r out' Model
unlisted out r out' = (gone, λ u. inr (not_listed, u))
  where
    gone : Analysed unlisted_file out r out' → Unreported out r out' Model
    gone (inl x) = absurd (not_listed x.0)
    gone (inr x) = x.1

unlisted_text : fault_text Model ≡ codes "fault 1 255 21"
unfolding digits
unlisted_text = refl

-- where there is no room, nothing is put
no_room : (report out : List ℕ) (r : Result ℕ Fault) (out' : List ℕ) → length out < length report → Put report out r out' → Unreported out r out' Room
no_room report out r out' short (inl x) = absurd (omega (arith, short, x.0))
no_room report out r out' short (inr x) = x.1

pub returns : goal.returns
returns c = record {
  file_length = refl;
  report_length = refl;
  plant_analysed = plant_reported;
  plant_in_a_long_output = λ out r out' long. (
    λ x. granted long ((plant_reported out r out').0 x),
    λ x. (plant_reported out r out').1 (yes long x),
  );
  plant_in_a_short_output = λ out r out' short. (
    λ x. let gone = no_room plant_report out r out' short ((plant_reported out r out').0 x) in (gone.answer, gone.output),
    λ x. (plant_reported out r out').1 (inr (λ long. omega (arith, long, short), record { answer = x.0; output = x.1 })),
  );
  plant_printed = λ old new. let few : 99 ≤ LONGEST_REPORT = omega arith in report_printed plant_file old new plant_report few plant_reported;
  unlisted = unlisted;
  unlisted_text = unlisted_text;
  unlisted_printed = λ old new. subst (λ text. PrintsAnswer unlisted_file old new ↔ Appends old new (text ++ 10 ∷ [])) unlisted_text (fault_printed unlisted_file old new Model unlisted);
  unlisted_for_c = λ out answer out'. (
    λ x. let gone = (unlisted out x.0 out').0 x.1 in (x.2 ∙ ap answer_for_c gone.answer, gone.output),
    λ x. (Err Model, (unlisted out (Err Model) out').1 (record { answer = refl; output = x.1 }), x.0),
  );
}
