use Rattle.files.proofs.Counted.{listed_counts}
use Rattle.files.proofs.theorems.reports_count_truly.Goals as goal

pub returns : goal.returns
returns c = listed_counts (
  c.reports_of_kind_count_truly.ensures,
  (
    c.reports_of_kind_count_truly-2.ensures,
    (
      c.reports_of_kind_count_truly-3.ensures,
      (
        c.reports_of_kind_count_truly-4.ensures,
        (c.reports_of_kind_count_truly-5.ensures, (c.reports_of_kind_count_truly-6.ensures, c.reports_of_kind_count_truly-7.ensures)),
      ),
    ),
  ),
)
