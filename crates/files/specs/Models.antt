-- Which models there are: what each is made of, and the number that a file names it by.
use Rattle.std.specs.Prelude.{ℕ, ◌⊎◌}
use Rattle.kinds.specs.Capped.{top32}
use Rattle.kinds.specs.Counting.{CountsTo}
use Rattle.kinds.specs.contracts.flow.FlowPerformance.TheImpl.{ghosts as flow}
use Rattle.kinds.specs.contracts.delay.DelayPerformance.TheImpl.{ghosts as delay}
use Rattle.kinds.specs.contracts.fault_set.FaultSetPerformance.TheImpl.{ghosts as fault_set}
use Rattle.kinds.specs.contracts.first_fault.FirstFaultPerformance.TheImpl.{ghosts as first_fault}
use Rattle.kinds.specs.contracts.parts.PartsWeight.TheImpl.{ghosts as parts}
use Rattle.kinds.specs.contracts.scenarios.ScenariosWeight.TheImpl.{ghosts as scenarios}
use Rattle.kinds.specs.contracts.effort.EffortWeight.TheImpl.{ghosts as effort}
use Rattle.kinds.specs.contracts.values.Rate.{the_row as rate}
use Rattle.kinds.specs.contracts.values.Time.{the_row as time}
use Rattle.kinds.specs.contracts.values.Classes.{the_row as classes}
use Rattle.kinds.specs.contracts.values.FaultNumber.{the_row as fault}
use Rattle.kinds.specs.contracts.values.Count.{the_row as count}
use Rattle.kinds.specs.contracts.values.Members.{the_row as members}
use Rattle.kinds.specs.contracts.values.Cost.{the_row as cost}
use Rattle.files.specs.contracts.named_words.WordFilePerformance.TheImpl.{ghosts as one_word}
use Rattle.files.specs.contracts.named_words.PairWordWordFilePerformance.TheImpl.{ghosts as two_words}
use Rattle.files.specs.contracts.named_words.OrOutWordFilePerformance.TheImpl.{ghosts as word_or_out}
use Rattle.files.specs.contracts.named_words.WordFileWeight.TheImpl.{ghosts as weight_word}
use Rattle.kinds.specs.declared.performance.Performance
use Rattle.kinds.specs.declared.weight.Weight
use Rattle.files.specs.declared.words.FilePerformance
use Rattle.files.specs.declared.words.FileWeight
use Rattle.files.specs.Composed.{pair, or_out}

-- what may be said of a model: of its number, its kind, its weight, and the words of both
abbrev pub OfModel : Type 1
OfModel = (number : ℕ) (P W : Type 0) → Performance.Ghosts P → Weight.Ghosts W → FilePerformance.Ghosts P → FileWeight.Ghosts W → Type 0

-- the same is said of each model, and a connective puts it together
abbrev pub models : (Type 0 → Type 0 → Type 0) → OfModel → Type 0
models with Says =
    with (Says 1 _ _ flow parts (one_word rate) (weight_word count))
    (with (Says 2 _ _ delay parts (one_word time) (weight_word count))
    (with (Says 3 _ _ fault_set scenarios (one_word classes) (weight_word members))
    (with (Says 4 _ _ first_fault parts (one_word fault) (weight_word count))
    (with (Says 5 _ _ (pair delay flow) effort (two_words time rate) (weight_word cost))
    (with (Says 6 _ _ (or_out flow) parts (word_or_out rate) (weight_word count))
    (Says 7 _ _ (or_out delay) parts (word_or_out time) (weight_word count)))))))

abbrev pub some_model : OfModel → Type 0
some_model = models (λ A B. A ⊎ B)

abbrev pub each_model : OfModel → Type 0
each_model = models (λ A B. A × B)

-- parts, as a report writes them, count up to the top
abbrev pub PartsCount : Type 0
PartsCount = CountsTo top32 parts (weight_word count).word
