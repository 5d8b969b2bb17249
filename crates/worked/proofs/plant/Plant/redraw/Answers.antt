use Rattle.std.proofs.Common.{[], ◌∷◌, sym, refl, arith, rules}
use Rattle.kinds.proofs.Lawful.{lawful_kind}
use Rattle.diagram.proofs.RunGoesOn.{ok_not_err}
use Rattle.worked.proofs.Drawing.{TwoEach, Names, pipe_added, pumps_joined, plant_joined, pumps_collected, plant_collected, worked_out, few, short, below_five}
use Rattle.worked.specs.Plants.{pumps_redrawn, plant_redrawn, each_redrawn}
use Rattle.worked.proofs.plant.Plant.redraw.Goals as goal

names : Names 1 0 2 3
names = record {
  first = omega arith;
  second = omega arith;
  pumps = λ e. omega (arith, e);
  past_third = omega arith;
  third = omega arith;
  past_fourth = omega arith;
  fourth = omega arith;
  plant = λ e. omega (arith, e);
}

-- none of the calls is refused

pub returns-in_err-pipe-clause-left : goal.returns-in_err-pipe-clause-left
returns-in_err-pipe-clause-left g c =
    let two : TwoEach c.args.self.now = record { pump_a = search rules; pump_b = search rules; pipe = search rules } in
    absurd (ok_not_err (sym (pipe_added g.P.Performance (lawful_kind g.met.P.Performance) c.in_ok-diagram.ensures.answers_right c.args.self.now two c.in_ok-diagram.diagram c.args.store.now c.in_ok-diagram.ensures.made
    _ _ c.add.new.self c.add-2.new.self c.add.new.store c.add-2.new.store c.in_ok-pump_a.ensures c.in_ok-pump_b.ensures
    c.add-3.new.self c.add-3.new.store _ c.in_err-pipe.ensures).0))

pub returns-in_err-pumps-clause-left : goal.returns-in_err-pumps-clause-left
returns-in_err-pumps-clause-left g c =
    let two : TwoEach c.args.self.now = record { pump_a = search rules; pump_b = search rules; pipe = search rules } in
    absurd (ok_not_err (sym (pumps_joined g.P.Performance (lawful_kind g.met.P.Performance) c.in_ok-diagram.ensures.answers_right c.args.self.now two c.in_ok-diagram.diagram c.args.store.now c.in_ok-diagram.ensures.made
    _ _ c.add.new.self c.add-2.new.self c.add.new.store c.add-2.new.store c.in_ok-pump_a.ensures c.in_ok-pump_b.ensures
    _ c.add-3.new.self c.add-3.new.store c.in_ok-pipe.ensures 1 0 2 3 names _ (λ e f i. f i ∷ e i ∷ [])
    c.join.new.self _ c.in_err-pumps.ensures).0))

pub returns-in_err-plant-clause-left : goal.returns-in_err-plant-clause-left
returns-in_err-plant-clause-left g c =
    let two : TwoEach c.args.self.now = record { pump_a = search rules; pump_b = search rules; pipe = search rules } in
    absurd (ok_not_err (sym (plant_joined g.P.Performance (lawful_kind g.met.P.Performance) c.in_ok-diagram.ensures.answers_right c.args.self.now two c.in_ok-diagram.diagram c.args.store.now c.in_ok-diagram.ensures.made
    _ _ c.add.new.self c.add-2.new.self c.add.new.store c.add-2.new.store c.in_ok-pump_a.ensures c.in_ok-pump_b.ensures
    _ c.add-3.new.self c.add-3.new.store c.in_ok-pipe.ensures 1 0 2 3 names _ (λ e f i. f i ∷ e i ∷ [])
    _ c.join.new.self c.in_ok-pumps.ensures _ (λ e f i. f i ∷ e i ∷ [])
    c.join-2.new.self _ c.in_err-plant.ensures).0))

pub returns-in_err-collect-clause-left : goal.returns-in_err-collect-clause-left
returns-in_err-collect-clause-left g c =
    let two : TwoEach c.args.self.now = record { pump_a = search rules; pump_b = search rules; pipe = search rules } in
    absurd (ok_not_err (sym (pumps_collected g.P.Performance (lawful_kind g.met.P.Performance) c.in_ok-diagram.ensures.answers_right c.args.self.now two c.in_ok-diagram.diagram c.args.store.now c.in_ok-diagram.ensures.made
    _ _ c.add.new.self c.add-2.new.self c.add.new.store c.add-2.new.store c.in_ok-pump_a.ensures c.in_ok-pump_b.ensures
    _ c.add-3.new.self c.add-3.new.store c.in_ok-pipe.ensures 1 0 2 3 names _ (λ e f i. f i ∷ e i ∷ [])
    _ c.join.new.self c.in_ok-pumps.ensures _ (λ e f i. f i ∷ e i ∷ [])
    _ c.join-2.new.self c.in_ok-plant.ensures (short g.P.Performance (lawful_kind g.met.P.Performance) pumps_redrawn _ refl (few g.P.Performance (lawful_kind g.met.P.Performance) pumps_redrawn (λ x x' y y' z z'. omega arith) c.args.self.now two))
    c.collect.new.self c.collect.new.store _ c.in_err-collect.ensures).1))

pub returns-in_err-collect-2-clause-left : goal.returns-in_err-collect-2-clause-left
returns-in_err-collect-2-clause-left g c =
    let two : TwoEach c.args.self.now = record { pump_a = search rules; pump_b = search rules; pipe = search rules } in
    absurd (ok_not_err (sym (plant_collected g.P.Performance (lawful_kind g.met.P.Performance) c.in_ok-diagram.ensures.answers_right c.args.self.now two c.in_ok-diagram.diagram c.args.store.now c.in_ok-diagram.ensures.made
    _ _ c.add.new.self c.add-2.new.self c.add.new.store c.add-2.new.store c.in_ok-pump_a.ensures c.in_ok-pump_b.ensures
    _ c.add-3.new.self c.add-3.new.store c.in_ok-pipe.ensures 1 0 2 3 names _ (λ e f i. f i ∷ e i ∷ [])
    _ c.join.new.self c.in_ok-pumps.ensures _ (λ e f i. f i ∷ e i ∷ [])
    _ c.join-2.new.self c.in_ok-plant.ensures (short g.P.Performance (lawful_kind g.met.P.Performance) pumps_redrawn _ refl (few g.P.Performance (lawful_kind g.met.P.Performance) pumps_redrawn (λ x x' y y' z z'. omega arith) c.args.self.now two))
    _ c.collect.new.self c.collect.new.store c.in_ok-collect.ensures (short g.P.Performance (lawful_kind g.met.P.Performance) plant_redrawn _ refl (few g.P.Performance (lawful_kind g.met.P.Performance) plant_redrawn (λ x x' y y' z z'. omega arith) c.args.self.now two))
    c.collect-2.new.self c.collect-2.new.store _ c.in_err-collect-2.ensures).1))

pub returns : goal.returns
returns g c =
    let two : TwoEach c.args.self.now = record { pump_a = search rules; pump_b = search rules; pipe = search rules } in
    let w = worked_out g.P.Performance (lawful_kind g.met.P.Performance) c.in_ok-diagram.ensures.answers_right c.args.self.now two c.in_ok-diagram.diagram c.args.store.now c.in_ok-diagram.ensures.made
    _ _ c.add.new.self c.add-2.new.self c.add.new.store c.add-2.new.store c.in_ok-pump_a.ensures c.in_ok-pump_b.ensures
    _ c.add-3.new.self c.add-3.new.store c.in_ok-pipe.ensures 1 0 2 3 names _ (λ e f i. f i ∷ e i ∷ [])
    _ c.join.new.self c.in_ok-pumps.ensures _ (λ e f i. f i ∷ e i ∷ [])
    _ c.join-2.new.self c.in_ok-plant.ensures (short g.P.Performance (lawful_kind g.met.P.Performance) pumps_redrawn _ refl (few g.P.Performance (lawful_kind g.met.P.Performance) pumps_redrawn (λ x x' y y' z z'. omega arith) c.args.self.now two))
    _ c.collect.new.self c.collect.new.store c.in_ok-collect.ensures (short g.P.Performance (lawful_kind g.met.P.Performance) plant_redrawn _ refl (few g.P.Performance (lawful_kind g.met.P.Performance) plant_redrawn (λ x x' y y' z z'. omega arith) c.args.self.now two))
    _ c.collect-2.new.self c.collect-2.new.store c.in_ok-collect-2.ensures in
    record {
      calls = record {
        nodes = λ i. record { pump_a = w.is_a i; pump_b = w.is_b i; pipe = w.is_pipe i; pumps = w.are_pumps i; plant = w.is_plant i };
        calls = _;
        run = w.run;
        five = refl;
        answers = w.answers;
        drawing = refl;
        pump_a = refl;
        pump_b = refl;
        pipe = refl;
      };
      nodes = λ i. record { pump_a = w.is_a i; pump_b = w.is_b i; pipe = w.is_pipe i; pumps = w.are_pumps i; plant = w.is_plant i };
      row = w.row;
      left = w.left each_redrawn (below_five _ refl refl refl refl refl);
    }
