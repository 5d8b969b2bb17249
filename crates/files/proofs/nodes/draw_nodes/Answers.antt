-- What one record more keeps, and what stops the loop.
use Rattle.std.proofs.Common.{rules, ◌≡◌, Err, ◌∙◌, ap, refl, subst, arith}
use Rattle.kinds.proofs.Lawful.{lawful_kind, lawful_weight}
use Rattle.diagram.specs.Histories.{number}
use Rattle.diagram.specs.Makings.{MadeAs}
use Rattle.diagram.proofs.PassedOn.{passed, turned, passed_on}
use Rattle.files.proofs.ManyNodes.{SoFar, roomy_of, none_yet, one_drawn, none_read, one_refused, all_drawn}
use Rattle.files.proofs.nodes.draw_nodes.Goals as goal

pub loop-k-init : goal.loop-k-init
loop-k-init g c = none_yet g.P.Performance g.W.Weight g.P.FilePerformance g.W.FileWeight c.args.store.now c.args.n c.args.bytes.now c.requires.made

pub returns-in_err-making : goal.returns-in_err-making
returns-in_err-making g c = record {
  drawn =
      none_read g.P.Performance g.W.Weight g.P.FilePerformance g.W.FileWeight (λ x. x.now) (lawful_kind g.met.P.Performance) (lawful_weight g.met.W.Weight) c.args.store.now c.args.n c.args.bytes.now
      c.requires.right (roomy_of g.P.Performance g.W.Weight c.args.diagram.now c.args.store.now c.requires.made) c.loop-k.k-counter c.loop-k-test.true c.loop-k.rest.now
      c.loop-k.diagram c.loop-k.diagram c.loop-k.store c.loop-k.store c.loop-k.invariant _ c.in_err-making.field-0.0 (passed_on c.from_residual.ensures.1) c.in_err-making.ensures refl;
}

pub returns-in_err-map_err : goal.returns-in_err-map_err
returns-in_err-map_err g c =
    let (refusal, is, as_fault) = turned _ c.map_err.ensures.cases c.in_err-map_err.was in
    let taken = subst (λ z. MadeAs g.P.Performance g.W.Weight c.in_ok-making.making c.loop-k.diagram c.loop-k.store z c.make.new.self c.make.new.store) is c.make.ensures in
    record {
      drawn =
          one_refused g.P.Performance g.W.Weight g.P.FilePerformance g.W.FileWeight (λ x. x.now) (lawful_kind g.met.P.Performance) (lawful_weight g.met.W.Weight) c.args.store.now c.args.n c.args.bytes.now
          c.requires.right (roomy_of g.P.Performance g.W.Weight c.args.diagram.now c.args.store.now c.requires.made) c.loop-k.k-counter c.loop-k-test.true c.loop-k.rest.now
          c.loop-k.diagram c.make.new.self c.loop-k.store c.make.new.store c.loop-k.invariant _ refusal c.in_ok-making.making c.in_ok-making.after
          (passed_on c.from_residual-in_err-map_err.ensures.1 ∙ ap Err (search rules)) c.in_ok-making.ensures taken;
    }

pub loop-k-preserved : goal.loop-k-preserved
loop-k-preserved g c =
    let taken = subst (λ z. MadeAs g.P.Performance g.W.Weight c.in_ok-making.making c.loop-k.diagram c.loop-k.store z c.make.new.self c.make.new.store) (passed _ c.map_err.ensures.cases c.in_ok-map_err.was) c.make.ensures in
    one_drawn g.P.Performance g.W.Weight g.P.FilePerformance g.W.FileWeight (λ x. x.now) (lawful_kind g.met.P.Performance) (lawful_weight g.met.W.Weight) c.args.store.now c.args.n c.args.bytes.now
    c.requires.right (roomy_of g.P.Performance g.W.Weight c.args.diagram.now c.args.store.now c.requires.made) c.loop-k.k-counter c.loop-k-test.true c.loop-k.rest.now
    c.loop-k.diagram c.make.new.self c.loop-k.store c.make.new.store c.loop-k.invariant c.in_ok-making.after c.in_ok-making.making c.in_ok-making.after refl c.in_ok-making.ensures
    (number c.in_ok-map_err.field-0) taken

pub returns : goal.returns
returns g c =
    let all : c.loop-k.k-counter ≡ c.args.n = omega (arith, c.loop-k-test.false, c.loop-k.auto.k-counter-end) in
    let far = subst (λ j. SoFar g.P.Performance g.W.Weight g.P.FilePerformance g.W.FileWeight c.args.store.now c.args.n c.args.bytes.now j c.loop-k.rest.now c.loop-k.diagram c.loop-k.store) all c.loop-k.invariant in
    record {
      drawn = all_drawn g.P.Performance g.W.Weight g.P.FilePerformance g.W.FileWeight (λ x. x.now) (lawful_kind g.met.P.Performance) (lawful_weight g.met.W.Weight) c.args.store.now c.args.n c.args.bytes.now
          c.loop-k.rest c.loop-k.diagram c.loop-k.store far;
    }
