use Rattle.std.proofs.Common.{refl}
use Rattle.kinds.proofs.Lawful.{lawful_kind, lawful_weight}
use Rattle.diagram.proofs.Asking.{err_is}
use Rattle.worked.proofs.Joining.{stops_at_one, stops_at_two, stops_at_joining, stops_at_collecting, told_at_last}
use Rattle.worked.proofs.two.ask_two.Goals as goal

pub returns-in_err-a : goal.returns-in_err-a
returns-in_err-a g c =
    let x =
    stops_at_one g.P.Performance g.W.Weight (lawful_kind g.met.P.Performance) (lawful_weight g.met.W.Weight) c.requires.right c.args.way c.args.first.now c.args.second.now c.args.demand c.args.plant.now c.args.store.now c.requires.new
    c.add.new.self c.add.new.store _ c.in_err-a.ensures _ (err_is c.from_residual.ensures.1 refl) in
    record { answer = x.0; left = x.1 }

pub returns-in_err-b : goal.returns-in_err-b
returns-in_err-b g c =
    let x =
    stops_at_two g.P.Performance g.W.Weight (lawful_kind g.met.P.Performance) (lawful_weight g.met.W.Weight) c.requires.right c.args.way c.args.first.now c.args.second.now c.args.demand c.args.plant.now c.args.store.now c.requires.new
    c.in_ok-a.a c.add.new.self c.add.new.store c.in_ok-a.ensures
    c.add-2.new.self c.add-2.new.store _ c.in_err-b.ensures _ (err_is c.from_residual-in_err-b.ensures.1 refl) in
    record { answer = x.0; left = x.1 }

pub returns-in_err-both : goal.returns-in_err-both
returns-in_err-both g c =
    let x =
    stops_at_joining g.P.Performance g.W.Weight (lawful_kind g.met.P.Performance) (lawful_weight g.met.W.Weight) c.requires.right c.args.way c.args.first.now c.args.second.now c.args.demand c.args.plant.now c.args.store.now c.requires.new
    c.in_ok-a.a c.add.new.self c.add.new.store c.in_ok-a.ensures
    c.in_ok-b.b c.add-2.new.self c.add-2.new.store c.in_ok-b.ensures
    c.join.new.self _ c.in_err-both.ensures _ in
    record { answer = x.0; left = x.1 }

pub returns-in_err-collect : goal.returns-in_err-collect
returns-in_err-collect g c =
    let x =
    stops_at_collecting g.P.Performance g.W.Weight (lawful_kind g.met.P.Performance) (lawful_weight g.met.W.Weight) c.requires.right c.args.way c.args.first.now c.args.second.now c.args.demand c.args.plant.now c.args.store.now c.requires.new
    c.in_ok-a.a c.add.new.self c.add.new.store c.in_ok-a.ensures
    c.in_ok-b.b c.add-2.new.self c.add-2.new.store c.in_ok-b.ensures
    c.in_ok-both.both c.join.new.self c.in_ok-both.ensures
    c.collect.new.self c.collect.new.store _ c.in_err-collect.ensures _ (err_is c.from_residual-in_err-collect.ensures.1 refl) in
    record { answer = x.0; left = x.1 }

pub returns : goal.returns
returns g c =
    let x =
    told_at_last g.P.Performance g.W.Weight (lawful_kind g.met.P.Performance) (lawful_weight g.met.W.Weight) c.requires.right c.args.way c.args.first.now c.args.second.now c.args.demand c.args.plant.now c.args.store.now c.requires.new
    c.in_ok-a.a c.add.new.self c.add.new.store c.in_ok-a.ensures
    c.in_ok-b.b c.add-2.new.self c.add-2.new.store c.in_ok-b.ensures
    c.in_ok-both.both c.join.new.self c.in_ok-both.ensures
    c.in_ok-collect.field-0 c.collect.new.self c.collect.new.store c.in_ok-collect.ensures
    c.availability.result c.availability.ensures in
    record { answer = x.0; left = x.1 }
