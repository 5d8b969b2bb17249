use Rattle.grades.proofs.Leaving.{second_refused, third_refused, parts_added, all_added}
use Rattle.grades.proofs.share.add_parts.Goals as goal

pub returns-clause-added : goal.returns-clause-added
returns-clause-added c =
    parts_added c.args.first.now c.args.second.now c.args.finishing.now c.requires.right c.args.plant.now c.args.store.now c.requires.new
    _ c.add.new.self c.add.new.store c.in_ok-add.ensures c.add.auto.store _ c.add-2.new.self c.add-2.new.store c.in_ok-add-2.ensures c.add-2.auto.store
    _ c.add-3.new.self c.add-3.new.store c.in_ok-add-3.ensures

pub returns-clause-left : goal.returns-clause-left
returns-clause-left c =
    all_added c.args.first.now c.args.second.now c.args.finishing.now c.requires.right c.args.plant.now c.args.store.now c.requires.new
    _ c.add.new.self c.add.new.store c.in_ok-add.ensures c.add.auto.store _ c.add-2.new.self c.add-2.new.store c.in_ok-add-2.ensures c.add-2.auto.store
    _ c.add-3.new.self c.add-3.new.store c.in_ok-add-3.ensures

pub returns-in_err-add-2-clause-left : goal.returns-in_err-add-2-clause-left
returns-in_err-add-2-clause-left c =
    second_refused c.args.first.now c.args.second.now c.args.finishing.now c.requires.right c.args.plant.now c.args.store.now c.requires.new
    _ c.add.new.self c.add.new.store c.in_ok-add.ensures c.add.auto.store c.add-2.new.self c.add-2.new.store _ c.in_err-add-2.ensures

pub returns-in_err-add-3-clause-left : goal.returns-in_err-add-3-clause-left
returns-in_err-add-3-clause-left c =
    third_refused c.args.first.now c.args.second.now c.args.finishing.now c.requires.right c.args.plant.now c.args.store.now c.requires.new
    _ c.add.new.self c.add.new.store c.in_ok-add.ensures c.add.auto.store _ c.add-2.new.self c.add-2.new.store c.in_ok-add-2.ensures c.add-2.auto.store
    c.add-3.new.self c.add-3.new.store _ c.in_err-add-3.ensures
