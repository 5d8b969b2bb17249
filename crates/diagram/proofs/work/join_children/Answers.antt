use Rattle.std.proofs.Common.{◌∙◌, ◌<◌, ◌≤◌, ◌-◌, suc, arith, sym, ap, length, drop}
use Rattle.std.proofs.lemmas.List.{length-append, length-drop, length-take, take_at}
use Rattle.std.proofs.lemmas.Slice.{first_rest}
use Rattle.kinds.proofs.Lawful.{lawful_kind, lawful_weight}
use Rattle.diagram.proofs.Children.{children_in_store, first_and_rest, joins_some}
use Rattle.diagram.proofs.Joining.{row_short, take_copied, reach_first, reach_more, reach_last, over}
use Rattle.diagram.proofs.work.join_children.Goals as goal

pub row_of-requires-clause-node : goal.row_of-requires-clause-node
row_of-requires-clause-node g c =
    let xs = c.children_of-children.result.now in
    let some : 2 ≤ length xs = joins_some c.args.table.now c.args.k c.requires.sound c.requires.node xs c.children_of-children.ensures c.args.way c.requires.joined in
    first_and_rest c.args.table.now c.args.k c.requires.sound c.requires.node xs c.children_of-children.ensures (omega (arith, some)) (suc c.loop-child.child-index) 0 (omega (arith, c.loop-child-test.true))

pub returns-in_err-len : goal.returns-in_err-len
returns-in_err-len g c =
    let none = rw c.in_err-len.was at c.combine.ensures in
    rw c.from_residual.ensures (over (lawful_kind g.met.P.Performance) (lawful_weight g.met.W.Weight) c.args.table.now c.args.rows.now c.args.k c.requires.sound c.requires.node c.combine.new.room (cc) c.args.way _ c.loop-child.child-index (omega arith) _ _ c.row_of.ensures c.loop-child.invariant.3 none)

pub loop-child-preserved : goal.loop-child-preserved
loop-child-preserved g c =
    let m = rw c.in_ok-len.was at c.combine.ensures in
    let copied = take_copied c.copy_from_slice-in-loop-child.new.self (drop c.in_ok-len.len c.loop-child.room) c.combine.new.room c.in_ok-len.len m.0 c.copy_from_slice-in-loop-child.ensures.after in
    let reached = reach_more (lawful_kind g.met.P.Performance) (lawful_weight g.met.W.Weight) c.args.table.now c.args.rows.now c.args.k c.requires.sound c.requires.node c.combine.new.room (cc) c.args.way _ c.loop-child.child-index (omega arith) _ _ c.row_of.ensures c.loop-child.invariant.3 c.in_ok-len.len m in
    (omega (arith, m.0), omega arith, omega arith, rw copied reached)

pub returns : goal.returns
returns g c =
    let xs = c.children_of-children.result.now in
    let some : 2 ≤ length xs = joins_some c.args.table.now c.args.k c.requires.sound c.requires.node xs c.children_of-children.ensures c.args.way c.requires.joined in
    let any : 0 < c.loop-child.child-index = omega (arith, length-take (length xs - 1) (drop 1 xs), length-drop 1 xs, some, c.loop-child-test.false) in
    reach_last (lawful_kind g.met.P.Performance) (lawful_weight g.met.W.Weight) c.args.table.now c.args.rows.now c.args.k c.requires.sound c.requires.node c.loop-child.room (omega arith) c.args.way _ c.loop-child.child-index c.loop-child.len (omega arith) any (omega arith) c.loop-child.invariant.3

pub loop-child-init : goal.loop-child-init
loop-child-init g c =
    let xs = c.children_of-children.result.now in
    let some : 2 ≤ length xs = joins_some c.args.table.now c.args.k c.requires.sound c.requires.node xs c.children_of-children.ensures c.args.way c.requires.joined in
    let row = c.row_of-row.result.now in
    let after = drop (length row) c.args.room.now in
    let fits = row_short c.args.table.now c.args.rows.now _ row c.row_of-row.ensures (children_in_store c.args.table.now c.args.k c.requires.sound c.requires.node xs c.children_of-children.ensures 0 0 (omega (arith, some))).1 in
    let copied = take_at c.copy_from_slice.new.self after (length row) (ap length c.copy_from_slice.ensures.after) ∙ c.copy_from_slice.ensures.after in
    let children = sym c.children_of-children.ensures ∙ first_rest xs 0 (omega (arith, some)) in
    (fits, omega (arith, length-append c.copy_from_slice.new.self after, length-drop (length row) c.args.room.now, ap length c.copy_from_slice.ensures.after, c.requires.room, fits), c.requires.next, reach_first (lawful_kind g.met.P.Performance) (lawful_weight g.met.W.Weight) c.args.table.now c.args.rows.now c.args.k c.requires.sound c.requires.node c.args.way c.requires.joined _ _ children _ (copied ∙ c.row_of-row.ensures))
