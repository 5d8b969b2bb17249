use Rattle.std.proofs.Common.{◌≡◌, length, arith}
use Rattle.kinds.proofs.Lawful.{lawful_kind, lawful_weight}
use Rattle.diagram.proofs.Children.{is_bridge, children_in_store, bridges_all}
use Rattle.diagram.proofs.Joining.{bridged}
use Rattle.diagram.proofs.work.last_result.Goals as goal

pub bounds-arms-4 : goal.bounds-arms-4
bounds-arms-4 g c =
    let few = c.requires.sound.few in
    let bridge = is_bridge c.args.table.now c.args.k (omega arith) _ c.requires.joined c.in_default.not-Joined in
    let long : length c.children_of-arms.result.now ≡ 5 = bridges_all c.args.table.now c.args.k c.requires.sound c.requires.node _ c.children_of-arms.ensures bridge in
    omega (arith, long)

pub row_of-requires-5 : goal.row_of-requires-5
row_of-requires-5 g c =
    let few = c.requires.sound.few in
    let bridge = is_bridge c.args.table.now c.args.k (omega arith) _ c.requires.joined c.in_default.not-Joined in
    let long : length c.children_of-arms.result.now ≡ 5 = bridges_all c.args.table.now c.args.k c.requires.sound c.requires.node _ c.children_of-arms.ensures bridge in
    record { node = children_in_store c.args.table.now c.args.k c.requires.sound c.requires.node _ c.children_of-arms.ensures 4 0 (omega (arith, long)); rows = c.requires.rows }

pub returns : goal.returns
returns g c =
    let few = c.requires.sound.few in
    let bridge = is_bridge c.args.table.now c.args.k (omega arith) _ c.requires.joined c.in_default.not-Joined in
    let long = bridges_all c.args.table.now c.args.k c.requires.sound c.requires.node _ c.children_of-arms.ensures bridge in
    bridged (lawful_kind g.met.P.Performance) (lawful_weight g.met.W.Weight) c.args.table.now c.args.rows.now c.args.k c.requires.sound c.requires.node c.bridge.new.room (cc) _ c.children_of-arms.ensures bridge long _ _ _ _ _
    c.row_of.ensures c.row_of-2.ensures c.row_of-3.ensures c.row_of-4.ensures c.row_of-5.ensures _ c.bridge.ensures
