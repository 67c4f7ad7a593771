use Rattle.std.proofs.Common.{take}
use Rattle.fare_lines.specs.Replies.{route_text, routes_text}
use Rattle.fare_lines.proofs.RowLines.{none_yet, one_row, all_rows, front_stays, front_behind}
use Rattle.fare_lines.proofs.print_rows.append_routes.Goals as goal

pub loop-share-init : goal.loop-share-init
loop-share-init c = none_yet route_text c.args.out.now.items c.args.shares.now

pub returns-in_err-put_route-clause-front : goal.returns-in_err-put_route-clause-front
returns-in_err-put_route-clause-front c =
    front_behind c.args.out.now.items (routes_text (take c.loop-share.share-index c.args.shares.now)) c.loop-share.out.items c.put_route.new.out.items c.loop-share.invariant c.put_route.ensures.front

pub returns-clause-appended : goal.returns-clause-appended
returns-clause-appended c = all_rows route_text c.args.out.now.items c.loop-share.out.items c.args.shares.now c.loop-share.share-index c.loop-share-test.false c.loop-share.invariant

pub returns-clause-front : goal.returns-clause-front
returns-clause-front c = front_stays c.args.out.now.items (routes_text (take c.loop-share.share-index c.args.shares.now)) c.loop-share.out.items c.loop-share.invariant
