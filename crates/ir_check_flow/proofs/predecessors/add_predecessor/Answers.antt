use Rattle.ir_check_flow.proofs.PredecessorLists.{predecessor_added}
use Rattle.ir_check_flow.proofs.predecessors.add_predecessor.Goals as goal

pub returns : goal.returns
returns c = predecessor_added c.args.lists.now c.args.from c.args.to c.index-lists-to.result c.push.new.self c.requires c.in_ok-push.ensures.items
