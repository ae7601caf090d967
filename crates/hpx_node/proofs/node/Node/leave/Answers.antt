use Rattle.std.specs.Option.{option_to_list}
use Rattle.hpx_node.proofs.Riding.{done_then, done_written, leaves_then}
use Rattle.hpx_node.proofs.node.Node.leave.Goals as goal

pub returns-clause-rest : goal.returns-clause-rest
returns-clause-rest g c = leaves_then c.args.j c.args.due.items (option_to_list c.args.rider) c.args.loose.items (option_to_list c.args.told) c.args.self.now.tables c.pay_all.new.self.tables
    c.merge_any.new.self.tables c.give_up_told.new.self.tables c.pay_all.ensures.rest c.merge_any.ensures.rest c.give_up_told.ensures.rest

pub returns-clause-goes : goal.returns-clause-goes
returns-clause-goes g c = λ x there.
    done_then c.args.j c.args.due.items (option_to_list c.args.rider) c.args.loose.items (option_to_list c.args.told) c.args.self.now.tables c.pay_all.new.self.tables
    c.merge_any.new.self.tables c.give_up_told.new.self.tables c.pay_all.ensures.rest c.merge_any.ensures.rest c.give_up_told.ensures.rest x there c.pay_all.ensures.goes c.merge_any.ensures.goes
    (rw c.from_vec.ensures.items at c.give_up_told.ensures.goes)

pub returns-clause-writes : goal.returns-clause-writes
returns-clause-writes g c = λ x there.
    done_written c.args.j c.args.due.items (option_to_list c.args.rider) c.args.loose.items (option_to_list c.args.told) c.args.self.now.tables c.pay_all.new.self.tables
    c.merge_any.new.self.tables c.give_up_told.new.self.tables c.pay_all.ensures.rest c.merge_any.ensures.rest c.give_up_told.ensures.rest x there c.args.book.now.entries
    c.pay_all.new.book.entries c.merge_any.new.book.entries c.give_up_told.new.book.entries c.pay_all.ensures.writes c.merge_any.ensures.writes
    (rw c.from_vec.ensures.items at c.give_up_told.ensures.writes)
