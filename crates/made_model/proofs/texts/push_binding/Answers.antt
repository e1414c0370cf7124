use Rattle.made_model.proofs.Rows.{binding_parts}
use Rattle.made_model.proofs.texts.push_binding.Goals as goal

pub returns : goal.returns
returns c = binding_parts c.args.text.now.items c.push_numbered.new.text.items c.push_numbered-2.new.text.items c.extend_from_slice.new.self.items c.args.count c.args.actor c.next_of.result c.extend_from_slice.result c.next_of.ensures c.in_ok-push_numbered.ensures c.in_ok-push_numbered-2.ensures c.extend_from_slice.ensures.items
