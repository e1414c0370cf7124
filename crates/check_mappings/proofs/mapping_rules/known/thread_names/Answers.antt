use Rattle.name_tables.specs.name_numbers.Names.{names_of}
use Rattle.check_mappings.proofs.mapping_rules.Tops.{threads_more}
use Rattle.check_mappings.proofs.mapping_rules.known.thread_names.Goals as goal

pub loop-item-preserved : goal.loop-item-preserved
loop-item-preserved c =
    threads_more c.args.items.now c.loop-item.item-index c.item-item.result (names_of c.loop-item.names.items) (names_of c.add_thread.new.names.items) c.loop-item-test.true c.item-item.is c.loop-item.invariant c.in_ok-add_thread.ensures
